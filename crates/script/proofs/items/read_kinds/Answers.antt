use Rattle.std.proofs.Common.{vec_items, sym, ap, ◌∙◌, inr}
use Rattle.std.proofs.lemmas.Result.{err_from_is_err_and}
use Rattle.script.specs.Cutting.{left}
use Rattle.script.specs.Nouns.{kind_named, kind_of, kinds_of}
use Rattle.script.specs.Shapes.{behind}
use Rattle.spelling.specs.declared.bad.Bad.TheVariants.{NotAKind}
use Rattle.script.proofs.Listing.{behind_more, behind_err, behind_every, step_no_pair, step_pair, step_bad_pair, step_falls, step_word, step_bad_word, step_close, step_end}
use Rattle.script.proofs.items.read_kinds.Goals as goal

pub returns : goal.returns
returns c = record { as_spelled = behind_every _ _ _ c.loop-token.invariant (step_end NotAKind kind_named kind_of _ c.in_default.ensures.steps.0) }

pub returns-in_err-pair-in-Open : goal.returns-in_err-pair-in-Open
returns-in_err-pair-in-Open c = record {
  as_spelled =
      let p = err_from_is_err_and c.from_residual.result c.from_residual.ensures.1 in
      rw (p.1, p.2) (inr (behind_err _ _ _ _ c.loop-token.invariant (step_no_pair NotAKind kind_named kind_of _ _ (rw c.in-Open.is at c.in-Some.ensures.steps) _ c.in_err-pair-in-Open.ensures.the_pair)));
}

pub returns-in_err-sized_kind-in-Open : goal.returns-in_err-sized_kind-in-Open
returns-in_err-sized_kind-in-Open c = record {
  as_spelled =
      let p = err_from_is_err_and c.from_residual-in_err-sized_kind-in-Open.result c.from_residual-in_err-sized_kind-in-Open.ensures.1 in
      rw (p.1, p.2) (inr (behind_err _ _ _ _ c.loop-token.invariant (step_bad_pair NotAKind kind_named kind_of _ _ (rw c.in-Open.is at c.in-Some.ensures.steps) _ _ c.in_ok-pair-in-Open.ensures.the_pair _ (sym c.in_err-sized_kind-in-Open.ensures.the_kind))));
}

pub loop-token-smaller-in_ok-push-in-Open : goal.loop-token-smaller-in_ok-push-in-Open
loop-token-smaller-in_ok-push-in-Open c = step_falls NotAKind kind_named kind_of _ _ (rw c.in-Open.is at c.in-Some.ensures.steps) _ _ c.in_ok-pair-in-Open.ensures.the_pair

pub loop-token-preserved-in_ok-push-in-Open : goal.loop-token-preserved-in_ok-push-in-Open
loop-token-preserved-in_ok-push-in-Open c =
    ap (λ l. behind l (kinds_of (left c.pair.new.self))) c.in_ok-push-in-Open.ensures.items
    ∙ behind_more (vec_items c.loop-token.all) c.in_ok-sized_kind-in-Open.field-0 _ _ (kinds_of (left c.pair.new.self)) c.loop-token.invariant
    (step_pair NotAKind kind_named kind_of _ _ (rw c.in-Open.is at c.in-Some.ensures.steps) _ _ c.in_ok-pair-in-Open.ensures.the_pair _ (sym c.in_ok-sized_kind-in-Open.ensures.the_kind))

pub returns-in-Close : goal.returns-in-Close
returns-in-Close c = record { as_spelled = inr (behind_err _ _ _ _ c.loop-token.invariant (step_close NotAKind kind_named kind_of _ _ (rw c.in-Close.is at c.in-Some.ensures.steps))) }

pub returns-in_err-plain_kind-in-Word : goal.returns-in_err-plain_kind-in-Word
returns-in_err-plain_kind-in-Word c = record {
  as_spelled =
      let p = err_from_is_err_and c.from_residual-in_err-plain_kind-in-Word.result c.from_residual-in_err-plain_kind-in-Word.ensures.1 in
      rw (p.1, p.2) (inr (behind_err _ _ _ _ c.loop-token.invariant (step_bad_word NotAKind kind_named kind_of _ _ _ _ (rw c.in-Word.is at c.in-Some.ensures.steps) (sym c.in_err-plain_kind-in-Word.ensures.the_kind))));
}

pub loop-token-preserved : goal.loop-token-preserved
loop-token-preserved c =
    ap (λ l. behind l (kinds_of (left c.next.new.self))) c.in_ok-push-in-Word.ensures.items
    ∙ behind_more (vec_items c.loop-token.all) c.in_ok-plain_kind-in-Word.field-0 _ _ (kinds_of (left c.next.new.self)) c.loop-token.invariant
    (step_word NotAKind kind_named kind_of _ _ _ _ (rw c.in-Word.is at c.in-Some.ensures.steps) (sym c.in_ok-plain_kind-in-Word.ensures.the_kind))
