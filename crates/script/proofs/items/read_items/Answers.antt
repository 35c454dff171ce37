use Rattle.std.proofs.Common.{map, length, Err, vec_items, sym, refl, ap, ◌∙◌, subst, inl, inr}
use Rattle.std.specs.List.{AllByRecursion}
use Rattle.std.proofs.lemmas.Result.{err_from_is_err_and}
use Rattle.transfer.specs.Cells.{read, Below}
use Rattle.script.specs.Cutting.{left}
use Rattle.script.specs.Nouns.{item_of, items_of}
use Rattle.script.specs.Shapes.{behind}
use Rattle.spelling.specs.declared.bad.Bad.TheVariants.{NotAnItem}
use Rattle.script.proofs.Laid.{reads_more, below_push}
use Rattle.script.proofs.Listing.{behind_more, behind_err, behind_every, step_no_pair, step_pair, step_bad_pair, step_falls, step_bad_word, step_close, step_end}
use Rattle.script.proofs.items.read_items.Goals as goal

pub returns : goal.returns
returns c = record { as_spelled = (behind_every _ _ _ c.loop-token.invariant.1 (step_end NotAnItem (λ _. Err NotAnItem) item_of _ c.in_default.ensures.steps.0), c.loop-token.invariant.0) }

pub returns-in_err-pair-in-Open : goal.returns-in_err-pair-in-Open
returns-in_err-pair-in-Open c = record {
  as_spelled =
      let p = err_from_is_err_and c.from_residual.result c.from_residual.ensures.1 in
      rw (p.1, p.2) (inr (behind_err _ _ _ _ c.loop-token.invariant.1 (step_no_pair NotAnItem (λ _. Err NotAnItem) item_of _ _ (rw c.in-Open.is at c.in-Some.ensures.steps) _ c.in_err-pair-in-Open.ensures.the_pair)));
}

pub returns-in_err-laid-in-Open : goal.returns-in_err-laid-in-Open
returns-in_err-laid-in-Open c = record {
  as_spelled =
      let p = err_from_is_err_and c.from_residual-in_err-laid-in-Open.result c.from_residual-in_err-laid-in-Open.ensures.1 in
      rw (p.1, p.2) (elim c.in_err-laid-in-Open.ensures.laid [
        | inl m ↦ inl m
        | inr x ↦ inr (behind_err _ _ _ _ c.loop-token.invariant.1 (step_bad_pair NotAnItem (λ _. Err NotAnItem) item_of _ _ (rw c.in-Open.is at c.in-Some.ensures.steps) _ _ c.in_ok-pair-in-Open.ensures.the_pair _ x))
      ]);
}

pub loop-token-smaller : goal.loop-token-smaller
loop-token-smaller c = step_falls NotAnItem (λ _. Err NotAnItem) item_of _ _ (rw c.in-Open.is at c.in-Some.ensures.steps) _ _ c.in_ok-pair-in-Open.ensures.the_pair

pub loop-token-preserved : goal.loop-token-preserved
loop-token-preserved c =
    let before = vec_items c.loop-token.bytes in
    let after = vec_items c.cell.new.bytes in
    let cells = vec_items c.loop-token.cells in
    let x = c.in_ok-laid-in-Open.laid in
    let l = c.in_ok-laid-in-Open.ensures.laid in
    let e = c.in_ok-push-in-Open.ensures.items in
    let rest = items_of (left c.pair.new.self) in (
      subst (AllByRecursion (Below (length after))) (sym e) (below_push before after cells x l.2 c.loop-token.invariant.0 l.1),
      ap (λ cs. behind (map (read after) cs) rest) e ∙ ap (λ ds. behind ds rest) (reads_more before after cells x l.2 c.loop-token.invariant.0)
          ∙ behind_more (map (read before) cells) (read after x) _ _ rest c.loop-token.invariant.1
          (step_pair NotAnItem (λ _. Err NotAnItem) item_of _ _ (rw c.in-Open.is at c.in-Some.ensures.steps) _ _ c.in_ok-pair-in-Open.ensures.the_pair _ l.0),
    )

pub returns-in-Close : goal.returns-in-Close
returns-in-Close c = record { as_spelled = inr (behind_err _ _ _ _ c.loop-token.invariant.1 (step_close NotAnItem (λ _. Err NotAnItem) item_of _ _ (rw c.in-Close.is at c.in-Some.ensures.steps))) }

pub returns-in-Word : goal.returns-in-Word
returns-in-Word c = record { as_spelled = inr (behind_err _ _ _ _ c.loop-token.invariant.1 (step_bad_word NotAnItem (λ _. Err NotAnItem) item_of _ _ _ _ (rw c.in-Word.is at c.in-Some.ensures.steps) refl)) }
