use Rattle.std.proofs.Common.{◌≡◌, ◌⊎◌, ◌∷◌, [], map, Some, None, Ok, vec_items, sym, ap, ◌∙◌, subst, inl, inr}
use Rattle.std.specs.Option.{option_map}
use Rattle.std.proofs.lemmas.List.{map-append}
use Rattle.std.proofs.lemmas.Result.{err_from_is_err_and}
use Rattle.script.specs.Seeking.{so_far, behind_all, quest_of, seeks}
use Rattle.script.specs.Cutting.{left}
use Rattle.script.specs.Shapes.{Meets}
use Rattle.script.proofs.Seeks.{behind_fails, seeks_none, seeks_find, seeks_bad, seeks_key, behind_key, behind_no_key}
use Rattle.script.proofs.sought.read_sought.Goals as goal
use Rattle.script.proofs.sought.read_sought.Goals.{in_default-via-in-Some+in_default, in_default-via-in_default}

pub returns-in_err-word : goal.returns-in_err-word
returns-in_err-word g c = record {
  as_spelled =
      let p = err_from_is_err_and c.from_residual.result c.from_residual.ensures.1 in
      rw (p.1, p.2) (inr (behind_fails _ _ _ _ c.loop-among.invariant (seeks_none g.K.Spelled.spelled _ _ c.in_err-word.ensures.the_argument)));
}

pub returns-then-is : goal.returns-then-is
returns-then-is g c = record {
  as_spelled =
      let m = g.K.Spelled.means in
      let s = so_far m c.loop-among.among in
      let e = ap (behind_all s) (sym (seeks_find g.K.Spelled.spelled _ _ _ c.in_ok-word.ensures.the_argument c.if-is.ensures.compared)) ∙ c.loop-among.invariant in
      subst (Meets (option_map (quest_of m)) c.read_last.result) e c.read_last.ensures.as_spelled;
}

pub returns-in_err-key : goal.returns-in_err-key
returns-in_err-key g c = record {
  as_spelled =
      let p = err_from_is_err_and c.from_residual-in_err-key.result c.from_residual-in_err-key.ensures.1 in
      rw (p.1, p.2) (elim c.in_err-key.ensures.as_spelled [
        | inl m ↦ inl m
        | inr x ↦ inr (behind_fails _ _ _ _ c.loop-among.invariant (seeks_bad g.K.Spelled.spelled _ _ _ c.in_ok-word.ensures.the_argument c.if-is.ensures.compared _ x))
      ]);
}

pub loop-among-preserved-in-Some-among-3 : goal.loop-among-preserved-in-Some-among-3
loop-among-preserved-in-Some-among-3 g c =
    let m = g.K.Spelled.means in
    let read = g.K.Spelled.spelled in
    let xs = vec_items c.in-Some-Some.keys in
    let key = c.in-Some-Some.key in
    let rest = seeks read (left c.word.new.self) in
    let spelled = c.in_ok-key.ensures.as_spelled ∙ ap (λ o. Ok (option_map m o)) c.in-Some-Some.is-0 in
    ap (λ l. behind_all (Some (map m l)) rest) c.in_ok-push-in-Some-Some.ensures.items
    ∙ ap (λ l. behind_all (Some l) rest) (map-append m xs (key ∷ []))
    ∙ behind_key (map m xs) (m key) rest
    ∙ ap (behind_all (Some (map m xs))) (sym (seeks_key read _ _ _ c.in_ok-word.ensures.the_argument c.if-is.ensures.compared (Some (m key)) spelled))
    ∙ ap (λ s. behind_all (so_far m s) (seeks read (left c.loop-among.tokens))) (sym c.in-Some-Some.is-1)
    ∙ c.loop-among.invariant

pub loop-among-preserved : goal.loop-among-preserved
loop-among-preserved g c =
    let m = g.K.Spelled.means in
    let read = g.K.Spelled.spelled in
    let keys = so_far m c.loop-among.among in
    let key = option_map m c.in_ok-key.field-0 in
    let none : (keys ≡ None) ⊎ (key ≡ None) = elim c.in_default.branch [
      | in_default-via-in-Some+in_default w ↦ inl (ap (so_far m) w.in_default.is-1)
      | in_default-via-in_default w ↦ inr (ap (option_map m) w.in_default.is-0)
    ] in
    behind_no_key keys key (seeks read (left c.word.new.self)) none
    ∙ ap (behind_all keys) (sym (seeks_key read _ _ _ c.in_ok-word.ensures.the_argument c.if-is.ensures.compared key c.in_ok-key.ensures.as_spelled))
    ∙ c.loop-among.invariant
