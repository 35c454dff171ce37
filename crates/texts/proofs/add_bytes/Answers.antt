use Rattle.std.proofs.Common.{◌≡◌, ℕ, List, ◌++◌, drop, None, vec_items, sym, refl, ap, ◌∙◌, inr, arith}
use Rattle.std.specs.Option.{option_map}
use Rattle.std.proofs.lemmas.List.{take_rest}
use Rattle.std.proofs.lemmas.Bool.{eqb-true, eqb-false}
use Rattle.std.proofs.lemmas.Result.{err_from_is_err_and}
use Rattle.texts.specs.Encoded.{pairs_of, bytes_of}
use Rattle.texts.proofs.Digits.{refused, onto_push, mapped_none, mapped_nil, pairs_none, pairs_more, pairs_odd, pairs_all}
use Rattle.texts.proofs.add_bytes.Goals as goal

-- what is left spells nothing, so the whole does not
none_left : (out start bs word : List ℕ) → pairs_of bs ≡ None → option_map (λ xs. out ++ xs) (pairs_of bs) ≡ option_map (λ xs. start ++ xs) (bytes_of word) → bytes_of word ≡ None
none_left out start bs word e v = mapped_none start (bytes_of word) (sym v ∙ ap (option_map (λ xs. out ++ xs)) e)

pub returns-in_err-ok_or : goal.returns-in_err-ok_or
returns-in_err-ok_or c = record {
  added =
      let p = err_from_is_err_and c.from_residual.result c.from_residual.ensures.1 in
      let e = c.in_err-ok_or.ensures in
      let none = pairs_none c.loop-rest.rest.now (omega arith) (sym e.ok_part ∙ c.byte.ensures.the_byte) in
      rw (p.1, p.2) (inr (refused _ _ _ e.value, none_left _ (vec_items c.args.out.now) c.loop-rest.rest.now c.args.word.now none c.loop-rest.invariant));
}

pub loop-rest-preserved : goal.loop-rest-preserved
loop-rest-preserved c =
    let out = vec_items c.loop-rest.out in
    let bs = c.loop-rest.rest.now in
    let b = c.in_ok-ok_or.field-0 in
    let rest = pairs_of (drop 2 bs) in
    ap (λ l. option_map (λ xs. vec_items c.push.new.self ++ xs) (pairs_of l)) (take_rest bs 2)
    ∙ ap (λ l. option_map (λ xs. l ++ xs) rest) c.in_ok-push.ensures.items ∙ onto_push out b rest
    ∙ ap (option_map (λ xs. out ++ xs)) (sym (pairs_more bs b (omega arith) (sym c.in_ok-ok_or.ensures.ok_part ∙ c.byte.ensures.the_byte))) ∙ c.loop-rest.invariant

pub returns-then-is_empty : goal.returns-then-is_empty
returns-then-is_empty c = record {
  added =
      let out = vec_items c.loop-rest.out in
      sym c.loop-rest.invariant ∙ ap (option_map (λ xs. out ++ xs)) (pairs_all c.loop-rest.rest.now (eqb-true _ _ (sym c.if-is_empty.ensures))) ∙ mapped_nil out;
}

pub returns-else-is_empty : goal.returns-else-is_empty
returns-else-is_empty c = record {
  added =
      let none = pairs_odd c.loop-rest.rest.now (omega (arith, eqb-false _ _ (sym c.if-is_empty.ensures))) in
      inr (refl, none_left _ (vec_items c.args.out.now) c.loop-rest.rest.now c.args.word.now none c.loop-rest.invariant);
}
