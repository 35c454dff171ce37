use Rattle.std.proofs.Common.{◌≡◌, ℕ, ◌-◌, List, [], ◌∷◌, ◌++◌, length, get_or, take, drop, None, vec_items, sym, refl, ap, ◌∙◌, inr, arith}
use Rattle.std.specs.Option.{option_map}
use Rattle.std.proofs.lemmas.List.{take_rest, length-drop}
use Rattle.std.proofs.lemmas.Bool.{eqb-true, eqb-false}
use Rattle.std.proofs.lemmas.Result.{err_from_is_err_and}
use Rattle.texts.specs.Encoded.{onto, quoted, text_of}
use Rattle.texts.proofs.Digits.{refused, onto_push, mapped_none, mapped_nil}
use Rattle.texts.proofs.Quotes.{quoted_shown, quoted_escape, quoted_no_digits, quoted_end, quoted_none}
use Rattle.texts.proofs.add_text.Goals as goal
use Rattle.texts.proofs.add_text.Goals.{else-b-eq34-via-then-b-eq34+else-is_empty, else-b-eq34-via-else-b-eq34}

-- what is left spells nothing, so the whole does not
none_left : (out start bs word : List ℕ) → quoted 0 bs ≡ None → option_map (λ xs. out ++ xs) (quoted 0 bs) ≡ option_map (λ xs. start ++ xs) (text_of word) → text_of word ≡ None
none_left out start bs word e v = mapped_none start (text_of word) (sym v ∙ ap (option_map (λ xs. out ++ xs)) e)

-- x was read, and what stands behind the first k bytes is left
read_on : (out start more bs word : List ℕ) (k x : ℕ) → quoted 0 bs ≡ onto x (quoted 0 (drop k bs)) → more ≡ out ++ x ∷ []
    → option_map (λ xs. out ++ xs) (quoted 0 bs) ≡ option_map (λ xs. start ++ xs) (text_of word)
    → option_map (λ xs. more ++ xs) (quoted 0 (take (length bs - k) (drop k bs))) ≡ option_map (λ xs. start ++ xs) (text_of word)
read_on out start more bs word k x q e v =
    ap (λ l. option_map (λ xs. more ++ xs) (quoted 0 l)) (take_rest bs k) ∙ ap (λ l. option_map (λ xs. l ++ xs) (quoted 0 (drop k bs))) e
    ∙ onto_push out x (quoted 0 (drop k bs)) ∙ ap (option_map (λ xs. out ++ xs)) (sym q) ∙ v

after_length : (bs : List ℕ) → length (take (length bs - 1) (drop 1 bs)) ≡ length bs - 1
after_length bs = ap length (take_rest bs 1) ∙ length-drop 1 bs

pub returns-in_default-rest-2 : goal.returns-in_default-rest-2
returns-in_default-rest-2 c = record {
  added =
      let none = quoted_none c.loop-rest.rest.now (λ l q. omega arith) (λ s l. absurd (omega arith)) (λ l h x. omega arith) in
      inr (refl, none_left _ (vec_items c.args.out.now) c.loop-rest.rest.now c.args.word.now none c.loop-rest.invariant);
}

pub returns-in_default-rest-2-2 : goal.returns-in_default-rest-2-2
returns-in_default-rest-2-2 c = record {
  added =
      let none = quoted_none c.loop-rest.rest.now (λ l q. omega arith) (λ s l. absurd (omega arith)) (λ l h x. omega arith) in
      inr (refl, none_left _ (vec_items c.args.out.now) c.loop-rest.rest.now c.args.word.now none c.loop-rest.invariant);
}

pub returns-in_err-ok_or : goal.returns-in_err-ok_or
returns-in_err-ok_or c = record {
  added =
      let p = err_from_is_err_and c.from_residual.result c.from_residual.ensures.1 in
      let e = c.in_err-ok_or.ensures in
      let none = quoted_no_digits c.loop-rest.rest.now (omega arith) c.if-b-eq92.true (omega arith) (sym e.ok_part ∙ c.byte.ensures.the_byte) in
      rw (p.1, p.2) (inr (refused _ _ _ e.value, none_left _ (vec_items c.args.out.now) c.loop-rest.rest.now c.args.word.now none c.loop-rest.invariant));
}

pub loop-rest-preserved-then-b-eq92 : goal.loop-rest-preserved-then-b-eq92
loop-rest-preserved-then-b-eq92 c =
    let bs = c.loop-rest.rest.now in
    let b = c.in_ok-ok_or.field-0 in
    let more = quoted_escape bs (omega arith) c.if-b-eq92.true (omega arith) b (sym c.in_ok-ok_or.ensures.ok_part ∙ c.byte.ensures.the_byte) in
    read_on _ _ _ bs c.args.word.now 4 b more c.in_ok-push.ensures.items c.loop-rest.invariant

pub loop-rest-preserved : goal.loop-rest-preserved
loop-rest-preserved c =
    let bs = c.loop-rest.rest.now in
    let more = quoted_shown bs c.in-len1-up.len_at_least c.if-is_shown.ensures.tested in
    read_on _ _ _ bs c.args.word.now 1 _ more c.in_ok-push-2.ensures.items c.loop-rest.invariant

pub returns-then-is_empty : goal.returns-then-is_empty
returns-then-is_empty c = record {
  added =
      let out = vec_items c.loop-rest.out in
      let bs = c.loop-rest.rest.now in
      let one : length bs ≡ 1 = omega (arith, eqb-true _ _ (sym c.if-is_empty.ensures), after_length bs, c.in-len1-up.len_at_least) in
      sym c.loop-rest.invariant ∙ ap (option_map (λ xs. out ++ xs)) (quoted_end bs one c.if-b-eq34.true) ∙ mapped_nil out;
}

pub returns-else-b-eq34 : goal.returns-else-b-eq34
returns-else-b-eq34 c = record {
  added =
      let bs = c.loop-rest.rest.now in
      let no_end : length bs ≡ 1 → get_or bs 0 0 ≡ 34 → ⊥ = λ l q. elim c.else-b-eq34.branch [
        | else-b-eq34-via-then-b-eq34+else-is_empty v ↦ eqb-false _ _ (sym v.if-is_empty.ensures) (omega (arith, after_length bs))
        | else-b-eq34-via-else-b-eq34 v ↦ v.if-b-eq34.false q
      ] in
      let none = quoted_none bs no_end (λ s l. c.if-is_shown.ensures.tested) (λ l h. absurd (c.if-b-eq92.false h)) in
      inr (refl, none_left _ (vec_items c.args.out.now) bs c.args.word.now none c.loop-rest.invariant);
}

pub returns : goal.returns
returns c = record {
  added =
      let none = quoted_none c.loop-rest.rest.now (λ l q. omega arith) (λ s l. absurd (omega arith)) (λ l h x. omega arith) in
      inr (refl, none_left _ (vec_items c.args.out.now) c.loop-rest.rest.now c.args.word.now none c.loop-rest.invariant);
}
