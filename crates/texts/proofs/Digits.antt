-- Hex digits, read one by one and in pairs. Assumes nothing.
use Rattle.std.proofs.Common.{◌≡◌, ℕ, ◌+◌, ◌*◌, ◌^◌, ◌<◌, ◌≤◌, List, [], ◌∷◌, ◌++◌, length, get_or, drop, Some, None, Err, Option, sym, refl, ap, ◌∙◌, arith}
use native.Mathlib.Nat.{pow-le-pow_right}
use Rattle.std.specs.Option.{ok_or, option_map}
use Rattle.std.proofs.lemmas.Nat.{pow-add}
use Rattle.std.proofs.lemmas.List.{drop_more, drop_all, append_assoc, append-nil}
use Rattle.std.proofs.lemmas.Bool.{eq-eqb}
use Rattle.std.proofs.lemmas.Bool.Decides.{nat_tests}
use Rattle.spelling.specs.Decimals.{and_some}
use Rattle.spelling.specs.declared.bad.Bad.{Bad}
use Rattle.texts.specs.Encoded.{hex_digit, byte_of, onto, pairs_of, hex_after, bits_of}

hex_small : (b d : ℕ) → Some d ≡ hex_digit b → d < 16
hex_small b d e = grind (arith, nat_tests)

module _ (n : ℕ) (rest : List ℕ) (i : ℕ) (inside : i < length rest) where
  hex_digit_lem : hex_after n (drop i rest) ≡ and_some (hex_digit (get_or rest i 0)) (λ d. hex_after (n * 16 + d) (drop (i + 1) rest))
  unfolding hex_after
  hex_digit_lem = ap (hex_after n) (drop_more rest i 0 inside)

  pub hex_none : None ≡ hex_digit (get_or rest i 0) → hex_after n (drop i rest) ≡ None
  hex_none e = hex_digit_lem ∙ ap (λ o. and_some o (λ d. hex_after (n * 16 + d) (drop (i + 1) rest))) (sym e)

  pub hex_more : (d : ℕ) → Some d ≡ hex_digit (get_or rest i 0) → hex_after n (drop i rest) ≡ hex_after (n * 16 + d) (drop (i + 1) rest)
  hex_more d e = hex_digit_lem ∙ ap (λ o. and_some o (λ d. hex_after (n * 16 + d) (drop (i + 1) rest))) (sym e)

pub hex_all : (n : ℕ) (rest : List ℕ) (i : ℕ) → length rest ≤ i → hex_after n (drop i rest) ≡ Some n
unfolding hex_after
hex_all n rest i h = ap (hex_after n) (drop_all i rest h)

pub hex_room : (b d n i : ℕ) → Some d ≡ hex_digit b → n < 16 ^ i → n * 16 + d < 16 ^ (i + 1)
hex_room b d n i e h = omega (arith, hex_small b d e, pow-add 16 i 1)

pub bits_word : (k : ℕ) (word : List ℕ) → length word ≡ k + 1 → get_or word 0 0 ≡ 120 → bits_of k word ≡ hex_after 0 (drop 1 word)
bits_word k [] l e = absurd (omega arith)
bits_word k (b ∷ bs) l e = rw (eq-eqb (length bs) k (omega arith), eq-eqb b 120 e)

-- bytes that go to the end of a memory
pub onto_push : (out : List ℕ) (x : ℕ) (o : Option (List ℕ)) → option_map (λ xs. (out ++ x ∷ []) ++ xs) o ≡ option_map (λ xs. out ++ xs) (onto x o)
onto_push out x None = refl
onto_push out x (Some xs) = ap Some (append_assoc out (x ∷ []) xs)

pub refused : {X : Type 0} (o : Option X) (d e : Bad) → Err d ≡ ok_or o e → d ≡ e
refused None d e h = cc
refused (Some x) d e h = cc

pub mapped_none : (out : List ℕ) (o : Option (List ℕ)) → option_map (λ xs. out ++ xs) o ≡ None → o ≡ None
mapped_none out None e = refl
mapped_none out (Some xs) e = let z : ◌≡◌ {A = ℕ} 0 1 = cc in absurd (omega arith)

pub mapped_nil : (out : List ℕ) → option_map (λ xs. out ++ xs) (Some []) ≡ Some out
mapped_nil out = ap Some (append-nil out)

module _ (word : List ℕ) where
  pairs_step : 2 ≤ length word → pairs_of word ≡ and_some (byte_of (get_or word 0 0) (get_or word 1 0)) (λ x. onto x (pairs_of (drop 2 word)))
  unfolding pairs_of
  pairs_step h = ap pairs_of (drop_more word 0 0 (omega arith) ∙ ap (λ l. get_or word 0 0 ∷ l) (drop_more word 1 0 (omega arith)))

  pub pairs_none : 2 ≤ length word → None ≡ byte_of (get_or word 0 0) (get_or word 1 0) → pairs_of word ≡ None
  pairs_none h e = pairs_step h ∙ ap (λ o. and_some o (λ x. onto x (pairs_of (drop 2 word)))) (sym e)

  pub pairs_more : (x : ℕ) → 2 ≤ length word → Some x ≡ byte_of (get_or word 0 0) (get_or word 1 0) → pairs_of word ≡ onto x (pairs_of (drop 2 word))
  pairs_more x h e = pairs_step h ∙ ap (λ o. and_some o (λ x. onto x (pairs_of (drop 2 word)))) (sym e)

pub pairs_odd : (word : List ℕ) → length word ≡ 1 → pairs_of word ≡ None
unfolding pairs_of
pairs_odd [] h = absurd (omega arith)
pairs_odd (b ∷ []) h = refl
pairs_odd (b ∷ c ∷ bs) h = absurd (omega arith)

pub pairs_all : (word : List ℕ) → length word ≡ 0 → pairs_of word ≡ Some []
unfolding pairs_of
pairs_all [] h = refl
pairs_all (b ∷ bs) h = absurd (omega arith)

pub hex_fits : (n i k : ℕ) → n < 16 ^ i → i < k → k ≤ 16 → n * 16 + 15 < 2 ^ 64
hex_fits n i k h l m =
    let some : 0 < 16 = omega arith in
    let few : i + 1 ≤ 16 = omega arith in
    let most : 16 ^ (i + 1) ≤ 16 ^ 16 = pow-le-pow_right some few in
    omega (arith, most, pow-add 16 i 1)

pub hex_below : (b d : ℕ) → Some d ≡ hex_digit b → d ≤ 15
hex_below b d e = omega (arith, hex_small b d e)
