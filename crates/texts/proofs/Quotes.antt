-- Texts in quotes, read byte by byte. Assumes nothing.
use Rattle.std.proofs.Common.{◌≡◌, ℕ, zero, suc, ◌≤◌, true, false, cond, ◌⊎◌, List, [], ◌∷◌, length, get_or, drop, Some, None, sym, refl, ap, ◌∙◌, inl, inr, arith}
use Rattle.std.proofs.lemmas.Bool.{eq-eqb, ne_eqb, cases_eq, le-leb}
use Rattle.std.proofs.lemmas.Bool.Decides.{nat_tests}
use Rattle.spelling.specs.Decimals.{and_some}
use Rattle.texts.specs.Encoded.{onto, shown, byte_of, escape_of, if_none, quoted}

quoted_skip : (k : ℕ) (bs : List ℕ) → quoted k bs ≡ quoted 0 (drop k bs)
unfolding quoted
quoted_skip zero bs = refl
quoted_skip (suc k) [] = refl
quoted_skip (suc k) (b ∷ bs) = quoted_skip k bs

pub plain_step : (b : ℕ) (bs : List ℕ) → (b ≡ 34 → ⊥) → (b ≡ 92 → ⊥) → quoted 0 (b ∷ bs) ≡ cond (shown b) (onto b (quoted 0 bs)) None
unfolding quoted
plain_step b bs p q = rw (ne_eqb b 34 p, ne_eqb b 92 q)

not_shown : (b k : ℕ) → k ≡ 34 ⊎ k ≡ 92 → true ≡ shown b → b ≡ k → ⊥
not_shown b k o e = grind (arith, nat_tests)

-- a byte that stands as it is
pub quoted_shown : (bs : List ℕ) → 1 ≤ length bs → true ≡ shown (get_or bs 0 0) → quoted 0 bs ≡ onto (get_or bs 0 0) (quoted 0 (drop 1 bs))
quoted_shown [] l e = absurd (omega arith)
quoted_shown (b ∷ bs) l e = plain_step b bs (not_shown b 34 (inl refl) e) (not_shown b 92 (inr refl) e) ∙ ap (λ t. cond t (onto b (quoted 0 bs)) None) (sym e)

escape_step : (b : ℕ) (bs : List ℕ) → b ≡ 92 → quoted 0 (b ∷ bs) ≡ and_some (escape_of (b ∷ bs)) (λ x. onto x (quoted 0 (drop 3 bs)))
unfolding quoted
escape_step b bs h = rw (ne_eqb b 34 (λ e. omega arith), eq-eqb b 92 h) (ap (λ q. and_some (escape_of (b ∷ bs)) (λ x. onto x q)) (quoted_skip 3 bs))

escape_byte : (bs : List ℕ) → 4 ≤ length bs → get_or bs 1 0 ≡ 120 → escape_of bs ≡ byte_of (get_or bs 2 0) (get_or bs 3 0)
escape_byte bs l e = rw (le-leb 4 (length bs) l, eq-eqb (get_or bs 1 0) 120 e)

read_byte : (bs : List ℕ) → 4 ≤ length bs → get_or bs 0 0 ≡ 92 → get_or bs 1 0 ≡ 120 → quoted 0 bs ≡ and_some (byte_of (get_or bs 2 0) (get_or bs 3 0)) (λ x. onto x (quoted 0 (drop 4 bs)))
read_byte [] l h e = absurd (omega arith)
read_byte (b ∷ bs) l h e = escape_step b bs h ∙ ap (λ o. and_some o (λ x. onto x (quoted 0 (drop 3 bs)))) (escape_byte (b ∷ bs) l e)

-- an escape
module _ (bs : List ℕ) (long : 4 ≤ length bs) (slash : get_or bs 0 0 ≡ 92) (hex : get_or bs 1 0 ≡ 120) where
  pub quoted_escape : (x : ℕ) → Some x ≡ byte_of (get_or bs 2 0) (get_or bs 3 0) → quoted 0 bs ≡ onto x (quoted 0 (drop 4 bs))
  quoted_escape x e = read_byte bs long slash hex ∙ ap (λ o. and_some o (λ x. onto x (quoted 0 (drop 4 bs)))) (sym e)

  pub quoted_no_digits : None ≡ byte_of (get_or bs 2 0) (get_or bs 3 0) → quoted 0 bs ≡ None
  quoted_no_digits e = read_byte bs long slash hex ∙ ap (λ o. and_some o (λ x. onto x (quoted 0 (drop 4 bs)))) (sym e)

-- the quote ends the text
pub quoted_end : (bs : List ℕ) → length bs ≡ 1 → get_or bs 0 0 ≡ 34 → quoted 0 bs ≡ Some []
unfolding quoted
quoted_end [] l e = absurd (omega arith)
quoted_end (b ∷ []) l e = rw (eq-eqb b 34 e)
quoted_end (b ∷ c ∷ bs) l e = absurd (omega arith)

no_escape : (bs : List ℕ) → (4 ≤ length bs → get_or bs 1 0 ≡ 120 → ⊥) → escape_of bs ≡ None
no_escape bs n = grind (arith, nat_tests)

some_left : (b : ℕ) (bs : List ℕ) → b ≡ 34 → (length (b ∷ bs) ≡ 1 → b ≡ 34 → ⊥) → if_none bs ≡ None
some_left b [] e n = absurd (n refl e)
some_left b (c ∷ bs) e n = refl

-- none of the three
pub quoted_none : (bs : List ℕ) → (length bs ≡ 1 → get_or bs 0 0 ≡ 34 → ⊥) → ((get_or bs 0 0 ≡ 92 → ⊥) → 1 ≤ length bs → false ≡ shown (get_or bs 0 0))
    → (4 ≤ length bs → get_or bs 0 0 ≡ 92 → get_or bs 1 0 ≡ 120 → ⊥) → quoted 0 bs ≡ None
unfolding quoted
quoted_none [] n s m = refl
quoted_none (b ∷ bs) n s m = elim (cases_eq b 34) [
  | inl h ↦ rw (eq-eqb b 34 h) (some_left b bs h n)
  | inr p ↦ elim (cases_eq b 92) [
    | inl h ↦ escape_step b bs h ∙ ap (λ o. and_some o (λ x. onto x (quoted 0 (drop 3 bs)))) (no_escape (b ∷ bs) (λ l. m l h))
    | inr q ↦ plain_step b bs p q ∙ ap (λ t. cond t (onto b (quoted 0 bs)) None) (sym (s q (omega arith)))
  ]
]
