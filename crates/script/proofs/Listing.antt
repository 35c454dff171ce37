-- Words and pairs that are read one after another. Assumes nothing.
use Rattle.std.proofs.Common.{◌≡◌, ℕ, ◌<◌, List, [], ◌∷◌, ◌++◌, length, Ok, Err, Result, sym, refl, ap, ◌∙◌, append_assoc, append-nil, arith}
use Rattle.script.specs.Lexing.{Tok, opening, closing, word}
use Rattle.script.specs.Shapes.{and_then, a_pair, ahead, rows, behind}
use Rattle.spelling.specs.declared.bad.Bad.{Bad}
use Rattle.spelling.specs.declared.bad.Bad.TheVariants.{Brackets}

module _ {X : Type 0} where
  pub behind_more : (xs : List X) (x : X) (all now rest : Result (List X) Bad) → behind xs now ≡ all → now ≡ ahead (Ok x) rest → behind (xs ++ x ∷ []) rest ≡ all
  behind_more xs x all now (Ok l) i e = ap Ok (append_assoc xs (x ∷ []) l) ∙ sym (ap (behind xs) e) ∙ i
  behind_more xs x all now (Err d) i e = sym (ap (behind xs) e) ∙ i

  pub behind_err : (xs : List X) (d : Bad) (all now : Result (List X) Bad) → behind xs now ≡ all → now ≡ Err d → all ≡ Err d
  behind_err xs d all now i e = sym i ∙ ap (behind xs) e

  pub behind_every : (xs : List X) (all now : Result (List X) Bad) → behind xs now ≡ all → now ≡ Ok [] → all ≡ Ok xs
  behind_every xs all now i e = sym i ∙ ap (behind xs) e ∙ ap Ok (append-nil xs)

abbrev left_of : Result ((List ℕ × List ℕ) × List Tok) Bad → ℕ
left_of (Ok p) = length p.1
left_of (Err e) = 0

-- the same reading, the fault by another name
pub by_fault : {d e : Bad} (ts : List Tok) {o : Result ((List ℕ × List ℕ) × List Tok) Bad} → d ≡ e → a_pair d ts ≡ o → a_pair e ts ≡ o
by_fault ts f h = ap (λ x. a_pair x ts) (sym f) ∙ h

-- a pair takes tokens
pub pair_shorter : (e : Bad) (ts rest : List Tok) (q : List ℕ × List ℕ) → a_pair e ts ≡ Ok (q, rest) → length rest < length ts
pair_shorter e [] rest q h = let z : ◌≡◌ {A = ℕ} 0 1 = cc in absurd (omega arith)
pair_shorter e (opening ∷ ts) rest q h = let z : ◌≡◌ {A = ℕ} 0 1 = cc in absurd (omega arith)
pair_shorter e (closing ∷ ts) rest q h = let z : ◌≡◌ {A = ℕ} 0 1 = cc in absurd (omega arith)
pair_shorter e (word n ∷ []) rest q h = let z : ◌≡◌ {A = ℕ} 0 1 = cc in absurd (omega arith)
pair_shorter e (word n ∷ opening ∷ ts) rest q h = let z : ◌≡◌ {A = ℕ} 0 1 = cc in absurd (omega arith)
pair_shorter e (word n ∷ closing ∷ ts) rest q h = let z : ◌≡◌ {A = ℕ} 0 1 = cc in absurd (omega arith)
pair_shorter e (word n ∷ word v ∷ []) rest q h = let z : ◌≡◌ {A = ℕ} 0 1 = cc in absurd (omega arith)
pair_shorter e (word n ∷ word v ∷ opening ∷ ts) rest q h = let z : ◌≡◌ {A = ℕ} 0 1 = cc in absurd (omega arith)
pair_shorter e (word n ∷ word v ∷ word w ∷ ts) rest q h = let z : ◌≡◌ {A = ℕ} 0 1 = cc in absurd (omega arith)
pair_shorter e (word n ∷ word v ∷ closing ∷ ts) rest q h = omega (arith, ap left_of h)

module _ {X : Type 0} (e : Bad) (alone : List ℕ → Result X Bad) (paired : List ℕ × List ℕ → Result X Bad) where
  rows_open : (ts : List Tok) → rows e alone paired (opening ∷ ts) ≡ and_then (a_pair e ts) (λ q. ahead (paired q.0) (rows e alone paired q.1))
  unfolding rows
  rows_open [] = refl
  rows_open (opening ∷ ts) = refl
  rows_open (closing ∷ ts) = refl
  rows_open (word n ∷ []) = refl
  rows_open (word n ∷ opening ∷ ts) = refl
  rows_open (word n ∷ closing ∷ ts) = refl
  rows_open (word n ∷ word v ∷ []) = refl
  rows_open (word n ∷ word v ∷ opening ∷ ts) = refl
  rows_open (word n ∷ word v ∷ word w ∷ ts) = refl
  rows_open (word n ∷ word v ∷ closing ∷ ts) = refl

  module _ (all ts : List Tok) (opens : all ≡ opening ∷ ts) where
    after_open : rows e alone paired all ≡ and_then (a_pair e ts) (λ q. ahead (paired q.0) (rows e alone paired q.1))
    after_open = ap (rows e alone paired) opens ∙ rows_open ts

    pub step_no_pair : (d : Bad) → a_pair e ts ≡ Err d → rows e alone paired all ≡ Err d
    step_no_pair d h = after_open ∙ ap (λ o. and_then o (λ q. ahead (paired q.0) (rows e alone paired q.1))) h

    module _ (q : List ℕ × List ℕ) (rest : List Tok) (pairs : a_pair e ts ≡ Ok (q, rest)) where
      after_pair : rows e alone paired all ≡ ahead (paired q) (rows e alone paired rest)
      after_pair = after_open ∙ ap (λ o. and_then o (λ q. ahead (paired q.0) (rows e alone paired q.1))) pairs

      pub step_pair : (x : X) → paired q ≡ Ok x → rows e alone paired all ≡ ahead (Ok x) (rows e alone paired rest)
      step_pair x h = after_pair ∙ ap (λ o. ahead o (rows e alone paired rest)) h

      pub step_bad_pair : (d : Bad) → paired q ≡ Err d → rows e alone paired all ≡ Err d
      step_bad_pair d h = after_pair ∙ ap (λ o. ahead o (rows e alone paired rest)) h

      pub step_falls : length rest < length all
      step_falls = omega (arith, pair_shorter e ts rest q pairs, ap length opens)

  pub step_word : (all ts : List Tok) (w : List ℕ) (x : X) → all ≡ word w ∷ ts → alone w ≡ Ok x → rows e alone paired all ≡ ahead (Ok x) (rows e alone paired ts)
  unfolding rows
  step_word all ts w x h k = ap (rows e alone paired) h ∙ ap (λ o. ahead o (rows e alone paired ts)) k

  pub step_bad_word : (all ts : List Tok) (w : List ℕ) (d : Bad) → all ≡ word w ∷ ts → alone w ≡ Err d → rows e alone paired all ≡ Err d
  unfolding rows
  step_bad_word all ts w d h k = ap (rows e alone paired) h ∙ ap (λ o. ahead o (rows e alone paired ts)) k

  pub step_close : (all ts : List Tok) → all ≡ closing ∷ ts → rows e alone paired all ≡ Err Brackets
  unfolding rows
  step_close all ts h = ap (rows e alone paired) h

  pub step_end : (all : List Tok) → all ≡ [] → rows e alone paired all ≡ Ok []
  unfolding rows
  step_end all h = ap (rows e alone paired) h
