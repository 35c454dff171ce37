-- Lists of which one begins the other. Assumes nothing.
use Rattle.std.specs.Prelude.{◌≡◌, ℕ, Bool, true, false, cond, List, [], ◌∷◌, ◌++◌, length, refl}
use Rattle.std.proofs.Common.{arith}

pub heads : (a b : ℕ) (s t : List ℕ) → a ∷ s ≡ b ∷ t → a ≡ b
heads a b s t e = cc

pub tails : (a b : ℕ) (s t : List ℕ) → a ∷ s ≡ b ∷ t → s ≡ t
tails a b s t e = cc

pub same_length : (a b s t : List ℕ) → length a ≡ length b → a ++ s ≡ b ++ t → a ≡ b
same_length [] [] s t l e = refl
same_length [] (y ∷ b) s t l e = absurd (omega arith)
same_length (x ∷ a) [] s t l e = absurd (omega arith)
same_length (x ∷ a) (y ∷ b) s t l e =
    let p = heads x y (a ++ s) (b ++ t) e in
    let q = same_length a b s t (omega arith) (tails x y (a ++ s) (b ++ t) e) in
    cc

pub bit_apart : (a b : Bool) → ◌≡◌ {A = ℕ} (cond a 1 0) (cond b 1 0) → a ≡ b
bit_apart true true e = refl
bit_apart true false e = absurd (omega arith)
bit_apart false true e = absurd (omega arith)
bit_apart false false e = refl
