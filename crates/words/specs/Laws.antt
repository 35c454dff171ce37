-- The code in words keeps the laws of a carrier's code. Assumes nothing.
use Rattle.std.specs.Prelude.{◌≡◌, ℕ, List, ◌∷◌, ◌++◌, length, ℤ, pos, negsuc, FitsSigned}
use Rattle.std.proofs.Common.{ap, ◌∙◌, sym, arith}
use Rattle.std.specs.Int.{w64}
use Rattle.carrier.specs.Items.{truth, whole, single, double, run, fixed, a_truth, a_whole, a_single, a_double, a_run, a_fixed, Apart, Short, Laws}
use Rattle.carrier.specs.Prefixes.{tails, same_length, bit_apart}
use Rattle.words.specs.Words.{twos, word_code}

pub seconds : (k a b : ℕ) (s t : List ℕ) → k ∷ a ∷ s ≡ k ∷ b ∷ t → a ≡ b
seconds k a b s t e = cc

pub twos_apart : (y z : ℤ) → FitsSigned w64 y → FitsSigned w64 z → twos y ≡ twos z → y ≡ z
twos_apart (pos m) (pos n) f g e = ap pos e
twos_apart (pos m) (negsuc n) f g e = absurd (omega (arith, f.sfits, g.sfits))
twos_apart (negsuc m) (pos n) f g e = absurd (omega (arith, f.sfits, g.sfits))
twos_apart (negsuc m) (negsuc n) f g e = ap negsuc (omega (arith, f.sfits, g.sfits))

word_apart : Apart word_code
word_apart k i j s t (a_truth {b = a}) (a_truth {b = b}) p q e = ap truth (bit_apart a b (seconds 0 _ _ s t e))
word_apart k i j s t (a_whole {z = a}) (a_whole {z = b}) p q e = ap whole (twos_apart a b p q (seconds 1 _ _ s t e))
word_apart k i j s t (a_single {n = a}) (a_single {n = b}) p q e = ap single (seconds 2 a b s t e)
word_apart k i j s t (a_double {n = a}) (a_double {n = b}) p q e = ap double (seconds 3 a b s t e)
word_apart k i j s t (a_run {bs = a} l) (a_run {bs = b} m) p q e =
    let n = seconds 4 (length a) (length b) (a ++ s) (b ++ t) e in
    ap run (same_length a b s t n (tails _ _ _ _ (tails 4 4 (length a ∷ (a ++ s)) (length b ∷ (b ++ t)) e)))
word_apart k i j s t (a_fixed {bs = a} l) (a_fixed {bs = b} m) p q e =
    ap fixed (same_length a b s t (l ∙ sym m) (tails 5 5 (a ++ s) (b ++ t) e))

word_short : Short word_code
word_short (truth b) h = omega arith
word_short (whole z) h = omega arith
word_short (single n) h = omega arith
word_short (double n) h = omega arith
word_short (run bs) h = omega arith
word_short (fixed bs) h = omega arith

pub word_laws : Laws word_code
word_laws = record { apart = word_apart; short = word_short }
