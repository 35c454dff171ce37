-- The code of an item in words, its kind first. Assumes nothing.
use Rattle.std.specs.Prelude.{ℕ, ◌-◌, ◌^◌, cond, List, [], ◌∷◌, length, ℤ, pos, negsuc}
use Rattle.carrier.specs.Items.{Datum, truth, whole, single, double, run, fixed}

-- two's complement in 64 bits
abbrev pub twos : ℤ → ℕ
twos (pos n) = n
twos (negsuc n) = 2 ^ 64 - 1 - n

-- the bytes of a run or a fixed are a word each
abbrev pub word_code : Datum → List ℕ
word_code (truth b) = 0 ∷ cond b 1 0 ∷ []
word_code (whole z) = 1 ∷ twos z ∷ []
word_code (single n) = 2 ∷ n ∷ []
word_code (double n) = 3 ∷ n ∷ []
word_code (run bs) = 4 ∷ length bs ∷ bs
word_code (fixed bs) = 5 ∷ bs
