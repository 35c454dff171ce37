-- Items without references, their kinds, and what the code of every carrier keeps. Assumes nothing.
use Rattle.std.specs.Prelude.{◌≡◌, ℕ, ◌+◌, ◌^◌, ◌<◌, ◌≤◌, Bool, List, [], ◌∷◌, ◌++◌, length, ℤ, FitsSigned}
use Rattle.std.specs.Int.{w64}
use Rattle.carrier.specs.declared.Kind.{Kind}
use Rattle.carrier.specs.declared.Kind.TheVariants.{Truth, Whole, Single, Double, Run, Fixed}

pub data Datum : Type 0 where
  truth : Bool → Datum
  whole : ℤ → Datum
  single : ℕ → Datum
  double : ℕ → Datum
  run : List ℕ → Datum
  fixed : List ℕ → Datum

-- a fact of each element
abbrev pub All : {A : Type 0} → (A → Type 0) → List A → Type 0
All P [] = Unit {0}
All P (x ∷ xs) = P x × All P xs

abbrev pub Bytes : List ℕ → Type 0
Bytes = All (λ b. b < 256)

-- the ranges of an item: 64 bits with sign, 32 and 64 bits, bytes
abbrev pub Held : Datum → Type 0
Held (truth b) = Unit {0}
Held (whole z) = FitsSigned w64 z
Held (single n) = n < 2 ^ 32
Held (double n) = n < 2 ^ 64
Held (run bs) = (length bs < 2 ^ 63) × Bytes bs
Held (fixed bs) = (length bs < 2 ^ 63) × Bytes bs

-- the bytes of a run or a fixed
abbrev pub bulk : Datum → ℕ
bulk (truth b) = 0
bulk (whole z) = 0
bulk (single n) = 0
bulk (double n) = 0
bulk (run bs) = length bs
bulk (fixed bs) = length bs

-- the item is of the kind
pub data Of : Kind → Datum → Type 0 where
  a_truth : {b : Bool} → Of Truth (truth b)
  a_whole : {z : ℤ} → Of Whole (whole z)
  a_single : {n : ℕ} → Of Single (single n)
  a_double : {n : ℕ} → Of Double (double n)
  a_run : {most : ℕ} {bs : List ℕ} → length bs ≤ most → Of (Run most) (run bs)
  a_fixed : {n : ℕ} {bs : List ℕ} → length bs ≡ n → Of (Fixed n) (fixed bs)

-- of two different items of one kind neither code begins the other
abbrev pub Apart : (Datum → List ℕ) → Type 0
Apart code = (k : Kind) (i j : Datum) (s t : List ℕ) → Of k i → Of k j → Held i → Held j → code i ++ s ≡ code j ++ t → i ≡ j

-- a code has at most ten numbers more than its item has bytes
abbrev pub Short : (Datum → List ℕ) → Type 0
Short code = (i : Datum) → Held i → length (code i) ≤ 10 + bulk i

pub record Laws (code : Datum → List ℕ) : Type 0 where
  pub apart : Apart code
  pub short : Short code
