-- What stands at the front of a row of words. Assumes nothing.
use Rattle.std.specs.Prelude.{◌≡◌, ℕ, ◌^◌, ◌<◌, ◌≤◌, List, ◌∷◌, ◌++◌, length, take, drop, slice_index, Some, None, Option, ◌≢◌, ◌⊎◌}
use Rattle.carrier.specs.Items.{Bytes}
use Rattle.words.specs.declared.Tag.{Tag}
use Rattle.words.specs.declared.Tag.TheVariants.{Truth, Whole, Single, Double, Run, Fixed}

abbrev pub number_of : Tag → ℕ
number_of Truth = 0
number_of Whole = 1
number_of Single = 2
number_of Double = 3
number_of Run = 4
number_of Fixed = 5

-- the word behind the tag's number; or there are no two words, or another number
abbrev pub Behind : Tag → List ℕ → Option ℕ → Type 0
Behind tag row (Some w) = (w < 2 ^ 64) × (row ≡ number_of tag ∷ w ∷ drop 2 row)
Behind tag row None = (length row < 2) ⊎ (slice_index row 0 ≢ number_of tag)

-- the first words, as many as out has, went into all of it as bytes; or they are too few, or no bytes
abbrev pub CopiesBytes : {X : Type 0} → List ℕ → Option X → List ℕ → List ℕ → Type 0
CopiesBytes words (Some _) out out' = Bytes out' × (words ≡ out' ++ drop (length out) words)
CopiesBytes words None out out' = (out' ≡ out) × (length out ≤ length words → Bytes (take (length out) words) → ⊥)
