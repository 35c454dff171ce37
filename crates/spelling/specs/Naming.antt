-- What goes by a name. Assumes nothing.
use Rattle.std.specs.Prelude.{ℕ, Bool, cond, List, codes, Option, find}
use Rattle.std.specs.Str.{bytes_eq}

abbrev pub truth_name : Bool → List ℕ
truth_name b = cond b (codes "true") (codes "false")

-- the first whose name is the word
abbrev pub lookup : {X : Type 0} → (X → List ℕ) → List ℕ → List X → Option X
lookup called w xs = find (λ x. bytes_eq w (called x)) xs
