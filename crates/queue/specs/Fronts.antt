-- What stands at the front of a row, and what is written. Assumes nothing.
use Rattle.std.specs.Prelude.{◌≡◌, ℕ, ◌<◌, ◌≤◌, min, List, ◌++◌, length, map, take, drop, Some, None, Option}
use Rattle.carrier.specs.Items.{Datum, run, fixed, Held}
use Rattle.carrier.specs.Steps as steps
use Rattle.carrier.specs.declared.Kind.{Kind}
use Rattle.carrier.specs.declared.Kind.TheVariants.{Run, Fixed}

-- the code of the item, which is n numbers, stands at the front of the row
pub record Stands (code : Datum → List ℕ) (d : Datum) (n : ℕ) (row : List ℕ) : Type 0 where
  pub held : Held d
  pub long : n ≡ length (code d)
  pub front : row ≡ code d ++ drop n row

abbrev pub Finds : {X : Type 0} → (Datum → List ℕ) → Kind → (X → Datum) → List ℕ → Option (X × ℕ) → Type 0
Finds code k of row (Some p) = Stands code (of p.0) p.1 row
Finds code k of row None = steps.None code k row

-- as many bytes as out has
abbrev pub FindsFixed : (Datum → List ℕ) → List ℕ → Option ℕ → List ℕ → List ℕ → Type 0
FindsFixed code row (Some n) out out' = Stands code (fixed out') n row
FindsFixed code row None out out' = (out' ≡ out) × steps.None code (Fixed (length out)) row

-- a run of len bytes stands at the start of out, and the rest of out is as it was
pub record Copied (code : Datum → List ℕ) (row : List ℕ) (most len n : ℕ) (out out' : List ℕ) : Type 0 where
  pub small : len ≤ min most (length out)
  pub rest : drop len out' ≡ drop len out
  pub stands : Stands code (run (take len out')) n row

abbrev pub FindsRun : (Datum → List ℕ) → List ℕ → ℕ → Option (ℕ × ℕ) → List ℕ → List ℕ → Type 0
FindsRun code row most (Some p) out out' = Copied code row most p.0 p.1 out out'
FindsRun code row most None out out' = (out' ≡ out) × steps.None code (Run (min most (length out))) row

-- p stands at the start of out, which is as it was behind it
pub record Wrote {N : Type 0} (number : N → ℕ) (p : List ℕ) (n : ℕ) (out out' : List N) : Type 0 where
  pub long : n ≡ length p
  pub fits : n ≤ length out
  pub front : map number (take n out') ≡ p
  pub rest : drop n out' ≡ drop n out

-- p was written, or is too long
abbrev pub Writes : {N : Type 0} → (N → ℕ) → List ℕ → Option ℕ → List N → List N → Type 0
Writes number p (Some n) out out' = Wrote number p n out out'
Writes number p None out out' = (length out < length p) × (out' ≡ out)
