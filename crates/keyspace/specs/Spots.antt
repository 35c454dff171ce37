-- Where a walk over the slots ends. Assumes nothing.
use Rattle.std.specs.Prelude.{◌≡◌, ℕ, ◌%◌, ◌<◌, List, Some, None, Option, length, slice_index_or}
use Rattle.keyspace.specs.Positions.{Meets}
use Rattle.keyspace.specs.Slots.{slot_at, walked, holding}
use Rattle.keyspace.specs.declared.slot.Taken.{Taken}
use Rattle.keyspace.specs.declared.slot.Spot.{Spot}
use Rattle.keyspace.specs.declared.slot.Spot.TheVariants.{Found, Free, Full}

-- the slot s is taken, and not by a key that means v
pub record Other {E V : Type 0} (means : E → V) (numberof : V → ℕ) (xs : List E) (s : Option Taken) (v : V) : Type 0 where
  pub taken : Taken
  pub slot : s ≡ Some taken
  pub apart : taken.number ≡ numberof v → Meets means xs taken.position v → ⊥

-- the first i slots of a walk for v are taken by other keys
abbrev pub Passed : {E V : Type 0} → (E → V) → (V → ℕ) → List E → List (Option Taken) → V → ℕ → Type 0
Passed means numberof xs slots v i = (j : ℕ) → j < i → Other means numberof xs (slot_at (length slots) slots (numberof v) j) v

-- some slot has the number of v and the position p of a key that means v
pub record IsFound {E V : Type 0} (means : E → V) (numberof : V → ℕ) (xs : List E) (slots : List (Option Taken)) (v : V) (p : ℕ) : Type 0 where
  pub slot : ℕ
  pub holds : slice_index_or slots slot None ≡ holding (numberof v) p
  pub meets : Meets means xs p v

-- a walk for v comes to the empty slot `at`, past slots that are taken by other keys
pub record IsFree {E V : Type 0} (means : E → V) (numberof : V → ℕ) (xs : List E) (slots : List (Option Taken)) (v : V) (at number : ℕ) : Type 0 where
  pub its_number : number ≡ numberof v
  pub step : ℕ
  pub near : step < length slots
  pub is : at ≡ walked (numberof v % length slots) step (length slots)
  pub within : at < length slots
  pub empty : slice_index_or slots at None ≡ None
  pub passed : Passed means numberof xs slots v step

-- the answer of a walk for v
abbrev pub EndsAt : {E V : Type 0} → (E → V) → (V → ℕ) → List E → List (Option Taken) → V → Spot → Type 0
EndsAt means numberof xs slots v (Found p) = IsFound means numberof xs slots v p
EndsAt means numberof xs slots v (Free at number) = IsFree means numberof xs slots v at number
EndsAt means numberof xs slots v Full = Passed means numberof xs slots v (length slots)
