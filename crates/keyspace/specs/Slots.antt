-- When slots are an index of a list of entries. Assumes nothing.
use Rattle.std.specs.Prelude.{◌≡◌, ℕ, ◌+◌, ◌-◌, ◌%◌, ◌<◌, ◌≤◌, cond, List, Some, None, Option, count_by, length, ◌≢◌, nat_lt, slice_index_or}
use Rattle.std.specs.Option.{is_some}
use Rattle.keyspace.specs.Positions.{Meets}
use Rattle.keyspace.specs.declared.slot.Taken.{Taken}

-- the slot that a walk from home comes to after i steps, round the end of n slots
abbrev pub walked : ℕ → ℕ → ℕ → ℕ
walked home i n = cond (nat_lt (home + i) n) (home + i) (home + i - n)

-- what the slot holds that lies i steps from the start of a number
abbrev pub slot_at : ℕ → List (Option Taken) → ℕ → ℕ → Option Taken
slot_at n slots number i = slice_index_or slots (walked (number % n) i n) None

-- how many slots are taken
abbrev pub taken : List (Option Taken) → ℕ
taken slots = count_by is_some slots

-- a slot that is taken by the number of a key, for the entry at a position
abbrev pub holding : ℕ → ℕ → Option Taken
holding number position = Some (record { number = number; position = position })

-- a walk for v comes to an entry that means v, over slots that are not empty
pub record Reached {E V : Type 0} (means : E → V) (numberof : V → ℕ) (xs : List E) (n : ℕ) (slots : List (Option Taken)) (v : V) : Type 0 where
  pub step : ℕ
  pub entry : ℕ
  pub near : step < n
  pub slot : slot_at n slots (numberof v) step ≡ holding (numberof v) entry
  pub meets : Meets means xs entry v
  pub before : (i : ℕ) → i < step → slot_at n slots (numberof v) i ≢ None

-- the slots are an index of the first `count` entries
pub record IndexOf {E V : Type 0} (means : E → V) (numberof : V → ℕ) (xs : List E) (count : ℕ) (slots : List (Option Taken)) : Type 0 where
  pub fits : count ≤ length xs
  pub room : taken slots ≤ count
  pub points : (j : ℕ) (t : Taken) → slice_index_or slots j None ≡ Some t → t.position < count
  pub first : (j : ℕ) (t : Taken) → slice_index_or slots j None ≡ Some t → (q : ℕ) (v : V) → q < t.position → Meets means xs t.position v → Meets means xs q v → ⊥
  pub reach : (p : ℕ) (v : V) → p < count → Meets means xs p v → Reached means numberof xs (length slots) slots v
