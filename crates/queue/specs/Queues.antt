-- What a queue shows of itself, and what is found at the front of its row. Assumes nothing.
use Rattle.std.specs.Prelude.{◌≡◌, ℕ, ◌≤◌, min, List, [], map, drop, Some, None, Ok, Err, Option, Result}
use Rattle.std.specs.List.{between}
use Rattle.carrier.specs.Meaning.{no_such_item}
use Rattle.carrier.specs.Steps.{State}
use Rattle.carrier.specs.declared.CarrierFault.{CarrierFault}
use Rattle.queue.specs.declared.coding.Coding.{Ghosts}
use Rattle.queue.specs.declared.lent.Queue.{Queue}

-- what lies between the two places waits; of written numbers, whose capacity is 0, none is in use
abbrev pub state_at : {N : Type 0} → (N → ℕ) → List N → ℕ → ℕ → ℕ → State
state_at number xs from to capacity = record { row = map number (between from to xs); capacity = capacity; count = min to capacity }

abbrev pub state_of : {N C : Type 0} {g : Ghosts N C} → Queue N C g → State
state_of {g = g} q = state_at g.number q.memory.now q.take_at q.write_at q.capacity

-- n numbers left the front of the row
pub record Skipped (n : ℕ) (s t : State) : Type 0 where
  pub row : t.row ≡ drop n s.row
  pub capacity : t.capacity ≡ s.capacity
  pub count : t.count ≤ s.count
  pub drained : t.row ≡ [] → t.count ≡ 0

-- what was found left the front of the row; or nothing was found, and nothing changed
abbrev pub Takes : {X : Type 0} → Option (X × ℕ) → ℕ → Result X CarrierFault → State → State → Type 0
Takes (Some p) taken r s t = (r ≡ Ok p.0) × Skipped p.1 s t
Takes None taken r s t = (r ≡ Err (no_such_item taken)) × (t ≡ s)
