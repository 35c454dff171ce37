-- What a look-up among fields answers. Assumes nothing.
use Rattle.std.specs.Prelude.{List, Some, None, Ok, Err, Option, Result}
use Rattle.refusal.specs.declared.FieldPosition.{FieldPosition}
use Rattle.keyspace.specs.Positions.{First, Absent}
use Rattle.keyspace.specs.declared.slot.TooFewSlots.{TooFewSlots}

-- the position of the first field whose key means v, or none where no key does
abbrev pub FirstField : {E V : Type 0} → (E → V) → List E → V → Result (Option FieldPosition) TooFewSlots → Type 0
FirstField means xs v (Ok (Some p)) = First means xs p.0 v
FirstField means xs v (Ok None) = Absent means xs v
FirstField means xs v (Err e) = Unit {0}
