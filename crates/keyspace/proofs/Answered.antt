-- The answer of a look-up among fields. Assumes nothing.
use Rattle.std.proofs.Common.{◌≡◌, ℕ, List, Some, None, Ok, Option, option_map, sym, subst}
use Rattle.refusal.specs.declared.FieldPosition.{FieldPosition}
use Rattle.keyspace.specs.Positions.{FirstOrNone}
use Rattle.keyspace.specs.Fields.{FirstField}

pub first_field : {E V : Type 0} (means : E → V) (xs : List E) (v : V) (place : Option ℕ) (r : Option FieldPosition) → r ≡ option_map (λ p. record { 0 = p }) place → FirstOrNone means xs v place → FirstField means xs v (Ok r)
first_field means xs v (Some p) r e h = subst (λ (o : Option FieldPosition). FirstField means xs v (Ok o)) (sym e) h
first_field means xs v None r e h = subst (λ (o : Option FieldPosition). FirstField means xs v (Ok o)) (sym e) h
