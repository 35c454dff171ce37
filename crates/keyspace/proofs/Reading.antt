-- What stands at a position of a list. Assumes nothing.
use Rattle.std.proofs.Common.{◌≡◌, ℕ, List, sym, ap, ◌∙◌}
use Rattle.std.proofs.lemmas.List.{get_or_default}
use Rattle.keyspace.specs.Positions.{At, Meets}

-- one entry stands at a position
pub one_entry : {E : Type 0} (xs : List E) (p : ℕ) (a b : E) → At xs p a → At xs p b → a ≡ b
one_entry xs p a b x y = x.reads ∙ get_or_default xs p a b x.within ∙ sym y.reads

-- it has one meaning
pub one_meaning : {E V : Type 0} (means : E → V) (xs : List E) (p : ℕ) (v w : V) → Meets means xs p v → Meets means xs p w → v ≡ w
one_meaning means xs p v w a b = sym a.same ∙ ap means (one_entry xs p a.entry b.entry a.at b.at) ∙ b.same
