-- Where keys stand in a list of entries. `means` gives what an entry's key means. Assumes nothing.
use Rattle.std.specs.Prelude.{◌≡◌, ℕ, ◌<◌, List, length, Some, None, Option, slice_index_or}

-- the entry e stands at p
pub record At {E : Type 0} (xs : List E) (p : ℕ) (e : E) : Type 0 where
  pub within : p < length xs
  pub reads : e ≡ slice_index_or xs p e

-- the key at p means v
pub record Meets {E V : Type 0} (means : E → V) (xs : List E) (p : ℕ) (v : V) : Type 0 where
  pub entry : E
  pub at : At xs p entry
  pub same : means entry ≡ v

-- p is the first position whose key means v
pub record First {E V : Type 0} (means : E → V) (xs : List E) (p : ℕ) (v : V) : Type 0 where
  pub meets : Meets means xs p v
  pub least : (q : ℕ) → q < p → Meets means xs q v → ⊥

-- no key means v
abbrev pub Absent : {E V : Type 0} → (E → V) → List E → V → Type 0
Absent means xs v = (q : ℕ) → Meets means xs q v → ⊥

-- the answer of a look-up: the first position whose key means v, or none
abbrev pub FirstOrNone : {E V : Type 0} → (E → V) → List E → V → Option ℕ → Type 0
FirstOrNone means xs v (Some p) = First means xs p v
FirstOrNone means xs v None = Absent means xs v

-- a position that is answered is one whose key means v
abbrev pub OnlyMeeting : {E V : Type 0} → (E → V) → List E → V → Option ℕ → Type 0
OnlyMeeting means xs v (Some p) = Meets means xs p v
OnlyMeeting means xs v None = Unit {0}
