-- What an ordered map is, and what an insertion does. Assumes nothing.
use Rattle.std.specs.Prelude.{◌≡◌, ℕ, ◌<◌, ◌≤◌, min, List, [], ◌∷◌, ◌++◌, length, take, Some, None, Ok, Err, Option, Result, slice_set}
use Rattle.keyspace.specs.Positions.{At, Meets, Absent}
use Rattle.keyspace.specs.Slots.{IndexOf}
use Rattle.ordered_map.specs.Content.{key_of}
use Rattle.keyspace.specs.declared.slot.Taken.{Taken}
use Rattle.ordered_map.specs.declared.entry.Entry.{Entry}
use Rattle.ordered_map.specs.declared.map.OrderedMap.{OrderedMap}
use Rattle.ordered_map.specs.declared.map.MapFull.{MapFull}

-- the entries of a map, in their order
abbrev pub entries_of : {K V : Type 0} → OrderedMap K V → List (Entry K V)
entries_of m = take m.len m.entries.now

-- how many keys its memory holds at most
abbrev pub capacity_of : {K V : Type 0} → OrderedMap K V → ℕ
capacity_of m = min (length m.entries.now) (length m.slots.now)

-- keys at two positions mean two things
abbrev pub Distinct : {E V : Type 0} → (E → V) → List E → Type 0
Distinct {V = V} means xs = (p q : ℕ) (v : V) → Meets means xs p v → Meets means xs q v → p ≡ q

-- keys differ in meaning, and the slots are their index
pub record Mapped {E V : Type 0} (means : E → V) (numberof : V → ℕ) (xs : List E) (slots : List (Option Taken)) : Type 0 where
  pub distinct : Distinct means xs
  pub index : IndexOf means numberof xs (length xs) slots

abbrev pub IsMap : {K V W : Type 0} → (K → W) → (W → ℕ) → OrderedMap K V → Type 0
IsMap means numberof m = Mapped (key_of means) numberof (entries_of m) m.slots.now

-- the key has an entry, which keeps its place and its key: its value is another
pub record Replaced {K V W : Type 0} (means : K → W) (es : List (Entry K V)) (new : Entry K V) (old : V) (fs : List (Entry K V)) : Type 0 where
  pub place : ℕ
  pub entry : Entry K V
  pub at : At es place entry
  pub same : means entry.key ≡ means new.key
  pub was : old ≡ entry.value
  pub is : fs ≡ slice_set es place (record { key = entry.key; value = new.value })

-- the key is new, and comes last
pub record Appended {K V W : Type 0} (means : K → W) (es : List (Entry K V)) (new : Entry K V) (fs : List (Entry K V)) : Type 0 where
  pub absent : Absent (key_of means) es (means new.key)
  pub is : fs ≡ es ++ new ∷ []

-- the key is new, and there is no room
pub record Refused {K V W : Type 0} (means : K → W) (capacity : ℕ) (es : List (Entry K V)) (new : Entry K V) (fs : List (Entry K V)) : Type 0 where
  pub absent : Absent (key_of means) es (means new.key)
  pub full : capacity ≤ length es
  pub is : fs ≡ es

-- the answer of an insertion: the old value, none for a new key, or a refusal
abbrev pub Inserted : {K V W : Type 0} → (K → W) → ℕ → List (Entry K V) → Entry K V → List (Entry K V) → Result (Option V) MapFull → Type 0
Inserted means capacity es new fs (Ok (Some old)) = Replaced means es new old fs
Inserted means capacity es new fs (Ok None) = Appended means es new fs × (length es < capacity)
Inserted means capacity es new fs (Err e) = Refused means capacity es new fs

-- no memory of the map was written
pub record Unchanged {K V : Type 0} (m n : OrderedMap K V) : Type 0 where
  pub entries : n.entries.now ≡ m.entries.now
  pub slots : n.slots.now ≡ m.slots.now
  pub len : n.len ≡ m.len

-- an entry whose key means v has the value w
pub record Valued {K V W : Type 0} (means : K → W) (es : List (Entry K V)) (v : W) (w : V) : Type 0 where
  pub place : ℕ
  pub entry : Entry K V
  pub at : At es place entry
  pub same : means entry.key ≡ v
  pub is : w ≡ entry.value

-- the value of the key that means v, or none where no key does
abbrev pub ValueOrNone : {K V W : Type 0} → (K → W) → List (Entry K V) → W → Option V → Type 0
ValueOrNone means es v (Some w) = Valued means es v w
ValueOrNone means es v None = Absent (key_of means) es v
