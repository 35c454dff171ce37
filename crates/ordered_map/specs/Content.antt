-- What two lists of entries have in common. Assumes nothing.
use Rattle.std.specs.Prelude.{◌≡◌, ℕ, List, map}
use Rattle.keyspace.specs.Positions.{Meets}
use Rattle.ordered_map.specs.declared.entry.Entry.{Entry}

-- what the key of an entry means, and what the entry means as a pair
abbrev pub key_of : {K L V : Type 0} → (K → V) → Entry K L → V
key_of key e = key e.key

abbrev pub pair_of : {K L V W : Type 0} → (K → V) → (L → W) → Entry K L → V × W
pair_of key value e = (key e.key, value e.value)

-- some entry means u
abbrev pub Holds : {E U : Type 0} → (E → U) → List E → U → Type 0
Holds means xs u = (p : ℕ) × Meets means xs p u

-- what the first list holds, the second does
abbrev pub Within : {E U : Type 0} → (E → U) → List E → List E → Type 0
Within {U = U} means xs ys = (u : U) → Holds means xs u → Holds means ys u

-- the same pairs, whatever their order
pub record SameContent {K L V W : Type 0} (key : K → V) (value : L → W) (xs ys : List (Entry K L)) : Type 0 where
  pub there : Within (pair_of key value) xs ys
  pub back : Within (pair_of key value) ys xs

-- the same pairs in the same order
abbrev pub Equal : {K L V W : Type 0} → (K → V) → (L → W) → List (Entry K L) → List (Entry K L) → Type 0
Equal key value xs ys = map (pair_of key value) xs ≡ map (pair_of key value) ys
