-- Any list of insertions into an empty map: what the map holds after it, and what a look-up answers. Assumes nothing.
use Rattle.std.specs.Prelude.{◌≡◌, ℕ, ◌<◌, Bool, true, ◌⊎◌, List, [], ◌∷◌, ◌++◌, Some, None, Option, ◌≢◌}
use Rattle.keyspace.specs.Positions.{Meets, Absent}
use Rattle.ordered_map.specs.Content.{Holds, key_of}
use Rattle.ordered_map.specs.Maps.{Distinct, Replaced, Appended}
use Rattle.ordered_map.specs.declared.entry.Entry.{Entry}

-- one insertion: a key that is there keeps its place, a new one comes last
abbrev pub Inserts : {K V W : Type 0} → (K → W) → List (Entry K V) → Entry K V → List (Entry K V) → Type 0
Inserts {V = V} means es new fs = ((old : V) × Replaced means es new old fs) ⊎ Appended means es new fs

-- the entries after insertions into an empty map, of which the latest is the first of the list
abbrev pub After : {K V W : Type 0} → (K → W) → List (Entry K V) → List (Entry K V) → Type 0
After means [] fs = fs ≡ []
After {K} {V} means (new ∷ news) fs = (es : List (Entry K V)) × (After means news es × Inserts means es new fs)

-- the entries are those after one insertion more
abbrev pub OneMore : {K V W : Type 0} → (K → W) → List (Entry K V) → Entry K V → List (Entry K V) → Type 0
OneMore {K} {V} means es new fs = (news : List (Entry K V)) → After means news es → After means (new ∷ news) fs

-- the value that the latest insertion of a key that means v gave it, or none
abbrev pub Latest : {K V W : Type 0} → (K → W) → List (Entry K V) → W → Option V → Type 0
Latest means [] v r = r ≡ None
Latest means (new ∷ news) v r = (means new.key ≡ v → r ≡ Some new.value) × ((means new.key ≢ v) → Latest means news v r)

-- whatever the insertions were that made the entries, the answer is the latest value
abbrev pub LatestOfAny : {K V W : Type 0} → (K → W) → List (Entry K V) → W → Option V → Type 0
LatestOfAny {K} {V} means es v r = (news : List (Entry K V)) → After means news es → Latest means news v r

-- u was inserted before v ever was: at some time the map had the one key and not the other
pub record InsertedBefore {K V W : Type 0} (means : K → W) (news : List (Entry K V)) (u v : W) : Type 0 where
  pub later : List (Entry K V)
  pub earlier : List (Entry K V)
  pub split : news ≡ later ++ earlier
  pub has : Holds (key_of means) earlier u
  pub lacks : Absent (key_of means) earlier v

-- whatever the insertions were that made the entries, their keys stand in the order of first insertion
abbrev pub OrderOfAny : {K V W : Type 0} → (K → W) → List (Entry K V) → Type 0
OrderOfAny {K} {V} {W} means es =
    (news : List (Entry K V)) → After means news es → (p q : ℕ) (u v : W) → p < q → Meets (key_of means) es p u → Meets (key_of means) es q v → InsertedBefore means news u v

-- the same list in another order
pub data Reordered {E : Type 0} : List E → List E → Type 0 where
  same : {xs : List E} → Reordered xs xs
  kept : {x : E} {xs ys : List E} → Reordered xs ys → Reordered (x ∷ xs) (x ∷ ys)
  swapped : {x y : E} {xs : List E} → Reordered (x ∷ y ∷ xs) (y ∷ x ∷ xs)
  both : {xs ys zs : List E} → Reordered xs ys → Reordered ys zs → Reordered xs zs

-- of maps made by inserting distinct keys in two orders, the answer is yes
abbrev pub YesInAnyOrder : {K V W : Type 0} → (K → W) → List (Entry K V) → List (Entry K V) → Bool → Type 0
YesInAnyOrder {K} {V} means es fs r =
    (news mews : List (Entry K V)) → Distinct (key_of means) news → Reordered news mews → After means news es → After means mews fs → r ≡ true
