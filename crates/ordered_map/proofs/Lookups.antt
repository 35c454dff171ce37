-- What a look-up among the entries `es` of a map shows. Assumes nothing.
use Rattle.std.proofs.Common.{◌≡◌, ℕ, List, length, get_or, sym, subst}
use Rattle.keyspace.specs.Positions.{Meets, Absent}
use Rattle.keyspace.specs.Slots.{IndexOf}
use Rattle.keyspace.specs.Spots.{EndsAt}
use Rattle.keyspace.specs.declared.slot.Spot.{Spot}
use Rattle.ordered_map.specs.Content.{key_of}
use Rattle.ordered_map.specs.Maps.{IsMap, Valued, entries_of}
use Rattle.ordered_map.specs.declared.entry.Entry.{Entry}
use Rattle.ordered_map.specs.declared.map.OrderedMap.{OrderedMap}
use Rattle.ordered_map.proofs.Laws.{found_value}

module _ {K V W : Type 0} (means : K → W) (numberof : W → ℕ) (m : OrderedMap K V) (v : W) (es : List (Entry K V)) (all : es ≡ entries_of m) where
  -- where the walk ends
  pub ends : (spot : Spot) → EndsAt (key_of means) numberof es m.slots.now v spot → EndsAt (key_of means) numberof (entries_of m) m.slots.now v spot
  ends spot h = subst (λ zs. EndsAt (key_of means) numberof zs m.slots.now v spot) all h

  -- what is found has the value
  pub value_found : (place : ℕ) (d : Entry K V) → Meets (key_of means) es place v → Valued means (entries_of m) v (get_or es place d).value
  value_found place d h = subst (λ zs. Valued means zs v (get_or es place d).value) all (found_value means es v place h d)

  -- what is not found is not there
  pub none_found : (IndexOf (key_of means) numberof es (length es) m.slots.now → Absent (key_of means) es v) → IsMap means numberof m → Absent (key_of means) (entries_of m) v
  none_found none is = subst (λ zs. Absent (key_of means) zs v) all (none (subst (λ zs. IndexOf (key_of means) numberof zs (length zs) m.slots.now) (sym all) is.index))
