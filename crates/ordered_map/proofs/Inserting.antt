-- One insertion: the map `m` becomes `n`. Assumes nothing.
use Rattle.std.proofs.Common.{◌≡◌, ℕ, ◌+◌, ◌<◌, ◌≤◌, [], ◌∷◌, ◌++◌, Some, length, take, set, sym, refl, ap, ◌∙◌, subst, arith}
use Rattle.std.proofs.Math.Seq.{take-set-lt}
use Rattle.std.proofs.lemmas.List.{length-take-le, take_more_set}
use Rattle.keyspace.specs.Positions.{At, Meets}
use Rattle.keyspace.specs.Spots.{IsFree, Passed}
use Rattle.ordered_map.specs.Content.{key_of}
use Rattle.ordered_map.specs.Maps.{Mapped, IsMap, Replaced, Appended, Refused, entries_of, capacity_of}
use Rattle.ordered_map.specs.declared.entry.Entry.{Entry}
use Rattle.ordered_map.specs.declared.map.OrderedMap.{OrderedMap}
use Rattle.keyspace.proofs.Walks.{none_by_full}
use Rattle.ordered_map.proofs.Growing.{at_in_all, mapped_set, mapped_push, absent_by_free, full_by_full}

pub used : {K V : Type 0} (m : OrderedMap K V) → length (entries_of m) ≡ m.len
used m = length-take-le m.len m.entries.now m.within

module _ {K V W : Type 0} (means : K → W) (numberof : W → ℕ) (m n : OrderedMap K V) (new : Entry K V) where
  -- the key is there, and has another value now
  module _ (place : ℕ) (found : Meets (key_of means) (entries_of m) place (means new.key)) (old : V)
      (written : (e : Entry K V) → At m.entries.now place e → (old ≡ e.value) × (n.entries.now ≡ set m.entries.now place (record { key = e.key; value = new.value })))
      (len : n.len ≡ m.len) where
    abbrev entry : Entry K V
    entry = record { key = found.entry.key; value = new.value }

    all : (old ≡ found.entry.value) × (n.entries.now ≡ set m.entries.now place entry)
    all = written found.entry (at_in_all m.len m.entries.now place found.entry m.within found.at)

    after : entries_of n ≡ set (entries_of m) place entry
    after = ap (λ k. take k n.entries.now) len ∙ ap (take m.len) all.1 ∙ take-set-lt m.len m.entries.now place entry (omega (arith, found.at.within, used m))

    pub replaced : Replaced means (entries_of m) new old (entries_of n)
    replaced = record { place = place; entry = found.entry; at = found.at; same = found.same; was = all.0; is = after }

    pub replaced_map : n.slots.now ≡ m.slots.now → IsMap means numberof m → IsMap means numberof n
    replaced_map slots is =
        subst (λ ss. Mapped (key_of means) numberof (entries_of n) ss) (sym slots)
        (subst (λ es. Mapped (key_of means) numberof es m.slots.now) (sym after)
        (mapped_set (key_of means) numberof (entries_of m) m.slots.now place found.entry entry found.at refl is))

  -- the key is new, and comes last
  module _ (at number : ℕ) (entries : n.entries.now ≡ set m.entries.now m.len new) (len : n.len ≡ m.len + 1)
      (room : m.len < capacity_of m) (free : IsFree (key_of means) numberof (entries_of m) m.slots.now (means new.key) at number) (is : IsMap means numberof m) where
    pushed : entries_of n ≡ entries_of m ++ new ∷ []
    pushed = ap (λ k. take k n.entries.now) len ∙ ap (take (m.len + 1)) entries ∙ take_more_set m.entries.now m.len new (omega arith)

    pub appended : Appended means (entries_of m) new (entries_of n) × (length (entries_of m) < capacity_of m)
    appended = (record { absent = absent_by_free (key_of means) (entries_of m) new numberof m.slots.now is at number free; is = pushed }, omega (arith, used m))

    pub appended_map : n.slots.now ≡ set m.slots.now at (Some (record { number = number; position = m.len })) → IsMap means numberof n
    appended_map slots =
        subst (λ ss. Mapped (key_of means) numberof (entries_of n) ss) (sym slots)
        (subst (λ es. Mapped (key_of means) numberof es (set m.slots.now at (Some (record { number = number; position = m.len })))) (sym pushed)
        (subst (λ k. Mapped (key_of means) numberof (entries_of m ++ new ∷ []) (set m.slots.now at (Some (record { number = number; position = k })))) (used m)
        (mapped_push (key_of means) (entries_of m) new numberof m.slots.now is at number free)))

-- the key is new, and there is no room
module _ {K V W : Type 0} (means : K → W) (numberof : W → ℕ) (m : OrderedMap K V) (new : Entry K V) (is : IsMap means numberof m) where
  pub refused_by_free : (at number : ℕ) → IsFree (key_of means) numberof (entries_of m) m.slots.now (means new.key) at number → capacity_of m ≤ m.len → Refused means (capacity_of m) (entries_of m) new (entries_of m)
  refused_by_free at number free full =
      record { absent = absent_by_free (key_of means) (entries_of m) new numberof m.slots.now is at number free; full = omega (arith, used m); is = refl }

  pub refused_by_full : Passed (key_of means) numberof (entries_of m) m.slots.now (means new.key) (length m.slots.now) → Refused means (capacity_of m) (entries_of m) new (entries_of m)
  refused_by_full passed =
      record {
        absent = λ q h. none_by_full (key_of means) numberof (entries_of m) m.slots.now (means new.key) (length (entries_of m)) is.index passed q h.at.within h;
        full = omega (arith, full_by_full (key_of means) numberof (entries_of m) m.slots.now (means new.key) is passed);
        is = refl;
      }
