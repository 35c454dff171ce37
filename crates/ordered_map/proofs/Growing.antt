-- An index of distinct keys where an entry is replaced or added. Assumes nothing.
use Rattle.std.proofs.Common.{◌≡◌, ℕ, ◌+◌, ◌%◌, ◌<◌, ◌≤◌, List, [], ◌∷◌, ◌++◌, Some, Option, length, get_or, take, set, sym, refl, ap, ◌∙◌, subst, ⊎_elim, arith}
use Rattle.std.proofs.lemmas.List.{get_or-set_same, get_or-set_other, length-set, set-set, set-get_or, length_push, get_or_append_left, get_or_push, length-take-le, get_or-take}
use Rattle.std.proofs.lemmas.Bool.{cases_lt, cases_eq}
use Rattle.keyspace.specs.Positions.{At, Meets, Absent}
use Rattle.keyspace.specs.Slots.{IndexOf, slot_at, walked}
use Rattle.keyspace.specs.Spots.{Passed, IsFree}
use Rattle.ordered_map.specs.Maps.{Distinct, Mapped}
use Rattle.keyspace.specs.declared.slot.Taken.{Taken}
use Rattle.keyspace.proofs.Reading.{one_entry}
use Rattle.keyspace.proofs.Taking.{no_room, not_empty}
use Rattle.keyspace.proofs.Walks.{none_by_free}
use Rattle.keyspace.proofs.Steps.{carried, written_in}

-- what stands in the front of a list stands in the list
pub at_in_all : {E : Type 0} (n : ℕ) (xs : List E) (p : ℕ) (e : E) → n ≤ length xs → At (take n xs) p e → At xs p e
at_in_all n xs p e le a =
    let lt : p < n = omega (arith, a.within, length-take-le n xs le) in
    record { within = omega arith; reads = a.reads ∙ get_or-take n xs p e lt }

module _ {E V : Type 0} (means : E → V) where
  -- another entry of the same meaning
  pub set_meets : (xs : List E) (q : ℕ) (x y : E) → At xs q x → means y ≡ means x → (p : ℕ) (v : V) → Meets means xs p v → Meets means (set xs q y) p v
  set_meets xs q x y a same p v m =
      let in-set : p < length (set xs q y) = omega (arith, m.at.within, length-set xs q y) in
      ⊎_elim
      (λ e.
      let one : x ≡ m.entry = one_entry xs q x m.entry a (subst (λ i. At xs i m.entry) e m.at) in
      record { entry = y; at = record { within = in-set; reads = sym (get_or-set_same xs q y y a.within) ∙ ap (λ i. get_or (set xs q y) i y) (sym e) }; same = same ∙ ap means one ∙ m.same })
      (λ d. record { entry = m.entry; at = record { within = in-set; reads = m.at.reads ∙ sym (get_or-set_other xs q p y m.entry d) }; same = m.same })
      (cases_eq p q)

  pub set_back : (xs : List E) (q : ℕ) (x y : E) → At xs q x → means y ≡ means x → (p : ℕ) (v : V) → Meets means (set xs q y) p v → Meets means xs p v
  set_back xs q x y a same p v m =
      let here : At (set xs q y) q y = record { within = omega (arith, a.within, length-set xs q y); reads = sym (get_or-set_same xs q y y a.within) } in
      let whole : set (set xs q y) q x ≡ xs = set-set xs q y x ∙ ap (set xs q) a.reads ∙ set-get_or xs q x in
      subst (λ zs. Meets means zs p v) whole (set_meets (set xs q y) q y x here (sym same) p v m)

  pub mapped_set : (numberof : V → ℕ) (xs : List E) (slots : List (Option Taken)) (q : ℕ) (x y : E) → At xs q x → means y ≡ means x → Mapped means numberof xs slots → Mapped means numberof (set xs q y) slots
  mapped_set numberof xs slots q x y a same m =
      record {
        distinct = λ p r v mp mr. m.distinct p r v (set_back xs q x y a same p v mp) (set_back xs q x y a same r v mr);
        index = subst (λ n. IndexOf means numberof (set xs q y) n slots) (sym (length-set xs q y))
            (carried means means numberof xs (set xs q y) (length xs) slots (omega (arith, length-set xs q y))
            (λ p v lt. set_meets xs q x y a same p v) (λ p v lt. set_back xs q x y a same p v) m.index);
      }

  module _ (xs : List E) (y : E) where
    pub push_meets : (p : ℕ) (v : V) → Meets means xs p v → Meets means (xs ++ y ∷ []) p v
    push_meets p v m =
        record { entry = m.entry; at = record { within = omega (arith, m.at.within, length_push xs y); reads = m.at.reads ∙ sym (get_or_append_left xs (y ∷ []) m.entry p m.at.within) }; same = m.same }

    pub push_back : (p : ℕ) (v : V) → p < length xs → Meets means (xs ++ y ∷ []) p v → Meets means xs p v
    push_back p v lt m =
        record { entry = m.entry; at = record { within = lt; reads = m.at.reads ∙ get_or_append_left xs (y ∷ []) m.entry p lt }; same = m.same }

    -- the last one
    pub push_last : (p : ℕ) (v : V) → length xs ≤ p → Meets means (xs ++ y ∷ []) p v → (p ≡ length xs) × (means y ≡ v)
    push_last p v le m =
        let is : p ≡ length xs = omega (arith, m.at.within, length_push xs y) in
        (is, ap means (sym (m.at.reads ∙ get_or_push xs y m.entry p (sym is))) ∙ m.same)

    pub distinct_push : Absent means xs (means y) → Distinct means xs → Distinct means (xs ++ y ∷ [])
    distinct_push absent apart p q v mp mq =
        let n = length xs in
        let clash : (i j : ℕ) → i < n → n ≤ j → Meets means (xs ++ y ∷ []) i v → Meets means (xs ++ y ∷ []) j v → ⊥ =
        λ i j lt le mi mj. absent i (subst (λ u. Meets means xs i u) (sym (push_last j v le mj).1) (push_back i v lt mi)) in
        ⊎_elim
        (λ bp. ⊎_elim (λ bq. apart p q v (push_back p v bp mp) (push_back q v bq mq)) (λ eq. absurd (clash p q bp eq mp mq)) (cases_lt q n))
        (λ ep. ⊎_elim (λ bq. absurd (clash q p bq ep mq mp)) (λ eq. (push_last p v ep mp).0 ∙ sym (push_last q v eq mq).0) (cases_lt q n))
        (cases_lt p n)

    module _ (numberof : V → ℕ) (slots : List (Option Taken)) (m : Mapped means numberof xs slots) (at number : ℕ) (f : IsFree means numberof xs slots (means y) at number) where
      pub absent_by_free : Absent means xs (means y)
      absent_by_free q mq = none_by_free means numberof xs slots (means y) (length xs) m.index at number f q mq.at.within mq

      still_free : IsFree means numberof (xs ++ y ∷ []) slots (means y) at number
      still_free =
          record {
            its_number = f.its_number;
            step = f.step;
            near = f.near;
            is = f.is;
            within = f.within;
            empty = f.empty;
            passed = λ j lt.
                let o = f.passed j lt in
                let below : o.taken.position < length xs = m.index.points (walked (numberof (means y) % length slots) j (length slots)) o.taken o.slot in
                record { taken = o.taken; slot = o.slot; apart = λ e k. o.apart e (push_back o.taken.position (means y) below k) };
          }

      pub mapped_push : Mapped means numberof (xs ++ y ∷ []) (set slots at (Some (record { number = number; position = length xs })))
      mapped_push =
          let longer : length (xs ++ y ∷ []) ≡ length xs + 1 = length_push xs y in
          let within : length xs < length (xs ++ y ∷ []) = omega arith in
          record {
            distinct = distinct_push absent_by_free m.distinct;
            index = subst (λ n. IndexOf means numberof (xs ++ y ∷ []) n (set slots at (Some (record { number = number; position = length xs })))) (sym longer)
                (written_in means numberof (xs ++ y ∷ []) (length xs) slots
                (carried means means numberof xs (xs ++ y ∷ []) (length xs) slots (omega arith) (λ p v lt. push_meets p v) push_back m.index)
                (means y) (record { entry = y; at = record { within = within; reads = sym (get_or_push xs y y (length xs) refl) }; same = refl })
                at number still_free);
          }

  -- where each slot is taken by another key, there are as many keys as slots
  pub full_by_full : (numberof : V → ℕ) (xs : List E) (slots : List (Option Taken)) (v : V) → Mapped means numberof xs slots → Passed means numberof xs slots v (length slots) → length slots ≤ length xs
  full_by_full numberof xs slots v m passed =
      ⊎_elim
      (λ lt. absurd (no_room slots (numberof v) (length xs) m.index.room lt
      (λ i near z. let o = passed i near in not_empty (slot_at (length slots) slots (numberof v) i) o.taken o.slot z)))
      (λ le. le)
      (cases_lt (length xs) (length slots))
