-- What a walk over an index shows. Assumes nothing.
use Rattle.std.proofs.Common.{◌≡◌, ℕ, ◌<◌, ◌⊎◌, List, Some, None, Option, length, get_or, sym, ap, ◌∙◌, subst, ⊎_elim, arith}
use Rattle.std.proofs.lemmas.Bool.{cases_order}
use Rattle.keyspace.specs.Positions.{Meets, First}
use Rattle.keyspace.specs.Slots.{Reached, IndexOf, slot_at, holding}
use Rattle.keyspace.specs.Spots.{Passed, IsFound, IsFree, EndsAt}
use Rattle.keyspace.specs.declared.slot.Taken.{Taken}
use Rattle.keyspace.specs.declared.slot.Spot.{Spot}
use Rattle.keyspace.specs.declared.slot.Spot.TheVariants.{Found, Free, Full}
use Rattle.keyspace.proofs.Taking.{not_empty}

module _ {E V : Type 0} (means : E → V) (numberof : V → ℕ) (xs : List E) (slots : List (Option Taken)) (v : V) where
  -- an entry that is reached does not lie on the way that was passed
  not_passed : (i : ℕ) → Passed means numberof xs slots v i → (r : Reached means numberof xs (length slots) slots v) → r.step < i → ⊥
  not_passed i passed r lt =
      let o = passed r.step lt in
      let is : Some o.taken ≡ holding (numberof v) r.entry = sym o.slot ∙ r.slot in
      let same : o.taken ≡ record { number = numberof v; position = r.entry } = cc in
      o.apart (ap (λ (t : Taken). t.number) same) (subst (λ p. Meets means xs p v) (ap (λ (t : Taken). t.position) (sym same)) r.meets)

  -- nor behind an empty slot
  not_behind : (at number : ℕ) → IsFree means numberof xs slots v at number → Reached means numberof xs (length slots) slots v → ⊥
  not_behind at number f r =
      let z : slot_at (length slots) slots (numberof v) f.step ≡ None = ap (λ a. get_or slots a None) (sym f.is) ∙ f.empty in
      ⊎_elim
      (λ e. not_empty (slot_at (length slots) slots (numberof v) r.step) (record { number = numberof v; position = r.entry }) r.slot (ap (λ i. slot_at (length slots) slots (numberof v) i) e ∙ z))
      (⊎_elim (not_passed f.step f.passed r) (λ lt. r.before f.step lt z))
      (cases_order r.step f.step)

  module _ (count : ℕ) (index : IndexOf means numberof xs count slots) where
    pub none_by_free : (at number : ℕ) → IsFree means numberof xs slots v at number → (q : ℕ) → q < count → Meets means xs q v → ⊥
    none_by_free at number f q lt m = not_behind at number f (index.reach q v lt m)

    pub none_by_full : Passed means numberof xs slots v (length slots) → (q : ℕ) → q < count → Meets means xs q v → ⊥
    none_by_full passed q lt m = let r = index.reach q v lt m in not_passed (length slots) passed r r.near

    pub first_by_found : (p : ℕ) → IsFound means numberof xs slots v p → First means xs p v
    first_by_found p e = record { meets = e.meets; least = λ q lt m. index.first e.slot (record { number = numberof v; position = p }) e.holds q v lt e.meets m }

    pub none_unless_found : count ≡ length xs → (s : Spot) → EndsAt means numberof xs slots v s → ((at : ℕ) × (number : ℕ) × (s ≡ Free at number)) ⊎ (s ≡ Full) → (q : ℕ) → Meets means xs q v → ⊥
    none_unless_found all (Found p) e h q m = ⊎_elim (λ f. let z = f.2 in cc) (λ f. cc) h
    none_unless_found all (Free at number) e h q m = none_by_free at number e q (omega (arith, m.at.within)) m
    none_unless_found all Full e h q m = none_by_full e q (omega (arith, m.at.within)) m
