-- One entry more in an index. Assumes nothing.
use Rattle.std.proofs.Common.{◌≡◌, ℕ, ◌+◌, ◌%◌, ◌<◌, ◌≤◌, List, None, Some, Option, length, get_or, set, sym, ap, ◌∙◌, subst, ⊎_elim, arith}
use Rattle.std.proofs.lemmas.List.{get_or-set_same, get_or-set_other, length-set}
use Rattle.std.proofs.lemmas.Bool.{cases_lt}
use Rattle.keyspace.specs.Positions.{Meets}
use Rattle.keyspace.specs.Slots.{Reached, IndexOf, walked}
use Rattle.keyspace.specs.Spots.{IsFound, IsFree}
use Rattle.keyspace.specs.declared.slot.Taken.{Taken}
use Rattle.keyspace.proofs.Reading.{one_meaning}
use Rattle.keyspace.proofs.Taking.{not_empty, taken_set, still_taken, written}
use Rattle.keyspace.proofs.Walks.{none_by_free}

module _ {E V : Type 0} (means : E → V) (numberof : V → ℕ) (xs : List E) (count : ℕ) (slots : List (Option Taken)) (index : IndexOf means numberof xs count slots) (v : V) (here : Meets means xs count v) where
  abbrev this : Taken
  this = record { number = numberof v; position = count }

  -- the key is there already
  pub entered : (p : ℕ) → IsFound means numberof xs slots v p → IndexOf means numberof xs (count + 1) slots
  entered p e =
      record {
        fits = omega (arith, here.at.within);
        room = omega (arith, index.room);
        points = λ j t h. omega (arith, index.points j t h);
        first = index.first;
        reach = λ q w lt m.
            ⊎_elim (λ below. index.reach q w below m)
            (λ le.
            let last : q ≡ count = omega arith in
            let same : v ≡ w = one_meaning means xs count v w here (subst (λ i. Meets means xs i w) last m) in
            subst (λ u. Reached means numberof xs (length slots) slots u) same (index.reach p v (index.points e.slot (record { number = numberof v; position = p }) e.holds) e.meets))
            (cases_lt q count);
      }

  module _ (at number : ℕ) (f : IsFree means numberof xs slots v at number) where
    abbrev after : List (Option Taken)
    after = set slots at (Some this)

    still_reached : (w : V) → Reached means numberof xs (length slots) slots w → Reached means numberof xs (length slots) after w
    still_reached w r =
        let home = numberof w % length slots in
        let a = walked home r.step (length slots) in
        let other : a ≡ at → ⊥ = λ e. not_empty (get_or slots a None) (record { number = numberof w; position = r.entry }) r.slot (ap (λ b. get_or slots b None) e ∙ f.empty) in
        record {
          step = r.step;
          entry = r.entry;
          near = r.near;
          slot = get_or-set_other slots at a (Some this) None other ∙ r.slot;
          meets = r.meets;
          before = λ i lt. still_taken slots at this f.within (walked home i (length slots)) (r.before i lt);
        }

    new_reached : Reached means numberof xs (length slots) after v
    new_reached =
        let home = numberof v % length slots in
        record {
          step = f.step;
          entry = count;
          near = f.near;
          slot = ap (λ b. get_or after b None) (sym f.is) ∙ get_or-set_same slots at (Some this) None f.within;
          meets = here;
          before = λ i lt. still_taken slots at this f.within (walked home i (length slots)) (λ z. let o = f.passed i lt in not_empty (get_or slots (walked home i (length slots)) None) o.taken o.slot z);
        }

    added : IndexOf means numberof xs (count + 1) after
    added =
        record {
          fits = omega (arith, here.at.within);
          room = omega (arith, index.room, taken_set slots at this);
          points = λ j t h. ⊎_elim (λ e. omega (arith, ap (λ (u : Taken). u.position) e)) (λ o. omega (arith, index.points j t o)) (written slots at this f.within j t h);
          first = λ j t h q w lt mp mq.
              ⊎_elim
              (λ e.
              let last : t.position ≡ count = ap (λ (u : Taken). u.position) e in
              let below : q < count = omega arith in
              let is : w ≡ v = one_meaning means xs count w v (subst (λ i. Meets means xs i w) last mp) here in
              none_by_free means numberof xs slots v count index at number f q below (subst (λ u. Meets means xs q u) is mq))
              (λ o. index.first j t o q w lt mp mq)
              (written slots at this f.within j t h);
          reach = λ q w lt m.
              subst (λ n. Reached means numberof xs n after w) (sym (length-set slots at (Some this)))
              (⊎_elim (λ below. still_reached w (index.reach q w below m))
              (λ le.
              let last : q ≡ count = omega arith in
              let same : v ≡ w = one_meaning means xs count v w here (subst (λ i. Meets means xs i w) last m) in
              subst (λ u. Reached means numberof xs (length slots) after u) same new_reached)
              (cases_lt q count));
        }

    -- the key is written into an empty slot
    pub written_in : IndexOf means numberof xs (count + 1) (set slots at (Some (record { number = number; position = count })))
    written_in = subst (λ n. IndexOf means numberof xs (count + 1) (set slots at (Some (record { number = n; position = count })))) (sym f.its_number) added

-- an index stays one where the entries that it has entered mean what they meant
pub carried : {D E V : Type 0} (means : D → V) (means' : E → V) (numberof : V → ℕ) (xs : List D) (ys : List E) (count : ℕ) (slots : List (Option Taken))
    → count ≤ length ys
    → ((p : ℕ) (v : V) → p < count → Meets means xs p v → Meets means' ys p v)
    → ((p : ℕ) (v : V) → p < count → Meets means' ys p v → Meets means xs p v)
    → IndexOf means numberof xs count slots → IndexOf means' numberof ys count slots
carried means means' numberof xs ys count slots fits there back index =
    record {
      fits = fits;
      room = index.room;
      points = index.points;
      first = λ j t h q v lt mp mq.
          let below : t.position < count = index.points j t h in
          index.first j t h q v lt (back t.position v below mp) (back q v (omega arith) mq);
      reach = λ p v lt m.
          let r = index.reach p v lt (back p v lt m) in
          record { step = r.step; entry = r.entry; near = r.near; slot = r.slot; meets = there r.entry v (index.points (walked (numberof v % length slots) r.step (length slots)) (record { number = numberof v; position = r.entry }) r.slot) r.meets; before = r.before };
    }
