use Rattle.std.proofs.Common.{◌≡◌, ◌%◌, None, length, get_or, sym, ap, ◌∙◌, below_more, mod-lt, rules, arith}
use Rattle.std.proofs.lemmas.List.{length_push}
use Rattle.std.proofs.lemmas.Bool.{both_ways}
use Rattle.keyspace.specs.Slots.{walked}
use Rattle.keyspace.proofs.Rounds.{turns, ends}
use Rattle.keyspace.proofs.index.KeyedList.seek.Goals as goal

pub offset_bounds-slots-at : goal.offset_bounds-slots-at
offset_bounds-slots-at g c =
    let n = length c.args.slots.now in
    let home = c.number-number.result % n in
    let t = turns home n (mod-lt _ (omega arith)) (cc) (cc) (cc) (cc) c.loop-at.yielded _ c.loop-at.yielded_by _ _ c.in-Some.at c.in-Some.is c.next.ensures.steps in
    omega (arith, t.1)

pub bounds : goal.bounds
bounds g c =
    let n = length c.args.slots.now in
    let home = c.number-number.result % n in
    let t = turns home n (mod-lt _ (omega arith)) (cc) (cc) (cc) (cc) c.loop-at.yielded _ c.loop-at.yielded_by _ _ c.in-Some.at c.in-Some.is c.next.ensures.steps in
    t.1

pub returns-in-None-slots : goal.returns-in-None-slots
returns-in-None-slots g c =
    let n = length c.args.slots.now in
    let home = c.number-number.result % n in
    let t = turns home n (mod-lt _ (omega arith)) (cc) (cc) (cc) (cc) c.loop-at.yielded _ c.loop-at.yielded_by _ _ c.in-Some.at c.in-Some.is c.next.ensures.steps in
    let number = c.number-number.ensures.of_the_meaning in
    record {
      ends_at = record {
        its_number = number;
        step = length c.loop-at.yielded;
        near = t.0;
        is = t.2 ∙ ap (λ h. walked (h % n) (length c.loop-at.yielded) n) number;
        within = t.1;
        empty = c.in-None-slots.is;
        passed = c.loop-at.invariant.2;
      };
    }

pub loop-at-preserved : goal.loop-at-preserved
loop-at-preserved g c =
    let n = length c.args.slots.now in
    let home = c.number-number.result % n in
    let t = turns home n (mod-lt _ (omega arith)) (cc) (cc) (cc) (cc) c.loop-at.yielded _ c.loop-at.yielded_by _ _ c.in-Some.at c.in-Some.is c.next.ensures.steps in
    let number = c.number-number.ensures.of_the_meaning in
    let i = length c.loop-at.yielded in
    let is = t.2 ∙ ap (λ h. walked (h % n) i n) number in (
      search rules,
      search rules,
      λ j lt. below_more _ _ c.loop-at.invariant.2
          (record {
            taken = c.in-Some-slots.taken;
            slot = ap (λ a. get_or c.args.slots.now a None) (sym is) ∙ c.in-Some-slots.is;
            apart = λ e m. both_ways c.is_taken_by.result c.if-is_taken_by.false (c.is_taken_by.ensures.1 (e ∙ sym number, m));
          })
          j (omega (arith, length_push c.loop-at.yielded c.in-Some.at)),
    )

pub returns : goal.returns
returns g c =
    let n = length c.args.slots.now in
    let home = c.number-number.result % n in
    let all : length c.loop-at.yielded ≡ n = ends home n (mod-lt _ (omega arith)) (cc) (cc) (cc) (cc) c.loop-at.yielded _ c.loop-at.yielded_by _ _ c.in-None.is c.next.ensures.steps in
    record { ends_at = λ j lt. c.loop-at.invariant.2 j (omega arith) }
