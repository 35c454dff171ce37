use Rattle.std.proofs.Common.{◌^◌, ◌<◌, subst, rules}
use Rattle.print.proofs.Back.{decimal_back}
use Rattle.answers.specs.Refusing.{TakenBack}
use Rattle.answers.proofs.Numbers.{when_printed}
use Rattle.answers.proofs.case.Goals as goal
use Rattle.answers.proofs.case.Goals.{in-Some+in_ok-write-2, in_default}

pub returns-clause-numbers_read_back : goal.returns-clause-numbers_read_back
returns-clause-numbers_read_back c =
    let number : c.number.result < 2 ^ 64 = search rules in
    let taken : TakenBack c.args.case.taken = elim c.match-taken.branch [
      | in-Some+in_ok-write-2 w ↦ let n : w.in-Some.n < 2 ^ 64 = search rules in rw w.in-Some.is (decimal_back w.in-Some.n n)
      | in_default w ↦ rw w.in_default.is tt
    ] in
    when_printed c.write-2.result (record {
      number = decimal_back _ (subst (λ n. n < 2 ^ 64) c.number.ensures.its_number number);
      field = decimal_back c.args.case.field.0 (search rules);
      taken = taken;
    })
