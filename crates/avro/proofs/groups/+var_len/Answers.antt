use Rattle.std.proofs.Common.{arith, rules}
use Rattle.avro.proofs.Vars.{var_few, var_longer}
use Rattle.avro.proofs.groups.+var_len.Goals as goal

pub returns-else-n-lt128-clause-few : goal.returns-else-n-lt128-clause-few
returns-else-n-lt128-clause-few t c = omega (arith, var_few c.args.n, var_longer c.args.n c.if-n-lt128.false (search rules), c.var_len.ensures.size)
