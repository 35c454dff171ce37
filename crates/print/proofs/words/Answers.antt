use Rattle.std.proofs.Common.{get_or}
use Rattle.carrier.proofs.Rows.{all_each}
use Rattle.print.proofs.Back.{decimal_back}
use Rattle.print.proofs.words.Goals as goal

pub returns-clause-numbers_read_back : goal.returns-clause-numbers_read_back
returns-clause-numbers_read_back c = all_each _ 0 c.args.row.now (λ i h. decimal_back (get_or c.args.row.now i 0) (c.type_inv.row i).fits)
