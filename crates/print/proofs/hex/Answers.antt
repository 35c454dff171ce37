use Rattle.carrier.proofs.Rows.{all_each}
use Rattle.print.proofs.Back.{hex_back}
use Rattle.print.proofs.hex.Goals as goal

pub returns-clause-read_back : goal.returns-clause-read_back
returns-clause-read_back c = hex_back c.args.bytes.now (all_each _ 0 c.args.bytes.now (λ i h. (c.type_inv.bytes i).fits))
