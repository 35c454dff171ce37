use Rattle.print.proofs.Back.{decimal_back}
use Rattle.print.proofs.number.Goals as goal

pub returns-clause-reads_back : goal.returns-clause-reads_back
returns-clause-reads_back c = decimal_back c.args.n c.ranges.n.fits
