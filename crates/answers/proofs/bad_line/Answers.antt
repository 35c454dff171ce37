use Rattle.print.proofs.Back.{decimal_back}
use Rattle.answers.proofs.bad_line.Goals as goal

pub returns-clause-line_reads_back : goal.returns-clause-line_reads_back
returns-clause-line_reads_back c = decimal_back c.args.line c.ranges.line.fits
