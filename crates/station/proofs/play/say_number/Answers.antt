use Rattle.print.proofs.Back.{decimal_back}
use Rattle.station.proofs.play.say_number.Goals as goal

pub returns-in_err-push_str-clause-reads_back : goal.returns-in_err-push_str-clause-reads_back
returns-in_err-push_str-clause-reads_back c = decimal_back c.args.n c.ranges.n.fits
