use Rattle.std.proofs.Common.{◌+◌, cond, is_some}
use Rattle.station.specs.Left.{left}
use Rattle.station.proofs.play.play.Given as goal

abbrev pub decreases-loop-opened : goal.decreases-loop-opened
decreases-loop-opened l = cond (is_some l.opened) (left l.lines + 1) 0
