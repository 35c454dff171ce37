use Rattle.std.proofs.Common.{◌≤◌}
use Rattle.station.specs.Left.{left}
use Rattle.station.proofs.play.play_on.Given as goal

abbrev pub invariant-loop-line : goal.invariant-loop-line
invariant-loop-line g l = left l.lines ≤ left l.initial.lines

abbrev pub decreases-loop-line : goal.decreases-loop-line
decreases-loop-line g l = left l.lines
