use Rattle.std.proofs.Common.{◌≡◌, length}
use Rattle.script.specs.Cutting.{left}
use Rattle.script.specs.Seeking.{so_far, behind_all, seeks}
use Rattle.script.proofs.sought.read_sought.Given as goal

abbrev pub invariant-loop-among : goal.invariant-loop-among
invariant-loop-among g l = behind_all (so_far g.K.Spelled.means l.among) (seeks g.K.Spelled.spelled (left l.tokens)) ≡ seeks g.K.Spelled.spelled (left l.initial.tokens)

abbrev pub decreases-loop-among : goal.decreases-loop-among
decreases-loop-among g l = length (left l.tokens)
