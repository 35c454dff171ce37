use Rattle.std.proofs.Common.{◌≡◌, length}
use Rattle.script.specs.Lexing.{tokens}
use Rattle.script.proofs.line.past_blanks.Given as goal

abbrev pub invariant-loop-rest : goal.invariant-loop-rest
invariant-loop-rest l = tokens l.rest ≡ tokens l.line

abbrev pub decreases-loop-rest : goal.decreases-loop-rest
decreases-loop-rest l = length l.rest
