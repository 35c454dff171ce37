use Rattle.std.proofs.Common.{ap, ◌∙◌, arith}
use Rattle.std.proofs.lemmas.Bool.Decides.{nat_tests}
use Rattle.std.proofs.lemmas.List.{take_rest}
use Rattle.script.specs.Lexing.{tokens}
use Rattle.script.proofs.Cuts.{past_blank}
use Rattle.script.proofs.line.past_blanks.Goals as goal

pub loop-rest-preserved : goal.loop-rest-preserved
loop-rest-preserved c = ap tokens (take_rest c.loop-rest.rest.now 1) ∙ past_blank c.loop-rest.rest.now (omega arith) (grind (arith, nat_tests)) ∙ c.loop-rest.invariant
