use Rattle.std.proofs.Common.{◌≡◌, length, vec_items}
use Rattle.script.specs.Cutting.{left}
use Rattle.script.specs.Nouns.{kinds_of}
use Rattle.script.specs.Shapes.{behind}
use Rattle.script.proofs.items.read_kinds.Given as goal

abbrev pub invariant-loop-token : goal.invariant-loop-token
invariant-loop-token l = behind (vec_items l.all) (kinds_of (left l.tokens)) ≡ kinds_of (left l.initial.tokens)

abbrev pub decreases-loop-token : goal.decreases-loop-token
decreases-loop-token l = length (left l.tokens)
