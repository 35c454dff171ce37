use Rattle.std.proofs.Common.{◌≡◌, map, length, vec_items}
use Rattle.std.specs.List.{AllByRecursion}
use Rattle.transfer.specs.Cells.{read, Below}
use Rattle.script.specs.Cutting.{left}
use Rattle.script.specs.Nouns.{items_of}
use Rattle.script.specs.Shapes.{behind}
use Rattle.script.proofs.items.read_items.Given as goal

abbrev pub invariant-loop-token : goal.invariant-loop-token
invariant-loop-token l = AllByRecursion (Below (length (vec_items l.bytes))) (vec_items l.cells) × (behind (map (read (vec_items l.bytes)) (vec_items l.cells)) (items_of (left l.tokens)) ≡ items_of (left l.initial.tokens))

abbrev pub decreases-loop-token : goal.decreases-loop-token
decreases-loop-token l = length (left l.tokens)
