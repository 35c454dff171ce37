use Rattle.std.proofs.Common.{◌≡◌, ◌+◌, map, length, take}
use Rattle.carrier.specs.Items.{Held, All}
use Rattle.carrier.specs.Meaning.{datum}
use Rattle.carrier.specs.Lists.{codes}
use Rattle.transfer.proofs.Puts.{Sofar}
use Rattle.transfer.proofs.calls.put_items.Given as goal

abbrev pub invariant-loop-item : goal.invariant-loop-item
invariant-loop-item g l = let m = g.C.Carrier in
    (l.left + length (codes m.code (take l.item-index (map datum l.items))) ≡ l.room) × All Held (take l.item-index (map datum l.items))

abbrev pub invariant-loop-item-2 : goal.invariant-loop-item-2
invariant-loop-item-2 g l = let m = g.C.Carrier in
    Sofar m.code (map datum l.items) l.item-index (m.state l.initial.c) (m.state l.c)
