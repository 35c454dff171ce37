use Rattle.transfer.proofs.Takes.{Midway}
use Rattle.transfer.proofs.calls.take_items.Given as goal

abbrev pub invariant-loop-i : goal.invariant-loop-i
invariant-loop-i g l = let m = g.C.Carrier in
    Midway m.code l.kinds l.i l.so_far.bytes l.so_far.numbers l.initial.cells l.cells l.initial.bytes l.bytes (m.state l.initial.c) (m.state l.c)
