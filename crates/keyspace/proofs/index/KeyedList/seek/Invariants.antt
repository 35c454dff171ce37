use Rattle.std.proofs.Common.{length}
use Rattle.keyspace.specs.Lists.{means, entry_means}
use Rattle.keyspace.specs.Spots.{Passed}
use Rattle.keyspace.proofs.index.KeyedList.seek.Given as goal

abbrev pub invariant-loop-at : goal.invariant-loop-at
invariant-loop-at g l =
    (goal.iterator-loop-at g).can_next l.at-iterator ×
    (goal.iterator-loop-at g).is_finite l.at-iterator ×
    Passed (entry_means g.S.KeySpace g.E.Keyed.keyed l.self) g.S.KeySpace.numberof l.self.entries.now l.slots (means g.S.KeySpace g.E.Keyed.keyed l.self l.key) (length l.yielded)
