use Rattle.keyspace.specs.Lists.{IsIndexOf}
use Rattle.keyspace.proofs.index.KeyedList.build.Given as goal

abbrev pub invariant-loop-position : goal.invariant-loop-position
invariant-loop-position g l = IsIndexOf g.S.KeySpace g.E.Keyed.keyed l.self l.position l.slots
