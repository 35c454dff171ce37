use Rattle.keyspace.proofs.Taking.{no_room, not_empty}
use Rattle.keyspace.proofs.Steps.{entered, written_in}
use Rattle.keyspace.proofs.index.KeyedList.enter.Goals as goal

pub unreachable-requires : goal.unreachable-requires
unreachable-requires g c =
    no_room c.args.slots.now _ c.args.position c.requires.index.room c.requires.room
    (λ i lt z. let o = c.in-Full.ensures.ends_at i lt in not_empty _ o.taken o.slot z)

pub returns-in-Found : goal.returns-in-Found
returns-in-Found g c = record { one_more = entered _ _ _ _ _ c.requires.index _ c.requires.its_key _ c.in-Found.ensures.ends_at }

pub returns-in-Free : goal.returns-in-Free
returns-in-Free g c = record { one_more = written_in _ _ _ _ _ c.requires.index _ c.requires.its_key _ _ c.in-Free.ensures.ends_at }
