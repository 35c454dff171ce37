use Rattle.std.proofs.Common.{refl}
use Rattle.keyspace.proofs.Walks.{none_unless_found, first_by_found}
use Rattle.keyspace.proofs.index.KeyedList.lookup.Goals as goal

pub returns-in-Found-clause-first_position : goal.returns-in-Found-clause-first_position
returns-in-Found-clause-first_position g c = λ index. first_by_found _ _ _ _ _ _ index _ c.in-Found.ensures.ends_at

pub returns-in-Free : goal.returns-in-Free
returns-in-Free g c = record { only_meeting = tt; first_position = λ index. none_unless_found _ _ _ _ _ _ index refl c.seek.result c.seek.ensures.ends_at c.in-Free.is }
