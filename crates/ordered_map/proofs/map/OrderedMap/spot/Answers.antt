use Rattle.ordered_map.proofs.Lookups.{ends}
use Rattle.ordered_map.proofs.map.OrderedMap.spot.Goals as goal

pub returns : goal.returns
returns g c = record { ends_at = ends _ g.S.KeySpace.numberof c.args.self.now _ _ c.entries-entries.ensures.in_order c.seek.result c.seek.ensures.ends_at }
