use Rattle.std.proofs.Common.{sym}
use Rattle.ordered_map.specs.Content.{pair_of}
use Rattle.ordered_map.proofs.Pairs.{equal_within}
use Rattle.ordered_map.proofs.content.Pairs.is_equal.Goals as goal

pub returns-clause-equal_has_same_content : goal.returns-clause-equal_has_same_content
returns-clause-equal_has_same_content g c = λ e.
    let pair = pair_of (g.S.KeySpace.means c.args.self.now.keys.now) (g.T.KeySpace.means c.args.self.now.values.now) in
    let same = c.means_same.ensures.0 e in
    record { there = equal_within pair _ _ same; back = equal_within pair _ _ (sym same) }
