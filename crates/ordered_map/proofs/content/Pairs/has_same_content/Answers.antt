use Rattle.ordered_map.proofs.Laws.{same_content}
use Rattle.ordered_map.proofs.content.Pairs.has_same_content.Goals as goal

pub returns-then-is_within-clause-same_content : goal.returns-then-is_within-clause-same_content
returns-then-is_within-clause-same_content g c =
    let there = c.is_within.ensures in
    let back = c.is_within-then-is_within.ensures in
    (λ e. record { there = there.0 c.if-is_within.true; back = back.0 e }, λ s. back.1 s.back)

pub returns-then-is_within-clause-yes_in_any_order : goal.returns-then-is_within-clause-yes_in_any_order
returns-then-is_within-clause-yes_in_any_order g c = λ news mews d r a b.
    c.is_within-then-is_within.ensures.1 (same_content (g.S.KeySpace.means c.args.self.now.keys.now) (g.T.KeySpace.means c.args.self.now.values.now) news mews _ _ d r a b).back

pub returns-else-is_within-clause-yes_in_any_order : goal.returns-else-is_within-clause-yes_in_any_order
returns-else-is_within-clause-yes_in_any_order g c = λ news mews d r a b.
    c.is_within.ensures.1 (same_content (g.S.KeySpace.means c.args.self.now.keys.now) (g.T.KeySpace.means c.args.self.now.values.now) news mews _ _ d r a b).there
