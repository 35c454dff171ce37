use Rattle.std.proofs.Common.{rules}
use Rattle.std.proofs.lemmas.Iterator.{YieldsList-from_slice, cases_from_all}
use Rattle.ordered_map.specs.Content.{Holds}
use Rattle.ordered_map.proofs.Pairs.{within_decided}
use Rattle.ordered_map.proofs.content.is_within.Goals as goal

pub returns : goal.returns
returns g c =
    let means = g.S.KeySpace.means c.args.space.now in
    let b = c.args.b.now in
    within_decided means c.args.a.now b _
    (cases_from_all _ _ _ (λ x. Holds means b (means x)) (λ x. Holds means b (means x) → ⊥) c.all.ensures.ran (YieldsList-from_slice c.args.a.now cc) (λ x q k. search rules) (λ x q k. search rules))
