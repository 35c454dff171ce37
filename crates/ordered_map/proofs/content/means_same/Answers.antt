use Rattle.std.proofs.Common.{◌≡◌, rules}
use Rattle.std.proofs.lemmas.Iterator.{YieldsList-from_slice, YieldsList-from_zip, cases_from_all}
use Rattle.ordered_map.proofs.Pairs.{equal_decided}
use Rattle.ordered_map.proofs.content.means_same.Goals as goal

pub returns-then-a-b : goal.returns-then-a-b
returns-then-a-b g c =
    let means = g.S.KeySpace.means c.args.space.now in
    equal_decided means c.args.a.now c.args.b.now _ c.if-a-b.true
    (cases_from_all c.all.new.self _ _ (λ p. means p.0 ≡ means p.1) (λ p. means p.0 ≡ means p.1 → ⊥) c.all.ensures.ran
    (YieldsList-from_zip (YieldsList-from_slice c.args.a.now cc) (YieldsList-from_slice c.args.b.now cc)) (λ x q k. search rules) (λ x q k. search rules))
