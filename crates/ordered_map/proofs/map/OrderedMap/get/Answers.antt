use Rattle.std.proofs.Common.{◌≡◌, None, sym, subst, rules}
use Rattle.ordered_map.specs.Insertions.{LatestOfAny}
use Rattle.ordered_map.specs.Maps.{ValueOrNone, entries_of}
use Rattle.ordered_map.proofs.Lookups.{value_found, none_found}
use Rattle.ordered_map.proofs.Laws.{latest}
use Rattle.ordered_map.proofs.map.OrderedMap.get.Goals as goal

pub returns-in_err-place-clause-value : goal.returns-in_err-place-clause-value
returns-in_err-place-clause-value g c = λ is.
    let means = g.S.KeySpace.means c.args.space.now in
    let m = c.args.self.now in
    let e : c.from_residual.result ≡ None = search rules in
    subst (λ r. ValueOrNone means (entries_of m) (means c.args.key) r) (sym e) (none_found means _ m _ _ c.entries-entries.ensures.in_order c.in_err-place.ensures.first_position is)

pub returns-in_err-place-clause-latest_value : goal.returns-in_err-place-clause-latest_value
returns-in_err-place-clause-latest_value g c = λ is.
    let means = g.S.KeySpace.means c.args.space.now in
    let m = c.args.self.now in
    let e : c.from_residual.result ≡ None = search rules in
    subst (λ r. LatestOfAny means (entries_of m) (means c.args.key) r) (sym e)
    (λ news a. latest means news _ a (means c.args.key) None (none_found means _ m _ _ c.entries-entries.ensures.in_order c.in_err-place.ensures.first_position is))

pub returns-clause-value : goal.returns-clause-value
returns-clause-value g c = λ _.
    value_found _ g.S.KeySpace.numberof c.args.self.now _ _ c.entries-entries.ensures.in_order c.in_ok-place.place c.index-entries-place.result c.in_ok-place.ensures.only_meeting

pub returns-clause-latest_value : goal.returns-clause-latest_value
returns-clause-latest_value g c = λ _ news a.
    let means = g.S.KeySpace.means c.args.space.now in
    latest means news _ a (means c.args.key) _
    (value_found means g.S.KeySpace.numberof c.args.self.now _ _ c.entries-entries.ensures.in_order c.in_ok-place.place c.index-entries-place.result c.in_ok-place.ensures.only_meeting)
