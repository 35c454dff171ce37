use Rattle.std.proofs.Common.{◌≡◌, option_map, rules}
use Rattle.keyspace.proofs.Answered.{first_field}
use Rattle.keyspace.proofs.fields.position_of.Goals as goal

pub returns-clause-first_position : goal.returns-clause-first_position
returns-clause-first_position g c =
    let e : c.map.result ≡ option_map (λ p. record { 0 = p }) c.in_ok-find.field-0 = search rules in
    first_field _ _ _ c.in_ok-find.field-0 c.map.result e c.in_ok-find.ensures.first_position
