use Rattle.std.proofs.Common.{subst}
use Rattle.spelling.specs.Decimals.{Converts}
use Rattle.spelling.proofs.numbers.number.Goals as goal

pub returns : goal.returns
returns g c = record { converted = subst (λ o. Converts g.T.TryFrom.try_from_gives o c.ok.result) c.in_ok-natural.ensures.spelled (c.try_from.result, c.try_from.ensures, c.ok.ensures.value) }
