use Rattle.std.proofs.Common.{◌≡◌, ◌^◌, ◌<◌, drop}
use Rattle.spelling.specs.Decimals.{decimal_after, decimal_of, under}
use Rattle.spelling.proofs.numbers.natural.Given as goal

abbrev pub invariant-loop-b : goal.invariant-loop-b
invariant-loop-b l = (l.n < 2 ^ 64) × (under (2 ^ 64) (decimal_after l.n (drop l.b-index l.word)) ≡ under (2 ^ 64) (decimal_of l.word))
