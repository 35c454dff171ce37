use Rattle.std.proofs.Common.{◌≡◌, ◌^◌, ◌<◌, drop}
use Rattle.texts.specs.Encoded.{hex_after}
use Rattle.texts.proofs.bits.Given as goal

abbrev pub invariant-loop-b : goal.invariant-loop-b
invariant-loop-b l = (l.n < 16 ^ l.b-index) × (hex_after l.n (drop l.b-index l.rest) ≡ hex_after 0 l.rest)
