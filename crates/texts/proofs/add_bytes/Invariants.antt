use Rattle.std.proofs.Common.{◌≡◌, ◌++◌, length, vec_items}
use Rattle.std.specs.Option.{option_map}
use Rattle.texts.specs.Encoded.{pairs_of, bytes_of}
use Rattle.texts.proofs.add_bytes.Given as goal

abbrev pub invariant-loop-rest : goal.invariant-loop-rest
invariant-loop-rest l = option_map (λ xs. vec_items l.out ++ xs) (pairs_of l.rest) ≡ option_map (λ xs. vec_items l.fn.out ++ xs) (bytes_of l.word)

abbrev pub decreases-loop-rest : goal.decreases-loop-rest
decreases-loop-rest l = length l.rest
