use Rattle.std.proofs.Common.{◌≡◌, ◌++◌, length, vec_items}
use Rattle.std.specs.Option.{option_map}
use Rattle.texts.specs.Encoded.{quoted, text_of}
use Rattle.texts.proofs.add_text.Given as goal

abbrev pub invariant-loop-rest : goal.invariant-loop-rest
invariant-loop-rest l = option_map (λ xs. vec_items l.out ++ xs) (quoted 0 l.rest) ≡ option_map (λ xs. vec_items l.fn.out ++ xs) (text_of l.word)

abbrev pub decreases-loop-rest : goal.decreases-loop-rest
decreases-loop-rest l = length l.rest
