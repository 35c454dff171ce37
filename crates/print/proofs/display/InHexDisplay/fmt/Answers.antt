use Rattle.std.proofs.Common.{◌<◌, ◌/◌, ◌%◌, [], ◌∷◌, ◌++◌, List, ℕ, get_or, take, rules}
use Rattle.std.specs.List.{flat_map}
use Rattle.std.proofs.Output.{has_written_append, has_written_of_eq}
use Rattle.print.specs.Printing.{glyph, hex_digits}
use Rattle.print.proofs.Adding.{byte_more}
use Rattle.print.proofs.display.InHexDisplay.fmt.Goals as goal

pub loop-b-preserved : goal.loop-b-preserved
loop-b-preserved g c plain =
    let bs = c.args.self.now.0.now in
    let i = c.loop-b.b-index in
    let before : List ℕ = flat_map (hex_digits 2) (take i bs) in
    let high : List ℕ = glyph (get_or bs i 0 / 16) ∷ [] in
    let low : List ℕ = glyph (get_or bs i 0 % 16) ∷ [] in
    let fits : get_or bs i 0 < 256 = search rules in
    has_written_of_eq _ _ ((before ++ high) ++ low) _ _ (byte_more bs i c.loop-b-test.true fits)
    (has_written_append _ c.write_str.new.self (before ++ high) c.write_str-in-loop-b.new.self low c.write_str-in-loop-b-2.new.self
    (has_written_append _ c.write_str.new.self before c.loop-b.f high c.write_str-in-loop-b.new.self (c.loop-b.invariant plain) (search rules)) (search rules))
