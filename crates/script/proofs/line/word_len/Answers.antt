use Rattle.std.proofs.Common.{◌≡◌, true, false, rules, ◌∙◌}
use Rattle.std.proofs.lemmas.Iterator.{YieldsList-from_slice, IsFirst-from_position}
use Rattle.script.specs.Lexing.{in_word}
use Rattle.script.proofs.Cuts.{len_of_place}
use Rattle.script.proofs.line.word_len.Goals as goal

pub returns : goal.returns
returns c = record {
  up_to_its_end =
      let line = c.args.line.now in
      let place = IsFirst-from_position _ _ _ (λ b. in_word b ≡ false) (λ b. in_word b ≡ true) c.position.ensures.ran (YieldsList-from_slice line cc) (λ x q k. search rules) (λ x q k. search rules) in
      c.unwrap_or.ensures ∙ len_of_place line c.position.result _ (search rules) place;
}
