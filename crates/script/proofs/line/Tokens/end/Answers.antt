use Rattle.std.proofs.Common.{◌<◌, length, sym, ap, ◌∙◌, rules}
use Rattle.script.specs.Shapes.{at_end}
use Rattle.script.proofs.Cuts.{cut_none, cut_some}
use Rattle.script.proofs.line.Tokens.end.Goals as goal

pub returns-then-is_empty : goal.returns-then-is_empty
returns-then-is_empty c = record { nothing_left = sym (ap at_end (sym c.past_blanks.ensures.same_tokens ∙ cut_none c.past_blanks.result.now (search rules))) }

pub returns : goal.returns
returns c = record {
  nothing_left =
      let line = c.past_blanks.result.now in
      let some : 0 < length line = search rules in
      sym (ap at_end (sym c.past_blanks.ensures.same_tokens) ∙ cut_some line some (c.past_blanks.ensures.at_no_blank some));
}
