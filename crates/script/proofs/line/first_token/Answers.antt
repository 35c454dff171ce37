use Rattle.std.proofs.Common.{◌≡◌, ◌∷◌, get_or, true, sym, ap, ◌∙◌, arith}
use Rattle.std.proofs.lemmas.Bool.Decides.{nat_tests}
use Rattle.std.proofs.lemmas.List.{take_rest}
use Rattle.std.proofs.lemmas.List.Sums.{prefix_len-le-length}
use Rattle.script.specs.Lexing.{opening, closing, in_word, tokens}
use Rattle.script.proofs.Cuts.{cut_none, cut_open, cut_close, cut_word}
use Rattle.script.proofs.line.first_token.Goals as goal

pub split_at-requires : goal.split_at-requires
split_at-requires c = omega (arith, prefix_len-le-length in_word c.past_blanks-line.result.now)

pub returns-in-empty : goal.returns-in-empty
returns-in-empty c = record { cut_off = sym c.past_blanks-line.ensures.same_tokens ∙ cut_none c.past_blanks-line.result.now (omega arith) }

pub returns-in-40 : goal.returns-in-40
returns-in-40 c = record {
  cut_off =
      let line = c.past_blanks-line.result.now in
      sym c.past_blanks-line.ensures.same_tokens ∙ cut_open line (omega arith) (omega arith) ∙ ap (λ l. opening ∷ tokens l) (sym (take_rest line 1));
}

pub returns-in-41 : goal.returns-in-41
returns-in-41 c = record {
  cut_off =
      let line = c.past_blanks-line.result.now in
      sym c.past_blanks-line.ensures.same_tokens ∙ cut_close line (omega arith) (omega arith) ∙ ap (λ l. closing ∷ tokens l) (sym (take_rest line 1));
}

pub returns-in_default : goal.returns-in_default
returns-in_default c = record {
  cut_off =
      let line = c.past_blanks-line.result.now in
      let inner : in_word (get_or line 0 0) ≡ true = grind (arith, nat_tests, c.past_blanks-line.ensures.at_no_blank) in
      let e = cut_word line (omega arith) inner in
      cc;
}
