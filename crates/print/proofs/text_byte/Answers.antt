use Rattle.std.proofs.Common.{cond, [], ◌∷◌, string_bytes, subst}
use Rattle.print.specs.Printing.{Adds, hex_digits}
use Rattle.print.proofs.Adding.{then_adds}
use Rattle.print.proofs.text_byte.Goals as goal

pub returns : goal.returns
returns c = record {
  added =
      let b = c.args.b in
      let r = c.add_digits.result in
      let before = string_bytes c.args.out.now in
      let mid = string_bytes c.push_str.new.self in
      let after = string_bytes c.add_digits.new.out in
      subst (λ t. Adds r (cond t (b ∷ []) (92 ∷ 120 ∷ hex_digits 2 b)) before after) c.if-is_shown.ensures.tested
      (then_adds r before mid after (92 ∷ 120 ∷ []) (hex_digits 2 b) c.in_ok-push_str.ensures.bytes (subst (λ n. Adds r (hex_digits 2 n) mid after) c.from.ensures c.add_digits.ensures.added));
}
