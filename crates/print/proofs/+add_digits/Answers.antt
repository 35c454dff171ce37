use Rattle.std.proofs.Common.{◌-◌, ◌/◌, ◌%◌, cond, [], ◌∷◌, ◌++◌, is_ok, string_bytes, sym, ap, ◌∙◌, subst, arith}
use Rattle.print.specs.Printing.{Adds, glyph, hex_digits}
use Rattle.print.proofs.Adding.{then_adds, pushes, digits_none, digits_step}
use Rattle.print.proofs.+add_digits.Goals as goal

pub returns-then-count-eq0 : goal.returns-then-count-eq0
returns-then-count-eq0 t c = record { added = digits_none (string_bytes c.args.out.now) c.args.n c.args.count c.if-count-eq0.true }

pub returns : goal.returns
returns t c = record {
  added =
      let n = c.args.n in
      let k = c.args.count in
      let mid = string_bytes c.add_digits.new.out in
      let after = string_bytes c.push.new.self in
      let r = c.push.result in
      let last = c.push.ensures.ascii c.digit.ensures.ascii ∙ ap (λ x. x ∷ []) c.digit.ensures.the_digit in
      let e = c.push.ensures.bytes ∙ ap (λ l. cond (is_ok r) (mid ++ l) mid) last in
      subst (λ l. Adds r l (string_bytes c.args.out.now) after) (sym (digits_step n k (omega arith)))
      (then_adds r (string_bytes c.args.out.now) mid after (hex_digits (k - 1) (n / 16)) (glyph (n % 16) ∷ []) c.in_ok-add_digits.ensures.added (pushes r mid after (glyph (n % 16) ∷ []) e));
}
