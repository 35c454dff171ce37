use Rattle.std.proofs.Common.{[], ◌∷◌, string_bytes}
use Rattle.print.specs.Printing.{hex_digits}
use Rattle.print.proofs.Adding.{then_adds}
use Rattle.print.proofs.bits.Goals as goal

pub returns : goal.returns
returns c = record {
  added =
      then_adds c.add_digits.result (string_bytes c.args.out.now) (string_bytes c.push_str.new.self) (string_bytes c.add_digits.new.out) (120 ∷ []) (hex_digits c.args.count c.args.n)
      c.in_ok-push_str.ensures.bytes c.add_digits.ensures.added;
}
