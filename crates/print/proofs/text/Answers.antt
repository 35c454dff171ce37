use Rattle.std.proofs.Common.{[], ◌∷◌, string_bytes}
use Rattle.std.specs.List.{flat_map}
use Rattle.carrier.proofs.Rows.{all_each}
use Rattle.print.specs.Printing.{byte_text}
use Rattle.print.proofs.Adding.{then_added, then_adds, pushes, joins_more, joins_all}
use Rattle.print.proofs.Back.{text_back}
use Rattle.print.proofs.text.Goals as goal

pub loop-b-preserved : goal.loop-b-preserved
loop-b-preserved c =
    joins_more byte_text (string_bytes c.push_str.new.self) c.args.bytes.now (string_bytes c.loop-b.out) (string_bytes c.text_byte.new.out) c.loop-b.b-index 0 c.loop-b-test.true c.loop-b.invariant
    c.in_ok-text_byte.ensures.added

pub returns : goal.returns
returns c = record {
  added =
      let before = string_bytes c.args.out.now in
      let out = string_bytes c.loop-b.out in
      let after = string_bytes c.push_str-2.new.self in
      let bs = c.args.bytes.now in
      let r = c.push_str-2.result in
      then_adds r before out after (34 ∷ flat_map byte_text bs) (34 ∷ [])
      (then_added before (string_bytes c.push_str.new.self) out (34 ∷ []) (flat_map byte_text bs) c.in_ok-push_str.ensures.bytes
      (joins_all byte_text (string_bytes c.push_str.new.self) bs out c.loop-b.b-index c.loop-b-test.false c.loop-b.invariant))
      (pushes r out after (34 ∷ []) c.push_str-2.ensures.bytes);
  reads_back = text_back c.args.bytes.now (all_each _ 0 c.args.bytes.now (λ i h. (c.type_inv.bytes i).fits));
}

pub returns-in_err-push_str-clause-reads_back : goal.returns-in_err-push_str-clause-reads_back
returns-in_err-push_str-clause-reads_back c = text_back c.args.bytes.now (all_each _ 0 c.args.bytes.now (λ i h. (c.type_inv.bytes i).fits))

pub returns-in_err-text_byte-clause-reads_back : goal.returns-in_err-text_byte-clause-reads_back
returns-in_err-text_byte-clause-reads_back c = text_back c.args.bytes.now (all_each _ 0 c.args.bytes.now (λ i h. (c.type_inv.bytes i).fits))
