use Rattle.std.proofs.Common.{false, [], ◌∷◌, ◌++◌, get_or, string_bytes, ap, ◌∙◌}
use Rattle.transfer.specs.Cells.{read}
use Rattle.carrier.specs.declared.Item.TheVariants.{Truth}
use Rattle.print.specs.Printing.{item_text}
use Rattle.print.proofs.Adding.{then_added, joins_more, joins_all}
use Rattle.print.proofs.items.Goals as goal

pub loop-cell-preserved : goal.loop-cell-preserved
loop-cell-preserved c =
    let s1 = string_bytes c.loop-cell.out in
    let s2 = string_bytes c.push_str.new.self in
    let s3 = string_bytes c.item.new.out in
    let d = read c.args.bytes.now (get_or c.args.cells.now c.loop-cell.cell-index (Truth false)) in
    joins_more (λ x. 32 ∷ item_text (read c.args.bytes.now x)) (string_bytes c.args.out.now) c.args.cells.now s1 s3 c.loop-cell.cell-index (Truth false) c.loop-cell-test.true c.loop-cell.invariant
    (then_added s1 s2 s3 (32 ∷ []) (item_text d) c.in_ok-push_str.ensures.bytes (c.in_ok-item.ensures.added ∙ ap (λ x. s2 ++ item_text x) c.item_in.ensures.is_read))

pub returns : goal.returns
returns c = record { added = joins_all (λ x. 32 ∷ item_text (read c.args.bytes.now x)) (string_bytes c.args.out.now) c.args.cells.now (string_bytes c.loop-cell.out) c.loop-cell.cell-index c.loop-cell-test.false c.loop-cell.invariant }
