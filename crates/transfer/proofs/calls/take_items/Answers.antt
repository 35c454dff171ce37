use Rattle.std.proofs.Common.{length, ap, ◌∙◌, arith}
use Rattle.std.proofs.lemmas.Result.{err_from_is_err_and}
use Rattle.carrier.specs.Items.{bulk}
use Rattle.transfer.proofs.Takes.{midway_more, numbers_fit, stop_cells, stop_one, took_all}
use Rattle.transfer.proofs.Back.{back_all, back_stopped}
use Rattle.transfer.proofs.calls.take_items.Goals as goal

pub returns-then-i-cells-clause-one_after_another : goal.returns-then-i-cells-clause-one_after_another
returns-then-i-cells-clause-one_after_another g c = (c.loop-i.i, stop_cells c.loop-i.invariant c.loop-i-test.true _ c.no_memory.ensures.is (omega (arith, c.if-i-cells.true, c.loop-i.auto.cells)))

pub returns-in_err-cell : goal.returns-in_err-cell
returns-in_err-cell g c =
    let p = err_from_is_err_and c.from_residual.result c.from_residual.ensures.1 in
    let e = stop_one c.loop-i.invariant c.loop-i-test.true c.in_err-cell.field-0.0 c.loop-i.auto.bytes (omega (arith, c.if-i-cells.false, c.loop-i.auto.cells)) c.in_err-cell.ensures in
    rw (p.1, p.2) (record { one_after_another = (c.loop-i.i, e); comes_back = back_stopped g.C.Carrier.laws.apart e })

pub overflow_add-so_far-in-loop-i : goal.overflow_add-so_far-in-loop-i
overflow_add-so_far-in-loop-i g c =
    let f = numbers_fit c.loop-i.invariant c.loop-i-test.true c.loop-i.auto.bytes c.if-i-cells.false c.in_ok-cell.ensures in
    record { fits = omega (arith, f, c.price.ensures, ap (λ i. length (g.C.Carrier.code i)) c.item_in-item.ensures.is_read) }

pub loop-i-preserved : goal.loop-i-preserved
loop-i-preserved g c =
    let p = c.price.ensures ∙ ap (λ i. length (g.C.Carrier.code i)) c.item_in-item.ensures.is_read in
    let b = c.bulk.ensures.its_bytes ∙ ap bulk c.item_in-item.ensures.is_read in
    rw (b, p) (midway_more c.loop-i.invariant c.loop-i-test.true c.loop-i.auto.bytes c.if-i-cells.false c.in_ok-cell.ensures)

pub returns-clause-comes_back : goal.returns-clause-comes_back
returns-clause-comes_back g c ds rest p h row room fits =
    back_all g.C.Carrier.laws.apart (took_all c.loop-i.auto.cells (omega (arith, c.loop-i-test.false, c.loop-i.auto.i-end)) c.loop-i.invariant) ds rest p h row
