use Rattle.std.proofs.Common.{map, sym, refl, subst, arith}
use Rattle.std.proofs.lemmas.Result.{err_from_is_err_and}
use Rattle.carrier.specs.Items.{Held}
use Rattle.carrier.specs.Meaning.{datum}
use Rattle.carrier.proofs.Rows.{all_more}
use Rattle.transfer.proofs.Puts.{at, at_is, at_in, price_more, price_under, sofar_more, sofar_fits}
use Rattle.transfer.proofs.calls.put_items.Goals as goal

pub returns-in_err-left : goal.returns-in_err-left
returns-in_err-left g c =
    let xs = c.args.items.now in
    let i = c.loop-item.item-index in
    let h = c.loop-item-test.true in
    let u = price_under g.C.Carrier.code (map datum xs) i (at xs i h) (at_in xs i h) (at_is xs i h) in
    let p = err_from_is_err_and c.from_residual.result c.from_residual.ensures.1 in
    rw (p.1, p.2) (record { all_or_none = (grind arith, record { over = grind (arith, c.price-price.ensures, u, c.room-room.ensures, c.loop-item.invariant.0); same = refl }) })

pub loop-item-preserved : goal.loop-item-preserved
loop-item-preserved g c =
    let xs = c.args.items.now in
    let i = c.loop-item.item-index in
    let h = c.loop-item-test.true in
    let m = price_more g.C.Carrier.code (map datum xs) i (at xs i h) (at_in xs i h) (at_is xs i h) in
    (grind (arith, c.price-price.ensures, m, c.loop-item.invariant.0), all_more Held (map datum xs) i (at xs i h) (at_in xs i h) c.loop-item.invariant.1 (subst Held (sym (at_is xs i h)) c.item_held.ensures.held))

pub returns-in_err-put : goal.returns-in_err-put
returns-in_err-put g c =
    let xs = c.args.items.now in
    let i = c.loop-item-2.item-index in
    let h = c.loop-item-2-test.true in
    absurd (sofar_fits g.C.Carrier.code (map datum xs) i (at xs i h) (at_in xs i h) (at_is xs i h) _ _ _ c.loop-item-2.invariant c.in_err-put.ensures.1)

pub loop-item-2-preserved : goal.loop-item-2-preserved
loop-item-2-preserved g c =
    let xs = c.args.items.now in
    let i = c.loop-item-2.item-index in
    let h = c.loop-item-2-test.true in
    sofar_more g.C.Carrier.code (map datum xs) i (at xs i h) (at_in xs i h) (at_is xs i h) _ _ _ c.loop-item-2.invariant c.in_ok-put.ensures
