use Rattle.std.proofs.Common.{refl}
use Rattle.std.proofs.lemmas.Result.{err_from_is_err_and}
use Rattle.carrier.specs.Items.{truth, whole, single, double, a_truth, a_whole, a_single, a_double}
use Rattle.carrier.specs.declared.Item.TheVariants.{Truth, Whole, Single, Double}
use Rattle.transfer.proofs.Ones.{one_plain, one_run, one_run_missing, one_fixed, one_fixed_missing, one_fixed_lacks}
use Rattle.transfer.proofs.calls.take_one.Goals as goal

pub returns-in-Truth : goal.returns-in-Truth
returns-in-Truth g c = one_plain g.C.Carrier.code c.in-Truth.is c.args.so_far.bytes c.args.bytes.now truth Truth _ _ _ _ _ refl refl (λ b. a_truth) (λ b. refl) (λ b n. tt) (λ b h. refl) c.requires c.map.ensures.cases c.take_truth.ensures

pub returns-in-Whole : goal.returns-in-Whole
returns-in-Whole g c = one_plain g.C.Carrier.code c.in-Whole.is c.args.so_far.bytes c.args.bytes.now whole Whole _ _ _ _ _ refl refl (λ z. a_whole) (λ z. refl) (λ z n. tt) (λ z h. refl) c.requires c.map-in-Whole.ensures.cases c.take_whole.ensures

pub returns-in-Single : goal.returns-in-Single
returns-in-Single g c = one_plain g.C.Carrier.code c.in-Single.is c.args.so_far.bytes c.args.bytes.now single Single _ _ _ _ _ refl refl (λ n. a_single) (λ n. refl) (λ n m. tt) (λ n h. refl) c.requires c.map-in-Single.ensures.cases c.take_single.ensures

pub returns-in-Double : goal.returns-in-Double
returns-in-Double g c = one_plain g.C.Carrier.code c.in-Double.is c.args.so_far.bytes c.args.bytes.now double Double _ _ _ _ _ refl refl (λ n. a_double) (λ n. refl) (λ n m. tt) (λ n h. refl) c.requires c.map-in-Double.ensures.cases c.take_double.ensures

pub returns-in_err-len-in-Run : goal.returns-in_err-len-in-Run
returns-in_err-len-in-Run g c =
    let p = err_from_is_err_and c.from_residual.result c.from_residual.ensures.1 in
    let h = c.in_err-len-in-Run.ensures in
    rw (p.1, p.2) (one_run_missing g.C.Carrier.code _ _ _ _ _ _ _ _ _ c.in-Run.is c.requires h.0 h.1)

pub returns-in_ok-len-in-Run : goal.returns-in_ok-len-in-Run
returns-in_ok-len-in-Run g c = one_run g.C.Carrier.code _ _ _ _ _ _ _ _ c.in-Run.is c.requires c.take_run.auto.out c.in_ok-len-in-Run.ensures

pub returns-then-len-bytes : goal.returns-then-len-bytes
returns-then-len-bytes g c = rw c.no_memory.ensures.is (one_fixed_lacks g.C.Carrier.code _ _ _ _ _ _ c.in-Fixed.is c.if-len-bytes.true)

pub returns-in_err-take_fixed-in-Fixed : goal.returns-in_err-take_fixed-in-Fixed
returns-in_err-take_fixed-in-Fixed g c =
    let p = err_from_is_err_and c.from_residual-in_err-take_fixed-in-Fixed.result c.from_residual-in_err-take_fixed-in-Fixed.ensures.1 in
    let h = c.in_err-take_fixed-in-Fixed.ensures in
    rw (p.1, p.2) (one_fixed_missing g.C.Carrier.code _ _ _ _ _ _ _ c.in-Fixed.is c.requires c.if-len-bytes.false _ _ h.0 h.1)

pub returns-in_ok-take_fixed-in-Fixed : goal.returns-in_ok-take_fixed-in-Fixed
returns-in_ok-take_fixed-in-Fixed g c = one_fixed g.C.Carrier.code _ _ _ _ _ _ _ c.in-Fixed.is c.requires c.if-len-bytes.false c.take_fixed.auto.out c.in_ok-take_fixed-in-Fixed.ensures
