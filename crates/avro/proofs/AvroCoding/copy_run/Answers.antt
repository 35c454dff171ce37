use Rattle.std.proofs.Common.{◌-◌, ◌+◌, ◌^◌, ◌<◌, min, length, sym, refl, ◌∙◌, subst, arith, rules}
use Rattle.carrier.specs.Items.{Bytes}
use Rattle.carrier.proofs.Rows.{all_each, all_part}
use Rattle.std.proofs.lemmas.List.{map-id}
use Rattle.avro.proofs.Runs.{none_run, run_copied}
use Rattle.avro.proofs.AvroCoding.copy_run.Goals as goal

pub returns-in_err-at : goal.returns-in_err-at
returns-in_err-at c = rw c.from_residual.ensures (
  refl,
  (λ d rest o h e.
      none_run c.args.row.now (min c.args.most (length c.args.out.now)) (λ bs rest h small e. c.in_err-at.ensures bs rest h (omega (arith, small, c.min.ensures)) e)
      d rest o h (sym (map-id c.args.row.now) ∙ e)),
)

pub returns : goal.returns
returns c =
    let h = c.in_ok-at.ensures in
    let long : length c.args.row.now < 2 ^ 63 = search rules in
    let row : Bytes c.args.row.now = all_each (λ b. b < 256) 0 c.args.row.now (λ i h. (c.type_inv.row i).fits) in
    let bytes = subst Bytes (sym c.copy_from_slice.ensures.after) (all_part (λ b. b < 256) c.in_ok-at.at (c.in_ok-at.at + c.in_ok-at.len - c.in_ok-at.at) c.args.row.now row) in
    run_copied c.args.row.now c.args.out.now c.copy_from_slice.new.self c.args.most c.in_ok-at.at c.in_ok-at.len (omega (arith, h.0, c.min.ensures)) long bytes h.1 c.copy_from_slice.ensures.after
