use Rattle.std.proofs.Common.{◌+◌, ◌%◌, ◌≤◌, length, set, refl, arith, rules}
use Rattle.std.proofs.lemmas.List.{length-set, length-take, length-drop}
use Rattle.avro.proofs.Vars.{written_next, var_longer}
use Rattle.avro.specs.Codes.{groups_some}
use Rattle.avro.proofs.groups.+write_var.Goals as goal

pub slice_bounds-write_var-count : goal.slice_bounds-write_var-count
slice_bounds-write_var-count t c = rw length-set (omega (arith, c.requires, groups_some 9 c.args.n))

pub slice_bounds-write_var-start : goal.slice_bounds-write_var-start
slice_bounds-write_var-start t c =
    let h : 1 ≤ length (set c.args.out.now 0 (c.args.n % 128 + 128)) = rw length-set (omega (arith, c.requires, groups_some 9 c.args.n)) in
    search rules

pub write_var-requires : goal.write_var-requires
write_var-requires t c = (omega (arith, c.decreases, c.if-n-lt128.false), simp (length-take, length-drop, length-set) (omega (arith, var_longer c.args.n c.if-n-lt128.false (search rules), c.requires)))

pub returns-clause-after : goal.returns-clause-after
returns-clause-after t c = written_next c.args.n _ c.args.out.now c.write_var.new.out refl c.if-n-lt128.false (search rules) c.requires c.write_var.ensures.after
