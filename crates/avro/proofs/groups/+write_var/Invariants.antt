use Rattle.avro.proofs.groups.+write_var.Given as goal

abbrev pub decreases-write_var : goal.decreases-write_var
decreases-write_var l = l.n
