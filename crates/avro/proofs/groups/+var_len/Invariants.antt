use Rattle.avro.proofs.groups.+var_len.Given as goal

abbrev pub decreases-var_len : goal.decreases-var_len
decreases-var_len l = l.n
