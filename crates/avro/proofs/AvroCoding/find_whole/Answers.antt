use Rattle.std.proofs.Common.{sym, ◌∙◌}
use Rattle.std.proofs.lemmas.List.{map-id}
use Rattle.avro.specs.Avro.{zig}
use Rattle.avro.specs.Codes.{zig_small, small_64}
use Rattle.avro.proofs.Runs.{none_whole}
use Rattle.avro.proofs.AvroCoding.find_whole.Goals as goal

pub returns-in_err-n : goal.returns-in_err-n
returns-in_err-n c = rw c.from_residual.ensures (λ d rest o h e.
    none_whole c.args.row.now (λ z rest h e. c.in_err-n.ensures (zig z) rest (zig_small z h) (small_64 (zig z) (zig_small z h)) e) d rest o h (sym (map-id c.args.row.now) ∙ e))
