use Rattle.std.proofs.Common.{arith}
use Rattle.avro.proofs.Runs.{run_here, run_there}
use Rattle.avro.proofs.bytes.find_run.Goals as goal
use Rattle.avro.proofs.bytes.find_run.Goals.{then-n-ne0-via-then-n-ne0, then-n-ne0-via-else-n-ne0+then-len-most, then-n-ne0-via-else-n-ne0+else-len-most+then-len-s}

pub returns-then-n-ne0 : goal.returns-then-n-ne0
returns-then-n-ne0 c bs rest held few e =
    let h = run_there c.args.s.now c.in_ok-n.n c.in_ok-n.at c.in_ok-n.ensures bs rest held e in
    elim c.then-n-ne0.branch [
      | then-n-ne0-via-then-n-ne0 w ↦ w.if-n-ne0.true (omega (arith, h.0))
      | then-n-ne0-via-else-n-ne0+then-len-most w ↦ omega (arith, h.0, few, w.if-len-most.true)
      | then-n-ne0-via-else-n-ne0+else-len-most+then-len-s w ↦ omega (arith, h.0, h.1, w.if-len-s.true)
    ]

pub returns : goal.returns
returns c = (c.if-len-most.false, run_here c.args.s.now c.in_ok-n.n c.in_ok-n.at c.in_ok-n.ensures c.if-n-ne0.false c.if-len-s.false)
