use Rattle.std.proofs.Common.{◌-◌, arith, rules}
use Rattle.std.specs.List.{between}
use Rattle.std.proofs.lemmas.List.{length-take, length-drop}
use Rattle.queue.proofs.Places.{written}
use Rattle.queue.proofs.lent.calls.QueueCarrier.put.Goals as goal

pub returns : goal.returns
returns g c =
    let q = c.args.self.now in
    let out = between q.write_at c.max.result q.memory.now in
    written g.C.Coding.number q.memory.now q.take_at q.write_at q.capacity q.taken q.written _ (c.max.result - q.write_at) c.in_ok-n.n out c.write.new.out
    q.holds (omega (arith, c.max.ensures)) (simp (length-take, length-drop) (omega (arith, c.max.ensures, q.holds, q.written))) (search rules)
