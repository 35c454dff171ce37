use Rattle.queue.proofs.Places.{skipped_some}
use Rattle.queue.proofs.lent.Queue.skip.Goals as goal

pub returns-else-self : goal.returns-else-self
returns-else-self g c =
    let q = c.args.self.now in
    skipped_some g.C.Coding.number q.memory.now q.take_at q.write_at q.capacity q.taken q.written c.args.n c.requires c.if-self.false
