-- Numbers in a refusal that are read as the same again. Assumes nothing.
use Rattle.std.proofs.Common.{Ok, Err, Result}
use Rattle.std.specs.Prelude.{OnOk}

pub when_printed : {X Y P : Type 0} (r : Result X Y) → P → OnOk r P
when_printed (Ok x) p = p
when_printed (Err y) p = tt
