-- Items that own their bytes. Assumes nothing.
use Rattle.std.specs.Prelude.{ℕ, vec_items}
use Rattle.std.specs.declared.vec.Vec.{Vec}
use Rattle.carrier.specs.Items.{Datum, truth, whole, single, double, run, fixed}
use Rattle.carrier.specs.declared.Item.{Item}
use Rattle.carrier.specs.declared.Item.TheVariants.{Truth, Whole, Single, Double, Run, Fixed}

abbrev pub owned : {A : Type 0} → Item (Vec ℕ A) → Datum
owned (Truth b) = truth b
owned (Whole z) = whole z
owned (Single n) = single n
owned (Double n) = double n
owned (Run bs) = run (vec_items bs)
owned (Fixed bs) = fixed (vec_items bs)
