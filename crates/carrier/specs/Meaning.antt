-- What the code's items and faults stand for. Assumes nothing.
use Rattle.std.specs.Prelude.{ℕ, List, Some}
use Rattle.std.specs.Borrow.{Bor}
use Rattle.refusal.specs.declared.Case.{Case}
use Rattle.refusal.specs.declared.Layer.TheVariants.{Carrier}
use Rattle.refusal.specs.declared.Refusal.TheVariants.{ResultMemory, CarrierFull, NoSuchItem}
use Rattle.carrier.specs.Items.{Datum, truth, whole, single, double, run, fixed}
use Rattle.carrier.specs.declared.CarrierFault.{CarrierFault}
use Rattle.carrier.specs.declared.Item.{Item}
use Rattle.carrier.specs.declared.Item.TheVariants.{Truth, Whole, Single, Double, Run, Fixed}

abbrev pub datum : Item (Bor (List ℕ)) → Datum
datum (Truth b) = truth b
datum (Whole z) = whole z
datum (Single n) = single n
datum (Double n) = double n
datum (Run s) = run s.now
datum (Fixed s) = fixed s.now

-- the three faults of a carrier, with the numbers taken before
abbrev pub full : CarrierFault
full = record { refusal = CarrierFull; taken = 0 }

abbrev pub no_such_item : ℕ → CarrierFault
no_such_item n = record { refusal = NoSuchItem; taken = n }

abbrev pub no_memory : ℕ → CarrierFault
no_memory n = record { refusal = ResultMemory; taken = n }

abbrev pub case_of : CarrierFault → Case
case_of e = record { refusal = e.refusal; layer = Carrier; field = record { 0 = 0 }; taken = Some e.taken }
