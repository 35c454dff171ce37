-- Lists of items that go through a carrier one after another. Assumes nothing.
use Rattle.std.specs.Prelude.{◌≡◌, ℕ, List, length, Ok, Err, Result}
use Rattle.std.specs.List.{flat_map}
use Rattle.carrier.specs.Items.{Datum, Held, All}
use Rattle.carrier.specs.Meaning.{full}
use Rattle.carrier.specs.Steps.{State, Added, TooLong}
use Rattle.carrier.specs.declared.CarrierFault.{CarrierFault}

-- the codes of the items, one after another
abbrev pub codes : (Datum → List ℕ) → List Datum → List ℕ
codes code ds = flat_map code ds

-- all of the items were put, and the answer is how many numbers that added; or none
abbrev pub PutsAll : (Datum → List ℕ) → List Datum → Result ℕ CarrierFault → State → State → Type 0
PutsAll code ds (Ok n) s t = (n ≡ length (codes code ds)) × All Held ds × Added (codes code ds) s t
PutsAll code ds (Err e) s t = (e ≡ full) × TooLong (codes code ds) s t
