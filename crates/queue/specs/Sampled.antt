-- What published samples say of a code. Assumes nothing.

pub record Samples : Type 1 where
  pub says : Type 0
  pub holds : says

abbrev pub no_samples : Samples
no_samples = record { says = Unit {0}; holds = tt }
