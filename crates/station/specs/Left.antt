-- How much of a script is left. Assumes nothing.
use Rattle.std.specs.Prelude.{ℕ, length}
use Rattle.station.specs.declared.lines.Lines.{Lines}

abbrev pub left : Lines → ℕ
left l = length l.rest.now
