-- What is printed is read as what it was. Assumes nothing.
use Rattle.std.specs.Prelude.{◌≡◌, ℕ, List, [], ◌∷◌, Some, Ok, decimal}
use Rattle.carrier.specs.Items.{Datum, truth, whole, single, double, run, fixed}
use Rattle.spelling.specs.Decimals.{decimal_of}
use Rattle.texts.specs.Encoded.{bytes_of, text_of}
use Rattle.script.specs.Lexing.{tokens}
use Rattle.script.specs.Nouns.{items_of}
use Rattle.print.specs.Printing.{hex_text, text_text, item_text}

abbrev pub NumberBack : ℕ → Type 0
NumberBack n = decimal_of (decimal n) ≡ Some n

abbrev pub BytesBack : List ℕ → Type 0
BytesBack bs = bytes_of (hex_text bs) ≡ Some bs

abbrev pub TextBack : List ℕ → Type 0
TextBack bs = text_of (text_text bs) ≡ Some bs

-- of a run: what its bytes are printed as is read as them
abbrev pub RunBack : Datum → Type 0
RunBack (truth b) = Unit {0}
RunBack (whole z) = Unit {0}
RunBack (single n) = Unit {0}
RunBack (double n) = Unit {0}
RunBack (run bs) = TextBack bs
RunBack (fixed bs) = Unit {0}

abbrev pub ItemBack : Datum → Type 0
ItemBack d = items_of (tokens (item_text d)) ≡ Ok (d ∷ [])
