-- The ids and names that words spell. Assumes nothing.
use Rattle.std.specs.Prelude.{ℕ, ◌^◌, cond, ◌&&◌, List, length, Some, None, Ok, Option, Result, nat_le}
use Rattle.std.specs.Option.{ok_or}
use Rattle.spelling.specs.Decimals.{decimal_of, under}
use Rattle.texts.specs.Encoded.{text_of}
use Rattle.spelling.specs.declared.bad.Bad.{Bad}
use Rattle.spelling.specs.declared.bad.Bad.TheVariants.{NotANumber, NotText}
use Rattle.script.specs.Shapes.{and_then}

-- an id has 32 bits
abbrev pub id_of : List ℕ → Result (Option ℕ) Bad
id_of w = and_then (ok_or (under (2 ^ 32) (decimal_of w)) NotANumber) (λ n. Ok (Some n))

-- a text of 1 to 64 bytes is a name
abbrev pub named : List ℕ → Option (List ℕ)
named t = cond (nat_le 1 (length t) && nat_le (length t) 64) (Some t) None

abbrev pub name_of : List ℕ → Result (Option (List ℕ)) Bad
name_of w = and_then (ok_or (text_of w) NotText) (λ t. Ok (named t))
