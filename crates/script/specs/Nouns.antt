-- The items and kinds that words name. Assumes nothing.
use Rattle.std.specs.Prelude.{ℕ, ◌^◌, Bool, true, false, cond, List, [], ◌∷◌, Some, None, Ok, Err, codes, Option, Result}
use Rattle.std.specs.Option.{ok_or}
use Rattle.std.specs.Str.{bytes_eq}
use Rattle.carrier.specs.Items.{Datum, truth, whole, single, double, run, fixed}
use Rattle.carrier.specs.declared.Kind.{Kind}
use Rattle.carrier.specs.declared.Kind.TheVariants as kind
use Rattle.spelling.specs.Decimals.{decimal_of, under, signed_of}
use Rattle.texts.specs.Encoded.{bytes_of, bits_of, is_text, text_of}
use Rattle.script.specs.Lexing.{Tok}
use Rattle.spelling.specs.Naming.{lookup}
use Rattle.script.specs.Shapes.{and_then, rows}
use Rattle.spelling.specs.declared.bad.Bad.{Bad}
use Rattle.spelling.specs.declared.bad.Bad.TheVariants.{NotANumber, NotBytes, NotBits, NotText, NotAnItem, NotAKind}
use Rattle.script.specs.declared.items.Noun.{Noun}
use Rattle.script.specs.declared.items.Noun.TheVariants.{Truth, Whole, Single, Double, Run, Fixed}

abbrev pub noun_name : Noun → List ℕ
noun_name Truth = codes "truth"
noun_name Whole = codes "whole"
noun_name Single = codes "single"
noun_name Double = codes "double"
noun_name Run = codes "run"
noun_name Fixed = codes "fixed"

abbrev pub noun_of : List ℕ → Option Noun
noun_of w = lookup noun_name w (Truth ∷ Whole ∷ Single ∷ Double ∷ Run ∷ Fixed ∷ [])

abbrev pub truth_of : List ℕ → Result Bool Bad
truth_of w = cond (bytes_eq w (codes "true")) (Ok true) (cond (bytes_eq w (codes "false")) (Ok false) (Err NotAnItem))

-- a text where a quote stands first and texts may stand, else bytes in hex
abbrev pub spanned_of : Bool → List ℕ → Result (List ℕ) Bad
spanned_of true w = cond (is_text w) (ok_or (text_of w) NotText) (ok_or (bytes_of w) NotBytes)
spanned_of false w = ok_or (bytes_of w) NotBytes

abbrev pub item_by : Option Noun → List ℕ → Result Datum Bad
item_by None v = Err NotAnItem
item_by (Some Truth) v = and_then (truth_of v) (λ b. Ok (truth b))
item_by (Some Whole) v = and_then (ok_or (signed_of v) NotANumber) (λ z. Ok (whole z))
item_by (Some Single) v = and_then (ok_or (bits_of 8 v) NotBits) (λ n. Ok (single n))
item_by (Some Double) v = and_then (ok_or (bits_of 16 v) NotBits) (λ n. Ok (double n))
item_by (Some Run) v = and_then (spanned_of true v) (λ bs. Ok (run bs))
item_by (Some Fixed) v = and_then (spanned_of false v) (λ bs. Ok (fixed bs))

-- the item that a name and a value in brackets spell
abbrev pub item_of : List ℕ × List ℕ → Result Datum Bad
item_of p = item_by (noun_of p.0) p.1

abbrev pub size_of : List ℕ → Result ℕ Bad
size_of v = ok_or (under (2 ^ 64) (decimal_of v)) NotANumber

abbrev pub kind_alone : Option Noun → Result Kind Bad
kind_alone None = Err NotAKind
kind_alone (Some Truth) = Ok kind.Truth
kind_alone (Some Whole) = Ok kind.Whole
kind_alone (Some Single) = Ok kind.Single
kind_alone (Some Double) = Ok kind.Double
kind_alone (Some Run) = Err NotAKind
kind_alone (Some Fixed) = Err NotAKind

abbrev pub kind_by : Option Noun → List ℕ → Result Kind Bad
kind_by None v = Err NotAKind
kind_by (Some Truth) v = Err NotAKind
kind_by (Some Whole) v = Err NotAKind
kind_by (Some Single) v = Err NotAKind
kind_by (Some Double) v = Err NotAKind
kind_by (Some Run) v = and_then (size_of v) (λ n. Ok (kind.Run n))
kind_by (Some Fixed) v = and_then (size_of v) (λ n. Ok (kind.Fixed n))

-- the kind that a word alone names, and the one that a name and a number in brackets spell
abbrev pub kind_named : List ℕ → Result Kind Bad
kind_named w = kind_alone (noun_of w)

abbrev pub kind_of : List ℕ × List ℕ → Result Kind Bad
kind_of p = kind_by (noun_of p.0) p.1

-- the items that stand up to the end of a line, and the kinds
abbrev pub items_of : List Tok → Result (List Datum) Bad
items_of ts = rows NotAnItem (λ _. Err NotAnItem) item_of ts

abbrev pub kinds_of : List Tok → Result (List Kind) Bad
kinds_of ts = rows NotAKind kind_named kind_of ts
