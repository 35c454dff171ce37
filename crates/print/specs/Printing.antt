-- What is printed. Assumes nothing.
use Rattle.std.specs.Prelude.{◌≡◌, ℕ, zero, suc, ◌+◌, ◌/◌, ◌%◌, cond, List, [], ◌∷◌, ◌++◌, codes, decimal, Result, OnOk, nat_lt}
use Rattle.std.specs.List.{flat_map}
use Rattle.std.specs.Fmt.{signed_decimal}
use Rattle.carrier.specs.Items.{Datum, truth, whole, single, double, run, fixed}
use Rattle.transfer.specs.Cells.{read}
use Rattle.transfer.specs.Cells.{Cell}
use Rattle.texts.specs.Encoded.{shown}
use Rattle.script.specs.Nouns.{noun_name}
use Rattle.script.specs.declared.items.Noun.{Noun}
use Rattle.script.specs.declared.items.Noun.TheVariants.{Truth, Whole, Single, Double, Run, Fixed}

-- these bytes were added, if there was memory
abbrev pub Adds : {X Y : Type 0} → Result X Y → List ℕ → List ℕ → List ℕ → Type 0
Adds r ys before after = OnOk r (after ≡ before ++ ys)

-- the hex digit of a number below 16
abbrev pub glyph : ℕ → ℕ
glyph d = cond (nat_lt d 10) (48 + d) (87 + d)

-- the last k hex digits of a number
unfoldable pub hex_digits : ℕ → ℕ → List ℕ
hex_digits zero n = []
hex_digits (suc k) n = hex_digits k (n / 16) ++ glyph (n % 16) ∷ []

abbrev pub hex_text : List ℕ → List ℕ
hex_text bs = 120 ∷ flat_map (hex_digits 2) bs

-- a byte of a text: as it is, or \xHH
abbrev pub byte_text : ℕ → List ℕ
byte_text b = cond (shown b) (b ∷ []) (92 ∷ 120 ∷ hex_digits 2 b)

abbrev pub text_text : List ℕ → List ℕ
text_text bs = 34 ∷ (flat_map byte_text bs ++ 34 ∷ [])

-- numbers, a blank between them
abbrev pub numbers_text : List ℕ → List ℕ
numbers_text [] = []
numbers_text (n ∷ ns) = decimal n ++ flat_map (λ m. 32 ∷ decimal m) ns

abbrev pub words_text : List ℕ → List ℕ
words_text ns = 40 ∷ (numbers_text ns ++ 41 ∷ [])

abbrev pub noun_in : Datum → Noun
noun_in (truth b) = Truth
noun_in (whole z) = Whole
noun_in (single n) = Single
noun_in (double n) = Double
noun_in (run bs) = Run
noun_in (fixed bs) = Fixed

-- the value of an item
abbrev pub value_text : Datum → List ℕ
value_text (truth b) = cond b (codes "true") (codes "false")
value_text (whole z) = signed_decimal z
value_text (single n) = 120 ∷ hex_digits 8 n
value_text (double n) = 120 ∷ hex_digits 16 n
value_text (run bs) = text_text bs
value_text (fixed bs) = hex_text bs

-- (NAME VALUE)
abbrev pub item_text : Datum → List ℕ
item_text d = 40 ∷ (noun_name (noun_in d) ++ (32 ∷ (value_text d ++ 41 ∷ [])))

-- the items of cells, a blank before each
abbrev pub cells_text : List ℕ → List Cell → List ℕ
cells_text bytes cells = flat_map (λ c. 32 ∷ item_text (read bytes c)) cells
