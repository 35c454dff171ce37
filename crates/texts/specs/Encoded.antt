-- The bytes and bits that words spell. Assumes nothing.
use Rattle.std.specs.Prelude.{◌≡◌, ℕ, zero, suc, ◌+◌, ◌-◌, ◌*◌, Bool, false, cond, not, ◌&&◌, ◌⊎◌, List, [], ◌∷◌, ◌++◌, length, Some, None, Ok, Err, Option, Result, ◌==◌, nat_le, nat_lt, slice_index}
use Rattle.std.specs.Option.{option_map}
use Rattle.spelling.specs.Decimals.{and_some}
use Rattle.spelling.specs.declared.bad.Bad.{Bad}
use Rattle.spelling.specs.declared.bad.Bad.TheVariants.{NoMemory}

-- 0..9, a..f or A..F
abbrev pub hex_digit : ℕ → Option ℕ
hex_digit b = cond (nat_le 48 b && nat_le b 57) (Some (b - 48)) (cond (nat_le 97 b && nat_le b 102) (Some (b - 87)) (cond (nat_le 65 b && nat_le b 70) (Some (b - 55)) None))

abbrev pub byte_of : ℕ → ℕ → Option ℕ
byte_of a b = and_some (hex_digit a) (λ h. and_some (hex_digit b) (λ l. Some (16 * h + l)))

abbrev pub onto : ℕ → Option (List ℕ) → Option (List ℕ)
onto x o = option_map (λ xs. x ∷ xs) o

-- two digits for each byte
unfoldable pub pairs_of : List ℕ → Option (List ℕ)
pairs_of [] = Some []
pairs_of (a ∷ []) = None
pairs_of (a ∷ b ∷ bs) = and_some (byte_of a b) (λ x. onto x (pairs_of bs))

-- behind an x
abbrev pub bytes_of : List ℕ → Option (List ℕ)
bytes_of [] = None
bytes_of (b ∷ bs) = cond (b == 120) (pairs_of bs) None

-- the number, its first digits standing for n
unfoldable pub hex_after : ℕ → List ℕ → Option ℕ
hex_after n [] = Some n
hex_after n (b ∷ bs) = and_some (hex_digit b) (λ d. hex_after (n * 16 + d) bs)

-- just so many digits behind an x
abbrev pub bits_of : ℕ → List ℕ → Option ℕ
bits_of k [] = None
bits_of k (b ∷ bs) = cond (length bs == k && b == 120) (hex_after 0 bs) None

-- a byte that stands in a text as it is: 21..7e save " \ ( )
abbrev pub shown : ℕ → Bool
shown b = nat_lt 32 b && nat_lt b 127 && not (b == 34) && not (b == 92) && not (b == 40) && not (b == 41)

-- the byte that \xHH spells
abbrev pub escape_of : List ℕ → Option ℕ
escape_of bs = cond (nat_le 4 (length bs) && slice_index bs 1 == 120) (byte_of (slice_index bs 2) (slice_index bs 3)) None

abbrev pub if_none : List ℕ → Option (List ℕ)
if_none [] = Some []
if_none (b ∷ bs) = None

-- the bytes up to the quote that ends the word, the first k of what is left having been read
unfoldable pub quoted : ℕ → List ℕ → Option (List ℕ)
quoted k [] = None
quoted (suc k) (b ∷ bs) = quoted k bs
quoted zero (b ∷ bs) = cond (b == 34) (if_none bs) (cond (b == 92) (and_some (escape_of (b ∷ bs)) (λ x. onto x (quoted 3 bs))) (cond (shown b) (onto b (quoted 0 bs)) None))

-- a quote stands first
abbrev pub is_text : List ℕ → Bool
is_text [] = false
is_text (b ∷ bs) = b == 34

abbrev pub text_of : List ℕ → Option (List ℕ)
text_of [] = None
text_of (b ∷ bs) = cond (b == 34) (quoted 0 bs) None

-- the bytes went to the end of the memory, or there are none and the call says e, or memory failed
abbrev pub Gains : Bad → Result (Unit {0}) Bad → Option (List ℕ) → List ℕ → List ℕ → Type 0
Gains e (Ok _) o before after = option_map (λ xs. before ++ xs) o ≡ Some after
Gains e (Err d) o before after = (d ≡ NoMemory) ⊎ ((d ≡ e) × (o ≡ None))
