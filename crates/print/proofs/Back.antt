-- What is printed of an item is read as that item. Assumes nothing.
use Rattle.std.proofs.Common.{◌≡◌, ℕ, zero, suc, ◌+◌, ◌*◌, ◌/◌, ◌%◌, ◌^◌, ◌<◌, Bool, true, false, cond, ◌&&◌, List, [], ◌∷◌, ◌++◌, length, ℤ, pos, negsuc, Some, None, Ok, decimal, Option, sym, refl, ap, ◌∙◌, append_assoc, append-nil, pow-suc, zero-add, arith}
use lib.Signed.{mag}
use Rattle.std.specs.List.{flat_map, AllByRecursion}
use Rattle.std.specs.Option.{ok_or}
use Rattle.std.specs.Fmt.{signed_decimal}
use Rattle.std.proofs.lemmas.Nat.{div-add-mod', mod_below, div_below}
use Rattle.std.proofs.lemmas.Fmt.{decimal_by_steps, decimal_nonempty}
use Rattle.std.proofs.ByRecursion.{All-append, All-push}
use Rattle.std.proofs.lemmas.List.{length_push}
use Rattle.std.proofs.lemmas.Bool.{eq-eqb, ne_eqb, le-leb, lt-ltb}
use Rattle.std.proofs.lemmas.Bool.Decides.{nat_tests}
use Rattle.spelling.specs.Decimals.{digit_of, and_some, decimal_after, decimal_of, fitting, minus, signed_of}
use Rattle.carrier.specs.Items.{Datum, truth, whole, single, double, run, fixed, Bytes, Held}
use Rattle.texts.specs.Encoded.{hex_digit, byte_of, onto, pairs_of, bytes_of, hex_after, bits_of, shown, quoted, text_of}
use Rattle.script.specs.Lexing.{opening, closing, word, in_word, lexing, tokens}
use Rattle.script.specs.Nouns.{noun_name, noun_of, item_by, item_of, items_of}
use Rattle.print.specs.Printing.{noun_in, glyph, hex_digits, hex_text, byte_text, text_text, value_text, item_text}
use Rattle.print.specs.Laws.{RunBack}
use Rattle.script.specs.Shapes.{and_then, rows}
use Rattle.spelling.specs.declared.bad.Bad.TheVariants.{NotANumber, NotBytes, NotBits, NotText}
use Rattle.script.specs.declared.items.Noun.{Noun}
use Rattle.script.specs.declared.items.Noun.TheVariants.{Truth, Whole, Single, Double, Run, Fixed}
use Rattle.script.proofs.Cuts.{lex_blank, lex_inner, lex_bracket, lex_word, lex_none}
use Rattle.texts.proofs.Quotes.{plain_step}
use Rattle.spelling.proofs.Spelled.{read_start}

abbrev pub Word : List ℕ → Type 0
Word bs = AllByRecursion (λ b. in_word b ≡ true) bs

-- decimal digits
after_append : (n : ℕ) (xs ys : List ℕ) → decimal_after n (xs ++ ys) ≡ and_some (decimal_after n xs) (λ m. decimal_after m ys)
unfolding decimal_after
after_append n [] ys = refl
after_append n (x ∷ xs) ys = after_digit n (digit_of x) xs ys (λ m. after_append m xs ys)
  where
    after_digit : (n : ℕ) (o : Option ℕ) (xs ys : List ℕ) → ((m : ℕ) → decimal_after m (xs ++ ys) ≡ and_some (decimal_after m xs) (λ m. decimal_after m ys))
        → and_some o (λ d. decimal_after (n * 10 + d) (xs ++ ys)) ≡ and_some (and_some o (λ d. decimal_after (n * 10 + d) xs)) (λ m. decimal_after m ys)
    after_digit n None xs ys h = refl
    after_digit n (Some d) xs ys h = h (n * 10 + d)

digit_back : (d : ℕ) → d < 10 → digit_of (48 + d) ≡ Some d
digit_back d h = grind (arith, nat_tests)

digit_word : (d : ℕ) → d < 10 → in_word (48 + d) ≡ true
digit_word d h = grind (arith, nat_tests)

one_digit : (m d : ℕ) → d < 10 → decimal_after m ((48 + d) ∷ []) ≡ Some (m * 10 + d)
unfolding decimal_after
one_digit m d h = ap (λ o. and_some o (λ d. decimal_after (m * 10 + d) [])) (digit_back d h)

decimal_after_lem : (n : ℕ) → n < 2 ^ 64 → decimal_after 0 (decimal n) ≡ Some n
decimal_after_lem = decimal_by_steps (λ n ds. decimal_after 0 ds ≡ Some n)
    (λ n h. one_digit 0 n h ∙ ap Some (zero-add n))
    (λ n ds h e. after_append 0 ds ((48 + n % 10) ∷ []) ∙ ap (λ o. and_some o (λ m. decimal_after m ((48 + n % 10) ∷ []))) e ∙ one_digit (n / 10) (n % 10) (mod_below n 10 (omega arith)) ∙ ap Some (div-add-mod' n 10))

pub decimal_back : (n : ℕ) → n < 2 ^ 64 → decimal_of (decimal n) ≡ Some n
decimal_back n h = sym (read_start (decimal n) (decimal_nonempty n h)) ∙ decimal_after_lem n h

pub decimal_word : (n : ℕ) → n < 2 ^ 64 → Word (decimal n)
decimal_word = decimal_by_steps (λ n ds. Word ds) (λ n h. (digit_word n h, tt)) (λ n ds h w. All-push (λ b. in_word b ≡ true) ds (48 + n % 10) w (digit_word (n % 10) (mod_below n 10 (omega arith))))

-- hex digits
hexs_append : (n : ℕ) (xs ys : List ℕ) → hex_after n (xs ++ ys) ≡ and_some (hex_after n xs) (λ m. hex_after m ys)
unfolding hex_after
hexs_append n [] ys = refl
hexs_append n (x ∷ xs) ys = hexs_digit n (hex_digit x) xs ys (λ m. hexs_append m xs ys)
  where
    hexs_digit : (n : ℕ) (o : Option ℕ) (xs ys : List ℕ) → ((m : ℕ) → hex_after m (xs ++ ys) ≡ and_some (hex_after m xs) (λ m. hex_after m ys))
        → and_some o (λ d. hex_after (n * 16 + d) (xs ++ ys)) ≡ and_some (and_some o (λ d. hex_after (n * 16 + d) xs)) (λ m. hex_after m ys)
    hexs_digit n None xs ys h = refl
    hexs_digit n (Some d) xs ys h = h (n * 16 + d)

glyph_back : (d : ℕ) → d < 16 → hex_digit (glyph d) ≡ Some d
glyph_back d h = grind (arith, nat_tests)

glyph_word : (d : ℕ) → d < 16 → in_word (glyph d) ≡ true
glyph_word d h = grind (arith, nat_tests)

low : (n : ℕ) → n % 16 < 16
low n = mod_below n 16 (omega arith)

one_glyph : (m d : ℕ) → d < 16 → hex_after m (glyph d ∷ []) ≡ Some (m * 16 + d)
unfolding hex_after
one_glyph m d h = ap (λ o. and_some o (λ d. hex_after (m * 16 + d) [])) (glyph_back d h)

hex_after_lem : (k n : ℕ) → n < 16 ^ k → hex_after 0 (hex_digits k n) ≡ Some n
unfolding hex_after hex_digits
hex_after_lem zero n h = ap Some (omega arith)
hex_after_lem (suc k) n h =
    hexs_append 0 (hex_digits k (n / 16)) (glyph (n % 16) ∷ [])
    ∙ ap (λ o. and_some o (λ m. hex_after m (glyph (n % 16) ∷ []))) (hex_after_lem k (n / 16) (div_below n 16 (16 ^ k) (omega arith) (omega (arith, pow-suc 16 k))))
    ∙ one_glyph (n / 16) (n % 16) (low n) ∙ ap Some (div-add-mod' n 16)

digits_length : (k n : ℕ) → length (hex_digits k n) ≡ k
unfolding hex_digits
digits_length zero n = refl
digits_length (suc k) n = length_push (hex_digits k (n / 16)) (glyph (n % 16)) ∙ omega (arith, digits_length k (n / 16))

digits_word : (k n : ℕ) → Word (hex_digits k n)
unfolding hex_digits
digits_word zero n = tt
digits_word (suc k) n = All-push (λ b. in_word b ≡ true) (hex_digits k (n / 16)) (glyph (n % 16)) (digits_word k (n / 16)) (glyph_word (n % 16) (low n))

pub bits_back : (k n : ℕ) → n < 16 ^ k → bits_of k (120 ∷ hex_digits k n) ≡ Some n
bits_back k n h = ap (λ t. cond (t && true) (hex_after 0 (hex_digits k n)) None) (eq-eqb (length (hex_digits k n)) k (digits_length k n)) ∙ hex_after_lem k n h

pub bits_word : (k n : ℕ) → Word (120 ∷ hex_digits k n)
bits_word k n = (refl, digits_word k n)

-- bytes in pairs of digits
two_digits : (b : ℕ) → hex_digits 2 b ≡ glyph (b / 16 % 16) ∷ glyph (b % 16) ∷ []
unfolding hex_digits
two_digits b = refl

byte_back : (b : ℕ) → b < 256 → byte_of (glyph (b / 16 % 16)) (glyph (b % 16)) ≡ Some b
byte_back b h =
    ap (λ o. and_some o (λ x. and_some (hex_digit (glyph (b % 16))) (λ y. Some (16 * x + y)))) (glyph_back (b / 16 % 16) (low (b / 16)))
    ∙ ap (λ o. and_some o (λ y. Some (16 * (b / 16 % 16) + y))) (glyph_back (b % 16) (low b)) ∙ ap Some (omega arith)

pairs_back : (bs : List ℕ) → Bytes bs → pairs_of (flat_map (hex_digits 2) bs) ≡ Some bs
unfolding pairs_of
pairs_back [] h = refl
pairs_back (b ∷ bs) h =
    ap (λ l. pairs_of (l ++ flat_map (hex_digits 2) bs)) (two_digits b)
    ∙ ap (λ o. and_some o (λ x. onto x (pairs_of (flat_map (hex_digits 2) bs)))) (byte_back b h.0) ∙ ap (onto b) (pairs_back bs h.1)

pub hex_back : (bs : List ℕ) → Bytes bs → bytes_of (hex_text bs) ≡ Some bs
hex_back bs h = pairs_back bs h

joined_word : (f : ℕ → List ℕ) → ((b : ℕ) → Word (f b)) → (bs : List ℕ) → Word (flat_map f bs)
joined_word f h [] = tt
joined_word f h (b ∷ bs) = All-append (λ b. in_word b ≡ true) (f b) (flat_map f bs) (h b) (joined_word f h bs)

pub hex_word : (bs : List ℕ) → Word (hex_text bs)
hex_word bs = (refl, joined_word (hex_digits 2) (digits_word 2) bs)

-- texts
shown_plain : (b : ℕ) → shown b ≡ true → (b ≡ 34 → ⊥) × (b ≡ 92 → ⊥) × (in_word b ≡ true)
shown_plain b h = (λ e. grind (arith, nat_tests), λ e. grind (arith, nat_tests), grind (arith, nat_tests))

shown_step : (b : ℕ) (bs : List ℕ) → shown b ≡ true → quoted 0 (b ∷ bs) ≡ onto b (quoted 0 bs)
shown_step b bs h = plain_step b bs (shown_plain b h).0 (shown_plain b h).1 ∙ ap (λ t. cond t (onto b (quoted 0 bs)) None) h

escape_step : (b : ℕ) (bs : List ℕ) → b < 256 → quoted 0 (92 ∷ 120 ∷ (hex_digits 2 b ++ bs)) ≡ onto b (quoted 0 bs)
unfolding quoted
escape_step b bs h =
    ap (λ l. quoted 0 (92 ∷ 120 ∷ (l ++ bs))) (two_digits b)
    ∙ ap (λ t. and_some (cond (t && true) (byte_of (glyph (b / 16 % 16)) (glyph (b % 16))) None) (λ x. onto x (quoted 0 bs))) (le-leb 4 (suc (suc (suc (suc (length bs))))) (omega arith))
    ∙ ap (λ o. and_some o (λ x. onto x (quoted 0 bs))) (byte_back b h)

byte_step : (b : ℕ) (bs : List ℕ) (t : Bool) → shown b ≡ t → b < 256 → quoted 0 (cond t (b ∷ []) (92 ∷ 120 ∷ hex_digits 2 b) ++ bs) ≡ onto b (quoted 0 bs)
byte_step b bs true e h = shown_step b bs e
byte_step b bs false e h = escape_step b bs h

quoted_end : quoted 0 (34 ∷ []) ≡ Some []
unfolding quoted
quoted_end = refl

quoted_back : (bs : List ℕ) → Bytes bs → quoted 0 (flat_map byte_text bs ++ 34 ∷ []) ≡ Some bs
quoted_back [] h = quoted_end
quoted_back (b ∷ bs) h =
    ap (quoted 0) (append_assoc (byte_text b) (flat_map byte_text bs) (34 ∷ []))
    ∙ byte_step b (flat_map byte_text bs ++ 34 ∷ []) (shown b) refl h.0 ∙ ap (onto b) (quoted_back bs h.1)

pub text_back : (bs : List ℕ) → Bytes bs → text_of (text_text bs) ≡ Some bs
text_back bs h = quoted_back bs h

byte_word : (b : ℕ) (t : Bool) → shown b ≡ t → Word (cond t (b ∷ []) (92 ∷ 120 ∷ hex_digits 2 b))
byte_word b true e = ((shown_plain b e).2, tt)
byte_word b false e = (refl, (refl, digits_word 2 b))

pub text_word : (bs : List ℕ) → Word (text_text bs)
text_word bs = (refl, All-append (λ b. in_word b ≡ true) (flat_map byte_text bs) (34 ∷ []) (joined_word byte_text (λ b. byte_word b (shown b) refl) bs) (refl, tt))

-- signed numbers
minus_no_digit : (bs : List ℕ) (n : ℕ) → decimal_of (45 ∷ bs) ≡ Some n → ⊥
unfolding decimal_after
minus_no_digit bs n e = let z : ◌≡◌ {A = ℕ} 0 1 = cc in absurd (omega arith)

no_minus : (ds : List ℕ) (n : ℕ) → decimal_of ds ≡ Some n → signed_of ds ≡ fitting (pos n)
no_minus [] n e = let z : ◌≡◌ {A = ℕ} 0 1 = cc in absurd (omega arith)
no_minus (b ∷ bs) n e =
    ap (λ t. cond t (and_some (decimal_of bs) (λ n. fitting (minus n))) (and_some (decimal_of (b ∷ bs)) (λ n. fitting (pos n))))
    (ne_eqb b 45 (λ h. minus_no_digit bs n (ap (λ x. decimal_of (x ∷ bs)) (sym h) ∙ e)))
    ∙ ap (λ o. and_some o (λ n. fitting (pos n))) e

fitting_back : (z : ℤ) → mag z < 2 ^ 63 → fitting z ≡ Some z
fitting_back z h = ap (λ t. cond t (Some z) None) (lt-ltb (mag z) (2 ^ 63) h)

pub signed_back : (z : ℤ) → mag z < 2 ^ 63 → signed_of (signed_decimal z) ≡ Some z
signed_back (pos n) h = no_minus (decimal n) n (decimal_back n (omega arith)) ∙ fitting_back (pos n) h
signed_back (negsuc n) h = ap (λ o. and_some o (λ n. fitting (minus n))) (decimal_back (suc n) (omega arith)) ∙ fitting_back (negsuc n) h

pub signed_word : (z : ℤ) → mag z < 2 ^ 63 → Word (signed_decimal z)
signed_word (pos n) h = decimal_word n (omega arith)
signed_word (negsuc n) h = (refl, decimal_word (suc n) (omega arith))

pub signed_some : (z : ℤ) → mag z < 2 ^ 63 → 0 < length (signed_decimal z)
signed_some (pos n) h = decimal_nonempty n (omega arith)
signed_some (negsuc n) h = omega arith

-- a name and a value in brackets
lex_more : (u w rest : List ℕ) → Word w → lexing u (w ++ rest) ≡ lexing (u ++ w) rest
lex_more u [] rest h = ap (λ l. lexing l rest) (sym (append-nil u))
lex_more u (b ∷ w) rest h = lex_inner b u (w ++ rest) h.0 ∙ lex_more (u ++ b ∷ []) w rest h.1 ∙ ap (λ l. lexing l rest) (append_assoc u (b ∷ []) w)

lex_front : (w : List ℕ) (b : ℕ) (rest : List ℕ) → Word w → 0 < length w → in_word b ≡ false → tokens (w ++ b ∷ rest) ≡ word w ∷ tokens (b ∷ rest)
lex_front w b rest h k e = lex_more [] w (b ∷ rest) h ∙ lex_word w (b ∷ rest) k (λ _. e)

pub pair_tokens : (n v : List ℕ) → Word n → 0 < length n → Word v → 0 < length v → tokens (40 ∷ (n ++ (32 ∷ (v ++ 41 ∷ [])))) ≡ opening ∷ word n ∷ word v ∷ closing ∷ []
pair_tokens n v hn kn hv kv =
    lex_bracket 40 (n ++ (32 ∷ (v ++ 41 ∷ []))) opening refl refl refl
    ∙ ap (λ l. opening ∷ l) (lex_front n 32 (v ++ 41 ∷ []) hn kn refl
    ∙ ap (λ l. word n ∷ l) (lex_blank 32 (v ++ 41 ∷ []) refl ∙ lex_front v 41 [] hv kv refl
    ∙ ap (λ l. word v ∷ l) (lex_bracket 41 [] closing refl refl refl ∙ ap (λ l. closing ∷ l) lex_none)))

-- items
noun_back : (n : Noun) → noun_of (noun_name n) ≡ Some n
noun_back Truth = refl
noun_back Whole = refl
noun_back Single = refl
noun_back Double = refl
noun_back Run = refl
noun_back Fixed = refl

noun_word : (n : Noun) → Word (noun_name n) × (0 < length (noun_name n))
noun_word Truth = ((refl, (refl, (refl, (refl, (refl, tt))))), omega arith)
noun_word Whole = ((refl, (refl, (refl, (refl, (refl, tt))))), omega arith)
noun_word Single = ((refl, (refl, (refl, (refl, (refl, (refl, tt)))))), omega arith)
noun_word Double = ((refl, (refl, (refl, (refl, (refl, (refl, tt)))))), omega arith)
noun_word Run = ((refl, (refl, (refl, tt))), omega arith)
noun_word Fixed = ((refl, (refl, (refl, (refl, (refl, tt))))), omega arith)

value_back : (d : Datum) → Held d → item_by (Some (noun_in d)) (value_text d) ≡ Ok d
value_back (truth true) h = refl
value_back (truth false) h = refl
value_back (whole z) h = ap (λ o. and_then (ok_or o NotANumber) (λ z. Ok (whole z))) (signed_back z h.sfits)
value_back (single n) h = ap (λ o. and_then (ok_or o NotBits) (λ n. Ok (single n))) (bits_back 8 n h)
value_back (double n) h = ap (λ o. and_then (ok_or o NotBits) (λ n. Ok (double n))) (bits_back 16 n h)
value_back (run bs) h = ap (λ o. and_then (ok_or o NotText) (λ bs. Ok (run bs))) (text_back bs h.1)
value_back (fixed bs) h = ap (λ o. and_then (ok_or o NotBytes) (λ bs. Ok (fixed bs))) (hex_back bs h.1)

value_word : (d : Datum) → Held d → Word (value_text d) × (0 < length (value_text d))
value_word (truth true) h = ((refl, (refl, (refl, (refl, tt)))), omega arith)
value_word (truth false) h = ((refl, (refl, (refl, (refl, (refl, tt))))), omega arith)
value_word (whole z) h = (signed_word z h.sfits, signed_some z h.sfits)
value_word (single n) h = (bits_word 8 n, omega arith)
value_word (double n) h = (bits_word 16 n, omega arith)
value_word (run bs) h = (text_word bs, omega arith)
value_word (fixed bs) h = (hex_word bs, omega arith)

pub run_back : (d : Datum) → Held d → RunBack d
run_back (truth b) h = tt
run_back (whole z) h = tt
run_back (single n) h = tt
run_back (double n) h = tt
run_back (run bs) h = text_back bs h.1
run_back (fixed bs) h = tt

one_item : (n v : List ℕ) (d : Datum) → item_of (n, v) ≡ Ok d → items_of (opening ∷ word n ∷ word v ∷ closing ∷ []) ≡ Ok (d ∷ [])
unfolding rows
one_item n v d e = ap (λ o. and_then o (λ x. Ok (x ∷ []))) e

pub item_back : (d : Datum) → Held d → items_of (tokens (item_text d)) ≡ Ok (d ∷ [])
item_back d h =
    let n = noun_word (noun_in d) in
    let v = value_word d h in
    ap items_of (pair_tokens (noun_name (noun_in d)) (value_text d) n.0 n.1 v.0 v.1)
    ∙ one_item (noun_name (noun_in d)) (value_text d) d (ap (λ o. item_by o (value_text d)) (noun_back (noun_in d)) ∙ value_back d h)
