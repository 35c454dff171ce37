-- Bytes that are added to a text, some after others. Assumes nothing.
use Rattle.std.proofs.Common.{◌≡◌, ℕ, zero, suc, ◌+◌, ◌-◌, ◌/◌, ◌%◌, ◌<◌, ◌≤◌, cond, List, [], ◌∷◌, ◌++◌, length, get_or, take, is_ok, Ok, Err, Result, sym, ap, ◌∙◌, append_assoc, append-nil, arith}
use Rattle.std.specs.List.{flat_map}
use Rattle.std.proofs.lemmas.List.{take_more, take_all, flat_map_more}
use Rattle.print.specs.Printing.{Adds, glyph, hex_digits}

-- xs and then ys
pub then_added : (before mid after xs ys : List ℕ) → mid ≡ before ++ xs → after ≡ mid ++ ys → after ≡ before ++ (xs ++ ys)
then_added before mid after xs ys e f = f ∙ ap (λ l. l ++ ys) e ∙ append_assoc before xs ys

pub then_adds : {X Y : Type 0} (r : Result X Y) (before mid after xs ys : List ℕ) → mid ≡ before ++ xs → Adds r ys mid after → Adds r (xs ++ ys) before after
then_adds (Ok x) before mid after xs ys e f = then_added before mid after xs ys e f
then_adds (Err y) before mid after xs ys e f = tt

-- what `push` and `push_str` say
pub pushes : {X Y : Type 0} (r : Result X Y) (mid after ys : List ℕ) → after ≡ cond (is_ok r) (mid ++ ys) mid → Adds r ys mid after
pushes (Ok x) mid after ys e = e
pushes (Err y) mid after ys e = tt

pub digits_none : (bs : List ℕ) (n k : ℕ) → k ≡ 0 → bs ≡ bs ++ hex_digits k n
unfolding hex_digits
digits_none bs n zero h = sym (append-nil bs)
digits_none bs n (suc k) h = absurd (omega arith)

pub digits_step : (n k : ℕ) → 0 < k → hex_digits k n ≡ hex_digits (k - 1) (n / 16) ++ glyph (n % 16) ∷ []
unfolding hex_digits
digits_step n zero h = absurd (omega arith)
digits_step n (suc k) h = let same : k ≡ suc k - 1 = omega arith in ap (λ j. hex_digits j (n / 16) ++ glyph (n % 16) ∷ []) same

-- a loop that adds what f says of each
module _ {X : Type 0} (f : X → List ℕ) (start : List ℕ) (xs : List X) where
  pub joins_more : (out out' : List ℕ) (i : ℕ) (d : X) → i < length xs → out ≡ start ++ flat_map f (take i xs) → out' ≡ out ++ f (get_or xs i d) → out' ≡ start ++ flat_map f (take (i + 1) xs)
  joins_more out out' i d h e g =
      g ∙ ap (λ l. l ++ f (get_or xs i d)) e ∙ flat_map_more f start (take i xs) (get_or xs i d) ∙ ap (λ l. start ++ flat_map f l) (sym (take_more xs i d h))

  pub joins_all : (out : List ℕ) (i : ℕ) → length xs ≤ i → out ≡ start ++ flat_map f (take i xs) → out ≡ start ++ flat_map f xs
  joins_all out i h e = e ∙ ap (λ l. start ++ flat_map f l) (take_all i xs h)

-- a byte more, its two digits one after another
pub byte_more : (bs : List ℕ) (i : ℕ) → i < length bs → get_or bs i 0 < 256
    → (flat_map (hex_digits 2) (take i bs) ++ (glyph (get_or bs i 0 / 16) ∷ [])) ++ (glyph (get_or bs i 0 % 16) ∷ []) ≡ flat_map (hex_digits 2) (take (i + 1) bs)
unfolding hex_digits
byte_more bs i h k =
    let before = flat_map (hex_digits 2) (take i bs) in
    let b = get_or bs i 0 in
    let low : b / 16 ≡ b / 16 % 16 = omega (arith, k) in
    append_assoc before (glyph (b / 16) ∷ []) (glyph (b % 16) ∷ []) ∙ ap (λ d. before ++ (glyph d ∷ glyph (b % 16) ∷ [])) low
    ∙ flat_map_more (hex_digits 2) [] (take i bs) b ∙ ap (flat_map (hex_digits 2)) (sym (take_more bs i 0 h))
