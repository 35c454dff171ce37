-- Numbers that are read digit by digit. Assumes nothing.
use Rattle.std.proofs.Common.{◌≡◌, ℕ, ◌+◌, ◌*◌, ◌<◌, ◌≤◌, List, [], ◌∷◌, length, get_or, drop, Some, None, Option, refl, ap, ◌∙◌, arith}
use Rattle.std.proofs.lemmas.List.{drop_more, drop_all}
use Rattle.std.proofs.lemmas.Bool.{le-ltb, lt-ltb}
use Rattle.spelling.specs.Decimals.{digit_of, and_some, decimal_after, decimal_of, under}

over_digit : (m n : ℕ) (o : Option ℕ) (bs : List ℕ) → ((d : ℕ) → under m (decimal_after (n * 10 + d) bs) ≡ None) → under m (and_some o (λ d. decimal_after (n * 10 + d) bs)) ≡ None
over_digit m n None bs h = refl
over_digit m n (Some d) bs h = h d

-- more digits do not make a number smaller
over : (m n : ℕ) (bs : List ℕ) → m ≤ n → under m (decimal_after n bs) ≡ None
unfolding decimal_after
over m n [] h = rw (le-ltb n m h)
over m n (b ∷ bs) h = over_digit m n (digit_of b) bs (λ d. over m (n * 10 + d) bs (omega arith))

module _ (m n : ℕ) (word : List ℕ) (i : ℕ) (inside : i < length word) where
  read_digit : decimal_after n (drop i word) ≡ and_some (digit_of (get_or word i 0)) (λ d. decimal_after (n * 10 + d) (drop (i + 1) word))
  unfolding decimal_after
  read_digit = ap (decimal_after n) (drop_more word i 0 inside)

  pub read_none : digit_of (get_or word i 0) ≡ None → under m (decimal_after n (drop i word)) ≡ None
  read_none e = ap (under m) (read_digit ∙ ap (λ o. and_some o (λ d. decimal_after (n * 10 + d) (drop (i + 1) word))) e)

  pub read_more : (d : ℕ) → digit_of (get_or word i 0) ≡ Some d → decimal_after n (drop i word) ≡ decimal_after (n * 10 + d) (drop (i + 1) word)
  read_more d e = read_digit ∙ ap (λ o. and_some o (λ d. decimal_after (n * 10 + d) (drop (i + 1) word))) e

  pub read_over : (d : ℕ) → digit_of (get_or word i 0) ≡ Some d → m ≤ n * 10 + d → under m (decimal_after n (drop i word)) ≡ None
  read_over d e h = ap (under m) (read_more d e) ∙ over m (n * 10 + d) (drop (i + 1) word) h

pub read_all : (m n : ℕ) (word : List ℕ) (i : ℕ) → length word ≤ i → n < m → under m (decimal_after n (drop i word)) ≡ Some n
unfolding decimal_after
read_all m n word i h k = ap (λ l. under m (decimal_after n l)) (drop_all i word h) ∙ rw (lt-ltb n m k)

pub read_start : (word : List ℕ) → 0 < length word → decimal_after 0 word ≡ decimal_of word
read_start [] h = absurd (omega arith)
read_start (b ∷ bs) h = refl
