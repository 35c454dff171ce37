-- The tokens of a line. Assumes nothing.
use Rattle.std.specs.Prelude.{ℕ, ◌-◌, Bool, true, cond, not, ◌&&◌, ◌||◌, List, [], ◌∷◌, ◌++◌, length, take, ◌==◌, nat_lt, slice_index}

pub data Tok : Type 0 where
  opening : Tok
  closing : Tok
  word : List ℕ → Tok

-- a space or a tab
abbrev pub blank : ℕ → Bool
blank b = b == 32 || b == 9

-- neither a blank nor a bracket
abbrev pub in_word : ℕ → Bool
in_word b = not (blank b) && not (b == 40) && not (b == 41)

-- the word before the rest, if it has bytes
abbrev pub closed : List ℕ → List Tok → List Tok
closed [] ts = ts
closed (b ∷ w) ts = word (b ∷ w) ∷ ts

-- the tokens of what is left of a line, behind the first bytes w of a word
unfoldable pub lexing : List ℕ → List ℕ → List Tok
lexing w [] = closed w []
lexing w (b ∷ bs) = cond (in_word b) (lexing (w ++ b ∷ []) bs) (closed w (cond (blank b) (lexing [] bs) (cond (b == 40) opening closing ∷ lexing [] bs)))

abbrev pub tokens : List ℕ → List Tok
tokens bs = lexing [] bs

-- a line without the carriage return that ends it
abbrev pub uncarried : List ℕ → List ℕ
uncarried bs = cond (nat_lt 0 (length bs) && slice_index bs (length bs - 1) == 13) (take (length bs - 1) bs) bs

-- a line that is no call: empty, or with a # in front
abbrev pub remark : List ℕ → Bool
remark [] = true
remark (b ∷ bs) = b == 35
