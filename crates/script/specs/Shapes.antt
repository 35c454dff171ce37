-- How tokens stand together. Assumes nothing.
use Rattle.std.specs.Prelude.{◌≡◌, ℕ, ◌⊎◌, List, [], ◌∷◌, ◌++◌, Ok, Err, Result}
use Rattle.script.specs.Lexing.{Tok, opening, closing, word}
use Rattle.spelling.specs.declared.bad.Bad.{Bad}
use Rattle.spelling.specs.declared.bad.Bad.TheVariants.{MissingArgument, Brackets, TooMuch, NoMemory}

-- a reading: what was read and the tokens behind it, or why not
abbrev pub Reading : Type 0 → Type 0
Reading X = Result (X × List Tok) Bad

-- the call answers as the reading says, and has the rest left
abbrev pub Reads : {X Y : Type 0} → (X → Y) → Result X Bad → Reading Y → List Tok → Type 0
Reads f (Ok x) s rest = s ≡ Ok (f x, rest)
Reads f (Err e) s rest = s ≡ Err e

-- the answer is as it is read, unless memory failed
abbrev pub Meets : {X Y : Type 0} → (X → Y) → Result X Bad → Result Y Bad → Type 0
Meets f (Ok x) o = o ≡ Ok (f x)
Meets f (Err e) o = (e ≡ NoMemory) ⊎ (o ≡ Err e)

abbrev pub and_then : {X Y : Type 0} → Result X Bad → (X → Result Y Bad) → Result Y Bad
and_then (Ok x) f = f x
and_then (Err e) f = Err e

-- a word, or the fault at the end of the line and the one at a bracket
abbrev pub a_word_or : Bad → Bad → List Tok → Reading (List ℕ)
a_word_or e b [] = Err e
a_word_or e b (opening ∷ ts) = Err b
a_word_or e b (closing ∷ ts) = Err b
a_word_or e b (word w ∷ ts) = Ok (w, ts)

abbrev pub an_argument : List Tok → Reading (List ℕ)
an_argument ts = a_word_or MissingArgument Brackets ts

abbrev pub at_end : List Tok → Result (Unit {0}) Bad
at_end [] = Ok tt
at_end (t ∷ ts) = Err TooMuch

-- a word inside brackets
abbrev pub a_word : Bad → List Tok → Reading (List ℕ)
a_word e ts = a_word_or Brackets e ts

-- a closing bracket behind what was read
abbrev pub a_close : {X : Type 0} → Bad → X → List Tok → Reading X
a_close e x [] = Err Brackets
a_close e x (opening ∷ ts) = Err e
a_close e x (closing ∷ ts) = Ok (x, ts)
a_close e x (word w ∷ ts) = Err e

-- a name, a value and a closing bracket
abbrev pub a_pair : Bad → List Tok → Reading (List ℕ × List ℕ)
a_pair e ts = and_then (a_word e ts) (λ n. and_then (a_word e n.1) (λ v. a_close e (n.0, v.0) v.1))

-- one more in front of what is read from the rest
abbrev pub ahead : {X : Type 0} → Result X Bad → Result (List X) Bad → Result (List X) Bad
ahead o xs = and_then o (λ x. and_then xs (λ l. Ok (x ∷ l)))

-- words alone and pairs in brackets, each read by a rule of its own, up to the end of the line; e where they stand otherwise
unfoldable pub rows : {X : Type 0} → Bad → (List ℕ → Result X Bad) → (List ℕ × List ℕ → Result X Bad) → List Tok → Result (List X) Bad
rows e alone paired [] = Ok []
rows e alone paired (closing ∷ ts) = Err Brackets
rows e alone paired (word w ∷ ts) = ahead (alone w) (rows e alone paired ts)
rows e alone paired (opening ∷ []) = Err Brackets
rows e alone paired (opening ∷ opening ∷ ts) = Err e
rows e alone paired (opening ∷ closing ∷ ts) = Err e
rows e alone paired (opening ∷ word n ∷ []) = Err Brackets
rows e alone paired (opening ∷ word n ∷ opening ∷ ts) = Err e
rows e alone paired (opening ∷ word n ∷ closing ∷ ts) = Err e
rows e alone paired (opening ∷ word n ∷ word v ∷ []) = Err Brackets
rows e alone paired (opening ∷ word n ∷ word v ∷ opening ∷ ts) = Err e
rows e alone paired (opening ∷ word n ∷ word v ∷ word w ∷ ts) = Err e
rows e alone paired (opening ∷ word n ∷ word v ∷ closing ∷ ts) = ahead (paired (n, v)) (rows e alone paired ts)

-- what was read before, and then the rest
abbrev pub behind : {X : Type 0} → List X → Result (List X) Bad → Result (List X) Bad
behind xs o = and_then o (λ l. Ok (xs ++ l))
