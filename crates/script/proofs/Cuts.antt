-- Steps through a line. Assumes nothing.
use Rattle.std.proofs.Common.{◌≡◌, ℕ, suc, ◌+◌, ◌<◌, true, false, cond, eqb, List, [], ◌∷◌, ◌++◌, length, get_or, take, drop, sym, refl, ap, ◌∙◌, append_assoc, append-nil, length-append, Some, None, Option, Err, inl, inr, arith}
use Rattle.std.specs.List.{prefix_len, AllWithin, HoldsAt}
use Rattle.std.specs.Option.{MatchOption, unwrap_or}
use Rattle.std.proofs.lemmas.Bool.{cases_Bool}
use Rattle.std.proofs.lemmas.List.Sums.{prefix_len_is}
use Rattle.spelling.specs.declared.bad.Bad.TheVariants.{TooMuch}
use Rattle.script.specs.Shapes.{at_end}
use Rattle.script.specs.Lexing.{Tok, opening, closing, word, blank, in_word, lexing, tokens}

pub lex_none : tokens [] ≡ []
unfolding lexing
lex_none = refl

pub lex_blank : (b : ℕ) (bs : List ℕ) → blank b ≡ true → tokens (b ∷ bs) ≡ tokens bs
unfolding lexing
lex_blank b bs h = rw h

pub lex_bracket : (b : ℕ) (bs : List ℕ) (t : Tok) → in_word b ≡ false → blank b ≡ false → cond (eqb b 40) opening closing ≡ t → tokens (b ∷ bs) ≡ t ∷ tokens bs
unfolding lexing
lex_bracket b bs t h k e = rw (h, k, e)

pub lex_inner : (b : ℕ) (w bs : List ℕ) → in_word b ≡ true → lexing w (b ∷ bs) ≡ lexing (w ++ b ∷ []) bs
unfolding lexing
lex_inner b w bs h = rw h

pub lex_word : (w bs : List ℕ) → 0 < length w → (0 < length bs → in_word (get_or bs 0 0) ≡ false) → lexing w bs ≡ word w ∷ tokens bs
unfolding lexing
lex_word [] bs h e = absurd (omega arith)
lex_word (a ∷ w) [] h e = refl
lex_word (a ∷ w) (b ∷ bs) h e = let k : in_word b ≡ false = e (omega arith) in rw k

-- what a line begins with
pub past_blank : (line : List ℕ) → 0 < length line → blank (get_or line 0 0) ≡ true → tokens (drop 1 line) ≡ tokens line
past_blank [] h e = absurd (omega arith)
past_blank (b ∷ bs) h e = sym (lex_blank b bs e)

pub cut_none : (line : List ℕ) → length line ≡ 0 → tokens line ≡ []
cut_none [] h = lex_none
cut_none (b ∷ bs) h = absurd (omega arith)

pub cut_open : (line : List ℕ) → 0 < length line → get_or line 0 0 ≡ 40 → tokens line ≡ opening ∷ tokens (drop 1 line)
cut_open [] h e = absurd (omega arith)
cut_open (b ∷ bs) h e = rw e (lex_bracket 40 bs opening refl refl refl)

pub cut_close : (line : List ℕ) → 0 < length line → get_or line 0 0 ≡ 41 → tokens line ≡ closing ∷ tokens (drop 1 line)
cut_close [] h e = absurd (omega arith)
cut_close (b ∷ bs) h e = rw e (lex_bracket 41 bs closing refl refl refl)

word_more : (w bs : List ℕ) (b n : ℕ) → word ((w ++ b ∷ []) ++ take n bs) ∷ tokens (drop n bs) ≡ word (w ++ take (1 + n) (b ∷ bs)) ∷ tokens (drop (1 + n) (b ∷ bs))
word_more w bs b n =
    let s : 1 + n ≡ suc n = omega arith in
    rw s (ap (λ l. word l ∷ tokens (drop n bs)) (append_assoc w (b ∷ []) (take n bs)))

-- a word goes on up to the first byte that may not stand in it
word_on : (w bs : List ℕ) → 0 < length w → lexing w bs ≡ word (w ++ take (prefix_len in_word bs) bs) ∷ tokens (drop (prefix_len in_word bs) bs)
word_on w [] h = lex_word w [] h (λ k. absurd (omega arith)) ∙ ap (λ l. word l ∷ tokens []) (sym (append-nil w))
word_on w (b ∷ bs) h = elim (cases_Bool (in_word b)) [
  | inl e ↦ rw e (lex_inner b w bs e ∙ word_on (w ++ b ∷ []) bs (simp length-append (omega arith)) ∙ word_more w bs b (prefix_len in_word bs))
  | inr e ↦ rw e (lex_word w (b ∷ bs) h (λ k. e) ∙ ap (λ l. word l ∷ tokens (b ∷ bs)) (sym (append-nil w)))
]

pub cut_word : (line : List ℕ) → 0 < length line → in_word (get_or line 0 0) ≡ true → tokens line ≡ word (take (prefix_len in_word line) line) ∷ tokens (drop (prefix_len in_word line) line)
cut_word [] h e = absurd (omega arith)
cut_word (b ∷ bs) h e = rw e (lex_inner b [] bs e ∙ word_on (b ∷ []) bs (omega arith) ∙ word_more [] bs b (prefix_len in_word bs))

-- what begins with no blank has a token
pub cut_some : (line : List ℕ) → 0 < length line → blank (get_or line 0 0) ≡ false → at_end (tokens line) ≡ Err TooMuch
cut_some [] h e = absurd (omega arith)
cut_some (b ∷ bs) h e = elim (cases_Bool (in_word b)) [
  | inl i ↦ ap at_end (cut_word (b ∷ bs) h i)
  | inr o ↦ ap at_end (lex_bracket b bs (cond (eqb b 40) opening closing) o e refl)
]

-- the word ends at the first byte that may not stand in it, or with the line
pub len_of_place : (line : List ℕ) (r : Option ℕ) (n : ℕ) → n ≡ length line
    → MatchOption r (AllWithin (λ b. in_word b ≡ true) line 0 (length line)) (λ i. (i < length line) × HoldsAt (λ b. in_word b ≡ false) line i × AllWithin (λ b. in_word b ≡ true) line 0 i)
    → unwrap_or r n ≡ prefix_len in_word line
len_of_place line None n e h = sym (prefix_len_is in_word line n 0 (omega arith) (λ k l. h k 0 (omega arith) (omega arith)) (λ l. absurd (omega arith)))
len_of_place line (Some i) n e h = sym (prefix_len_is in_word line i 0 (omega (arith, h.0)) (λ k l. h.2 k 0 (omega arith) (omega arith)) (λ l. h.1 0))
