-- Keys that are read up to the word `find`. Assumes nothing.
use Rattle.std.proofs.Common.{◌≡◌, ℕ, ◌<◌, ◌⊎◌, true, false, cond, List, [], ◌∷◌, ◌++◌, length, Some, None, Ok, Err, codes, Option, Result, sym, refl, ap, inl, inr, ◌∙◌, append_assoc, arith}
use Rattle.std.specs.Str.{bytes_eq}
use Rattle.spelling.specs.declared.bad.Bad.{Bad}
use Rattle.script.specs.Lexing.{Tok, opening, closing, word}
use Rattle.script.specs.Shapes.{and_then, an_argument}
use Rattle.script.specs.Seeking.{Quest, alone, behind_all, last_in, seeks}

abbrev word_of : Result (List ℕ × List Tok) Bad → List ℕ
word_of (Ok a) = a.0
word_of (Err e) = []

abbrev rest_of : Result (List ℕ × List Tok) Bad → List Tok
rest_of (Ok a) = a.1
rest_of (Err e) = []

-- the word that an argument is
pub argument_is : (ts rest : List Tok) (w : List ℕ) → an_argument ts ≡ Ok (w, rest) → ts ≡ word w ∷ rest
argument_is [] rest w e = let z : ◌≡◌ {A = ℕ} 0 1 = cc in absurd (omega arith)
argument_is (opening ∷ ts) rest w e = let z : ◌≡◌ {A = ℕ} 0 1 = cc in absurd (omega arith)
argument_is (closing ∷ ts) rest w e = let z : ◌≡◌ {A = ℕ} 0 1 = cc in absurd (omega arith)
argument_is (word v ∷ ts) rest w e = let p = ap word_of e in let q = ap rest_of e in cc

pub argument_falls : (ts rest : List Tok) (w : List ℕ) → an_argument ts ≡ Ok (w, rest) → length rest < length ts
argument_falls ts rest w e = omega (arith, ap length (argument_is ts rest w e))

module _ {V : Type 0} where
  pub behind_nothing : (o : Result (Option (Quest V)) Bad) → behind_all (Some []) o ≡ o
  behind_nothing (Ok None) = refl
  behind_nothing (Ok (Some p)) = refl
  behind_nothing (Err e) = refl

  pub behind_key : (xs : List V) (x : V) (o : Result (Option (Quest V)) Bad) → behind_all (Some (xs ++ x ∷ [])) o ≡ behind_all (Some xs) (behind_all (alone (Some x)) o)
  behind_key xs x (Ok None) = refl
  behind_key xs x (Ok (Some p)) = ap (λ l. Ok (Some (l, p.1))) (append_assoc xs (x ∷ []) p.0)
  behind_key xs x (Err e) = refl

  -- none, where what was read before is none or the key is
  pub behind_no_key : (xs : Option (List V)) (k : Option V) (o : Result (Option (Quest V)) Bad) → (xs ≡ None) ⊎ (k ≡ None) → behind_all None o ≡ behind_all xs (behind_all (alone k) o)
  behind_no_key None k (Ok q) h = refl
  behind_no_key (Some xs) None (Ok q) h = refl
  behind_no_key (Some xs) (Some k) (Ok q) h = elim h [ inl e ↦ cc | inr e ↦ cc ]
  behind_no_key xs k (Err e) h = refl

  pub seeks_none : (read : List ℕ → Result (Option V) Bad) (ts : List Tok) (e : Bad) → an_argument ts ≡ Err e → seeks read ts ≡ Err e
  unfolding seeks
  seeks_none read [] e h = cc
  seeks_none read (opening ∷ ts) e h = cc
  seeks_none read (closing ∷ ts) e h = cc
  seeks_none read (word w ∷ ts) e h = let z : ◌≡◌ {A = ℕ} 0 1 = cc in absurd (omega arith)

  module _ (read : List ℕ → Result (Option V) Bad) (ts : List Tok) where
    module _ (rest : List Tok) (w : List ℕ) (argument : an_argument ts ≡ Ok (w, rest)) where
      seeks_word : seeks read ts ≡ cond (bytes_eq w (codes "find")) (last_in read rest) (and_then (read w) (λ x. behind_all (alone x) (seeks read rest)))
      unfolding seeks
      seeks_word = ap (seeks read) (argument_is ts rest w argument)

      pub seeks_find : true ≡ bytes_eq w (codes "find") → seeks read ts ≡ last_in read rest
      seeks_find e = seeks_word ∙ ap (λ b. cond b (last_in read rest) (and_then (read w) (λ x. behind_all (alone x) (seeks read rest)))) (sym e)

      module _ (on : false ≡ bytes_eq w (codes "find")) where
        seeks_on : seeks read ts ≡ and_then (read w) (λ x. behind_all (alone x) (seeks read rest))
        seeks_on = seeks_word ∙ ap (λ b. cond b (last_in read rest) (and_then (read w) (λ x. behind_all (alone x) (seeks read rest)))) (sym on)

        pub seeks_bad : (e : Bad) → read w ≡ Err e → seeks read ts ≡ Err e
        seeks_bad e h = seeks_on ∙ ap (λ o. and_then o (λ x. behind_all (alone x) (seeks read rest))) h

        pub seeks_key : (x : Option V) → read w ≡ Ok x → seeks read ts ≡ behind_all (alone x) (seeks read rest)
        seeks_key x h = seeks_on ∙ ap (λ o. and_then o (λ x. behind_all (alone x) (seeks read rest))) h

  -- what failed at the rest failed at the whole
  pub behind_fails : (s : Option (List V)) (all now : Result (Option (Quest V)) Bad) (e : Bad) → behind_all s now ≡ all → now ≡ Err e → all ≡ Err e
  behind_fails s all now e i h = sym i ∙ ap (behind_all s) h
