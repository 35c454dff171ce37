-- Keys that are looked for: the words before `find`, and the one behind it. Assumes nothing.
use Rattle.std.specs.Prelude.{ℕ, cond, List, [], ◌∷◌, ◌++◌, map, Some, None, Ok, Err, Vec, vec_items, codes, Option, Result}
use Rattle.std.specs.Global.{Global}
use Rattle.std.specs.Option.{option_map}
use Rattle.std.specs.Str.{bytes_eq}
use Rattle.spelling.specs.declared.bad.Bad.{Bad}
use Rattle.spelling.specs.declared.bad.Bad.TheVariants.{MissingArgument, Brackets}
use Rattle.script.specs.Lexing.{Tok, opening, closing, word}
use Rattle.script.specs.Shapes.{and_then, an_argument, at_end}
use Rattle.script.specs.declared.sought.Sought.{Sought}

-- keys, and the one that is looked for among them
abbrev pub Quest : Type 0 → Type 0
Quest V = List V × V

-- what the last word of a line spells
abbrev pub last_of : {X : Type 0} → (List ℕ → Result X Bad) → List Tok → Result X Bad
last_of read ts = and_then (an_argument ts) (λ a. and_then (at_end a.1) (λ _. read a.0))

-- the keys before, and behind them what is left; none where one of them is none
abbrev pub prefixed : {V : Type 0} → Option (List V) → Option (Quest V) → Option (Quest V)
prefixed None q = None
prefixed (Some xs) None = None
prefixed (Some xs) (Some p) = Some (xs ++ p.0, p.1)

abbrev pub alone : {V : Type 0} → Option V → Option (List V)
alone None = None
alone (Some x) = Some (x ∷ [])

abbrev pub sole : {V : Type 0} → Option V → Option (Quest V)
sole None = None
sole (Some x) = Some ([], x)

abbrev pub behind_all : {V : Type 0} → Option (List V) → Result (Option (Quest V)) Bad → Result (Option (Quest V)) Bad
behind_all s o = and_then o (λ q. Ok (prefixed s q))

abbrev pub last_in : {V : Type 0} → (List ℕ → Result (Option V) Bad) → List Tok → Result (Option (Quest V)) Bad
last_in read ts = and_then (last_of read ts) (λ o. Ok (sole o))

-- the keys that the words up to `find` spell, and the one behind it; none where a word is well formed and spells no key
unfoldable pub seeks : {V : Type 0} → (List ℕ → Result (Option V) Bad) → List Tok → Result (Option (Quest V)) Bad
seeks read [] = Err MissingArgument
seeks read (opening ∷ ts) = Err Brackets
seeks read (closing ∷ ts) = Err Brackets
seeks read (word w ∷ ts) = cond (bytes_eq w (codes "find")) (last_in read ts) (and_then (read w) (λ x. behind_all (alone x) (seeks read ts)))

-- the keys so far, if all of them are keys
abbrev pub so_far : {K V : Type 0} → (K → V) → Option (Vec K Global) → Option (List V)
so_far means ks = option_map (λ v. map means (vec_items v)) ks

abbrev pub quest_of : {K V : Type 0} → (K → V) → Sought K → Quest V
quest_of means s = (map means (vec_items s.among), means s.key)
