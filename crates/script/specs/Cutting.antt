-- What is left of a line that is being cut. Assumes nothing.
use Rattle.std.specs.Prelude.{◌≡◌, ℕ, List, [], ◌∷◌, Some, None, Option}
use Rattle.std.specs.Option.{option_map}
use Rattle.script.specs.Lexing.{Tok, opening, closing, word, tokens}
use Rattle.script.specs.declared.line.Pair.{Pair}
use Rattle.script.specs.declared.line.Token.{Token}
use Rattle.script.specs.declared.line.Token.TheVariants.{Open, Close, Word}
use Rattle.script.specs.declared.line.Tokens.{Tokens}

abbrev pub left : Tokens → List Tok
left t = tokens t.rest.now

abbrev pub tok : Token → Tok
tok Open = opening
tok Close = closing
tok (Word w) = word w.now

-- the token stood before the rest, or nothing was left
abbrev pub Cut : Option Token → List Tok → List Tok → Type 0
Cut (Some t) before after = before ≡ tok t ∷ after
Cut None before after = (before ≡ []) × (after ≡ [])

abbrev pub tok_of : Option Token → Option Tok
tok_of t = option_map tok t

abbrev pub first_of : List Tok → Option Tok
first_of [] = None
first_of (t ∷ ts) = Some t

abbrev pub couple : Pair → List ℕ × List ℕ
couple p = (p.name.now, p.value.now)
