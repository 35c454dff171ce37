-- Refusals and bad lines, as they are printed. Assumes nothing.
use Rattle.std.specs.Prelude.{ℕ, List, [], ◌∷◌, ◌++◌, Some, None, codes, decimal, Option}
use Rattle.refusal.specs.Numbers.{number_of}
use Rattle.refusal.specs.Sentences.{sentence_of, layer_name}
use Rattle.refusal.specs.declared.Case.{Case}
use Rattle.spelling.specs.Reasons.{reason_of}
use Rattle.spelling.specs.declared.bad.Bad.{Bad}
use Rattle.print.specs.Laws.{NumberBack}

abbrev pub taken_text : Option ℕ → List ℕ
taken_text None = []
taken_text (Some n) = codes " taken " ++ decimal n

-- refused NUMBER LAYER FIELD
abbrev pub numbered_text : Case → List ℕ
numbered_text c = codes "refused " ++ (decimal (number_of c.refusal) ++ (32 ∷ (layer_name c.layer ++ (32 ∷ decimal c.field.0))))

-- and behind that, where numbers were taken, how many, and the sentence
abbrev pub case_text : Case → List ℕ
case_text c = numbered_text c ++ (taken_text c.taken ++ (codes " -- " ++ sentence_of c.refusal))

abbrev pub bad_text : ℕ → Bad → List ℕ
bad_text n b = codes "bad line " ++ (decimal n ++ (codes ": " ++ reason_of b))

-- the numbers of a refusal as they are printed are read as the same again
abbrev pub TakenBack : Option ℕ → Type 0
TakenBack None = Unit {0}
TakenBack (Some n) = NumberBack n

pub record NumbersBack (c : Case) : Type 0 where
  pub number : NumberBack (number_of c.refusal)
  pub field : NumberBack c.field.0
  pub taken : TakenBack c.taken
