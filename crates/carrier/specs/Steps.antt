-- What a carrier shows of itself, and what each call does. Assumes nothing.
use Rattle.std.specs.Prelude.{◌≡◌, ℕ, ◌+◌, ◌-◌, ◌^◌, ◌<◌, ◌≤◌, List, [], ◌++◌, length, take, drop, Ok, Err, Result, ◌≢◌}
use Rattle.carrier.specs.Items.{Datum, run, fixed, Held, Of}
use Rattle.carrier.specs.Meaning.{full, no_such_item}
use Rattle.carrier.specs.declared.CarrierFault.{CarrierFault}
use Rattle.carrier.specs.declared.Kind.{Kind}
use Rattle.carrier.specs.declared.Kind.TheVariants.{Run, Fixed}

pub record State : Type 0 where
  pub row : List ℕ
  pub capacity : ℕ
  pub count : ℕ

-- p went to the end of the row
pub record Added (p : List ℕ) (s t : State) : Type 0 where
  pub fits : length p ≤ s.capacity - s.count
  pub row : t.row ≡ s.row ++ p
  pub capacity : t.capacity ≡ s.capacity
  pub count : t.count ≡ s.count + length p

-- p did not fit, and nothing changed
pub record TooLong (p : List ℕ) (s t : State) : Type 0 where
  pub over : s.capacity - s.count < length p
  pub same : t ≡ s

abbrev pub Puts : {X : Type 0} → List ℕ → Result X CarrierFault → State → State → Type 0
Puts p (Ok _) s t = Added p s t
Puts p (Err e) s t = (e ≡ full) × TooLong p s t

-- the item's code left the front of the row, which always has fewer than 2 ^ 64 numbers
pub record Taken (code : Datum → List ℕ) (d : Datum) (s t : State) : Type 0 where
  pub held : Held d
  pub few : length s.row < 2 ^ 64
  pub row : s.row ≡ code d ++ t.row
  pub capacity : t.capacity ≡ s.capacity
  pub count : t.count ≤ s.count
  pub drained : t.row ≡ [] → t.count ≡ 0

-- no item of the kind stands at the front of the row
abbrev pub None : (Datum → List ℕ) → Kind → List ℕ → Type 0
None code k row = (d : Datum) (rest : List ℕ) → Of k d → Held d → row ≢ code d ++ rest

pub record Missing (code : Datum → List ℕ) (k : Kind) (taken : ℕ) (e : CarrierFault) (s t : State) : Type 0 where
  pub fault : e ≡ no_such_item taken
  pub none : None code k s.row
  pub same : t ≡ s

abbrev pub Takes : {X : Type 0} → (Datum → List ℕ) → Kind → (X → Datum) → ℕ → Result X CarrierFault → State → State → Type 0
Takes code k of taken (Ok x) s t = Taken code (of x) s t
Takes code k of taken (Err e) s t = Missing code k taken e s t

-- as many bytes as out has
abbrev pub TakesFixed : {X : Type 0} → (Datum → List ℕ) → ℕ → Result X CarrierFault → List ℕ → List ℕ → State → State → Type 0
TakesFixed code taken (Ok _) out out' s t = Taken code (fixed out') s t
TakesFixed code taken (Err e) out out' s t = (out' ≡ out) × Missing code (Fixed (length out)) taken e s t

-- a run of n bytes stands at the start of out, and the rest of out is as it was
pub record TookRun (code : Datum → List ℕ) (most n : ℕ) (out out' : List ℕ) (s t : State) : Type 0 where
  pub small : n ≤ most
  pub fits : n ≤ length out
  pub rest : drop n out' ≡ drop n out
  pub taken : Taken code (run (take n out')) s t

abbrev pub TakesRun : (Datum → List ℕ) → ℕ → ℕ → Result ℕ CarrierFault → List ℕ → List ℕ → State → State → Type 0
TakesRun code most taken (Ok n) out out' s t = TookRun code most n out out' s t
TakesRun code most taken (Err e) out out' s t = (out' ≡ out) × Missing code (Run most) taken e s t
