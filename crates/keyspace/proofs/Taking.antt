-- Slots that are taken, and a walk round them all. Assumes nothing.
use Rattle.std.proofs.Common.{◌≡◌, ℕ, suc, ◌+◌, ◌-◌, ◌%◌, ◌<◌, ◌≤◌, ◌⊎◌, List, [], ◌∷◌, Some, None, Option, length, get_or, set, cond, sym, refl, ap, ◌∙◌, inl, inr, ⊎_elim, mod-lt, arith}
use Rattle.std.specs.Option.{is_some}
use Rattle.std.proofs.lemmas.List.{get_or-set_same, get_or-set_other, set_past}
use Rattle.std.proofs.lemmas.List.Sums.{sum_by-cons, sum_by-set}
use Rattle.std.proofs.lemmas.Bool.{cases_lt, cases_eq}
use Rattle.std.proofs.lemmas.Bool.Decides.{nat_tests}
use Rattle.keyspace.specs.Slots.{walked, taken, slot_at}
use Rattle.keyspace.specs.declared.slot.Taken.{Taken}

pub not_empty : (s : Option Taken) (t : Taken) → s ≡ Some t → s ≡ None → ⊥
not_empty s t h e = cc

-- what a slot adds to how many are taken
abbrev counted : Option Taken → ℕ
counted s = cond (is_some s) 1 0

pub taken_set : (ss : List (Option Taken)) (j : ℕ) (t : Taken) → taken (set ss j (Some t)) ≤ taken ss + 1
taken_set ss j t =
    ⊎_elim
    (λ lt. omega (arith, sum_by-set counted ss j (Some t) None lt))
    (λ le. omega (arith, ap taken (set_past ss j (Some t) le)))
    (cases_lt j (length ss))

pub taken_all : (ss : List (Option Taken)) → ((j : ℕ) → j < length ss → get_or ss j None ≡ None → ⊥) → taken ss ≡ length ss
taken_all [] all = refl
taken_all (None ∷ ss) all = absurd (all 0 (omega arith) refl)
taken_all (Some t ∷ ss) all =
    omega (arith, sum_by-cons counted (Some t) ss, taken_all ss (λ j h. all (suc j) (omega arith)))

-- a walk comes to each slot
round : (home j n : ℕ) → home < n → j < n → (i : ℕ) × ((i < n) × (walked home i n ≡ j))
round home j n h k =
    ⊎_elim
    (λ lt. (j + n - home, (omega arith, grind (arith, nat_tests))))
    (λ le. (j - home, (omega arith, grind (arith, nat_tests))))
    (cases_lt j home)

-- a walk over all slots finds an empty one, where some is
pub no_room : (ss : List (Option Taken)) (number count : ℕ) → taken ss ≤ count → count < length ss
    → ((i : ℕ) → i < length ss → slot_at (length ss) ss number i ≡ None → ⊥) → ⊥
no_room ss number count le lt all =
    let pos : 0 < length ss = omega arith in
    let home : number % length ss < length ss = mod-lt number pos in
    let each : (j : ℕ) → j < length ss → get_or ss j None ≡ None → ⊥ =
    λ j h e. let w = round (number % length ss) j (length ss) home h in all w.0 w.1.0 (ap (λ a. get_or ss a None) w.1.1 ∙ e) in
    omega (arith, taken_all ss each)

module _ (ss : List (Option Taken)) (at : ℕ) (new : Taken) (lt : at < length ss) where
  -- a slot that is taken stays so where another is written
  pub still_taken : (a : ℕ) → (get_or ss a None ≡ None → ⊥) → get_or (set ss at (Some new)) a None ≡ None → ⊥
  still_taken a ne z =
      ⊎_elim
      (λ e. not_empty (get_or (set ss at (Some new)) a None) new (ap (λ b. get_or (set ss at (Some new)) b None) e ∙ get_or-set_same ss at (Some new) None lt) z)
      (λ d. ne (sym (get_or-set_other ss at a (Some new) None d) ∙ z))
      (cases_eq a at)

  -- what a slot holds where one is written
  pub written : (j : ℕ) (t : Taken) → get_or (set ss at (Some new)) j None ≡ Some t → (t ≡ new) ⊎ (get_or ss j None ≡ Some t)
  written j t h =
      ⊎_elim
      (λ e. let same : Some t ≡ Some new = sym h ∙ ap (λ b. get_or (set ss at (Some new)) b None) e ∙ get_or-set_same ss at (Some new) None lt in inl (cc))
      (λ d. inr (sym (get_or-set_other ss at j (Some new) None d) ∙ h))
      (cases_eq j at)
