-- The slots that a walk comes to, from its start to the end and then from the first on. Assumes nothing.
use Rattle.std.proofs.Common.{◌≡◌, ℕ, ◌+◌, ◌-◌, ◌<◌, false, List, ◌++◌, Some, None, Option, length, get_or, refl, ◌∙◌, ⊎_elim, zero-add, arith}
use Rattle.std.specs.List.{range_with_len}
use Rattle.std.specs.Iterator.Adapters.{chain_first, chain_second, chain_first_done, chain_second_done, chain_steps}
use Rattle.std.specs.Iterator.{Yields}
use Rattle.std.specs.declared.iter.Chain.{Chain}
use Rattle.std.specs.declared.ops.Range.{Range}
use Rattle.std.proofs.iter.Yields.{nat_range_steps}
use Rattle.std.proofs.lemmas.List.{get_or_append_left, get_or-append_right, length-append}
use Rattle.std.proofs.lemmas.List.FromFn.{get_or-range_with_len, length-range_with_len}
use Rattle.std.proofs.lemmas.Bool.{cases_lt}
use Rattle.std.proofs.lemmas.Bool.Decides.{nat_tests}
use Rattle.std.proofs.lemmas.Iterator.{YieldsList, YieldsList-from_range}
use Rattle.std.proofs.lemmas.Iterator.Consumers.{YieldsList-from_chain, YieldsList-turn, YieldsList-end}
use Rattle.keyspace.specs.Slots.{walked}

module _ (home n : ℕ) (within : home < n) where
  abbrev ahead : List ℕ
  ahead = range_with_len home (n - home)

  abbrev back : List ℕ
  back = range_with_len 0 home

  ahead_len : length ahead ≡ n - home
  ahead_len = length-range_with_len home (n - home)

  all : length (ahead ++ back) ≡ n
  all = omega (arith, ahead_len, length-range_with_len 0 home, length-append ahead back)

  -- what stands at a place of the two ranges
  at_place : (i at : ℕ) → i < n → at ≡ get_or (ahead ++ back) i at → (at < n) × (at ≡ walked home i n)
  at_place i at lt e =
      ⊎_elim
      (λ below.
      let is : at ≡ home + i = e ∙ get_or_append_left ahead back at i (omega (arith, ahead_len)) ∙ get_or-range_with_len home (n - home) i at below in
      (omega arith, is ∙ grind (arith, nat_tests)))
      (λ above.
      let is : at ≡ i - (n - home) = e ∙ get_or-append_right ahead back (n - home) i at ahead_len above ∙ get_or-range_with_len 0 home (i - (n - home)) at (omega arith) ∙ zero-add _ in
      (omega arith, is ∙ grind (arith, nat_tests)))
      (cases_lt i (n - home))

  module _ {s : Chain (Range ℕ) (Range ℕ)} (first : chain_first s ≡ record { start = home; end = n }) (second : chain_second s ≡ record { start = 0; end = home })
      (not_yet : chain_first_done s ≡ false) (nor_this : chain_second_done s ≡ false) where
    goes : YieldsList (chain_steps nat_range_steps nat_range_steps) (λ x. x) s (ahead ++ back)
    goes = YieldsList-from_chain (YieldsList-from_range home n (n - home) first refl) (YieldsList-from_range 0 home home second (omega arith)) not_yet nor_this

    -- the next slot
    pub turns : (seen : List ℕ) (t : _) → Yields (chain_steps nat_range_steps nat_range_steps) s seen t → (r : Option ℕ) (u : _) (at : ℕ) → r ≡ Some at → chain_steps nat_range_steps nat_range_steps t r u
        → (length seen < n) × (at < n) × (at ≡ walked home (length seen) n)
    turns seen t y r u at e steps =
        let turn = YieldsList-turn goes seen t y r u at e steps in
        let near : length seen < n = omega (arith, turn.0, all) in
        let place = at_place (length seen) at near turn.1 in
        (near, place.0, place.1)

    -- after the last one
    pub ends : (seen : List ℕ) (t : _) → Yields (chain_steps nat_range_steps nat_range_steps) s seen t → (r : Option ℕ) (u : _) → r ≡ None → chain_steps nat_range_steps nat_range_steps t r u → length seen ≡ n
    ends seen t y r u e steps = (YieldsList-end goes seen t y r u e steps).1 ∙ all
