-- Items that are put one after another. Assumes nothing.
use Rattle.std.proofs.Common.{◌≡◌, ℕ, ◌+◌, ◌-◌, ◌<◌, ◌≤◌, false, List, [], ◌∷◌, ◌++◌, map, length, get_or, take, drop, sym, ap, ◌∙◌, append_assoc, append-nil, arith, take-append-drop}
use Rattle.std.proofs.lemmas.Grind.{flat_map-append}
use Rattle.std.proofs.lemmas.List.{take_more, length-append, get_or-map, length-map}
use Rattle.carrier.specs.Items.{Datum}
use Rattle.carrier.specs.Meaning.{datum}
use Rattle.std.specs.Borrow.{Bor}
use Rattle.carrier.specs.declared.Item.{Item}
use Rattle.carrier.specs.declared.Item.TheVariants.{Truth}
use Rattle.carrier.specs.Steps.{State, Added, TooLong}
use Rattle.carrier.specs.Lists.{codes}

-- the codes of the first i items have been put
pub record Sofar (code : Datum → List ℕ) (ds : List Datum) (i : ℕ) (s t : State) : Type 0 where
  pub fits : length (codes code ds) ≤ s.capacity - s.count
  pub row : t.row ≡ s.row ++ codes code (take i ds)
  pub capacity : t.capacity ≡ s.capacity
  pub count : t.count ≡ s.count + length (codes code (take i ds))

codes_some : (code : Datum → List ℕ) (ds : List Datum) (i : ℕ) → length (codes code (take i ds)) ≤ length (codes code ds)
codes_some code ds i =
    let e = ap length (sym (flat_map-append code (take i ds) (drop i ds)) ∙ ap (codes code) (take-append-drop i ds)) in
    omega (arith, simp length-append at e)

module _ (code : Datum → List ℕ) (ds : List Datum) (i : ℕ) (d : Datum) (h : i < length ds) (is : get_or ds i d ≡ d) where
  pub codes_more : codes code (take (i + 1) ds) ≡ codes code (take i ds) ++ code d
  codes_more =
      ap (codes code) (take_more ds i d h) ∙ flat_map-append code (take i ds) (get_or ds i d ∷ [])
      ∙ ap (λ l. codes code (take i ds) ++ l) (append-nil (code (get_or ds i d)) ∙ ap code is)

  pub price_more : length (codes code (take (i + 1) ds)) ≡ length (codes code (take i ds)) + length (code d)
  price_more = ap length codes_more ∙ length-append (codes code (take i ds)) (code d)

  pub price_under : length (codes code (take i ds)) + length (code d) ≤ length (codes code ds)
  price_under = omega (arith, price_more, codes_some code ds (i + 1))

  pub sofar_more : (s t u : State) → Sofar code ds i s t → Added (code d) t u → Sofar code ds (i + 1) s u
  sofar_more s t u m a = record {
    fits = m.fits;
    row = a.row ∙ ap (λ l. l ++ code d) m.row ∙ append_assoc s.row (codes code (take i ds)) (code d) ∙ ap (λ l. s.row ++ l) (sym codes_more);
    capacity = a.capacity ∙ m.capacity;
    count = omega (arith, price_more);
  }

  pub sofar_fits : (s t u : State) → Sofar code ds i s t → TooLong (code d) t u → ⊥
  sofar_fits s t u m k = omega (arith, price_under)

-- an element of a list, as an item without references
module _ (xs : List (Item (Bor (List ℕ)))) (i : ℕ) (h : i < length xs) where
  abbrev pub at : Datum
  at = datum (get_or xs i (Truth false))

  pub at_is : get_or (map datum xs) i at ≡ at
  at_is = get_or-map datum xs i (Truth false) at h

  pub at_in : i < length (map datum xs)
  at_in = rw length-map h
