-- The row between two places: less of it after a take, more of it after a put. Assumes nothing.
use Rattle.std.proofs.Common.{◌≡◌, ℕ, ◌+◌, ◌-◌, ◌≤◌, max, List, ◌++◌, length, map, take, drop, refl, sym, ap, ◌∙◌, append_assoc, arith}
use Rattle.std.specs.List.{between}
use borrow.Rule.Slice.PartMut.{put_mid}
use Rattle.std.proofs.lemmas.List.{length-take, length-drop, length-map, length-append, length-take-le, take-append-drop, take_at, drop-drop, drop-map, map-append, drop-append-le}
use Rattle.std.proofs.lemmas.Slice.{between_is}
use Rattle.carrier.specs.Steps.{Added}
use Rattle.queue.specs.Fronts.{Wrote}
use Rattle.queue.specs.Queues.{state_at, Skipped}

module _ {N : Type 0} (f : N → ℕ) (xs : List N) (from to cap : ℕ) (o : from ≤ to) (inside : to ≤ length xs) where
  pub row_long : length (map f (between from to xs)) ≡ to - from
  row_long = simp (length-map, length-take, length-drop) (omega arith)

  row_skip : (n : ℕ) → map f (between (from + n) to xs) ≡ drop n (map f (between from to xs))
  row_skip n =
      ap (map f) (between_is xs (from + n) to ∙ sym (drop-drop n from (take to xs)) ∙ ap (drop n) (sym (between_is xs from to)))
      ∙ sym (drop-map f n (between from to xs))

  -- n numbers left, but not all
  pub skipped_some : (n : ℕ) → n ≤ length (map f (between from to xs)) → (from + n ≡ to → ⊥) → Skipped n (state_at f xs from to cap) (state_at f xs (from + n) to cap)
  skipped_some n h more = record {
    row = row_skip n;
    capacity = refl;
    count = omega arith;
    drained = λ e. absurd (more (omega (arith, row_long, h, ap length (sym (row_skip n) ∙ e), simp (length-drop) at (ap length (sym (row_skip n) ∙ e)))));
  }

  -- p was written to the part of the memory that lies behind the row
  pub written : (p : List ℕ) (k n : ℕ) (out out' : List N) → cap ≤ length xs → k ≡ max cap to - to → length out ≡ k → Wrote f p n out out'
      → Added p (state_at f xs from to cap) (state_at f (put_mid to k xs out') from (to + n) cap)
  written p k n out out' c k_is long w =
      let zs = put_mid to k xs out' in
      let split : zs ≡ (take to xs ++ take n out') ++ (drop n out' ++ drop k (drop to xs)) =
      ap (λ l. take to xs ++ (l ++ drop k (drop to xs))) (sym (take-append-drop n out'))
      ∙ ap (λ l. take to xs ++ l) (append_assoc (take n out') (drop n out') (drop k (drop to xs)))
      ∙ sym (append_assoc (take to xs) (take n out') (drop n out' ++ drop k (drop to xs))) in
      let size : length (take n out') ≡ n = sym (length-map (take n out') f) ∙ ap length w.front ∙ sym w.long in
      let front : take (to + n) zs ≡ take to xs ++ take n out' =
      ap (take (to + n)) split ∙ take_at _ _ (to + n) (omega (arith, length-append (take to xs) (take n out'), length-take-le to xs inside, size)) in
      let row : between from (to + n) zs ≡ between from to xs ++ take n out' =
      between_is zs from (to + n) ∙ ap (drop from) front ∙ drop-append-le from (take to xs) (take n out') (omega (arith, length-take-le to xs inside))
      ∙ ap (λ l. l ++ take n out') (sym (between_is xs from to)) in
      record {
        fits = omega (arith, w.long, w.fits);
        row = ap (map f) row ∙ map-append f (between from to xs) (take n out') ∙ ap (λ l. map f (between from to xs) ++ l) w.front;
        capacity = refl;
        count = omega (arith, w.long, w.fits);
      }
