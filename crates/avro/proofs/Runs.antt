-- A run at the front of a row. Assumes nothing.
use Rattle.std.proofs.Common.{◌≡◌, ℕ, ◌+◌, ◌-◌, ◌*◌, ◌/◌, ◌%◌, ◌^◌, ◌<◌, ◌≤◌, min, List, ◌++◌, length, map, take, drop, ℤ, sym, ap, ◌∙◌, subst, append_assoc, arith}
use Rattle.std.proofs.lemmas.List.{length-append, length-drop, length-take-le, take_at, drop_at, map-id, take-take, take-append-drop, drop-take, append_cancel_left}
use Rattle.carrier.specs.Items.{whole, run, Held, Bytes, a_whole, a_run}
use Rattle.carrier.specs.Steps.{None}
use Rattle.queue.specs.Fronts.{Copied}
use Rattle.avro.specs.Avro.{groups, var, avro}
use Rattle.avro.specs.Reading.{Read, Run}
use Rattle.carrier.specs.declared.Kind.TheVariants as kind
use Rattle.avro.specs.Codes.{small_64, groups_same}

module _ (s : List ℕ) (n at : ℕ) (r : Read 9 s n at) where
  pub read_inside : at ≤ length s
  read_inside = omega (arith, ap length r.front, length-append (groups 9 n) (drop at s), r.long)

  pub read_front : take at s ≡ var n
  read_front = ap (take at) r.front ∙ take_at (var n) (drop at s) at r.long

  pub run_here : n % 2 ≡ 0 → n / 2 ≤ length s - at → Run s at (n / 2)
  run_here even h =
      let len = n / 2 in
      let whole : len * 2 ≡ n = omega arith in
      let head : take at (take (at + len) s) ≡ take at s = take-take at (at + len) s (omega arith) in
      record {
        inside = omega (arith, read_inside);
        front = sym (take-append-drop at (take (at + len) s)) ∙ (λ i. (head ∙ read_front) i ++ drop-take at len s i) ∙ ap (λ m. var m ++ take len (drop at s)) (sym whole);
      }

  -- a run's length is what was read
  pub run_there : (bs rest : List ℕ) → Held (run bs) → s ≡ avro (run bs) ++ rest → (n ≡ length bs * 2) × (length bs ≤ length s - at)
  run_there bs rest h e =
      let f = e ∙ append_assoc (var (length bs * 2)) bs rest in
      let same = groups_same 9 n (length bs * 2) (drop at s) (bs ++ rest) r.small (small_64 _ (omega (arith, h.0))) (sym r.front ∙ f) in
      let tail : drop at s ≡ bs ++ rest = append_cancel_left (var n) (drop at s) (bs ++ rest) (sym r.front ∙ f ∙ ap (λ m. var m ++ (bs ++ rest)) (sym same)) in
      (same, omega (arith, h.0, ap length tail, length-append bs rest, length-drop at s))

-- no item of a kind stands at the front
module _ (row : List ℕ) where
  pub none_whole : ((z : ℤ) (rest : List ℕ) → Held (whole z) → row ≡ avro (whole z) ++ rest → ⊥) → None avro kind.Whole row
  none_whole none d rest (a_whole {z = z}) h e = none z rest h e

  pub none_run : (most : ℕ) → ((bs rest : List ℕ) → Held (run bs) → length bs ≤ most → row ≡ avro (run bs) ++ rest → ⊥) → None avro (kind.Run most) row
  none_run most none d rest (a_run {bs = bs} p) h e = none bs rest h p e

-- the run's bytes, ys, stand at the front of out
pub run_copied : (row out ys : List ℕ) (most at len : ℕ) → len ≤ min most (length out) → length row < 2 ^ 63 → Bytes ys → Run row at len → ys ≡ take (at + len - at) (drop at row) → Copied avro (map (λ b. b) row) most len (at + len) out (ys ++ drop len out)
run_copied row out ys most at len few small bytes r is =
    let size : at + len - at ≡ len = omega arith in
    let body : ys ≡ take len (drop at row) = is ∙ ap (λ n. take n (drop at row)) size in
    let long : length ys ≡ len = ap length body ∙ length-take-le len (drop at row) (rw length-drop (omega (arith, r.inside))) in
    let front : take len (ys ++ drop len out) ≡ ys = take_at ys (drop len out) len long in
    let code : take (at + len) row ≡ avro (run (take len (ys ++ drop len out))) =
    r.front ∙ ap (λ l. var (len * 2) ++ l) (sym body) ∙ ap (λ n. var (n * 2) ++ ys) (sym long) ∙ ap (λ l. avro (run l)) (sym front) in
    record {
      small = few;
      rest = drop_at ys (drop len out) len long;
      stands = record {
        held = subst (λ l. Held (run l)) (sym front) ((let e : length ys < 2 ^ 63 = omega (arith, r.inside) in e), bytes);
        long = sym (length-take-le (at + len) row r.inside) ∙ ap length code;
        front = map-id row ∙ sym (take-append-drop (at + len) row) ∙ (λ i. code i ++ drop (at + len) (sym (map-id row) i));
      };
    }
