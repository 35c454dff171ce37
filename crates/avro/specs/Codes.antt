-- Avro's code keeps the laws of a carrier's code. Assumes nothing.
use Rattle.std.specs.Prelude.{◌≡◌, ℕ, zero, suc, ◌+◌, ◌*◌, ◌/◌, ◌%◌, ◌^◌, ◌<◌, ◌≤◌, List, [], ◌∷◌, ◌++◌, length, ℤ, pos, negsuc, FitsSigned, nat_lt, refl}
use Rattle.std.proofs.Common.{sym, ap, ◌∙◌, ⊎_elim, append_assoc, arith}
use Rattle.std.specs.Int.{w64}
use Rattle.std.proofs.lemmas.List.{append_cancel_left, length-append}
use Rattle.std.proofs.lemmas.Bool.{cases_lt, lt-ltb, le-ltb, cond-true, cond-false}
use Rattle.carrier.specs.Items.{truth, whole, single, double, run, fixed, a_truth, a_whole, a_single, a_double, a_run, a_fixed, Apart, Short, Laws}
use Rattle.carrier.specs.Prefixes.{heads, tails, same_length, bit_apart}
use Rattle.avro.specs.Reading.{Small}
use Rattle.avro.specs.Avro.{zig, groups, var, low, avro}

pub small_64 : (n : ℕ) → n < 2 ^ 64 → Small 9 n
small_64 n h = omega arith

pub groups_last : (f n : ℕ) → n < 128 → groups f n ≡ n ∷ []
unfolding groups
groups_last zero n h = refl
groups_last (suc f) n h = cond-true (nat_lt n 128) _ _ (lt-ltb n 128 h)

pub groups_next : (f n : ℕ) → 128 ≤ n → groups (suc f) n ≡ (n % 128 + 128) ∷ groups f (n / 128)
unfolding groups
groups_next f n h = cond-false (nat_lt n 128) _ _ (le-ltb n 128 h)

pub length_groups : (f n : ℕ) → length (groups f n) ≤ suc f
unfolding groups
length_groups zero n = omega arith
length_groups (suc f) n =
    ⊎_elim (λ h. rw (groups_last (suc f) n h) (omega arith)) (λ h. rw (groups_next f n h) (let k = length_groups f (n / 128) in omega arith)) (cases_lt n 128)

pub groups_some : (f n : ℕ) → 1 ≤ length (groups f n)
unfolding groups
groups_some zero n = omega arith
groups_some (suc f) n = ⊎_elim (λ h. rw (groups_last (suc f) n h) (omega arith)) (λ h. rw (groups_next f n h) (omega arith)) (cases_lt n 128)

-- neither of two numbers' groups begins the other's
pub groups_same : (f m n : ℕ) (s t : List ℕ) → Small f m → Small f n → groups f m ++ s ≡ groups f n ++ t → m ≡ n
unfolding groups
groups_same zero m n s t p q e = heads m n s t e
groups_same (suc f) m n s t p q e =
    ⊎_elim
    (λ h. ⊎_elim
    (λ k. heads m n s t (rw (groups_last (suc f) m h, groups_last (suc f) n k) at e))
    (λ k. absurd (let d = heads _ _ _ _ (rw (groups_last (suc f) m h, groups_next f n k) at e) in omega arith))
    (cases_lt n 128))
    (λ h. ⊎_elim
    (λ k. absurd (let d = heads _ _ _ _ (rw (groups_next f m h, groups_last (suc f) n k) at e) in omega arith))
    (λ k.
    let r = rw (groups_next f m h, groups_next f n k) at e in
    let d = heads _ _ _ _ r in
    let i = groups_same f (m / 128) (n / 128) s t p q (tails _ _ _ _ r) in
    omega arith)
    (cases_lt n 128))
    (cases_lt m 128)

pub zig_small : (z : ℤ) → FitsSigned w64 z → zig z < 2 ^ 64
zig_small (pos n) f = omega (arith, f.sfits)
zig_small (negsuc n) f = omega (arith, f.sfits)

zig_apart : (y z : ℤ) → zig y ≡ zig z → y ≡ z
zig_apart (pos m) (pos n) e = ap pos (omega arith)
zig_apart (pos m) (negsuc n) e = absurd (omega arith)
zig_apart (negsuc m) (pos n) e = absurd (omega arith)
zig_apart (negsuc m) (negsuc n) e = ap negsuc (omega arith)

-- n has at most k bytes
abbrev pub Low : ℕ → ℕ → Type 0
Low zero n = n ≡ 0
Low (suc k) n = Low k (n / 256)

pub low_same : (k m n : ℕ) (s t : List ℕ) → Low k m → Low k n → low k m ++ s ≡ low k n ++ t → m ≡ n
low_same zero m n s t p q e = p ∙ sym q
low_same (suc k) m n s t p q e =
    let d = heads _ _ _ _ e in
    let i = low_same k (m / 256) (n / 256) s t p q (tails _ _ _ _ e) in
    omega arith

pub avro_apart : Apart avro
avro_apart k i j s t (a_truth {b = a}) (a_truth {b = b}) p q e = ap truth (bit_apart a b (heads _ _ s t e))
avro_apart k i j s t (a_whole {z = a}) (a_whole {z = b}) p q e =
    ap whole (zig_apart a b (groups_same 9 (zig a) (zig b) s t (small_64 _ (zig_small a p)) (small_64 _ (zig_small b q)) e))
avro_apart k i j s t (a_single {n = a}) (a_single {n = b}) p q e = ap single (low_same 4 a b s t (omega arith) (omega arith) e)
avro_apart k i j s t (a_double {n = a}) (a_double {n = b}) p q e = ap double (low_same 8 a b s t (omega arith) (omega arith) e)
avro_apart k i j s t (a_run {bs = a} f) (a_run {bs = b} g) p q e =
    let r = sym (append_assoc (var (length a * 2)) a s) ∙ e ∙ append_assoc (var (length b * 2)) b t in
    let l : length a * 2 ≡ length b * 2 = groups_same 9 (length a * 2) (length b * 2) (a ++ s) (b ++ t) (small_64 _ (omega (arith, p.0))) (small_64 _ (omega (arith, q.0))) r in
    ap run (same_length a b s t (omega arith) (append_cancel_left (var (length a * 2)) (a ++ s) (b ++ t) (r ∙ ap (λ n. var n ++ (b ++ t)) (sym l))))
avro_apart k i j s t (a_fixed {bs = a} f) (a_fixed {bs = b} g) p q e = ap fixed (same_length a b s t (f ∙ sym g) e)

pub avro_short : Short avro
avro_short (truth b) h = omega arith
avro_short (whole z) h = omega (arith, length_groups 9 (zig z))
avro_short (single n) h = omega arith
avro_short (double n) h = omega arith
avro_short (run bs) h = omega (arith, length-append (var (length bs * 2)) bs, length_groups 9 (length bs * 2))
avro_short (fixed bs) h = omega arith

pub avro_laws : Laws avro
avro_laws = record { apart = avro_apart; short = avro_short }
