-- A number that is read from the front of a row. Assumes nothing.
use Rattle.std.specs.Prelude.{◌≡◌, ℕ, zero, suc, ◌+◌, ◌*◌, ◌/◌, ◌^◌, ◌<◌, ◌≤◌, List, ◌++◌, length, take, drop, Some, None, Option, ◌≢◌}
use Rattle.carrier.specs.Items.{run, Held}
use Rattle.avro.specs.Avro.{groups, var, avro}

-- n has at most f + 1 groups
abbrev pub Small : ℕ → ℕ → Type 0
Small zero n = n < 128
Small (suc f) n = Small f (n / 128)

pub record Read (f : ℕ) (s : List ℕ) (n k : ℕ) : Type 0 where
  pub fits : n < 2 ^ 64
  pub small : Small f n
  pub front : s ≡ groups f n ++ drop k s
  pub long : length (groups f n) ≡ k

abbrev pub Reads : ℕ → List ℕ → Option (ℕ × ℕ) → Type 0
Reads f s (Some p) = Read f s p.0 p.1
Reads f s None = (n : ℕ) (rest : List ℕ) → n < 2 ^ 64 → Small f n → s ≢ groups f n ++ rest

-- a run of len bytes stands at the front of s, after the `at` bytes of its length
pub record Run (s : List ℕ) (at len : ℕ) : Type 0 where
  pub inside : at + len ≤ length s
  pub front : take (at + len) s ≡ var (len * 2) ++ take len (drop at s)

abbrev pub FindsRun : ℕ → List ℕ → Option (ℕ × ℕ) → Type 0
FindsRun most s (Some p) = (p.1 ≤ most) × Run s p.0 p.1
FindsRun most s None = (bs rest : List ℕ) → Held (run bs) → length bs ≤ most → s ≢ avro (run bs) ++ rest
