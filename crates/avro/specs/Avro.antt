-- Avro's code of an item. Assumes nothing.
use Rattle.std.specs.Prelude.{ℕ, zero, suc, ◌+◌, ◌*◌, ◌/◌, ◌%◌, cond, List, [], ◌∷◌, ◌++◌, length, ℤ, pos, negsuc, nat_lt}
use Rattle.carrier.specs.Items.{Datum, truth, whole, single, double, run, fixed}

-- zig-zag: n from 0 up becomes 2n, n below 0 becomes -2n - 1
abbrev pub zig : ℤ → ℕ
zig (pos n) = n * 2
zig (negsuc n) = n * 2 + 1

-- groups of seven bits, lowest first, each but the last with 128 added: at most f + 1 groups
unfoldable pub groups : ℕ → ℕ → List ℕ
groups zero n = n ∷ []
groups (suc f) n = cond (nat_lt n 128) (n ∷ []) ((n % 128 + 128) ∷ groups f (n / 128))

-- 64 bits are at most ten groups
abbrev pub var : ℕ → List ℕ
var n = groups 9 n

-- k bytes, lowest first
abbrev pub low : ℕ → ℕ → List ℕ
low zero n = []
low (suc k) n = (n % 256) ∷ low k (n / 256)

abbrev pub avro : Datum → List ℕ
avro (truth b) = cond b 1 0 ∷ []
avro (whole z) = var (zig z)
avro (single n) = low 4 n
avro (double n) = low 8 n
avro (run bs) = var (length bs * 2) ++ bs
avro (fixed bs) = bs
