-- The numbers that words spell. Assumes nothing.
use Rattle.std.specs.Prelude.{◌≡◌, ℕ, ◌+◌, ◌-◌, ◌*◌, ◌^◌, cond, ◌&&◌, List, [], ◌∷◌, ℤ, pos, neg_ℤ, Some, None, Option, Result, ◌==◌, nat_le, nat_lt}
use Rattle.std.specs.Int.Signed.{mag}
use Rattle.std.specs.Result.{result_ok}

abbrev pub digit_of : ℕ → Option ℕ
digit_of b = cond (nat_le 48 b && nat_le b 57) (Some (b - 48)) None

abbrev pub and_some : {X Y : Type 0} → Option X → (X → Option Y) → Option Y
and_some None f = None
and_some (Some x) f = f x

-- the number, its first digits standing for n
unfoldable pub decimal_after : ℕ → List ℕ → Option ℕ
decimal_after n [] = Some n
decimal_after n (b ∷ bs) = and_some (digit_of b) (λ d. decimal_after (n * 10 + d) bs)

-- one digit or more
abbrev pub decimal_of : List ℕ → Option ℕ
decimal_of [] = None
decimal_of (b ∷ bs) = decimal_after 0 (b ∷ bs)

-- a number that is below the limit
abbrev pub under : ℕ → Option ℕ → Option ℕ
under m None = None
under m (Some n) = cond (nat_lt n m) (Some n) None

-- what another type makes of the number, if there is one
abbrev pub Converts : {X E : Type 0} → (ℕ → Result X E → Type 0) → Option ℕ → Option X → Type 0
Converts gives None r = r ≡ None
Converts {X} {E} gives (Some n) r = (x : Result X E) × gives n x × (r ≡ result_ok x)

-- 64 bits with a sign hold it
abbrev pub fitting : ℤ → Option ℤ
fitting z = cond (nat_lt (mag z) (2 ^ 63)) (Some z) None

abbrev pub minus : ℕ → ℤ
minus n = neg_ℤ (pos n)

abbrev pub signed_of : List ℕ → Option ℤ
signed_of [] = None
signed_of (b ∷ bs) = cond (b == 45) (and_some (decimal_of bs) (λ n. fitting (minus n))) (and_some (decimal_of (b ∷ bs)) (λ n. fitting (pos n)))
