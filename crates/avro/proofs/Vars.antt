-- The groups of a number, one after another. Assumes nothing.
use Rattle.std.proofs.Common.{◌≡◌, ℕ, zero, suc, ◌+◌, ◌-◌, ◌/◌, ◌%◌, ◌^◌, ◌<◌, ◌≤◌, List, [], ◌∷◌, ◌++◌, length, take, drop, set, sym, ap, ◌∙◌, append-nil, ⊎_elim, arith}
use borrow.Rule.Slice.PartMut.{put_mid}
use Rattle.std.proofs.lemmas.Bool.{cases_lt}
use Rattle.std.proofs.lemmas.List.{take_all, drop_all}
use Rattle.avro.specs.Reading.{Small}
use Rattle.avro.specs.Avro.{groups, var}
use Rattle.avro.specs.Codes.{small_64, groups_last, groups_next, length_groups}

-- one group more may be had, and none is needed
one_more : (f n : ℕ) → Small f n → groups (suc f) n ≡ groups f n
unfolding groups
one_more zero n h = groups_last 1 n h
one_more (suc f) n h =
    ⊎_elim
    (λ l. groups_last (suc (suc f)) n l ∙ sym (groups_last (suc f) n l))
    (λ g. groups_next (suc f) n g ∙ ap (λ l. (n % 128 + 128) ∷ l) (one_more f (n / 128) h) ∙ sym (groups_next f n g))
    (cases_lt n 128)

pub var_last : (n : ℕ) → n < 128 → var n ≡ n ∷ []
var_last n h = groups_last 9 n h

pub var_next : (n : ℕ) → 128 ≤ n → n < 2 ^ 64 → var n ≡ (n % 128 + 128) ∷ var (n / 128)
var_next n h f = groups_next 8 n h ∙ ap (λ l. (n % 128 + 128) ∷ l) (sym (one_more 8 (n / 128) (small_64 n f)))

pub var_few : (n : ℕ) → length (var n) ≤ 10
var_few n = length_groups 9 n

-- the first group stands in front, and the others behind it
pub written_next : (n b : ℕ) (out rest : List ℕ) → b ≡ n % 128 + 128 → 128 ≤ n → n < 2 ^ 64 → length (var n) ≤ length out
    → rest ≡ var (n / 128) ++ drop (length (var (n / 128))) (take (length (set out 0 b) - 1) (drop 1 (set out 0 b)))
    → put_mid 1 (length (set out 0 b) - 1) (set out 0 b) rest ≡ var n ++ drop (length (var n)) out
written_next n b [] rest is h f room e = absurd (omega (arith, ap length (var_next n h f)))
written_next n b (x ∷ xs) rest is h f room e =
    let m = n / 128 in
    let k : length (b ∷ xs) - 1 ≡ length xs = omega arith in
    let next : var n ≡ b ∷ var m = var_next n h f ∙ ap (λ c. c ∷ var m) (sym is) in
    let tail : rest ≡ var m ++ drop (length (var m)) xs = e ∙ ap (λ l. var m ++ drop (length (var m)) l) (ap (λ j. take j xs) k ∙ take_all (length xs) xs (omega arith)) in
    ap (λ j. b ∷ (rest ++ drop j xs)) k ∙ ap (λ l. b ∷ (rest ++ l)) (drop_all (length xs) xs (omega arith)) ∙ ap (λ l. b ∷ l) (append-nil rest ∙ tail)
    ∙ sym (ap (λ l. l ++ drop (length l) (x ∷ xs)) next)

pub var_longer : (n : ℕ) → 128 ≤ n → n < 2 ^ 64 → length (var n) ≡ 1 + length (var (n / 128))
var_longer n h f = ap length (var_next n h f) ∙ (let e : suc (length (var (n / 128))) ≡ 1 + length (var (n / 128)) = omega arith in e)
