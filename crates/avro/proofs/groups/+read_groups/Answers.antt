use Rattle.std.proofs.Common.{◌≡◌, suc, ◌-◌, ◌*◌, ◌+◌, ◌/◌, ◌^◌, ◌<◌, ◌≤◌, ◌⊎◌, ◌++◌, subst, arith, rules}
use Rattle.avro.specs.Avro.{groups}
use Rattle.avro.specs.Reading.{Small, Read}
use Rattle.avro.proofs.Fronts.{none_empty, read_last, none_last, read_next, high_next, none_next}
use Rattle.avro.proofs.groups.+read_groups.Goals as goal

pub returns-in_err-b : goal.returns-in_err-b
returns-in_err-b t c = rw c.from_residual.ensures (λ n rest fits p e. none_empty _ n _ rest c.in_err-b.ensures.cases e)

pub returns-then-b-lt128 : goal.returns-then-b-lt128
returns-then-b-lt128 t c = rw c.from.ensures (read_last _ _ _ _ c.in_ok-b.ensures.cases.0 c.if-b-lt128.true)

pub returns-in_err-checked_sub : goal.returns-in_err-checked_sub
returns-in_err-checked_sub t c = rw c.from_residual-in_err-checked_sub.ensures
    (λ n rest fits p e. none_last _ n _ _ _ rest c.in_ok-b.ensures.cases.0 (omega (arith, c.in_err-checked_sub.ensures)) c.if-b-lt128.false p e)

pub returns-in_err-m : goal.returns-in_err-m
returns-in_err-m t c = rw c.from_residual-in_err-m.ensures (λ n rest fits p e.
    let f = c.in_ok-checked_sub.field-0 in
    let up : c.args.most ≡ suc f = omega (arith, c.in_ok-checked_sub.ensures) in
    let h = high_next f _ _ _ c.in_ok-b.ensures.cases.0 c.if-b-lt128.false n rest (subst (λ k. c.args.s.now ≡ groups k n ++ rest) up e) in
    c.in_err-m.ensures (n / 128) rest (omega arith) (subst (λ k. Small k n) up p) h.1)

pub returns-then-m-eq0 : goal.returns-then-m-eq0
returns-then-m-eq0 t c n rest fits p e =
    let f = c.in_ok-checked_sub.field-0 in
    let up : c.args.most ≡ suc f = omega (arith, c.in_ok-checked_sub.ensures) in
    let w : (c.in_ok-m.m ≡ 0) ⊎ (2 ^ 57 ≤ c.in_ok-m.m) = grind (arith, c.then-m-eq0.either) in
    none_next f _ _ _ c.in_ok-b.ensures.cases.0 c.if-b-lt128.false _ _ n rest c.in_ok-m.ensures w fits
    (subst (λ k. Small k n) up p) (subst (λ k. c.args.s.now ≡ groups k n ++ rest) up e)

pub returns : goal.returns
returns t c =
    let f = c.in_ok-checked_sub.field-0 in
    let up : suc f ≡ c.args.most = omega (arith, c.in_ok-checked_sub.ensures) in
    let byte : c.in_ok-b.b.now < 256 = search rules in
    rw c.from-2.ensures (subst (λ k. Read k c.args.s.now (c.in_ok-b.b.now - 128 + c.in_ok-m.m * 128) (c.in_ok-m.k + 1)) up
    (read_next f _ _ _ c.in_ok-b.ensures.cases.0 c.if-b-lt128.false c.in_ok-m.m c.in_ok-m.k byte c.in_ok-m.ensures (omega (arith, c.if-m-eq0.false)) c.if-m-ge-LIMIT.false))
