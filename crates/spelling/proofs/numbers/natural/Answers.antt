use Rattle.std.proofs.Common.{◌≡◌, ◌+◌, ◌*◌, ◌^◌, drop, sym, ap, ◌∙◌, arith}
use Rattle.spelling.specs.Decimals.{decimal_after, under}
use Rattle.spelling.proofs.Spelled.{read_none, read_more, read_over, read_all}
use Rattle.spelling.proofs.numbers.natural.Goals as goal

pub returns-in_err-d : goal.returns-in_err-d
returns-in_err-d c = record { spelled = c.from_residual.ensures ∙ sym (read_none (2 ^ 64) c.loop-b.n c.args.word.now c.loop-b.b-index c.loop-b-test.true (sym c.in_err-d.ensures.the_digit)) ∙ c.loop-b.invariant.1 }

pub returns-in_err-checked_mul : goal.returns-in_err-checked_mul
returns-in_err-checked_mul c = record { spelled = c.from_residual-in_err-checked_mul.ensures ∙ sym (read_over (2 ^ 64) c.loop-b.n c.args.word.now c.loop-b.b-index c.loop-b-test.true c.in_ok-d.d (sym c.in_ok-d.ensures.the_digit) (omega (arith, c.in_err-checked_mul.ensures))) ∙ c.loop-b.invariant.1 }

pub returns-in_err-n : goal.returns-in_err-n
returns-in_err-n c = record { spelled = c.from_residual-in_err-n.ensures ∙ sym (read_over (2 ^ 64) c.loop-b.n c.args.word.now c.loop-b.b-index c.loop-b-test.true c.in_ok-d.d (sym c.in_ok-d.ensures.the_digit) (omega (arith, c.in_err-n.ensures, c.in_ok-checked_mul.ensures))) ∙ c.loop-b.invariant.1 }

pub loop-b-preserved : goal.loop-b-preserved
loop-b-preserved c =
    let e = read_more (2 ^ 64) c.loop-b.n c.args.word.now c.loop-b.b-index c.loop-b-test.true c.in_ok-d.d (sym c.in_ok-d.ensures.the_digit) in
    let a = c.in_ok-n.ensures in
    let n : c.in_ok-n.n ≡ c.loop-b.n * 10 + c.in_ok-d.d = omega (arith, a.1, c.in_ok-checked_mul.ensures.1) in
    (omega (arith, a.0, a.1), ap (λ k. under (2 ^ 64) (decimal_after k (drop (c.loop-b.b-index + 1) c.args.word.now))) n ∙ sym (ap (under (2 ^ 64)) e) ∙ c.loop-b.invariant.1)

pub returns : goal.returns
returns c = record { spelled = sym (read_all (2 ^ 64) c.loop-b.n c.args.word.now c.loop-b.b-index c.loop-b-test.false c.loop-b.invariant.0) ∙ c.loop-b.invariant.1 }
