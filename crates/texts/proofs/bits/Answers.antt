use Rattle.std.proofs.Common.{◌≡◌, ℕ, ◌+◌, ◌-◌, ◌*◌, ◌^◌, ◌<◌, ◌≤◌, List, length, get_or, take, drop, sym, ap, ◌∙◌, arith}
use Rattle.std.proofs.lemmas.List.{take_rest, length-drop}
use Rattle.texts.specs.Encoded.{hex_after, bits_of}
use Rattle.texts.proofs.Digits.{hex_none, hex_more, hex_all, hex_room, hex_fits, hex_below, bits_word}
use Rattle.texts.proofs.bits.Goals as goal

abbrev tail : List ℕ → List ℕ
tail w = take (length w - 1) (drop 1 w)

tail_length : (w : List ℕ) → length (tail w) ≡ length w - 1
tail_length w = ap length (take_rest w 1) ∙ length-drop 1 w

bits_tail : (k : ℕ) (w : List ℕ) → length w ≡ k + 1 → get_or w 0 0 ≡ 120 → bits_of k w ≡ hex_after 0 (tail w)
bits_tail k w l e = bits_word k w l e ∙ ap (hex_after 0) (sym (take_rest w 1))

fits_more : (n i k : ℕ) (w : List ℕ) → n < 16 ^ i → i < length (tail w) → length w ≡ k + 1 → k ≤ 16 → n * 16 + 15 < 2 ^ 64
fits_more n i k w h l e m = hex_fits n i k h (omega (arith, tail_length w)) m

pub overflow_mul-n : goal.overflow_mul-n
overflow_mul-n c = record { fits = omega (arith, fits_more c.loop-b.n c.loop-b.b-index c.args.digits c.args.word.now c.loop-b.invariant.0 c.loop-b-test.true (omega arith) c.requires) }

pub returns-in_err-nibble-clause-spelled : goal.returns-in_err-nibble-clause-spelled
returns-in_err-nibble-clause-spelled c =
    c.from_residual.ensures ∙ sym (hex_none c.loop-b.n (tail c.args.word.now) c.loop-b.b-index c.loop-b-test.true c.in_err-nibble.ensures.the_digit)
    ∙ c.loop-b.invariant.1 ∙ sym (bits_tail c.args.digits c.args.word.now (omega arith) (omega arith))

pub overflow_add-n : goal.overflow_add-n
overflow_add-n c = record {
  fits = omega (
    arith,
    c.from.ensures,
    hex_below (get_or (tail c.args.word.now) c.loop-b.b-index 0) c.in_ok-nibble.field-0 c.in_ok-nibble.ensures.the_digit,
    fits_more c.loop-b.n c.loop-b.b-index c.args.digits c.args.word.now c.loop-b.invariant.0 c.loop-b-test.true (omega arith) c.requires,
  );
}

pub loop-b-preserved : goal.loop-b-preserved
loop-b-preserved c =
    let d = c.in_ok-nibble.ensures.the_digit in
    let i = c.loop-b.b-index in
    let w = tail c.args.word.now in
    let n = c.loop-b.n in (
      omega (arith, c.from.ensures, hex_room (get_or w i 0) c.in_ok-nibble.field-0 n i d c.loop-b.invariant.0),
      ap (λ x. hex_after (n * 16 + x) (drop (i + 1) w)) c.from.ensures ∙ sym (hex_more n w i c.loop-b-test.true c.in_ok-nibble.field-0 d) ∙ c.loop-b.invariant.1,
    )

pub returns-clause-spelled : goal.returns-clause-spelled
returns-clause-spelled c =
    sym (hex_all c.loop-b.n (tail c.args.word.now) c.loop-b.b-index c.loop-b-test.false)
    ∙ c.loop-b.invariant.1 ∙ sym (bits_tail c.args.digits c.args.word.now (omega arith) (omega arith))
