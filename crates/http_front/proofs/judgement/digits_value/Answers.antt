use Rattle.std.proofs.Common.{◌+◌, ◌*◌, ◌<◌, arith}
use Rattle.std.proofs.lemmas.Int.Digits.{digits_value_more}
use Rattle.http_front.proofs.NumberLemmas.{digit_at, more_digits, nineteen_fit}
use Rattle.http_front.proofs.judgement.digits_value.Goals as goal

pub overflow_mul-value : goal.overflow_mul-value
overflow_mul-value c =
    let here = more_digits c.loop-c.value 0 c.loop-c.c-index c.loop-c.invariant.bound (omega arith) in
    let fits = nineteen_fit (c.loop-c.value * 10 + 0) c.loop-c.c-index here (omega arith) in
    omega (arith, fits)

pub overflow_add-value : goal.overflow_add-value
overflow_add-value c =
    let digit = digit_at c.args.text.now c.loop-c.c-index c.requires.digits c.loop-c-test.true in
    let small : c.from.result < 10 = omega (arith, c.from.ensures, digit.1) in
    let here = more_digits c.loop-c.value c.from.result c.loop-c.c-index c.loop-c.invariant.bound small in
    let fits = nineteen_fit (c.loop-c.value * 10 + c.from.result) c.loop-c.c-index here (omega arith) in
    omega (arith, fits)

pub loop-c-preserved : goal.loop-c-preserved
loop-c-preserved c =
    let digit = digit_at c.args.text.now c.loop-c.c-index c.requires.digits c.loop-c-test.true in
    let small : c.from.result < 10 = omega (arith, c.from.ensures, digit.1) in
    let more = digits_value_more 10 c.args.text.now c.loop-c.c-index c.loop-c-test.true in
    record {
      value = omega (arith, more, c.loop-c.invariant.value, c.from.ensures, digit.0);
      bound = more_digits c.loop-c.value c.from.result c.loop-c.c-index c.loop-c.invariant.bound small;
    }
