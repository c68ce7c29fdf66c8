-- A number of at most 18 digits keeps its value as a signed one.
use Rattle.std.proofs.Common.{pos, w64}
use Rattle.std.proofs.lemmas.Int.{fits_signed_from_abs}
use Rattle.http_front.proofs.NumberLemmas.{half_fits, short_number, signed_bounds, signed_count}
use Rattle.http_front.proofs.query.day_count.Goals as goal

pub overflow_cast-result : goal.overflow_cast-result
overflow_cast-result c =
    fits_signed_from_abs w64 (pos c.in-Some.number) (half_fits c.in-Some.number (short_number c.args.digits.now c.in-Some.number c.if-digits-gt18.false c.in-Some.ensures.value))

pub returns-in-Some-clause-value : goal.returns-in-Some-clause-value
returns-in-Some-clause-value c = signed_count c.args.digits.now c.in-Some.number c.if-digits-gt18.false c.in-Some.ensures.value

pub returns-in-Some-clause-bound : goal.returns-in-Some-clause-bound
returns-in-Some-clause-bound c =
    signed_bounds c.in-Some.number (short_number c.args.digits.now c.in-Some.number c.if-digits-gt18.false c.in-Some.ensures.value)
