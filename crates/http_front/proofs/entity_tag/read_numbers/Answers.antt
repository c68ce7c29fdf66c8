use Rattle.std.proofs.Common.{◌∙◌, ◌<◌, ◌+◌, ◌∷◌, ◌++◌, sym, arith, length}
use Rattle.std.proofs.lemmas.List.{take_rest}
use Rattle.http_front.proofs.TagLemmas.{cut_at_hyphen, joined_at_hyphen}
use Rattle.http_front.proofs.entity_tag.read_numbers.Goals as goal

pub returns-then-hyphen-text : goal.returns-then-hyphen-text
returns-then-hyphen-text c tag fits same =
    let cut = cut_at_hyphen c.args.text.now tag.opening _ c.hyphen_place-hyphen.result fits.opening same c.hyphen_place-hyphen.ensures.value in
    omega (arith, cut.inside, c.if-hyphen-text.true)

pub returns-in-Some-read_number : goal.returns-in-Some-read_number
returns-in-Some-read_number c =
    let text = c.args.text.now in
    let place = c.hyphen_place-hyphen.result in
    let inside : place < length text = omega (arith, c.hyphen_place-hyphen.ensures.within, c.if-hyphen-text.false) in
    let back = sym (take_rest text (place + 1)) ∙ c.in-Some-read_number.ensures.1 in (
      record { opening = c.in-Some.ensures.0; count = c.in-Some-read_number.ensures.0 },
      joined_at_hyphen text place inside (c.hyphen_place-hyphen.ensures.hyphen inside)
          ∙ (λ i. c.in-Some.ensures.1 i ++ 45 ∷ back i),
    )

pub returns-in-None-read_number : goal.returns-in-None-read_number
returns-in-None-read_number c tag fits same =
    let cut = cut_at_hyphen c.args.text.now tag.opening _ c.hyphen_place-hyphen.result fits.opening same c.hyphen_place-hyphen.ensures.value in
    c.in-None-read_number.ensures tag.count fits.count (take_rest c.args.text.now (c.hyphen_place-hyphen.result + 1) ∙ cut.back_is)

pub returns-in-None : goal.returns-in-None
returns-in-None c tag fits same =
    let cut = cut_at_hyphen c.args.text.now tag.opening _ c.hyphen_place-hyphen.result fits.opening same c.hyphen_place-hyphen.ensures.value in
    c.in-None.ensures tag.opening fits.opening cut.front_is
