use Rattle.std.proofs.Common.{◌≡◌, ◌-◌, ◌^◌, ◌+◌, ◌*◌, ℕ, All, length, min, sym, ap, subst, ◌∙◌, take, arith}
use Rattle.std.proofs.lemmas.List.{nil_from_length}
use Rattle.http_client.proofs.AskedIdsLemmas.{next_id}
use Rattle.http_client.proofs.BodySizeLemmas.{HasDigits, array_size, count_more, digits_more, none_size}
use Rattle.http_client.proofs.conditions.array_size.Goals as goal

abbrev most : ℕ
most = 2 ^ 64 - 1

pub returns-then-count-eq0 : goal.returns-then-count-eq0
returns-then-count-eq0 c = record { value = none_size c.args.ids.now most (nil_from_length c.args.ids.now c.if-count-eq0.true) (omega arith) }

pub loop-id-preserved : goal.loop-id-preserved
loop-id-preserved c =
    let ids = c.args.ids.now in
    let i = c.loop-id.id-index in
    let id = c.id-item.result in
    record {
      size = c.saturating_add-size.ensures ∙ ap (λ a. min (a + 43) most) c.loop-id.invariant.size ∙ count_more i most;
      digits = subst (All HasDigits) (sym (next_id ids i id c.loop-id-test.true c.id-item.is))
          (digits_more (take i ids) id c.digits-digits.result c.loop-id.invariant.digits c.digits-digits.ensures.value c.digits-digits.ensures.form);
    }

pub returns : goal.returns
returns c =
    let ids = c.args.ids.now in
    let past = c.loop-id-test.false in
    let inside = c.loop-id.auto.id-index-end in
    let some = c.if-count-eq0.false in
    let same : c.loop-id.id-index ≡ length ids = omega (arith, past, inside) in
    record {
      value = c.loop-id.invariant.size ∙ ap (λ n. min (1 + 43 * n) most) same
          ∙ array_size ids c.loop-id.id-index most (omega (arith, some)) past c.loop-id.invariant.digits;
    }
