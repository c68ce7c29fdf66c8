use Rattle.std.proofs.Common.{sym, refl, ◌∙◌}
use Rattle.std.proofs.lemmas.Bool.{false≢true}
use Rattle.http_client.proofs.OutcomeLemmas.{ids_all, ids_differ, ids_more, not_same, same_by}
use Rattle.http_client.proofs.outcome_reading.have_ids.Goals as goal

pub loop-place-preserved : goal.loop-place-preserved
loop-place-preserved c =
    ids_more c.args.rows.now c.args.ids.now c.loop-place.place c.index-rows-place.result c.index-ids-place.result c.loop-place-test.true c.if-rows-ids.false c.loop-place.invariant
    (same_by _ _ c.if-ne.ensures ∙ c.index-ids-place.is)

pub returns-then-ne : goal.returns-then-ne
returns-then-ne c = record {
  value = (
    λ t. absurd (false≢true t),
    λ same. absurd (ids_differ c.args.rows.now c.args.ids.now c.loop-place.place c.index-rows-place.result c.index-ids-place.result c.loop-place-test.true
        (λ here. not_same _ _ c.if-ne.ensures (here ∙ sym c.index-ids-place.is)) same),
  );
}

pub returns : goal.returns
returns c = record { value = (λ t. ids_all c.args.rows.now c.args.ids.now c.loop-place.place c.loop-place-test.false c.if-rows-ids.false c.loop-place.invariant, λ same. refl) }
