use Rattle.std.proofs.Common.{ap, map, ◌∙◌}
use Rattle.http_client.specs.OrderOutcome.{row_id}
use Rattle.http_client.proofs.OutcomeLemmas.{no_rows, other_rows}
use Rattle.http_client.proofs.outcome_reading.packed_of.Goals as goal

pub returns-in-Err-Bad : goal.returns-in-Err-Bad
returns-in-Err-Bad c =
    let bad = rw c.in-Err-Bad.field-0-is at c.in-Err-Bad.ensures.value in
    record { value = λ rows good same. no_rows c.args.body.now _ rows bad good }

pub returns-else-have_ids : goal.returns-else-have_ids
returns-else-have_ids c = record {
  value = other_rows c.args.body.now c.args.ids.now c.in-Ok.rows c.have_ids.result c.in-Ok.ensures.value
      (λ same. c.have_ids.ensures.value.1 (ap (map row_id) c.slice.ensures.value ∙ same)) c.if-have_ids.false;
}
