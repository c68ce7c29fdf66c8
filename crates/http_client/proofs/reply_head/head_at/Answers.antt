use Rattle.std.proofs.Common.{◌≤◌, arith, length, take, length-take, Ok, Err}
use Rattle.httparse.specs.declared.Status.TheVariants.{Complete, Partial}
use Rattle.http_client.proofs.FrontLemmas.{no_head_found}
use Rattle.http_client.proofs.SeenHeadLemmas.{seen_by}
use Rattle.http_client.proofs.reply_head.head_at.Goals as goal

pub returns-then-spans-eq1 : goal.returns-then-spans-eq1
returns-then-spans-eq1 c =
    let told = rw c.in-Ok-Complete.field-0-is at c.in-Ok-Complete.ensures in
    let headers = c.parse_response.new.headers in
    let spans = c.in-Ok-Complete.spans in
    let few : length (take spans.headers headers) ≤ 64 = omega (arith, length-take spans.headers headers, c.parse_response.auto.headers) in
    record {
      value = seen_by c.args.order.now c.args.front.now headers spans c.seen_head.result told.complete.0 told.complete.1 c.if-spans-eq1.true few
          told.within.section.len_fits c.seen_head.ensures.size c.seen_head.ensures.told c.seen_head.ensures.found c.seen_head.ensures.value;
    }

pub returns-else-spans-eq1 : goal.returns-else-spans-eq1
returns-else-spans-eq1 c =
    let told = rw c.in-Ok-Complete.field-0-is at c.in-Ok-Complete.ensures in
    record { value = no_head_found c.args.front.now c.parse_response.new.headers (Ok (Complete c.in-Ok-Complete.spans)) told.found c.if-spans-eq1.false }

pub returns-in-Ok-Partial : goal.returns-in-Ok-Partial
returns-in-Ok-Partial c =
    let told = rw c.in-Ok-Partial.field-0-is at c.in-Ok-Partial.ensures in
    record { value = no_head_found c.args.front.now c.parse_response.new.headers (Ok Partial) told.found tt }

pub returns-in-Err : goal.returns-in-Err
returns-in-Err c = record { value = no_head_found c.args.front.now c.parse_response.new.headers (Err c.in-Err.field-0) c.in-Err.ensures.found tt }
