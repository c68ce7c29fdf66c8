use Rattle.std.proofs.Common.{◌≤◌, arith, take, length, length-take}
use Rattle.std.proofs.lemmas.Result.{IfOk-weaker}
use Rattle.http_front.proofs.HeadLemmas.{parsed_by_spans, few_fields, IsTied}
use Rattle.http_front.proofs.head.parse.Goals as goal

pub returns-in-Ok : goal.returns-in-Ok
returns-in-Ok c =
    let told = rw c.in-Ok-Complete.field-0-is at c.in-Ok-Complete.ensures in
    let request = told.complete.0 in
    let at = told.complete.1 in
    let headers = c.parse_request.new.headers in
    let spans = c.in-Ok-Complete.spans in
    let few : length (take spans.headers headers) ≤ 64 = omega (arith, length-take spans.headers headers, c.parse_request.auto.headers) in
    let tied : IsTied c.args.front.now spans _ request = record {
      headers = headers;
      at = at;
      fields_are = at.fields;
      few = few_fields c.args.front.now (take spans.headers headers) request.fields at.fields few;
    } in
    IfOk-weaker c.head_at.result _ _ (λ parsed. parsed_by_spans c.args.front.now c.args.full spans _ request parsed tied) c.head_at.ensures
