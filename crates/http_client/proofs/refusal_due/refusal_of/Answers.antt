use Rattle.std.proofs.Common.{sym, ap, ◌∙◌, None}
use Rattle.std.specs.Option.{option_and_then}
use Rattle.http_client.specs.RefusalWords.{if_due}
use Rattle.http_client.proofs.RefusalLemmas.{refusal-is}
use Rattle.http_client.proofs.refusal_due.refusal_of.Goals as goal

pub returns-in-Some : goal.returns-in-Some
returns-in-Some c = record {
  value = refusal-is c.args.order.now c.args.status c.args.body.now c.if_due.result
      (c.if_due.ensures.value ∙ sym (ap (option_and_then (if_due c.args.order.now c.args.status)) (sym c.in_ok-refusal.ensures.value ∙ c.in-Some.is)));
}

pub returns-in-None : goal.returns-in-None
returns-in-None c = record {
  value = refusal-is c.args.order.now c.args.status c.args.body.now None
      (sym (ap (option_and_then (if_due c.args.order.now c.args.status)) (sym c.in_ok-refusal.ensures.value ∙ c.in-None.is)));
}
