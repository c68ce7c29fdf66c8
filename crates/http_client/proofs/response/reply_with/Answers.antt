use Rattle.std.proofs.Common.{subst}
use Rattle.http_client.specs.OutcomeReading.{IsOutcome}
use Rattle.http_client.proofs.ResponseLemmas.{bad_body_by, cut_by, inside_buffer, whole_by}
use Rattle.http_client.proofs.response.reply_with.Goals as goal

pub behind-behind-requires : goal.behind-behind-requires
behind-behind-requires c = record { within = inside_buffer c.args.order.now c.args.buffer.now c.args.head c.requires.part }

pub returns-then-is_cut : goal.returns-then-is_cut
returns-then-is_cut c = record {
  value = cut_by c.args.order.now c.args.buffer.now c.args.head c.requires.part c.args.status c.args.size c.requires.told
      c.behind-behind.result.now c.behind-behind.ensures.value (c.is_cut.ensures.short c.if-is_cut.true);
}

pub returns-in-Some : goal.returns-in-Some
returns-in-Some c = record {
  value = whole_by c.args.order.now c.args.buffer.now c.args.head c.requires.part c.args.status c.args.size c.requires.told
      c.behind-behind.result.now c.in_front-body.result.now c.behind-behind.ensures.value c.in_front-body.ensures.value (c.is_cut.ensures.whole c.if-is_cut.false)
      c.in-Some.outcome (subst (IsOutcome c.args.order.now c.args.status c.args.head.tag c.in_front-body.result.now) c.in-Some.is c.in_ok-outcome.ensures.value);
}

pub returns-in-None : goal.returns-in-None
returns-in-None c = record {
  value = bad_body_by c.args.order.now c.args.buffer.now c.args.head c.requires.part c.args.status c.args.size c.requires.told
      c.behind-behind.result.now c.in_front-body.result.now c.behind-behind.ensures.value c.in_front-body.ensures.value (c.is_cut.ensures.whole c.if-is_cut.false)
      (subst (IsOutcome c.args.order.now c.args.status c.args.head.tag c.in_front-body.result.now) c.in-None.is c.in_ok-outcome.ensures.value);
}
