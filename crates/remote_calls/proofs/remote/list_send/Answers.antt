-- One send more is listed, or memory was wanting for it.
use Rattle.std.proofs.Common.{List, subst, sym, ◌∙◌}
use Rattle.remote_calls.specs.Sends.{SendsOne, Sent}
use Rattle.remote_calls.proofs.SendsLemmas.{listed_more, listed_same}
use Rattle.remote_calls.proofs.remote.list_send.Goals as goal

pub returns-then-not-is_listed : goal.returns-then-not-is_listed
returns-then-not-is_listed c = record { listed = listed_same c.args.sends.now.items c.args.order.now c.args.ending.now (sym c.is_listed.ensures.value ∙ c.if-not-is_listed.true) }

pub returns : goal.returns
returns c = record {
  listed = subst (λ (new : List Sent). SendsOne c.args.sends.now.items new c.args.order.now c.args.ending.now) (sym c.and.ensures)
      (listed_more c.args.sends.now.items c.args.order.now c.args.ending.now (sym c.is_listed.ensures.value ∙ c.if-not-is_listed.false));
}
