-- What is told of a remote's links beside what they spell holds along its sends. The key lemmas are tells_first, tells_step and
-- tells_rest.
use Rattle.std.proofs.Common.{◌≡◌, ℕ, List, [], None, subst, sym, ap, ◌∙◌}
use Rattle.http_front.specs.declared.order.Order.{Order}
use Rattle.remote_calls.specs.Exchange.{LinkView}
use Rattle.remote_calls.specs.HttpRemote.{HttpRemoteView, LeavesAll, SendsOver, TellsLinks}
use Rattle.remote_calls.specs.Sends.{CountsSend, CountsSends, Ending, SendsOne}
use Rattle.remote_calls.proofs.MadeThereLemmas.{there_first, there_rest, there_step}
use Rattle.remote_calls.proofs.SentCountLemmas.{counts_none, counts_rest, counts_step}

module _ (reaches : LinkView → List ℕ → ℕ → Type 0) where
  pub tells_first : (remote : HttpRemoteView) → remote.sends ≡ [] → remote.links.kept ≡ None → remote.links.back ≡ remote.peer.start
      → remote.links.faults ≡ remote.peer.faults → TellsLinks reaches remote
  tells_first remote none unlinked back_is count_is = record {
    there = there_first reaches remote.peer remote.links back_is unlinked;
    counts = counts_none remote.peer.faults remote.links.faults remote.sends none count_is;
  }

  pub tells_step : (old new : HttpRemoteView) (order : Order) (ending : Ending) → TellsLinks reaches old → new.peer ≡ old.peer
      → SendsOver reaches old.peer.host old.peer.port order old.links new.links ending → CountsSend old.links.faults new.links.faults ending
      → SendsOne old.sends new.sends order ending → TellsLinks reaches new
  tells_step old new order ending is peer_is over counts listed = record {
    there = there_step reaches old.peer new.peer old.links new.links order ending is.there peer_is over;
    counts = subst (λ (n : ℕ). CountsSends n new.sends new.links.faults) (sym (ap (λ p. p.faults) peer_is))
        (counts_step old.peer.faults old.links.faults new.links.faults old.sends new.sends order ending is.counts counts listed);
  }

  pub tells_rest : (old new : HttpRemoteView) → TellsLinks reaches old → new.peer ≡ old.peer → LeavesAll old.links new.links → new.sends ≡ old.sends
      → TellsLinks reaches new
  tells_rest old new is peer_is leaves listed = record {
    there = there_rest reaches old.peer new.peer old.links new.links is.there peer_is leaves;
    counts = subst (λ (n : ℕ). CountsSends n new.sends new.links.faults) (sym (ap (λ p. p.faults) peer_is))
        (counts_rest old.peer.faults old.links.faults new.links.faults old.sends new.sends is.counts leaves.count listed);
  }
