-- A fault is told as it is.
use Rattle.std.proofs.Common.{ℕ, List, Option, Result, ap, sym, ◌∙◌}
use Rattle.library_state.specs.declared.reply.Reply.TheVariants as reply
use Rattle.object_store.specs.Store.{judged_found}
use Rattle.object_store.specs.declared.error.StoreFault.{StoreFault}
use Rattle.depot.specs.Unjudged.{reply_found}
use Rattle.depot.proofs.object_calls.answer_found.Goals as goal

pub returns-in-Ok : goal.returns-in-Ok
returns-in-Ok c = record {
  value = c.answer_object.ensures.value
      ∙ ap (λ (found : Result (Option (List ℕ)) StoreFault). reply_found c.args.key.now (judged_found c.args.key.now found)) (sym c.in-Ok.is);
}

pub returns-in-Err : goal.returns-in-Err
returns-in-Err c = record {
  value = ap reply.Refused c.store_refusal.ensures.value
      ∙ ap (λ (found : Result (Option (List ℕ)) StoreFault). reply_found c.args.key.now (judged_found c.args.key.now found)) (sym c.in-Err.is);
}
