-- Bytes are judged as the store judges them.
use Rattle.std.proofs.Common.{ℕ, List, Option, Ok, ap, sym, ◌∙◌}
use Rattle.object_store.specs.Store.{judged_found}
use Rattle.depot.specs.Unjudged.{reply_found}
use Rattle.depot.proofs.FoundLemmas.{judged_as}
use Rattle.depot.proofs.object_calls.answer_object.Goals as goal

pub returns-in-Some : goal.returns-in-Some
returns-in-Some c = record {
  value = judged_as c.args.key.now c.in-Some.bytes
      ∙ ap (λ (found : Option (List ℕ)). reply_found c.args.key.now (judged_found c.args.key.now (Ok found))) (sym c.in-Some.is);
}

pub returns-in-None : goal.returns-in-None
returns-in-None c = record {
  value = ap (λ (found : Option (List ℕ)). reply_found c.args.key.now (judged_found c.args.key.now (Ok found))) (sym c.in-None.is);
}
