-- What is found is judged as the store would have judged it.
use Rattle.std.proofs.Common.{subst, sym}
use Rattle.std.specs.FinMap as map
use Rattle.library_state.specs.declared.reply.Reply.{Reply}
use Rattle.library_rules.specs.Calls.{got}
use Rattle.object_store.specs.Store.{judged_found}
use Rattle.depot.specs.Answering.{MayGet}
use Rattle.depot.specs.ObjectCalls.{Counts, IsToldDamage, SaysOr}
use Rattle.depot.proofs.FoundLemmas.{found_counts, found_damage, found_may, found_said}
use Rattle.depot.proofs.object_calls.find_object.Goals as goal

pub returns-clause-value : goal.returns-clause-value
returns-clause-value g c = λ objects told.
    subst (λ (r : Reply). SaysOr objects (got c.args.key.now (map.get objects c.args.key.now)) r) (sym c.answer_found.ensures.value)
    (found_said objects c.args.key.now (judged_found c.args.key.now c.fetch-found.result) (c.fetch-found.ensures.found objects told) (c.fetch-found.ensures.refused objects told))

pub returns-clause-cause : goal.returns-clause-cause
returns-clause-cause g c =
    subst (MayGet c.args.store.now.index (g.S.Shelf.may_give c.fetch-found.new.self.shelf) c.args.key.now) (sym c.answer_found.ensures.value)
    (found_may c.args.store.now.index (g.S.Shelf.may_give c.fetch-found.new.self.shelf) c.args.key.now (judged_found c.args.key.now c.fetch-found.result)
    c.fetch-found.ensures.told c.fetch-found.ensures.value c.fetch-found.ensures.damaged c.fetch-found.ensures.stored)

pub returns-clause-damaged : goal.returns-clause-damaged
returns-clause-damaged g c = λ objects told.
    subst (IsToldDamage objects) (sym c.answer_found.ensures.value)
    (found_damage objects c.args.key.now (judged_found c.args.key.now c.fetch-found.result) (c.fetch-found.ensures.refused objects told))

pub returns-clause-faults : goal.returns-clause-faults
returns-clause-faults g c =
    subst (Counts (g.S.Shelf.faults c.args.store.now.shelf) (g.S.Shelf.faults c.fetch-found.new.self.shelf)) (sym c.answer_found.ensures.value)
    (found_counts (g.S.Shelf.faults c.args.store.now.shelf) (g.S.Shelf.faults c.fetch-found.new.self.shelf) c.args.key.now (judged_found c.args.key.now c.fetch-found.result)
    c.fetch-found.ensures.faults)
