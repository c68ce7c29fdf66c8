-- A key that is stored stays as it is; another is taken back.
use Rattle.std.proofs.Common.{ap, is_some, sym, ℕ, Option}
use Rattle.std.specs.FinMap as map
use Rattle.library_rules.specs.LibraryState.{is_stored}
use Rattle.depot.proofs.CollectionLemmas.{gone_back, kept_back}
use Rattle.depot.proofs.MayFreshLemmas.{stored_gone, stored_there}
use Rattle.depot.proofs.shields.take_back_one.Goals as goal

pub returns-in-Some-clause-shown : goal.returns-in-Some-clause-shown
returns-in-Some-clause-shown g c = λ objects told.
    kept_back (is_stored objects) c.args.key.now c.args.running.now (stored_there objects c.args.key.now c.in-Some.field-0 (c.in-Some.ensures.found objects told))

pub returns-in-Some-clause-value : goal.returns-in-Some-clause-value
returns-in-Some-clause-value g c =
    kept_back (λ k. is_some (map.get c.args.store.now.index k)) c.args.key.now c.args.running.now (sym (ap (λ (o : Option ℕ). is_some o) c.in-Some.ensures.value))

pub returns-in-None-clause-shown : goal.returns-in-None-clause-shown
returns-in-None-clause-shown g c = λ objects told.
    gone_back (is_stored objects) c.args.key.now c.args.running.now c.stale_one.new.self (stored_gone objects c.args.key.now (c.in-None.ensures.found objects told)) c.stale_one.ensures.value

pub returns-in-None-clause-value : goal.returns-in-None-clause-value
returns-in-None-clause-value g c =
    gone_back (λ k. is_some (map.get c.args.store.now.index k)) c.args.key.now c.args.running.now c.stale_one.new.self (sym (ap (λ (o : Option ℕ). is_some o) c.in-None.ensures.value))
    c.stale_one.ensures.value
