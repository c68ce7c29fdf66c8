-- Something is stored under the key, or it is appended.
use Rattle.std.proofs.Common.{ap, is_some, not}
use Rattle.std.specs.FinMap as map
use Rattle.library_rules.specs.LibraryState.{is_stored}
use Rattle.depot.proofs.MayFreshLemmas.{passes_none, passes_one, stored_gone, stored_there, unknown_gone, unknown_there}
use Rattle.depot.proofs.unstored.push_unstored.Goals as goal

pub returns-in-Some-clause-value : goal.returns-in-Some-clause-value
returns-in-Some-clause-value g c =
    passes_none (λ key. not (is_some (map.get c.args.store.now.index key))) c.args.key.now c.args.keys.now
    (unknown_there c.args.store.now.index c.args.key.now c.in-Some.field-0 c.in-Some.ensures.value)

pub returns-in-Some-clause-shown : goal.returns-in-Some-clause-shown
returns-in-Some-clause-shown g c = λ objects told.
    passes_none (λ key. not (is_stored objects key)) c.args.key.now c.args.keys.now
    (ap not (stored_there objects c.args.key.now c.in-Some.field-0 (c.in-Some.ensures.found objects told)))

pub returns-clause-value : goal.returns-clause-value
returns-clause-value g c =
    passes_one (λ key. not (is_some (map.get c.args.store.now.index key))) c.args.key.now c.args.keys.now c.push.new.self
    (unknown_gone c.args.store.now.index c.args.key.now c.in-None.ensures.value) c.in_ok-push.ensures.ok

pub returns-clause-shown : goal.returns-clause-shown
returns-clause-shown g c = λ objects told.
    passes_one (λ key. not (is_stored objects key)) c.args.key.now c.args.keys.now c.push.new.self
    (ap not (stored_gone objects c.args.key.now (c.in-None.ensures.found objects told))) c.in_ok-push.ensures.ok
