-- A key is listed if something is stored under it, and it isn't of forty zeros.
use Rattle.std.proofs.Common.{◌∙◌, sym}
use Rattle.library_rules.specs.LibraryState.{is_stored}
use Rattle.depot.specs.Missing.{is_known}
use Rattle.depot.proofs.MissingLemmas.{present_none, present_one}
use Rattle.depot.proofs.missing.list_present.Goals as goal

pub returns-then-not-is_present-clause-shown : goal.returns-then-not-is_present-clause-shown
returns-then-not-is_present-clause-shown g c = λ objects told.
    present_none (is_stored objects) c.args.key.now c.args.keys.now (sym (c.is_present.ensures.shown objects told) ∙ c.if-not-is_present.true)

pub returns-then-not-is_present-clause-value : goal.returns-then-not-is_present-clause-value
returns-then-not-is_present-clause-value g c =
    present_none (is_known c.args.store.now.index) c.args.key.now c.args.keys.now (sym c.is_present.ensures.value ∙ c.if-not-is_present.true)

pub returns-clause-shown : goal.returns-clause-shown
returns-clause-shown g c = λ objects told.
    present_one (is_stored objects) c.args.key.now c.args.keys.now c.push.new.self (sym (c.is_present.ensures.shown objects told) ∙ c.if-not-is_present.false) c.in_ok-push.ensures.ok

pub returns-clause-value : goal.returns-clause-value
returns-clause-value g c =
    present_one (is_known c.args.store.now.index) c.args.key.now c.args.keys.now c.push.new.self (sym c.is_present.ensures.value ∙ c.if-not-is_present.false) c.in_ok-push.ensures.ok
