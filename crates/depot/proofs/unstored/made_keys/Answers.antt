-- The keys of directories, and that of the head where its text is made.
use Rattle.std.proofs.Common.{is_some, not}
use Rattle.std.specs.FinMap as map
use Rattle.library_rules.specs.LibraryState.{is_stored}
use Rattle.depot.proofs.MayFreshLemmas.{made_text, made_text_none}
use Rattle.depot.proofs.unstored.made_keys.Goals as goal

pub returns-in-None-clause-value : goal.returns-in-None-clause-value
returns-in-None-clause-value g c = made_text_none (λ key. not (is_some (map.get c.args.store.now.index key))) c.args.plan.now c.in_ok-keys.keys c.in_ok-keys.ensures.value c.in-None.is

pub returns-in-None-clause-shown : goal.returns-in-None-clause-shown
returns-in-None-clause-shown g c = λ objects told.
    made_text_none (λ key. not (is_stored objects key)) c.args.plan.now c.in_ok-keys.keys (c.in_ok-keys.ensures.shown objects told) c.in-None.is

pub returns-clause-value : goal.returns-clause-value
returns-clause-value g c =
    made_text (λ key. not (is_some (map.get c.args.store.now.index key))) c.args.plan.now c.in-Some.field-0 c.in_ok-keys.keys c.push_unstored.new.keys c.commit_key.result c.commit_key.ensures.value
    c.in_ok-keys.ensures.value c.in_ok-push_unstored.ensures.value c.in-Some.is

pub returns-clause-shown : goal.returns-clause-shown
returns-clause-shown g c = λ objects told.
    made_text (λ key. not (is_stored objects key)) c.args.plan.now c.in-Some.field-0 c.in_ok-keys.keys c.push_unstored.new.keys c.commit_key.result c.commit_key.ensures.value
    (c.in_ok-keys.ensures.shown objects told) (c.in_ok-push_unstored.ensures.shown objects told) c.in-Some.is
