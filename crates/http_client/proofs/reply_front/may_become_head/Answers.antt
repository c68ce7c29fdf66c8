use Rattle.std.proofs.Common.{sym, ◌∙◌}
use Rattle.std.proofs.lemmas.Bool.{false≢true, not-false}
use Rattle.http_client.proofs.FrontLemmas.{from_not, never_other, never_over, newest_may, old_never}
use Rattle.http_client.proofs.reply_front.may_become_head.Goals as goal

pub returns-in-Ok-Partial-clause-may : goal.returns-in-Ok-Partial-clause-may
returns-in-Ok-Partial-clause-may c = λ t.
    let told = rw c.in-Ok-Partial.field-0-is at c.in-Ok-Partial.ensures in
    newest_may c.args.front.now told.unfinished (sym c.is_old.ensures.value ∙ from_not c.is_old.result t)

pub returns-in-Ok-Partial-clause-none : goal.returns-in-Ok-Partial-clause-none
returns-in-Ok-Partial-clause-none c = λ t. let told = rw c.in-Ok-Partial.field-0-is at c.in-Ok-Partial.ensures in told.partial

pub returns-in-Ok-Partial-clause-broken : goal.returns-in-Ok-Partial-clause-broken
returns-in-Ok-Partial-clause-broken c = λ e. old_never c.args.front.now (sym c.is_old.ensures.value ∙ not-false c.is_old.result e)

pub returns-in-Ok-Complete-clause-may : goal.returns-in-Ok-Complete-clause-may
returns-in-Ok-Complete-clause-may c = λ t. absurd (false≢true t)

pub returns-in-Ok-Complete-clause-none : goal.returns-in-Ok-Complete-clause-none
returns-in-Ok-Complete-clause-none c = λ t. absurd (false≢true t)

pub returns-in-Ok-Complete-clause-broken : goal.returns-in-Ok-Complete-clause-broken
returns-in-Ok-Complete-clause-broken c = λ e.
    let told = rw c.in-Ok-Complete.field-0-is at c.in-Ok-Complete.ensures in
    never_other c.args.front.now told.complete.0 _ told.complete.1.reads c.requires.none

pub returns-in-Err-clause-may : goal.returns-in-Err-clause-may
returns-in-Err-clause-may c = λ t. absurd (false≢true t)

pub returns-in-Err-clause-none : goal.returns-in-Err-clause-none
returns-in-Err-clause-none c = λ t. absurd (false≢true t)

pub returns-in-Err-clause-broken : goal.returns-in-Err-clause-broken
returns-in-Err-clause-broken c = λ e. never_over c.args.front.now c.in-Err.ensures.no_room
