-- The order is too large, or fails by its number, or has no copy; or the library is asked.
use Rattle.std.proofs.Common.{◌≡◌, ℕ, Err, refl, sym, ap, subst, ◌∙◌, rules}
use Rattle.ids.specs.FaultCount.{counted}
use Rattle.ids.specs.Outcome.{ExactlyWith}
use Rattle.http_client.specs.OrderOutcome.{CanHave}
use Rattle.http_client.specs.RequestText.{HasRequest}
use Rattle.http_front.specs.declared.order.Order.{Order}
use Rattle.http_front.specs.declared.outcome.Outcome.{Outcome}
use Rattle.worker_server.specs.Calls.{ServesOrder}
use Rattle.remote_calls.specs.DeskRemote.{DesksOver, desk_rules}
use Rattle.remote_calls.specs.Sends.{IsTooLarge, is_no_memory, size_told}
use Rattle.remote_calls.specs.declared.error.RemoteFault.TheVariants as fault
use Rattle.remote_calls.proofs.SendsLemmas.{fits_from, large_from, refused_for, rose_by_one, too_large}
use Rattle.remote_calls.proofs.desk_remote.send_at.Goals as goal

-- ---- an order that is too large

pub returns-then-not-is_within_limit-clause-too_large : goal.returns-then-not-is_within_limit-clause-too_large
returns-then-not-is_within_limit-clause-too_large c =
    let order = c.args.order.now in
    let large = large_from order c.is_within_limit.result c.is_within_limit.ensures.value c.if-not-is_within_limit.true in
    subst (λ (n : ℕ). ExactlyWith {T = Outcome} is_no_memory (Err (fault.TooLarge n)) fault.TooLarge (size_told order) (IsTooLarge order)) (sym c.body_size.ensures.value)
    (too_large order large)

pub returns-then-not-is_within_limit-clause-value : goal.returns-then-not-is_within_limit-clause-value
returns-then-not-is_within_limit-clause-value c = λ before after.
    let order = c.args.order.now in
    let large = large_from order c.is_within_limit.result c.is_within_limit.ensures.value c.if-not-is_within_limit.true in
    DesksOver.too_large large (ap (λ (n : ℕ). Err (fault.TooLarge n)) c.body_size.ensures.value) refl

-- ---- an order that is to fail

pub returns-then-is_due_at-clause-too_large : goal.returns-then-is_due_at-clause-too_large
returns-then-is_due_at-clause-too_large c =
    let order = c.args.order.now in
    refused_for order fault.Link (fits_from order c.is_within_limit.result c.is_within_limit.ensures.value c.if-not-is_within_limit.false) tt

pub returns-then-is_due_at-clause-faults : goal.returns-then-is_due_at-clause-faults
returns-then-is_due_at-clause-faults c =
    let once : c.saturating_add-then-is_due_at.result ≡ counted c.args.faults.now = c.saturating_add-then-is_due_at.ensures in
    rose_by_one c.args.faults.now c.saturating_add-then-is_due_at.result once

pub returns-then-is_due_at-clause-value : goal.returns-then-is_due_at-clause-value
returns-then-is_due_at-clause-value c = λ before after.
    DesksOver.failed refl (sym c.is_due_at.ensures.value ∙ c.if-is_due_at.true) (record { fails = refl; count = search rules }) refl c.saturating_add-then-is_due_at.ensures

-- ---- no memory for its copy

pub returns-in-Err-clause-too_large : goal.returns-in-Err-clause-too_large
returns-in-Err-clause-too_large c =
    let order = c.args.order.now in
    refused_for order fault.NoMemory (fits_from order c.is_within_limit.result c.is_within_limit.ensures.value c.if-not-is_within_limit.false) tt

pub returns-in-Err-clause-value : goal.returns-in-Err-clause-value
returns-in-Err-clause-value c = λ before after. DesksOver.no_room refl (sym c.is_due_at.ensures.value ∙ c.if-is_due_at.false) refl

-- ---- the library is asked

pub answer_at-requires : goal.answer_at-requires
answer_at-requires c = record { proper = subst HasRequest (sym c.in-Ok.ensures.value) c.requires.proper }

pub returns-clause-told : goal.returns-clause-told
returns-clause-told c = subst (λ (o : Order). CanHave o.what c.answer_at.result) c.in-Ok.ensures.value c.answer_at.ensures.told

pub returns-clause-too_large : goal.returns-clause-too_large
returns-clause-too_large c = fits_from c.args.order.now c.is_within_limit.result c.is_within_limit.ensures.value c.if-not-is_within_limit.false

pub returns-clause-value : goal.returns-clause-value
returns-clause-value c = λ before after.
    let served = c.answer_at.ensures.serves in
    DesksOver.answered c.answer_at.result refl (sym c.is_due_at.ensures.value ∙ c.if-is_due_at.false) (record { fails = refl; count = search rules }) refl
    served.0 (subst (λ (o : Order). ServesOrder (desk_rules c.args.count.now) c.args.depot.now o c.answer_at.result served.0 c.answer_at.new.depot) c.in-Ok.ensures.value served.1)
