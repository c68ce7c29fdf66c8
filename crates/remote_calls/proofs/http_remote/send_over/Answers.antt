-- The order is too large, or has no text; or it is tried.
use Rattle.std.proofs.Common.{ℕ, List, Err, refl, sym, ap, subst, ◌∙◌}
use Rattle.http_front.specs.declared.outcome.Outcome.{Outcome}
use Rattle.ids.specs.Outcome.{ExactlyWith}
use Rattle.remote_calls.specs.Exchange.{link_view}
use Rattle.remote_calls.specs.HttpRemote.{Reaches, SendsOver, Tries, links_of}
use Rattle.remote_calls.specs.Sends.{IsTooLarge, is_no_memory, size_told}
use Rattle.remote_calls.specs.declared.error.RemoteFault.TheVariants as fault
use Rattle.remote_calls.proofs.DialledLemmas.{dialled_none}
use Rattle.remote_calls.proofs.SendsLemmas.{ended_for, fits_from, large_from, refused_for, too_large}
use Rattle.remote_calls.proofs.http_remote.send_over.Goals as goal

-- ---- an order that is too large

pub returns-then-not-is_within_limit-clause-too_large : goal.returns-then-not-is_within_limit-clause-too_large
returns-then-not-is_within_limit-clause-too_large g c =
    let order = c.args.order.now in
    let large = large_from order c.is_within_limit.result c.is_within_limit.ensures.value c.if-not-is_within_limit.true in
    subst (λ (n : ℕ). ExactlyWith {T = Outcome} is_no_memory (Err (fault.TooLarge n)) fault.TooLarge (size_told order) (IsTooLarge order)) (sym c.body_size.ensures.value)
    (too_large order large)

pub returns-then-not-is_within_limit-clause-value : goal.returns-then-not-is_within_limit-clause-value
returns-then-not-is_within_limit-clause-value g c =
    let order = c.args.order.now in
    let large = large_from order c.is_within_limit.result c.is_within_limit.ensures.value c.if-not-is_within_limit.true in
    SendsOver.too_large large (ap (λ (n : ℕ). Err (fault.TooLarge n)) c.body_size.ensures.value) refl

pub returns-then-not-is_within_limit-clause-dialled : goal.returns-then-not-is_within_limit-clause-dialled
returns-then-not-is_within_limit-clause-dialled g c = dialled_none c.args.host.now c.args.port (g.D.Dial.dialled c.args.dial.now) (g.D.Dial.dialled c.args.dial.now) refl

-- ---- no memory for its text

pub returns-in-Err-clause-dialled : goal.returns-in-Err-clause-dialled
returns-in-Err-clause-dialled g c = dialled_none c.args.host.now c.args.port (g.D.Dial.dialled c.args.dial.now) (g.D.Dial.dialled c.args.dial.now) refl

pub request_bytes-requires : goal.request_bytes-requires
request_bytes-requires g c = record {
  proper = c.requires.proper;
  short = c.is_within_limit.ensures.value.0 c.if-not-is_within_limit.false;
  name = c.requires.name;
}

pub returns-in-Err-clause-too_large : goal.returns-in-Err-clause-too_large
returns-in-Err-clause-too_large g c =
    let order = c.args.order.now in
    refused_for order fault.NoMemory (fits_from order c.is_within_limit.result c.is_within_limit.ensures.value c.if-not-is_within_limit.false) tt

pub returns-in-Err-clause-value : goal.returns-in-Err-clause-value
returns-in-Err-clause-value g c = SendsOver.unwritten refl refl

-- ---- it is tried

pub returns-clause-too_large : goal.returns-clause-too_large
returns-clause-too_large g c =
    let order = c.args.order.now in
    ended_for order c.try_over.result (fits_from order c.is_within_limit.result c.is_within_limit.ensures.value c.if-not-is_within_limit.false) c.try_over.ensures.cause

pub returns-clause-value : goal.returns-clause-value
returns-clause-value g c =
    let view = link_view g.D.L.Link.left g.D.L.Link.taken g.D.L.Link.given g.D.L.Link.asked g.D.L.Link.faults in
    let order = c.args.order.now in
    SendsOver.tried
    (subst (λ (t : List ℕ). Tries (λ link. Reaches view g.D.Dial.reaches link c.args.host.now c.args.port) order.what t
    (links_of view g.D.Dial.back g.D.Dial.faults c.args.dial.now c.args.kept.now) (links_of view g.D.Dial.back g.D.Dial.faults c.try_over.new.dial c.try_over.new.kept) c.try_over.result)
    (c.slice.ensures.value ∙ c.in-Ok.ensures.value) c.try_over.ensures.value)
