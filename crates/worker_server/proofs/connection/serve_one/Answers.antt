-- The request in the buffer, its outcome and what was given make one turn of the connection.
use Rattle.std.proofs.Common.{◌≡◌, inl, inr, refl, List, ℕ, subst, ap, ◌∙◌}
use Rattle.std.specs.Io.KnownBytes.{append_known}
use Rattle.std.specs.Prelude.{⊤}
use Rattle.http_front.specs.Buffer.{to_read}
use Rattle.http_front.specs.Link.{GivesFront, told_by}
use Rattle.http_front.specs.ReplyText.{text}
use Rattle.worker_server.proofs.AskedLemmas.{came_gave, stop_gave}
use Rattle.worker_server.proofs.CallLemmas.{Serves-ran}
use Rattle.worker_server.proofs.RequestLemmas.{AnswersNext-from_reply, OneMore-from_reply, StopsAsked-from_front, closes_as, stands_there}
use Rattle.worker_server.proofs.TimingLemmas.{Unfinished-ends, Unfinished-later}
use Rattle.worker_server.specs.Calls.{rules_at}
use Rattle.worker_server.proofs.connection.serve_one.Goals as goal

pub reply_to-requires : goal.reply_to-requires
reply_to-requires g c =
    let stands = c.in-Ok.ensures.ok in
    record { ready = c.requires.ready; fits = stands_there c.next_request.new.buffer c.in-Ok.head stands.0 stands.1 stands.2 }

pub returns-in-Err-clause-one : goal.returns-in-Err-clause-one
returns-in-Err-clause-one g c = λ rest e. record {
  stops = inl (refl, c.in-Err.ensures.err rest e);
  held = c.next_request.new.buffer;
  still = c.in-Err.ensures.to_read ∙ e;
  reading = c.in-Err.ensures.reading;
}

pub returns-in-None-clause-one : goal.returns-in-None-clause-one
returns-in-None-clause-one g c = λ rest e.
    let rules = rules_at (g.H.Host.shows c.args.host.now) g.H.Host.asks g.H.Host.spares g.H.Host.collects g.H.Host.looks in
    let served = c.in-None.ensures.serves in
    let stands = c.in-Ok.ensures.ok in
    let next = AnswersNext-from_reply rules c.next_request.new.buffer (g.L.Link.left c.next_request.new.link) rest c.in-Ok.head stands.0 stands.1 stands.2 (c.in-Ok.ensures.to_read ∙ e)
    _ _ served.0 served.1 served.2 in
    record {
      stops = inr (record { request = stands.0; outcome = served.0; operations = served.1 }, next, stands.3);
      held = c.next_request.new.buffer;
      still = c.in-Ok.ensures.to_read ∙ e;
      reading = Unfinished-ends ⊤ _ _ _ _ c.in-Ok.ensures.reading;
    }

pub returns-in-None-clause-ran : goal.returns-in-None-clause-ran
returns-in-None-clause-ran g c = Serves-ran _ _ _ _ _ _ c.in-None.ensures.serves.2

pub returns-in-Err-give_reply-clause-one : goal.returns-in-Err-give_reply-clause-one
returns-in-Err-give_reply-clause-one g c = λ rest e.
    let rules = rules_at (g.H.Host.shows c.args.host.now) g.H.Host.asks g.H.Host.spares g.H.Host.collects g.H.Host.looks in
    let served = c.in-Some.ensures.serves in
    let stands = c.in-Ok.ensures.ok in
    let next = AnswersNext-from_reply rules c.next_request.new.buffer (g.L.Link.left c.next_request.new.link) rest c.in-Ok.head stands.0 stands.1 stands.2 (c.in-Ok.ensures.to_read ∙ e)
    _ _ served.0 served.1 served.2 in
    let closes = closes_as c.args.number c.next_request.new.buffer c.in-Ok.head stands.0 stands.1 stands.2 c.closes_at-closes.result c.closes_at-closes.ensures.value in
    let gave = subst (λ (z : List ℕ). GivesFront (g.L.Link.given c.next_request.new.link) (g.L.Link.given c.give_reply.new.link) z) served.3 c.in-Err-give_reply.ensures.given in
    record {
      stops = inr (StopsAsked-from_front rules c.args.number rest _ _ _ next c.closes_at-closes.result closes _ _ _ stands.3 gave);
      held = c.next_request.new.buffer;
      still = ap (to_read c.next_request.new.buffer) c.in-Err-give_reply.ensures.stays_left ∙ c.in-Ok.ensures.to_read ∙ e;
      reading = Unfinished-later ⊤ _ _ _ _ _ c.in-Err-give_reply.ensures.stays_taken c.in-Err-give_reply.ensures.stays_asked (Unfinished-ends ⊤ _ _ _ _ c.in-Ok.ensures.reading);
    }

pub returns-in-Err-give_reply-clause-ran : goal.returns-in-Err-give_reply-clause-ran
returns-in-Err-give_reply-clause-ran g c = Serves-ran _ _ _ _ _ _ c.in-Some.ensures.serves.2

pub returns-clause-one : goal.returns-clause-one
returns-clause-one g c = λ rest e.
    let rules = rules_at (g.H.Host.shows c.args.host.now) g.H.Host.asks g.H.Host.spares g.H.Host.collects g.H.Host.looks in
    let served = c.in-Some.ensures.serves in
    let stands = c.in-Ok.ensures.ok in
    let gave : g.L.Link.given c.give_reply.new.link ≡ append_known (g.L.Link.given c.next_request.new.link) (text served.0 c.closes_at-closes.result) =
    c.in-Ok-give_reply.ensures.given ∙ ap (λ (z : List ℕ). append_known (g.L.Link.given c.next_request.new.link) z) served.3 in
    let give = c.in-Ok-give_reply.ensures in
    OneMore-from_reply rules c.args.number _ c.next_request.new.buffer _ (g.L.Link.left c.next_request.new.link) _ rest c.in-Ok.head stands.0 stands.1 stands.2 (c.in-Ok.ensures.to_read ∙ e) c.in-Some.ensures.left give.stays_left
    _ _ served.0 served.1 served.2 c.closes_at-closes.result c.closes_at-closes.ensures.value _ _ _ stands.3 gave give.stays_taken give.stays_asked c.in-Ok.ensures.reading

pub returns-clause-ran : goal.returns-clause-ran
returns-clause-ran g c = Serves-ran _ _ _ _ _ _ c.in-Some.ensures.serves.2

-- ---- what was asked last

pub returns-in-Err-give_reply-clause-last : goal.returns-in-Err-give_reply-clause-last
returns-in-Err-give_reply-clause-last g c = λ start came.
    let give = c.in-Err-give_reply.ensures in
    stop_gave (told_by g.L.Link.taken g.L.Link.given g.L.Link.asked c.next_request.new.link) (told_by g.L.Link.taken g.L.Link.given g.L.Link.asked c.give_reply.new.link) (g.L.Link.left c.next_request.new.link) (g.L.Link.left c.give_reply.new.link) _ give.stays_taken give.stays_asked give.stays_left give.given start (c.in-Ok.ensures.last start came)

pub returns-clause-last : goal.returns-clause-last
returns-clause-last g c = λ start came.
    let give = c.in-Ok-give_reply.ensures in
    came_gave (told_by g.L.Link.taken g.L.Link.given g.L.Link.asked c.next_request.new.link) (told_by g.L.Link.taken g.L.Link.given g.L.Link.asked c.give_reply.new.link) (g.L.Link.left c.next_request.new.link) (g.L.Link.left c.give_reply.new.link) _ give.stays_taken give.stays_asked give.stays_left give.given start (c.in-Ok.ensures.last start came)
