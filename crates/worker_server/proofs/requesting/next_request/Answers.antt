-- A head in the buffer, its interim reply, and then its body; or how the connection stops.
use Rattle.std.proofs.Common.{◌≡◌, refl, subst, sym, ◌∙◌, ap, List, ℕ, ◌+◌, ◌≤◌, length, Option}
use Rattle.std.specs.Io.KnownBytes.{append_known}
use Rattle.std.specs.Prelude.{⊤}
use Rattle.http_front.specs.Buffer.{to_read}
use Rattle.http_front.specs.Link.{GivesFront, told_by}
use Rattle.http_front.specs.ReplyText.{interim_due}
use Rattle.http_front.specs.RequestStream.{Request, interim_of}
use Rattle.worker_server.specs.RequestSteps.{StandsAt, StopsSo, WantsHead}
use Rattle.worker_server.proofs.AskedLemmas.{came_gave, read_later, stop_came, stop_gave}
use Rattle.worker_server.proofs.ReadingLemmas.{body_stops, head_fits, head_stops, interim_is, interim_stops, StandsAt-from_head}
use Rattle.worker_server.proofs.TimingLemmas.{ReadsOn-ends, Unfinished-from_body, Unfinished-from_head}
use Rattle.worker_server.proofs.requesting.next_request.Goals as goal

pub read_body-requires : goal.read_body-requires
read_body-requires g c = record { fits = let is = c.in-Ok.ensures.ok in head_fits 16384 _ c.in-Ok.head is.0 is.1 }

pub returns-in-Err-clause-err : goal.returns-in-Err-clause-err
returns-in-Err-clause-err g c = λ rest e.
    let stopped = subst (λ (z : Option (List ℕ)). StopsSo c.in-Err.end z (g.L.Link.given c.stop.new.link) c.stop.result) c.in-Err.ensures.reading.given c.stop.ensures.value in
    head_stops rest c.in-Err.end _ _ c.stop.result (c.in-Err.ensures.err rest e) stopped

pub returns-in-Err-give_interim-clause-err : goal.returns-in-Err-give_interim-clause-err
returns-in-Err-give_interim-clause-err g c = λ rest e.
    let is = c.in-Ok.ensures.ok in
    let gives = subst (λ (z : Option (List ℕ)). GivesFront z (g.L.Link.given c.give_interim.new.link) (interim_due c.in-Ok.head.expects)) c.in-Ok.ensures.reading.given c.in-Err-give_interim.ensures.given in
    interim_stops c.read_head.new.buffer _ rest c.in-Ok.head is.0 _ _ (c.in-Ok.ensures.to_read ∙ e) is.1 c.in-Err-give_interim.ensures.fails gives

pub returns-in-Ok-read_body-clause-ok : goal.returns-in-Ok-read_body-clause-ok
returns-in-Ok-read_body-clause-ok g c =
    let is = c.in-Ok.ensures.ok in
    let reads = c.in-Ok-read_body.ensures.reading in
    let enough = subst (λ (z : List ℕ). c.in-Ok.head.used + c.in-Ok.head.body ≤ length z) reads.grown c.in-Ok-read_body.ensures.ok in
    let gave : g.L.Link.given c.read_body.new.link ≡ append_known (g.L.Link.given c.args.link.now) (interim_due c.in-Ok.head.expects) =
    c.in-Ok-read_body.ensures.reading.given ∙ c.in-Ok-give_interim.ensures.given ∙ ap (λ (z : Option (List ℕ)). append_known z (interim_due c.in-Ok.head.expects)) c.in-Ok.ensures.reading.given in
    subst (λ (z : List ℕ). (r : Request) × (after : List ℕ) × StandsAt z c.in-Ok.head r after × (g.L.Link.given c.read_body.new.link ≡ append_known (g.L.Link.given c.args.link.now) (interim_of r.head))) (sym reads.grown)
    (StandsAt-from_head c.read_head.new.buffer reads.piece c.in-Ok.head is.0 _ _ is.1 enough gave)

pub returns-in-Err-read_body-clause-err : goal.returns-in-Err-read_body-clause-err
returns-in-Err-read_body-clause-err g c = λ rest e.
    let is = c.in-Ok.ensures.ok in
    let before = c.in-Ok.ensures.to_read ∙ e in
    let left = ap (λ (z : Option (List ℕ)). to_read c.read_head.new.buffer z) c.in-Ok-give_interim.ensures.stays_left in
    let gave : g.L.Link.given c.read_body.new.link ≡ append_known (g.L.Link.given c.args.link.now) (interim_due c.in-Ok.head.expects) =
    c.in-Err-read_body.ensures.reading.given ∙ c.in-Ok-give_interim.ensures.given ∙ ap (λ (z : Option (List ℕ)). append_known z (interim_due c.in-Ok.head.expects)) c.in-Ok.ensures.reading.given in
    body_stops c.read_head.new.buffer _ rest c.in-Ok.head is.0 c.in-Err-read_body.end _ _ _ _ before is.1 (c.in-Err-read_body.ensures.err rest (left ∙ before)) gave c.stop-in-Err-read_body.ensures.value

-- ---- what was asked for

pub returns-in-Err-clause-reading : goal.returns-in-Err-clause-reading
returns-in-Err-clause-reading g c = Unfinished-from_head ⊤ _ _ _ _ _ c.in-Err.ensures.reading c.stop.ensures.stays_taken c.stop.ensures.stays_asked

pub returns-in-Err-give_interim-clause-reading : goal.returns-in-Err-give_interim-clause-reading
returns-in-Err-give_interim-clause-reading g c =
    Unfinished-from_head ⊤ _ _ _ _ _ (ReadsOn-ends ⊤ WantsHead _ _ _ _ c.in-Ok.ensures.reading) c.in-Err-give_interim.ensures.stays_taken c.in-Err-give_interim.ensures.stays_asked

pub returns-in-Ok-read_body-clause-reading : goal.returns-in-Ok-read_body-clause-reading
returns-in-Ok-read_body-clause-reading g c =
    let is = c.in-Ok.ensures.ok in
    let interim = c.in-Ok-give_interim.ensures in
    let gave = interim.given ∙ ap (append_known (g.L.Link.given c.read_head.new.link)) (interim_is _ c.in-Ok.head is.0 is.1) in
    Unfinished-from_body ⊥ _ _ _ c.in-Ok.head is.0 _ _ _ _ _ c.in-Ok.ensures.reading is.1 interim.stays_taken interim.stays_asked gave c.in-Ok-read_body.ensures.reading refl refl

pub returns-in-Err-read_body-clause-reading : goal.returns-in-Err-read_body-clause-reading
returns-in-Err-read_body-clause-reading g c =
    let is = c.in-Ok.ensures.ok in
    let interim = c.in-Ok-give_interim.ensures in
    let gave = interim.given ∙ ap (append_known (g.L.Link.given c.read_head.new.link)) (interim_is _ c.in-Ok.head is.0 is.1) in
    Unfinished-from_body ⊤ _ _ _ c.in-Ok.head is.0 _ _ _ _ _ c.in-Ok.ensures.reading is.1 interim.stays_taken interim.stays_asked gave c.in-Err-read_body.ensures.reading c.stop-in-Err-read_body.ensures.stays_taken c.stop-in-Err-read_body.ensures.stays_asked

-- ---- what was asked last

pub returns-in-Err-clause-last : goal.returns-in-Err-clause-last
returns-in-Err-clause-last g c =
    stop_came c.in-Err.end c.stop.result _ (told_by g.L.Link.taken g.L.Link.given g.L.Link.asked c.read_head.new.link) (told_by g.L.Link.taken g.L.Link.given g.L.Link.asked c.stop.new.link) _ (g.L.Link.left c.read_head.new.link) (g.L.Link.left c.stop.new.link)
    c.in-Err.ensures.last c.stop.ensures.value c.stop.ensures.stays_taken c.stop.ensures.stays_asked c.stop.ensures.stays_left

pub returns-in-Err-give_interim-clause-last : goal.returns-in-Err-give_interim-clause-last
returns-in-Err-give_interim-clause-last g c = λ start came.
    let interim = c.in-Err-give_interim.ensures in
    stop_gave (told_by g.L.Link.taken g.L.Link.given g.L.Link.asked c.read_head.new.link) (told_by g.L.Link.taken g.L.Link.given g.L.Link.asked c.give_interim.new.link) (g.L.Link.left c.read_head.new.link) (g.L.Link.left c.give_interim.new.link) (interim_due c.in-Ok.head.expects) interim.stays_taken interim.stays_asked interim.stays_left interim.given start (c.in-Ok.ensures.last start came)

pub returns-in-Ok-read_body-clause-last : goal.returns-in-Ok-read_body-clause-last
returns-in-Ok-read_body-clause-last g c = λ start came.
    let interim = c.in-Ok-give_interim.ensures in
    let gave = came_gave (told_by g.L.Link.taken g.L.Link.given g.L.Link.asked c.read_head.new.link) (told_by g.L.Link.taken g.L.Link.given g.L.Link.asked c.give_interim.new.link) (g.L.Link.left c.read_head.new.link) (g.L.Link.left c.give_interim.new.link) (interim_due c.in-Ok.head.expects) interim.stays_taken interim.stays_asked interim.stays_left interim.given start (c.in-Ok.ensures.last start came) in
    c.in-Ok-read_body.ensures.last start gave

pub returns-in-Err-read_body-clause-last : goal.returns-in-Err-read_body-clause-last
returns-in-Err-read_body-clause-last g c =
    let interim = c.in-Ok-give_interim.ensures in
    let read = read_later c.in-Err-read_body.end (told_by g.L.Link.taken g.L.Link.given g.L.Link.asked c.args.link.now) (told_by g.L.Link.taken g.L.Link.given g.L.Link.asked c.give_interim.new.link) (told_by g.L.Link.taken g.L.Link.given g.L.Link.asked c.read_body.new.link) (g.L.Link.left c.args.link.now) (g.L.Link.left c.give_interim.new.link) (g.L.Link.left c.read_body.new.link)
    (λ start came. came_gave (told_by g.L.Link.taken g.L.Link.given g.L.Link.asked c.read_head.new.link) (told_by g.L.Link.taken g.L.Link.given g.L.Link.asked c.give_interim.new.link) (g.L.Link.left c.read_head.new.link) (g.L.Link.left c.give_interim.new.link) (interim_due c.in-Ok.head.expects) interim.stays_taken interim.stays_asked interim.stays_left interim.given start (c.in-Ok.ensures.last start came))
    c.in-Err-read_body.ensures.last in
    let stopped = c.stop-in-Err-read_body.ensures in
    stop_came c.in-Err-read_body.end c.stop-in-Err-read_body.result _ (told_by g.L.Link.taken g.L.Link.given g.L.Link.asked c.read_body.new.link) (told_by g.L.Link.taken g.L.Link.given g.L.Link.asked c.stop-in-Err-read_body.new.link) _ (g.L.Link.left c.read_body.new.link) (g.L.Link.left c.stop-in-Err-read_body.new.link)
    read stopped.value stopped.stays_taken stopped.stays_asked stopped.stays_left
