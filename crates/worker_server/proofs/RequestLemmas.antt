-- One request: what was read, asked and given makes one turn of the connection.
-- The key lemmas are AnswersNext-from_reply, StopsAsked-from_front and OneMore-from_reply.
use Rattle.std.proofs.Common.{◌≡◌, ℕ, ◌+◌, ◌-◌, ◌≤◌, ◌==◌, Bool, ◌||◌, List, ◌++◌, length, take, drop, Option, Some, refl, sym, ap, subst, ◌∙◌, arith, append_assoc, length-append}
use Rattle.std.proofs.lemmas.List.{drop_at, take_at}
use Rattle.std.specs.List.{slice_range}
use Rattle.std.specs.Io.KnownBytes.{append_known}
use Rattle.httparse.specs.Grammar.{print_request}
use Rattle.http_front.specs.Buffer.{to_read}
use Rattle.http_front.specs.declared.head.Head.{Head}
use Rattle.http_front.specs.declared.outcome.Outcome.{Outcome}
use Rattle.http_front.specs.Link.{GivesFront, LinkTells}
use Rattle.http_front.specs.Order.{IsOrder}
use Rattle.http_front.specs.ReplyText.{text}
use Rattle.http_front.specs.RequestStream.{Request, IsRequest, interim_of}
use Rattle.worker_server.specs.Calls.{HostRules, Serves}
use Rattle.worker_server.specs.ServedConnection.{Exchange, Answers, AnswersNext, StopsAsked, closes_at}
use Rattle.worker_server.specs.RequestSteps.{AsksUnfinished, StandsAt, OneMore}
use Rattle.worker_server.specs.declared.served.Served.TheVariants as served
use Rattle.worker_server.proofs.ReadingLemmas.{to_read-some, append_known-more, GivesFront-after, IsRequest-append}
use Rattle.worker_server.proofs.TimingLemmas.{Unfinished-later}

-- ---- lists

-- the body stands after the head
body_at : (text body after : List ℕ) → slice_range (text ++ (body ++ after)) (length text) (length text + length body) ≡ body
body_at text body after =
    let size : (length text + length body) - length text ≡ length body = omega arith in
    ap (take ((length text + length body) - length text)) (drop_at text (body ++ after) (length text) refl)
    ∙ ap (λ n. take n (body ++ after)) size ∙ take_at body after (length body) refl

-- and what follows it after the body
after_at : (text body after : List ℕ) → drop (length text + length body) (text ++ (body ++ after)) ≡ after
after_at text body after =
    ap (drop (length text + length body)) (sym (append_assoc text body after))
    ∙ drop_at (text ++ body) after (length text + length body) (length-append text body)

-- ---- a request in the buffer is one of the input

body_is : (bytes : List ℕ) (h : Head) (r : Request) (after : List ℕ) → StandsAt bytes h r after
    → slice_range bytes h.used (h.used + h.body) ≡ r.body
body_is bytes h r after s =
    rw (s.is.head.reads.1, s.used, s.body) (body_at (print_request r.head) r.body after)

after_is : (bytes : List ℕ) (h : Head) (r : Request) (after : List ℕ) → StandsAt bytes h r after
    → drop (h.used + h.body) bytes ≡ after
after_is bytes h r after s =
    rw (s.is.head.reads.1, s.used, s.body) (after_at (print_request r.head) r.body after)

-- both stand in the buffer
pub stands_there : (bytes : List ℕ) (h : Head) (r : Request) (after : List ℕ) → StandsAt bytes h r after → h.used + h.body ≤ length bytes
stands_there bytes h r after s =
    let whole : length bytes ≡ length (print_request r.head) + length (r.body ++ after) =
    ap length s.is.head.reads.1 ∙ length-append (print_request r.head) (r.body ++ after) in
    omega (arith, whole, length-append r.body after, s.used, s.body)

pub closes_as : (n : ℕ) (bytes : List ℕ) (h : Head) (r : Request) (after : List ℕ) → StandsAt bytes h r after
    → (closed : Bool) → closed ≡ (h.closes || n == 9999) → closed ≡ closes_at n r
closes_as n bytes h r after s closed is = is ∙ ap (λ b. b || n == 9999) s.closes_is

-- ---- a request, asked and answered

module _ {V Operation : Type 0} (rules : HostRules V Operation) where
  pub Answers-from_head : (bytes : List ℕ) (h : Head) (r : Request) (after : List ℕ) → StandsAt bytes h r after
      → (u v : V) (o : Outcome) (operations : List Operation)
      → Serves rules u (IsOrder h.method h.target h.token h.tag (slice_range bytes h.used (h.used + h.body))) o operations v
      → Answers rules u (record { request = r; outcome = o; operations = operations }) v
  Answers-from_head bytes h r after s u v o operations served =
      let body = body_is bytes h r after s in (
        h.token,
        s.shows,
        h.tag,
        s.names,
        subst (λ z. Serves rules u (IsOrder z r.head.target h.token h.tag r.body) o operations v) s.method
            (subst (λ z. Serves rules u (IsOrder h.method z h.token h.tag r.body) o operations v) s.target
            (subst (λ z. Serves rules u (IsOrder h.method h.target h.token h.tag z) o operations v) body served)),
      )

  -- the request whose reply was made
  unfoldable pub AnswersNext-from_reply : (bytes : List ℕ) (left : Option (List ℕ)) (rest : List ℕ) (h : Head) (r : Request) (after : List ℕ)
      → StandsAt bytes h r after → to_read bytes left ≡ Some rest
      → (u v : V) (o : Outcome) (operations : List Operation)
      → Serves rules u (IsOrder h.method h.target h.token h.tag (slice_range bytes h.used (h.used + h.body))) o operations v
      → AnswersNext rules rest u (record { request = r; outcome = o; operations = operations }) v
  AnswersNext-from_reply bytes left rest h r after s e u v o operations served =
      let ahead = to_read-some bytes left rest e in
      record {
        after = after ++ ahead.0;
        is = subst (λ z. IsRequest z r (after ++ ahead.0)) (sym ahead.2) (IsRequest-append bytes ahead.0 r after s.is);
        answers = Answers-from_head bytes h r after s u v o operations served;
      }

  -- a front of the reply was given, after the interim reply
  pub StopsAsked-from_front : (n : ℕ) (rest : List ℕ) (u v : V) (x : Exchange Operation) → AnswersNext rules rest u x v
      → (closed : Bool) → closed ≡ closes_at n x.request
      → (given before now : Option (List ℕ)) → before ≡ append_known given (interim_of x.request.head)
      → GivesFront before now (text x.outcome closed) → StopsAsked rules served.WriteFault n rest u v given now
  StopsAsked-from_front n rest u v x next closed is given before now began gives =
      let whole = GivesFront-after given now (interim_of x.request.head) (text x.outcome closed) (subst (λ z. GivesFront z now (text x.outcome closed)) began gives) in
      (x, next, subst (λ b. GivesFront given now (interim_of x.request.head ++ text x.outcome b)) is whole)

  -- the request of a reply that was given whole, and the buffer after it
  pub OneMore-from_reply : (n : ℕ) (buffer bytes skipped : List ℕ) (left still : Option (List ℕ)) (rest : List ℕ) (h : Head) (r : Request) (after : List ℕ)
      → StandsAt bytes h r after → to_read bytes left ≡ Some rest → skipped ≡ drop (h.used + h.body) bytes → still ≡ left
      → (u v : V) (o : Outcome) (operations : List Operation)
      → Serves rules u (IsOrder h.method h.target h.token h.tag (slice_range bytes h.used (h.used + h.body))) o operations v
      → (closed : Bool) → closed ≡ (h.closes || n == 9999)
      → (old mid new : LinkTells) → mid.given ≡ append_known old.given (interim_of r.head) → new.given ≡ append_known mid.given (text o closed)
      → new.taken ≡ mid.taken → new.asked ≡ mid.asked → AsksUnfinished ⊥ buffer bytes old mid
      → OneMore rules n rest buffer skipped (to_read skipped still) u v old new closed
  unfolding AnswersNext-from_reply
  OneMore-from_reply n buffer bytes skipped left still rest h r after s e skip kept u v o operations served closed is old mid new began gave same_taken same_asked reading =
      let ahead = to_read-some bytes left rest e in
      let x : Exchange Operation = record { request = r; outcome = o; operations = operations } in
      let same = closes_as n bytes h r after s closed is in
      let next = AnswersNext-from_reply bytes left rest h r after s e u v o operations served in
      let held : skipped ≡ after = skip ∙ after_is bytes h r after s in
      let whole : (print_request r.head ++ r.body) ++ skipped ≡ bytes =
      ap (λ z. (print_request r.head ++ r.body) ++ z) held ∙ append_assoc (print_request r.head) r.body after ∙ sym s.is.head.reads.1 in
      let later = Unfinished-later ⊥ buffer bytes old mid new same_taken same_asked reading in
      record {
        exchange = x;
        after = after ++ ahead.0;
        is = next.is;
        ahead = ap (to_read skipped) (kept ∙ ahead.1) ∙ ap (λ z. to_read z (Some ahead.0)) held;
        answers = next.answers;
        text = gave ∙ ap (λ z. append_known z (text o closed)) began ∙ append_known-more old.given (interim_of r.head) (text o closed)
            ∙ ap (λ b. append_known old.given (interim_of r.head ++ text o b)) same;
        closes_is = same;
        reading = subst (λ z. AsksUnfinished ⊥ buffer z old new) (sym whole) later;
      }
