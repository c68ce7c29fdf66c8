-- From what stands in the buffer to what is left to read, at each end of reading a request.
-- The key lemmas are open_end, bad_end, head_stops, interim_stops, body_stops and StandsAt-from_head.
use Rattle.std.proofs.Common.{◌≡◌, ◌≢◌, ℕ, ◌+◌, ◌<◌, ◌≤◌, true, false, List, [], ◌∷◌, ◌++◌, length, take, drop, Option, None, Some, Err, refl, sym, ap, subst, ◌∙◌, arith, append_assoc, append-nil, length-append, nat_le}
use Rattle.std.proofs.lemmas.Bool.{leb-false}
use Rattle.std.proofs.lemmas.List.{length-take, length-take-le, length-drop}
use Rattle.std.specs.Io.KnownBytes.{IsAtEnd, append_known}
use Rattle.httparse.specs.Grammar.{RequestHead, ReadsRequest, print_request, HasNoRequest}
use Rattle.httparse.proofs.GrammarLemmas.{ReadsRequest-append}
use Rattle.http_front.specs.Buffer.{to_read}
use Rattle.http_front.specs.declared.head.Head.{Head}
use Rattle.http_front.specs.Link.{GivesFront}
use Rattle.http_front.specs.ReplyText.{bad_text, interim_due}
use Rattle.http_front.specs.TargetFront.{MayBecomeHead}
use Rattle.http_front.specs.RequestStream.{Request, IsHeadAt, IsRequest, in_head, in_body, IsRefused, front_of, interim_of}
use Rattle.http_front.specs.NextHead.{IsHeadOf, IsBad}
use Rattle.http_front.proofs.StreamLemmas.{longer_front, head_at, request_at, refused_on}
use Rattle.worker_server.specs.ServedConnection.{StopsUnasked, not_yet, begun, interim, refusal}
use Rattle.worker_server.specs.RequestSteps.{CountsRead, IsNoFault, StandsAt, IsEnd, IsBodyEnd, RefusesSo, StopsSo, end_at}
use Rattle.worker_server.specs.declared.reading.End.{End}
use Rattle.worker_server.specs.declared.reading.End.TheVariants as end
use Rattle.worker_server.specs.declared.served.Served.{Served}
use Rattle.worker_server.specs.declared.served.Served.TheVariants as served

-- ---- what is left to read

-- it is told only where the link tells what it has left
pub to_read-some : (buffer : List ℕ) (left : Option (List ℕ)) (rest : List ℕ) → to_read buffer left ≡ Some rest
    → (more : List ℕ) × (left ≡ Some more) × (rest ≡ buffer ++ more)
to_read-some buffer None rest e = absurd (cc)
to_read-some buffer (Some more) rest e = let same : rest ≡ buffer ++ more = cc in (more, refl, same)

-- at the end of input it is the buffer
pub to_read-at_end : (buffer : List ℕ) (left : Option (List ℕ)) (rest : List ℕ) → to_read buffer left ≡ Some rest → IsAtEnd left
    → rest ≡ buffer
to_read-at_end buffer None rest e end = absurd (cc)
to_read-at_end buffer (Some more) rest e end =
    let same : rest ≡ buffer ++ more = cc in
    same ∙ ap (λ m. buffer ++ m) end ∙ append-nil buffer

-- a list that grew by no item is the same
pub same_grown : (old new piece : List ℕ) → new ≡ old ++ piece → length new ≡ length old + 0 → new ≡ old
same_grown old new [] grown size = grown ∙ append-nil old
same_grown old new (x ∷ piece) grown size = absurd (omega (arith, ap length grown, length-append old (x ∷ piece), size))

-- ---- what is known to be given

pub append_known-more : (given : Option (List ℕ)) (xs ys : List ℕ) → append_known (append_known given xs) ys ≡ append_known given (xs ++ ys)
append_known-more None xs ys = refl
append_known-more (Some g) xs ys = ap Some (append_assoc g xs ys)

pub append_known-nil : (given : Option (List ℕ)) → append_known given [] ≡ given
append_known-nil None = refl
append_known-nil (Some g) = ap Some (append-nil g)

-- a front of some bytes, after others that were given whole
pub GivesFront-after : (given now : Option (List ℕ)) (first bytes : List ℕ) → GivesFront (append_known given first) now bytes
    → GivesFront given now (first ++ bytes)
GivesFront-after given now first bytes gives = record {
  front = first ++ gives.front;
  rest = gives.rest;
  cut = ap (λ b. first ++ b) gives.cut ∙ sym (append_assoc first gives.front gives.rest);
  given = gives.given ∙ append_known-more given first gives.front;
}

-- ---- the ends

-- the input ends where no head stands in the buffer yet
pub open_end : (buffer rest : List ℕ) → rest ≡ buffer → nat_le 16384 (length buffer) ≡ false
    → HasNoRequest (front_of buffer) → MayBecomeHead (front_of buffer) → IsEnd rest (end_at buffer)
open_end [] rest same short none may = same
open_end (x ∷ xs) rest same short none may =
    let lt : length (x ∷ xs) < 16384 = leb-false 16384 (length (x ∷ xs)) short in
    let some : x ∷ xs ≢ [] = λ e. cc in
    let ends : IsEnd (x ∷ xs) (end_at (x ∷ xs)) = (refl, in_head some lt (record { none = none; may = may }) refl) in
    subst (λ z. IsEnd z (end_at (x ∷ xs))) (sym same) ends

-- what is told at the end of input of the buffer is told of what is left
pub last_ends : (buffer : List ℕ) (left : Option (List ℕ)) (rest : List ℕ) (end_is : End) → to_read buffer left ≡ Some rest → IsAtEnd left → IsEnd buffer end_is
    → IsEnd rest end_is
last_ends buffer left rest end_is e end is = subst (λ z. IsEnd z end_is) (sym (to_read-at_end buffer left rest e end)) is

-- the front of the buffer is refused
pub bad_end : (buffer : List ℕ) (left : Option (List ℕ)) (rest : List ℕ) (status : ℕ) → to_read buffer left ≡ Some rest
    → IsBad (front_of buffer) (nat_le 16384 (length buffer)) status → IsRefused rest status
bad_end buffer left rest status e bad =
    let ahead = to_read-some buffer left rest e in
    subst (λ z. IsRefused z status) (sym ahead.2) (refused_on buffer ahead.0 status bad)

-- the head in the buffer is the head of what is left to read
head_ahead : (buffer : List ℕ) (left : Option (List ℕ)) (rest : List ℕ) (head : Head) (request : RequestHead)
    → to_read buffer left ≡ Some rest → IsHeadOf (front_of buffer) head request → (after : List ℕ) × IsHeadAt rest request after
head_ahead buffer left rest head request e is =
    let ahead = to_read-some buffer left rest e in
    let after = drop (length (print_request request)) buffer ++ ahead.0 in
    (after, subst (λ z. IsHeadAt z request after) (sym ahead.2) (head_at buffer ahead.0 request _ is.reads is.few))

pub body_cut : (rest : List ℕ) (head : Head) (request : RequestHead) (after : List ℕ) → IsHeadAt rest request after
    → head.used ≡ length (print_request request) → length rest < head.used + head.body → length after < head.body
body_cut rest head request after at used short =
    let whole : length rest ≡ length (print_request request) + length after =
    ap length at.reads.1 ∙ length-append (print_request request) after in
    short_after (length rest) (length (print_request request)) (length after) head.used head.body whole used short
  where
    short_after : (all text after used body : ℕ) → all ≡ text + after → used ≡ text → all < used + body → after < body
    short_after all text after used body whole same short = omega (arith, whole, same, short)

-- ---- how the connection stops

refused_stops : (rest : List ℕ) (status : ℕ) (given now : Option (List ℕ)) (how : Served) → IsRefused rest status
    → RefusesSo status given now how → StopsUnasked how rest given now
refused_stops rest status given now (served.Refused told) is stops =
    (subst (IsRefused rest) (sym stops.0) is, stops.1 ∙ ap (λ s. append_known given (bad_text s)) (sym stops.0))
refused_stops rest status given now served.WriteFault is stops = (bad_text status, refusal status is refl, stops)
refused_stops rest status given now served.NoMemory is stops = ([], not_yet refl, stops ∙ sym (append_known-nil given))
refused_stops rest status given now served.Ended is stops = absurd stops
refused_stops rest status given now served.Limit is stops = absurd stops
refused_stops rest status given now (served.Cut read) is stops = absurd stops
refused_stops rest status given now served.ReadFault is stops = absurd stops

-- where no head was read
pub head_stops : (rest : List ℕ) (end_is : End) (given now : Option (List ℕ)) (how : Served) → IsEnd rest end_is
    → StopsSo end_is given now how → StopsUnasked how rest given now
head_stops rest end.Over given now how is stops =
    subst (λ z. StopsUnasked z rest given now) (sym stops.0) (is, stops.1)
head_stops rest (end.Cut read) given now how is stops =
    subst (λ z. StopsUnasked z rest given now) (sym stops.0) (is.0, [], is.1, stops.1 ∙ sym (append_known-nil given))
head_stops rest (end.Refused status) given now how is stops = refused_stops rest status given now how is stops
head_stops rest end.ReadFault given now how is stops =
    subst (λ z. StopsUnasked z rest given now) (sym stops.0) ([], not_yet refl, stops.1 ∙ sym (append_known-nil given))
head_stops rest end.NoMemory given now how is stops =
    subst (λ z. StopsUnasked z rest given now) (sym stops.0) ([], not_yet refl, stops.1 ∙ sym (append_known-nil given))

-- the interim reply that was given is the head's
pub interim_is : (front : List ℕ) (head : Head) (request : RequestHead) → IsHeadOf front head request
    → interim_due head.expects ≡ interim_of request
interim_is front head request is = ap interim_due is.expects_is

-- where the interim reply was not given whole
pub interim_stops : (buffer : List ℕ) (left : Option (List ℕ)) (rest : List ℕ) (head : Head) (request : RequestHead) (given now : Option (List ℕ))
    → to_read buffer left ≡ Some rest → IsHeadOf (front_of buffer) head request → head.expects ≡ true
    → GivesFront given now (interim_due head.expects) → StopsUnasked served.WriteFault rest given now
interim_stops buffer left rest head request given now e is waits gives =
    let at = head_ahead buffer left rest head request e is in
    (interim_due head.expects, interim request at.0 head.body at.1 is.body (sym is.expects_is ∙ waits) (interim_is (front_of buffer) head request is), gives)

-- where the body was not read in full
pub body_stops : (buffer : List ℕ) (left : Option (List ℕ)) (rest : List ℕ) (head : Head) (request : RequestHead) (end_is : End)
    (given before now : Option (List ℕ)) (how : Served) → to_read buffer left ≡ Some rest → IsHeadOf (front_of buffer) head request
    → IsBodyEnd (head.used + head.body) rest end_is → before ≡ append_known given (interim_due head.expects)
    → StopsSo end_is before now how → StopsUnasked how rest given now
body_stops buffer left rest head request end.Over given before now how e is ends gave stops = absurd ends
body_stops buffer left rest head request (end.Cut read) given before now how e is ends gave stops =
    let at = head_ahead buffer left rest head request e is in
    let due = interim_is (front_of buffer) head request is in
    let short = body_cut rest head request at.0 at.1 is.used ends.1 in
    subst (λ z. StopsUnasked z rest given now) (sym stops.0)
    (ends.0, interim_due head.expects, in_body request at.0 head.body at.1 is.body short due, stops.1 ∙ gave)
body_stops buffer left rest head request (end.Refused status) given before now how e is ends gave stops = absurd ends
body_stops buffer left rest head request end.ReadFault given before now how e is ends gave stops =
    let at = head_ahead buffer left rest head request e is in
    let due = interim_is (front_of buffer) head request is in
    subst (λ z. StopsUnasked z rest given now) (sym stops.0)
    (interim_due head.expects, begun request at.0 head.body at.1 is.body due, stops.1 ∙ gave)
body_stops buffer left rest head request end.NoMemory given before now how e is ends gave stops =
    let at = head_ahead buffer left rest head request e is in
    let due = interim_is (front_of buffer) head request is in
    subst (λ z. StopsUnasked z rest given now) (sym stops.0)
    (interim_due head.expects, begun request at.0 head.body at.1 is.body due, stops.1 ∙ gave)

-- ---- a whole request

-- a request of some bytes is one of those bytes and more
pub IsRequest-append : (bytes more : List ℕ) (r : Request) (after : List ℕ) → IsRequest bytes r after → IsRequest (bytes ++ more) r (after ++ more)
IsRequest-append bytes more r after is =
    let at = is.head in
    let reads = ReadsRequest-append bytes r.head (r.body ++ after) more at.reads in
    record {
      head = record { reads = (reads.0, reads.1 ∙ ap (λ l. print_request r.head ++ l) (append_assoc r.body after more)); few = at.few; short = at.short };
      accepted = is.accepted;
    }

-- a head in the buffer has its bytes there
pub head_fits : (n : ℕ) (buffer : List ℕ) (head : Head) (request : RequestHead) → IsHeadOf (take n buffer) head request
    → head.used ≤ length buffer
head_fits n buffer head request is =
    let whole : length (take n buffer) ≡ length (print_request request) + length (drop head.used (take n buffer)) =
    ap length is.reads.1 ∙ length-append (print_request request) (drop head.used (take n buffer)) in
    omega (arith, whole, length-take n buffer, is.used)

front-grown : (buffer piece : List ℕ) (head : Head) (request : RequestHead) → IsHeadOf (front_of buffer) head request
    → (after : List ℕ) × ReadsRequest (front_of (buffer ++ piece)) request after
front-grown buffer piece head request is =
    let front = longer_front 16384 buffer piece in (
      drop head.used (front_of buffer) ++ front.0,
      subst (λ z. ReadsRequest z request (drop head.used (front_of buffer) ++ front.0)) (sym front.1)
          (ReadsRequest-append (front_of buffer) request (drop head.used (front_of buffer)) front.0 is.reads),
    )

-- a head and its body stand in the buffer, and its interim reply was given
pub StandsAt-from_head : (buffer piece : List ℕ) (head : Head) (request : RequestHead) (given now : Option (List ℕ))
    → IsHeadOf (front_of buffer) head request → head.used + head.body ≤ length (buffer ++ piece)
    → now ≡ append_known given (interim_due head.expects)
    → (r : Request) × (after : List ℕ) × StandsAt (buffer ++ piece) head r after × (now ≡ append_known given (interim_of r.head))
StandsAt-from_head buffer piece head request given now is fits gave =
    let bytes = buffer ++ piece in
    let text = print_request request in
    let front = front-grown buffer piece head request is in
    let enough : length text + head.body ≤ length bytes = subst (λ n. n + head.body ≤ length bytes) is.used fits in
    let whole = request_at bytes [] request front.0 head.body front.1 is.few is.body enough in
    let body = drop (length text) bytes in
    let there : head.body ≤ length body = omega (arith, length-drop (length text) bytes, enough) in
    let r : Request = record { head = request; body = take head.body body } in
    let after = drop head.body body in
    let here : IsRequest bytes r after =
    subst (λ z. IsRequest z r after) (append-nil bytes) (subst (λ z. IsRequest (bytes ++ []) r z) (append-nil after) whole) in (
      r,
      after,
      record {
        is = here;
        used = is.used;
        body = sym (length-take-le head.body body there);
        closes_is = is.closes_is;
        method = is.method;
        target = is.target;
        shows = is.token;
        names = is.tag;
      },
      gave ∙ ap (append_known given) (interim_is (front_of buffer) head request is),
    )

-- ---- where no take failed

-- the count stays
pub counts_no_fault : (T : Type 0) (how : End) (before now : ℕ) → now ≡ before → IsNoFault how → CountsRead {T = T} before now (Err how)
counts_no_fault T end.Over before now same none = same
counts_no_fault T (end.Cut read) before now same none = same
counts_no_fault T (end.Refused status) before now same none = same
counts_no_fault T end.ReadFault before now same none = absurd none
counts_no_fault T end.NoMemory before now same none = same
