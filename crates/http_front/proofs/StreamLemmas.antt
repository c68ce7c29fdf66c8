-- From what stands in a buffer to what the whole input is. `buffer ++ more` is the input: what was taken
-- and not yet used, and what the link has left. The key lemmas are head_at, request_at, refused_on, bad_status and
-- one_head, and those that say that no whole request comes: no_whole_open, no_whole_refused, no_whole_short.
use Rattle.std.proofs.Common.{◌≡◌, ℕ, zero, suc, ◌+◌, ◌<◌, ◌≤◌, Bool, true, false, cond, Option, None, Some, List, [], ◌∷◌, ◌++◌, length, take, drop, refl, sym, ap, subst, ◌∙◌, arith, append_assoc, length-append, Result, Ok, Err, nat_le, ◌⊎◌, inl, inr}
use Rattle.std.proofs.lemmas.Bool.{leb-true}
use Rattle.std.proofs.lemmas.List.{take-append-drop, take-take, take_at, drop_at, take-append-le, length-take-le, length-take, length-drop}
use Rattle.httparse.specs.Grammar.{RequestHead, ReadsRequest, print_request, HasNoRequest}
use Rattle.httparse.specs.Spans.{RequestOverflows}
use Rattle.httparse.proofs.GrammarLemmas.{request_unique, ReadsRequest-append}
use Rattle.http_front.specs.TargetFront.{MayBecomeHead}
use Rattle.http_front.specs.ReplyText.{is_bad_status}
use Rattle.http_front.specs.RequestHead.{judge, judged, judged_by, has_coding, body_length, has_host, fields_of, method_of}
use Rattle.http_front.specs.Route.{limit_of}
use Rattle.http_front.specs.RequestStream.{Request, IsHeadAt, IsRequest, IsOpen, IsCutAfter, in_head, in_body, IsRefused, by_head, by_bytes, by_length, HasNoWhole, Reads, Extends, front_of}
use Rattle.http_front.specs.NextHead.{IsBad, of_head, of_bytes, of_length}

-- ---- lists

-- a front of a longer list is longer
pub longer_front : (n : ℕ) (xs ys : List ℕ) → (more : List ℕ) × (take n (xs ++ ys) ≡ take n xs ++ more)
longer_front zero xs ys = ([], refl)
longer_front (suc n) [] ys = (take (suc n) ys, refl)
longer_front (suc n) (x ∷ xs) ys = let rest = longer_front n xs ys in (rest.0, ap (λ t. x ∷ t) rest.1)

-- the front and what follows it
joined : (n : ℕ) (buffer more : List ℕ) → take n buffer ++ (drop n buffer ++ more) ≡ buffer ++ more
joined n buffer more =
    sym (append_assoc (take n buffer) (drop n buffer) more) ∙ ap (λ b. b ++ more) (take-append-drop n buffer)

-- ---- heads, with the number of bytes that are looked at as a variable

-- a short head of the input is one of its front
pub reads_front : (n : ℕ) (input : List ℕ) (head : RequestHead) (rest : List ℕ) → ReadsRequest input head rest
    → length (print_request head) ≤ n
    → ReadsRequest (take n input) head (drop (length (print_request head)) (take n input))
reads_front n input head rest reads short =
    let text = print_request head in
    let begins : take (length text) (take n input) ≡ text =
    take-take (length text) n input short ∙ ap (take (length text)) reads.1 ∙ take_at text rest (length text) refl in (
      reads.0,
      sym (take-append-drop (length text) (take n input))
          ∙ ap (λ f. f ++ drop (length text) (take n input)) begins,
    )

-- a head of the front is one of the input
reads_whole : (n : ℕ) (buffer more : List ℕ) (head : RequestHead) (after : List ℕ) → ReadsRequest (take n buffer) head after
    → ReadsRequest (buffer ++ more) head (after ++ (drop n buffer ++ more))
reads_whole n buffer more head after reads =
    let whole = ReadsRequest-append (take n buffer) head after (drop n buffer ++ more) reads in
    (whole.0, sym (joined n buffer more) ∙ whole.1)

-- a head of the front is as short as that
reads_short : (n : ℕ) (buffer : List ℕ) (head : RequestHead) (after : List ℕ) → ReadsRequest (take n buffer) head after
    → length (print_request head) ≤ n
reads_short n buffer head after reads =
    let whole : length (take n buffer) ≡ length (print_request head) + length after =
    ap length reads.1 ∙ length-append (print_request head) after in
    omega (arith, whole, length-take n buffer)

-- what follows the head in the buffer
follows_head : (n : ℕ) (buffer : List ℕ) (head : RequestHead) (after : List ℕ) → ReadsRequest (take n buffer) head after
    → drop (length (print_request head)) buffer ≡ after ++ drop n buffer
follows_head n buffer head after reads =
    let text = print_request head in
    let whole : buffer ≡ text ++ (after ++ drop n buffer) =
    sym (take-append-drop n buffer) ∙ ap (λ f. f ++ drop n buffer) reads.1 ∙ append_assoc text after (drop n buffer) in
    ap (drop (length text)) whole ∙ drop_at text (after ++ drop n buffer) (length text) refl

-- ---- a head

-- the head at the front of the buffer is the input's
pub head_at : (buffer more : List ℕ) (head : RequestHead) (after : List ℕ) → ReadsRequest (front_of buffer) head after
    → length head.fields ≤ 64 → IsHeadAt (buffer ++ more) head (drop (length (print_request head)) buffer ++ more)
head_at buffer more head after reads few = record {
  reads = subst (ReadsRequest (buffer ++ more) head)
      (sym (append_assoc after (drop 16384 buffer) more) ∙ ap (λ d. d ++ more) (sym (follows_head 16384 buffer head after reads)))
      (reads_whole 16384 buffer more head after reads);
  few = few;
  short = reads_short 16384 buffer head after reads;
}

-- an input has at most one head
pub one_head : (input : List ℕ) (head other : RequestHead) (after rest : List ℕ) → IsHeadAt input head after
    → IsHeadAt input other rest → (head ≡ other) × (after ≡ rest)
one_head input head other after rest is also = request_unique input head other after rest is.reads also.reads

-- a head whose body stands in the buffer too is a request
pub request_at : (buffer more : List ℕ) (head : RequestHead) (after : List ℕ) (size : ℕ)
    → ReadsRequest (front_of buffer) head after → length head.fields ≤ 64 → judge head ≡ Ok size
    → length (print_request head) + size ≤ length buffer
    → IsRequest (buffer ++ more) (record { head = head; body = take size (drop (length (print_request head)) buffer) })
    (drop size (drop (length (print_request head)) buffer) ++ more)
request_at buffer more head after size reads few accepted whole =
    let body = drop (length (print_request head)) buffer in
    let there : size ≤ length body = omega (arith, length-drop (length (print_request head)) buffer) in
    record {
      head = subst (IsHeadAt (buffer ++ more) head) (sym (joined size body more)) (head_at buffer more head after reads few);
      accepted = accepted ∙ ap Ok (sym (length-take-le size body there));
    }

-- ---- the ends

-- an unread front is one of the whole input, where no byte more comes
pub open_at_end : (buffer : List ℕ) → HasNoRequest (front_of buffer) → MayBecomeHead (front_of buffer) → IsOpen buffer
open_at_end buffer none may = record { none = none; may = may }

overflows_on : (n : ℕ) (buffer more : List ℕ) → RequestOverflows 64 (take n buffer) → RequestOverflows 64 (take n (buffer ++ more))
overflows_on n buffer more over later head rest reads =
    let front = longer_front n buffer more in
    let same : take n (buffer ++ more) ++ later ≡ take n buffer ++ (front.0 ++ later) =
    ap (λ f. f ++ later) front.1 ∙ append_assoc (take n buffer) front.0 later in
    over (front.0 ++ later) head rest (reads.0, sym same ∙ reads.1)

open_on : (n : ℕ) (buffer more : List ℕ) → n ≤ length buffer → HasNoRequest (take n buffer) → MayBecomeHead (take n buffer)
    → HasNoRequest (take n (buffer ++ more)) × MayBecomeHead (take n (buffer ++ more))
open_on n buffer more long none may =
    rw (take-append-le n buffer more long) (none, may)

is_long : (n : ℕ) (buffer more : List ℕ) → nat_le n (length buffer) ≡ true → (n ≤ length buffer) × (n ≤ length (buffer ++ more))
is_long n buffer more full =
    let long = leb-true n (length buffer) full in
    (long, omega (arith, long, length-append buffer more))

-- what is refused at the front of the buffer is refused in the input
pub refused_on : (buffer more : List ℕ) (status : ℕ) → IsBad (front_of buffer) (nat_le 16384 (length buffer)) status
    → IsRefused (buffer ++ more) status
refused_on buffer more status (of_head head rest reads few judged) =
    by_head head _ (head_at buffer more head rest reads few) judged
refused_on buffer more status (of_bytes is over) = by_bytes is (overflows_on 16384 buffer more over)
refused_on buffer more status (of_length is full none may) =
    let long = is_long 16384 buffer more full in
    let still = open_on 16384 buffer more long.0 none may in
    by_length is long.1 (record { none = still.0; may = still.1 })

-- ---- the statuses of what is refused

abbrev Refusal_as : ℕ → Result ℕ ℕ
Refusal_as status = Err status

bad_of : (a status : ℕ) → Refusal_as a ≡ Refusal_as status → is_bad_status a ≡ true → is_bad_status status ≡ true
bad_of a status e bad =
    let same : a ≡ status = cc in
    subst (λ s. is_bad_status s ≡ true) same bad

judged_status : (coded : Bool) (size : Option ℕ) (host : Bool) (limit status : ℕ) → judged coded size host limit ≡ Err status
    → is_bad_status status ≡ true
judged_status true size host limit status e = bad_of 501 status e refl
judged_status false None host limit status e = bad_of 400 status e refl
judged_status false (Some size) false limit status e = bad_of 400 status e refl
judged_status false (Some size) true limit status e = by_size (nat_le size limit) e
  where
    by_size : (fits : Bool) → cond fits (Ok size) (Err 413) ≡ Err status → is_bad_status status ≡ true
    by_size true e = absurd (cc)
    by_size false e = bad_of 413 status e refl

pub bad_status : (front : List ℕ) (full : Bool) (status : ℕ) → IsBad front full status → is_bad_status status ≡ true
unfolding judged_by
bad_status front full status (of_head head rest reads few judged) =
    let fields = fields_of head in
    judged_status (has_coding fields) (body_length fields) (has_host head.minor fields) (limit_of (method_of head.method) head.target) status judged
bad_status front full status (of_bytes is over) = ap is_bad_status is
bad_status front full status (of_length is full_is none may) = ap is_bad_status is

-- ---- no whole request

abbrev accepted_as : ℕ → Result ℕ ℕ
accepted_as size = Ok size

abbrev refused_as : ℕ → Result ℕ ℕ
refused_as status = Err status

-- where no head stands there
pub no_whole_open : (input : List ℕ) → HasNoRequest (front_of input) → HasNoWhole input
no_whole_open input none request rest whole =
    let head = whole.head in
    none request.head _ (reads_front 16384 input request.head _ head.reads head.short)

-- where the body is too short
pub no_whole_short : (input : List ℕ) (head : RequestHead) (after : List ℕ) (size : ℕ) → IsHeadAt input head after
    → judge head ≡ Ok size → length after < size → HasNoWhole input
no_whole_short input head after size is judged short request rest whole =
    let same = one_head input head request.head after (request.body ++ rest) is whole.head in
    let size_is : accepted_as size ≡ accepted_as (length request.body) = sym judged ∙ ap judge same.0 ∙ whole.accepted in
    let all : length after ≡ length request.body + length rest = ap length same.1 ∙ length-append request.body rest in
    absurd (not_short size (length request.body) (length after) (length rest) size_is all short)
  where
    not_short : (size body after rest : ℕ) → accepted_as size ≡ accepted_as body → after ≡ body + rest → after < size → ⊥
    not_short size body after rest same whole short =
        let same_size : size ≡ body = cc in
        omega (arith, same_size, whole, short)

-- a head has at most 64 fields
pub too_many : (n : ℕ) → 64 < n → n ≤ 64 → ⊥
too_many n many few = omega arith

-- where what is left is refused
pub no_whole_refused : (input : List ℕ) (status : ℕ) → IsRefused input status → HasNoWhole input
no_whole_refused input status (by_head head after is judged) request rest whole =
    let same = one_head input head request.head after (request.body ++ rest) is whole.head in
    let differ : accepted_as (length request.body) ≡ refused_as status = sym whole.accepted ∙ ap judge (sym same.0) ∙ judged in
    absurd (cc)
no_whole_refused input status (by_bytes is over) request rest whole =
    let head = whole.head in
    let many = over (drop 16384 input) request.head _ (head.reads.0, take-append-drop 16384 input ∙ head.reads.1) in
    absurd (too_many (length request.head.fields) many head.few)
no_whole_refused input status (by_length is long unread) request rest whole =
    no_whole_open input unread.none request rest whole

-- where it is cut short
pub no_whole_cut : (input given : List ℕ) → IsCutAfter input given → HasNoWhole input
no_whole_cut input given (in_head some short unread none) = no_whole_open input unread.none
no_whole_cut input given (in_body head after size at judged short due) = no_whole_short input head after size at judged short

-- ---- an input spells its requests in one way

append_parts : (a b c d : List ℕ) → a ++ b ≡ c ++ d → length a ≡ length c → (a ≡ c) × (b ≡ d)
append_parts a b c d same size = (
  sym (take_at a b (length a) refl) ∙ ap (take (length a)) same ∙ take_at c d (length a) (sym size),
  sym (drop_at a b (length a) refl) ∙ ap (drop (length a)) same ∙ drop_at c d (length a) (sym size),
)

same_size : (a b : ℕ) → accepted_as a ≡ accepted_as b → a ≡ b
same_size a b same = cc

-- an input begins with at most one request
pub one_request : (input : List ℕ) (request other : Request) (rest more : List ℕ) → IsRequest input request rest
    → IsRequest input other more → (request ≡ other) × (rest ≡ more)
one_request input request other rest more is also =
    let head = one_head input request.head other.head (request.body ++ rest) (other.body ++ more) is.head also.head in
    let size : length request.body ≡ length other.body =
    same_size (length request.body) (length other.body) (sym is.accepted ∙ ap judge head.0 ∙ also.accepted) in
    let parts = append_parts request.body rest other.body more head.1 size in
    (λ i. record { head = head.0 i; body = parts.0 i }, parts.1)

extends_more : (request other : Request) (shorter longer : List Request) → request ≡ other → Extends shorter longer
    → Extends (request ∷ shorter) (other ∷ longer)
extends_more request other shorter longer same rest =
    record { more = rest.more; is = λ i. sym same i ∷ rest.is i }

-- of two ways to read an input one begins the other
pub reads_begin : (input : List ℕ) (requests others : List Request) (rest more : List ℕ) → Reads input requests rest
    → Reads input others more → Extends requests others ⊎ Extends others requests
reads_begin input [] others rest more is also = inl (record { more = others; is = refl })
reads_begin input (request ∷ requests) [] rest more is also = inr (record { more = request ∷ requests; is = refl })
reads_begin input (request ∷ requests) (other ∷ others) rest more is also =
    let first = one_request input request other is.0 also.0 is.1 also.1 in
    let later = subst (λ (m : List ℕ). Reads m requests rest) first.1 is.3 in
    elim (reads_begin also.0 requests others rest more later also.3) [
      | inl shorter ↦ inl (extends_more request other requests others first.0 shorter)
      | inr longer ↦ inr (extends_more other request others requests (sym first.0) longer)
    ]
