-- What bytes tell they tell whatever follows them, but where the reply is not all there; and a whole reply is told by its own
-- bytes. The key lemmas are whole_more, bad_more and whole_alone.
use Rattle.std.proofs.Common.{◌≡◌, ℕ, ◌+◌, ◌<◌, ◌≤◌, Bool, None, Some, List, ◌++◌, length, take, drop, refl, sym, ap, subst, ◌∙◌, arith, append_assoc, length-append}
use Rattle.std.proofs.lemmas.List.{take-append-drop, take-append-le, drop-append-le, take-take, take_at, length-take, length-drop, length-take-le}
use Rattle.httparse.specs.Grammar.{HasNoResponse, ResponseHead, print_response}
use Rattle.httparse.proofs.GrammarLemmas.{ReadsResponse-append}
use Rattle.http_front.specs.declared.order.What.{What}
use Rattle.http_front.specs.declared.outcome.Outcome.{Outcome}
use Rattle.http_front.specs.declared.status.Status.{Status}
use Rattle.http_front.proofs.StreamLemmas.{longer_front}
use Rattle.http_client.specs.OutcomeReading.{IsOutcome}
use Rattle.http_client.specs.ReplyHead.{HasNoHead, IsHeadAt, MayBecomeHead, NeverHasHead}
use Rattle.http_client.specs.Response.{HasHead, IsBad, IsWhole, body_behind, front_of}

-- ---- heads

pub head_more : (front more : List ℕ) (head : ResponseHead) (rest : List ℕ) → IsHeadAt front head rest → IsHeadAt (front ++ more) head (rest ++ more)
head_more front more head rest is = record {
  reads = ReadsResponse-append front head rest more is.reads;
  newest = is.newest;
  few = is.few;
}

-- a head of the front of some bytes is one of the front of more
pub front_head_more : (buffer more : List ℕ) (head : ResponseHead) (rest : List ℕ) → IsHeadAt (front_of buffer) head rest
    → (after : List ℕ) × IsHeadAt (front_of (buffer ++ more)) head after
front_head_more buffer more head rest is =
    let front = longer_front 16384 buffer more in
    (rest ++ front.0, subst (λ (f : List ℕ). IsHeadAt f head (rest ++ front.0)) (sym front.1) (head_more (take 16384 buffer) front.0 head rest is))

pub has_head_more : (order : What) (buffer more : List ℕ) (head : ResponseHead) (status : Status) (size : ℕ) → HasHead order buffer head status size
    → HasHead order (buffer ++ more) head status size
has_head_more order buffer more head status size has =
    let longer = front_head_more buffer more head has.rest has.at in
    record { rest = longer.0; at = longer.1; right = has.right }

-- ---- bodies

pub body_more : (buffer more : List ℕ) (head : ResponseHead) (size : ℕ) → length (print_response head) + size ≤ length buffer
    → body_behind (buffer ++ more) head size ≡ body_behind buffer head size
body_more buffer more head size fits =
    let text = print_response head in
    let inside : length text ≤ length buffer = omega (arith, fits) in
    let there : size ≤ length (drop (length text) buffer) = omega (arith, fits, length-drop (length text) buffer) in
    ap (take size) (drop-append-le (length text) buffer more inside) ∙ take-append-le size (drop (length text) buffer) more there

longer : (used : ℕ) (buffer more : List ℕ) → used ≤ length buffer → used ≤ length (buffer ++ more)
longer used buffer more fits = omega (arith, fits, length-append buffer more)

-- ---- what is told

pub whole_more : (order : What) (buffer more : List ℕ) (outcome : Outcome) (used : ℕ) (ends : Bool) → IsWhole order buffer outcome used ends
    → IsWhole order (buffer ++ more) outcome used ends
whole_more order buffer more outcome used ends is =
    let fits : length (print_response is.head) + is.size ≤ length buffer = subst (λ (n : ℕ). n ≤ length buffer) is.used_is is.there in
    record {
      head = is.head;
      status = is.status;
      size = is.size;
      has = has_head_more order buffer more is.head is.status is.size is.has;
      used_is = is.used_is;
      there = longer used buffer more is.there;
      tag = is.tag;
      tag_is = is.tag_is;
      outcome_is = subst (λ (b : List ℕ). IsOutcome order is.status is.tag b (Some outcome)) (sym (body_more buffer more is.head is.size fits)) is.outcome_is;
      ends_is = is.ends_is;
    }

joined : (n : ℕ) (front more : List ℕ) → take n front ++ (drop n front ++ more) ≡ front ++ more
joined n front more = sym (append_assoc (take n front) (drop n front) more) ∙ ap (λ (b : List ℕ). b ++ more) (take-append-drop n front)

-- where no head goes on from some place, none stands there, whatever follows
none_more : (front more : List ℕ) (n : ℕ) → NeverHasHead (take n front) → HasNoHead (front ++ more)
none_more front more n never = subst HasNoHead (joined n front more) (never (drop n front ++ more))

pub bad_more : (order : What) (buffer more : List ℕ) (at : ℕ) → IsBad order buffer at → IsBad order (buffer ++ more) at
bad_more order buffer more at (IsBad.in_bytes none inside may never) =
    let f = front_of buffer in
    let front = longer_front 16384 buffer more in
    let same : front_of (buffer ++ more) ≡ f ++ front.0 = front.1 in
    let upto : at ≤ length f = omega (arith, inside) in
    let past : at + 1 ≤ length f = omega (arith, inside) in
    IsBad.in_bytes
    (subst HasNoHead (sym same) (none_more f front.0 (at + 1) never))
    (subst (λ (g : List ℕ). at < length g) (sym same) (omega (arith, inside, length-append f front.0)))
    (subst (λ (g : List ℕ). MayBecomeHead (take at g)) (sym same) (subst MayBecomeHead (sym (take-append-le at f front.0 upto)) may))
    (subst (λ (g : List ℕ). NeverHasHead (take (at + 1) g)) (sym same) (subst NeverHasHead (sym (take-append-le (at + 1) f front.0 past)) never))
bad_more order buffer more at (IsBad.in_length is full open_is) =
    let same : front_of (buffer ++ more) ≡ front_of buffer = take-append-le 16384 buffer more full in
    IsBad.in_length is (longer 16384 buffer more full)
    (record { none = subst HasNoResponse (sym same) open_is.none; may = subst MayBecomeHead (sym same) open_is.may })
bad_more order buffer more at (IsBad.in_head head rest is wrong at_is) =
    let longer_head = front_head_more buffer more head rest is in
    IsBad.in_head head longer_head.0 longer_head.1 wrong at_is
bad_more order buffer more at (IsBad.in_body head status size tag has tag_is fits tells at_is) =
    IsBad.in_body head status size tag (has_head_more order buffer more head status size has) tag_is (longer (length (print_response head) + size) buffer more fits)
    (subst (λ (b : List ℕ). IsOutcome order status tag b None) (sym (body_more buffer more head size fits)) tells) at_is

-- ---- a whole reply by itself

-- a head within the first so many bytes is one of them
head_alone : (buffer : List ℕ) (used : ℕ) (head : ResponseHead) (rest : List ℕ) → IsHeadAt (front_of buffer) head rest → length (print_response head) ≤ used
    → (after : List ℕ) × IsHeadAt (front_of (take used buffer)) head after
head_alone buffer used head rest is short =
    let text = print_response head in
    let n = length text in
    let whole : length (take 16384 buffer) ≡ n + length rest = ap length is.reads.1 ∙ length-append text rest in
    let limit : n ≤ 16384 = omega (arith, whole, length-take 16384 buffer) in
    let begins : take n (take 16384 (take used buffer)) ≡ text =
    take-take n 16384 (take used buffer) limit ∙ take-take n used buffer short ∙ sym (take-take n 16384 buffer limit)
    ∙ ap (take n) is.reads.1 ∙ take_at text rest n refl in
    let after = drop n (take 16384 (take used buffer)) in
    let cut : take 16384 (take used buffer) ≡ text ++ after =
    sym (take-append-drop n (take 16384 (take used buffer))) ∙ ap (λ (f : List ℕ). f ++ after) begins in
    (after, record { reads = (is.reads.0, cut); newest = is.newest; few = is.few })

pub whole_alone : (order : What) (buffer : List ℕ) (outcome : Outcome) (used : ℕ) (ends : Bool) → IsWhole order buffer outcome used ends
    → IsWhole order (take used buffer) outcome used ends
whole_alone order buffer outcome used ends is =
    let n = length (print_response is.head) in
    let due = is.used_is in
    let inside : n ≤ used = omega (arith, due) in
    let alone = head_alone buffer used is.head is.has.rest is.has.at inside in
    let size_is : length (take used buffer) ≡ used = length-take-le used buffer is.there in
    let same : body_behind (take used buffer) is.head is.size ≡ body_behind buffer is.head is.size =
    sym (body_more (take used buffer) (drop used buffer) is.head is.size (omega (arith, size_is, due)))
    ∙ ap (λ (b : List ℕ). body_behind b is.head is.size) (take-append-drop used buffer) in
    record {
      head = is.head;
      status = is.status;
      size = is.size;
      has = record { rest = alone.0; at = alone.1; right = is.has.right };
      used_is = is.used_is;
      there = omega (arith, size_is);
      tag = is.tag;
      tag_is = is.tag_is;
      outcome_is = subst (λ (b : List ℕ). IsOutcome order is.status is.tag b (Some outcome)) (sym same) is.outcome_is;
      ends_is = is.ends_is;
    }
