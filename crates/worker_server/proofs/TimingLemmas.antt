-- When the link is asked for more: the asking of one step joins that of the steps before it.
-- The key lemmas are ReadsOn-none, ReadsOn-more, ReadsOn-ends, Unfinished-from_head, Unfinished-from_body, AsksFor-turn and
-- NeverWaits-from_asks.
use Rattle.std.proofs.Common.{◌≡◌, ℕ, ◌+◌, ◌-◌, ◌<◌, ◌≤◌, ◌⊎◌, ◌≢◌, List, [], ◌∷◌, ◌++◌, length, take, drop, Option, Some, refl, sym, ap, subst, ◌∙◌, arith, append_assoc, append-nil, length-append, inl, inr, All}
use Rattle.std.proofs.lemmas.List.{take_at}
use Rattle.std.proofs.lemmas.List.Elements.{All-nil, All-cons, All-head, All-tail, All-append}
use Rattle.std.specs.Io.KnownBytes.{append_known}
use Rattle.http_front.specs.Buffer.{Fills}
use Rattle.http_front.specs.Link.{Asked, LinkTells, asked_once_more}
use Rattle.http_front.specs.Limits.{piece_limit}
use Rattle.http_front.specs.NextHead.{IsHeadOf}
use Rattle.http_front.specs.RequestStream.{Request, IsHeadAt, IsUnfinished, Reads, head_open, body_open, front_of, interim_of}
use Rattle.http_front.specs.declared.head.Head.{Head}
use Rattle.http_front.proofs.StreamLemmas.{head_at}
use Rattle.httparse.specs.Grammar.{RequestHead, print_request}
use Rattle.worker_server.specs.ServedConnection.{AllOpen, ComesInPieces, Exchange, IsAskedInTime, IsInTime, NeverWaits, requests, texts}
use Rattle.worker_server.specs.RequestSteps.{AsksFor, AsksUnfinished, ComesUntil, HeldBefore, ReadsOn, WantsBytes, WantsHead, WasDue}
use Rattle.worker_server.proofs.ReadingLemmas.{append_known-more, append_known-nil, body_cut, IsRequest-append}

-- ---- pieces

-- after pieces that came, others; they may end
ComesUntil-append : (AtEnd : Type 0) (from mid now : ℕ) (asked more : List Asked) → ComesUntil ⊥ from asked mid → ComesUntil AtEnd mid more now
    → ComesUntil AtEnd from (asked ++ more) now
ComesUntil-append AtEnd from mid now [] more first later = subst (λ (n : ℕ). ComesUntil AtEnd n more now) first later
ComesUntil-append AtEnd from mid now (a ∷ asked) more first later =
    (first.0, first.1, first.2, still first.3, ComesUntil-append AtEnd (from + first.1) mid now asked more first.4 later)
  where
    still : (1 ≤ first.1) ⊎ ((asked ≡ []) × ⊥) → (1 ≤ first.1) ⊎ ((asked ++ more ≡ []) × AtEnd)
    still (inl some) = inl some
    still (inr none) = absurd none.1

-- pieces that came may be the last
ComesUntil-ends : (AtEnd : Type 0) (from now : ℕ) (asked : List Asked) → ComesUntil ⊥ from asked now → ComesUntil AtEnd from asked now
ComesUntil-ends AtEnd from now [] comes = comes
ComesUntil-ends AtEnd from now (a ∷ asked) comes = (comes.0, comes.1, comes.2, still comes.3, ComesUntil-ends AtEnd (from + comes.1) now asked comes.4)
  where
    still : (1 ≤ comes.1) ⊎ ((asked ≡ []) × ⊥) → (1 ≤ comes.1) ⊎ ((asked ≡ []) × AtEnd)
    still (inl some) = inl some
    still (inr none) = absurd none.1

ComesInPieces-from_step : (AtEnd : Type 0) (from now : ℕ) (asked : List Asked) → ComesUntil AtEnd from asked now → ComesInPieces from asked now
ComesInPieces-from_step AtEnd from now [] comes = comes
ComesInPieces-from_step AtEnd from now (a ∷ asked) comes = (comes.0, comes.1, comes.2, still comes.3, ComesInPieces-from_step AtEnd (from + comes.1) now asked comes.4)
  where
    still : (1 ≤ comes.1) ⊎ ((asked ≡ []) × AtEnd) → (1 ≤ comes.1) ⊎ (asked ≡ [])
    still (inl some) = inl some
    still (inr none) = inr none.0

-- ---- what was due

-- it was due in a longer piece too
due_longer : (IsDue : List ℕ → List ℕ → Type 0) (taken given piece later : List ℕ) (a : Asked) → WasDue IsDue taken given piece a
    → WasDue IsDue taken given (piece ++ later) a
due_longer IsDue taken given piece later a due =
    (due.0, due.1 ++ later, due.2, ap (λ p. p ++ later) due.3 ∙ append_assoc due.0 due.1 later, due.4, due.5, due.6)

all_due_longer : (IsDue : List ℕ → List ℕ → Type 0) (taken given piece later : List ℕ) (asked : List Asked)
    → All (WasDue IsDue taken given piece) asked → All (WasDue IsDue taken given (piece ++ later)) asked
all_due_longer IsDue taken given piece later [] due = All-nil (WasDue IsDue taken given (piece ++ later))
all_due_longer IsDue taken given piece later (a ∷ asked) due =
    All-cons (WasDue IsDue taken given (piece ++ later)) a asked
    (due_longer IsDue taken given piece later a (All-head (WasDue IsDue taken given piece) a asked due))
    (all_due_longer IsDue taken given piece later asked (All-tail (WasDue IsDue taken given piece) a asked due))

-- it was due after other bytes had come and been given
due_after : (D E : List ℕ → List ℕ → Type 0) (taken given came gave piece : List ℕ)
    → ((come others more : List ℕ) → piece ≡ come ++ others → E come more → D (came ++ come) (gave ++ more)) → (a : Asked)
    → WasDue E (taken ++ came) (given ++ gave) piece a → WasDue D taken given (came ++ piece) a
due_after D E taken given came gave piece turn a due = (
  came ++ due.0,
  due.1,
  gave ++ due.2,
  ap (λ p. came ++ p) due.3 ∙ sym (append_assoc came due.0 due.1),
  due.4 ∙ omega (arith, length-append taken came, length-append came due.0),
  due.5 ∙ omega (arith, length-append given gave, length-append gave due.2),
  turn due.0 due.1 due.2 due.3 due.6,
)

all_due_after : (D E : List ℕ → List ℕ → Type 0) (taken given came gave piece : List ℕ)
    → ((come others more : List ℕ) → piece ≡ come ++ others → E come more → D (came ++ come) (gave ++ more)) → (asked : List Asked)
    → All (WasDue E (taken ++ came) (given ++ gave) piece) asked → All (WasDue D taken given (came ++ piece)) asked
all_due_after D E taken given came gave piece turn [] due = All-nil (WasDue D taken given (came ++ piece))
all_due_after D E taken given came gave piece turn (a ∷ asked) due =
    All-cons (WasDue D taken given (came ++ piece)) a asked
    (due_after D E taken given came gave piece turn a (All-head (WasDue E (taken ++ came) (given ++ gave) piece) a asked due))
    (all_due_after D E taken given came gave piece turn asked (All-tail (WasDue E (taken ++ came) (given ++ gave) piece) a asked due))

-- ---- steps

-- nothing was asked, and nothing came
pub AsksFor-none : (AtEnd : Type 0) (IsDue : List ℕ → List ℕ → Type 0) (old new : LinkTells) → new.asked ≡ old.asked → AsksFor AtEnd IsDue old new []
AsksFor-none AtEnd IsDue old new same = λ taken given before et eg ea. (
  [],
  same ∙ ea ∙ ap Some (sym (append-nil before)),
  All-nil (WasDue IsDue taken given []),
  omega arith,
)

-- the link was asked once
AsksFor-once : (AtEnd : Type 0) (IsDue : List ℕ → List ℕ → Type 0) (piece : List ℕ) (old new : LinkTells) → IsDue [] [] → length piece ≤ piece_limit
    → (1 ≤ length piece) ⊎ AtEnd → new.asked ≡ asked_once_more old.asked old.taken old.given → AsksFor AtEnd IsDue old new piece
AsksFor-once AtEnd IsDue piece old new due bound comes once = λ taken given before et eg ea.
    let a : Asked = (length taken, length given) in
    let now : new.asked ≡ Some (before ++ a ∷ []) = once ∙ (λ i. asked_once_more (ea i) (et i) (eg i)) in
    let here : WasDue IsDue taken given piece a = ([], piece, [], refl, omega arith, omega arith, due) in
    (a ∷ [], now, All-cons (WasDue IsDue taken given piece) a [] here (All-nil (WasDue IsDue taken given piece)), (refl, length piece, bound, alone [] refl comes, refl))
  where
    alone : (more : List Asked) → more ≡ [] → (1 ≤ length piece) ⊎ AtEnd → (1 ≤ length piece) ⊎ ((more ≡ []) × AtEnd)
    alone more none (inl some) = inl some
    alone more none (inr at_end) = inr (none, at_end)

-- one step after another; between them some bytes were given
pub AsksFor-more : (AtEnd : Type 0) (D E : List ℕ → List ℕ → Type 0) (came gave later : List ℕ) (old mid between new : LinkTells)
    → mid.taken ≡ append_known old.taken came → between.taken ≡ mid.taken → between.asked ≡ mid.asked
    → between.given ≡ append_known old.given gave
    → ((come others more : List ℕ) → later ≡ come ++ others → E come more → D (came ++ come) (gave ++ more))
    → AsksFor ⊥ D old mid came → AsksFor AtEnd E between new later → AsksFor AtEnd D old new (came ++ later)
AsksFor-more AtEnd D E came gave later old mid between new taken_is same_taken same_asked given_is turn before_mid after_mid = λ taken given before et eg ea.
    let one = before_mid taken given before et eg ea in
    let mid_taken : between.taken ≡ Some (taken ++ came) = same_taken ∙ taken_is ∙ ap (λ (t : Option (List ℕ)). append_known t came) et in
    let mid_given : between.given ≡ Some (given ++ gave) = given_is ∙ ap (λ (t : Option (List ℕ)). append_known t gave) eg in
    let two = after_mid (taken ++ came) (given ++ gave) (before ++ one.0) mid_taken mid_given (same_asked ∙ one.1) in
    let place : length (taken ++ came) ≡ length taken + length came = length-append taken came in
    let end : length (taken ++ came) + length later ≡ length taken + length (came ++ later) = omega (arith, place, length-append came later) in
    let pieces = subst (λ (n : ℕ). ComesUntil AtEnd n two.0 (length (taken ++ came) + length later)) place two.3 in (
      one.0 ++ two.0,
      two.1 ∙ ap Some (append_assoc before one.0 two.0),
      All-append (WasDue D taken given (came ++ later)) one.0 two.0 (all_due_longer D taken given came later one.0 one.2)
          (all_due_after D E taken given came gave later turn two.0 two.2),
      ComesUntil-append AtEnd (length taken) (length taken + length came) (length taken + length (came ++ later)) one.0 two.0 one.3
          (subst (λ (n : ℕ). ComesUntil AtEnd (length taken + length came) two.0 n) end pieces),
    )

-- ---- a loop over fills

pub ReadsOn-none : (AtEnd : Type 0) (IsDue : List ℕ → Type 0) (buffer : List ℕ) (old : LinkTells) → ReadsOn AtEnd IsDue buffer buffer old old
ReadsOn-none AtEnd IsDue buffer old = record {
  piece = [];
  grown = sym (append-nil buffer);
  taken = sym (append_known-nil old.taken);
  given = refl;
  asks = AsksFor-none AtEnd (HeldBefore IsDue buffer) old old refl;
}

fill_asks : (AtEnd : Type 0) (IsDue : List ℕ → Type 0) (buffer now : List ℕ) (old new : LinkTells) → IsDue buffer → (fills : Fills buffer now old new)
    → (1 ≤ length fills.piece) ⊎ AtEnd → AsksFor AtEnd (HeldBefore IsDue buffer) old new fills.piece
fill_asks AtEnd IsDue buffer now old new due fills comes =
    elim fills.asked [
      | inl none ↦ subst (AsksFor AtEnd (HeldBefore IsDue buffer) old new) (sym none.0) (AsksFor-none AtEnd (HeldBefore IsDue buffer) old new none.1)
      | inr once ↦ AsksFor-once AtEnd (HeldBefore IsDue buffer) fills.piece old new (refl, subst IsDue (sym (append-nil buffer)) due) fills.bound comes once
    ]

-- a fill in which bytes came
pub comes_some : (buffer now : List ℕ) (old new : LinkTells) (n : ℕ) (fills : Fills buffer now old new) → length now ≡ length buffer + n → n ≢ 0
    → (1 ≤ length fills.piece) ⊎ ⊥
comes_some buffer now old new n fills size some = inl (by_piece fills.piece fills.grown)
  where
    none_came : (k : ℕ) → k + n ≡ k → n ≡ 0
    none_came k e = omega (arith, e)

    by_piece : (piece : List ℕ) → now ≡ buffer ++ piece → 1 ≤ length piece
    by_piece [] grown = absurd (some (none_came (length buffer) (sym size ∙ ap length (grown ∙ append-nil buffer))))
    by_piece (byte ∷ piece) grown = omega arith

pub ReadsOn-more : (AtEnd : Type 0) (IsDue : List ℕ → Type 0) (buffer held now : List ℕ) (old mid new : LinkTells) → ReadsOn ⊥ IsDue buffer held old mid
    → IsDue held → (fills : Fills held now mid new) → (1 ≤ length fills.piece) ⊎ AtEnd → ReadsOn AtEnd IsDue buffer now old new
ReadsOn-more AtEnd IsDue buffer held now old mid new reads due fills comes =
    let given_is : mid.given ≡ append_known old.given [] = reads.given ∙ sym (append_known-nil old.given) in
    let turn : (come others more : List ℕ) → fills.piece ≡ come ++ others → HeldBefore IsDue held come more → HeldBefore IsDue buffer (reads.piece ++ come) ([] ++ more) =
    λ come others more e h. (h.0, subst IsDue (ap (λ b. b ++ come) reads.grown ∙ append_assoc buffer reads.piece come) h.1) in
    record {
      piece = reads.piece ++ fills.piece;
      grown = fills.grown ∙ ap (λ b. b ++ fills.piece) reads.grown ∙ append_assoc buffer reads.piece fills.piece;
      taken = fills.taken ∙ ap (λ (t : Option (List ℕ)). append_known t fills.piece) reads.taken ∙ append_known-more old.taken reads.piece fills.piece;
      given = fills.given ∙ reads.given;
      asks = AsksFor-more AtEnd (HeldBefore IsDue buffer) (HeldBefore IsDue held) reads.piece [] fills.piece old mid mid new reads.taken refl refl given_is turn
          reads.asks (fill_asks AtEnd IsDue held now mid new due fills comes);
    }

-- what was asked for may have been the last
AsksFor-ends : (AtEnd : Type 0) (D : List ℕ → List ℕ → Type 0) (old new : LinkTells) (piece : List ℕ) → AsksFor ⊥ D old new piece → AsksFor AtEnd D old new piece
AsksFor-ends AtEnd D old new piece asks = λ taken given before et eg ea.
    let h = asks taken given before et eg ea in
    (h.0, h.1, h.2, ComesUntil-ends AtEnd (length taken) (length taken + length piece) h.0 h.3)

pub ReadsOn-ends : (AtEnd : Type 0) (IsDue : List ℕ → Type 0) (buffer now : List ℕ) (old new : LinkTells) → ReadsOn ⊥ IsDue buffer now old new
    → ReadsOn AtEnd IsDue buffer now old new
ReadsOn-ends AtEnd IsDue buffer now old new reads = record {
  piece = reads.piece;
  grown = reads.grown;
  taken = reads.taken;
  given = reads.given;
  asks = AsksFor-ends AtEnd (HeldBefore IsDue buffer) old new reads.piece reads.asks;
}

pub Unfinished-ends : (AtEnd : Type 0) (buffer held : List ℕ) (old new : LinkTells) → AsksUnfinished ⊥ buffer held old new → AsksUnfinished AtEnd buffer held old new
Unfinished-ends AtEnd buffer held old new reading = record {
  piece = reading.piece;
  grown = reading.grown;
  taken = reading.taken;
  asks = AsksFor-ends AtEnd (λ come gave. IsUnfinished (buffer ++ come) gave) old new reading.piece reading.asks;
}

-- ---- weaker words, and a later state

AllDue-weaker : (D E : List ℕ → List ℕ → Type 0) (taken given piece : List ℕ) → ((come gave : List ℕ) → E come gave → D come gave)
    → (asked : List Asked) → All (WasDue E taken given piece) asked → All (WasDue D taken given piece) asked
AllDue-weaker D E taken given piece turn [] due = All-nil (WasDue D taken given piece)
AllDue-weaker D E taken given piece turn (a ∷ asked) due =
    let first = All-head (WasDue E taken given piece) a asked due in
    All-cons (WasDue D taken given piece) a asked (first.0, first.1, first.2, first.3, first.4, first.5, turn first.0 first.2 first.6)
    (AllDue-weaker D E taken given piece turn asked (All-tail (WasDue E taken given piece) a asked due))

pub AsksFor-weaker : (AtEnd : Type 0) (D E : List ℕ → List ℕ → Type 0) (old new : LinkTells) (piece : List ℕ) → ((come gave : List ℕ) → E come gave → D come gave)
    → AsksFor AtEnd E old new piece → AsksFor AtEnd D old new piece
AsksFor-weaker AtEnd D E old new piece turn asks = λ taken given before et eg ea.
    let h = asks taken given before et eg ea in
    (h.0, h.1, AllDue-weaker D E taken given piece turn h.0 h.2, h.3)

-- a give asks for nothing
pub AsksFor-later : (AtEnd : Type 0) (D : List ℕ → List ℕ → Type 0) (old new after : LinkTells) (piece : List ℕ) → after.asked ≡ new.asked
    → AsksFor AtEnd D old new piece → AsksFor AtEnd D old after piece
AsksFor-later AtEnd D old new after piece same asks = λ taken given before et eg ea.
    let h = asks taken given before et eg ea in (h.0, same ∙ h.1, h.2, h.3)

-- ---- a head and its body

-- where the body isn't all there
pub wants_bytes : (buffer : List ℕ) (used body : ℕ) → used ≤ length buffer → length buffer - used < body → WantsBytes (used + body) buffer
wants_bytes buffer used body fits short = omega (arith, fits, short)

-- where a head is looked for, less than a request is there
pub heads_unfinished : (buffer come gave : List ℕ) → HeldBefore WantsHead buffer come gave → IsUnfinished (buffer ++ come) gave
heads_unfinished buffer come gave h = head_open h.1.0 h.1.1.short h.1.1.none h.1.1.looked h.0

-- where its body is not all there, and its interim reply was given
pub body_unfinished : (buffer held piece : List ℕ) (head : Head) (request : RequestHead) → held ≡ buffer ++ piece
    → IsHeadOf (front_of held) head request → (come gave : List ℕ) → HeldBefore (WantsBytes (head.used + head.body)) held come gave
    → IsUnfinished (buffer ++ (piece ++ come)) (interim_of request ++ gave)
body_unfinished buffer held piece head request grown is come gave h =
    let same : held ++ come ≡ buffer ++ (piece ++ come) = ap (λ b. b ++ come) grown ∙ append_assoc buffer piece come in
    let after = drop (length (print_request request)) held ++ come in
    let at : IsHeadAt (held ++ come) request after = head_at held come request _ is.reads is.few in
    let short : length after < head.body = body_cut (held ++ come) head request after at is.used h.1 in
    let due : interim_of request ++ gave ≡ interim_of request = ap (λ g. interim_of request ++ g) h.0 ∙ append-nil (interim_of request) in
    subst (λ b. IsUnfinished b (interim_of request ++ gave)) same (body_open request after head.body at is.body short due)

-- no head was read, or its interim reply was not given whole
pub Unfinished-from_head : (AtEnd : Type 0) (buffer held : List ℕ) (old mid new : LinkTells) → ReadsOn AtEnd WantsHead buffer held old mid
    → new.taken ≡ mid.taken → new.asked ≡ mid.asked → AsksUnfinished AtEnd buffer held old new
Unfinished-from_head AtEnd buffer held old mid new reads same_taken same_asked = record {
  piece = reads.piece;
  grown = reads.grown;
  taken = same_taken ∙ reads.taken;
  asks = AsksFor-later AtEnd (λ come gave. IsUnfinished (buffer ++ come) gave) old mid new reads.piece same_asked
      (AsksFor-weaker AtEnd (λ come gave. IsUnfinished (buffer ++ come) gave) (HeldBefore WantsHead buffer) old mid reads.piece (heads_unfinished buffer) reads.asks);
}

-- the head was read, its interim reply given, and then the body was read or not
pub Unfinished-from_body : (AtEnd : Type 0) (buffer held now : List ℕ) (head : Head) (request : RequestHead) (old mid between last new : LinkTells)
    → (reads : ReadsOn ⊥ WantsHead buffer held old mid) → IsHeadOf (front_of held) head request
    → between.taken ≡ mid.taken → between.asked ≡ mid.asked → between.given ≡ append_known mid.given (interim_of request)
    → ReadsOn AtEnd (WantsBytes (head.used + head.body)) held now between last → new.taken ≡ last.taken → new.asked ≡ last.asked
    → AsksUnfinished AtEnd buffer now old new
Unfinished-from_body AtEnd buffer held now head request old mid between last new reads is same_taken same_asked gave body later_taken later_asked =
    let D : List ℕ → List ℕ → Type 0 = λ come given. IsUnfinished (buffer ++ come) given in
    let E : List ℕ → List ℕ → Type 0 = HeldBefore (WantsBytes (head.used + head.body)) held in
    let given_is : between.given ≡ append_known old.given (interim_of request) =
    gave ∙ ap (λ (g : Option (List ℕ)). append_known g (interim_of request)) reads.given in
    let turn : (come others more : List ℕ) → body.piece ≡ come ++ others → E come more → D (reads.piece ++ come) (interim_of request ++ more) =
    λ come others more e h. body_unfinished buffer held reads.piece head request reads.grown is come more h in
    let heads = AsksFor-weaker ⊥ D (HeldBefore WantsHead buffer) old mid reads.piece (heads_unfinished buffer) reads.asks in
    record {
      piece = reads.piece ++ body.piece;
      grown = body.grown ∙ ap (λ b. b ++ body.piece) reads.grown ∙ append_assoc buffer reads.piece body.piece;
      taken = later_taken ∙ body.taken ∙ ap (λ (t : Option (List ℕ)). append_known t body.piece) (same_taken ∙ reads.taken) ∙ append_known-more old.taken reads.piece body.piece;
      asks = AsksFor-later AtEnd D old last new (reads.piece ++ body.piece) later_asked
          (AsksFor-more AtEnd D E reads.piece (interim_of request) body.piece old mid between last reads.taken same_taken same_asked given_is turn heads body.asks);
    }

-- a give asks for nothing
pub Unfinished-later : (AtEnd : Type 0) (buffer held : List ℕ) (old new after : LinkTells) → after.taken ≡ new.taken → after.asked ≡ new.asked
    → AsksUnfinished AtEnd buffer held old new → AsksUnfinished AtEnd buffer held old after
Unfinished-later AtEnd buffer held old new after same_taken same_asked reading = record {
  piece = reading.piece;
  grown = reading.grown;
  taken = same_taken ∙ reading.taken;
  asks = AsksFor-later AtEnd (λ come gave. IsUnfinished (buffer ++ come) gave) old new after reading.piece same_asked reading.asks;
}

-- ---- the connection

pub Reads-append : (taken more : List ℕ) (rs : List Request) (rest : List ℕ) → Reads taken rs rest → Reads (taken ++ more) rs (rest ++ more)
Reads-append taken more [] rest reads = ap (λ t. t ++ more) reads
Reads-append taken more (r ∷ rs) rest reads =
    (reads.0 ++ more, IsRequest-append taken more r reads.0 reads.1, reads.2, Reads-append reads.0 more rs rest reads.3)

module _ {Operation : Type 0} where
  -- as these bytes had come and these had been given, the link was asked in time
  abbrev pub InTimeFor : List ℕ → List (Exchange Operation) → List ℕ → List ℕ → Type 0
  InTimeFor input xs come gave = IsInTime input xs (length come) (length gave)

  pub InTimeFor-more : (input : List ℕ) (xs later : List (Exchange Operation)) (come gave : List ℕ) → InTimeFor input xs come gave
      → InTimeFor input (xs ++ later) come gave
  InTimeFor-more input xs later come gave is = record {
    answered = is.answered;
    later = is.later ++ later;
    split = ap (λ ys. ys ++ later) is.split ∙ append_assoc is.answered is.later later;
    few = is.few;
    none_closes = is.none_closes;
    unread = is.unread;
    first = is.first;
    read = is.read;
    unfinished = is.unfinished;
    replied = is.replied;
  }

  -- one turn more: what it asked for was asked in time
  pub AsksFor-turn : (AtEnd : Type 0) (input taken buffer held left : List ℕ) (xs later : List (Exchange Operation)) (old mid new : LinkTells)
      → mid.taken ≡ append_known old.taken taken → mid.given ≡ append_known old.given (texts 0 xs)
      → length xs < 10000 → AllOpen xs → Reads taken (requests xs) buffer → AsksFor ⊥ (InTimeFor input xs) old mid taken
      → (reading : AsksUnfinished AtEnd buffer held mid new) → input ≡ taken ++ (reading.piece ++ left)
      → AsksFor AtEnd (InTimeFor input (xs ++ later)) old new (taken ++ reading.piece)
  AsksFor-turn AtEnd input taken buffer held left xs later old mid new taken_is given_is few opens reads asks reading whole =
      let D = InTimeFor input (xs ++ later) in
      let E : List ℕ → List ℕ → Type 0 = λ come gave. IsUnfinished (buffer ++ come) gave in
      let turn : (come others more : List ℕ) → reading.piece ≡ come ++ others → E come more → D (taken ++ come) (texts 0 xs ++ more) =
      λ come others more e unfinished.
      let front : take (length (taken ++ come)) input ≡ taken ++ come =
      ap (take (length (taken ++ come))) (whole ∙ ap (λ p. taken ++ (p ++ left)) e ∙ ap (λ p. taken ++ p) (append_assoc come others left) ∙ sym (append_assoc taken come (others ++ left)))
      ∙ take_at (taken ++ come) (others ++ left) (length (taken ++ come)) refl in
      record {
        answered = xs;
        later = later;
        split = refl;
        few = few;
        none_closes = opens;
        unread = buffer ++ come;
        first = more;
        read = subst (λ t. Reads t (requests xs) (buffer ++ come)) (sym front) (Reads-append taken come (requests xs) buffer reads);
        unfinished = unfinished;
        replied = refl;
      } in
      AsksFor-more AtEnd D E taken (texts 0 xs) reading.piece old mid mid new taken_is refl refl given_is turn
      (AsksFor-weaker ⊥ D (InTimeFor input xs) old mid taken (λ come gave is. InTimeFor-more input xs later come gave is) asks) reading.asks

  asked_in_time : (input : List ℕ) (xs : List (Exchange Operation)) (taken given piece : List ℕ) (asked : List Asked)
      → All (WasDue (InTimeFor input xs) taken given piece) asked → All (IsAskedInTime input xs (length taken) (length given)) asked
  asked_in_time input xs taken given piece [] due = All-nil (IsAskedInTime input xs (length taken) (length given))
  asked_in_time input xs taken given piece (a ∷ asked) due =
      let first = All-head (WasDue (InTimeFor input xs) taken given piece) a asked due in
      let here : IsAskedInTime input xs (length taken) (length given) a = record {
        more_taken = length first.0;
        more_given = length first.2;
        taken_is = first.4;
        given_is = first.5;
        in_time = first.6;
      } in
      All-cons (IsAskedInTime input xs (length taken) (length given)) a asked here
      (asked_in_time input xs taken given piece asked (All-tail (WasDue (InTimeFor input xs) taken given piece) a asked due))

  pub NeverWaits-from_asks : (AtEnd : Type 0) (input : List ℕ) (xs : List (Exchange Operation)) (old new : LinkTells) (taken : List ℕ)
      → new.taken ≡ append_known old.taken taken → AsksFor AtEnd (InTimeFor input xs) old new taken → NeverWaits input xs old new
  NeverWaits-from_asks AtEnd input xs old new came taken_is asks = λ taken given before et eg ea.
      let h = asks taken given before et eg ea in
      let comes = ComesInPieces-from_step AtEnd (length taken) (length taken + length came) h.0 h.3 in
      let now : new.taken ≡ Some (taken ++ came) = taken_is ∙ ap (λ (t : Option (List ℕ)). append_known t came) et in
      let size : length taken + length came ≡ length (taken ++ came) = sym (length-append taken came) in
      (h.0, taken ++ came, h.1, now, asked_in_time input xs taken given came h.0 h.2, subst (λ (n : ℕ). ComesInPieces (length taken) h.0 n) size comes)
