-- What a connection holds unread has a bound: it is what was held as more was asked for, and a piece. The key lemma is
-- NeverHoldsMore-from_never_waits.
use Rattle.std.proofs.Common.{◌≡◌, ℕ, ◌+◌, ◌-◌, ◌<◌, ◌≤◌, inl, inr, List, [], ◌∷◌, ◌++◌, length, take, drop, All, refl, sym, subst, ◌∙◌, arith, length-append, length-take, take-add}
use Rattle.std.proofs.lemmas.List.{append_cancel_left}
use Rattle.std.proofs.lemmas.List.Elements.{All-head, All-tail, All-weaker}
use Rattle.ids.proofs.BasicLemmas.{same_from_some}
use Rattle.http_front.specs.Limits.{body_limit, head_limit, piece_limit}
use Rattle.http_front.specs.Link.{Asked, LinkTells}
use Rattle.http_front.specs.RequestStream.{Reads}
use Rattle.http_front.proofs.UnfinishedLemmas.{unfinished_bound}
use Rattle.worker_server.specs.HeldInput.{HoldsFewer, NeverHoldsMore, StoodAt}
use Rattle.worker_server.specs.ServedConnection.{ComesInPieces, Exchange, IsAskedInTime, NeverWaits, requests, texts}
use Rattle.worker_server.proofs.TimingLemmas.{Reads-append}

-- ---- counts

taken_more : (now asked from more size : ℕ) → now ≡ asked + size → asked ≡ from + more → now ≡ from + (more + size)
taken_more now asked from more size came is = omega (arith, came, is)

given_more : (now asked from more : ℕ) → asked ≤ now → asked ≡ from + more → now ≡ from + (more + (now - asked))
given_more now asked from more after is = omega (arith, after, is)

given_since : (now from : ℕ) → from ≤ now → now ≡ from + (now - from)
given_since now from after = omega (arith, after)

none_replied : (n : ℕ) → 0 ≤ n
none_replied n = omega arith

replied_still : (n given more : ℕ) → n ≤ given → n ≤ given + more
replied_still n given more le = omega (arith, le)

replied_before : (replies first : List ℕ) (given : ℕ) → given ≡ length (replies ++ first) → length replies ≤ given
replied_before replies first given is = omega (arith, is, length-append replies first)

-- with a piece more
fewer_with_piece : (unread left : List ℕ) (size most piece : ℕ) → length unread < most → size ≤ piece → length (unread ++ take size left) < most + piece
fewer_with_piece unread left size most piece few bound = omega (arith, few, bound, length-append unread (take size left), length-take size left)

-- ---- the times of a connection

module _ {Operation : Type 0} (input : List ℕ) (xs : List (Exchange Operation)) (from : Asked) where
  -- as the link was asked for more, less than a request was held
  held_as_asked : (a : Asked) → IsAskedInTime input xs from.0 from.1 a → HoldsFewer (head_limit + body_limit) input xs from a
  held_as_asked a is =
      let due = is.in_time in
      record {
        taken = is.more_taken;
        given = is.more_given;
        taken_is = is.taken_is;
        given_is = is.given_is;
        answered = due.answered;
        later = due.later;
        split = due.split;
        replied = replied_before (texts 0 due.answered) due.first is.more_given due.replied;
        unread = due.unread;
        read = due.read;
        few = unfinished_bound due.unread due.first due.unfinished;
      }

  -- and a piece, until it was asked again
  held_since : (a counts : Asked) (size : ℕ) → IsAskedInTime input xs from.0 from.1 a → size ≤ piece_limit → counts.0 ≡ a.0 + size → a.1 ≤ counts.1
      → HoldsFewer (head_limit + body_limit + piece_limit) input xs from counts
  held_since a counts size is bound came after =
      let due = is.in_time in
      let piece : List ℕ = take size (drop is.more_taken input) in
      let front : take (is.more_taken + size) input ≡ take is.more_taken input ++ piece = take-add is.more_taken size input in
      record {
        taken = is.more_taken + size;
        given = is.more_given + (counts.1 - a.1);
        taken_is = taken_more counts.0 a.0 from.0 is.more_taken size came is.taken_is;
        given_is = given_more counts.1 a.1 from.1 is.more_given after is.given_is;
        answered = due.answered;
        later = due.later;
        split = due.split;
        replied = replied_still (length (texts 0 due.answered)) is.more_given (counts.1 - a.1)
            (replied_before (texts 0 due.answered) due.first is.more_given due.replied);
        unread = due.unread ++ piece;
        read = subst (λ (t : List ℕ). Reads t (requests due.answered) (due.unread ++ piece)) (sym front)
            (Reads-append (take is.more_taken input) piece (requests due.answered) due.unread due.read);
        few = fewer_with_piece due.unread (drop is.more_taken input) size (head_limit + body_limit) piece_limit
            (unfinished_bound due.unread due.first due.unfinished) bound;
      }

  -- before anything came, nothing was held
  held_at_first : (counts : Asked) → counts.0 ≡ from.0 → from.1 ≤ counts.1 → HoldsFewer (head_limit + body_limit + piece_limit) input xs from counts
  held_at_first counts same after = record {
    taken = 0;
    given = counts.1 - from.1;
    taken_is = omega (arith, same);
    given_is = given_since counts.1 from.1 after;
    answered = [];
    later = xs;
    split = refl;
    replied = none_replied (counts.1 - from.1);
    unread = [];
    read = refl;
    few = omega arith;
  }

  -- at any time after the link was asked, and a piece of that size came
  held_later : (a : Asked) (size : ℕ) (more : List Asked) (to counts : Asked) → IsAskedInTime input xs from.0 from.1 a → size ≤ piece_limit
      → All (IsAskedInTime input xs from.0 from.1) more → ComesInPieces (a.0 + size) more to.0 → StoodAt a more to counts
      → HoldsFewer (head_limit + body_limit + piece_limit) input xs from counts
  held_later a size [] to counts is bound due comes stood = held_since a counts size is bound (stood.came ∙ comes) stood.after
  held_later a size (b ∷ more) to counts is bound due comes (inl stood) = held_since a counts size is bound (stood.came ∙ comes.0) stood.after
  held_later a size (b ∷ more) to counts is bound due comes (inr stood) =
      held_later b comes.1 more to counts (All-head (IsAskedInTime input xs from.0 from.1) b more due) comes.2
      (All-tail (IsAskedInTime input xs from.0 from.1) b more due)
      (subst (λ (n : ℕ). ComesInPieces (n + comes.1) more to.0) (sym comes.0) comes.4) stood

  -- at any time at all
  held_always : (asked : List Asked) (to counts : Asked) → All (IsAskedInTime input xs from.0 from.1) asked → ComesInPieces from.0 asked to.0
      → StoodAt from asked to counts → HoldsFewer (head_limit + body_limit + piece_limit) input xs from counts
  held_always [] to counts due comes stood = held_at_first counts (stood.came ∙ comes) stood.after
  held_always (b ∷ more) to counts due comes (inl stood) = held_at_first counts (stood.came ∙ comes.0) stood.after
  held_always (b ∷ more) to counts due comes (inr stood) =
      held_later b comes.1 more to counts (All-head (IsAskedInTime input xs from.0 from.1) b more due) comes.2
      (All-tail (IsAskedInTime input xs from.0 from.1) b more due)
      (subst (λ (n : ℕ). ComesInPieces (n + comes.1) more to.0) (sym comes.0) comes.4) stood

-- ---- the law

pub NeverHoldsMore-from_never_waits : {Operation : Type 0} (input : List ℕ) (xs : List (Exchange Operation)) (old new : LinkTells)
    → NeverWaits input xs old new → NeverHoldsMore input xs old new
NeverHoldsMore-from_never_waits input xs old new never = λ taken given now gave before asked et eg ea nt ng na.
    let w = never taken given before et eg ea in
    let from : Asked = (length taken, length given) in
    let to : Asked = (length now, length gave) in
    let InTime : Asked → Type 0 = IsAskedInTime input xs (length taken) (length given) in
    let same : w.0 ≡ asked = append_cancel_left before w.0 asked (same_from_some (before ++ w.0) (before ++ asked) (sym w.2 ∙ na)) in
    let same_now : w.1 ≡ now = same_from_some w.1 now (sym w.3 ∙ nt) in
    let due : All InTime asked = subst (All InTime) same w.4 in
    let comes_so : ComesInPieces (length taken) asked (length w.1) = subst (λ (l : List Asked). ComesInPieces (length taken) l (length w.1)) same w.5 in
    let comes : ComesInPieces (length taken) asked (length now) = subst (λ (n : List ℕ). ComesInPieces (length taken) asked (length n)) same_now comes_so in (
      All-weaker InTime (HoldsFewer (head_limit + body_limit) input xs from) (held_as_asked input xs from) asked due,
      λ counts stood. held_always input xs from asked to counts due comes stood,
    )
