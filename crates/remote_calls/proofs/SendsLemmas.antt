-- What a send leaves on the list and of the count of faults, by its ending, and when its order is too large. The key lemmas are
-- listed_more, listed_same, counts_same, counts_after, counts_told, read_counts, counts_sent, counts_again, not_too_large, too_large,
-- large_from, fits_from, refused_for, ended_for and rose_by_one.
use Rattle.std.proofs.Common.{◌≡◌, ℕ, ◌+◌, ◌-◌, ◌^◌, ◌<◌, ◌≤◌, ◌⊎◌, min, Bool, true, false, IsTrue, List, [], ◌∷◌, ◌++◌, length, Result, Ok, Err, refl, sym, subst, ◌∙◌, inl, inr, arith}
use Rattle.std.specs.Prelude.{◌↔◌, IfErr}
use Rattle.std.proofs.lemmas.Bool.{cases_order, false≢true, true≢false}
use Rattle.ids.specs.FaultCount.{Rose, counted}
use Rattle.ids.specs.Outcome.{ExactlyWith}
use Rattle.http_front.specs.declared.order.Order.{Order}
use Rattle.http_front.specs.declared.order.What.{What}
use Rattle.http_front.specs.declared.outcome.Outcome.{Outcome}
use Rattle.http_client.specs.RequestText.{IsWithinLimit, body_in, limit_in}
use Rattle.remote_calls.specs.Exchange.{IsLinkCause, IsRead}
use Rattle.remote_calls.specs.Sends.{CountsFailure, CountsSend, Ending, IsTooLarge, SendsOne, Sent, is_listed, is_no_memory, size_told}
use Rattle.remote_calls.specs.declared.error.RemoteFault.{RemoteFault}
use Rattle.remote_calls.specs.declared.error.RemoteFault.TheVariants as fault

pub listed_more : (old : List Sent) (order : Order) (ending : Ending) → is_listed ending ≡ true → SendsOne old (old ++ (order, ending) ∷ []) order ending
listed_more old order (Ok outcome) is = refl
listed_more old order (Err fault.NoMemory) is = absurd (false≢true is)
listed_more old order (Err other) is = refl

pub listed_same : (old : List Sent) (order : Order) (ending : Ending) → is_listed ending ≡ false → SendsOne old old order ending
listed_same old order (Ok outcome) is = absurd (true≢false is)
listed_same old order (Err fault.NoMemory) is = refl
listed_same old order (Err other) is = absurd (true≢false is)

-- the count stays with whatever is no fault of the link
pub counts_same : {T : Type 0} (before now : ℕ) (told : Result T RemoteFault) → (told ≡ Err fault.Link → ⊥) → now ≡ before → CountsFailure before now told
counts_same before now (Ok done) other same = same
counts_same before now (Err fault.Link) other same = absurd (other refl)
counts_same before now (Err another) other same = same

-- the count is that of an earlier time
pub counts_after : {T : Type 0} (before mid now : ℕ) (told : Result T RemoteFault) → mid ≡ before → CountsFailure mid now told → CountsFailure before now told
counts_after before mid now told same is = subst (λ (n : ℕ). CountsFailure n now told) same is

-- the same count, whatever comes of it
pub counts_told : (T U : Type 0) (before now : ℕ) (f : RemoteFault) → CountsFailure {T = T} before now (Err f) → CountsFailure {T = U} before now (Err f)
counts_told T U before now fault.Link is = is
counts_told T U before now other is = is

-- where bytes are none of a reply, or memory was wanting, the count stays
pub read_counts : (T : Type 0) (what : What) (held : List ℕ) (before now : ℕ) (f : RemoteFault) → now ≡ before → IsRead what held (Err f) → CountsFailure {T = T} before now (Err f)
read_counts T what held before now fault.Link same is = absurd is
read_counts T what held before now other same is = same

no_less : (before now : ℕ) → now ≡ before → before ≤ now
no_less before now same = omega (arith, same)

-- the count of one try is right of a send
pub counts_sent : {T : Type 0} (before now : ℕ) (told : Result T RemoteFault) → CountsFailure before now told → CountsSend before now told
counts_sent before now (Ok done) same = no_less before now same
counts_sent before now (Err fault.Link) rose = rose
counts_sent before now (Err other) same = no_less before now same

grew : (most before mid : ℕ) → before ≤ most → min (before + 1) most ≤ mid → before ≤ mid
grew most before mid few rose = omega (arith, few, rose)

grew_then : (before mid now : ℕ) → before ≤ mid → now ≡ mid → before ≤ now
grew_then before mid now first same = omega (arith, first, same)

rose_then : (most before mid now : ℕ) → before ≤ mid → min (mid + 1) most ≤ now → min (before + 1) most ≤ now
rose_then most before mid now first rose = omega (arith, first, rose)

-- and so is that of two
pub counts_again : (U : Type 0) {T : Type 0} (before mid now : ℕ) (f : RemoteFault) (told : Result T RemoteFault) → before ≤ 2 ^ 64 - 1
    → CountsFailure {T = U} before mid (Err f) → CountsFailure mid now told → CountsSend before now told
counts_again U {T} before mid now f told few first second = by told second
  where
    went : (f : RemoteFault) → CountsFailure {T = U} before mid (Err f) → before ≤ mid
    went fault.Link rose = grew (2 ^ 64 - 1) before mid few rose
    went other same = no_less before mid same

    by : (told : Result T RemoteFault) → CountsFailure mid now told → CountsSend before now told
    by (Ok done) same = grew_then before mid now (went f first) same
    by (Err fault.Link) rose = rose_then (2 ^ 64 - 1) before mid now (went f first) rose
    by (Err other) same = grew_then before mid now (went f first) same

-- ---- an order that is too large

-- what is not too large fails for something else, and what is of the right size never fails so
pub not_too_large : (order : Order) (ending : Ending) → (IsTooLarge order → ⊥) → ((f : RemoteFault) → ending ≡ Err f → IsLinkCause f)
    → ExactlyWith is_no_memory ending fault.TooLarge (size_told order) (IsTooLarge order)
not_too_large order (Ok outcome) fits cause = fits
not_too_large order (Err f) fits cause = (λ size e. absurd (large f size e (cause f refl)), λ large. absurd (fits large))
  where
    large : (f : RemoteFault) (size : ℕ) → f ≡ fault.TooLarge size → IsLinkCause f → ⊥
    large (fault.TooLarge n) size e is = is
    large other size e is = cc

-- the fault that tells the size
pub too_large : (order : Order) → IsTooLarge order
    → ExactlyWith {T = Outcome} is_no_memory (Err (fault.TooLarge (size_told order))) fault.TooLarge (size_told order) (IsTooLarge order)
too_large order is = (λ size e. (sym (size_same e), is), λ _. inl refl)
  where
    size_same : {n m : ℕ} → fault.TooLarge n ≡ fault.TooLarge m → n ≡ m
    size_same e = cc

-- a body that is not within the limit is too large
pub large_from : (order : Order) (within : Bool) → (IsTrue within ↔ IsWithinLimit order) → within ≡ false → IsTooLarge order
large_from order within told over = by (cases_order (length (body_in order.what)) (limit_in order))
  where
    fits : length (body_in order.what) ≤ limit_in order → ⊥
    fits short = false≢true (sym over ∙ told.1 (record { short = short }))

    by : (length (body_in order.what) ≡ limit_in order) ⊎ ((length (body_in order.what) < limit_in order) ⊎ (limit_in order < length (body_in order.what))) → IsTooLarge order
    by (inl same) = absurd (fits (omega (arith, same)))
    by (inr (inl less)) = absurd (fits (omega (arith, less)))
    by (inr (inr more)) = more

pub fits_from : (order : Order) (within : Bool) → (IsTrue within ↔ IsWithinLimit order) → within ≡ true → IsTooLarge order → ⊥
fits_from order within told is large = over _ _ (told.0 is).short large
  where
    over : (n m : ℕ) → n ≤ m → m < n → ⊥
    over n m short more = absurd (omega (arith, short, more))

-- a fault that comes for another cause
pub refused_for : (order : Order) (f : RemoteFault) → (IsTooLarge order → ⊥) → IsLinkCause f
    → ExactlyWith {T = Outcome} is_no_memory (Err f) fault.TooLarge (size_told order) (IsTooLarge order)
refused_for order f fits cause = not_too_large order (Err f) fits (λ g e. subst IsLinkCause (same_fault e) cause)
  where
    same_fault : {g : RemoteFault} → ◌≡◌ {A = Ending} (Err f) (Err g) → f ≡ g
    same_fault e = cc

-- what an order on a link came to
pub ended_for : (order : Order) (ending : Ending) → (IsTooLarge order → ⊥) → IfErr ending IsLinkCause
    → ExactlyWith is_no_memory ending fault.TooLarge (size_told order) (IsTooLarge order)
ended_for order (Ok outcome) fits cause = fits
ended_for order (Err f) fits cause = refused_for order f fits cause

-- a count that was raised by one rose; it stops at the greatest number of 64 bits
pub rose_by_one : (before now : ℕ) → now ≡ counted before → Rose before now
rose_by_one before now is = same (2 ^ 64 - 1) before now is
  where
    same : (most before now : ℕ) → now ≡ min (before + 1) most → min (before + 1) most ≤ now
    same most before now is = omega (arith, is)
