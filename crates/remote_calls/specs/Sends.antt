-- The list of what a remote was sent, and what came of it. Our own. Read Sent first, then SendsOne and IsTooLarge.
-- The list stands in proofs alone, so it has the bytes of objects themselves: nothing is kept and nothing hashed for it.
use Rattle.std.specs.Prelude.{ℕ, ◌≡◌, ◌<◌, ◌≤◌, not, min, Bool, true, false, List, [], ◌∷◌, ◌++◌, length, Result, Ok, Err}
use Rattle.std.specs.Bool.{MatchBool}
use Rattle.std.specs.List.{list_any}
use Rattle.ids.specs.FaultCount.{Rose}
use Rattle.http_front.specs.declared.order.Order.{Order}
use Rattle.http_front.specs.declared.outcome.Outcome.{Outcome}
use Rattle.http_client.specs.RequestText.{body_in, limit_in}
use Rattle.remote_calls.specs.declared.error.RemoteFault.{RemoteFault}
use Rattle.remote_calls.specs.declared.error.RemoteFault.TheVariants as fault

-- what an order came to
abbrev pub Ending : Type 0
Ending = Result Outcome RemoteFault

-- an order, and what it came to
abbrev pub Sent : Type 0
Sent = Order × Ending

-- want of memory, which may come in any fault's place
abbrev pub is_no_memory : RemoteFault → Bool
is_no_memory fault.NoMemory = true
is_no_memory _ = false

-- what is listed: every send but one for which memory was wanting
abbrev pub is_listed : Ending → Bool
is_listed (Ok outcome) = true
is_listed (Err f) = not (is_no_memory f)

-- the list after a send: one more at its end, or the same where memory was wanting
abbrev pub SendsOne : List Sent → List Sent → Order → Ending → Type 0
SendsOne old new order (Ok outcome) = new ≡ old ++ (order, Ok outcome) ∷ []
SendsOne old new order (Err fault.NoMemory) = new ≡ old
SendsOne old new order (Err f) = new ≡ old ++ (order, Err f) ∷ []

-- over one link, or none: the count of faults rose where the link failed, and stayed otherwise
abbrev pub CountsFailure : {T : Type 0} → ℕ → ℕ → Result T RemoteFault → Type 0
CountsFailure before now (Err fault.Link) = Rose before now
CountsFailure before now told = now ≡ before

-- the count of faults rose where the send came to a failure of the link, and didn't fall otherwise: a link that was left for another
-- may have failed
abbrev pub CountsSend : {T : Type 0} → ℕ → ℕ → Result T RemoteFault → Type 0
CountsSend before now (Err fault.Link) = Rose before now
CountsSend before now told = before ≤ now

-- ---- the count over all sends

-- a send that came to a failure of the link
abbrev pub is_link_failure : Ending → Bool
is_link_failure (Err fault.Link) = true
is_link_failure _ = false

abbrev pub fails_by_link : List Sent → Bool
fails_by_link sends = list_any (λ sent. is_link_failure sent.1) sends

-- the count rose since where one of these sends came to a failure of the link, and didn't fall where none did
abbrev pub CountsSends : ℕ → List Sent → ℕ → Type 0
CountsSends before sends now = MatchBool (fails_by_link sends) (Rose before now) (before ≤ now)

-- ---- orders that are too large

-- the length of the body of the order's request, or 2^64 - 1 where that is more
abbrev pub size_told : Order → ℕ
size_told order = min (length (body_in order.what)) 18446744073709551615

-- the body of the order's request is over the limit
abbrev pub IsTooLarge : Order → Type 0
IsTooLarge order = limit_in order < length (body_in order.what)
