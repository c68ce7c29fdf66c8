-- One order on one link: its request is given, and then its reply is read, of the bytes that the link gives from there on.
-- Read LinkView and OpenView first, then Exchanges, at the end. Replies: Response of `http_client`.
use Rattle.std.specs.Prelude.{ℕ, ◌≡◌, ◌+◌, Bool, true, List, length, drop, Option, None, Some, Result, Ok, Err, ⊤}
use Rattle.std.specs.Io.KnownBytes.{IsAtEnd, append_known}
use Rattle.http_front.specs.Buffer.{to_read}
use Rattle.http_front.specs.Link.{Asked, AskedInVain, GivesFront, LinkTells, told_by}
use Rattle.http_front.specs.declared.order.What.{What}
use Rattle.http_client.specs.Response.{IsBad, IsCut, IsWhole}
use Rattle.worker_server.specs.RequestSteps.{MayEnd, ReadsOn}
use Rattle.worker_server.specs.ServedConnection.{FailedLast}
use Rattle.remote_calls.specs.Sends.{Ending}
use Rattle.remote_calls.specs.declared.error.RemoteFault.{RemoteFault}
use Rattle.remote_calls.specs.declared.error.RemoteFault.TheVariants as fault
use Rattle.remote_calls.specs.declared.open_link.OpenLink.{OpenLink}
use Rattle.remote_calls.specs.declared.reply_reading.ReadReply.{ReadReply}

-- ---- links as contracts see them

-- what a link has left to give, what it tells of itself, and its count of faults
pub record LinkView : Type 0 where
  pub left : Option (List ℕ)
  pub tells : LinkTells
  pub faults : ℕ

abbrev pub link_view : {L : Type 0} → (left taken given : L → Option (List ℕ)) → (asked : L → Option (List Asked)) → (faults : L → ℕ) → L → LinkView
link_view left taken given asked faults link = record { left = left link; tells = told_by taken given asked link; faults = faults link }

-- a link that is kept between sends: the bytes that it gave and no reply used, how many requests were given to it, the last
-- perhaps in part, and whether no more may be
pub record OpenView : Type 0 where
  pub link : LinkView
  pub unread : List ℕ
  pub count : ℕ
  pub over : Bool

abbrev pub open_view : {L : Type 0} → (L → LinkView) → OpenLink L → OpenView
open_view view o = record { link = view o.link; unread = o.buffer; count = o.count; over = o.over }

-- ---- reading a reply

-- why no reply was read of the bytes that are held, which are all that the link gave and no earlier reply used
abbrev pub ReadFails : What → List ℕ → Option (List ℕ) → RemoteFault → Type 0
ReadFails what held left (fault.BadReply at) = IsBad what held at
ReadFails what held left (fault.Cut size) = (size ≡ length held) × IsCut what held × IsAtEnd left
ReadFails what held left (fault.TooLarge size) = ⊥
ReadFails what held left fault.Link = ⊤
ReadFails what held left fault.NoMemory = ⊤

-- what is told of the bytes that are held, before more are asked for
abbrev pub IsRead : What → List ℕ → Result (Option ReadReply) RemoteFault → Type 0
IsRead what held (Ok None) = IsCut what held
IsRead what held (Ok (Some reply)) = IsWhole what held reply.outcome reply.used reply.closes
IsRead what held (Err (fault.BadReply at)) = IsBad what held at
IsRead what held (Err fault.NoMemory) = ⊤
IsRead what held (Err _) = ⊥

-- why a piece did not come
abbrev pub IsFillFault : RemoteFault → Type 0
IsFillFault fault.Link = ⊤
IsFillFault fault.NoMemory = ⊤
IsFillFault _ = ⊥

-- what an order on a link may fail for: anything but its size, which is looked at before
abbrev pub IsLinkCause : RemoteFault → Type 0
IsLinkCause (fault.TooLarge size) = ⊥
IsLinkCause _ = ⊤

-- a take that failed asked the link once more, and moved nothing
abbrev pub FillAsked : RemoteFault → LinkTells → LinkTells → Type 0
FillAsked fault.Link old now = AskedInVain old now
FillAsked _ old now = ⊤

-- since then a take that failed was the last thing that the link was asked
abbrev pub FaultAsked : RemoteFault → LinkTells → LinkTells → Type 0
FaultAsked fault.Link old now = FailedLast old now
FaultAsked _ old now = ⊤

-- the same of what an order came to
abbrev pub ComesAsked : Ending → LinkTells → LinkTells → Type 0
ComesAsked (Ok outcome) old now = ⊤
ComesAsked (Err f) old now = FaultAsked f old now

-- ---- an order

-- what the bytes that are held come to: a reply in front, which is used, and what is behind it is kept for the next order;
-- or a fault, and the bytes stay. The link is over where the reply says so, and after each fault
abbrev pub ComesTo : What → List ℕ → Option (List ℕ) → Ending → List ℕ → Bool → Type 0
ComesTo what held left (Ok outcome) unread over = (used : ℕ) × IsWhole what held outcome used over × (unread ≡ drop used held)
ComesTo what held left (Err f) unread over = ReadFails what held left f × (unread ≡ held) × (over ≡ true)

-- the whole request was given, and then bytes were asked for only as those that were held are no whole reply, nor none. Each time
-- but the last some came; where a reply was read, the last time too
pub record Replies (what : What) (text : List ℕ) (old new : OpenView) (ending : Ending) : Type 0 where
  pub between : LinkTells
  pub given : between.given ≡ append_known old.link.tells.given text
  pub taken : between.taken ≡ old.link.tells.taken
  pub asked : between.asked ≡ old.link.tells.asked
  pub held : List ℕ
  pub reads : ReadsOn (MayEnd ending) (IsCut what) old.unread held between new.link.tells
  pub ahead : to_read held new.link.left ≡ to_read old.unread old.link.left
  pub comes : ComesTo what held new.link.left ending new.unread new.over
  pub last : ComesAsked ending between new.link.tells

-- a front of the request alone was given, and nothing was asked for
pub record FailsToGive (text : List ℕ) (old new : OpenView) (ending : Ending) : Type 0 where
  pub is : ending ≡ Err fault.Link
  pub given : GivesFront old.link.tells.given new.link.tells.given text
  pub taken : new.link.tells.taken ≡ old.link.tells.taken
  pub asked : new.link.tells.asked ≡ old.link.tells.asked
  pub left : new.link.left ≡ old.link.left
  pub unread : new.unread ≡ old.unread
  pub over : new.over ≡ true

-- an order with this request on an open link
pub data Exchanges (what : What) (text : List ℕ) (old new : OpenView) (ending : Ending) : Type 0 where
  given : new.count ≡ old.count + 1 → Replies what text old new ending → Exchanges what text old new ending
  cut_off : new.count ≡ old.count + 1 → FailsToGive text old new ending → Exchanges what text old new ending

-- ---- what the peer's bytes spell

-- over all that a link gives from there on: the one answer that it spells, where no fault of the link and no want of memory
-- comes in its place
abbrev pub Spells : What → List ℕ → Ending → Type 0
Spells what input (Ok outcome) = (used : ℕ) × (ends : Bool) × IsWhole what input outcome used ends
Spells what input (Err (fault.BadReply at)) = IsBad what input at
Spells what input (Err (fault.Cut size)) = (size ≡ length input) × IsCut what input
Spells what input (Err (fault.TooLarge size)) = ⊥
Spells what input (Err fault.Link) = ⊤
Spells what input (Err fault.NoMemory) = ⊤

-- an answer that the bytes decide: neither a fault of the link nor want of memory, which may come in its place
abbrev pub IsOfBytes : Ending → Type 0
IsOfBytes (Ok outcome) = ⊤
IsOfBytes (Err (fault.BadReply at)) = ⊤
IsOfBytes (Err (fault.Cut size)) = ⊤
IsOfBytes (Err _) = ⊥
