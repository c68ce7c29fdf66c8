-- From what was held to what the peer's bytes spell, and what the link was asked last. The key lemmas are exchange_spells,
-- whole_can, used_there, read_of, read_fails, fill_fails, fails_cause, at_end_cut, read_asked and fill_asked.
use Rattle.std.proofs.Common.{◌≡◌, ℕ, ◌+◌, ◌≤◌, Bool, List, [], ◌∷◌, ◌++◌, length, Option, None, Some, Ok, Err, sym, ap, subst, ◌∙◌, append-nil, append_assoc}
use Rattle.std.specs.Io.KnownBytes.{IsAtEnd}
use Rattle.http_front.specs.Buffer.{Fills, to_read}
use Rattle.http_front.specs.Link.{AskedInVain, LinkTells}
use Rattle.http_front.specs.declared.order.What.{What}
use Rattle.http_front.specs.declared.outcome.Outcome.{Outcome}
use Rattle.http_client.specs.OrderOutcome.{CanHave}
use Rattle.http_client.specs.Response.{IsBad, IsCut, IsWhole, body_behind}
use Rattle.http_client.proofs.CanHaveLemmas.{outcome_can}
use Rattle.http_client.proofs.MoreBytesLemmas.{bad_more, whole_more}
use Rattle.worker_server.proofs.AskedLemmas.{asked_more, told_before}
use Rattle.worker_server.proofs.ReadingLemmas.{same_grown, to_read-some}
use Rattle.worker_server.specs.RequestSteps.{ReadsOn}
use Rattle.worker_server.specs.ServedConnection.{FailedLast}
use Rattle.remote_calls.specs.Exchange.{ComesTo, Exchanges, FaultAsked, FillAsked, IsFillFault, IsLinkCause, IsRead, OpenView, ReadFails, Spells}
use Rattle.remote_calls.specs.Sends.{Ending}
use Rattle.remote_calls.specs.declared.error.RemoteFault.{RemoteFault}
use Rattle.remote_calls.specs.declared.error.RemoteFault.TheVariants as fault
use Rattle.remote_calls.specs.declared.reply_reading.ReadReply.{ReadReply}

-- what a whole reply tells, the order can have
pub whole_can : (what : What) (held : List ℕ) (outcome : Outcome) (used : ℕ) (ends : Bool) → IsWhole what held outcome used ends → CanHave what outcome
whole_can what held outcome used ends is = outcome_can what is.status is.tag (body_behind held is.head is.size) outcome is.outcome_is

-- a whole reply has no more bytes than are held
pub used_there : (what : What) (held : List ℕ) (outcome : Outcome) (used : ℕ) (ends : Bool) → IsWhole what held outcome used ends → used ≤ length held
used_there what held outcome used ends is = is.there

-- the input ends with what is held
ends_there : (held more input : List ℕ) (left : Option (List ℕ)) → left ≡ Some more → input ≡ held ++ more → IsAtEnd left → input ≡ held
ends_there held more input left left_is input_is end =
    let none : more ≡ [] = subst IsAtEnd left_is end in
    input_is ∙ ap (λ (m : List ℕ). held ++ m) none ∙ append-nil held

fails_spell : (what : What) (held more input : List ℕ) (left : Option (List ℕ)) (f : RemoteFault) → left ≡ Some more → input ≡ held ++ more
    → ReadFails what held left f → Spells what input (Err f)
fails_spell what held more input left (fault.BadReply at) left_is input_is is = subst (λ (b : List ℕ). IsBad what b at) (sym input_is) (bad_more what held more at is)
fails_spell what held more input left (fault.Cut size) left_is input_is is =
    let same : input ≡ held = ends_there held more input left left_is input_is is.2 in
    (is.0 ∙ ap length (sym same), subst (IsCut what) (sym same) is.1)
fails_spell what held more input left (fault.TooLarge size) left_is input_is is = absurd is
fails_spell what held more input left fault.Link left_is input_is is = tt
fails_spell what held more input left fault.NoMemory left_is input_is is = tt

comes_spell : (what : What) (held more input : List ℕ) (left : Option (List ℕ)) (ending : Ending) (unread : List ℕ) (over : Bool) → left ≡ Some more → input ≡ held ++ more
    → ComesTo what held left ending unread over → Spells what input ending
comes_spell what held more input left (Ok outcome) unread over left_is input_is is =
    (is.0, over, subst (λ (b : List ℕ). IsWhole what b outcome is.0 over) (sym input_is) (whole_more what held more outcome is.0 over is.1))
comes_spell what held more input left (Err f) unread over left_is input_is is = fails_spell what held more input left f left_is input_is is.0

pub exchange_spells : (what : What) (text input : List ℕ) (old new : OpenView) (ending : Ending) → Exchanges what text old new ending
    → to_read old.unread old.link.left ≡ Some input → Spells what input ending
exchange_spells what text input old new ending (Exchanges.given count is) told =
    let ahead = to_read-some is.held new.link.left input (is.ahead ∙ told) in
    comes_spell what is.held ahead.0 input new.link.left ending new.unread new.over ahead.1 ahead.2 is.comes
exchange_spells what text input old new ending (Exchanges.cut_off count is) told = subst (Spells what input) (sym is.is) tt

-- ---- what is told of the bytes that are held

-- what was told of the front is so of the buffer
pub read_of : (what : What) (front buffer : List ℕ) (told is : Option ReadReply) → front ≡ buffer → told ≡ is → IsRead what front (Ok told) → IsRead what buffer (Ok is)
read_of what front buffer told is same e h = subst (λ (b : List ℕ). IsRead what b (Ok is)) same (subst (λ (o : Option ReadReply). IsRead what front (Ok o)) e h)

-- why no reply was told is why none was read
pub read_fails : (what : What) (front held : List ℕ) (left : Option (List ℕ)) (f : RemoteFault) → front ≡ held → IsRead what front (Err f) → ReadFails what held left f
read_fails what front held left (fault.BadReply at) same is = subst (λ (b : List ℕ). IsBad what b at) same is
read_fails what front held left fault.NoMemory same is = tt
read_fails what front held left other same is = absurd is

-- a piece that did not come is no fault of the bytes
pub fill_fails : (what : What) (held : List ℕ) (left : Option (List ℕ)) (f : RemoteFault) → IsFillFault f → ReadFails what held left f
fill_fails what held left fault.Link is = tt
fill_fails what held left fault.NoMemory is = tt
fill_fails what held left other is = absurd is

-- an order on a link never fails for its size
pub fails_cause : (what : What) (held : List ℕ) (left : Option (List ℕ)) (f : RemoteFault) → ReadFails what held left f → IsLinkCause f
fails_cause what held left (fault.TooLarge size) is = absurd is
fails_cause what held left other is = tt

-- where no byte came, the input is at its end, and what is held is cut
pub at_end_cut : (what : What) (front held now : List ℕ) (n size : ℕ) (left : Option (List ℕ)) (old new : LinkTells) → front ≡ held → IsRead what front (Ok None)
    → Fills held now old new → length now ≡ length held + n → n ≡ 0 → (n ≡ 0 → IsAtEnd left) → size ≡ length held → ReadFails what now left (fault.Cut size)
at_end_cut what front held now n size left old new same cut fills grown none end size_is =
    let stays : now ≡ held = same_grown held now fills.piece fills.grown (grown ∙ ap (λ (k : ℕ). length held + k) none) in
    (size_is ∙ ap length (sym stays), subst (IsCut what) (same ∙ sym stays) cut, end none)

-- ---- what the link was asked last

-- a take that failed after others was the last
failed_last : (IsDue : List ℕ → Type 0) (buffer held : List ℕ) (old mid new : LinkTells) → ReadsOn ⊥ IsDue buffer held old mid → AskedInVain mid new → FailedLast old new
failed_last IsDue buffer held old mid new reads vain = λ taken given before et eg ea.
    let was = told_before old.taken reads.piece taken (sym reads.taken ∙ (sym vain.0 ∙ et)) in
    let had = reads.asks was.0 given before was.1 (sym reads.given ∙ (sym vain.1 ∙ eg)) ea in (
      had.0,
      vain.2
          ∙ (asked_more mid.asked mid.taken mid.given (before ++ had.0) taken given had.1 (sym vain.0 ∙ et) (sym vain.1 ∙ eg)
          ∙ ap Some (append_assoc before had.0 ((length taken, length given) ∷ []))),
    )

-- where a take brought no bytes, the reading ends as it did
pub fill_asked : (IsDue : List ℕ → Type 0) (buffer held : List ℕ) (old mid new : LinkTells) (f : RemoteFault) → ReadsOn ⊥ IsDue buffer held old mid → FillAsked f mid new
    → FaultAsked f old new
fill_asked IsDue buffer held old mid new fault.Link reads is = failed_last IsDue buffer held old mid new reads is
fill_asked IsDue buffer held old mid new other reads is = tt

-- where bytes are none of a reply, or memory was wanting, no take failed
pub read_asked : (what : What) (held : List ℕ) (old new : LinkTells) (f : RemoteFault) → IsRead what held (Err f) → FaultAsked f old new
read_asked what held old new fault.Link is = absurd is
read_asked what held old new other is = tt
