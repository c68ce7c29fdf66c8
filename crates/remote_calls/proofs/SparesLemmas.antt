-- A link fails before a byte of a reply only for the first order that is given to it. The key lemmas are answered_spares, spares_by,
-- spares_skip, spares_more, spares_first and spares_left.
use Rattle.std.proofs.Common.{◌≡◌, ℕ, Bool, true, false, List, [], ◌∷◌, ◌++◌, Option, None, Some, Ok, Err, refl, sym, ap, subst, ◌∙◌}
use Rattle.std.proofs.lemmas.Bool.{false≢true, true≢false}
use Rattle.http_front.specs.declared.order.Order.{Order}
use Rattle.http_front.specs.declared.order.What.{What}
use Rattle.http_front.specs.declared.outcome.Outcome.{Outcome}
use Rattle.remote_calls.specs.Exchange.{ComesTo, Exchanges, OpenView}
use Rattle.remote_calls.specs.HttpRemote.{is_unanswered}
use Rattle.remote_calls.specs.Sends.{Ending, Sent}
use Rattle.remote_calls.specs.Spelling.{AreAnswered, KeptSpares, Spares, SparesBy}
use Rattle.remote_calls.specs.declared.error.RemoteFault.{RemoteFault}
use Rattle.remote_calls.specs.declared.error.RemoteFault.TheVariants as fault
use Rattle.remote_calls.proofs.SpellingLemmas.{after_send}

-- where each was answered, none failed
pub answered_spares : (is_first : Bool) (mine : List Sent) (unread : List ℕ) → AreAnswered mine → Spares is_first mine unread
answered_spares is_first [] unread is = tt
answered_spares is_first ((order, Ok outcome) ∷ mine) unread is = answered_spares false mine unread is
answered_spares is_first ((order, Err (fault.TooLarge size)) ∷ mine) unread is = answered_spares is_first mine unread is
answered_spares is_first ((order, Err other) ∷ mine) unread is = absurd is

pub spares_by : (over : Bool) (mine : List Sent) (unread : List ℕ) → SparesBy over mine unread → Spares true mine unread
spares_by true mine unread is = is
spares_by false mine unread is = answered_spares true mine unread is

by_over : (over : Bool) (mine : List Sent) (unread : List ℕ) → AreAnswered mine → SparesBy over mine unread
by_over true mine unread is = answered_spares true mine unread is
by_over false mine unread is = is

-- ---- one that is too large

answered_skip : (mine : List Sent) (order : Order) (size : ℕ) → AreAnswered mine → AreAnswered (mine ++ (order, Err (fault.TooLarge size)) ∷ [])
answered_skip [] order size is = tt
answered_skip ((first, Ok outcome) ∷ mine) order size is = answered_skip mine order size is
answered_skip ((first, Err (fault.TooLarge large)) ∷ mine) order size is = answered_skip mine order size is
answered_skip ((first, Err other) ∷ mine) order size is = absurd is

large_skip : (is_first : Bool) (mine : List Sent) (unread : List ℕ) (order : Order) (size : ℕ) → Spares is_first mine unread
    → Spares is_first (mine ++ (order, Err (fault.TooLarge size)) ∷ []) unread
large_skip is_first [] unread order size is = tt
large_skip is_first ((first, Ok outcome) ∷ mine) unread order size is = large_skip false mine unread order size is
large_skip is_first ((first, Err (fault.TooLarge large)) ∷ mine) unread order size is = large_skip is_first mine unread order size is
large_skip is_first ((first, Err fault.Link) ∷ mine) unread order size is = is
large_skip is_first ((first, Err (fault.Cut cut)) ∷ mine) unread order size is = is
large_skip is_first ((first, Err (fault.BadReply at)) ∷ mine) unread order size is = is
large_skip is_first ((first, Err fault.NoMemory) ∷ mine) unread order size is = is

pub spares_skip : (kept : Option OpenView) (mine : List Sent) (order : Order) (size : ℕ) → KeptSpares kept mine → KeptSpares kept (mine ++ (order, Err (fault.TooLarge size)) ∷ [])
spares_skip None mine order size is = tt
spares_skip (Some o) mine order size is = by o.over is
  where
    by : (over : Bool) → SparesBy over mine o.unread → SparesBy over (mine ++ (order, Err (fault.TooLarge size)) ∷ []) o.unread
    by true is = large_skip true mine o.unread order size is
    by false is = answered_skip mine order size is

-- ---- an order on a link

answered_more : (mine : List Sent) (order : Order) (outcome : Outcome) → AreAnswered mine → AreAnswered (mine ++ (order, Ok outcome) ∷ [])
answered_more [] order outcome is = tt
answered_more ((first, Ok done) ∷ mine) order outcome is = answered_more mine order outcome is
answered_more ((first, Err (fault.TooLarge large)) ∷ mine) order outcome is = answered_more mine order outcome is
answered_more ((first, Err other) ∷ mine) order outcome is = absurd is

-- one that failed after a byte of its reply, or isn't known to have come first
last_spares : (is_first : Bool) (mine : List Sent) (unread : List ℕ) (order : Order) (f : RemoteFault) → AreAnswered mine → is_unanswered f unread ≡ false
    → Spares is_first (mine ++ (order, Err f) ∷ []) unread
last_spares is_first [] unread order fault.Link is byte = λ later. byte
last_spares is_first [] unread order (fault.Cut cut) is byte = λ later. byte
last_spares is_first [] unread order (fault.BadReply at) is byte = λ later. byte
last_spares is_first [] unread order (fault.TooLarge size) is byte = tt
last_spares is_first [] unread order fault.NoMemory is byte = λ later. byte
last_spares is_first ((first, Ok done) ∷ mine) unread order f is byte = last_spares false mine unread order f is byte
last_spares is_first ((first, Err (fault.TooLarge large)) ∷ mine) unread order f is byte = last_spares is_first mine unread order f is byte
last_spares is_first ((first, Err other) ∷ mine) unread order f is byte = absurd is

-- the first on its link
first_spares : (unread : List ℕ) (order : Order) (f : RemoteFault) → Spares true ((order, Err f) ∷ []) unread
first_spares unread order fault.Link = λ later. absurd (true≢false later)
first_spares unread order (fault.Cut cut) = λ later. absurd (true≢false later)
first_spares unread order (fault.BadReply at) = λ later. absurd (true≢false later)
first_spares unread order (fault.TooLarge size) = tt
first_spares unread order fault.NoMemory = λ later. absurd (true≢false later)

-- after a fault a link is over
pub over_then : (what : What) (text : List ℕ) (o after : OpenView) (f : RemoteFault) → Exchanges what text o after (Err f) → after.over ≡ true
over_then what text o after f (Exchanges.given count replies) = replies.comes.2
over_then what text o after f (Exchanges.cut_off count fails) = fails.over

over_spares : (after : OpenView) (mine : List Sent) → after.over ≡ true → Spares true mine after.unread → KeptSpares (Some after) mine
over_spares after mine over is = subst (λ (b : Bool). SparesBy b mine after.unread) (sym over) is

-- what is kept after an order whose fault, if any, did not come before a byte of its reply
pub spares_more : (text : List ℕ) (o after : OpenView) (mine : List Sent) (order : Order) (ending : Ending) → AreAnswered mine → Exchanges order.what text o after ending
    → ((f : RemoteFault) → ending ≡ Err f → is_unanswered f after.unread ≡ false) → KeptSpares (Some after) (after_send mine order ending)
spares_more text o after mine order (Ok outcome) is exchange byte = by_over after.over (mine ++ (order, Ok outcome) ∷ []) after.unread (answered_more mine order outcome is)
spares_more text o after mine order (Err fault.NoMemory) is exchange byte = by_over after.over mine after.unread is
spares_more text o after mine order (Err fault.Link) is exchange byte =
    over_spares after (mine ++ (order, Err fault.Link) ∷ []) (over_then order.what text o after fault.Link exchange) (last_spares true mine after.unread order fault.Link is (byte fault.Link refl))
spares_more text o after mine order (Err (fault.Cut cut)) is exchange byte =
    over_spares after (mine ++ (order, Err (fault.Cut cut)) ∷ []) (over_then order.what text o after (fault.Cut cut) exchange)
    (last_spares true mine after.unread order (fault.Cut cut) is (byte (fault.Cut cut) refl))
spares_more text o after mine order (Err (fault.BadReply at)) is exchange byte =
    over_spares after (mine ++ (order, Err (fault.BadReply at)) ∷ []) (over_then order.what text o after (fault.BadReply at) exchange)
    (last_spares true mine after.unread order (fault.BadReply at) is refl)
spares_more text o after mine order (Err (fault.TooLarge size)) is exchange byte =
    over_spares after (mine ++ (order, Err (fault.TooLarge size)) ∷ []) (over_then order.what text o after (fault.TooLarge size) exchange)
    (last_spares true mine after.unread order (fault.TooLarge size) is refl)

-- the same after the first order on a link
pub spares_first : (text : List ℕ) (o after : OpenView) (order : Order) (ending : Ending) → Exchanges order.what text o after ending → KeptSpares (Some after) (after_send [] order ending)
spares_first text o after order (Ok outcome) exchange = by_over after.over ((order, Ok outcome) ∷ []) after.unread tt
spares_first text o after order (Err fault.NoMemory) exchange = by_over after.over [] after.unread tt
spares_first text o after order (Err fault.Link) exchange =
    over_spares after ((order, Err fault.Link) ∷ []) (over_then order.what text o after fault.Link exchange) (first_spares after.unread order fault.Link)
spares_first text o after order (Err (fault.Cut cut)) exchange =
    over_spares after ((order, Err (fault.Cut cut)) ∷ []) (over_then order.what text o after (fault.Cut cut) exchange) (first_spares after.unread order (fault.Cut cut))
spares_first text o after order (Err (fault.BadReply at)) exchange =
    over_spares after ((order, Err (fault.BadReply at)) ∷ []) (over_then order.what text o after (fault.BadReply at) exchange) (first_spares after.unread order (fault.BadReply at))
spares_first text o after order (Err (fault.TooLarge size)) exchange =
    over_spares after ((order, Err (fault.TooLarge size)) ∷ []) (over_then order.what text o after (fault.TooLarge size) exchange) (first_spares after.unread order (fault.TooLarge size))

-- and after one that is given once more on another
pub spares_left : (what : What) (text : List ℕ) (o after : OpenView) (mine : List Sent) (f : RemoteFault) → AreAnswered mine → Exchanges what text o after (Err f)
    → KeptSpares (Some after) mine
spares_left what text o after mine f is exchange = over_spares after mine (over_then what text o after f exchange) (answered_spares true mine after.unread is)
