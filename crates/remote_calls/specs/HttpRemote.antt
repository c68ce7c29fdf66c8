-- A server behind links, as contracts see it, and what a send does with its links: which one it goes over, when that is kept,
-- when another is made, and when an order is given once more. Our own. Read HttpRemoteView first, then keeps, gives_again, and SendsOver,
-- at the end.
use Rattle.std.specs.Prelude.{ℕ, ◌≡◌, ◌+◌, ◌==◌, Bool, true, false, ◌&&◌, not, nat_lt, List, [], ◌∷◌, ◌++◌, length, Option, None, Some, Result, Ok, Err, map, option_map}
use Rattle.std.specs.List.{AllByRecursion}
use Rattle.ids.specs.FaultCount.{Rose}
use Rattle.http_front.specs.Dial.{IsNothing, count_sum}
use Rattle.http_front.specs.declared.order.Order.{Order}
use Rattle.http_front.specs.declared.order.What.{What}
use Rattle.http_front.specs.declared.outcome.Outcome.{Outcome}
use Rattle.http_client.specs.RequestText.{request_text}
use Rattle.remote_calls.specs.Exchange.{Exchanges, LinkView, OpenView, open_view}
use Rattle.remote_calls.specs.Sends.{CountsFailure, CountsSends, Ending, IsTooLarge, Sent, size_told}
use Rattle.remote_calls.specs.declared.error.RemoteFault.{RemoteFault}
use Rattle.remote_calls.specs.declared.error.RemoteFault.TheVariants as fault
use Rattle.remote_calls.specs.declared.open_link.OpenLink.{OpenLink}

-- the links of a remote: the one that is kept since the last send, if any, those that went back to the dial, and the count of
-- faults of them all
pub record LinksView : Type 0 where
  pub kept : Option OpenView
  pub back : List LinkView
  pub faults : ℕ

-- whom a remote sends to: a server at a port of a host, over a dial to which these links had come back before, which had been asked for
-- these ports, with that count of faults
pub record HttpPeer : Type 0 where
  pub host : List ℕ
  pub port : ℕ
  pub start : List LinkView
  pub dialled : List (List ℕ × ℕ)
  pub faults : ℕ

-- the server, the links to it, and the list of sends
pub record HttpRemoteView : Type 0 where
  pub peer : HttpPeer
  pub links : LinksView
  pub sends : List Sent

-- the faults of a link that is kept
abbrev pub faults_in : Option OpenView → ℕ
faults_in None = 0
faults_in (Some o) = o.link.faults

-- the links of a dial and of what is kept. A link's faults count in the dial once it went back
abbrev pub links_of : {D L : Type 0} → (view : L → LinkView) → (back : D → List L) → (faults : D → ℕ) → D → Option (OpenLink L) → LinksView
links_of view back faults dial kept = record {
  kept = option_map (open_view view) kept;
  back = map view (back dial);
  faults = count_sum (faults dial) (faults_in (option_map (open_view view) kept));
}

-- the links that had come back to the dial as a remote was made over it
abbrev pub start_of : {D L : Type 0} → (view : L → LinkView) → (back : D → List L) → List (D × ℕ) → List LinkView
start_of view back [] = []
start_of view back (entry ∷ more) = map view (back entry.0)

-- what it had been asked for
abbrev pub first_dialled : {D : Type 0} → (dialled : D → List (List ℕ × ℕ)) → List (D × ℕ) → List (List ℕ × ℕ)
first_dialled dialled [] = []
first_dialled dialled (entry ∷ more) = dialled entry.0

-- and its count of faults
abbrev pub first_count : {D : Type 0} → (faults : D → ℕ) → List (D × ℕ) → ℕ
first_count faults [] = 0
first_count faults (entry ∷ more) = count_sum (faults entry.0) 0

-- a remote of these parts: `made` has the dial as it was handed in
abbrev pub remote_of : {D L : Type 0} → (view : L → LinkView) → (back : D → List L) → (dialled : D → List (List ℕ × ℕ)) → (faults : D → ℕ) → (host : List ℕ) → (port : ℕ) → D
    → Option (OpenLink L) → (made : List (D × ℕ)) → List Sent → HttpRemoteView
remote_of view back dialled faults host port dial kept made sends = record {
  peer = record { host = host; port = port; start = start_of view back made; dialled = first_dialled dialled made; faults = first_count faults made };
  links = links_of view back faults dial kept;
  sends = sends;
}

-- a link of this view was made to a port of a host
abbrev pub Reaches : {L : Type 0} → (view : L → LinkView) → (reaches : L → List ℕ → ℕ → Type 0) → LinkView → List ℕ → ℕ → Type 0
Reaches {L} view reaches seen host port = (link : L) × (view link ≡ seen) × reaches link host port

-- as many links came back since, or are kept, as were made to this port of this host
pub record AreMadeThere (reaches : LinkView → List ℕ → ℕ → Type 0) (peer : HttpPeer) (links : List LinkView) : Type 0 where
  pub made : List LinkView
  pub each : AllByRecursion (λ (link : LinkView). reaches link peer.host peer.port) made
  pub count : length links ≡ length peer.start + length made

-- ---- which link a send goes over

-- the most requests that are given to one link
abbrev pub most_on_link : ℕ
most_on_link = 9000

-- a further request may be given to a link: no fault came over it, no reply on it closed, and there were fewer than 9,000
abbrev pub keeps : Bool → ℕ → Bool
keeps over count = not over && nat_lt count most_on_link

abbrev pub keeps_open : Option OpenView → Bool
keeps_open None = false
keeps_open (Some o) = keeps o.over o.count

-- the link that is given back before another is made
abbrev pub left_over : Option OpenView → List LinkView
left_over None = []
left_over (Some o) = o.link ∷ []

-- what is told of a remote's links beside what they spell: those that came back and the one that is kept are as many as were made to its
-- port of its host; and its count rose since it was made where a send came to a failure of the link, and didn't fall where none did
pub record TellsLinks (reaches : LinkView → List ℕ → ℕ → Type 0) (remote : HttpRemoteView) : Type 0 where
  pub there : AreMadeThere reaches remote.peer (remote.links.back ++ left_over remote.links.kept)
  pub counts : CountsSends remote.peer.faults remote.sends remote.links.faults

-- a link that was just made: nothing was moved on it, and nothing is held
pub record IsNew (o : OpenView) : Type 0 where
  pub taken : IsNothing o.link.tells.taken
  pub given : IsNothing o.link.tells.given
  pub asked : IsNothing o.link.tells.asked
  pub no_faults : o.link.faults ≡ 0
  pub unread : o.unread ≡ []
  pub count : o.count ≡ 0
  pub over : o.over ≡ false

-- the same link is kept
pub record KeepsLink (old : LinksView) (o : OpenView) (back : List LinkView) : Type 0 where
  pub is : old.kept ≡ Some o
  pub may : keeps_open old.kept ≡ true
  pub back_is : back ≡ old.back

-- the link that was there, if any, may not be kept, and went back
pub record LeavesLink (old : LinksView) (back : List LinkView) : Type 0 where
  pub no_more : keeps_open old.kept ≡ false
  pub back_is : back ≡ old.back ++ left_over old.kept

-- the link that an order goes over. `reaches` tells whether a link was made to this port of this host
pub data ReadiesBy (reaches : LinkView → Type 0) (old : LinksView) (o : OpenView) (back : List LinkView) : Type 0 where
  kept : KeepsLink old o back → ReadiesBy reaches old o back
  made : LeavesLink old back → IsNew o → reaches o.link → ReadiesBy reaches old o back

-- no link was made: the dial failed, or there was no room for what a link gives and then none was asked for
pub data HasNoLink (old new : LinksView) (ending : Ending) : Type 0 where
  undialled : ending ≡ Err fault.Link → LeavesLink old new.back → new.kept ≡ None → HasNoLink old new ending
  no_room : ending ≡ Err fault.NoMemory → LeavesLink old new.back → new.kept ≡ None → HasNoLink old new ending

-- ---- the count of faults, as links go back and are made

-- the links that are kept, and a count with their faults
abbrev pub links_in : {L : Type 0} → Option (OpenLink L) → List L
links_in None = []
links_in (Some o) = o.link ∷ []

abbrev pub sum_with : {L : Type 0} → (L → ℕ) → ℕ → Option (OpenLink L) → ℕ
sum_with faults count None = count
sum_with faults count (Some o) = count_sum count (faults o.link)

-- as a link is readied, the count of all stays; it rises where none could be made
abbrev pub ReadiesCount : {D L : Type 0} → (D → ℕ) → (L → ℕ) → ℕ → D → Result (OpenLink L) RemoteFault → Type 0
ReadiesCount faults link_faults before dial (Ok o) = count_sum (faults dial) (link_faults o.link) ≡ before
ReadiesCount faults link_faults before dial (Err fault.Link) = Rose before (count_sum (faults dial) 0)
ReadiesCount faults link_faults before dial (Err f) = count_sum (faults dial) 0 ≡ before

-- the link that was kept, if any, went back, and none is kept: nothing was sent, and the count is the same
pub record LeavesAll (old new : LinksView) : Type 0 where
  pub none : new.kept ≡ None
  pub back_is : new.back ≡ old.back ++ left_over old.kept
  pub count : new.faults ≡ old.faults

-- ---- one try

-- an order with this request is given to one link, which is kept then, or no link could be made
pub data GoesOver (reaches : LinkView → Type 0) (what : What) (text : List ℕ) (old new : LinksView) (ending : Ending) : Type 0 where
  unlinked : HasNoLink old new ending → GoesOver reaches what text old new ending
  exchanged : (o after : OpenView) → ReadiesBy reaches old o new.back → Exchanges what text o after ending → new.kept ≡ Some after
      → GoesOver reaches what text old new ending

-- the link failed, or ended, before a byte of a reply: `unread` is what it gave and no reply used
abbrev pub is_unanswered : RemoteFault → (unread : List ℕ) → Bool
is_unanswered fault.Link unread = length unread == 0
is_unanswered (fault.Cut size) unread = length unread == 0
is_unanswered _ unread = false

-- the same of a link that is kept then
abbrev pub ends_unanswered : RemoteFault → Option OpenView → Bool
ends_unanswered f None = false
ends_unanswered f (Some o) = is_unanswered f o.unread

-- an order is given once more: it went over a link that was kept, and that failed or ended before a byte of the reply. What the order
-- asks for makes no difference
abbrev pub gives_again : Option OpenView → Ending → Option OpenView → Bool
gives_again last (Ok outcome) after = false
gives_again last (Err f) after = keeps_open last && ends_unanswered f after

-- the tries of an order with this request: one, or two where it is given once more. The second goes over a link that is made for it, since
-- one on which a fault came may not be kept
pub data Tries (reaches : LinkView → Type 0) (what : What) (text : List ℕ) (old new : LinksView) (ending : Ending) : Type 0 where
  once : GoesOver reaches what text old new ending → CountsFailure old.faults new.faults ending → gives_again old.kept ending new.kept ≡ false
      → Tries reaches what text old new ending
  again : (mid : LinksView) (f : RemoteFault) → GoesOver reaches what text old mid (Err f) → CountsFailure {T = Outcome} old.faults mid.faults (Err f)
      → gives_again old.kept (Err f) mid.kept ≡ true → GoesOver reaches what text mid new ending → CountsFailure mid.faults new.faults ending
      → Tries reaches what text old new ending

-- ---- a send

-- what a send does with the links: `reaches` tells whether a link was made to this port of this host
pub data SendsOver (reaches : LinkView → List ℕ → ℕ → Type 0) (host : List ℕ) (port : ℕ) (order : Order) (old new : LinksView) (ending : Ending) : Type 0 where
  too_large : IsTooLarge order → ending ≡ Err (fault.TooLarge (size_told order)) → new ≡ old → SendsOver reaches host port order old new ending
  unwritten : ending ≡ Err fault.NoMemory → new ≡ old → SendsOver reaches host port order old new ending
  tried : Tries (λ link. reaches link host port) order.what (request_text order host false) old new ending → SendsOver reaches host port order old new ending
