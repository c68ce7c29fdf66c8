-- The sends that the bytes of links spell: what was given to each link are the requests of orders one after another, and what
-- it gave are their replies. Our own. Read LinkSpells first, then Spares, AllSpell and IsSpelled, at the end.
use Rattle.std.specs.Prelude.{ℕ, ◌≡◌, Bool, true, false, List, [], ◌∷◌, ◌++◌, length, Option, None, Some, Ok, Err, ⊤}
use Rattle.http_front.specs.declared.order.Order.{Order}
use Rattle.http_front.specs.declared.order.What.{What}
use Rattle.http_front.specs.declared.outcome.Outcome.{Outcome}
use Rattle.http_client.specs.RequestText.{request_text}
use Rattle.http_client.specs.Response.{IsBad, IsCut, IsWhole}
use Rattle.remote_calls.specs.Exchange.{LinkView, OpenView}
use Rattle.remote_calls.specs.HttpRemote.{HttpRemoteView, is_unanswered}
use Rattle.remote_calls.specs.Sends.{Ending, Sent}
use Rattle.remote_calls.specs.declared.error.RemoteFault.TheVariants as fault

-- the bytes are one whole reply, which tells the order's outcome
abbrev pub IsReply : What → List ℕ → Outcome → Type 0
IsReply what bytes outcome = (ends : Bool) × IsWhole what bytes outcome (length bytes) ends

-- these bytes are a front of those
abbrev pub IsFrontOf : List ℕ → List ℕ → Type 0
IsFrontOf front bytes = (rest : List ℕ) × (bytes ≡ front ++ rest)

abbrev pub IsTooLargeSend : Ending → Type 0
IsTooLargeSend (Err (fault.TooLarge size)) = ⊤
IsTooLargeSend _ = ⊥

-- none of them was given to a link: each is too large
abbrev pub NoneGiven : List Sent → Type 0
NoneGiven [] = ⊤
NoneGiven (sent ∷ more) = IsTooLargeSend sent.1 × NoneGiven more

-- an order for which nothing was given to any link: it was too large, or no link could be made
abbrev pub IsUnsent : Ending → Type 0
IsUnsent (Err (fault.TooLarge size)) = ⊤
IsUnsent (Err fault.Link) = ⊤
IsUnsent _ = ⊥

-- each has its outcome, or was too large to be given
abbrev pub AreAnswered : List Sent → Type 0
AreAnswered [] = ⊤
AreAnswered ((order, Ok outcome) ∷ more) = AreAnswered more
AreAnswered ((order, Err (fault.TooLarge size)) ∷ more) = AreAnswered more
AreAnswered ((order, Err _) ∷ more) = ⊥

-- the sends of a link, of which none failed before a byte of its reply but the first that was given to the link: each other one is given once
-- more, over the next link. `unread` is what no reply used
abbrev pub Spares : (is_first : Bool) → List Sent → (unread : List ℕ) → Type 0
Spares is_first [] unread = ⊤
Spares is_first ((order, Ok outcome) ∷ more) unread = Spares false more unread
Spares is_first ((order, Err (fault.TooLarge size)) ∷ more) unread = Spares is_first more unread
Spares is_first ((order, Err f) ∷ more) unread = is_first ≡ false → is_unanswered f unread ≡ false

module _ (host : List ℕ) where
  abbrev pub request_of : Order → List ℕ
  request_of order = request_text order host false

  -- what was given after the last send that is listed: nothing, or a front of the request of one for which memory was wanting, or that was
  -- given once more, over the next link
  pub data IsGivenLast (given : List ℕ) : Type 0 where
    none : given ≡ [] → IsGivenLast given
    unlisted : (order : Order) → IsFrontOf given (request_of order) → IsGivenLast given

  -- a send first, and then others: `later` says it of what is given and taken after it, and `no_more` that there are none.
  -- What is too large was not given
  abbrev pub FirstSpells : Order → Ending → (later : List ℕ → List ℕ → Type 0) → (no_more : Type 0) → (given taken unread : List ℕ) → Type 0
  FirstSpells order (Ok outcome) later no_more given taken unread =
      (reply : List ℕ) × (more : List ℕ) × (rest : List ℕ) × (given ≡ request_of order ++ more) × (taken ≡ reply ++ rest)
      × IsReply order.what reply outcome × later more rest
  FirstSpells order (Err (fault.BadReply at)) later no_more given taken unread =
      no_more × (given ≡ request_of order) × (taken ≡ unread) × IsBad order.what unread at
  FirstSpells order (Err (fault.Cut size)) later no_more given taken unread =
      no_more × (given ≡ request_of order) × (taken ≡ unread) × (size ≡ length unread) × IsCut order.what unread
  FirstSpells order (Err fault.Link) later no_more given taken unread = no_more × IsFrontOf given (request_of order) × (taken ≡ unread)
  FirstSpells order (Err (fault.TooLarge size)) later no_more given taken unread = later given taken
  FirstSpells order (Err fault.NoMemory) later no_more given taken unread = ⊥

  -- what was given to a link and what it gave are these sends, in order; `unread` is what no reply used
  abbrev pub BytesSpell : List Sent → (given taken unread : List ℕ) → Type 0
  BytesSpell [] given taken unread = IsGivenLast given × (taken ≡ unread)
  BytesSpell (sent ∷ more) given taken unread =
      FirstSpells sent.0 sent.1 (λ g t. BytesSpell more g t unread) (NoneGiven more) given taken unread

  -- the same of a link, where it tells its bytes
  abbrev pub LinkSpells : LinkView → List ℕ → List Sent → Type 0
  LinkSpells link unread sends =
      (given taken : List ℕ) → link.tells.given ≡ Some given → link.tells.taken ≡ Some taken → BytesSpell sends given taken unread

  -- these links spell these sends, one link after another
  pub data AllSpell : List LinkView → List Sent → Type 0 where
    nothing : AllSpell [] []
    unsent : (links : List LinkView) (before : List Sent) (order : Order) (ending : Ending) → IsUnsent ending → AllSpell links before
        → AllSpell links (before ++ (order, ending) ∷ [])
    over_link : (others : List LinkView) (link : LinkView) (unread : List ℕ) (before mine : List Sent) → LinkSpells link unread mine
        → Spares true mine unread → AllSpell others before → AllSpell (others ++ link ∷ []) (before ++ mine)

  -- ---- a link on which more may be given

  -- the same of a link on which each request had its whole reply, and nothing was given after them
  abbrev pub FirstSpellsOpen : Order → Ending → (later : List ℕ → List ℕ → Type 0) → (given taken : List ℕ) → Type 0
  FirstSpellsOpen order (Ok outcome) later given taken =
      (reply : List ℕ) × (more : List ℕ) × (rest : List ℕ) × (given ≡ request_of order ++ more) × (taken ≡ reply ++ rest)
      × IsReply order.what reply outcome × later more rest
  FirstSpellsOpen order (Err (fault.TooLarge size)) later given taken = later given taken
  FirstSpellsOpen order (Err _) later given taken = ⊥

  abbrev pub BytesSpellOpen : List Sent → (given taken unread : List ℕ) → Type 0
  BytesSpellOpen [] given taken unread = (given ≡ []) × (taken ≡ unread)
  BytesSpellOpen (sent ∷ more) given taken unread = FirstSpellsOpen sent.0 sent.1 (λ g t. BytesSpellOpen more g t unread) given taken

  abbrev pub BytesSpellBy : Bool → List Sent → (given taken unread : List ℕ) → Type 0
  BytesSpellBy true mine given taken unread = BytesSpell mine given taken unread
  BytesSpellBy false mine given taken unread = BytesSpellOpen mine given taken unread

  -- the link that is kept spells the last of them; while it isn't over, each of its requests had a whole reply
  abbrev pub KeptSpells : Option OpenView → List Sent → Type 0
  KeptSpells None mine = mine ≡ []
  KeptSpells (Some o) mine = (given taken : List ℕ) → o.link.tells.given ≡ Some given → o.link.tells.taken ≡ Some taken
      → BytesSpellBy o.over mine given taken o.unread

-- while the link that is kept isn't over, each of its sends has its outcome
abbrev pub SparesBy : Bool → List Sent → (unread : List ℕ) → Type 0
SparesBy true mine unread = Spares true mine unread
SparesBy false mine unread = AreAnswered mine

abbrev pub KeptSpares : Option OpenView → List Sent → Type 0
KeptSpares None mine = ⊤
KeptSpares (Some o) mine = SparesBy o.over mine o.unread

-- the links of a remote spell its sends: those that went back since it was made, and then the one that is kept
pub record IsSpelled (remote : HttpRemoteView) : Type 0 where
  pub links : List LinkView
  pub before : List Sent
  pub mine : List Sent
  pub sends : remote.sends ≡ before ++ mine
  pub back : remote.links.back ≡ remote.peer.start ++ links
  pub spelled : AllSpell remote.peer.host links before
  pub kept : KeptSpells remote.peer.host remote.links.kept mine
  pub spares : KeptSpares remote.links.kept mine

-- what is told of all of it, once every link went back
pub record SpellsAll (host : List ℕ) (start back : List LinkView) (sends : List Sent) : Type 0 where
  pub links : List LinkView
  pub back_is : back ≡ start ++ links
  pub spelled : AllSpell host links sends
