-- What the steps of one request do: reading it, stopping in its place, and serving it.
-- Read OneServed first, at the end.
use Rattle.std.specs.Prelude.{ℕ, ◌≡◌, ◌≢◌, ◌==◌, ◌||◌, ◌&&◌, ◌⊎◌, ◌+◌, ◌-◌, ◌*◌, nat_le, nat_lt, ◌<◌, ◌≤◌, IsTrue, Bool, List, [], ◌∷◌, ◌++◌, length, take, drop, All, Option, Some, Result, Ok, Err, ⊤}
use Rattle.std.specs.Io.KnownBytes.{append_known}
use Rattle.std.specs.List.{list_any}
use Rattle.httparse.specs.Grammar.{HasNoRequest, LineEnd, print_blank, print_end, print_request}
use Rattle.ids.specs.FaultCount.{Rose}
use Rattle.http_front.specs.Buffer.{to_read}
use Rattle.http_front.specs.declared.head.Head.{Head}
use Rattle.http_front.specs.declared.head.Next.TheVariants as next
use Rattle.http_front.specs.Limits.{head_limit, piece_limit}
use Rattle.http_front.specs.NextHead.{IsNext}
use Rattle.http_front.specs.Link.{Asked, GivesFront, LinkTells}
use Rattle.http_front.specs.ReplyText.{bad_text, is_bad_status}
use Rattle.http_front.specs.RequestHead.{closes, method_of}
use Rattle.http_front.specs.TargetFront.{MayBecomeHead}
use Rattle.http_front.specs.RequestStream.{Request, IsCutAfter, IsLookedAt, IsRefused, IsRequest, IsUnfinished}
use Rattle.worker_server.specs.Calls.{HostRules}
use Rattle.worker_server.specs.ServedConnection.{Exchange, NamesTag, Shows, Answers, CameLast, EndsAsked, FailedLast, Stops, CountsEnd, closes_at, text_at}
use Rattle.worker_server.specs.declared.reading.End.{End}
use Rattle.worker_server.specs.declared.reading.End.TheVariants as end
use Rattle.worker_server.specs.declared.reading.Look.{Look}
use Rattle.worker_server.specs.declared.reading.Look.TheVariants as look
use Rattle.worker_server.specs.declared.served.Served.{Served}
use Rattle.worker_server.specs.declared.served.Served.TheVariants as served

-- a whole request stands at the front of these bytes, and this is its head
pub record StandsAt (bytes : List ℕ) (h : Head) (r : Request) (after : List ℕ) : Type 0 where
  pub is : IsRequest bytes r after
  pub used : h.used ≡ length (print_request r.head)
  pub body : h.body ≡ length r.body
  pub closes_is : h.closes ≡ closes r.head
  pub method : h.method ≡ method_of r.head.method
  pub target : h.target ≡ r.head.target
  pub shows : Shows r h.token
  pub names : NamesTag r h.tag

-- where the input ends with these bytes unused, it ends between two requests or within one
abbrev pub end_at : List ℕ → End
end_at [] = end.Over
end_at (byte ∷ bytes) = end.Cut (length (byte ∷ bytes))

-- why no head was read, as this was left to read
abbrev pub IsEnd : List ℕ → End → Type 0
IsEnd rest end.Over = rest ≡ []
IsEnd rest (end.Cut read) = (read ≡ length rest) × IsCutAfter rest []
IsEnd rest (end.Refused status) = IsRefused rest status
IsEnd rest end.ReadFault = ⊤
IsEnd rest end.NoMemory = ⊤

-- why a head's body was not read in full, as it and its head want so many bytes
abbrev pub IsBodyEnd : ℕ → List ℕ → End → Type 0
IsBodyEnd wanted rest (end.Cut read) = (read ≡ length rest) × (length rest < wanted)
IsBodyEnd wanted rest end.ReadFault = ⊤
IsBodyEnd wanted rest end.NoMemory = ⊤
IsBodyEnd wanted rest _ = ⊥

-- the status of a refusal is one of those that end a connection
abbrev pub HasBadStatus : End → Type 0
HasBadStatus (end.Refused status) = IsTrue (is_bad_status status)
HasBadStatus how = ⊤

-- no take failed
abbrev pub IsNoFault : End → Type 0
IsNoFault end.ReadFault = ⊥
IsNoFault how = ⊤

-- what came last from any time on came so still
abbrev pub StillComes : LinkTells → LinkTells → Option (List ℕ) → Option (List ℕ) → Type 0
StillComes old new left now_left = (start : LinkTells) → CameLast start old left → CameLast start new now_left

-- a take that failed was the last thing that the link was asked, and none failed before a refusal
abbrev pub EndAsked : End → LinkTells → LinkTells → Option (List ℕ) → Option (List ℕ) → Type 0
EndAsked end.ReadFault old new left now_left = (start : LinkTells) → CameLast start old left → FailedLast start new
EndAsked (end.Refused status) old new left now_left = StillComes old new left now_left
EndAsked how old new left now_left = ⊤

-- the same of what was read, or why it was not
abbrev pub ReadAsked : {T : Type 0} → Result T End → LinkTells → LinkTells → Option (List ℕ) → Option (List ℕ) → Type 0
ReadAsked (Ok done) old new left now_left = StillComes old new left now_left
ReadAsked (Err how) old new left now_left = EndAsked how old new left now_left

-- how a connection stops, by what it was asked from any time on
abbrev pub StopAsked : Served → LinkTells → LinkTells → Option (List ℕ) → Option (List ℕ) → Type 0
StopAsked how old new left now_left = (start : LinkTells) → CameLast start old left → EndsAsked how start new now_left

-- the same of a step that may stop it
abbrev pub StepAsked : {T : Type 0} → Result T Served → LinkTells → LinkTells → Option (List ℕ) → Option (List ℕ) → Type 0
StepAsked (Ok done) old new left now_left = StillComes old new left now_left
StepAsked (Err how) old new left now_left = StopAsked how old new left now_left

-- the link's count rose where a take failed, and stayed otherwise
abbrev pub CountsRead : {T : Type 0} → ℕ → ℕ → Result T End → Type 0
CountsRead before now (Err end.ReadFault) = Rose before now
CountsRead before now told = now ≡ before

-- the link's count rose where a give failed, and stayed otherwise
abbrev pub CountsGive : ℕ → ℕ → Served → Type 0
CountsGive before now served.WriteFault = Rose before now
CountsGive before now how = now ≡ before

abbrev pub CountsServed : {T : Type 0} → ℕ → ℕ → Result T Served → Type 0
CountsServed before now (Ok done) = now ≡ before
CountsServed before now (Err how) = CountsEnd before now how

-- a refusal with this status: its reply is given, unless giving fails or memory is wanted
abbrev pub RefusesSo : ℕ → Option (List ℕ) → Option (List ℕ) → Served → Type 0
RefusesSo status given now (served.Refused told) = (told ≡ status) × (now ≡ append_known given (bad_text status))
RefusesSo status given now served.WriteFault = GivesFront given now (bad_text status)
RefusesSo status given now served.NoMemory = now ≡ given
RefusesSo status given now how = ⊥

-- as the link was asked, these bytes of the piece had come and these had been given, and that was due
abbrev pub WasDue : (List ℕ → List ℕ → Type 0) → List ℕ → List ℕ → List ℕ → Asked → Type 0
WasDue IsDue taken given piece a =
    (come : List ℕ) × (others : List ℕ) × (gave : List ℕ) × (piece ≡ come ++ others)
    × (a.0 ≡ length taken + length come) × (a.1 ≡ length given + length gave) × IsDue come gave

-- nothing was given, and what the buffer held was due
abbrev pub HeldBefore : (List ℕ → Type 0) → List ℕ → List ℕ → List ℕ → Type 0
HeldBefore IsDue buffer come gave = (gave ≡ []) × IsDue (buffer ++ come)

-- whether nothing may have come as the link was asked last: where no further head was read, or its body was not
abbrev pub MayEnd : {T E : Type 0} → Result T E → Type 0
MayEnd (Ok done) = ⊥
MayEnd (Err how) = ⊤

-- as so many bytes had been taken, the link was asked these times; each time one piece came, and then no more. Only the last
-- time, and only where it may end, nothing came
abbrev pub ComesUntil : Type 0 → ℕ → List Asked → ℕ → Type 0
ComesUntil AtEnd taken [] now = now ≡ taken
ComesUntil AtEnd taken (asked ∷ more) now =
    (asked.0 ≡ taken) × (size : ℕ) × (size ≤ piece_limit) × ((1 ≤ size) ⊎ ((more ≡ []) × AtEnd)) × ComesUntil AtEnd (taken + size) more now

-- a link was asked for more, and in all this piece came. Each time some bytes of it had come and some had been given, and
-- that was due
abbrev pub AsksFor : Type 0 → (List ℕ → List ℕ → Type 0) → LinkTells → LinkTells → List ℕ → Type 0
AsksFor AtEnd IsDue old new piece =
    (taken given : List ℕ) (before : List Asked) → old.taken ≡ Some taken → old.given ≡ Some given → old.asked ≡ Some before
    → (asked : List Asked) × (new.asked ≡ Some (before ++ asked)) × All (WasDue IsDue taken given piece) asked
    × ComesUntil AtEnd (length taken) asked (length taken + length piece)

-- bytes came into the buffer; each time that the link was asked for more, what the buffer held was due
pub record ReadsOn (AtEnd : Type 0) (IsDue : List ℕ → Type 0) (buffer now : List ℕ) (old new : LinkTells) : Type 0 where
  pub piece : List ℕ
  pub grown : now ≡ buffer ++ piece
  pub taken : new.taken ≡ append_known old.taken piece
  pub given : new.given ≡ old.given
  pub asks : AsksFor AtEnd (HeldBefore IsDue buffer) old new piece

-- the same over a head and its body, where some bytes may be given between them: each time less than a request is there
pub record AsksUnfinished (AtEnd : Type 0) (buffer now : List ℕ) (old new : LinkTells) : Type 0 where
  pub piece : List ℕ
  pub grown : now ≡ buffer ++ piece
  pub taken : new.taken ≡ append_known old.taken piece
  pub asks : AsksFor AtEnd (λ come given. IsUnfinished (buffer ++ come) given) old new piece

-- no head stands there yet, and they may become one that ends within the bytes of which it is read, as the first so many of
-- them tell
pub record IsOpenBy (seen : ℕ) (buffer : List ℕ) : Type 0 where
  pub within : seen ≤ length buffer
  pub short : length buffer < head_limit
  pub none : HasNoRequest buffer
  pub looked : IsLookedAt seen buffer

-- the same of some of them
abbrev pub WantsHead : List ℕ → Type 0
WantsHead buffer = (seen : ℕ) × IsOpenBy seen buffer

-- what a look at these bytes tells
abbrev pub IsLook : List ℕ → Look → Type 0
IsLook front (look.Open seen) = IsOpenBy seen front
IsLook front (look.Head head) = IsNext front (next.Head head)
IsLook front (look.Bad status) = IsNext front (next.Bad status)

-- the first so many bytes were looked at for a head, if any were: none stands there, and one may come. Of the first `known`
-- it is known that no line ends after those
pub record IsScanned (seen known : ℕ) (buffer : List ℕ) : Type 0 where
  pub behind : seen ≤ known
  pub within : known ≤ length buffer
  pub none : seen ≢ 0 → HasNoRequest (take seen buffer)
  pub may : seen ≢ 0 → MayBecomeHead (take seen buffer)
  pub lines : All (λ byte. byte ≢ 10) (drop seen (take known buffer))

-- whether a look is due: nothing was looked at, or less than half, or a head may be no longer, or a line ended
abbrev pub is_due : ℕ → ℕ → List ℕ → Bool
is_due seen known buffer =
    (seen == 0) || (nat_lt seen (length buffer - seen) || (nat_le head_limit (length buffer) || list_any (λ byte. byte == 10) (drop known buffer)))

-- no look is due: at least half was looked at, no line ended since, and a head may be longer
pub record IsQuiet (seen known : ℕ) (buffer : List ℕ) : Type 0 where
  pub some : seen ≢ 0
  pub half : length buffer ≤ 2 * seen
  pub short : length buffer < head_limit
  pub lines : All (λ byte. byte ≢ 10) (drop known buffer)

-- the first so many bytes are empty lines
pub record BeginsBlank (blank : ℕ) (bytes : List ℕ) : Type 0 where
  pub ends : List LineEnd
  pub more : List ℕ
  pub is : bytes ≡ print_blank ends ++ more
  pub size : blank ≡ length (print_blank ends)

-- so many bytes has the line end at the front, if that is told
abbrev pub IsEndSize : List ℕ → ℕ → Type 0
IsEndSize bytes size =
    (size ≡ 0) ⊎ ((end : LineEnd) × (more : List ℕ) × (bytes ≡ print_end end ++ more) × (size ≡ length (print_end end)))

-- whether empty lines are all that is there, and a head may be longer
abbrev pub is_open_blank : ℕ → List ℕ → Bool
is_open_blank blank bytes = blank == length bytes && nat_lt (length bytes) head_limit

-- so many bytes are wanted, and fewer are there
abbrev pub WantsBytes : ℕ → List ℕ → Type 0
WantsBytes wanted buffer = length buffer < wanted

-- how a connection stops where no head was read, or where its body was not
abbrev pub StopsSo : End → Option (List ℕ) → Option (List ℕ) → Served → Type 0
StopsSo end.Over given now how = (how ≡ served.Ended) × (now ≡ given)
StopsSo (end.Cut read) given now how = (how ≡ served.Cut read) × (now ≡ given)
StopsSo (end.Refused status) given now how = RefusesSo status given now how
StopsSo end.ReadFault given now how = (how ≡ served.ReadFault) × (now ≡ given)
StopsSo end.NoMemory given now how = (how ≡ served.NoMemory) × (now ≡ given)

module _ {V Operation : Type 0} (rules : HostRules V Operation) where
  -- the request of this number was read from `rest` and answered, and its reply was given whole. `buffer` and `held` are
  -- what had been taken and not yet used, before and after
  pub record OneMore (n : ℕ) (rest buffer held : List ℕ) (left : Option (List ℕ)) (u v : V) (old new : LinkTells) (closed : Bool) : Type 0 where
    pub exchange : Exchange Operation
    pub after : List ℕ
    pub is : IsRequest rest exchange.request after
    pub ahead : left ≡ Some after
    pub answers : Answers rules u exchange v
    pub text : new.given ≡ append_known old.given (text_at n exchange)
    pub closes_is : closed ≡ closes_at n exchange.request
    pub reading : AsksUnfinished ⊥ buffer ((print_request exchange.request.head ++ exchange.request.body) ++ held) old new

  -- the connection stops here. What it read until then it asked for in time. `held` is what had been taken and not yet used, a
  -- request that was asked among it
  pub record OneStop (n : ℕ) (rest buffer : List ℕ) (left : Option (List ℕ)) (u v : V) (old new : LinkTells) (how : Served) : Type 0 where
    pub stops : Stops rules how n rest u v old.given new.given
    pub held : List ℕ
    pub still : to_read held left ≡ Some rest
    pub reading : AsksUnfinished ⊤ buffer held old new

  -- one turn of the connection: a request more, or its stop
  abbrev pub OneServed : ℕ → List ℕ → List ℕ → List ℕ → Option (List ℕ) → V → V → LinkTells → LinkTells → Result Bool Served → Type 0
  OneServed n rest buffer held left u v old new (Ok closed) = OneMore n rest buffer held (to_read held left) u v old new closed
  OneServed n rest buffer held left u v old new (Err how) = OneStop n rest buffer left u v old new how
