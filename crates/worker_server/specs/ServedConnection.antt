-- A served connection: the requests that the bytes read spell, their replies in order, and how it ended.
-- Read Session first, at the end. Requests: http_front, RequestStream. Replies: http_front, ReplyText.
use Rattle.std.specs.Prelude.{ℕ, ◌≡◌, ◌+◌, ◌<◌, ◌≤◌, ◌==◌, ◌⊎◌, Bool, true, false, ◌||◌, List, [], ◌∷◌, ◌++◌, length, map, take, All, Option, Some, Result, Ok, codes, ⊤}
use Rattle.std.specs.Io.KnownBytes.{IsAtEnd, append_known}
use Rattle.httparse.specs.Grammar.{RequestHead}
use Rattle.ids.specs.FaultCount.{Rose}
use Rattle.library_state.specs.declared.refusal.Refusal.{Refusal}
use Rattle.library_state.specs.declared.tag.Tag.{Tag}
use Rattle.http_front.specs.declared.order.Order.{Order}
use Rattle.http_front.specs.declared.outcome.Outcome.{Outcome}
use Rattle.http_front.specs.Fields.{found, values_of}
use Rattle.http_front.specs.Link.{Asked, GivesFront, LinkTells}
use Rattle.http_front.specs.Limits.{piece_limit}
use Rattle.http_front.specs.NextHead.{IsTagIn, IsTokenIn}
use Rattle.http_front.specs.Order.{IsOrder}
use Rattle.http_front.specs.ReplyText.{text, bad_text}
use Rattle.http_front.specs.RequestHead.{closes, expects, fields_of, judge, method_of}
use Rattle.http_front.specs.RequestStream.{Request, Reads, IsHeadAt, IsRequest, IsCutAfter, IsRefused, IsUnfinished, interim_of}
use Rattle.worker_server.specs.Calls.{HostRules, Serves}
use Rattle.worker_server.specs.declared.served.Served.{Served}
use Rattle.worker_server.specs.declared.served.Served.TheVariants.{Ended, Limit, Cut, Refused, ReadFault, WriteFault, NoMemory}

-- the secret that a request shows, if it shows one in its form
abbrev pub Shows : Request → Option (List ℕ) → Type 0
Shows r secret = IsTokenIn (found (values_of (codes "seafile-repo-token") (fields_of r.head))) secret

-- the tag that it names, if it names one in its form
abbrev pub NamesTag : Request → Option Tag → Type 0
NamesTag r tag = IsTagIn (found (values_of (codes "if-none-match") (fields_of r.head))) tag

-- what a request that shows this secret and names this tag is read as
abbrev pub IsOrderFor : Request → Option (List ℕ) → Option Tag → Result Order Refusal → Type 0
IsOrderFor r secret tag = IsOrder (method_of r.head.method) r.head.target secret tag r.body

-- a request that was answered, its outcome, and the operations that its calls left
pub record Exchange (Operation : Type 0) : Type 0 where
  pub request : Request
  pub outcome : Outcome
  pub operations : List Operation

-- the requests that were answered
abbrev pub requests : {Operation : Type 0} → List (Exchange Operation) → List Request
requests xs = map (λ x. x.request) xs

-- the operations of all of them, in their order
abbrev pub operations_in : {Operation : Type 0} → List (Exchange Operation) → List Operation
operations_in [] = []
operations_in (x ∷ xs) = x.operations ++ operations_in xs

-- the number of the last request that is answered on a connection, counted from 0, and how many they are then
abbrev pub last_request : ℕ
last_request = 9999

abbrev pub request_limit : ℕ
request_limit = last_request + 1

-- the connection closes after the request of this number: it asks to close, or is the last that is answered
abbrev pub closes_at : ℕ → Request → Bool
closes_at n r = closes r.head || n == last_request

-- what is given for the request of this number: the interim reply, where its head waits for one, and then its reply
abbrev pub text_at : {Operation : Type 0} → ℕ → Exchange Operation → List ℕ
text_at n x = interim_of x.request.head ++ text x.outcome (closes_at n x.request)

-- the same of the requests from that number on
abbrev pub texts : {Operation : Type 0} → ℕ → List (Exchange Operation) → List ℕ
texts n [] = []
texts n (x ∷ xs) = text_at n x ++ texts (n + 1) xs

-- no request asks to close
abbrev pub AllOpen : {Operation : Type 0} → List (Exchange Operation) → Type 0
AllOpen xs = All (λ x. closes x.request.head ≡ false) xs

-- the last request asks to close
abbrev pub LastCloses : {Operation : Type 0} → List (Exchange Operation) → Type 0
LastCloses [] = ⊥
LastCloses (x ∷ []) = closes x.request.head ≡ true
LastCloses (x ∷ (y ∷ more)) = LastCloses (y ∷ more)

-- the link's count of faults rose where a take or a give failed, and stayed at every other end
abbrev pub CountsEnd : ℕ → ℕ → Served → Type 0
CountsEnd before now ReadFault = Rose before now
CountsEnd before now WriteFault = Rose before now
CountsEnd before now how = now ≡ before

-- since then the link was not asked for more; or as it was asked last, bytes came, or it was at its end
abbrev pub CameLast : LinkTells → LinkTells → Option (List ℕ) → Type 0
CameLast old now left =
    (taken given : List ℕ) (before : List Asked) → now.taken ≡ Some taken → now.given ≡ Some given → old.asked ≡ Some before
    → (now.asked ≡ Some before) ⊎ ((asked : List Asked) × (last : Asked) × (now.asked ≡ Some (before ++ (asked ++ last ∷ [])))
    × ((last.0 < length taken) ⊎ IsAtEnd left))

-- since then the link was asked for more, and after the last time nothing was moved
abbrev pub FailedLast : LinkTells → LinkTells → Type 0
FailedLast old now =
    (taken given : List ℕ) (before : List Asked) → now.taken ≡ Some taken → now.given ≡ Some given → old.asked ≡ Some before
    → (asked : List Asked) × (now.asked ≡ Some (before ++ (asked ++ (length taken, length given) ∷ [])))

-- a take that failed was the last thing that the link was asked in this call. Where a give failed, bytes came as the link was
-- asked last, or it was at its end
abbrev pub EndsAsked : Served → LinkTells → LinkTells → Option (List ℕ) → Type 0
EndsAsked ReadFault old now left = FailedLast old now
EndsAsked WriteFault old now left = CameLast old now left
EndsAsked how old now left = ⊤

-- what may be given for what is left to read, before a request there is whole: nothing, or the interim reply of its head
pub data IsBegun (rest given : List ℕ) : Type 0 where
  not_yet : given ≡ [] → IsBegun rest given
  begun : (h : RequestHead) (after : List ℕ) (size : ℕ) → IsHeadAt rest h after → judge h ≡ Ok size → given ≡ interim_of h
      → IsBegun rest given

-- bytes that are due for what is left to read, before a request there was asked: the interim reply of a head that waits for
-- it, or the reply to what is refused
pub data IsDueFirst (rest bytes : List ℕ) : Type 0 where
  interim : (h : RequestHead) (after : List ℕ) (size : ℕ) → IsHeadAt rest h after → judge h ≡ Ok size → expects h ≡ true
      → bytes ≡ interim_of h → IsDueFirst rest bytes
  refusal : (status : ℕ) → IsRefused rest status → bytes ≡ bad_text status → IsDueFirst rest bytes

-- how the connection stops before a further request is asked, as this is left to read. `given` is what the link was
-- given before, and `now` what it was given at the end
abbrev pub StopsUnasked : Served → List ℕ → Option (List ℕ) → Option (List ℕ) → Type 0
StopsUnasked Ended rest given now = (rest ≡ []) × (now ≡ given)
StopsUnasked Limit rest given now = ⊥
StopsUnasked (Cut read) rest given now =
    (read ≡ length rest) × (bytes : List ℕ) × IsCutAfter rest bytes × (now ≡ append_known given bytes)
StopsUnasked (Refused status) rest given now = IsRefused rest status × (now ≡ append_known given (bad_text status))
StopsUnasked ReadFault rest given now = (bytes : List ℕ) × IsBegun rest bytes × (now ≡ append_known given bytes)
StopsUnasked WriteFault rest given now = (bytes : List ℕ) × IsDueFirst rest bytes × GivesFront given now bytes
StopsUnasked NoMemory rest given now = (bytes : List ℕ) × IsBegun rest bytes × (now ≡ append_known given bytes)

module _ {V Operation : Type 0} (rules : HostRules V Operation) where
  -- a request and its outcome
  abbrev pub Answers : V → Exchange Operation → V → Type 0
  Answers u x v =
      (secret : Option (List ℕ)) × Shows x.request secret × (tag : Option Tag) × NamesTag x.request tag
      × Serves rules u (IsOrderFor x.request secret tag) x.outcome x.operations v

  -- each request in its turn
  abbrev pub Run : V → List (Exchange Operation) → V → Type 0
  Run u [] v = v ≡ u
  Run u (x ∷ xs) v = (mid : V) × Answers u x mid × Run mid xs v

  -- a request that stands at the front of what is left to read, asked and with its outcome
  pub record AnswersNext (rest : List ℕ) (u : V) (x : Exchange Operation) (v : V) : Type 0 where
    pub after : List ℕ
    pub is : IsRequest rest x.request after
    pub answers : Answers u x v

  -- how the connection stops after a further request was asked, of which n were answered before: its reply was given in
  -- part alone, or there was no memory for it
  abbrev pub StopsAsked : Served → ℕ → List ℕ → V → V → Option (List ℕ) → Option (List ℕ) → Type 0
  StopsAsked WriteFault n rest u v given now = (x : Exchange Operation) × AnswersNext rest u x v × GivesFront given now (text_at n x)
  StopsAsked NoMemory n rest u v given now =
      (x : Exchange Operation) × AnswersNext rest u x v × (now ≡ append_known given (interim_of x.request.head))
  StopsAsked how n rest u v given now = ⊥

  -- how the connection stops in place of a next reply, as n replies were given and this is left to read
  abbrev pub Stops : Served → ℕ → List ℕ → V → V → Option (List ℕ) → Option (List ℕ) → Type 0
  Stops how n rest u v given now = ((v ≡ u) × StopsUnasked how rest given now) ⊎ StopsAsked how n rest u v given now

  -- how the connection ends after these requests, of which each reply was given whole: they were 10,000, or the last
  -- asked to close, or none did and it stops in place of the next reply
  abbrev pub Ends :
      Served → List (Exchange Operation) → List ℕ → V → V → Option (List ℕ) → Option (List ℕ) → Type 0
  Ends Limit xs rest u v given now = (length xs ≡ request_limit) × (v ≡ u) × (now ≡ given)
  Ends Ended xs rest u v given now = (length xs < request_limit)
      × ((LastCloses xs × (v ≡ u) × (now ≡ given)) ⊎ (AllOpen xs × Stops Ended (length xs) rest u v given now))
  Ends how xs rest u v given now = (length xs < request_limit) × AllOpen xs × Stops how (length xs) rest u v given now

  -- a call on a link that had the input left: u and v are what the host showed before and after, and `given` and
  -- `now` what the link was given
  pub record Session (input : List ℕ) (given now : Option (List ℕ)) (u v : V) (result : Served) : Type 0 where
    pub exchanges : List (Exchange Operation)
    pub rest : List ℕ
    pub mid : V
    pub read : Reads input (requests exchanges) rest
    pub run : Run u exchanges mid
    pub ended : Ends result exchanges rest mid v (append_known given (texts 0 exchanges)) now

-- ---- a reply never waits for more input

module _ {Operation : Type 0} where
  -- the link was asked for more as so many bytes of the input had been taken, and so many given. What was taken is less than
  -- 10,000 requests, none of which closes, and then less than a request. To each of them its reply was given, and to what follows the
  -- interim reply that it waits for; nothing is held back, and nothing comes early
  pub record IsInTime (input : List ℕ) (xs : List (Exchange Operation)) (taken given : ℕ) : Type 0 where
    pub answered : List (Exchange Operation)
    pub later : List (Exchange Operation)
    pub split : xs ≡ answered ++ later
    pub few : length answered < request_limit
    pub none_closes : AllOpen answered
    pub unread : List ℕ
    pub first : List ℕ
    pub read : Reads (take taken input) (requests answered) unread
    pub unfinished : IsUnfinished unread first
    pub replied : given ≡ length (texts 0 answered ++ first)

  -- the same, where the connection began as these counts stood
  pub record IsAskedInTime (input : List ℕ) (xs : List (Exchange Operation)) (taken given : ℕ) (asked : Asked) : Type 0 where
    pub more_taken : ℕ
    pub more_given : ℕ
    pub taken_is : asked.0 ≡ taken + more_taken
    pub given_is : asked.1 ≡ given + more_given
    pub in_time : IsInTime input xs more_taken more_given

-- as so many bytes had been taken, the link was asked these times; each time one piece came, and then no more. Only the last
-- time may nothing have come: at the end of the input, or where a take failed, no more is asked for
abbrev pub ComesInPieces : ℕ → List Asked → ℕ → Type 0
ComesInPieces taken [] now = now ≡ taken
ComesInPieces taken (asked ∷ more) now =
    (asked.0 ≡ taken) × (size : ℕ) × (size ≤ piece_limit) × ((1 ≤ size) ⊎ (more ≡ [])) × ComesInPieces (taken + size) more now

-- where the link tells what it was asked: a connection with these exchanges asked for more only as it had no whole request
-- unanswered, and then for one piece, and no more after nothing came
abbrev pub NeverWaits : {Operation : Type 0} → List ℕ → List (Exchange Operation) → LinkTells → LinkTells → Type 0
NeverWaits input xs old new =
    (taken given : List ℕ) (before : List Asked) → old.taken ≡ Some taken → old.given ≡ Some given → old.asked ≡ Some before
    → (asked : List Asked) × (now : List ℕ) × (new.asked ≡ Some (before ++ asked)) × (new.taken ≡ Some now)
    × All (IsAskedInTime input xs (length taken) (length given)) asked × ComesInPieces (length taken) asked (length now)

-- a connection whose replies never wait: the clause of a call on a link that had the input left
abbrev pub SessionInTime : {V Operation : Type 0} → HostRules V Operation → List ℕ → LinkTells → LinkTells
    → V → V → Served → Type 0
SessionInTime rules input old new u v result =
    (done : Session rules input old.given new.given u v result) × NeverWaits input done.exchanges old new
