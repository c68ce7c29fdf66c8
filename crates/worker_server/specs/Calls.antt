-- What an order asks of a library, and how its outcome is made of the answers. Read Serves last: it is what stands
-- between a request and its reply. `asks` is a host's relation: from what it shows before, a library and a call to
-- an answer, the operations that the call left and what it shows after. Of a host with a clock it is AtAMoment. `spares` says of
-- the first of several files and directories what its answer is to be in view of all of them and of how many bytes one reply packs,
-- and `collects` what is told of a collection; `looks` is what a look whether a library is still in a state leaves. All four are
-- its rules.
use Rattle.std.specs.Prelude.{ℕ, ◌≡◌, ◌<◌, ◌≤◌, ◌⊎◌, Bool, true, false, List, [], ◌∷◌, ◌++◌, length, sum_by, ⊤, Option, None, Some, Result, Ok, Err}
use Rattle.ids.specs.declared.key.Kind.TheVariants.{Fs}
use Rattle.library_state.specs.declared.call.Act.{Act}
use Rattle.library_state.specs.declared.call.Act.TheVariants as act
use Rattle.library_state.specs.declared.call.Call.{Call}
use Rattle.library_state.specs.declared.refusal.Refusal.{Refusal}
use Rattle.library_state.specs.declared.refusal.Refusal.TheVariants.{NoMemory, NoCall}
use Rattle.library_state.specs.declared.reply.Reply.{Reply}
use Rattle.library_state.specs.declared.reply.Reply.TheVariants as reply
use Rattle.library_state.specs.declared.tag.Tag.{Tag}
use Rattle.http_front.specs.Rows.{row_with}
use Rattle.http_front.specs.declared.order.Order.{Order}
use Rattle.http_front.specs.declared.order.OrderFault.{OrderFault}
use Rattle.http_front.specs.declared.order.OrderFault.TheVariants as fault
use Rattle.http_front.specs.declared.order.What.{What}
use Rattle.http_front.specs.declared.order.What.TheVariants as what
use Rattle.http_front.specs.declared.outcome.Outcome.{Outcome}
use Rattle.http_front.specs.declared.outcome.Outcome.TheVariants as outcome
use Rattle.http_front.specs.declared.outcome.Outcome.TheVariants.{Version, Plain, Packed, Refused}
use Rattle.http_front.specs.declared.row.Row.{Row}
use Rattle.worker_server.specs.declared.host.Answer.{Answer}
use Rattle.worker_server.specs.declared.host.Collected.{Collected}
use Rattle.worker_server.specs.declared.host.Collected.TheVariants as collected

-- a call with the secret that the request showed
abbrev pub call_of : Option (List ℕ) → Act → Call
call_of secret a = record { secret = secret; act = a }

-- a file or directory is to be stored, or asked for
abbrev pub put_of : Row → Act
put_of row = act.Put (record { kind = Fs; id = row.id }) row.bytes

abbrev pub get_of : List ℕ → Act
get_of id = act.Get (record { kind = Fs; id = id })

-- the tag of the state that an answer tells of
abbrev pub tag_of : Answer → Tag
tag_of answer = record { opening = answer.opening; count = answer.place }

-- what is replied to a request whose one answer, or whose first answer that was not as asked, is this
abbrev pub told_of : Answer → Outcome
told_of answer = Plain answer.reply (tag_of answer)

-- what is replied where all files and directories of a body were stored
abbrev pub all_stored : Outcome
all_stored = Plain (reply.Stored true) (record { opening = 0; count = 0 })

abbrev pub is_stored : Reply → Bool
is_stored (reply.Stored is_new) = true
is_stored _ = false

abbrev pub is_got : Reply → Bool
is_got (reply.Got bytes) = true
is_got _ = false

-- the most bytes that the files and directories of one reply have together
abbrev pub most_packed : ℕ
most_packed = 268435456

-- how many bytes these files and directories have together
abbrev pub packed_size : List Row → ℕ
packed_size rows = sum_by (λ row. length row.bytes) rows

-- they fit in one reply
abbrev pub FitReply : List Row → Type 0
FitReply rows = packed_size rows ≤ most_packed

-- what is replied to a request for a collection
abbrev pub collected_outcome : Collected → Outcome
collected_outcome (collected.Done number removed) = outcome.Collected number removed
collected_outcome (collected.Refused why) = Refused why

-- a call that was asked and its answer, a collection and what was told of it, or a look and what it told; with the operations
-- that it left
pub data Told (Operation : Type 0) : Type 0 where
  call_asked : (lib : List ℕ) (call : Call) (answer : Answer) (operations : List Operation) → Told Operation
  collection_asked : (lib : List ℕ) (secret : Option (List ℕ)) (ends : Collected) (operations : List Operation) → Told Operation
  look_asked : (lib : List ℕ) (secret : Option (List ℕ)) (tag : Tag) (same : Bool) (operations : List Operation) → Told Operation

-- the operations that it left, and those of all of them, in their order
abbrev pub left_by : {Operation : Type 0} → Told Operation → List Operation
left_by (call_asked lib call answer operations) = operations
left_by (collection_asked lib secret ends operations) = operations
left_by (look_asked lib secret tag same operations) = operations

abbrev pub operations_of : {Operation : Type 0} → List (Told Operation) → List Operation
operations_of [] = []
operations_of (t ∷ ts) = left_by t ++ operations_of ts

-- what is replied where no library is named: no order but that for the version is without one
abbrev pub outcome_without_library : What → Outcome
outcome_without_library what.Version = Version
outcome_without_library _ = Refused NoCall

-- the refusal of a request that has no order
abbrev pub refusal_of : OrderFault → Refusal
refusal_of (fault.Refused refusal) = refusal
refusal_of fault.NoMemory = NoMemory

-- the call is asked at a moment that the clock shows
abbrev pub AtAMoment : {V Operation : Type 0} → (ℕ → Type 0) → (V → List ℕ → Call → ℕ → Answer → List Operation → V → Type 0)
    → V → List ℕ → Call → Answer → List Operation → V → Type 0
AtAMoment shows asks u lib call answer operations v = (moment : ℕ) × shows moment × asks u lib call moment answer operations v

-- by what rules a host answers
pub record HostRules (V Operation : Type 0) : Type 1 where
  pub asks : V → List ℕ → Call → Answer → List Operation → V → Type 0
  pub spares : V → List ℕ → Option (List ℕ) → List (List ℕ) → ℕ → Answer → List Operation → V → Type 0
  pub collects : V → List ℕ → Option (List ℕ) → Collected → List Operation → V → Type 0
  pub looks : V → List ℕ → Option (List ℕ) → Tag → Bool → List Operation → V → Type 0

-- the same of a host with a clock
abbrev pub rules_at : {V Operation : Type 0} → (ℕ → Type 0) → (V → List ℕ → Call → ℕ → Answer → List Operation → V → Type 0)
    → (V → List ℕ → Option (List ℕ) → List (List ℕ) → ℕ → Answer → List Operation → V → Type 0)
    → ((ℕ → Type 0) → V → List ℕ → Option (List ℕ) → Collected → List Operation → V → Type 0)
    → (V → List ℕ → Option (List ℕ) → Tag → Bool → List Operation → V → Type 0) → HostRules V Operation
rules_at shows asks spares collects looks = record { asks = AtAMoment shows asks; spares = spares; collects = collects shows; looks = looks }

-- no call was asked, and this is the outcome
abbrev pub NotAsked : {V Operation : Type 0} → V → Outcome → Outcome → List Operation → V → Type 0
NotAsked u due o operations v = (o ≡ due) × (operations ≡ []) × (v ≡ u)

module _ {V Operation : Type 0} (asks : V → List ℕ → Call → Answer → List Operation → V → Type 0) where
  -- the call was asked of that library, and the outcome is the answer
  abbrev pub AskedSo : V → List ℕ → Call → Outcome → List Operation → V → Type 0
  AskedSo u lib call o operations v = (answer : Answer) × asks u lib call answer operations v × (o ≡ told_of answer)

  -- the files and directories were put one after another, up to the first that was not stored, whose answer is the
  -- outcome
  abbrev pub PutsEach : List ℕ → Option (List ℕ) → V → List Row → Outcome → List Operation → V → Type 0
  PutsEach lib secret u [] o operations v = NotAsked u all_stored o operations v
  PutsEach lib secret u (row ∷ rows) o operations v =
      (answer : Answer) × (mid : V) × (first : List Operation) × (more : List Operation)
      × asks u lib (call_of secret (put_of row)) answer first mid × (operations ≡ first ++ more)
      × (((is_stored answer.reply ≡ true) × PutsEach lib secret mid rows o more v)
      ⊎ ((is_stored answer.reply ≡ false) × (o ≡ told_of answer) × (more ≡ []) × (v ≡ mid)))

module _ {V Operation : Type 0} (rules : HostRules V Operation) where
  -- a file or directory was asked for after these were given. Where none were, it is the first, and is answered in view of all that are
  -- asked for and of how many bytes one reply packs
  abbrev pub FirstSo : List Row → V → List ℕ → Option (List ℕ) → List (List ℕ) → Answer → List Operation → V → Type 0
  FirstSo [] u lib secret ids answer operations v = rules.spares u lib secret ids most_packed answer operations v
  FirstSo (row ∷ rows) u lib secret ids answer operations v = ⊤

  -- the files and directories were asked for one after another, after these that were given, the first of them with all that
  -- follow: up to the first that was not given, whose answer is the outcome, or with which they are more than fit in one reply,
  -- which is want of memory; where all were given, the outcome is all of them
  abbrev pub GetsEach : List ℕ → Option (List ℕ) → V → List (List ℕ) → List Row → Outcome → List Operation → V → Type 0
  GetsEach lib secret u [] given o operations v = NotAsked u (Packed given) o operations v
  GetsEach lib secret u (id ∷ ids) given o operations v =
      (answer : Answer) × (mid : V) × (first : List Operation) × (more : List Operation)
      × rules.asks u lib (call_of secret (get_of id)) answer first mid × FirstSo given u lib secret (id ∷ ids) answer first mid
      × (operations ≡ first ++ more)
      × (((bytes : List ℕ) × (answer.reply ≡ reply.Got bytes) × FitReply (given ++ row_with id bytes ∷ [])
      × GetsEach lib secret mid ids (given ++ row_with id bytes ∷ []) o more v)
      ⊎ (((bytes : List ℕ) × (answer.reply ≡ reply.Got bytes) × (most_packed < packed_size (given ++ row_with id bytes ∷ []))
      × (o ≡ Refused NoMemory) × (more ≡ []) × (v ≡ mid))
      ⊎ ((is_got answer.reply ≡ false) × (o ≡ told_of answer) × (more ≡ []) × (v ≡ mid))))

  -- a call, a collection or a look was answered so
  abbrev pub AnsweredSo : V → Told Operation → V → Type 0
  AnsweredSo u (call_asked lib call answer operations) v = rules.asks u lib call answer operations v
  AnsweredSo u (collection_asked lib secret ends operations) v = rules.collects u lib secret ends operations v
  AnsweredSo u (look_asked lib secret tag same operations) v = rules.looks u lib secret tag same operations v

  -- these calls, collections and looks were asked, one after another
  abbrev pub Ran : V → List (Told Operation) → V → Type 0
  Ran u [] v = v ≡ u
  Ran u (t ∷ ts) v = (mid : V) × AnsweredSo u t mid × Ran mid ts v

  -- such calls, collections and looks left these operations, in their order
  abbrev pub Leaves : V → List Operation → V → Type 0
  Leaves u operations v = (calls : List (Told Operation)) × Ran u calls v × (operations_of calls ≡ operations)

  -- a collection was asked of that library, and the outcome is what was told of it
  abbrev pub CollectedSo : V → List ℕ → Option (List ℕ) → Outcome → List Operation → V → Type 0
  CollectedSo u lib secret o operations v = (ends : Collected) × rules.collects u lib secret ends operations v × (o ≡ collected_outcome ends)

  -- whether the library is still in the state of a tag was looked at first. It is, and this is the outcome; or it isn't, and then the
  -- head was asked for
  pub data LooksSo (u : V) (lib : List ℕ) (secret : Option (List ℕ)) (tag : Tag) (o : Outcome) (operations : List Operation) (v : V) : Type 0 where
    not_modified : rules.looks u lib secret tag true operations v → o ≡ outcome.Same tag → LooksSo u lib secret tag o operations v
    goes_on : (mid : V) (first more : List Operation) → rules.looks u lib secret tag false first mid
        → AskedSo rules.asks mid lib (call_of secret act.Head) o more v → operations ≡ first ++ more → LooksSo u lib secret tag o operations v

  -- the head was asked for, by one who names this tag or none
  abbrev pub HeadSo : V → List ℕ → Option (List ℕ) → Option Tag → Outcome → List Operation → V → Type 0
  HeadSo u lib secret None o operations v = AskedSo rules.asks u lib (call_of secret act.Head) o operations v
  HeadSo u lib secret (Some tag) o operations v = LooksSo u lib secret tag o operations v

  -- what was asked of a library has this outcome
  abbrev pub ServedBy : List ℕ → Option (List ℕ) → What → V → Outcome → List Operation → V → Type 0
  ServedBy lib secret what.Version u o operations v = NotAsked u Version o operations v
  ServedBy lib secret (what.Check op) u o operations v = AskedSo rules.asks u lib (call_of secret (act.Check op)) o operations v
  ServedBy lib secret (what.Head tag) u o operations v = HeadSo u lib secret tag o operations v
  ServedBy lib secret (what.Update commit) u o operations v = AskedSo rules.asks u lib (call_of secret (act.Update commit)) o operations v
  ServedBy lib secret (what.Get key) u o operations v = AskedSo rules.asks u lib (call_of secret (act.Get key)) o operations v
  ServedBy lib secret (what.Put key bytes) u o operations v = AskedSo rules.asks u lib (call_of secret (act.Put key bytes)) o operations v
  ServedBy lib secret (what.Missing kind ids) u o operations v = AskedSo rules.asks u lib (call_of secret (act.Missing kind ids)) o operations v
  ServedBy lib secret (what.PutFs rows) u o operations v = PutsEach rules.asks lib secret u rows o operations v
  ServedBy lib secret (what.GetFs ids) u o operations v = GetsEach lib secret u ids [] o operations v
  ServedBy lib secret (what.Ids server client) u o operations v = AskedSo rules.asks u lib (call_of secret (act.Ids server client)) o operations v
  ServedBy lib secret (what.Limit days) u o operations v = AskedSo rules.asks u lib (call_of secret (act.Limit days)) o operations v
  ServedBy lib secret what.Collect u o operations v = CollectedSo u lib secret o operations v

  abbrev pub ServedAt : Option (List ℕ) → Option (List ℕ) → What → V → Outcome → List Operation → V → Type 0
  ServedAt None secret w u o operations v = NotAsked u (outcome_without_library w) o operations v
  ServedAt (Some lib) secret w u o operations v = ServedBy lib secret w u o operations v

  -- a request whose reading is this has this outcome: the refusal that it was read as, without a call, or what the
  -- answers to its calls make
  abbrev pub ServedSo : V → Result Order Refusal → Outcome → List Operation → V → Type 0
  ServedSo u (Err refusal) o operations v = NotAsked u (Refused refusal) o operations v
  ServedSo u (Ok order) o operations v = ServedAt order.lib order.secret order.what u o operations v

  -- the same of a request that may be read as such, or want of memory: for the text of the outcome, after the calls,
  -- or for the order or the outcome, and then without a call
  pub data Serves (u : V) (IsDue : Result Order Refusal → Type 0) (o : Outcome) (operations : List Operation) (v : V) : Type 0 where
    told : (order : Result Order Refusal) → IsDue order → ServedSo u order o operations v → Serves u IsDue o operations v
    unwritten : (order : Result Order Refusal) (due : Outcome) → IsDue order → ServedSo u order due operations v → o ≡ Refused NoMemory
        → Serves u IsDue o operations v
    unready : NotAsked u (Refused NoMemory) o operations v → Serves u IsDue o operations v

  -- an order that was read has its outcome, or there was no memory for it, and then no call
  abbrev pub ServesOrder : V → Order → Outcome → List Operation → V → Type 0
  ServesOrder u order o operations v = ServedSo u (Ok order) o operations v ⊎ NotAsked u (Refused NoMemory) o operations v
