-- The command that serves a port: workers beside each other, all with the same libraries. Our own. Read ServesPort first, at the end, then
-- ServesWorkers, IsJoinOf and line_by. Read before: Works and Stops of `hall_workers`, AreEars of `link_ears`, Bringing, AreLedTo of
-- HallConnections.
use Rattle.std.specs.Prelude.{◌≡◌, ℕ, ◌+◌, ◌-◌, ◌^◌, ◌<◌, ◌≤◌, ◌||◌, min, true, false, Bool, if◌then◌else◌, All, List, [], ◌∷◌, ◌++◌, length, slice_index_or, sum_by, map as map_list, Option, Err, Some, ⊤}
use Rattle.std.specs.List.{AllByRecursion, list_any, slice_get}
use mathlib.Core.List.{IsPrefix}
use Rattle.ids.specs.FaultCount.{FailsBy}
use Rattle.depot.specs.DepotView.{DepotView}
use Rattle.folder_storage.specs.Ground.{MayGive}
use Rattle.hall_workers.specs.Serves.{ServesLink}
use Rattle.hall_server.specs.Serving.{TellsTakenOf, hall_rules, hall_shown}
use Rattle.hall_workers.specs.Workers.{Had, InTurn, Stops, WorkerView, Works, worker_seen}
use Rattle.hall_workers.specs.declared.worker.Ending.{Ending}
use Rattle.hall_workers.specs.declared.worker.Ending.TheVariants as ending
use Rattle.hall_workers.specs.declared.worker.Worker.{Worker}
use Rattle.link_ears.specs.Ear.{AreEars, EarRules, NetView, TakesEars, is_link_fault}
use Rattle.link_ears.specs.declared.net.NetFault.{NetFault}
use Rattle.link_ears.specs.declared.net.NetFault.TheVariants as net_fault
use Rattle.object_store.specs.Shelf.{Contents}
use Rattle.object_store.specs.declared.shelf.Slot.{Slot}
use Rattle.server_words.specs.Spelling.{location_text}
use Rattle.server_words.specs.declared.command.Location.{Location}
use Rattle.server_words.specs.declared.fault.Fault.{Fault}
use Rattle.server_words.specs.declared.fault.Fault.TheVariants as fault
use Rattle.server_words.specs.declared.line.Line.{Line}
use Rattle.server_words.specs.declared.line.Line.TheVariants as line
use Rattle.sync_calls.specs.Hall.{AreWithin, HallOf, PassOf, drawn_by, shown_by}
use Rattle.sync_calls.specs.Making.{AreNew, AreSame, new_shown}
use Rattle.sync_calls.specs.Operations.{Line as Operation}
use Rattle.sync_calls.specs.Shown.{Shown}
use Rattle.turnstile.specs.Lists.{IsOnce}
use Rattle.worker_server.specs.Calls.{Ran, Told}
use Rattle.library_server.specs.Bringing.{AreBack, AreBrought, IsStoppedAt}
use Rattle.library_server.specs.HallConnections.{AreGood, AreLedTo}
use Rattle.library_server.specs.Lines.{fault_of_not_brought}
use Rattle.library_server.specs.Standing.{GroundView}
use Rattle.library_server.specs.declared.not_done.NotBrought.{NotBrought}
use Rattle.library_server.specs.declared.not_done.NotBrought.TheVariants as unbrought
use Rattle.library_server.specs.declared.not_done.NotStarted.TheVariants as unstarted
use Rattle.library_server.specs.declared.port.Port.{Port}
use Rattle.library_server.specs.declared.workers.Tally.{Tally}

-- ---- the line

abbrev pub is_ear_fault : Ending → Bool
is_ear_fault ending.EarFault = true
is_ear_fault other = false

abbrev pub is_want : Ending → Bool
is_want ending.NoMemory = true
is_want other = false

-- how workers ended: whether an ear failed, whether one stopped for want of memory, and how many connections all of them served, up to
-- 2 ^ 64 - 1
abbrev pub tally_of : {P E : Type 0} → List (Worker P E) → Tally
tally_of workers = record {
  failed = list_any (λ w. is_ear_fault w.ending) workers;
  wanting = list_any (λ w. is_want w.ending) workers;
  served = min (sum_by (λ w. length w.served.items) workers) (2 ^ 64 - 1);
}

-- the port failed where an ear did; else there was no memory where a worker stopped for want of it; else so many connections were served
abbrev pub line_by : Tally → Line
line_by tally =
    if tally.failed then line.Fault fault.Link
    else if tally.wanting then line.Fault fault.NoMemory
    else line.Served tally.served

-- a library that wasn't started, as it is told here: another one is told as such
abbrev pub fault_of_unserved : NotBrought → Fault
fault_of_unserved (unbrought.Refused unstarted.Other) = fault.OtherLibrary
fault_of_unserved why = fault_of_not_brought why

abbrev pub fault_of_net : NetFault → Fault
fault_of_net net_fault.Link = fault.Link
fault_of_net net_fault.NoMemory = fault.NoMemory

-- ---- one history of all workers

abbrev pub books_of : {S : Type 0} → List (Shown S) → List ℕ
books_of [] = []
books_of (u ∷ us) = u.book ++ books_of us

-- what a pass showed of one library, and what others showed that were joined into it: the history begins with what each had seen, the
-- book has the places of all, each once, and the turns are those of all
pub record IsJoinOf {S : Type 0} (v : Shown S) (us : List (Shown S)) (w : Shown S) : Type 0 where
  pub start : w.start ≡ v.start
  pub seen : All (λ u. IsPrefix u.seen w.seen) (v ∷ us)
  pub book : w.book ≡ v.book ++ books_of us
  pub once : IsOnce w.book
  pub turns : w.turns ≡ v.turns + sum_by (λ u. u.turns) us

-- so of each library
abbrev pub AreJoinOf : {S : Type 0} → List (Shown S) → List (List (Shown S)) → List (Shown S) → Type 0
AreJoinOf {S} vs all ws = (length ws ≡ length vs)
    × ((i : ℕ) (v u w : Shown S) → i < length vs → IsJoinOf (slice_index_or vs i v) (map_list (λ (us : List (Shown S)). slice_index_or us i u) all) (slice_index_or ws i w))

-- ---- the workers

-- a worker that served nothing yet, as it is seen
abbrev pub new_worker : {P E L : Type 0} → EarRules E L → P → E → WorkerView P L
new_worker rules pass ear = record { pass = pass; tells = rules.tells ear; back = rules.back ear; faults = rules.faults ear; served = [] }

module _ {S E L : Type 0} (contents : S → Option Contents) (may_give : S → Slot → Option (List ℕ) → Type 0) (texts faults : S → ℕ) (rules : EarRules E L) (shows : ℕ → Type 0) where
  -- each worker served the links of its ear, one after another, through a pass of a hall of these libraries, which was new; why each
  -- stopped; the libraries come out with the history that all of them made; and the line tells it. The hall has one pass more, which joins all.
  -- No worker read of more turns of a lock than all of them took
  pub record ServesWorkers (depots afters : List (DepotView S)) (ears ends : List E) (told : Line) : Type 0 where
    pub hall : HallOf S
    pub passes : List (PassOf S)
    pub workers : List (Worker (PassOf S) E)
    pub sizes : (length passes ≡ length ears) × (length workers ≡ length ears)
    pub begins : AreNew contents may_give texts faults (length ears + 1) depots hall passes
    pub works : (i : ℕ) (p : PassOf S) (e : E) (w : Worker (PassOf S) E) → i < length ears
        → Works (ServesLink contents may_give texts faults shows) rules.seen (new_worker rules (slice_index_or passes i p) (slice_index_or ears i e))
        (worker_seen rules.tells rules.back rules.faults (slice_index_or workers i w))
    pub stops : (i : ℕ) (p : PassOf S) (e : E) (w : Worker (PassOf S) E) → i < length ears
        → Stops (new_worker rules (slice_index_or passes i p) (slice_index_or ears i e)) (slice_index_or workers i w).ending
        (worker_seen rules.tells rules.back rules.faults (slice_index_or workers i w))
    pub ends_are : ends ≡ map_list (λ w. w.ear) workers
    pub last : List (Shown S)
    pub joined : AreJoinOf (map_list new_shown depots) (map_list (λ w. shown_by w.pass) workers) last
    pub each : AreLedTo contents may_give texts faults depots last afters
    pub within : All (λ w. AreWithin (drawn_by w.pass) last) workers
    pub line_is : told ≡ line_by (tally_of workers)

  -- a call that was asked on one of these links is told without a turn that the lock of its library is spent only where all turns of that lock
  -- were taken
  abbrev pub TellsTakenThrough : (last : List (Shown S)) (u : PassOf S) (had : List (Had L)) (v : PassOf S) → InTurn (ServesLink contents may_give texts faults shows) rules.seen u had v → Type 0
  TellsTakenThrough last u [] v same = ⊤
  TellsTakenThrough last u (one ∷ more) v (mid, by, rest) =
      ((calls : List (Told Operation)) → Ran (hall_rules contents may_give texts faults shows) (hall_shown u) calls (hall_shown mid) → AllByRecursion (TellsTakenOf last) calls)
      × TellsTakenThrough last mid more v rest

  -- it was served so; or there was no memory for the workers, and the libraries and the ears come back the same
  pub data HoldsWorkers (depots afters : List (DepotView S)) (ears ends : List E) (told : Line) : Type 0 where
    held : ServesWorkers depots afters ears ends told → HoldsWorkers depots afters ears ends told
    not_held : AreSame contents may_give texts faults depots afters → ends ≡ ears → told ≡ line.Fault fault.NoMemory → HoldsWorkers depots afters ears ends told

-- the libraries that a command names were started in their order, served at these ears, and are back; or one wasn't started, the first in
-- the order of the words, those before it are back as they were started, and the ears are left alone; or there was no memory for the workers,
-- and all are back
pub data ServesEars {S E L : Type 0} (contents : S → Option Contents) (may_give : S → Slot → Option (List ℕ) → Type 0) (texts faults : S → ℕ) (rules : EarRules E L) (gives : MayGive)
    (location : Location) (libs : List (List ℕ)) (shows : ℕ → Type 0) (old new : GroundView) (ears ends : List E) (told : Line) : Type 0 where
  started : (depots afters : List (DepotView S)) → AreBrought contents may_give faults gives location shows old.stands libs (length libs) depots
      → HoldsWorkers contents may_give texts faults rules shows depots afters ears ends told
      → AreBack contents old.stands new.stands (location_text location) libs afters (length libs) → AreGood contents faults afters (length libs)
      → ServesEars contents may_give texts faults rules gives location libs shows old new ears ends told
  stopped : (why : NotBrought) → IsStoppedAt contents may_give faults gives location shows libs old new why → ends ≡ ears → told ≡ line.Fault (fault_of_unserved why)
      → ServesEars contents may_give texts faults rules gives location libs shows old new ears ends told

-- which ears are made for a port, as a net tells it
abbrev pub asked_by : Port → ℕ × (ℕ × ℕ)
asked_by port = (port.number, (port.workers, port.connections))

-- a port, with its workers, all with the same libraries: its ears were made, the libraries served at them, and the ears are back; or the port
-- had no ears, which is told, and the libraries are left alone. The net is asked for this port, and once
pub data ServesPort {S E L : Type 0} (contents : S → Option Contents) (may_give : S → Slot → Option (List ℕ) → Type 0) (texts faults : S → ℕ) (rules : EarRules E L) (gives : MayGive)
    (location : Location) (port : Port) (libs : List (List ℕ)) (shows : ℕ → Type 0) (old new : GroundView) (before now : NetView E) (told : Line) : Type 0 where
  opened : (ears ends : List E) → AreEars rules port.number port.workers port.connections ears
      → ServesEars contents may_give texts faults rules gives location libs shows old new ears ends told
      → now.asked ≡ before.asked ++ asked_by port ∷ [] → TakesEars rules before ends now
      → ServesPort contents may_give texts faults rules gives location port libs shows old new before now told
  unopened : (why : NetFault) → now.asked ≡ before.asked ++ asked_by port ∷ [] → now.back ≡ before.back → FailsBy {T = ⊤} is_link_fault before.faults now.faults (Err why)
      → new ≡ old → told ≡ line.Fault (fault_of_net why) → ServesPort contents may_give texts faults rules gives location port libs shows old new before now told

-- ---- for private clauses

-- what was read of each lock, another read no less of it
abbrev pub ReadNoMore : List ℕ → List ℕ → Type 0
ReadNoMore mine its = (library n : ℕ) → slice_get mine library ≡ Some n → (m : ℕ) × (slice_get its library ≡ Some m) × (n ≤ m)

-- workers that served nothing yet, one for each ear, with the pass in its place
pub record AreSeated {P E : Type 0} (passes : List P) (ears : List E) (workers : List (Worker P E)) : Type 0 where
  pub pass_is : map_list (λ w. w.pass) workers ≡ passes
  pub ear_is : map_list (λ w. w.ear) workers ≡ ears
  pub none : All (λ w. w.served.items ≡ []) workers

-- the tally with one worker more
abbrev pub tallied : Tally → Ending → ℕ → Tally
tallied tally why count = record {
  failed = tally.failed || is_ear_fault why;
  wanting = tally.wanting || is_want why;
  served = min (tally.served + count) (2 ^ 64 - 1);
}
