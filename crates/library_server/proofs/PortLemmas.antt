-- The libraries of a port come out, as many as went in, its ears are back, and no line of it tells a fault of storage that never fails. The
-- key lemmas are workers_size, none_held, ears_heard, ears_back, workers_whole and unserved_whole.
use Rattle.std.proofs.Common.{◌≡◌, ℕ, Bool, true, false, if◌then◌else◌, List, ◌++◌, length, map, Option, ap, refl, ◌∙◌}
use Rattle.depot.specs.DepotView.{DepotView}
use Rattle.folder_storage.specs.Ground.{MayGive}
use Rattle.link_ears.specs.Ear.{EarRules, NetView, TakesEars, counts_sum}
use Rattle.object_store.specs.Shelf.{Contents}
use Rattle.object_store.specs.declared.shelf.Slot.{Slot}
use Rattle.link_ears.specs.declared.net.NetFault.{NetFault}
use Rattle.link_ears.specs.declared.net.NetFault.TheVariants as net_fault
use Rattle.server_words.specs.declared.command.Location.{Location}
use Rattle.server_words.specs.declared.fault.Fault.TheVariants as fault
use Rattle.server_words.specs.declared.line.Line.{Line}
use Rattle.server_words.specs.declared.line.Line.TheVariants as line
use Rattle.sync_calls.proofs.MakingLemmas.{same_all}
use Rattle.library_server.specs.Lines.{fault_of_not_brought, is_storage_fault}
use Rattle.library_server.specs.Port.{HoldsWorkers, ServesEars, fault_of_net, fault_of_unserved, held, line_by, not_held, started, stopped, tally_of}
use Rattle.library_server.specs.Standing.{GroundView}
use Rattle.library_server.specs.WholeRuns.{is_storage_line}
use Rattle.library_server.specs.declared.not_done.NotBrought.{NotBrought}
use Rattle.library_server.specs.declared.not_done.NotBrought.TheVariants as unbrought
use Rattle.library_server.specs.declared.not_done.NotStarted.TheVariants as unstarted
use Rattle.library_server.specs.declared.workers.Tally.{Tally}

pub workers_size : {S E L : Type 0} (contents : S → Option Contents) (may_give : S → Slot → Option (List ℕ) → Type 0) (texts faults : S → ℕ) (rules : EarRules E L) (shows : ℕ → Type 0)
    (depots afters : List (DepotView S)) (ears ends : List E) (told : Line) → HoldsWorkers contents may_give texts faults rules shows depots afters ears ends told → length afters ≡ length depots
workers_size contents may_give texts faults rules shows depots afters ears ends told (held serves) = serves.each.0
workers_size contents may_give texts faults rules shows depots afters ears ends told (not_held same still is) = same.0

-- where there was no memory for the workers all come back the same
pub none_held : {S E L : Type 0} (contents : S → Option Contents) (may_give : S → Slot → Option (List ℕ) → Type 0) (texts faults : S → ℕ) (rules : EarRules E L) (shows : ℕ → Type 0)
    (depots : List (DepotView S)) (ears : List E) → HoldsWorkers contents may_give texts faults rules shows depots depots ears ears (line.Fault fault.NoMemory)
none_held contents may_give texts faults rules shows depots ears = not_held (same_all contents may_give texts faults depots) refl refl

-- where ears hear is nothing to the workers
module _ {S E L : Type 0} (contents : S → Option Contents) (may_give : S → Slot → Option (List ℕ) → Type 0) (texts faults : S → ℕ) (rules : EarRules E L) (hears : E → ℕ → Type 0) (shows : ℕ → Type 0) where
  workers_heard : (depots afters : List (DepotView S)) (ears ends : List E) (told : Line) → HoldsWorkers contents may_give texts faults rules shows depots afters ears ends told
      → HoldsWorkers contents may_give texts faults (record rules { hears = hears }) shows depots afters ears ends told
  workers_heard depots afters ears ends told (held serves) = held (record {
    hall = serves.hall;
    passes = serves.passes;
    workers = serves.workers;
    sizes = serves.sizes;
    begins = serves.begins;
    works = serves.works;
    stops = serves.stops;
    ends_are = serves.ends_are;
    last = serves.last;
    joined = serves.joined;
    each = serves.each;
    within = serves.within;
    line_is = serves.line_is;
  })
  workers_heard depots afters ears ends told (not_held same still is) = not_held same still is

  pub ears_heard : (gives : MayGive) (location : Location) (libs : List (List ℕ)) (old new : GroundView) (ears ends : List E) (told : Line)
      → ServesEars contents may_give texts faults rules gives location libs shows old new ears ends told
      → ServesEars contents may_give texts faults (record rules { hears = hears }) gives location libs shows old new ears ends told
  ears_heard gives location libs old new ears ends told (started depots afters brought holds back good) =
      started depots afters brought (workers_heard depots afters ears ends told holds) back good
  ears_heard gives location libs old new ears ends told (stopped why at still is) = stopped why at still is

-- ears come back as they were made: the net stood in between as it did before
pub ears_back : {E L : Type 0} (rules : EarRules E L) (before mid now : NetView E) (ends : List E) → mid.back ≡ before.back → mid.faults ≡ before.faults
    → now.back ≡ mid.back ++ ends → now.faults ≡ counts_sum mid.faults (map rules.faults ends) → TakesEars rules before ends now
ears_back {E} rules before mid now ends kept count back counts =
    (back ∙ ap (λ (ears : List E). ears ++ ends) kept, counts ∙ ap (λ (n : ℕ). counts_sum n (map rules.faults ends)) count)

-- ---- storage that never fails

line_whole : (tally : Tally) → is_storage_line (line_by tally) ≡ false
line_whole tally = by tally.failed tally.wanting
  where
    by : (failed wanting : Bool)
        → is_storage_line (if failed then line.Fault fault.Link else if wanting then line.Fault fault.NoMemory else line.Served tally.served) ≡ false
    by true wanting = refl
    by false true = refl
    by false false = refl

-- the line of workers tells no fault of it
pub workers_whole : {S E L : Type 0} (contents : S → Option Contents) (may_give : S → Slot → Option (List ℕ) → Type 0) (texts faults : S → ℕ) (rules : EarRules E L) (shows : ℕ → Type 0)
    (depots afters : List (DepotView S)) (ears ends : List E) (told : Line) → HoldsWorkers contents may_give texts faults rules shows depots afters ears ends told → is_storage_line told ≡ false
workers_whole contents may_give texts faults rules shows depots afters ears ends told (held serves) = ap is_storage_line serves.line_is ∙ line_whole (tally_of serves.workers)
workers_whole contents may_give texts faults rules shows depots afters ears ends told (not_held same still is) = ap is_storage_line is

-- nor that of a library that wasn't started, where its cause is none, nor that of a port without ears
pub unserved_whole : (why : NotBrought) → is_storage_fault (fault_of_not_brought why) ≡ false → is_storage_fault (fault_of_unserved why) ≡ false
unserved_whole (unbrought.Storage failed) whole = whole
unserved_whole unbrought.Absent whole = whole
unserved_whole (unbrought.Refused (unstarted.Fault why)) whole = whole
unserved_whole (unbrought.Refused unstarted.Other) whole = refl
unserved_whole (unbrought.Unmade why) whole = whole

pub net_whole : (why : NetFault) → is_storage_fault (fault_of_net why) ≡ false
net_whole net_fault.Link = refl
net_whole net_fault.NoMemory = refl
