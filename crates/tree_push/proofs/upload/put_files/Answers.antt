-- One file more is put.
use Rattle.std.proofs.Common.{◌≡◌, ◌∷◌, ◌∙◌, ℕ, List, Some, IsSome, Err, ap, refl, subst, sym}
use Rattle.std.specs.Prelude.{⊤}
use Rattle.std.specs.FinMap as fin
use Rattle.std.specs.List.{AllByRecursion}
use Rattle.std.specs.Map.Iter.{deref_pair}
use Rattle.std.proofs.lemmas.Map.Iter.{rest_more}
use Rattle.ids.specs.FaultCount.{FailsBy}
use Rattle.tree_model.specs.Path.{PathV}
use Rattle.folder_side.specs.declared.scan_report.Seen.{Seen}
use Rattle.folder_side.proofs.CallLemmas.{glances_same, glances_then}
use Rattle.sync_rules.specs.Causes.{is_folder_fault}
use Rattle.tree_push.specs.BlockUpload.{StandsThere}
use Rattle.tree_push.specs.Upload.{blocks_in, blocks_of}
use Rattle.tree_push.proofs.BlockUploadLemmas.{IsTaking, taking_end, taking_more, taking_start, taking_stop}
use Rattle.tree_push.proofs.SentOnceLemmas.{takes_none, takes_then}
use Rattle.tree_push.proofs.UploadLemmas.{HoldsOrLeft, holds_end, holds_more, holds_start}
use Rattle.tree_push.proofs.WantedLemmas.{entries_are}
use Rattle.tree_push.proofs.upload.put_files.Goals as goal

pub loop-path-init : goal.loop-path-init
loop-path-init g c =
    let all = sym (c.into_iter-path-iterator.ensures.into_iter_gives ∙ c.iter-path-items.ensures.rest) in
    record {
      told = refl;
      spare = refl;
      traced = glances_same _ _ refl;
      faults = refl;
      peer = refl;
      taking = subst
          (λ (left : List (PathV × Seen)). IsTaking c.args.library.now (blocks_in (fin.entries c.args.paths.now)) (blocks_in left) c.args.lacking.now c.args.lacking.now
          (g.R.Remote.sends c.args.remote.now) (g.R.Remote.sends c.args.remote.now))
          all (taking_start c.args.library.now (blocks_in (fin.entries c.args.paths.now)) c.args.lacking.now (g.R.Remote.sends c.args.remote.now));
      once = takes_none c.args.lacking.now (g.R.Remote.sends c.args.remote.now);
      holds = λ c' told.
          subst (λ (left : List (PathV × Seen)). HoldsOrLeft (λ path s. IsSome (fin.get c.args.owns.now path) → StandsThere c.args.cuts c' path s) c.args.paths.now left) all
          (holds_start (λ path s. IsSome (fin.get c.args.owns.now path) → StandsThere c.args.cuts c' path s) c.args.paths.now);
      are = subst (λ (left : List (PathV × Seen)). AllByRecursion (λ e. fin.get c.args.paths.now e.0 ≡ Some e.1) left) all (entries_are c.args.paths.now);
    }

pub loop-path-preserved : goal.loop-path-preserved
loop-path-preserved g c =
    let next : c.loop-path.path-iterator ≡ (c.in-Some.path.now, c.in-Some.seen.now) ∷ c.next.new.self
    = rest_more deref_pair _ _ _ (c.in-Some.path, c.in-Some.seen) c.in-Some.is c.next.ensures.steps in
    record {
      told = c.in-Ok.ensures.stays.0 ∙ c.loop-path.invariant.told;
      spare = c.in-Ok.ensures.stays.1 ∙ c.loop-path.invariant.spare;
      traced = glances_then _ _ _ c.loop-path.invariant.traced c.in-Ok.ensures.traced;
      faults = c.in-Ok.ensures.faults ∙ c.loop-path.invariant.faults;
      peer = c.in-Ok.ensures.stays.2 ∙ c.loop-path.invariant.peer;
      taking = taking_more c.args.library.now (blocks_in (fin.entries c.args.paths.now)) (blocks_in c.loop-path.path-iterator) c.args.lacking.now c.loop-path.lacking (g.R.Remote.sends c.args.remote.now)
          (g.R.Remote.sends c.loop-path.remote) c.loop-path.invariant.taking (blocks_of c.in-Some.seen.now) (blocks_in c.next.new.self) c.put_seen.new.lacking (g.R.Remote.sends c.put_seen.new.remote)
          (ap blocks_in next) c.in-Ok.ensures.value;
      once = takes_then c.args.lacking.now c.loop-path.lacking c.put_seen.new.lacking _ _ _ c.loop-path.invariant.once c.in-Ok.ensures.once;
      holds = λ c' told.
          holds_more (λ path s. IsSome (fin.get c.args.owns.now path) → StandsThere c.args.cuts c' path s) c.args.paths.now (c.in-Some.path.now, c.in-Some.seen.now) c.next.new.self
          (subst (λ (left : List (PathV × Seen)). HoldsOrLeft (λ path s. IsSome (fin.get c.args.owns.now path) → StandsThere c.args.cuts c' path s) c.args.paths.now left) next
          (c.loop-path.invariant.holds c' told))
          (λ some. c.in-Ok.ensures.same c' (c.loop-path.invariant.told ∙ told) (c.has-changed.ensures.value ∙ some));
      are = (subst (λ (left : List (PathV × Seen)). AllByRecursion (λ e. fin.get c.args.paths.now e.0 ≡ Some e.1) left) next c.loop-path.invariant.are).1;
    }

pub returns-in-Err-clause-value : goal.returns-in-Err-clause-value
returns-in-Err-clause-value g c =
    taking_stop c.args.library.now (blocks_in (fin.entries c.args.paths.now)) (blocks_in c.loop-path.path-iterator) c.args.lacking.now c.loop-path.lacking _ _ c.loop-path.invariant.taking _
    c.in-Err.fault c.in-Err.ensures.value

pub returns-in-Err-clause-cause : goal.returns-in-Err-clause-cause
returns-in-Err-clause-cause g c = λ c' told sees.
    let next : c.loop-path.path-iterator ≡ (c.in-Some.path.now, c.in-Some.seen.now) ∷ c.next.new.self
    = rest_more deref_pair _ _ _ (c.in-Some.path, c.in-Some.seen) c.in-Some.is c.next.ensures.steps in
    let here = (subst (λ (left : List (PathV × Seen)). AllByRecursion (λ e. fin.get c.args.paths.now e.0 ≡ Some e.1) left) next c.loop-path.invariant.are).0 in
    c.in-Err.ensures.cause c' (c.loop-path.invariant.told ∙ told) (sym here ∙ sees c.in-Some.path.now)

pub returns-in-Err-clause-faults : goal.returns-in-Err-clause-faults
returns-in-Err-clause-faults g c =
    subst (λ (before : ℕ). FailsBy {T = ⊤} is_folder_fault before (g.F.Folder.faults c.put_seen.new.folder) (Err c.in-Err.fault)) c.loop-path.invariant.faults c.in-Err.ensures.faults

pub returns-clause-value : goal.returns-clause-value
returns-clause-value g c =
    taking_end c.args.library.now (blocks_in (fin.entries c.args.paths.now)) (blocks_in c.loop-path.path-iterator) c.args.lacking.now c.loop-path.lacking _ _ c.loop-path.invariant.taking
    (ap blocks_in c.in-None.ensures.steps.0)

pub returns-clause-same : goal.returns-clause-same
returns-clause-same g c = λ c' told.
    holds_end (λ path s. IsSome (fin.get c.args.owns.now path) → StandsThere c.args.cuts c' path s) c.args.paths.now
    (subst (λ (left : List (PathV × Seen)). HoldsOrLeft (λ path s. IsSome (fin.get c.args.owns.now path) → StandsThere c.args.cuts c' path s) c.args.paths.now left) c.in-None.ensures.steps.0
    (c.loop-path.invariant.holds c' told))

pub returns-in-Err-clause-once : goal.returns-in-Err-clause-once
returns-in-Err-clause-once g c = takes_then c.args.lacking.now c.loop-path.lacking c.put_seen.new.lacking _ _ _ c.loop-path.invariant.once c.in-Err.ensures.once

pub returns-in-Err-clause-traced : goal.returns-in-Err-clause-traced
returns-in-Err-clause-traced g c = glances_then _ _ _ c.loop-path.invariant.traced c.in-Err.ensures.traced
