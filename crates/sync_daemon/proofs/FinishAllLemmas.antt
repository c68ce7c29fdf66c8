-- A whole sync, from where its rounds left it. The key lemmas are finish_all, refused_as, finished_as and synced_as.
use Rattle.std.proofs.Common.{◌≡◌, ℕ, true, false, List, ◌++◌, map, Option, None, Some, is_some, Result, Ok, Err, refl, sym, ap, subst, ◌∙◌, append_assoc, inl, inr, true≢false}
use Rattle.std.specs.FinMap as fin
use Rattle.std.specs.List.{IsDistinct}
use Rattle.std.specs.Ordering.{eq_by_cmp}
use Rattle.tree_model.specs.Path.{path_cmp}
use Rattle.block_chunker.specs.declared.cuts.Cuts.{Cuts}
use Rattle.commit_objects.specs.declared.commit.Commit.{Commit}
use Rattle.folder_side.specs.Folder.{Contents}
use Rattle.local_index.specs.declared.index.Index.{Index}
use Rattle.local_index.specs.declared.index.Known.{Known}
use Rattle.remote_calls.specs.Sends.{Sent}
use Rattle.sync_rules.specs.Checkout.{Step, run}
use Rattle.sync_rules.specs.OneSync.{IsSpared, LeavesIndex, SyncsSo}
use Rattle.sync_rules.specs.declared.fault.SyncFault.{SyncFault}
use Rattle.sync_rules.specs.declared.fault.SyncFault.TheVariants as fault
use Rattle.sync_rules.specs.declared.synced.Synced.{Synced}
use Rattle.tree_checkout.specs.Planning.{LooksScanned}
use Rattle.tree_checkout.specs.Writing.{is_change}
use Rattle.tree_checkout.specs.declared.planning.Plan.{Plan}
use Rattle.tree_checkout.specs.declared.steps.Write.{Write}
use Rattle.tree_checkout.proofs.AskLemmas.{planned_looks, planned_paths}
use Rattle.tree_fetch.specs.declared.asker.Asker.{Asker}
use Rattle.tree_fetch.specs.declared.tree.FetchedTree.{FetchedTree}
use Rattle.sync_daemon.specs.Bringing.{AreMade, BringsSo, ChangesNot, FinishesAs, IsDone, IsIdle, IsOwnHead, IsPlanned, IsUnready, MayChange, ReachesAs, StopsChange, index_of, is_pushed, synced_of}
use Rattle.sync_daemon.specs.Finishing.{Finishes, FinishesSo, SyncsIndex}
use Rattle.sync_daemon.specs.Going.{Refuses, Stops, Sync}
use Rattle.sync_daemon.specs.Rounds.{IsSettled, RoundsSo, sync_of}
use Rattle.sync_daemon.specs.Syncing.{SyncedAs, counted, counted_entries}
use Rattle.sync_daemon.specs.declared.bringing.Done.{Done}
use Rattle.sync_daemon.specs.declared.round.Settled.{Settled}
use Rattle.sync_daemon.proofs.BroughtLemmas.{brought_finishes}
use Rattle.sync_daemon.proofs.FinishLemmas.{idle_refuses, refused_finishes, spared_finishes}
use Rattle.sync_daemon.proofs.GotTreeLemmas.{HasCommit, HasTree, commit_got, commit_halts, tree_got, tree_halts}
use Rattle.sync_daemon.proofs.OwnHeadLemmas.{none_here, own_finishes}
use Rattle.sync_daemon.proofs.ReadingLemmas.{reading_begins}
use Rattle.sync_daemon.proofs.CheckoutFaultLemmas.{stops_all}
use Rattle.sync_daemon.proofs.SkippedLemmas.{keeps_itself}
use Rattle.sync_daemon.proofs.StoppedLemmas.{none_halts, plan_halts, stopped_finishes}
use Rattle.sync_daemon.proofs.GoesUnpushedLemmas.{changed_refuses, goes_here}
use Rattle.sync_daemon.proofs.WrittenLemmas.{made_for}

module _ (asker : Asker) (user : List ℕ) (shows : ℕ → Type 0) (cuts : Cuts) (told : Option Contents) (index : Index) (start : List Sent) (settled : Settled) where
  abbrev this : Sync
  this = sync_of asker user shows cuts told index

  -- a sync that stopped before its folder was touched
  pub all_stopped : (new : List Sent) (now : Option Contents) (f : SyncFault) → now ≡ told → Stops this start new f → FinishesSo this now index start new (Err f)
  all_stopped new now f same (more, grown, refuses) =
      (more, grown, subst (λ (held : Option Contents). Finishes this held index more (Err f)) (sym same) (refused_finishes this more f refuses))

  -- no change is told over a folder that tells what it holds
  unchanged : (before : List Sent) (commit : Commit) (tree : FetchedTree) → HasTree this before settled commit tree → (plan : Plan) (writes : List Write)
      → IsPlanned settled.scan index tree.entries (is_pushed settled.pushed) plan → AreMade tree.objects plan.writes writes → (f : SyncFault) → ChangesNot cuts settled.scan plan.doomed writes told f
      → (c : Contents) → told ≡ Some c → is_change f ≡ false
  unchanged before commit tree got plan writes planned made f none c is =
      let seen = got.reading.seen c is in
      let looks : LooksScanned cuts c settled.scan plan = planned.looks cuts c seen.scanned seen.within in
      let for = made_for tree.objects tree.objects (keeps_itself tree.objects) plan.writes writes made in
      none c is looks.gone_once looks.gone
      (subst (IsDistinct (eq_by_cmp path_cmp)) (planned_paths tree.objects plan.writes writes for) looks.due_once)
      (planned_looks tree.objects cuts (run (map Step.Removed plan.doomed) c) settled.scan plan.writes writes for looks.due)

  stop_grown : (old new more before : List Sent) → old ≡ start ++ before → new ≡ old ++ more → new ≡ start ++ (before ++ more)
  stop_grown old new more before begun grown = grown ∙ ap (λ (sends : List Sent). sends ++ more) begun ∙ append_assoc start before more

  -- the checkout stopped, or memory was wanting before or behind it
  change_stopped : (before : List Sent) (commit : Commit) (tree : FetchedTree) → HasTree this before settled commit tree → (IsDone settled index → ⊥)
      → MayChange settled.differs settled.scan.paths index.entries tree.entries → (plan : Plan) (writes : List Write)
      → IsPlanned settled.scan index tree.entries (is_pushed settled.pushed) plan → AreMade tree.objects plan.writes writes → (old new : List Sent) (now : Option Contents) (f : SyncFault)
      → old ≡ start ++ before → StopsChange asker cuts settled.scan plan writes old new told now f → FinishesSo this now index start new (Err f)
  unfolding stops_all
  change_stopped before commit tree got apart may plan writes planned made old new now f begun (inl (same, held, is)) =
      subst (λ (g : SyncFault). FinishesSo this now index start new (Err g)) (sym is)
      (all_stopped new now fault.NoMemory held (before, same ∙ begun, none_halts asker user shows cuts told index before settled commit tree got))
  change_stopped before commit tree got apart may plan writes planned made old new now f begun (inr (inl (stops, none))) = (
    before ++ stops.more,
    stop_grown old new stops.more before begun stops.grown,
    stopped_finishes asker user shows cuts told index before settled commit tree got plan writes planned made old new now f stops
        (unchanged before commit tree got plan writes planned made f none) apart may,
  )
  change_stopped before commit tree got apart may plan writes planned made old new now f begun (inr (inr (owns, out, is))) =
      subst (λ (g : SyncFault). FinishesSo this now index start new (Err g)) (sym is) (
        before ++ out.more,
        stop_grown old new out.more before begun out.grown,
        stopped_finishes asker user shows cuts told index before settled commit tree got plan writes planned made old new now fault.NoMemory
            (stops_all asker plan.doomed writes settled.scan cuts old new told now owns out) (λ c told_is. refl) apart may,
      )

  -- no step is begun
  unready_halts : (before : List Sent) (commit : Commit) (tree : FetchedTree) → HasTree this before settled commit tree → (IsDone settled index → ⊥) → (f : SyncFault)
      → IsUnready settled.scan index (is_pushed settled.pushed) settled.differs tree f → Refuses this before f
  unready_halts before commit tree got apart f (inl (never, is)) =
      subst (λ (g : SyncFault). Refuses this before g) (sym is) (changed_refuses asker user shows cuts told index before settled commit tree got never)
  unready_halts before commit tree got apart f (inr (may, inl un)) =
      plan_halts asker user shows cuts told index before settled commit tree got (goes_here asker user shows cuts told index before settled commit tree got apart may) f un
  unready_halts before commit tree got apart f (inr (may, inr is)) =
      subst (λ (g : SyncFault). Refuses this before g) (sym is) (none_halts asker user shows cuts told index before settled commit tree got)

  -- from where the commit was got
  bring_stopped : (first : List Sent) (commit : Commit) → HasCommit this first settled commit → (IsDone settled index → ⊥) → (old new : List Sent) (now : Option Contents) (f : SyncFault) → old ≡ start ++ first
      → BringsSo asker cuts settled.scan index (is_pushed settled.pushed) settled.differs commit.root old new told now (Err f) → FinishesSo this now index start new (Err f)
  bring_stopped first commit has apart old new now f begun (inl (halts, same)) =
      all_stopped new now f same (tree_halts asker user shows cuts told index start first settled commit has old new f begun halts)
  bring_stopped first commit has apart old new now f begun (inr (inl (tree, fetched, same, unready))) =
      let got = tree_got asker user shows cuts told index start first settled commit has old new tree begun fetched in
      all_stopped new now f same (got.0, got.1, unready_halts got.0 commit tree got.2 apart f unready)
  bring_stopped first commit has apart old new now f begun (inr (inr (mid, tree, plan, writes, ready, stops))) =
      let got = tree_got asker user shows cuts told index start first settled commit has old mid tree begun ready.fetched in
      change_stopped got.0 commit tree got.2 apart ready.may plan writes ready.planned ready.made mid new now f got.1 stops

  bring_done : (first : List Sent) (commit : Commit) → HasCommit this first settled commit → (IsDone settled index → ⊥) → (IsOwnHead settled index → ⊥) → (old new : List Sent) (now : Option Contents) (done : Done)
      → old ≡ start ++ first → BringsSo asker cuts settled.scan index (is_pushed settled.pushed) settled.differs commit.root old new told now (Ok done)
      → FinishesSo this now (index_of index settled done) start new (Ok (synced_of settled commit done))
  bring_done first commit has apart other old new now done begun (mid, tree, plan, writes, ready, changes) =
      let got = tree_got asker user shows cuts told index start first settled commit has old mid tree begun ready.fetched in (
        got.0 ++ changes.out.more,
        stop_grown mid new changes.out.more got.0 got.1 changes.out.grown,
        brought_finishes asker user shows cuts told index got.0 settled commit tree got.2 apart other plan writes ready.planned ready.made mid new now done changes ready.may,
      )

  -- ---- all of it

  -- an order for the head's commit failed, or what came of it did
  reach_halts : (first old new : List Sent) (now : Option Contents) (later : Index) (f : SyncFault) → IsSettled this first settled → old ≡ start ++ first
      → (IsDone settled index → ⊥) → ReachesAs asker cuts settled old new told now index later (Err f) → FinishesSo this now later start new (Err f)
  reach_halts first old new now later f is begun apart (kept, inl (halts, same)) =
      subst (λ (x : Index). FinishesSo this now x start new (Err f)) (sym kept)
      (all_stopped new now f same (commit_halts asker user shows cuts told index start first settled (reading_begins this first settled is) old new f begun halts))
  reach_halts first old new now later f is begun apart (kept, inr (mid, commit, fetched, listed, brings)) =
      let got = commit_got asker user shows cuts told index start first settled (reading_begins this first settled is) old mid commit begun fetched listed in
      subst (λ (x : Index). FinishesSo this now x start new (Err f)) (sym kept) (bring_stopped got.0 commit got.2 apart mid new now f got.1 brings)

  -- the head's commit was got, or an order for it failed
  reach_all : (first old new : List Sent) (now : Option Contents) (later : Index) (result : Result Synced SyncFault) → IsSettled this first settled → old ≡ start ++ first
      → (IsDone settled index → ⊥) → (IsOwnHead settled index → ⊥) → ReachesAs asker cuts settled old new told now index later result → FinishesSo this now later start new result
  reach_all first old new now later (Ok s) is begun apart other (mid, commit, done, fetched, listed, brings, later_is, tells) =
      let got = commit_got asker user shows cuts told index start first settled (reading_begins this first settled is) old mid commit begun fetched listed in
      subst (λ (x : Index). FinishesSo this now x start new (Ok s)) (sym later_is)
      (subst (λ (x : Synced). FinishesSo this now (index_of index settled done) start new (Ok x)) (sym tells)
      (bring_done got.0 commit got.2 apart other mid new now done got.1 brings))
  reach_all first old new now later (Err f) is begun apart other reaches = reach_halts first old new now later f is begun apart reaches

  -- no step was begun
  idle_halts : (first : List Sent) (f : SyncFault) → IsSettled this first settled → IsIdle settled index f → Refuses this first f
  idle_halts first f is (inl (done, differs, same)) =
      subst (λ (g : SyncFault). Refuses this first g) (sym same) (idle_refuses this first settled is done.1 differs)
  idle_halts first f is (inr none) = subst (λ (g : SyncFault). Refuses this first g) (sym none) (none_here this first settled is)

  pub finish_all : (first old new : List Sent) (now : Option Contents) (later : Index) (result : Result Synced SyncFault) → IsSettled this first settled → old ≡ start ++ first
      → FinishesAs asker user cuts settled old new told now index later result → FinishesSo this now later start new result
  finish_all first old new now later (Ok s) is begun (inl (done, agrees, same, held, kept, tells)) = (
    first,
    same ∙ begun,
    subst (λ (x : Option Contents). Finishes this x later first (Ok s)) (sym held)
        (subst (λ (x : Index). Finishes this told x first (Ok s)) (sym kept)
        (subst (λ (x : Synced). Finishes this told index first (Ok x)) (sym tells) (spared_finishes this first settled is done.0 done.1 agrees))),
  )
  finish_all first old new now later (Ok s) is begun (inr (inl (own, same, held, knows))) = (
    first,
    same ∙ begun,
    subst (λ (x : Option Contents). Finishes this x later first (Ok s)) (sym held)
        (subst (λ (x : Index). Finishes this told x first (Ok s)) (sym knows.0.2)
        (subst (λ (x : Synced). Finishes this told (record { lib = index.lib; base = Some settled.head; entries = knows.0.0 }) first (Ok x)) (sym knows.1)
        (own_finishes this first settled is own.0 own.1 knows.0.0 knows.0.1))),
  )
  finish_all first old new now later (Ok s) is begun (inr (inr (apart, other, reaches))) = reach_all first old new now later (Ok s) is begun apart other reaches
  finish_all first old new now later (Err f) is begun (inl (same, held, kept, idle)) =
      subst (λ (x : Index). FinishesSo this now x start new (Err f)) (sym kept) (all_stopped new now f held (first, same ∙ begun, idle_halts first f is idle))
  finish_all first old new now later (Err f) is begun (inr (apart, reaches)) = reach_halts first old new now later f is begun apart reaches

-- a sync that its rounds refused
pub refused_as : (asker : Asker) (user : List ℕ) (shows : ℕ → Type 0) (cuts : Cuts) (told now : Option Contents) (index : Index) (start new : List Sent) (f : SyncFault) → now ≡ told
    → Stops (sync_of asker user shows cuts told index) start new f → FinishesSo (sync_of asker user shows cuts told index) now index start new (Err f)
refused_as asker user shows cuts told now index start new f same (more, grown, refuses) = (
  more,
  grown,
  subst (λ (held : Option Contents). Finishes (sync_of asker user shows cuts told index) held index more (Err f)) (sym same)
      (refused_finishes (sync_of asker user shows cuts told index) more f refuses),
)

-- one that went on from its rounds
pub finished_as : (asker : Asker) (user : List ℕ) (shows : ℕ → Type 0) (cuts : Cuts) (told mid now : Option Contents) (index later : Index) (start old new : List Sent) (settled : Settled)
    (result : Result Synced SyncFault) → mid ≡ told → RoundsSo (sync_of asker user shows cuts told index) start old (Ok settled)
    → FinishesAs asker user cuts settled old new mid now index later result → FinishesSo (sync_of asker user shows cuts told index) now later start new result
finished_as asker user shows cuts told mid now index later start old new settled result same (more, grown, is) brings =
    finish_all asker user shows cuts told index start settled more old new now later result is grown
    (subst (λ (held : Option Contents). FinishesAs asker user cuts settled old new held now index later result) same brings)

-- ---- an index without a base

-- where there is a base each entry counts
counted_all : (base : Option (List ℕ)) (entries : fin.FinMap path_cmp Known) → is_some base ≡ true → counted_entries base entries ≡ entries
counted_all None entries is = absurd (true≢false (sym is))
counted_all (Some id) entries is = refl

abbrev with_entries : Index → fin.FinMap path_cmp Known → Index
with_entries i entries = record { lib = i.lib; base = i.base; entries = entries }

pub counted_based : (i : Index) → is_some i.base ≡ true → counted i ≡ i
counted_based i is = ap (with_entries i) (counted_all i.base i.entries is)

-- and where there is none, none does
abbrev with_base : Index → Option (List ℕ) → Index
with_base i base = record { lib = i.lib; base = base; entries = counted_entries base i.entries }

pub counted_fresh : (i : Index) → is_some i.base ≡ false → counted i ≡ record { lib = i.lib; base = None; entries = fin.empty }
counted_fresh i is = ap (with_base i) (none i.base is)
  where
    none : (base : Option (List ℕ)) → is_some base ≡ false → base ≡ None
    none None none_is = refl
    none (Some id) none_is = absurd (true≢false none_is)

spared_all : (i j : Index) (more : List Sent) (s : Synced) → IsSpared (counted i) j more s → IsSpared i j more s
spared_all i j more s is = record {
  pushed = is.pushed;
  head = is.head;
  none = is.none;
  conflict = is.conflict;
  same = λ path. is.same path ∙ ap (λ (entries : fin.FinMap path_cmp Known). fin.get entries path) (counted_all i.base i.entries (ap is_some is.head));
}

-- what is left for an index, where this was left for what counts of it
abbrev pub IsLeftFor : (i later j : Index) → Result Synced SyncFault → Type 0
IsLeftFor i later j (Ok s) = j ≡ later
IsLeftFor i later j (Err f) = j ≡ i

-- what is promised of a sync
pub synced_as : (secret user : List ℕ) (shows : ℕ → Type 0) (told now : Option Contents) (i other later j : Index) (start new : List Sent) (result : Result Synced SyncFault) → counted i ≡ other
    → IsLeftFor i later j result → SyncsIndex secret user shows told now other later start new result → SyncedAs secret user shows told now i j start new result
synced_as secret user shows told now i other later j start new result counts left syncs =
    by (subst (λ (x : Index). SyncsIndex secret user shows told now x later start new result) (sym counts) syncs)
  where
    leaves_all : (more : List Sent) (r : Result Synced SyncFault) → IsLeftFor i later j r → LeavesIndex (counted i) later more r → LeavesIndex i j more r
    leaves_all more (Err f) same leaves = same
    leaves_all more (Ok s) same (base, lib, inl spared) =
        subst (λ (x : Index). LeavesIndex i x more (Ok s)) (sym same) (base, lib, inl (spared_all i later more s spared))
    leaves_all more (Ok s) same (base, lib, inr (inl knows)) = subst (λ (x : Index). LeavesIndex i x more (Ok s)) (sym same) (base, lib, inr (inl knows))
    leaves_all more (Ok s) same (base, lib, inr (inr pushed)) = subst (λ (x : Index). LeavesIndex i x more (Ok s)) (sym same) (base, lib, inr (inr pushed))

    over_all : (cuts : Cuts) (c : Contents) (more : List Sent) (r : Result Synced SyncFault) → IsLeftFor i later j r → SyncsSo cuts c now (counted i) later user more shows r
        → SyncsSo cuts c now (counted i) j user more shows r
    over_all cuts c more (Err f) same over = over
    over_all cuts c more (Ok s) same over = subst (λ (x : Index). SyncsSo cuts c now (counted i) x user more shows (Ok s)) (sym same) over

    by : SyncsIndex secret user shows told now (counted i) later start new result → SyncedAs secret user shows told now i j start new result
    by (cuts, usual, (more, grown, is)) = record {
      cuts = cuts;
      usual = usual;
      more = more;
      grown = grown;
      orders = is.orders;
      ends = is.ends;
      leaves = leaves_all more result left is.leaves;
      skipped = is.skipped;
      keeps = is.keeps;
      sends = is.sends;
      over = λ c told_so. over_all cuts c more result left (is.over c told_so);
    }

-- the index of a sync, of which each entry counts
pub left_based : (secret user : List ℕ) (shows : ℕ → Type 0) (told now : Option Contents) (i later : Index) (start new : List Sent) (result : Result Synced SyncFault)
    → SyncsIndex secret user shows told now i later start new result → IsLeftFor i later later result
left_based secret user shows told now i later start new (Ok s) syncs = refl
left_based secret user shows told now i later start new (Err f) (cuts, usual, (more, grown, is)) = is.leaves
