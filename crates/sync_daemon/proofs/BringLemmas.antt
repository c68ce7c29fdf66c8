-- What the calls of the second half come to, put together. The key lemmas are stops_by, out_by, knows_by, brings_by, reaches_by,
-- halts_by, never_both, both_when, knows_finishes, knows_fails and reaches_finishes.
use Rattle.std.proofs.Common.{◌≡◌, ℕ, Bool, true, false, IsTrue, ◌↔◌, List, Option, Result, Ok, Err, refl, sym, ap, subst, ◌∙◌, inl, inr, true≢false}
use Rattle.std.specs.FinMap as fin
use Rattle.ids.specs.FaultCount.{FailsBy}
use Rattle.tree_model.specs.Path.{PathV, path_cmp}
use Rattle.block_chunker.specs.declared.cuts.Cuts.{Cuts}
use Rattle.commit_objects.specs.declared.commit.Commit.{Commit}
use Rattle.folder_side.specs.Folder.{Contents}
use Rattle.folder_side.specs.declared.scan_report.Scan.{Scan}
use Rattle.local_index.specs.declared.index.Index.{Index}
use Rattle.local_index.specs.declared.index.Known.{Known}
use Rattle.object_graph.specs.declared.entry.Entry.{Entry}
use Rattle.remote_calls.specs.Sends.{Sent}
use Rattle.sync_rules.specs.Causes.{is_folder_fault}
use Rattle.sync_rules.specs.declared.fault.SyncFault.{SyncFault}
use Rattle.sync_rules.specs.declared.synced.Synced.{Synced}
use Rattle.tree_checkout.specs.CheckingOut.{ChecksOut, StopsOut}
use Rattle.tree_checkout.specs.declared.planning.Plan.{Plan}
use Rattle.tree_checkout.specs.declared.steps.Write.{Write}
use Rattle.tree_fetch.specs.Fetching.{FetchesCommit, GotCommit}
use Rattle.tree_fetch.specs.declared.asker.Asker.{Asker}
use Rattle.tree_fetch.specs.declared.tree.FetchedTree.{FetchedTree}
use Rattle.sync_daemon.specs.Bringing.{BringsSo, ChangesNot, ChangesSo, FinishesAs, IsDone, IsOwnHead, IsReady, KnowsAs, KnowsSo, ReachesAs, StopsChange, index_of, is_pushed, source_of, tells_conflict, with_owns}
use Rattle.sync_daemon.specs.declared.bringing.Done.{Done}
use Rattle.sync_daemon.specs.declared.round.Settled.{Settled}

-- a checkout of what is to go and of what is written, as it was handed on
module _ (asker : Asker) (cuts : Cuts) (scan : Scan) (plan : Plan) (writes : List Write) (doomed : List PathV) (handed : List Write) (gone : doomed ≡ plan.doomed) (same : handed ≡ writes)
    (old new : List Sent) (told now : Option Contents) where
  pub stops_by : (f : SyncFault) → StopsOut (source_of asker) doomed handed scan cuts old new told now f → ChangesNot cuts scan doomed handed told f
      → StopsChange asker cuts scan plan writes old new told now f
  stops_by f stops none = inr (inl (
    subst (λ (d : List PathV). StopsOut (source_of asker) d writes scan cuts old new told now f) gone
        (subst (λ (w : List Write). StopsOut (source_of asker) doomed w scan cuts old new told now f) same stops),
    subst (λ (d : List PathV). ChangesNot cuts scan d writes told f) gone (subst (λ (w : List Write). ChangesNot cuts scan doomed w told f) same none),
  ))

  pub out_by : (owns : List (List ℕ)) → ChecksOut (source_of asker) doomed handed cuts old new told now owns → ChecksOut (source_of asker) plan.doomed writes cuts old new told now owns
  out_by owns out =
      subst (λ (d : List PathV). ChecksOut (source_of asker) d writes cuts old new told now owns) gone
      (subst (λ (w : List Write). ChecksOut (source_of asker) doomed w cuts old new told now owns) same out)

pub knows_by : (scan : Scan) (writes handed : List Write) (owns told : List (List ℕ)) (entries : fin.FinMap path_cmp Entry) (index : fin.FinMap path_cmp Known) → handed ≡ writes → told ≡ owns
    → KnowsAs scan (with_owns fin.empty handed told) entries index → KnowsAs scan (with_owns fin.empty writes owns) entries index
knows_by scan writes handed owns told entries index same are knows =
    subst (λ (w : List Write). KnowsAs scan (with_owns fin.empty w owns) entries index) same
    (subst (λ (o : List (List ℕ)). KnowsAs scan (with_owns fin.empty handed o) entries index) are knows)

pub brings_by : (asker : Asker) (cuts : Cuts) (scan : Scan) (index : Index) (pushed differs : Bool) (root : List ℕ) (old mid new : List Sent) (told now : Option Contents) (tree : FetchedTree)
    (plan : Plan) (writes : List Write) (result : Result Done SyncFault) → IsReady asker scan index pushed differs old mid root tree plan writes
    → ChangesSo asker cuts scan tree.entries plan writes mid new told now result → BringsSo asker cuts scan index pushed differs root old new told now result
brings_by asker cuts scan index pushed differs root old mid new told now tree plan writes (Ok done) ready changes = (mid, tree, plan, writes, ready, changes)
brings_by asker cuts scan index pushed differs root old mid new told now tree plan writes (Err f) ready stops = inr (inr (mid, tree, plan, writes, ready, stops))

-- what is told where the folder was brought to the head
abbrev pub told_of : Settled → (conflict : Bool) → Done → Synced
told_of settled conflict done = record {
  head = settled.head;
  pushed = settled.pushed;
  conflict = conflict;
  written = done.written;
  removed = done.removed;
  skipped = settled.scan.skipped;
  held = done.held;
}

-- it is not so, where a test of it fails
pub not_so : {P : Type 0} (b : Bool) → IsTrue b ↔ P → b ≡ false → P → ⊥
not_so b test none is = true≢false (sym (test.1 is) ∙ none)

-- two things are so, where each has its test
pub never_both : {P Q : Type 0} (b : Bool) → IsTrue b ↔ P → b ≡ false → IsTrue false ↔ (P × Q)
never_both b test none = ((λ is. absurd (true≢false (sym is))), (λ both. absurd (not_so b test none both.0)))

pub both_when : {P Q : Type 0} (b : Bool) → IsTrue b ↔ P → b ≡ true → (told : Bool) → IsTrue told ↔ Q → IsTrue told ↔ (P × Q)
both_when b test holds told right = ((λ is. (test.0 holds, right.0 is)), (λ both. right.1 both.1))

module _ (asker : Asker) (cuts : Cuts) (settled : Settled) (old mid new : List Sent) (told now : Option Contents) (index : Index) (commit : Commit)
    (fetched : FetchesCommit asker old mid settled.head (Ok commit)) (listed : GotCommit asker old mid settled.head commit) (pushed : Bool) (pushed_is : pushed ≡ is_pushed settled.pushed) where
  pub reaches_by : (done : Done) (conflict : Bool) → conflict ≡ tells_conflict settled.pushed settled.head commit.conflict
      → BringsSo asker cuts settled.scan index pushed settled.differs commit.root mid new told now (Ok done)
      → ReachesAs asker cuts settled old new told now index (index_of index settled done) (Ok (told_of settled conflict done))
  reaches_by done conflict conflict_is brings = (
    mid,
    commit,
    done,
    fetched,
    listed,
    subst (λ (b : Bool). BringsSo asker cuts settled.scan index b settled.differs commit.root mid new told now (Ok done)) pushed_is brings,
    refl,
    ap (λ (b : Bool). told_of settled b done) conflict_is,
  )

  pub halts_by : (f : SyncFault) → BringsSo asker cuts settled.scan index pushed settled.differs commit.root mid new told now (Err f)
      → ReachesAs asker cuts settled old new told now index index (Err f)
  halts_by f brings = (refl, inr (mid, commit, fetched, listed, subst (λ (b : Bool). BringsSo asker cuts settled.scan index b settled.differs commit.root mid new told now (Err f)) pushed_is brings))

-- ---- all of the second half

module _ (asker : Asker) (user : List ℕ) (cuts : Cuts) (settled : Settled) (old : List Sent) (told : Option Contents) (index later : Index) where
  -- the head is the commit that was pushed
  pub knows_finishes : (result : Result Synced SyncFault) → IsOwnHead settled index → KnowsSo user settled index later result
      → FinishesAs asker user cuts settled old old told told index later result
  knows_finishes (Ok s) own knows = inr (inl (own, refl, refl, knows))
  knows_finishes (Err f) own knows = inl (refl, refl, knows.0, inr knows.1)

  pub knows_fails : (result : Result Synced SyncFault) (faults : ℕ) → KnowsSo user settled index later result → FailsBy is_folder_fault faults faults result
  knows_fails (Ok s) faults knows = refl
  knows_fails (Err f) faults knows = subst (λ (g : SyncFault). FailsBy {T = Synced} is_folder_fault faults faults (Err g)) (sym knows.1) refl

  -- it is another
  pub reaches_finishes : (new : List Sent) (now : Option Contents) (result : Result Synced SyncFault) → (IsDone settled index → ⊥) → (IsOwnHead settled index → ⊥)
      → ReachesAs asker cuts settled old new told now index later result → FinishesAs asker user cuts settled old new told now index later result
  reaches_finishes new now (Ok s) apart other reaches = inr (inr (apart, other, reaches))
  reaches_finishes new now (Err f) apart other reaches = inr (apart, reaches)
