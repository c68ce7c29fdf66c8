-- What a folder holds that was brought to the head, and what it holds where that stopped. The key lemmas are brought_synced and
-- brought_stopped.
use Rattle.std.proofs.Common.{◌≡◌, ◌≢◌, ◌⊎◌, ◌&&◌, not, ℕ, Bool, true, false, All, List, [], ◌∷◌, ◌++◌, Option, None, Some, is_some, refl, sym, subst, ◌∙◌, inl, inr, true≢false}
use Rattle.std.specs.FinMap as fin
use Rattle.std.specs.List.{Contains}
use Rattle.std.specs.Option.{option_or}
use Rattle.std.specs.Str.{bytes_eq}
use Rattle.std.proofs.lemmas.Grind.{flat_map-append}
use Rattle.std.proofs.lemmas.List.Elements.{All-append, All-weaker}
use Rattle.ids.proofs.BasicLemmas.{same_from_bytes_eq}
use Rattle.std.proofs.lemmas.Slice.Eq.{bytes_eq-Decides}
use Rattle.ids.specs.Key.{Objects}
use Rattle.ids.specs.declared.key.Key.{Key}
use Rattle.tree_model.specs.Path.{PathV, path_cmp}
use Rattle.tree_model.specs.Tree.{Tree}
use Rattle.block_chunker.specs.declared.cuts.Cuts.{Cuts}
use Rattle.commit_objects.specs.declared.commit.Commit.{Commit}
use Rattle.folder_side.specs.Folder.{Contents, at}
use Rattle.folder_side.specs.ScanReport.{IsScan}
use Rattle.folder_side.specs.WorkingTree.{held_list}
use Rattle.folder_side.specs.declared.scan_report.Scan.{Scan}
use Rattle.local_index.specs.declared.index.Index.{Index}
use Rattle.object_graph.specs.Objects.{AreEntriesOf, entry_below}
use Rattle.object_graph.specs.Unchanged.{Keeps}
use Rattle.object_graph.specs.declared.entry.Entry.{Entry}
use Rattle.remote_calls.specs.Sends.{Sent}
use Rattle.sync_rules.specs.Checkout.{Front, IsPlan, Step, do_step, first_blocked, is_alone, run}
use Rattle.sync_rules.specs.Named.{asked_by, keys_asked}
use Rattle.sync_rules.specs.Offer.{IsOfferOf}
use Rattle.sync_rules.specs.Synced.{AsksWritten, IsConflict, IsOfWritten, IsSized}
use Rattle.tree_checkout.specs.CheckingOut.{AreFor, AreOf, checkout_steps}
use Rattle.tree_checkout.specs.Planning.{AreAlike, StandsFor, alone_at, plan_steps}
use Rattle.tree_checkout.specs.Steps.{AreSized}
use Rattle.tree_checkout.specs.declared.planning.Plan.{Plan}
use Rattle.tree_checkout.specs.declared.steps.Write.{Write}
use Rattle.tree_checkout.proofs.AskLemmas.{planned_steps, written_sized}
use Rattle.sync_daemon.specs.Bringing.{AreMade, IsPlanned, is_pushed, tells_conflict}
use Rattle.sync_daemon.proofs.HeadTreeLemmas.{PushedSo, tree_for}
use Rattle.sync_daemon.proofs.ReadingLemmas.{IsSmallKey}
use Rattle.sync_daemon.proofs.WrittenLemmas.{all_planned, made_for, made_objects, made_of}

-- ---- a conflict

pub conflict_told : (pushed : Option (List ℕ)) (head : List ℕ) (commit : Commit) → IsConflict pushed head commit (tells_conflict pushed head commit.conflict)
conflict_told None head commit = refl
conflict_told (Some mine) head commit = by commit.conflict refl (bytes_eq mine head) refl
  where
    by : (told : Bool) → commit.conflict ≡ told → (same : Bool) → bytes_eq mine head ≡ same
        → (((told && not same) ≡ true) × (head ≢ mine) × (commit.conflict ≡ true)) ⊎ (((told && not same) ≡ false) × ((head ≡ mine) ⊎ (commit.conflict ≡ false)))
    by true told false apart = inl (refl, (λ is. true≢false (sym ((bytes_eq-Decides mine head).1 (sym is)) ∙ apart)), told)
    by true told true same = inr (refl, inl (sym (same_from_bytes_eq mine head same)))
    by false told same is = inr (refl, inr told)

pushed_is : (pushed : Option (List ℕ)) → is_pushed pushed ≡ is_some pushed
pushed_is None = refl
pushed_is (Some commit) = refl

-- ---- the plan of a tree that was got

module _ (objects : Objects) (cuts : Cuts) (c : Contents) (scan : Scan) (is_scan : IsScan cuts c scan) (index : Index) (pushed : Option (List ℕ)) (held : Objects)
    (entries : fin.FinMap path_cmp Entry) (keeps : Keeps held objects) (root : List ℕ) (are : AreEntriesOf objects root entries) (plan : Plan) (writes : List Write)
    (planned : IsPlanned scan index entries (is_pushed pushed) plan) (made : AreMade held plan.writes writes)
    (alike : (tree : Tree) → StandsFor objects entries tree → AreAlike c (alone_at cuts c index entries (is_pushed pushed)) tree) where
  abbrev pub head_tree : Tree
  head_tree = (tree_for objects entries).0

  pub stands_for : StandsFor objects entries head_tree
  stands_for = (tree_for objects entries).1

  pub for_these : AreFor objects plan.writes writes
  for_these = made_for held objects keeps plan.writes writes made

  pub of_root : AreOf objects root writes
  of_root = made_of objects root entries are plan.writes writes (all_planned entries scan index (is_pushed pushed) plan.writes planned.written) for_these

  pub steps_are : plan_steps objects plan ≡ checkout_steps objects plan.doomed writes
  steps_are = planned_steps objects plan writes for_these

  pub none_blocked : first_blocked c (fin.entries head_tree) ≡ None
  none_blocked = (planned.plans cuts c is_scan objects head_tree stands_for).0

  -- which files are left alone, as the root tells it
  abbrev pub left_alone : PathV → Bool
  left_alone path = is_alone cuts (at c path) (fin.get index.entries path) (entry_below objects path root) (is_some pushed)

  pub plan_is : IsPlan head_tree c left_alone (checkout_steps objects plan.doomed writes)
  plan_is =
      let plans = planned.plans cuts c is_scan objects head_tree stands_for in
      subst (IsPlan head_tree c left_alone) steps_are
      (subst (λ (alone : PathV → Bool). IsPlan head_tree c alone (plan_steps objects plan))
      (λ i path. is_alone cuts (at c path) (fin.get index.entries path) (are path i) (pushed_is pushed i)) (plans.1 (alike head_tree stands_for)))

  pub held_is : plan.held ≡ held_list head_tree c
  held_is = (planned.plans cuts c is_scan objects head_tree stands_for).2

  pub sizes_right : AreSized objects writes → (path : PathV) (bytes : List ℕ) → Contains (checkout_steps objects plan.doomed writes) (Step.Wrote path bytes) → IsSized objects root path bytes
  sizes_right sized = written_sized objects root plan.doomed writes of_root (made_objects held objects keeps plan.writes writes made) sized

-- what was asked for before the checkout is no block
small_written : (objects : Objects) (root : List ℕ) (steps : List Step) (keys : List Key) → All IsSmallKey keys → All (IsOfWritten objects root steps) keys
small_written objects root steps keys small =
    All-weaker IsSmallKey (IsOfWritten objects root steps) (λ key is block. absurd (true≢false (sym block ∙ is))) keys small

pub asked_then_written : (objects : Objects) (root : List ℕ) (steps : List Step) (first more : List Sent) → All IsSmallKey (keys_asked first) → AsksWritten objects root steps more
    → AsksWritten objects root steps (first ++ more)
asked_then_written objects root steps first more small written =
    subst (All (IsOfWritten objects root steps)) (sym (flat_map-append (λ (sent : Sent). asked_by sent.0.what) first more))
    (All-append (IsOfWritten objects root steps) (keys_asked first) (keys_asked more) (small_written objects root steps (keys_asked first) small) written)

-- what was pushed, as the plan takes it
pub pushed_so : (objects : Objects) (cuts : Cuts) (c : Contents) (index : Index) (moment : ℕ) (user : List ℕ) (asked pushed : Option (List ℕ))
    → IsOfferOf objects cuts c index moment user asked pushed → PushedSo objects cuts c index moment user (is_pushed pushed)
pushed_so objects cuts c index moment user asked None offer none = absurd (true≢false (sym none))
pushed_so objects cuts c index moment user asked (Some commit) offer some = (option_or index.base asked, commit, offer.1)

-- ---- a front of the steps, written as the front of both lists

front_all : (steps : List Step) (c : Contents) → Front steps c (run steps c)
front_all [] c = Front.stopped [] c
front_all (step ∷ steps) c = Front.went step steps c (run (step ∷ steps) c) (front_all steps (do_step step c))

pub done_front : (steps : List Step) (c d : Contents) → Some d ≡ Some (run steps c) → Front steps c d
done_front steps c d is = let same : run steps c ≡ d = cc in subst (Front steps c) same (front_all steps c)
