-- The tree of a new head. The key lemma is merged_head.
use Rattle.std.proofs.Common.{◌≡◌, ◌≢◌, inl, inr, ℕ, true, List, [], ◌∷◌, Result, Ok, Err, refl, sym, ap, subst, ◌∙◌}
use Rattle.ids.specs.Key.{Objects}
use Rattle.commit_objects.specs.declared.commit.Commit.{Commit}
use Rattle.conflict_names.specs.Naming.{merge_of, naming}
use Rattle.library_state.specs.declared.history.Install.{Install}
use Rattle.object_graph.specs.Objects.{same_id, commit_at, IsTreeOf}
use Rattle.object_graph.specs.Traversal.{IsComplete}
use Rattle.object_graph.specs.declared.fault.TreeFault.{TreeFault}
use Rattle.object_graph.proofs.CommitLemmas.{commit_root}
use Rattle.object_graph.proofs.FittingLemmas.{root_fits, root_is_tree, one_tree}
use Rattle.tree_model.specs.ThreeWayMerge.{MergedTree}
use Rattle.tree_model.specs.Tree.{Tree, IsTree, Fits, IsAlike, file_at}
use Rattle.tree_model.proofs.FileMergeLemmas.{same_file-itself}
use Rattle.tree_model.proofs.UnmovedLemmas.{merge_unmoved_head}
use Rattle.library_rules.specs.Changes.{apply, with_added, without}
use Rattle.library_rules.specs.Heads.{TakesIn, HasBase, IsMergedHead, IsExact}
use Rattle.library_rules.specs.LibraryState.{State, is_kept, head_of}
use Rattle.library_rules.specs.MergeCommit.{RootTree, IsTreeAt, OfTrees, merge_commit, Makes}
use Rattle.library_rules.specs.declared.entry.Entry.{Entry}
use Rattle.library_rules.proofs.HeadsLemmas.{taken_in, base_kept, head_after}
use Rattle.library_rules.proofs.MemberLemmas.{same_id-true, same_id-itself}
use Rattle.library_rules.proofs.StepLemmas.{objects_after}
use Rattle.std.proofs.lemmas.Bool.{or_left, or_right}

-- ---- the head is kept

pub head_kept : (installs : List Install) → installs ≢ [] → is_kept installs (head_of installs) ≡ true
head_kept [] some = absurd (some refl)
head_kept (install ∷ []) some = or_left (same_id install.head install.head) _ (same_id-itself install.head)
head_kept (install ∷ next ∷ installs) some =
    or_right (same_id (head_of (next ∷ installs)) install.head) _
    (or_right (same_id (head_of (next ∷ installs)) install.pushed) (is_kept (next ∷ installs) (head_of (next ∷ installs))) (head_kept (next ∷ installs) (λ e. cc)))

-- ---- trees of commits

same_tree : (A : Objects) (r : Result Commit TreeFault) (t u : Tree) → RootTree A r t → RootTree A r u → t ≡ u
same_tree A (Ok commit) t u first second = one_tree A commit.root t u first second
same_tree A (Err fault) t u first second = absurd first

is_tree : (A : Objects) (r : Result Commit TreeFault) (t : Tree) → RootTree A r t → IsTree t
is_tree A (Ok commit) t is = root_is_tree A commit.root t is
is_tree A (Err fault) t is = absurd is

fits_at : (A : Objects) (id : List ℕ) (t : Tree) → IsComplete A id → IsTreeAt A id t → Fits t
fits_at A id t complete is =
    let read = commit_root A id complete in
    let commit = read.0 in
    let own = root_fits A commit.root read.2 in
    let here : IsTreeOf A commit.root t = subst (λ r. RootTree A r t) read.1 is in
    subst Fits (one_tree A commit.root own.0 t own.1 here) own.2

alike_itself : (t : Tree) → IsAlike t t
alike_itself t = record { dirs = λ path. refl; files = λ path. same_file-itself (file_at t path) }

-- ---- a head that hadn't moved

-- the merge is like the pushed tree
forwarded : (s : State) (base pushed : List ℕ) → same_id base (head_of s.state.kept) ≡ true → IsComplete s.objects pushed
    → OfTrees s base pushed (λ sides. (merged made : Tree) × (merge_of sides ≡ MergedTree merged) × IsTreeAt s.objects pushed made × IsAlike merged made)
forwarded s base pushed same complete b h p base_tree head_tree pushed_tree =
    let moved_tree : IsTreeAt s.objects (head_of s.state.kept) b = subst (λ id. IsTreeAt s.objects id b) (same_id-true base (head_of s.state.kept) same) base_tree in
    let equal : b ≡ h = same_tree s.objects (commit_at s.objects (head_of s.state.kept)) b h moved_tree head_tree in
    let alike : IsAlike b h = subst (λ t. IsAlike b t) equal (alike_itself b) in
    let like = merge_unmoved_head naming b h p (is_tree s.objects (commit_at s.objects base) b base_tree) (is_tree s.objects (commit_at s.objects (head_of s.state.kept)) h head_tree) (fits_at s.objects pushed p complete pushed_tree) alike in
    (like.tree, p, like.is, pushed_tree, like.alike)

-- ---- a made head

made_tree : (s : State) (moment : ℕ) (user base pushed new : List ℕ) (e : Entry) → Makes s moment user base pushed new e.added
    → OfTrees s base pushed (λ sides. (merged : Tree) × (merge_of sides ≡ MergedTree merged) × IsTreeAt (with_added s.objects e.added) new merged)
made_tree s moment user base pushed new e makes b h p base_tree head_tree pushed_tree =
    let is = makes.tree b h p base_tree head_tree pushed_tree in
    let A = with_added s.objects e.added in
    let there : RootTree A (Ok (merge_commit s moment user pushed makes.root makes.conflict)) is.0 = is.2 in
    (is.0, is.1, subst (λ r. RootTree A r is.0) (sym makes.is_commit) there)

-- ---- both

pub merged_head : (s : State) (e : Entry) (pushed new : List ℕ) → TakesIn s e pushed new → (base : List ℕ) × HasBase s base pushed × IsMergedHead s (apply s e) base pushed new × IsExact s (apply s e) base pushed new
merged_head s e pushed new takes =
    let taken = taken_in s e takes.call pushed new takes.permits takes.asked takes.updates takes.answers takes.unknown in
    let base = taken.0.base in
    let kept = base_kept s pushed base taken.0.found in
    let has : HasBase s base pushed = record {
      found = taken.0.found;
      kept = kept;
      base_complete = takes.sound.kept.complete base kept;
      head_complete = takes.sound.kept.complete (head_of s.state.kept) (head_kept s.state.kept takes.sound.kept.some_kept);
      pushed_complete = taken.0.complete;
    } in
    let head = head_after s e takes.call pushed new takes.asked takes.updates takes.answers takes.unknown in
    let grown = objects_after s e ∙ ap (λ removed. without (with_added s.objects e.added) removed) taken.1 in
    let Result : Type 0 = IsMergedHead s (apply s e) base pushed new × IsExact s (apply s e) base pushed new in
    let both = elim taken.0.came as (λ _. Result) [
      | inl forward ↦
          let same_objects : (apply s e).objects ≡ s.objects = grown ∙ ap (with_added s.objects) forward.2 in
          let like = forwarded s base pushed forward.0 taken.0.complete in (
            record {
              head = head;
              tree = λ b h p base_tree head_tree pushed_tree.
                  let is = like b h p base_tree head_tree pushed_tree in
                  let moved_on : IsTreeAt (apply s e).objects pushed is.1 = subst (λ A. IsTreeAt A pushed is.1) (sym same_objects) is.3 in
                  (is.0, is.1, is.2, subst (λ id. IsTreeAt (apply s e).objects id is.1) (sym forward.1) moved_on, is.4);
            },
            inl (same_id-true base (head_of s.state.kept) forward.0, forward.1, same_objects),
          )
      | inr made ↦
          let made_is = made_tree s e.moment made.0 base pushed new e made.1 in
          let at_new : OfTrees s base pushed (λ sides. (merged : Tree) × (merge_of sides ≡ MergedTree merged) × IsTreeAt (apply s e).objects new merged) =
          λ b h p base_tree head_tree pushed_tree.
          let is = made_is b h p base_tree head_tree pushed_tree in
          (is.0, is.1, subst (λ A. IsTreeAt A new is.0) (sym grown) is.2) in (
            record {
              head = head;
              tree = λ b h p base_tree head_tree pushed_tree.
                  let is = at_new b h p base_tree head_tree pushed_tree in
                  (is.0, is.0, is.1, is.2, alike_itself is.0);
            },
            inr at_new,
          )
    ] in
    (base, has, both.0, both.1)
