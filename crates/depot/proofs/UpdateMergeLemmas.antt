-- A merge that is planned or refused. The key lemmas are root_fault, roots_whole, merge_refuses, merge_damage and merges_so.
use Rattle.std.proofs.Common.{◌≡◌, ◌≢◌, ◌⊎◌, inl, inr, ℕ, ◌==◌, Bool, true, false, not, List, [], ◌∷◌, ◌++◌, append-nil, length, refl, sym, ap, ◌∙◌, subst, true≢false, Option, None, Some, is_some, Result, Ok, Err}
use Rattle.std.specs.FinMap as map
use Rattle.std.specs.Prelude.{⊤}
use Rattle.std.specs.List.{AllByRecursion, IsDistinct}
use Rattle.std.specs.Ordering.{eq_by_cmp}
use Rattle.std.specs.Str.{bytes_eq}
use Rattle.sha1.specs.Sha1.{sha1}
use Rattle.ids.specs.Key.{Objects, key_cmp}
use Rattle.ids.specs.ObjectId.{nil}
use Rattle.ids.specs.declared.key.Key.{Key}
use Rattle.ids.specs.declared.key.Kind.TheVariants as kind
use Rattle.commit_objects.specs.Commit.{commit_of}
use Rattle.commit_objects.specs.Proper.{IsProper}
use Rattle.commit_objects.specs.Spelling.{text_of}
use Rattle.commit_objects.specs.declared.commit.Commit.{Commit}
use Rattle.conflict_names.specs.Naming.{merge_of, naming}
use Rattle.library_rules.specs.Calls.{other_bytes}
use Rattle.library_rules.specs.Changes.{keys_added, with_added}
use Rattle.library_rules.specs.LibraryState.{State, head_of, is_stored}
use Rattle.library_rules.specs.MergeCommit.{Clash, Clashes, ClashesAt, IsCommitObject, IsDirectoryObject, IsMade, IsMergedDirectory, IsTreeAt, Makes, OfTrees, RootTree, has_conflict, zeros, stored, another, IsMadeOf}
use Rattle.library_rules.specs.declared.entry.Stored.{Stored}
use Rattle.library_rules.proofs.HistoryLemmas.{commit_visited}
use Rattle.library_rules.proofs.KeepingLemmas.{grown}
use Rattle.library_rules.proofs.MemberLemmas.{same_id-itself}
use Rattle.library_rules.proofs.ProperTextLemmas.{complete_not_zeros}
use Rattle.library_state.specs.declared.refusal.Refusal.{Refusal}
use Rattle.library_state.specs.declared.refusal.Refusal.TheVariants as refusal
use Rattle.library_state.specs.declared.state.LibState.{LibState}
use Rattle.object_graph.specs.Objects.{IsTreeOf, commit_at, commit_key, fs_key, is_nil, IsNilWhereNoPath}
use Rattle.object_graph.specs.Traversal.{IsComplete, IsCompleteRoot, is_in, needs, start, walk_root}
use Rattle.object_graph.specs.Unchanged.{Keeps}
use Rattle.object_graph.specs.declared.fault.TreeFault.{TreeFault}
use Rattle.object_graph.proofs.CommitLemmas.{commit_root}
use Rattle.object_graph.proofs.FittingLemmas.{root_fits}
use Rattle.object_graph.proofs.KeyLemmas.{same_key, same_key-true}
use Rattle.object_store.specs.StoreView.{Index}
use Rattle.object_store.specs.declared.shelf.Slot.{Slot as ShelfSlot}
use Rattle.tree_merge.specs.Merging.{IsDirectoryIn, IsMerged, IsTaken, MergesTo, CannotStore, AreComplete as AreWhole}
use Rattle.tree_merge.specs.Merging as merging
use Rattle.tree_merge.specs.TreeBuilding.{AreNamed as AreOwn, IsOwnName}
use Rattle.tree_merge.specs.declared.merging.MergeFault.{MergeFault}
use Rattle.tree_merge.specs.declared.merging.MergeFault.TheVariants as merge
use Rattle.tree_merge.specs.declared.merging.Merged.{Merged}
use Rattle.tree_model.specs.ConflictCopies.{conflicts}
use Rattle.tree_model.specs.DirectorySurvival.{Sides}
use Rattle.tree_model.specs.ThreeWayMerge as merged
use Rattle.tree_model.specs.Tree.{Tree}
use Rattle.tree_walk.specs.Reading.{AnswersRead, CausedBy, IsDue}
use Rattle.tree_walk.specs.declared.fault.WalkFault.{WalkFault}
use Rattle.depot.specs.Answering.{MayRefuseUpdate}
use Rattle.depot.specs.DepotView.{library}
use Rattle.depot.specs.ObjectCalls.{IsToldDamageOf}
use Rattle.depot.specs.UpdateMerge.{AreComplete, HasRoot, HasRoots, IsPlanOf, PlansMade, TextSo, commit_over, has_copies}
use Rattle.depot.specs.Plan.{listed, objects_in, own_object}
use Rattle.depot.specs.UpdatePlan.{MergeRefuses, MergesSo}
use Rattle.depot.specs.declared.update_merge.Roots.{Roots}
use Rattle.depot.specs.declared.plan.Plan.{Plan}
use Rattle.depot.proofs.RefusalsLemmas.{may_refuse, none_due, walk_not_damaged}
use Rattle.depot.proofs.UpdateBaseLemmas.{told_merge}
use Rattle.depot.proofs.UpdateListedLemmas.{all_join, found_added, found_in, found_last, found_listed, listed_all, listed_once, once_pushed}
use Rattle.depot.specs.Refusals.{merge_refusal, walk_refusal}
use Rattle.depot.proofs.UpdateMadeLemmas.{commit_complete, commit_reads, copies_is, root_needed}
use Rattle.ids.proofs.BasicLemmas.{same_from_bytes_eq}

-- why a merge is refused, over any shelf
pub merge_may : (index : Index) (may_give : ShelfSlot → Option (List ℕ) → Type 0) (fault : MergeFault) → merging.IsCaused fault
    → CausedBy {T = ⊤} index may_give (merging.as_read {T = Merged} (Err fault)) → MayRefuseUpdate index may_give (merge_refusal fault)
merge_may index may_give (merge.TooLong path size) caused cause = tt
merge_may index may_give (merge.TooMany paths) caused cause = tt
merge_may index may_give (merge.Taken id) caused cause = inr (inl caused)
merge_may index may_give (merge.Walk fault) caused cause = may_refuse index may_give fault cause

-- ---- roots

pub root_fault : (objects : Objects) (id : List ℕ) (fault : WalkFault) → IsComplete objects id → AnswersRead {T = Commit} objects (commit_at objects id) (Err fault) → IsDue objects None fault
root_fault objects id fault complete read =
    let whole = commit_root objects id complete in
    subst (λ (r : Result Commit TreeFault). AnswersRead {T = Commit} objects r (Err fault)) whole.1 read

ok_same : (r : Result Commit TreeFault) (x y : Commit) → r ≡ Ok x → r ≡ Ok y → x ≡ y
ok_same r x y e f = cc

root_whole : (objects : Objects) (id root : List ℕ) → HasRoot objects id root → IsComplete objects id → IsCompleteRoot objects root
root_whole objects id root has complete =
    let whole = commit_root objects id complete in
    subst (IsCompleteRoot objects) (ap (λ (c : Commit). c.root) (ok_same (commit_at objects id) whole.0 has.commit whole.1 has.reads) ∙ has.is) whole.2

pub roots_whole : (objects : Objects) (base head pushed : List ℕ) (roots : Roots) → AreComplete objects base head pushed → HasRoots objects base head pushed roots
    → AreWhole objects roots.base roots.head roots.pushed
roots_whole objects base head pushed roots complete has = record {
  base_whole = root_whole objects base roots.base has.of_base complete.base_complete;
  head_whole = root_whole objects head roots.head has.of_head complete.head_complete;
  pushed_whole = root_whole objects pushed roots.pushed has.of_pushed complete.pushed_complete;
}

root_tree : (objects : Objects) (id root : List ℕ) (t : Tree) → HasRoot objects id root → IsTreeAt objects id t → IsTreeOf objects root t
root_tree objects id root t has at =
    subst (λ r. IsTreeOf objects r t) has.is (subst (λ (r : Result Commit TreeFault). RootTree objects r t) has.reads at)

pub at_head : (objects : Objects) (base one other pushed : List ℕ) → one ≡ other → AreComplete objects base other pushed → AreComplete objects base one pushed
at_head objects base one other pushed same are = subst (λ h. AreComplete objects base h pushed) (sym same) are

-- the roots that were read, of the head
pub roots_at : (objects : Objects) (base one other pushed : List ℕ) (roots : Roots) → one ≡ other → AreComplete objects base other pushed
    → (AreComplete objects base one pushed → HasRoots objects base one pushed roots) → HasRoots objects base other pushed roots
roots_at objects base one other pushed roots same are has = subst (λ h. HasRoots objects base h pushed roots) same (has (at_head objects base one other pushed same are))

-- ---- what is refused

other_there : (o : Option (List ℕ)) (other bytes : List ℕ) → o ≡ Some other → other ≢ bytes → other_bytes o bytes ≡ true
other_there o other bytes is differs = ap (λ p. other_bytes p bytes) is ∙ by (bytes_eq other bytes) refl
  where
    by : (b : Bool) → bytes_eq other bytes ≡ b → not (bytes_eq other bytes) ≡ true
    by true e = absurd (differs (same_from_bytes_eq other bytes e))
    by false e = ap not e

module _ (state : LibState) (count : ℕ) (objects : Objects) (moment : ℕ) (user base pushed : List ℕ) (roots : Roots)
    (complete : AreComplete objects base (head_of state.kept) pushed) (has : HasRoots objects base (head_of state.kept) pushed roots) where
  abbrev s : State
  s = library state count objects

  -- the trees of the three roots
  of_trees : (P : Sides → Type 0)
      → ((sides : Sides) → IsTreeOf objects roots.base sides.base → IsTreeOf objects roots.head sides.head → IsTreeOf objects roots.pushed sides.pushed → P sides) → OfTrees s base pushed P
  of_trees P each = λ b h p of_b of_h of_p.
      each (record { base = b; head = h; pushed = p }) (root_tree objects base roots.base b has.of_base of_b) (root_tree objects (head_of state.kept) roots.head h has.of_head of_h)
      (root_tree objects pushed roots.pushed p has.of_pushed of_p)

  -- there are such trees
  some_trees : (P : Type 0)
      → ((sides : Sides) → IsTreeOf objects roots.base sides.base → IsTreeOf objects roots.head sides.head → IsTreeOf objects roots.pushed sides.pushed → P) → P
  some_trees P each =
      let b = root_fits objects roots.base (root_whole objects base roots.base has.of_base complete.base_complete) in
      let h = root_fits objects roots.head (root_whole objects (head_of state.kept) roots.head has.of_head complete.head_complete) in
      let p = root_fits objects roots.pushed (root_whole objects pushed roots.pushed has.of_pushed complete.pushed_complete) in
      each (record { base = b.0; head = h.0; pushed = p.0 }) b.1 h.1 p.1

  abbrev AllSides : (Sides → Type 0) → Type 0
  AllSides P = (sides : Sides) → IsTreeOf objects roots.base sides.base → IsTreeOf objects roots.head sides.head → IsTreeOf objects roots.pushed sides.pushed → P sides

  merged_directory : (tree : Tree) (bytes : List ℕ) → IsDirectoryIn objects tree bytes → IsMergedDirectory s tree (record { key = fs_key (sha1 bytes); bytes = bytes })
  merged_directory tree bytes within = record {
    object = record { entries = within.entries; some = within.some; reads = within.reads; named = refl };
    within = record { path = within.path; is_dir = within.is_dir; nodes = within.nodes; zeros = within.zeros };
  }

  clash_of : (tree : Tree) (bytes : List ℕ) → CannotStore objects tree (sha1 bytes) bytes → Clash s tree (record { key = fs_key (sha1 bytes); bytes = bytes })
  clash_of tree bytes (merging.zeros is) = zeros (ap is_nil is ∙ same_id-itself nil)
  clash_of tree bytes (merging.stored other there differs) = stored (other_there (map.get objects (fs_key (sha1 bytes))) other bytes there differs)
  clash_of tree bytes (merging.another other within own differs) =
      another (record { key = fs_key (sha1 other); bytes = other }) (merged_directory tree other within) (ap fs_key (sym own)) differs

  clash_at : (id : List ℕ) (sides : Sides) → IsTaken objects sides id → ClashesAt s moment user pushed id sides
  clash_at id sides taken = record {
    tree = taken.tree;
    merged = taken.is;
    one = record { key = fs_key (sha1 taken.bytes); bytes = taken.bytes };
    is_made = inl (merged_directory taken.tree taken.bytes taken.within);
    at = sym taken.own;
    clash = clash_of taken.tree taken.bytes (subst (λ i. CannotStore objects taken.tree i taken.bytes) taken.own taken.clash);
  }

  pub merge_refuses : (fault : MergeFault) → AllSides (λ sides. MergesTo objects sides (Err fault)) → MergeRefuses s moment user base pushed (merge_refusal fault)
  merge_refuses (merge.TooLong path size) each = of_trees (λ sides. merge_of sides ≡ merged.TooLong path size) each
  merge_refuses (merge.TooMany paths) each = of_trees (λ sides. merge_of sides ≡ merged.TooMany paths) each
  merge_refuses (merge.Taken id) each = record { of_trees = of_trees (ClashesAt s moment user pushed id) (λ sides b h p. clash_at id sides (each sides b h p)) }
  merge_refuses (merge.Walk fault) each = told_merge s moment user base pushed (walk_refusal fault) (none_due objects fault (some_trees (IsDue objects None fault) each))

  pub merge_damage : (fault : MergeFault) → AllSides (λ sides. MergesTo objects sides (Err fault)) → IsToldDamageOf objects (merge_refusal fault)
  merge_damage (merge.TooLong path size) each = tt
  merge_damage (merge.TooMany paths) each = tt
  merge_damage (merge.Taken id) each = tt
  merge_damage (merge.Walk fault) each = walk_not_damaged objects None fault (some_trees (IsDue objects None fault) each)

  -- ---- what is made

  module _ (result : Merged) (each : AllSides (λ sides. MergesTo objects sides (Ok result))) (own : AreOwn result.made) where
    abbrev commit : Commit
    commit = commit_over s moment user pushed result

    abbrev dirs : List Stored
    dirs = listed (map.entries result.made)

    absent_stored : (o : Option (List ℕ)) → o ≡ None → is_some o ≡ false
    absent_stored o e = ap is_some e

    -- by any sides
    new_key : (key : Key) (bytes : List ℕ) → map.get result.made key ≡ Some bytes → is_stored objects key ≡ false
    new_key key bytes there =
        absent_stored (map.get objects key) (some_trees (map.get objects key ≡ None) (λ sides b h p. (each sides b h p).new key (ap is_some there)))

    dirs_gone : AllByRecursion (λ (x : Stored). is_stored objects x.key ≡ false) dirs
    dirs_gone = listed_all (λ x. is_stored objects x.key ≡ false) result.made new_key

    own_key : (key : Key) (bytes : List ℕ) → IsOwnName key bytes → key ≡ fs_key (sha1 bytes)
    own_key key bytes named = ap (λ k. record { kind = k; id = key.id }) named.is_fs ∙ ap (λ i. record { kind = kind.Fs; id = i }) named.is_sha1

    dirs_made : AllByRecursion IsDirectoryObject dirs
    dirs_made = listed_all IsDirectoryObject result.made (λ key bytes there. by key bytes (own key bytes there)
        (some_trees (IsDirectoryObject (record { key = fs_key (sha1 bytes); bytes = bytes })) (λ sides b h p.
        let dir = (each sides b h p).dirs key bytes there in
        record { entries = dir.entries; some = dir.some; reads = dir.reads; named = refl })))
      where
        by : (key : Key) (bytes : List ℕ) → IsOwnName key bytes → IsDirectoryObject (record { key = fs_key (sha1 bytes); bytes = bytes }) → IsDirectoryObject (record { key = key; bytes = bytes })
        by key bytes named dir = subst (λ k. IsDirectoryObject (record { key = k; bytes = bytes })) (sym (own_key key bytes named)) dir

    other_kind : (id : List ℕ) (key : Key) → key.kind ≡ kind.Fs → same_key key (commit_key id) ≡ false
    other_kind id key fs = by (same_key key (commit_key id)) refl
      where
        never : key ≡ commit_key id → ⊥
        never e = let k : kind.Fs ≡ kind.Commit = sym fs ∙ ap (λ (q : Key). q.kind) e in cc

        by : (b : Bool) → same_key key (commit_key id) ≡ b → same_key key (commit_key id) ≡ false
        by true e = absurd (never (same_key-true key (commit_key id) e))
        by false e = e

    kind_other : (id : List ℕ) (key : Key) → key.kind ≡ kind.Fs → same_key (commit_key id) key ≡ false
    kind_other id key fs = by (same_key (commit_key id) key) refl
      where
        never : commit_key id ≡ key → ⊥
        never e = let k : kind.Commit ≡ kind.Fs = ap (λ (q : Key). q.kind) e ∙ fs in cc

        by : (b : Bool) → same_key (commit_key id) key ≡ b → same_key (commit_key id) key ≡ false
        by true e = absurd (never (same_key-true (commit_key id) key e))
        by false e = e

    apart_from : (id : List ℕ) → AllByRecursion (λ (x : Stored). same_key x.key (commit_key id) ≡ false) dirs
    apart_from id = listed_all (λ x. same_key x.key (commit_key id) ≡ false) result.made (λ key bytes there. other_kind id key (own key bytes there).is_fs)

    from_apart : (id : List ℕ) → AllByRecursion (λ (x : Stored). same_key (commit_key id) x.key ≡ false) dirs
    from_apart id = listed_all (λ x. same_key (commit_key id) x.key ≡ false) result.made (λ key bytes there. kind_other id key (own key bytes there).is_fs)

    abbrev added : Option (List ℕ) → List Stored
    added text = dirs ++ own_object commit.id text

    all_gone : (text : Option (List ℕ)) → TextSo objects commit text → AllByRecursion (λ (x : Stored). is_stored objects x.key ≡ false) (added text)
    all_gone None is = all_join (λ (x : Stored). is_stored objects x.key ≡ false) dirs [] dirs_gone tt
    all_gone (Some text) is = all_join (λ (x : Stored). is_stored objects x.key ≡ false) dirs (record { key = commit_key commit.id; bytes = text } ∷ []) dirs_gone
        (absent_stored (map.get objects (commit_key commit.id)) is.0, tt)

    all_once : (text : Option (List ℕ)) → IsDistinct (eq_by_cmp key_cmp) (keys_added (added text))
    all_once None = subst (λ xs. IsDistinct (eq_by_cmp key_cmp) (keys_added xs)) (sym (append-nil dirs)) (listed_once result.made)
    all_once (Some text) = once_pushed dirs (record { key = commit_key commit.id; bytes = text }) (listed_once result.made) (apart_from commit.id)

    keeps_made : (text : Option (List ℕ)) → TextSo objects commit text → Keeps result.made (with_added objects (added text))
    keeps_made text is = record {
      kept = λ key bytes there.
          found_added objects (added text) key bytes (all_gone text is) (all_once text)
          (found_listed (map.entries result.made) (own_object commit.id text) key bytes (sym (map.get-entries result.made key) ∙ there));
    }

    commit_there : (text : Option (List ℕ)) → TextSo objects commit text → map.get (with_added objects (added text)) (commit_key commit.id) ≡ Some (text_of commit)
    commit_there None is = (grown objects (added None)).kept (commit_key commit.id) (text_of commit) is
    commit_there (Some text) is =
        found_added objects (added (Some text)) (commit_key commit.id) (text_of commit) (all_gone (Some text) is) (all_once (Some text))
        (found_last dirs (record { key = commit_key commit.id; bytes = text }) (from_apart commit.id) ∙ ap Some is.1)

    proper : is_nil commit.id ≡ false → IsProper commit
    proper some = record {
      id = λ e. true≢false (sym (ap is_nil e ∙ same_id-itself nil) ∙ some);
      parent = complete_not_zeros objects (head_of state.kept) complete.head_complete;
      second_parent = complete_not_zeros objects pushed complete.pushed_complete;
    }

    has_copies_is : (sides : Sides) → IsMerged objects sides result → has_copies result ≡ has_conflict sides
    has_copies_is sides is = ap (λ places. not (length places == 0)) is.conflicts ∙ copies_is (conflicts naming sides)

    tree_same : (m : merged.Merge) (t u : Tree) → m ≡ merged.MergedTree t → m ≡ merged.MergedTree u → t ≡ u
    tree_same m t u e f = cc

    root_zeros : (sides : Sides) → IsMerged objects sides result → (t : Tree) → merge_of sides ≡ merged.MergedTree t → IsNilWhereNoPath t result.root
    root_zeros sides is t at = subst (λ u. IsNilWhereNoPath u result.root) (tree_same (merge_of sides) is.tree t is.is at) is.zeros

    -- each directory that was made is one of the merged tree
    dirs_merged : (sides : Sides) → IsMerged objects sides result → (t : Tree) → merge_of sides ≡ merged.MergedTree t → AllByRecursion (IsMergedDirectory s t) dirs
    dirs_merged sides is t at =
        listed_all (IsMergedDirectory s t) result.made (λ key bytes there.
        subst (λ k. IsMergedDirectory s t (record { key = k; bytes = bytes })) (sym (own_key key bytes (own key bytes there)))
        (merged_directory t bytes (subst (λ u. IsDirectoryIn objects u bytes) (tree_same (merge_of sides) is.tree t is.is at) (is.dirs key bytes there))))

    -- all objects that are stored then
    abbrev more : Option (List ℕ) → Objects
    more text = with_added objects (added text)

    makes_text : (text : Option (List ℕ)) → TextSo objects commit text → is_nil commit.id ≡ false → (IsProper commit → commit_of (text_of commit) ≡ Ok commit)
        → Makes s moment user base pushed commit.id (added text)
    makes_text text is some reads_back = record {
      root = result.root;
      conflict = has_copies result;
      is_commit = reads;
      complete = commit_complete (more text) commit.id commit reads whole;
      tree = of_trees (λ sides. (t : Tree) × (merge_of sides ≡ merged.MergedTree t) × IsTreeOf (more text) result.root t) (λ sides b h p.
          let made = each sides b h p in
          (made.tree, made.is, made.root (more text) (grown objects (added text)) (keeps_made text is)));
      zeros = of_trees (λ sides. (t : Tree) → merge_of sides ≡ merged.MergedTree t → IsNilWhereNoPath t result.root) (λ sides b h p t is_merge. root_zeros sides (each sides b h p) t is_merge);
      told = of_trees (λ sides. has_copies result ≡ has_conflict sides) (λ sides b h p. has_copies_is sides (each sides b h p));
      needed = all_join (λ (x : Stored). is_in (needs (more text) commit.id) x.key ≡ true) dirs (own_object commit.id text)
          (listed_all (λ x. is_in (needs (more text) commit.id) x.key ≡ true) result.made (λ key bytes there.
          root_needed (more text) commit.id commit key reads (some_trees (is_in (walk_root true (more text) result.root start).visits key ≡ true) (λ sides b h p.
          (each sides b h p).needed key (ap is_some there) (more text) (grown objects (added text)) (keeps_made text is)))))
          (own_needed text);
      were_gone = all_gone text is;
      named = all_join (IsMade s moment user pushed result.root (has_copies result)) dirs (own_object commit.id text) (all_inl dirs dirs_made) (own_made text is);
      of_merge = of_trees (λ sides. (t : Tree) → merge_of sides ≡ merged.MergedTree t → AllByRecursion (IsMadeOf s moment user pushed result.root (has_copies result) t) (added text))
          (λ sides b h p t is_merge.
          all_join (IsMadeOf s moment user pushed result.root (has_copies result) t) dirs (own_object commit.id text)
          (all_merged t dirs (dirs_merged sides (each sides b h p) t is_merge)) (own_of t text is));
      once = all_once text;
    }
      where
        own_of : (t : Tree) (o : Option (List ℕ)) → TextSo objects commit o → AllByRecursion (IsMadeOf s moment user pushed result.root (has_copies result) t) (own_object commit.id o)
        own_of t None so = tt
        own_of t (Some o) so = (inr (record { text = so.1; named = refl }), tt)

        all_merged : (t : Tree) (xs : List Stored) → AllByRecursion (IsMergedDirectory s t) xs → AllByRecursion (IsMadeOf s moment user pushed result.root (has_copies result) t) xs
        all_merged t [] all = tt
        all_merged t (x ∷ xs) all = (inl all.0, all_merged t xs all.1)

        reads : commit_at (more text) commit.id ≡ Ok commit
        reads = commit_reads (more text) commit (commit_there text is) (reads_back (proper some))

        whole : IsCompleteRoot (more text) result.root
        whole = some_trees (IsCompleteRoot (more text) result.root) (λ sides b h p. (each sides b h p).complete (more text) (grown objects (added text)) (keeps_made text is))

        own_needed : (t : Option (List ℕ)) → AllByRecursion (λ (x : Stored). is_in (needs (more text) commit.id) x.key ≡ true) (own_object commit.id t)
        own_needed None = tt
        own_needed (Some t) = (commit_visited (more text) commit.id, tt)

        own_made : (t : Option (List ℕ)) → TextSo objects commit t → AllByRecursion (IsMade s moment user pushed result.root (has_copies result)) (own_object commit.id t)
        own_made None so = tt
        own_made (Some t) so = (inr (record { text = so.1; named = refl }), tt)

        all_inl : (xs : List Stored) → AllByRecursion IsDirectoryObject xs → AllByRecursion (IsMade s moment user pushed result.root (has_copies result)) xs
        all_inl [] all = tt
        all_inl (x ∷ xs) all = (inl all.0, all_inl xs all.1)

    makes_plan : (plan : Plan) → IsPlanOf objects result commit plan → Makes s moment user base pushed plan.head (objects_in plan)
    makes_plan plan is =
        let made = makes_text plan.text is.text_is is.not_zeros is.reads_back in
        let all : added plan.text ≡ objects_in plan
        = ap (λ id. dirs ++ own_object id plan.text) (sym is.head_is) ∙ ap (λ d. listed (map.entries d) ++ own_object plan.head plan.text) (sym is.dirs_are) in
        subst (λ id. Makes s moment user base pushed id (objects_in plan)) (sym is.head_is) (subst (Makes s moment user base pushed commit.id) all made)

    -- the commit can't be stored under its id
    commit_clash : (taken : List ℕ) → taken ≡ commit.id → (is_nil commit.id ≡ true) ⊎ (other_bytes (map.get objects (commit_key commit.id)) (text_of commit) ≡ true)
        → Clashes s moment user base pushed taken
    commit_clash taken same why = record {
      of_trees = of_trees (ClashesAt s moment user pushed taken) (λ sides b h p.
          let made = each sides b h p in
          let keeps : Keeps result.made (with_added objects dirs) = record {
            kept = λ key bytes there.
                found_added objects dirs key bytes dirs_gone (listed_once result.made)
                (ap (found_in key) (sym (append-nil dirs)) ∙ found_listed (map.entries result.made) [] key bytes (sym (map.get-entries result.made key) ∙ there));
          } in
          record {
            tree = made.tree;
            merged = made.is;
            one = record { key = commit_key commit.id; bytes = text_of commit };
            is_made = inr (record {
              root = result.root;
              dirs = dirs;
              made = dirs_made;
              is_tree = made.root (with_added objects dirs) (grown objects dirs) keeps;
              object = subst (λ c. IsCommitObject s moment user pushed result.root c (record { key = commit_key commit.id; bytes = text_of commit })) (has_copies_is sides made)
                  (record { text = refl; named = refl });
            });
            at = sym same;
            clash = clash made.tree why;
          });
    }
      where
        clash : (tree : Tree) → (is_nil commit.id ≡ true) ⊎ (other_bytes (map.get objects (commit_key commit.id)) (text_of commit) ≡ true)
            → Clash s tree (record { key = commit_key commit.id; bytes = text_of commit })
        clash tree (inl is) = zeros is
        clash tree (inr is) = stored is

    pub merges_so : (planned : Result Plan Refusal) → PlansMade objects result commit planned → MergesSo s moment user base pushed planned
    merges_so (Ok plan) is = makes_plan plan is
    merges_so (Err (refusal.Taken taken)) is = commit_clash taken is.0 is.1
    merges_so (Err (refusal.TooLong path size)) is = absurd is
    merges_so (Err (refusal.TooMany paths)) is = absurd is
    merges_so (Err why) is = is
