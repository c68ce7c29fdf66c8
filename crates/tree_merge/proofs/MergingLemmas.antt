-- A merge of three roots, once their directories are merged. The key lemmas are finishes_refused, stores_refused, merges and keeps.
use Rattle.std.proofs.Common.{◌≡◌, ◌≢◌, ◌≤◌, ◌<◌, ◌||◌, ◌⊎◌, ℕ, List, [], ◌∷◌, ◌++◌, refl, sym, ap, ap₂, ◌∙◌, subst, arith, Option, None, Some, is_some, option_map, map as map_list, Err, true, true≢false, inl, inr}
use Rattle.std.specs.FinMap as map
use Rattle.std.specs.Option.{option_or}
use Rattle.ids.specs.Key.{Objects, key_cmp}
use Rattle.ids.specs.declared.key.Key.{Key}
use Rattle.tree_model.specs.Path.{PathV, path_cmp}
use Rattle.tree_model.specs.DirectorySurvival.{Sides}
use Rattle.tree_model.specs.ConflictCopies.{conflicts, first_long}
use Rattle.tree_model.specs.MergeParts.{copy_at, long_at, long_in, told_behind}
use Rattle.tree_model.specs.ThreeWayMerge.{merge_by, merged}
use Rattle.tree_model.proofs.FirstOfLemmas.{copy_unknown, first_long_told, first_one, first_same}
use Rattle.conflict_names.specs.Naming.{naming}
use Rattle.object_graph.specs.Objects.{dirents_at, entry_below, fs_key, node_of}
use Rattle.object_graph.specs.Traversal.{IsCompleteRoot}
use Rattle.object_graph.specs.Unchanged.{Keeps}
use Rattle.object_graph.proofs.FittingLemmas.{root_fits}
use Rattle.tree_walk.specs.Reading.{IsDue}
use Rattle.tree_merge.specs.ConflictNaming.{IsNamedTree, Places}
use Rattle.tree_merge.specs.DirectoryMerge.{FinishesSo, IsBuiltBelow, IsMergedPart, IsNamedPart, MergesDirectory, none_yet, refusal_of}
use Rattle.tree_merge.specs.HeadDirectory.{UsesHeads}
use Rattle.tree_merge.specs.LevelMerge.{IsTakenBelow}
use Rattle.tree_merge.specs.Merging.{AreComplete, AreLeft, IsBuiltOver, IsCaused, IsMerged, KeepsSettled, LeavesSo, MergesTo}
use Rattle.tree_merge.specs.Opening.{AreWholeSides, IsWholeSide, id_in, paths_in, settled_in}
use Rattle.tree_merge.specs.Sides.{AreTrees}
use Rattle.tree_merge.specs.TreeBuilding.{AreNamed, HasMade, IsClash, IsCollision, IsDirectoryText}
use Rattle.tree_merge.specs.WorkSoFar.{IsCausedIn, long_told}
use Rattle.tree_merge.specs.declared.conflict_copies.Named.{Named}
use Rattle.tree_merge.specs.declared.merging.Merged.{Merged}
use Rattle.tree_merge.specs.declared.merging.MergeFault.{MergeFault}
use Rattle.tree_merge.specs.declared.merging.MergeFault.TheVariants.{Taken, TooLong, TooMany, Walk}
use Rattle.tree_merge.specs.declared.opening.Ids.{Ids}
use Rattle.tree_merge.specs.declared.opening.Kept.{Kept}
use Rattle.tree_merge.specs.declared.work.Stop.{Stop}
use Rattle.tree_merge.specs.declared.work.Stop.TheVariants as why
use Rattle.tree_merge.specs.declared.work.Work.{Work}
use Rattle.tree_merge.proofs.JoinedSideLemmas.{AreTreesOf, same_some, sides_are_trees}
use Rattle.tree_merge.proofs.MergedEntryLemmas.{over, tree_len}
use Rattle.tree_merge.proofs.MergedOverLemmas.{is_merged, taken_built, taken_stored}
use Rattle.tree_merge.proofs.TableLemmas.{no_entries}
use Rattle.tree_merge.proofs.UnstoredLemmas.{kept_left, named_none}

abbrev pub of_roots : (base head pushed : List ℕ) → Ids
of_roots base head pushed = record { base = Some base; head = Some head; pushed = Some pushed }

whole_root : (objects : Objects) (root : List ℕ) → IsCompleteRoot objects root → IsWholeSide objects 100 root
whole_root objects root complete =
    let tree = root_fits objects root complete in
    record {
      complete = complete;
      deep = λ q some. tree.2.depth q (ap is_some (tree.1 q) ∙ same_some (node_of objects) (entry_below objects q root) ∙ some);
    }

pub whole_roots : (objects : Objects) (base head pushed : List ℕ) → AreComplete objects base head pushed → AreWholeSides objects 100 (of_roots base head pushed)
whole_roots objects base head pushed complete =
    (whole_root objects base complete.base_whole, whole_root objects head complete.head_whole, whole_root objects pushed complete.pushed_whole)

-- the merge of the roots begins with nothing
pub from_none : (objects : Objects) (p : PathV) (ids : Ids) (start work : Work) (part : Option Kept) → p ≡ [] → start ≡ none_yet → MergesDirectory objects p ids start work part → MergesDirectory objects [] ids none_yet work part
from_none objects p ids start work part root none merges =
    subst (λ (w : Work). MergesDirectory objects [] ids w work part) none (subst (λ (q : PathV). MergesDirectory objects q ids start work part) root merges)

module _ (objects : Objects) (base head pushed : List ℕ) (complete : AreComplete objects base head pushed) (s : Sides) (are : AreTreesOf objects base head pushed s)
    (work : Work) (part : Option Kept) (merges : MergesDirectory objects [] (of_roots base head pushed) none_yet work part) where
  m : IsMergedPart objects [] true (of_roots base head pushed) s none_yet work part
  m = merges s (record { base = are.of_base; head = are.of_head; pushed = are.of_pushed })

  trees : AreTrees s
  trees = sides_are_trees objects base head pushed complete s are

  rooted : copy_at naming s [] ≡ None
  rooted = copy_unknown naming s [] (ap₂ ◌||◌ (ap is_some trees.base.no_root) (ap₂ ◌||◌ (ap is_some trees.head.no_root) (ap is_some trees.pushed.no_root)))

  -- the file that is written down is the first one
  first_is : long_told work.long ≡ first_long (conflicts naming s)
  first_is =
      first_one (long_at naming s) (long_told work.long) (first_long (conflicts naming s))
      (first_same (λ q. option_or None (told_behind [] (long_at naming s) q)) (long_at naming s) told_all (long_told work.long) (m.long (λ q. None) (λ q. refl)))
      (first_long_told naming s)
    where
      told_all : (q : PathV) → told_behind [] (long_at naming s) q ≡ long_at naming s q
      told_all [] = sym (ap long_in rooted)
      told_all (n ∷ q) = refl

  module _ (clear : long_told work.long ≡ None) where
    pub n : IsNamedPart objects [] true (of_roots base head pushed) s none_yet work part
    n = m.named clear

    abbrev pub full : Named
    full = record { nodes = n.entries; copies = work.copies }

    copies_are : (q : PathV) → map.get work.copies q ≡ copy_at naming s q
    copies_are q = n.copies q ∙ ap (option_or (option_map (λ p. [] ++ p) (copy_at naming s q))) (map.get-empty path_cmp q) ∙ same (copy_at naming s q)
      where
        same : (o : Option PathV) → option_or (option_map (λ p. [] ++ p) o) None ≡ o
        same None = refl
        same (Some p) = refl

    full_told : (more : Objects) → Keeps objects more → IsNamedTree more s full
    full_told more keeps = record { short = sym first_is ∙ clear; nodes = n.seen more keeps; copies = copies_are }

    count : paths_in part ≡ map.len n.entries
    count = n.count ∙ tree_len objects base head pushed complete s are full full_told

    not_before : (key : Key) (bytes : List ℕ) → map.get none_yet.made key ≡ Some bytes → ⊥
    not_before key bytes there = let both : None ≡ Some bytes = sym (map.get-empty key_cmp key) ∙ there in cc

    text_of : (key : Key) (bytes : List ℕ) → map.get work.made key ≡ Some bytes → IsDirectoryText n.entries bytes
    text_of key bytes there = elim (n.texts key bytes there) [ inl before ↦ absurd (not_before key bytes before) | inr text ↦ text ]

    -- a directory that can't be taken clashes with another of the tree
    clashes : AreNamed work.made → (id : List ℕ) → IsTakenBelow n.entries work.made id → IsClash n.entries id
    clashes named id taken = record {
      bytes = taken.bytes;
      own = taken.own;
      text = taken.text;
      clash = elim taken.clash [
        | inl zeros ↦ inl zeros
        | inr other ↦ inr (elim other.2 [
          | inl text ↦ (other.0, other.1, text.0, text.1)
          | inr there ↦ (other.0, other.1, (named (fs_key id) other.0 there).is_sha1, text_of (fs_key id) other.0 there)
        ])
      ];
    }

    module _ (named : AreNamed work.made) (few : paths_in part ≤ 1000000) where
      bound : map.len n.entries ≤ 1000000
      bound = omega (arith, count, few)

      taken_now : (id : List ℕ) → work.stop ≡ Some (why.Taken id) → MergesTo objects s (Err (Taken id))
      taken_now id is = elim (n.taken id is) [
        | inl before ↦ cc before
        | inr taken ↦ taken_built objects base head pushed complete s are full full_told id bound (clashes named id taken)
      ]

      module _ (free : work.stop ≡ None) where
        b : IsBuiltBelow objects n.entries true (of_roots base head pushed) none_yet.made work.made (id_in part)
        b = n.built free

        abbrev pub built : Merged
        built = record { root = id_in part; made = work.made; conflicts = map.values work.copies }

        over_kept : IsBuiltOver objects b.kept full built
        over_kept = record {
          few = bound;
          value = b.value;
          needed = λ id some has more keeps also. elim (b.needed id some has) [ inl before ↦ absurd (not_has id before) | inr own ↦ own more keeps also ];
          dirs = (
            record {
              texts = text_of;
              below = λ key bytes there. elim (b.below key bytes there) [ inl before ↦ absurd (not_before key bytes before) | inr lists ↦ lists ];
            },
            elim b.known [ inl own ↦ inl own | inr root ↦ inr ([], root) ],
          );
          ids = λ dir id some is more keeps also. b.ids_kept dir id some is more keeps also;
          zeros = b.zeros;
          names = named;
          conflicts = refl;
        }
          where
            not_has : (id : List ℕ) → HasMade none_yet.made id → ⊥
            not_has id has = true≢false (sym has ∙ ap is_some (map.get-empty key_cmp (fs_key id)))

        -- what isn't stored of it
        pub stores_refused : (fault : MergeFault) → LeavesSo objects work.made (Err fault) → MergesTo objects s (Err fault)
        stores_refused (TooLong path bytes) left = absurd left
        stores_refused (TooMany paths) left = absurd left
        stores_refused (Taken id) left = taken_stored objects base head pushed complete s are full full_told b.kept built over_kept id left
        stores_refused (Walk fault) left = left

        pub merges_all : (left : Objects) → AreLeft objects work.made left → IsMerged objects s (record { root = id_in part; made = left; conflicts = map.values work.copies })
        merges_all left are_left = is_merged objects base head pushed complete s are full full_told b.kept b.complete built over_kept left are_left n.whole

        pub heads_all : (left : Objects) → AreLeft objects work.made left → UsesHeads objects head (record { root = id_in part; made = left; conflicts = map.values work.copies })
        heads_all left are_left more keeps also = b.heads more keeps (kept_left objects work.made left are_left more keeps also)

        pub keeps_all : (left : Objects) → AreLeft objects work.made left → KeepsSettled objects base head pushed (record { root = id_in part; made = left; conflicts = map.values work.copies })
        keeps_all left are_left more keeps also dir id settled some =
            b.ids_kept dir id (not_root dir settled) (b.same refl dir id settled some) more keeps (kept_left objects work.made left are_left more keeps also)
          where
            not_root : (d : PathV) → settled_in objects (dirents_at objects base) (dirents_at objects head) (dirents_at objects pushed) d ≡ Some id → d ≢ []
            not_root [] is = cc is
            not_root (k ∷ d) is = λ e. cc

  -- ---- how a merge ends

  pub finishes_refused : AreNamed work.made → (fault : MergeFault) → FinishesSo part work (Err fault) → MergesTo objects s (Err fault)
  finishes_refused named (TooLong path bytes) refused = ap (λ o. merge_by o (merged naming s)) (sym first_is ∙ refused)
  finishes_refused named (TooMany paths) refused =
      over objects base head pushed complete s are (full refused.0) (full_told refused.0) paths (refused.1 ∙ count refused.0)
      (let size = count refused.0 in let is = refused.1 in let big = many refused.2 in omega (arith, size, is, big))
    where
      -- no object was made any more since a directory has too many paths: so does the root
      many : (1000000 < paths) ⊎ (work.stop ≡ Some why.Many) → 1000000 < paths
      many (inl big) = big
      many (inr stopped) = elim ((m.named refused.0).many stopped) [ inl before ↦ cc before | inr big ↦ subst (λ (k : ℕ). 1000000 < k) (sym refused.1) big ]
  finishes_refused named (Taken id) refused = taken_now refused.0 named refused.1 id refused.2
  finishes_refused named (Walk fault) refused = subst (IsDue objects None) (sym refused) tt

-- whichever trees the three roots have
pub settles : (objects : Objects) (base head pushed : List ℕ) → AreComplete objects base head pushed → (work : Work) (part : Option Kept) → MergesDirectory objects [] (of_roots base head pushed) none_yet work part
    → (clear : long_told work.long ≡ None) → AreNamed work.made → paths_in part ≤ 1000000 → work.stop ≡ None → (left : Objects) → AreLeft objects work.made left
    → KeepsSettled objects base head pushed (record { root = id_in part; made = left; conflicts = map.values work.copies })
settles objects base head pushed complete work part merges clear named few free left are_left =
    let b = root_fits objects base complete.base_whole in
    let h = root_fits objects head complete.head_whole in
    let p = root_fits objects pushed complete.pushed_whole in
    keeps_all objects base head pushed complete (record { base = b.0; head = h.0; pushed = p.0 }) (record { of_base = b.1; of_head = h.1; of_pushed = p.1 }) work part merges clear named few free left are_left

pub uses : (objects : Objects) (base head pushed : List ℕ) → AreComplete objects base head pushed → (work : Work) (part : Option Kept) → MergesDirectory objects [] (of_roots base head pushed) none_yet work part
    → (clear : long_told work.long ≡ None) → AreNamed work.made → paths_in part ≤ 1000000 → work.stop ≡ None → (left : Objects) → AreLeft objects work.made left
    → UsesHeads objects head (record { root = id_in part; made = left; conflicts = map.values work.copies })
uses objects base head pushed complete work part merges clear named few free left are_left =
    let b = root_fits objects base complete.base_whole in
    let h = root_fits objects head complete.head_whole in
    let p = root_fits objects pushed complete.pushed_whole in
    heads_all objects base head pushed complete (record { base = b.0; head = h.0; pushed = p.0 }) (record { of_base = b.1; of_head = h.1; of_pushed = p.1 }) work part merges clear named few free left are_left

-- ---- no object is made any more

pub stopped_so : (part : Option Kept) (made : Objects) (copies : Places) (x : Stop) (paths : ℕ) → paths ≡ paths_in part → paths_in part ≤ 1000000
    → FinishesSo part (record { made = made; copies = copies; long = None; stop = Some x }) (Err (refusal_of x paths))
stopped_so part made copies why.Many paths is few = (refl, is, inr refl)
stopped_so part made copies (why.Taken id) paths is few = (refl, few, refl)

pub stopped_cause : (x : Stop) (paths : ℕ) → ((id : List ℕ) → Some x ≡ Some (why.Taken id) → IsCollision id) → IsCaused (refusal_of x paths)
stopped_cause why.Many paths cause = tt
stopped_cause (why.Taken id) paths cause = cause id refl

-- ---- the paths of the copies, and the cause of a refusal

pub values_popped : (m n : Places) (e : PathV × PathV) → map.entries m ≡ e ∷ map.entries n → map.values m ≡ e.1 ∷ map.values n
values_popped m n e is = ap (map_list (λ (x : PathV × PathV). x.1)) is

pub values_none : (m : Places) → m ≡ map.empty → map.values m ≡ []
values_none m none = ap (map_list (λ (x : PathV × PathV). x.1)) (no_entries m none)

pub cause_told : (work : Work) → IsCausedIn none_yet work → (id : List ℕ) → work.stop ≡ Some (why.Taken id) → IsCollision id
cause_told work caused id is = elim (caused (named_none map.empty refl) id is) [ inl before ↦ absurd (never before) | inr collision ↦ collision ]
  where
    never : none_yet.stop ≡ Some (why.Taken id) → ⊥
    never e = cc

-- what a merge is caused by is the same of what it began with
pub cause_from : (start work : Work) → start ≡ none_yet → IsCausedIn start work → IsCausedIn none_yet work
cause_from start work none caused = subst (λ (w : Work). IsCausedIn w work) none caused
