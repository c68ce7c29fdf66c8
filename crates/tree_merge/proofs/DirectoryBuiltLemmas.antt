-- A directory's object over those that were made below it. The key lemmas are built_some, built_own and built_nothing.
use Rattle.std.proofs.Common.{◌≡◌, ◌≢◌, Bool, true, false, if◌then◌else◌, not, ℕ, List, [], ◌∷◌, refl, sym, ap, ◌∙◌, subst, Option, Some, None, IsSome, is_some, option_map, option_and_then, true≢false, ◌⊎◌, inl, inr}
use Rattle.std.specs.Cmp.Lexicographic.{bytes_decides}
use Rattle.std.specs.FinMap as map
use Rattle.ids.specs.Key.{Objects}
use Rattle.ids.specs.ObjectId.{nil}
use Rattle.ids.proofs.BasicLemmas.{same_from_some}
use Rattle.tree_model.specs.Path.{PathV, path_cmp}
use Rattle.tree_model.specs.PathOrder.{paths_exact, paths_total}
use Rattle.tree_model.specs.DirectorySurvival.{Sides}
use Rattle.tree_model.proofs.OneLevelLemmas.{IsSingle}
use Rattle.fs_objects.specs.Mode.{is_directory_mode}
use Rattle.fs_objects.specs.declared.dirent.Dirent.{Dirent}
use Rattle.object_graph.specs.Objects.{directory_in, dirents_at, entries_of, entry_in, entry_named, entry_of, fs_at}
use Rattle.object_graph.specs.Traversal.{IsCompleteRoot}
use Rattle.object_graph.specs.Unchanged.{Keeps}
use Rattle.object_graph.specs.declared.entry.Entry.{Entry}
use Rattle.object_graph.specs.declared.entry.Entry.TheVariants.{Dir, File}
use Rattle.tree_walk.specs.Extent.{extent_of}
use Rattle.tree_merge.specs.DirectoryMerge.{IsBuiltBelow}
use Rattle.tree_merge.specs.HeadDirectory.{IsHeads, IsRight, ListSame}
use Rattle.tree_merge.specs.LevelMerge.{IsBuiltFrom, ListsKnown}
use Rattle.tree_merge.specs.Opening.{dirents_if, id_in, is_settled_at, part_at, settled_in}
use Rattle.tree_merge.specs.Sides.{Entries}
use Rattle.tree_merge.specs.TreeBuilding.{HasMade, IsDirectoryOf, IsNilMadeOrKept, IsNilOrMade, directory_id_at, directory_id_in, kept_ids}
use Rattle.tree_merge.specs.declared.opening.Ids.{Ids}
use Rattle.tree_merge.specs.declared.opening.Kept.{Kept}
use Rattle.tree_merge.proofs.HeadDirectoryLemmas.{dirents_kept}
use Rattle.tree_merge.proofs.HeadsUsedLemmas.{heads_stored, nil_heads, nil_ids, right_from_same}
use Rattle.tree_merge.proofs.MadeLemmas.{kept_itself, kept_then}
use Rattle.tree_merge.proofs.OwnPartLemmas.{nil_entries}
use Rattle.tree_merge.proofs.SideLemmas.{ids_at}
use Rattle.tree_merge.proofs.MergingSoLemmas.{BuiltSoFar, PartBuilt, has_more, known_more}
use Rattle.tree_merge.proofs.WholeSideLemmas.{complete_directory}

-- what lies below an entry lies below the directory
below_root : (more : Objects) (root : List ℕ) (n : List ℕ) (p : List ℕ) → directory_id_in more (dirents_at more root) (n ∷ []) ≡ Some p → (m : List ℕ) (r : PathV)
    → directory_id_in more (dirents_at more root) (n ∷ m ∷ r) ≡ directory_id_in more (dirents_at more p) (m ∷ r)
below_root more root n p is m r = ap (option_and_then (λ id. directory_id_in more (dirents_at more id) (m ∷ r))) is

module _ (objects : Objects) (path : PathV) (ids : Ids) (c : List ℕ → Sides) (to_come : List ℕ → Bool) (kept : map.FinMap path_cmp Kept) (E : List ℕ → Entries) (old now : Objects)
    (bs : BuiltSoFar objects path ids c to_come kept E old now) (gone : (n : List ℕ) → to_come n ≡ false) where
  abbrev part_of : List ℕ → Option Kept
  part_of n = map.get kept (n ∷ [])

  parts : (n : List ℕ) → PartBuilt objects path ids c n (part_of n) (E n) (bs.kept_of n) now
  parts n = bs.parts n (gone n)

  -- the directories that stand by their stored ids: this one, if it does, and those below it
  abbrev pub kept_over : Option (List ℕ) → PathV → Option (List ℕ)
  kept_over t [] = t
  kept_over t (n ∷ r) = bs.kept_of n r

  all_complete : (t : Option (List ℕ)) → ((id : List ℕ) → t ≡ Some id → IsCompleteRoot objects id) → (dir : PathV) (id : List ℕ) → kept_over t dir ≡ Some id → IsCompleteRoot objects id
  all_complete t own [] id is = own id is
  all_complete t own (n ∷ r) id is = (parts n).complete r id is

  -- where something is kept at an entry, or below it, something is left there
  left_at : (n : List ℕ) (id : List ℕ) → bs.kept_of n [] ≡ Some id → (part : Kept) × ((part_of n ≡ Some part) × (part.id ≡ id))
  left_at n id is = by (part_of n) refl ((parts n).top id is)
    where
      by : (o : Option Kept) → part_of n ≡ o → (id_in (part_of n) ≡ id) × (id ≢ nil) → (part : Kept) × ((part_of n ≡ Some part) × (part.id ≡ id))
      by None is top = absurd (top.1 (sym top.0 ∙ ap id_in is))
      by (Some part) is top = (part, (is, sym (ap id_in is) ∙ top.0))

  left_below : (n m : List ℕ) (r : PathV) (id : List ℕ) → bs.kept_of n (m ∷ r) ≡ Some id → (more : Objects) → Keeps objects more → Keeps now more
      → (part : Kept) × ((part_of n ≡ Some part) × (directory_id_in more (dirents_at more part.id) (m ∷ r) ≡ Some id))
  left_below n m r id is more keeps also = by (part_of n) refl ((parts n).ids_kept (m ∷ r) id (λ e. cc) is more keeps also)
    where
      by : (o : Option Kept) → part_of n ≡ o → directory_id_in more (dirents_at more (id_in (part_of n))) (m ∷ r) ≡ Some id
          → (part : Kept) × ((part_of n ≡ Some part) × (directory_id_in more (dirents_at more part.id) (m ∷ r) ≡ Some id))
      by None is there = absurd (nil_ids more (m ∷ r) id (ap (λ (o : Option Kept). directory_id_in more (dirents_at more (id_in o)) (m ∷ r)) (sym is) ∙ there))
      by (Some part) is there = (part, (is, ap (λ (o : Option Kept). directory_id_in more (dirents_at more (id_in o)) (m ∷ r)) (sym is) ∙ there))

  -- what a part lists is known of the whole
  lists_all : (t : Option (List ℕ)) (n : List ℕ) (two : Objects) → Keeps now two → (bytes : List ℕ) → ListsKnown (bs.kept_of n) now bytes → ListsKnown (kept_over t) two bytes
  lists_all t n two keeps bytes lists dirents reads name e found dir = above (known_more (bs.kept_of n) now two keeps e.id (lists dirents reads name e found dir))
    where
      above : IsNilMadeOrKept (bs.kept_of n) two e.id → IsNilMadeOrKept (kept_over t) two e.id
      above (inl made) = inl made
      above (inr own) = inr (n ∷ own.0, own.1)

  -- a settled directory is one of these
  all_same : (t : Option (List ℕ)) (dir : PathV) (id : List ℕ) → settled_in objects (dirents_if objects ids.base) (dirents_if objects ids.head) (dirents_if objects ids.pushed) dir ≡ Some id → (extent_of objects id).paths ≢ 0 → kept_over t dir ≡ Some id
  all_same t [] id is some = cc is
  all_same t (n ∷ []) id is some = by (is_settled_at n (dirents_if objects ids.base) (dirents_if objects ids.head) (dirents_if objects ids.pushed)) refl is
    where
      by : (b : Bool) → is_settled_at n (dirents_if objects ids.base) (dirents_if objects ids.head) (dirents_if objects ids.pushed) ≡ b
          → (if b then part_at n (dirents_if objects ids.base) (dirents_if objects ids.head) (dirents_if objects ids.pushed) else None) ≡ Some id → bs.kept_of n [] ≡ Some id
      by true settled there = (parts n).own (ap not settled) id there some
      by false settled there = cc there
  all_same t (n ∷ m ∷ r) id is some = by (is_settled_at n (dirents_if objects ids.base) (dirents_if objects ids.head) (dirents_if objects ids.pushed)) refl is
    where
      deeper : Option (List ℕ)
      deeper = settled_in objects (dirents_if objects (ids_at objects ids n).base) (dirents_if objects (ids_at objects ids n).head) (dirents_if objects (ids_at objects ids n).pushed) (m ∷ r)

      by : (b : Bool) → is_settled_at n (dirents_if objects ids.base) (dirents_if objects ids.head) (dirents_if objects ids.pushed) ≡ b → (if b then None else deeper) ≡ Some id → bs.kept_of n (m ∷ r) ≡ Some id
      by true settled there = cc there
      by false settled there = (parts n).same (ap not settled) (m ∷ r) id there some

  -- ---- what the directory lists leads to what lies below it

  module _ (t : Option (List ℕ)) (new : Objects) (keeps : Keeps now new) (root : List ℕ)
      (id_there : (n : List ℕ) (part : Kept) → part_of n ≡ Some part → (more : Objects) → Keeps objects more → Keeps new more → directory_id_in more (dirents_at more root) (n ∷ []) ≡ Some part.id) where
    reached : (n id : List ℕ) → id ≢ nil → (more : Objects) → Keeps objects more → Keeps new more → IsDirectoryOf more (id_in (part_of n)) id → IsDirectoryOf more root id
    reached n id some more there also = by (part_of n) refl
      where
        at : (part : Kept) → part_of n ≡ Some part → (q : PathV) → directory_id_in more (dirents_at more part.id) q ≡ Some id → IsDirectoryOf more root id
        at part is [] found = cc found
        at part is (m ∷ r) found = inr (n ∷ m ∷ r, below_root more root n part.id (id_there n part is more there also) m r ∙ found)

        by : (o : Option Kept) → part_of n ≡ o → IsDirectoryOf more (id_in o) id → IsDirectoryOf more root id
        by None is (inl zeros) = absurd (some zeros)
        by None is (inr below) = absurd (nil_ids more below.0 id below.1)
        by (Some part) is (inl own) = inr (n ∷ [], id_there n part is more there also ∙ ap Some (sym own))
        by (Some part) is (inr below) = at part is below.0 below.1

    ids_all : (dir : PathV) (id : List ℕ) → dir ≢ [] → kept_over t dir ≡ Some id → (more : Objects) → Keeps objects more → Keeps new more → directory_id_in more (dirents_at more root) dir ≡ Some id
    ids_all [] id other is more there also = absurd (other refl)
    ids_all (n ∷ []) id other is more there also = let left = left_at n id is in id_there n left.0 left.1.0 more there also ∙ ap Some left.1.1
    ids_all (n ∷ m ∷ r) id other is more there also =
        let left = left_below n m r id is more there (kept_then now new more keeps also) in
        below_root more root n left.0.id (id_there n left.0 left.1.0 more there also) m r ∙ left.1.1

  -- ---- the directory has an object that is made

  module _ (new : Objects) (keeps : Keeps now new) (W : Entries) (root : List ℕ) (single : (q : PathV) → IsSome (map.get kept q) → IsSingle q)
      (b : IsBuiltFrom (record { stored = objects; made = now }) (kept_ids kept) W now new root) (nodes : Entries) (nodes_single : (q : PathV) → IsSome (map.get nodes q) → IsSingle q)
      (here : (n : List ℕ) → map.get W (n ∷ []) ≡ map.get nodes (n ∷ [])) (none_below : (n : List ℕ) → part_of n ≡ None → (m : List ℕ) (r : PathV) → map.get W (n ∷ m ∷ r) ≡ None)
      (not_right : (own : List ℕ) → ids.head ≡ Some own → IsRight objects own nodes kept → ⊥) where
    -- the id of what is left at an entry stands in the object
    id_there : (n : List ℕ) (part : Kept) → part_of n ≡ Some part → (more : Objects) → Keeps objects more → Keeps new more → directory_id_in more (dirents_at more root) (n ∷ []) ≡ Some part.id
    id_there n part is more there also = b.ids (n ∷ []) part.id (ap (option_map (λ (own : Kept). own.id)) is) more also

    lists_own : (bytes : List ℕ) → ListsKnown (kept_ids kept) new bytes → ListsKnown (kept_over None) new bytes
    lists_own bytes lists dirents reads name e found dir = above (lists dirents reads name e found dir)
      where
        root_of : (n : List ℕ) (part : Kept) → part_of n ≡ Some part → (IsNilOrMade now (id_in (part_of n))) ⊎ (bs.kept_of n [] ≡ Some (id_in (part_of n))) → IsNilMadeOrKept (kept_over None) new part.id
        root_of n part is (inl (inl zeros)) = inl (inl (sym (ap id_in is) ∙ zeros))
        root_of n part is (inl (inr made)) = inl (inr (has_more now new keeps part.id (subst (HasMade now) (ap id_in is) made)))
        root_of n part is (inr own) = inr (n ∷ [], own ∙ ap (λ (o : Option Kept). Some (id_in o)) is)

        of_kept : (q : PathV) (o : Option Kept) → map.get kept q ≡ o → option_map (λ (own : Kept). own.id) o ≡ Some e.id → IsNilMadeOrKept (kept_over None) new e.id
        of_kept q None is there = cc there
        of_kept q (Some part) is there =
            let one = single q (ap is_some is) in
            let same : part.id ≡ e.id = cc in
            subst (IsNilMadeOrKept (kept_over None) new) same (root_of one.0 part (ap (map.get kept) (sym one.1) ∙ is) (parts one.0).known)

        above : IsNilMadeOrKept (kept_ids kept) new e.id → IsNilMadeOrKept (kept_over None) new e.id
        above (inl made) = inl made
        above (inr own) = of_kept own.0 (map.get kept own.0) refl own.1

    -- what the object lists of a directory is what is left below it
    listed_at : (n id : List ℕ) (more : Objects) → Keeps objects more → Keeps new more → directory_id_in more (dirents_at more root) (n ∷ []) ≡ Some id → id ≡ id_in (part_of n)
    listed_at n id more there also is = by (part_of n) refl
      where
        by : (o : Option Kept) → part_of n ≡ o → id ≡ id_in (part_of n)
        by None none = b.empty more (there, kept_then now new more keeps also) also n (λ m. none_below n none m []) id is ∙ sym (ap id_in none)
        by (Some part) left = same_from_some id part.id (sym is ∙ id_there n part left more there also) ∙ sym (ap id_in left)

    -- below it, and at itself, the head's directories are used
    heads_here : (more : Objects) → Keeps objects more → Keeps new more → IsHeads objects more ids.head root
    heads_here more there also [] own id some at found same =
        absurd (not_right own (of_root ids.head at)
        (right_from_same objects more own root nodes kept (subst (λ (i : List ℕ). ListSame (dirents_at objects own) (dirents_at more i)) (sym (same_from_some root id found)) same)
        (λ n. sym (here n) ∙ b.value more (there, kept_then now new more keeps also) also (n ∷ [])) nodes_single (λ n i is. listed_at n i more there also is)))
      where
        of_root : (o : Option (List ℕ)) → option_and_then (λ h. directory_id_at objects h []) o ≡ Some own → o ≡ Some own
        of_root None e = e
        of_root (Some h) e = e
    heads_here more there also (n ∷ []) own id some at found same =
        (parts n).heads more there (kept_then now new more keeps also) [] own id some (of_name ids.head at) (ap Some (sym (listed_at n id more there also found))) same
      where
        of_name : (o : Option (List ℕ)) → option_and_then (λ h. directory_id_at objects h (n ∷ [])) o ≡ Some own
            → option_and_then (λ h. directory_id_at objects h []) (directory_in (entry_named n (dirents_if objects o))) ≡ Some own
        of_name None e = cc e
        of_name (Some h) e = ap (option_and_then (λ i. directory_id_at objects i [])) e
    heads_here more there also (n ∷ m ∷ r) own id some at found same =
        (parts n).heads more there (kept_then now new more keeps also) (m ∷ r) own id some (of_deep ids.head at) (there_deep (directory_in (entry_named n (dirents_at more root))) refl) same
      where
        of_deep : (o : Option (List ℕ)) → option_and_then (λ h. directory_id_at objects h (n ∷ m ∷ r)) o ≡ Some own
            → option_and_then (λ h. directory_id_at objects h (m ∷ r)) (directory_in (entry_named n (dirents_if objects o))) ≡ Some own
        of_deep None e = cc e
        of_deep (Some h) e = e

        leads : Option (List ℕ) → Option (List ℕ)
        leads o = option_and_then (λ i. directory_id_in more (dirents_at more i) (m ∷ r)) o

        there_deep : (o : Option (List ℕ)) → directory_in (entry_named n (dirents_at more root)) ≡ o → directory_id_in more (dirents_at more (id_in (part_of n))) (m ∷ r) ≡ Some id
        there_deep None e = let both : None ≡ Some id = sym (ap leads e) ∙ found in cc
        there_deep (Some i) e = ap (λ (j : List ℕ). directory_id_in more (dirents_at more j) (m ∷ r)) (sym (listed_at n i more there also e)) ∙ sym (ap leads e) ∙ found

    pub built_some : IsBuiltBelow objects W true ids old new root
    built_some = record {
      kept = kept_over None;
      complete = all_complete None (λ id is. cc is);
      known = inl b.known;
      top = λ id is. cc is;
      own = λ closed. absurd (true≢false closed);
      value = λ more there also. b.value more (there, kept_then now new more keeps also) also;
      needed = λ id some has. elim (b.needed id has) [
        | inr own ↦ inr (λ more there also. own more also)
        | inl before ↦ elim (bs.needed id some before) [
          | inl first ↦ inl first
          | inr found ↦ inr (λ more there also. reached None new keeps root id_there found.0 id some more there also (found.1.1 more there (kept_then now new more keeps also)))
        ]
      ];
      below = λ key bytes there. elim (b.below key bytes there) [
        | inr lists ↦ inr (lists_own bytes lists)
        | inl before ↦ elim (bs.below key bytes before) [ inl first ↦ inl first | inr found ↦ inr (lists_all None found.0 new keeps bytes found.1.1) ]
      ];
      ids_kept = ids_all None new keeps root id_there;
      same = λ open_here. all_same None;
      heads = heads_here;
      zeros = b.zeros;
    }

  -- ---- the directory is the head's own

  module _ (W nodes : Entries) (root : List ℕ) (is_head : ids.head ≡ Some root) (complete : IsCompleteRoot objects root) (right : IsRight objects root nodes kept) (no_root : map.get W [] ≡ None)
      (here : (n : List ℕ) → map.get W (n ∷ []) ≡ map.get nodes (n ∷ [])) (under : (n m : List ℕ) (r : PathV) → map.get W (n ∷ m ∷ r) ≡ map.get (E n) (m ∷ r))
      (stands : (n : List ℕ) → is_some (part_of n) ≡ true → map.get nodes (n ∷ []) ≡ Some Dir) (some : map.len nodes ≢ 0) where
    -- what it lists under a name
    node_is : (n : List ℕ) → map.get nodes (n ∷ []) ≡ option_map entry_of (entry_named n (dirents_at objects root))
    node_is n = right.just.here (n ∷ []) ∙ ap (option_map entry_of) (right.tells.named n)

    id_is : (n : List ℕ) (e : Dirent) → entry_named n (dirents_at objects root) ≡ Some e → is_directory_mode e.mode ≡ true → e.id ≡ id_in (part_of n)
    id_is n e there dir = right.just.below (n ∷ []) e (right.tells.named n ∙ there) dir

    same_dirents : (more : Objects) → Keeps objects more → dirents_at more root ≡ dirents_at objects root
    same_dirents more keeps = dirents_kept objects more keeps root (complete_directory objects root complete)

    -- where it lists no directory nothing is left
    none_named : (n : List ℕ) → entry_named n (dirents_at objects root) ≡ None → map.get nodes (n ∷ []) ≡ Some Dir → ⊥
    none_named n is dir = let both : None ≡ Some Dir = sym (node_is n ∙ ap (option_map entry_of) is) ∙ dir in cc

    file_named : (n : List ℕ) (e : Dirent) → entry_named n (dirents_at objects root) ≡ Some e → is_directory_mode e.mode ≡ false → map.get nodes (n ∷ []) ≡ Some Dir → ⊥
    file_named n e is file dir =
        let both : Some (File e.id e.mode e.mtime e.modifier e.size) ≡ Some Dir =
        sym (node_is n ∙ ap (option_map entry_of) is ∙ ap (λ (b : Bool). Some (if b then Dir else File e.id e.mode e.mtime e.modifier e.size)) file) ∙ dir in cc

    no_part : (n : List ℕ) → (map.get nodes (n ∷ []) ≡ Some Dir → ⊥) → id_in (part_of n) ≡ nil
    no_part n other = by (part_of n) refl
      where
        by : (o : Option Kept) → part_of n ≡ o → id_in (part_of n) ≡ nil
        by None is = ap id_in is
        by (Some part) is = absurd (other (stands n (ap is_some is)))

    value_own : (more : Objects) → Keeps objects more → Keeps now more → (q : PathV) → map.get W q ≡ entry_in more (dirents_at more root) q
    value_own more there also [] = no_root
    value_own more there also (n ∷ []) = here n ∙ node_is n ∙ ap (λ (es : List Dirent). option_map entry_of (entry_named n es)) (sym (same_dirents more there))
    value_own more there also (n ∷ m ∷ r) =
        under n m r ∙ (parts n).value more there also (m ∷ r) ∙ by (entry_named n (dirents_at objects root)) refl
        ∙ ap (λ (es : List Dirent). leads (directory_in (entry_named n es))) (sym (same_dirents more there))
      where
        leads : Option (List ℕ) → Option Entry
        leads o = option_and_then (λ id. entry_in more (dirents_at more id) (m ∷ r)) o

        nothing : (map.get nodes (n ∷ []) ≡ Some Dir → ⊥) → entry_in more (dirents_at more (id_in (part_of n))) (m ∷ r) ≡ None
        nothing other = ap (λ (i : List ℕ). entry_in more (dirents_at more i) (m ∷ r)) (no_part n other) ∙ nil_entries more (m ∷ r)

        by_mode : (e : Dirent) → entry_named n (dirents_at objects root) ≡ Some e → (b : Bool) → is_directory_mode e.mode ≡ b
            → entry_in more (dirents_at more (id_in (part_of n))) (m ∷ r) ≡ leads (if b then Some e.id else None)
        by_mode e is true dir = ap (λ (i : List ℕ). entry_in more (dirents_at more i) (m ∷ r)) (sym (id_is n e is dir))
        by_mode e is false file = nothing (file_named n e is file)

        by : (o : Option Dirent) → entry_named n (dirents_at objects root) ≡ o
            → entry_in more (dirents_at more (id_in (part_of n))) (m ∷ r) ≡ leads (directory_in (entry_named n (dirents_at objects root)))
        by None is = nothing (none_named n is) ∙ sym (ap (λ (o : Option Dirent). leads (directory_in o)) is)
        by (Some e) is = by_mode e is (is_directory_mode e.mode) refl ∙ sym (ap (λ (o : Option Dirent). leads (directory_in o)) is)

    own_there : (n : List ℕ) (part : Kept) → part_of n ≡ Some part → (more : Objects) → Keeps objects more → Keeps now more → directory_id_in more (dirents_at more root) (n ∷ []) ≡ Some part.id
    own_there n part is more there also =
        ap (λ (es : List Dirent). directory_in (entry_named n es)) (same_dirents more there) ∙ by (entry_named n (dirents_at objects root)) refl
      where
        dir_here : map.get nodes (n ∷ []) ≡ Some Dir
        dir_here = stands n (ap is_some is)

        by_mode : (e : Dirent) → entry_named n (dirents_at objects root) ≡ Some e → (b : Bool) → is_directory_mode e.mode ≡ b → (if b then Some e.id else None) ≡ Some part.id
        by_mode e found true dir = ap Some (id_is n e found dir ∙ ap id_in is)
        by_mode e found false file = absurd (file_named n e found file dir_here)

        by : (o : Option Dirent) → entry_named n (dirents_at objects root) ≡ o → directory_in (entry_named n (dirents_at objects root)) ≡ Some part.id
        by None found = absurd (none_named n found dir_here)
        by (Some e) found = ap directory_in found ∙ by_mode e found (is_directory_mode e.mode) refl

    -- it has an entry
    no_nodes : ((n : List ℕ) → map.get nodes (n ∷ []) ≡ None) → map.len nodes ≡ 0
    no_nodes none = ap map.len (map.same_map paths_total paths_exact nodes map.empty (λ q. by q (map.get right.listed q) refl ∙ sym (map.get-empty path_cmp q))) ∙ map.len-empty path_cmp Entry
      where
        by : (q : PathV) (o : Option Dirent) → map.get right.listed q ≡ o → map.get nodes q ≡ None
        by q None is = right.just.here q ∙ ap (option_map entry_of) is
        by q (Some e) is = let one = right.tells.only q (ap is_some is) in ap (map.get nodes) one.1 ∙ none one.0

    not_nil : root ≢ nil
    not_nil zeros =
        some (no_nodes (λ n. node_is n ∙ ap (λ (es : List Dirent). option_map entry_of (entry_named n es)) (ap (λ (b : Bool). if b then [] else entries_of (fs_at objects root)) ((bytes_decides root nil).1 zeros))))

    pub built_own : IsBuiltBelow objects W true ids old now root
    built_own = record {
      kept = kept_over (Some root);
      complete = all_complete (Some root) (λ id is. let same : root ≡ id = cc in subst (IsCompleteRoot objects) same complete);
      known = inr refl;
      top = λ id is. let same : root ≡ id = cc in (same, λ e. not_nil (same ∙ e));
      own = λ closed. absurd (true≢false closed);
      value = value_own;
      needed = λ id other has. elim (bs.needed id other has) [
        | inl first ↦ inl first
        | inr found ↦ inr (λ more there also. reached (Some root) now (kept_itself now) root own_there found.0 id other more there also (found.1.1 more there also))
      ];
      below = λ key bytes there. elim (bs.below key bytes there) [ inl first ↦ inl first | inr found ↦ inr (lists_all (Some root) found.0 now (kept_itself now) bytes found.1.1) ];
      ids_kept = ids_all (Some root) now (kept_itself now) root own_there;
      same = λ open_here. all_same (Some root);
      heads = λ more there also. subst (λ (o : Option (List ℕ)). IsHeads objects more o root) (sym is_head) (heads_stored objects more there root complete);
      zeros = ((λ e. absurd (not_nil e)), (λ all. absurd (some (no_nodes (λ n. sym (here n) ∙ all (n ∷ []))))));
    }

  -- ---- the directory has none, and nothing lies below it

  pub built_nothing : (W : Entries) → ((q : PathV) → map.get W q ≡ None) → ((n : List ℕ) → part_of n ≡ None) → IsBuiltBelow objects W true ids old now nil
  built_nothing W none no_part = record {
    kept = kept_over None;
    complete = all_complete None (λ id is. cc is);
    known = inl (inl refl);
    top = λ id is. cc is;
    own = λ closed. absurd (true≢false closed);
    value = λ more there also q. none q ∙ sym (nil_entries more q);
    needed = λ id some has. elim (bs.needed id some has) [
      | inl first ↦ inl first
      | inr found ↦ inr (λ more there also. subst (λ (o : Option Kept). IsDirectoryOf more (id_in o) id) (no_part found.0) (found.1.1 more there also))
    ];
    below = λ key bytes there. elim (bs.below key bytes there) [ inl first ↦ inl first | inr found ↦ inr (lists_all None found.0 now (kept_itself now) bytes found.1.1) ];
    ids_kept = nothing_kept;
    same = λ open_here. all_same None;
    heads = λ more there also. nil_heads objects more ids.head;
    zeros = ((λ e. none), (λ all. refl));
  }
    where
      no_part_here : (n : List ℕ) (part : Kept) → part_of n ≡ Some part → ⊥
      no_part_here n part is = let both : None ≡ Some part = sym (no_part n) ∙ is in cc

      nothing_kept : (dir : PathV) (id : List ℕ) → dir ≢ [] → kept_over None dir ≡ Some id → (more : Objects) → Keeps objects more → Keeps now more → directory_id_in more (dirents_at more nil) dir ≡ Some id
      nothing_kept [] id other is more there also = absurd (other refl)
      nothing_kept (n ∷ []) id other is more there also = let left = left_at n id is in absurd (no_part_here n left.0 left.1.0)
      nothing_kept (n ∷ m ∷ r) id other is more there also = let left = left_below n m r id is more there also in absurd (no_part_here n left.0 left.1.0)
