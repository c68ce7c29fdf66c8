-- What lies below three directories that are settled is one side's as it stands. Read IsOwn; the key lemmas are settled_side, own_is and
-- own_part.
use Rattle.std.proofs.Common.{◌≡◌, ◌≢◌, ◌||◌, ◌&&◌, ◌⊎◌, ℕ, zero, suc, length, not, Bool, true, false, if◌then◌else◌, List, [], ◌∷◌, ◌++◌, map as map_list, refl, sym, ap, ap₂, ◌∙◌, subst, arith, Option, Some, None, IsSome, is_some, option_map, true≢false, inl, inr}
use Rattle.std.proofs.lemmas.Bool.{and_parts, or_cases}
use Rattle.std.specs.Cmp.Lexicographic.{bytes_decides}
use Rattle.std.proofs.lemmas.List.{length-map}
use Rattle.std.specs.FinMap as map
use Rattle.std.specs.List.{AllByRecursion}
use Rattle.std.specs.Option.{option_or}
use Rattle.ids.specs.Key.{Objects}
use Rattle.ids.specs.ObjectId.{nil}
use Rattle.ids.proofs.BasicLemmas.{none_from_is_some, same_from_some}
use Rattle.tree_model.specs.declared.node.FileVersion.{FileVersion}
use Rattle.tree_model.specs.declared.node.Node.{Node}
use Rattle.tree_model.specs.Path.{PathV, path_cmp}
use Rattle.tree_model.specs.PathCounts.{paths_below}
use Rattle.tree_model.specs.PathOrder.{paths_exact, paths_total}
use Rattle.tree_model.specs.FileMerge.{choice, same_file}
use Rattle.tree_model.specs.Tree.{IsTree, Tree, file_of, is_dir}
use Rattle.tree_model.specs.DirectorySurvival.{AgreeBelow, Sides, is_under, is_within, stays}
use Rattle.tree_model.specs.ConflictCopies.{leaver_at}
use Rattle.tree_model.specs.EmptyPart.{IsEmptyBelow}
use Rattle.tree_model.specs.MergeParts.{IsFirst, beyond, copy_at, left_for, long_at, long_in, told_behind}
use Rattle.tree_model.specs.ThreeWayMerge.{merged}
use Rattle.tree_model.proofs.FileMergeLemmas.{same_file-itself}
use Rattle.tree_model.proofs.FirstOfLemmas.{first_same}
use Rattle.tree_model.proofs.ListedLemmas.{is_in}
use Rattle.tree_model.proofs.MergeLemmas.{no_conflicts}
use Rattle.tree_model.proofs.MergedAtLemmas.{nothing_under}
use Rattle.tree_model.proofs.OneSideLemmas.{same_len}
use Rattle.tree_model.proofs.PartLemmas.{some_merged}
use Rattle.tree_model.proofs.PathCountLemmas.{paths_of_root}
use Rattle.tree_model.proofs.ResultTreeLemmas.{no_root_merged}
use Rattle.tree_model.proofs.SettledLemmas.{IsSettled, merged_settled, none_leaves, settled_by_base, settled_by_head, settled_by_pushed}
use Rattle.tree_model.proofs.ShownCountLemmas.{listed_below}
use Rattle.conflict_names.specs.Naming.{naming}
use Rattle.conflict_names.proofs.GoodNameLemmas.{naming-naming}
use Rattle.object_graph.specs.Listing.{Listed, listed}
use Rattle.object_graph.specs.Objects.{IsTreeOf, dirents_at, entries_of, entry_below, entry_in, fs_at, node_of}
use Rattle.object_graph.specs.declared.entry.Entry.{Entry}
use Rattle.object_graph.specs.Traversal.{IsCompleteRoot}
use Rattle.object_graph.specs.Unchanged.{Keeps}
use Rattle.object_graph.proofs.FittingLemmas.{root_is_tree}
use Rattle.object_graph.proofs.ListingLemmas.{table_entries}
use Rattle.tree_walk.specs.Extent.{extent_of}
use Rattle.tree_merge.specs.DirectoryMerge.{AreSidesOf, IsMergedPart, IsSideOf, MergesPart}
use Rattle.tree_merge.specs.FileChoice.{IsWholeIf}
use Rattle.tree_merge.specs.FileEntry.{as_entry, file_in}
use Rattle.tree_merge.specs.Opening.{AreWholeSides, IsCompleteIf, dirents_if, is_left_alone, is_pusheds, is_settled, kept_by, kept_if, part_in, same_directory}
use Rattle.tree_merge.specs.Sides.{AreTrees, Entries}
use Rattle.tree_merge.specs.TreeBuilding.{IsSound, directory_id_in}
use Rattle.tree_merge.specs.WorkSoFar.{copies_behind, long_told}
use Rattle.tree_merge.specs.declared.opening.Ids.{Ids}
use Rattle.tree_merge.specs.declared.opening.Kept.{Kept}
use Rattle.tree_merge.specs.declared.work.Work.{Work}
use Rattle.tree_merge.proofs.HeadsUsedLemmas.{heads_of_part, nil_heads, same_directory-true}
use Rattle.tree_merge.proofs.ListedBelowLemmas.{distinct_paths, in_all, in_table, nothing_listed, paths_listed, some_listed}
use Rattle.tree_merge.proofs.ListedPathLemmas.{Item, StandsBelow, lists_below}
use Rattle.tree_merge.proofs.MadeLemmas.{kept_itself}
use Rattle.tree_merge.proofs.MergedEntryLemmas.{dir_back}
use Rattle.tree_merge.proofs.JoinedSideLemmas.{same_some}
use Rattle.tree_merge.proofs.SideLemmas.{none_in, side_trees}
use Rattle.tree_merge.proofs.StoredTreeLemmas.{entry_stays, file_modes, seen_entries, whole_entries}
use Rattle.tree_merge.proofs.WholeSideLemmas.{complete_part_of}

-- ---- three trees of which pushed is the head, or base

agree_all : (t u : Tree) → ((q : PathV) → map.get t q ≡ map.get u q) → AgreeBelow [] t u
agree_all t u same = record {
  files = λ q under. ap (λ (o : Option Node). same_file (file_of o) (file_of (map.get u q))) (same q) ∙ same_file-itself (file_of (map.get u q));
  dirs = λ q under. ap is_dir (same q);
}

-- the merge is one of its trees as it stands
pub record IsOwn (s : Sides) (x : Tree) : Type 0 where
  pub trees : AreTrees s
  pub tree : IsTree x
  pub merges : (q : PathV) → map.get (merged naming s) q ≡ map.get x q
  pub leaves : (q : PathV) → leaver_at s q ≡ None

-- it is that below the directory of one side
pub record HasSide (objects : Objects) (ids : Ids) (s : Sides) : Type 0 where
  pub tree : Tree
  pub is : IsSideOf objects (part_in ids) tree
  pub own : IsOwn s tree

module _ (objects : Objects) (ids : Ids) (s : Sides) (are : AreSidesOf objects ids s) (settled : is_settled ids.base ids.head ids.pushed ≡ true) (trees : AreTrees s) where
  one_side : (o p : Option (List ℕ)) (t u : Tree) → o ≡ p → IsSideOf objects o t → IsSideOf objects p u → (q : PathV) → map.get t q ≡ map.get u q
  one_side o p t u same of_t of_u q = of_t q ∙ ap (λ (x : Option (List ℕ)). option_map (node_of objects) (entry_in objects (dirents_if objects x) q)) same ∙ sym (of_u q)

  -- what pushed has the head has too, or base
  left_alone : is_left_alone ids.base ids.head ids.pushed ≡ true → IsSettled s s.head []
  left_alone is =
      elim (or_cases (same_directory ids.pushed ids.head) (same_directory ids.pushed ids.base) is) [
        | inl e ↦ settled_by_head s [] trees.head (agree_all s.pushed s.head (one_side ids.pushed ids.head s.pushed s.head (same_directory-true ids.pushed ids.head e) are.pushed are.head))
        | inr e ↦ settled_by_base s [] trees.head (agree_all s.pushed s.base (one_side ids.pushed ids.base s.pushed s.base (same_directory-true ids.pushed ids.base e) are.pushed are.base))
      ]

  -- of base and pushed one has nothing
  none_of : (b p : Option (List ℕ)) → IsSideOf objects b s.base → IsSideOf objects p s.pushed → not (is_some b && is_some p) ≡ true → IsEmptyBelow [] s.base ⊎ IsEmptyBelow [] s.pushed
  none_of None p of_base of_pushed e = inl (λ q under. of_base q ∙ ap (option_map (node_of objects)) (none_in objects q))
  none_of (Some b) None of_base of_pushed e = inr (λ q under. of_pushed q ∙ ap (option_map (node_of objects)) (none_in objects q))
  none_of (Some b) (Some p) of_base of_pushed e = absurd (true≢false (sym e))

  -- pushed alone changed
  pusheds : is_pusheds ids.base ids.head ids.pushed ≡ true → IsSettled s s.pushed []
  pusheds is =
      let both = and_parts (same_directory ids.head ids.base) (not (is_some ids.base && is_some ids.pushed)) is in
      settled_by_pushed s [] trees.pushed (agree_all s.head s.base (one_side ids.head ids.base s.head s.base (same_directory-true ids.head ids.base both.0) are.head are.base))
      (none_of ids.base ids.pushed are.base are.pushed both.1)

  module _ (x : Tree) (of : IsSettled s x []) where
    merges_own : (q : PathV) → map.get (merged naming s) q ≡ map.get x q
    merges_own [] = no_root_merged naming naming-naming s trees.base trees.head trees.pushed ∙ sym of.tree.no_root
    merges_own (n ∷ q) = merged_settled naming naming-naming s trees.base trees.head trees.pushed x [] of (n ∷ q) refl

    none_leave : (q : PathV) → leaver_at s q ≡ None
    none_leave [] =
        ap₂ (λ (h p : Option Node). option_or (choice (file_of (map.get s.base [])) (file_of h) (file_of p)).side (if stays s [] then (choice (file_of (map.get s.base [])) (file_of h) (file_of p)).main else None)) trees.head.no_root trees.pushed.no_root
        ∙ ap (λ (b : Option Node). option_or (choice (file_of b) None None).side (if stays s [] then (choice (file_of b) None None).main else None)) trees.base.no_root
        ∙ by (stays s [])
      where
        by : (b : Bool) → option_or {T = FileVersion} None (if b then None else None) ≡ None
        by true = refl
        by false = refl
    none_leave (n ∷ q) = none_from_is_some (leaver_at s (n ∷ q)) (none_leaves naming naming-naming s trees.base trees.head trees.pushed x [] of (n ∷ q) refl)

    own_of : IsOwn s x
    own_of = record { trees = trees; tree = of.tree; merges = merges_own; leaves = none_leave }

  -- of three directories that are settled
  pub settled_side : HasSide objects ids s
  settled_side = by (is_left_alone ids.base ids.head ids.pushed) refl
    where
      by : (b : Bool) → is_left_alone ids.base ids.head ids.pushed ≡ b → HasSide objects ids s
      by true is = record {
        tree = s.head;
        is = subst (λ (b : Bool). IsSideOf objects (if b then ids.head else ids.pushed) s.head) (sym is) are.head;
        own = own_of s.head (left_alone is);
      }
      by false is = record {
        tree = s.pushed;
        is = subst (λ (b : Bool). IsSideOf objects (if b then ids.head else ids.pushed) s.pushed) (sym is) are.pushed;
        own = own_of s.pushed (pusheds (sym (ap (λ (b : Bool). b || is_pusheds ids.base ids.head ids.pushed) is) ∙ settled));
      }

-- ---- a merge that is a tree as it stands

module _ (s : Sides) (x : Tree) (own : IsOwn s x) where
  pub no_copies : (q : PathV) → copy_at naming s q ≡ None
  no_copies q = ap (λ (ms : List _). map.find path_cmp q (map_list left_for ms)) (no_conflicts naming s own.leaves)

  pub none_long : (q : PathV) → long_at naming s q ≡ None
  none_long q = ap long_in (no_copies q)

  told_none : (path q : PathV) → told_behind path (long_at naming s) q ≡ None
  told_none path q = by (is_under path q)
    where
      by : (b : Bool) → (if b then long_at naming s (beyond path q) else None) ≡ None
      by true = none_long (beyond path q)
      by false = refl

  copies_none : (path q : PathV) → copies_behind path (copy_at naming s) q ≡ None
  copies_none path q = by (is_within path q)
    where
      by : (b : Bool) → (if b then option_map (λ (place : PathV). path ++ place) (copy_at naming s (beyond path q)) else None) ≡ None
      by true = ap (option_map (λ (place : PathV). path ++ place)) (no_copies (beyond path q))
      by false = refl

  -- something is left exactly where the tree has something
  survives_own : (b : Bool) → ((b ≡ true) → (n : List ℕ) × ((q : PathV) × IsSome (map.get x (n ∷ q)))) → ((b ≡ false) → (q : PathV) → map.get x q ≡ None) → b ≡ stays s []
  survives_own true some none = sym (by (stays s []) refl)
    where
      by : (c : Bool) → stays s [] ≡ c → stays s [] ≡ true
      by true is = is
      by false gone =
          let here = some refl in
          absurd (true≢false (sym here.1.1 ∙ ap is_some (sym (own.merges (here.0 ∷ here.1.0)) ∙ nothing_under naming naming-naming s own.trees.base own.trees.head own.trees.pushed [] (here.0 ∷ here.1.0) gone refl)))
  survives_own false some none = sym (by (stays s []) refl)
    where
      by : (c : Bool) → stays s [] ≡ c → stays s [] ≡ false
      by false is = is
      by true stay =
          let here = some_merged naming naming-naming s stay in
          absurd (true≢false (sym here.1 ∙ ap is_some (own.merges here.0 ∙ none refl here.0)))

  pub none_merged : ((q : PathV) → map.get x q ≡ None) → (q : PathV) → map.get (merged naming s) q ≡ None
  none_merged nothing q = own.merges q ∙ nothing q

  pub none_survives : ((q : PathV) → map.get x q ≡ None) → false ≡ stays s []
  none_survives nothing = survives_own false (λ e. cc) (λ e. nothing)

  first_kept : (path : PathV) (f : PathV → Option ℕ) (a : Option (PathV × ℕ)) → IsFirst f a → IsFirst (λ q. option_or (f q) (told_behind path (long_at naming s) q)) a
  first_kept path f a first = first_same f (λ q. option_or (f q) (told_behind path (long_at naming s) q)) (λ q. sym (ap (option_or (f q)) (told_none path q) ∙ or_none (f q))) a first
    where
      or_none : (o : Option ℕ) → option_or o None ≡ o
      or_none None = refl
      or_none (Some y) = refl

  same_copies : (path : PathV) (w : Work) (q : PathV) → map.get w.copies q ≡ option_or (copies_behind path (copy_at naming s) q) (map.get w.copies q)
  same_copies path w q = sym (ap (λ (o : Option PathV). option_or o (map.get w.copies q)) (copies_none path q))

-- ---- the entries of a complete directory

pub stored_sound : (objects : Objects) (id : List ℕ) → IsCompleteRoot objects id → (tree : Tree) → IsTreeOf objects id tree → IsSound (map.from_entries {R = path_cmp} (listed objects 100 id))
stored_sound objects id complete tree is = record {
  no_root = at [];
  in_dirs = λ dir name other some.
      at dir
      ∙ dir_back objects (entry_below objects dir id)
      (ap is_dir (sym (is dir)) ∙ (root_is_tree objects id tree is).in_dirs dir name other (ap is_some (is (dir ++ name ∷ [])) ∙ mapped (entry_below objects (dir ++ name ∷ []) id) ∙ ap is_some (sym (at (dir ++ name ∷ []))) ∙ some));
  modes = λ path file there. file_modes objects path id (as_entry file) (sym (at path) ∙ there) file refl;
}
  where
    at : (q : PathV) → map.get (map.from_entries {R = path_cmp} (listed objects 100 id)) q ≡ entry_below objects q id
    at = table_entries true objects id complete

    mapped : (o : Option _) → is_some (option_map (node_of objects) o) ≡ is_some o
    mapped None = refl
    mapped (Some x) = refl

-- ---- nothing

pub none_sound : IsSound map.empty
none_sound = record {
  no_root = map.get-empty path_cmp [];
  in_dirs = λ dir name other some. absurd (true≢false (sym some ∙ ap is_some (map.get-empty path_cmp (dir ++ name ∷ []))));
  modes = λ q file there. let both : None ≡ Some (as_entry file) = sym (map.get-empty path_cmp q) ∙ there in cc;
}

-- nothing lies below forty zeros
pub nil_entries : (more : Objects) (q : PathV) → entry_below more q nil ≡ None
nil_entries more q = ap (λ es. entry_in more es q) (ap (λ (b : Bool). if b then [] else entries_of (fs_at more nil)) ((bytes_decides nil nil).1 refl)) ∙ none_in more q

-- ---- what is left

module _ (objects : Objects) (path : PathV) (ids : Ids) (w : Work) (s : Sides) (x : Tree) (own : IsOwn s x) (settled : is_settled ids.base ids.head ids.pushed ≡ true) where
  -- of nothing
  own_none : ((q : PathV) → map.get x q ≡ None) → ((id : List ℕ) → part_in ids ≡ Some id → (extent_of objects id).paths ≢ 0 → ⊥) → IsMergedPart objects path false ids s w w None
  own_none nothing empty = record {
    survives = survives_own s x own false (λ e. cc) (λ e. nothing);
    long = λ f first. first_kept s x own path f (long_told w.long) first;
    named = λ short. record {
      count = sym (ap map.len (map.same_map paths_total paths_exact (merged naming s) map.empty (λ q. none q ∙ sym (map.get-empty path_cmp q))) ∙ map.len-empty path_cmp Node);
      copies = same_copies s x own path w;
      entries = map.empty;
      sound = none_sound;
      seen = λ more keeps q. none q ∙ sym (ap (option_map (node_of more)) (map.get-empty path_cmp q));
      whole = λ q. subst (λ (o : Option Entry). IsWholeIf objects (file_in o)) (sym (map.get-empty path_cmp q)) tt;
      kept_made = kept_itself w.made;
      texts = λ key bytes there. inl there;
      taken = λ id there. inl there;
      many = λ there. inl there;
      still = λ clear. clear;
      built = λ clear. record {
        kept = λ dir. None;
        complete = λ dir id there. cc there;
        known = inl (inl refl);
        top = λ id there. cc there;
        own = λ closed id is some. absurd (empty id is some);
        value = λ more keeps also q. map.get-empty path_cmp q ∙ sym (nil_entries more q);
        needed = λ id some_id there. inl there;
        below = λ key bytes there. inl there;
        ids_kept = λ dir id some there. cc there;
        same = λ open_here. cc open_here;
        heads = λ more keeps also. nil_heads objects more ids.head;
        zeros = ((λ e q. map.get-empty path_cmp q), (λ all. refl));
      };
    };
  }
    where
      none : (q : PathV) → map.get (merged naming s) q ≡ None
      none = none_merged s x own nothing

  -- the one directory that is kept
  abbrev kept_root : List ℕ → PathV → Option (List ℕ)
  kept_root id [] = Some id
  kept_root id (n ∷ q) = None

  -- of the directory of that side
  module _ (id : List ℕ) (is_part : part_in ids ≡ Some id) (of_own : IsTreeOf objects id x) (complete : IsCompleteRoot objects id) (k : ℕ) (some : length (listed objects 100 id) ≡ suc k) where
    abbrev table : Entries
    table = map.from_entries {R = path_cmp} (listed objects 100 id)

    at : (q : PathV) → map.get table q ≡ entry_below objects q id
    at = table_entries true objects id complete

    not_empty : ((n : List ℕ) (q : PathV) → entry_below objects (n ∷ q) id ≡ None) → ⊥
    not_empty = some_listed objects id k some

    not_nil : id ≢ nil
    not_nil zeros = not_empty (λ n q. ap (λ es. entry_in objects es (n ∷ q)) (ap (λ (b : Bool). if b then [] else entries_of (fs_at objects id)) ((bytes_decides id nil).1 zeros)) ∙ none_in objects (n ∷ q))

    -- the first of what is listed stands below
    one_below : (n : List ℕ) × ((q : PathV) × IsSome (map.get x (n ∷ q)))
    one_below = first (listed objects 100 id) some (lists_below objects 100 id).all
      where
        at_path : (q : PathV) → q ≢ [] → IsSome (entry_below objects q id) → (n : List ℕ) × ((q : PathV) × IsSome (map.get x (n ∷ q)))
        at_path [] other there = absurd (other refl)
        at_path (n ∷ q) other there = (n, (q, ap is_some (of_own (n ∷ q)) ∙ same_some (node_of objects) (entry_below objects (n ∷ q) id) ∙ there))

        first : (xs : Listed) → length xs ≡ suc k → AllByRecursion (StandsBelow objects id) xs → (n : List ℕ) × ((q : PathV) × IsSome (map.get x (n ∷ q)))
        first [] is all = absurd (omega (arith, is))
        first (y ∷ xs) is all = at_path y.0 all.0.other all.0.there

    paths_of_own : suc k ≡ map.len (merged naming s)
    paths_of_own =
        let below = lists_below objects 100 id in
        let xs : List PathV = paths_listed (listed objects 100 id) in
        let stand : (r : PathV) → is_in r xs ≡ true → (r ≢ []) × IsSome (map.get x r) =
        in_all (λ (r : PathV). (r ≢ []) × IsSome (map.get x r)) (listed objects 100 id) (each (listed objects 100 id) below.all) in
        let count : paths_below x [] ≡ length xs =
        listed_below x [] xs (distinct_paths (listed objects 100 id) below.distinct) stand
        (λ n r there. in_table (listed objects 100 id) (n ∷ r) (ap is_some (at (n ∷ r)) ∙ sym (same_some (node_of objects) (entry_below objects (n ∷ r) id)) ∙ ap is_some (sym (of_own (n ∷ r))) ∙ there)) in
        sym some ∙ sym (length-map (listed objects 100 id) (λ y. y.0)) ∙ sym count ∙ paths_of_root x own.tree.no_root
        ∙ sym (same_len (merged naming s) x (λ q. ap is_some (own.merges q)))
      where
        stands : (r : PathV) → r ≢ [] → IsSome (entry_below objects r id) → (r ≢ []) × IsSome (map.get x r)
        stands r other there = (other, ap is_some (of_own r) ∙ same_some (node_of objects) (entry_below objects r id) ∙ there)

        each : (xs : Listed) → AllByRecursion (StandsBelow objects id) xs → AllByRecursion (λ (y : Item). (y.0 ≢ []) × IsSome (map.get x y.0)) xs
        each [] all = tt
        each (y ∷ xs) all = (stands y.0 all.0.other all.0.there, each xs all.1)

    own_some : IsMergedPart objects path false ids s w w (Some (record { id = id; paths = suc k }))
    own_some = record {
      survives = survives_own s x own true (λ e. one_below) (λ e. cc);
      long = λ f first. first_kept s x own path f (long_told w.long) first;
      named = λ short. record {
        count = paths_of_own;
        copies = same_copies s x own path w;
        entries = table;
        sound = stored_sound objects id complete x of_own;
        seen = λ more keeps q. own.merges q ∙ seen_entries objects more keeps id complete table at x of_own q;
        whole = whole_entries objects id complete table at;
        kept_made = kept_itself w.made;
        texts = λ key bytes there. inl there;
        taken = λ i there. inl there;
        many = λ there. inl there;
        still = λ clear. clear;
        built = λ clear. record {
          kept = kept_root id;
          complete = kept_complete;
          known = inr refl;
          top = λ i there. let same : id ≡ i = cc in (same, λ e. not_nil (same ∙ e));
          own = λ closed i is some_paths. sym is_part ∙ is;
          value = λ more keeps also q. at q ∙ sym (entry_stays objects more keeps id complete q);
          needed = λ i some_id there. inl there;
          below = λ key bytes there. inl there;
          ids_kept = kept_ids_none;
          same = λ open_here. cc open_here;
          heads = λ more keeps also. heads_of_part objects more keeps ids id settled is_part complete;
          zeros = (
            (λ zeros. absurd (not_nil zeros)),
            (λ none. absurd (not_empty (λ n q. sym (at (n ∷ q)) ∙ none (n ∷ q)))),
          );
        };
      };
    }
      where
        kept_complete : (dir : PathV) (i : List ℕ) → kept_root id dir ≡ Some i → IsCompleteRoot objects i
        kept_complete [] i there = let same : id ≡ i = cc in subst (IsCompleteRoot objects) same complete
        kept_complete (n ∷ q) i there = cc there

        kept_ids_none : (dir : PathV) (i : List ℕ) → dir ≢ [] → kept_root id dir ≡ Some i → (more : Objects) → Keeps objects more → Keeps w.made more
            → directory_id_in more (dirents_at more id) dir ≡ Some i
        kept_ids_none [] i other there = absurd (other refl)
        kept_ids_none (n ∷ q) i other there = cc there

  -- that directory as it stands is what is left
  pub own_is : IsSideOf objects (part_in ids) x → IsCompleteIf objects (part_in ids) → IsMergedPart objects path false ids s w w (kept_if objects (part_in ids))
  own_is side complete = by (part_in ids) refl side complete
    where
      by : (o : Option (List ℕ)) → part_in ids ≡ o → IsSideOf objects o x → IsCompleteIf objects o → IsMergedPart objects path false ids s w w (kept_if objects o)
      by None is of_own whole = own_none (λ q. of_own q ∙ ap (option_map (node_of objects)) (none_in objects q)) (λ id there some. let both : None ≡ Some id = sym is ∙ there in cc)
      by (Some id) is of_own whole = sized (length (listed objects 100 id)) refl
        where
          sized : (n : ℕ) → length (listed objects 100 id) ≡ n → IsMergedPart objects path false ids s w w (kept_by id n)
          sized zero none =
              own_none (λ q. of_own q ∙ ap (option_map (node_of objects)) (nothing_listed objects id whole none q))
              (λ i there some. let same : id ≡ i = same_from_some id i (sym is ∙ there) in some (ap (λ (j : List ℕ). length (listed objects 100 j)) (sym same) ∙ none))
          sized (suc k) some = own_some id is of_own whole k some

-- the same as a merge of directories that are settled
pub own_part : (objects : Objects) (path : PathV) (ids : Ids) (w : Work) (room : ℕ) → AreWholeSides objects room ids → is_settled ids.base ids.head ids.pushed ≡ true
    → (part : Option Kept) → part ≡ kept_if objects (part_in ids) → MergesPart objects path ids w w part
own_part objects path ids w room whole settled part is s are =
    let side = settled_side objects ids s are settled (side_trees objects room ids whole s are) in
    subst (λ (p : Option Kept). IsMergedPart objects path (not (is_settled ids.base ids.head ids.pushed)) ids s w w p) (sym is)
    (subst (λ (b : Bool). IsMergedPart objects path (not b) ids s w w (kept_if objects (part_in ids))) (sym settled)
    (own_is objects path ids w s side.tree side.own settled side.is (complete_part_of objects room ids whole)))
