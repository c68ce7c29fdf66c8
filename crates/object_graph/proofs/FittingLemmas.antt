-- Each complete root has one tree, which is a tree within the limits. The key lemmas are tree_of_root, one_tree and
-- root_fits.
use Rattle.std.proofs.Common.{◌≡◌, ◌≢◌, ◌≤◌, ◌+◌, ℕ, Bool, true, false, if◌then◌else◌, is_some, IsSome, List, [], ◌∷◌, ◌++◌, length, refl, sym, ap, ◌∙◌, subst, Option, None, Some, Result, Ok, Err, option_map, option_and_then, arith, inl, inr}
use Rattle.std.specs.FinMap as map
use Rattle.std.specs.List.{AllByRecursion}
use Rattle.ids.specs.Key.{Objects}
use Rattle.tree_model.specs.Name.{IsName}
use Rattle.tree_model.specs.Path.{PathV}
use Rattle.tree_model.specs.PathOrder.{paths_total, paths_exact}
use Rattle.tree_model.specs.Tree.{Tree, IsTree, Fits, is_dir}
use Rattle.tree_model.specs.declared.limits.TheConstants.{MAX_PATHS, MAX_NAMES}
use Rattle.fs_objects.specs.FsObject.{fs_of}
use Rattle.fs_objects.specs.Mode.{is_directory_mode}
use Rattle.fs_objects.specs.declared.dirent.Dirent.{Dirent}
use Rattle.fs_objects.specs.declared.fault.BadFs.{BadFs}
use Rattle.fs_objects.specs.declared.fs_object.FsObject.{FsObject}
use Rattle.fs_objects.specs.declared.fs_object.FsObject.TheVariants as fs
use Rattle.object_graph.specs.Objects.{fs_key, fs_at, fs_in, as_read, is_nil, entries_of, entry_named, entry_of, directory_in, dirents_at, entry_in, entry_below, node_of, IsTreeOf}
use Rattle.object_graph.specs.Traversal.{start, walk_object, walk_below, walk_root, IsCompleteRoot}
use Rattle.object_graph.specs.declared.entry.Entry.{Entry}
use Rattle.object_graph.specs.declared.entry.Entry.TheVariants as entry
use Rattle.object_graph.specs.Listing.{listed}
use Rattle.object_graph.proofs.BelowLemmas.{Ran, reaches}
use Rattle.object_graph.proofs.CountingLemmas.{counts_below}
use Rattle.object_graph.proofs.EntryLemmas.{In, named_member, named_name}
use Rattle.object_graph.proofs.EntryReadingLemmas.{good_names}
use Rattle.object_graph.proofs.LimitLemmas.{root_bounded}
use Rattle.object_graph.proofs.ListingLemmas.{found_listed, tree_of, get-tree_of, len-tree_of}
use Rattle.object_graph.proofs.SameBelowLemmas.{ran_root}

good_member : (entries : List Dirent) (e : Dirent) → AllByRecursion (λ (e : Dirent). IsName e.name) entries → In e entries → IsName e.name
unfolding In
good_member [] e all there = absurd there
good_member (x ∷ entries) e all there = elim there [ inl is ↦ subst (λ (y : Dirent). IsName y.name) (sym is) all.0 | inr more ↦ good_member entries e all.1 more ]

module _ (A : Objects) where
  -- ---- the shape of what lies below

  -- a directory stands above each entry
  entry_above : (entries : List Dirent) (dir : PathV) (name : List ℕ) → dir ≢ [] → is_some (entry_in A entries (dir ++ name ∷ [])) ≡ true → entry_in A entries dir ≡ Some entry.Dir
  entry_above entries [] name other is = absurd (other refl)
  entry_above entries (first ∷ []) name other is = by (entry_named first entries) is
    where
      within : (e : Dirent) (b : Bool) → is_some (option_and_then (λ id. entry_in A (dirents_at A id) (name ∷ [])) (if b then Some e.id else None)) ≡ true
          → (if b then entry.Dir else entry.File e.id e.mode e.mtime e.modifier e.size) ≡ entry.Dir
      within e true is = refl
      within e false is = cc

      by : (o : Option Dirent) → is_some (option_and_then (λ id. entry_in A (dirents_at A id) (name ∷ [])) (directory_in o)) ≡ true → option_map entry_of o ≡ Some entry.Dir
      by None is = cc
      by (Some e) is = ap Some (within e (is_directory_mode e.mode) is)
  entry_above entries (first ∷ next ∷ dir) name other is = by (directory_in (entry_named first entries)) is (λ id. entry_above (dirents_at A id) (next ∷ dir) name not_root)
    where
      not_root : next ∷ dir ≢ []
      not_root e = cc

      by : (o : Option (List ℕ)) → is_some (option_and_then (λ id. entry_in A (dirents_at A id) (next ∷ dir ++ name ∷ [])) o) ≡ true
          → ((id : List ℕ) → is_some (entry_in A (dirents_at A id) (next ∷ dir ++ name ∷ [])) ≡ true → entry_in A (dirents_at A id) (next ∷ dir) ≡ Some entry.Dir)
          → option_and_then (λ id. entry_in A (dirents_at A id) (next ∷ dir)) o ≡ Some entry.Dir
      by None is more = cc
      by (Some id) is more = more id is

  -- ---- good names

  good_dirents : (id : List ℕ) → AllByRecursion (λ (e : Dirent). IsName e.name) (dirents_at A id)
  good_dirents id = by (is_nil id)
    where
      object : (bytes : List ℕ) (r : Result FsObject BadFs) → fs_of bytes ≡ r → AllByRecursion (λ (e : Dirent). IsName e.name) (entries_of (as_read (fs_key id) r))
      object bytes (Ok (fs.Dir entries)) is = good_names bytes entries is
      object bytes (Ok (fs.File file)) is = tt
      object bytes (Err bad) is = tt

      read : (o : Option (List ℕ)) → AllByRecursion (λ (e : Dirent). IsName e.name) (entries_of (fs_in (fs_key id) o))
      read None = tt
      read (Some bytes) = object bytes (fs_of bytes) refl

      by : (n : Bool) → AllByRecursion (λ (e : Dirent). IsName e.name) (if n then [] else entries_of (fs_at A id))
      by true = tt
      by false = read (map.get A (fs_key id))

  good_named : (entries : List Dirent) → AllByRecursion (λ (e : Dirent). IsName e.name) entries → (name : List ℕ) (e : Dirent) → entry_named name entries ≡ Some e → IsName name
  good_named entries all name e is = subst IsName (sym (named_name name entries e is)) (good_member entries e all (named_member name entries e is))

  good_path : (entries : List Dirent) (path : PathV) → AllByRecursion (λ (e : Dirent). IsName e.name) entries → is_some (entry_in A entries path) ≡ true → AllByRecursion IsName path
  good_path entries [] all is = tt
  good_path entries (name ∷ []) all is = by (entry_named name entries) refl is
    where
      by : (o : Option Dirent) → entry_named name entries ≡ o → is_some (option_map entry_of o) ≡ true → AllByRecursion IsName (name ∷ [])
      by None found is = cc
      by (Some e) found is = (good_named entries all name e found, tt)
  good_path entries (name ∷ next ∷ path) all is = by (entry_named name entries) refl is (λ id. good_path (dirents_at A id) (next ∷ path) (good_dirents id))
    where
      within : (e : Dirent) (b : Bool) → is_some (option_and_then (λ id. entry_in A (dirents_at A id) (next ∷ path)) (if b then Some e.id else None)) ≡ true
          → ((id : List ℕ) → is_some (entry_in A (dirents_at A id) (next ∷ path)) ≡ true → AllByRecursion IsName (next ∷ path)) → AllByRecursion IsName (next ∷ path)
      within e true is more = more e.id is
      within e false is more = cc

      by : (o : Option Dirent) → entry_named name entries ≡ o → is_some (option_and_then (λ id. entry_in A (dirents_at A id) (next ∷ path)) (directory_in o)) ≡ true
          → ((id : List ℕ) → is_some (entry_in A (dirents_at A id) (next ∷ path)) ≡ true → AllByRecursion IsName (next ∷ path)) → AllByRecursion IsName (name ∷ next ∷ path)
      by None found is more = cc
      by (Some e) found is more = (good_named entries all name e found, within e (is_directory_mode e.mode) is more)

  -- ---- trees

  some_entry : (o : Option Entry) → is_some (option_map (node_of A) o) ≡ true → is_some o ≡ true
  some_entry None is = is
  some_entry (Some x) is = refl

  -- a tree of any root is a tree
  pub root_is_tree : (root : List ℕ) (t : Tree) → IsTreeOf A root t → IsTree t
  root_is_tree root t is = record {
    no_root = is [];
    in_dirs = λ dir name other there.
        ap is_dir (is dir ∙ ap (option_map (node_of A)) (entry_above (dirents_at A root) dir name other (entry_at (dir ++ name ∷ []) there)));
    named = λ path there. record { named = good_path (dirents_at A root) path (good_dirents root) (entry_at path there) };
  }
    where
      entry_at : (path : PathV) → IsSome (map.get t path) → is_some (entry_below A path root) ≡ true
      entry_at path there = some_entry (entry_below A path root) (ap is_some (sym (is path)) ∙ there)

  -- a root has no two trees
  pub one_tree : (root : List ℕ) (t u : Tree) → IsTreeOf A root t → IsTreeOf A root u → t ≡ u
  one_tree root t u first second = map.same_map paths_total paths_exact t u (λ q. first q ∙ sym (second q))

  module _ (root : List ℕ) (complete : IsCompleteRoot A root) where
    ran : Ran (walk_object true A (walk_below true A MAX_NAMES) true [] root) (walk_root true A root start).visits
    ran = ran_root true A root start complete

    abbrev root_tree : Tree
    root_tree = tree_of A (listed A MAX_NAMES root)

    root_tree_is : IsTreeOf A root root_tree
    root_tree_is q = get-tree_of A q (listed A MAX_NAMES root) ∙ ap (option_map (node_of A)) (found_listed true A q MAX_NAMES [] root (walk_root true A root start).visits ran)

    root_few : map.len root_tree ≤ MAX_PATHS
    root_few =
        let counted : (walk_root true A root start).paths ≡ 0 + length (listed A MAX_NAMES root) = counts_below true A MAX_NAMES [] root start complete in
        let few : (walk_root true A root start).paths ≤ MAX_PATHS = root_bounded true A root start (omega arith) complete in
        omega (arith, len-tree_of A (listed A MAX_NAMES root), counted, few)

    root_depth : (q : PathV) → IsSome (map.get root_tree q) → length q ≤ MAX_NAMES
    root_depth q there = by (entry_below A q root) refl (some_entry (entry_below A q root) (ap is_some (sym (root_tree_is q)) ∙ there))
      where
        by : (o : Option Entry) → entry_below A q root ≡ o → is_some o ≡ true → length q ≤ MAX_NAMES
        by None is there = cc
        by (Some x) is there = (reaches true A q MAX_NAMES [] root (walk_root true A root start).visits ran x is).1

    -- a complete root has a tree, which fits the limits
    pub root_fits : (t : Tree) × IsTreeOf A root t × Fits t
    root_fits = (root_tree, root_tree_is, record { whole = root_is_tree root root_tree root_tree_is; count = root_few; depth = root_depth })
