-- Directories below a complete root are complete as roots. The key lemmas are directory_complete, child_complete and
-- whole_entries_of.
use Rattle.std.proofs.Common.{◌≡◌, ◌≢◌, ◌≤◌, ◌||◌, ℕ, suc, Bool, true, false, if◌then◌else◌, List, [], ◌∷◌, length, refl, sym, ap, ap₂, ◌∙◌, subst, arith, Option, Some, None, IsSome, is_some, option_map, option_and_then, Result, Ok, Err, true≢false, inl, inr}
use Rattle.std.specs.FinMap as map
use Rattle.ids.specs.Key.{Objects}
use Rattle.ids.specs.declared.key.Key.{Key}
use Rattle.tree_model.specs.Path.{PathV}
use Rattle.fs_objects.specs.declared.dirent.Dirent.{Dirent}
use Rattle.fs_objects.specs.declared.fs_object.FsObject.{FsObject}
use Rattle.fs_objects.specs.declared.fs_object.FsObject.TheVariants as fs
use Rattle.object_graph.specs.Listing.{listed, prefixed}
use Rattle.object_graph.specs.Objects.{AreEntriesOf, directory_in, dirents_at, entry_below, entry_in, entry_named, entry_of, fs_at, fs_key, is_nil, node_of}
use Rattle.object_graph.specs.Traversal.{IsCompleteRoot, Walk, start, then_read, visited, walk_below, walk_found, walk_object, walk_root}
use Rattle.object_graph.specs.declared.entry.Entry.{Entry}
use Rattle.object_graph.specs.declared.fault.TreeFault.{TreeFault}
use Rattle.object_graph.proofs.BelowLemmas.{Ran, reaches}
use Rattle.object_graph.proofs.CountingLemmas.{length-prefixed}
use Rattle.object_graph.proofs.FittingLemmas.{root_fits}
use Rattle.object_graph.proofs.ListingLemmas.{table_entries}
use Rattle.object_graph.proofs.SameBelowLemmas.{ran_root}
use Rattle.tree_merge.specs.FileChoice.{IsWholeIf as IsWholeFile}
use Rattle.tree_merge.specs.FileEntry.{as_entry, file_in}
use Rattle.tree_merge.specs.Level.{IsDirectoryAt}
use Rattle.tree_merge.specs.Opening.{AreWholeEntries, AreWholeSides, IsCompleteIf, IsDirectoryIf, IsWholeIf, dirents_if, is_left_alone, part_in}
use Rattle.tree_merge.specs.Sides.{Entries}
use Rattle.tree_merge.specs.Telling.{IsWhole}
use Rattle.tree_merge.specs.declared.file_entry.FileEntry.{FileEntry}
use Rattle.tree_merge.specs.declared.level.Trio.{Trio}
use Rattle.tree_merge.specs.declared.opening.Ids.{Ids}
use Rattle.tree_merge.proofs.CompleteRootLemmas.{StandsWell, completes, fine_below}
use Rattle.tree_merge.proofs.JoinedSideLemmas.{seen_len}
use Rattle.tree_merge.proofs.ListedPathLemmas.{Item, StandsBelow, all_prefixed, distinct_prefixed, fits_in, lists_below}
use Rattle.tree_merge.proofs.SideLemmas.{trio_of}
use Rattle.tree_merge.proofs.StoredTreeLemmas.{whole_entries}
use Rattle.tree_merge.proofs.VisitedLemmas.{WasWalked, entry_walks, walks_below}

module _ (objects : Objects) where
  -- a directory that was gone over can be read
  walked_readable : (room : ℕ) (path : PathV) (id : List ℕ) (w : Walk) → (walk_object true objects (walk_below true objects room) true path id w).fault ≡ None → IsDirectoryAt objects id
  walked_readable room path id w none = by (is_nil id) refl none
    where
      read : (r : Result FsObject TreeFault) → fs_at objects id ≡ r → (then_read r (walk_found true objects (walk_below true objects room) true path id) (visited (fs_key id) w)).fault ≡ None → IsDirectoryAt objects id
      read (Ok (fs.Dir entries)) is clear = inr (entries, is)
      read (Ok (fs.File file)) is clear = cc clear
      read (Err fault) is clear = cc clear

      by : (n : Bool) → is_nil id ≡ n → (if n then w else then_read (fs_at objects id) (walk_found true objects (walk_below true objects room) true path id) (visited (fs_key id) w)).fault ≡ None → IsDirectoryAt objects id
      by true is clear = inl is
      by false is clear = read (fs_at objects id) refl clear

  pub complete_directory : (id : List ℕ) → IsCompleteRoot objects id → IsDirectoryAt objects id
  complete_directory id complete = walked_readable 100 [] id start complete

  module _ (id : List ℕ) (complete : IsCompleteRoot objects id) (name : List ℕ) (child : List ℕ) (named : directory_in (entry_named name (dirents_at objects id)) ≡ Some child) where
    abbrev visits : List Key
    visits = (walk_root true objects id start).visits

    ran : Ran (walk_object true objects (walk_below true objects 100) true [] id) visits
    ran = ran_root true objects id start complete

    walked : WasWalked objects child visits
    walked = entry_walks objects 100 [] id visits ran name child named

    below : (m : List ℕ) (q : PathV) → entry_below objects (name ∷ m ∷ q) id ≡ entry_below objects (m ∷ q) child
    below m q = ap (option_and_then (λ i. entry_in objects (dirents_at objects i) (m ∷ q))) named

    abbrev table : Entries
    table = map.from_entries (listed objects 100 id)

    are : AreEntriesOf objects id table
    are = table_entries true objects id complete

    deep : (q : PathV) (x : Entry) → entry_below objects q child ≡ Some x → length q ≤ 100
    deep [] x is = omega arith
    deep (m ∷ q) x is =
        let reached : length (name ∷ m ∷ q) ≤ 100 = (reaches true objects (name ∷ m ∷ q) 100 [] id visits ran x (below m q ∙ is)).1 in
        omega (arith, reached)

    file_whole : (q : PathV) (file : FileEntry) → entry_below objects q child ≡ Some (as_entry file) → IsWhole objects file.id
    file_whole [] file is = cc is
    file_whole (m ∷ q) file is =
        subst (λ (o : Option Entry). IsWholeFile objects (file_in o)) (are (name ∷ m ∷ q) ∙ below m q ∙ is) (whole_entries objects id complete table are (name ∷ m ∷ q))

    well : StandsWell objects 100 child
    well = record {
      readable = walked_readable walked.room walked.path child walked.ran.from walked.ran.none;
      deep = deep;
      dirs = λ q i is. let own = walks_below objects q walked.room walked.path child visits walked.ran i is in walked_readable own.room own.path i own.ran.from own.ran.none;
      files = file_whole;
    }

    few : length (listed objects 100 child) ≤ 1000000
    few =
        let own = lists_below objects 100 child in
        let tree = root_fits objects id complete in
        let count : map.len tree.0 ≡ map.len table = seen_len objects table tree.0 (λ path. tree.1 path ∙ ap (option_map (node_of objects)) (sym (are path))) in
        let fit : length (prefixed name (listed objects 100 child)) ≤ map.len table =
        fits_in (prefixed name (listed objects 100 child)) table (distinct_prefixed name (listed objects 100 child) own.distinct)
        (all_prefixed (StandsBelow objects child) (λ (y : Item). IsSome (map.get table y.0)) name (λ y stands. stood y.0 stands.other stands.there) (listed objects 100 child) own.all) in
        let same = length-prefixed name (listed objects 100 child) in
        let bound = tree.2.count in
        omega (arith, count, fit, same, bound)
      where
        stood : (q : PathV) → q ≢ [] → IsSome (entry_below objects q child) → IsSome (map.get table (name ∷ q))
        stood [] some there = absurd (some refl)
        stood (m ∷ q) some there = ap is_some (are (name ∷ m ∷ q) ∙ below m q) ∙ there

    pub child_complete : IsCompleteRoot objects child
    child_complete = completes objects 100 [] child start (fine_below objects 100 child well) refl (let count = few in omega (arith, count))

  -- ---- the entries of a name

  child_side : (room less : ℕ) → room ≡ suc less → (o : Option (List ℕ)) → IsWholeIf objects room o → (name : List ℕ) → IsWholeIf objects less (directory_in (entry_named name (dirents_if objects o)))
  child_side room less is None whole name = tt
  child_side room less is (Some id) whole name = by (directory_in (entry_named name (dirents_at objects id))) refl
    where
      by : (o : Option (List ℕ)) → directory_in (entry_named name (dirents_at objects id)) ≡ o → IsWholeIf objects less o
      by None found = tt
      by (Some child) found = record {
        complete = child_complete id whole.complete name child found;
        deep = deep;
      }
        where
          deep : (q : PathV) → IsSome (entry_below objects q child) → length q ≤ less
          deep [] there = omega arith
          deep (m ∷ q) there =
              let long : length (name ∷ m ∷ q) ≤ room = whole.deep (name ∷ m ∷ q) (ap (λ (o : Option (List ℕ)). is_some (option_and_then (λ i. entry_in objects (dirents_at objects i) (m ∷ q)) o)) found ∙ there) in
              omega (arith, long, is)

  some_side : (room : ℕ) (o : Option (List ℕ)) → IsWholeIf objects room o → (name : List ℕ) → is_some (entry_named name (dirents_if objects o)) ≡ true → 1 ≤ room
  some_side room None whole name there = cc there
  some_side room (Some id) whole name there = whole.deep (name ∷ []) (by (entry_named name (dirents_at objects id)) there)
    where
      by : (o : Option Dirent) → is_some o ≡ true → is_some (option_map entry_of o) ≡ true
      by None e = e
      by (Some e) f = refl

  pub whole_entries_of : (room : ℕ) (ids : Ids) (name : List ℕ) (trio : Trio) → AreWholeSides objects room ids
      → trio ≡ trio_of objects ids name
      → (is_some trio.base || (is_some trio.head || is_some trio.pushed)) ≡ true → AreWholeEntries objects room trio
  whole_entries_of room ids name trio whole is some =
      subst (AreWholeEntries objects room) (sym is) (record {
        some_room = by (is_some (entry_named name (dirents_if objects ids.base))) (is_some (entry_named name (dirents_if objects ids.head))) (is_some (entry_named name (dirents_if objects ids.pushed))) refl refl refl
            (ap (λ (t : Trio). is_some t.base || (is_some t.head || is_some t.pushed)) (sym is) ∙ some);
        below = λ less own. (child_side room less own ids.base whole.0 name, child_side room less own ids.head whole.1 name, child_side room less own ids.pushed whole.2 name);
      })
    where
      by : (x y z : Bool) → is_some (entry_named name (dirents_if objects ids.base)) ≡ x → is_some (entry_named name (dirents_if objects ids.head)) ≡ y → is_some (entry_named name (dirents_if objects ids.pushed)) ≡ z
          → (is_some (entry_named name (dirents_if objects ids.base)) || (is_some (entry_named name (dirents_if objects ids.head)) || is_some (entry_named name (dirents_if objects ids.pushed)))) ≡ true → 1 ≤ room
      by true y z e f g there = some_side room ids.base whole.0 name e
      by false true z e f g there = some_side room ids.head whole.1 name f
      by false false true e f g there = some_side room ids.pushed whole.2 name g
      by false false false e f g there = absurd (true≢false (sym there ∙ ap₂ ◌||◌ e (ap₂ ◌||◌ f g)))

  pub directory_side : (room : ℕ) (o : Option (List ℕ)) → IsWholeIf objects room o → IsDirectoryIf objects o
  directory_side room None whole = tt
  directory_side room (Some id) whole = complete_directory id whole.complete

  pub complete_side : (room : ℕ) (o : Option (List ℕ)) → IsWholeIf objects room o → IsCompleteIf objects o
  complete_side room None whole = tt
  complete_side room (Some id) whole = whole.complete

  -- of three whole sides that one is complete which has what is settled
  pub complete_part_of : (room : ℕ) (ids : Ids) → AreWholeSides objects room ids → IsCompleteIf objects (part_in ids)
  complete_part_of room ids whole = by (is_left_alone ids.base ids.head ids.pushed)
    where
      by : (c : Bool) → IsCompleteIf objects (if c then ids.head else ids.pushed)
      by true = complete_side room ids.head whole.1
      by false = complete_side room ids.pushed whole.2

  -- the files that a directory lists are whole
  file_at_entry : (room : ℕ) (o : Option (List ℕ)) → IsWholeIf objects room o → (n : List ℕ) → IsWholeFile objects (file_in (option_map entry_of (entry_named n (dirents_if objects o))))
  file_at_entry room None whole n = tt
  file_at_entry room (Some id) whole n =
      let at : AreEntriesOf objects id (map.from_entries (listed objects 100 id)) = table_entries true objects id whole.complete in
      subst (λ (o : Option Entry). IsWholeFile objects (file_in o)) (at (n ∷ [])) (whole_entries objects id whole.complete (map.from_entries (listed objects 100 id)) at (n ∷ []))

  pub files_at : (room : ℕ) (ids : Ids) → AreWholeSides objects room ids → (n : List ℕ)
      → IsWholeFile objects (file_in (option_map entry_of (entry_named n (dirents_if objects ids.base)))) × IsWholeFile objects (file_in (option_map entry_of (entry_named n (dirents_if objects ids.head))))
      × IsWholeFile objects (file_in (option_map entry_of (entry_named n (dirents_if objects ids.pushed))))
  files_at room ids whole n = (file_at_entry room ids.base whole.0 n, file_at_entry room ids.head whole.1 n, file_at_entry room ids.pushed whole.2 n)
