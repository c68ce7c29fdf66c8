-- The directories of a complete root are visited. The key lemma is directory_visited.
use Rattle.std.proofs.Common.{◌≡◌, ℕ, Bool, true, false, if◌then◌else◌, List, [], ◌∷◌, ◌++◌, refl, sym, subst, Option, None, Some, Result, Ok, Err, option_and_then, inl, inr}
use Rattle.ids.specs.Key.{Objects}
use Rattle.ids.specs.declared.key.Key.{Key}
use Rattle.tree_model.specs.Path.{PathV}
use Rattle.fs_objects.specs.Mode.{is_directory_mode}
use Rattle.fs_objects.specs.declared.dirent.Dirent.{Dirent}
use Rattle.fs_objects.specs.declared.fs_object.FsObject.{FsObject}
use Rattle.object_graph.specs.Objects.{directory_in, dirents_at, entry_named, fs_at, fs_key, is_nil}
use Rattle.object_graph.specs.Traversal.{IsCompleteRoot, Walk, is_in, start, then_read, visited, walk_below, walk_found, walk_object, walk_root}
use Rattle.object_graph.specs.declared.fault.TreeFault.{TreeFault}
use Rattle.object_graph.proofs.BelowLemmas.{Ran, entry_ran, grows_found}
use Rattle.object_graph.proofs.KeyLemmas.{Within, in_last, within_itself}
use Rattle.object_graph.proofs.SameBelowLemmas.{ran_root}
use Rattle.tree_merge.specs.TreeBuilding.{IsDirectoryOf, directory_id_in}

module _ (A : Objects) where
  own_visited : (room : ℕ) (path : PathV) (id : List ℕ) (visits : List Key) → Ran (walk_object true A (walk_below true A room) true path id) visits → is_nil id ≡ false → is_in visits (fs_key id) ≡ true
  own_visited room path id visits ran other = ran.within.there (fs_key id) (by (is_nil id) other)
    where
      after : (r : Result FsObject TreeFault) (v : Walk) → Within v.visits (then_read r (walk_found true A (walk_below true A room) true path id) v).visits
      after (Ok object) v = grows_found true A room true path id object v
      after (Err fault) v = within_itself v.visits

      by : (n : Bool) → n ≡ false
          → is_in (if n then ran.from else then_read (fs_at A id) (walk_found true A (walk_below true A room) true path id) (visited (fs_key id) ran.from)).visits (fs_key id) ≡ true
      by true other = cc
      by false other = (after (fs_at A id) (visited (fs_key id) ran.from)).there (fs_key id) (in_last ran.from.visits (fs_key id))

  -- the traversal of a directory at a path
  pub record WasWalked (id : List ℕ) (visits : List Key) : Type 0 where
    pub room : ℕ
    pub path : PathV
    pub ran : Ran (walk_object true A (walk_below true A room) true path id) visits

  pub entry_walks : (room : ℕ) (path : PathV) (id : List ℕ) (visits : List Key) → Ran (walk_object true A (walk_below true A room) true path id) visits
      → (name : List ℕ) (i : List ℕ) → directory_in (entry_named name (dirents_at A id)) ≡ Some i → WasWalked i visits
  entry_walks room path id visits ran name i = by (entry_named name (dirents_at A id)) refl
    where
      of_kind : (e : Dirent) (less : ℕ) (b : Bool) → Ran (walk_object true A (walk_below true A less) b (path ++ e.name ∷ []) e.id) visits → (if b then Some e.id else None) ≡ Some i → WasWalked i visits
      of_kind e less true own is =
          let same : e.id ≡ i = cc in
          subst (λ (j : List ℕ). WasWalked j visits) same (record { room = less; path = path ++ e.name ∷ []; ran = own })
      of_kind e less false own is = cc is

      by : (o : Option Dirent) → entry_named name (dirents_at A id) ≡ o → directory_in o ≡ Some i → WasWalked i visits
      by None found is = cc is
      by (Some e) found is =
          let here = entry_ran true A room path id visits ran name e found in
          of_kind e here.0 (is_directory_mode e.mode) here.2 is

  pub walks_below : (q : PathV) (room : ℕ) (path : PathV) (id : List ℕ) (visits : List Key) → Ran (walk_object true A (walk_below true A room) true path id) visits
      → (i : List ℕ) → directory_id_in A (dirents_at A id) q ≡ Some i → WasWalked i visits
  walks_below [] room path id visits ran i is = cc is
  walks_below (name ∷ []) room path id visits ran i is = entry_walks room path id visits ran name i is
  walks_below (name ∷ next ∷ q) room path id visits ran i is =
      by (directory_in (entry_named name (dirents_at A id))) refl is (walks_below (next ∷ q))
    where
      by : (o : Option (List ℕ)) → directory_in (entry_named name (dirents_at A id)) ≡ o → option_and_then (λ j. directory_id_in A (dirents_at A j) (next ∷ q)) o ≡ Some i
          → ((room : ℕ) (path : PathV) (id : List ℕ) (visits : List Key) → Ran (walk_object true A (walk_below true A room) true path id) visits
          → (i : List ℕ) → directory_id_in A (dirents_at A id) (next ∷ q) ≡ Some i → WasWalked i visits)
          → WasWalked i visits
      by None found there more = cc there
      by (Some own) found there more =
          let first = entry_walks room path id visits ran name own found in
          more first.room first.path own visits first.ran i there

  pub directory_visited : (root : List ℕ) → IsCompleteRoot A root → (id : List ℕ) → is_nil id ≡ false → IsDirectoryOf A root id → is_in (walk_root true A root start).visits (fs_key id) ≡ true
  directory_visited root complete id other of = by of
    where
      ran : Ran (walk_object true A (walk_below true A 100) true [] root) (walk_root true A root start).visits
      ran = ran_root true A root start complete

      by : IsDirectoryOf A root id → is_in (walk_root true A root start).visits (fs_key id) ≡ true
      by (inl is) = own_visited 100 [] id (walk_root true A root start).visits (subst (λ (j : List ℕ). Ran (walk_object true A (walk_below true A 100) true [] j) (walk_root true A root start).visits) (sym is) ran) other
      by (inr below) =
          let walked = walks_below below.0 100 [] root (walk_root true A root start).visits ran id below.1 in
          own_visited walked.room walked.path id (walk_root true A root start).visits walked.ran other
