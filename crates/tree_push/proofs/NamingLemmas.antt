-- What is reached from a commit below its root, path by path. The key lemmas are root_reached, directory_reached and file_reached.
use Rattle.std.proofs.Common.{◌≡◌, ◌⊎◌, ◌||◌, inl, inr, ℕ, ℤ, Bool, true, false, if◌then◌else◌, List, [], ◌∷◌, Option, None, Some, option_map, Result, Ok, Err, refl, sym, ap, ◌∙◌, subst, true≢false}
use Rattle.std.proofs.lemmas.Bool.{or_left, or_right}
use Rattle.std.specs.Prelude.{option_and_then}
use Rattle.std.specs.Ordering.{eq_by_cmp}
use Rattle.ids.specs.Key.{Objects}
use Rattle.ids.specs.declared.key.Key.{Key}
use Rattle.tree_model.specs.Path.{PathV}
use Rattle.commit_objects.specs.declared.commit.Commit.{Commit}
use Rattle.fs_objects.specs.Mode.{is_directory_mode}
use Rattle.fs_objects.specs.declared.dirent.Dirent.{Dirent}
use Rattle.fs_objects.specs.declared.fs_object.FsObject.{FsObject}
use Rattle.fs_objects.specs.declared.fs_object.FsObject.TheVariants as fs
use Rattle.object_graph.specs.Objects.{commit_at, commit_key, directory_in, dirents_at, entries_of, entry_in, entry_named, entry_of, fs_at, fs_key, in_name_order, is_nil, name_cmp}
use Rattle.object_graph.specs.Reached.{ReachedFrom, entry_keys, named_by_commit, named_by_fs, own_keys}
use Rattle.object_graph.specs.Traversal.{is_in}
use Rattle.object_graph.specs.declared.entry.Entry.TheVariants as entry
use Rattle.object_graph.specs.declared.fault.TreeFault.{TreeFault}
use Rattle.object_graph.proofs.EntryLemmas.{named_in_order}
use Rattle.object_graph.proofs.KeyLemmas.{in_append, same_key-itself}
use Rattle.tree_merge.specs.TreeBuilding.{directory_id_in}

own_key_in : (id : List ℕ) → is_nil id ≡ false → is_in (own_keys id) (fs_key id) ≡ true
own_key_in id some =
    ap (λ (b : Bool). is_in (if b then [] else fs_key id ∷ []) (fs_key id)) some ∙ ap (λ (b : Bool). b || false) (same_key-itself (fs_key id))

-- an entry that is found by its name has its key among those of the entries
pub key_of_named : (es : List Dirent) (name : List ℕ) (e : Dirent) → entry_named name es ≡ Some e → is_nil e.id ≡ false → is_in (entry_keys es) (fs_key e.id) ≡ true
key_of_named [] name e is some = absurd (cc)
key_of_named (x ∷ es) name e is some = in_append (own_keys x.id) (entry_keys es) (fs_key e.id) ∙ by (eq_by_cmp name_cmp name x.name) is (key_of_named es name e)
  where
    by : (b : Bool) → (if b then Some x else entry_named name es) ≡ Some e → (entry_named name es ≡ Some e → is_nil e.id ≡ false → is_in (entry_keys es) (fs_key e.id) ≡ true)
        → (is_in (own_keys x.id) (fs_key e.id) || is_in (entry_keys es) (fs_key e.id)) ≡ true
    by true found more =
        let same : x ≡ e = cc in
        or_left (is_in (own_keys x.id) (fs_key e.id)) (is_in (entry_keys es) (fs_key e.id)) (ap (λ (d : Dirent). is_in (own_keys d.id) (fs_key e.id)) same ∙ own_key_in e.id some)
    by false found more = or_right (is_in (own_keys x.id) (fs_key e.id)) (is_in (entry_keys es) (fs_key e.id)) (more found some)

module _ (objects : Objects) (id : List ℕ) where
  abbrev pub Reached : Key → Type 0
  Reached key = ReachedFrom objects [] (commit_key id ∷ []) key

  -- an id of a directory that is reached, or names nothing
  abbrev pub ReachedId : List ℕ → Type 0
  ReachedId d = (is_nil d ≡ true) ⊎ Reached (fs_key d)

  pub some_reached : (d : List ℕ) → is_nil d ≡ false → ReachedId d → Reached (fs_key d)
  some_reached d some (inl none) = absurd (true≢false (sym none ∙ some))
  some_reached d some (inr there) = there

  id_reached : (d : List ℕ) → (is_nil d ≡ false → Reached (fs_key d)) → ReachedId d
  id_reached d so = by (is_nil d) refl
    where
      by : (b : Bool) → is_nil d ≡ b → ReachedId d
      by true none = inl none
      by false some = inr (so some)

  pub commit_reached : Reached (commit_key id)
  commit_reached = ReachedFrom.pends (commit_key id) (ap (λ (b : Bool). b || false) (same_key-itself (commit_key id)))

  pub root_reached : (commit : Commit) → commit_at objects id ≡ Ok commit → ReachedId commit.root
  root_reached commit stored =
      id_reached commit.root (λ some.
      ReachedFrom.names (commit_key id) (fs_key commit.root) commit_reached
      (ap (λ (r : Result Commit TreeFault). is_in (named_by_commit r) (fs_key commit.root)) stored ∙ own_key_in commit.root some) refl)

  -- what an entry of a directory that is reached names
  pub entry_reached : (d : List ℕ) → ReachedId d → (name : List ℕ) (e : Dirent) → entry_named name (dirents_at objects d) ≡ Some e → is_nil e.id ≡ false → Reached (fs_key e.id)
  entry_reached d (inl none) name e is some =
      let empty : entry_named name [] ≡ Some e = ap (λ (b : Bool). entry_named name (if b then [] else entries_of (fs_at objects d))) (sym none) ∙ is in
      absurd (cc)
  entry_reached d (inr there) name e is some = by (is_nil d) refl is
    where
      of : (r : Result FsObject TreeFault) → fs_at objects d ≡ r → entry_named name (entries_of r) ≡ Some e → Reached (fs_key e.id)
      of (Ok (fs.Dir entries)) read found =
          ReachedFrom.names (fs_key d) (fs_key e.id) there
          (ap (λ (r : Result FsObject TreeFault). is_in (named_by_fs r) (fs_key e.id)) read
          ∙ key_of_named (in_name_order entries) name e (named_in_order name entries ∙ found) some) refl
      of (Ok (fs.File file)) read found = absurd (cc)
      of (Err why) read found = absurd (cc)

      by : (b : Bool) → is_nil d ≡ b → entry_named name (if b then [] else entries_of (fs_at objects d)) ≡ Some e → Reached (fs_key e.id)
      by true none found = absurd (cc)
      by false other found = of (fs_at objects d) refl found

  -- a directory below one that is reached
  pub step_reached : (d : List ℕ) → ReachedId d → (name : List ℕ) (i : List ℕ) → directory_in (entry_named name (dirents_at objects d)) ≡ Some i → ReachedId i
  step_reached d there name i is = by (entry_named name (dirents_at objects d)) refl is
    where
      of : (e : Dirent) → entry_named name (dirents_at objects d) ≡ Some e → (b : Bool) → (if b then Some e.id else None) ≡ Some i → ReachedId i
      of e found true at = let same : e.id ≡ i = cc in subst (λ (j : List ℕ). ReachedId j) same (id_reached e.id (λ some. entry_reached d there name e found some))
      of e found false at = absurd (cc)

      by : (o : Option Dirent) → entry_named name (dirents_at objects d) ≡ o → directory_in o ≡ Some i → ReachedId i
      by None found at = absurd (cc)
      by (Some e) found at = of e found (is_directory_mode e.mode) at

  pub directory_reached : (path : PathV) (d : List ℕ) → ReachedId d → (i : List ℕ) → directory_id_in objects (dirents_at objects d) path ≡ Some i → ReachedId i
  directory_reached [] d there i is = absurd (cc)
  directory_reached (name ∷ []) d there i is = step_reached d there name i is
  directory_reached (name ∷ next ∷ path) d there i is = by (directory_in (entry_named name (dirents_at objects d))) refl is (directory_reached (next ∷ path))
    where
      by : (o : Option (List ℕ)) → directory_in (entry_named name (dirents_at objects d)) ≡ o → option_and_then (λ j. directory_id_in objects (dirents_at objects j) (next ∷ path)) o ≡ Some i
          → ((e : List ℕ) → ReachedId e → (j : List ℕ) → directory_id_in objects (dirents_at objects e) (next ∷ path) ≡ Some j → ReachedId j) → ReachedId i
      by None found at more = absurd (cc)
      by (Some own) found at more = more own (step_reached d there name own found) i at

  -- a file at a path below
  pub file_reached : (path : PathV) (d : List ℕ) → ReachedId d → (file : List ℕ) (mode : ℕ) (mtime : ℤ) (modifier : List ℕ) (size : ℕ)
      → entry_in objects (dirents_at objects d) path ≡ Some (entry.File file mode mtime modifier size) → is_nil file ≡ false → Reached (fs_key file)
  file_reached [] d there file mode mtime modifier size is some = absurd (cc)
  file_reached (name ∷ []) d there file mode mtime modifier size is some = by (entry_named name (dirents_at objects d)) refl is
    where
      of : (e : Dirent) → entry_named name (dirents_at objects d) ≡ Some e → (b : Bool) → (if b then entry.Dir else entry.File e.id e.mode e.mtime e.modifier e.size) ≡ entry.File file mode mtime modifier size
          → Reached (fs_key file)
      of e found true at = absurd (cc)
      of e found false at =
          let same : e.id ≡ file = cc in
          subst (λ (j : List ℕ). Reached (fs_key j)) same (entry_reached d there name e found (ap is_nil same ∙ some))

      by : (o : Option Dirent) → entry_named name (dirents_at objects d) ≡ o → option_map entry_of o ≡ Some (entry.File file mode mtime modifier size) → Reached (fs_key file)
      by None found at = absurd (cc)
      by (Some e) found at = let own : entry_of e ≡ entry.File file mode mtime modifier size = cc in of e found (is_directory_mode e.mode) own
  file_reached (name ∷ next ∷ path) d there file mode mtime modifier size is some =
      by (directory_in (entry_named name (dirents_at objects d))) refl is (file_reached (next ∷ path))
    where
      by : (o : Option (List ℕ)) → directory_in (entry_named name (dirents_at objects d)) ≡ o
          → option_and_then (λ j. entry_in objects (dirents_at objects j) (next ∷ path)) o ≡ Some (entry.File file mode mtime modifier size)
          → ((e : List ℕ) → ReachedId e → (f : List ℕ) (m : ℕ) (t : ℤ) (u : List ℕ) (s : ℕ) → entry_in objects (dirents_at objects e) (next ∷ path) ≡ Some (entry.File f m t u s) → is_nil f ≡ false
          → Reached (fs_key f)) → Reached (fs_key file)
      by None found at more = absurd (cc)
      by (Some own) found at more = more own (step_reached d there name own found) file mode mtime modifier size at some
