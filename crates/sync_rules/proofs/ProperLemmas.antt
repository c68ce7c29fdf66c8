-- An index that a sync left is one that is read back. The key lemmas are all_of, one_of and left_proper.
use Rattle.std.proofs.Common.{◌≡◌, ◌⊎◌, inl, inr, ℕ, Bool, true, false, if◌then◌else◌, List, [], ◌∷◌, Option, None, Some, Ok, refl, sym, ap, subst, ◌∙◌}
use Rattle.std.specs.Prelude.{option_and_then, option_map}
use Rattle.std.specs.List.{list_all}
use Rattle.std.specs.FinMap as fin
use Rattle.std.proofs.lemmas.Bool.{and_parts}
use Rattle.ids.specs.Key.{Objects}
use Rattle.ids.specs.ObjectId.{nil}
use Rattle.tree_model.specs.Path.{PathV, parent_of}
use Rattle.tree_model.proofs.MovingLemmas.{In, in_found}
use Rattle.fs_objects.specs.Mode.{is_directory_mode, is_file_mode}
use Rattle.fs_objects.specs.declared.dirent.Dirent.{Dirent}
use Rattle.folder_side.proofs.SortedEntryLemmas.{Rises-entries, found_of}
use Rattle.object_graph.specs.Objects.{directory_in, dirents_at, entry_below, entry_named, entry_of}
use Rattle.object_graph.specs.declared.entry.Entry.{Entry}
use Rattle.object_graph.specs.declared.entry.Entry.TheVariants as entry
use Rattle.library_rules.proofs.ProperTextLemmas.{read_not_zeros}
use Rattle.tree_merge.proofs.StoredTreeLemmas.{file_modes}
use Rattle.local_index.specs.IndexSpelling.{HasFileMode, IsProper}
use Rattle.local_index.specs.IndexText.{KnownPaths, all_stand, is_dir_in, is_known_dir}
use Rattle.local_index.specs.declared.index.Index.{Index}
use Rattle.local_index.specs.declared.index.Known.{Known}
use Rattle.local_index.specs.declared.index.Known.TheVariants as known
use Rattle.remote_calls.specs.Sends.{Sent}
use Rattle.sync_rules.specs.Named.{HasGot}
use Rattle.sync_rules.specs.OneSync.{IsSpared, KnowsHead, KnowsPushed, LeavesIndex}
use Rattle.sync_rules.specs.Premises.{KnowsEntry, KnowsRoot}
use Rattle.sync_rules.specs.declared.synced.Synced.{Synced}

-- ---- each entry stands in a directory

pub all_of : {A : Type 0} (test : A → Bool) (es : List A) → ((e : A) → In e es → test e ≡ true) → list_all test es ≡ true
all_of test [] each = refl
all_of test (e ∷ es) each = rw (each e (inl refl)) (all_of test es (λ f there. each f (inr there)))

pub one_of : {A : Type 0} (test : A → Bool) (es : List A) (e : A) → list_all test es ≡ true → In e es → test e ≡ true
one_of test [] e all there = absurd there
one_of test (f ∷ es) e all there = by (and_parts (test f) (list_all test es) all) (λ rest more. one_of test es e rest more) there
  where
    by : (test f ≡ true) × (list_all test es ≡ true) → (list_all test es ≡ true → In e es → test e ≡ true) → (e ≡ f) ⊎ In e es → test e ≡ true
    by parts later (inl is) = ap test is ∙ parts.0
    by parts later (inr more) = later parts.1 more

pub stand_by : (m : KnownPaths) → ((path : PathV) (k : Known) → fin.get m path ≡ Some k → is_dir_in m (parent_of path) ≡ true) → all_stand m ≡ true
stand_by m each =
    all_of (λ (e : PathV × Known). is_dir_in m (parent_of e.0)) (fin.entries m)
    (λ e there. each e.0 e.1 (fin.get-entries m e.0 ∙ found_of (fin.entries m) e (Rises-entries m) there))

stands_at : (m : KnownPaths) (path : PathV) (k : Known) → all_stand m ≡ true → fin.get m path ≡ Some k → is_dir_in m (parent_of path) ≡ true
stands_at m path k all there =
    one_of (λ (e : PathV × Known). is_dir_in m (parent_of e.0)) (fin.entries m) (path, k) all (in_found (fin.entries m) path k (sym (fin.get-entries m path) ∙ there))

-- a directory that is known by what is told of each path
dir_as : (m n : KnownPaths) (path : PathV) → fin.get n path ≡ fin.get m path → is_dir_in m path ≡ true → is_dir_in n path ≡ true
dir_as m n [] same is = is
dir_as m n (name ∷ path) same is = ap is_known_dir same ∙ is

-- ---- what stands below a root

-- the directory of an entry is one
below_root : (objects : Objects) (path : PathV) (id : List ℕ) (x : Entry) → entry_below objects path id ≡ Some x
    → (parent_of path ≡ []) ⊎ (entry_below objects (parent_of path) id ≡ Some entry.Dir)
below_root objects [] id x is = cc
below_root objects (name ∷ []) id x is = inl refl
below_root objects (name ∷ next ∷ rest) id x is = by (entry_named name (dirents_at objects id)) refl (λ sub. below_root objects (next ∷ rest) sub x) is
  where
    -- below the root itself
    first : (e : Dirent) (p : PathV) → is_directory_mode e.mode ≡ true → entry_named name (dirents_at objects id) ≡ Some e
        → (p ≡ []) ⊎ (entry_below objects p e.id ≡ Some entry.Dir) → entry_below objects (name ∷ p) id ≡ Some entry.Dir
    first e p dir found (inl none) =
        ap (λ (q : PathV). entry_below objects (name ∷ q) id) none ∙ ap (λ (o : Option Dirent). option_map entry_of o) found
        ∙ ap (λ (b : Bool). Some (if b then entry.Dir else entry.File e.id e.mode e.mtime e.modifier e.size)) dir
    first e [] dir found (inr below) = absurd (no_entry below)
      where
        no_entry : ◌≡◌ {A = Option Entry} None (Some entry.Dir) → ⊥
        no_entry is = cc
    first e (n ∷ p) dir found (inr below) =
        ap (λ (o : Option Dirent). option_and_then (λ sub. entry_below objects (n ∷ p) sub) (directory_in o)) found
        ∙ ap (λ (b : Bool). option_and_then (λ sub. entry_below objects (n ∷ p) sub) (if b then Some e.id else None)) dir ∙ below

    within : (e : Dirent) (b : Bool) → is_directory_mode e.mode ≡ b → entry_named name (dirents_at objects id) ≡ Some e
        → ((sub : List ℕ) → entry_below objects (next ∷ rest) sub ≡ Some x → (parent_of (next ∷ rest) ≡ []) ⊎ (entry_below objects (parent_of (next ∷ rest)) sub ≡ Some entry.Dir))
        → option_and_then (λ sub. entry_below objects (next ∷ rest) sub) (if b then Some e.id else None) ≡ Some x
        → entry_below objects (name ∷ parent_of (next ∷ rest)) id ≡ Some entry.Dir
    within e true dir found more is = first e (parent_of (next ∷ rest)) dir found (more e.id is)
    within e false dir found more is = cc

    by : (o : Option Dirent) → entry_named name (dirents_at objects id) ≡ o
        → ((sub : List ℕ) → entry_below objects (next ∷ rest) sub ≡ Some x → (parent_of (next ∷ rest) ≡ []) ⊎ (entry_below objects (parent_of (next ∷ rest)) sub ≡ Some entry.Dir))
        → option_and_then (λ sub. entry_below objects (next ∷ rest) sub) (directory_in o) ≡ Some x
        → (name ∷ parent_of (next ∷ rest) ≡ []) ⊎ (entry_below objects (name ∷ parent_of (next ∷ rest)) id ≡ Some entry.Dir)
    by None found more is = cc
    by (Some e) found more is = inr (within e (is_directory_mode e.mode) refl found more is)

-- ---- an index that knows a root

-- what is known stands there
there_is : (o : Option Entry) (k : Known) → KnowsEntry o (Some k) → (x : Entry) × (o ≡ Some x)
there_is (Some x) k knows = (x, refl)
there_is None k knows = absurd knows

is_dir : (o : Option Known) → KnowsEntry (Some entry.Dir) o → is_known_dir o ≡ true
is_dir (Some known.Dir) knows = refl
is_dir (Some (known.File id own size mode mtime modifier)) knows = absurd knows
is_dir None knows = absurd knows

none_there : (o : Option Known) → KnowsEntry None o → o ≡ None
none_there None knows = refl
none_there (Some k) knows = absurd knows

module _ (objects : Objects) (root : List ℕ) (j : Index) (knows : KnowsRoot objects root j) where
  dir_known : (path : PathV) → (path ≡ []) ⊎ (entry_below objects path root ≡ Some entry.Dir) → is_dir_in j.entries path ≡ true
  dir_known path (inl none) = ap (λ (p : PathV). is_dir_in j.entries p) none
  dir_known [] (inr below) = refl
  dir_known (name ∷ path) (inr below) =
      is_dir (fin.get j.entries (name ∷ path)) (subst (λ (o : Option Entry). KnowsEntry o (fin.get j.entries (name ∷ path))) below (knows (name ∷ path)))

  stands_known : (path : PathV) (k : Known) → fin.get j.entries path ≡ Some k → is_dir_in j.entries (parent_of path) ≡ true
  stands_known path k there =
      let at = there_is (entry_below objects path root) k (subst (λ (o : Option Known). KnowsEntry (entry_below objects path root) o) there (knows path)) in
      dir_known (parent_of path) (below_root objects path root at.0 at.1)

  mode_known : (path : PathV) (k : Known) → fin.get j.entries path ≡ Some k → HasFileMode k
  mode_known path k there = by (entry_below objects path root) refl k (subst (λ (o : Option Known). KnowsEntry (entry_below objects path root) o) there (knows path))
    where
      by : (o : Option Entry) → entry_below objects path root ≡ o → (k : Known) → KnowsEntry o (Some k) → HasFileMode k
      by o found known.Dir is = tt
      by None found (known.File id own size mode mtime modifier) is = absurd is
      by (Some entry.Dir) found (known.File id own size mode mtime modifier) is = absurd is
      by (Some (entry.File its its_mode its_mtime its_modifier its_size)) found (known.File id own size mode mtime modifier) is =
          subst (λ m. is_file_mode m ≡ true) (sym is.1)
          (file_modes objects path root (entry.File its its_mode its_mtime its_modifier its_size) found
          (record { id = its; mode = its_mode; mtime = its_mtime; modifier = its_modifier; size = its_size }) refl)

-- ---- all of it

-- the head's index
knows_proper : (objects : Objects) (j : Index) (s : Synced) → j.base ≡ Some s.head → KnowsHead objects j s → IsProper j
knows_proper objects j s base head = record {
  base = λ zeros. read_not_zeros objects s.head head.commit head.stored (same (sym base ∙ zeros));
  no_root = none_there (fin.get j.entries []) (head.knows []);
  stands = stand_by j.entries (stands_known objects head.commit.root j head.knows);
  modes = mode_known objects head.commit.root j head.knows;
}
  where
    same : Some s.head ≡ Some nil → s.head ≡ nil
    same e = cc

-- one that is the same at each path
same_proper : (i j : Index) → j.base ≡ i.base → ((path : PathV) → fin.get j.entries path ≡ fin.get i.entries path) → IsProper i → IsProper j
same_proper i j base same proper = record {
  base = λ zeros. proper.base (sym base ∙ zeros);
  no_root = same [] ∙ proper.no_root;
  stands = stand_by j.entries (λ path k there. dir_as i.entries j.entries (parent_of path) (same (parent_of path)) (stands_at i.entries path k proper.stands (sym (same path) ∙ there)));
  modes = λ path k there. proper.modes path k (sym (same path) ∙ there);
}

pub left_proper : (objects : Objects) (i j : Index) (more : List Sent) (s : Synced) → HasGot objects more → LeavesIndex i j more (Ok s) → IsProper i → IsProper j
left_proper objects i j more s got (base, lib, how) proper = by how
  where
    by : IsSpared i j more s ⊎ (((o : Objects) → HasGot o more → KnowsHead o j s) ⊎ KnowsPushed j more s) → IsProper j
    by (inl spared) = same_proper i j (base ∙ sym spared.head) spared.same proper
    by (inr (inl knows)) = knows_proper objects j s base (knows objects got)
    by (inr (inr pushed)) = knows_proper pushed.texts j s base (pushed.knows pushed.texts (record { kept = λ key bytes there. there }))
