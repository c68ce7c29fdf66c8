-- A map of one path, objects that were put one after another, and a directory that lists one file. The key lemmas are one_at,
-- one_elsewhere, put_there, put_beside, commit_there, entry_here and entry_elsewhere.
use Rattle.std.proofs.Common.{◌≡◌, ◌≢◌, ℕ, Bool, true, false, cond, if◌then◌else◌, List, [], ◌∷◌, Option, None, Some, Result, Ok, Err, option_map, option_and_then, refl, sym, ap, subst, ◌∙◌, true≢false}
use Rattle.std.specs.FinMap as fin
use Rattle.std.specs.Cmp.{tied_itself}
use Rattle.std.specs.Cmp.Lexicographic.{bytes_decides}
use Rattle.std.specs.Ordering.{eq_by_cmp, is_eq}
use Rattle.std.proofs.lemmas.Bool.{false_from_ne_true}
use Rattle.ids.specs.Key.{Objects}
use Rattle.ids.specs.ObjectId.{nil}
use Rattle.ids.specs.declared.key.Key.{Key}
use Rattle.ids.specs.declared.key.Kind.TheVariants as kind
use Rattle.ids.proofs.KeyOrderLemmas.{key_cmp_total}
use Rattle.tree_model.specs.Path.{PathV, path_cmp}
use Rattle.tree_model.specs.PathOrder.{paths_total}
use Rattle.tree_model.proofs.ListedLemmas.{same_path, same_path-itself, same_path-true}
use Rattle.commit_objects.specs.Commit.{commit_of}
use Rattle.commit_objects.specs.Spelling.{text_of as commit_text}
use Rattle.commit_objects.specs.declared.commit.Commit.{Commit}
use Rattle.fs_objects.specs.Mode.{is_directory_mode}
use Rattle.fs_objects.specs.declared.dirent.Dirent.{Dirent}
use Rattle.object_graph.specs.Objects.{commit_at, commit_in, commit_key, directory_in, dirents_at, entry_below, entry_in, entry_of, is_nil, name_cmp, of_name}
use Rattle.object_graph.specs.declared.entry.Entry.{Entry}
use Rattle.object_graph.specs.declared.entry.Entry.TheVariants as entry
use Rattle.object_graph.specs.declared.fault.TreeFault.{TreeFault}
use Rattle.object_graph.specs.declared.fault.TreeFault.TheVariants.{Unreadable}
use Rattle.object_graph.proofs.EntryLemmas.{names_total, same_name-true}
use Rattle.object_graph.proofs.KeyLemmas.{same_key, same_key-itself, same_key-true}

-- ---- maps of no path and of one

pub none_at : {X : Type 0} (path : PathV) → fin.get (fin.empty {X = X} {R = path_cmp}) path ≡ None
none_at {X = X} path = fin.get-empty {X = X} path_cmp path

pub one_at : {X : Type 0} (here : PathV) (v : X) → fin.get (fin.insert (fin.empty {X = X} {R = path_cmp}) here v) here ≡ Some v
one_at {X = X} here v =
    fin.get-insert paths_total (fin.empty {X = X} {R = path_cmp}) here v here
    ∙ ap (λ (b : Bool). cond b (Some v) (fin.get (fin.empty {X = X} {R = path_cmp}) here)) (same_path-itself here)

pub one_elsewhere : {X : Type 0} (here : PathV) (v : X) (path : PathV) → path ≢ here → fin.get (fin.insert (fin.empty {X = X} {R = path_cmp}) here v) path ≡ None
one_elsewhere {X = X} here v path other =
    fin.get-insert paths_total (fin.empty {X = X} {R = path_cmp}) here v path
    ∙ ap (λ (b : Bool). cond b (Some v) (fin.get (fin.empty {X = X} {R = path_cmp}) path)) (false_from_ne_true (same_path path here) (λ is. other (same_path-true path here is)))
    ∙ none_at {X = X} path

-- what holds at one path and everywhere else
pub by_path : (P : PathV → Type 0) (here : PathV) → P here → ((path : PathV) → path ≢ here → P path) → (path : PathV) → P path
by_path P here there others path = by (same_path path here) refl
  where
    by : (b : Bool) → same_path path here ≡ b → P path
    by true is = subst P (sym (same_path-true path here is)) there
    by false is = others path (λ same. true≢false (sym (ap (λ (p : PathV). same_path p here) same ∙ same_path-itself here) ∙ is))

-- ---- objects that were put

pub put_there : (m : Objects) (key : Key) (bytes : List ℕ) → fin.get (fin.insert m key bytes) key ≡ Some bytes
put_there m key bytes = fin.get-insert key_cmp_total m key bytes key ∙ ap (λ (b : Bool). cond b (Some bytes) (fin.get m key)) (same_key-itself key)

pub put_beside : (m : Objects) (key other : Key) (bytes : List ℕ) → other ≢ key → fin.get (fin.insert m key bytes) other ≡ fin.get m other
put_beside m key other bytes apart =
    fin.get-insert key_cmp_total m key bytes other
    ∙ ap (λ (b : Bool). cond b (Some bytes) (fin.get m other)) (false_from_ne_true (same_key other key) (λ is. apart (same_key-true other key is)))

pub other_kind : (a b : Key) → a.kind ≢ b.kind → a ≢ b
other_kind a b apart same = apart (ap (λ (key : Key). key.kind) same)

pub fs_not_commit : kind.Fs ≢ kind.Commit
fs_not_commit e = cc

pub block_not_commit : kind.Block ≢ kind.Commit
block_not_commit e = cc

pub block_not_fs : kind.Block ≢ kind.Fs
block_not_fs e = cc

-- ---- a commit that was put

abbrev read_under : (id : List ℕ) → Commit → Bool → Result Commit TreeFault
read_under id commit b = if b then Ok commit else Err (Unreadable (commit_key id))

pub commit_there : (objects : Objects) (commit : Commit) → fin.get objects (commit_key commit.id) ≡ Some (commit_text commit)
    → commit_of (commit_text commit) ≡ Ok commit → commit_at objects commit.id ≡ Ok commit
commit_there objects commit there spells =
    ap (commit_in commit.id) there
    ∙ ap (of_name commit.id) spells
    ∙ ap (read_under commit.id commit) ((bytes_decides commit.id commit.id).1 refl)

-- ---- a directory with one entry, which is a file's

pub not_nil_id : (id : List ℕ) → id ≢ nil → is_nil id ≡ false
not_nil_id id apart = false_from_ne_true (is_nil id) (λ is. apart ((bytes_decides id nil).0 is))

module _ (objects : Objects) (e : Dirent) (mode : is_directory_mode e.mode ≡ false) where
  abbrev pub told : Entry
  told = entry.File e.id e.mode e.mtime e.modifier e.size

  entry_told : entry_of e ≡ told
  entry_told = ap (λ (b : Bool). if b then entry.Dir else entry.File e.id e.mode e.mtime e.modifier e.size) mode

  here_in : entry_in objects (e ∷ []) (e.name ∷ []) ≡ Some (entry_of e)
  here_in = ap (λ (b : Bool). option_map entry_of (if b then Some e else None)) (ap is_eq (tied_itself names_total e.name))

  apart_name : (name : List ℕ) → name ≢ e.name → eq_by_cmp name_cmp name e.name ≡ false
  apart_name name apart = false_from_ne_true (eq_by_cmp name_cmp name e.name) (λ is. apart (same_name-true name e.name is))

  elsewhere_in : (path : PathV) → path ≢ e.name ∷ [] → entry_in objects (e ∷ []) path ≡ None
  elsewhere_in [] other = refl
  elsewhere_in (name ∷ []) other =
      ap (λ (b : Bool). option_map entry_of (if b then Some e else None)) (apart_name name (λ same. other (ap (λ (n : List ℕ). n ∷ []) same)))
  elsewhere_in (name ∷ next ∷ path) other = by (eq_by_cmp name_cmp name e.name)
    where
      below : List ℕ → Option Entry
      below id = entry_in objects (dirents_at objects id) (next ∷ path)

      by : (b : Bool) → option_and_then below (directory_in (if b then Some e else None)) ≡ None
      by false = refl
      by true = ap (λ (b : Bool). option_and_then below (if b then Some e.id else None)) mode

  module _ (root : List ℕ) (lists : dirents_at objects root ≡ e ∷ []) where
    pub entry_here : entry_below objects (e.name ∷ []) root ≡ Some told
    entry_here = ap (λ (es : List Dirent). entry_in objects es (e.name ∷ [])) lists ∙ here_in ∙ ap Some entry_told

    pub entry_elsewhere : (path : PathV) → path ≢ e.name ∷ [] → entry_below objects path root ≡ None
    entry_elsewhere path other = ap (λ (es : List Dirent). entry_in objects es path) lists ∙ elsewhere_in path other
