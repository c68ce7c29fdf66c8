-- The entries that are offered of what a scan saw. Our own. Read offered_entry first, then AreOffered and IsSeenFolder.
use Rattle.std.specs.Prelude.{◌≡◌, ◌≢◌, ◌-◌, ◌^◌, ℕ, min, Bool, false, if◌then◌else◌, List, [], ◌∷◌, ◌++◌, Option, None, Some, IsSome, option_map, pos}
use Rattle.std.specs.FinMap as fin
use Rattle.std.specs.Str.{bytes_eq}
use Rattle.tree_model.specs.Path.{PathV, path_cmp}
use Rattle.object_graph.specs.declared.entry.Entry.{Entry}
use Rattle.object_graph.specs.declared.entry.Entry.TheVariants as entry
use Rattle.folder_side.specs.declared.scan_report.Seen.{Seen}
use Rattle.folder_side.specs.declared.scan_report.Seen.TheVariants as seen
use Rattle.local_index.specs.IndexSpelling.{HasFileMode}
use Rattle.local_index.specs.OwnIds.{own_id}
use Rattle.local_index.specs.declared.index.Known.{Known}
use Rattle.local_index.specs.declared.index.Known.TheVariants as known
use Rattle.sync_rules.specs.Offer.{mode_of}

abbrev pub SeenPaths : Type 0
SeenPaths = fin.FinMap path_cmp Seen

abbrev pub KnownPaths : Type 0
KnownPaths = fin.FinMap path_cmp Known

abbrev pub Entries : Type 0
Entries = fin.FinMap path_cmp Entry

-- a file of this own id stays as it is known
abbrev pub is_kept : Option Known → (own : List ℕ) → Bool
is_kept (Some (known.File id its known_size mode mtime modifier)) own = bytes_eq own its
is_kept _ own = false

-- a file of this own id that is new or changed: it has this mode, the moment and the user
abbrev pub changed_entry : (moment : ℕ) → (user : List ℕ) → (mode : ℕ) → (own : List ℕ) → (size : ℕ) → Entry
changed_entry moment user mode own size = entry.File own mode (pos (min moment (2 ^ 63 - 1))) user size

-- a file whose own id is known stays as it is known, under the id that the library has for it; every other is changed, and keeps the
-- mode that is known
abbrev pub file_entry : (moment : ℕ) → (user : List ℕ) → Option Known → (own : List ℕ) → (size : ℕ) → Entry
file_entry moment user (Some (known.File id its known_size mode mtime modifier)) own size =
    if bytes_eq own its then entry.File id mode mtime modifier known_size
    else changed_entry moment user mode own size
file_entry moment user was own size = changed_entry moment user (mode_of was) own size

-- the entry that is offered of what was seen at a path
abbrev pub offered_entry : (moment : ℕ) → (user : List ℕ) → Option Known → Seen → Entry
offered_entry moment user was seen.Dir = entry.Dir
offered_entry moment user was (seen.File blocks size) = file_entry moment user was (own_id blocks size) size

-- at each path stands what is offered of what was seen there, and nothing else
abbrev pub AreOffered : (moment : ℕ) → (user : List ℕ) → KnownPaths → SeenPaths → Entries → Type 0
AreOffered moment user knowns seens entries =
    (path : PathV) → fin.get entries path ≡ option_map (offered_entry moment user (fin.get knowns path)) (fin.get seens path)

-- what was seen is what stands in a folder: nothing at its root, and each entry in a directory; and what is known of files are modes
-- of files
pub record IsSeenFolder (knowns : KnownPaths) (seens : SeenPaths) : Type 0 where
  pub no_root : fin.get seens [] ≡ None
  pub in_dirs : (dir : PathV) (name : List ℕ) → dir ≢ [] → IsSome (fin.get seens (dir ++ name ∷ [])) → fin.get seens dir ≡ Some seen.Dir
  pub modes : (path : PathV) (was : Known) → fin.get knowns path ≡ Some was → HasFileMode was
