-- Whether what was seen is what stands in a folder, as a test of its paths one after another, for private clauses. Our own. Read
-- all_stand, then have_file_modes.
use Rattle.std.specs.Prelude.{◌&&◌, ◌||◌, not, Bool, true, false, [], ◌∷◌, Option, None, Some}
use Rattle.std.specs.List.{list_all}
use Rattle.std.specs.FinMap as fin
use Rattle.fs_objects.specs.Mode.{is_file_mode}
use Rattle.tree_model.specs.Path.{PathV, parent_of}
use Rattle.folder_side.specs.declared.scan_report.Seen.{Seen}
use Rattle.folder_side.specs.declared.scan_report.Seen.TheVariants as seen
use Rattle.local_index.specs.declared.index.Known.{Known}
use Rattle.local_index.specs.declared.index.Known.TheVariants as known
use Rattle.tree_push.specs.OfferedEntries.{KnownPaths, SeenPaths}

abbrev pub is_root : PathV → Bool
is_root [] = true
is_root (name ∷ path) = false

abbrev pub is_seen_dir : Option Seen → Bool
is_seen_dir None = false
is_seen_dir (Some seen.Dir) = true
is_seen_dir (Some (seen.File blocks size)) = false

-- the root, or a directory that was seen
abbrev pub is_dir_in : SeenPaths → PathV → Bool
is_dir_in seens path = is_root path || is_seen_dir (fin.get seens path)

abbrev pub stands_in : SeenPaths → PathV → Bool
stands_in seens path = not (is_root path) && is_dir_in seens (parent_of path)

-- each path stands in a directory, and none is the root
abbrev pub all_stand : SeenPaths → Bool
all_stand seens = list_all (λ entry. stands_in seens entry.0) (fin.entries seens)

abbrev pub has_file_mode : Known → Bool
has_file_mode known.Dir = true
has_file_mode (known.File id own size mode mtime modifier) = is_file_mode mode

-- what is known of each file is the mode of one
abbrev pub have_file_modes : KnownPaths → Bool
have_file_modes knowns = list_all (λ entry. has_file_mode entry.1) (fin.entries knowns)
