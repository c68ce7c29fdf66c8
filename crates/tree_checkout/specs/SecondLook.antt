-- What a second look at a path finds beside what was seen there first. Our own. Read LooksAs.
use Rattle.std.specs.Prelude.{◌≡◌, Bool, true, false, if◌then◌else◌, Option, None, Some, ⊤}
use Rattle.std.specs.FinMap as fin
use Rattle.block_chunker.specs.declared.cuts.Cuts.{Cuts}
use Rattle.tree_model.specs.Path.{PathV}
use Rattle.folder_side.specs.FileRead.{ReadsFile}
use Rattle.folder_side.specs.Folder.{Contents, at}
use Rattle.folder_side.specs.declared.folder.ItemKind.{ItemKind}
use Rattle.folder_side.specs.declared.folder.ItemKind.TheVariants as kind
use Rattle.folder_side.specs.declared.holding.Holding.{Holding}
use Rattle.folder_side.specs.declared.holding.Holding.TheVariants.{Dir, File}
use Rattle.folder_side.specs.declared.scan_report.Scan.{Scan}
use Rattle.folder_side.specs.declared.scan_report.Seen.{Seen}
use Rattle.folder_side.specs.declared.scan_report.Seen.TheVariants as seen
use Rattle.sync_rules.specs.declared.fault.SyncFault.{SyncFault}
use Rattle.sync_rules.specs.declared.fault.SyncFault.TheVariants as fault

-- there stands what was seen: nothing, a directory, or a file with these chunks and of this size, no larger than a file may be
abbrev pub LooksAs : Cuts → Option Holding → Option Seen → Type 0
LooksAs cuts None None = ⊤
LooksAs cuts (Some Dir) (Some seen.Dir) = ⊤
LooksAs cuts (Some (File bytes)) (Some (seen.File blocks size)) = ReadsFile cuts bytes (record { blocks = blocks; size = size })
LooksAs cuts _ _ = ⊥

-- the fault that tells a change at this path, or want of memory for it
abbrev pub IsChange : PathV → SyncFault → Type 0
IsChange path (fault.Changed changed) = changed ≡ path
IsChange path fault.NoMemory = ⊤
IsChange path _ = ⊥

-- why a second look fails: the folder failed, memory was wanting, or something else stands there
abbrev pub IsLookFault : Cuts → Option Contents → PathV → Option Seen → SyncFault → Type 0
IsLookFault cuts told path first fault.Folder = ⊤
IsLookFault cuts told path first fault.NoMemory = ⊤
IsLookFault cuts told path first (fault.Changed changed) = (changed ≡ path) × ((c : Contents) → told ≡ Some c → LooksAs cuts (at c path) first → ⊥)
IsLookFault cuts told path first _ = ⊥

-- ---- what stands there

abbrev pub is_dir_kind : Option ItemKind → Bool
is_dir_kind None = false
is_dir_kind (Some kind.Dir) = true
is_dir_kind (Some kind.File) = false
is_dir_kind (Some kind.Other) = false

abbrev pub is_file_kind : Option ItemKind → Bool
is_file_kind None = false
is_file_kind (Some kind.Dir) = false
is_file_kind (Some kind.File) = true
is_file_kind (Some kind.Other) = false

-- ---- what was seen there first

abbrev pub is_dir_of : Seen → Bool
is_dir_of seen.Dir = true
is_dir_of (seen.File blocks size) = false

-- there stands what a scan saw
abbrev pub LooksFirst : Cuts → Contents → Scan → PathV → Type 0
LooksFirst cuts c scan path = LooksAs cuts (at c path) (fin.get scan.paths path)

-- a file that was seen. What else was seen where something is written is gone by then
abbrev pub file_seen : Option Seen → Option Seen
file_seen None = None
file_seen (Some s) = if is_dir_of s then None else Some s
