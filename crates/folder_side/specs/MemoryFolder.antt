-- A folder in memory, as contracts see it: what it holds, its spare, and which calls are to fail. Read Folder first.
use Rattle.std.specs.Prelude.{◌⊎◌, ℕ, Bool, true, false, IsTrue, List, Option, Some, None, if◌then◌else◌}
use Rattle.std.specs.FinMap as map
use Rattle.ids.specs.FaultCount.{counted, is_due}
use Rattle.tree_model.specs.Path.{PathV}
use Rattle.folder_side.specs.declared.error.FolderFault.{FolderFault}
use Rattle.folder_side.specs.declared.error.FolderFault.TheVariants.{Folder, NoMemory}
use Rattle.folder_side.specs.declared.holding.Holding.{Holding}
use Rattle.folder_side.specs.declared.holding.Holding.TheVariants.{Dir, File, Other}
use Rattle.folder_side.specs.declared.memory_folder.MemoryFolder.{MemoryFolder}
use Rattle.folder_side.specs.Folder.{Contents, is_folder_fault}

-- a folder without an entry
abbrev pub nothing : Contents
nothing = record { paths = map.empty; nameless = map.empty }

-- the bytes of a file
abbrev pub bytes_of : Option Holding → Option (List ℕ)
bytes_of None = None
bytes_of (Some Dir) = None
bytes_of (Some (File bytes)) = Some bytes
bytes_of (Some Other) = None

-- the folder with so many entries without a good name in a directory
abbrev pub with_nameless : PathV → ℕ → Contents → Contents
with_nameless dir count c = record c { nameless = map.insert c.nameless dir count }

-- the next call is to fail
abbrev pub fails_next : MemoryFolder → Bool
fails_next folder = is_due folder.fails folder.calls

-- the folder after a call that changed nothing in it
abbrev pub after_call : MemoryFolder → MemoryFolder
after_call folder = record folder { calls = counted folder.calls }

-- and after one that failed
abbrev pub after_fault : FolderFault → MemoryFolder → MemoryFolder
after_fault fault folder = record folder {
  calls = counted folder.calls;
  faults = if is_folder_fault fault then counted folder.faults else folder.faults;
}

abbrev pub is_want : FolderFault → Bool
is_want Folder = false
is_want NoMemory = true

-- a call fails where it is to fail, and where it can't be
abbrev pub FailsIf : MemoryFolder → Type 0 → Type 0
FailsIf folder cannot = IsTrue (fails_next folder) ⊎ cannot
