-- A file as its directory tells it, and the version of a file that it stands for. Our own.
use Rattle.std.specs.Prelude.{Bool, true, false, Option, Some, None}
use Rattle.ids.specs.Key.{Objects}
use Rattle.tree_model.specs.declared.node.FileVersion.{FileVersion}
use Rattle.object_graph.specs.Objects.{contents_of}
use Rattle.object_graph.specs.declared.entry.Entry.{Entry}
use Rattle.object_graph.specs.declared.entry.Entry.TheVariants.{Dir, File}
use Rattle.tree_merge.specs.declared.file_entry.FileEntry.{FileEntry}

-- the file that an entry is, if there is one
abbrev pub file_in : Option Entry → Option FileEntry
file_in None = None
file_in (Some Dir) = None
file_in (Some (File id mode mtime modifier size)) = Some (record { id = id; mode = mode; mtime = mtime; modifier = modifier; size = size })

abbrev pub is_directory : Option Entry → Bool
is_directory None = false
is_directory (Some Dir) = true
is_directory (Some (File id mode mtime modifier size)) = false

-- the entry of a file
abbrev pub as_entry : FileEntry → Entry
as_entry file = File file.id file.mode file.mtime file.modifier file.size

-- the version of the file, with its contents among these objects
abbrev pub version_of : Objects → FileEntry → FileVersion
version_of objects file = record { mode = file.mode; mtime = file.mtime; modifier = file.modifier; bytes = contents_of objects file.id }
