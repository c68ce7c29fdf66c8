-- A folder that holds one file, and a library that holds it too, as words of laws: its objects are such as a sync promises something of.
-- And an empty folder, of a library that holds nothing. Our own. Read IsOneFile, then objects_of.
use Rattle.std.specs.Prelude.{ℕ, ◌≡◌, false, List, [], ◌∷◌, length, None, Some, Ok}
use Rattle.std.specs.FinMap as fin
use Rattle.std.specs.List.{Contains}
use Rattle.sha1.specs.Sha1.{sha1}
use Rattle.ids.specs.Key.{Objects}
use Rattle.ids.specs.declared.key.Key.{Key}
use Rattle.tree_model.specs.Tree.{Tree}
use Rattle.tree_model.specs.declared.node.Node.TheVariants as node
use Rattle.block_chunker.specs.ChunkBoundaries.{chunks_of}
use Rattle.block_chunker.specs.declared.cuts.Cuts.{Cuts}
use Rattle.commit_objects.specs.Commit.{commit_of}
use Rattle.commit_objects.specs.Spelling.{text_of as commit_text}
use Rattle.commit_objects.specs.declared.commit.Commit.{Commit}
use Rattle.fs_objects.specs.FsObject.{fs_of}
use Rattle.fs_objects.specs.Mode.{is_directory_mode}
use Rattle.fs_objects.specs.Spelling.{text_of}
use Rattle.fs_objects.specs.declared.dirent.Dirent.{Dirent}
use Rattle.fs_objects.specs.declared.fs_object.FsObject.{FsObject}
use Rattle.fs_objects.specs.declared.fs_object.FsObject.TheVariants as fs
use Rattle.object_graph.specs.Objects.{block_key, commit_key, fs_key}
use Rattle.folder_side.specs.Folder.{Contents}
use Rattle.folder_side.specs.ScanReport.{block_names}
use Rattle.folder_side.specs.declared.holding.Holding.TheVariants as holding
use Rattle.local_index.specs.declared.index.Index.{Index}
use Rattle.local_index.specs.declared.index.Known.TheVariants as known
use Rattle.sync_rules.specs.Offer.{own_of}
use Rattle.sync_rules.specs.Premises.{IsClear}

-- what is stored when each of these was put under its key
abbrev pub stored : List (Key × List ℕ) → Objects
stored [] = fin.empty
stored (had ∷ more) = fin.insert (stored more) had.0 had.1

-- the texts of some objects
abbrev pub IsTextIn : List (Key × List ℕ) → List ℕ → Type 0
IsTextIn had text = (key : Key) × Contains had (key, text)

-- an index that was never synced
abbrev pub unsynced : (lib : List ℕ) → Index
unsynced lib = record { lib = lib; base = None; entries = fin.empty }

-- ---- a library that holds one file

abbrev pub file_of : Cuts → List ℕ → FsObject
file_of cuts bytes = fs.File (record { blocks = block_names cuts bytes; size = length bytes })

abbrev pub file_text : Cuts → List ℕ → List ℕ
file_text cuts bytes = text_of (file_of cuts bytes)

abbrev pub directory_text : Dirent → List ℕ
directory_text entry = text_of (fs.Dir (entry ∷ []))

-- a commit, the directory that it names, with one entry, the file object of that, and its block
abbrev pub objects_of : Cuts → Commit → Dirent → List ℕ → List (Key × List ℕ)
objects_of cuts commit entry bytes =
    (commit_key commit.id, commit_text commit)
    ∷ (fs_key (sha1 (directory_text entry)), directory_text entry)
    ∷ (fs_key (sha1 (file_text cuts bytes)), file_text cuts bytes)
    ∷ (block_key (sha1 bytes), bytes)
    ∷ []

-- a file of some bytes, in one block. The three texts are read as what they were made of, and no two of the four have one SHA-1
pub record IsOneFile (cuts : Cuts) (commit : Commit) (entry : Dirent) (bytes : List ℕ) : Type 0 where
  pub one : chunks_of cuts bytes ≡ bytes ∷ []
  pub mode : is_directory_mode entry.mode ≡ false
  pub names : entry.id ≡ sha1 (file_text cuts bytes)
  pub root : commit.root ≡ sha1 (directory_text entry)
  pub file : fs_of (file_text cuts bytes) ≡ Ok (file_of cuts bytes)
  pub directory : fs_of (directory_text entry) ≡ Ok (fs.Dir (entry ∷ []))
  pub spells : commit_of (commit_text commit) ≡ Ok commit
  pub clear : IsClear (IsTextIn (objects_of cuts commit entry bytes))

-- a folder that holds this file, its tree, and the index of their sync
abbrev pub folder_of : Dirent → List ℕ → Contents
folder_of entry bytes = record { paths = fin.insert fin.empty (entry.name ∷ []) (holding.File bytes); nameless = fin.empty }

abbrev pub tree_of : Dirent → List ℕ → Tree
tree_of entry bytes =
    fin.insert fin.empty (entry.name ∷ []) (node.File (record { mode = entry.mode; mtime = entry.mtime; modifier = entry.modifier; bytes = bytes }))

abbrev pub index_of : Cuts → Commit → Dirent → List ℕ → Index
index_of cuts commit entry bytes = record {
  lib = commit.lib;
  base = Some commit.id;
  entries = fin.insert fin.empty (entry.name ∷ []) (known.File entry.id (own_of cuts bytes) entry.size entry.mode entry.mtime entry.modifier);
}

-- ---- a library that holds nothing

abbrev pub no_contents : Contents
no_contents = record { paths = fin.empty; nameless = fin.empty }

abbrev pub commit_alone : Commit → List (Key × List ℕ)
commit_alone commit = (commit_key commit.id, commit_text commit) ∷ []

-- the index of a sync that found nothing on both sides
abbrev pub empty_index : Commit → Index
empty_index commit = record { lib = commit.lib; base = Some commit.id; entries = fin.empty }
