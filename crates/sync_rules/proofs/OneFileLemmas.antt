-- The premise of what is said of trees is met: by a folder that holds one file, and by an empty one. The key lemmas are one_over,
-- first_over, one_agrees, empty_over and empty_agrees.
use Rattle.std.proofs.Common.{◌≡◌, ◌≢◌, ◌<◌, ℕ, Bool, if◌then◌else◌, List, [], ◌∷◌, ◌++◌, length, map, unwrap_or, Option, None, Some, Result, Ok, option_map, option_and_then, is_some, not, refl, sym, ap, subst, ◌∙◌, append-nil, true≢false, arith}
use Rattle.std.specs.FinMap as fin
use Rattle.std.specs.Cmp.Lexicographic.{bytes_decides}
use Rattle.std.specs.List.{Contains}
use Rattle.std.proofs.lemmas.List.Elements.{All-contains, All-cons, All-nil}
use Rattle.std.proofs.lemmas.Slice.Eq.{bytes_eq-Decides}
use Rattle.sha1.specs.Sha1.{sha1}
use Rattle.ids.specs.Key.{Objects}
use Rattle.ids.specs.ObjectId.{nil}
use Rattle.ids.specs.declared.key.Key.{Key}
use Rattle.tree_model.specs.Path.{PathV, path_cmp}
use Rattle.tree_model.specs.Tree.{Tree}
use Rattle.tree_model.specs.declared.node.FileVersion.{FileVersion}
use Rattle.tree_model.specs.declared.node.Node.{Node}
use Rattle.tree_model.specs.declared.node.Node.TheVariants as node
use Rattle.block_chunker.specs.declared.cuts.Cuts.{Cuts}
use Rattle.commit_objects.specs.Commit.{commit_of}
use Rattle.commit_objects.specs.Spelling.{text_of as commit_text}
use Rattle.commit_objects.specs.declared.commit.Commit.{Commit}
use Rattle.fs_objects.specs.FsObject.{fs_of}
use Rattle.fs_objects.specs.declared.dirent.Dirent.{Dirent}
use Rattle.fs_objects.specs.declared.fs_object.FsObject.{FsObject}
use Rattle.fs_objects.specs.declared.fs_object.FsObject.TheVariants as fs
use Rattle.object_graph.specs.Objects.{IsTreeOf, as_read, block_key, blocks_at, blocks_of, commit_at, commit_key, contents_of, dirents_at, entries_of, entry_below, entry_in, fs_at, fs_in, fs_key, is_nil, joined, node_below, node_of}
use Rattle.object_graph.specs.declared.entry.Entry.{Entry}
use Rattle.object_graph.specs.declared.fault.TreeFault.{TreeFault}
use Rattle.folder_side.specs.Folder.{at}
use Rattle.folder_side.specs.ScanReport.{block_names, seen_of}
use Rattle.folder_side.specs.declared.holding.Holding.{Holding}
use Rattle.folder_side.specs.declared.holding.Holding.TheVariants as holding
use Rattle.folder_side.specs.declared.scan_report.Seen.TheVariants as seen
use Rattle.local_index.specs.ScanChanges.{change_of}
use Rattle.local_index.specs.declared.scan_changes.ChangeKind.TheVariants.{Changed}
use Rattle.local_index.specs.declared.index.Index.{Index}
use Rattle.local_index.specs.declared.index.Known.{Known}
use Rattle.local_index.specs.declared.index.Known.TheVariants as known
use Rattle.sync_rules.specs.Named.{HasAll}
use Rattle.sync_rules.specs.Offer.{Agrees, own_of}
use Rattle.sync_rules.specs.OneFile.{IsOneFile, IsTextIn, commit_alone, directory_text, empty_index, file_of, file_text, folder_of, index_of, no_contents, objects_of, stored, tree_of, unsynced}
use Rattle.sync_rules.specs.Premises.{InSync, IsClear, IsPieceOf, Knows, KnowsEntry, KnowsRoot, NamesFile, NamesFiles, Over, Stands}
use Rattle.sync_rules.proofs.OneEntryLemmas.{none_at, one_at, one_elsewhere, by_path, put_there, put_beside, other_kind, fs_not_commit, block_not_commit, block_not_fs, commit_there, not_nil_id, entry_here, entry_elsewhere, told}
use Rattle.sync_rules.proofs.ShortSyncLemmas.{none_contained}
use Rattle.fs_objects.specs.declared.fault.BadFs.{BadFs}

-- ---- a library that holds one file

abbrev bytes_of : Option Node → List ℕ
bytes_of None = []
bytes_of (Some node.Dir) = []
bytes_of (Some (node.File file)) = file.bytes

none_stands : (cuts : Cuts) (lib : List ℕ) (base : Option (List ℕ)) → Stands cuts (record { lib = lib; base = base; entries = fin.empty }) fin.empty
none_stands cuts lib base path =
    subst (λ (o : Option Node). Knows cuts o (fin.get (fin.empty {X = Known} {R = path_cmp}) path)) (sym (none_at path)) (subst (Knows cuts None) (sym (none_at path)) tt)

none_named : (objects : Objects) (index : Index) → NamesFiles objects index fin.empty
none_named objects index path = subst (λ (o : Option Node). NamesFile objects o (fin.get index.entries path)) (sym (none_at path)) tt

module _ (cuts : Cuts) (commit : Commit) (e : Dirent) (bytes : List ℕ) (is : IsOneFile cuts commit e bytes) where
  abbrev had : List (Key × List ℕ)
  had = objects_of cuts commit e bytes

  abbrev objects : Objects
  objects = stored had

  abbrev here : PathV
  here = e.name ∷ []

  abbrev file_id : List ℕ
  file_id = sha1 (file_text cuts bytes)

  abbrev dir_id : List ℕ
  dir_id = sha1 (directory_text e)

  abbrev file : FileVersion
  file = record { mode = e.mode; mtime = e.mtime; modifier = e.modifier; bytes = bytes }

  abbrev known_file : Known
  known_file = known.File e.id (own_of cuts bytes) e.size e.mode e.mtime e.modifier

  dir_text_in : IsTextIn had (directory_text e)
  dir_text_in = let less : 1 < 4 = omega arith in (fs_key dir_id, (1, less, refl))

  file_text_in : IsTextIn had (file_text cuts bytes)
  file_text_in = let less : 2 < 4 = omega arith in (fs_key file_id, (2, less, refl))

  bytes_in : IsTextIn had bytes
  bytes_in = let less : 3 < 4 = omega arith in (block_key (sha1 bytes), (3, less, refl))

  -- a file object is read as no directory
  texts_apart : file_text cuts bytes ≢ directory_text e
  texts_apart same = by (sym is.file ∙ ap fs_of same ∙ is.directory)
    where
      by : ◌≡◌ {A = Result FsObject BadFs} (Ok (file_of cuts bytes)) (Ok (fs.Dir (e ∷ []))) → ⊥
      by same = cc

  ids_apart : file_id ≢ dir_id
  ids_apart same = texts_apart (is.clear.same (file_text cuts bytes) (directory_text e) file_text_in dir_text_in same)

  file_beside : fs_key file_id ≢ fs_key dir_id
  file_beside same = ids_apart (ap (λ (key : Key). key.id) same)

  -- what is stored

  abbrev block_stored : Objects
  block_stored = stored ((block_key (sha1 bytes), bytes) ∷ [])

  abbrev file_stored : Objects
  file_stored = stored ((fs_key file_id, file_text cuts bytes) ∷ (block_key (sha1 bytes), bytes) ∷ [])

  abbrev dir_stored : Objects
  dir_stored = stored ((fs_key dir_id, directory_text e) ∷ (fs_key file_id, file_text cuts bytes) ∷ (block_key (sha1 bytes), bytes) ∷ [])

  commit_is : fin.get objects (commit_key commit.id) ≡ Some (commit_text commit)
  commit_is = put_there dir_stored (commit_key commit.id) (commit_text commit)

  dir_is : fin.get objects (fs_key dir_id) ≡ Some (directory_text e)
  dir_is =
      put_beside dir_stored (commit_key commit.id) (fs_key dir_id) (commit_text commit) (other_kind (fs_key dir_id) (commit_key commit.id) fs_not_commit)
      ∙ put_there file_stored (fs_key dir_id) (directory_text e)

  file_is : fin.get objects (fs_key file_id) ≡ Some (file_text cuts bytes)
  file_is =
      put_beside dir_stored (commit_key commit.id) (fs_key file_id) (commit_text commit) (other_kind (fs_key file_id) (commit_key commit.id) fs_not_commit)
      ∙ put_beside file_stored (fs_key dir_id) (fs_key file_id) (directory_text e) file_beside
      ∙ put_there block_stored (fs_key file_id) (file_text cuts bytes)

  block_is : fin.get objects (block_key (sha1 bytes)) ≡ Some bytes
  block_is =
      put_beside dir_stored (commit_key commit.id) (block_key (sha1 bytes)) (commit_text commit) (other_kind (block_key (sha1 bytes)) (commit_key commit.id) block_not_commit)
      ∙ put_beside file_stored (fs_key dir_id) (block_key (sha1 bytes)) (directory_text e) (other_kind (block_key (sha1 bytes)) (fs_key dir_id) block_not_fs)
      ∙ put_beside block_stored (fs_key file_id) (block_key (sha1 bytes)) (file_text cuts bytes) (other_kind (block_key (sha1 bytes)) (fs_key file_id) block_not_fs)
      ∙ put_there fin.empty (block_key (sha1 bytes)) bytes

  has_all : HasAll objects had
  has_all = (commit_is, (dir_is, (file_is, (block_is, tt))))

  -- what it means

  commit_read : commit_at objects commit.id ≡ Ok commit
  commit_read = commit_there objects commit commit_is is.spells

  dir_read : fs_at objects dir_id ≡ Ok (fs.Dir (e ∷ []))
  dir_read = ap (fs_in (fs_key dir_id)) dir_is ∙ ap (as_read (fs_key dir_id)) is.directory

  lists_made : dirents_at objects dir_id ≡ e ∷ []
  lists_made =
      ap (λ (b : Bool). if b then [] else entries_of (fs_at objects dir_id)) (not_nil_id dir_id (is.clear.not_nil (directory_text e) dir_text_in))
      ∙ ap entries_of dir_read

  lists : dirents_at objects commit.root ≡ e ∷ []
  lists = subst (λ (root : List ℕ). dirents_at objects root ≡ e ∷ []) (sym is.root) lists_made

  file_read : fs_at objects file_id ≡ Ok (file_of cuts bytes)
  file_read = ap (fs_in (fs_key file_id)) file_is ∙ ap (as_read (fs_key file_id)) is.file

  blocks_read : blocks_at objects file_id ≡ sha1 bytes ∷ []
  blocks_read =
      ap (λ (b : Bool). if b then [] else blocks_of (fs_at objects file_id)) (not_nil_id file_id (is.clear.not_nil (file_text cuts bytes) file_text_in))
      ∙ ap blocks_of file_read
      ∙ ap (map sha1) is.one

  contents_made : contents_of objects file_id ≡ bytes
  contents_made = ap (joined objects) blocks_read ∙ ap (λ (o : Option (List ℕ)). unwrap_or o [] ++ []) block_is ∙ append-nil bytes

  contents_read : contents_of objects e.id ≡ bytes
  contents_read = ap (contents_of objects) is.names ∙ contents_made

  -- the tree

  node_here : node_below objects here commit.root ≡ Some (node.File file)
  node_here =
      ap (option_map (node_of objects)) (entry_here objects e is.mode commit.root lists)
      ∙ ap (λ (x : List ℕ). Some (node.File (record { mode = e.mode; mtime = e.mtime; modifier = e.modifier; bytes = x }))) contents_read

  is_tree : IsTreeOf objects commit.root (tree_of e bytes)
  is_tree =
      by_path (λ (path : PathV). fin.get (tree_of e bytes) path ≡ node_below objects path commit.root) here
      (one_at here (node.File file) ∙ sym node_here)
      (λ path other. one_elsewhere here (node.File file) path other ∙ sym (ap (option_map (node_of objects)) (entry_elsewhere objects e is.mode commit.root lists path other)))

  pub one_stands : Stands cuts (index_of cuts commit e bytes) (tree_of e bytes)
  one_stands =
      by_path (λ (path : PathV). Knows cuts (fin.get (tree_of e bytes) path) (fin.get (index_of cuts commit e bytes).entries path)) here
      (subst (λ (o : Option Node). Knows cuts o (fin.get (index_of cuts commit e bytes).entries here)) (sym (one_at here (node.File file)))
      (subst (Knows cuts (Some (node.File file))) (sym (one_at here known_file)) (refl, refl, refl, refl)))
      (λ path other.
      subst (λ (o : Option Node). Knows cuts o (fin.get (index_of cuts commit e bytes).entries path)) (sym (one_elsewhere here (node.File file) path other))
      (subst (Knows cuts None) (sym (one_elsewhere here known_file path other)) tt))

  one_knows : KnowsRoot objects commit.root (index_of cuts commit e bytes)
  one_knows =
      by_path (λ (path : PathV). KnowsEntry (entry_below objects path commit.root) (fin.get (index_of cuts commit e bytes).entries path)) here
      (subst (λ (o : Option Entry). KnowsEntry o (fin.get (index_of cuts commit e bytes).entries here)) (sym (entry_here objects e is.mode commit.root lists))
      (subst (KnowsEntry (Some (told objects e is.mode))) (sym (one_at here known_file)) (refl, refl, refl, refl)))
      (λ path other.
      subst (λ (o : Option Entry). KnowsEntry o (fin.get (index_of cuts commit e bytes).entries path))
      (sym (entry_elsewhere objects e is.mode commit.root lists path other))
      (subst (KnowsEntry None) (sym (one_elsewhere here known_file path other)) tt))

  same_commit : (other : Commit) → commit_at objects commit.id ≡ Ok other → commit ≡ other
  same_commit other at_id = by (sym commit_read ∙ at_id)
    where
      by : ◌≡◌ {A = Result Commit TreeFault} (Ok commit) (Ok other) → commit ≡ other
      by same = cc

  one_names : NamesFiles objects (index_of cuts commit e bytes) (tree_of e bytes)
  one_names =
      by_path (λ (path : PathV). NamesFile objects (fin.get (tree_of e bytes) path) (fin.get (index_of cuts commit e bytes).entries path)) here
      (subst (λ (o : Option Node). NamesFile objects o (fin.get (index_of cuts commit e bytes).entries here)) (sym (one_at here (node.File file)))
      (subst (NamesFile objects (Some (node.File file))) (sym (one_at here known_file)) contents_read))
      (λ path other.
      subst (λ (o : Option Node). NamesFile objects o (fin.get (index_of cuts commit e bytes).entries path)) (sym (one_elsewhere here (node.File file) path other)) tt)

  -- names

  same_bytes : (other : List ℕ) → Some (holding.File other) ≡ Some (holding.File bytes) → other ≡ bytes
  same_bytes other same = cc

  held_bytes : (path : PathV) (other : List ℕ) → at (folder_of e bytes) path ≡ Some (holding.File other) → other ≡ bytes
  held_bytes path other =
      by_path (λ (path : PathV). at (folder_of e bytes) path ≡ Some (holding.File other) → other ≡ bytes) here
      (λ there. same_bytes other (sym there ∙ one_at here (holding.File bytes)))
      (λ path apart there. absurd (true≢false (sym (ap is_some there) ∙ ap is_some (one_elsewhere here (holding.File bytes) path apart))))
      path

  same_version : (other : FileVersion) → Some (node.File other) ≡ Some (node.File file) → other.bytes ≡ bytes
  same_version other same = ap bytes_of same

  version_bytes : (path : PathV) (other : FileVersion) → fin.get (tree_of e bytes) path ≡ Some (node.File other) → other.bytes ≡ bytes
  version_bytes path other =
      by_path (λ (path : PathV). fin.get (tree_of e bytes) path ≡ Some (node.File other) → other.bytes ≡ bytes) here
      (λ there. same_version other (sym there ∙ one_at here (node.File file)))
      (λ path apart there. absurd (true≢false (sym (ap is_some there) ∙ ap is_some (one_elsewhere here (node.File file) path apart))))
      path

  only_chunk : (piece : List ℕ) → Contains (bytes ∷ []) piece → piece ≡ bytes
  only_chunk piece there =
      All-contains (λ (x : List ℕ). x ≡ bytes) (bytes ∷ []) piece (All-cons (λ (x : List ℕ). x ≡ bytes) bytes [] refl (All-nil (λ (x : List ℕ). x ≡ bytes))) there

  piece_in : (piece : List ℕ) → IsPieceOf cuts bytes piece → IsTextIn had piece
  piece_in piece (IsPieceOf.chunk there) =
      subst (IsTextIn had) (sym (only_chunk piece (subst (λ (xs : List (List ℕ)). Contains xs piece) is.one there))) bytes_in
  piece_in piece (IsPieceOf.object same) = subst (IsTextIn had) (sym same) file_text_in

  module _ (base : Tree) (of_base : (path : PathV) (other : FileVersion) → fin.get base path ≡ Some (node.File other) → other.bytes ≡ bytes) where
    in_texts : (piece : List ℕ) → InSync cuts (folder_of e bytes) base had piece → IsTextIn had piece
    in_texts piece (InSync.in_folder path other there of) = piece_in piece (subst (λ (x : List ℕ). IsPieceOf cuts x piece) (held_bytes path other there) of)
    in_texts piece (InSync.in_index path other there of) = piece_in piece (subst (λ (x : List ℕ). IsPieceOf cuts x piece) (of_base path other there) of)
    in_texts piece (InSync.in_call key there) = (key, there)

    all_clear : IsClear (InSync cuts (folder_of e bytes) base had)
    all_clear = record {
      same = λ x y left right same. is.clear.same x y (in_texts x left) (in_texts y right) same;
      not_nil = λ x there. is.clear.not_nil x (in_texts x there);
    }

  -- all of it

  pub one_over : Over objects cuts (folder_of e bytes) (index_of cuts commit e bytes) (tree_of e bytes) had
  one_over = record {
    has_all = has_all;
    base_is = (commit, commit_read, is_tree);
    stands = one_stands;
    knows = λ other at_id. subst (λ (c : Commit). KnowsRoot objects c.root (index_of cuts commit e bytes)) (same_commit other at_id) one_knows;
    names = one_names;
    clear = all_clear (tree_of e bytes) version_bytes;
  }

  pub first_over : Over objects cuts (folder_of e bytes) (unsynced commit.lib) fin.empty had
  first_over = record {
    has_all = has_all;
    base_is = λ path. none_at path;
    stands = none_stands cuts commit.lib None;
    knows = tt;
    names = none_named objects (unsynced commit.lib);
    clear = all_clear fin.empty (λ path other there. absurd (true≢false (sym (ap is_some there) ∙ ap is_some (none_at {X = Node} path))));
  }

  pub one_agrees : Agrees cuts (folder_of e bytes) (index_of cuts commit e bytes)
  one_agrees =
      by_path (λ (path : PathV). change_of (option_and_then (seen_of cuts) (at (folder_of e bytes) path)) (fin.get (index_of cuts commit e bytes).entries path) ≡ None) here
      (ap (λ (o : Option Holding). change_of (option_and_then (seen_of cuts) o) (fin.get (index_of cuts commit e bytes).entries here)) (one_at here (holding.File bytes))
      ∙ ap (change_of (Some (seen.File (block_names cuts bytes) (length bytes)))) (one_at here known_file)
      ∙ ap (λ (b : Bool). if not b then Some Changed else None) ((bytes_eq-Decides (own_of cuts bytes) (own_of cuts bytes)).1 refl))
      (λ path other.
      ap (λ (o : Option Holding). change_of (option_and_then (seen_of cuts) o) (fin.get (index_of cuts commit e bytes).entries path))
      (one_elsewhere here (holding.File bytes) path other)
      ∙ ap (change_of None) (one_elsewhere here known_file path other))

-- ---- a library that holds nothing

module _ (cuts : Cuts) (commit : Commit) (spells : commit_of (commit_text commit) ≡ Ok commit) (none : commit.root ≡ nil) where
  abbrev alone : Objects
  alone = stored (commit_alone commit)

  alone_read : commit_at alone commit.id ≡ Ok commit
  alone_read = commit_there alone commit (put_there fin.empty (commit_key commit.id) (commit_text commit)) spells

  lists_none : dirents_at alone commit.root ≡ []
  lists_none = ap (λ (b : Bool). if b then [] else entries_of (fs_at alone commit.root)) (ap is_nil none ∙ (bytes_decides nil nil).1 refl)

  none_in : (path : PathV) → entry_in alone [] path ≡ None
  none_in [] = refl
  none_in (name ∷ []) = refl
  none_in (name ∷ next ∷ path) = refl

  none_below : (path : PathV) → entry_below alone path commit.root ≡ None
  none_below path = ap (λ (es : List Dirent). entry_in alone es path) lists_none ∙ none_in path

  knows_none : (other : Commit) → commit_at alone commit.id ≡ Ok other → KnowsRoot alone other.root (empty_index commit)
  knows_none other at_id =
      subst (λ (c : Commit). KnowsRoot alone c.root (empty_index commit)) (by (sym alone_read ∙ at_id))
      (λ path. subst (λ (o : Option Entry). KnowsEntry o (fin.get (empty_index commit).entries path)) (sym (none_below path)) (subst (KnowsEntry None) (sym (none_at path)) tt))
    where
      by : ◌≡◌ {A = Result Commit TreeFault} (Ok commit) (Ok other) → commit ≡ other
      by same = cc

  nothing_named : (piece : List ℕ) → InSync cuts no_contents fin.empty [] piece → ⊥
  nothing_named piece (InSync.in_folder path bytes there of) = true≢false (sym (ap is_some there) ∙ ap is_some (none_at {X = Holding} path))
  nothing_named piece (InSync.in_index path version there of) = true≢false (sym (ap is_some there) ∙ ap is_some (none_at {X = Node} path))
  nothing_named piece (InSync.in_call key there) = none_contained (key, piece) there

  pub empty_over : Over alone cuts no_contents (empty_index commit) fin.empty []
  empty_over = record {
    has_all = tt;
    base_is = (commit, alone_read, λ path. none_at path ∙ sym (ap (option_map (node_of alone)) (none_below path)));
    stands = none_stands cuts commit.lib (Some commit.id);
    knows = knows_none;
    names = none_named alone (empty_index commit);
    clear = record { same = λ x y left right same. absurd (nothing_named x left); not_nil = λ x there. absurd (nothing_named x there) };
  }

  pub empty_agrees : Agrees cuts no_contents (empty_index commit)
  empty_agrees path =
      ap (λ (o : Option Holding). change_of (option_and_then (seen_of cuts) o) (fin.get (empty_index commit).entries path)) (none_at path) ∙ ap (change_of None) (none_at path)
