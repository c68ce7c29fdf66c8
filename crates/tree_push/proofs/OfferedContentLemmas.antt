-- A file that is offered has its bytes among the objects: its own object, or the one by which the index knows it. The key lemmas are
-- own_contents, seen_folder and offered_nodes.
use Rattle.std.proofs.Common.{◌≡◌, ◌≢◌, ◌==◌, ℕ, ℤ, Bool, true, false, if◌then◌else◌, All, List, [], ◌∷◌, ◌++◌, length, map, Option, None, Some, IsSome, option_map, Result, refl, sym, ap, ap₂, ◌∙◌, subst, arith}
use Rattle.std.specs.Prelude.{option_and_then, pos, min, ◌^◌, ◌-◌}
use Rattle.std.specs.FinMap as fin
use Rattle.std.specs.List.{Contains, concat}
use Rattle.std.specs.Str.{bytes_eq}
use Rattle.std.specs.Cmp.Lexicographic.{bytes_decides}
use Rattle.std.proofs.lemmas.Bool.{eqb-true}
use Rattle.std.proofs.lemmas.List.{nil_from_length}
use Rattle.std.proofs.lemmas.List.Elements.{All-cons, All-nil}
use Rattle.sha1.specs.Sha1.{sha1}
use Rattle.ids.specs.Key.{Objects}
use Rattle.ids.specs.ObjectId.{nil}
use Rattle.ids.specs.declared.key.Key.{Key}
use Rattle.ids.proofs.BasicLemmas.{contains_more, same_from_bytes_eq}
use Rattle.tree_model.specs.Path.{PathV}
use Rattle.tree_model.specs.Tree.{Tree, file_of}
use Rattle.tree_model.specs.declared.node.Node.{Node}
use Rattle.tree_model.specs.declared.node.Node.TheVariants as node
use Rattle.block_chunker.specs.ChunkBoundaries.{chunks_of}
use Rattle.block_chunker.specs.declared.cuts.Cuts.{Cuts}
use Rattle.block_chunker.proofs.LawLemmas.{AreChunks-chunks_of, concat-AreChunks}
use Rattle.fs_objects.specs.Mode.{is_file_mode}
use Rattle.fs_objects.specs.Spelling.{text_of}
use Rattle.fs_objects.specs.declared.fault.BadFs.{BadFs}
use Rattle.fs_objects.specs.declared.fs_object.FsObject.{FsObject}
use Rattle.fs_objects.specs.declared.fs_object.FsObject.TheVariants as fs
use Rattle.object_graph.specs.Objects.{as_read, block_bytes, block_key, blocks_of, contents_of, fs_at, fs_in, fs_key, joined, node_below, node_of}
use Rattle.tree_merge.proofs.MadeLemmas.{not_nil}
use Rattle.tree_merge.proofs.MergedEntryLemmas.{side_mode}
use Rattle.folder_side.specs.Folder.{Contents, IsFolder, at}
use Rattle.folder_side.specs.ScanReport.{IsScan, seen_of}
use Rattle.folder_side.specs.declared.holding.Holding.{Holding}
use Rattle.folder_side.specs.declared.holding.Holding.TheVariants.{Dir, File, Other}
use Rattle.folder_side.specs.declared.scan_report.Scan.{Scan}
use Rattle.folder_side.specs.declared.scan_report.Seen.{Seen}
use Rattle.local_index.specs.IndexSpelling.{HasFileMode}
use Rattle.local_index.specs.declared.index.Index.{Index}
use Rattle.local_index.specs.declared.index.Known.{Known}
use Rattle.local_index.specs.declared.index.Known.TheVariants as known
use Rattle.sync_rules.specs.Offer.{offered_at, offered_file, offered_of, own_of}
use Rattle.sync_rules.specs.Premises.{InSync, IsBase, IsClear, IsPieceOf, Knows, NamesFile, Over}
use Rattle.sync_rules.proofs.NameLemmas.{own_alike}
use Rattle.tree_push.specs.OfferedNames.{HasOffered, HasOwn, IsThere, object_of}
use Rattle.tree_push.specs.OfferedEntries.{IsSeenFolder, changed_entry, file_entry, is_kept, offered_entry}

module _ (objects : Objects) (here : List ℕ → Type 0) (is_clear : IsClear here) where
  pub the_same : (key : Key) (bytes : List ℕ) → here bytes → IsThere objects here key bytes → fin.get objects key ≡ Some bytes
  the_same key bytes own is = is.there ∙ ap Some (is_clear.same is.stored bytes is.clear own is.named)

  block_is : (x : List ℕ) → here x → IsThere objects here (block_key (sha1 x)) x → block_bytes objects (sha1 x) ≡ x
  block_is x own is = rw (the_same (block_key (sha1 x)) x own is) refl

  module _ (cuts : Cuts) (bytes : List ℕ) (pieces : (piece : List ℕ) → IsPieceOf cuts bytes piece → here piece) (has : HasOwn objects here cuts bytes) where
    joined_is : (xs : List (List ℕ)) → ((x : List ℕ) → Contains xs x → Contains (chunks_of cuts bytes) x) → joined objects (map sha1 xs) ≡ concat xs
    joined_is [] in_file = refl
    joined_is (x ∷ xs) in_file =
        let first : Contains (x ∷ xs) x = (0, omega arith, refl) in
        ap₂ (λ (a b : List ℕ). a ++ b) (block_is x (pieces x (IsPieceOf.chunk (in_file x first))) (has.blocks x (in_file x first)))
        (joined_is xs (λ other there. in_file other (contains_more x other xs there)))

    pub all_some : (xs : List (List ℕ)) → ((x : List ℕ) → Contains xs x → Contains (chunks_of cuts bytes) x) → All (λ id. id ≢ nil) (map sha1 xs)
    all_some [] in_file = All-nil (λ id. id ≢ nil)
    all_some (x ∷ xs) in_file =
        All-cons (λ id. id ≢ nil) (sha1 x) (map sha1 xs) (is_clear.not_nil x (pieces x (IsPieceOf.chunk (in_file x (0, omega arith, refl)))))
        (all_some xs (λ other there. in_file other (contains_more x other xs there)))

    object_is : (length bytes == 0) ≡ false → contents_of objects (sha1 (text_of (fs.File (object_of cuts bytes)))) ≡ bytes
    object_is some =
        let own : here (text_of (fs.File (object_of cuts bytes))) = pieces (text_of (fs.File (object_of cuts bytes))) (IsPieceOf.object refl) in
        ap (λ (b : Bool). joined objects (if b then [] else blocks_of (fs_at objects (sha1 (text_of (fs.File (object_of cuts bytes)))))))
        (not_nil (sha1 (text_of (fs.File (object_of cuts bytes)))) (is_clear.not_nil (text_of (fs.File (object_of cuts bytes))) own))
        ∙ ap (λ (o : Option (List ℕ)). joined objects (blocks_of (fs_in (fs_key (sha1 (text_of (fs.File (object_of cuts bytes))))) o)))
        (the_same (fs_key (sha1 (text_of (fs.File (object_of cuts bytes))))) (text_of (fs.File (object_of cuts bytes))) own (has.object some))
        ∙ ap (λ (r : Result FsObject BadFs). joined objects (blocks_of (as_read (fs_key (sha1 (text_of (fs.File (object_of cuts bytes))))) r))) (has.reads some (all_some (chunks_of cuts bytes) (λ x there. there)))
        ∙ joined_is (chunks_of cuts bytes) (λ x there. there) ∙ concat-AreChunks cuts (AreChunks-chunks_of cuts bytes)

    pub own_contents : contents_of objects (own_of cuts bytes) ≡ bytes
    own_contents = by (length bytes == 0) refl
      where
        by : (b : Bool) → (length bytes == 0) ≡ b → contents_of objects (if length bytes == 0 then nil else sha1 (text_of (fs.File (object_of cuts bytes)))) ≡ bytes
        by true none =
            ap (λ (b : Bool). contents_of objects (if b then nil else sha1 (text_of (fs.File (object_of cuts bytes))))) none
            ∙ ap (λ (b : Bool). joined objects (if b then [] else blocks_of (fs_at objects nil))) ((bytes_decides nil nil).1 refl)
            ∙ sym (nil_from_length bytes (eqb-true (length bytes) 0 none))
        by false some = ap (λ (b : Bool). contents_of objects (if b then nil else sha1 (text_of (fs.File (object_of cuts bytes))))) some ∙ object_is some

-- ---- what is offered of a folder

module _ (objects : Objects) (cuts : Cuts) (c : Contents) (index : Index) (base : Tree) (had : List (Key × List ℕ)) (over : Over objects cuts c index base had) where
  -- what is known of files are modes of files
  modes_known : (path : PathV) (was : Known) (o : Option Node) → fin.get index.entries path ≡ Some was → fin.get base path ≡ o → Knows cuts o (Some was) → HasFileMode was
  modes_known path known.Dir o known is knows = tt
  modes_known path (known.File id its size mode mtime modifier) None known is knows = absurd knows
  modes_known path (known.File id its size mode mtime modifier) (Some node.Dir) known is knows = absurd knows
  modes_known path (known.File id its size mode mtime modifier) (Some (node.File file)) known is knows =
      subst (λ m. is_file_mode m ≡ true) (sym knows.1) (by index.base over.base_is)
    where
      by : (b : Option (List ℕ)) → IsBase objects b base → is_file_mode file.mode ≡ true
      by None none = let apart : None ≡ Some (node.File file) = sym (none path) ∙ is in absurd (cc)
      by (Some id) at_base = side_mode objects at_base.0.root base at_base.2 path file (ap file_of is)

  pub known_modes : (path : PathV) (was : Known) → fin.get index.entries path ≡ Some was → HasFileMode was
  known_modes path was is = modes_known path was (fin.get base path) is refl (subst (λ (k : Option Known). Knows cuts (fin.get base path) k) is (over.stands path))

  pub seen_folder : (scan : Scan) → IsFolder c → IsScan cuts c scan → IsSeenFolder index.entries scan.paths
  seen_folder scan folder is = record {
    no_root = is.paths [] ∙ ap (λ (o : Option Holding). option_and_then (seen_of cuts) o) folder.no_root;
    in_dirs = λ dir name other there.
        is.paths dir
        ∙ ap (λ (o : Option Holding). option_and_then (seen_of cuts) o)
        (folder.in_dirs dir name other (some_seen (at c (dir ++ name ∷ [])) (subst (λ (o : Option Seen). IsSome o) (is.paths (dir ++ name ∷ [])) there)));
    modes = known_modes;
  }
    where
      some_seen : (o : Option Holding) → IsSome (option_and_then (seen_of cuts) o) → IsSome o
      some_seen None is = is
      some_seen (Some h) is = refl

  module _ (moment : ℕ) (user : List ℕ) (has : (path : PathV) (bytes : List ℕ) → at c path ≡ Some (File bytes) → is_kept (fin.get index.entries path) (own_of cuts bytes) ≡ false
      → HasOwn objects (InSync cuts c base had) cuts bytes) where
    module _ (path : PathV) (bytes : List ℕ) (held : at c path ≡ Some (File bytes)) where
      pieces_here : (piece : List ℕ) → IsPieceOf cuts bytes piece → InSync cuts c base had piece
      pieces_here piece is = InSync.in_folder path bytes held is

      changed_node : (mode : ℕ) → HasOwn objects (InSync cuts c base had) cuts bytes
          → node_of objects (changed_entry moment user mode (own_of cuts bytes) (length bytes)) ≡ node.File (record { mode = mode; mtime = pos (min moment (2 ^ 63 - 1)); modifier = user; bytes = bytes })
      changed_node mode own =
          ap (λ (b : List ℕ). node.File (record { mode = mode; mtime = pos (min moment (2 ^ 63 - 1)); modifier = user; bytes = b }))
          (own_contents objects (InSync cuts c base had) over.clear cuts bytes pieces_here own)

      kept_contents : (id its modifier : List ℕ) (size mode : ℕ) (mtime : ℤ) (o : Option Node) → fin.get base path ≡ o → Knows cuts o (Some (known.File id its size mode mtime modifier))
          → NamesFile objects o (Some (known.File id its size mode mtime modifier)) → own_of cuts bytes ≡ its → contents_of objects id ≡ bytes
      kept_contents id its modifier size mode mtime None is knows names same = absurd knows
      kept_contents id its modifier size mode mtime (Some node.Dir) is knows names same = absurd knows
      kept_contents id its modifier size mode mtime (Some (node.File file)) is knows names same =
          names ∙ sym (own_alike objects cuts c index base had over path path bytes file held is (same ∙ knows.0))

      file_node : (was : Option Known) → fin.get index.entries path ≡ was
          → node_of objects (file_entry moment user was (own_of cuts bytes) (length bytes)) ≡ node.File (offered_file cuts moment user was bytes)
      file_node None is = changed_node 33188 (has path bytes held (ap (λ (k : Option Known). is_kept k (own_of cuts bytes)) is))
      file_node (Some known.Dir) is = changed_node 33188 (has path bytes held (ap (λ (k : Option Known). is_kept k (own_of cuts bytes)) is))
      file_node (Some (known.File id its size mode mtime modifier)) is = by (bytes_eq (own_of cuts bytes) its) refl
        where
          by : (b : Bool) → bytes_eq (own_of cuts bytes) its ≡ b
              → node_of objects (file_entry moment user (Some (known.File id its size mode mtime modifier)) (own_of cuts bytes) (length bytes))
              ≡ node.File (offered_file cuts moment user (Some (known.File id its size mode mtime modifier)) bytes)
          by true same =
              let contents : contents_of objects id ≡ bytes
              = kept_contents id its modifier size mode mtime (fin.get base path) refl (subst (λ (k : Option Known). Knows cuts (fin.get base path) k) is (over.stands path))
              (subst (λ (k : Option Known). NamesFile objects (fin.get base path) k) is (over.names path)) (same_from_bytes_eq (own_of cuts bytes) its same) in
              rw same (ap (λ (b : List ℕ). node.File (record { mode = mode; mtime = mtime; modifier = modifier; bytes = b })) contents)
          by false other =
              rw other (changed_node mode (has path bytes held (ap (λ (k : Option Known). is_kept k (own_of cuts bytes)) is ∙ other)))

    -- what is offered at each path is what the folder offers there
    pub offered_nodes : (path : PathV)
        → option_map (node_of objects) (option_map (offered_entry moment user (fin.get index.entries path)) (option_and_then (seen_of cuts) (at c path))) ≡ offered_at cuts c index moment user path
    offered_nodes path = by (at c path) refl
      where
        by : (o : Option Holding) → at c path ≡ o
            → option_map (node_of objects) (option_map (offered_entry moment user (fin.get index.entries path)) (option_and_then (seen_of cuts) o))
            ≡ option_and_then (offered_of cuts moment user (fin.get index.entries path)) o
        by None is = refl
        by (Some Dir) is = refl
        by (Some Other) is = refl
        by (Some (File bytes)) is = ap (λ (n : Node). Some n) (file_node path bytes is (fin.get index.entries path) refl)

    -- a root with the entries that are offered has the tree that the folder offers
    pub offered_root : (root : List ℕ) → HasOffered objects cuts c index moment user root → (path : PathV) → node_below objects path root ≡ offered_at cuts c index moment user path
    offered_root root entries path = ap (option_map (node_of objects)) (entries path) ∙ offered_nodes path
