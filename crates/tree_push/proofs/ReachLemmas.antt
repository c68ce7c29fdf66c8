-- What is named before a library is asked to stand at a commit is what that commit needs, and all of it, but for the files that are known.
-- The key lemma is upload_of.
use Rattle.std.proofs.Common.{◌≡◌, ◌≢◌, ◌==◌, ◌⊎◌, ◌||◌, inl, inr, ℕ, Bool, true, false, if◌then◌else◌, All, List, [], ◌∷◌, ◌++◌, length, map, Option, None, Some, IsSome, is_some, option_map, Result, Ok, refl, sym, ap, ap₂, ◌∙◌, subst, true≢false}
use Rattle.std.proofs.lemmas.Bool.{eqb-true, or_cases, or_left, or_right}
use Rattle.std.proofs.lemmas.List.{nil_from_length}
use Rattle.std.specs.Prelude.{◌-◌}
use Rattle.std.specs.Cmp.Lexicographic.{bytes_decides}
use Rattle.std.specs.FinMap as fin
use Rattle.sha1.specs.Sha1.{sha1}
use Rattle.ids.specs.Key.{Objects}
use Rattle.ids.specs.ObjectId.{nil}
use Rattle.ids.specs.declared.key.Key.{Key}
use Rattle.ids.specs.declared.key.Kind.{Kind}
use Rattle.ids.specs.declared.key.Kind.TheVariants as kind
use Rattle.tree_model.specs.Path.{PathV}
use Rattle.tree_model.specs.Tree.{Tree}
use Rattle.block_chunker.specs.ChunkBoundaries.{chunks_of}
use Rattle.block_chunker.specs.declared.cuts.Cuts.{Cuts}
use Rattle.commit_objects.specs.declared.commit.Commit.{Commit}
use Rattle.fs_objects.specs.FsObject.{fs_of}
use Rattle.fs_objects.specs.Mode.{is_directory_mode}
use Rattle.fs_objects.specs.declared.dirent.Dirent.{Dirent}
use Rattle.fs_objects.specs.declared.fs_object.FsObject.{FsObject}
use Rattle.fs_objects.specs.declared.fs_object.FsObject.TheVariants as fs
use Rattle.object_graph.specs.Objects.{as_read, block_key, commit_in, commit_key, entry_below, entry_named, entry_of, fs_at, fs_in, fs_key, in_name_order, is_nil}
use Rattle.object_graph.specs.Reached.{ReachedFrom, names, pends, block_keys, entry_keys, named_by_commit, named_by_fs, named_under}
use Rattle.object_graph.specs.Traversal.{is_in}
use Rattle.object_graph.specs.Unchanged.{Keeps}
use Rattle.object_graph.specs.declared.entry.Entry.TheVariants as entry
use Rattle.object_graph.specs.declared.fault.TreeFault.{TreeFault}
use Rattle.object_graph.proofs.EntryLemmas.{apart_in_order, named_in_order}
use Rattle.object_graph.proofs.KeyLemmas.{in_append, same_key, same_key-itself}
use Rattle.folder_side.specs.Folder.{Contents, at}
use Rattle.folder_side.specs.ScanReport.{IsScan, block_names}
use Rattle.folder_side.specs.declared.holding.Holding.TheVariants.{File}
use Rattle.folder_side.specs.declared.scan_report.Scan.{Scan}
use Rattle.folder_side.specs.declared.scan_report.Seen.{Seen}
use Rattle.folder_side.specs.declared.scan_report.Seen.TheVariants as seen
use Rattle.local_index.specs.OwnIds.{own_id}
use Rattle.local_index.specs.declared.index.Index.{Index}
use Rattle.local_index.specs.declared.index.Known.{Known}
use Rattle.local_index.specs.declared.index.Known.TheVariants as known
use Rattle.remote_calls.specs.Sends.{Ending, Sent}
use Rattle.sync_rules.specs.Named.{keys_lacked, keys_named, keys_put}
use Rattle.sync_rules.specs.Premises.{InSync, IsPieceOf, Over}
use Rattle.sync_rules.specs.Uploads.{IsUploadOf, known_files}
use Rattle.tree_merge.specs.TreeBuilding.{IsDirectoryOf, IsNilOrMade}
use Rattle.tree_merge.proofs.MadeLemmas.{not_nil}
use Rattle.tree_push.specs.Asking.{key_of}
use Rattle.tree_push.specs.Lacking.{has_key}
use Rattle.tree_push.specs.OfferedEntries.{IsSeenFolder, file_entry, is_kept, offered_entry}
use Rattle.tree_push.specs.OfferedTree.{IsMadeOf}
use Rattle.tree_push.specs.Standing.{IsOwnCommit, offered_commit}
use Rattle.tree_push.specs.Upload.{UploadsAll}
use Rattle.tree_push.specs.Wanted.{AreChangedBlocks, AreOwnNamed, HasFiles, HasNamed, IsChangedObject, IsIn, file_text, ids_in}
use Rattle.tree_push.specs.declared.asking.Library.{Library}
use Rattle.tree_push.specs.declared.wanted.Wanted.{Wanted}
use Rattle.tree_push.proofs.KeyEntryLemmas.{key_listed, listed_key}
use Rattle.tree_push.proofs.NamingLemmas.{Reached, ReachedId, commit_reached, directory_reached, file_reached, root_reached, some_reached}
use Rattle.tree_push.proofs.NotedLemmas.{lacked_append}
use Rattle.tree_push.proofs.OfferedContentLemmas.{all_some, the_same}
use Rattle.tree_push.proofs.StoodLemmas.{put_of}
use Rattle.tree_push.proofs.UploadLemmas.{IsKeyIn, in_block_keys, key_in, lacked_asked, seen_file}
use Rattle.tree_push.proofs.NamedKeyLemmas.{all_in_list, asked_keys, changed_own, found_key, in_block_list, in_keys, in_one, known_listed, named_append, no_chunks, own_key_of, put_keys}

module _ (library : Library) (root parent user : List ℕ) (moment : ℕ) (id text : List ℕ) (own : IsOwnCommit library root parent user moment id text) (cuts : Cuts) (c : Contents) (index : Index)
    (scan : Scan) (is : IsScan cuts c scan) (wanted : Wanted) (files : HasFiles index.entries scan.paths wanted) (changed : AreChangedBlocks index.entries scan.paths wanted)
    (named : AreOwnNamed wanted.made) (more : List Sent) (all : UploadsAll library wanted more) (objects : Objects) (base : Tree) (has : HasNamed cuts c index wanted more)
    (over : Over objects cuts c index base has.had) (stored : commit_in id (fin.get objects (commit_key id)) ≡ Ok (offered_commit library root parent user moment))
    (can : IsSeenFolder index.entries scan.paths) (tree : IsMadeOf moment user index.entries scan.paths root wanted.made)
    (entries : (path : PathV) → entry_below objects path root ≡ option_map (offered_entry moment user (fin.get index.entries path)) (fin.get scan.paths path)) (keeps : Keeps wanted.made objects)
    (ending : Ending) where
  abbrev front : List Sent
  front = more ++ put_of library id text ending ∷ []

  abbrev fs_keys : List Key
  fs_keys = map (key_of kind.Fs) (ids_in (fin.entries wanted.made))

  abbrev wanted_blocks : List Key
  wanted_blocks = map (key_of kind.Block) (ids_in (fin.entries wanted.blocks))

  abbrev asked_and_put : List Key
  asked_and_put = (fs_keys ++ wanted_blocks) ++ keys_put all.third

  -- what is named: the commit, an object that was made, or a block that is wanted
  abbrev IsUploaded : Key → Type 0
  IsUploaded key = (key ≡ commit_key id) ⊎ ((has_key wanted.made key ≡ true) ⊎ (has_key wanted.blocks key ≡ true))

  made_key : (key : Key) → IsKeyIn kind.Fs (ids_in (fin.entries wanted.made)) key → has_key wanted.made key ≡ true
  made_key key one =
      let listed = listed_key wanted.made one.id one.there in
      by one.id one.is listed.key (fin.get wanted.made listed.key) refl listed.there listed.is
    where
      by : (i : List ℕ) → key ≡ key_of kind.Fs i → (k : Key) (o : Option (List ℕ)) → fin.get wanted.made k ≡ o → IsSome o → k.id ≡ i → has_key wanted.made key ≡ true
      by i at k None got some same = absurd (cc)
      by i at k (Some t) got some same =
          let mine = named k t got in
          let moved : k ≡ key = mine ∙ ap fs_key (sym (ap (λ (q : Key). q.id) mine) ∙ same) ∙ sym at in
          ap (has_key wanted.made) (sym moved) ∙ ap is_some got

  blocks_key : (key : Key) → IsKeyIn kind.Block (ids_in (fin.entries wanted.blocks)) key → has_key wanted.blocks key ≡ true
  blocks_key key one =
      let listed = listed_key wanted.blocks one.id one.there in
      let block = (changed listed.key listed.there).block in
      let moved : listed.key ≡ key = block.is ∙ ap block_key (sym (ap (λ (k : Key). k.id) block.is) ∙ listed.is) ∙ sym one.is in
      ap (has_key wanted.blocks) (sym moved) ∙ listed.there

  all_named : keys_named front ≡ ((map (key_of kind.Fs) (ids_in (fin.entries wanted.made)) ++ map (key_of kind.Block) (ids_in (fin.entries wanted.blocks))) ++ keys_put all.third) ++ commit_key id ∷ []
  all_named =
      named_append more (put_of library id text ending ∷ [])
      ∙ ap (λ (keys : List Key). keys ++ commit_key id ∷ [])
      (ap keys_named all.is ∙ named_append (all.first ++ all.second) all.third
      ∙ ap₂ (λ (a b : List Key). a ++ b)
      (named_append all.first all.second
      ∙ ap₂ (λ (a b : List Key). a ++ b) (asked_keys library kind.Fs (ids_in (fin.entries wanted.made)) all.first all.objects)
      (asked_keys library kind.Block (ids_in (fin.entries wanted.blocks)) all.second all.blocks))
      (put_keys all.third all.puts))

  named_is : (key : Key) → is_in (keys_named front) key ≡ true → IsUploaded key
  named_is key there = whole (or_cases (is_in asked_and_put key) (is_in (commit_key id ∷ []) key) (sym (in_append asked_and_put (commit_key id ∷ []) key) ∙ ap (λ (keys : List Key). is_in keys key) (sym all_named) ∙ there))
    where
      put : (is_in (keys_lacked all.first) key ≡ true) ⊎ (is_in (keys_lacked all.second) key ≡ true) → IsUploaded key
      put (inl there) = inr (inl (made_key key (lacked_asked library kind.Fs (ids_in (fin.entries wanted.made)) all.first all.objects key there)))
      put (inr there) = inr (inr (blocks_key key (lacked_asked library kind.Block (ids_in (fin.entries wanted.blocks)) all.second all.blocks key there)))

      asked : (is_in fs_keys key ≡ true) ⊎ (is_in wanted_blocks key ≡ true) → IsUploaded key
      asked (inl there) = inr (inl (made_key key (key_in kind.Fs (ids_in (fin.entries wanted.made)) key there)))
      asked (inr there) = inr (inr (blocks_key key (key_in kind.Block (ids_in (fin.entries wanted.blocks)) key there)))

      either : (is_in (fs_keys ++ wanted_blocks) key ≡ true) ⊎ (is_in (keys_put all.third) key ≡ true) → IsUploaded key
      either (inl there) = asked (or_cases (is_in fs_keys key) (is_in wanted_blocks key) (sym (in_append fs_keys wanted_blocks key) ∙ there))
      either (inr there) =
          put (or_cases (is_in (keys_lacked all.first) key) (is_in (keys_lacked all.second) key)
          (sym (in_append (keys_lacked all.first) (keys_lacked all.second) key) ∙ ap (λ (keys : List Key). is_in keys key) (sym (lacked_append all.first all.second)) ∙ sym (all.lacked key) ∙ there))

      whole : (is_in asked_and_put key ≡ true) ⊎ (is_in (commit_key id ∷ []) key ≡ true) → IsUploaded key
      whole (inl there) = either (or_cases (is_in (fs_keys ++ wanted_blocks) key) (is_in (keys_put all.third) key) (sym (in_append (fs_keys ++ wanted_blocks) (keys_put all.third) key) ∙ there))
      whole (inr there) = inl (in_one (commit_key id) key there)

  is_named : (key : Key) → IsUploaded key → is_in (keys_named front) key ≡ true
  is_named key uploaded = ap (λ (keys : List Key). is_in keys key) all_named ∙ in_append asked_and_put (commit_key id ∷ []) key ∙ by uploaded
    where
      asked : (is_in fs_keys key || is_in wanted_blocks key) ≡ true → is_in asked_and_put key ≡ true
      asked there =
          in_append (fs_keys ++ wanted_blocks) (keys_put all.third) key
          ∙ or_left (is_in (fs_keys ++ wanted_blocks) key) (is_in (keys_put all.third) key) (in_append fs_keys wanted_blocks key ∙ there)

      object : (o : Option (List ℕ)) → fin.get wanted.made key ≡ o → IsSome o → is_in fs_keys key ≡ true
      object None got some = absurd (cc)
      object (Some t) got some =
          let mine = named key t got in
          let moved : key_of kind.Fs key.id ≡ key = ap (λ (k : Key). key_of kind.Fs k.id) mine ∙ sym mine in
          ap (is_in fs_keys) (sym moved) ∙ in_keys kind.Fs (ids_in (fin.entries wanted.made)) key.id (key_listed wanted.made key (ap is_some got))

      block : has_key wanted.blocks key ≡ true → is_in wanted_blocks key ≡ true
      block there =
          let mine = (changed key there).block in
          let moved : key_of kind.Block key.id ≡ key = ap (λ (k : Key). key_of kind.Block k.id) mine.is ∙ sym mine.is in
          ap (is_in wanted_blocks) (sym moved) ∙ in_keys kind.Block (ids_in (fin.entries wanted.blocks)) key.id (key_listed wanted.blocks key there)

      by : IsUploaded key → (is_in asked_and_put key || is_in (commit_key id ∷ []) key) ≡ true
      by (inl commit) =
          or_right (is_in asked_and_put key) (is_in (commit_key id ∷ []) key)
          (ap (is_in (commit_key id ∷ [])) commit ∙ or_left (same_key (commit_key id) (commit_key id)) false (same_key-itself (commit_key id)))
      by (inr (inl made)) =
          or_left (is_in asked_and_put key) (is_in (commit_key id ∷ []) key)
          (asked (or_left (is_in fs_keys key) (is_in wanted_blocks key) (object (fin.get wanted.made key) refl made)))
      by (inr (inr wants)) = or_left (is_in asked_and_put key) (is_in (commit_key id ∷ []) key) (asked (or_right (is_in fs_keys key) (is_in wanted_blocks key) (block wants)))

  -- ---- a file that is new or changed

  module _ (path : PathV) (blocks : List (List ℕ)) (size : ℕ) (seen_there : fin.get scan.paths path ≡ Some (seen.File blocks size))
      (fresh : is_kept (fin.get index.entries path) (own_id blocks size) ≡ false) where
    file : (bytes : List ℕ) × (at c path ≡ Some (File bytes)) × (blocks ≡ block_names cuts bytes) × (size ≡ length bytes)
    file = seen_file cuts (at c path) blocks size (sym seen_there ∙ is.paths path)

    module _ (some : (size == 0) ≡ false) where
      own_some : own_id blocks size ≡ sha1 (file_text blocks size)
      own_some = ap (λ (b : Bool). if b then nil else sha1 (file_text blocks size)) some

      piece : InSync cuts c base has.had (file_text blocks size)
      piece = InSync.in_folder path file.0 file.1 (IsPieceOf.object (ap₂ (λ (b : List (List ℕ)) (s : ℕ). file_text b s) file.2 file.3))

      text_some : is_nil (sha1 (file_text blocks size)) ≡ false
      text_some = not_nil (sha1 (file_text blocks size)) (over.clear.not_nil (file_text blocks size) piece)

      object_reached : Reached objects id (fs_key (sha1 (file_text blocks size)))
      object_reached =
          let entry_is = changed_own moment user (fin.get index.entries path) (own_id blocks size) size fresh in
          file_reached objects id path root (root_reached objects id (offered_commit library root parent user moment) stored) (sha1 (file_text blocks size)) entry_is.0 entry_is.1 user size
          (entries path ∙ ap (option_map (offered_entry moment user (fin.get index.entries path))) seen_there ∙ ap Some entry_is.2
          ∙ ap (λ (i : List ℕ). Some (entry.File i entry_is.0 entry_is.1 user size)) own_some) text_some

      -- its object is stored, and read as it
      object_read : fs_at objects (sha1 (file_text blocks size)) ≡ Ok (fs.File (record { blocks = blocks; size = size }))
      object_read =
          let own_changed : is_kept (fin.get index.entries path) (own_id (block_names cuts file.0) (length file.0)) ≡ false
          = ap₂ (λ (b : List (List ℕ)) (s : ℕ). is_kept (fin.get index.entries path) (own_id b s)) (sym file.2) (sym file.3) ∙ fresh in
          let mine = has.changed objects base over path file.0 file.1 own_changed in
          let here = InSync cuts c base has.had in
          let bytes_some : (length file.0 == 0) ≡ false = ap (λ (s : ℕ). s == 0) (sym file.3) ∙ some in
          let t = file_text (block_names cuts file.0) (length file.0) in
          let h = fs_key (sha1 t) in
          let pieces : (x : List ℕ) → IsPieceOf cuts file.0 x → here x = (λ x of. InSync.in_folder path file.0 file.1 of) in
          let got : fin.get objects h ≡ Some t = the_same objects here over.clear h t (pieces t (IsPieceOf.object refl)) (mine.object bytes_some) in
          let reads = mine.reads bytes_some (all_some objects here over.clear cuts file.0 pieces mine (chunks_of cuts file.0) (λ x of. of)) in
          let own_read : fs_at objects (sha1 t) ≡ Ok (fs.File (record { blocks = block_names cuts file.0; size = length file.0 })) = ap (fs_in h) got ∙ ap (as_read h) reads in
          subst (λ (b : List (List ℕ)). fs_at objects (sha1 (file_text b size)) ≡ Ok (fs.File (record { blocks = b; size = size }))) (sym file.2)
          (subst (λ (s : ℕ). fs_at objects (sha1 (file_text (block_names cuts file.0) s)) ≡ Ok (fs.File (record { blocks = block_names cuts file.0; size = s }))) (sym file.3) own_read)

  bytes_some : (path : PathV) (blocks : List (List ℕ)) (size : ℕ) → fin.get scan.paths path ≡ Some (seen.File blocks size) → (i : List ℕ) → IsIn i blocks → (size == 0) ≡ false
  bytes_some path blocks size seen_there i there = by (size == 0) refl (seen_file cuts (at c path) blocks size (sym seen_there ∙ is.paths path))
    where
      by : (b : Bool) → (size == 0) ≡ b → (bytes : List ℕ) × (at c path ≡ Some (File bytes)) × (blocks ≡ block_names cuts bytes) × (size ≡ length bytes) → (size == 0) ≡ false
      by false some f = some
      by true none f =
          let empty : f.0 ≡ [] = nil_from_length f.0 (sym f.3 ∙ eqb-true size 0 none) in
          let no_names : blocks ≡ [] = f.2 ∙ ap (block_names cuts) empty ∙ ap (map sha1) (no_chunks cuts) in
          absurd (subst (λ (l : List (List ℕ)). IsIn i l) no_names there)

  -- ---- each of these is reached

  dir_reached : (key : Key) (bytes : List ℕ) → fin.get tree.dirs key ≡ Some bytes → Reached objects id key
  dir_reached key bytes there =
      let mine = tree.named key bytes there in
      let key_is : key ≡ fs_key key.id = ap (λ (k : Kind). record { kind = k; id = key.id }) mine.is_fs in
      let made : IsSome (fin.get tree.dirs (fs_key key.id)) = ap (λ (k : Key). is_some (fin.get tree.dirs k)) (sym key_is) ∙ ap is_some there in
      let all_kept : Keeps tree.dirs objects = record { kept = λ k b got. keeps.kept k b (tree.kept.kept k b got) } in
      let top = root_reached objects id (offered_commit library root parent user moment) stored in
      subst (λ (k : Key). Reached objects id k) (sym key_is) (some_reached objects id key.id (not_nil key.id mine.some) (by top (tree.needed key.id made objects all_kept)))
    where
      by : ReachedId objects id root → IsDirectoryOf objects root key.id → ReachedId objects id key.id
      by top (inl at_root) = subst (λ (i : List ℕ). ReachedId objects id i) (sym at_root) top
      by top (inr (path, below)) = directory_reached objects id path root top key.id below

  made_reached : (key : Key) → has_key wanted.made key ≡ true → Reached objects id key
  made_reached key there = by (tree.others key there)
    where
      of : (o : Option (List ℕ)) → fin.get tree.dirs key ≡ o → IsSome o → Reached objects id key
      of None got some = absurd (cc)
      of (Some bytes) got some = dir_reached key bytes got

      by : IsSome (fin.get tree.dirs key) ⊎ IsChangedObject index.entries scan.paths key → Reached objects id key
      by (inl dir) = of (fin.get tree.dirs key) refl dir
      by (inr one) = subst (λ (k : Key). Reached objects id k) (sym one.is) (object_reached one.path one.blocks one.size one.seen one.changed one.some)

  block_reached : (key : Key) → has_key wanted.blocks key ≡ true → Reached objects id key
  block_reached key there =
      let one = changed key there in
      let block = one.block in
      let some = bytes_some block.path block.blocks block.size block.seen block.id block.there in
      subst (λ (k : Key). Reached objects id k) (sym block.is)
      (names (fs_key (sha1 (file_text block.blocks block.size))) (block_key block.id) (object_reached block.path block.blocks block.size block.seen one.changed some)
      (ap (λ (r : Result FsObject TreeFault). is_in (named_by_fs r) (block_key block.id)) (object_read block.path block.blocks block.size block.seen one.changed some)
      ∙ in_block_keys block.blocks block.id block.there) refl)

  needed_all : All (λ (key : Key). ReachedFrom objects [] (commit_key id ∷ []) key) (keys_named front)
  needed_all = all_in_list (λ (key : Key). ReachedFrom objects [] (commit_key id ∷ []) key) (keys_named front) (λ key there. by key (named_is key there))
    where
      by : (key : Key) → IsUploaded key → Reached objects id key
      by key (inl commit) = subst (λ (k : Key). Reached objects id k) (sym commit) (commit_reached objects id)
      by key (inr (inl made)) = made_reached key made
      by key (inr (inr block)) = block_reached key block

  -- ---- and all that is reached is one of these, but for the files that are known

  made_dir : (i : List ℕ) → is_nil i ≡ false → IsNilOrMade tree.dirs i → has_key wanted.made (fs_key i) ≡ true
  made_dir i some (inl none) = absurd (true≢false (sym (ap is_nil none ∙ (bytes_decides nil nil).1 refl) ∙ some))
  made_dir i some (inr made) = of (fin.get tree.dirs (fs_key i)) refl made
    where
      of : (o : Option (List ℕ)) → fin.get tree.dirs (fs_key i) ≡ o → IsSome o → has_key wanted.made (fs_key i) ≡ true
      of None got some_there = absurd (true≢false (sym some_there))
      of (Some bytes) got some_there = ap is_some (tree.kept.kept (fs_key i) bytes got)

  -- what a directory tells of an entry; a file that is kept is known
  entry_uploaded : (path : PathV) (e : Dirent) → is_nil e.id ≡ false → fin.get tree.entries path ≡ Some (entry_of e) → is_directory_mode e.mode ≡ false
      → is_in (known_files index) (fs_key e.id) ≡ false → has_key wanted.made (fs_key e.id) ≡ true
  entry_uploaded path e some there plain fresh = of (fin.get scan.paths path) refl
    where
      told : Some (entry.File e.id e.mode e.mtime e.modifier e.size) ≡ option_map (offered_entry moment user (fin.get index.entries path)) (fin.get scan.paths path)
      told =
          sym (ap (λ (b : Bool). Some (if b then entry.Dir else entry.File e.id e.mode e.mtime e.modifier e.size)) plain) ∙ sym there ∙ tree.are path

      kept_known : (was : Option Known) (own_is : List ℕ) (size : ℕ) → fin.get index.entries path ≡ was → is_kept was own_is ≡ true
          → entry.File e.id e.mode e.mtime e.modifier e.size ≡ file_entry moment user was own_is size → is_in (known_files index) (fs_key e.id) ≡ true
      kept_known None own_is size at kept same = absurd (true≢false (sym kept))
      kept_known (Some known.Dir) own_is size at kept same = absurd (true≢false (sym kept))
      kept_known (Some (known.File fid its known_size mode mtime modifier)) own_is size at kept same =
          let own_entry : file_entry moment user (Some (known.File fid its known_size mode mtime modifier)) own_is size ≡ entry.File fid mode mtime modifier known_size = rw kept refl in
          let both : entry.File e.id e.mode e.mtime e.modifier e.size ≡ entry.File fid mode mtime modifier known_size = same ∙ own_entry in
          let one : e.id ≡ fid = cc in
          ap (λ (i : List ℕ). is_in (known_files index) (fs_key i)) one
          ∙ known_listed (fin.entries index.entries) path fid its known_size mode mtime modifier (sym (fin.get-entries index.entries path) ∙ at)

      own_made : (blocks : List (List ℕ)) (size : ℕ) → fin.get scan.paths path ≡ Some (seen.File blocks size) → is_kept (fin.get index.entries path) (own_id blocks size) ≡ false
          → e.id ≡ own_id blocks size → has_key wanted.made (fs_key e.id) ≡ true
      own_made blocks size at changed_is same = by (size == 0) refl
        where
          by : (b : Bool) → (size == 0) ≡ b → has_key wanted.made (fs_key e.id) ≡ true
          by true none =
              let zeros : e.id ≡ nil = same ∙ ap (λ (b : Bool). if b then nil else sha1 (file_text blocks size)) none in
              absurd (true≢false (sym (ap is_nil zeros ∙ (bytes_decides nil nil).1 refl) ∙ some))
          by false bytes =
              ap (λ (i : List ℕ). has_key wanted.made (fs_key i)) (same ∙ ap (λ (b : Bool). if b then nil else sha1 (file_text blocks size)) bytes)
              ∙ ((files path (seen.File blocks size) at changed_is).object bytes).there

      of_file : (blocks : List (List ℕ)) (size : ℕ) → fin.get scan.paths path ≡ Some (seen.File blocks size) → (b : Bool) → is_kept (fin.get index.entries path) (own_id blocks size) ≡ b
          → entry.File e.id e.mode e.mtime e.modifier e.size ≡ file_entry moment user (fin.get index.entries path) (own_id blocks size) size → has_key wanted.made (fs_key e.id) ≡ true
      of_file blocks size at true kept same = absurd (true≢false (sym (kept_known (fin.get index.entries path) (own_id blocks size) size refl kept same) ∙ fresh))
      of_file blocks size at false other same =
          let own_entry = changed_own moment user (fin.get index.entries path) (own_id blocks size) size other in
          let both : entry.File e.id e.mode e.mtime e.modifier e.size ≡ entry.File (own_id blocks size) own_entry.0 own_entry.1 user size = same ∙ own_entry.2 in
          let one : e.id ≡ own_id blocks size = cc in
          own_made blocks size at other one

      of : (o : Option Seen) → fin.get scan.paths path ≡ o → has_key wanted.made (fs_key e.id) ≡ true
      of None at = let none : Some (entry.File e.id e.mode e.mtime e.modifier e.size) ≡ None = told ∙ ap (option_map (offered_entry moment user (fin.get index.entries path))) at in absurd (cc)
      of (Some seen.Dir) at =
          let none : Some (entry.File e.id e.mode e.mtime e.modifier e.size) ≡ Some entry.Dir = told ∙ ap (option_map (offered_entry moment user (fin.get index.entries path))) at in
          absurd (cc)
      of (Some (seen.File blocks size)) at =
          let own_told : Some (entry.File e.id e.mode e.mtime e.modifier e.size) ≡ Some (file_entry moment user (fin.get index.entries path) (own_id blocks size) size)
          = told ∙ ap (option_map (offered_entry moment user (fin.get index.entries path))) at in
          let same : entry.File e.id e.mode e.mtime e.modifier e.size ≡ file_entry moment user (fin.get index.entries path) (own_id blocks size) size = cc in
          of_file blocks size at (is_kept (fin.get index.entries path) (own_id blocks size)) refl same

  dir_names : (above key : Key) (bytes : List ℕ) → fin.get tree.dirs above ≡ Some bytes → is_in (named_under objects above.kind above.id) key ≡ true → is_in (known_files index) key ≡ false → IsUploaded key
  dir_names above key bytes got there fresh =
      let mine = tree.named above bytes got in
      let dir = tree.texts.texts above bytes got in
      let above_is : above ≡ fs_key above.id = ap (λ (k : Kind). record { kind = k; id = above.id }) mine.is_fs in
      let kept : fin.get objects (fs_key above.id) ≡ Some bytes = ap (fin.get objects) (sym above_is) ∙ keeps.kept above bytes (tree.kept.kept above bytes got) in
      let read : fs_at objects above.id ≡ Ok (fs.Dir dir.dirents) = ap (fs_in (fs_key above.id)) kept ∙ ap (as_read (fs_key above.id)) dir.reads in
      let in_fs : is_in (named_by_fs (fs_at objects above.id)) key ≡ true = ap (λ (k : Kind). is_in (named_under objects k above.id) key) (sym mine.is_fs) ∙ there in
      let listed : is_in (entry_keys (in_name_order dir.dirents)) key ≡ true = ap (λ (r : Result FsObject TreeFault). is_in (named_by_fs r) key) (sym read) ∙ in_fs in
      let found = found_key (in_name_order dir.dirents) (apart_in_order dir.dirents) key listed in
      let here : entry_named found.e.name dir.dirents ≡ Some found.e = sym (named_in_order found.e.name dir.dirents) ∙ found.found in
      inr (inl (ap (has_key wanted.made) found.is ∙ of dir.path dir.dirents found.e found.some dir.reads here (sym (dir.told found.e.name) ∙ ap (option_map entry_of) here)
      (ap (is_in (known_files index)) (sym found.is) ∙ fresh) (is_directory_mode found.e.mode) refl))
    where
      of : (path : PathV) (dirents : List Dirent) (e : Dirent) → is_nil e.id ≡ false → fs_of bytes ≡ Ok (fs.Dir dirents) → entry_named e.name dirents ≡ Some e
          → fin.get tree.entries (path ++ e.name ∷ []) ≡ Some (entry_of e) → is_in (known_files index) (fs_key e.id) ≡ false → (b : Bool) → is_directory_mode e.mode ≡ b
          → has_key wanted.made (fs_key e.id) ≡ true
      of path dirents e some reads here told unknown true is_dir = made_dir e.id some (tree.texts.below above bytes got dirents reads e.name e here is_dir)
      of path dirents e some reads here told unknown false plain = entry_uploaded (path ++ e.name ∷ []) e some told plain unknown

  object_names : (above key : Key) → IsChangedObject index.entries scan.paths above → is_in (named_under objects above.kind above.id) key ≡ true → IsUploaded key
  object_names above key one there =
      let listed : is_in (block_keys one.blocks) key ≡ true
      = ap (λ (r : Result FsObject TreeFault). is_in (named_by_fs r) key) (sym (object_read one.path one.blocks one.size one.seen one.changed one.some))
      ∙ ap (λ (k : Key). is_in (named_under objects k.kind k.id) key) (sym one.is) ∙ there in
      let block = in_block_list one.blocks key listed in
      inr (inr (ap (has_key wanted.blocks) block.is ∙ (files one.path (seen.File one.blocks one.size) one.seen one.changed).all block.id block.there))

  commit_names : (key : Key) → is_in (named_under objects kind.Commit id) key ≡ true → IsUploaded key
  commit_names key there =
      let own_root = own_key_of root key (ap (λ (r : Result Commit TreeFault). is_in (named_by_commit r) key) (sym stored) ∙ there) in
      inr (inl (ap (has_key wanted.made) own_root.0 ∙ made_dir root own_root.1 tree.top))

  names_uploaded : (above key : Key) → IsUploaded above → is_in (named_under objects above.kind above.id) key ≡ true → is_in (known_files index) key ≡ false → IsUploaded key
  names_uploaded above key (inl commit) there fresh = commit_names key (ap (λ (k : Key). is_in (named_under objects k.kind k.id) key) (sym commit) ∙ there)
  names_uploaded above key (inr (inl made)) there fresh = by (tree.others above made)
    where
      of : (o : Option (List ℕ)) → fin.get tree.dirs above ≡ o → IsSome o → IsUploaded key
      of None got some = absurd (cc)
      of (Some bytes) got some = dir_names above key bytes got there fresh

      by : IsSome (fin.get tree.dirs above) ⊎ IsChangedObject index.entries scan.paths above → IsUploaded key
      by (inl dir) = of (fin.get tree.dirs above) refl dir
      by (inr one) = object_names above key one there
  names_uploaded above key (inr (inr block)) there fresh =
      let mine = (changed above block).block in
      absurd (true≢false (sym there ∙ ap (λ (k : Key). is_in (named_under objects k.kind k.id) key) mine.is))

  reached_uploaded : (key : Key) → ReachedFrom objects (known_files index) (commit_key id ∷ []) key → IsUploaded key
  reached_uploaded _ (pends key there) = inl (in_one (commit_key id) key there)
  reached_uploaded _ (names above key reached there fresh) = names_uploaded above key (reached_uploaded above reached) there fresh

  whole_all : (key : Key) → ReachedFrom objects (known_files index) (commit_key id ∷ []) key → is_in (keys_named front) key ≡ true
  whole_all key reached = is_named key (reached_uploaded key reached)

  pub upload_of : IsUploadOf objects index front id
  upload_of = record { needed = needed_all; whole = whole_all }
