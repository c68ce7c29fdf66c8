-- The tree of the files of a push: what its entries stand for, and that the root alone lists directories. The key lemmas are seen_files,
-- flat_files, flat_sound and stored_keeps.
use Rattle.std.proofs.Common.{◌≡◌, ◌≢◌, ℕ, ◌+◌, Bool, true, false, cond, if◌then◌else◌, List, [], ◌∷◌, ◌++◌, append-nil, refl, sym, ap, ap₂, ◌∙◌, subst, Option, None, Some, is_some, IsSome, Ok, true≢false}
use Rattle.std.specs.Prelude.{All, codes, length, min, option_map, pos, unwrap_or, ⊤}
use Rattle.std.specs.FinMap as map
use Rattle.std.proofs.lemmas.List.Elements.{All-cons, All-head, All-nil, All-tail}
use Rattle.sha1.specs.Sha1.{sha1}
use Rattle.fs_objects.specs.FsObject.{fs_of}
use Rattle.fs_objects.specs.Mode.{is_file_mode}
use Rattle.fs_objects.specs.declared.fs_object.FsObject.TheVariants as fs
use Rattle.ids.specs.Key.{Objects}
use Rattle.ids.specs.ObjectId.{nil}
use Rattle.object_graph.specs.Objects.{as_read, block_key, blocks_of, contents_of, fs_at, fs_in, fs_key, is_nil, joined, node_of}
use Rattle.object_graph.specs.Unchanged.{Keeps}
use Rattle.object_graph.specs.declared.entry.Entry.{Entry}
use Rattle.object_graph.specs.declared.entry.Entry.TheVariants as entry
use Rattle.library_rules.proofs.MemberLemmas.{same_id-true}
use Rattle.tree_merge.specs.Sides.{Entries, IsSeen}
use Rattle.tree_merge.specs.TreeBuilding.{IsSound}
use Rattle.tree_merge.proofs.TableLemmas.{get-put}
use Rattle.tree_model.proofs.ListedLemmas.{same_path, same_path-itself, same_path-true}
use Rattle.tree_model.specs.Path.{PathV, path_cmp}
use Rattle.tree_model.specs.Tree.{Tree}
use Rattle.tree_model.specs.declared.node.Node.{Node}
use Rattle.tree_model.specs.declared.node.Node.TheVariants as node
use Rattle.generated_library.specs.Directories.{FlatAt, HasFileMode, IsFlat}
use Rattle.generated_library.specs.Filled.{AreStored, IsFileStored, entries_of, file_entry, file_id, file_object, file_text, with_entries, with_entry}
use Rattle.generated_library.specs.Generated.{dir_name, file_name, tree_of, with_file, with_files}

-- ---- what is stored of a file

not_nil : (id : List ℕ) → id ≢ nil → is_nil id ≡ false
not_nil id other = by (is_nil id) refl
  where
    by : (b : Bool) → is_nil id ≡ b → is_nil id ≡ false
    by true is = absurd (other (same_id-true id nil is))
    by false is = is

-- the blocks that are read under an id
blocks_read : (id bytes : List ℕ) (o : Option (List ℕ)) → o ≡ Some bytes → (block : List ℕ) (size : ℕ) → fs_of bytes ≡ Ok (fs.File (record { blocks = block ∷ []; size = size }))
    → blocks_of (fs_in (fs_key id) o) ≡ block ∷ []
blocks_read id bytes o there block size reads =
    ap (λ (x : Option (List ℕ)). blocks_of (fs_in (fs_key id) x)) there ∙ ap (λ r. blocks_of (as_read (fs_key id) r)) reads

pub file_contents : (objects : Objects) (bytes : List ℕ) → IsFileStored objects bytes → contents_of objects (file_id bytes) ≡ bytes
file_contents objects bytes stored =
    let listed = blocks_read (file_id bytes) (file_text bytes) (map.get objects (fs_key (file_id bytes))) stored.file (sha1 bytes) (length bytes) stored.reads in
    ap (λ (b : Bool). joined objects (if b then [] else blocks_of (fs_at objects (file_id bytes)))) (not_nil (file_id bytes) stored.some.1)
    ∙ (ap (joined objects) listed ∙ (ap (λ (o : Option (List ℕ)). unwrap_or o [] ++ []) stored.block ∙ append-nil bytes))

pub file_keeps : (old new : Objects) (bytes : List ℕ) → Keeps old new → IsFileStored old bytes → IsFileStored new bytes
file_keeps old new bytes keeps stored = record {
  block = keeps.kept (block_key (sha1 bytes)) bytes stored.block;
  file = keeps.kept (fs_key (file_id bytes)) (file_text bytes) stored.file;
  reads = stored.reads;
  some = stored.some;
}

pub stored_keeps : (old new : Objects) (files : List (List ℕ)) → Keeps old new → AreStored old files → AreStored new files
stored_keeps old new [] keeps stored = All-nil (IsFileStored new)
stored_keeps old new (bytes ∷ files) keeps stored =
    All-cons (IsFileStored new) bytes files (file_keeps old new bytes keeps (All-head (IsFileStored old) bytes files stored))
    (stored_keeps old new files keeps (All-tail (IsFileStored old) bytes files stored))

-- ---- what the entries stand for

node_of_file : (objects : Objects) (moment : ℕ) (bytes : List ℕ) → IsFileStored objects bytes
    → node_of objects (file_entry moment bytes) ≡ node.File (record { mode = 33188; mtime = pos (min moment 9223372036854775807); modifier = codes "make"; bytes = bytes })
node_of_file objects moment bytes stored =
    ap (λ (held : List ℕ). node.File (record { mode = 33188; mtime = pos (min moment 9223372036854775807); modifier = codes "make"; bytes = held })) (file_contents objects bytes stored)

-- one path more in both
seen_put : (objects : Objects) (entries : Entries) (tree : Tree) (p : PathV) (e : Entry) (n : Node) → n ≡ node_of objects e → IsSeen objects entries tree
    → IsSeen objects (map.insert entries p e) (map.insert tree p n)
seen_put objects entries tree p e n is seen path =
    get-put tree p n path ∙ (by (same_path path p) ∙ ap (option_map (node_of objects)) (sym (get-put entries p e path)))
  where
    by : (b : Bool) → cond b (Some n) (map.get tree path) ≡ option_map (node_of objects) (cond b (Some e) (map.get entries path))
    by true = ap Some is
    by false = seen path

seen_file : (objects : Objects) (moment number : ℕ) (bytes : List ℕ) (entries : Entries) (tree : Tree) → IsFileStored objects bytes → IsSeen objects entries tree
    → IsSeen objects (with_entry moment number bytes entries) (with_file moment number bytes tree)
seen_file objects moment number bytes entries tree stored seen =
    seen_put objects (map.insert entries (dir_name number ∷ []) entry.Dir) (map.insert tree (dir_name number ∷ []) node.Dir) (dir_name number ∷ file_name number ∷ []) (file_entry moment bytes)
    (node.File (record { mode = 33188; mtime = pos (min moment 9223372036854775807); modifier = codes "make"; bytes = bytes })) (sym (node_of_file objects moment bytes stored))
    (seen_put objects entries tree (dir_name number ∷ []) entry.Dir node.Dir refl seen)

seen_more : (objects : Objects) (moment number : ℕ) (files : List (List ℕ)) (entries : Entries) (tree : Tree) → AreStored objects files → IsSeen objects entries tree
    → IsSeen objects (with_entries moment number files entries) (with_files moment number files tree)
seen_more objects moment number [] entries tree stored seen = seen
seen_more objects moment number (bytes ∷ files) entries tree stored seen =
    seen_more objects moment (number + 1) files (with_entry moment number bytes entries) (with_file moment number bytes tree) (All-tail (IsFileStored objects) bytes files stored)
    (seen_file objects moment number bytes entries tree (All-head (IsFileStored objects) bytes files stored) seen)

pub seen_files : (objects : Objects) (moment : ℕ) (files : List (List ℕ)) → AreStored objects files → IsSeen objects (entries_of moment files) (tree_of moment files)
seen_files objects moment files stored = seen_more objects moment 0 files map.empty map.empty stored
    (λ path. map.get-empty {X = Node} path_cmp path ∙ ap (option_map (node_of objects)) (sym (map.get-empty {X = Entry} path_cmp path)))

-- ---- the root alone lists directories, and so the entries are sound

flat_empty : IsFlat map.empty
flat_empty = record { at = λ path e is. absurd (none e (sym (map.get-empty {X = Entry} path_cmp path) ∙ is)) }
  where
    none : (e : Entry) → None ≡ Some e → ⊥
    none e is = cc

-- a directory more at the top
flat_dir : (entries : Entries) (d : List ℕ) → IsFlat entries → IsFlat (map.insert entries (d ∷ []) entry.Dir)
flat_dir entries d flat = record { at = λ path e is. by path e (same_path path (d ∷ [])) (same_path-true path (d ∷ [])) (sym (get-put entries (d ∷ []) entry.Dir path) ∙ is) }
  where
    still : (c : List ℕ) → map.get entries (c ∷ []) ≡ Some entry.Dir → map.get (map.insert entries (d ∷ []) entry.Dir) (c ∷ []) ≡ Some entry.Dir
    still c there = get-put entries (d ∷ []) entry.Dir (c ∷ []) ∙ or_there (same_path (c ∷ []) (d ∷ []))
      where
        or_there : (b : Bool) → cond b (Some entry.Dir) (map.get entries (c ∷ [])) ≡ Some entry.Dir
        or_there true = refl
        or_there false = there

    move : (path : PathV) (e : Entry) → FlatAt entries path e → FlatAt (map.insert entries (d ∷ []) entry.Dir) path e
    move [] e none = none
    move (c ∷ []) e is = is
    move (c ∷ f ∷ []) e (above, file) = (still c above, file)
    move (c ∷ f ∷ g ∷ path) e none = none

    here : (path : PathV) (e : Entry) → path ≡ d ∷ [] → Some entry.Dir ≡ Some e → FlatAt (map.insert entries (d ∷ []) entry.Dir) path e
    here path e same is =
        let dir : e ≡ entry.Dir = cc in
        subst (λ (p : PathV). FlatAt (map.insert entries (d ∷ []) entry.Dir) p e) (sym same) dir

    by : (path : PathV) (e : Entry) (b : Bool) → (b ≡ true → path ≡ d ∷ []) → cond b (Some entry.Dir) (map.get entries path) ≡ Some e
        → FlatAt (map.insert entries (d ∷ []) entry.Dir) path e
    by path e true same is = here path e (same refl) is
    by path e false same is = move path e (flat.at path e is)

-- a file more in a directory
flat_file : (entries : Entries) (d f : List ℕ) (file : Entry) → HasFileMode file → map.get entries (d ∷ []) ≡ Some entry.Dir → IsFlat entries
    → IsFlat (map.insert entries (d ∷ f ∷ []) file)
flat_file entries d f file mode above flat = record { at = λ path e is. by path e (same_path path (d ∷ f ∷ [])) (same_path-true path (d ∷ f ∷ [])) (sym (get-put entries (d ∷ f ∷ []) file path) ∙ is) }
  where
    longer : (c : List ℕ) → c ∷ [] ≡ d ∷ f ∷ [] → ⊥
    longer c is = cc

    still : (c : List ℕ) → map.get entries (c ∷ []) ≡ Some entry.Dir → map.get (map.insert entries (d ∷ f ∷ []) file) (c ∷ []) ≡ Some entry.Dir
    still c there = get-put entries (d ∷ f ∷ []) file (c ∷ []) ∙ or_there (same_path (c ∷ []) (d ∷ f ∷ [])) (same_path-true (c ∷ []) (d ∷ f ∷ []))
      where
        or_there : (b : Bool) → (b ≡ true → c ∷ [] ≡ d ∷ f ∷ []) → cond b (Some file) (map.get entries (c ∷ [])) ≡ Some entry.Dir
        or_there true same = absurd (longer c (same refl))
        or_there false same = there

    move : (path : PathV) (e : Entry) → FlatAt entries path e → FlatAt (map.insert entries (d ∷ f ∷ []) file) path e
    move [] e none = none
    move (c ∷ []) e is = is
    move (c ∷ g ∷ []) e (there, is) = (still c there, is)
    move (c ∷ g ∷ h ∷ path) e none = none

    here : (path : PathV) (e : Entry) → path ≡ d ∷ f ∷ [] → Some file ≡ Some e → FlatAt (map.insert entries (d ∷ f ∷ []) file) path e
    here path e same is =
        let own : file ≡ e = cc in
        subst (λ (p : PathV). FlatAt (map.insert entries (d ∷ f ∷ []) file) p e) (sym same) (still d above, subst HasFileMode own mode)

    by : (path : PathV) (e : Entry) (b : Bool) → (b ≡ true → path ≡ d ∷ f ∷ []) → cond b (Some file) (map.get entries path) ≡ Some e
        → FlatAt (map.insert entries (d ∷ f ∷ []) file) path e
    by path e true same is = here path e (same refl) is
    by path e false same is = move path e (flat.at path e is)

flat_entry : (moment number : ℕ) (bytes : List ℕ) (entries : Entries) → IsFlat entries → IsFlat (with_entry moment number bytes entries)
flat_entry moment number bytes entries flat =
    flat_file (map.insert entries (dir_name number ∷ []) entry.Dir) (dir_name number) (file_name number)
    (file_entry moment bytes) refl
    (get-put entries (dir_name number ∷ []) entry.Dir (dir_name number ∷ []) ∙ ap (λ (b : Bool). cond b (Some entry.Dir) (map.get entries (dir_name number ∷ []))) (same_path-itself (dir_name number ∷ [])))
    (flat_dir entries (dir_name number) flat)

flat_more : (moment number : ℕ) (files : List (List ℕ)) (entries : Entries) → IsFlat entries → IsFlat (with_entries moment number files entries)
flat_more moment number [] entries flat = flat
flat_more moment number (bytes ∷ files) entries flat = flat_more moment (number + 1) files (with_entry moment number bytes entries) (flat_entry moment number bytes entries flat)

-- what is flat is sound
pub flat_sound : (entries : Entries) → IsFlat entries → IsSound entries
flat_sound entries flat = record {
  no_root = top (map.get entries []) refl;
  in_dirs = λ dir name other there. below dir name other (map.get entries (dir ++ name ∷ [])) refl there;
  modes = λ path file is. mode path (entry.File file.id file.mode file.mtime file.modifier file.size) (flat.at path (entry.File file.id file.mode file.mtime file.modifier file.size) is);
}
  where
    top : (o : Option Entry) → map.get entries [] ≡ o → map.get entries [] ≡ None
    top None is = is
    top (Some e) is = absurd (flat.at [] e is)

    above : (dir : PathV) (name : List ℕ) (e : Entry) → dir ≢ [] → FlatAt entries (dir ++ name ∷ []) e → map.get entries dir ≡ Some entry.Dir
    above [] name e other at = absurd (other refl)
    above (d ∷ []) name e other at = at.0
    above (d ∷ f ∷ []) name e other at = absurd at
    above (d ∷ f ∷ g ∷ dir) name e other at = absurd at

    below : (dir : PathV) (name : List ℕ) → dir ≢ [] → (o : Option Entry) → map.get entries (dir ++ name ∷ []) ≡ o → IsSome (map.get entries (dir ++ name ∷ [])) → map.get entries dir ≡ Some entry.Dir
    below dir name other None is there = absurd (none (map.get entries (dir ++ name ∷ [])) is there)
      where
        none : (o : Option Entry) → o ≡ None → IsSome o → ⊥
        none None is some = true≢false (sym some)
        none (Some e) is some = cc
    below dir name other (Some e) is there = above dir name e other (flat.at (dir ++ name ∷ []) e is)

    -- of a file, that its mode is a file's
    IsRight : Entry → Type 0
    IsRight entry.Dir = ⊤
    IsRight (entry.File id mode mtime modifier size) = is_file_mode mode ≡ true

    right : (e : Entry) → HasFileMode e → IsRight e
    right entry.Dir none = absurd none
    right (entry.File id mode mtime modifier size) is = ap is_file_mode is

    mode : (path : PathV) (e : Entry) → FlatAt entries path e → IsRight e
    mode [] e at = absurd at
    mode (d ∷ []) e is = subst IsRight (sym is) tt
    mode (d ∷ f ∷ []) e at = right e at.1
    mode (d ∷ f ∷ g ∷ path) e at = absurd at

pub flat_files : (moment : ℕ) (files : List (List ℕ)) → IsFlat (entries_of moment files)
flat_files moment files = flat_more moment 0 files map.empty flat_empty
