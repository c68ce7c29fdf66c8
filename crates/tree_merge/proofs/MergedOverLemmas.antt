-- A merge from its parts, of which some directories are kept by their ids. The key lemmas are is_merged, taken_built and taken_stored.
use Rattle.std.proofs.Common.{◌≡◌, ◌≤◌, ℕ, Bool, true, false, if◌then◌else◌, is_some, IsSome, List, [], ◌∷◌, ◌++◌, refl, sym, ap, ◌∙◌, subst, Option, None, Some, Ok, option_map, option_and_then, arith, inl, inr, true≢false}
use Rattle.std.specs.FinMap as map
use Rattle.std.specs.Cmp.Lexicographic.{bytes_decides}
use Rattle.ids.specs.Key.{Objects}
use Rattle.ids.specs.ObjectId.{nil}
use Rattle.ids.specs.declared.key.Key.{Key}
use Rattle.tree_model.specs.Path.{PathV}
use Rattle.tree_model.specs.Tree.{Tree, Fits, is_dir}
use Rattle.tree_model.specs.DirectorySurvival.{Sides}
use Rattle.tree_model.specs.ThreeWayMerge.{merged}
use Rattle.tree_model.proofs.FirstOfLemmas.{in_order}
use Rattle.tree_model.proofs.ResultTreeLemmas.{merge_fits}
use Rattle.fs_objects.specs.Mode.{is_directory_mode}
use Rattle.fs_objects.specs.declared.dirent.Dirent.{Dirent}
use Rattle.fs_objects.specs.declared.fs_object.FsObject.TheVariants as fs
use Rattle.conflict_names.specs.Naming.{naming}
use Rattle.conflict_names.proofs.GoodNameLemmas.{naming-naming}
use Rattle.object_graph.specs.Objects.{AreEntriesOf, as_read, directory_in, dirents_at, entries_of, entry_named, entry_of, fs_at, fs_in, fs_key, is_nil, node_of}
use Rattle.object_graph.specs.Traversal.{IsCompleteRoot, is_in, start, walk_root}
use Rattle.object_graph.specs.Unchanged.{Keeps}
use Rattle.object_graph.specs.declared.entry.Entry.{Entry}
use Rattle.tree_merge.specs.ConflictNaming.{IsNamedTree}
use Rattle.tree_merge.specs.Decision.{AreWholeIn}
use Rattle.tree_merge.specs.FileChoice.{IsWholeIf}
use Rattle.tree_merge.specs.FileEntry.{as_entry, file_in}
use Rattle.tree_merge.specs.Merging.{AreComplete, AreLeft, IsBuiltOver, IsDirectoryIn, IsMerged, IsStoredOther, IsTaken, zeros, stored, another}
use Rattle.tree_merge.specs.Sides.{Entries, IsSeen}
use Rattle.tree_merge.specs.Telling.{IsWhole}
use Rattle.tree_merge.specs.TreeBuilding.{AreDirectoriesOver, IsClash, IsDirectoryText, IsNilMadeOrKept, IsNilOrMade, IsSound, directory_id_in}
use Rattle.tree_merge.specs.declared.conflict_copies.Named.{Named}
use Rattle.tree_merge.specs.declared.file_entry.FileEntry.{FileEntry}
use Rattle.tree_merge.specs.declared.merging.Merged.{Merged}
use Rattle.tree_merge.proofs.CompleteRootLemmas.{IsReadable, StandsWell, completes, fine_below}
use Rattle.tree_merge.proofs.JoinedSideLemmas.{AreTreesOf, fits, same_some}
use Rattle.tree_merge.proofs.ListedPathLemmas.{listed_few}
use Rattle.tree_merge.proofs.MadeLemmas.{not_nil}
use Rattle.tree_merge.proofs.MergedEntryLemmas.{few, here, sound}
use Rattle.tree_merge.proofs.UnstoredLemmas.{kept_left}
use Rattle.tree_merge.proofs.VisitedLemmas.{directory_visited}
use Rattle.tree_merge.proofs.WholeLemmas.{complete_kept, whole_kept}
use Rattle.tree_merge.proofs.ListedBelowLemmas.{complete_at}
use Rattle.tree_merge.proofs.WholeSideLemmas.{complete_directory}

-- ---- directories that were made, among more objects

module _ (entries : Entries) (K : PathV → Option (List ℕ)) (made more : Objects) (dirs : AreDirectoriesOver K entries made) (keeps : Keeps made more) where
  -- the object under an id that was made
  pub read_made : (id bytes : List ℕ) → map.get made (fs_key id) ≡ Some bytes → (text : IsDirectoryText entries bytes) → fs_at more id ≡ Ok (fs.Dir text.dirents)
  read_made id bytes there text =
      ap (fs_in (fs_key id)) (keeps.kept (fs_key id) bytes there) ∙ ap (as_read (fs_key id)) text.reads

  readable : (id : List ℕ) → IsNilOrMade made id → IsReadable more id
  readable id (inl is) = inl ((bytes_decides id nil).1 is)
  readable id (inr has) = by (map.get made (fs_key id)) refl has
    where
      by : (o : Option (List ℕ)) → map.get made (fs_key id) ≡ o → IsSome o → IsReadable more id
      by None there some = cc some
      by (Some bytes) there some = let text = dirs.texts (fs_key id) bytes there in inr (text.dirents, read_made id bytes there text)

  -- the directories that one lists were made too
  pub entry_made : (id : List ℕ) → IsNilOrMade made id → (name i : List ℕ) → directory_in (entry_named name (dirents_at more id)) ≡ Some i → IsNilMadeOrKept K made i
  entry_made id known name i = by (is_nil id) refl known
    where
      of_entry : (o : Option Dirent) → ((e : Dirent) → o ≡ Some e → is_directory_mode e.mode ≡ true → IsNilMadeOrKept K made e.id) → directory_in o ≡ Some i → IsNilMadeOrKept K made i
      of_entry None listed is = cc is
      of_entry (Some e) listed is = kind (is_directory_mode e.mode) refl is
        where
          kind : (b : Bool) → is_directory_mode e.mode ≡ b → (if b then Some e.id else None) ≡ Some i → IsNilMadeOrKept K made i
          kind true dir same = let one : e.id ≡ i = cc in subst (IsNilMadeOrKept K made) one (listed e refl dir)
          kind false dir same = cc same

      of_made : (o : Option (List ℕ)) → map.get made (fs_key id) ≡ o → IsSome o → directory_in (entry_named name (entries_of (fs_at more id))) ≡ Some i → IsNilMadeOrKept K made i
      of_made None there some is = cc some
      of_made (Some bytes) there some is =
          let text = dirs.texts (fs_key id) bytes there in
          of_entry (entry_named name text.dirents) (λ e found dir. dirs.below (fs_key id) bytes there text.dirents text.reads name e found dir)
          (ap (λ r. directory_in (entry_named name (entries_of r))) (sym (read_made id bytes there text)) ∙ is)

      by : (b : Bool) → is_nil id ≡ b → IsNilOrMade made id → directory_in (entry_named name (if b then [] else entries_of (fs_at more id))) ≡ Some i → IsNilMadeOrKept K made i
      by true nothing own is = cc is
      by false other (inl zeros_id) is = absurd (true≢false (sym ((bytes_decides id nil).1 zeros_id) ∙ other))
      by false other (inr has) is = of_made (map.get made (fs_key id)) refl has is

  -- and those that are kept
  module _ (kept_whole : (d : PathV) (id : List ℕ) → K d ≡ Some id → IsCompleteRoot more id) where
    known_readable : (id : List ℕ) → IsNilMadeOrKept K made id → IsReadable more id
    known_readable id (inl own) = readable id own
    known_readable id (inr kept) = complete_directory more id (kept_whole kept.0 id kept.1)

    -- each directory below one that was made or kept can be read
    ids_readable : (q : PathV) (id : List ℕ) → IsNilMadeOrKept K made id → (i : List ℕ) → directory_id_in more (dirents_at more id) q ≡ Some i → IsReadable more i
    ids_readable q id (inr kept) i is = complete_directory more i (complete_at more id (kept_whole kept.0 id kept.1) q i is)
    ids_readable [] id (inl own) i is = cc is
    ids_readable (name ∷ []) id (inl own) i is = known_readable i (entry_made id own name i is)
    ids_readable (name ∷ next ∷ q) id (inl own) i is = by (directory_in (entry_named name (dirents_at more id))) refl is (ids_readable (next ∷ q))
      where
        by : (o : Option (List ℕ)) → directory_in (entry_named name (dirents_at more id)) ≡ o → option_and_then (λ j. directory_id_in more (dirents_at more j) (next ∷ q)) o ≡ Some i
            → ((id : List ℕ) → IsNilMadeOrKept K made id → (i : List ℕ) → directory_id_in more (dirents_at more id) (next ∷ q) ≡ Some i → IsReadable more i) → IsReadable more i
        by None found there rest = cc there
        by (Some below) found there rest = rest below (entry_made id own name below found) i there

-- ---- the directories of the tree

-- a table of entries has nothing exactly where its tree has nothing
nodes_none : (objects : Objects) (entries : Entries) (tree : Tree) → IsSeen objects entries tree → (q : PathV) → map.get entries q ≡ None → map.get tree q ≡ None
nodes_none objects entries tree seen q none = seen q ∙ ap (option_map (node_of objects)) none

entries_none : (objects : Objects) (entries : Entries) (tree : Tree) → IsSeen objects entries tree → (q : PathV) → map.get tree q ≡ None → map.get entries q ≡ None
entries_none objects entries tree seen q none = unmapped (map.get entries q) (sym (seen q) ∙ none)
  where
    unmapped : (o : Option Entry) → option_map (node_of objects) o ≡ None → o ≡ None
    unmapped None is = refl
    unmapped (Some x) is = cc

text_in : (objects : Objects) (entries : Entries) (tree : Tree) → IsSeen objects entries tree → (bytes : List ℕ) → IsDirectoryText entries bytes → IsDirectoryIn objects tree bytes
text_in objects entries tree seen bytes text = record {
  path = text.path;
  is_dir = elim text.is_dir [ inl root ↦ inl root | inr dir ↦ inr (ap is_dir (seen text.path) ∙ ap (λ (o : Option Entry). is_dir (option_map (node_of objects) o)) dir) ];
  entries = text.dirents;
  reads = text.reads;
  some = text.some;
  nodes = λ name.
      seen (text.path ++ name ∷ []) ∙ ap (option_map (node_of objects)) (sym (text.told name)) ∙ both (entry_named name text.dirents);
  zeros = λ name e found dir.
      let own = text.zeros name e found dir in (
        λ is k. nodes_none objects entries tree seen ((text.path ++ name ∷ []) ++ k ∷ []) (own.0 is k),
        λ none. own.1 (λ k. entries_none objects entries tree seen ((text.path ++ name ∷ []) ++ k ∷ []) (none k)),
      );
}
  where
    both : (o : Option Dirent) → option_map (node_of objects) (option_map entry_of o) ≡ option_map (λ e. node_of objects (entry_of e)) o
    both None = refl
    both (Some e) = refl

module _ (objects : Objects) (base head pushed : List ℕ) (complete : AreComplete objects base head pushed) (s : Sides) (are : AreTreesOf objects base head pushed s) (named : Named)
    (told : (more : Objects) → Keeps objects more → IsNamedTree more s named) where
  seen_here : IsSeen objects named.nodes (merged naming s)
  seen_here = (here objects base head pushed complete s are named told).nodes

  is_sound : IsSound named.nodes
  is_sound = sound objects base head pushed complete s are named told

  merged_fits : map.len named.nodes ≤ 1000000 → Fits (merged naming s)
  merged_fits bound =
      merge_fits naming s.base s.head s.pushed (merged naming s) naming-naming
      (fits objects base s.base complete.base_whole are.of_base) (fits objects head s.head complete.head_whole are.of_head) (fits objects pushed s.pushed complete.pushed_whole are.of_pushed)
      (few objects base head pushed complete s are named told bound)

  -- ---- what was made, but for what is stored

  module _ (K : PathV → Option (List ℕ)) (kept_whole : (d : PathV) (id : List ℕ) → K d ≡ Some id → IsCompleteRoot objects id) (built : Merged) (is : IsBuiltOver objects K named built) (left : Objects) (are_left : AreLeft objects built.made left) (whole : AreWholeIn objects named.nodes) where
    left_or_stored : (more : Objects) → Keeps objects more → Keeps left more → Keeps built.made more
    left_or_stored = kept_left objects built.made left are_left

    new_left : (key : Key) (o : Option (List ℕ)) → map.get left key ≡ (if is_some o then None else map.get built.made key) → IsSome (map.get left key) → o ≡ None
    new_left key None left_is some = refl
    new_left key (Some other) left_is some = absurd (true≢false (sym some ∙ ap is_some left_is))

    made_left : (key : Key) (o p : Option (List ℕ)) → map.get left key ≡ (if is_some o then None else map.get built.made key) → map.get left key ≡ p → IsSome p → map.get built.made key ≡ p
    made_left key None p left_is at some = sym left_is ∙ at
    made_left key (Some other) p left_is at some = absurd (true≢false (sym some ∙ ap is_some (sym at ∙ left_is)))

    dirs_built : AreDirectoriesOver K named.nodes built.made
    dirs_built = is.dirs.0

    whole_below : (more : Objects) → Keeps objects more → (o : Option Entry) (file : FileEntry) → IsWholeIf objects (file_in o) → o ≡ Some (as_entry file) → IsWhole more file.id
    whole_below more keeps o file own there = whole_kept objects more keeps file.id (subst (λ (x : Option Entry). IsWholeIf objects (file_in x)) there own)

    well : (more : Objects) → Keeps objects more → Keeps left more → StandsWell more 100 built.root
    well more keeps also =
        let all = left_or_stored more keeps also in
        let whole_more : (d : PathV) (id : List ℕ) → K d ≡ Some id → IsCompleteRoot more id = λ d id at. complete_kept objects more keeps id (kept_whole d id at) in
        let at : AreEntriesOf more built.root named.nodes = is.value more keeps all in
        record {
          readable = known_readable named.nodes K built.made more dirs_built all whole_more built.root is.dirs.1;
          deep = λ q x there.
              (merged_fits is.few).depth q (ap is_some (seen_here q) ∙ same_some (node_of objects) (map.get named.nodes q) ∙ ap is_some (at q ∙ there));
          dirs = λ q i there. ids_readable named.nodes K built.made more dirs_built all whole_more q built.root is.dirs.1 i there;
          files = λ q file there. whole_below more keeps (map.get named.nodes q) file (whole q) (at q ∙ there);
        }

    complete_left : (more : Objects) → Keeps objects more → Keeps left more → IsCompleteRoot more built.root
    complete_left more keeps also =
        let at : AreEntriesOf more built.root named.nodes = is.value more keeps (left_or_stored more keeps also) in
        let count = listed_few more 100 built.root named.nodes at in
        completes more 100 [] built.root start (fine_below more 100 built.root (well more keeps also)) refl (omega (arith, count, is.few))

    needed_left : (key : Key) (p : Option (List ℕ)) → map.get left key ≡ p → IsSome p → (more : Objects) → Keeps objects more → Keeps left more → is_in (walk_root true more built.root start).visits key ≡ true
    needed_left key None at some more keeps also = cc some
    needed_left key (Some bytes) at some more keeps also =
        let there : map.get built.made key ≡ Some bytes = made_left key (map.get objects key) (Some bytes) (are_left.is key) at refl in
        let own = is.names key bytes there in
        let same : key ≡ fs_key key.id = ap (λ k. record { kind = k; id = key.id }) own.is_fs in
        ap (is_in (walk_root true more built.root start).visits) same
        ∙ directory_visited more built.root (complete_left more keeps also) key.id (not_nil key.id own.some)
        (is.needed key.id own.some (ap (λ k. is_some (map.get built.made k)) (sym same) ∙ ap is_some there) more keeps (left_or_stored more keeps also))

    pub is_merged : IsMerged objects s (record { root = built.root; made = left; conflicts = built.conflicts })
    is_merged = record {
      tree = merged naming s;
      is = few objects base head pushed complete s are named told is.few;
      root = λ more keeps also path.
          (told more keeps).nodes path ∙ ap (option_map (node_of more)) (is.value more keeps (left_or_stored more keeps also) path);
      complete = complete_left;
      zeros = (
        λ root_is q. nodes_none objects named.nodes (merged naming s) seen_here q (is.zeros.0 root_is q),
        λ none. is.zeros.1 (λ q. entries_none objects named.nodes (merged naming s) seen_here q (none q)),
      );
      conflicts = is.conflicts ∙ in_order naming s named.copies (here objects base head pushed complete s are named told).copies;
      new = λ key some. new_left key (map.get objects key) (are_left.is key) some;
      needed = λ key some. needed_left key (map.get left key) refl some;
      dirs = λ key bytes there.
          text_in objects named.nodes (merged naming s) seen_here bytes
          (dirs_built.texts key bytes (made_left key (map.get objects key) (Some bytes) (are_left.is key) there refl));
    }

  -- ---- a directory that can't be stored

  pub taken_built : (id : List ℕ) → map.len named.nodes ≤ 1000000 → IsClash named.nodes id → IsTaken objects s id
  taken_built id bound clash = record {
    tree = merged naming s;
    is = few objects base head pushed complete s are named told bound;
    bytes = clash.bytes;
    own = clash.own;
    within = text_in objects named.nodes (merged naming s) seen_here clash.bytes clash.text;
    clash = elim clash.clash [ inl none ↦ zeros none | inr other ↦ another other.0 (text_in objects named.nodes (merged naming s) seen_here other.0 other.3) other.2 other.1 ];
  }

  pub taken_stored : (K : PathV → Option (List ℕ)) (built : Merged) → IsBuiltOver objects K named built → (id : List ℕ) → IsStoredOther objects built.made id → IsTaken objects s id
  taken_stored K built is id found =
      let own = is.names found.key found.bytes found.there in
      let same : found.key ≡ fs_key id = ap (λ k. record { kind = k; id = found.key.id }) own.is_fs ∙ ap fs_key (sym found.own) in
      record {
        tree = merged naming s;
        is = few objects base head pushed complete s are named told is.few;
        bytes = found.bytes;
        own = found.own ∙ own.is_sha1;
        within = text_in objects named.nodes (merged naming s) seen_here found.bytes (is.dirs.0.texts found.key found.bytes found.there);
        clash = stored found.other.0 (ap (map.get objects) (sym same) ∙ found.other.1) found.other.2;
      }
