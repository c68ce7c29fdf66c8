-- The entries of a merged directory, put together of its own and of those below them. The key lemmas are get_whole, whole_seen,
-- whole_sound, part_shown, text_above and taken_above.
use Rattle.std.proofs.Common.{◌≡◌, ◌≢◌, ℕ, ◌&&◌, Bool, true, false, if◌then◌else◌, List, [], ◌∷◌, ◌++◌, refl, sym, ap, ◌∙◌, subst, Option, Some, None, IsSome, is_some, option_map, true≢false, ◌⊎◌, inl, inr}
use Rattle.std.specs.FinMap as map
use Rattle.ids.specs.Key.{Objects}
use Rattle.ids.specs.ObjectId.{nil}
use Rattle.ids.proofs.BasicLemmas.{none_from_option_map}
use Rattle.tree_model.specs.declared.node.FileVersion.{FileVersion}
use Rattle.tree_model.specs.declared.node.Node.{Node}
use Rattle.tree_model.specs.Path.{PathV, path_cmp}
use Rattle.tree_model.specs.Tree.{Tree, file_at, file_of, has_dir, is_dir}
use Rattle.tree_model.specs.DirectorySurvival.{Sides, stays}
use Rattle.tree_model.specs.ConflictCopies.{told as told_over}
use Rattle.tree_model.specs.MergeParts.{AreParts, IsLevel, MergesBelow, MergesHere}
use Rattle.tree_model.specs.ThreeWayMerge.{merged}
use Rattle.tree_model.proofs.ListedLemmas.{get-told, is_in}
use Rattle.tree_model.proofs.MergedAtLemmas.{from_side}
use Rattle.tree_model.proofs.OneLevelLemmas.{IsSingle, merges_here, tree_top}
use Rattle.tree_model.proofs.PartLemmas.{merges_below, some_merged}
use Rattle.tree_model.proofs.ResultTreeLemmas.{in_dirs_merged, no_root_merged}
use Rattle.conflict_names.specs.Naming.{naming}
use Rattle.conflict_names.proofs.GoodNameLemmas.{naming-naming}
use Rattle.fs_objects.specs.Mode.{is_file_mode}
use Rattle.fs_objects.specs.declared.dirent.Dirent.{Dirent}
use Rattle.object_graph.specs.Objects.{AreEntriesOf, dirents_at, entry_in, entry_named, entry_of, node_of}
use Rattle.object_graph.specs.Unchanged.{Keeps}
use Rattle.object_graph.specs.declared.entry.Entry.{Entry}
use Rattle.object_graph.specs.declared.entry.Entry.TheVariants.{Dir}
use Rattle.tree_merge.specs.Decision.{AreWholeIn}
use Rattle.tree_merge.specs.DirectoryMerge.{AreSidesOf, IsSideOf}
use Rattle.tree_merge.specs.FileChoice.{IsWholeIf}
use Rattle.tree_merge.specs.FileEntry.{file_in, version_of}
use Rattle.tree_merge.specs.LevelMerge.{IsTakenBelow}
use Rattle.tree_merge.specs.Sides.{AreTrees, Entries, IsSeen}
use Rattle.tree_merge.specs.TreeBuilding.{AreThere, Given, IsDirectoryText, IsNilWhereEmpty, IsShownPart, IsSound, kept_ids}
use Rattle.tree_merge.specs.declared.opening.Ids.{Ids}
use Rattle.tree_merge.specs.declared.opening.Kept.{Kept}
use Rattle.tree_merge.proofs.DirentLemmas.{same_name-itself}
use Rattle.tree_merge.proofs.MadeLemmas.{kept_itself}
use Rattle.tree_merge.proofs.MergedEntryLemmas.{dir_back, side_mode}
use Rattle.tree_merge.proofs.SideLemmas.{none_in}
use Rattle.tree_merge.proofs.SoundEntryLemmas.{above, below_none}

-- what a file's mode is, on a side
side_mode_if : (objects : Objects) (o : Option (List ℕ)) (t : Tree) → IsSideOf objects o t → (path : PathV) (version : FileVersion) → file_at t path ≡ Some version → is_file_mode version.mode ≡ true
side_mode_if objects None t is path version there =
    let both : None ≡ Some version = sym (ap file_of (is path ∙ ap (option_map (node_of objects)) (none_in objects path))) ∙ there in cc
side_mode_if objects (Some id) t is path version there = side_mode objects id t is path version there

module _ (objects : Objects) (ids : Ids) (s l : Sides) (c : List ℕ → Sides) (are : AreSidesOf objects ids s) (trees : AreTrees s) (parts : (n : List ℕ) → AreParts (n ∷ []) s (c n)) (survives : List ℕ → Bool) (level : IsLevel s l survives)
    (nodes : Entries) (E : List ℕ → Entries) (told : (more : Objects) → Keeps objects more → IsSeen more nodes (merged naming l))
    (seen : (n : List ℕ) (more : Objects) → Keeps objects more → IsSeen more (E n) (merged naming (c n))) (sound : (n : List ℕ) → IsSound (E n)) where
  below : (n : List ℕ) → MergesBelow naming (n ∷ []) s (c n)
  below n = merges_below naming naming-naming s (c n) (n ∷ []) (parts n) trees.base trees.head trees.pushed

  here : MergesHere naming s l
  here = merges_here naming naming-naming s l survives level trees.base trees.head trees.pushed

  -- ---- all entries

  abbrev pub entry_at : PathV → Option Entry
  entry_at [] = None
  entry_at (n ∷ []) = map.get nodes (n ∷ [])
  entry_at (n ∷ m ∷ r) = map.get (E n) (m ∷ r)

  abbrev pub whole_entries : Entries
  whole_entries = map.from_entries {R = path_cmp} (told_over entry_at (map.keys (merged naming s)))

  seen_at : (more : Objects) → Keeps objects more → (q : PathV) → map.get (merged naming s) q ≡ option_map (node_of more) (entry_at q)
  seen_at more keeps [] = no_root_merged naming naming-naming s trees.base trees.head trees.pushed
  seen_at more keeps (n ∷ []) = sym (here.nodes n) ∙ told more keeps (n ∷ [])
  seen_at more keeps (n ∷ m ∷ r) = sym ((below n).nodes m r) ∙ seen n more keeps (m ∷ r)

  pub get_whole : (q : PathV) → map.get whole_entries q ≡ entry_at q
  get_whole q = get-told entry_at (map.keys (merged naming s)) q ∙ by (is_in q (map.keys (merged naming s))) refl
    where
      nothing : (o : Option Node) → map.get (merged naming s) q ≡ o → is_some o ≡ false → None ≡ entry_at q
      nothing None is out = sym (none_from_option_map (node_of objects) (entry_at q) (sym (seen_at objects (kept_itself objects) q) ∙ is))
      nothing (Some x) is out = absurd (true≢false out)

      by : (b : Bool) → is_in q (map.keys (merged naming s)) ≡ b → (if b then entry_at q else None) ≡ entry_at q
      by true known = refl
      by false out = nothing (map.get (merged naming s) q) refl (map.contains_key-keys (merged naming s) q ∙ out)

  pub whole_seen : (more : Objects) → Keeps objects more → IsSeen more whole_entries (merged naming s)
  whole_seen more keeps q = seen_at more keeps q ∙ ap (option_map (node_of more)) (sym (get_whole q))

  mapped : (o : Option Entry) → is_some (option_map (node_of objects) o) ≡ is_some o
  mapped None = refl
  mapped (Some x) = refl

  pub whole_sound : IsSound whole_entries
  whole_sound = record {
    no_root = get_whole [];
    in_dirs = λ dir name other some.
        dir_back objects (map.get whole_entries dir)
        (ap is_dir (sym (whole_seen objects (kept_itself objects) dir))
        ∙ in_dirs_merged naming naming-naming s trees.base trees.head trees.pushed dir name other
        (ap is_some (whole_seen objects (kept_itself objects) (dir ++ name ∷ [])) ∙ mapped (map.get whole_entries (dir ++ name ∷ [])) ∙ some));
    modes = λ path file there.
        let from = from_side naming naming-naming s path (version_of objects file) (whole_seen objects (kept_itself objects) path ∙ ap (option_map (node_of objects)) there) in
        elim from.side [
          | inl is ↦ side_mode_if objects ids.head s.head are.head from.from (version_of objects file) is
          | inr is ↦ side_mode_if objects ids.pushed s.pushed are.pushed from.from (version_of objects file) is
        ];
  }

  pub whole_files : AreWholeIn objects nodes → ((n : List ℕ) → AreWholeIn objects (E n)) → AreWholeIn objects whole_entries
  whole_files own more q = subst (λ (o : Option Entry). IsWholeIf objects (file_in o)) (sym (get_whole q)) (by q)
    where
      by : (q : PathV) → IsWholeIf objects (file_in (entry_at q))
      by [] = tt
      by (n ∷ []) = own (n ∷ [])
      by (n ∷ m ∷ r) = more n (m ∷ r)

  -- ---- the entries of the directory itself

  nodes_root : map.get nodes [] ≡ None
  nodes_root = by (map.get nodes []) (sym (told objects (kept_itself objects) []) ∙ root_none)
    where
      root_none : map.get (merged naming l) [] ≡ None
      root_none =
          no_root_merged naming naming-naming l (tree_top (λ n. survives n && has_dir s.base (n ∷ [])) s.base l.base level.base trees.base) (tree_top (λ n. false) s.head l.head level.head trees.head)
          (tree_top (λ n. false) s.pushed l.pushed level.pushed trees.pushed)

      by : (o : Option Entry) → option_map (node_of objects) o ≡ None → o ≡ None
      by o e = none_from_option_map (node_of objects) o e

  pub nodes_deep : (n m : List ℕ) (r : PathV) → map.get nodes (n ∷ m ∷ r) ≡ None
  nodes_deep n m r = none_from_option_map (node_of objects) (map.get nodes (n ∷ m ∷ r)) (sym (told objects (kept_itself objects) (n ∷ m ∷ r)) ∙ here.nothing n m r)

  pub nodes_single : (q : PathV) → IsSome (map.get nodes q) → IsSingle q
  nodes_single [] some = absurd (true≢false (sym some ∙ ap is_some nodes_root))
  nodes_single (n ∷ []) some = (n, refl)
  nodes_single (n ∷ m ∷ r) some = absurd (true≢false (sym some ∙ ap is_some (nodes_deep n m r)))

  nodes_sound : IsSound nodes
  nodes_sound = record {
    no_root = nodes_root;
    in_dirs = λ dir name other some. absurd (deeper dir name other some);
    modes = λ path file there. let one = nodes_single path (ap is_some there) in
        whole_sound.modes path file (ap (map.get whole_entries) one.1 ∙ get_whole (one.0 ∷ []) ∙ ap (map.get nodes) (sym one.1) ∙ there);
  }
    where
      deeper : (dir : PathV) (name : List ℕ) → dir ≢ [] → IsSome (map.get nodes (dir ++ name ∷ [])) → ⊥
      deeper [] name other some = other refl
      deeper (n ∷ []) name other some = true≢false (sym some ∙ ap is_some (nodes_deep n name []))
      deeper (n ∷ m ∷ r) name other some = true≢false (sym some ∙ ap is_some (nodes_deep n m (r ++ name ∷ [])))

  -- ---- what is left below them

  module _ (K : map.FinMap path_cmp Kept) (kept_single : (q : PathV) → IsSome (map.get K q) → IsSingle q) (is_left : (n : List ℕ) → is_some (map.get K (n ∷ [])) ≡ stays (c n) []) where
    id_of : (q : PathV) (id : List ℕ) → kept_ids K q ≡ Some id → (n : List ℕ) × ((q ≡ n ∷ []) × ((part : Kept) × (map.get K (n ∷ []) ≡ Some part) × (part.id ≡ id)))
    id_of q id is = by (map.get K q) refl is
      where
        by : (o : Option Kept) → map.get K q ≡ o → option_map (λ (own : Kept). own.id) o ≡ Some id → (n : List ℕ) × ((q ≡ n ∷ []) × ((part : Kept) × (map.get K (n ∷ []) ≡ Some part) × (part.id ≡ id)))
        by None there e = cc e
        by (Some part) there e =
            let one = kept_single q (ap is_some there) in
            let same : part.id ≡ id = cc in
            (one.0, (one.1, (part, ap (map.get K) (sym one.1) ∙ there, same)))

    -- where nothing is left below an entry, nothing stands below it
    pub gone_below : (n : List ℕ) → map.get K (n ∷ []) ≡ None → (m : List ℕ) (r : PathV) → map.get whole_entries (n ∷ m ∷ r) ≡ None
    gone_below n none m r =
        get_whole (n ∷ m ∷ r)
        ∙ none_from_option_map (node_of objects) (map.get (E n) (m ∷ r)) (sym (seen n objects (kept_itself objects) (m ∷ r)) ∙ (below n).nothing (sym (is_left n) ∙ ap is_some none) (m ∷ r))

    -- where something is, a directory stands
    pub left_stands : (n : List ℕ) → IsSome (map.get K (n ∷ [])) → map.get nodes (n ∷ []) ≡ Some Dir
    left_stands n some =
        let found = some_merged naming naming-naming (c n) (sym (is_left n) ∙ some) in
        sym (get_whole (n ∷ [])) ∙ by found.0 (ap is_some (sym (seen n objects (kept_itself objects) found.0)) ∙ found.1)
      where
        by : (q : PathV) → is_some (option_map (node_of objects) (map.get (E n) q)) ≡ true → map.get whole_entries (n ∷ []) ≡ Some Dir
        by [] there = absurd (true≢false (sym there ∙ ap (λ (o : Option Entry). is_some (option_map (node_of objects) o)) (sound n).no_root))
        by (m ∷ r) there =
            above whole_entries whole_sound (n ∷ []) m r (λ e. cc) (ap is_some (get_whole (n ∷ m ∷ r)) ∙ sym (mapped (map.get (E n) (m ∷ r))) ∙ there)

    -- what the builder is told, among objects in which each part that is left has its entries
    module _ (given : Given) (value : (n : List ℕ) (part : Kept) → map.get K (n ∷ []) ≡ Some part → (more : Objects) → AreThere given more → AreEntriesOf more part.id (E n))
        (zeros : (n : List ℕ) (part : Kept) → map.get K (n ∷ []) ≡ Some part → (part.id ≡ nil) → (q : PathV) → map.get (E n) q ≡ None)
        (zeros_back : (n : List ℕ) (part : Kept) → map.get K (n ∷ []) ≡ Some part → ((q : PathV) → map.get (E n) q ≡ None) → part.id ≡ nil) where
      pub part_shown : IsShownPart given (kept_ids K) whole_entries nodes
      part_shown = record {
        sound = whole_sound;
        nodes = nodes_sound;
        top = top (map.get K []) refl;
        shown = λ path some. let one = nodes_single path some in ap (map.get nodes) one.1 ∙ sym (get_whole (one.0 ∷ [])) ∙ ap (map.get whole_entries) (sym one.1);
        none = none;
        stands = λ dir id is. let own = id_of dir id is in ap (map.get nodes) own.1.0 ∙ left_stands own.0 (ap is_some own.1.1.1);
        hidden = hidden;
        below = λ dir id is more keeps name path.
            let own = id_of dir id is in
            sym (ap (λ (i : List ℕ). entry_in more (dirents_at more i) (name ∷ path)) own.1.1.2)
            ∙ sym (value own.0 own.1.1.0 own.1.1.1 more keeps (name ∷ path)) ∙ sym (get_whole (own.0 ∷ name ∷ path))
            ∙ ap (λ (d : PathV). map.get whole_entries (d ++ name ∷ path)) (sym own.1.0);
        some = λ dir id is.
            let own = id_of dir id is in
            subst (λ (d : PathV). IsNilWhereEmpty whole_entries d id) (sym own.1.0) (
              (λ e name. get_whole (own.0 ∷ name ∷ []) ∙ zeros own.0 own.1.1.0 own.1.1.1 (own.1.1.2 ∙ e) (name ∷ [])),
              (λ all. sym own.1.1.2 ∙ zeros_back own.0 own.1.1.0 own.1.1.1 (each own.0 (λ name. sym (get_whole (own.0 ∷ name ∷ [])) ∙ all name))),
            );
      }
        where
          top : (o : Option Kept) → map.get K [] ≡ o → kept_ids K [] ≡ None
          top None is = ap (option_map (λ (own : Kept). own.id)) is
          top (Some part) is = let one = kept_single [] (ap is_some is) in let both : [] ≡ one.0 ∷ [] = one.1 in cc

          -- nothing at the entries is nothing below them
          each : (n : List ℕ) → ((name : List ℕ) → map.get (E n) (name ∷ []) ≡ None) → (q : PathV) → map.get (E n) q ≡ None
          each n all [] = (sound n).no_root
          each n all (name ∷ r) = below_none (E n) (sound n) [] name r (all name)

          no_id : (q : PathV) → kept_ids K q ≡ None → map.get K q ≡ None
          no_id q is = none_from_option_map (λ (own : Kept). own.id) (map.get K q) is

          none : (dir : PathV) (name : List ℕ) (path : PathV) → (dir ≡ []) ⊎ IsSome (map.get nodes dir) → kept_ids K dir ≡ None → map.get nodes (dir ++ name ∷ []) ≡ None
              → map.get whole_entries (dir ++ name ∷ path) ≡ None
          none [] name path waits open_here away = below_none whole_entries whole_sound [] name path (get_whole (name ∷ []) ∙ away)
          none (n ∷ []) name path waits open_here away = gone_below n (no_id (n ∷ []) open_here) name path
          none (n ∷ m ∷ r) name path (inl root) open_here away = cc root
          none (n ∷ m ∷ r) name path (inr some) open_here away = absurd (true≢false (sym some ∙ ap is_some (nodes_deep n m r)))

          hidden : (dir : PathV) (name : List ℕ) → IsSome (kept_ids K dir) → map.get nodes (dir ++ name ∷ []) ≡ None
          hidden dir name some = by (kept_ids K dir) refl some
            where
              by : (o : Option (List ℕ)) → kept_ids K dir ≡ o → IsSome o → map.get nodes (dir ++ name ∷ []) ≡ None
              by None is there = cc there
              by (Some id) is there =
                  let own = id_of dir id is in
                  ap (λ (d : PathV). map.get nodes (d ++ name ∷ [])) own.1.0 ∙ nodes_deep own.0 name []

    -- ---- texts of directories below are those of directories of the whole

    -- behind a name stands what is told of it there
    behind : (n : List ℕ) (p : PathV) (name : List ℕ) → map.get whole_entries (n ∷ (p ++ name ∷ [])) ≡ map.get (E n) (p ++ name ∷ [])
    behind n [] name = get_whole (n ∷ name ∷ [])
    behind n (k ∷ p) name = get_whole (n ∷ k ∷ (p ++ name ∷ []))

    pub text_above : (n : List ℕ) (bytes : List ℕ) → IsDirectoryText (E n) bytes → IsDirectoryText whole_entries bytes
    text_above n bytes text = record {
      path = n ∷ text.path;
      is_dir = inr (is_dir_there text.path text.is_dir);
      dirents = text.dirents;
      reads = text.reads;
      some = text.some;
      told = λ name. text.told name ∙ sym (behind n text.path name);
      zeros = λ name e found dir.
          let own = text.zeros name e found dir in (
            (λ is k. twice n text.path name k ∙ own.0 is k),
            (λ all. own.1 (λ k. sym (twice n text.path name k) ∙ all k)),
          );
    }
      where
        twice : (n : List ℕ) (p : PathV) (name k : List ℕ) → map.get whole_entries ((n ∷ (p ++ name ∷ [])) ++ k ∷ []) ≡ map.get (E n) ((p ++ name ∷ []) ++ k ∷ [])
        twice n [] name k = get_whole (n ∷ name ∷ k ∷ [])
        twice n (j ∷ p) name k = get_whole (n ∷ j ∷ ((p ++ name ∷ []) ++ k ∷ []))

        -- it lists something, so the entry is a directory
        listed : (ds : List Dirent) → ds ≢ [] → ((name : List ℕ) → option_map entry_of (entry_named name ds) ≡ map.get (E n) (text.path ++ name ∷ [])) → map.get whole_entries (n ∷ []) ≡ Some Dir
        listed [] other told_of = absurd (other refl)
        listed (e ∷ ds) other told_of =
            let first : entry_named e.name (e ∷ ds) ≡ Some e = ap (λ (b : Bool). if b then Some e else entry_named e.name ds) (same_name-itself e.name) in
            let there : IsSome (map.get (E n) (text.path ++ e.name ∷ [])) = ap is_some (sym (told_of e.name) ∙ ap (option_map entry_of) first) in
            at text.path e.name there
          where
            at : (p : PathV) (name : List ℕ) → IsSome (map.get (E n) (p ++ name ∷ [])) → map.get whole_entries (n ∷ []) ≡ Some Dir
            at [] name there = above whole_entries whole_sound (n ∷ []) name [] (λ e. cc) (ap is_some (get_whole (n ∷ name ∷ [])) ∙ there)
            at (k ∷ p) name there = above whole_entries whole_sound (n ∷ []) k (p ++ name ∷ []) (λ e. cc) (ap is_some (get_whole (n ∷ k ∷ (p ++ name ∷ []))) ∙ there)

        is_dir_there : (p : PathV) → (p ≡ []) ⊎ (map.get (E n) p ≡ Some Dir) → map.get whole_entries (n ∷ p) ≡ Some Dir
        is_dir_there [] is = listed text.dirents text.some text.told
        is_dir_there (k ∷ p) (inl root) = cc root
        is_dir_there (k ∷ p) (inr dir) = get_whole (n ∷ k ∷ p) ∙ dir

    -- what can't be taken of a part can't of the whole
    pub taken_above : (n id : List ℕ) (made : Objects) → IsTakenBelow (E n) made id → IsTakenBelow whole_entries made id
    taken_above n id made taken = record {
      bytes = taken.bytes;
      own = taken.own;
      text = text_above n taken.bytes taken.text;
      clash = elim taken.clash [
        | inl zeros ↦ inl zeros
        | inr other ↦ inr (other.0, other.1, elim other.2 [ inl text ↦ inl (text.0, text_above n other.0 text.1) | inr there ↦ inr there ])
      ];
    }
