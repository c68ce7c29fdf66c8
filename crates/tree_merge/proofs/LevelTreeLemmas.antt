-- The table of one level's entries tells three trees. The key lemmas are level_seen, level_is and whole_joined.
use Rattle.std.proofs.Common.{◌≡◌, ℕ, ◌||◌, ◌&&◌, Bool, true, false, if◌then◌else◌, List, [], ◌∷◌, refl, sym, ap, ap₂, ◌∙◌, subst, Option, Some, None, IsSome, is_some, option_map, true≢false}
use Rattle.std.specs.FinMap as map
use Rattle.ids.specs.Key.{Objects}
use Rattle.tree_model.specs.declared.node.Node.{Node}
use Rattle.tree_model.specs.declared.node.Node.TheVariants as tree_node
use Rattle.tree_model.specs.Path.{PathV, path_cmp}
use Rattle.tree_model.specs.Tree.{Tree, has_dir, is_dir}
use Rattle.tree_model.specs.DirectorySurvival.{Sides, kept_dir, stays}
use Rattle.tree_model.specs.ConflictCopies.{in_trees, told}
use Rattle.tree_model.specs.MergeParts.{IsLevel}
use Rattle.tree_model.proofs.ListedLemmas.{get-told, is_in}
use Rattle.tree_model.proofs.OneLevelLemmas.{IsSingle, tree_top}
use Rattle.fs_objects.specs.declared.dirent.Dirent.{Dirent}
use Rattle.object_graph.specs.Objects.{entry_named, entry_of, node_of}
use Rattle.object_graph.specs.Unchanged.{Keeps}
use Rattle.object_graph.specs.declared.entry.Entry.{Entry}
use Rattle.object_graph.specs.declared.entry.Entry.TheVariants.{Dir, File}
use Rattle.tree_merge.specs.DirectoryMerge.{AreSidesOf}
use Rattle.tree_merge.specs.FileChoice.{IsWholeAt, IsWholeIf}
use Rattle.tree_merge.specs.FileEntry.{file_in, is_directory}
use Rattle.tree_merge.specs.Opening.{base_over, dirents_if}
use Rattle.tree_merge.specs.Sides.{AreSeenIn, AreTrees, base_in, head_in, pushed_in}
use Rattle.tree_merge.specs.declared.level.Trio.{Trio}
use Rattle.tree_merge.specs.declared.opening.Ids.{Ids}
use Rattle.tree_merge.specs.declared.opening.Kept.{Kept}
use Rattle.tree_merge.specs.declared.sides.Three.{Three}
use Rattle.tree_merge.proofs.JoinedSideLemmas.{same_some}
use Rattle.tree_merge.proofs.SideLemmas.{trio_of}
use Rattle.tree_merge.proofs.TellingLemmas.{contents_kept}

-- the entries of a name in the table, if there are any
abbrev pub three_given : Bool → Trio → Three
three_given survives trio = record { base = base_over survives trio.base; head = option_map entry_of trio.head; pushed = option_map entry_of trio.pushed }

abbrev pub join_over : Bool → Trio → Option Three
join_over survives trio = if is_some trio.base || (is_some trio.head || is_some trio.pushed) then Some (three_given survives trio) else None

-- a file that is whole is the same version among more objects
node_kept : (objects more : Objects) → Keeps objects more → (o : Option Entry) → IsWholeIf objects (file_in o) → option_map (node_of objects) o ≡ option_map (node_of more) o
node_kept objects more keeps None whole = refl
node_kept objects more keeps (Some Dir) whole = refl
node_kept objects more keeps (Some (File id mode mtime modifier size)) whole =
    ap (λ (bytes : List ℕ). Some (tree_node.File (record { mode = mode; mtime = mtime; modifier = modifier; bytes = bytes }))) (sym (contents_kept objects more keeps id whole))

module _ (objects : Objects) (ids : Ids) (s : Sides) (are : AreSidesOf objects ids s) (joined : map.FinMap path_cmp Three) (part : List ℕ → Option Kept)
    (at : (n : List ℕ) → map.get joined (n ∷ []) ≡ join_over (is_some (part n)) (trio_of objects ids n)) (single : (q : PathV) → IsSome (map.get joined q) → IsSingle q)
    (files : (n : List ℕ) → IsWholeIf objects (file_in (option_map entry_of (entry_named n (dirents_if objects ids.base)))) × IsWholeIf objects (file_in (option_map entry_of (entry_named n (dirents_if objects ids.head))))
    × IsWholeIf objects (file_in (option_map entry_of (entry_named n (dirents_if objects ids.pushed)))))
    (some_other : (n : List ℕ) → is_some (part n) ≡ true → (is_some (entry_named n (dirents_if objects ids.head)) || is_some (entry_named n (dirents_if objects ids.pushed))) ≡ true) where
  -- ---- the three trees

  abbrev node : (Option Three → Option Entry) → PathV → Option Node
  node of q = option_map (node_of objects) (of (map.get joined q))

  abbrev tree : (Option Three → Option Entry) → Tree
  tree of = map.from_entries {R = path_cmp} (told (node of) (map.keys joined))

  get_tree : (of : Option Three → Option Entry) → of None ≡ None → (q : PathV) → map.get (tree of) q ≡ node of q
  get_tree of none q = get-told (node of) (map.keys joined) q ∙ by (is_in q (map.keys joined)) (map.get joined q) refl refl
    where
      by : (b : Bool) (o : Option Three) → is_in q (map.keys joined) ≡ b → map.get joined q ≡ o → (if b then node of q else None) ≡ node of q
      by true o known is = refl
      by false None known is = sym (ap (λ (x : Option Three). option_map (node_of objects) (of x)) is ∙ ap (option_map (node_of objects)) none)
      by false (Some x) known is = absurd (true≢false (sym (ap is_some is) ∙ map.contains_key-keys joined q ∙ known))

  abbrev pub level : Sides
  level = record { base = tree base_in; head = tree head_in; pushed = tree pushed_in }

  -- ---- what the table has

  deep_none : (n m : List ℕ) (r : PathV) → map.get joined (n ∷ m ∷ r) ≡ None
  deep_none n m r = by (map.get joined (n ∷ m ∷ r)) refl
    where
      by : (o : Option Three) → map.get joined (n ∷ m ∷ r) ≡ o → map.get joined (n ∷ m ∷ r) ≡ None
      by None is = is
      by (Some x) is = let one = single (n ∷ m ∷ r) (ap is_some is) in let both : n ∷ m ∷ r ≡ one.0 ∷ [] = one.1 in cc

  root_none : map.get joined [] ≡ None
  root_none = by (map.get joined []) refl
    where
      by : (o : Option Three) → map.get joined [] ≡ o → map.get joined [] ≡ None
      by None is = is
      by (Some x) is = let one = single [] (ap is_some is) in let both : [] ≡ one.0 ∷ [] = one.1 in cc

  none_all : (x y z : Option Dirent) (b : Bool) → (is_some x || (is_some y || is_some z)) ≡ b → b ≡ false → (x ≡ None) × (y ≡ None) × (z ≡ None)
  none_all None None None b is out = (refl, refl, refl)
  none_all (Some x) y z b is out = absurd (true≢false (is ∙ out))
  none_all None (Some y) z b is out = absurd (true≢false (is ∙ out))
  none_all None None (Some z) b is out = absurd (true≢false (is ∙ out))

  -- each side's entry of a name
  base_at : (n : List ℕ) → base_in (map.get joined (n ∷ [])) ≡ base_over (is_some (part n)) (entry_named n (dirents_if objects ids.base))
  base_at n = ap base_in (at n) ∙ by (entry_named n (dirents_if objects ids.base)) (is_some (entry_named n (dirents_if objects ids.head)) || is_some (entry_named n (dirents_if objects ids.pushed)))
    where
      none_over : (b : Bool) (o : Option Entry) → o ≡ (if b && false then None else o)
      none_over true o = refl
      none_over false o = refl

      by : (x : Option Dirent) (others : Bool)
          → base_in (if is_some x || others then Some (record { base = base_over (is_some (part n)) x; head = option_map entry_of (entry_named n (dirents_if objects ids.head)); pushed = option_map entry_of (entry_named n (dirents_if objects ids.pushed)) }) else None)
          ≡ base_over (is_some (part n)) x
      by (Some x) others = refl
      by None true = refl
      by None false = none_over (is_some (part n)) None

  head_at : (n : List ℕ) → head_in (map.get joined (n ∷ [])) ≡ option_map entry_of (entry_named n (dirents_if objects ids.head))
  head_at n = ap head_in (at n) ∙ by (entry_named n (dirents_if objects ids.base)) (entry_named n (dirents_if objects ids.head)) (entry_named n (dirents_if objects ids.pushed))
    where
      by : (x y z : Option Dirent) → head_in (join_over (is_some (part n)) (record { base = x; head = y; pushed = z })) ≡ option_map entry_of y
      by (Some x) y z = refl
      by None (Some y) z = refl
      by None None (Some z) = refl
      by None None None = refl

  pushed_at : (n : List ℕ) → pushed_in (map.get joined (n ∷ [])) ≡ option_map entry_of (entry_named n (dirents_if objects ids.pushed))
  pushed_at n = ap pushed_in (at n) ∙ by (entry_named n (dirents_if objects ids.base)) (entry_named n (dirents_if objects ids.head)) (entry_named n (dirents_if objects ids.pushed))
    where
      by : (x y z : Option Dirent) → pushed_in (join_over (is_some (part n)) (record { base = x; head = y; pushed = z })) ≡ option_map entry_of z
      by (Some x) y z = refl
      by None (Some y) z = refl
      by None None (Some z) = refl
      by None None None = refl

  -- ---- files are whole

  over_whole : (b : Bool) (o : Option Dirent) → IsWholeIf objects (file_in (option_map entry_of o)) → IsWholeIf objects (file_in (base_over b o))
  over_whole b o whole = by (b && is_directory (option_map entry_of o))
    where
      by : (c : Bool) → IsWholeIf objects (file_in (if c then None else option_map entry_of o))
      by true = tt
      by false = whole

  pub whole_joined : (q : PathV) → IsWholeAt objects (map.get joined q)
  whole_joined [] = subst (IsWholeAt objects) (sym root_none) tt
  whole_joined (n ∷ m ∷ r) = subst (IsWholeAt objects) (sym (deep_none n m r)) tt
  whole_joined (n ∷ []) =
      subst (IsWholeAt objects) (sym (at n)) (by (is_some (entry_named n (dirents_if objects ids.base)) || (is_some (entry_named n (dirents_if objects ids.head)) || is_some (entry_named n (dirents_if objects ids.pushed)))))
    where
      by : (b : Bool) → IsWholeAt objects (if b then Some (record {
        base = base_over (is_some (part n)) (entry_named n (dirents_if objects ids.base));
        head = option_map entry_of (entry_named n (dirents_if objects ids.head));
        pushed = option_map entry_of (entry_named n (dirents_if objects ids.pushed));
      }) else None)
      by true = (over_whole (is_some (part n)) (entry_named n (dirents_if objects ids.base)) (files n).0, (files n).1, (files n).2)
      by false = tt

  -- so are those of each side of the table
  side_whole : (of : Option Three → Option Entry) → of None ≡ None → ((x : Three) → IsWholeIf objects (file_in x.base) × IsWholeIf objects (file_in x.head) × IsWholeIf objects (file_in x.pushed) → IsWholeIf objects (file_in (of (Some x))))
      → (q : PathV) → IsWholeIf objects (file_in (of (map.get joined q)))
  side_whole of none pick q = by (map.get joined q) (whole_joined q)
    where
      by : (o : Option Three) → IsWholeAt objects o → IsWholeIf objects (file_in (of o))
      by None whole = subst (λ (o : Option Entry). IsWholeIf objects (file_in o)) (sym none) tt
      by (Some x) whole = pick x whole

  pub level_seen : AreSeenIn objects joined level
  level_seen more keeps = record {
    known = known;
    base = λ q. get_tree base_in refl q ∙ node_kept objects more keeps (base_in (map.get joined q)) (side_whole base_in refl (λ x whole. whole.0) q);
    head = λ q. get_tree head_in refl q ∙ node_kept objects more keeps (head_in (map.get joined q)) (side_whole head_in refl (λ x whole. whole.1) q);
    pushed = λ q. get_tree pushed_in refl q ∙ node_kept objects more keeps (pushed_in (map.get joined q)) (side_whole pushed_in refl (λ x whole. whole.2) q);
  }
    where
      parts : (n : List ℕ) → in_trees level (n ∷ [])
          ≡ (is_some (base_over (is_some (part n)) (entry_named n (dirents_if objects ids.base))) || (is_some (option_map entry_of (entry_named n (dirents_if objects ids.head))) || is_some (option_map entry_of (entry_named n (dirents_if objects ids.pushed)))))
      parts n =
          ap₂ ◌||◌ (ap is_some (get_tree base_in refl (n ∷ [])) ∙ same_some (node_of objects) (base_in (map.get joined (n ∷ []))) ∙ ap is_some (base_at n))
          (ap₂ ◌||◌ (ap is_some (get_tree head_in refl (n ∷ [])) ∙ same_some (node_of objects) (head_in (map.get joined (n ∷ []))) ∙ ap is_some (head_at n))
          (ap is_some (get_tree pushed_in refl (n ∷ [])) ∙ same_some (node_of objects) (pushed_in (map.get joined (n ∷ []))) ∙ ap is_some (pushed_at n)))

      -- a directory of base is left out only where head or pushed has an entry
      shape : (b d x y z : Bool) → (b ≡ true → (y || z) ≡ true) → ((if b && d then false else x) || (y || z)) ≡ (x || (y || z))
      shape false d x y z other = refl
      shape true false x y z other = refl
      shape true true true y z other = other refl
      shape true true false y z other = refl

      told_some : (b : Bool) (x : Three) → is_some (if b then Some x else None) ≡ b
      told_some true x = refl
      told_some false x = refl

      left : (c : Bool) (o : Option Entry) → is_some (if c then None else o) ≡ (if c then false else is_some o)
      left true o = refl
      left false o = refl

      at_entry : (n : List ℕ) → in_trees level (n ∷ []) ≡ is_some (map.get joined (n ∷ []))
      at_entry n =
          let x = entry_named n (dirents_if objects ids.base) in
          let y = entry_named n (dirents_if objects ids.head) in
          let z = entry_named n (dirents_if objects ids.pushed) in
          parts n
          ∙ ap₂ (λ (a b : Bool). a || b) (left (is_some (part n) && is_directory (option_map entry_of x)) (option_map entry_of x)
          ∙ ap (λ (b : Bool). if is_some (part n) && is_directory (option_map entry_of x) then false else b) (same_some entry_of x))
          (ap₂ ◌||◌ (same_some entry_of y) (same_some entry_of z))
          ∙ shape (is_some (part n)) (is_directory (option_map entry_of x)) (is_some x) (is_some y) (is_some z) (some_other n)
          ∙ sym (ap is_some (at n)
          ∙ told_some (is_some x || (is_some y || is_some z)) (record { base = base_over (is_some (part n)) x; head = option_map entry_of y; pushed = option_map entry_of z }))

      none_at : (q : PathV) → map.get joined q ≡ None → in_trees level q ≡ is_some (map.get joined q)
      none_at q none =
          ap₂ ◌||◌ (ap is_some (get_tree base_in refl q ∙ ap (λ (o : Option Three). option_map (node_of objects) (base_in o)) none))
          (ap₂ ◌||◌ (ap is_some (get_tree head_in refl q ∙ ap (λ (o : Option Three). option_map (node_of objects) (head_in o)) none))
          (ap is_some (get_tree pushed_in refl q ∙ ap (λ (o : Option Three). option_map (node_of objects) (pushed_in o)) none)))
          ∙ sym (ap is_some none)

      known : (q : PathV) → in_trees level q ≡ is_some (map.get joined q)
      known [] = none_at [] root_none
      known (n ∷ []) = at_entry n
      known (n ∷ m ∷ r) = none_at (n ∷ m ∷ r) (deep_none n m r)

  -- ---- they are those of one level

  pub level_is : ((n : List ℕ) → stays s (n ∷ []) ≡ (kept_dir s (n ∷ []) || is_some (part n))) → IsLevel s level (λ n. is_some (part n))
  level_is each = record {
    base = record {
      no_root = get_tree base_in refl [] ∙ ap (λ (o : Option Three). option_map (node_of objects) (base_in o)) root_none;
      here = λ n.
          get_tree base_in refl (n ∷ []) ∙ ap (option_map (node_of objects)) (base_at n) ∙ over (is_some (part n)) (option_map entry_of (entry_named n (dirents_if objects ids.base)))
          ∙ ap (λ (o : Option Node). if is_some (part n) && is_dir o then None else o) (sym (are.base (n ∷ [])));
      nothing = λ n m r. get_tree base_in refl (n ∷ m ∷ r) ∙ ap (λ (o : Option Three). option_map (node_of objects) (base_in o)) (deep_none n m r);
    };
    head = record {
      no_root = get_tree head_in refl [] ∙ ap (λ (o : Option Three). option_map (node_of objects) (head_in o)) root_none;
      here = λ n. get_tree head_in refl (n ∷ []) ∙ ap (option_map (node_of objects)) (head_at n) ∙ sym (are.head (n ∷ []));
      nothing = λ n m r. get_tree head_in refl (n ∷ m ∷ r) ∙ ap (λ (o : Option Three). option_map (node_of objects) (head_in o)) (deep_none n m r);
    };
    pushed = record {
      no_root = get_tree pushed_in refl [] ∙ ap (λ (o : Option Three). option_map (node_of objects) (pushed_in o)) root_none;
      here = λ n. get_tree pushed_in refl (n ∷ []) ∙ ap (option_map (node_of objects)) (pushed_at n) ∙ sym (are.pushed (n ∷ []));
      nothing = λ n m r. get_tree pushed_in refl (n ∷ m ∷ r) ∙ ap (λ (o : Option Three). option_map (node_of objects) (pushed_in o)) (deep_none n m r);
    };
    each = each;
  }
    where
      over : (b : Bool) (o : Option Entry) → option_map (node_of objects) (if b && is_directory o then None else o)
          ≡ (if b && is_dir (option_map (node_of objects) o) then None else option_map (node_of objects) o)
      over false o = refl
      over true None = refl
      over true (Some Dir) = refl
      over true (Some (File id mode mtime modifier size)) = refl

  -- and trees, if the whole ones are
  pub level_trees : IsLevel s level (λ n. is_some (part n)) → AreTrees s → AreTrees level
  level_trees is trees = record {
    base = tree_top (λ n. is_some (part n) && has_dir s.base (n ∷ [])) s.base level.base is.base trees.base;
    head = tree_top (λ n. false) s.head level.head is.head trees.head;
    pushed = tree_top (λ n. false) s.pushed level.pushed is.pushed trees.pushed;
  }
