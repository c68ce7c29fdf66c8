-- One level's entries are ready to be merged, once what lies below them is. The key lemmas are is_level, own_trees, seen_here and few_here.
use Rattle.std.proofs.Common.{◌≡◌, ◌≤◌, ◌||◌, Bool, true, false, if◌then◌else◌, ℕ, List, [], ◌∷◌, sym, ap, ap₂, ◌∙◌, arith, refl, Option, Some, None, is_some, option_map, true≢false, inl, inr}
use Rattle.std.proofs.lemmas.Bool.{or_right}
use Rattle.std.specs.FinMap as map
use Rattle.ids.specs.Key.{Objects}
use Rattle.tree_model.specs.Path.{PathV, path_cmp}
use Rattle.tree_model.specs.Tree.{is_dir}
use Rattle.tree_model.specs.DirectorySurvival.{Sides, kept_dir, stays}
use Rattle.tree_model.specs.ConflictCopies.{in_trees}
use Rattle.tree_model.specs.MergeParts.{AreParts, IsLevel, MergesBelow, MergesHere}
use Rattle.tree_model.proofs.NothingLostLemmas.{stays_in_either}
use Rattle.tree_model.proofs.OneLevelLemmas.{merges_here}
use Rattle.tree_model.proofs.PartLemmas.{merges_below}
use Rattle.conflict_names.specs.Naming.{naming}
use Rattle.conflict_names.proofs.GoodNameLemmas.{naming-naming}
use Rattle.fs_objects.specs.declared.dirent.Dirent.{Dirent}
use Rattle.object_graph.specs.Objects.{entry_named, entry_of, node_of}
use Rattle.tree_merge.specs.DirectoryMerge.{AreSidesOf}
use Rattle.tree_merge.specs.FileChoice.{IsWholeAt}
use Rattle.tree_merge.specs.Level.{IsEmpty}
use Rattle.tree_merge.specs.Opening.{AreWholeSides, dirents_if}
use Rattle.tree_merge.specs.Sides.{AreSeenIn, AreTrees}
use Rattle.tree_merge.specs.declared.level.Level.{Level}
use Rattle.tree_merge.specs.declared.opening.Ids.{Ids}
use Rattle.tree_merge.specs.declared.opening.Kept.{Kept}
use Rattle.tree_merge.specs.declared.opening.Opened.{Opened}
use Rattle.tree_merge.specs.declared.sides.Three.{Three}
use Rattle.tree_merge.specs.declared.work.Work.{Work}
use Rattle.tree_merge.proofs.DoneNameLemmas.{waits}
use Rattle.tree_merge.proofs.FirstNameLemmas.{are_below, below_name}
use Rattle.tree_merge.proofs.JoinedSideLemmas.{same_some}
use Rattle.tree_merge.proofs.LevelTreeLemmas.{join_over, level as level_trees_of, level_is, level_seen, level_trees, whole_joined}
use Rattle.tree_merge.proofs.PathLimitLemmas.{few_of_trees, paths_len}
use Rattle.tree_merge.proofs.SideLemmas.{parts_at, side_fits, side_trees, trio_of}
use Rattle.tree_merge.proofs.MergingSoLemmas.{MergingSo}
use Rattle.tree_merge.proofs.WholeSideLemmas.{files_at}

module _ (objects : Objects) (path : PathV) (ids : Ids) (room : ℕ) (whole : AreWholeSides objects room ids) (s : Sides) (are : AreSidesOf objects ids s) (level : Level) (opened : Opened) (old now : Work)
    (so : MergingSo objects path ids (below_name objects ids room whole) level opened old now) (empty : IsEmpty level) where
  abbrev pub c : List ℕ → Sides
  c = below_name objects ids room whole

  abbrev pub part_of : List ℕ → Option Kept
  part_of n = map.get opened.kept (n ∷ [])

  pub trees : AreTrees s
  trees = side_trees objects room ids whole s are

  pub gone : (n : List ℕ) → waits level n ≡ false
  gone n =
      ap₂ ◌||◌ (ap (λ m. is_some (map.get m (n ∷ []))) empty.base ∙ ap is_some (map.get-empty path_cmp (n ∷ [])))
      (ap₂ ◌||◌ (ap (λ m. is_some (map.get m (n ∷ []))) empty.head ∙ ap is_some (map.get-empty path_cmp (n ∷ [])))
      (ap (λ m. is_some (map.get m (n ∷ []))) empty.pushed ∙ ap is_some (map.get-empty path_cmp (n ∷ []))))

  pub parts : (n : List ℕ) → AreParts (n ∷ []) s (c n)
  parts n = parts_at objects ids n s (c n) are (are_below objects ids room whole n)

  pub below : (n : List ℕ) → MergesBelow naming (n ∷ []) s (c n)
  below n = merges_below naming naming-naming s (c n) (n ∷ []) (parts n) trees.base trees.head trees.pushed

  pub survives : (n : List ℕ) → is_some (part_of n) ≡ stays (c n) []
  survives n = so.survives n (gone n)

  pub each : (n : List ℕ) → stays s (n ∷ []) ≡ (kept_dir s (n ∷ []) || is_some (part_of n))
  each n = (below n).survives ∙ ap (λ (b : Bool). kept_dir s (n ∷ []) || b) (sym (survives n))

  pub at : (n : List ℕ) → map.get opened.joined (n ∷ []) ≡ join_over (is_some (part_of n)) (trio_of objects ids n)
  at n = so.joined n ∙ ap (λ (b : Bool). if b then None else join_over (is_some (part_of n)) (trio_of objects ids n)) (gone n)

  -- where something is left below, head or pushed has an entry
  pub some_other : (n : List ℕ) → is_some (part_of n) ≡ true → (is_some (entry_named n (dirents_if objects ids.head)) || is_some (entry_named n (dirents_if objects ids.pushed))) ≡ true
  some_other n left =
      elim (stays_in_either s trees.head trees.pushed (n ∷ []) (λ e. cc) (each n ∙ ap (λ (b : Bool). kept_dir s (n ∷ []) || b) left ∙ or_true (kept_dir s (n ∷ [])))) [
        | inl dir ↦ ap (λ b. b || is_some (entry_named n (dirents_if objects ids.pushed))) (some_entry (entry_named n (dirents_if objects ids.head)) (ap is_dir (sym (are.head (n ∷ []))) ∙ dir))
        | inr dir ↦ or_right (is_some (entry_named n (dirents_if objects ids.head))) (is_some (entry_named n (dirents_if objects ids.pushed))) (some_entry (entry_named n (dirents_if objects ids.pushed)) (ap is_dir (sym (are.pushed (n ∷ []))) ∙ dir))
      ]
    where
      or_true : (b : Bool) → (b || true) ≡ true
      or_true true = refl
      or_true false = refl

      some_entry : (o : Option _) → is_dir (option_map (node_of objects) (option_map entry_of o)) ≡ true → is_some o ≡ true
      some_entry None e = cc
      some_entry (Some x) e = refl

  -- ---- what is asked of the level: its trees, and that its files are whole. files_at is of WholeSideLemmas

  abbrev pub l : Sides
  l = level_trees_of objects ids s are opened.joined part_of at so.joined_single (files_at objects room ids whole) some_other

  pub is_level : IsLevel s l (λ n. is_some (part_of n))
  is_level = level_is objects ids s are opened.joined part_of at so.joined_single (files_at objects room ids whole) some_other each

  pub here : MergesHere naming s l
  here = merges_here naming naming-naming s l (λ n. is_some (part_of n)) is_level trees.base trees.head trees.pushed

  pub own_trees : AreTrees l
  own_trees = level_trees objects ids s are opened.joined part_of at so.joined_single (files_at objects room ids whole) some_other is_level trees

  pub seen_here : AreSeenIn objects opened.joined l
  seen_here = level_seen objects ids s are opened.joined part_of at so.joined_single (files_at objects room ids whole) some_other

  pub whole_here : (q : PathV) → IsWholeAt objects (map.get opened.joined q)
  whole_here = whole_joined objects ids s are opened.joined part_of at so.joined_single (files_at objects room ids whole) some_other

  -- there are no more entries than three trees have paths
  pub few_here : map.len opened.joined ≤ 3000000
  few_here =
      let few = few_of_trees opened.joined s none in
      let sides = paths_len s in
      let b = (side_fits objects room ids.base whole.0 s.base are.base).count in
      let h = (side_fits objects room ids.head whole.1 s.head are.head).count in
      let p = (side_fits objects room ids.pushed whole.2 s.pushed are.pushed).count in
      omega (arith, few, sides, b, h, p)
    where
      entry_none : (x y z : Option Dirent) (b : Bool) → (is_some (option_map entry_of x) || (is_some (option_map entry_of y) || is_some (option_map entry_of z))) ≡ false
          → join_over b (record { base = x; head = y; pushed = z }) ≡ None
      entry_none None None None b e = refl
      entry_none (Some x) y z b e = absurd (true≢false e)
      entry_none None (Some y) z b e = absurd (true≢false e)
      entry_none None None (Some z) b e = absurd (true≢false e)

      at_name : (n : List ℕ) → in_trees s (n ∷ []) ≡ false → map.get opened.joined (n ∷ []) ≡ None
      at_name n out =
          at n ∙ entry_none (trio_of objects ids n).base (trio_of objects ids n).head (trio_of objects ids n).pushed (is_some (part_of n))
          (sym (ap₂ ◌||◌ (ap is_some (are.base (n ∷ [])) ∙ same_some (node_of objects) (option_map entry_of (trio_of objects ids n).base))
          (ap₂ ◌||◌ (ap is_some (are.head (n ∷ [])) ∙ same_some (node_of objects) (option_map entry_of (trio_of objects ids n).head))
          (ap is_some (are.pushed (n ∷ [])) ∙ same_some (node_of objects) (option_map entry_of (trio_of objects ids n).pushed)))) ∙ out)

      none : (q : PathV) → in_trees s q ≡ false → map.get opened.joined q ≡ None
      none q out = by (map.get opened.joined q) refl
        where
          by : (o : Option Three) → map.get opened.joined q ≡ o → map.get opened.joined q ≡ None
          by None is = is
          by (Some x) is =
              let one = so.joined_single q (ap is_some is) in
              ap (map.get opened.joined) one.1 ∙ at_name one.0 (ap (in_trees s) (sym one.1) ∙ out)
