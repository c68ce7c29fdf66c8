-- Deciding from the last path to the first. The key lemmas are decided_start, decided_more and decided_all.
use Rattle.std.proofs.Common.{◌≡◌, ◌≢◌, ℕ, ◌&&◌, ◌||◌, Bool, true, false, not, cond, if◌then◌else◌, List, [], ◌∷◌, ◌++◌, refl, sym, ap, ap₂, ◌∙◌, Option, Some, None, is_some, IsSome, option_map, Less, true≢false, ◌⊎◌, inl, inr}
use Rattle.std.specs.Bool.{one_answer}
use Rattle.std.specs.Option.{option_or}
use Rattle.std.specs.FinMap as map
use Rattle.ids.specs.Key.{Objects}
use Rattle.std.proofs.lemmas.Bool.{and_parts, or_cases, or_left, or_right}
use Rattle.ids.proofs.BasicLemmas.{none_from_is_some}
use Rattle.tree_model.specs.declared.node.FileVersion.{FileVersion}
use Rattle.tree_model.specs.declared.node.Node.TheVariants as tree_node
use Rattle.tree_model.specs.Path.{PathV, path_cmp, parent_of, last_name}
use Rattle.tree_model.specs.FileMerge.{Choice, choice}
use Rattle.tree_model.specs.Tree.{file_of, is_dir, has_dir, file_at}
use Rattle.tree_model.specs.DirectorySurvival.{Sides, choice_at, gets_file, kept_dir, stays, HasKeptEntry}
use Rattle.tree_model.specs.ConflictCopies.{in_trees, leaver_at}
use Rattle.tree_model.specs.ThreeWayMerge.{node_at}
use Rattle.tree_model.proofs.BelowLemmas.{parent_last, parent_push}
use Rattle.tree_model.proofs.LevelLemmas.{stays_levels}
use Rattle.tree_model.proofs.ListedLemmas.{same_path, same_path-true, same_path-itself}
use Rattle.tree_model.proofs.OneSideLemmas.{some_of_dir, some_of_file}
use Rattle.tree_model.proofs.NothingLostLemmas.{chosen_from, stays_in_either}
use Rattle.tree_model.proofs.UnmovedLemmas.{in_second, in_third}
use Rattle.tree_merge.proofs.PathOrderLemmas.{before_child}
use Rattle.object_graph.specs.Objects.{node_of}
use Rattle.object_graph.specs.declared.entry.Entry.{Entry}
use Rattle.object_graph.specs.declared.entry.Entry.TheVariants.{Dir, File}
use Rattle.tree_merge.specs.FileEntry.{file_in, is_directory, version_of}
use Rattle.tree_merge.specs.Sides.{AreSeen, AreTrees, Threes, base_in, head_in, pushed_in}
use Rattle.tree_merge.specs.Decision.{choice_in, kept_by, IsPlaced, Marks, HasSettled, IsDecided}
use Rattle.tree_merge.specs.declared.decision.Decided.{Decided}
use Rattle.tree_merge.specs.declared.decision.Placing.{Placing}
use Rattle.tree_merge.specs.declared.sides.Three.{Three}
use Rattle.tree_merge.proofs.TableLemmas.{get-put}

-- whether a path makes the directory above it survive
abbrev pub keeps_at : Sides → PathV → Bool
keeps_at s q = gets_file s q || stays s q

-- what is decided once the paths of `rest` alone are left
pub record DecidedSo (objects : Objects) (s : Sides) (rest : Threes) (marks : Marks) (d : Decided) : Type 0 where
  pub waits : (q : PathV) → IsSome (map.get rest q) → (map.get d.nodes q ≡ None) × (map.get d.leavers q ≡ None) × (map.get d.known q ≡ None)
  pub nodes : (q : PathV) → map.get rest q ≡ None → option_map (node_of objects) (map.get d.nodes q) ≡ (if in_trees s q then node_at s q else None)
  pub leavers : (q : PathV) → map.get rest q ≡ None → option_map (version_of objects) (map.get d.leavers q) ≡ (if in_trees s q then leaver_at s q else None)
  pub known : (q : PathV) → map.get rest q ≡ None → is_some (map.get d.known q) ≡ in_trees s q
  pub above : (d : PathV) (n : List ℕ) → map.get rest (d ++ n ∷ []) ≡ None → keeps_at s (d ++ n ∷ []) ≡ true → is_some (map.get marks d) ≡ true
  pub marked : (d : PathV) → is_some (map.get marks d) ≡ true → HasKeptEntry s d

-- ---- what the entries at one path tell

file_seen : (objects : Objects) (e : Option Entry) → file_of (option_map (node_of objects) e) ≡ option_map (version_of objects) (file_in e)
file_seen objects None = refl
file_seen objects (Some Dir) = refl
file_seen objects (Some (File id mode mtime modifier size)) = refl

dir_seen : (objects : Objects) (e : Option Entry) → is_dir (option_map (node_of objects) e) ≡ is_directory e
dir_seen objects None = refl
dir_seen objects (Some Dir) = refl
dir_seen objects (Some (File id mode mtime modifier size)) = refl

module _ (objects : Objects) (s : Sides) (whole : Threes) (seen : AreSeen objects whole s) (q : PathV) (three : Three) (there : map.get whole q ≡ Some three) where
  choice_seen : choice_at s q ≡ choice_in objects three
  choice_seen =
      ap₂ (λ (b h : Option FileVersion). choice b h (file_at s.pushed q))
      (ap file_of (seen.base q ∙ ap (λ (o : Option Three). option_map (node_of objects) (base_in o)) there) ∙ file_seen objects three.base)
      (ap file_of (seen.head q ∙ ap (λ (o : Option Three). option_map (node_of objects) (head_in o)) there) ∙ file_seen objects three.head)
      ∙ ap (λ (p : Option FileVersion). choice (option_map (version_of objects) (file_in three.base)) (option_map (version_of objects) (file_in three.head)) p)
      (ap file_of (seen.pushed q ∙ ap (λ (o : Option Three). option_map (node_of objects) (pushed_in o)) there) ∙ file_seen objects three.pushed)

  kept_seen : kept_dir s q ≡ kept_by three
  kept_seen =
      ap₂ (λ (h p : Bool). (h && p) || ((h || p) && not (has_dir s.base q)))
      (ap is_dir (seen.head q ∙ ap (λ (o : Option Three). option_map (node_of objects) (head_in o)) there) ∙ dir_seen objects three.head)
      (ap is_dir (seen.pushed q ∙ ap (λ (o : Option Three). option_map (node_of objects) (pushed_in o)) there) ∙ dir_seen objects three.pushed)
      ∙ ap (λ (b : Bool). (is_directory three.head && is_directory three.pushed) || ((is_directory three.head || is_directory three.pushed) && not b))
      (ap is_dir (seen.base q ∙ ap (λ (o : Option Three). option_map (node_of objects) (base_in o)) there) ∙ dir_seen objects three.base)

-- ---- one path more

or_none_of : {X : Type 0} (o p : Option X) → p ≡ None → option_or o p ≡ o
or_none_of None p e = e
or_none_of (Some x) p e = refl

-- what is told at each path, where it is put at one of the known paths, which had nothing, and told so at the others before
put_more : {A B : Type 0} (tell : A → B) (path q : PathV) (placed before now : Option A) (told : PathV → Option B) (known : PathV → Bool)
    → now ≡ (if same_path q path then option_or placed before else before) → (same_path q path ≡ false → option_map tell before ≡ (if known q then told q else None))
    → (q ≡ path → before ≡ None) → option_map tell placed ≡ told path → known path ≡ true → option_map tell now ≡ (if known q then told q else None)
put_more tell path q placed before now told known put others waits here there = by (same_path q path) refl
  where
    by : (b : Bool) → same_path q path ≡ b → option_map tell now ≡ (if known q then told q else None)
    by false apart = ap (option_map tell) (put ∙ ap (λ (b : Bool). if b then option_or placed before else before) apart) ∙ others apart
    by true tie =
        let is : q ≡ path = same_path-true q path tie in
        ap (option_map tell) (put ∙ ap (λ (b : Bool). if b then option_or placed before else before) tie ∙ or_none_of placed before (waits is))
        ∙ here ∙ ap (λ (b : Bool). if b then told path else None) (sym there) ∙ ap (λ (p : PathV). if known p then told p else None) (sym is)

module _ (objects : Objects) (s : Sides) (trees : AreTrees s) (whole : Threes) (seen : AreSeen objects whole s) where
  no_root : map.get whole [] ≡ None
  no_root = none_from_is_some (map.get whole []) (sym (seen.known []) ∙ ap₂ ◌||◌ (ap is_some trees.base.no_root) (ap₂ ◌||◌ (ap is_some trees.head.no_root) (ap is_some trees.pushed.no_root)))

  -- what makes a directory survive is a path of the trees
  keeps_known : (d : PathV) (n : List ℕ) → keeps_at s (d ++ n ∷ []) ≡ true → in_trees s (d ++ n ∷ []) ≡ true
  keeps_known d n e =
      elim (or_cases (gets_file s q) (stays s q) e) [
        | inl gets ↦ of_file (chosen_from (file_at s.base q) (file_at s.head q) (file_at s.pushed q) gets)
        | inr stay ↦ of_dir (stays_in_either s trees.head trees.pushed q (no_end d n) stay)
      ]
    where
      q : PathV
      q = d ++ n ∷ []

      no_end : (d : PathV) (n : List ℕ) → d ++ n ∷ [] ≢ []
      no_end [] n e = cc
      no_end (m ∷ d) n e = cc

      of_file : (is_some (file_at s.head q) ≡ true) ⊎ (is_some (file_at s.pushed q) ≡ true) → in_trees s q ≡ true
      of_file (inl there) = in_second (is_some (map.get s.base q)) (is_some (map.get s.head q)) (is_some (map.get s.pushed q)) (some_of_file (map.get s.head q) there)
      of_file (inr there) = in_third (is_some (map.get s.base q)) (is_some (map.get s.head q)) (is_some (map.get s.pushed q)) (some_of_file (map.get s.pushed q) there)

      of_dir : (has_dir s.head q ≡ true) ⊎ (has_dir s.pushed q ≡ true) → in_trees s q ≡ true
      of_dir (inl there) = in_second (is_some (map.get s.base q)) (is_some (map.get s.head q)) (is_some (map.get s.pushed q)) (some_of_dir (map.get s.head q) there)
      of_dir (inr there) = in_third (is_some (map.get s.base q)) (is_some (map.get s.head q)) (is_some (map.get s.pushed q)) (some_of_dir (map.get s.pushed q) there)

  -- before the first path is decided
  pub decided_start : (marks : Marks) (d : Decided) → ((q : PathV) → map.get marks q ≡ None) → ((q : PathV) → map.get d.nodes q ≡ None) → ((q : PathV) → map.get d.leavers q ≡ None)
      → ((q : PathV) → map.get d.known q ≡ None) → DecidedSo objects s whole marks d
  decided_start marks d no_marks no_nodes no_leavers no_known = record {
    waits = λ q there. (no_nodes q, no_leavers q, no_known q);
    nodes = λ q gone. ap (option_map (node_of objects)) (no_nodes q) ∙ ap (λ (b : Bool). if b then node_at s q else None) (sym (unknown q gone));
    leavers = λ q gone. ap (option_map (version_of objects)) (no_leavers q) ∙ ap (λ (b : Bool). if b then leaver_at s q else None) (sym (unknown q gone));
    known = λ q gone. ap is_some (no_known q) ∙ sym (unknown q gone);
    above = λ dir n gone keeps. absurd (true≢false (sym (keeps_known dir n keeps) ∙ unknown (dir ++ n ∷ []) gone));
    marked = λ dir there. absurd (true≢false (sym there ∙ ap is_some (no_marks dir)));
  }
    where
      unknown : (q : PathV) → map.get whole q ≡ None → in_trees s q ≡ false
      unknown q gone = seen.known q ∙ ap is_some gone

  module _ (rest after : Threes) (marks marks_after : Marks) (d e : Decided) (path : PathV) (three : Three)
      (so : DecidedSo objects s rest marks d) (there : map.get rest path ≡ Some three) (in_whole : map.get whole path ≡ Some three)
      (behind : (q : PathV) → path_cmp path q ≡ Less → map.get rest q ≡ None)
      (popped : (q : PathV) → map.get after q ≡ cond (same_path q path) None (map.get rest q))
      (placing : Placing) (placed : IsPlaced objects (choice_in objects three) (kept_by three || is_some (map.get marks path)) placing)
      (settled : HasSettled path placing marks marks_after d e) where
    is_marked : Bool
    is_marked = is_some (map.get marks path)

    stays_here : stays s path ≡ (kept_by three || is_some (map.get marks path))
    stays_here = one_answer (stays s path) (kept_by three || is_some (map.get marks path)) ((λ h. h), (λ h. h)) (to, from)
      where
        from : stays s path ≡ true → (kept_by three || is_some (map.get marks path)) ≡ true
        from stay =
            elim ((stays_levels s path).0 stay) [
              | inl kept ↦ or_left (kept_by three) (is_some (map.get marks path)) (sym (kept_seen objects s whole seen path three in_whole) ∙ kept)
              | inr entry ↦ or_right (kept_by three) (is_some (map.get marks path)) (so.above path entry.name (behind (path ++ entry.name ∷ []) (before_child path entry.name)) entry.keeps)
            ]

        to : (kept_by three || is_some (map.get marks path)) ≡ true → stays s path ≡ true
        to h =
            elim (or_cases (kept_by three) (is_some (map.get marks path)) h) [
              | inl kept ↦ (stays_levels s path).1 (inl (kept_seen objects s whole seen path three in_whole ∙ kept))
              | inr marked ↦ (stays_levels s path).1 (inr (so.marked path marked))
            ]

    known_here : in_trees s path ≡ true
    known_here = seen.known path ∙ ap is_some in_whole

    choice_here : choice_in objects three ≡ choice_at s path
    choice_here = sym (choice_seen objects s whole seen path three in_whole)

    keeps_here : placing.keeps ≡ keeps_at s path
    keeps_here = placed.keeps ∙ ap₂ (λ (c : Choice) (b : Bool). (is_some c.main || is_some c.side) || b) choice_here (sym stays_here)

    node_here : option_map (node_of objects) placing.node ≡ node_at s path
    node_here = placed.node ∙ ap₂ (λ (c : Choice) (b : Bool). if b then Some tree_node.Dir else option_map tree_node.File c.main) choice_here (sym stays_here)

    leaver_here : option_map (version_of objects) placing.leaver ≡ leaver_at s path
    leaver_here = placed.leaver ∙ ap₂ (λ (c : Choice) (b : Bool). option_or c.side (if b then c.main else None)) choice_here (sym stays_here)

    not_root : path ≢ []
    not_root is = let both : Some three ≡ None = sym in_whole ∙ ap (map.get whole) is ∙ no_root in cc

    waits_here : (map.get d.nodes path ≡ None) × (map.get d.leavers path ≡ None) × (map.get d.known path ≡ None)
    waits_here = so.waits path (ap is_some there)

    gone_before : (q : PathV) → same_path q path ≡ false → map.get after q ≡ None → map.get rest q ≡ None
    gone_before q apart gone = ap (λ (b : Bool). cond b None (map.get rest q)) (sym apart) ∙ sym (popped q) ∙ gone

    nodes_more : (q : PathV) → map.get after q ≡ None → option_map (node_of objects) (map.get e.nodes q) ≡ (if in_trees s q then node_at s q else None)
    nodes_more q gone = put_more (node_of objects) path q placing.node (map.get d.nodes q) (map.get e.nodes q) (node_at s) (in_trees s) (settled.nodes q)
        (λ apart. so.nodes q (gone_before q apart gone)) (λ is. ap (map.get d.nodes) is ∙ waits_here.0) node_here known_here

    leavers_more : (q : PathV) → map.get after q ≡ None → option_map (version_of objects) (map.get e.leavers q) ≡ (if in_trees s q then leaver_at s q else None)
    leavers_more q gone = put_more (version_of objects) path q placing.leaver (map.get d.leavers q) (map.get e.leavers q) (leaver_at s) (in_trees s) (settled.leavers q)
        (λ apart. so.leavers q (gone_before q apart gone)) (λ is. ap (map.get d.leavers) is ∙ waits_here.1) leaver_here known_here

    known_at : (q : PathV) → map.get e.known q ≡ cond (same_path q path) (Some tt) (map.get d.known q)
    known_at q = ap (λ (m : Marks). map.get m q) settled.known ∙ get-put d.known path tt q

    known_more : (q : PathV) → map.get after q ≡ None → is_some (map.get e.known q) ≡ in_trees s q
    known_more q gone = ap is_some (known_at q) ∙ by (same_path q path) refl
      where
        by : (b : Bool) → same_path q path ≡ b → is_some (cond b (Some tt) (map.get d.known q)) ≡ in_trees s q
        by false apart = so.known q (gone_before q apart gone)
        by true tie = sym (ap (in_trees s) (same_path-true q path tie) ∙ known_here)

    above_more : (dir : PathV) (n : List ℕ) → map.get after (dir ++ n ∷ []) ≡ None → keeps_at s (dir ++ n ∷ []) ≡ true → is_some (map.get marks_after dir) ≡ true
    above_more dir n gone keeps = settled.marks dir ∙ by (same_path (dir ++ n ∷ []) path) refl
      where
        by : (b : Bool) → same_path (dir ++ n ∷ []) path ≡ b → (is_some (map.get marks dir) || (placing.keeps && same_path dir (parent_of path))) ≡ true
        by false apart = or_left (is_some (map.get marks dir)) (placing.keeps && same_path dir (parent_of path)) (so.above dir n (gone_before (dir ++ n ∷ []) apart gone) keeps)
        by true tie =
            let is : dir ++ n ∷ [] ≡ path = same_path-true (dir ++ n ∷ []) path tie in
            let here : placing.keeps ≡ true = keeps_here ∙ ap (keeps_at s) (sym is) ∙ keeps in
            let own : same_path dir (parent_of path) ≡ true = ap (same_path dir) (ap parent_of (sym is) ∙ parent_push dir n) ∙ same_path-itself dir in
            or_right (is_some (map.get marks dir)) (placing.keeps && same_path dir (parent_of path)) (ap₂ ◌&&◌ here own)

    marked_more : (dir : PathV) → is_some (map.get marks_after dir) ≡ true → HasKeptEntry s dir
    marked_more dir h =
        elim (or_cases (is_some (map.get marks dir)) (placing.keeps && same_path dir (parent_of path)) (sym (settled.marks dir) ∙ h)) [
          | inl old ↦ so.marked dir old
          | inr new ↦
              let parts = and_parts placing.keeps (same_path dir (parent_of path)) new in
              let is : dir ≡ parent_of path = same_path-true dir (parent_of path) parts.1 in
              let whole_path : path ≡ dir ++ last_name path ∷ [] = parent_last path not_root ∙ ap (λ p. p ++ last_name path ∷ []) (sym is) in
              record { name = last_name path; keeps = ap (keeps_at s) (sym whole_path) ∙ sym keeps_here ∙ parts.0 }
        ]

    waits_more : (q : PathV) → IsSome (map.get after q) → (map.get e.nodes q ≡ None) × (map.get e.leavers q ≡ None) × (map.get e.known q ≡ None)
    waits_more q some = by (same_path q path) refl
      where
        by : (b : Bool) → same_path q path ≡ b → (map.get e.nodes q ≡ None) × (map.get e.leavers q ≡ None) × (map.get e.known q ≡ None)
        by true tie = absurd (true≢false (sym some ∙ ap is_some (popped q ∙ ap (λ (b : Bool). cond b None (map.get rest q)) tie)))
        by false apart =
            let old = so.waits q (ap is_some (ap (λ (b : Bool). cond b None (map.get rest q)) (sym apart) ∙ sym (popped q)) ∙ some) in (
              settled.nodes q ∙ ap (λ (b : Bool). if b then option_or placing.node (map.get d.nodes q) else map.get d.nodes q) apart ∙ old.0,
              settled.leavers q ∙ ap (λ (b : Bool). if b then option_or placing.leaver (map.get d.leavers q) else map.get d.leavers q) apart ∙ old.1,
              known_at q ∙ ap (λ (b : Bool). cond b (Some tt) (map.get d.known q)) apart ∙ old.2,
            )

    pub decided_more : DecidedSo objects s after marks_after e
    decided_more = record { waits = waits_more; nodes = nodes_more; leavers = leavers_more; known = known_more; above = above_more; marked = marked_more }

pub decided_all : (objects : Objects) (s : Sides) (rest : Threes) (marks : Marks) (d : Decided) → ((q : PathV) → map.get rest q ≡ None) → DecidedSo objects s rest marks d → IsDecided objects s d
decided_all objects s rest marks d gone so = record { nodes = λ q. so.nodes q (gone q); leavers = λ q. so.leavers q (gone q); known = λ q. so.known q (gone q) }
