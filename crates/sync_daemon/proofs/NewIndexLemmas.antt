-- The entries of the new index: what they know of the head's tree, and that they stand for it. The key lemmas are knows_root,
-- knows_sizes, index_names and index_stands.
use Rattle.std.proofs.Common.{◌≡◌, ◌⊎◌, ℕ, ℤ, Bool, true, false, cond, if◌then◌else◌, List, [], ◌∷◌, ◌++◌, Option, None, Some, is_some, option_map, option_and_then, refl, sym, ap, subst, ◌∙◌, inl, inr, true≢false}
use Rattle.std.specs.FinMap as fin
use Rattle.std.specs.List.{flat_map}
use Rattle.std.specs.Ordering.{eq_by_cmp}
use Rattle.ids.specs.Key.{Objects}
use Rattle.tree_model.specs.Path.{PathV, path_cmp}
use Rattle.tree_model.specs.PathOrder.{paths_total}
use Rattle.tree_model.specs.Tree.{Tree}
use Rattle.tree_model.specs.declared.node.Node.{Node}
use Rattle.tree_model.proofs.ListedLemmas.{same_path-itself, same_path-true}
use Rattle.tree_model.proofs.MovingLemmas.{In, in_found}
use Rattle.block_chunker.specs.declared.cuts.Cuts.{Cuts}
use Rattle.folder_side.specs.Folder.{Contents, at}
use Rattle.folder_side.specs.ScanReport.{IsScan, seen_of}
use Rattle.folder_side.specs.declared.holding.Holding.{Holding}
use Rattle.folder_side.specs.declared.holding.Holding.TheVariants.{Dir, File, Other}
use Rattle.folder_side.specs.declared.scan_report.Scan.{Scan}
use Rattle.folder_side.specs.declared.scan_report.Seen.{Seen}
use Rattle.local_index.specs.declared.index.Index.{Index}
use Rattle.local_index.specs.declared.index.Known.{Known}
use Rattle.object_graph.specs.Objects.{AreEntriesOf, contents_of, entry_below, joined, node_of}
use Rattle.object_graph.specs.declared.entry.Entry.{Entry}
use Rattle.object_graph.specs.declared.entry.Entry.TheVariants as entry
use Rattle.sync_rules.specs.Checkout.{is_alone}
use Rattle.sync_rules.specs.Offer.{own_of}
use Rattle.sync_rules.specs.Premises.{Knows, KnowsEntry, KnowsRoot, KnowsSize, KnowsSizes, NamesFile, NamesFiles, Stands}
use Rattle.tree_checkout.specs.CheckingOut.{AreFor, IsForNode}
use Rattle.tree_checkout.specs.Steps.{node_owns, owns_of}
use Rattle.tree_checkout.specs.Planning.{AreAlike, StandsFor, alone_at, dues_at, is_alone_in}
use Rattle.tree_checkout.specs.declared.planning.Due.{Due}
use Rattle.tree_checkout.specs.declared.planning.DueNode.{DueNode}
use Rattle.tree_checkout.specs.declared.planning.DueNode.TheVariants as due
use Rattle.tree_checkout.specs.declared.steps.Write.{Write}
use Rattle.tree_checkout.specs.declared.steps.WriteNode.{WriteNode}
use Rattle.tree_checkout.specs.declared.steps.WriteNode.TheVariants as write
use Rattle.sync_daemon.specs.Bringing.{AreOwns, KnowsAs, known_of, left_own, node_own, own_at, own_or, seen_own, with_owns}
use Rattle.sync_daemon.proofs.WrittenLemmas.{AreIn, IsNodeIn}

-- ---- over any folder

-- the entries of a root are known
module _ (objects : Objects) (root : List ℕ) (scan : Scan) (owns : AreOwns) (entries : fin.FinMap path_cmp Entry) (are : AreEntriesOf objects root entries) (index : Index)
    (knows : KnowsAs scan owns entries index.entries) where
  entry_known : (own : List ℕ) (e : Option Entry) → KnowsEntry e (option_map (known_of own) e)
  entry_known own None = tt
  entry_known own (Some entry.Dir) = tt
  entry_known own (Some (entry.File id mode mtime modifier size)) = (refl, refl, refl, refl)

  pub knows_root : KnowsRoot objects root index
  knows_root path =
      subst (λ (k : Option Known). KnowsEntry (entry_below objects path root) k)
      (ap (option_map (known_of (own_at scan owns path))) (sym (are path)) ∙ sym (knows path)) (entry_known (own_at scan owns path) (entry_below objects path root))

  size_known : (own : List ℕ) (e : Option Entry) → KnowsSize e (option_map (known_of own) e)
  size_known own None = tt
  size_known own (Some entry.Dir) = tt
  size_known own (Some (entry.File id mode mtime modifier size)) = refl

  pub knows_sizes : KnowsSizes objects root index
  knows_sizes path =
      subst (λ (k : Option Known). KnowsSize (entry_below objects path root) k)
      (ap (option_map (known_of (own_at scan owns path))) (sym (are path)) ∙ sym (knows path)) (size_known (own_at scan owns path) (entry_below objects path root))

-- each id of the index names its file
module _ (objects : Objects) (scan : Scan) (owns : AreOwns) (entries : fin.FinMap path_cmp Entry) (tree : Tree) (stands : StandsFor objects entries tree) (index : Index)
    (knows : KnowsAs scan owns entries index.entries) where
  named_by : (own : List ℕ) (e : Option Entry) → NamesFile objects (option_map (node_of objects) e) (option_map (known_of own) e)
  named_by own None = tt
  named_by own (Some entry.Dir) = tt
  named_by own (Some (entry.File id mode mtime modifier size)) = refl

  pub index_names : NamesFiles objects index tree
  index_names path =
      subst (λ (n : Option Node). NamesFile objects n (fin.get index.entries path)) (sym (stands path))
      (subst (NamesFile objects (option_map (node_of objects) (fin.get entries path))) (sym (knows path)) (named_by (own_at scan owns path) (fin.get entries path)))

  -- ---- own ids

  -- the own id of the file that the entries have at a path, if any
  abbrev pub IsOwnAt : Cuts → PathV → (own : List ℕ) → Type 0
  IsOwnAt cuts path own = (id : List ℕ) (mode : ℕ) (mtime : ℤ) (modifier : List ℕ) (size : ℕ) → fin.get entries path ≡ Some (entry.File id mode mtime modifier size)
      → own ≡ own_of cuts (contents_of objects id)

  own_known : (cuts : Cuts) (path : PathV) (own : List ℕ) (e : Option Entry) → fin.get entries path ≡ e → IsOwnAt cuts path own → Knows cuts (option_map (node_of objects) e) (option_map (known_of own) e)
  own_known cuts path own None is right = tt
  own_known cuts path own (Some entry.Dir) is right = tt
  own_known cuts path own (Some (entry.File id mode mtime modifier size)) is right = (right id mode mtime modifier size is, refl, refl, refl)

  -- it stands for the tree, where each own id is right
  pub stands_by : (cuts : Cuts) → ((path : PathV) → IsOwnAt cuts path (own_at scan owns path)) → Stands cuts index tree
  stands_by cuts right path =
      subst (λ (n : Option Node). Knows cuts n (fin.get index.entries path)) (sym (stands path))
      (subst (Knows cuts (option_map (node_of objects) (fin.get entries path))) (sym (knows path))
      (own_known cuts path (own_at scan owns path) (fin.get entries path) refl (right path)))

-- ---- the own ids of what was written

abbrev is_file_write : WriteNode → Bool
is_file_write write.Dir = false
is_file_write (write.File file) = true

module _ (cuts : Cuts) (objects : Objects) (entries : fin.FinMap path_cmp Entry) where
  abbrev IsRight : PathV → List ℕ → Type 0
  IsRight path own = (id : List ℕ) (mode : ℕ) (mtime : ℤ) (modifier : List ℕ) (size : ℕ) → fin.get entries path ≡ Some (entry.File id mode mtime modifier size)
      → own ≡ own_of cuts (contents_of objects id)

  -- all that are held are right
  abbrev AreRight : AreOwns → Type 0
  AreRight owns = (path : PathV) (own : List ℕ) → fin.get owns path ≡ Some own → IsRight path own

  none_right : AreRight fin.empty
  none_right path own is = let none : fin.get (fin.empty {X = List ℕ} {R = path_cmp}) path ≡ None = fin.get-empty path_cmp path in absurd (true≢false (sym (ap is_some is) ∙ ap is_some none))

  insert_right : (owns : AreOwns) (path : PathV) (own : List ℕ) → AreRight owns → IsRight path own → AreRight (fin.insert owns path own)
  insert_right owns path own all right q other is = by (eq_by_cmp path_cmp q path) refl (sym (fin.get-insert paths_total owns path own q) ∙ is)
    where
      by : (b : Bool) → eq_by_cmp path_cmp q path ≡ b → cond b (Some own) (fin.get owns q) ≡ Some other → IsRight q other
      by true same found =
          let one : own ≡ other = cc in
          subst (λ (p : PathV). IsRight p other) (sym (same_path-true q path same)) (subst (IsRight path) one right)
      by false apart found = all q other found

  -- the entry of a file that is written
  abbrev IsEntryOf : Due → Type 0
  IsEntryOf d = IsNodeIn entries d.path d.node

  written_right : (d : Due) (w : Write) → IsEntryOf d → w.path ≡ d.path → IsForNode objects d.node w.node → (owns : AreOwns) (rest : List (List ℕ)) → AreRight owns
      → AreRight (node_own owns w.path w.node (node_owns cuts objects w.node ++ rest))
  written_right d w of same for owns rest all = by d.node w.node of for
    where
      by : (n : DueNode) (node : WriteNode) → IsNodeIn entries d.path n → IsForNode objects n node
          → AreRight (node_own owns w.path node (node_owns cuts objects node ++ rest))
      by due.Dir write.Dir here is = all
      by (due.File id) (write.File file) here is =
          insert_right owns w.path (own_of cuts (joined objects file.object.blocks)) all
          (λ other mode mtime modifier size found.
          let both : Some (entry.File id here.0 here.1 here.2 here.3) ≡ Some (entry.File other mode mtime modifier size) =
          sym here.4 ∙ ap (fin.get entries) (sym same) ∙ found in
          let one : id ≡ other = ap id_in both in
          ap (λ (blocks : List (List ℕ)). own_of cuts (joined objects blocks)) (sym is.1) ∙ ap (λ (x : List ℕ). own_of cuts (contents_of objects x)) one)
        where
          id_in : Option Entry → List ℕ
          id_in (Some (entry.File x a b c d)) = x
          id_in _ = []
      by due.Dir (write.File file) here is = absurd is
      by (due.File id) write.Dir here is = absurd is

  left_after : (node : WriteNode) (rest : List (List ℕ)) → left_own node (node_owns cuts objects node ++ rest) ≡ rest
  left_after write.Dir rest = refl
  left_after (write.File file) rest = refl

  pub all_right : (dues : List Due) (writes : List Write) → AreIn entries dues → AreFor objects dues writes → (owns : AreOwns) → AreRight owns
      → AreRight (with_owns owns writes (owns_of cuts objects writes))
  all_right [] [] of for owns all = all
  all_right [] (w ∷ writes) of for owns all = absurd for
  all_right (d ∷ dues) [] of for owns all = absurd for
  all_right (d ∷ dues) (w ∷ writes) of for owns all =
      subst (λ (left : List (List ℕ)). AreRight (with_owns (node_own owns w.path w.node (node_owns cuts objects w.node ++ owns_of cuts objects writes)) writes left))
      (sym (left_after w.node (owns_of cuts objects writes)))
      (all_right dues writes of.1 for.2 (node_own owns w.path w.node (node_owns cuts objects w.node ++ owns_of cuts objects writes))
      (written_right d w of.0 for.0 for.1 owns (owns_of cuts objects writes) all))

-- each file that was written has one
abbrev HasOwn : AreOwns → PathV → Type 0
HasOwn owns path = is_some (fin.get owns path) ≡ true

insert_has : (owns : AreOwns) (path : PathV) (own : List ℕ) (q : PathV) → HasOwn owns q → HasOwn (fin.insert owns path own) q
insert_has owns path own q has = ap is_some (fin.get-insert paths_total owns path own q) ∙ by (eq_by_cmp path_cmp q path)
  where
    by : (b : Bool) → is_some (cond b (Some own) (fin.get owns q)) ≡ true
    by true = refl
    by false = has

insert_there : (owns : AreOwns) (path : PathV) (own : List ℕ) → HasOwn (fin.insert owns path own) path
insert_there owns path own = ap is_some (fin.get-insert paths_total owns path own path) ∙ ap (λ (b : Bool). is_some (cond b (Some own) (fin.get owns path))) (same_path-itself path)

node_has : (owns : AreOwns) (path : PathV) (node : WriteNode) (left : List (List ℕ)) (q : PathV) → HasOwn owns q → HasOwn (node_own owns path node left) q
node_has owns path write.Dir left q has = has
node_has owns path (write.File file) [] q has = has
node_has owns path (write.File file) (own ∷ left) q has = insert_has owns path own q has

all_has : (writes : List Write) (left : List (List ℕ)) (owns : AreOwns) (q : PathV) → HasOwn owns q → HasOwn (with_owns owns writes left) q
all_has [] left owns q has = has
all_has (w ∷ writes) left owns q has = all_has writes (left_own w.node left) (node_own owns w.path w.node left) q (node_has owns w.path w.node left q has)

abbrev is_file_due : DueNode → Bool
is_file_due due.Dir = false
is_file_due (due.File id) = true

module _ (cuts : Cuts) (objects : Objects) where
  first_has : (d : Due) (w : Write) → w.path ≡ d.path → IsForNode objects d.node w.node → is_file_due d.node ≡ true → (owns : AreOwns) (rest : List (List ℕ))
      → HasOwn (node_own owns w.path w.node (node_owns cuts objects w.node ++ rest)) d.path
  first_has d w same for file owns rest = subst (HasOwn (node_own owns w.path w.node (node_owns cuts objects w.node ++ rest))) same (by d.node w.node for file)
    where
      by : (n : DueNode) (node : WriteNode) → IsForNode objects n node → is_file_due n ≡ true → HasOwn (node_own owns w.path node (node_owns cuts objects node ++ rest)) w.path
      by due.Dir node is is_file = absurd (true≢false (sym is_file))
      by (due.File id) (write.File its) is is_file = insert_there owns w.path (own_of cuts (joined objects its.object.blocks))
      by (due.File id) write.Dir is is_file = absurd is

  pub written_has : (dues : List Due) (writes : List Write) → AreFor objects dues writes → (owns : AreOwns) (due_here : Due) → is_file_due due_here.node ≡ true → In due_here dues
      → HasOwn (with_owns owns writes (owns_of cuts objects writes)) due_here.path
  written_has [] writes for owns here file there = absurd there
  written_has (d ∷ dues) [] for owns here file there = absurd for
  written_has (d ∷ dues) (w ∷ writes) for owns here file (inl is) =
      all_has writes (left_own w.node (owns_of cuts objects (w ∷ writes))) (node_own owns w.path w.node (owns_of cuts objects (w ∷ writes))) here.path
      (subst (λ (p : PathV). HasOwn (node_own owns w.path w.node (owns_of cuts objects (w ∷ writes))) p) (sym (ap (λ (x : Due). x.path) is))
      (first_has d w for.0 for.1 (sym (ap (λ (x : Due). is_file_due x.node) is) ∙ file) owns (owns_of cuts objects writes)))
  written_has (d ∷ dues) (w ∷ writes) for owns here file (inr there) =
      subst (λ (left : List (List ℕ)). HasOwn (with_owns (node_own owns w.path w.node (owns_of cuts objects (w ∷ writes))) writes left) here.path)
      (sym (left_after cuts objects fin.empty w.node (owns_of cuts objects writes)))
      (written_has dues writes for.2 (node_own owns w.path w.node (owns_of cuts objects (w ∷ writes))) here file there)

-- ---- a file of the tree is left alone, or due

in_front : {X : Type 0} (x : X) (xs ys : List X) → In x xs → In x (xs ++ ys)
in_front x [] ys there = absurd there
in_front x (y ∷ xs) ys (inl is) = inl is
in_front x (y ∷ xs) ys (inr there) = inr (in_front x xs ys there)

in_later : {X : Type 0} (x : X) (xs ys : List X) → In x ys → In x (xs ++ ys)
in_later x [] ys there = there
in_later x (y ∷ xs) ys there = inr (in_later x xs ys there)

module _ (scan : Scan) (index : Index) (pushed : Bool) (path : PathV) (id : List ℕ) (mode : ℕ) (mtime : ℤ) (modifier : List ℕ) (size : ℕ) where
  abbrev this_file : PathV × Entry
  this_file = (path, entry.File id mode mtime modifier size)

  abbrev this_due : Due
  this_due = record { path = path; node = due.File id }

  alone_or_due : (is_alone_in (fin.get scan.paths path) (fin.get index.entries path) id pushed ≡ true) ⊎ In this_due (dues_at scan index pushed this_file)
  alone_or_due = by (is_alone_in (fin.get scan.paths path) (fin.get index.entries path) id pushed)
    where
      by : (b : Bool) → (b ≡ true) ⊎ In this_due (if b then [] else this_due ∷ [])
      by true = inl refl
      by false = inr (inl refl)

  pub left_or_due : (es : List (PathV × Entry)) → In this_file es
      → (is_alone_in (fin.get scan.paths path) (fin.get index.entries path) id pushed ≡ true) ⊎ In this_due (flat_map (dues_at scan index pushed) es)
  left_or_due [] there = absurd there
  left_or_due (e ∷ es) (inl is) = subst (λ (x : PathV × Entry). (is_alone_in (fin.get scan.paths path) (fin.get index.entries path) id pushed ≡ true)
      ⊎ In this_due (dues_at scan index pushed x ++ flat_map (dues_at scan index pushed) es)) is (by alone_or_due)
    where
      by : (is_alone_in (fin.get scan.paths path) (fin.get index.entries path) id pushed ≡ true) ⊎ In this_due (dues_at scan index pushed this_file)
          → (is_alone_in (fin.get scan.paths path) (fin.get index.entries path) id pushed ≡ true) ⊎ In this_due (dues_at scan index pushed this_file ++ flat_map (dues_at scan index pushed) es)
      by (inl left) = inl left
      by (inr there) = inr (in_front this_due (dues_at scan index pushed this_file) (flat_map (dues_at scan index pushed) es) there)
  left_or_due (e ∷ es) (inr there) = by (left_or_due es there)
    where
      by : (is_alone_in (fin.get scan.paths path) (fin.get index.entries path) id pushed ≡ true) ⊎ In this_due (flat_map (dues_at scan index pushed) es)
          → (is_alone_in (fin.get scan.paths path) (fin.get index.entries path) id pushed ≡ true) ⊎ In this_due (dues_at scan index pushed e ++ flat_map (dues_at scan index pushed) es)
      by (inl left) = inl left
      by (inr more) = inr (in_later this_due (dues_at scan index pushed e) (flat_map (dues_at scan index pushed) es) more)

-- ---- all of it

module _ (objects : Objects) (cuts : Cuts) (c : Contents) (scan : Scan) (is_scan : IsScan cuts c scan) (index : Index) (pushed : Bool) (entries : fin.FinMap path_cmp Entry) (tree : Tree)
    (stands : StandsFor objects entries tree) (alike : AreAlike c (alone_at cuts c index entries pushed) tree) (dues : List Due) (writes : List Write)
    (planned : dues ≡ flat_map (dues_at scan index pushed) (fin.entries entries)) (of : AreIn entries dues) (for : AreFor objects dues writes) where
  abbrev owned : AreOwns
  owned = with_owns fin.empty writes (owns_of cuts objects writes)

  -- a file that was left alone has the own id with which it was seen
  seen_right : (path : PathV) (id : List ℕ) (mode : ℕ) (mtime : ℤ) (modifier : List ℕ) (size : ℕ) → fin.get entries path ≡ Some (entry.File id mode mtime modifier size)
      → is_alone_in (fin.get scan.paths path) (fin.get index.entries path) id pushed ≡ true → seen_own (fin.get scan.paths path) ≡ own_of cuts (contents_of objects id)
  seen_right path id mode mtime modifier size is left =
      ap seen_own (is_scan.paths path) ∙ by (at c path) refl (sym (ap (λ (s : Option Seen). is_alone_in s (fin.get index.entries path) id pushed) (is_scan.paths path)) ∙ left)
    where
      by : (h : Option Holding) → at c path ≡ h → is_alone_in (option_and_then (seen_of cuts) h) (fin.get index.entries path) id pushed ≡ true
          → seen_own (option_and_then (seen_of cuts) h) ≡ own_of cuts (contents_of objects id)
      by None there has = absurd (true≢false (sym has))
      by (Some Dir) there has = absurd (true≢false (sym has))
      by (Some Other) there has = absurd (true≢false (sym has))
      by (Some (File bytes)) there has =
          let node_is : fin.get tree path ≡ Some (node_of objects (entry.File id mode mtime modifier size)) = stands path ∙ ap (option_map (node_of objects)) is in
          let same : contents_of objects id ≡ bytes =
          alike path (record { mode = mode; mtime = mtime; modifier = modifier; bytes = contents_of objects id }) bytes node_is there
          ((λ i. is_alone cuts (there i) (fin.get index.entries path) (is i) pushed) ∙ has) in
          ap (own_of cuts) (sym same)

  pub own_right : (path : PathV) (id : List ℕ) (mode : ℕ) (mtime : ℤ) (modifier : List ℕ) (size : ℕ) → fin.get entries path ≡ Some (entry.File id mode mtime modifier size)
      → own_at scan owned path ≡ own_of cuts (contents_of objects id)
  own_right path id mode mtime modifier size is = by (fin.get owned path) refl
    where
      none_due : fin.get owned path ≡ None → In (record { path = path; node = due.File id }) dues → ⊥
      none_due none there =
          true≢false (sym (written_has cuts objects dues writes for fin.empty (record { path = path; node = due.File id }) refl there) ∙ ap is_some none)

      left : fin.get owned path ≡ None
          → (is_alone_in (fin.get scan.paths path) (fin.get index.entries path) id pushed ≡ true)
          ⊎ In (record { path = path; node = due.File id }) (flat_map (dues_at scan index pushed) (fin.entries entries))
          → seen_own (fin.get scan.paths path) ≡ own_of cuts (contents_of objects id)
      left none (inl has) = seen_right path id mode mtime modifier size is has
      left none (inr there) = absurd (none_due none (subst (In (record { path = path; node = due.File id })) (sym planned) there))

      by : (o : Option (List ℕ)) → fin.get owned path ≡ o → own_or o (fin.get scan.paths path) ≡ own_of cuts (contents_of objects id)
      by (Some own) found = all_right cuts objects entries dues writes of for fin.empty (none_right cuts objects entries) path own found id mode mtime modifier size is
      by None none =
          left none
          (left_or_due scan index pushed path id mode mtime modifier size (fin.entries entries)
          (in_found (fin.entries entries) path (entry.File id mode mtime modifier size) (sym (fin.get-entries entries path) ∙ is)))

  pub index_stands : (later : Index) → KnowsAs scan owned entries later.entries → Stands cuts later tree
  index_stands later knows = stands_by objects scan owned entries tree stands later knows cuts own_right
