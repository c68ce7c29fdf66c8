-- A folder that visibly holds just a tree: nothing is to be done for it. So of one that agrees with an index, and the tree for which that
-- stands. The key lemmas are alike_left, alike_plan, alike_held, agreed_at, agreed_left, agreed_plan and agreed_held.
use Rattle.std.proofs.Common.{◌≡◌, ◌&&◌, ℕ, not, Bool, true, false, List, [], ◌∷◌, ◌++◌, if◌then◌else◌, Option, None, Some, option_and_then, refl, sym, ap, ap₂, subst, ◌∙◌, inl, inr}
use Rattle.std.specs.FinMap as fin
use Rattle.std.specs.List.{IsDistinct, cons_option, filter_map}
use Rattle.std.specs.Str.{bytes_eq}
use Rattle.std.proofs.lemmas.Slice.Eq.{bytes_eq-Decides}
use Rattle.ids.proofs.BasicLemmas.{same_from_bytes_eq}
use Rattle.ids.specs.Key.{Objects}
use Rattle.ids.specs.declared.key.Key.{Key}
use Rattle.tree_model.specs.Path.{PathV}
use Rattle.tree_model.specs.Tree.{Tree}
use Rattle.tree_model.specs.declared.node.FileVersion.{FileVersion}
use Rattle.tree_model.specs.declared.node.Node.{Node}
use Rattle.tree_model.specs.declared.node.Node.TheVariants as node
use Rattle.tree_model.proofs.MovingLemmas.{In}
use Rattle.block_chunker.specs.declared.cuts.Cuts.{Cuts}
use Rattle.folder_side.specs.Folder.{Contents, at, is_dir}
use Rattle.folder_side.specs.ScanReport.{seen_of}
use Rattle.folder_side.specs.WorkingTree.{HoldsLeft, PlainFile, held_list, held_of, is_stuck, lacked, lacks, plain_node, with_stuck}
use Rattle.folder_side.specs.declared.holding.Holding.{Holding}
use Rattle.folder_side.specs.declared.holding.Holding.TheVariants.{Dir, File, Other}
use Rattle.folder_side.proofs.SortedEntryLemmas.{Rises-entries, found_of}
use Rattle.local_index.specs.ScanChanges.{change_of}
use Rattle.local_index.specs.declared.index.Index.{Index}
use Rattle.local_index.specs.declared.index.Known.{Known}
use Rattle.local_index.specs.declared.index.Known.TheVariants as known
use Rattle.object_graph.specs.Objects.{entry_below}
use Rattle.object_graph.specs.declared.entry.Entry.{Entry}
use Rattle.object_graph.specs.declared.entry.Entry.TheVariants as entry
use Rattle.sync_rules.specs.Checkout.{IsPlan, Step, is_alone, is_kept_apart, keeps, write_at, writes_of}
use Rattle.sync_rules.specs.Offer.{Agrees, own_of}
use Rattle.sync_rules.specs.Premises.{Knows, KnowsEntry, KnowsRoot, Over}
use Rattle.sync_rules.proofs.NameLemmas.{own_alike}
use Rattle.sync_rules.proofs.PlanLemmas.{hides}
use Rattle.std.specs.Option.{option_map}

-- ---- at one path

-- the folder visibly holds just what the tree has there
abbrev pub AreAlike : Option Holding → Option Node → Type 0
AreAlike None None = Unit {0}
AreAlike (Some Other) None = Unit {0}
AreAlike (Some Dir) (Some node.Dir) = Unit {0}
AreAlike (Some (File bytes)) (Some (node.File file)) = bytes ≡ file.bytes
AreAlike _ _ = ⊥

-- ---- a folder that visibly holds just a tree

module _ (c : Contents) (t : Tree) (shows : (path : PathV) → AreAlike (at c path) (fin.get t path)) where
  left_by : (hidden : Bool) (o : Option Holding) (n : Option Node) → AreAlike o n → option_and_then held_of o ≡ with_stuck (is_dir o && hidden) (option_map plain_node n)
  left_by hidden None None same = refl
  left_by hidden None (Some n) same = absurd same
  left_by hidden (Some Other) None same = refl
  left_by hidden (Some Other) (Some n) same = absurd same
  left_by hidden (Some Dir) None same = absurd same
  left_by hidden (Some Dir) (Some node.Dir) same = refl
  left_by hidden (Some Dir) (Some (node.File file)) same = absurd same
  left_by hidden (Some (File bytes)) None same = absurd same
  left_by hidden (Some (File bytes)) (Some node.Dir) same = absurd same
  left_by hidden (Some (File bytes)) (Some (node.File file)) same = ap (λ (b : List ℕ). Some (PlainFile b)) same

  pub alike_left : HoldsLeft t c c
  alike_left path = left_by (hides c path) (at c path) (fin.get t path) (shows path)

  -- nothing is to be done
  spared_by : (stuck : Bool) (o : Option Holding) (n : Option Node) → AreAlike o n → false ≡ (not (keeps n o) && not (is_kept_apart stuck o))
  spared_by stuck None None same = refl
  spared_by stuck None (Some n) same = absurd same
  spared_by stuck (Some Other) None same = refl
  spared_by stuck (Some Other) (Some n) same = absurd same
  spared_by stuck (Some Dir) None same = absurd same
  spared_by stuck (Some Dir) (Some node.Dir) same = refl
  spared_by stuck (Some Dir) (Some (node.File file)) same = absurd same
  spared_by stuck (Some (File bytes)) None same = absurd same
  spared_by stuck (Some (File bytes)) (Some node.Dir) same = absurd same
  spared_by stuck (Some (File bytes)) (Some (node.File file)) same = refl

  -- where each file is left alone
  module _ (alone : PathV → Bool) (left_alone : (path : PathV) (bytes : List ℕ) (file : FileVersion) → at c path ≡ Some (File bytes) → fin.get t path ≡ Some (node.File file) → alone path ≡ true) where
    none_written : (b : Bool) (path : PathV) (o : Option Holding) (n : Node) → AreAlike o (Some n) → ((bytes : List ℕ) (file : FileVersion) → o ≡ Some (File bytes) → n ≡ node.File file → b ≡ true)
        → write_at b path n o ≡ []
    none_written b path None n same let_alone = absurd same
    none_written b path (Some Other) n same let_alone = absurd same
    none_written b path (Some Dir) node.Dir same let_alone = refl
    none_written b path (Some Dir) (node.File file) same let_alone = absurd same
    none_written b path (Some (File bytes)) node.Dir same let_alone = absurd same
    none_written b path (Some (File bytes)) (node.File file) same let_alone = rw (let_alone bytes file refl refl) refl

    nothing_written : (es : List (PathV × Node)) → ((e : PathV × Node) → In e es → fin.get t e.0 ≡ Some e.1) → writes_of alone c es ≡ []
    nothing_written [] are = refl
    nothing_written (e ∷ es) are =
        ap₂ (λ (x y : List Step). x ++ y)
        (none_written (alone e.0) e.0 (at c e.0) e.1 (subst (λ (n : Option Node). AreAlike (at c e.0) n) (are e (inl refl)) (shows e.0))
        (λ bytes file here is. left_alone e.0 bytes file here (are e (inl refl) ∙ ap Some is)))
        (nothing_written es (λ f there. are f (inr there)))

    pub alike_plan : IsPlan t c alone []
    unfolding IsDistinct
    alike_plan = record {
      doomed = [];
      is = sym (nothing_written (fin.entries t) (λ e there. fin.get-entries t e.0 ∙ found_of (fin.entries t) e (Rises-entries t) there));
      deepest = tt;
      once = tt;
      all = λ path. spared_by (is_stuck c path) (at c path) (fin.get t path) (shows path);
      alike = λ path file bytes there here is. sym (subst (λ (n : Option Node). AreAlike (Some (File bytes)) n) there (subst (λ (o : Option Holding). AreAlike o (fin.get t path)) here (shows path)));
    }

  -- no directory is held beside the tree
  none_held : (path : PathV) (hidden : Bool) (o : Option Holding) (n : Option Node) → AreAlike o n → (if is_dir o && hidden then lacked n path else None) ≡ None
  none_held path hidden None None same = refl
  none_held path hidden None (Some n) same = absurd same
  none_held path hidden (Some Other) None same = refl
  none_held path hidden (Some Other) (Some n) same = absurd same
  none_held path hidden (Some Dir) None same = absurd same
  none_held path true (Some Dir) (Some n) same = refl
  none_held path false (Some Dir) (Some n) same = refl
  none_held path hidden (Some (File bytes)) n same = refl

  held_by : (es : List (PathV × Holding)) → [] ≡ filter_map (lacks t c) es
  held_by [] = refl
  held_by (e ∷ es) = held_by es ∙ sym (ap (λ (o : Option PathV). cons_option o (filter_map (lacks t c) es)) (none_held e.0 (hides c e.0) (at c e.0) (fin.get t e.0) (shows e.0)))

  pub alike_held : [] ≡ held_list t c
  alike_held = held_by (fin.entries c.paths)

-- ---- one that agrees with an index

unchanged : (a b : List ℕ) {X : Type 0} (x : X) → (if not (bytes_eq a b) then Some x else None) ≡ None → a ≡ b
unchanged a b x is = by (bytes_eq a b) refl is
  where
    by : (t : Bool) → bytes_eq a b ≡ t → (if not t then Some x else None) ≡ None → a ≡ b
    by true same none = same_from_bytes_eq a b same
    by false apart none = absurd (cc)

agreed_by : (cuts : Cuts) (o : Option Holding) (k : Option Known) (n : Option Node) → change_of (option_and_then (seen_of cuts) o) k ≡ None → Knows cuts n k
    → ((bytes : List ℕ) (file : FileVersion) → o ≡ Some (File bytes) → n ≡ Some (node.File file) → own_of cuts bytes ≡ own_of cuts file.bytes → bytes ≡ file.bytes) → AreAlike o n
agreed_by cuts None None None same knows alike = tt
agreed_by cuts None None (Some node.Dir) same knows alike = absurd knows
agreed_by cuts None None (Some (node.File file)) same knows alike = absurd knows
agreed_by cuts None (Some k) n same knows alike = absurd (cc)
agreed_by cuts (Some Other) None None same knows alike = tt
agreed_by cuts (Some Other) None (Some node.Dir) same knows alike = absurd knows
agreed_by cuts (Some Other) None (Some (node.File file)) same knows alike = absurd knows
agreed_by cuts (Some Other) (Some k) n same knows alike = absurd (cc)
agreed_by cuts (Some Dir) None n same knows alike = absurd (cc)
agreed_by cuts (Some Dir) (Some known.Dir) None same knows alike = absurd knows
agreed_by cuts (Some Dir) (Some known.Dir) (Some node.Dir) same knows alike = tt
agreed_by cuts (Some Dir) (Some known.Dir) (Some (node.File file)) same knows alike = absurd knows
agreed_by cuts (Some Dir) (Some (known.File id own size mode mtime modifier)) n same knows alike = absurd (cc)
agreed_by cuts (Some (File bytes)) None n same knows alike = absurd (cc)
agreed_by cuts (Some (File bytes)) (Some known.Dir) n same knows alike = absurd (cc)
agreed_by cuts (Some (File bytes)) (Some (known.File id own size mode mtime modifier)) None same knows alike = absurd knows
agreed_by cuts (Some (File bytes)) (Some (known.File id own size mode mtime modifier)) (Some node.Dir) same knows alike = absurd knows
agreed_by cuts (Some (File bytes)) (Some (known.File id own size mode mtime modifier)) (Some (node.File file)) same knows alike =
    alike bytes file refl refl (unchanged (own_of cuts bytes) own _ same ∙ knows.0)

module _ (objects : Objects) (cuts : Cuts) (c : Contents) (index : Index) (base : Tree) (had : List (Key × List ℕ)) (over : Over objects cuts c index base had) (agrees : Agrees cuts c index) where
  pub agreed_at : (path : PathV) → AreAlike (at c path) (fin.get base path)
  agreed_at path =
      agreed_by cuts (at c path) (fin.get index.entries path) (fin.get base path) (agrees path) (over.stands path)
      (λ bytes file here there same. own_alike objects cuts c index base had over path path bytes file here there same)

  -- ---- what the folder holds, and that nothing is to be done

  pub agreed_left : HoldsLeft base c c
  agreed_left = alike_left c base agreed_at

  module _ (root : List ℕ) (knows : KnowsRoot objects root index) where
    abbrev left_there : PathV → Bool
    left_there path = is_alone cuts (at c path) (fin.get index.entries path) (entry_below objects path root) false

    -- a file that did not change, and whose id the index knows
    same_known : (own was id its : List ℕ) → was ≡ own → its ≡ id → (if bytes_eq was own then bytes_eq its id else (false && bytes_eq own id)) ≡ true
    same_known own was id its same named = rw ((bytes_eq-Decides was own).1 same, (bytes_eq-Decides its id).1 named) refl

    let_alone : (o : Option Holding) (n : Option Node) (k : Option Known) (e : Option Entry) (bytes : List ℕ) (file : FileVersion) → o ≡ Some (File bytes) → n ≡ Some (node.File file)
        → change_of (option_and_then (seen_of cuts) o) k ≡ None → KnowsEntry e k → is_alone cuts o k e false ≡ true
    let_alone None n k e bytes file here there same is = absurd (cc)
    let_alone (Some Other) n k e bytes file here there same is = absurd (cc)
    let_alone (Some Dir) n k e bytes file here there same is = absurd (cc)
    let_alone (Some (File its)) n None e bytes file here there same is = absurd (cc)
    let_alone (Some (File its)) n (Some known.Dir) e bytes file here there same is = absurd (cc)
    let_alone (Some (File its)) n (Some (known.File id was size mode mtime modifier)) None bytes file here there same is = absurd is
    let_alone (Some (File its)) n (Some (known.File id was size mode mtime modifier)) (Some entry.Dir) bytes file here there same is = absurd is
    let_alone (Some (File its)) n (Some (known.File id was size mode mtime modifier)) (Some (entry.File of its_mode its_mtime its_modifier its_size)) bytes file here there same is =
        same_known (own_of cuts its) was of id (sym (unchanged (own_of cuts its) was _ same)) is.0

    pub agreed_plan : IsPlan base c left_there []
    agreed_plan =
        alike_plan c base agreed_at left_there
        (λ path bytes file here there.
        let_alone (at c path) (fin.get base path) (fin.get index.entries path) (entry_below objects path root) bytes file here there (agrees path) (knows path))

  pub agreed_held : [] ≡ held_list base c
  agreed_held = alike_held c base agreed_at
