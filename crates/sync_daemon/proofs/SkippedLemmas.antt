-- What is neither a file nor a directory stands at no path of a plan. The key lemmas are same_skipped, all_skipped and front_skipped.
use Rattle.std.proofs.Common.{◌≡◌, ◌||◌, Bool, true, false, List, [], ◌∷◌, ◌++◌, map, Option, None, Some, refl, sym, ap, subst, ◌∙◌, append-nil, true≢false}
use Rattle.std.specs.FinMap as fin
use Rattle.std.specs.List.{AllByRecursion}
use Rattle.std.specs.Ordering.{eq_by_cmp}
use Rattle.std.proofs.lemmas.List.{map-append}
use Rattle.std.proofs.lemmas.List.Folds.{list_any-append}
use Rattle.ids.specs.Key.{Objects}
use Rattle.tree_model.specs.Path.{PathV, path_cmp}
use Rattle.tree_model.proofs.ListedLemmas.{same_path-true}
use Rattle.block_chunker.specs.declared.cuts.Cuts.{Cuts}
use Rattle.folder_side.specs.Folder.{Contents, at}
use Rattle.folder_side.specs.declared.holding.Holding.{Holding}
use Rattle.folder_side.specs.declared.holding.Holding.TheVariants.{Other}
use Rattle.folder_side.specs.declared.scan_report.Scan.{Scan}
use Rattle.folder_side.specs.declared.scan_report.Seen.{Seen}
use Rattle.folder_side.specs.declared.scan_report.Seen.TheVariants as seen
use Rattle.object_graph.specs.Unchanged.{Keeps}
use Rattle.sync_rules.specs.Checkout.{Step, is_one_of, run}
use Rattle.tree_checkout.specs.Planning.{LooksScanned, LooksUndone, due_first}
use Rattle.tree_checkout.specs.SecondLook.{LooksAs, LooksFirst}
use Rattle.tree_checkout.specs.Steps.{LeavesOthers, paths_of}
use Rattle.tree_checkout.specs.declared.planning.Due.{Due}
use Rattle.tree_checkout.specs.declared.planning.Plan.{Plan}
use Rattle.tree_checkout.specs.declared.steps.Write.{Write}
use Rattle.tree_checkout.proofs.AskLemmas.{planned_paths}
use Rattle.tree_checkout.proofs.RemovalLemmas.{removed_apart}
use Rattle.sync_daemon.specs.Bringing.{AreMade}
use Rattle.sync_daemon.specs.Syncing.{KeepsSkipped}
use Rattle.sync_daemon.proofs.WrittenLemmas.{made_for}

pub keeps_itself : (objects : Objects) → Keeps objects objects
keeps_itself objects = record { kept = λ key bytes is. is }

-- a folder that stays keeps it
pub same_skipped : (told : Option Contents) → KeepsSkipped told told
same_skipped told = λ c d first later path is. (let both : Some c ≡ Some d = sym first ∙ later in let equal : d ≡ c = cc in ap (λ (x : Contents). at x path) equal ∙ is)

-- ---- lists of paths

-- a path that is in none of these
apart_by : (P : PathV → Type 0) (path other : PathV) → (P path → ⊥) → P other → (b : Bool) → eq_by_cmp path_cmp path other ≡ b → eq_by_cmp path_cmp path other ≡ false
apart_by P path other none is false e = e
apart_by P path other none is true e = absurd (none (subst P (sym (same_path-true path other e)) is))

none_of : (P : PathV → Type 0) (paths : List PathV) (path : PathV) → (P path → ⊥) → AllByRecursion P paths → is_one_of paths path ≡ false
none_of P [] path none all = refl
none_of P (other ∷ paths) path none all =
    ap (λ (b : Bool). b || is_one_of paths path) (apart_by P path other none all.0 (eq_by_cmp path_cmp path other) refl) ∙ none_of P paths path none all.1

pub one_of_front : (front rest : List PathV) (path : PathV) → is_one_of (front ++ rest) path ≡ false → is_one_of front path ≡ false
one_of_front [] rest path none = refl
one_of_front (p ∷ front) rest path none = by (eq_by_cmp path_cmp path p) none (one_of_front front rest path)
  where
    by : (b : Bool) → (b || is_one_of (front ++ rest) path) ≡ false → (is_one_of (front ++ rest) path ≡ false → is_one_of front path ≡ false) → (b || is_one_of front path) ≡ false
    by true apart next = absurd (true≢false apart)
    by false apart next = next apart

-- ---- a plan

not_seen : (cuts : Cuts) (first : Option Seen) → LooksAs cuts (Some Other) first → ⊥
not_seen cuts None looks = looks
not_seen cuts (Some seen.Dir) looks = looks
not_seen cuts (Some (seen.File blocks size)) looks = looks

none_due : (cuts : Cuts) (b : Contents) (scan : Scan) (dues : List Due) (path : PathV) → at b path ≡ Some Other → AllByRecursion (LooksUndone cuts b scan) dues
    → is_one_of (map (λ (d : Due). d.path) dues) path ≡ false
none_due cuts b scan [] path is all = refl
none_due cuts b scan (d ∷ dues) path is all =
    ap (λ (same : Bool). same || is_one_of (map (λ (other : Due). other.path) dues) path) (apart_by Looks path d.path never all.0 (eq_by_cmp path_cmp path d.path) refl)
    ∙ none_due cuts b scan dues path is all.1
  where
    Looks : PathV → Type 0
    Looks other = LooksAs cuts (at b other) (due_first scan d.path d.node)

    never : Looks path → ⊥
    never looks = not_seen cuts (due_first scan d.path d.node) (subst (λ (o : Option Holding). LooksAs cuts o (due_first scan d.path d.node)) is looks)

module _ (held : Objects) (cuts : Cuts) (c : Contents) (scan : Scan) (plan : Plan) (looks : LooksScanned cuts c scan plan) (writes : List Write) (made : AreMade held plan.writes writes) where
  module _ (path : PathV) (is : at c path ≡ Some Other) where
    not_gone : is_one_of plan.doomed path ≡ false
    not_gone =
        none_of (LooksFirst cuts c scan) plan.doomed path
        (λ l. not_seen cuts (fin.get scan.paths path) (subst (λ (o : Option Holding). LooksAs cuts o (fin.get scan.paths path)) is l)) looks.gone

    not_written : is_one_of (paths_of writes) path ≡ false
    not_written =
        ap (λ (paths : List PathV). is_one_of paths path) (sym (planned_paths held plan.writes writes (made_for held held (keeps_itself held) plan.writes writes made)))
        ∙ none_due cuts (run (map Step.Removed plan.doomed) c) scan plan.writes path (removed_apart plan.doomed c path not_gone ∙ is) looks.due

    -- nor is it at a path of a front of them
    not_touched : (gone kept : List PathV) (done rest : List Write) → plan.doomed ≡ gone ++ kept → writes ≡ done ++ rest → is_one_of (gone ++ paths_of done) path ≡ false
    not_touched gone kept done rest removed written =
        let paths : paths_of writes ≡ paths_of done ++ paths_of rest = ap paths_of written ∙ map-append (λ (w : Write). w.path) done rest in
        let first : is_one_of gone path ≡ false = one_of_front gone kept path (ap (λ (ps : List PathV). is_one_of ps path) (sym removed) ∙ not_gone) in
        let later : is_one_of (paths_of done) path ≡ false =
        one_of_front (paths_of done) (paths_of rest) path (ap (λ (ps : List PathV). is_one_of ps path) (sym paths) ∙ not_written) in
        list_any-append (λ (p : PathV). eq_by_cmp path_cmp path p) gone (paths_of done) ∙ (λ i. first i || later i)

  -- where a front of a plan was done
  pub front_skipped : (told now : Option Contents) → told ≡ Some c → (gone kept : List PathV) (done rest : List Write) → plan.doomed ≡ gone ++ kept → writes ≡ done ++ rest
      → LeavesOthers (gone ++ paths_of done) told now → (d : Contents) → now ≡ Some d → (path : PathV) → at c path ≡ Some Other → at d path ≡ Some Other
  front_skipped told now first gone kept done rest removed written others d later path is =
      others c d first later path (not_touched path is gone kept done rest removed written) ∙ is

  -- and where all of it was
  pub all_skipped : (told now : Option Contents) → told ≡ Some c → LeavesOthers (plan.doomed ++ paths_of writes) told now → (d : Contents) → now ≡ Some d → (path : PathV)
      → at c path ≡ Some Other → at d path ≡ Some Other
  all_skipped told now first others d later path is =
      front_skipped told now first plan.doomed [] writes [] (sym (append-nil plan.doomed)) (sym (append-nil writes)) others d later path is
