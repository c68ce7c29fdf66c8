-- The directories that are held by a plan are the stuck ones that the tree lacks. The key lemma is held_told.
use Rattle.std.proofs.Common.{◌≡◌, ◌&&◌, ◌||◌, Bool, true, false, if◌then◌else◌, List, [], ◌∷◌, map, nat_lt, Option, None, Some, option_map, is_some, option_and_then, refl, sym, ap, ap₂, ◌∙◌, inl, inr, true≢false}
use Rattle.std.specs.FinMap as fin
use Rattle.std.specs.List.{cons_option, filter_map, list_any}
use Rattle.ids.specs.Key.{Objects}
use Rattle.tree_model.specs.DirectorySurvival.{is_under, is_within}
use Rattle.tree_model.specs.Path.{PathV, path_cmp}
use Rattle.tree_model.specs.Tree.{Tree}
use Rattle.tree_model.specs.declared.node.Node.{Node}
use Rattle.tree_model.proofs.MovingLemmas.{In}
use Rattle.block_chunker.specs.declared.cuts.Cuts.{Cuts}
use Rattle.folder_side.specs.Folder.{Contents, at, is_dir, is_other}
use Rattle.folder_side.specs.ScanReport.{IsScan, is_visible, seen_of}
use Rattle.folder_side.specs.WorkingTree.{held_list, is_stuck, lacked, lacks}
use Rattle.folder_side.specs.declared.holding.Holding.{Holding}
use Rattle.folder_side.specs.declared.holding.Holding.TheVariants.{Dir, File, Other}
use Rattle.folder_side.specs.declared.scan_report.Scan.{Scan}
use Rattle.folder_side.specs.declared.scan_report.Seen.{Seen}
use Rattle.folder_side.proofs.SortedEntryLemmas.{Rises-entries, chosen, found_of, passes, same_keys}
use Rattle.object_graph.specs.Objects.{node_of}
use Rattle.object_graph.specs.declared.entry.Entry.{Entry}
use Rattle.tree_checkout.specs.Planning.{StandsFor, held_path, hides_in, is_dir_seen, is_lacked_in}
use Rattle.tree_checkout.specs.SecondLook.{is_dir_of}
use Rattle.tree_checkout.proofs.PlanningLemmas.{stuck_in}

-- what stays at a path
abbrev stays_if : Bool → Option Node → PathV → Option PathV
stays_if stuck here path = if stuck then lacked here path else None

abbrev stays_at : Tree → Contents → PathV → Option PathV
stays_at tree c path = stays_if (is_stuck c path) (fin.get tree path) path

abbrev told_if : Bool → PathV → Option PathV
told_if b path = if b then Some path else None

seen_visible : (cuts : Cuts) (h : Option Holding) → is_some (option_and_then (seen_of cuts) h) ≡ passes is_visible h
seen_visible cuts None = refl
seen_visible cuts (Some Dir) = refl
seen_visible cuts (Some (File bytes)) = refl
seen_visible cuts (Some Other) = refl

hidden_no_dir : (h : Holding) → is_visible h ≡ false → is_dir (Some h) ≡ false
hidden_no_dir Dir hidden = absurd (true≢false hidden)
hidden_no_dir (File bytes) hidden = refl
hidden_no_dir Other hidden = refl

held_by : (objects : Objects) (stuck : Bool) (e : Option Entry) (path : PathV)
    → told_if (stuck && is_lacked_in e) path ≡ stays_if stuck (option_map (node_of objects) e) path
held_by objects true None path = refl
held_by objects true (Some e) path = refl
held_by objects false e path = refl

module _ (tree : Tree) (c : Contents) where
  -- no other entry is stuck
  not_stuck : (e : PathV × Holding) → at c e.0 ≡ Some e.1 → is_visible e.1 ≡ false → is_stuck c e.0 ≡ false
  not_stuck e there hidden =
      ap (λ (b : Bool).
      b && (list_any (λ entry. is_under e.0 entry.0 && is_other entry.1) (fin.entries c.paths) || list_any (λ entry. is_within e.0 entry.0 && nat_lt 0 entry.1) (fin.entries c.nameless)))
      (ap is_dir there ∙ hidden_no_dir e.1 hidden)

  among_visible : (es : List (PathV × Holding)) → ((e : PathV × Holding) → In e es → at c e.0 ≡ Some e.1)
      → filter_map (stays_at tree c) (filter_map (chosen is_visible) es) ≡ filter_map (lacks tree c) es
  among_visible [] are = refl
  among_visible (e ∷ es) are = by (is_visible e.1) refl (among_visible es (λ f there. are f (inr there)))
    where
      by : (b : Bool) → is_visible e.1 ≡ b → filter_map (stays_at tree c) (filter_map (chosen is_visible) es) ≡ filter_map (lacks tree c) es
          → filter_map (stays_at tree c) (cons_option (if b then Some e.0 else None) (filter_map (chosen is_visible) es))
          ≡ cons_option (lacks tree c e) (filter_map (lacks tree c) es)
      by true visible more = ap (cons_option (lacks tree c e)) more
      by false hidden more =
          more ∙ ap (λ (b : Bool). cons_option (stays_if b (fin.get tree e.0) e.0) (filter_map (lacks tree c) es)) (sym (not_stuck e (are e (inl refl)) hidden))

  module _ (cuts : Cuts) (scan : Scan) (is_scan : IsScan cuts c scan) (objects : Objects) (entries : fin.FinMap path_cmp Entry) (stands : StandsFor objects entries tree) where
    stays_same : (e : PathV × Seen) → fin.get scan.paths e.0 ≡ Some e.1 → held_path scan entries e ≡ stays_at tree c e.0
    stays_same e there =
        held_by objects (is_dir_of e.1 && hides_in scan e.0) (fin.get entries e.0) e.0
        ∙ ap₂ (λ (b : Bool) (o : Option Node). stays_if b o e.0)
        (ap (λ (o : Option Seen). is_dir_seen o && hides_in scan e.0) (sym there) ∙ stuck_in cuts c scan is_scan e.0)
        (sym (stands e.0))

    stays_all : (es : List (PathV × Seen)) → ((e : PathV × Seen) → In e es → fin.get scan.paths e.0 ≡ Some e.1)
        → filter_map (held_path scan entries) es ≡ filter_map (stays_at tree c) (map (λ e. e.0) es)
    stays_all [] are = refl
    stays_all (e ∷ es) are =
        ap₂ (λ (o : Option PathV) (ps : List PathV). cons_option o ps) (stays_same e (are e (inl refl))) (stays_all es (λ f there. are f (inr there)))

    pub held_told : (held : List PathV) → held ≡ filter_map (held_path scan entries) (fin.entries scan.paths) → held ≡ held_list tree c
    held_told held is =
        is ∙ stays_all (fin.entries scan.paths) (λ e there. fin.get-entries scan.paths e.0 ∙ found_of (fin.entries scan.paths) e (Rises-entries scan.paths) there)
        ∙ ap (filter_map (stays_at tree c))
        (same_keys is_visible (fin.entries c.paths) (Rises-entries c.paths) (fin.entries scan.paths) (Rises-entries scan.paths) seen_keys)
        ∙ among_visible (fin.entries c.paths) (λ e there. fin.get-entries c.paths e.0 ∙ found_of (fin.entries c.paths) e (Rises-entries c.paths) there)
      where
        seen_keys : (q : PathV) → is_some (fin.find path_cmp q (fin.entries scan.paths)) ≡ passes is_visible (fin.find path_cmp q (fin.entries c.paths))
        seen_keys q =
            ap is_some (sym (fin.get-entries scan.paths q) ∙ is_scan.paths q) ∙ seen_visible cuts (at c q)
            ∙ ap (passes is_visible) (fin.get-entries c.paths q)
