-- No change is told where all looks as it did first, and where none is told it did. The key lemmas are writes_same, unwritten_more and
-- unwritten_all.
use Rattle.std.proofs.Common.{◌≡◌, ℕ, ◌+◌, ◌<◌, ◌≤◌, true, false, List, [], ◌∷◌, ◌++◌, length, take, drop, get_or, Option, None, Some, is_some, refl, sym, ap, subst, ◌∙◌}
use Rattle.std.specs.List.{AllByRecursion, IsDistinct}
use Rattle.std.specs.Ordering.{eq_by_cmp}
use Rattle.std.proofs.lemmas.Bool.{true≢false}
use Rattle.std.proofs.lemmas.List.{map-append, take-append-drop, take_all, take_more}
use Rattle.ids.proofs.BasicLemmas.{AllByRecursion-middle, AllByRecursion-push}
use Rattle.tree_model.specs.Path.{PathV, path_cmp}
use Rattle.block_chunker.specs.declared.cuts.Cuts.{Cuts}
use Rattle.folder_side.specs.Folder.{Contents}
use Rattle.folder_side.specs.declared.holding.Holding.{Holding}
use Rattle.folder_side.specs.declared.scan_report.Scan.{Scan}
use Rattle.remote_calls.specs.Sends.{Sent}
use Rattle.sync_rules.specs.Checkout.{is_one_of}
use Rattle.sync_rules.specs.declared.fault.SyncFault.{SyncFault}
use Rattle.tree_walk.proofs.StepsLemmas.{next_entry}
use Rattle.tree_checkout.specs.SecondLook.{LooksAs}
use Rattle.tree_checkout.specs.Steps.{LooksUnwritten, StopsOne, WritesAll, node_first, paths_of}
use Rattle.tree_checkout.specs.Writing.{IsOther, is_change}
use Rattle.tree_checkout.specs.declared.block_gets.Source.{Source}
use Rattle.tree_checkout.specs.declared.steps.Write.{Write}
use Rattle.tree_checkout.specs.declared.steps.WriteNode.{WriteNode}
use Rattle.tree_checkout.specs.declared.steps.WriteNode.TheVariants as write
use Rattle.tree_checkout.proofs.RemovalLemmas.{once_in, unchanged}
use Rattle.tree_checkout.proofs.WritingLemmas.{look_other}

one_other : (source : Source) (path : PathV) (node : WriteNode) (scan : Scan) (cuts : Cuts) (now new : List Sent) (mid after : Option Contents) (f : SyncFault)
    → StopsOne source path node scan cuts now new mid after f → IsOther cuts mid path (node_first scan path node) f
one_other source path write.Dir scan cuts now new mid after f one = look_other cuts mid path None f one.1
one_other source path (write.File file) scan cuts now new mid after f one = one.other

pub writes_same : (source : Source) (writes : List Write) (index : ℕ) (w : Write) (scan : Scan) (cuts : Cuts) (old now new : List Sent) (before mid after : Option Contents) (had noted : List (List ℕ))
    (f : SyncFault) (c : Contents) → index < length writes → w ≡ get_or writes index w → WritesAll source (take index writes) cuts old now before mid had noted
    → StopsOne source w.path w.node scan cuts now new mid after f → before ≡ Some c → IsDistinct (eq_by_cmp path_cmp) (paths_of writes)
    → AllByRecursion (LooksUnwritten cuts c scan) writes → is_change f ≡ false
writes_same source writes index w scan cuts old now new before mid after had noted f c below is all one told once looks = by mid refl
  where
    split : writes ≡ take index writes ++ w ∷ drop (index + 1) writes
    split = sym (take-append-drop index writes) ∙ ap (λ (rest : List Write). take index writes ++ rest) (next_entry writes index w below is)

    apart : is_one_of (paths_of (take index writes)) w.path ≡ false
    apart =
        once_in (paths_of (take index writes)) w.path (paths_of (drop (index + 1) writes))
        (subst (IsDistinct (eq_by_cmp path_cmp)) (ap paths_of split ∙ map-append (λ (v : Write). v.path) (take index writes) (w ∷ drop (index + 1) writes)) once)

    here : LooksUnwritten cuts c scan w
    here = AllByRecursion-middle (LooksUnwritten cuts c scan) (take index writes) w (drop (index + 1) writes) (subst (AllByRecursion (LooksUnwritten cuts c scan)) split looks)

    by : (m : Option Contents) → mid ≡ m → is_change f ≡ false
    by None none = absurd (true≢false (sym (all.leaves.tells c told) ∙ ap is_some none))
    by (Some m) some =
        unchanged cuts mid w.path (node_first scan w.path w.node) m f some
        (subst (λ (o : Option Holding). LooksAs cuts o (node_first scan w.path w.node)) (sym (all.leaves.others c m told some w.path apart)) here)
        (one_other source w.path w.node scan cuts now new mid after f one)

-- each write found what it was to find
pub unwritten_more : (source : Source) (writes : List Write) (index : ℕ) (w : Write) (scan : Scan) (cuts : Cuts) (old now : List Sent) (before mid : Option Contents)
    (had noted : List (List ℕ)) (c : Contents) → index < length writes → w ≡ get_or writes index w → WritesAll source (take index writes) cuts old now before mid had noted
    → before ≡ Some c → IsDistinct (eq_by_cmp path_cmp) (paths_of writes) → AllByRecursion (LooksUnwritten cuts c scan) (take index writes)
    → ((d : Contents) → mid ≡ Some d → LooksUnwritten cuts d scan w) → AllByRecursion (LooksUnwritten cuts c scan) (take (index + 1) writes)
unwritten_more source writes index w scan cuts old now before mid had noted c below is all told once found here =
    subst (AllByRecursion (LooksUnwritten cuts c scan)) (sym (take_more writes index w below ∙ ap (λ (v : Write). take index writes ++ v ∷ []) (sym is)))
    (AllByRecursion-push (LooksUnwritten cuts c scan) (take index writes) w found (by mid refl))
  where
    split : writes ≡ take index writes ++ w ∷ drop (index + 1) writes
    split = sym (take-append-drop index writes) ∙ ap (λ (rest : List Write). take index writes ++ rest) (next_entry writes index w below is)

    apart : is_one_of (paths_of (take index writes)) w.path ≡ false
    apart =
        once_in (paths_of (take index writes)) w.path (paths_of (drop (index + 1) writes))
        (subst (IsDistinct (eq_by_cmp path_cmp)) (ap paths_of split ∙ map-append (λ (v : Write). v.path) (take index writes) (w ∷ drop (index + 1) writes)) once)

    by : (m : Option Contents) → mid ≡ m → LooksUnwritten cuts c scan w
    by None none = absurd (true≢false (sym (all.leaves.tells c told) ∙ ap is_some none))
    by (Some m) some =
        subst (λ (o : Option Holding). LooksAs cuts o (node_first scan w.path w.node)) (all.leaves.others c m told some w.path apart) (here m some)

pub unwritten_all : (writes : List Write) (index : ℕ) (scan : Scan) (cuts : Cuts) (c : Contents) → length writes ≤ index
    → AllByRecursion (LooksUnwritten cuts c scan) (take index writes) → AllByRecursion (LooksUnwritten cuts c scan) writes
unwritten_all writes index scan cuts c over found = subst (AllByRecursion (LooksUnwritten cuts c scan)) (take_all index writes over) found
