-- Fronts of steps, removals one after another, and where a change is told. The key lemmas are front_at, run_both, stop_unless, stop_here,
-- stop_write, removed_more, removed_stop, removed_all, removed_same, found_more and found_all.
use Rattle.std.proofs.Common.{◌≡◌, ◌⊎◌, ◌||◌, ℕ, ◌+◌, ◌<◌, ◌≤◌, Bool, true, false, cond, List, [], ◌∷◌, ◌++◌, length, map, take, drop, get_or, Option, None, Some, option_map, refl, sym, ap, ap₂, subst, ◌∙◌, inl, inr}
use Rattle.std.specs.FinMap as fin
use Rattle.std.specs.List.{AllByRecursion, IsDistinct}
use Rattle.std.specs.Cmp.{eq_by_cmp_equiv}
use Rattle.std.specs.Ordering.{eq_by_cmp}
use Rattle.std.proofs.lemmas.Bool.{true≢false}
use Rattle.std.proofs.lemmas.List.{map-append, take-append-drop, take_all, take_more}
use Rattle.ids.proofs.BasicLemmas.{AllByRecursion-middle, AllByRecursion-push}
use Rattle.tree_model.specs.Path.{PathV, path_cmp}
use Rattle.tree_model.specs.PathOrder.{paths_total}
use Rattle.tree_model.proofs.ListedLemmas.{same_path}
use Rattle.block_chunker.specs.declared.cuts.Cuts.{Cuts}
use Rattle.folder_side.specs.Folder.{Contents, at, without}
use Rattle.folder_side.specs.declared.holding.Holding.{Holding}
use Rattle.folder_side.specs.declared.scan_report.Scan.{Scan}
use Rattle.folder_side.specs.declared.scan_report.Seen.{Seen}
use Rattle.sync_rules.specs.Checkout.{Front, Step, do_step, is_one_of, run}
use Rattle.sync_rules.specs.declared.fault.SyncFault.{SyncFault}
use Rattle.sync_rules.proofs.PlanLemmas.{removed_at}
use Rattle.sync_rules.specs.declared.fault.SyncFault.TheVariants as fault
use Rattle.tree_walk.proofs.StepsLemmas.{next_entry}
use Rattle.tree_checkout.specs.SecondLook.{IsLookFault, LooksAs, LooksFirst}
use Rattle.tree_checkout.specs.Steps.{IsStopAt, RemovesAll, RemovesFront, is_path_fault, node_first}
use Rattle.tree_checkout.specs.Writing.{IsOther, is_change}
use Rattle.tree_checkout.specs.declared.steps.Write.{Write}
use Rattle.tree_checkout.proofs.WritingLemmas.{look_other}

-- ---- fronts

pub front_at : (done left : List Step) (c : Contents) → Front (done ++ left) c (run done c)
front_at [] left c = Front.stopped left c
front_at (step ∷ done) left c = Front.went step (done ++ left) c (run done (do_step step c)) (front_at done left (do_step step c))

pub run_both : (first later : List Step) (c : Contents) → run (first ++ later) c ≡ run later (run first c)
run_both [] later c = refl
run_both (step ∷ first) later c = run_both first later (do_step step c)

pub run_more : (steps : List Step) (step : Step) (c : Contents) → run (steps ++ step ∷ []) c ≡ do_step step (run steps c)
run_more steps step c = run_both steps (step ∷ []) c

-- ---- where a change is told

pub stop_unless : (cuts : Cuts) (scan : Scan) (kept : List PathV) (rest : List Write) (told : Option Contents) (f : SyncFault) → is_change f ≡ false
    → IsStopAt cuts scan kept rest told f
stop_unless cuts scan kept rest told (fault.Changed other) stays = absurd (true≢false stays)
stop_unless cuts scan kept rest told other stays = tt

pub stop_here : (cuts : Cuts) (scan : Scan) (path : PathV) (kept : List PathV) (rest : List Write) (before after : Option Contents) (f : SyncFault) → after ≡ before
    → IsOther cuts before path (fin.get scan.paths path) f → IsStopAt cuts scan (path ∷ kept) rest after f
stop_here cuts scan path kept rest before after (fault.Changed changed) same other = (other.0, λ c told. other.1 c (sym same ∙ told))
stop_here cuts scan path kept rest before after f same other = tt

pub stop_write : (cuts : Cuts) (scan : Scan) (w : Write) (rest : List Write) (before after : Option Contents) (f : SyncFault) → after ≡ before
    → IsOther cuts before w.path (node_first scan w.path w.node) f → IsStopAt cuts scan [] (w ∷ rest) after f
stop_write cuts scan w rest before after (fault.Changed changed) same other = (other.0, λ c told. other.1 c (sym same ∙ told))
stop_write cuts scan w rest before after f same other = tt

-- ---- removals

pub next_path : {X : Type 0} (xs : List X) (index : ℕ) (x : X) → index < length xs → x ≡ get_or xs index x → take (index + 1) xs ≡ take index xs ++ x ∷ []
next_path xs index x below is = take_more xs index x below ∙ ap (λ y. take index xs ++ y ∷ []) (sym is)

removed_run : (paths : List PathV) (index : ℕ) (path : PathV) (c : Contents) → index < length paths → path ≡ get_or paths index path
    → run (map Step.Removed (take (index + 1) paths)) c ≡ without path (run (map Step.Removed (take index paths)) c)
removed_run paths index path c below is =
    ap (λ (ps : List PathV). run (map Step.Removed ps) c) (next_path paths index path below is)
    ∙ ap (λ (steps : List Step). run steps c) (map-append Step.Removed (take index paths) (path ∷ []))
    ∙ run_more (map Step.Removed (take index paths)) (Step.Removed path) c

pub removed_more : (paths : List PathV) (index : ℕ) (path : PathV) (c : Contents) (before after : Option Contents) → index < length paths → path ≡ get_or paths index path
    → before ≡ Some (run (map Step.Removed (take index paths)) c) → after ≡ option_map (without path) before
    → after ≡ Some (run (map Step.Removed (take (index + 1) paths)) c)
removed_more paths index path c before after below is now done =
    done ∙ ap (option_map (without path)) now ∙ ap Some (sym (removed_run paths index path c below is))

module _ (paths : List PathV) (index : ℕ) (path : PathV) (first before after : Option Contents) (below : index < length paths) (is : path ≡ get_or paths index path)
    (now : (c : Contents) → first ≡ Some c → before ≡ Some (run (map Step.Removed (take index paths)) c)) (scan : Scan) (cuts : Cuts) (f : SyncFault) where
  not_removed : after ≡ before → IsOther cuts before path (fin.get scan.paths path) f → RemovesFront paths scan cuts first after f
  not_removed same other = record {
    gone = take index paths;
    rest = drop index paths;
    front = sym (take-append-drop index paths);
    left = λ c told. same ∙ now c told;
    changed = λ writes.
        subst (λ (kept : List PathV). IsStopAt cuts scan kept writes after f) (sym (next_entry paths index path below is))
        (stop_here cuts scan path (drop (index + 1) paths) writes before after f same other);
  }

  was_removed : after ≡ option_map (without path) before → is_change f ≡ false → RemovesFront paths scan cuts first after f
  was_removed done stays = record {
    gone = take (index + 1) paths;
    rest = drop (index + 1) paths;
    front = sym (take-append-drop (index + 1) paths);
    left = λ c told. removed_more paths index path c before after below is (now c told) done;
    changed = λ writes. stop_unless cuts scan (drop (index + 1) paths) writes after f stays;
  }

  pub removed_stop : (is_change f ≡ true → after ≡ before) → IsLookFault cuts before path (fin.get scan.paths path) f
      → (after ≡ before) ⊎ (after ≡ option_map (without path) before) → RemovesFront paths scan cuts first after f
  removed_stop untouched cause left = by (is_change f) refl left
    where
      other : IsOther cuts before path (fin.get scan.paths path) f
      other = look_other cuts before path (fin.get scan.paths path) f cause

      by : (b : Bool) → is_change f ≡ b → (after ≡ before) ⊎ (after ≡ option_map (without path) before) → RemovesFront paths scan cuts first after f
      by true changed some = not_removed (untouched changed) other
      by false stays (inl same) = not_removed same other
      by false stays (inr done) = was_removed done stays

pub removed_all : (paths : List PathV) (index : ℕ) (first told : Option Contents) → length paths ≤ index
    → ((c : Contents) → first ≡ Some c → told ≡ Some (run (map Step.Removed (take index paths)) c)) → RemovesAll paths first told
removed_all paths index first told over now = record {
  left = λ c is. now c is ∙ ap (λ (ps : List PathV). Some (run (map Step.Removed ps) c)) (take_all index paths over);
}

pub look_of_path : (cuts : Cuts) (told : Option Contents) (path : PathV) (first : Option Seen) (f : SyncFault) → IsLookFault cuts told path first f → is_path_fault f ≡ true
look_of_path cuts told path first fault.Folder is = refl
look_of_path cuts told path first fault.NoMemory is = refl
look_of_path cuts told path first (fault.Changed changed) is = refl
look_of_path cuts told path first other is = absurd is

-- ---- what stands at a path before its turn is what stood there first

-- a path that stands once in a list is none of those before it
pub once_in : (front : List PathV) (path : PathV) (rest : List PathV) → IsDistinct (eq_by_cmp path_cmp) (front ++ path ∷ rest) → is_one_of front path ≡ false
unfolding IsDistinct
once_in [] path rest once = refl
once_in (p ∷ front) path rest once =
    ap₂ (λ (a b : Bool). a || b)
    ((eq_by_cmp_equiv paths_total).symm path p ∙ AllByRecursion-middle (λ q. same_path p q ≡ false) front path rest once.0)
    (once_in front path rest once.1)

pub removed_apart : (paths : List PathV) (c : Contents) (q : PathV) → is_one_of paths q ≡ false → at (run (map Step.Removed paths) c) q ≡ at c q
removed_apart paths c q apart = removed_at paths c q ∙ ap (λ (b : Bool). cond b None (at c q)) apart

-- where it looks as it did first, no change is told
pub unchanged : (cuts : Cuts) (told : Option Contents) (path : PathV) (first : Option Seen) (c : Contents) (f : SyncFault) → told ≡ Some c → LooksAs cuts (at c path) first
    → IsOther cuts told path first f → is_change f ≡ false
unchanged cuts told path first c (fault.Changed changed) is looks other = absurd (other.1 c is looks)
unchanged cuts told path first c f is looks other = refl

pub removed_same : (cuts : Cuts) (scan : Scan) (paths : List PathV) (index : ℕ) (path : PathV) (c : Contents) (told : Option Contents) (f : SyncFault)
    → index < length paths → path ≡ get_or paths index path → IsDistinct (eq_by_cmp path_cmp) paths → AllByRecursion (LooksFirst cuts c scan) paths
    → told ≡ Some (run (map Step.Removed (take index paths)) c) → IsLookFault cuts told path (fin.get scan.paths path) f → is_change f ≡ false
removed_same cuts scan paths index path c told f below is once looks now cause =
    let split : paths ≡ take index paths ++ path ∷ drop (index + 1) paths =
    sym (take-append-drop index paths) ∙ ap (λ (rest : List PathV). take index paths ++ rest) (next_entry paths index path below is) in
    let apart = once_in (take index paths) path (drop (index + 1) paths) (subst (IsDistinct (eq_by_cmp path_cmp)) split once) in
    let here = AllByRecursion-middle (LooksFirst cuts c scan) (take index paths) path (drop (index + 1) paths) (subst (AllByRecursion (LooksFirst cuts c scan)) split looks) in
    unchanged cuts told path (fin.get scan.paths path) (run (map Step.Removed (take index paths)) c) f now
    (subst (λ (o : Option Holding). LooksAs cuts o (fin.get scan.paths path)) (sym (removed_apart (take index paths) c path apart)) here)
    (look_other cuts told path (fin.get scan.paths path) f cause)

-- each path that was removed stood there as it was seen
pub found_more : (cuts : Cuts) (scan : Scan) (paths : List PathV) (index : ℕ) (path : PathV) (c : Contents) (told : Option Contents)
    → index < length paths → path ≡ get_or paths index path → IsDistinct (eq_by_cmp path_cmp) paths → AllByRecursion (LooksFirst cuts c scan) (take index paths)
    → told ≡ Some (run (map Step.Removed (take index paths)) c) → ((d : Contents) → told ≡ Some d → LooksFirst cuts d scan path)
    → AllByRecursion (LooksFirst cuts c scan) (take (index + 1) paths)
found_more cuts scan paths index path c told below is once found now here =
    let split : paths ≡ take index paths ++ path ∷ drop (index + 1) paths =
    sym (take-append-drop index paths) ∙ ap (λ (rest : List PathV). take index paths ++ rest) (next_entry paths index path below is) in
    let apart = once_in (take index paths) path (drop (index + 1) paths) (subst (IsDistinct (eq_by_cmp path_cmp)) split once) in
    subst (AllByRecursion (LooksFirst cuts c scan)) (sym (next_path paths index path below is))
    (AllByRecursion-push (LooksFirst cuts c scan) (take index paths) path found
    (subst (λ (o : Option Holding). LooksAs cuts o (fin.get scan.paths path)) (removed_apart (take index paths) c path apart)
    (here (run (map Step.Removed (take index paths)) c) now)))

pub found_all : (cuts : Cuts) (scan : Scan) (paths : List PathV) (index : ℕ) (c : Contents) → length paths ≤ index
    → AllByRecursion (LooksFirst cuts c scan) (take index paths) → AllByRecursion (LooksFirst cuts c scan) paths
found_all cuts scan paths index c over found = subst (AllByRecursion (LooksFirst cuts c scan)) (take_all index paths over) found
