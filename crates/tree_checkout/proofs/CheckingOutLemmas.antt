-- A checkout, done or stopped. The key lemmas are checks_out, stops_removing, stops_writing and stopped_from.
use Rattle.std.proofs.Common.{◌≡◌, ◌⊎◌, ℕ, true, List, [], ◌++◌, map, Option, Some, is_some, Err, refl, sym, ap, ap₂, subst, ◌∙◌, inl, inr, append_assoc, append-nil}
use Rattle.std.specs.Prelude.{⊤}
use Rattle.std.proofs.lemmas.List.{map-append}
use Rattle.ids.specs.Key.{Objects}
use Rattle.tree_model.specs.Path.{PathV}
use Rattle.tree_model.proofs.ListedLemmas.{any_append, same_path}
use Rattle.block_chunker.specs.declared.cuts.Cuts.{Cuts}
use Rattle.folder_side.specs.Folder.{Contents, at}
use Rattle.folder_side.specs.declared.scan_report.Scan.{Scan}
use Rattle.remote_calls.specs.Sends.{Sent}
use Rattle.sync_rules.specs.Checkout.{DoesFrom, Front, Step, is_one_of, run}
use Rattle.sync_rules.specs.Named.{HasAll}
use Rattle.sync_rules.specs.declared.fault.SyncFault.{SyncFault}
use Rattle.sync_rules.specs.declared.fault.SyncFault.TheVariants as fault
use Rattle.tree_checkout.specs.BlockGets.{had_of, is_quiet}
use Rattle.tree_checkout.specs.CheckingOut.{ChecksOut, StopsOut, checkout_steps}
use Rattle.tree_checkout.specs.Steps.{IsWrongIn, LeavesOthers, RemovesAll, RemovesFront, StopsWrites, WritesAll, is_path_fault, owns_of, paths_of, write_step}
use Rattle.tree_checkout.specs.declared.block_gets.Source.{Source}
use Rattle.tree_checkout.specs.declared.steps.Write.{Write}
use Rattle.tree_checkout.proofs.PlanLooksLemmas.{both_false}
use Rattle.tree_checkout.proofs.RemovalLemmas.{front_at, removed_apart, run_both}
use Rattle.tree_checkout.proofs.StepsLemmas.{same_contents}

path_quiet : (f : SyncFault) → is_path_fault f ≡ true → is_quiet f ≡ true
path_quiet fault.Folder is = refl
path_quiet fault.NoMemory is = refl
path_quiet (fault.Changed path) is = refl
path_quiet other is = cc

path_no_size : (source : Source) (writes : List Write) (more : List Sent) (f : SyncFault) → is_path_fault f ≡ true → IsWrongIn source writes more f
path_no_size source writes more (fault.BadTree why) is = cc
path_no_size source writes more other is = tt

-- after removals, what is written
then_written : (objects : Objects) (gone : List PathV) (done : List Write) (c : Contents) (after : Option Contents)
    → after ≡ Some (run (map (write_step objects) done) (run (map Step.Removed gone) c)) → after ≡ Some (run (checkout_steps objects gone done) c)
then_written objects gone done c after is = is ∙ ap Some (sym (run_both (map Step.Removed gone) (map (write_step objects) done) c))

-- what is neither removed nor written
both_others : (gone : List PathV) (done : List Write) (before mid after : Option Contents)
    → ((c : Contents) → before ≡ Some c → mid ≡ Some (run (map Step.Removed gone) c)) → LeavesOthers (paths_of done) mid after
    → LeavesOthers (gone ++ paths_of done) before after
both_others gone done before mid after left others = λ c d is told q apart.
    let parts = both_false (is_one_of gone q) (is_one_of (paths_of done) q) (sym (any_append (same_path q) gone (paths_of done)) ∙ apart) in
    others (run (map Step.Removed gone) c) d (left c is) told q parts.1 ∙ removed_apart gone c q parts.0

none_touched : (told : Option Contents) → LeavesOthers [] told told
none_touched told = λ c d is now q apart. ap (λ (e : Contents). at e q) (same_contents d c (sym now ∙ is))

module _ (source : Source) (doomed : List PathV) (writes : List Write) (scan : Scan) (cuts : Cuts) (old new : List Sent) (before mid after : Option Contents) where
  pub checks_out : (had owns : List (List ℕ)) → had ≡ [] → RemovesAll doomed before mid → WritesAll source writes cuts old new mid after had owns
      → ChecksOut source doomed writes cuts old new before after owns
  checks_out had owns none removed all = record {
    more = all.more;
    grown = all.grown;
    got = all.got;
    left = λ c is objects has. then_written objects doomed writes c after (all.leaves.left (run (map Step.Removed doomed) c) (removed.left c is) objects has);
    sized = all.leaves.sized;
    tells = λ c is. all.leaves.tells (run (map Step.Removed doomed) c) (removed.left c is);
    others = both_others doomed writes before mid after removed.left all.leaves.others;
    owned = λ objects came. all.owned objects came ∙ ap (λ (first : List (List ℕ)). first ++ owns_of cuts objects writes) none;
  }

  pub stops_removing : (f : SyncFault) → new ≡ old → RemovesFront doomed scan cuts before after f → is_path_fault f ≡ true
      → StopsOut source doomed writes scan cuts old new before after f
  stops_removing f same front is = record {
    more = [];
    grown = same ∙ sym (append-nil old);
    stops = path_quiet f is;
    wrong = path_no_size source writes [] f is;
    gone = front.gone;
    kept = front.rest;
    removed = front.front;
    done = [];
    rest = writes;
    written = refl;
    order = inr refl;
    left = λ c told objects has. then_written objects front.gone [] c after (front.left c told);
    sized = λ objects has. tt;
    tells = λ c told. ap is_some (front.left c told);
    others = both_others front.gone [] before after after front.left (none_touched after);
    changed = front.changed writes;
  }

  pub stops_writing : (f : SyncFault) → RemovesAll doomed before mid → StopsWrites source writes scan cuts old new mid after f
      → StopsOut source doomed writes scan cuts old new before after f
  stops_writing f removed stops = record {
    more = stops.more;
    grown = stops.grown;
    stops = stops.stops;
    wrong = stops.wrong;
    gone = doomed;
    kept = [];
    removed = sym (append-nil doomed);
    done = stops.done;
    rest = stops.rest;
    written = stops.front;
    order = inl refl;
    left = λ c is objects has. then_written objects doomed stops.done c after (stops.leaves.left (run (map Step.Removed doomed) c) (removed.left c is) objects has);
    sized = stops.leaves.sized;
    tells = λ c is. stops.leaves.tells (run (map Step.Removed doomed) c) (removed.left c is);
    others = both_others doomed stops.done before mid after removed.left stops.leaves.others;
    changed = stops.changed;
  }

  -- a front of the steps of a plan
  steps_split : (objects : Objects) (gone kept : List PathV) (done rest : List Write) → doomed ≡ gone ++ kept → writes ≡ done ++ rest → (kept ≡ []) ⊎ (done ≡ [])
      → (left : List Step) × (checkout_steps objects doomed writes ≡ checkout_steps objects gone done ++ left)
  steps_split objects gone kept done rest removed written (inl none) = (
    map (write_step objects) rest,
    ap₂ (λ (x y : List Step). x ++ y)
        (ap (map Step.Removed) (removed ∙ ap (λ ps. gone ++ ps) none ∙ append-nil gone))
        (ap (map (write_step objects)) written ∙ map-append (write_step objects) done rest)
        ∙ sym (append_assoc (map Step.Removed gone) (map (write_step objects) done) (map (write_step objects) rest)),
  )
  steps_split objects gone kept done rest removed written (inr none) = (
    map Step.Removed kept ++ map (write_step objects) writes,
    ap (λ (x : List Step). x ++ map (write_step objects) writes) (ap (map Step.Removed) removed ∙ map-append Step.Removed gone kept)
        ∙ append_assoc (map Step.Removed gone) (map Step.Removed kept) (map (write_step objects) writes)
        ∙ ap (λ (x : List Step). x ++ (map Step.Removed kept ++ map (write_step objects) writes))
        (sym (ap (λ (ws : List Write). map Step.Removed gone ++ map (write_step objects) ws) none ∙ append-nil (map Step.Removed gone))),
  )

  pub stopped_from : (f : SyncFault) (stops : StopsOut source doomed writes scan cuts old new before after f) (c : Contents) → before ≡ Some c → (objects : Objects)
      → HasAll objects (had_of stops.more) → DoesFrom {T = ⊤} {E = SyncFault} (checkout_steps objects doomed writes) c after (Err f)
  stopped_from f stops c is objects has =
      let split = steps_split objects stops.gone stops.kept stops.done stops.rest stops.removed stops.written stops.order in
      let d : Contents = run (checkout_steps objects stops.gone stops.done) c in (
        d,
        stops.left c is objects has,
        subst (λ (steps : List Step). Front steps c d) (sym split.1) (front_at (checkout_steps objects stops.gone stops.done) split.0 c),
      )
