-- What was planned is carried out.
use Rattle.std.proofs.Common.{◌≡◌, ◌∙◌, ◌||◌, ◌&&◌, not, List, [], true, ap, sym, subst, refl, None, Some, is_some, Ok, Err}
use Rattle.std.specs.Prelude.{⊤}
use Rattle.std.specs.FinMap as map
use Rattle.std.specs.FinSet as set
use Rattle.ids.specs.Key.{Objects}
use Rattle.ids.specs.declared.key.Key.{Key}
use Rattle.library_rules.specs.Changes.{keys_added}
use Rattle.library_rules.specs.LibraryState.{is_stored}
use Rattle.library_rules.proofs.HeadTreeLemmas.{head_kept}
use Rattle.library_rules.proofs.KeepingLemmas.{added_stored}
use Rattle.object_graph.specs.Traversal.{is_in}
use Rattle.object_store.specs.StoreView.{Index, Keeps, objects_of}
use Rattle.depot.specs.Fresh.{AreNewIn, MayHaveFresh}
use Rattle.depot.specs.Held.{HoldsMore, lacking}
use Rattle.depot.specs.Shields.{AreWhole, ListsNeeded, ListsNeededIn, unstored}
use Rattle.library_rules.specs.LibraryState.{head_of}
use Rattle.library_state.specs.declared.call.Act.TheVariants as act
use Rattle.library_state.specs.declared.call.Call.{Call}
use Rattle.library_state.specs.declared.reply.Reply.{Reply}
use Rattle.library_state.specs.declared.reply.Reply.TheVariants as reply
use Rattle.library_state.specs.declared.state.LibState.{LibState}
use Rattle.library_rules.specs.Calls.{due}
use Rattle.library_rules.proofs.BesideStepLemmas.{told_keys}
use Rattle.object_store.proofs.StrayLemmas.{strays_kept}
use Rattle.object_store.specs.Store.{CountsShelf}
use Rattle.depot.specs.Answering.{MayAnswer, Serves, with_install}
use Rattle.depot.specs.ObjectCalls.{Counts}
use Rattle.depot.specs.Refusals.{store_refusal}
use Rattle.depot.specs.DepotView.{DepotView, depot_of, library, marked_of, running_of}
use Rattle.depot.specs.FreshKeys.{RunsOn, told_there}
use Rattle.depot.specs.UpdateInstall.{CarriesSo, held_in}
use Rattle.depot.specs.Plan.{objects_in}
use Rattle.depot.proofs.GoodLemmas.{sound_at}
use Rattle.depot.proofs.FitsLemmas.{fits_carried, fits_same}
use Rattle.depot.proofs.BesideLemmas.{FreshTold, good_rest, serves_beside}
use Rattle.depot.proofs.CallFreshLemmas.{made_runs, same_fresh, same_runs}
use Rattle.depot.proofs.FreshLemmas.{as_before, runs_as, runs_then, shields_as}
use Rattle.depot.proofs.UpdateBesideLemmas.{came_all, came_of, left_fresh, made_fresh, made_now, part_left, taken_back_each, taken_back_runs, taken_of}
use Rattle.depot.proofs.UpdateKeptLemmas.{added_keeps, fresh_goes, fresh_none, kept_installed, kept_unshielded, same_keeps, shielded_goes, shielded_none, twice_goes, was_with}
use Rattle.depot.proofs.UpdateWholeLemmas.{plan_fault, plan_whole, whole_due}
use Rattle.depot.proofs.GrownLemmas.{good_kept, kept_status}
use Rattle.depot.proofs.KeptLemmas.{kept_read, serves_same}
use Rattle.depot.proofs.MarkedLemmas.{marked_fresh, marked_shielded}
use Rattle.depot.proofs.RefusalsLemmas.{told_damage}
use Rattle.depot.proofs.UpdateGoodLemmas.{good_done, good_failed, held_kept, serves_done, serves_failed, serves_kept, serves_refused}
use Rattle.depot.proofs.UpdatePlanLemmas.{decides_at, plan_puttable, plans_at}
use Rattle.depot.proofs.GivingLemmas.{no_more, read_by}
use Rattle.depot.proofs.depot.Parts.update_library.Goals as goal

pub plan_of-requires-clause-within : goal.plan_of-requires-clause-within
plan_of-requires-clause-within g c = c.requires.who.1.at.within

pub plan_of-requires-clause-ready : goal.plan_of-requires-clause-ready
plan_of-requires-clause-ready g c =
    let old : DepotView g.row.S.Denot = depot_of c.args.self.now.store c.args.self.now.state c.args.self.now.unsettled c.args.running.now in
    record {
      sound = λ objects count told. sound_at g.S.Shelf.contents g.S.Shelf.faults old (good_rest g.S.Shelf.contents g.S.Shelf.faults old c.requires.good.good) objects count told;
      known = c.requires.good.fits;
      some_kept = c.requires.good.good.head;
    }

-- ---- refused before a plan, or none is needed

pub returns-in-Err-clause-value : goal.returns-in-Err-clause-value
returns-in-Err-clause-value g c = λ call asks updates.
    let old : DepotView g.row.S.Denot = depot_of c.args.self.now.store c.args.self.now.state c.args.self.now.unsettled c.args.running.now in
    let new : DepotView g.row.S.Denot = record old { store = c.plan_of.new.store } in
    let keeps = c.in-Err.ensures.stays.kept in
    serves_same g.S.Shelf.contents g.S.Shelf.faults old new keeps.index keeps.objects g.S.Shelf.may_give g.S.Shelf.texts call c.args.moment (reply.Refused c.in-Err.why) refl refl
    (ap (λ a. told_there old.store.index a (reply.Refused c.in-Err.why)) updates) (λ now. ap (λ a. told_keys now a (reply.Refused c.in-Err.why)) updates)
    (serves_refused g.S.Shelf.contents g.S.Shelf.may_give g.S.Shelf.texts g.S.Shelf.faults old
    call c.args.moment c.args.pushed updates c.plan_of.new.store keeps c.in-Err.ensures.stays.written c.in-Err.why
    (λ objects told. c.in-Err.ensures.value objects (g.S.Shelf.faults c.args.self.now.store.shelf) told call asks updates) c.in-Err.ensures.stays.count
    (c.in-Err.ensures.any call asks updates) c.in-Err.ensures.damaged)

pub returns-in-Err-clause-stands : goal.returns-in-Err-clause-stands
returns-in-Err-clause-stands g c =
    let old : DepotView g.row.S.Denot = depot_of c.args.self.now.store c.args.self.now.state c.args.self.now.unsettled c.args.running.now in
    kept_read g.S.Shelf.contents g.S.Shelf.faults old c.plan_of.new.store c.in-Err.ensures.stays.kept c.args.known.now c.plan_of.new.known c.args.running.now c.requires.good c.in-Err.ensures.known

pub head_of-requires : goal.head_of-requires
head_of-requires g c = record { some = λ none. c.requires.good.good.head (sym c.slice.ensures.value ∙ none) }

pub returns-in-None-clause-value : goal.returns-in-None-clause-value
returns-in-None-clause-value g c = λ call asks updates.
    let old : DepotView g.row.S.Denot = depot_of c.args.self.now.store c.args.self.now.state c.args.self.now.unsettled c.args.running.now in
    let new : DepotView g.row.S.Denot = record old { store = c.plan_of.new.store } in
    let keeps = c.in-Ok.ensures.stays.kept in
    let decides = decides_at c.args.self.now.state call c.args.pushed c.plan_of.new.store.index (g.S.Shelf.may_give c.plan_of.new.store.shelf) c.in-Ok.plan None c.in-None.is (c.in-Ok.ensures.any call asks updates) in
    subst (λ id. Serves g.S.Shelf.contents g.S.Shelf.may_give g.S.Shelf.texts g.S.Shelf.faults old call c.args.moment (reply.Updated id) new) (sym (c.head_of.ensures.value ∙ ap head_of c.slice.ensures.value))
    (serves_same g.S.Shelf.contents g.S.Shelf.faults old new keeps.index keeps.objects g.S.Shelf.may_give g.S.Shelf.texts call c.args.moment (reply.Updated (head_of old.state.kept)) refl refl
    (ap (λ a. told_there old.store.index a (reply.Updated (head_of old.state.kept))) updates) (λ now. ap (λ a. told_keys now a (reply.Updated (head_of old.state.kept))) updates)
    (serves_kept g.S.Shelf.contents g.S.Shelf.may_give g.S.Shelf.texts g.S.Shelf.faults old call c.args.moment c.args.pushed updates c.plan_of.new.store keeps c.in-Ok.ensures.stays.written decides.0
    (λ objects told. (plans_at (library c.args.self.now.state (g.S.Shelf.faults c.args.self.now.store.shelf) objects) c.args.moment c.args.pushed
    (due (library c.args.self.now.state (g.S.Shelf.faults c.args.self.now.store.shelf) objects) call) c.in-Ok.plan None c.in-None.is
    (c.in-Ok.ensures.value objects (g.S.Shelf.faults c.args.self.now.store.shelf) told call asks updates)).1)
    c.in-Ok.ensures.stays.count decides.1))

pub returns-in-None-clause-stands : goal.returns-in-None-clause-stands
returns-in-None-clause-stands g c =
    let old : DepotView g.row.S.Denot = depot_of c.args.self.now.store c.args.self.now.state c.args.self.now.unsettled c.args.running.now in
    kept_read g.S.Shelf.contents g.S.Shelf.faults old c.plan_of.new.store c.in-Ok.ensures.stays.kept c.args.known.now c.plan_of.new.known c.args.running.now c.requires.good c.in-Ok.ensures.known

-- ---- carried out, or stopped: the rest as where no collection runs, and then beside one

pub carry_out-requires-clause-named : goal.carry_out-requires-clause-named
carry_out-requires-clause-named g c =
    (decides_at c.args.self.now.state (record { secret = c.requires.who.0; act = act.Update c.args.pushed }) c.args.pushed c.plan_of.new.store.index (g.S.Shelf.may_give c.plan_of.new.store.shelf) c.in-Ok.plan
    (Some c.in-Some.plan) c.in-Some.is (c.in-Ok.ensures.any (record { secret = c.requires.who.0; act = act.Update c.args.pushed }) c.requires.who.1 refl)).2

pub carry_out-requires-clause-ready : goal.carry_out-requires-clause-ready
carry_out-requires-clause-ready g c = λ objects told.
    let call : Call = record { secret = c.requires.who.0; act = act.Update c.args.pushed } in
    let before = sym (c.in-Ok-prepare.ensures.stays.kept.objects ∙ c.in-Ok.ensures.stays.kept.objects) ∙ told in
    plan_puttable (library c.args.self.now.state 0 objects) c.args.moment (due (library c.args.self.now.state 0 objects) call) c.in-Some.plan
    (plans_at (library c.args.self.now.state 0 objects) c.args.moment c.args.pushed (due (library c.args.self.now.state 0 objects) call) c.in-Ok.plan (Some c.in-Some.plan) c.in-Some.is
    (c.in-Ok.ensures.value objects 0 before call c.requires.who.1 refl)).1
    (decides_at c.args.self.now.state call c.args.pushed c.plan_of.new.store.index (g.S.Shelf.may_give c.plan_of.new.store.shelf) c.in-Ok.plan (Some c.in-Some.plan) c.in-Some.is (c.in-Ok.ensures.any call c.requires.who.1 refl)).2

-- ---- refused as what is to be kept is listed

pub returns-in-Err-prepare-clause-value : goal.returns-in-Err-prepare-clause-value
returns-in-Err-prepare-clause-value g c = λ call asks updates.
    let old : DepotView g.row.S.Denot = depot_of c.args.self.now.store c.args.self.now.state c.args.self.now.unsettled c.args.running.now in
    let new : DepotView g.row.S.Denot = record old { store = c.prepare.new.store; running = running_of c.prepare.new.running; marked = marked_of c.prepare.new.running } in
    let planned = c.in-Ok.ensures.stays in
    let prepared = c.in-Err-prepare.ensures.stays in
    let kept : Keeps g.S.Shelf.contents c.args.self.now.store c.prepare.new.store
    = record { index = prepared.kept.index ∙ planned.kept.index; shelf = prepared.kept.shelf ∙ planned.kept.shelf; objects = prepared.kept.objects ∙ planned.kept.objects } in
    let decides = decides_at c.args.self.now.state call c.args.pushed c.plan_of.new.store.index (g.S.Shelf.may_give c.plan_of.new.store.shelf) c.in-Ok.plan (Some c.in-Some.plan) c.in-Some.is (c.in-Ok.ensures.any call asks updates) in
    let runs = runs_as as_before c.args.running.now c.prepare.new.running c.in-Err-prepare.ensures.err in
    let told_refusal = λ (objects : Objects) (told : objects_of g.S.Shelf.contents old.store ≡ Some objects).
    c.in-Err-prepare.ensures.refused objects (planned.kept.objects ∙ told)
    (subst (λ id. AreWhole objects id c.in-Some.plan c.args.pushed) (sym (c.head_of-before.ensures.value ∙ ap head_of c.slice-2.ensures.value))
    (plan_whole (library old.state (g.S.Shelf.faults old.store.shelf) objects) c.args.pushed
    (sound_at g.S.Shelf.contents g.S.Shelf.faults old (good_rest g.S.Shelf.contents g.S.Shelf.faults old c.requires.good.good) objects (g.S.Shelf.faults old.store.shelf) told)
    (head_kept old.state.kept c.requires.good.good.head) c.args.moment (due (library old.state (g.S.Shelf.faults old.store.shelf) objects) call) c.in-Some.plan
    ((plans_at (library c.args.self.now.state (g.S.Shelf.faults c.args.self.now.store.shelf) objects) c.args.moment c.args.pushed
    (due (library c.args.self.now.state (g.S.Shelf.faults c.args.self.now.store.shelf) objects) call) c.in-Ok.plan (Some c.in-Some.plan) c.in-Some.is
    (c.in-Ok.ensures.value objects (g.S.Shelf.faults c.args.self.now.store.shelf) told call asks updates)).1) (whole_due (library old.state (g.S.Shelf.faults old.store.shelf) objects) c.args.pushed call updates))) in
    serves_beside g.S.Shelf.contents g.S.Shelf.faults old new call c.args.moment (reply.Refused c.in-Err-prepare.why)
    (same_runs old.store.index new.store.index old.running new.running (told_there old.store.index call.act (reply.Refused c.in-Err-prepare.why)) kept.index (ap (λ a. told_there old.store.index a (reply.Refused c.in-Err-prepare.why)) updates) runs)
    (same_fresh g.S.Shelf.contents old new call.act (reply.Refused c.in-Err-prepare.why) kept.objects (λ now. refl) runs) g.S.Shelf.may_give g.S.Shelf.texts
    (marked_fresh (λ fresh k. set.contains fresh k) c.args.running.now c.prepare.new.running c.in-Err-prepare.ensures.err)
    (serves_refused g.S.Shelf.contents g.S.Shelf.may_give g.S.Shelf.texts g.S.Shelf.faults old call c.args.moment c.args.pushed updates c.prepare.new.store kept (prepared.written ∙ planned.written) c.in-Err-prepare.why
    (λ objects told. plan_fault (library old.state (g.S.Shelf.faults old.store.shelf) objects) c.args.pushed c.args.moment (due (library old.state (g.S.Shelf.faults old.store.shelf) objects) call) c.in-Some.plan c.in-Err-prepare.why
    ((plans_at (library c.args.self.now.state (g.S.Shelf.faults c.args.self.now.store.shelf) objects) c.args.moment c.args.pushed
    (due (library c.args.self.now.state (g.S.Shelf.faults c.args.self.now.store.shelf) objects) call) c.in-Ok.plan (Some c.in-Some.plan) c.in-Some.is
    (c.in-Ok.ensures.value objects (g.S.Shelf.faults c.args.self.now.store.shelf) told call asks updates)).1) (told_refusal objects told))
    (subst (λ n. Counts n (g.S.Shelf.faults c.prepare.new.store.shelf) (reply.Refused c.in-Err-prepare.why)) planned.count prepared.count)
    (subst (λ o. MayAnswer c.prepare.new.store.index (g.S.Shelf.may_give c.prepare.new.store.shelf) (act.Update c.args.pushed) o (reply.Refused c.in-Err-prepare.why)) (sym decides.1) c.in-Err-prepare.ensures.cause)
    (λ objects told. told_damage objects c.in-Err-prepare.why (told_refusal objects told)))

pub returns-in-Err-prepare-clause-stands : goal.returns-in-Err-prepare-clause-stands
returns-in-Err-prepare-clause-stands g c =
    let old : DepotView g.row.S.Denot = depot_of c.args.self.now.store c.args.self.now.state c.args.self.now.unsettled c.args.running.now in
    let new : DepotView g.row.S.Denot = record old { store = c.prepare.new.store; running = running_of c.prepare.new.running; marked = marked_of c.prepare.new.running } in
    let r : Reply = reply.Refused c.in-Err-prepare.why in
    let planned = c.in-Ok.ensures.stays in
    let prepared = c.in-Err-prepare.ensures.stays in
    let kept : Keeps g.S.Shelf.contents c.args.self.now.store c.prepare.new.store
    = record { index = prepared.kept.index ∙ planned.kept.index; shelf = prepared.kept.shelf ∙ planned.kept.shelf; objects = prepared.kept.objects ∙ planned.kept.objects } in
    let runs = runs_as as_before c.args.running.now c.prepare.new.running c.in-Err-prepare.ensures.err in
    kept_unshielded g.S.Shelf.contents g.S.Shelf.faults old new c.args.pushed r c.args.known.now c.plan_of.new.known c.args.running.now c.prepare.new.running refl refl c.requires.good
    (good_kept g.S.Shelf.contents g.S.Shelf.faults old (good_rest g.S.Shelf.contents g.S.Shelf.faults old c.requires.good.good) c.prepare.new.store
    (kept_status g.S.Shelf.contents c.args.self.now.store c.prepare.new.store kept) kept.objects)
    (fits_same g.S.Shelf.contents c.args.self.now.store c.prepare.new.store c.plan_of.new.known kept.objects c.in-Ok.ensures.known)
    (same_runs old.store.index new.store.index old.running new.running [] kept.index refl runs)
    (same_fresh g.S.Shelf.contents old new (act.Update c.args.pushed) r kept.objects (λ now. refl) runs)
    (λ key there. ap (λ (i : Index). is_some (map.get i key)) kept.index ∙ there)
    (same_keeps (objects_of g.S.Shelf.contents old.store) (objects_of g.S.Shelf.contents new.store) kept.objects)
    (λ now told. (now, sym kept.objects ∙ told)) refl
    (fresh_none (λ fresh k. set.contains fresh k) c.args.running.now c.prepare.new.running c.in-Err-prepare.ensures.err)
    (fresh_goes (λ fresh k. set.contains fresh k) c.args.running.now c.prepare.new.running c.in-Err-prepare.ensures.err)

pub returns-in-Err-prepare-clause-gives : goal.returns-in-Err-prepare-clause-gives
returns-in-Err-prepare-clause-gives g c = read_by c.in-Ok.ensures.stays.gives (no_more _ c.in-Err-prepare.ensures.stays.gives)

-- ---- carried out

pub returns-in-Ok-carry_out-clause-value : goal.returns-in-Ok-carry_out-clause-value
returns-in-Ok-carry_out-clause-value g c = λ call asks updates.
    let old : DepotView g.row.S.Denot = depot_of c.args.self.now.store c.args.self.now.state c.args.self.now.unsettled c.args.running.now in
    let new : DepotView g.row.S.Denot = depot_of c.carry_out.new.self.store c.carry_out.new.self.state c.carry_out.new.self.unsettled c.shield.new.running in
    let planned = c.in-Ok.ensures.stays in
    let prepared = c.in-Ok-prepare.ensures.stays in
    let kept : Keeps g.S.Shelf.contents old.store c.prepare.new.store
    = record { index = prepared.kept.index ∙ planned.kept.index; shelf = prepared.kept.shelf ∙ planned.kept.shelf; objects = prepared.kept.objects ∙ planned.kept.objects } in
    let keys : List Key = keys_added (objects_in c.in-Some.plan) in
    let shields = shields_as c.in-Ok-prepare.shields.needed c.prepare.new.running c.shield.new.running c.shield.ensures.value in
    let runs = made_runs keys old.store.index new.store.index old.running new.running
    (subst (λ i. HoldsMore keys i new.store.index) kept.index c.in-Ok-carry_out.ensures.held) c.in-Ok-carry_out.ensures.known
    (runs_then (λ b k. b || is_in (lacking old.store.index keys) k) as_before old.running (running_of c.prepare.new.running) new.running
    (runs_as (λ b k. b || is_in (lacking old.store.index keys) k) c.args.running.now c.prepare.new.running
    (subst (λ i. MayHaveFresh (λ fresh k. set.contains fresh k || is_in (lacking i keys) k) c.args.running.now c.prepare.new.running) planned.kept.index c.in-Ok-prepare.ensures.ok)) shields) in
    let now_is = λ (was now : Objects) (told_was : objects_of g.S.Shelf.contents old.store ≡ Some was) (told_now : objects_of g.S.Shelf.contents new.store ≡ Some now).
    made_now was now (objects_of g.S.Shelf.contents old.store) (objects_of g.S.Shelf.contents c.prepare.new.store) (objects_of g.S.Shelf.contents new.store) (objects_in c.in-Some.plan)
    c.in-Ok-carry_out.ensures.value.objects kept.objects told_was told_now in
    let fresh = made_fresh g.S.Shelf.contents old new c.args.pushed (reply.Updated c.in-Some.plan.head) keys
    (λ was now told_was told_now key there gone. came_all was (objects_in c.in-Some.plan) key (subst (λ o. is_stored o key ≡ true) (now_is was now told_was told_now) there) gone)
    (λ was now told_was told_now key among. subst (λ o. is_stored o key ≡ true) (sym (now_is was now told_was told_now)) (added_stored was (objects_in c.in-Some.plan) key among))
    (λ was told_was. runs_then (λ b k. b || is_in (unstored was keys) k) as_before old.running (running_of c.prepare.new.running) new.running
    (runs_as (λ b k. b || is_in (unstored was keys) k) c.args.running.now c.prepare.new.running (c.in-Ok-prepare.ensures.shown was (planned.kept.objects ∙ told_was)).1) shields) in
    let decides = decides_at c.args.self.now.state call c.args.pushed c.plan_of.new.store.index (g.S.Shelf.may_give c.plan_of.new.store.shelf) c.in-Ok.plan (Some c.in-Some.plan) c.in-Some.is (c.in-Ok.ensures.any call asks updates) in
    serves_beside g.S.Shelf.contents g.S.Shelf.faults old new call c.args.moment (reply.Updated c.in-Some.plan.head)
    (subst (λ a. RunsOn old.store.index new.store.index (told_there old.store.index a (reply.Updated c.in-Some.plan.head)) old.running new.running) (sym updates) runs)
    (subst (λ a. FreshTold g.S.Shelf.contents old new a (reply.Updated c.in-Some.plan.head)) (sym updates) fresh) g.S.Shelf.may_give g.S.Shelf.texts
    (marked_shielded c.in-Ok-prepare.shields.needed c.prepare.new.running c.shield.new.running c.shield.ensures.value
    ∙ marked_fresh (λ fresh k. set.contains fresh k || is_in (lacking c.plan_of.new.store.index keys) k) c.args.running.now c.prepare.new.running c.in-Ok-prepare.ensures.ok)
    (serves_done g.S.Shelf.contents g.S.Shelf.may_give g.S.Shelf.texts g.S.Shelf.faults old call c.args.moment c.args.pushed updates c.in-Some.plan decides.0
    (λ objects told. (plans_at (library c.args.self.now.state (g.S.Shelf.faults c.args.self.now.store.shelf) objects) c.args.moment c.args.pushed
    (due (library c.args.self.now.state (g.S.Shelf.faults c.args.self.now.store.shelf) objects) call) c.in-Ok.plan (Some c.in-Some.plan) c.in-Some.is
    (c.in-Ok.ensures.value objects (g.S.Shelf.faults c.args.self.now.store.shelf) told call asks updates)).1)
    decides.1 c.carry_out.new.self.store c.carry_out.new.self.state c.carry_out.new.self.unsettled
    (subst (λ held. CarriesSo c.args.self.now.unsettled c.args.self.now.state (with_install c.in-Some.plan.head c.args.pushed c.args.moment c.args.self.now.state) (objects_in c.in-Some.plan) held
    c.carry_out.new.self.unsettled (held_in g.S.Shelf.contents g.S.Shelf.texts c.carry_out.new.self.store) (Ok tt))
    (held_kept g.S.Shelf.contents g.S.Shelf.texts c.args.self.now.store c.prepare.new.store kept (prepared.written ∙ planned.written)) c.in-Ok-carry_out.ensures.value)
    c.in-Ok-carry_out.ensures.ok (c.in-Ok-carry_out.ensures.faults ∙ prepared.count ∙ planned.count)
    (λ key stray. strays_kept g.S.Shelf.contents c.args.self.now.store c.prepare.new.store kept.index kept.shelf key (c.in-Ok-carry_out.ensures.lying key stray)))

pub returns-in-Ok-carry_out-clause-stands : goal.returns-in-Ok-carry_out-clause-stands
returns-in-Ok-carry_out-clause-stands g c =
    let old : DepotView g.row.S.Denot = depot_of c.args.self.now.store c.args.self.now.state c.args.self.now.unsettled c.args.running.now in
    let new : DepotView g.row.S.Denot = depot_of c.carry_out.new.self.store c.carry_out.new.self.state c.carry_out.new.self.unsettled c.shield.new.running in
    let planned = c.in-Ok.ensures.stays in
    let prepared = c.in-Ok-prepare.ensures.stays in
    let kept : Keeps g.S.Shelf.contents old.store c.prepare.new.store
    = record { index = prepared.kept.index ∙ planned.kept.index; shelf = prepared.kept.shelf ∙ planned.kept.shelf; objects = prepared.kept.objects ∙ planned.kept.objects } in
    let keys : List Key = keys_added (objects_in c.in-Some.plan) in
    let shields = shields_as c.in-Ok-prepare.shields.needed c.prepare.new.running c.shield.new.running c.shield.ensures.value in
    let runs = made_runs keys old.store.index new.store.index old.running new.running
    (subst (λ i. HoldsMore keys i new.store.index) kept.index c.in-Ok-carry_out.ensures.held) c.in-Ok-carry_out.ensures.known
    (runs_then (λ b k. b || is_in (lacking old.store.index keys) k) as_before old.running (running_of c.prepare.new.running) new.running
    (runs_as (λ b k. b || is_in (lacking old.store.index keys) k) c.args.running.now c.prepare.new.running
    (subst (λ i. MayHaveFresh (λ fresh k. set.contains fresh k || is_in (lacking i keys) k) c.args.running.now c.prepare.new.running) planned.kept.index c.in-Ok-prepare.ensures.ok)) shields) in
    let now_is = λ (was now : Objects) (told_was : objects_of g.S.Shelf.contents old.store ≡ Some was) (told_now : objects_of g.S.Shelf.contents new.store ≡ Some now).
    made_now was now (objects_of g.S.Shelf.contents old.store) (objects_of g.S.Shelf.contents c.prepare.new.store) (objects_of g.S.Shelf.contents new.store) (objects_in c.in-Some.plan)
    c.in-Ok-carry_out.ensures.value.objects kept.objects told_was told_now in
    let fresh = made_fresh g.S.Shelf.contents old new c.args.pushed (reply.Updated c.in-Some.plan.head) keys
    (λ was now told_was told_now key there gone. came_all was (objects_in c.in-Some.plan) key (subst (λ o. is_stored o key ≡ true) (now_is was now told_was told_now) there) gone)
    (λ was now told_was told_now key among. subst (λ o. is_stored o key ≡ true) (sym (now_is was now told_was told_now)) (added_stored was (objects_in c.in-Some.plan) key among))
    (λ was told_was. runs_then (λ b k. b || is_in (unstored was keys) k) as_before old.running (running_of c.prepare.new.running) new.running
    (runs_as (λ b k. b || is_in (unstored was keys) k) c.args.running.now c.prepare.new.running (c.in-Ok-prepare.ensures.shown was (planned.kept.objects ∙ told_was)).1) shields) in
    let call : Call = record { secret = c.requires.who.0; act = act.Update c.args.pushed } in
    let decides = decides_at c.args.self.now.state call c.args.pushed c.plan_of.new.store.index (g.S.Shelf.may_give c.plan_of.new.store.shelf) c.in-Ok.plan (Some c.in-Some.plan) c.in-Some.is (c.in-Ok.ensures.any call c.requires.who.1 refl) in
    let installed = ap (λ (st : LibState). st.kept) c.in-Ok-carry_out.ensures.ok in
    let is_before = c.head_of-before.ensures.value ∙ ap head_of c.slice-2.ensures.value in
    let may = subst (λ i. MayHaveFresh (λ fresh k. set.contains fresh k || is_in (lacking i keys) k) c.args.running.now c.prepare.new.running) planned.kept.index c.in-Ok-prepare.ensures.ok in
    let none = shielded_none (λ fresh k. set.contains fresh k || is_in (lacking old.store.index keys) k) c.in-Ok-prepare.shields.needed c.args.running.now c.prepare.new.running c.shield.new.running may c.shield.ensures.value in
    let back = was_with (objects_of g.S.Shelf.contents old.store) (objects_of g.S.Shelf.contents c.prepare.new.store) (objects_of g.S.Shelf.contents new.store) (objects_in c.in-Some.plan)
    c.in-Ok-carry_out.ensures.value.objects kept.objects in
    kept_installed g.S.Shelf.contents g.S.Shelf.faults old new c.args.pushed (reply.Updated c.in-Some.plan.head) c.args.known.now c.plan_of.new.known c.args.running.now c.shield.new.running refl refl c.requires.good
    (good_done g.S.Shelf.contents g.S.Shelf.may_give g.S.Shelf.texts g.S.Shelf.faults old call c.args.moment c.args.pushed refl c.in-Some.plan decides.0
    (λ objects told. (plans_at (library c.args.self.now.state (g.S.Shelf.faults c.args.self.now.store.shelf) objects) c.args.moment c.args.pushed
    (due (library c.args.self.now.state (g.S.Shelf.faults c.args.self.now.store.shelf) objects) call) c.in-Ok.plan (Some c.in-Some.plan) c.in-Some.is
    (c.in-Ok.ensures.value objects (g.S.Shelf.faults c.args.self.now.store.shelf) told call c.requires.who.1 refl)).1)
    decides.1 c.carry_out.new.self.store c.carry_out.new.self.state c.carry_out.new.self.unsettled
    (subst (λ held. CarriesSo c.args.self.now.unsettled c.args.self.now.state (with_install c.in-Some.plan.head c.args.pushed c.args.moment c.args.self.now.state) (objects_in c.in-Some.plan) held
    c.carry_out.new.self.unsettled (held_in g.S.Shelf.contents g.S.Shelf.texts c.carry_out.new.self.store) (Ok tt))
    (held_kept g.S.Shelf.contents g.S.Shelf.texts c.args.self.now.store c.prepare.new.store kept (prepared.written ∙ planned.written)) c.in-Ok-carry_out.ensures.value)
    c.in-Ok-carry_out.ensures.ok (good_rest g.S.Shelf.contents g.S.Shelf.faults old c.requires.good.good))
    (fits_carried old.unsettled new.unsettled old.state (with_install c.in-Some.plan.head c.args.pushed c.args.moment old.state) (objects_in c.in-Some.plan) (held_in g.S.Shelf.contents g.S.Shelf.texts c.prepare.new.store)
    (held_in g.S.Shelf.contents g.S.Shelf.texts new.store) (Ok tt) c.plan_of.new.known c.in-Ok-carry_out.ensures.value (fits_same g.S.Shelf.contents c.args.self.now.store c.prepare.new.store c.plan_of.new.known kept.objects c.in-Ok.ensures.known))
    runs fresh
    (λ key there. c.in-Ok-carry_out.ensures.held.stays key (ap (λ (i : Index). is_some (map.get i key)) kept.index ∙ there))
    (λ was now told_was told_now. added_keeps was now (objects_in c.in-Some.plan) (now_is was now told_was told_now))
    (λ now told. let was = back now told in (was.0, was.1))
    c.in-Some.plan (record { head = c.in-Some.plan.head; pushed = c.args.pushed; at = c.args.moment }) c.in-Ok-prepare.shields.needed refl refl installed
    (head_kept old.state.kept c.requires.good.good.head) back
    (λ was told before is.
    subst (λ id. ListsNeeded was id c.in-Some.plan c.args.pushed c.in-Ok-prepare.shields.needed) is_before
    (subst (λ p. ListsNeededIn was c.head_of-before.result c.in-Some.plan c.args.pushed p c.in-Ok-prepare.shields.needed) is
    (c.in-Ok-prepare.ensures.value was (planned.kept.objects ∙ told)
    (subst (λ id. AreWhole was id c.in-Some.plan c.args.pushed) (sym is_before)
    (plan_whole (library old.state (g.S.Shelf.faults old.store.shelf) was) c.args.pushed
    (sound_at g.S.Shelf.contents g.S.Shelf.faults old (good_rest g.S.Shelf.contents g.S.Shelf.faults old c.requires.good.good) was (g.S.Shelf.faults old.store.shelf) told)
    (head_kept old.state.kept c.requires.good.good.head) c.args.moment (due (library old.state (g.S.Shelf.faults old.store.shelf) was) call) c.in-Some.plan
    ((plans_at (library c.args.self.now.state (g.S.Shelf.faults c.args.self.now.store.shelf) was) c.args.moment c.args.pushed
    (due (library c.args.self.now.state (g.S.Shelf.faults c.args.self.now.store.shelf) was) call) c.in-Ok.plan (Some c.in-Some.plan) c.in-Some.is
    (c.in-Ok.ensures.value was (g.S.Shelf.faults c.args.self.now.store.shelf) told call c.requires.who.1 refl)).1) (whole_due (library old.state (g.S.Shelf.faults old.store.shelf) was) c.args.pushed call refl))))))
    none
    (shielded_goes (λ fresh k. set.contains fresh k || is_in (lacking old.store.index keys) k) c.in-Ok-prepare.shields.needed c.args.running.now c.prepare.new.running c.shield.new.running may c.shield.ensures.value)

pub returns-clause-value : goal.returns-clause-value
returns-clause-value g c = λ call asks updates.
    let old : DepotView g.row.S.Denot = depot_of c.args.self.now.store c.args.self.now.state c.args.self.now.unsettled c.args.running.now in
    let new : DepotView g.row.S.Denot = depot_of c.carry_out.new.self.store c.carry_out.new.self.state c.carry_out.new.self.unsettled c.stale_unless_stored.new.running in
    let planned = c.in-Ok.ensures.stays in
    let prepared = c.in-Ok-prepare.ensures.stays in
    let kept : Keeps g.S.Shelf.contents c.args.self.now.store c.prepare.new.store
    = record { index = prepared.kept.index ∙ planned.kept.index; shelf = prepared.kept.shelf ∙ planned.kept.shelf; objects = prepared.kept.objects ∙ planned.kept.objects } in
    let keys : List Key = keys_added (objects_in c.in-Some.plan) in
    let why = store_refusal c.in-Err-carry_out.fault in
    let part = part_left c.in-Err-carry_out.fault old.unsettled old.state (with_install c.in-Some.plan.head c.args.pushed c.args.moment old.state) (objects_in c.in-Some.plan)
    (held_in g.S.Shelf.contents g.S.Shelf.texts c.prepare.new.store) new.unsettled (held_in g.S.Shelf.contents g.S.Shelf.texts new.store) c.in-Err-carry_out.ensures.value in
    let now_is = λ (was now : Objects) (told_was : objects_of g.S.Shelf.contents old.store ≡ Some was) (told_now : objects_of g.S.Shelf.contents new.store ≡ Some now).
    made_now was now (objects_of g.S.Shelf.contents old.store) (objects_of g.S.Shelf.contents c.prepare.new.store) (objects_of g.S.Shelf.contents new.store) part.part part.objects kept.objects told_was told_now in
    let back = taken_of (λ k. is_some (map.get new.store.index k)) c.slice-in-Err-carry_out.result.now c.in-Ok-prepare.shields.made c.prepare.new.running c.stale_unless_stored.new.running
    c.slice-in-Err-carry_out.ensures.value c.stale_unless_stored.ensures.value in
    let runs = taken_back_runs keys old.store.index new.store.index c.args.running.now c.prepare.new.running c.stale_unless_stored.new.running c.in-Ok-prepare.shields.made
    (subst (λ i. HoldsMore keys i new.store.index) kept.index c.in-Err-carry_out.ensures.held)
    (subst (λ i. MayHaveFresh (λ fresh k. set.contains fresh k || is_in (lacking i keys) k) c.args.running.now c.prepare.new.running) planned.kept.index c.in-Ok-prepare.ensures.ok)
    (subst (λ i. AreNewIn (lacking i keys) c.args.running.now c.in-Ok-prepare.shields.made) planned.kept.index c.in-Ok-prepare.ensures.made)
    back in
    let fresh = left_fresh g.S.Shelf.contents old new c.args.pushed (reply.Refused why) keys
    (λ was now told_was told_now key there gone. subst (λ added. is_in (keys_added added) key ≡ true) (sym part.front.1)
    (came_of was part.part part.front.0 key (subst (λ o. is_stored o key ≡ true) (now_is was now told_was told_now) there) gone))
    (λ was now told_was told_now. taken_back_each (is_stored now) (unstored was keys) c.args.running.now c.prepare.new.running c.stale_unless_stored.new.running c.in-Ok-prepare.shields.made
    (c.in-Ok-prepare.ensures.shown was (planned.kept.objects ∙ told_was)).1 (c.in-Ok-prepare.ensures.shown was (planned.kept.objects ∙ told_was)).0 (taken_of (is_stored now) c.slice-in-Err-carry_out.result.now c.in-Ok-prepare.shields.made c.prepare.new.running c.stale_unless_stored.new.running c.slice-in-Err-carry_out.ensures.value
    (c.stale_unless_stored.ensures.shown now told_now))) in
    let decides = decides_at c.args.self.now.state call c.args.pushed c.plan_of.new.store.index (g.S.Shelf.may_give c.plan_of.new.store.shelf) c.in-Ok.plan (Some c.in-Some.plan) c.in-Some.is (c.in-Ok.ensures.any call asks updates) in
    subst (λ q. Serves g.S.Shelf.contents g.S.Shelf.may_give g.S.Shelf.texts g.S.Shelf.faults old call c.args.moment (reply.Refused q) new) (sym c.store_refusal.ensures.value)
    (serves_beside g.S.Shelf.contents g.S.Shelf.faults old new call c.args.moment (reply.Refused why)
    (subst (λ a. RunsOn old.store.index new.store.index (told_there old.store.index a (reply.Refused why)) old.running new.running) (sym updates) runs)
    (subst (λ a. FreshTold g.S.Shelf.contents old new a (reply.Refused why)) (sym updates) fresh) g.S.Shelf.may_give g.S.Shelf.texts
    (marked_fresh (λ fresh k. set.contains fresh k && not (is_in c.in-Ok-prepare.shields.made k && not (is_some (map.get new.store.index k)))) c.prepare.new.running c.stale_unless_stored.new.running back
    ∙ marked_fresh (λ fresh k. set.contains fresh k || is_in (lacking c.plan_of.new.store.index keys) k) c.args.running.now c.prepare.new.running c.in-Ok-prepare.ensures.ok)
    (serves_failed g.S.Shelf.contents g.S.Shelf.may_give g.S.Shelf.texts g.S.Shelf.faults old call c.args.moment c.args.pushed updates c.in-Some.plan decides.0
    (λ objects told. (plans_at (library c.args.self.now.state (g.S.Shelf.faults c.args.self.now.store.shelf) objects) c.args.moment c.args.pushed
    (due (library c.args.self.now.state (g.S.Shelf.faults c.args.self.now.store.shelf) objects) call) c.in-Ok.plan (Some c.in-Some.plan) c.in-Some.is
    (c.in-Ok.ensures.value objects (g.S.Shelf.faults c.args.self.now.store.shelf) told call asks updates)).1)
    decides.1 c.carry_out.new.self.store c.carry_out.new.self.state c.carry_out.new.self.unsettled c.in-Err-carry_out.fault
    (subst (λ held. CarriesSo c.args.self.now.unsettled c.args.self.now.state (with_install c.in-Some.plan.head c.args.pushed c.args.moment c.args.self.now.state) (objects_in c.in-Some.plan) held
    c.carry_out.new.self.unsettled (held_in g.S.Shelf.contents g.S.Shelf.texts c.carry_out.new.self.store) (Err c.in-Err-carry_out.fault))
    (held_kept g.S.Shelf.contents g.S.Shelf.texts c.args.self.now.store c.prepare.new.store kept (prepared.written ∙ planned.written)) c.in-Err-carry_out.ensures.value)
    c.in-Err-carry_out.ensures.err
    (λ objects told. c.in-Err-carry_out.ensures.free objects (kept.objects ∙ told))
    (subst (λ n. CountsShelf {T = ⊤} n (g.S.Shelf.faults c.carry_out.new.self.store.shelf) (Err c.in-Err-carry_out.fault)) (prepared.count ∙ planned.count) c.in-Err-carry_out.ensures.faults)
    c.in-Err-carry_out.ensures.cause
    (λ free key stray. strays_kept g.S.Shelf.contents c.args.self.now.store c.prepare.new.store kept.index kept.shelf key (c.in-Err-carry_out.ensures.lying free key stray))))

pub returns-clause-stands : goal.returns-clause-stands
returns-clause-stands g c =
    let old : DepotView g.row.S.Denot = depot_of c.args.self.now.store c.args.self.now.state c.args.self.now.unsettled c.args.running.now in
    let new : DepotView g.row.S.Denot = depot_of c.carry_out.new.self.store c.carry_out.new.self.state c.carry_out.new.self.unsettled c.stale_unless_stored.new.running in
    let planned = c.in-Ok.ensures.stays in
    let prepared = c.in-Ok-prepare.ensures.stays in
    let kept : Keeps g.S.Shelf.contents c.args.self.now.store c.prepare.new.store
    = record { index = prepared.kept.index ∙ planned.kept.index; shelf = prepared.kept.shelf ∙ planned.kept.shelf; objects = prepared.kept.objects ∙ planned.kept.objects } in
    let keys : List Key = keys_added (objects_in c.in-Some.plan) in
    let why = store_refusal c.in-Err-carry_out.fault in
    let part = part_left c.in-Err-carry_out.fault old.unsettled old.state (with_install c.in-Some.plan.head c.args.pushed c.args.moment old.state) (objects_in c.in-Some.plan)
    (held_in g.S.Shelf.contents g.S.Shelf.texts c.prepare.new.store) new.unsettled (held_in g.S.Shelf.contents g.S.Shelf.texts new.store) c.in-Err-carry_out.ensures.value in
    let now_is = λ (was now : Objects) (told_was : objects_of g.S.Shelf.contents old.store ≡ Some was) (told_now : objects_of g.S.Shelf.contents new.store ≡ Some now).
    made_now was now (objects_of g.S.Shelf.contents old.store) (objects_of g.S.Shelf.contents c.prepare.new.store) (objects_of g.S.Shelf.contents new.store) part.part part.objects kept.objects told_was told_now in
    let back = taken_of (λ k. is_some (map.get new.store.index k)) c.slice-in-Err-carry_out.result.now c.in-Ok-prepare.shields.made c.prepare.new.running c.stale_unless_stored.new.running
    c.slice-in-Err-carry_out.ensures.value c.stale_unless_stored.ensures.value in
    let runs = taken_back_runs keys old.store.index new.store.index c.args.running.now c.prepare.new.running c.stale_unless_stored.new.running c.in-Ok-prepare.shields.made
    (subst (λ i. HoldsMore keys i new.store.index) kept.index c.in-Err-carry_out.ensures.held)
    (subst (λ i. MayHaveFresh (λ fresh k. set.contains fresh k || is_in (lacking i keys) k) c.args.running.now c.prepare.new.running) planned.kept.index c.in-Ok-prepare.ensures.ok)
    (subst (λ i. AreNewIn (lacking i keys) c.args.running.now c.in-Ok-prepare.shields.made) planned.kept.index c.in-Ok-prepare.ensures.made)
    back in
    let fresh = left_fresh g.S.Shelf.contents old new c.args.pushed (reply.Refused why) keys
    (λ was now told_was told_now key there gone. subst (λ added. is_in (keys_added added) key ≡ true) (sym part.front.1)
    (came_of was part.part part.front.0 key (subst (λ o. is_stored o key ≡ true) (now_is was now told_was told_now) there) gone))
    (λ was now told_was told_now. taken_back_each (is_stored now) (unstored was keys) c.args.running.now c.prepare.new.running c.stale_unless_stored.new.running c.in-Ok-prepare.shields.made
    (c.in-Ok-prepare.ensures.shown was (planned.kept.objects ∙ told_was)).1 (c.in-Ok-prepare.ensures.shown was (planned.kept.objects ∙ told_was)).0 (taken_of (is_stored now) c.slice-in-Err-carry_out.result.now c.in-Ok-prepare.shields.made c.prepare.new.running c.stale_unless_stored.new.running c.slice-in-Err-carry_out.ensures.value
    (c.stale_unless_stored.ensures.shown now told_now))) in
    let call : Call = record { secret = c.requires.who.0; act = act.Update c.args.pushed } in
    let decides = decides_at c.args.self.now.state call c.args.pushed c.plan_of.new.store.index (g.S.Shelf.may_give c.plan_of.new.store.shelf) c.in-Ok.plan (Some c.in-Some.plan) c.in-Some.is (c.in-Ok.ensures.any call c.requires.who.1 refl) in
    let may = subst (λ i. MayHaveFresh (λ fresh k. set.contains fresh k || is_in (lacking i keys) k) c.args.running.now c.prepare.new.running) planned.kept.index c.in-Ok-prepare.ensures.ok in
    let goes = twice_goes (λ fresh k. set.contains fresh k || is_in (lacking old.store.index keys) k)
    (λ fresh k. set.contains fresh k && not (is_in c.in-Ok-prepare.shields.made k && not (is_some (map.get new.store.index k)))) c.args.running.now c.prepare.new.running c.stale_unless_stored.new.running
    may back in
    kept_unshielded g.S.Shelf.contents g.S.Shelf.faults old new c.args.pushed (reply.Refused why) c.args.known.now c.plan_of.new.known c.args.running.now c.stale_unless_stored.new.running refl refl c.requires.good
    (good_failed g.S.Shelf.contents g.S.Shelf.may_give g.S.Shelf.texts g.S.Shelf.faults old call c.args.moment c.args.pushed refl c.in-Some.plan decides.0
    (λ objects told. (plans_at (library c.args.self.now.state (g.S.Shelf.faults c.args.self.now.store.shelf) objects) c.args.moment c.args.pushed
    (due (library c.args.self.now.state (g.S.Shelf.faults c.args.self.now.store.shelf) objects) call) c.in-Ok.plan (Some c.in-Some.plan) c.in-Some.is
    (c.in-Ok.ensures.value objects (g.S.Shelf.faults c.args.self.now.store.shelf) told call c.requires.who.1 refl)).1)
    decides.1 c.carry_out.new.self.store c.carry_out.new.self.state c.carry_out.new.self.unsettled c.in-Err-carry_out.fault
    (subst (λ held. CarriesSo c.args.self.now.unsettled c.args.self.now.state (with_install c.in-Some.plan.head c.args.pushed c.args.moment c.args.self.now.state) (objects_in c.in-Some.plan) held
    c.carry_out.new.self.unsettled (held_in g.S.Shelf.contents g.S.Shelf.texts c.carry_out.new.self.store) (Err c.in-Err-carry_out.fault))
    (held_kept g.S.Shelf.contents g.S.Shelf.texts c.args.self.now.store c.prepare.new.store kept (prepared.written ∙ planned.written)) c.in-Err-carry_out.ensures.value)
    c.in-Err-carry_out.ensures.err
    (λ objects told. c.in-Err-carry_out.ensures.free objects (kept.objects ∙ told))
    (subst (λ n. CountsShelf {T = ⊤} n (g.S.Shelf.faults c.carry_out.new.self.store.shelf) (Err c.in-Err-carry_out.fault)) (prepared.count ∙ planned.count) c.in-Err-carry_out.ensures.faults)
    (good_rest g.S.Shelf.contents g.S.Shelf.faults old c.requires.good.good))
    (fits_carried old.unsettled new.unsettled old.state (with_install c.in-Some.plan.head c.args.pushed c.args.moment old.state) (objects_in c.in-Some.plan) (held_in g.S.Shelf.contents g.S.Shelf.texts c.prepare.new.store)
    (held_in g.S.Shelf.contents g.S.Shelf.texts new.store) (Err c.in-Err-carry_out.fault) c.plan_of.new.known c.in-Err-carry_out.ensures.value (fits_same g.S.Shelf.contents c.args.self.now.store c.prepare.new.store c.plan_of.new.known kept.objects c.in-Ok.ensures.known))
    runs fresh
    (λ key there. c.in-Err-carry_out.ensures.held.stays key (ap (λ (i : Index). is_some (map.get i key)) kept.index ∙ there))
    (λ was now told_was told_now. added_keeps was now part.part (now_is was now told_was told_now))
    (λ now told.
    let was = was_with (objects_of g.S.Shelf.contents old.store) (objects_of g.S.Shelf.contents c.prepare.new.store) (objects_of g.S.Shelf.contents new.store) part.part part.objects kept.objects now told in
    (was.0, was.1))
    c.in-Err-carry_out.ensures.err
    (λ is. fresh_none (λ fresh k. set.contains fresh k && not (is_in c.in-Ok-prepare.shields.made k && not (is_some (map.get new.store.index k)))) c.prepare.new.running c.stale_unless_stored.new.running
    back (fresh_none (λ fresh k. set.contains fresh k || is_in (lacking old.store.index keys) k) c.args.running.now c.prepare.new.running may is))
    goes

pub returns-in-Err-clause-gives : goal.returns-in-Err-clause-gives
returns-in-Err-clause-gives g c = no_more _ c.in-Err.ensures.stays.gives

pub returns-in-None-clause-gives : goal.returns-in-None-clause-gives
returns-in-None-clause-gives g c = no_more _ c.in-Ok.ensures.stays.gives

pub returns-in-Ok-carry_out-clause-gives : goal.returns-in-Ok-carry_out-clause-gives
returns-in-Ok-carry_out-clause-gives g c = read_by c.in-Ok.ensures.stays.gives (read_by c.in-Ok-prepare.ensures.stays.gives c.in-Ok-carry_out.ensures.gives)

pub returns-clause-gives : goal.returns-clause-gives
returns-clause-gives g c = read_by c.in-Ok.ensures.stays.gives (read_by c.in-Ok-prepare.ensures.stays.gives c.in-Err-carry_out.ensures.gives)

pub returns-in-Err-clause-held : goal.returns-in-Err-clause-held
returns-in-Err-clause-held g c = λ key there. ap (λ (i : Index). is_some (map.get i key)) c.in-Err.ensures.stays.kept.index ∙ there

pub returns-in-None-clause-held : goal.returns-in-None-clause-held
returns-in-None-clause-held g c = λ key there. ap (λ (i : Index). is_some (map.get i key)) c.in-Ok.ensures.stays.kept.index ∙ there

pub returns-in-Err-prepare-clause-held : goal.returns-in-Err-prepare-clause-held
returns-in-Err-prepare-clause-held g c = λ key there.
    ap (λ (i : Index). is_some (map.get i key)) (c.in-Err-prepare.ensures.stays.kept.index ∙ c.in-Ok.ensures.stays.kept.index) ∙ there

pub returns-in-Ok-carry_out-clause-held : goal.returns-in-Ok-carry_out-clause-held
returns-in-Ok-carry_out-clause-held g c = λ key there.
    c.in-Ok-carry_out.ensures.held.stays key (ap (λ (i : Index). is_some (map.get i key)) (c.in-Ok-prepare.ensures.stays.kept.index ∙ c.in-Ok.ensures.stays.kept.index) ∙ there)

pub returns-clause-held : goal.returns-clause-held
returns-clause-held g c = λ key there.
    c.in-Err-carry_out.ensures.held.stays key (ap (λ (i : Index). is_some (map.get i key)) (c.in-Ok-prepare.ensures.stays.kept.index ∙ c.in-Ok.ensures.stays.kept.index) ∙ there)
