-- An object more, or none; and its key is fresh where it is stored. Where memory for the key is wanting nothing is changed.
use Rattle.std.proofs.Common.{◌≡◌, ◌∙◌, ◌||◌, ◌∷◌, [], ap, inl, refl, subst, sym, Some}
use Rattle.std.specs.FinSet as set
use Rattle.ids.specs.Key.{Objects}
use Rattle.library_state.specs.declared.call.Act.TheVariants as act
use Rattle.library_state.specs.declared.refusal.Refusal.TheVariants as refusal
use Rattle.library_state.specs.declared.reply.Reply.TheVariants as reply
use Rattle.object_graph.specs.Traversal.{is_in}
use Rattle.object_store.specs.StoreView.{objects_of}
use Rattle.depot.specs.Answering.{ServesAct}
use Rattle.depot.specs.DepotView.{DepotView, depot_of, library, marked_of, running_of}
use Rattle.depot.specs.FreshKeys.{RunsOn, told_there}
use Rattle.depot.specs.Giving.{GivesBy, IsPut}
use Rattle.depot.specs.Held.{HoldsPut}
use Rattle.depot.proofs.ActLemmas.{put_serves}
use Rattle.depot.proofs.BesideLemmas.{FreshTold, good_beside, good_rest, serves_beside}
use Rattle.depot.proofs.CallFreshLemmas.{PutTold, put_by_answer, put_fresh, put_runs, put_runs_as, put_told}
use Rattle.depot.proofs.FitsLemmas.{fits_put}
use Rattle.depot.proofs.FreshLemmas.{RunsAs}
use Rattle.depot.proofs.GrownLemmas.{good_put}
use Rattle.depot.proofs.MarkedLemmas.{marked_fresh, marked_put}
use Rattle.depot.proofs.PutBesideLemmas.{apart_put, collects_put, known_put, put_known, sound_fresh_keys}
use Rattle.depot.proofs.StopsLemmas.{kept_still, put_stopped, still_running}
use Rattle.depot.proofs.depot.Depot.put.Goals as goal

pub invariant_of-self : goal.invariant_of-self
invariant_of-self g c =
    let old : DepotView g.row.S.Denot = depot_of c.self.inside.parts.store c.self.inside.parts.state c.self.inside.parts.unsettled c.self.inside.running in
    kept_still g.S.Shelf.contents g.S.Shelf.faults old c.self.inside.known c.self.inside.running c.freshen.new.running c.in-Err.ensures.err c.self.invariant

pub returns-in-Err : goal.returns-in-Err
returns-in-Err g c =
    let old : DepotView g.row.S.Denot = depot_of c.self.inside.parts.store c.self.inside.parts.state c.self.inside.parts.unsettled c.self.inside.running in
    let new : DepotView g.row.S.Denot = record old { running = running_of c.freshen.new.running; marked = marked_of c.freshen.new.running } in
    record {
      value = subst (λ (before : DepotView g.row.S.Denot). ServesAct g.S.Shelf.contents g.S.Shelf.may_give g.S.Shelf.texts g.S.Shelf.faults before (act.Put c.args.key.now c.args.bytes.now) (reply.Refused refusal.NoMemory) new)
          c.self.view_is
          (put_stopped g.S.Shelf.contents g.S.Shelf.faults g.S.Shelf.may_give g.S.Shelf.texts old new.running new.marked c.args.key.now c.args.bytes.now (ap running_of (still_running c.self.inside.running c.freshen.new.running c.in-Err.ensures.err))
          (ap marked_of (still_running c.self.inside.running c.freshen.new.running c.in-Err.ensures.err)));
      gives = subst (λ (before : DepotView g.row.S.Denot). GivesBy (IsPut c.args.key.now c.args.bytes.now) (g.S.Shelf.may_give before.store.shelf) (g.S.Shelf.may_give old.store.shelf)) c.self.view_is (λ slot given is. inl is);
      held = subst (λ (before : DepotView g.row.S.Denot). old.store.index ≡ before.store.index) c.self.view_is refl;
    }

pub invariant_of-self-2 : goal.invariant_of-self-2
invariant_of-self-2 g c =
    let old : DepotView g.row.S.Denot = depot_of c.self.inside.parts.store c.self.inside.parts.state c.self.inside.parts.unsettled c.self.inside.running in
    let new : DepotView g.row.S.Denot = record old { store = c.put_object-reply.new.store; running = running_of c.end_put.new.running; marked = marked_of c.end_put.new.running } in
    let runs : RunsAs (put_by_answer c.args.key.now c.put_object-reply.result) old.running new.running
    = put_runs_as c.args.key.now c.put_object-reply.result c.in-Ok.new c.self.inside.running c.freshen.new.running c.end_put.new.running c.in-Ok.ensures.ok c.in-Ok.ensures.new c.end_put.ensures.value in
    let told : (was : Objects) → objects_of g.S.Shelf.contents old.store ≡ Some was → PutTold was c.args.key.now c.args.bytes.now c.put_object-reply.result (objects_of g.S.Shelf.contents new.store)
    = λ was is. put_told (library old.state (g.S.Shelf.faults old.store.shelf) was) c.args.key.now c.args.bytes.now c.put_object-reply.result (objects_of g.S.Shelf.contents new.store)
    (c.put_object-reply.ensures.value (library old.state (g.S.Shelf.faults old.store.shelf) was) is refl) in
    let good = good_beside g.S.Shelf.contents g.S.Shelf.faults new
    (good_put g.S.Shelf.contents g.S.Shelf.faults old (good_rest g.S.Shelf.contents g.S.Shelf.faults old c.self.invariant.good) c.put_object-reply.new.store c.put_object-reply.ensures.stays
    (record { key = c.args.key.now; bytes = c.args.bytes.now }) c.put_object-reply.ensures.stored)
    (put_known c.args.key.now c.put_object-reply.result old.store.index new.store.index old.running new.running runs c.put_object-reply.ensures.held c.self.invariant.good.fresh)
    (sound_fresh_keys g.S.Shelf.contents g.S.Shelf.faults old new c.args.key.now c.args.bytes.now c.put_object-reply.result told runs c.self.invariant.good c.put_object-reply.ensures.stored) in
    record {
      good = good;
      fits = fits_put g.S.Shelf.contents c.self.inside.parts.store c.put_object-reply.new.store c.self.inside.known (record { key = c.args.key.now; bytes = c.args.bytes.now }) c.put_object-reply.ensures.stored c.self.invariant.fits;
      collects = collects_put g.S.Shelf.contents g.S.Shelf.faults old new c.args.key.now c.args.bytes.now c.put_object-reply.result told runs c.in-Ok.new c.self.inside.running c.freshen.new.running c.end_put.new.running
          refl refl refl c.in-Ok.ensures.ok c.in-Ok.ensures.new c.end_put.ensures.value c.self.invariant.good good c.put_object-reply.ensures.stored c.self.invariant.collects;
      candidates = known_put g.S.Shelf.contents g.S.Shelf.faults old new c.args.key.now c.args.bytes.now c.put_object-reply.result told runs c.in-Ok.new c.self.inside.running c.freshen.new.running c.end_put.new.running
          refl refl refl c.in-Ok.ensures.ok c.in-Ok.ensures.new c.end_put.ensures.value c.put_object-reply.ensures.held c.self.invariant.candidates;
      apart = apart_put g.S.Shelf.contents g.S.Shelf.faults old new c.args.key.now c.args.bytes.now c.put_object-reply.result told runs c.in-Ok.new c.self.inside.running c.freshen.new.running c.end_put.new.running
          refl refl refl c.in-Ok.ensures.ok c.in-Ok.ensures.new c.end_put.ensures.value c.self.invariant.apart;
    }

pub returns : goal.returns
returns g c =
    let old : DepotView g.row.S.Denot = depot_of c.self.inside.parts.store c.self.inside.parts.state c.self.inside.parts.unsettled c.self.inside.running in
    let new : DepotView g.row.S.Denot = record old { store = c.put_object-reply.new.store; running = running_of c.end_put.new.running; marked = marked_of c.end_put.new.running } in
    let runs : RunsAs (put_by_answer c.args.key.now c.put_object-reply.result) old.running new.running
    = put_runs_as c.args.key.now c.put_object-reply.result c.in-Ok.new c.self.inside.running c.freshen.new.running c.end_put.new.running c.in-Ok.ensures.ok c.in-Ok.ensures.new c.end_put.ensures.value in
    let goes = put_runs c.args.key.now c.args.bytes.now c.put_object-reply.result old.store.index new.store.index old.running new.running c.put_object-reply.ensures.held runs in
    let fresh = put_fresh g.S.Shelf.contents old new c.args.key.now c.args.bytes.now c.put_object-reply.result
    (λ was is. put_told (library old.state (g.S.Shelf.faults old.store.shelf) was) c.args.key.now c.args.bytes.now c.put_object-reply.result (objects_of g.S.Shelf.contents new.store)
    (c.put_object-reply.ensures.value (library old.state (g.S.Shelf.faults old.store.shelf) was) is refl)) runs in
    record {
      value = subst (λ (before : DepotView g.row.S.Denot). ServesAct g.S.Shelf.contents g.S.Shelf.may_give g.S.Shelf.texts g.S.Shelf.faults before (act.Put c.args.key.now c.args.bytes.now) c.put_object-reply.result new)
          c.self.view_is
          (λ call moment right asks. serves_beside g.S.Shelf.contents g.S.Shelf.faults old new call moment c.put_object-reply.result
          (subst (λ a. RunsOn old.store.index new.store.index (told_there old.store.index a c.put_object-reply.result) old.running new.running) (sym asks) goes)
          (subst (λ a. FreshTold g.S.Shelf.contents old new a c.put_object-reply.result) (sym asks) fresh) g.S.Shelf.may_give g.S.Shelf.texts
          (marked_put c.in-Ok.new c.put_object-reply.result c.freshen.new.running c.end_put.new.running c.end_put.ensures.value
          ∙ marked_fresh (λ fresh k. set.contains fresh k || is_in (c.args.key.now ∷ []) k) c.self.inside.running c.freshen.new.running c.in-Ok.ensures.ok)
          (put_serves g.S.Shelf.contents g.S.Shelf.may_give g.S.Shelf.texts g.S.Shelf.faults old call moment right c.args.key.now c.args.bytes.now asks
          c.put_object-reply.new.store c.put_object-reply.result c.put_object-reply.ensures.stays c.put_object-reply.ensures.written
          (λ objects told. c.put_object-reply.ensures.value (library c.self.inside.parts.state (g.S.Shelf.faults c.self.inside.parts.store.shelf) objects) told refl)
          c.put_object-reply.ensures.cause c.put_object-reply.ensures.damaged c.put_object-reply.ensures.faults c.put_object-reply.ensures.lying));
      gives = subst (λ (before : DepotView g.row.S.Denot). GivesBy (IsPut c.args.key.now c.args.bytes.now) (g.S.Shelf.may_give before.store.shelf) (g.S.Shelf.may_give c.put_object-reply.new.store.shelf)) c.self.view_is c.put_object-reply.ensures.gives;
      held = subst (λ (before : DepotView g.row.S.Denot). HoldsPut c.args.key.now c.put_object-reply.result before.store.index new.store.index) c.self.view_is c.put_object-reply.ensures.held;
    }
