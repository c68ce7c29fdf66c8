-- What is told to be stored is fresh. Where memory is wanting nothing is changed.
use Rattle.std.proofs.Common.{◌∙◌, ap, inl, refl, subst, sym, ◌≡◌}
use Rattle.std.specs.FinMap as map
use Rattle.library_state.specs.declared.call.Act.TheVariants as act
use Rattle.library_state.specs.declared.refusal.Refusal.TheVariants as refusal
use Rattle.library_state.specs.declared.reply.Reply.{Reply}
use Rattle.library_state.specs.declared.reply.Reply.TheVariants as reply
use Rattle.object_store.specs.Shelf.{GivesNoMore}
use Rattle.depot.specs.Answering.{MayTell, ServesAct}
use Rattle.depot.specs.DepotView.{DepotView, depot_of, library, marked_of, running_of}
use Rattle.depot.specs.FreshKeys.{RunsOn, told_there}
use Rattle.depot.proofs.ActLemmas.{missing_serves}
use Rattle.depot.proofs.BesideLemmas.{FreshTold, serves_beside}
use Rattle.depot.proofs.MarkedLemmas.{marked_told}
use Rattle.depot.proofs.MissingBesideLemmas.{kept_told, missing_any_fresh, missing_any_runs}
use Rattle.depot.proofs.MissingLemmas.{absent_all, unknown_all}
use Rattle.depot.proofs.StopsLemmas.{kept_still, missing_stopped, still_running}
use Rattle.depot.proofs.depot.Depot.missing.Goals as goal

pub returns-in-Err : goal.returns-in-Err
returns-in-Err g c = record {
  value = missing_stopped g.S.Shelf.contents g.S.Shelf.faults g.S.Shelf.may_give g.S.Shelf.texts c.args.self.now c.args.self.now.running c.args.self.now.marked c.args.kind c.args.ids.now refl refl;
  gives = λ slot given is. is;
  held = refl;
}

pub invariant_of-self : goal.invariant_of-self
invariant_of-self g c =
    let old : DepotView g.row.S.Denot = depot_of c.self.inside.parts.store c.self.inside.parts.state c.self.inside.parts.unsettled c.self.inside.running in
    kept_still g.S.Shelf.contents g.S.Shelf.faults old c.self.inside.known c.self.inside.running c.keep_told.new.running c.in-Err-keep_told.ensures.err c.self.invariant

pub returns-in-Err-keep_told : goal.returns-in-Err-keep_told
returns-in-Err-keep_told g c =
    let old : DepotView g.row.S.Denot = depot_of c.self.inside.parts.store c.self.inside.parts.state c.self.inside.parts.unsettled c.self.inside.running in
    let new : DepotView g.row.S.Denot = record old { running = running_of c.keep_told.new.running; marked = marked_of c.keep_told.new.running } in
    record {
      value = subst (λ (before : DepotView g.row.S.Denot). ServesAct g.S.Shelf.contents g.S.Shelf.may_give g.S.Shelf.texts g.S.Shelf.faults before (act.Missing c.args.kind c.args.ids.now) (reply.Refused refusal.NoMemory) new)
          c.self.view_is
          (missing_stopped g.S.Shelf.contents g.S.Shelf.faults g.S.Shelf.may_give g.S.Shelf.texts old new.running new.marked c.args.kind c.args.ids.now (ap running_of (still_running c.self.inside.running c.keep_told.new.running c.in-Err-keep_told.ensures.err))
          (ap marked_of (still_running c.self.inside.running c.keep_told.new.running c.in-Err-keep_told.ensures.err)));
      gives = subst (λ (before : DepotView g.row.S.Denot). GivesNoMore (g.S.Shelf.may_give before.store.shelf) (g.S.Shelf.may_give old.store.shelf)) c.self.view_is (λ slot given is. is);
      held = subst (λ (before : DepotView g.row.S.Denot). old.store.index ≡ before.store.index) c.self.view_is refl;
    }

pub invariant_of-self-2 : goal.invariant_of-self-2
invariant_of-self-2 g c =
    let old : DepotView g.row.S.Denot = depot_of c.self.inside.parts.store c.self.inside.parts.state c.self.inside.parts.unsettled c.self.inside.running in
    kept_told g.S.Shelf.contents g.S.Shelf.faults old c.args.kind c.args.ids.now (reply.Absent c.in-Ok.found) (c.in-Ok.ensures.value ∙ unknown_all old.store.index c.args.kind c.args.ids.now)
    c.self.inside.known c.self.inside.running c.keep_told.new.running refl c.self.invariant c.in-Ok-keep_told.ensures.shown c.in-Ok-keep_told.ensures.ok

pub returns : goal.returns
returns g c =
    let old : DepotView g.row.S.Denot = depot_of c.self.inside.parts.store c.self.inside.parts.state c.self.inside.parts.unsettled c.self.inside.running in
    let new : DepotView g.row.S.Denot = record old { running = running_of c.keep_told.new.running; marked = marked_of c.keep_told.new.running } in
    let told : Reply = reply.Absent c.in-Ok.found in
    let may : MayTell old.store.index c.args.kind c.args.ids.now told = c.in-Ok.ensures.value ∙ unknown_all old.store.index c.args.kind c.args.ids.now in
    record {
      value = subst (λ (before : DepotView g.row.S.Denot). ServesAct g.S.Shelf.contents g.S.Shelf.may_give g.S.Shelf.texts g.S.Shelf.faults before (act.Missing c.args.kind c.args.ids.now) told new)
          c.self.view_is
          (λ call moment right asks. serves_beside g.S.Shelf.contents g.S.Shelf.faults old new call moment told
          (subst (λ a. RunsOn old.store.index new.store.index (told_there old.store.index a told) old.running new.running) (sym asks)
          (missing_any_runs c.args.kind c.args.ids.now told old.store.index c.self.inside.running c.keep_told.new.running c.in-Ok-keep_told.ensures.ok))
          (subst (λ a. FreshTold g.S.Shelf.contents old new a told) (sym asks)
          (missing_any_fresh g.S.Shelf.contents old c.args.kind c.args.ids.now told may c.self.inside.running c.keep_told.new.running refl c.in-Ok-keep_told.ensures.shown)) g.S.Shelf.may_give g.S.Shelf.texts
          (marked_told (told_there old.store.index (act.Missing c.args.kind c.args.ids.now) told) c.self.inside.running c.keep_told.new.running c.in-Ok-keep_told.ensures.ok)
          (missing_serves g.S.Shelf.contents g.S.Shelf.may_give g.S.Shelf.texts g.S.Shelf.faults old call moment right c.args.kind c.args.ids.now asks told
          (λ objects known. inl (ap reply.Absent (c.in-Ok.ensures.shown objects known
          ∙ absent_all (library c.self.inside.parts.state (g.S.Shelf.faults c.self.inside.parts.store.shelf) objects) c.args.kind c.args.ids.now map.empty refl)))
          may (λ objects known. tt) refl));
      gives = subst (λ (before : DepotView g.row.S.Denot). GivesNoMore (g.S.Shelf.may_give before.store.shelf) (g.S.Shelf.may_give old.store.shelf)) c.self.view_is (λ slot given is. is);
      held = subst (λ (before : DepotView g.row.S.Denot). old.store.index ≡ before.store.index) c.self.view_is refl;
    }
