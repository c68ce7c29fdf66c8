-- Kept commits are complete, so the list has no fault but one of the store.
use Rattle.std.proofs.Common.{ap, refl, subst, sym, ◌≡◌}
use Rattle.library_rules.proofs.BesideStepLemmas.{told_keys}
use Rattle.library_state.specs.declared.call.Act.TheVariants as act
use Rattle.library_state.specs.declared.history.Install.{Install}
use Rattle.std.specs.Prelude.{List}
use Rattle.depot.specs.Answering.{MayAnswer, ServesAct, ids_decided}
use Rattle.depot.specs.DepotView.{DepotView, depot_of, library}
use Rattle.depot.specs.FreshKeys.{told_there}
use Rattle.object_store.specs.Shelf.{GivesNoMore}
use Rattle.depot.proofs.ActLemmas.{list_serves}
use Rattle.depot.proofs.BesideLemmas.{good_rest}
use Rattle.depot.proofs.FitsLemmas.{fits_same}
use Rattle.depot.proofs.GoodLemmas.{sound_at}
use Rattle.depot.proofs.GrownLemmas.{good_kept, kept_status}
use Rattle.depot.proofs.KeptLemmas.{good_same, kept_same, serves_same}
use Rattle.depot.proofs.depot.Depot.list.Goals as goal

pub invariant_of-self : goal.invariant_of-self
invariant_of-self g c =
    let old : DepotView g.row.S.Denot = depot_of c.self.inside.parts.store c.self.inside.parts.state c.self.inside.parts.unsettled c.self.inside.running in
    let new : DepotView g.row.S.Denot = record old { store = c.list_ids.new.store } in
    let stays = c.list_ids.ensures.stays in
    kept_same g.S.Shelf.contents g.S.Shelf.faults old new stays.index stays.objects c.self.inside.known c.list_ids.new.known c.self.inside.running c.self.invariant
    (good_same g.S.Shelf.contents g.S.Shelf.faults old new stays.index stays.objects c.self.invariant.good refl
    (good_kept g.S.Shelf.contents g.S.Shelf.faults old (good_rest g.S.Shelf.contents g.S.Shelf.faults old c.self.invariant.good) c.list_ids.new.store
    (kept_status g.S.Shelf.contents c.self.inside.parts.store c.list_ids.new.store stays) stays.objects))
    (fits_same g.S.Shelf.contents c.self.inside.parts.store c.list_ids.new.store c.list_ids.new.known stays.objects c.list_ids.ensures.known) refl refl

pub returns : goal.returns
returns g c =
    let old : DepotView g.row.S.Denot = depot_of c.self.inside.parts.store c.self.inside.parts.state c.self.inside.parts.unsettled c.self.inside.running in
    let new : DepotView g.row.S.Denot = record old { store = c.list_ids.new.store } in
    let stays = c.list_ids.ensures.stays in
    record {
      value = subst (λ (before : DepotView g.row.S.Denot). ServesAct g.S.Shelf.contents g.S.Shelf.may_give g.S.Shelf.texts g.S.Shelf.faults before (act.Ids c.args.server.now c.args.client.now) c.list_ids.result new)
          c.self.view_is
          (λ call moment right asks. serves_same g.S.Shelf.contents g.S.Shelf.faults old new stays.index stays.objects g.S.Shelf.may_give g.S.Shelf.texts call moment c.list_ids.result refl refl
          (ap (λ a. told_there old.store.index a c.list_ids.result) asks) (λ now. ap (λ a. told_keys now a c.list_ids.result) asks)
          (list_serves g.S.Shelf.contents g.S.Shelf.may_give g.S.Shelf.texts g.S.Shelf.faults old call moment right c.args.server.now c.args.client.now asks
          c.list_ids.new.store c.list_ids.result stays c.list_ids.ensures.written
          (λ objects told. c.list_ids.ensures.value (library c.self.inside.parts.state (g.S.Shelf.faults c.self.inside.parts.store.shelf) objects) told (sym c.slice.ensures.value)
          (sound_at g.S.Shelf.contents g.S.Shelf.faults old (good_rest g.S.Shelf.contents g.S.Shelf.faults old c.self.invariant.good) objects (g.S.Shelf.faults c.self.inside.parts.store.shelf) told))
          (subst (λ (kept : List Install). MayAnswer c.list_ids.new.store.index (g.S.Shelf.may_give c.list_ids.new.store.shelf) (act.Ids c.args.server.now c.args.client.now) (ids_decided kept c.args.server.now) c.list_ids.result)
          c.slice.ensures.value c.list_ids.ensures.cause) c.list_ids.ensures.damaged c.list_ids.ensures.faults));
      gives = subst (λ (before : DepotView g.row.S.Denot). GivesNoMore (g.S.Shelf.may_give before.store.shelf) (g.S.Shelf.may_give c.list_ids.new.store.shelf)) c.self.view_is c.list_ids.ensures.gives;
      held = subst (λ (before : DepotView g.row.S.Denot). new.store.index ≡ before.store.index) c.self.view_is stays.index;
    }
