-- What is stored under a key is read, and not judged.
use Rattle.std.proofs.Common.{ap, refl, subst, ◌≡◌}
use Rattle.library_rules.proofs.BesideStepLemmas.{told_keys}
use Rattle.library_state.specs.declared.call.Act.TheVariants as act
use Rattle.depot.specs.Answering.{ServesAct}
use Rattle.depot.specs.DepotView.{DepotView, depot_of}
use Rattle.depot.specs.FreshKeys.{told_there}
use Rattle.depot.specs.Unjudged.{judged}
use Rattle.object_store.specs.Shelf.{GivesNoMore}
use Rattle.depot.proofs.ActLemmas.{get_serves}
use Rattle.depot.proofs.BesideLemmas.{good_rest}
use Rattle.depot.proofs.FitsLemmas.{fits_same}
use Rattle.depot.proofs.GrownLemmas.{good_kept, kept_status}
use Rattle.depot.proofs.KeptLemmas.{good_same, kept_same, serves_same}
use Rattle.depot.proofs.depot.Depot.get_unjudged.Goals as goal

pub invariant_of-self : goal.invariant_of-self
invariant_of-self g c =
    let old : DepotView g.row.S.Denot = depot_of c.self.inside.parts.store c.self.inside.parts.state c.self.inside.parts.unsettled c.self.inside.running in
    let new : DepotView g.row.S.Denot = record old { store = c.find_object.new.store } in
    let stays = c.find_object.ensures.stays in
    kept_same g.S.Shelf.contents g.S.Shelf.faults old new stays.index stays.objects c.self.inside.known c.self.inside.known c.self.inside.running c.self.invariant
    (good_same g.S.Shelf.contents g.S.Shelf.faults old new stays.index stays.objects c.self.invariant.good refl
    (good_kept g.S.Shelf.contents g.S.Shelf.faults old (good_rest g.S.Shelf.contents g.S.Shelf.faults old c.self.invariant.good) c.find_object.new.store
    (kept_status g.S.Shelf.contents c.self.inside.parts.store c.find_object.new.store stays) stays.objects))
    (fits_same g.S.Shelf.contents c.self.inside.parts.store c.find_object.new.store c.self.inside.known stays.objects c.self.invariant.fits) refl refl

pub returns : goal.returns
returns g c =
    let old : DepotView g.row.S.Denot = depot_of c.self.inside.parts.store c.self.inside.parts.state c.self.inside.parts.unsettled c.self.inside.running in
    let new : DepotView g.row.S.Denot = record old { store = c.find_object.new.store } in
    let stays = c.find_object.ensures.stays in
    record {
      value = subst (λ (before : DepotView g.row.S.Denot). ServesAct g.S.Shelf.contents g.S.Shelf.may_give g.S.Shelf.texts g.S.Shelf.faults before (act.Get c.args.key.now) (judged c.find_object.result) new)
          c.self.view_is
          (λ call moment right asks. serves_same g.S.Shelf.contents g.S.Shelf.faults old new stays.index stays.objects g.S.Shelf.may_give g.S.Shelf.texts call moment (judged c.find_object.result) refl refl
          (ap (λ a. told_there old.store.index a (judged c.find_object.result)) asks) (λ now. ap (λ a. told_keys now a (judged c.find_object.result)) asks)
          (get_serves g.S.Shelf.contents g.S.Shelf.may_give g.S.Shelf.texts g.S.Shelf.faults old call moment right c.args.key.now asks
          c.find_object.new.store (judged c.find_object.result) stays c.find_object.ensures.written c.find_object.ensures.value c.find_object.ensures.cause c.find_object.ensures.damaged c.find_object.ensures.faults));
      gives = subst (λ (before : DepotView g.row.S.Denot). GivesNoMore (g.S.Shelf.may_give before.store.shelf) (g.S.Shelf.may_give c.find_object.new.store.shelf)) c.self.view_is c.find_object.ensures.gives;
      held = subst (λ (before : DepotView g.row.S.Denot). new.store.index ≡ before.store.index) c.self.view_is stays.index;
    }
