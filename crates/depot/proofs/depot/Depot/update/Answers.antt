-- What was served of the parts was served of the depot.
use Rattle.std.proofs.Common.{subst}
use Rattle.library_state.specs.declared.call.Act.TheVariants as act
use Rattle.depot.specs.Answering.{ServesAt}
use Rattle.depot.specs.DepotView.{DepotView, depot_of}
use Rattle.depot.specs.Giving.{GivesBy, IsOfUpdate}
use Rattle.depot.specs.Held.{HoldsStill}
use Rattle.depot.proofs.depot.Depot.update.Goals as goal

pub invariant_of-self : goal.invariant_of-self
invariant_of-self g c = c.update_library.ensures.stands

pub returns : goal.returns
returns g c = record {
  value = subst (λ (old : DepotView g.row.S.Denot). ServesAt g.S.Shelf.contents g.S.Shelf.may_give g.S.Shelf.texts g.S.Shelf.faults old c.args.place (act.Update c.args.pushed) c.args.moment c.update_library.result
      (depot_of c.update_library.new.self.store c.update_library.new.self.state c.update_library.new.self.unsettled c.update_library.new.running))
      c.self.view_is c.update_library.ensures.value;
  gives = subst (λ (old : DepotView g.row.S.Denot). GivesBy (IsOfUpdate old.state.lib) (g.S.Shelf.may_give old.store.shelf) (g.S.Shelf.may_give c.update_library.new.self.store.shelf)) c.self.view_is c.update_library.ensures.gives;
  held = subst (λ (old : DepotView g.row.S.Denot). HoldsStill old.store.index c.update_library.new.self.store.index) c.self.view_is c.update_library.ensures.held;
}
