-- A goal that doesn't run is over; else the collection that runs goes on, or one begins.
use Rattle.std.proofs.Common.{Option, ℕ, ap, subst, sym, ◌∙◌, option_map}
use Rattle.library_rules.specs.LibraryState.{Running}
use Rattle.depot.specs.CollectionTurns.{OpensSo, TakesTurn, missed, collection_after}
use Rattle.depot.specs.DepotView.{CollectionView, DepotView, IsGood, IsKept, depot_of, running_of}
use Rattle.depot.proofs.ClosingLemmas.{aimed_at, closes_kept, closes_takes, no_goal, over_takes}
use Rattle.depot.proofs.depot.Depot.take_turn.Goals as goal

pub begin_collection-requires : goal.begin_collection-requires
begin_collection-requires g c = record { idle = ap running_of c.in-None-running.is }

pub go_on-turn-requires : goal.go_on-turn-requires
go_on-turn-requires g c = record {
  some = c.requires.some;
  good =
      subst
      (λ (o : Option CollectionView).
      IsKept g.S.Shelf.contents g.S.Shelf.faults (depot_of c.self.inside.parts.store c.self.inside.parts.state c.self.inside.parts.unsettled o) c.self.inside.known o)
      c.in-Some-running.is c.self.invariant;
}

-- ---- the goal doesn't run

pub returns-in-Some-clause-value : goal.returns-in-Some-clause-value
returns-in-Some-clause-value g c =
    over_takes g.S.Shelf.contents g.S.Shelf.may_give g.S.Shelf.texts g.S.Shelf.faults c.args.self.now c.args.goal c.args.moment c.args.at_most c.in-Some.number
    (ap (λ (r : Option ℕ). missed r c.args.goal) (sym c.running.ensures.value) ∙ sym c.missed.ensures.value ∙ c.in-Some.is)

pub returns-in-Some-clause-stands : goal.returns-in-Some-clause-stands
returns-in-Some-clause-stands g c = subst (λ (d : DepotView g.row.S.Denot). IsGood g.S.Shelf.contents g.S.Shelf.faults d) c.self.view_is c.self.invariant.good

-- ---- none runs

pub invariant_of-self : goal.invariant_of-self
invariant_of-self g c = c.self.invariant

pub returns-in-None-running-clause-value : goal.returns-in-None-running-clause-value
returns-in-None-running-clause-value g c =
    subst (λ (d : DepotView g.row.S.Denot). TakesTurn g.S.Shelf.contents g.S.Shelf.may_give g.S.Shelf.texts g.S.Shelf.faults d c.args.goal c.args.moment c.args.at_most c.begin_collection.result c.begin_collection.new.self)
    c.self.view_is
    (subst
    (λ (goal : Option ℕ).
    TakesTurn g.S.Shelf.contents g.S.Shelf.may_give g.S.Shelf.texts g.S.Shelf.faults (depot_of c.self.inside.parts.store c.self.inside.parts.state c.self.inside.parts.unsettled c.self.inside.running) goal c.args.moment
    c.args.at_most c.begin_collection.result c.begin_collection.new.self)
    (sym (no_goal (option_map (λ (r : Running). c.args.self.now.state.collection) c.args.self.now.running) c.args.goal
    (ap (λ (r : Option ℕ). missed r c.args.goal) (sym c.running.ensures.value) ∙ sym c.missed.ensures.value ∙ c.in-None.is)
    (ap (option_map (λ (r : Running). c.args.self.now.state.collection)) (sym (ap (λ (d : DepotView g.row.S.Denot). d.running) c.self.view_is) ∙ ap running_of c.in-None-running.is))))
    (c.begin_collection.ensures.value c.args.at_most))

pub returns-in-None-running-clause-stands : goal.returns-in-None-running-clause-stands
returns-in-None-running-clause-stands g c = c.begin_collection.ensures.stands

-- ---- one runs

pub invariant_of-self-2 : goal.invariant_of-self-2
invariant_of-self-2 g c =
    closes_kept g.S.Shelf.contents g.S.Shelf.may_give g.S.Shelf.texts g.S.Shelf.faults c.go_on-turn.new.self.store c.go_on-turn.new.self.state c.go_on-turn.new.self.unsettled c.go_on-turn.new.known c.go_on-turn.result
    c.go_on-turn.new.running c.close.new.running c.close.ensures.value c.go_on-turn.ensures.stands

pub returns-clause-stands : goal.returns-clause-stands
returns-clause-stands g c =
    (closes_kept g.S.Shelf.contents g.S.Shelf.may_give g.S.Shelf.texts g.S.Shelf.faults c.go_on-turn.new.self.store c.go_on-turn.new.self.state c.go_on-turn.new.self.unsettled c.go_on-turn.new.known
    c.go_on-turn.result c.go_on-turn.new.running c.close.new.running c.close.ensures.value c.go_on-turn.ensures.stands).good

pub returns-clause-value : goal.returns-clause-value
returns-clause-value g c =
    closes_takes g.S.Shelf.contents g.S.Shelf.may_give g.S.Shelf.texts g.S.Shelf.faults c.args.self.now c.go_on-turn.new.self.store c.go_on-turn.new.self.state c.go_on-turn.new.self.unsettled c.args.goal c.args.moment
    c.args.at_most c.go_on-turn.result c.go_on-turn.new.running c.close.new.running c.close.ensures.value
    (subst
    (λ (d : DepotView g.row.S.Denot).
    TakesTurn g.S.Shelf.contents g.S.Shelf.may_give g.S.Shelf.texts g.S.Shelf.faults d c.args.goal c.args.moment c.args.at_most c.go_on-turn.result
    (depot_of c.go_on-turn.new.self.store c.go_on-turn.new.self.state c.go_on-turn.new.self.unsettled (collection_after c.go_on-turn.result c.go_on-turn.new.running)))
    (ap (λ (o : Option CollectionView). depot_of c.self.inside.parts.store c.self.inside.parts.state c.self.inside.parts.unsettled o) (sym c.in-Some-running.is) ∙ c.self.view_is)
    (c.go_on-turn.ensures.value c.args.goal c.args.moment
    (aimed_at (option_map (λ (r : Running). c.args.self.now.state.collection) c.args.self.now.running) c.args.goal c.self.inside.parts.state.collection
    (ap (λ (r : Option ℕ). missed r c.args.goal) (sym c.running.ensures.value) ∙ sym c.missed.ensures.value ∙ c.in-None.is)
    (ap (λ (d : DepotView g.row.S.Denot). option_map (λ (r : Running). d.state.collection) d.running) (sym c.self.view_is)
    ∙ ap (λ (o : Option CollectionView). option_map (λ (r : Running). c.self.inside.parts.state.collection) (running_of o)) c.in-Some-running.is))))

pub returns-in-Some-clause-found : goal.returns-in-Some-clause-found
returns-in-Some-clause-found g c = subst (λ (d : DepotView g.row.S.Denot). IsGood g.S.Shelf.contents g.S.Shelf.faults d) c.self.view_is c.self.invariant.good

pub returns-in-None-running-clause-found : goal.returns-in-None-running-clause-found
returns-in-None-running-clause-found g c = subst (λ (d : DepotView g.row.S.Denot). IsGood g.S.Shelf.contents g.S.Shelf.faults d) c.self.view_is c.self.invariant.good

pub returns-clause-found : goal.returns-clause-found
returns-clause-found g c = subst (λ (d : DepotView g.row.S.Denot). IsGood g.S.Shelf.contents g.S.Shelf.faults d) c.self.view_is c.self.invariant.good

-- ---- what was opened

pub returns-in-None-running-clause-opened : goal.returns-in-None-running-clause-opened
returns-in-None-running-clause-opened g c =
    subst (λ (d : DepotView g.row.S.Denot). OpensSo g.S.Shelf.contents g.S.Shelf.may_give g.S.Shelf.faults d c.begin_collection.result) c.self.view_is c.begin_collection.ensures.opened

pub returns-clause-opened : goal.returns-clause-opened
returns-clause-opened g c =
    subst (λ (d : DepotView g.row.S.Denot). OpensSo g.S.Shelf.contents g.S.Shelf.may_give g.S.Shelf.faults d c.go_on-turn.result)
    (ap (λ (o : Option CollectionView). depot_of c.self.inside.parts.store c.self.inside.parts.state c.self.inside.parts.unsettled o) (sym c.in-Some-running.is) ∙ c.self.view_is)
    c.go_on-turn.ensures.opened
