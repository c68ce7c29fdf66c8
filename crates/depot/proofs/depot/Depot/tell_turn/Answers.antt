-- A step changes the library, and of any other turn the figures before and after tell whether it did.
use Rattle.std.proofs.Common.{inl, inr, None}
use Rattle.depot.proofs.TellingLemmas.{is_other, turn_other, turn_same}
use Rattle.depot.proofs.depot.Depot.tell_turn.Goals as goal

pub returns-clause-turned : goal.returns-clause-turned
returns-clause-turned g c =
    let said = c.turn_of_collection-turn.ensures in
    record {
      takes = record {
        told = said.shown;
        may_come = said.cause;
        damage = said.damaged;
        needed = said.needed;
        count = said.faults;
        left = said.left;
        runs = said.running;
        marked = said.marked;
        index = said.held;
        number = said.size;
        lying = said.lying;
        gives = said.gives;
        slot = said.text;
        beside = said.settled;
      };
      good = said.stands;
    }

pub returns-clause-same : goal.returns-clause-same
returns-clause-same g c = λ is.
    let said = c.turn_of_collection-turn.ensures in
    let none = c.is_change-changed.ensures.same is in
    turn_same g.S.Shelf.contents g.S.Shelf.faults c.args.self.now c.turn_of_collection-turn.new.self None c.figures-before.result c.figures-after.result
    c.figures-before.ensures.value c.figures-after.ensures.value c.figures-before.ensures.shown c.figures-after.ensures.shown none.1
    c.args.goal c.args.moment c.args.at_most c.turn_of_collection-turn.result said.shown said.left said.running said.size said.held none.0

pub returns-clause-other : goal.returns-clause-other
returns-clause-other g c = λ is.
    let said = c.turn_of_collection-turn.ensures in
    elim (c.is_change-changed.ensures.other is) [
      | inl step ↦ turn_other g.S.Shelf.contents g.S.Shelf.faults c.args.self.now c.turn_of_collection-turn.new.self _ _ c.args.goal c.args.moment c.turn_of_collection-turn.result
          said.cause.may said.left said.running step
      | inr apart ↦ is_other g.S.Shelf.contents g.S.Shelf.faults c.args.self.now c.turn_of_collection-turn.new.self None c.figures-before.result c.figures-after.result
          c.figures-before.ensures.value c.figures-after.ensures.value c.figures-before.ensures.shown c.figures-after.ensures.shown apart
    ]
