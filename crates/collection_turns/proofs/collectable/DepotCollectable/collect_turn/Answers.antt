-- All that is told of a turn, in one.
use Rattle.collection_turns.proofs.collectable.DepotCollectable.collect_turn.Goals as goal

pub returns-clause-turned : goal.returns-clause-turned
returns-clause-turned g c =
    let taken = c.turn_of_collection.ensures in
    record {
      takes = record {
        told = taken.shown;
        may_come = taken.cause;
        damage = taken.damaged;
        needed = taken.needed;
        count = taken.faults;
        left = taken.left;
        runs = taken.running;
        marked = taken.marked;
        index = taken.held;
        number = taken.size;
        lying = taken.lying;
        gives = taken.gives;
        slot = taken.text;
        beside = taken.settled;
      };
      good = taken.stands;
    }
