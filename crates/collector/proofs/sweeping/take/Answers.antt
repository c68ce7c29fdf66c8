-- The candidate leaves with its object, and is told last; refused, what is told goes by the fault.
use Rattle.std.proofs.Common.{refl, rules}
use Rattle.collector.proofs.SweepLemmas.{gives_refused, gives_told, strays_at_key, took_refused}
use Rattle.collector.proofs.sweeping.take.Goals as goal

pub returns-in-Err-clause-value : goal.returns-in-Err-clause-value
returns-in-Err-clause-value g c = record {
  candidates = refl;
  removed = c.in-Err.ensures.items;
  kept = record { index = refl; shelf = refl; objects = refl };
}

pub returns-in-Ok-give_up-clause-value : goal.returns-in-Ok-give_up-clause-value
returns-in-Ok-give_up-clause-value g c = record {
  candidates = c.remove.ensures.stays;
  removed = search rules;
  index = c.in-Ok-give_up.ensures.changes.index;
  objects = c.in-Ok-give_up.ensures.ok;
}

pub returns-in-Err-give_up-clause-value : goal.returns-in-Err-give_up-clause-value
returns-in-Err-give_up-clause-value g c =
    took_refused g.S.Shelf.contents c.args.store.now c.give_up.new.self c.args.candidates.now c.tell_rest.new.candidates c.args.removed.now.items c.push.new.self.items
    c.tell_rest.new.removed.items c.args.key.now c.len-told.result c.in-Err-give_up.fault c.in-Err-give_up.ensures.changes c.in-Err-give_up.ensures.ok
    (search rules) (search rules) c.tell_rest.ensures.value

pub returns-in-Ok-give_up-clause-lying : goal.returns-in-Ok-give_up-clause-lying
returns-in-Ok-give_up-clause-lying g c = c.in-Ok-give_up.ensures.lying

pub returns-in-Err-give_up-clause-lying : goal.returns-in-Err-give_up-clause-lying
returns-in-Err-give_up-clause-lying g c =
    strays_at_key g.S.Shelf.contents c.args.store.now c.give_up.new.self c.args.candidates.now c.tell_rest.new.candidates c.args.removed.now.items c.tell_rest.new.removed.items c.args.key.now
    c.in-Err-give_up.fault c.in-Err-give_up.ensures.changes (returns-in-Err-give_up-clause-value g c)

pub returns-in-Ok-give_up-clause-gives : goal.returns-in-Ok-give_up-clause-gives
returns-in-Ok-give_up-clause-gives g c =
    gives_told (g.S.Shelf.may_give c.args.store.now.shelf) (g.S.Shelf.may_give c.give_up.new.self.shelf) c.args.removed.now.items c.push.new.self.items c.args.key.now (search rules)
    c.give_up.ensures.shelf.gives

pub returns-in-Err-give_up-clause-gives : goal.returns-in-Err-give_up-clause-gives
returns-in-Err-give_up-clause-gives g c =
    gives_refused g.S.Shelf.contents c.args.store.now c.give_up.new.self c.args.candidates.now c.tell_rest.new.candidates (g.S.Shelf.may_give c.args.store.now.shelf)
    (g.S.Shelf.may_give c.give_up.new.self.shelf) c.args.removed.now.items c.tell_rest.new.removed.items c.args.key.now c.in-Err-give_up.fault (returns-in-Err-give_up-clause-value g c)
    c.give_up.ensures.shelf.gives c.in-Err-give_up.ensures.untouched
