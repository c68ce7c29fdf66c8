-- The hall has the one library, which nobody else asks, and gives it back.
use Rattle.std.proofs.Common.{◌∙◌, ap, length, map, refl, sym}
use Rattle.depot.specs.Story.{comes_itself}
use Rattle.sync_calls.specs.Making.{IsNewOf, new_shown}
use Rattle.sync_calls.proofs.GatheredLemmas.{popped}
use Rattle.library_server.specs.Filling.{no_room}
use Rattle.library_server.proofs.FilledLemmas.{alone_out, come_out, fills_by, one_pushed, same_out}
use Rattle.library_server.proofs.filling.fill_new.Goals as goal

pub returns-in-Err : goal.returns-in-Err
returns-in-Err g c = λ left counts. no_room (comes_itself g.S.Shelf.contents g.S.Shelf.may_give g.S.Shelf.texts g.S.Shelf.faults c.args.depot) refl

pub only-requires : goal.only-requires
only-requires g c = record { one = c.in-Err-new.ensures.err.0 ∙ ap length (one_pushed {some = c.push_reserved.new.self.items} c.in-Ok.ensures.items c.push_reserved.ensures.items) }

pub returns-in-Err-new : goal.returns-in-Err-new
returns-in-Err-new g c = λ left counts.
    no_room (same_out g.S.Shelf.contents g.S.Shelf.may_give g.S.Shelf.texts g.S.Shelf.faults c.args.depot c.only.result _ _ (one_pushed {some = c.push_reserved.new.self.items} c.in-Ok.ensures.items c.push_reserved.ensures.items) c.only.ensures c.in-Err-new.ensures.err) refl

pub fill-filled-requires : goal.fill-filled-requires
fill-filled-requires g c =
    let new = (popped (IsNewOf g.S.Shelf.contents g.S.Shelf.may_give g.S.Shelf.texts g.S.Shelf.faults 1 c.push_reserved.new.self.items c.in-Ok-new.made.0) _ _ _ c.in-Some.ensures.items c.in-Ok-new.ensures.ok).1 in
    record { ready = new.ready; few = c.requires.few }

pub close-requires : goal.close-requires
close-requires g c =
    let new = (popped (IsNewOf g.S.Shelf.contents g.S.Shelf.may_give g.S.Shelf.texts g.S.Shelf.faults 1 c.push_reserved.new.self.items c.in-Ok-new.made.0) _ _ _ c.in-Some.ensures.items c.in-Ok-new.ensures.ok).1 in
    record { ready = c.fill-filled.ensures.ready; all = c.fill-filled.ensures.size.0 ∙ (new.share ∙ sym (c.fill-filled.ensures.size.1 ∙ new.made)) }

pub only-depot-requires : goal.only-depot-requires
only-depot-requires g c =
    let new = (popped (IsNewOf g.S.Shelf.contents g.S.Shelf.may_give g.S.Shelf.texts g.S.Shelf.faults 1 c.push_reserved.new.self.items c.in-Ok-new.made.0) _ _ _ c.in-Some.ensures.items c.in-Ok-new.ensures.ok).1 in
    let shows = new.shows ∙ ap (map new_shown) (one_pushed {some = c.push_reserved.new.self.items} c.in-Ok.ensures.items c.push_reserved.ensures.items) in
    record { one = alone_out g.S.Shelf.contents g.S.Shelf.may_give g.S.Shelf.texts g.S.Shelf.faults c.in-Ok-new.made.0 c.in-Some.pass c.fill-filled.new.pass (new_shown c.args.depot) c.close.result.items new.ready shows c.fill-filled.ensures.ready c.close.ensures }

pub returns : goal.returns
returns g c =
    let new = (popped (IsNewOf g.S.Shelf.contents g.S.Shelf.may_give g.S.Shelf.texts g.S.Shelf.faults 1 c.push_reserved.new.self.items c.in-Ok-new.made.0) _ _ _ c.in-Some.ensures.items c.in-Ok-new.ensures.ok).1 in
    let shows = new.shows ∙ ap (map new_shown) (one_pushed {some = c.push_reserved.new.self.items} c.in-Ok.ensures.items c.push_reserved.ensures.items) in
    let out = come_out g.S.Shelf.contents g.S.Shelf.may_give g.S.Shelf.texts g.S.Shelf.faults c.in-Ok-new.made.0 c.in-Some.pass c.fill-filled.new.pass c.args.depot c.only-depot.result c.close.result.items new.ready shows c.fill-filled.ensures.ready c.close.ensures c.only-depot.ensures in
    λ left counts.
    rw c.told_of.ensures.value (rw c.collection.ensures.value (fills_by g.S.Shelf.contents g.S.Shelf.may_give g.S.Shelf.texts g.S.Shelf.faults (g.C.Clock.shows c.args.clock.now) c.args.plan.now.count c.args.plan.now.number
    c.args.plan.now.lib c.args.plan.now.secret c.args.plan.now.head c.args.depot c.only-depot.result _ c.fill-filled.new.pass c.fill-filled.result left c.requires.named c.requires.who c.requires.stands c.requires.good shows out
    c.fill-filled.ensures.leads c.fill-filled.ensures.numbers c.fill-filled.ensures.last c.fill-filled.ensures.stops counts))
