-- The door lets in whom the library would; then a turn is taken, or the last one was drawn.
use Rattle.std.proofs.Common.{◌≡◌, true, false, refl, sym, ◌∙◌, ap, subst, Some}
use Rattle.std.specs.Prelude.{option_map}
use Rattle.library_state.specs.declared.reply.Reply.{Reply}
use Rattle.depot.specs.DepotView.{DepotView}
use Rattle.sync_calls.specs.FirstAsking.{Spares}
use Rattle.sync_calls.specs.FirstAsking.AsksOne.{one_denied, one_spent, one_took}
use Rattle.sync_calls.specs.Door.{admitted}
use Rattle.sync_calls.specs.Operations.{Called, IsDone}
use Rattle.sync_calls.specs.Shown.{shown_of}
use Rattle.sync_calls.proofs.DoorLemmas.{door_admits}
use Rattle.sync_calls.proofs.asking.ask_at.Goals as goal

pub returns-then-not-is_admitted-clause-asks : goal.returns-then-not-is_admitted-clause-asks
returns-then-not-is_admitted-clause-asks g c =
    let may : admitted (shown_of c.args.pass.now).start (g.Q.Question.call c.args.question).secret (g.Q.Question.call c.args.question).act ≡ false
    = sym (door_admits c.args.room.now.door c.args.room.now.start.value (shown_of c.args.pass.now).start (g.Q.Question.call c.args.question).secret (g.Q.Question.call c.args.question).act c.requires.ready.opens c.requires.ready.begins)
    ∙ (sym c.is_admitted.ensures ∙ c.if-not-is_admitted.true) in
    one_denied may c.without_turn.ensures refl

pub returns-in-Ok-clause-asks : goal.returns-in-Ok-clause-asks
returns-in-Ok-clause-asks g c =
    let may : admitted (shown_of c.args.pass.now).start (g.Q.Question.call c.args.question).secret (g.Q.Question.call c.args.question).act ≡ true
    = sym (door_admits c.args.room.now.door c.args.room.now.start.value (shown_of c.args.pass.now).start (g.Q.Question.call c.args.question).secret (g.Q.Question.call c.args.question).act c.requires.ready.opens c.requires.ready.begins)
    ∙ (sym c.is_admitted.ensures ∙ c.if-not-is_admitted.false) in
    let told = subst (λ (r : Reply). (done : IsDone g.S.Shelf.contents g.S.Shelf.may_give g.S.Shelf.texts g.S.Shelf.faults (shown_of c.args.pass.now) c.in-Ok.served.place
    (Called (g.Q.Question.call c.args.question) c.args.moment r) (shown_of c.ask_behind_gate.new.pass)) × Spares (g.Q.Question.too_much c.args.question) r done)
    (sym c.judged.ensures) c.in-Ok.ensures.told in
    one_took may c.in-Ok.ensures.unspent c.in-Ok.served.place told.0 told.1
    (ap (λ o. option_map (λ (depot : DepotView g.row.S.Denot). depot.state.opening) o) c.requires.ready.begins ∙ ap Some (sym c.requires.ready.opens.opening)) c.in-Ok.ensures.size

pub returns-in-Err-clause-asks : goal.returns-in-Err-clause-asks
returns-in-Err-clause-asks g c =
    let may : admitted (shown_of c.args.pass.now).start (g.Q.Question.call c.args.question).secret (g.Q.Question.call c.args.question).act ≡ true
    = sym (door_admits c.args.room.now.door c.args.room.now.start.value (shown_of c.args.pass.now).start (g.Q.Question.call c.args.question).secret (g.Q.Question.call c.args.question).act c.requires.ready.opens c.requires.ready.begins)
    ∙ (sym c.is_admitted.ensures ∙ c.if-not-is_admitted.false) in
    one_spent may c.in-Err.ensures.err.1 c.without_turn-in-Err.ensures c.in-Err.ensures.err.0
