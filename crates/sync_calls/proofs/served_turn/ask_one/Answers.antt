-- What the pass knows as the turn ends is what it knew in it, and what was done in it stays.
use Rattle.std.proofs.Common.{◌≡◌, None, false, rules, subst, sym}
use Rattle.depot.specs.Unjudged.{judged}
use Rattle.turnstile.specs.HeldTurn.{pass_of}
use Rattle.turnstile.specs.PassView.{drawn_of, view_of}
use Rattle.turnstile.specs.Rule.{most_turns}
use Rattle.sync_calls.specs.FirstAsking.{Spares}
use Rattle.sync_calls.specs.Operations.{Called, IsDone}
use Rattle.sync_calls.specs.ServedTurn.{CatchesUp}
use Rattle.sync_calls.specs.Shown.{Knows, LibraryView, shown_in, shown_of}
use Rattle.sync_calls.proofs.RoomLemmas.{not_behind}
use Rattle.sync_calls.proofs.served_turn.ask_one.Goals as goal

pub returns-clause-known : goal.returns-clause-known
returns-clause-known g c =
    let up : CatchesUp (shown_of c.args.pass.now) (shown_in (view_of (pass_of c.in_ok-held.held))) = search rules in
    let known = c.serve-served.ensures.known (shown_of c.args.pass.now) up c.requires.known in
    let same : view_of c.pass-2-1.given.0 ≡ record (view_of (pass_of c.serve-served.new.held)) { ticket = None; turn = false; told = 0 } = search rules in
    subst (λ (v : LibraryView g.row.S.Denot). Knows g.S.Shelf.contents g.S.Shelf.may_give g.S.Shelf.texts g.S.Shelf.faults (shown_in v)) (sym same) known

pub returns-clause-told : goal.returns-clause-told
returns-clause-told g c =
    let up : CatchesUp (shown_of c.args.pass.now) (shown_in (view_of (pass_of c.in_ok-held.held))) = search rules in
    let same : view_of c.pass-2-1.given.0 ≡ record (view_of (pass_of c.serve-served.new.held)) { ticket = None; turn = false; told = 0 } = search rules in
    subst (λ (v : LibraryView g.row.S.Denot). (done : IsDone g.S.Shelf.contents g.S.Shelf.may_give g.S.Shelf.texts g.S.Shelf.faults (shown_of c.args.pass.now) c.serve-served.result.place
    (Called (g.Q.Question.call c.args.question) c.args.moment (judged c.serve-served.result.answer)) (shown_in v)) × Spares (g.Q.Question.too_much c.args.question) (judged c.serve-served.result.answer) done)
    (sym same) (c.serve-served.ensures.told (shown_of c.args.pass.now) up)

-- a turn isn't drawn behind the last one
pub returns-clause-drawn : goal.returns-clause-drawn
returns-clause-drawn g c = λ was.
    absurd (not_behind (drawn_of c.args.pass.now) (drawn_of (pass_of c.in_ok-held.held)) most_turns was c.in_ok-held.ensures.seen.0.drawn_grows c.in_ok-held.ensures.unspent)
