-- A turn in which the library stayed, and one in which a change was published.
use Rattle.std.proofs.Common.{◌≡◌, ◌∷◌, [], inl, inr, sym, ◌∙◌, ap, subst}
use Rattle.depot.specs.DepotView.{DepotView}
use Rattle.depot.specs.Story.{IsOther, IsSame, IsTurned}
use Rattle.turnstile.specs.HeldTurn.{pass_of, value_of}
use Rattle.turnstile.specs.PassView.{view_of}
use Rattle.turnstile.specs.Steps.{with_entry}
use Rattle.sync_calls.specs.Operations.{TookTurn}
use Rattle.sync_calls.specs.CollectTurn.{running_number}
use Rattle.sync_calls.specs.ServedTurn.{IsEntryOf}
use Rattle.sync_calls.proofs.CollectTurnLemmas.{runs_at}
use Rattle.sync_calls.proofs.ServedTurnLemmas.{kept_known, kept_stands, kept_told, served_known, served_stands, served_told}
use Rattle.sync_calls.proofs.collect_turn.take.Goals as goal

pub returns-then-not-changed-clause-stands : goal.returns-then-not-changed-clause-stands
returns-then-not-changed-clause-stands g c =
    let here : c.value-2.result.now ≡ value_of c.args.held.now = c.value-2.ensures.value ∙ c.value.ensures.value in
    kept_stands g.S.Shelf.contents g.S.Shelf.may_give g.S.Shelf.texts g.S.Shelf.faults (view_of (pass_of c.args.held.now)) (value_of c.args.held.now) c.turned-turn.new.depot
    (TookTurn c.args.goal c.args.moment 1000 c.turned-turn.result.0) c.requires.stands
    (subst (λ x. IsSame g.S.Shelf.contents g.S.Shelf.faults x c.turned-turn.new.depot) here (c.turned-turn.ensures.same c.if-not-changed.true))
    (subst (λ x. IsTurned g.S.Shelf.contents g.S.Shelf.may_give g.S.Shelf.texts g.S.Shelf.faults x c.args.goal c.args.moment 1000 c.turned-turn.result.0 c.turned-turn.new.depot) here c.turned-turn.ensures.turned)

pub returns-then-not-changed-clause-told : goal.returns-then-not-changed-clause-told
returns-then-not-changed-clause-told g c = λ u up.
    let here : c.value-2.result.now ≡ value_of c.args.held.now = c.value-2.ensures.value ∙ c.value.ensures.value in
    inl (kept_told g.S.Shelf.contents g.S.Shelf.may_give g.S.Shelf.texts g.S.Shelf.faults (view_of (pass_of c.args.held.now)) (value_of c.args.held.now) c.turned-turn.new.depot
    c.place-place.result (TookTurn c.args.goal c.args.moment 1000 c.turned-turn.result.0) c.requires.stands
    (subst (λ x. IsSame g.S.Shelf.contents g.S.Shelf.faults x c.turned-turn.new.depot) here (c.turned-turn.ensures.same c.if-not-changed.true))
    (c.place-place.ensures.value ∙ sym c.requires.ready.1.place_is)
    (subst (λ x. IsTurned g.S.Shelf.contents g.S.Shelf.may_give g.S.Shelf.texts g.S.Shelf.faults x c.args.goal c.args.moment 1000 c.turned-turn.result.0 c.turned-turn.new.depot) here c.turned-turn.ensures.turned)
    u up)

pub returns-then-not-changed-clause-known : goal.returns-then-not-changed-clause-known
returns-then-not-changed-clause-known g c = λ u up knows.
    let here : c.value-2.result.now ≡ value_of c.args.held.now = c.value-2.ensures.value ∙ c.value.ensures.value in
    kept_known g.S.Shelf.contents g.S.Shelf.may_give g.S.Shelf.texts g.S.Shelf.faults (view_of (pass_of c.args.held.now)) (value_of c.args.held.now) c.requires.stands u up knows

pub returns-clause-stands : goal.returns-clause-stands
returns-clause-stands g c =
    let here : c.value-2.result.now ≡ value_of c.args.held.now = c.value-2.ensures.value ∙ c.value.ensures.value in
    let there : c.turned-turn.new.depot ≡ value_of c.publish.new.self = sym (c.publish.ensures.stays ∙ c.value-3.ensures.value) in
    let entry : IsEntryOf (value_of c.args.held.now) (TookTurn c.args.goal c.args.moment 1000 c.turned-turn.result.0) (value_of c.publish.new.self) c.entry_of-entry.result.value
    = record {
      from = c.entry_of-entry.ensures.from ∙ (c.of-before.ensures ∙ c.value.ensures.value);
      made = c.entry_of-entry.ensures.made;
      to = c.entry_of-entry.ensures.to ∙ (c.value-3.ensures.value ∙ there);
    } in
    served_stands g.S.Shelf.contents g.S.Shelf.may_give g.S.Shelf.texts g.S.Shelf.faults (view_of (pass_of c.args.held.now)) (view_of (pass_of c.publish.new.self))
    (value_of c.args.held.now) (value_of c.publish.new.self) c.publish.result (TookTurn c.args.goal c.args.moment 1000 c.turned-turn.result.0) c.entry_of-entry.result.value
    c.requires.stands c.publish.ensures.view entry
    (subst (λ x. IsTurned g.S.Shelf.contents g.S.Shelf.may_give g.S.Shelf.texts g.S.Shelf.faults x c.args.goal c.args.moment 1000 c.turned-turn.result.0 (value_of c.publish.new.self)) here
    (subst (λ y. IsTurned g.S.Shelf.contents g.S.Shelf.may_give g.S.Shelf.texts g.S.Shelf.faults c.value-2.result.now c.args.goal c.args.moment 1000 c.turned-turn.result.0 y) there c.turned-turn.ensures.turned))
    (subst (λ x. IsOther g.S.Shelf.contents g.S.Shelf.faults x (value_of c.publish.new.self)) here
    (subst (λ y. IsOther g.S.Shelf.contents g.S.Shelf.faults c.value-2.result.now y) there (c.turned-turn.ensures.other c.if-not-changed.false)))

pub returns-clause-told : goal.returns-clause-told
returns-clause-told g c = λ u up.
    let here : c.value-2.result.now ≡ value_of c.args.held.now = c.value-2.ensures.value ∙ c.value.ensures.value in
    let there : c.turned-turn.new.depot ≡ value_of c.publish.new.self = sym (c.publish.ensures.stays ∙ c.value-3.ensures.value) in
    let entry : IsEntryOf (value_of c.args.held.now) (TookTurn c.args.goal c.args.moment 1000 c.turned-turn.result.0) (value_of c.publish.new.self) c.entry_of-entry.result.value
    = record {
      from = c.entry_of-entry.ensures.from ∙ (c.of-before.ensures ∙ c.value.ensures.value);
      made = c.entry_of-entry.ensures.made;
      to = c.entry_of-entry.ensures.to ∙ (c.value-3.ensures.value ∙ there);
    } in
    let at : c.publish.result ≡ c.place-place.result = c.publish.ensures.value ∙ sym c.place-place.ensures.value in
    inr (served_told g.S.Shelf.contents g.S.Shelf.may_give g.S.Shelf.texts g.S.Shelf.faults (view_of (pass_of c.args.held.now)) (view_of (pass_of c.publish.new.self))
    (value_of c.args.held.now) (value_of c.publish.new.self) c.place-place.result (TookTurn c.args.goal c.args.moment 1000 c.turned-turn.result.0) c.entry_of-entry.result.value
    c.requires.stands (c.publish.ensures.view ∙ ap (λ n. with_entry (view_of (pass_of c.args.held.now)) (c.entry_of-entry.result.value ∷ []) n) at) entry
    (subst (λ x. IsTurned g.S.Shelf.contents g.S.Shelf.may_give g.S.Shelf.texts g.S.Shelf.faults x c.args.goal c.args.moment 1000 c.turned-turn.result.0 (value_of c.publish.new.self)) here
    (subst (λ y. IsTurned g.S.Shelf.contents g.S.Shelf.may_give g.S.Shelf.texts g.S.Shelf.faults c.value-2.result.now c.args.goal c.args.moment 1000 c.turned-turn.result.0 y) there c.turned-turn.ensures.turned))
    (subst (λ x. IsOther g.S.Shelf.contents g.S.Shelf.faults x (value_of c.publish.new.self)) here
    (subst (λ y. IsOther g.S.Shelf.contents g.S.Shelf.faults c.value-2.result.now y) there (c.turned-turn.ensures.other c.if-not-changed.false)))
    (c.place-place.ensures.value ∙ sym c.requires.ready.1.place_is) u up)

pub returns-clause-known : goal.returns-clause-known
returns-clause-known g c = λ u up knows.
    let here : c.value-2.result.now ≡ value_of c.args.held.now = c.value-2.ensures.value ∙ c.value.ensures.value in
    let there : c.turned-turn.new.depot ≡ value_of c.publish.new.self = sym (c.publish.ensures.stays ∙ c.value-3.ensures.value) in
    let entry : IsEntryOf (value_of c.args.held.now) (TookTurn c.args.goal c.args.moment 1000 c.turned-turn.result.0) (value_of c.publish.new.self) c.entry_of-entry.result.value
    = record {
      from = c.entry_of-entry.ensures.from ∙ (c.of-before.ensures ∙ c.value.ensures.value);
      made = c.entry_of-entry.ensures.made;
      to = c.entry_of-entry.ensures.to ∙ (c.value-3.ensures.value ∙ there);
    } in
    served_known g.S.Shelf.contents g.S.Shelf.may_give g.S.Shelf.texts g.S.Shelf.faults (view_of (pass_of c.args.held.now)) (view_of (pass_of c.publish.new.self))
    (value_of c.args.held.now) (value_of c.publish.new.self) c.publish.result (TookTurn c.args.goal c.args.moment 1000 c.turned-turn.result.0) c.entry_of-entry.result.value
    c.requires.stands c.publish.ensures.view entry
    (subst (λ x. IsTurned g.S.Shelf.contents g.S.Shelf.may_give g.S.Shelf.texts g.S.Shelf.faults x c.args.goal c.args.moment 1000 c.turned-turn.result.0 (value_of c.publish.new.self)) here
    (subst (λ y. IsTurned g.S.Shelf.contents g.S.Shelf.may_give g.S.Shelf.texts g.S.Shelf.faults c.value-2.result.now c.args.goal c.args.moment 1000 c.turned-turn.result.0 y) there c.turned-turn.ensures.turned))
    (subst (λ x. IsOther g.S.Shelf.contents g.S.Shelf.faults x (value_of c.publish.new.self)) here
    (subst (λ y. IsOther g.S.Shelf.contents g.S.Shelf.faults c.value-2.result.now y) there (c.turned-turn.ensures.other c.if-not-changed.false)))
    (c.publish.ensures.value ∙ sym c.requires.ready.1.place_is) u up knows

pub returns-then-not-changed-clause-running : goal.returns-then-not-changed-clause-running
returns-then-not-changed-clause-running g c =
    runs_at g.S.Shelf.contents g.S.Shelf.may_give g.S.Shelf.texts g.S.Shelf.faults (view_of (pass_of c.args.held.now)) c.turned-turn.new.depot c.turned-turn.result.2
    (returns-then-not-changed-clause-stands g c) c.turned-turn.ensures.running

pub returns-clause-running : goal.returns-clause-running
returns-clause-running g c =
    let there : c.turned-turn.new.depot ≡ value_of c.publish.new.self = sym (c.publish.ensures.stays ∙ c.value-3.ensures.value) in
    runs_at g.S.Shelf.contents g.S.Shelf.may_give g.S.Shelf.texts g.S.Shelf.faults (view_of (pass_of c.publish.new.self)) (value_of c.publish.new.self) c.turned-turn.result.2
    (returns-clause-stands g c) (c.turned-turn.ensures.running ∙ ap (λ (d : DepotView g.row.S.Denot). running_number d) there)
