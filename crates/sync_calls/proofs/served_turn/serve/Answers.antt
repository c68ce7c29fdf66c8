-- A turn in which the library stayed, and one in which a change was published.
use Rattle.std.proofs.Common.{◌≡◌, ◌∷◌, [], sym, ◌∙◌, ap, subst}
use Rattle.library_state.specs.declared.call.Call.{Call}
use Rattle.library_state.specs.declared.refusal.Refusal.TheVariants.{NoMemory}
use Rattle.library_state.specs.declared.reply.Reply.{Reply}
use Rattle.library_state.specs.declared.reply.Reply.TheVariants as reply
use Rattle.depot.specs.Story.{IsAnswered, IsOther, IsSame}
use Rattle.depot.specs.Unjudged.{judged}
use Rattle.turnstile.specs.HeldTurn.{pass_of, value_of}
use Rattle.turnstile.specs.PassView.{view_of}
use Rattle.turnstile.specs.Steps.{with_entry}
use Rattle.sync_calls.specs.Operations.{Called, IsMadeBy}
use Rattle.sync_calls.specs.ServedTurn.{IsEntryOf}
use Rattle.sync_calls.proofs.ServedTurnLemmas.{kept_known, kept_spared, kept_stands, served_known, served_spared, served_stands}
use Rattle.sync_calls.proofs.served_turn.serve.Goals as goal

pub returns-then-not-changed-clause-stands : goal.returns-then-not-changed-clause-stands
returns-then-not-changed-clause-stands g c =
    let here : c.value-2.result.now ≡ value_of c.args.held.now = c.value-2.ensures.value ∙ c.value.ensures.value in
    kept_stands g.S.Shelf.contents g.S.Shelf.may_give g.S.Shelf.texts g.S.Shelf.faults (view_of (pass_of c.args.held.now)) (value_of c.args.held.now) c.tell-answer.new.depot
    (Called (g.Q.Question.call c.args.question) c.args.moment (judged c.tell-answer.result.0)) c.requires.stands
    (subst (λ x. IsSame g.S.Shelf.contents g.S.Shelf.faults x c.tell-answer.new.depot) here (c.tell-answer.ensures.same c.if-not-changed.true))
    (subst (λ x. IsAnswered g.S.Shelf.contents g.S.Shelf.may_give g.S.Shelf.texts g.S.Shelf.faults x (g.Q.Question.call c.args.question) c.args.moment (judged c.tell-answer.result.0) c.tell-answer.new.depot) here c.tell-answer.ensures.answered)

pub returns-then-not-changed-clause-told : goal.returns-then-not-changed-clause-told
returns-then-not-changed-clause-told g c = λ u up.
    let here : c.value-2.result.now ≡ value_of c.args.held.now = c.value-2.ensures.value ∙ c.value.ensures.value in
    kept_spared g.S.Shelf.contents g.S.Shelf.may_give g.S.Shelf.texts g.S.Shelf.faults (view_of (pass_of c.args.held.now)) (value_of c.args.held.now) c.tell-answer.new.depot
    c.place-place.result (g.Q.Question.call c.args.question) c.args.moment (judged c.tell-answer.result.0) (g.Q.Question.too_much c.args.question) c.requires.stands
    (subst (λ x. IsSame g.S.Shelf.contents g.S.Shelf.faults x c.tell-answer.new.depot) here (c.tell-answer.ensures.same c.if-not-changed.true))
    (c.place-place.ensures.value ∙ sym c.requires.ready.1.place_is)
    (subst (λ x. IsAnswered g.S.Shelf.contents g.S.Shelf.may_give g.S.Shelf.texts g.S.Shelf.faults x (g.Q.Question.call c.args.question) c.args.moment (judged c.tell-answer.result.0) c.tell-answer.new.depot) here c.tell-answer.ensures.answered)
    (subst (λ x. g.Q.Question.too_much c.args.question x → ((judged c.tell-answer.result.0) ≡ reply.Refused NoMemory) × (c.tell-answer.new.depot ≡ x)) here c.tell-answer.ensures.spares)
    u up

pub returns-then-not-changed-clause-known : goal.returns-then-not-changed-clause-known
returns-then-not-changed-clause-known g c = λ u up knows.
    kept_known g.S.Shelf.contents g.S.Shelf.may_give g.S.Shelf.texts g.S.Shelf.faults (view_of (pass_of c.args.held.now)) (value_of c.args.held.now) c.requires.stands u up knows

pub returns-clause-stands : goal.returns-clause-stands
returns-clause-stands g c =
    let here : c.value-2.result.now ≡ value_of c.args.held.now = c.value-2.ensures.value ∙ c.value.ensures.value in
    let said : IsAnswered g.S.Shelf.contents g.S.Shelf.may_give g.S.Shelf.texts g.S.Shelf.faults c.value-2.result.now (g.Q.Question.call c.args.question) c.args.moment c.judged-reply.result c.tell-answer.new.depot
    = subst (λ (r : Reply). IsAnswered g.S.Shelf.contents g.S.Shelf.may_give g.S.Shelf.texts g.S.Shelf.faults c.value-2.result.now (g.Q.Question.call c.args.question) c.args.moment r c.tell-answer.new.depot)
    (sym c.judged-reply.ensures) c.tell-answer.ensures.answered in
    let there : c.tell-answer.new.depot ≡ value_of c.publish.new.self = sym (c.publish.ensures.stays ∙ c.value-3.ensures.value) in
    let entry : IsEntryOf (value_of c.args.held.now) (Called (g.Q.Question.call c.args.question) c.args.moment c.judged-reply.result) (value_of c.publish.new.self) c.entry_of-entry.result.value
    = record {
      from = c.entry_of-entry.ensures.from ∙ (c.of-before.ensures ∙ c.value.ensures.value);
      made = subst (λ (k : Call). IsMadeBy c.entry_of-entry.result.value.made c.entry_of-entry.result.value.moment (Called k c.args.moment c.judged-reply.result)) c.asked-asked.ensures c.entry_of-entry.ensures.made;
      to = c.entry_of-entry.ensures.to ∙ (c.value-3.ensures.value ∙ there);
    } in
    served_stands g.S.Shelf.contents g.S.Shelf.may_give g.S.Shelf.texts g.S.Shelf.faults (view_of (pass_of c.args.held.now)) (view_of (pass_of c.publish.new.self))
    (value_of c.args.held.now) (value_of c.publish.new.self) c.publish.result (Called (g.Q.Question.call c.args.question) c.args.moment c.judged-reply.result) c.entry_of-entry.result.value
    c.requires.stands c.publish.ensures.view entry
    (subst (λ x. IsAnswered g.S.Shelf.contents g.S.Shelf.may_give g.S.Shelf.texts g.S.Shelf.faults x (g.Q.Question.call c.args.question) c.args.moment c.judged-reply.result (value_of c.publish.new.self)) here
    (subst (λ y. IsAnswered g.S.Shelf.contents g.S.Shelf.may_give g.S.Shelf.texts g.S.Shelf.faults c.value-2.result.now (g.Q.Question.call c.args.question) c.args.moment c.judged-reply.result y) there said))
    (subst (λ x. IsOther g.S.Shelf.contents g.S.Shelf.faults x (value_of c.publish.new.self)) here
    (subst (λ y. IsOther g.S.Shelf.contents g.S.Shelf.faults c.value-2.result.now y) there (c.tell-answer.ensures.other c.if-not-changed.false)))

pub returns-clause-told : goal.returns-clause-told
returns-clause-told g c = λ u up.
    let here : c.value-2.result.now ≡ value_of c.args.held.now = c.value-2.ensures.value ∙ c.value.ensures.value in
    let said : IsAnswered g.S.Shelf.contents g.S.Shelf.may_give g.S.Shelf.texts g.S.Shelf.faults c.value-2.result.now (g.Q.Question.call c.args.question) c.args.moment c.judged-reply.result c.tell-answer.new.depot
    = subst (λ (r : Reply). IsAnswered g.S.Shelf.contents g.S.Shelf.may_give g.S.Shelf.texts g.S.Shelf.faults c.value-2.result.now (g.Q.Question.call c.args.question) c.args.moment r c.tell-answer.new.depot)
    (sym c.judged-reply.ensures) c.tell-answer.ensures.answered in
    let spared : g.Q.Question.too_much c.args.question c.value-2.result.now → (c.judged-reply.result ≡ reply.Refused NoMemory) × (c.tell-answer.new.depot ≡ c.value-2.result.now)
    = subst (λ (r : Reply). g.Q.Question.too_much c.args.question c.value-2.result.now → (r ≡ reply.Refused NoMemory) × (c.tell-answer.new.depot ≡ c.value-2.result.now))
    (sym c.judged-reply.ensures) c.tell-answer.ensures.spares in
    let there : c.tell-answer.new.depot ≡ value_of c.publish.new.self = sym (c.publish.ensures.stays ∙ c.value-3.ensures.value) in
    let entry : IsEntryOf (value_of c.args.held.now) (Called (g.Q.Question.call c.args.question) c.args.moment c.judged-reply.result) (value_of c.publish.new.self) c.entry_of-entry.result.value
    = record {
      from = c.entry_of-entry.ensures.from ∙ (c.of-before.ensures ∙ c.value.ensures.value);
      made = subst (λ (k : Call). IsMadeBy c.entry_of-entry.result.value.made c.entry_of-entry.result.value.moment (Called k c.args.moment c.judged-reply.result)) c.asked-asked.ensures c.entry_of-entry.ensures.made;
      to = c.entry_of-entry.ensures.to ∙ (c.value-3.ensures.value ∙ there);
    } in
    let at : c.publish.result ≡ c.place-place.result = c.publish.ensures.value ∙ sym c.place-place.ensures.value in
    served_spared g.S.Shelf.contents g.S.Shelf.may_give g.S.Shelf.texts g.S.Shelf.faults (view_of (pass_of c.args.held.now)) (view_of (pass_of c.publish.new.self))
    (value_of c.args.held.now) (value_of c.publish.new.self) c.place-place.result (g.Q.Question.call c.args.question) c.args.moment c.judged-reply.result c.entry_of-entry.result.value (g.Q.Question.too_much c.args.question)
    c.requires.stands (c.publish.ensures.view ∙ ap (λ n. with_entry (view_of (pass_of c.args.held.now)) (c.entry_of-entry.result.value ∷ []) n) at) entry
    (subst (λ x. IsAnswered g.S.Shelf.contents g.S.Shelf.may_give g.S.Shelf.texts g.S.Shelf.faults x (g.Q.Question.call c.args.question) c.args.moment c.judged-reply.result (value_of c.publish.new.self)) here
    (subst (λ y. IsAnswered g.S.Shelf.contents g.S.Shelf.may_give g.S.Shelf.texts g.S.Shelf.faults c.value-2.result.now (g.Q.Question.call c.args.question) c.args.moment c.judged-reply.result y) there said))
    (subst (λ x. IsOther g.S.Shelf.contents g.S.Shelf.faults x (value_of c.publish.new.self)) here
    (subst (λ y. IsOther g.S.Shelf.contents g.S.Shelf.faults c.value-2.result.now y) there (c.tell-answer.ensures.other c.if-not-changed.false)))
    (c.place-place.ensures.value ∙ sym c.requires.ready.1.place_is)
    (subst (λ x. g.Q.Question.too_much c.args.question x → (c.judged-reply.result ≡ reply.Refused NoMemory) × (value_of c.publish.new.self ≡ x)) here
    (subst (λ y. g.Q.Question.too_much c.args.question c.value-2.result.now → (c.judged-reply.result ≡ reply.Refused NoMemory) × (y ≡ c.value-2.result.now)) there spared))
    u up

pub returns-clause-known : goal.returns-clause-known
returns-clause-known g c = λ u up knows.
    let here : c.value-2.result.now ≡ value_of c.args.held.now = c.value-2.ensures.value ∙ c.value.ensures.value in
    let said : IsAnswered g.S.Shelf.contents g.S.Shelf.may_give g.S.Shelf.texts g.S.Shelf.faults c.value-2.result.now (g.Q.Question.call c.args.question) c.args.moment c.judged-reply.result c.tell-answer.new.depot
    = subst (λ (r : Reply). IsAnswered g.S.Shelf.contents g.S.Shelf.may_give g.S.Shelf.texts g.S.Shelf.faults c.value-2.result.now (g.Q.Question.call c.args.question) c.args.moment r c.tell-answer.new.depot)
    (sym c.judged-reply.ensures) c.tell-answer.ensures.answered in
    let there : c.tell-answer.new.depot ≡ value_of c.publish.new.self = sym (c.publish.ensures.stays ∙ c.value-3.ensures.value) in
    let entry : IsEntryOf (value_of c.args.held.now) (Called (g.Q.Question.call c.args.question) c.args.moment c.judged-reply.result) (value_of c.publish.new.self) c.entry_of-entry.result.value
    = record {
      from = c.entry_of-entry.ensures.from ∙ (c.of-before.ensures ∙ c.value.ensures.value);
      made = subst (λ (k : Call). IsMadeBy c.entry_of-entry.result.value.made c.entry_of-entry.result.value.moment (Called k c.args.moment c.judged-reply.result)) c.asked-asked.ensures c.entry_of-entry.ensures.made;
      to = c.entry_of-entry.ensures.to ∙ (c.value-3.ensures.value ∙ there);
    } in
    served_known g.S.Shelf.contents g.S.Shelf.may_give g.S.Shelf.texts g.S.Shelf.faults (view_of (pass_of c.args.held.now)) (view_of (pass_of c.publish.new.self))
    (value_of c.args.held.now) (value_of c.publish.new.self) c.publish.result (Called (g.Q.Question.call c.args.question) c.args.moment c.judged-reply.result) c.entry_of-entry.result.value
    c.requires.stands c.publish.ensures.view entry
    (subst (λ x. IsAnswered g.S.Shelf.contents g.S.Shelf.may_give g.S.Shelf.texts g.S.Shelf.faults x (g.Q.Question.call c.args.question) c.args.moment c.judged-reply.result (value_of c.publish.new.self)) here
    (subst (λ y. IsAnswered g.S.Shelf.contents g.S.Shelf.may_give g.S.Shelf.texts g.S.Shelf.faults c.value-2.result.now (g.Q.Question.call c.args.question) c.args.moment c.judged-reply.result y) there said))
    (subst (λ x. IsOther g.S.Shelf.contents g.S.Shelf.faults x (value_of c.publish.new.self)) here
    (subst (λ y. IsOther g.S.Shelf.contents g.S.Shelf.faults c.value-2.result.now y) there (c.tell-answer.ensures.other c.if-not-changed.false)))
    (c.publish.ensures.value ∙ sym c.requires.ready.1.place_is) u up knows
