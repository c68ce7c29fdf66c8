-- One who may not ask is denied, and want of memory may come in the place of what is stored.
use Rattle.std.proofs.Common.{◌∙◌, ap, inr, refl, subst, sym}
use Rattle.std.specs.Prelude.{List}
use Rattle.ids.specs.declared.key.Kind.TheVariants.{Fs}
use Rattle.library_rules.specs.Calls.{token_of}
use Rattle.library_state.specs.declared.refusal.Refusal.TheVariants as refusal
use Rattle.library_state.specs.declared.reply.Reply.TheVariants as reply
use Rattle.library_state.specs.declared.token.Token.{Token}
use Rattle.depot.specs.Answering.{Serves, permits}
use Rattle.depot.specs.DepotView.{DepotView, IsGood, depot_of}
use Rattle.depot.specs.FirstGet.{fs_call, fs_get}
use Rattle.depot.proofs.ActLemmas.{get_serves}
use Rattle.depot.proofs.AnswerLawLemmas.{answered_files, answered_safe}
use Rattle.depot.proofs.GivingLemmas.{no_more_by}
use Rattle.depot.proofs.KeptLemmas.{serves_same}
use Rattle.depot.proofs.ServingLemmas.{denied_serves}
use Rattle.depot.proofs.depot.Depot.get_first.Goals as goal

pub returns-in-None-clause-serves : goal.returns-in-None-clause-serves
returns-in-None-clause-serves g c =
    let inside : DepotView g.row.S.Denot = depot_of c.self.inside.parts.store c.self.inside.parts.state c.self.inside.parts.unsettled c.self.inside.running in
    subst (λ (d : DepotView g.row.S.Denot). Serves g.S.Shelf.contents g.S.Shelf.may_give g.S.Shelf.texts g.S.Shelf.faults d (fs_call c.args.secret.now c.args.id) c.args.moment (reply.Refused refusal.Denied) d)
    c.self.view_is
    (serves_same g.S.Shelf.contents g.S.Shelf.faults inside inside refl refl g.S.Shelf.may_give g.S.Shelf.texts (fs_call c.args.secret.now c.args.id) c.args.moment (reply.Refused refusal.Denied) refl refl refl (λ now. refl)
    (denied_serves g.S.Shelf.contents g.S.Shelf.may_give g.S.Shelf.texts g.S.Shelf.faults inside (fs_call c.args.secret.now c.args.id) c.args.moment
    (ap (λ (tokens : List Token). permits (token_of tokens c.args.secret.now) (fs_get c.args.id)) (sym c.slice.ensures.value) ∙ c.in-None.ensures.absent)))

pub returns-then-not-fit-clause-serves : goal.returns-then-not-fit-clause-serves
returns-then-not-fit-clause-serves g c =
    let inside : DepotView g.row.S.Denot = depot_of c.self.inside.parts.store c.self.inside.parts.state c.self.inside.parts.unsettled c.self.inside.running in
    subst (λ (d : DepotView g.row.S.Denot). Serves g.S.Shelf.contents g.S.Shelf.may_give g.S.Shelf.texts g.S.Shelf.faults d (fs_call c.args.secret.now c.args.id) c.args.moment (reply.Refused refusal.NoMemory) d)
    c.self.view_is
    (serves_same g.S.Shelf.contents g.S.Shelf.faults inside inside refl refl g.S.Shelf.may_give g.S.Shelf.texts (fs_call c.args.secret.now c.args.id) c.args.moment (reply.Refused refusal.NoMemory) refl refl refl (λ now. refl)
    (get_serves g.S.Shelf.contents g.S.Shelf.may_give g.S.Shelf.texts g.S.Shelf.faults inside (fs_call c.args.secret.now c.args.id) c.args.moment
    (ap (λ (tokens : List Token). permits (token_of tokens c.args.secret.now) (fs_get c.args.id)) (sym c.slice.ensures.value) ∙ c.in-Some.ensures.found.right)
    (record { kind = Fs; id = c.args.id }) refl
    c.self.inside.parts.store (reply.Refused refusal.NoMemory) (record { index = refl; shelf = refl; objects = refl }) refl (λ objects told. inr tt) tt (λ objects told. tt) refl))

pub returns-clause-gives : goal.returns-clause-gives
returns-clause-gives g c = no_more_by c.answer_permitted-reply.ensures.gives

pub returns-in-None-clause-files : goal.returns-in-None-clause-files
returns-in-None-clause-files g c =
    answered_files g.S.Shelf.contents g.S.Shelf.faults c.args.self.now c.args.self.now (fs_call c.args.secret.now c.args.id) c.args.moment (reply.Refused refusal.Denied)
    (subst (IsGood g.S.Shelf.contents g.S.Shelf.faults) c.self.view_is c.self.invariant.good) (returns-in-None-clause-serves g c).told

pub returns-in-None-clause-safe : goal.returns-in-None-clause-safe
returns-in-None-clause-safe g c =
    answered_safe g.S.Shelf.contents g.S.Shelf.faults c.args.self.now c.args.self.now (fs_call c.args.secret.now c.args.id) c.args.moment (reply.Refused refusal.Denied)
    (subst (IsGood g.S.Shelf.contents g.S.Shelf.faults) c.self.view_is c.self.invariant.good) (returns-in-None-clause-serves g c).told

pub returns-then-not-fit-clause-files : goal.returns-then-not-fit-clause-files
returns-then-not-fit-clause-files g c =
    answered_files g.S.Shelf.contents g.S.Shelf.faults c.args.self.now c.args.self.now (fs_call c.args.secret.now c.args.id) c.args.moment (reply.Refused refusal.NoMemory)
    (subst (IsGood g.S.Shelf.contents g.S.Shelf.faults) c.self.view_is c.self.invariant.good) (returns-then-not-fit-clause-serves g c).told

pub returns-then-not-fit-clause-safe : goal.returns-then-not-fit-clause-safe
returns-then-not-fit-clause-safe g c =
    answered_safe g.S.Shelf.contents g.S.Shelf.faults c.args.self.now c.args.self.now (fs_call c.args.secret.now c.args.id) c.args.moment (reply.Refused refusal.NoMemory)
    (subst (IsGood g.S.Shelf.contents g.S.Shelf.faults) c.self.view_is c.self.invariant.good) (returns-then-not-fit-clause-serves g c).told

pub returns-clause-files : goal.returns-clause-files
returns-clause-files g c =
    answered_files g.S.Shelf.contents g.S.Shelf.faults c.args.self.now c.answer_permitted-reply.new.self (fs_call c.args.secret.now c.args.id) c.args.moment c.answer_permitted-reply.result
    (subst (IsGood g.S.Shelf.contents g.S.Shelf.faults) c.self.view_is c.self.invariant.good) c.answer_permitted-reply.ensures.value.told

pub returns-clause-safe : goal.returns-clause-safe
returns-clause-safe g c =
    answered_safe g.S.Shelf.contents g.S.Shelf.faults c.args.self.now c.answer_permitted-reply.new.self (fs_call c.args.secret.now c.args.id) c.args.moment c.answer_permitted-reply.result
    (subst (IsGood g.S.Shelf.contents g.S.Shelf.faults) c.self.view_is c.self.invariant.good) c.answer_permitted-reply.ensures.value.told
