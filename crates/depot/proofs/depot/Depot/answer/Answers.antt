-- One who may ask is answered, and else the call is denied.
use Rattle.std.proofs.Common.{◌≡◌, ◌∙◌, ap, sym, subst, false}
use Rattle.library_state.specs.declared.token.Token.{Token}
use Rattle.std.specs.Prelude.{List}
use Rattle.library_rules.specs.Calls.{token_of}
use Rattle.library_state.specs.declared.refusal.Refusal.TheVariants as refusal
use Rattle.library_state.specs.declared.reply.Reply.TheVariants as reply
use Rattle.depot.specs.Answering.{permits}
use Rattle.depot.specs.DepotView.{DepotView, IsGood, running_of}
use Rattle.depot.specs.FreshKeys.{RunsOn, told_there}
use Rattle.depot.proofs.AnswerLawLemmas.{answered_files, answered_safe}
use Rattle.depot.proofs.HeldLemmas.{index_refused}
use Rattle.depot.proofs.ServingLemmas.{denied_told, runs_still}
use Rattle.depot.proofs.StopsLemmas.{none_told}
use Rattle.depot.proofs.depot.Depot.answer.Goals as goal

pub returns-in-None-clause-shown : goal.returns-in-None-clause-shown
returns-in-None-clause-shown g c =
    denied_told g.S.Shelf.contents g.S.Shelf.faults c.args.self.now c.args.call.now c.args.moment
    (subst (λ (old : DepotView g.row.S.Denot). permits (token_of old.state.tokens c.args.call.now.secret) c.args.call.now.act ≡ false) c.self.view_is
    (ap (λ (tokens : List Token). permits (token_of tokens c.args.call.now.secret) c.args.call.now.act) (sym c.slice.ensures.value) ∙ c.in-None.ensures.absent))

pub returns-in-None-clause-running : goal.returns-in-None-clause-running
returns-in-None-clause-running g c =
    subst (λ (old : DepotView g.row.S.Denot). RunsOn old.store.index old.store.index (told_there old.store.index c.args.call.now.act (reply.Refused refusal.Denied)) old.running old.running)
    c.self.view_is (runs_still c.self.inside.parts.store.index (told_there c.self.inside.parts.store.index c.args.call.now.act (reply.Refused refusal.Denied)) (running_of c.self.inside.running)
    (none_told c.self.inside.parts.store.index c.args.call.now.act refusal.Denied))

pub returns-in-None-clause-files : goal.returns-in-None-clause-files
returns-in-None-clause-files g c =
    answered_files g.S.Shelf.contents g.S.Shelf.faults c.args.self.now c.args.self.now c.args.call.now c.args.moment (reply.Refused refusal.Denied)
    (subst (IsGood g.S.Shelf.contents g.S.Shelf.faults) c.self.view_is c.self.invariant.good) (returns-in-None-clause-shown g c)

pub returns-in-None-clause-safe : goal.returns-in-None-clause-safe
returns-in-None-clause-safe g c =
    answered_safe g.S.Shelf.contents g.S.Shelf.faults c.args.self.now c.args.self.now c.args.call.now c.args.moment (reply.Refused refusal.Denied)
    (subst (IsGood g.S.Shelf.contents g.S.Shelf.faults) c.self.view_is c.self.invariant.good) (returns-in-None-clause-shown g c)

pub returns-in-Some-clause-files : goal.returns-in-Some-clause-files
returns-in-Some-clause-files g c =
    answered_files g.S.Shelf.contents g.S.Shelf.faults c.args.self.now c.answer_permitted-reply.new.self c.args.call.now c.args.moment c.answer_permitted-reply.result
    (subst (IsGood g.S.Shelf.contents g.S.Shelf.faults) c.self.view_is c.self.invariant.good) c.answer_permitted-reply.ensures.value.told

pub returns-in-Some-clause-safe : goal.returns-in-Some-clause-safe
returns-in-Some-clause-safe g c =
    answered_safe g.S.Shelf.contents g.S.Shelf.faults c.args.self.now c.answer_permitted-reply.new.self c.args.call.now c.args.moment c.answer_permitted-reply.result
    (subst (IsGood g.S.Shelf.contents g.S.Shelf.faults) c.self.view_is c.self.invariant.good) c.answer_permitted-reply.ensures.value.told

pub returns-in-None-clause-held : goal.returns-in-None-clause-held
returns-in-None-clause-held g c = index_refused c.args.call.now.act refusal.Denied c.args.self.now.store.index
