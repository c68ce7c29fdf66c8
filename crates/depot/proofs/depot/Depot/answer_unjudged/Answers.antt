-- One who may not ask is denied.
use Rattle.std.proofs.Common.{◌∙◌, ap, subst, sym}
use Rattle.std.specs.Prelude.{List}
use Rattle.library_rules.specs.Calls.{token_of}
use Rattle.library_state.specs.declared.refusal.Refusal.TheVariants as refusal
use Rattle.library_state.specs.declared.reply.Reply.TheVariants as reply
use Rattle.library_state.specs.declared.token.Token.{Token}
use Rattle.depot.specs.Answering.{Serves, permits}
use Rattle.depot.specs.DepotView.{DepotView, IsGood, depot_of}
use Rattle.depot.specs.Unjudged.{judged}
use Rattle.depot.proofs.AnswerLawLemmas.{answered_files, answered_safe}
use Rattle.depot.proofs.HeldLemmas.{index_refused}
use Rattle.depot.proofs.StopsLemmas.{denied_beside}
use Rattle.depot.proofs.depot.Depot.answer_unjudged.Goals as goal

pub returns-in-None-clause-serves : goal.returns-in-None-clause-serves
returns-in-None-clause-serves g c =
    let inside : DepotView g.row.S.Denot = depot_of c.self.inside.parts.store c.self.inside.parts.state c.self.inside.parts.unsettled c.self.inside.running in
    subst (λ (d : DepotView g.row.S.Denot). Serves g.S.Shelf.contents g.S.Shelf.may_give g.S.Shelf.texts g.S.Shelf.faults d c.args.call c.args.moment (reply.Refused refusal.Denied) d)
    c.self.view_is
    (denied_beside g.S.Shelf.contents g.S.Shelf.faults g.S.Shelf.may_give g.S.Shelf.texts inside c.args.call c.args.moment
    (ap (λ (tokens : List Token). permits (token_of tokens c.args.call.secret) c.args.call.act) (sym c.slice.ensures.value) ∙ c.in-None.ensures.absent))

pub returns-in-None-clause-files : goal.returns-in-None-clause-files
returns-in-None-clause-files g c =
    answered_files g.S.Shelf.contents g.S.Shelf.faults c.args.self.now c.args.self.now c.args.call c.args.moment (reply.Refused refusal.Denied)
    (subst (IsGood g.S.Shelf.contents g.S.Shelf.faults) c.self.view_is c.self.invariant.good) (returns-in-None-clause-serves g c).told

pub returns-in-None-clause-safe : goal.returns-in-None-clause-safe
returns-in-None-clause-safe g c =
    answered_safe g.S.Shelf.contents g.S.Shelf.faults c.args.self.now c.args.self.now c.args.call c.args.moment (reply.Refused refusal.Denied)
    (subst (IsGood g.S.Shelf.contents g.S.Shelf.faults) c.self.view_is c.self.invariant.good) (returns-in-None-clause-serves g c).told

pub returns-in-Some-clause-files : goal.returns-in-Some-clause-files
returns-in-Some-clause-files g c =
    answered_files g.S.Shelf.contents g.S.Shelf.faults c.args.self.now c.answer_own_permitted-answer.new.self c.args.call c.args.moment (judged c.answer_own_permitted-answer.result)
    (subst (IsGood g.S.Shelf.contents g.S.Shelf.faults) c.self.view_is c.self.invariant.good) c.answer_own_permitted-answer.ensures.value.told

pub returns-in-Some-clause-safe : goal.returns-in-Some-clause-safe
returns-in-Some-clause-safe g c =
    answered_safe g.S.Shelf.contents g.S.Shelf.faults c.args.self.now c.answer_own_permitted-answer.new.self c.args.call c.args.moment (judged c.answer_own_permitted-answer.result)
    (subst (IsGood g.S.Shelf.contents g.S.Shelf.faults) c.self.view_is c.self.invariant.good) c.answer_own_permitted-answer.ensures.value.told

pub returns-in-None-clause-held : goal.returns-in-None-clause-held
returns-in-None-clause-held g c = index_refused c.args.call.act refusal.Denied c.args.self.now.store.index
