-- The one turn that the hall tells of, by the rules.
use Rattle.std.proofs.Common.{◌≡◌, Some, false, subst, sym}
use Rattle.library_rules.specs.Changes.{is_refused}
use Rattle.library_state.specs.declared.reply.Reply.{Reply}
use Rattle.sync_calls.specs.Hall.{drawn_by, shown_by}
use Rattle.tree_merge.proofs.TableLemmas.{if_ok_more}
use Rattle.generated_library.specs.Leading.{Any, IsAnswered, Leads, call_of}
use Rattle.generated_library.proofs.OwnLemmas.{asks_lead}
use Rattle.generated_library.proofs.ReadyLemmas.{ready_books}
use Rattle.generated_library.proofs.StoppingLemmas.{asked_done, asked_stops}
use Rattle.generated_library.proofs.asking.ask.Goals as goal

pub returns-clause-leads : goal.returns-clause-leads
returns-clause-leads g c =
    let call = call_of (Some c.args.asker.now.secret) c.args.act in
    let turn = c.ask_own-answer.ensures.asks in
    if_ok_more c.unrefused.result
    (λ reply said. subst (λ (r : Reply). Leads g.S.Shelf.contents g.S.Shelf.faults (shown_by c.args.pass.now) (shown_by c.ask_own-answer.new.pass) Any (IsAnswered call c.args.asker.now.moment r)) (sym said.0)
    (asks_lead g.S.Shelf.contents g.S.Shelf.may_give g.S.Shelf.texts g.S.Shelf.faults (shown_by c.args.pass.now) (shown_by c.ask_own-answer.new.pass) c.args.asker.now.lib call c.args.asker.now.moment
    c.ask_own-answer.result turn.0 (drawn_by c.ask_own-answer.new.pass) (ready_books g.S.Shelf.contents g.S.Shelf.may_give g.S.Shelf.texts g.S.Shelf.faults c.args.hall.now c.args.pass.now c.requires.ready) turn.1 said.1))
    c.unrefused.ensures.value

pub returns-clause-done : goal.returns-clause-done
returns-clause-done g c =
    if_ok_more c.unrefused.result (λ reply said. subst (λ (r : Reply). is_refused r ≡ false) (sym said.0) said.1) c.unrefused.ensures.value

pub returns-clause-stops : goal.returns-clause-stops
returns-clause-stops g c =
    asked_stops g.S.Shelf.contents g.S.Shelf.may_give g.S.Shelf.texts g.S.Shelf.faults c.args.asker.now.lib c.args.asker.now.secret c.args.asker.now.moment (shown_by c.args.pass.now) c.ask_own-answer.new.pass c.args.act c.ask_own-answer.result c.ask_own-answer.ensures.asks c.requires.asks c.unrefused.result c.unrefused.ensures.stops

pub returns-clause-asked : goal.returns-clause-asked
returns-clause-asked g c =
    asked_done g.S.Shelf.contents g.S.Shelf.may_give g.S.Shelf.texts g.S.Shelf.faults c.args.asker.now.lib c.args.asker.now.secret c.args.asker.now.moment (shown_by c.args.pass.now) c.ask_own-answer.new.pass c.args.act c.ask_own-answer.result c.ask_own-answer.ensures.asks c.unrefused.result c.unrefused.ensures.value
