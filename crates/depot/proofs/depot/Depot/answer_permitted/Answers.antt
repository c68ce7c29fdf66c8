-- The head is told, and each other act is answered by its own call.
use Rattle.std.proofs.Common.{FitsSigned, rules, w64, to_z-of_z, ◌∙◌, ap, inl, refl, sym, subst}
use Rattle.std.specs.Prelude.{List, ℕ}
use Rattle.library_state.specs.declared.call.Act.TheVariants as act
use Rattle.library_state.specs.declared.reply.Reply.TheVariants as reply
use Rattle.depot.specs.Answering.{MayAsk, Serves}
use Rattle.depot.specs.Giving.{GivesBy, MayLay}
use Rattle.depot.specs.Held.{IndexSo}
use Rattle.depot.proofs.ActLemmas.{head_serves}
use Rattle.depot.proofs.GivingLemmas.{no_more}
use Rattle.depot.proofs.depot.Depot.answer_permitted.Goals as goal

pub check-requires : goal.check-requires
check-requires g c = record {
  who = (c.args.call.now.secret, subst (λ a. MayAsk c.args.self.now.state.tokens c.args.call.now.secret a c.args.place) c.in-Check.is c.requires.who);
}

pub returns-in-Check : goal.returns-in-Check
returns-in-Check g c = record {
  value = c.check.ensures.value c.args.moment c.args.call.now c.requires.who c.in-Check.is;
  gives = subst (λ a. GivesBy (MayLay c.args.self.now.state.lib a) (g.S.Shelf.may_give c.args.self.now.store.shelf) (g.S.Shelf.may_give c.check.new.self.store.shelf)) (sym c.in-Check.is) c.check.ensures.gives;
  held = subst (λ a. IndexSo a c.check.result c.args.self.now.store.index c.check.new.self.store.index) (sym c.in-Check.is) c.check.ensures.held;
}

pub returns-in-Head : goal.returns-in-Head
returns-in-Head g c = record {
  value = subst (λ (head : List ℕ). Serves g.S.Shelf.contents g.S.Shelf.may_give g.S.Shelf.texts g.S.Shelf.faults c.args.self.now c.args.call.now c.args.moment (reply.HeadIs head) c.args.self.now) (sym c.head.ensures.value)
      (head_serves g.S.Shelf.contents g.S.Shelf.may_give g.S.Shelf.texts g.S.Shelf.faults c.args.self.now c.args.call.now c.args.moment c.requires.who.right c.in-Head.is);
  gives = λ slot given is. inl is;
  held = subst (λ a. IndexSo a (reply.HeadIs c.head.result) c.args.self.now.store.index c.args.self.now.store.index) (sym c.in-Head.is) refl;
}

pub returns-in-Get : goal.returns-in-Get
returns-in-Get g c = record {
  value = c.get.ensures.value c.args.call.now c.args.moment c.requires.who.right c.in-Get.is;
  gives = no_more _ c.get.ensures.gives;
  held = subst (λ a. IndexSo a c.get.result c.args.self.now.store.index c.get.new.self.store.index) (sym c.in-Get.is) c.get.ensures.held;
}

pub update-requires : goal.update-requires
update-requires g c = record {
  who = (c.args.call.now.secret, subst (λ a. MayAsk c.args.self.now.state.tokens c.args.call.now.secret a c.args.place) c.in-Update.is c.requires.who);
}

pub returns-in-Update : goal.returns-in-Update
returns-in-Update g c = record {
  value = c.update.ensures.value c.args.call.now c.requires.who c.in-Update.is;
  gives = subst (λ a. GivesBy (MayLay c.args.self.now.state.lib a) (g.S.Shelf.may_give c.args.self.now.store.shelf) (g.S.Shelf.may_give c.update.new.self.store.shelf)) (sym c.in-Update.is) c.update.ensures.gives;
  held = subst (λ a. IndexSo a c.update.result c.args.self.now.store.index c.update.new.self.store.index) (sym c.in-Update.is) c.update.ensures.held;
}

pub returns-in-Put : goal.returns-in-Put
returns-in-Put g c = record {
  value = c.put.ensures.value c.args.call.now c.args.moment c.requires.who.right (c.in-Put.is ∙ ap (act.Put c.in-Put.key) (sym c.slice.ensures.value));
  gives = subst (λ a. GivesBy (MayLay c.args.self.now.state.lib a) (g.S.Shelf.may_give c.args.self.now.store.shelf) (g.S.Shelf.may_give c.put.new.self.store.shelf)) (sym (c.in-Put.is ∙ ap (act.Put c.in-Put.key) (sym c.slice.ensures.value))) c.put.ensures.gives;
  held = subst (λ a. IndexSo a c.put.result c.args.self.now.store.index c.put.new.self.store.index) (sym (c.in-Put.is ∙ ap (act.Put c.in-Put.key) (sym c.slice.ensures.value))) c.put.ensures.held;
}

pub returns-in-Missing : goal.returns-in-Missing
returns-in-Missing g c = record {
  value = c.missing.ensures.value c.args.call.now c.args.moment c.requires.who.right (c.in-Missing.is ∙ ap (act.Missing c.in-Missing.kind) (sym c.slice-in-Missing.ensures.value));
  gives = no_more _ c.missing.ensures.gives;
  held = subst (λ a. IndexSo a c.missing.result c.args.self.now.store.index c.missing.new.self.store.index) (sym c.in-Missing.is) c.missing.ensures.held;
}

pub returns-in-Ids : goal.returns-in-Ids
returns-in-Ids g c = record {
  value = c.list.ensures.value c.args.call.now c.args.moment c.requires.who.right c.in-Ids.is;
  gives = no_more _ c.list.ensures.gives;
  held = subst (λ a. IndexSo a c.list.result c.args.self.now.store.index c.list.new.self.store.index) (sym c.in-Ids.is) c.list.ensures.held;
}

pub returns-in-Limit-clause-value : goal.returns-in-Limit-clause-value
returns-in-Limit-clause-value g c =
    let fits : FitsSigned w64 c.in-Limit.days = search rules in
    c.limit.ensures.value c.args.call.now c.args.moment c.requires.who.right (c.in-Limit.is ∙ ap act.Limit (sym (to_z-of_z fits)))

pub returns-in-Limit-clause-held : goal.returns-in-Limit-clause-held
returns-in-Limit-clause-held g c = subst (λ a. IndexSo a c.limit.result c.args.self.now.store.index c.limit.new.self.store.index) (sym c.in-Limit.is) c.limit.ensures.held
