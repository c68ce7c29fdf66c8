-- A put and a get are answered by their own calls, and every other act as where the call is lent.
use Rattle.std.proofs.Common.{subst, sym}
use Rattle.depot.specs.Giving.{GivesBy, MayLay}
use Rattle.depot.specs.Held.{IndexSo}
use Rattle.depot.specs.ObjectCalls.{TellsName}
use Rattle.depot.specs.Unjudged.{judged}
use Rattle.depot.proofs.GivingLemmas.{no_more}
use Rattle.depot.proofs.depot.Depot.answer_own_permitted.Goals as goal

pub put_own-requires : goal.put_own-requires
put_own-requires g c = record { named = subst (λ a. TellsName a c.args.name) c.in-Put.is c.requires.named }

pub returns-in-Put : goal.returns-in-Put
returns-in-Put g c = record {
  value = c.put_own.ensures.value c.args.call c.args.moment c.requires.who.right c.in-Put.is;
  gives = subst (λ a. GivesBy (MayLay c.args.self.now.state.lib a) (g.S.Shelf.may_give c.args.self.now.store.shelf) (g.S.Shelf.may_give c.put_own.new.self.store.shelf)) (sym c.in-Put.is) c.put_own.ensures.gives;
  held = subst (λ a. IndexSo a c.put_own.result c.args.self.now.store.index c.put_own.new.self.store.index) (sym c.in-Put.is) c.put_own.ensures.held;
}

pub returns-in-Get : goal.returns-in-Get
returns-in-Get g c = record {
  value = c.get_unjudged.ensures.value c.args.call c.args.moment c.requires.who.right c.in-Get.is;
  gives = no_more _ c.get_unjudged.ensures.gives;
  held = subst (λ a. IndexSo a (judged c.get_unjudged.result) c.args.self.now.store.index c.get_unjudged.new.self.store.index) (sym c.in-Get.is) c.get_unjudged.ensures.held;
}
