-- The text, if there is one, is the object that is put.
use Rattle.std.proofs.Common.{Ok, subst, sym}
use Rattle.depot.specs.Plan.{AreNamed, own_object}
use Rattle.depot.specs.UpdateInstall.{ArePuttable, PutsSo}
use Rattle.depot.proofs.UpdateInstallLemmas.{puts_nothing}
use Rattle.depot.proofs.update_install.put_text.Goals as goal

pub put_one-requires-clause-named : goal.put_one-requires-clause-named
put_one-requires-clause-named g c = subst (λ text. AreNamed (own_object c.args.head.now text)) c.in-Some.is c.requires.named

pub put_one-requires-clause-ready : goal.put_one-requires-clause-ready
put_one-requires-clause-ready g c = λ objects told. subst (λ text. ArePuttable objects (own_object c.args.head.now text)) c.in-Some.is (c.requires.ready objects told)

pub returns-in-Some : goal.returns-in-Some
returns-in-Some g c = record {
  value = subst (λ text. PutsSo g.S.Shelf.contents g.S.Shelf.may_give g.S.Shelf.texts g.S.Shelf.faults (own_object c.args.head.now text) c.args.store.now c.put_one.new.store c.put_one.result)
      (sym c.in-Some.is) c.put_one.ensures.value;
}

pub returns-in-None : goal.returns-in-None
returns-in-None g c = record {
  value = subst (λ text. PutsSo g.S.Shelf.contents g.S.Shelf.may_give g.S.Shelf.texts g.S.Shelf.faults (own_object c.args.head.now text) c.args.store.now c.args.store.now (Ok tt))
      (sym c.in-None.is) (puts_nothing c.args.store.now);
}
