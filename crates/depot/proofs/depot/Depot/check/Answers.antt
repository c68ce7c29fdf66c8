-- A download check changes nothing.
use Rattle.std.proofs.Common.{◌∙◌, ap, inl, subst, sym, refl}
use Rattle.library_state.specs.declared.call.Act.TheVariants as act
use Rattle.depot.specs.Answering.{MayAsk}
use Rattle.depot.specs.Giving.{GivesBy, MayLay}
use Rattle.depot.proofs.ActLemmas.{download_serves}
use Rattle.depot.proofs.depot.Depot.check.Goals as goal

pub returns-in-Download : goal.returns-in-Download
returns-in-Download g c = record {
  value = λ moment call who asks.
      download_serves g.S.Shelf.contents g.S.Shelf.may_give g.S.Shelf.texts g.S.Shelf.faults c.args.self.now call moment who.right (asks ∙ ap act.Check c.in-Download.is);
  gives = λ slot given is. inl is;
  held = refl;
}

pub check_upload-requires : goal.check_upload-requires
check_upload-requires g c = record {
  who = (c.requires.who.0, subst (λ o. MayAsk c.args.self.now.state.tokens c.requires.who.0 (act.Check o) c.args.place) c.in-Upload.is c.requires.who.1);
}

pub returns-in-Upload : goal.returns-in-Upload
returns-in-Upload g c = record {
  value = λ moment call who asks. c.check_upload.ensures.value moment call who (asks ∙ ap act.Check c.in-Upload.is);
  gives = subst (λ o. GivesBy (MayLay c.args.self.now.state.lib (act.Check o)) (g.S.Shelf.may_give c.args.self.now.store.shelf) (g.S.Shelf.may_give c.check_upload.new.self.store.shelf)) (sym c.in-Upload.is) c.check_upload.ensures.gives;
  held = c.check_upload.ensures.held;
}
