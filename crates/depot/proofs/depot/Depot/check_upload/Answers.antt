-- The token at the place is told of the collection.
use Rattle.std.proofs.Common.{ap, refl, sym, subst, ◌≡◌}
use Rattle.library_rules.proofs.BesideStepLemmas.{told_keys}
use Rattle.library_state.specs.declared.call.Act.TheVariants as act
use Rattle.library_state.specs.declared.call.Op.TheVariants as op
use Rattle.library_state.specs.declared.reply.Reply.{Reply}
use Rattle.library_state.specs.declared.reply.Reply.TheVariants as reply
use Rattle.depot.specs.Answering.{MayAsk, Serves, ServesAt}
use Rattle.depot.specs.Changing.{marked}
use Rattle.depot.specs.DepotView.{DepotView, depot_of}
use Rattle.depot.specs.FreshKeys.{told_there}
use Rattle.depot.specs.Giving.{GivesBy, IsOwnText}
use Rattle.depot.specs.Refusals.{answer_of}
use Rattle.depot.proofs.ActLemmas.{upload_good, upload_serves}
use Rattle.depot.proofs.PlaceLemmas.{no_token, seen_asked}
use Rattle.depot.proofs.BesideLemmas.{good_rest}
use Rattle.depot.proofs.FitsLemmas.{fits_same}
use Rattle.depot.proofs.KeptLemmas.{good_same, kept_by, kept_same, serves_same}
use Rattle.depot.proofs.depot.Depot.check_upload.Goals as goal

pub invariant_of-self : goal.invariant_of-self
invariant_of-self g c =
    let old : DepotView g.row.S.Denot = depot_of c.self.inside.parts.store c.self.inside.parts.state c.self.inside.parts.unsettled c.self.inside.running in
    let new : DepotView g.row.S.Denot = depot_of c.see_collection-seen.new.self.store c.see_collection-seen.new.self.state c.see_collection-seen.new.self.unsettled c.self.inside.running in
    kept_same g.S.Shelf.contents g.S.Shelf.faults old new c.see_collection-seen.ensures.held c.see_collection-seen.ensures.stays c.self.inside.known c.self.inside.known c.self.inside.running c.self.invariant
    (good_same g.S.Shelf.contents g.S.Shelf.faults old new c.see_collection-seen.ensures.held c.see_collection-seen.ensures.stays c.self.invariant.good refl
    (upload_good g.S.Shelf.contents g.S.Shelf.texts g.S.Shelf.faults old (good_rest g.S.Shelf.contents g.S.Shelf.faults old c.self.invariant.good) c.requires.who.0
    (marked c.args.place c.self.inside.parts.state.collection c.self.inside.parts.state.tokens no_token)
    (seen_asked c.requires.who.0 (act.Check op.Upload) c.self.inside.parts.state.tokens c.args.place c.self.inside.parts.state.collection no_token
    (subst (λ (given : DepotView g.row.S.Denot). MayAsk given.state.tokens c.requires.who.0 (act.Check op.Upload) c.args.place) (sym c.self.view_is) c.requires.who.1))
    c.see_collection-seen.new.self.store c.see_collection-seen.new.self.state c.see_collection-seen.new.self.unsettled c.see_collection-seen.result
    (c.see_collection-seen.ensures.value no_token) c.see_collection-seen.ensures.err (c.see_collection-seen.ensures.text no_token) c.see_collection-seen.ensures.stays))
    (fits_same g.S.Shelf.contents c.self.inside.parts.store c.see_collection-seen.new.self.store c.self.inside.known c.see_collection-seen.ensures.stays c.self.invariant.fits)
    (kept_by c.see_collection-seen.result c.self.inside.parts.state (record c.self.inside.parts.state { tokens = marked c.args.place c.self.inside.parts.state.collection c.self.inside.parts.state.tokens no_token }) c.see_collection-seen.new.self.state refl
    (c.see_collection-seen.ensures.value no_token) c.see_collection-seen.ensures.err) refl

pub returns : goal.returns
returns g c =
    let old : DepotView g.row.S.Denot = depot_of c.self.inside.parts.store c.self.inside.parts.state c.self.inside.parts.unsettled c.self.inside.running in
    let new : DepotView g.row.S.Denot = depot_of c.see_collection-seen.new.self.store c.see_collection-seen.new.self.state c.see_collection-seen.new.self.unsettled c.self.inside.running in
    let said : Reply = answer_of reply.Checked c.see_collection-seen.result in
    record {
      value = λ moment.
          subst (λ (before : DepotView g.row.S.Denot). ServesAt g.S.Shelf.contents g.S.Shelf.may_give g.S.Shelf.texts g.S.Shelf.faults before c.args.place (act.Check op.Upload) moment c.answer_of.result new)
          c.self.view_is
          (λ call who asks. subst (λ r. Serves g.S.Shelf.contents g.S.Shelf.may_give g.S.Shelf.texts g.S.Shelf.faults old call moment r new) (sym c.answer_of.ensures.value)
          (serves_same g.S.Shelf.contents g.S.Shelf.faults old new c.see_collection-seen.ensures.held c.see_collection-seen.ensures.stays g.S.Shelf.may_give g.S.Shelf.texts call moment said refl refl
          (ap (λ a. told_there old.store.index a said) asks) (λ now. ap (λ a. told_keys now a said) asks)
          (upload_serves g.S.Shelf.contents g.S.Shelf.may_give g.S.Shelf.texts g.S.Shelf.faults old call moment who.right
          (marked c.args.place c.self.inside.parts.state.collection c.self.inside.parts.state.tokens no_token) asks
          (seen_asked call.secret call.act c.self.inside.parts.state.tokens c.args.place c.self.inside.parts.state.collection no_token who)
          c.see_collection-seen.new.self.store c.see_collection-seen.new.self.state c.see_collection-seen.new.self.unsettled c.see_collection-seen.ensures.stays c.see_collection-seen.ensures.lying c.see_collection-seen.result
          (c.see_collection-seen.ensures.value no_token) c.see_collection-seen.ensures.err (c.see_collection-seen.ensures.text no_token) c.see_collection-seen.ensures.faults)));
      gives = subst (λ (before : DepotView g.row.S.Denot). GivesBy (IsOwnText before.state.lib) (g.S.Shelf.may_give before.store.shelf) (g.S.Shelf.may_give c.see_collection-seen.new.self.store.shelf)) c.self.view_is c.see_collection-seen.ensures.gives;
      held = subst (λ (before : DepotView g.row.S.Denot). new.store.index ≡ before.store.index) c.self.view_is c.see_collection-seen.ensures.held;
    }
