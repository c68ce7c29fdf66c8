-- The library with the token is good, and so is the one before it.
use Rattle.std.proofs.Common.{[], ◌∷◌, ◌++◌, ap, refl, sym, ◌∙◌, ◌<◌, length, arith}
use Rattle.library_state.specs.Tokens.{is_taken}
use Rattle.depot.proofs.GoodLemmas.{good_with_token}
use Rattle.std.proofs.Common.{subst}
use Rattle.object_store.specs.StoreView.{AddsNoStray}
use Rattle.depot.specs.DepotView.{DepotView, depot_of}
use Rattle.depot.proofs.BesideLemmas.{good_rest}
use Rattle.depot.proofs.FitsLemmas.{fits_same}
use Rattle.depot.proofs.KeptLemmas.{good_same, kept_by, kept_same}
use Rattle.depot.proofs.depot.Depot.add_token.Goals as goal

pub invariant_of-self : goal.invariant_of-self
invariant_of-self g c =
    let room : length c.self.inside.parts.state.tokens < 1000 = omega arith in
    let old : DepotView g.row.S.Denot = depot_of c.self.inside.parts.store c.self.inside.parts.state c.self.inside.parts.unsettled c.self.inside.running in
    let new : DepotView g.row.S.Denot = depot_of c.write_token.new.self.store c.write_token.new.self.state c.write_token.new.self.unsettled c.self.inside.running in
    let good = good_same g.S.Shelf.contents g.S.Shelf.faults old new c.write_token.ensures.held c.write_token.ensures.stays c.self.invariant.good refl
    (good_with_token g.S.Shelf.contents g.S.Shelf.faults old (good_rest g.S.Shelf.contents g.S.Shelf.faults old c.self.invariant.good)
    c.args.user.now c.args.secret c.args.right c.in-Ok.token c.in-Ok.ensures.value
    (ap (λ tokens. is_taken tokens c.args.secret) (sym c.slice.ensures.value) ∙ sym c.has_secret.ensures.value ∙ c.if-has_secret.false)
    room c.requires.fits.0 c.requires.fits.1
    c.write_token.new.self.store c.write_token.new.self.state c.write_token.new.self.unsettled c.write_token.result
    c.write_token.ensures.ok c.write_token.ensures.err c.write_token.ensures.value c.write_token.ensures.stays) in
    kept_same g.S.Shelf.contents g.S.Shelf.faults old new c.write_token.ensures.held c.write_token.ensures.stays c.self.inside.known c.self.inside.known c.self.inside.running c.self.invariant good
    (fits_same g.S.Shelf.contents c.self.inside.parts.store c.write_token.new.self.store c.self.inside.known c.write_token.ensures.stays c.self.invariant.fits)
    (kept_by c.write_token.result c.self.inside.parts.state (record c.self.inside.parts.state { tokens = c.self.inside.parts.state.tokens ++ c.in-Ok.token ∷ [] }) c.write_token.new.self.state refl
    c.write_token.ensures.ok c.write_token.ensures.err) refl

pub returns-clause-stands : goal.returns-clause-stands
returns-clause-stands g c =
    let room : length c.self.inside.parts.state.tokens < 1000 = omega arith in
    let old : DepotView g.row.S.Denot = depot_of c.self.inside.parts.store c.self.inside.parts.state c.self.inside.parts.unsettled c.self.inside.running in
    let new : DepotView g.row.S.Denot = depot_of c.write_token.new.self.store c.write_token.new.self.state c.write_token.new.self.unsettled c.self.inside.running in
    let good = good_same g.S.Shelf.contents g.S.Shelf.faults old new c.write_token.ensures.held c.write_token.ensures.stays c.self.invariant.good refl
    (good_with_token g.S.Shelf.contents g.S.Shelf.faults old (good_rest g.S.Shelf.contents g.S.Shelf.faults old c.self.invariant.good)
    c.args.user.now c.args.secret c.args.right c.in-Ok.token c.in-Ok.ensures.value
    (ap (λ tokens. is_taken tokens c.args.secret) (sym c.slice.ensures.value) ∙ sym c.has_secret.ensures.value ∙ c.if-has_secret.false)
    room c.requires.fits.0 c.requires.fits.1
    c.write_token.new.self.store c.write_token.new.self.state c.write_token.new.self.unsettled c.write_token.result
    c.write_token.ensures.ok c.write_token.ensures.err c.write_token.ensures.value c.write_token.ensures.stays) in
    good

pub returns-clause-lying : goal.returns-clause-lying
returns-clause-lying g c =
    subst (λ (old : DepotView g.row.S.Denot). AddsNoStray g.S.Shelf.contents old.store c.write_token.new.self.store) c.self.view_is c.write_token.ensures.lying
