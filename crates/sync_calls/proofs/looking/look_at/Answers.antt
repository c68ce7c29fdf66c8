-- The door lets in whom the library would; then the length is read once, and the pass keeps it.
use Rattle.std.proofs.Common.{◌≡◌, true, false, refl, sym, ◌∙◌, ap, subst, Some}
use Rattle.std.specs.Prelude.{option_map}
use Rattle.depot.specs.DepotView.{DepotView}
use Rattle.library_state.specs.declared.call.Act.TheVariants as act
use Rattle.sync_calls.specs.Looking.GlancesOne.{denied, looked}
use Rattle.sync_calls.specs.Door.{admitted}
use Rattle.sync_calls.specs.Shown.{Knows, LibraryView, shown_in, shown_of}
use Rattle.sync_calls.proofs.DoorLemmas.{door_admits}
use Rattle.sync_calls.proofs.looking.look_at.Goals as goal

pub returns-then-not-admits-clause-told : goal.returns-then-not-admits-clause-told
returns-then-not-admits-clause-told g c =
    let may : admitted (shown_of c.args.pass.now).start c.args.secret.now act.Head ≡ false
    = sym (door_admits c.args.room.now.door c.args.room.now.start.value (shown_of c.args.pass.now).start c.args.secret.now act.Head c.requires.ready.opens c.requires.ready.begins)
    ∙ (sym c.admits.ensures ∙ c.if-not-admits.true) in
    denied may refl refl

pub returns-clause-ready : goal.returns-clause-ready
returns-clause-ready g c =
    let knows = c.requires.ready.knows in record {
      ready = c.count-place.ensures.ready;
      knows = subst (λ (v : LibraryView g.row.S.Denot). Knows g.S.Shelf.contents g.S.Shelf.may_give g.S.Shelf.texts g.S.Shelf.faults (shown_in v)) (sym c.count-place.ensures.view)
          (record { start = knows.start; begins = knows.begins; last = knows.last; leads = knows.leads; once = knows.once; below = knows.below });
      begins = ap (λ (v : LibraryView g.row.S.Denot). v.start) c.count-place.ensures.view ∙ c.requires.ready.begins;
      opens = c.requires.ready.opens;
      share = ap (λ (v : LibraryView g.row.S.Denot). v.parts) c.count-place.ensures.view;
      among = ap (λ (v : LibraryView g.row.S.Denot). v.passes) c.count-place.ensures.view;
      first = ap (λ (v : LibraryView g.row.S.Denot). v.first) c.count-place.ensures.view ∙ c.requires.ready.first;
    }

pub returns-clause-told : goal.returns-clause-told
returns-clause-told g c =
    let may : admitted (shown_of c.args.pass.now).start c.args.secret.now act.Head ≡ true
    = sym (door_admits c.args.room.now.door c.args.room.now.start.value (shown_of c.args.pass.now).start c.args.secret.now act.Head c.requires.ready.opens c.requires.ready.begins)
    ∙ (sym c.admits.ensures ∙ c.if-not-admits.false) in
    looked may c.count-place.result
    (record { new = (c.count-place.ensures.value.1, c.count-place.ensures.value.0); same = ap (λ (v : LibraryView g.row.S.Denot). shown_in v) c.count-place.ensures.view })
    c.args.room.now.door.opening
    (ap (λ o. option_map (λ (depot : DepotView g.row.S.Denot). depot.state.opening) o) c.requires.ready.begins ∙ ap Some (sym c.requires.ready.opens.opening)) c.glance_at.ensures

pub returns-clause-drawn : goal.returns-clause-drawn
returns-clause-drawn g c = λ was. ap (λ (v : LibraryView g.row.S.Denot). v.drawn) c.count-place.ensures.view ∙ was
