-- The door lets in whom the library would.
use Rattle.std.proofs.Common.{◌≡◌, true, false, refl, sym, ◌∙◌}
use Rattle.sync_calls.specs.Collecting.{collects}
use Rattle.sync_calls.specs.Collecting.CollectsOne.{denied, went}
use Rattle.sync_calls.specs.Shown.{shown_of}
use Rattle.sync_calls.proofs.DoorLemmas.{door_collects}
use Rattle.sync_calls.proofs.collecting.collect_at.Goals as goal

pub returns-then-not-admits_collection-clause-told : goal.returns-then-not-admits_collection-clause-told
returns-then-not-admits_collection-clause-told g c =
    let may : collects (shown_of c.args.pass.now).start c.args.secret.now ≡ false
    = sym (door_collects c.args.room.now.door c.args.room.now.start.value (shown_of c.args.pass.now).start c.args.secret.now c.requires.ready.opens c.requires.ready.begins)
    ∙ (sym c.admits_collection.ensures ∙ c.if-not-admits_collection.true) in
    denied may refl refl

pub returns-clause-told : goal.returns-clause-told
returns-clause-told g c =
    let may : collects (shown_of c.args.pass.now).start c.args.secret.now ≡ true
    = sym (door_collects c.args.room.now.door c.args.room.now.start.value (shown_of c.args.pass.now).start c.args.secret.now c.requires.ready.opens c.requires.ready.begins)
    ∙ (sym c.admits_collection.ensures ∙ c.if-not-admits_collection.false) in
    went may c.collect_all.ensures.told.0 c.collect_all.ensures.told.1 c.collect_all.ensures.told.2
