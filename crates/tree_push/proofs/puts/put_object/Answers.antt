-- What is put before an object is taken into the batch.
use Rattle.std.proofs.Common.{◌≡◌, ◌∙◌, Some, ap, sym}
use Rattle.std.specs.Prelude.{option_copied}
use Rattle.std.specs.FinMap as fin
use Rattle.tree_push.proofs.PutsLemmas.{own_key, put_added}
use Rattle.tree_push.proofs.puts.put_object.Goals as goal

pub returns-in-Ok-make_room-clause-value : goal.returns-in-Ok-make_room-clause-value
returns-in-Ok-make_room-clause-value g c =
    let there : fin.get c.args.made.now c.args.key.now ≡ Some c.in-Some.bytes.now = sym c.get.ensures.value ∙ ap option_copied c.in-Some.is in
    put_added c.args.library.now c.args.made.now c.args.key.now c.in-Ok.copied c.in-Some.bytes.now c.args.batch.now.rows c.make_room.new.batch.rows c.add.new.batch.rows _ _ c.add.result
    c.in-Ok-make_room.ensures.value c.add.ensures.free c.add.ensures.ok there (own_key c.args.key.now c.in-Some.bytes.now (c.requires.named c.args.key.now c.in-Some.bytes.now there))
