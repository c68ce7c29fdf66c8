-- Bytes that are stored are read as a commit of their id.
use Rattle.std.proofs.Common.{sym}
use Rattle.std.proofs.lemmas.Bool.{not-false}
use Rattle.std.proofs.lemmas.Slice.Eq.{bytes_eq-Decides}
use Rattle.ids.specs.declared.key.Kind.TheVariants as kinds
use Rattle.depot.proofs.GivingLemmas.{put_as}
use Rattle.depot.proofs.object_calls.put_commit_text.Goals as goal

pub returns-clause-gives : goal.returns-clause-gives
returns-clause-gives g c =
    put_as c.args.key.now c.args.bytes.now kinds.Commit c.requires.ready
    (c.in-Ok.commit, c.in-Ok.ensures.value, (bytes_eq-Decides c.in-Ok.commit.id c.args.key.now.id).0 (not-false _ (sym c.if-ne.ensures))) c.store_object.ensures.gives
