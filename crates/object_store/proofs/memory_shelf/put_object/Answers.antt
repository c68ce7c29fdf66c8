-- Every id has 20 bytes.
use Rattle.object_store.proofs.MemoryLemmas.{ids-put}
use Rattle.object_store.proofs.memory_shelf.put_object.Goals as goal

pub returns-clause-ids : goal.returns-clause-ids
returns-clause-ids c =
    ids-put c.args.objects.now c.insert.new.self c.args.key c.args.bytes c.insert.result c.requires.ids c.as_bytes.ensures.size c.insert.ensures.ok c.insert.ensures.err
