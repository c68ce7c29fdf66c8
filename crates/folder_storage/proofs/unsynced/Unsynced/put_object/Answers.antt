use Rattle.std.proofs.Common.{inl, refl}
use Rattle.folder_storage.proofs.DurabilityLemmas.{fails-by}
use Rattle.folder_storage.proofs.UnsyncedLemmas.{order-put, order-same}
use Rattle.folder_storage.proofs.unsynced.Unsynced.put_object.Goals as goal

pub returns-in-Err-clause-err : goal.returns-in-Err-clause-err
returns-in-Err-clause-err g c = inl refl

pub returns-clause-err : goal.returns-clause-err
returns-clause-err g c = c.put_object.ensures.err

pub returns-in-Err-clause-order : goal.returns-in-Err-clause-order
returns-in-Err-clause-order g c = order-same (g.D.Disk.steps c.args.disk.now) (g.D.Disk.steps c.args.disk.now) c.args.self.now.keys.items c.note.new.keys.items refl c.note.ensures.listed

pub returns-clause-order : goal.returns-clause-order
returns-clause-order g c =
    order-put (g.D.Disk.steps c.args.disk.now) (g.D.Disk.steps c.put_object.new.self) c.args.self.now.keys.items c.note.new.keys.items c.args.key.now c.put_object.result
    c.put_object.ensures.ok c.put_object.ensures.err c.note.ensures.listed c.in_default.ensures.found

pub returns-in-Err-clause-cause : goal.returns-in-Err-clause-cause
returns-in-Err-clause-cause g c = inl c.from.ensures

pub returns-clause-cause : goal.returns-clause-cause
returns-clause-cause g c = fails-by g.D.Disk.ends c.put_object.new.self c.put_object.result c.put_object.ensures.cause
