use Rattle.std.proofs.Common.{◌∙◌, inl, inr, refl}
use Rattle.folder_storage.proofs.DurabilityLemmas.{fails-by, gathers-only, readied, unready}
use Rattle.folder_storage.proofs.unsynced.Unsynced.gather.Goals as goal

pub returns-in-Err-clause-err : goal.returns-in-Err-clause-err
returns-in-Err-clause-err g c = inl (c.in-Err.ensures.err, c.gather.ensures.listed)

pub returns-in-Err-order-clause-listed : goal.returns-in-Err-order-clause-listed
returns-in-Err-order-clause-listed g c key is = c.order.ensures.listed key (c.gather.ensures.listed key is)

pub returns-in-Err-order-clause-err : goal.returns-in-Err-order-clause-err
returns-in-Err-order-clause-err g c =
    let told = g.D.Disk.steps c.gather.new.self in
    inr (gathers-only (g.D.Disk.steps c.args.disk.now) told told c.args.self.now.keys.items c.gather.new.keys.items c.order.new.keys.items
    c.gather.ensures.listed c.order.ensures.listed c.in_default.ensures.ok refl)

pub returns-clause-listed : goal.returns-clause-listed
returns-clause-listed g c key is = c.order.ensures.listed key (c.gather.ensures.listed key is)

pub returns-clause-ok : goal.returns-clause-ok
returns-clause-ok g c =
    readied (g.D.Disk.steps c.args.disk.now) (g.D.Disk.steps c.gather.new.self) (g.D.Disk.steps c.begin_syncs.new.self) c.args.self.now.keys.items
    c.gather.new.keys.items c.order.new.keys.items c.as_slice.result.now c.begin_syncs.result c.gather.ensures.listed c.order.ensures.listed
    c.as_slice.ensures.value c.in_default.ensures.ok c.begin_syncs.ensures.ok

pub returns-clause-err : goal.returns-clause-err
returns-clause-err g c =
    unready (g.D.Disk.steps c.args.disk.now) (g.D.Disk.steps c.gather.new.self) (g.D.Disk.steps c.begin_syncs.new.self) c.args.self.now.keys.items
    c.gather.new.keys.items c.order.new.keys.items c.begin_syncs.result c.gather.ensures.listed c.order.ensures.listed
    c.in_default.ensures.ok c.begin_syncs.ensures.err

pub returns-in-Err-clause-cause : goal.returns-in-Err-clause-cause
returns-in-Err-clause-cause g c = inr c.in-Err.ensures.cause

pub returns-in-Err-order-clause-cause : goal.returns-in-Err-order-clause-cause
returns-in-Err-order-clause-cause g c = inl c.from.ensures

pub returns-clause-cause : goal.returns-clause-cause
returns-clause-cause g c = fails-by g.D.Disk.ends c.begin_syncs.new.self c.begin_syncs.result c.begin_syncs.ensures.cause

pub returns-clause-count : goal.returns-clause-count
returns-clause-count g c = c.begin_syncs.ensures.count ∙ c.gather.ensures.count
