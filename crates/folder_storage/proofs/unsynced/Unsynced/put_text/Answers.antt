use Rattle.std.proofs.Common.{inl, inr, is_ok, subst, ap, ◌∙◌}
use Rattle.folder_storage.specs.Durability.{FailsAsDisk, MakesDurable, SyncsEach}
use Rattle.folder_storage.proofs.DurabilityLemmas.{fails-by, fails-on}
use Rattle.folder_storage.proofs.UnsyncedLemmas.{order-before, order-short, put-text, put-text-order, stops-short}
use Rattle.folder_storage.proofs.unsynced.Unsynced.put_text.Goals as goal

pub returns-in-Err-clause-value : goal.returns-in-Err-clause-value
returns-in-Err-clause-value g c = inl (inl c.in-Err.ensures.err)

pub returns-in-Err-clause-order : goal.returns-in-Err-clause-order
returns-in-Err-clause-order g c =
    order-before (g.D.Disk.steps c.args.disk.now) (g.D.Disk.steps c.gather.new.disk) c.args.self.now.keys.items c.gather.new.self.keys.items c.in-Err.ensures.err

pub returns-in-Err-synced-clause-value : goal.returns-in-Err-synced-clause-value
returns-in-Err-synced-clause-value g c =
    let readied = g.D.Disk.steps c.gather.new.disk in
    let synced = g.D.Disk.steps c.make_durable-synced.new.disk in
    inl (inr (
    stops-short (g.D.Disk.steps c.args.disk.now) readied synced (g.D.Disk.steps c.end_syncs.new.self) c.args.self.now.keys.items c.gather.new.self.keys.items
    c.is_ok.result c.in_default.ensures.ok (subst (MakesDurable readied synced c.as_slice.result.now) c.in-Err-synced.is c.make_durable-synced.ensures.value)
    (c.is_ok.ensures.value ∙ ap is_ok c.in-Err-synced.is) c.end_syncs.ensures.told
    ))

pub returns-in-Err-synced-clause-order : goal.returns-in-Err-synced-clause-order
returns-in-Err-synced-clause-order g c =
    let readied = g.D.Disk.steps c.gather.new.disk in
    let synced = g.D.Disk.steps c.make_durable-synced.new.disk in
    order-short (g.D.Disk.steps c.args.disk.now) (g.D.Disk.steps c.end_syncs.new.self) c.args.self.now.keys.items c.gather.new.self.keys.items
    (stops-short (g.D.Disk.steps c.args.disk.now) readied synced (g.D.Disk.steps c.end_syncs.new.self) c.args.self.now.keys.items c.gather.new.self.keys.items
    c.is_ok.result c.in_default.ensures.ok (subst (MakesDurable readied synced c.as_slice.result.now) c.in-Err-synced.is c.make_durable-synced.ensures.value)
    (c.is_ok.ensures.value ∙ ap is_ok c.in-Err-synced.is) c.end_syncs.ensures.told)

pub returns-clause-value : goal.returns-clause-value
returns-clause-value g c =
    let readied = g.D.Disk.steps c.gather.new.disk in
    let synced = g.D.Disk.steps c.make_durable-synced.new.disk in
    put-text (g.D.Disk.steps c.args.disk.now) readied synced (g.D.Disk.steps c.end_syncs.new.self) (g.D.Disk.steps c.put_text.new.self)
    c.args.self.now.keys.items c.gather.new.self.keys.items c.clear.new.self.items c.args.text.now c.is_ok.result c.put_text.result c.in_default.ensures.ok
    (subst (SyncsEach readied synced) c.as_slice.ensures.value
    (subst (MakesDurable readied synced c.as_slice.result.now) c.in_default-synced.is c.make_durable-synced.ensures.value))
    (c.is_ok.ensures.value ∙ ap is_ok c.in_default-synced.is) c.end_syncs.ensures.told c.put_text.ensures.ok c.put_text.ensures.err

pub returns-clause-order : goal.returns-clause-order
returns-clause-order g c =
    let readied = g.D.Disk.steps c.gather.new.disk in
    let synced = g.D.Disk.steps c.make_durable-synced.new.disk in
    put-text-order (g.D.Disk.steps c.args.disk.now) readied synced (g.D.Disk.steps c.end_syncs.new.self) (g.D.Disk.steps c.put_text.new.self)
    c.args.self.now.keys.items c.gather.new.self.keys.items c.clear.new.self.items c.args.text.now c.is_ok.result c.put_text.result c.in_default.ensures.ok
    (subst (SyncsEach readied synced) c.as_slice.ensures.value
    (subst (MakesDurable readied synced c.as_slice.result.now) c.in_default-synced.is c.make_durable-synced.ensures.value))
    (c.is_ok.ensures.value ∙ ap is_ok c.in_default-synced.is) c.end_syncs.ensures.told c.clear.ensures.items c.put_text.ensures.ok c.put_text.ensures.err

pub returns-in-Err-clause-cause : goal.returns-in-Err-clause-cause
returns-in-Err-clause-cause g c = c.in-Err.ensures.cause

pub returns-in-Err-synced-clause-cause : goal.returns-in-Err-synced-clause-cause
returns-in-Err-synced-clause-cause g c =
    fails-on g.D.Disk.ends c.make_durable-synced.new.disk c.end_syncs.new.self c.in-Err-synced.failure
    (subst (FailsAsDisk g.D.Disk.ends c.make_durable-synced.new.disk) c.in-Err-synced.is c.make_durable-synced.ensures.cause) c.end_syncs.ensures.cause

pub returns-in-Err-synced-clause-count : goal.returns-in-Err-synced-clause-count
returns-in-Err-synced-clause-count g c = c.end_syncs.ensures.count ∙ c.make_durable-synced.ensures.count ∙ c.gather.ensures.count

pub returns-clause-cause : goal.returns-clause-cause
returns-clause-cause g c = fails-by g.D.Disk.ends c.put_text.new.self c.put_text.result c.put_text.ensures.cause

pub returns-clause-count : goal.returns-clause-count
returns-clause-count g c = c.put_text.ensures.count ∙ c.end_syncs.ensures.count ∙ c.make_durable-synced.ensures.count ∙ c.gather.ensures.count
