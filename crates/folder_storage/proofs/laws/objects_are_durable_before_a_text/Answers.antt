-- Each object that was put is durable before the text.
use Rattle.std.proofs.Common.{Some, ap, ◌∙◌}
use Rattle.folder_storage.specs.declared.told_disk.ToldDisk.{ToldDisk}
use Rattle.folder_storage.specs.ToldDisk.{steps_of}
use Rattle.folder_storage.proofs.ToldDiskLemmas.{after-puts, ends-after, ends-durably, failed-after, order-none, total-new}
use Rattle.folder_storage.proofs.laws.objects_are_durable_before_a_text.Goals as goal

pub returns-in-Err-clause-value : goal.returns-in-Err-clause-value
returns-in-Err-clause-value c =
    after-puts (Some (steps_of c.new-disk.result.done.items)) c.args.keys.now c.args.text.now (steps_of c.put_all.new.disk.done.items) c.in-Err.failure
    (ap Some c.new-disk.ensures.value) c.in-Err.ensures.err

pub returns-in-Err-clause-order : goal.returns-in-Err-clause-order
returns-in-Err-clause-order c = (c.put_all.ensures.order (order-none (steps_of c.new-disk.result.done.items) c.new-unsynced.result.keys.items c.new-disk.ensures.value)).0

pub returns-clause-value : goal.returns-clause-value
returns-clause-value c =
    ends-durably (Some (steps_of c.new-disk.result.done.items)) (Some (steps_of c.put_all.new.disk.done.items)) (steps_of c.put_text-put.new.disk.done.items) c.args.keys.now
    c.put_all.new.unsynced.keys.items c.put_text-put.new.self.keys.items c.args.text.now c.put_text-put.result (ap Some c.new-disk.ensures.value)
    c.in_default.ensures.ok c.in_default.ensures.listed c.put_text-put.ensures.value

pub returns-clause-order : goal.returns-clause-order
returns-clause-order c =
    (c.put_text-put.ensures.order
    (c.put_all.ensures.order (order-none (steps_of c.new-disk.result.done.items) c.new-unsynced.result.keys.items c.new-disk.ensures.value))).0

pub returns-in-Err-clause-cause : goal.returns-in-Err-clause-cause
returns-in-Err-clause-cause c =
    failed-after (λ (disk : ToldDisk). disk.left) c.args.left c.put_all.new.disk (steps_of c.put_all.new.disk.done.items) c.in-Err.failure
    (c.put_all.ensures.count ∙ total-new c.new-disk.result.done.items c.new-disk.result.left c.args.left c.new-disk.ensures.value c.new-disk.ensures.count)
    c.in-Err.ensures.cause

pub returns-clause-cause : goal.returns-clause-cause
returns-clause-cause c =
    ends-after (λ (disk : ToldDisk). disk.left) c.args.left c.put_text-put.new.disk (steps_of c.put_text-put.new.disk.done.items) c.put_text-put.result
    (c.put_text-put.ensures.count ∙ c.put_all.ensures.count
    ∙ total-new c.new-disk.result.done.items c.new-disk.result.left c.args.left c.new-disk.ensures.value c.new-disk.ensures.count)
    c.put_text-put.ensures.cause
