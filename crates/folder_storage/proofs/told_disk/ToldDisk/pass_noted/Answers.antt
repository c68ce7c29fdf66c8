use Rattle.std.proofs.Common.{inr, ap, ◌∙◌, arith}
use Rattle.folder_storage.specs.ToldDisk.{total_of}
use Rattle.folder_storage.proofs.ToldDiskLemmas.{total-more, total-same}
use Rattle.folder_storage.proofs.told_disk.ToldDisk.pass_noted.Goals as goal

pub returns-in-Err-clause-cause : goal.returns-in-Err-clause-cause
returns-in-Err-clause-cause c = inr c.in-Err.ensures.err.1

pub returns-in-Err-clause-count : goal.returns-in-Err-clause-count
returns-in-Err-clause-count c counts =
    total-same c.args.self.now.done.items c.pass.new.self.done.items c.args.self.now.left c.pass.new.self.left c.pass.ensures.stays c.in-Err.ensures.err.0

pub returns-clause-count : goal.returns-clause-count
returns-clause-count c counts =
    total-more c.pass.new.self.done.items c.note.new.self.done.items c.args.done.now c.args.self.now.left c.note.new.self.left c.note.ensures.told
    (omega (arith, counts, c.in_default.ensures.ok, c.note.ensures.stays))
    ∙ ap (λ noted. total_of noted c.args.self.now.left) c.pass.ensures.stays
