-- What was built is added, or refuses the merge.
use Rattle.std.proofs.Common.{Err, ap}
use Rattle.tree_merge.proofs.CausedLemmas.{caused_other, refused_caused, refused_named}
use Rattle.tree_merge.proofs.LevelMadeLemmas.{adds_all, adds_refused}
use Rattle.tree_merge.proofs.TableLemmas.{if_ok_more, on_ok_if}
use Rattle.tree_merge.proofs.level_merge.add_directory.Goals as goal

pub returns-in-Ok-clause-ok : goal.returns-in-Ok-clause-ok
returns-in-Ok-clause-ok c = adds_all c.args.built c.args.work.now c.add_made.new.made c.in-Ok.ensures.stays c.in-Ok.ensures.told c.in-Ok.ensures.ok

pub returns-in-Err-clause-ok : goal.returns-in-Err-clause-ok
returns-in-Err-clause-ok c =
    if_ok_more c.refuse_directory.result
    (λ id refused. adds_refused c.args.built c.args.work.now c.refuse_directory.new.work c.add_made.new.made c.in-Err.fault id c.in-Err.ensures.stays c.in-Err.ensures.told
    (λ i is. c.in-Err.ensures.taken i (ap Err is)) refused)
    c.refuse_directory.ensures.ok

pub returns-in-Err-clause-named : goal.returns-in-Err-clause-named
returns-in-Err-clause-named c =
    on_ok_if c.refuse_directory.result
    (λ id refused named. refused_named c.in-Err.fault (record { made = c.add_made.new.made; copies = c.args.work.now.copies; long = c.args.work.now.long; stop = c.args.work.now.stop }) c.refuse_directory.new.work refused
    (c.in-Err.ensures.named named))
    c.refuse_directory.ensures.ok

pub returns-in-Err-clause-cause : goal.returns-in-Err-clause-cause
returns-in-Err-clause-cause c =
    on_ok_if c.refuse_directory.result
    (λ id refused named. refused_caused c.in-Err.fault (record { made = c.add_made.new.made; copies = c.args.work.now.copies; long = c.args.work.now.long; stop = c.args.work.now.stop }) c.refuse_directory.new.work refused
    (λ also i is. caused_other c.args.work.now.made c.args.built.made i named c.requires.named (c.in-Err.ensures.taken i (ap Err is))) (c.in-Err.ensures.named named))
    c.refuse_directory.ensures.ok
