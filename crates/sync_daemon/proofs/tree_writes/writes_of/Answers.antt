-- Each due is made.
use Rattle.std.proofs.Common.{◌∙◌, ◌+◌, arith, subst, sym}
use Rattle.sync_daemon.specs.Bringing.{IsWriteOf}
use Rattle.sync_daemon.proofs.LoopLemmas.{MadeLeft, made_end, made_next}
use Rattle.sync_daemon.proofs.tree_writes.writes_of.Goals as goal

pub loop-due-preserved : goal.loop-due-preserved
loop-due-preserved c = record {
  stays = c.in_ok-write.ensures.stays ∙ c.loop-due.invariant.stays;
  made = subst (MadeLeft _ c.args.dues.now (c.loop-due.due-index + 1)) (sym c.in_ok-push.ensures.ok)
      (made_next _ c.args.dues.now c.loop-due.due-index c.due-item.result c.loop-due.writes c.in_ok-write.write (omega arith) c.due-item.is
      (subst (λ held. IsWriteOf held c.due-item.result c.in_ok-write.write) c.loop-due.invariant.stays c.in_ok-write.ensures.value) c.loop-due.invariant.made);
}

pub returns : goal.returns
returns c = record {
  value = made_end _ c.args.dues.now c.loop-due.due-index c.loop-due.writes (omega arith) c.loop-due.invariant.made;
  stays = c.loop-due.invariant.stays;
}
