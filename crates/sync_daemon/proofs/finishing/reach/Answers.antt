-- The commit is got, and the folder brought to it.
use Rattle.std.proofs.Common.{inl, refl}
use Rattle.tree_checkout.proofs.TouchLemmas.{touches_none}
use Rattle.sync_daemon.proofs.BringLemmas.{halts_by, reaches_by}
use Rattle.sync_daemon.proofs.finishing.reach.Goals as goal

pub returns-in-Err-clause-value : goal.returns-in-Err-clause-value
returns-in-Err-clause-value g c = (refl, inl (c.in-Err.ensures.value, refl))

pub returns-in-Err-bring-clause-value : goal.returns-in-Err-bring-clause-value
returns-in-Err-bring-clause-value g c =
    halts_by c.args.asker.now c.args.cuts c.args.settled (g.R.Remote.sends c.args.remote.now) (g.R.Remote.sends c.fetch_commit.new.remote) (g.R.Remote.sends c.bring.new.remote)
    (g.F.Folder.told c.args.folder.now) (g.F.Folder.told c.bring.new.folder) c.args.index.now c.in-Ok.commit c.in-Ok.ensures.value c.in-Ok.ensures.listed c.is_pushed-pushed.result c.is_pushed-pushed.ensures.value c.in-Err-bring.fault
    c.in-Err-bring.ensures.value

pub returns-clause-value : goal.returns-clause-value
returns-clause-value g c =
    reaches_by c.args.asker.now c.args.cuts c.args.settled (g.R.Remote.sends c.args.remote.now) (g.R.Remote.sends c.fetch_commit.new.remote) (g.R.Remote.sends c.bring.new.remote)
    (g.F.Folder.told c.args.folder.now) (g.F.Folder.told c.bring.new.folder) c.args.index.now c.in-Ok.commit c.in-Ok.ensures.value c.in-Ok.ensures.listed c.is_pushed-pushed.result c.is_pushed-pushed.ensures.value c.in-Ok-bring.done
    c.tells_conflict-conflict.result c.tells_conflict-conflict.ensures.value c.in-Ok-bring.ensures.value

pub returns-in-Err-clause-touches : goal.returns-in-Err-clause-touches
returns-in-Err-clause-touches g c = touches_none c.args.cuts c.args.settled.scan _ _ refl
