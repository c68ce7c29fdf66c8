-- Nothing to do; the head is the commit that was pushed; or it is another.
use Rattle.std.proofs.Common.{inl, inr, refl}
use Rattle.tree_checkout.proofs.TouchLemmas.{touches_none}
use Rattle.sync_daemon.proofs.BringLemmas.{knows_fails, knows_finishes, not_so, reaches_finishes}
use Rattle.sync_daemon.proofs.finishing.finish.Goals as goal

pub returns-then-settled-clause-value : goal.returns-then-settled-clause-value
returns-then-settled-clause-value g c = inl (refl, refl, refl, inl (c.is_done.ensures.value.0 c.if-is_done.true, c.if-settled.true, refl))

pub returns-then-is_done-clause-value : goal.returns-then-is_done-clause-value
returns-then-is_done-clause-value g c = inl (c.is_done.ensures.value.0 c.if-is_done.true, c.if-settled.false, refl, refl, refl, c.spared.ensures.value)

pub returns-in-Err-clause-value : goal.returns-in-Err-clause-value
returns-in-Err-clause-value g c = inl (refl, refl, refl, inr refl)

pub returns-then-own-clause-value : goal.returns-then-own-clause-value
returns-then-own-clause-value g c =
    knows_finishes c.args.asker.now c.args.user.now c.args.cuts c.args.settled (g.R.Remote.sends c.args.remote.now) (g.F.Folder.told c.args.folder.now) c.args.index.now c.know_offer.new.index
    c.know_offer.result (c.in-Ok.ensures.value.0 c.if-own.true) c.know_offer.ensures.value

pub returns-then-own-clause-faults : goal.returns-then-own-clause-faults
returns-then-own-clause-faults g c =
    knows_fails c.args.asker.now c.args.user.now c.args.cuts c.args.settled (g.R.Remote.sends c.args.remote.now) (g.F.Folder.told c.args.folder.now) c.args.index.now c.know_offer.new.index
    c.know_offer.result (g.F.Folder.faults c.args.folder.now) c.know_offer.ensures.value

pub returns-clause-value : goal.returns-clause-value
returns-clause-value g c =
    reaches_finishes c.args.asker.now c.args.user.now c.args.cuts c.args.settled (g.R.Remote.sends c.args.remote.now) (g.F.Folder.told c.args.folder.now) c.args.index.now c.reach.new.index
    (g.R.Remote.sends c.reach.new.remote) (g.F.Folder.told c.reach.new.folder) c.reach.result (not_so c.is_done.result c.is_done.ensures.value c.if-is_done.false)
    (not_so c.in-Ok.own c.in-Ok.ensures.value c.if-own.false) c.reach.ensures.value

pub returns-then-settled-clause-touches : goal.returns-then-settled-clause-touches
returns-then-settled-clause-touches g c = touches_none c.args.cuts c.args.settled.scan _ _ refl

pub returns-then-is_done-clause-touches : goal.returns-then-is_done-clause-touches
returns-then-is_done-clause-touches g c = touches_none c.args.cuts c.args.settled.scan _ _ refl

pub returns-in-Err-clause-touches : goal.returns-in-Err-clause-touches
returns-in-Err-clause-touches g c = touches_none c.args.cuts c.args.settled.scan _ _ refl

pub returns-then-own-clause-touches : goal.returns-then-own-clause-touches
returns-then-own-clause-touches g c = touches_none c.args.cuts c.args.settled.scan _ _ refl
