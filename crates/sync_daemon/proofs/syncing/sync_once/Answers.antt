-- What counts of an index is synced.
use Rattle.std.proofs.Common.{◌∙◌, Ok, Err, refl, sym}
use Rattle.sync_daemon.proofs.FinishAllLemmas.{counted_based, counted_fresh, left_based, synced_as}
use Rattle.sync_daemon.proofs.syncing.sync_once.Goals as goal

pub returns-then-is_some-clause-value : goal.returns-then-is_some-clause-value
returns-then-is_some-clause-value g c =
    synced_as c.args.secret c.args.user.now (g.C.Clock.shows c.args.clock.now) (g.F.Folder.told c.args.folder.now) (g.F.Folder.told c.sync_index.new.folder) c.args.index.now
    c.args.index.now c.sync_index.new.index c.sync_index.new.index (g.R.Remote.sends c.args.remote.now) (g.R.Remote.sends c.sync_index.new.remote)
    c.sync_index.result (counted_based c.args.index.now (sym c.is_some.ensures ∙ c.if-is_some.true))
    (left_based c.args.secret c.args.user.now (g.C.Clock.shows c.args.clock.now) (g.F.Folder.told c.args.folder.now) (g.F.Folder.told c.sync_index.new.folder) c.args.index.now
    c.sync_index.new.index (g.R.Remote.sends c.args.remote.now) (g.R.Remote.sends c.sync_index.new.remote) c.sync_index.result
    c.sync_index.ensures.value)
    c.sync_index.ensures.value

pub returns-in-Ok-clause-value : goal.returns-in-Ok-clause-value
returns-in-Ok-clause-value g c =
    synced_as c.args.secret c.args.user.now (g.C.Clock.shows c.args.clock.now) (g.F.Folder.told c.args.folder.now) (g.F.Folder.told c.sync_index-2.new.folder) c.args.index.now c.empty-fresh.result
    c.sync_index-2.new.index c.sync_index-2.new.index (g.R.Remote.sends c.args.remote.now) (g.R.Remote.sends c.sync_index-2.new.remote) (Ok c.in-Ok.synced)
    (counted_fresh c.args.index.now (sym c.is_some.ensures ∙ c.if-is_some.false) ∙ sym c.empty-fresh.ensures.value) refl c.in-Ok.ensures.value

pub returns-in-Err-clause-value : goal.returns-in-Err-clause-value
returns-in-Err-clause-value g c =
    synced_as c.args.secret c.args.user.now (g.C.Clock.shows c.args.clock.now) (g.F.Folder.told c.args.folder.now) (g.F.Folder.told c.sync_index-2.new.folder) c.args.index.now c.empty-fresh.result
    c.sync_index-2.new.index c.args.index.now (g.R.Remote.sends c.args.remote.now) (g.R.Remote.sends c.sync_index-2.new.remote) (Err c.in-Err.fault)
    (counted_fresh c.args.index.now (sym c.is_some.ensures ∙ c.if-is_some.false) ∙ sym c.empty-fresh.ensures.value) refl c.in-Err.ensures.value
