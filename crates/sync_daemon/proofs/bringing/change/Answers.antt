-- The checkout, and what is known then.
use Rattle.std.proofs.Common.{inl, inr, refl}
use Rattle.tree_checkout.proofs.TouchLemmas.{touches_none}
use Rattle.sync_daemon.proofs.BringLemmas.{knows_by, out_by, stops_by}
use Rattle.sync_daemon.proofs.bringing.change.Goals as goal

pub returns-in-Err-clause-value : goal.returns-in-Err-clause-value
returns-in-Err-clause-value g c = inl (refl, refl, refl)

pub returns-in-Err-checkout-clause-value : goal.returns-in-Err-checkout-clause-value
returns-in-Err-checkout-clause-value g c =
    stops_by c.args.asker.now c.args.cuts c.args.scan.now c.args.plan c.args.writes c.slice.result.now c.slice-2.result.now c.slice.ensures.value c.slice-2.ensures.value
    (g.R.Remote.sends c.args.remote.now) (g.R.Remote.sends c.checkout.new.remote) (g.F.Folder.told c.args.folder.now) (g.F.Folder.told c.checkout.new.folder)
    c.in-Err-checkout.fault c.in-Err-checkout.ensures.err c.in-Err-checkout.ensures.same

pub returns-in-Ok-known_entries-clause-value : goal.returns-in-Ok-known_entries-clause-value
returns-in-Ok-known_entries-clause-value g c = record {
  owns = c.in-Ok-checkout.owns;
  out = out_by c.args.asker.now c.args.cuts c.args.scan.now c.args.plan c.args.writes c.slice.result.now c.slice-2.result.now c.slice.ensures.value c.slice-2.ensures.value
      (g.R.Remote.sends c.args.remote.now) (g.R.Remote.sends c.checkout.new.remote) (g.F.Folder.told c.args.folder.now) (g.F.Folder.told c.checkout.new.folder)
      c.in-Ok-checkout.owns c.in-Ok-checkout.ensures.ok;
  knows = knows_by c.args.scan.now c.args.writes c.slice-3.result.now c.in-Ok-checkout.owns c.slice-4.result.now c.args.entries.now c.in-Ok-known_entries.entries c.slice-3.ensures.value
      c.slice-4.ensures.value c.in-Ok-known_entries.ensures.value;
  held = refl;
  written = c.count-written.ensures.value;
  removed = c.count-removed.ensures.value;
}

pub returns-in-Err-known_entries-clause-value : goal.returns-in-Err-known_entries-clause-value
returns-in-Err-known_entries-clause-value g c = inr (inr (
  c.in-Ok-checkout.owns,
  out_by c.args.asker.now c.args.cuts c.args.scan.now c.args.plan c.args.writes c.slice.result.now c.slice-2.result.now c.slice.ensures.value c.slice-2.ensures.value
      (g.R.Remote.sends c.args.remote.now) (g.R.Remote.sends c.checkout.new.remote) (g.F.Folder.told c.args.folder.now) (g.F.Folder.told c.checkout.new.folder)
      c.in-Ok-checkout.owns c.in-Ok-checkout.ensures.ok,
  refl,
))

pub returns-in-Err-clause-touches : goal.returns-in-Err-clause-touches
returns-in-Err-clause-touches g c = touches_none c.args.cuts c.args.scan.now _ _ refl
