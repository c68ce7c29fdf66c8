-- The rounds, and then the second half.
use Rattle.std.proofs.Common.{inl, inr}
use Rattle.tree_checkout.proofs.TouchLemmas.{touches_glances, touches_then}
use Rattle.sync_daemon.proofs.FinishAllLemmas.{finished_as, refused_as}
use Rattle.sync_daemon.proofs.syncing.sync_index.Goals as goal

pub returns-in-Err-clause-value : goal.returns-in-Err-clause-value
returns-in-Err-clause-value g c = (
  c.usual-cuts.result,
  record { least = c.usual-cuts.ensures.value.0; greatest = c.usual-cuts.ensures.value.1; shift = c.usual-cuts.ensures.value.2 },
  refused_as (record { lib = c.args.index.now.lib; secret = c.args.secret }) c.args.user.now (g.C.Clock.shows c.args.clock.now) c.usual-cuts.result (g.F.Folder.told c.args.folder.now)
      (g.F.Folder.told c.rounds.new.folder) c.args.index.now (g.R.Remote.sends c.args.remote.now) (g.R.Remote.sends c.rounds.new.remote) c.in-Err.fault c.rounds.ensures.stays.0 c.in-Err.ensures.value,
)

pub finish-requires : goal.finish-requires
finish-requires g c = record { ids = c.in-Ok.ensures.value.2.owns }

pub returns-clause-value : goal.returns-clause-value
returns-clause-value g c = (
  c.usual-cuts.result,
  record { least = c.usual-cuts.ensures.value.0; greatest = c.usual-cuts.ensures.value.1; shift = c.usual-cuts.ensures.value.2 },
  finished_as (record { lib = c.args.index.now.lib; secret = c.args.secret }) c.args.user.now (g.C.Clock.shows c.args.clock.now) c.usual-cuts.result (g.F.Folder.told c.args.folder.now)
      (g.F.Folder.told c.rounds.new.folder) (g.F.Folder.told c.finish.new.folder) c.args.index.now c.finish.new.index (g.R.Remote.sends c.args.remote.now) (g.R.Remote.sends c.rounds.new.remote)
      (g.R.Remote.sends c.finish.new.remote) c.in-Ok.settled c.finish.result c.rounds.ensures.stays.0 c.in-Ok.ensures.value c.finish.ensures.value,
)

-- ---- the touches

pub returns-in-Err-clause-touches : goal.returns-in-Err-clause-touches
returns-in-Err-clause-touches g c = record {
  cuts = c.usual-cuts.result;
  usual = record { least = c.usual-cuts.ensures.value.0; greatest = c.usual-cuts.ensures.value.1; shift = c.usual-cuts.ensures.value.2 };
  behind = inl c.rounds.ensures.traced;
}

pub returns-clause-touches : goal.returns-clause-touches
returns-clause-touches g c = record {
  cuts = c.usual-cuts.result;
  usual = record { least = c.usual-cuts.ensures.value.0; greatest = c.usual-cuts.ensures.value.1; shift = c.usual-cuts.ensures.value.2 };
  behind = inr (
    c.in-Ok.settled.scan,
    λ c' told. (c.in-Ok.ensures.value.2.seen c' told).scanned,
    touches_then c.usual-cuts.result c.in-Ok.settled.scan _ _ _ (touches_glances c.usual-cuts.result c.in-Ok.settled.scan _ _ c.rounds.ensures.traced) c.finish.ensures.touches,
  );
}
