-- One job more.
use Rattle.std.proofs.Common.{◌<◌, ◌∙◌, ◌++◌, ◌∷◌, List, Result, [], ap, append-nil, append_assoc, arith, length, map, refl, sym}
use Rattle.sync_rules.specs.declared.fault.SyncFault.{SyncFault}
use Rattle.sync_rules.specs.declared.synced.Synced.{Synced}
use Rattle.sync_daemon.specs.Turns.{state_of}
use Rattle.sync_daemon.proofs.TurnsLemmas.{on_error, turned_all, turned_next, turned_part}
use Rattle.sync_daemon.proofs.turns.run_turn.Goals as goal

pub loop-place-init : goal.loop-place-init
loop-place-init g c = ([], sym (append-nil _), (refl, refl))

pub loop-place-preserved : goal.loop-place-preserved
loop-place-preserved g c =
    let state = state_of g.F.Folder.told g.F.Folder.faults g.R.Remote.sends g.R.Remote.peer in
    let within : c.loop-place.place < length c.loop-place.jobs.items = omega arith in (
      c.loop-place.invariant.0 ++ c.run_job-synced.result ∷ [],
      c.push_reserved.ensures.items ∙ ap (λ (rs : List (Result Synced SyncFault)). rs ++ c.run_job-synced.result ∷ []) (c.in_ok-reserve.ensures.items ∙ c.loop-place.invariant.1)
          ∙ append_assoc c.args.results.now.items c.loop-place.invariant.0 (c.run_job-synced.result ∷ []),
      turned_next (g.C.Clock.shows c.args.clock.now) state c.loop-place.place (map state c.args.jobs.now.items) c.loop-place.jobs.items c.loop-place.invariant.0 c.index_mut.result.now
          c.run_job-synced.new.job c.run_job-synced.result c.loop-place.invariant.2 within c.index_mut.ensures.value c.run_job-synced.ensures.value,
    )

pub returns-clause-value : goal.returns-clause-value
returns-clause-value g c =
    let state = state_of g.F.Folder.told g.F.Folder.faults g.R.Remote.sends g.R.Remote.peer in (
      c.loop-place.invariant.0,
      c.loop-place.invariant.1,
      turned_all (g.C.Clock.shows c.args.clock.now) state c.loop-place.place (map state c.args.jobs.now.items) c.loop-place.jobs.items c.loop-place.invariant.0 (omega arith)
          c.loop-place.invariant.2,
    )

pub returns-in_err-reserve-clause-err : goal.returns-in_err-reserve-clause-err
returns-in_err-reserve-clause-err g c =
    let state = state_of g.F.Folder.told g.F.Folder.faults g.R.Remote.sends g.R.Remote.peer in
    on_error _ c.from_residual.result
    (turned_part (g.C.Clock.shows c.args.clock.now) state c.loop-place.place (map state c.args.jobs.now.items) c.loop-place.jobs.items c.loop-place.invariant.0 (omega arith) c.loop-place.invariant.2)
