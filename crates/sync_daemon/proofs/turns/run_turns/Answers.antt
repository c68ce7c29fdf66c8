-- One turn more.
use Rattle.std.proofs.Common.{◌≡◌, ◌+◌, ◌++◌, ℕ, suc, List, Result, arith, map, subst, sym}
use Rattle.sync_rules.specs.declared.fault.SyncFault.{SyncFault}
use Rattle.sync_rules.specs.declared.synced.Synced.{Synced}
use Rattle.sync_daemon.specs.Turns.{TurnsSo, state_of}
use Rattle.sync_daemon.proofs.TurnsLemmas.{on_error, turns_more}
use Rattle.sync_daemon.proofs.turns.run_turns.Goals as goal

pub loop-turn-preserved : goal.loop-turn-preserved
loop-turn-preserved g c =
    let state = state_of g.F.Folder.told g.F.Folder.faults g.R.Remote.sends g.R.Remote.peer in
    let went = c.in_ok-run_turn.ensures.value in
    let one : suc c.loop-turn.turn ≡ c.loop-turn.turn + 1 = omega arith in
    record {
      few = omega arith;
      so = subst (λ (rs : List (Result Synced SyncFault)). TurnsSo (g.C.Clock.shows c.args.clock.now) (c.loop-turn.turn + 1) (map state c.args.jobs.now.items) (map state c.run_turn.new.jobs.items) rs) (sym went.1)
          (subst (λ (n : ℕ). TurnsSo (g.C.Clock.shows c.args.clock.now) n (map state c.args.jobs.now.items) (map state c.run_turn.new.jobs.items) (c.loop-turn.results.items ++ went.0)) one
          (turns_more (g.C.Clock.shows c.args.clock.now) c.loop-turn.turn (map state c.args.jobs.now.items) (map state c.loop-turn.jobs.items) (map state c.run_turn.new.jobs.items) c.loop-turn.results.items went.0
          c.loop-turn.invariant.so went.2));
    }

pub returns-in_err-run_turn-clause-err : goal.returns-in_err-run_turn-clause-err
returns-in_err-run_turn-clause-err g c =
    let state = state_of g.F.Folder.told g.F.Folder.faults g.R.Remote.sends g.R.Remote.peer in
    on_error _ c.from_residual.result
    (c.loop-turn.turn, omega arith, map state c.loop-turn.jobs.items, c.loop-turn.results.items, c.loop-turn.invariant.so, c.in_err-run_turn.ensures.err)
