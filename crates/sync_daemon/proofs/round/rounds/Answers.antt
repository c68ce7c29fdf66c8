-- So many rounds ended late.
use Rattle.std.proofs.Common.{◌∙◌, Ok, Err, arith, refl, subst}
use Rattle.folder_side.proofs.CallLemmas.{glances_same, glances_then}
use Rattle.sync_daemon.specs.Rounds.{RoundSo, sync_of}
use Rattle.sync_daemon.specs.declared.round.Round.{Round}
use Rattle.sync_daemon.proofs.RoundEndLemmas.{round_here, rounds_begin, rounds_end, rounds_late}
use Rattle.sync_daemon.proofs.round.rounds.Goals as goal

pub loop-late-init : goal.loop-late-init
loop-late-init g c = record {
  told = refl;
  peer = refl;
  traced = glances_same _ _ refl;
  faults = refl;
  few = omega arith;
  so = rounds_begin (sync_of c.args.asker.now c.args.user.now (g.C.Clock.shows c.args.clock.now) c.args.cuts (g.F.Folder.told c.args.folder.now) c.args.index.now)
      (g.R.Remote.sends c.args.remote.now) 0;
}

pub loop-late-preserved : goal.loop-late-preserved
loop-late-preserved g c =
    let came =
    round_here c.args.asker.now c.args.user.now (g.C.Clock.shows c.args.clock.now) c.args.cuts (g.F.Folder.told c.args.folder.now) (g.F.Folder.told c.loop-late.folder) c.args.index.now
    (g.R.Remote.sends c.args.remote.now) (g.R.Remote.sends c.loop-late.remote) (g.R.Remote.sends c.one_round.new.remote) c.loop-late.late c.loop-late.last (Ok c.in-Ok.came)
    c.loop-late.invariant.told (omega arith) c.loop-late.invariant.so c.in-Ok.ensures.value in
    record {
      told = c.one_round.ensures.stays.0 ∙ c.loop-late.invariant.told;
      peer = c.one_round.ensures.stays.1 ∙ c.loop-late.invariant.peer;
      traced = glances_then _ _ _ c.loop-late.invariant.traced c.one_round.ensures.traced;
      faults = c.in-Ok.ensures.faults ∙ c.loop-late.invariant.faults;
      few = omega arith;
      so = rounds_late (sync_of c.args.asker.now c.args.user.now (g.C.Clock.shows c.args.clock.now) c.args.cuts (g.F.Folder.told c.args.folder.now) c.args.index.now)
          (g.R.Remote.sends c.args.remote.now) (g.R.Remote.sends c.one_round.new.remote) c.loop-late.late c.in-Late.now
          (subst
          (λ (r : Round).
          RoundSo (sync_of c.args.asker.now c.args.user.now (g.C.Clock.shows c.args.clock.now) c.args.cuts (g.F.Folder.told c.args.folder.now) c.args.index.now) (g.R.Remote.sends c.args.remote.now)
          (g.R.Remote.sends c.one_round.new.remote) c.loop-late.late (Ok r))
          c.in-Late.is came);
    }

pub returns-in-Err-clause-value : goal.returns-in-Err-clause-value
returns-in-Err-clause-value g c =
    round_here c.args.asker.now c.args.user.now (g.C.Clock.shows c.args.clock.now) c.args.cuts (g.F.Folder.told c.args.folder.now) (g.F.Folder.told c.loop-late.folder) c.args.index.now
    (g.R.Remote.sends c.args.remote.now) (g.R.Remote.sends c.loop-late.remote) (g.R.Remote.sends c.one_round.new.remote) c.loop-late.late c.loop-late.last (Err c.in-Err.fault)
    c.loop-late.invariant.told (omega arith) c.loop-late.invariant.so c.in-Err.ensures.value

pub returns-in-Settled-clause-value : goal.returns-in-Settled-clause-value
returns-in-Settled-clause-value g c =
    subst
    (λ (r : Round).
    RoundSo (sync_of c.args.asker.now c.args.user.now (g.C.Clock.shows c.args.clock.now) c.args.cuts (g.F.Folder.told c.args.folder.now) c.args.index.now) (g.R.Remote.sends c.args.remote.now)
    (g.R.Remote.sends c.one_round.new.remote) c.loop-late.late (Ok r))
    c.in-Settled.is
    (round_here c.args.asker.now c.args.user.now (g.C.Clock.shows c.args.clock.now) c.args.cuts (g.F.Folder.told c.args.folder.now) (g.F.Folder.told c.loop-late.folder) c.args.index.now
    (g.R.Remote.sends c.args.remote.now) (g.R.Remote.sends c.loop-late.remote) (g.R.Remote.sends c.one_round.new.remote) c.loop-late.late c.loop-late.last (Ok c.in-Ok.came)
    c.loop-late.invariant.told (omega arith) c.loop-late.invariant.so c.in-Ok.ensures.value)

pub returns-clause-value : goal.returns-clause-value
returns-clause-value g c =
    rounds_end (sync_of c.args.asker.now c.args.user.now (g.C.Clock.shows c.args.clock.now) c.args.cuts (g.F.Folder.told c.args.folder.now) c.args.index.now) (g.R.Remote.sends c.args.remote.now)
    (g.R.Remote.sends c.loop-late.remote) c.loop-late.late c.loop-late.last (omega arith) c.loop-late.invariant.few c.loop-late.invariant.so

pub returns-in-Err-clause-traced : goal.returns-in-Err-clause-traced
returns-in-Err-clause-traced g c = glances_then _ _ _ c.loop-late.invariant.traced c.one_round.ensures.traced

pub returns-in-Settled-clause-traced : goal.returns-in-Settled-clause-traced
returns-in-Settled-clause-traced g c = glances_then _ _ _ c.loop-late.invariant.traced c.one_round.ensures.traced
