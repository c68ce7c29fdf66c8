-- The folder is scanned.
use Rattle.std.proofs.Common.{◌≡◌, Option, Some, subst, ◌∙◌}
use Rattle.folder_side.specs.Folder.{Contents}
use Rattle.folder_side.proofs.CallLemmas.{glances_then}
use Rattle.sync_daemon.specs.Rounds.{IsChecked, IsSeen, RoundSo, sync_of}
use Rattle.sync_daemon.proofs.MeetLemmas.{scan_fails}
use Rattle.sync_daemon.proofs.round.checked_round.Goals as goal

pub returns-in-Err-clause-value : goal.returns-in-Err-clause-value
returns-in-Err-clause-value g c = λ start before late is checked. (
  before,
  c.rest.ensures.stays.1 ∙ is,
  scan_fails (sync_of c.args.asker.now c.args.user.now (g.C.Clock.shows c.args.clock.now) c.args.cuts (g.F.Folder.told c.args.folder.now) c.args.index.now) before checked.stage late checked.going
      checked.few checked.behind c.in-Err.fault c.in-Err.ensures.value,
)

pub returns-clause-value : goal.returns-clause-value
returns-clause-value g c = λ start before late is checked.
    subst
    (λ (told : Option Contents). IsChecked (sync_of c.args.asker.now c.args.user.now (g.C.Clock.shows c.args.clock.now) c.args.cuts told c.args.index.now) before late c.args.may
    → ((contents : Contents) → told ≡ Some contents → IsSeen c.args.cuts contents c.in-Ok.report)
    → RoundSo (sync_of c.args.asker.now c.args.user.now (g.C.Clock.shows c.args.clock.now) c.args.cuts told c.args.index.now) start (g.R.Remote.sends c.scanned_round.new.remote) late
    c.scanned_round.result)
    c.scan_folder.ensures.stays (c.scanned_round.ensures.value start before late (c.rest.ensures.stays.1 ∙ is)) checked c.in-Ok.ensures.value

pub returns-clause-traced : goal.returns-clause-traced
returns-clause-traced g c = glances_then _ _ _ c.scan_folder.ensures.traced c.scanned_round.ensures.traced
