-- All that was sent went over one dial, which went back.
use Rattle.std.proofs.Common.{ap, refl, map, ◌∙◌, ◌++◌, ◌∷◌, []}
use Rattle.http_front.specs.Dial.{count_sum}
use Rattle.remote_calls.specs.Exchange.{link_view}
use Rattle.client_commands.specs.Views.{desk_view, dial_view, own_view}
use Rattle.client_commands.proofs.OverLemmas.{over_kept, over_so}
use Rattle.client_commands.proofs.job_syncs.sync_over.Goals as goal

pub returns : goal.returns
returns g c =
    let view = desk_view g.D.Desk.has_place g.D.Desk.holds g.D.Desk.dials g.D.Desk.folder_faults g.D.Desk.dial_faults in
    let own = own_view g.D.F.Folder.told g.D.F.Folder.faults in
    let seen = link_view g.D.N.L.Link.left g.D.N.L.Link.taken g.D.N.L.Link.given g.D.N.L.Link.asked g.D.N.L.Link.faults in
    let links = dial_view seen g.D.N.Dial.back g.D.N.Dial.dialled in
    let shows = g.C.Clock.shows c.args.clock.now in
    let start = map seen (g.D.N.Dial.back c.dial-dial.result) in
    let asked = g.D.N.Dial.dialled c.dial-dial.result in
    let first = count_sum (g.D.N.Dial.faults c.dial-dial.result) 0 in
    record {
      value = over_so links shows c.args.job.now c.args.index.now c.sync_once-synced.new.index (g.D.F.Folder.told c.args.folder.now) (g.D.F.Folder.told c.sync_once-synced.new.folder) c.new-remote.result
          c.sync_once-synced.new.remote c.args.host c.args.job.now.port start asked first _ c.sync_once-synced.result c.new-remote.ensures.value c.sync_once-synced.ensures.value (g.D.Desk.dials c.args.desk.now)
          (g.D.Desk.dials c.hang_up.new.self) c.end-used.result c.told_of.result (ap (map seen) c.dial-dial.ensures.none.0) c.dial-dial.ensures.none.1 c.requires.same refl c.sync_once-synced.ensures.stays c.end-used.ensures.told c.end-used.ensures.dialled
          (c.hang_up.ensures.back ∙ ap (λ dials. dials ++ c.end-used.result ∷ []) c.dial-dial.ensures.stays.3) c.told_of.ensures.value;
      faults = over_kept links shows c.args.job.now c.args.index.now c.sync_once-synced.new.index (g.D.F.Folder.told c.args.folder.now) (g.D.F.Folder.told c.sync_once-synced.new.folder) c.new-remote.result
          c.sync_once-synced.new.remote c.args.host c.args.job.now.port start asked first _ c.sync_once-synced.result c.new-remote.ensures.value c.sync_once-synced.ensures.value (own c.args.folder.now)
          (own c.sync_once-synced.new.folder) (view c.args.desk.now) (view c.dial-dial.new.self) (view c.hang_up.new.self) (g.D.N.Dial.faults c.end-used.result) c.told_of.result
          c.sync_once-synced.ensures.faults c.end-used.ensures.counted (c.hang_up.ensures.stays.0 ∙ c.dial-dial.ensures.stays.0) (c.hang_up.ensures.stays.2 ∙ c.dial-dial.ensures.stays.2)
          c.dial-dial.ensures.stays.4 c.hang_up.ensures.faults c.told_of.ensures.value;
      stays = c.hang_up.ensures.stays.1 ∙ c.dial-dial.ensures.stays.1;
    }
