-- What was started is served and comes back, and the end gives the status.
use Rattle.std.proofs.Common.{◌≡◌, ◌≤◌, ℕ, ap, arith, length, refl, subst, vec_len, ◌∙◌}
use Rattle.server_words.specs.Lines.{fault_status}
use Rattle.server_words.specs.Spelling.{location_text}
use Rattle.library_server.specs.Bringing.{AreTaken, UnnamedGiveNoMore}
use Rattle.library_server.specs.HallConnections.{AreGood, stopped}
use Rattle.library_server.proofs.BringingLemmas.{unnamed_then}
use Rattle.library_server.proofs.HallEndLemmas.{held_size}
use Rattle.library_server.proofs.HallWholeLemmas.{served_whole}
use Rattle.library_server.proofs.inetd_hall.inetd_hall.Goals as goal

pub returns-in-Err : goal.returns-in-Err
returns-in-Err g c = record {
  serves = (stopped c.in-Err.fault c.in-Err.ensures.stopped (c.status.ensures.value ∙ ap fault_status c.fault.ensures.value) refl, c.in-Err.ensures.steady);
  others = c.in-Err.ensures.others;
}

pub bring_all_back-requires-clause-few : goal.bring_all_back-requires-clause-few
bring_all_back-requires-clause-few g c =
    let size = held_size g.G.S.Shelf.contents g.G.S.Shelf.may_give g.G.S.Shelf.texts g.G.S.Shelf.faults _ _ _ _ _ _ c.serve_opened-status.ensures in
    let brought = c.in-Ok.ensures.brought.0 in
    let ok = c.serve_opened-status.result.1.ok.0 in
    omega arith

pub returns : goal.returns
returns g c =
    let size = held_size g.G.S.Shelf.contents g.G.S.Shelf.may_give g.G.S.Shelf.texts g.G.S.Shelf.faults _ _ _ _ _ _ c.serve_opened-status.ensures in
    let brought = c.in-Ok.ensures.brought.0 in
    let ok = c.serve_opened-status.result.1.ok.0 in
    let all : vec_len c.serve_opened-status.result.1 ≡ length c.args.libs.now = omega arith in
    record {
      serves = served_whole g.G.S.Shelf.contents g.G.S.Shelf.may_give g.G.S.Shelf.texts g.G.S.Shelf.faults (g.G.Ground.may_give c.args.libraries.now) c.args.location.now c.args.libs.now (g.C.Clock.shows c.args.clock.now)
          (record { stands = g.G.Ground.stands c.args.libraries.now; faults = g.G.Ground.faults c.args.libraries.now })
          (record { stands = g.G.Ground.stands c.bring_all_back.new.libraries; faults = g.G.Ground.faults c.bring_all_back.new.libraries })
          (g.G.Ground.stands c.bring_all.new.libraries) c.in-Ok.depots.items c.serve_opened-status.result.1.items _ _ _
          c.in-Ok.ensures.brought c.in-Ok.ensures.out c.serve_opened-status.ensures
          (subst (λ (n : ℕ). AreTaken g.G.S.Shelf.contents (g.G.Ground.stands c.bring_all.new.libraries) (g.G.Ground.stands c.bring_all_back.new.libraries) (location_text c.args.location.now) c.args.libs.now
          c.serve_opened-status.result.1.items 0 n) all (rw c.folder_word.ensures.value at c.bring_all_back.ensures.ok))
          (subst (λ (n : ℕ). AreGood g.G.S.Shelf.contents g.G.S.Shelf.faults c.serve_opened-status.result.1.items n) all c.bring_all_back.ensures.good);
      others = unnamed_then (location_text c.args.location.now) c.args.libs.now _ c.in-Ok.ensures.others
          (subst (λ (n : ℕ). UnnamedGiveNoMore (g.G.Ground.may_give c.bring_all.new.libraries) (g.G.Ground.may_give c.bring_all_back.new.libraries) (location_text c.args.location.now) c.args.libs.now 0 n) all
          (rw c.folder_word.ensures.value at c.bring_all_back.ensures.others));
    }
