-- A library wasn't started; or all were, and are back.
use Rattle.std.proofs.Common.{◌≡◌, ℕ, ap, arith, length, refl, subst, vec_len, ◌∙◌}
use Rattle.server_words.specs.Spelling.{location_text}
use Rattle.server_words.specs.declared.line.Line.TheVariants as line
use Rattle.library_server.specs.Bringing.{AreTaken, UnnamedGiveNoMore}
use Rattle.library_server.specs.HallConnections.{AreGood}
use Rattle.library_server.specs.Lines.{is_storage_fault}
use Rattle.library_server.specs.Port.{started, stopped}
use Rattle.library_server.proofs.BringingLemmas.{came_back_all, unnamed_then}
use Rattle.library_server.proofs.PortLemmas.{unserved_whole, workers_size, workers_whole}
use Rattle.library_server.proofs.port.serve_ears.Goals as goal

pub returns-in-Err : goal.returns-in-Err
returns-in-Err g c = record {
  serves = stopped c.in-Err.why c.in-Err.ensures.stopped refl (ap line.Fault c.fault_of_unserved.ensures.value);
  steady = λ steady all. ap is_storage_fault c.fault_of_unserved.ensures.value ∙ unserved_whole c.in-Err.why (c.in-Err.ensures.steady steady all);
  others = c.in-Err.ensures.others;
}

pub bring_all_back-requires-clause-few : goal.bring_all_back-requires-clause-few
bring_all_back-requires-clause-few g c =
    let size = workers_size g.G.S.Shelf.contents g.G.S.Shelf.may_give g.G.S.Shelf.texts g.G.S.Shelf.faults _ _ _ _ _ _ _ c.serve_depots-line.ensures in
    let brought = c.in-Ok.ensures.brought.0 in
    let ok = c.serve_depots-line.result.2.ok.0 in
    omega arith

pub returns : goal.returns
returns g c =
    let size = workers_size g.G.S.Shelf.contents g.G.S.Shelf.may_give g.G.S.Shelf.texts g.G.S.Shelf.faults _ _ _ _ _ _ _ c.serve_depots-line.ensures in
    let brought = c.in-Ok.ensures.brought.0 in
    let ok = c.serve_depots-line.result.2.ok.0 in
    let all : vec_len c.serve_depots-line.result.2 ≡ length c.args.libs.now = omega arith in
    record {
      serves =
          started c.in-Ok.depots.items c.serve_depots-line.result.2.items c.in-Ok.ensures.brought c.serve_depots-line.ensures
          (came_back_all g.G.S.Shelf.contents (location_text c.args.location.now) c.args.libs.now c.serve_depots-line.result.2.items (g.G.Ground.stands c.args.libraries.now) (g.G.Ground.stands c.bring_all.new.libraries)
          (g.G.Ground.stands c.bring_all_back.new.libraries) (length c.args.libs.now) c.in-Ok.ensures.out
          (subst (λ (n : ℕ). AreTaken g.G.S.Shelf.contents (g.G.Ground.stands c.bring_all.new.libraries) (g.G.Ground.stands c.bring_all_back.new.libraries) (location_text c.args.location.now) c.args.libs.now
          c.serve_depots-line.result.2.items 0 n) all (rw c.folder_word.ensures.value at c.bring_all_back.ensures.ok)))
          (subst (λ (n : ℕ). AreGood g.G.S.Shelf.contents g.G.S.Shelf.faults c.serve_depots-line.result.2.items n) all c.bring_all_back.ensures.good);
      steady = λ steady all.
          workers_whole g.G.S.Shelf.contents g.G.S.Shelf.may_give g.G.S.Shelf.texts g.G.S.Shelf.faults _ _ _ _ _ _ _ c.serve_depots-line.ensures;
      others = unnamed_then (location_text c.args.location.now) c.args.libs.now _ c.in-Ok.ensures.others
          (subst (λ (n : ℕ). UnnamedGiveNoMore (g.G.Ground.may_give c.bring_all.new.libraries) (g.G.Ground.may_give c.bring_all_back.new.libraries) (location_text c.args.location.now) c.args.libs.now 0 n) all
          (rw c.folder_word.ensures.value at c.bring_all_back.ensures.others));
    }
