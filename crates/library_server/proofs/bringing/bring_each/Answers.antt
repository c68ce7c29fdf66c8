-- One library more was started, and is out; or it wasn't, and came back.
use Rattle.std.proofs.Common.{◌≡◌, ◌+◌, ℕ, arith, refl, subst, sym, ◌∙◌}
use Rattle.server_words.specs.Spelling.{location_text}
use Rattle.library_server.specs.Bringing.{AreBrought, AreOut}
use Rattle.library_server.proofs.BringingLemmas.{brought_none, next_brought, next_out, next_stands, next_unnamed, out_none, stopping, unnamed_among, unnamed_none}
use Rattle.library_server.proofs.bringing.bring_each.Goals as goal

pub loop-lib-init : goal.loop-lib-init
loop-lib-init g c =
    let ok = c.args.depots.now.ok.0 in
    let none = c.requires.size in
    record {
      size = none;
      within = omega arith;
      room = c.requires.capacity;
      brought = brought_none g.G.S.Shelf.contents g.G.S.Shelf.may_give g.G.S.Shelf.faults (g.G.Ground.may_give c.args.libraries.now) c.args.location.now (g.C.Clock.shows c.args.clock.now)
          (g.G.Ground.stands c.args.libraries.now) c.args.libs.now c.args.depots.now.items (omega arith);
      out = out_none (g.G.Ground.stands c.args.libraries.now) (location_text c.args.location.now) c.args.libs.now;
      count = refl;
      others = unnamed_none (g.G.Ground.may_give c.args.libraries.now) (location_text c.args.location.now) c.args.libs.now 0;
    }

pub loop-lib-preserved : goal.loop-lib-preserved
loop-lib-preserved g c =
    let inv = c.loop-lib.invariant in
    let within = c.loop-lib-test.true in
    let size = inv.size in
    let room = inv.room in
    let more = c.push_reserved.ensures.len in
    let kept = c.push_reserved.ensures.capacity in
    record {
      size = omega arith;
      within = omega arith;
      room = omega arith;
      brought = subst (λ depots.
          AreBrought g.G.S.Shelf.contents g.G.S.Shelf.may_give g.G.S.Shelf.faults (g.G.Ground.may_give c.args.libraries.now) c.args.location.now (g.C.Clock.shows c.args.clock.now) (g.G.Ground.stands c.args.libraries.now)
          c.args.libs.now (c.loop-lib.lib-index + 1) depots)
          (sym c.push_reserved.ensures.items)
          (next_brought g.G.S.Shelf.contents g.G.S.Shelf.may_give g.G.S.Shelf.faults (g.G.Ground.may_give c.args.libraries.now) c.args.location.now (g.C.Clock.shows c.args.clock.now) c.args.libs.now c.requires.apart
          c.loop-lib.lib-index c.lib-item.result (omega arith) c.lib-item.is (g.G.Ground.stands c.args.libraries.now) (g.G.Ground.stands c.loop-lib.libraries) (g.G.Ground.may_give c.loop-lib.libraries)
          c.loop-lib.depots.items c.in-Ok.depot inv.out inv.others inv.brought (record {
            state = c.in-Ok.ensures.any;
            told = c.in-Ok.ensures.shown;
            laid = c.in-Ok.ensures.gives;
            none = c.in-Ok.ensures.lying;
            settled = c.in-Ok.ensures.settled;
            good = c.in-Ok.ensures.good;
          }));
      out = next_out (location_text c.args.location.now) c.args.libs.now c.requires.apart c.loop-lib.lib-index c.lib-item.result (omega arith) c.lib-item.is
          (g.G.Ground.stands c.args.libraries.now) (g.G.Ground.stands c.loop-lib.libraries) (g.G.Ground.stands c.start_library.new.libraries) inv.out c.in-Ok.ensures.back;
      count = c.in-Ok.ensures.count ∙ inv.count;
      others = next_unnamed (location_text c.args.location.now) c.args.libs.now c.requires.apart c.loop-lib.lib-index c.lib-item.result (omega arith) c.lib-item.is inv.others c.in-Ok.ensures.others;
    }

pub returns-in-Err-clause-brought : goal.returns-in-Err-clause-brought
returns-in-Err-clause-brought g c =
    subst (λ (n : ℕ).
    AreBrought g.G.S.Shelf.contents g.G.S.Shelf.may_give g.G.S.Shelf.faults (g.G.Ground.may_give c.args.libraries.now) c.args.location.now (g.C.Clock.shows c.args.clock.now) (g.G.Ground.stands c.args.libraries.now)
    c.args.libs.now n c.loop-lib.depots.items)
    (sym c.loop-lib.invariant.size) c.loop-lib.invariant.brought

pub returns-in-Err-clause-stopped : goal.returns-in-Err-clause-stopped
returns-in-Err-clause-stopped g c =
    let inv = c.loop-lib.invariant in
    let within = c.loop-lib-test.true in
    stopping g.G.S.Shelf.contents g.G.S.Shelf.may_give g.G.S.Shelf.faults (g.G.Ground.may_give c.args.libraries.now) c.args.location.now (g.C.Clock.shows c.args.clock.now) c.args.libs.now c.requires.apart
    c.loop-lib.lib-index c.lib-item.result (omega arith) c.lib-item.is _
    (record { stands = g.G.Ground.stands c.args.libraries.now; faults = g.G.Ground.faults c.args.libraries.now })
    (record { stands = g.G.Ground.stands c.loop-lib.libraries; faults = g.G.Ground.faults c.loop-lib.libraries })
    (record { stands = g.G.Ground.stands c.start_library.new.libraries; faults = g.G.Ground.faults c.start_library.new.libraries })
    (g.G.Ground.may_give c.loop-lib.libraries) c.in-Err.why inv.size inv.out inv.count inv.others c.in-Err.ensures.back c.in-Err.ensures.shown c.in-Err.ensures.cause c.in-Err.ensures.faults

pub returns-in-Err-clause-steady : goal.returns-in-Err-clause-steady
returns-in-Err-clause-steady g c = λ steady all.
    let within = c.loop-lib-test.true in
    let whole = all (location_text c.args.location.now) c.lib-item.result in
    c.in-Err.ensures.steady steady whole.0
    (next_stands (location_text c.args.location.now) c.args.libs.now c.requires.apart c.loop-lib.lib-index c.lib-item.result (omega arith) c.lib-item.is
    (g.G.Ground.stands c.args.libraries.now) (g.G.Ground.stands c.loop-lib.libraries) c.loop-lib.invariant.out ∙ whole.1)
    whole.2

pub returns-in-Err-clause-others : goal.returns-in-Err-clause-others
returns-in-Err-clause-others g c =
    let within = c.loop-lib-test.true in
    unnamed_among (location_text c.args.location.now) c.args.libs.now (c.loop-lib.lib-index + 1) _ (omega arith)
    (next_unnamed (location_text c.args.location.now) c.args.libs.now c.requires.apart c.loop-lib.lib-index c.lib-item.result (omega arith) c.lib-item.is c.loop-lib.invariant.others c.in-Err.ensures.others)

pub returns-clause-brought : goal.returns-clause-brought
returns-clause-brought g c =
    subst (λ (n : ℕ).
    AreBrought g.G.S.Shelf.contents g.G.S.Shelf.may_give g.G.S.Shelf.faults (g.G.Ground.may_give c.args.libraries.now) c.args.location.now (g.C.Clock.shows c.args.clock.now) (g.G.Ground.stands c.args.libraries.now)
    c.args.libs.now n c.loop-lib.depots.items)
    (sym c.loop-lib.invariant.size) c.loop-lib.invariant.brought

pub returns-clause-whole : goal.returns-clause-whole
returns-clause-whole g c =
    let size = c.loop-lib.invariant.size in
    let within = c.loop-lib.invariant.within in
    omega arith

pub returns-clause-out : goal.returns-clause-out
returns-clause-out g c =
    subst (λ (n : ℕ). AreOut (g.G.Ground.stands c.args.libraries.now) (g.G.Ground.stands c.loop-lib.libraries) (location_text c.args.location.now) c.args.libs.now n)
    (sym c.loop-lib.invariant.size) c.loop-lib.invariant.out

pub returns-clause-others : goal.returns-clause-others
returns-clause-others g c =
    unnamed_among (location_text c.args.location.now) c.args.libs.now c.loop-lib.lib-index _ c.loop-lib.invariant.within c.loop-lib.invariant.others
