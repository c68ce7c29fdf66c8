-- All are out; or those before the first that wasn't started came back.
use Rattle.std.proofs.Common.{◌≡◌, ◌≤◌, ℕ, arith, refl, subst}
use Rattle.server_words.specs.Spelling.{location_text}
use Rattle.library_server.specs.Bringing.{AreBrought, AreOut}
use Rattle.library_server.proofs.BringingLemmas.{stopped_at, stopped_first, unnamed_among, unnamed_then}
use Rattle.library_server.proofs.bringing.bring_all.Goals as goal

pub returns-in-Err-clause-stopped : goal.returns-in-Err-clause-stopped
returns-in-Err-clause-stopped g c =
    stopped_first g.G.S.Shelf.contents g.G.S.Shelf.may_give g.G.S.Shelf.faults (g.G.Ground.may_give c.args.libraries.now) c.args.location.now (g.C.Clock.shows c.args.clock.now) c.args.libs.now
    (record { stands = g.G.Ground.stands c.args.libraries.now; faults = g.G.Ground.faults c.args.libraries.now }) c.requires.some

pub returns-in-Err-clause-steady : goal.returns-in-Err-clause-steady
returns-in-Err-clause-steady g c = λ steady all. refl

pub returns-in-Err-clause-others : goal.returns-in-Err-clause-others
returns-in-Err-clause-others g c = λ f l none slot given is. is

pub returns-in-Ok-bring_each-clause-brought : goal.returns-in-Ok-bring_each-clause-brought
returns-in-Ok-bring_each-clause-brought g c =
    subst (λ (n : ℕ).
    AreBrought g.G.S.Shelf.contents g.G.S.Shelf.may_give g.G.S.Shelf.faults (g.G.Ground.may_give c.args.libraries.now) c.args.location.now (g.C.Clock.shows c.args.clock.now) (g.G.Ground.stands c.args.libraries.now)
    c.args.libs.now n c.bring_each.new.depots.items)
    c.in-Ok-bring_each.ensures.whole c.in-Ok-bring_each.ensures.brought

pub returns-in-Ok-bring_each-clause-out : goal.returns-in-Ok-bring_each-clause-out
returns-in-Ok-bring_each-clause-out g c =
    subst (λ (n : ℕ). AreOut (g.G.Ground.stands c.args.libraries.now) (g.G.Ground.stands c.bring_each.new.libraries) (location_text c.args.location.now) c.args.libs.now n)
    c.in-Ok-bring_each.ensures.whole c.in-Ok-bring_each.ensures.out

pub bring_all_back-requires-clause-few : goal.bring_all_back-requires-clause-few
bring_all_back-requires-clause-few g c =
    let within = c.in-Err-bring_each.ensures.stopped.within in
    omega arith

pub returns-in-Err-bring_each-clause-stopped : goal.returns-in-Err-bring_each-clause-stopped
returns-in-Err-bring_each-clause-stopped g c =
    stopped_at g.G.S.Shelf.contents g.G.S.Shelf.may_give g.G.S.Shelf.faults (g.G.Ground.may_give c.args.libraries.now) c.args.location.now (g.C.Clock.shows c.args.clock.now) c.args.libs.now c.requires.apart _
    (record { stands = g.G.Ground.stands c.args.libraries.now; faults = g.G.Ground.faults c.args.libraries.now })
    (record { stands = g.G.Ground.stands c.bring_each.new.libraries; faults = g.G.Ground.faults c.bring_each.new.libraries })
    (record { stands = g.G.Ground.stands c.bring_all_back.new.libraries; faults = g.G.Ground.faults c.bring_all_back.new.libraries })
    c.bring_each.new.depots.items c.in-Err-bring_each.why c.in-Err-bring_each.ensures.brought c.in-Err-bring_each.ensures.stopped
    (rw c.folder_word.ensures.value at c.bring_all_back.ensures.ok) c.bring_all_back.ensures.faults

pub returns-in-Err-bring_each-clause-steady : goal.returns-in-Err-bring_each-clause-steady
returns-in-Err-bring_each-clause-steady g c = c.in-Err-bring_each.ensures.steady

pub returns-in-Err-bring_each-clause-others : goal.returns-in-Err-bring_each-clause-others
returns-in-Err-bring_each-clause-others g c =
    let within = c.in-Err-bring_each.ensures.stopped.within in
    unnamed_then (location_text c.args.location.now) c.args.libs.now _ c.in-Err-bring_each.ensures.others
    (unnamed_among (location_text c.args.location.now) c.args.libs.now _ _ (omega arith) (rw c.folder_word.ensures.value at c.bring_all_back.ensures.others))
