-- The last of those that are left goes back.
use Rattle.std.proofs.Common.{◌≡◌, ◌≤◌, ◌<◌, ℕ, length, arith, subst, sym, vec_len}
use Rattle.std.proofs.lemmas.List.{take_all}
use Rattle.std.specs.Prelude.{slice_index_or}
use Rattle.sync_calls.proofs.BehindLemmas.{front_less, one_less}
use Rattle.library_server.specs.Bringing.{AreTaken, UnnamedGiveNoMore}
use Rattle.library_server.proofs.BringingLemmas.{good_more, good_none, raised_itself, raised_more, taken_back, taken_none, unnamed_none, unnamed_taken}
use Rattle.library_server.proofs.bringing.bring_all_back.Goals as goal

pub loop-depot-init : goal.loop-depot-init
loop-depot-init g c =
    let ok = c.args.depots.ok.0 in
    let few = c.requires.few in
    record {
      first = sym (take_all (length c.args.depots.items) c.args.depots.items (omega arith));
      fits = omega arith;
      few = omega arith;
      taken = taken_none g.G.S.Shelf.contents c.args.folder.now c.args.libs.now c.args.depots.items (g.G.Ground.stands c.args.libraries.now) (length c.args.depots.items);
      others = unnamed_none (g.G.Ground.may_give c.args.libraries.now) c.args.folder.now c.args.libs.now (length c.args.depots.items);
      good = good_none g.G.S.Shelf.contents g.G.S.Shelf.faults c.args.depots.items (length c.args.depots.items);
      faults = raised_itself (g.G.Ground.faults c.args.libraries.now);
    }

pub bounds-libs-place : goal.bounds-libs-place
bounds-libs-place g c =
    let inv = c.loop-depot.invariant in
    let fits = inv.fits in
    let few = inv.few in
    let longer = one_less _ _ _ c.in-Some.ensures.items in
    let ok = c.pop.new.self.ok.0 in
    let is = c.len-place.ensures in
    omega arith

pub loop-depot-preserved : goal.loop-depot-preserved
loop-depot-preserved g c =
    let inv = c.loop-depot.invariant in
    let fits = inv.fits in
    let longer = one_less _ _ _ c.in-Some.ensures.items in
    let ok = c.pop.new.self.ok.0 in
    let size = c.len-place.ensures in
    let place : c.len-place.result ≡ length c.pop.new.self.items = omega arith in
    let is : c.index-libs-place.result ≡ slice_index_or c.args.libs.now (length c.pop.new.self.items) c.index-libs-place.result
    = subst (λ (n : ℕ). c.index-libs-place.result ≡ slice_index_or c.args.libs.now n c.index-libs-place.result) place c.index-libs-place.is in
    record {
      first = front_less _ _ _ _ c.in-Some.ensures.items inv.first;
      fits = omega arith;
      few = inv.few;
      taken = taken_back c.args.folder.now c.args.libs.now c.requires.apart c.args.depots.items c.loop-depot.depots.items c.pop.new.self.items c.in-Some.depot c.index-libs-place.result
          c.in-Some.ensures.items inv.first inv.fits inv.few is g.G.S.Shelf.contents (g.G.Ground.stands c.args.libraries.now) (g.G.Ground.stands c.loop-depot.libraries)
          (g.G.Ground.stands c.bring_back.new.libraries) inv.taken c.bring_back.ensures.ok;
      others = unnamed_taken c.args.folder.now c.args.libs.now c.requires.apart c.args.depots.items c.loop-depot.depots.items c.pop.new.self.items c.in-Some.depot c.index-libs-place.result
          c.in-Some.ensures.items inv.first inv.fits inv.few is inv.others c.bring_back.ensures.gives;
      good = good_more c.args.folder.now c.args.libs.now c.requires.apart c.args.depots.items c.loop-depot.depots.items c.pop.new.self.items c.in-Some.depot c.index-libs-place.result
          c.in-Some.ensures.items inv.first inv.fits inv.few is g.G.S.Shelf.contents g.G.S.Shelf.faults inv.good c.bring_back.ensures.good;
      faults = raised_more _ _ _ _ inv.faults c.bring_back.ensures.faults;
    }

pub returns-clause-ok : goal.returns-clause-ok
returns-clause-ok g c =
    let none = c.in_default.ensures.cases in
    let ok = c.loop-depot.depots.ok.0 in
    let all = c.args.depots.ok.0 in
    let left : length c.loop-depot.depots.items ≡ 0 = omega (arith, none) in
    let size : length c.args.depots.items ≡ vec_len c.args.depots = omega arith in
    subst (λ (n : ℕ). AreTaken g.G.S.Shelf.contents (g.G.Ground.stands c.args.libraries.now) (g.G.Ground.stands c.loop-depot.libraries) c.args.folder.now c.args.libs.now c.args.depots.items 0 n) size
    (subst (λ (n : ℕ). AreTaken g.G.S.Shelf.contents (g.G.Ground.stands c.args.libraries.now) (g.G.Ground.stands c.loop-depot.libraries) c.args.folder.now c.args.libs.now c.args.depots.items n (length c.args.depots.items)) left
    c.loop-depot.invariant.taken)

pub returns-clause-others : goal.returns-clause-others
returns-clause-others g c =
    let none = c.in_default.ensures.cases in
    let ok = c.loop-depot.depots.ok.0 in
    let all = c.args.depots.ok.0 in
    let left : length c.loop-depot.depots.items ≡ 0 = omega (arith, none) in
    let size : length c.args.depots.items ≡ vec_len c.args.depots = omega arith in
    subst (λ (n : ℕ). UnnamedGiveNoMore (g.G.Ground.may_give c.args.libraries.now) (g.G.Ground.may_give c.loop-depot.libraries) c.args.folder.now c.args.libs.now 0 n) size
    (subst (λ (n : ℕ). UnnamedGiveNoMore (g.G.Ground.may_give c.args.libraries.now) (g.G.Ground.may_give c.loop-depot.libraries) c.args.folder.now c.args.libs.now n (length c.args.depots.items)) left
    c.loop-depot.invariant.others)

pub returns-clause-good : goal.returns-clause-good
returns-clause-good g c = λ i d below.
    let none = c.in_default.ensures.cases in
    let ok = c.loop-depot.depots.ok.0 in
    let all = c.args.depots.ok.0 in
    c.loop-depot.invariant.good i d (omega (arith, none)) (omega (arith, below))
