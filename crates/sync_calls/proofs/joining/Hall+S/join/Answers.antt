-- The last pass is joined with the one to its room; at the end all are.
use Rattle.std.proofs.Common.{◌≡◌, ℕ, length, refl, arith, ap, subst, sym, ◌∙◌}
use Rattle.std.specs.Prelude.{slice_index_or, slice_set}
use Rattle.turnstile.specs.PassView.{parts_of, passes_of}
use Rattle.turnstile.specs.declared.view.View.{View}
use Rattle.sync_calls.specs.Hall.{ExitOf, passes_in, rooms_of}
use Rattle.sync_calls.proofs.JoiningLemmas.{AreJoinedBehind, all_joined, first_joined, from_ready, into_ready, place_within, step_joined}
use Rattle.sync_calls.proofs.joining.Hall+S.join.Goals as goal

pub join-requires-clause-ready : goal.join-requires-clause-ready
join-requires-clause-ready g c κs within = (c.requires.ready.0.leaves, c.requires.ready.1.leaves)

pub loop-pass-init : goal.loop-pass-init
loop-pass-init g c =
    let mine = c.requires.ready.0.size in
    let its = c.requires.ready.1.size in
    let ok = c.args.into.now.passes.ok.0 in
    let ok' = c.args.from.passes.ok.0 in
    (refl, refl, first_joined g.S.Shelf.contents g.S.Shelf.may_give g.S.Shelf.texts g.S.Shelf.faults _ _ _ _ _ (omega arith))

pub index-requires : goal.index-requires
index-requires g c =
    let ok = c.pop.new.self.ok.0 in
    let here = c.len-place.ensures in
    let within = place_within g.S.Shelf.contents g.S.Shelf.may_give g.S.Shelf.texts g.S.Shelf.faults c.args.self.now c.args.into.now c.args.from c.requires.ready.0 c.requires.ready.1 _ _ _ _ _ _ c.loop-pass.invariant.2 c.in-Some.ensures.items in
    let inside = within.0 in
    omega arith

pub index_mut-requires : goal.index_mut-requires
index_mut-requires g c =
    let ok = c.pop.new.self.ok.0 in
    let ok' = c.loop-pass.into.passes.ok.0 in
    let here = c.len-place.ensures in
    let within = place_within g.S.Shelf.contents g.S.Shelf.may_give g.S.Shelf.texts g.S.Shelf.faults c.args.self.now c.args.into.now c.args.from c.requires.ready.0 c.requires.ready.1 _ _ _ _ _ _ c.loop-pass.invariant.2 c.in-Some.ensures.items in
    let inside = within.1 in
    omega arith

pub join_at-requires-clause-ready : goal.join_at-requires-clause-ready
join_at-requires-clause-ready g c =
    let ok = c.pop.new.self.ok.0 in
    let is = c.len-place.ensures in
    let here : c.len-place.result ≡ length c.pop.new.self.items = omega arith in
    into_ready g.S.Shelf.contents g.S.Shelf.may_give g.S.Shelf.texts g.S.Shelf.faults c.args.self.now c.args.into.now c.args.from c.requires.ready.0 c.requires.ready.1 _ _ _ _ _ _ c.loop-pass.invariant.2 c.in-Some.ensures.items
    c.index.result.now c.index_mut.result.now (c.index.ensures ∙ ap (λ n. slice_index_or (rooms_of c.args.self.now) n c.index.result.now) here)
    (c.index_mut.ensures.value ∙ ap (λ n. slice_index_or c.loop-pass.into.passes.items n c.index_mut.result.now) here)

pub join_at-requires-clause-second : goal.join_at-requires-clause-second
join_at-requires-clause-second g c =
    let ok = c.pop.new.self.ok.0 in
    let is = c.len-place.ensures in
    let here : c.len-place.result ≡ length c.pop.new.self.items = omega arith in
    from_ready g.S.Shelf.contents g.S.Shelf.may_give g.S.Shelf.texts g.S.Shelf.faults c.args.self.now c.args.into.now c.args.from c.requires.ready.0 c.requires.ready.1 _ _ _ _ _ _ c.loop-pass.invariant.2 c.in-Some.ensures.items
    c.index.result.now (c.index.ensures ∙ ap (λ n. slice_index_or (rooms_of c.args.self.now) n c.index.result.now) here)

pub loop-pass-preserved : goal.loop-pass-preserved
loop-pass-preserved g c =
    let ok = c.pop.new.self.ok.0 in
    let is = c.len-place.ensures in
    let here : c.len-place.result ≡ length c.pop.new.self.items = omega arith in (
      c.loop-pass.invariant.0,
      c.loop-pass.invariant.1,
      subst
          (λ n. AreJoinedBehind g.S.Shelf.contents g.S.Shelf.may_give g.S.Shelf.texts g.S.Shelf.faults (parts_of c.join.new.into) (passes_of c.join.new.into) (rooms_of c.args.self.now) (passes_in c.args.into.now)
          c.args.from.passes.items c.pop.new.self.items (slice_set c.loop-pass.into.passes.items n c.join_at.new.into)) (sym here)
          (step_joined g.S.Shelf.contents g.S.Shelf.may_give g.S.Shelf.texts g.S.Shelf.faults c.args.self.now c.args.into.now c.args.from c.requires.ready.0 c.requires.ready.1 _ _ _ _ _ _ c.loop-pass.invariant.2 c.in-Some.ensures.items
          c.index.result.now c.index_mut.result.now c.join_at.new.into (ap (λ (v : View (ExitOf g.row.S.Denot) ℕ). v.parts) c.join.ensures.view)
          (ap (λ (v : View (ExitOf g.row.S.Denot) ℕ). v.passes) c.join.ensures.view)
          (c.index.ensures ∙ ap (λ n. slice_index_or (rooms_of c.args.self.now) n c.index.result.now) here)
          (c.index_mut.ensures.value ∙ ap (λ n. slice_index_or c.loop-pass.into.passes.items n c.index_mut.result.now) here)
          c.join_at.ensures.ready c.join_at.ensures.told),
    )

pub returns-clause-ready : goal.returns-clause-ready
returns-clause-ready g c =
    let ok = c.loop-pass.passes.ok.0 in
    let none = c.in_default.ensures.cases in
    all_joined g.S.Shelf.contents g.S.Shelf.may_give g.S.Shelf.texts g.S.Shelf.faults c.args.self.now c.args.into.now c.args.from c.loop-pass.into c.join.new.into c.loop-pass.passes.items c.requires.ready.0
    c.loop-pass.invariant.2 (omega (arith, none)) c.loop-pass.invariant.0 c.join.ensures.ready (ap (λ (v : View (ExitOf g.row.S.Denot) ℕ). v.start) c.join.ensures.view)

pub returns-clause-told : goal.returns-clause-told
returns-clause-told g c =
    let ok = c.loop-pass.passes.ok.0 in
    let none = c.in_default.ensures.cases in
    let gone : length c.loop-pass.passes.items ≡ 0 = omega (arith, none) in
    (c.loop-pass.invariant.2.size, λ i d e f below. c.loop-pass.invariant.2.told i d e f (omega arith) below)

pub returns-clause-size : goal.returns-clause-size
returns-clause-size g c = (
  ap parts_of c.loop-pass.invariant.0 ∙ ap (λ (v : View (ExitOf g.row.S.Denot) ℕ). v.parts) c.join.ensures.view,
  ap passes_of c.loop-pass.invariant.0 ∙ ap (λ (v : View (ExitOf g.row.S.Denot) ℕ). v.passes) c.join.ensures.view,
)
