-- The participant at the place gets the last pass.
use Rattle.std.proofs.Common.{◌<◌, arith, refl, subst, sym, ◌∙◌}
use Rattle.std.specs.Prelude.{vec_capacity, vec_len}
use Rattle.sync_calls.specs.Hall.{PassOf}
use Rattle.sync_calls.proofs.DealtLemmas.{dealt_next}
use Rattle.sync_calls.proofs.making.deal.Goals as goal

pub push_reserved-requires : goal.push_reserved-requires
push_reserved-requires g c =
    let so = c.loop-place.invariant in
    let ok = c.args.seated.now.ok.0 in
    let is = c.len-place-end.ensures in
    let below = c.loop-place-test.true in
    subst (λ (p : PassOf g.row.S.Denot). vec_len p.passes < vec_capacity p.passes) (sym (c.index_mut.ensures.value ∙ so.2.kept c.loop-place.place c.index_mut.result.now (omega arith)))
    (c.requires.capacity c.loop-place.place c.index_mut.result.now (omega arith))

pub loop-place-preserved : goal.loop-place-preserved
loop-place-preserved g c =
    let so = c.loop-place.invariant in
    let sum = so.1 in
    let less = c.in-Some.ensures.len in
    let ok = c.args.seated.now.ok.0 in
    let is = c.len-place-end.ensures in
    let below = c.loop-place-test.true in (
      so.0,
      omega arith,
      dealt_next _ _ _ _ _ _ _ c.in-Some.pass c.index_mut.result.now _ so.2 c.in-Some.ensures.items c.index_mut.ensures.value (omega arith) refl
          c.push_reserved.ensures.items c.push_reserved.ensures.len c.push_reserved.ensures.capacity refl,
    )

pub returns-clause-ok : goal.returns-clause-ok
returns-clause-ok g c = λ i d e below.
    let ok = c.args.seated.now.ok.0 in
    let is = c.len-place-end.ensures in
    let past = c.loop-place-test.false in
    c.loop-place.invariant.2.dealt i d e (omega arith) (omega arith)
