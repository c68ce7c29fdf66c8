-- The last pass is seated over the last list; at the end all are.
use Rattle.std.proofs.Common.{◌≡◌, ◌≤◌, [], All, arith, subst, sym, Some}
use Rattle.std.specs.Prelude.{vec_capacity}
use Rattle.std.proofs.lemmas.List.Elements.{All-push}
use Rattle.turnstile.specs.PassView.{IsNewPass}
use Rattle.sync_calls.specs.Making.{IsSeated}
use Rattle.sync_calls.proofs.GatheredLemmas.{popped}
use Rattle.sync_calls.proofs.making.seat_all.Goals as goal

pub loop-exit-preserved : goal.loop-exit-preserved
loop-exit-preserved g c =
    let so = c.loop-exit.invariant in
    let same = so.0 in
    let room = so.1 in
    let sum = so.2 in
    let less = c.in-Some.ensures.len in
    let less' = c.in-Some-pop.ensures.len in
    let more = c.push_reserved.ensures.len in
    let kept = c.push_reserved.ensures.capacity in (
      omega arith,
      omega arith,
      omega arith,
      λ rooms passes exit way tables shares.
          let old = so.3 rooms passes exit way tables shares in
          let table = popped (λ table. (table.items ≡ []) × (rooms ≤ vec_capacity table)) _ _ _ c.in-Some-pop.ensures.items old.0 in
          let share = popped (IsNewPass exit (Some way) passes 0) _ _ _ c.in-Some.ensures.items old.1 in (
            table.0,
            share.0,
            subst (λ l. All (IsSeated rooms passes exit way) l) (sym c.push_reserved.ensures.items)
                (All-push (IsSeated rooms passes exit way) _ _ old.2 (record { empty = table.1.0; fits = table.1.1; exits = share.1 })),
          ),
    )

pub returns-clause-ok : goal.returns-clause-ok
returns-clause-ok g c = λ rooms passes exit way tables shares. (c.loop-exit.invariant.3 rooms passes exit way tables shares).2
