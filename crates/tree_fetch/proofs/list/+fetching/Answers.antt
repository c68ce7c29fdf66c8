-- A list is got as it is answered, or by its halves.
use Rattle.std.proofs.Common.{◌<◌, ◌≤◌, ◌∙◌, length, sym, subst, arith, Ok}
use Rattle.std.proofs.lemmas.Bool.{eqb-true}
use Rattle.http_front.specs.declared.order.What.TheVariants as what
use Rattle.tree_fetch.specs.Asking.{GetsRows}
use Rattle.tree_fetch.specs.Levels.{KeepsRows}
use Rattle.tree_fetch.proofs.RowLemmas.{list_done, list_none, reached_first, reached_later, rows_got}
use Rattle.tree_fetch.proofs.SendLemmas.{failed_halts, fetches_some, halved, not_empty, one_of, reached_all}
use Rattle.tree_fetch.proofs.list.+fetching.Goals as goal

pub fetch_list-returns-then-is_empty-clause-value : goal.fetch_list-returns-then-is_empty-clause-value
fetch_list-returns-then-is_empty-clause-value g t c =
    λ from before f reached.
    list_none c.args.asker.now from before (g.R.Remote.sends c.args.remote.now) c.args.ids.now c.args.held.now (eqb-true _ 0 (sym c.is_empty.ensures ∙ c.if-is_empty.true)) f

pub fetch_list-returns-in-Err-clause-value : goal.fetch_list-returns-in-Err-clause-value
fetch_list-returns-in-Err-clause-value g t c =
    λ from before f reached.
    let few : length c.args.ids.now ≤ 10000 = omega arith in
    let some : 0 < length c.args.ids.now = not_empty (length c.args.ids.now) c.is_empty.result c.is_empty.ensures c.if-is_empty.false in
    failed_halts c.args.asker.now from before (g.R.Remote.sends c.args.remote.now) (g.R.Remote.sends c.ask_list.new.remote) c.args.held.now (what.GetFs c.args.ids.now) (fetches_some c.args.ids.now some) few f
    (reached_all c.args.asker.now from before (g.R.Remote.sends c.args.remote.now) c.args.held.now f c.args.ids.now reached) c.in-Err.fault
    c.in-Err.ensures.value.0 (one_of c.args.ids.now c.in-Err.fault c.in-Err.ensures.value.1)

pub fetch_list-returns-in-Some-clause-value : goal.fetch_list-returns-in-Some-clause-value
fetch_list-returns-in-Some-clause-value g t c =
    λ from before f reached.
    let few : length c.args.ids.now ≤ 10000 = omega arith in
    let got = subst (λ given. GetsRows c.args.asker.now (g.R.Remote.sends c.args.remote.now) (g.R.Remote.sends c.ask_list.new.remote) c.args.ids.now (Ok given)) c.in-Some.is c.in-Ok.ensures.value in
    let some : 0 < length c.args.ids.now = not_empty (length c.args.ids.now) c.is_empty.result c.is_empty.ensures c.if-is_empty.false in
    rows_got c.args.asker.now from before (g.R.Remote.sends c.args.remote.now) (g.R.Remote.sends c.ask_list.new.remote) c.args.ids.now c.in-Some.rows c.args.held.now c.keep_rows.new.held
    some few f reached got.0 got.1 c.keep_rows.result
    (subst (λ rows. KeepsRows rows c.args.held.now c.keep_rows.new.held c.keep_rows.result) c.slice.ensures.value c.keep_rows.ensures.value)

pub fetch_list-returns-in-None-clause-value : goal.fetch_list-returns-in-None-clause-value
fetch_list-returns-in-None-clause-value g t c =
    λ from before f reached.
    let few : length c.args.ids.now ≤ 10000 = omega arith in
    let got = subst (λ given. GetsRows c.args.asker.now (g.R.Remote.sends c.args.remote.now) (g.R.Remote.sends c.ask_list.new.remote) c.args.ids.now (Ok given)) c.in-None.is c.in-Ok.ensures.value in
    c.fetch_halves-in-None.ensures.value from before
    (halved c.args.asker.now from before (g.R.Remote.sends c.args.remote.now) (g.R.Remote.sends c.ask_list.new.remote) c.args.held.now c.args.ids.now few got.0 f reached got.1) reached

pub fetch_halves-returns-in-Err-clause-value : goal.fetch_halves-returns-in-Err-clause-value
fetch_halves-returns-in-Err-clause-value g t c =
    λ from before f reached.
    c.in-Err.ensures.value from before f
    (reached_first from c.args.held.now c.split_at.result.0.now c.split_at.result.1.now c.args.ids.now (sym c.split_at.ensures.by_index.0) reached)

pub fetch_halves-returns-clause-value : goal.fetch_halves-returns-clause-value
fetch_halves-returns-clause-value g t c =
    λ from before f reached.
    let both = sym c.split_at.ensures.by_index.0 in
    let first = c.in-Ok.ensures.value from before f
    (reached_first from c.args.held.now c.split_at.result.0.now c.split_at.result.1.now c.args.ids.now both reached) in
    list_done c.args.asker.now from before (g.R.Remote.sends c.fetch_list-2.new.remote) c.split_at.result.0.now c.split_at.result.1.now c.args.ids.now c.args.held.now c.fetch_list.new.held
    c.fetch_list-2.new.held both first.1 c.fetch_list-2.result
    (c.fetch_list-2.ensures.value from before first.0
    (reached_later from c.args.held.now c.fetch_list.new.held c.split_at.result.0.now c.split_at.result.1.now c.args.ids.now both first.1.keeps reached))
