use Rattle.std.proofs.Common.{◌≢◌, ◌<◌, [], ap, arith, length, sym, ◌∙◌, ◌||◌}
use Rattle.tree_model.specs.DirectorySurvival.{is_under}
use Rattle.tree_model.specs.Path.{PathV}
use Rattle.tree_checkout.specs.Hindrances.{has}
use Rattle.tree_checkout.proofs.HindrancesLemmas.{above_under, known_under, none_added, none_names, on_ok_more, parent_shorter, put_under, some_names}
use Rattle.tree_checkout.proofs.hindrances.+add_above.Goals as goal

pub returns-then-is_empty-clause-ok : goal.returns-then-is_empty-clause-ok
returns-then-is_empty-clause-ok t c = λ q.
    none_added c.args.table.now q
    ∙ ap (λ (p : PathV). has c.args.table.now q || is_under q p)
    (sym (none_names c.args.path.now c.names.result.now c.is_empty.result c.is_empty.ensures c.if-is_empty.true c.names.ensures.value))

pub returns-then-has-clause-ok : goal.returns-then-has-clause-ok
returns-then-has-clause-ok t c =
    let some : c.args.path.now ≢ [] = some_names c.args.path.now c.names.result.now c.is_empty.result c.is_empty.ensures c.if-is_empty.false c.names.ensures.value in
    known_under c.args.table.now c.requires.whole c.args.path.now c.in_ok-dir.dir some c.in_ok-dir.ensures.value (sym c.has.ensures.value ∙ c.if-has.true)

pub add_above-requires : goal.add_above-requires
add_above-requires t c =
    let some : c.args.path.now ≢ [] = some_names c.args.path.now c.names.result.now c.is_empty.result c.is_empty.ensures c.if-is_empty.false c.names.ensures.value in
    let shorter : length c.in_ok-dir.dir < length c.args.path.now = parent_shorter c.args.path.now c.in_ok-dir.dir some c.in_ok-dir.ensures.value in
    let falls = c.decreases in
    let below : length c.in_ok-dir.dir < t = omega arith in
    (below, c.requires.whole)

pub returns-clause-ok : goal.returns-clause-ok
returns-clause-ok t c =
    let some : c.args.path.now ≢ [] = some_names c.args.path.now c.names.result.now c.is_empty.result c.is_empty.ensures c.if-is_empty.false c.names.ensures.value in
    on_ok_more c.put.result
    (put_under c.args.table.now c.add_above.new.table c.put.new.table c.args.path.now c.in_ok-dir.dir some c.in_ok-dir.ensures.value c.in_ok-add_above.ensures.ok)
    c.put.ensures.ok

pub returns-clause-whole : goal.returns-clause-whole
returns-clause-whole t c =
    let some : c.args.path.now ≢ [] = some_names c.args.path.now c.names.result.now c.is_empty.result c.is_empty.ensures c.if-is_empty.false c.names.ensures.value in
    on_ok_more c.put.result
    (λ put. above_under c.args.table.now c.put.new.table c.requires.whole c.args.path.now
    (put_under c.args.table.now c.add_above.new.table c.put.new.table c.args.path.now c.in_ok-dir.dir some c.in_ok-dir.ensures.value c.in_ok-add_above.ensures.ok put))
    c.put.ensures.ok
