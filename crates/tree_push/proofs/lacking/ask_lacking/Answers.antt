-- One list more was asked for.
use Rattle.std.proofs.Common.{◌≡◌, ◌∙◌, [], sym}
use Rattle.std.proofs.lemmas.Bool.{eqb-true}
use Rattle.std.proofs.lemmas.List.{nil_from_length}
use Rattle.tree_push.proofs.SentOnceLemmas.{asking_front, asking_whole}
use Rattle.tree_push.proofs.TraceLemmas.{asking_more, asking_stop}
use Rattle.tree_push.proofs.lacking.ask_lacking.Goals as goal

pub returns-in-Err-clause-value : goal.returns-in-Err-clause-value
returns-in-Err-clause-value g c =
    asking_stop c.args.library.now c.args.kind c.args.ids.now _ c.split_at.result.0.now c.split_at.result.1.now _ _ _ _ _ c.in-Err.fault c.loop-left.invariant.asking c.split_at.ensures.by_index.0
    c.in-Err.ensures.value

pub loop-left-preserved : goal.loop-left-preserved
loop-left-preserved g c = record {
  peer = c.in-Ok.ensures.stays ∙ c.loop-left.invariant.peer;
  asking = asking_more c.args.library.now c.args.kind c.args.ids.now _ c.split_at.result.0.now c.split_at.result.1.now _ _ _ _ _ _ c.loop-left.invariant.asking c.split_at.ensures.by_index.0 c.in-Ok.ensures.value;
}

pub returns-in-Err-clause-once : goal.returns-in-Err-clause-once
returns-in-Err-clause-once g c =
    asking_front c.args.library.now c.args.kind c.args.ids.now _ _ _ _ _ c.loop-left.invariant.asking c.split_at.result.0.now c.split_at.result.1.now _ c.split_at.ensures.by_index.0
    c.in-Err.ensures.once

pub returns-clause-once : goal.returns-clause-once
returns-clause-once g c =
    let none : c.loop-left.left.now ≡ [] = nil_from_length c.loop-left.left.now (eqb-true _ 0 (sym c.is_empty.ensures ∙ c.loop-left-test.false)) in
    asking_whole c.args.library.now c.args.kind c.args.ids.now _ _ _ _ _ c.loop-left.invariant.asking none
