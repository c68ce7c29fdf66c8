-- One key more is taken out; at the end all are.
use Rattle.std.proofs.Common.{◌&&◌, List, ap, arith, not, ◌∙◌}
use Rattle.std.proofs.lemmas.List.{take_all}
use Rattle.ids.specs.declared.key.Key.{Key}
use Rattle.object_graph.specs.Traversal.{is_in}
use Rattle.collector.specs.Sweeping.{is_listed}
use Rattle.collector.proofs.TakenOutLemmas.{out_next, out_none}
use Rattle.collector.proofs.marks.take_out.Goals as goal

pub loop-key-init : goal.loop-key-init
loop-key-init c = λ key. out_none c.args.candidates.now key

pub loop-key-preserved : goal.loop-key-preserved
loop-key-preserved c =
    out_next c.args.candidates.now c.loop-key.candidates c.remove.new.self c.args.keys.now c.loop-key.key-index c.key-item.result c.loop-key-test.true c.key-item.is
    c.remove.ensures.stays c.loop-key.invariant

pub returns : goal.returns
returns c = record {
  value = λ key.
      c.loop-key.invariant key
      ∙ ap (λ (keys : List Key). is_listed c.args.candidates.now key && not (is_in keys key)) (take_all c.loop-key.key-index c.args.keys.now (omega arith));
}
