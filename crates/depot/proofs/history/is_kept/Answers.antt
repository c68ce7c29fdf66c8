-- Each head update is asked for both of its commits.
use Rattle.std.proofs.Common.{◌∙◌, ◌||◌, rules, tests}
use Rattle.std.proofs.lemmas.Iterator.{YieldsList-from_slice}
use Rattle.std.proofs.lemmas.Iterator.Search.{any_from_yields_List}
use Rattle.library_state.specs.declared.history.Install.{Install}
use Rattle.object_graph.specs.Objects.{same_id}
use Rattle.depot.proofs.UpdateBaseLemmas.{any_commit}
use Rattle.depot.proofs.history.is_kept.Goals as goal

pub returns : goal.returns
returns c = record {
  value =
      any_from_yields_List (λ (i : Install). same_id c.args.id.now i.head || same_id c.args.id.now i.pushed) _ _ _ c.any.ensures.ran
      (YieldsList-from_slice c.args.kept.now cc) (λ x b q k. search (rules, tests))
      ∙ any_commit c.args.id.now c.args.kept.now;
}
