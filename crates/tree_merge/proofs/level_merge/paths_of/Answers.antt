-- The next directory's paths are counted.
use Rattle.std.proofs.Common.{◌≡◌, ◌∙◌, ◌∷◌, List, subst, sym}
use Rattle.std.specs.FinMap as map
use Rattle.std.specs.Map.Iter.{deref_pair}
use Rattle.std.proofs.lemmas.Map.Iter.{rest_more}
use Rattle.tree_merge.proofs.KeptPathLemmas.{CountsSo, KeptEntry, count_end, count_more, count_start}
use Rattle.tree_merge.proofs.level_merge.paths_of.Goals as goal

pub loop-own-init : goal.loop-own-init
loop-own-init c =
    subst (λ (left : List KeptEntry). CountsSo (map.entries c.args.kept.now) left 0) (sym (c.into_iter-own-iterator.ensures.into_iter_gives ∙ c.iter-own-items.ensures.rest))
    (count_start (map.entries c.args.kept.now))

pub loop-own-preserved : goal.loop-own-preserved
loop-own-preserved c =
    let next : c.loop-own.own-iterator ≡ (c.in-Some.field-0-0.now, c.in-Some.own.now) ∷ c.next.new.self
    = rest_more deref_pair _ _ _ (c.in-Some.field-0-0, c.in-Some.own) c.in-Some.is c.next.ensures.steps in
    count_more (map.entries c.args.kept.now) c.next.new.self (c.in-Some.field-0-0.now, c.in-Some.own.now) c.loop-own.paths c.saturating_add-paths.result
    (subst (λ (left : List KeptEntry). CountsSo (map.entries c.args.kept.now) left c.loop-own.paths) next c.loop-own.invariant) c.saturating_add-paths.ensures

pub returns : goal.returns
returns c = record {
  value = count_end (map.entries c.args.kept.now) c.loop-own.paths
      (subst (λ (left : List KeptEntry). CountsSo (map.entries c.args.kept.now) left c.loop-own.paths) c.in-None.ensures.steps.0 c.loop-own.invariant);
}
