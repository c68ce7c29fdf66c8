-- One file more is wanted, if it is new or changed.
use Rattle.std.proofs.Common.{◌≡◌, ◌∷◌, ◌∙◌, List, ap, refl, subst, sym}
use Rattle.std.specs.FinMap as fin
use Rattle.std.specs.Map.Iter.{deref_pair}
use Rattle.std.proofs.lemmas.Map.Iter.{rest_more}
use Rattle.tree_model.specs.Path.{PathV}
use Rattle.folder_side.specs.declared.scan_report.Seen.{Seen}
use Rattle.tree_push.specs.ChangedOwns.{changed_own}
use Rattle.tree_push.proofs.WantedLemmas.{IsAddingFiles, adds_if, files_end, files_more, files_start, grows_none, grows_then, has_if}
use Rattle.tree_push.proofs.wanted.add_files.Goals as goal

pub loop-path-init : goal.loop-path-init
loop-path-init c = record {
  grows = grows_none c.args.wanted.now;
  adding = λ knowns are.
      subst (λ (left : List (PathV × Seen)). IsAddingFiles knowns c.args.paths.now left c.args.wanted.now c.args.wanted.now)
      (sym (c.into_iter-path-iterator.ensures.into_iter_gives ∙ c.iter-path-items.ensures.rest)) (files_start knowns c.args.paths.now c.args.wanted.now);
}

pub loop-path-preserved : goal.loop-path-preserved
loop-path-preserved c =
    let next : c.loop-path.path-iterator ≡ (c.in-Some.path.now, c.in-Some.seen.now) ∷ c.next.new.self
    = rest_more deref_pair _ _ _ (c.in-Some.path, c.in-Some.seen) c.in-Some.is c.next.ensures.steps in
    record {
      grows = grows_then c.args.wanted.now c.loop-path.wanted c.add_seen.new.wanted c.loop-path.invariant.grows c.in-Ok.ensures.stays;
      adding = λ knowns are.
          let here : IsAddingFiles knowns c.args.paths.now ((c.in-Some.path.now, c.in-Some.seen.now) ∷ c.next.new.self) c.args.wanted.now c.loop-path.wanted
          = subst (λ (left : List (PathV × Seen)). IsAddingFiles knowns c.args.paths.now left c.args.wanted.now c.loop-path.wanted) next (c.loop-path.invariant.adding knowns are) in
          let own = c.get.ensures.value ∙ are c.in-Some.path.now ∙ ap (λ s. changed_own s (fin.get knowns c.in-Some.path.now)) here.are.0 in
          files_more knowns c.args.paths.now c.in-Some.path.now c.in-Some.seen.now (fin.get knowns c.in-Some.path.now) c.next.new.self c.args.wanted.now c.loop-path.wanted c.add_seen.new.wanted here refl
          (has_if c.add_seen.new.wanted (fin.get knowns c.in-Some.path.now) c.in-Some.seen.now _ own c.in-Ok.ensures.ok) c.in-Ok.ensures.stays
          (adds_if c.loop-path.wanted c.add_seen.new.wanted (fin.get knowns c.in-Some.path.now) c.in-Some.seen.now _ own c.in-Ok.ensures.within);
    }

pub returns : goal.returns
returns c = record {
  ok = λ knowns are.
      files_end knowns c.args.paths.now c.args.wanted.now c.loop-path.wanted
      (subst (λ (left : List (PathV × Seen)). IsAddingFiles knowns c.args.paths.now left c.args.wanted.now c.loop-path.wanted) c.in-None.ensures.steps.0 (c.loop-path.invariant.adding knowns are));
  stays = c.loop-path.invariant.grows;
  within = λ knowns are. (c.loop-path.invariant.adding knowns are).within;
}
