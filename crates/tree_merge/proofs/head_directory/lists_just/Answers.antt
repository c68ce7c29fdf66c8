-- Each entry is looked for among the nodes, of which there are as many.
use Rattle.std.proofs.Common.{List, ℕ, arith, refl, sym, ◌∙◌, subst, true≢false}
use Rattle.tree_merge.specs.HeadDirectory.{StandsAs}
use Rattle.tree_merge.proofs.HeadDirectoryLemmas.{just_end, just_len, just_more, just_start, none_there, other_there}
use Rattle.tree_merge.proofs.TableLemmas.{popped_len}
use Rattle.tree_merge.proofs.head_directory.lists_just.Goals as goal

pub returns-then-entries-wanted : goal.returns-then-entries-wanted
returns-then-entries-wanted c = record {
  value = (
    (λ t. absurd (true≢false (sym t))),
    (λ just. absurd (c.if-entries-wanted.true (c.len-entries.ensures.value ∙ just_len c.args.listed c.args.nodes.now c.args.kept.now just ∙ sym c.len-wanted.ensures.value))),
  );
}

pub loop-path-init : goal.loop-path-init
loop-path-init c = just_start c.args.listed c.args.nodes.now c.args.kept.now (sym c.len-entries.ensures.value ∙ c.if-entries-wanted.false ∙ c.len-wanted.ensures.value)

pub loop-path-smaller : goal.loop-path-smaller
loop-path-smaller c =
    let one = popped_len c.loop-path.listed c.pop_last.new.self (c.in-Some.path, c.in-Some.dirent) c.in-Some.ensures.found in
    omega arith

pub loop-path-preserved : goal.loop-path-preserved
loop-path-preserved c =
    just_more c.args.listed c.args.nodes.now c.args.kept.now c.loop-path.listed c.pop_last.new.self c.loop-path.invariant c.in-Some.path c.in-Some.dirent c.in-Some.ensures.value c.in-Some.ensures.ok c.in-Some.ensures.found
    c.in-Some-get.entry.now (sym c.in-Some-get.ensures.value)
    (subst (λ (o : List ℕ). StandsAs o c.in-Some-get.entry.now c.in-Some.dirent) c.id_at-own.ensures.value (c.stands_as.ensures.value.0 c.if-not-stands_as.false))

pub returns-then-not-stands_as : goal.returns-then-not-stands_as
returns-then-not-stands_as c = record {
  value = (
    (λ t. absurd (true≢false (sym t))),
    (λ just. absurd
        (other_there c.args.listed c.args.nodes.now c.args.kept.now c.loop-path.listed c.pop_last.new.self c.loop-path.invariant c.in-Some.path c.in-Some.dirent c.in-Some.ensures.value
        c.in-Some-get.entry.now (sym c.in-Some-get.ensures.value)
        (λ stands. true≢false
        (sym (c.stands_as.ensures.value.1 (subst (λ (o : List ℕ). StandsAs o c.in-Some-get.entry.now c.in-Some.dirent) (sym c.id_at-own.ensures.value) stands)) ∙ c.if-not-stands_as.true)) just)),
  );
}

pub returns-in-None : goal.returns-in-None
returns-in-None c = record {
  value = (
    (λ t. absurd (true≢false (sym t))),
    (λ just. absurd
        (none_there c.args.listed c.args.nodes.now c.args.kept.now c.loop-path.listed c.pop_last.new.self c.loop-path.invariant c.in-Some.path c.in-Some.dirent c.in-Some.ensures.value
        (sym c.in-None.ensures.value) just)),
  );
}

pub returns : goal.returns
returns c = record {
  value = (
    (λ t. just_end c.args.listed c.args.nodes.now c.args.kept.now c.loop-path.listed c.loop-path.invariant c.in_default.ensures.absent),
    (λ just. refl),
  );
}
