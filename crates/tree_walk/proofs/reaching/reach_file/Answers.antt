-- A file that is finished, one whose blocks weren't met, and one that is finished now.
use Rattle.std.proofs.Common.{◌≡◌, [], true, false, sym, ap, ◌∙◌, subst}
use Rattle.tree_walk.specs.Visits.{finished, is_done, with_key_met}
use Rattle.tree_walk.proofs.ReachingLemmas.{file_reached, file_stops}
use Rattle.tree_walk.proofs.ReadsLemmas.{other_id}
use Rattle.tree_walk.proofs.SeenLemmas.{done_already}
use Rattle.tree_walk.proofs.reaching.reach_file.Goals as goal

pub returns-then-is_done-clause-value : goal.returns-then-is_done-clause-value
returns-then-is_done-clause-value g c = λ objects told w seen none.
    done_already c.args.blocks objects 100 false [] c.args.id.now c.args.met w
    (subst (λ k. is_done c.args.met k ≡ true) c.fs_key.ensures.value (sym c.is_done.ensures.value ∙ c.if-is_done.true)) seen

pub returns-in-Err-clause-value : goal.returns-in-Err-clause-value
returns-in-Err-clause-value g c = λ objects told w seen none.
    file_stops c.args.blocks objects c.args.id.now c.in_ok-met.met c.in-Err.fault w none
    (other_id c.args.id.now c.is_nil.result c.is_nil.ensures.value c.if-is_nil.false) (c.in-Err.ensures.value objects told)

pub returns-in-Ok-finish-clause-value : goal.returns-in-Ok-finish-clause-value
returns-in-Ok-finish-clause-value g c = λ objects told w seen none.
    file_reached c.args.blocks objects c.args.id.now c.args.met c.in_ok-met.met c.in-Ok.met c.in-Ok-finish.met w seen none
    (other_id c.args.id.now c.is_nil.result c.is_nil.ensures.value c.if-is_nil.false)
    (c.in_ok-met.ensures.value ∙ ap (λ k. with_key_met k c.args.met) c.fs_key-2.ensures.value)
    (c.in-Ok.ensures.value objects told)
    (c.in-Ok-finish.ensures.value ∙ ap (λ k. finished k c.in-Ok.met) c.fs_key-3.ensures.value)
