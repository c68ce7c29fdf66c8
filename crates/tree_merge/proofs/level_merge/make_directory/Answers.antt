-- A directory is made unless the merge is refused already.
use Rattle.std.proofs.Common.{arith, sym, ◌∙◌, ap, Err}
use Rattle.tree_merge.proofs.CausedLemmas.{built_caused, refused_caused, refused_named}
use Rattle.tree_merge.proofs.LevelMadeLemmas.{made_added, made_many, made_refused, made_stopped}
use Rattle.tree_merge.proofs.TableLemmas.{if_ok_more, on_ok_if}
use Rattle.tree_merge.proofs.level_merge.make_directory.Goals as goal

pub returns-then-is_refused-clause-ok : goal.returns-then-is_refused-clause-ok
returns-then-is_refused-clause-ok c = made_stopped c.args.nodes c.args.kept.now c.args.paths c.args.work.now _ (sym c.is_refused.ensures.value ∙ c.if-is_refused.true)

-- it has too many paths
pub returns-then-paths-clause-ok : goal.returns-then-paths-clause-ok
returns-then-paths-clause-ok c =
    let many = c.if-paths.true in
    made_many c.args.nodes c.args.kept.now c.args.paths c.args.work.now _ (omega (arith, many)) (sym c.is_refused.ensures.value ∙ c.if-is_refused.false)

pub returns-then-paths-clause-cause : goal.returns-then-paths-clause-cause
returns-then-paths-clause-cause c named id is = cc is

pub returns-in-Ok-clause-ok : goal.returns-in-Ok-clause-ok
returns-in-Ok-clause-ok c =
    let few = c.if-paths.false in
    if_ok_more c.add_directory.result
    (λ id adds. made_added c.args.nodes c.args.kept.now c.args.paths c.args.work.now c.in-Ok.built c.in-Ok.ensures.stays c.in-Ok.ensures.value c.in-Ok.ensures.needed c.in-Ok.ensures.ids c.in-Ok.ensures.dirs c.in-Ok.ensures.zeros
    c.add_directory.new.work id (omega (arith, few)) (sym c.is_refused.ensures.value ∙ c.if-is_refused.false) adds)
    c.add_directory.ensures.ok

pub returns-in-Err-clause-ok : goal.returns-in-Err-clause-ok
returns-in-Err-clause-ok c =
    if_ok_more c.refuse_directory.result
    (λ id refused. made_refused c.args.nodes c.args.kept.now c.args.paths c.args.work.now c.refuse_directory.new.work c.in-Err.fault id (sym c.is_refused.ensures.value ∙ c.if-is_refused.false) refused
    (λ i is given whole shown. c.in-Err.ensures.taken i (ap Err is) given whole shown))
    c.refuse_directory.ensures.ok

pub returns-in-Err-clause-named : goal.returns-in-Err-clause-named
returns-in-Err-clause-named c = on_ok_if c.refuse_directory.result (λ id refused. refused_named c.in-Err.fault c.args.work.now c.refuse_directory.new.work refused) c.refuse_directory.ensures.ok

pub returns-in-Err-clause-cause : goal.returns-in-Err-clause-cause
returns-in-Err-clause-cause c =
    on_ok_if c.refuse_directory.result
    (λ id refused. refused_caused c.in-Err.fault c.args.work.now c.refuse_directory.new.work refused (λ named. built_caused c.in-Err.fault c.in-Err.ensures.cause)) c.refuse_directory.ensures.ok
