-- The entries of three directories are decided and named as three trees, and their directory is made.
use Rattle.std.proofs.Common.{arith, inl, sym, subst, ◌∙◌, Err}
use Rattle.tree_walk.proofs.ReadsLemmas.{told_after}
use Rattle.tree_merge.specs.ConflictNaming.{IsNamed}
use Rattle.tree_merge.specs.LevelMerge.{MakesNamed, MergesLevel, RefusesName}
use Rattle.tree_merge.specs.TreeBuilding.{AreNamed}
use Rattle.tree_merge.proofs.LevelMergeLemmas.{level_merged, level_refused}
use Rattle.tree_merge.proofs.MadeLemmas.{kept_itself}
use Rattle.tree_merge.proofs.TableLemmas.{on_ok_more}
use Rattle.tree_merge.proofs.TellingLemmas.{well_both, well_more}
use Rattle.std.specs.Prelude.{◌≡◌, Option, is_some, true}
use Rattle.tree_merge.specs.declared.conflict_copies.CopyFault.{CopyFault}
use Rattle.tree_merge.specs.declared.opening.Kept.{Kept}
use Rattle.tree_merge.proofs.level_merge.merge_entries.Goals as goal

pub name_leavers-requires : goal.name_leavers-requires
name_leavers-requires g c =
    let few = c.if-paths.false in
    let size = c.len-paths.ensures.value in
    let known = c.in-Ok.ensures.few in
    let leavers = c.in-Ok.ensures.bound in
    record { some = c.in-Ok.ensures.root c.requires.root; fits = omega (arith, few, size, known, leavers) }

pub returns-then-paths-clause-value : goal.returns-then-paths-clause-value
returns-then-paths-clause-value g c objects told compared directory whole few level trees seen =
    let many = c.if-paths.true in
    let size = c.len-paths.ensures.value in
    absurd (omega (arith, few, many, size))

pub returns-in-Err-clause-value : goal.returns-in-Err-clause-value
returns-in-Err-clause-value g c objects told compared directory whole few level trees seen =
    c.in-Err.ensures.value objects told compared objects (kept_itself objects) whole level trees (seen objects (kept_itself objects))

pub returns-in-Ok-name_leavers-clause-value : goal.returns-in-Ok-name_leavers-clause-value
returns-in-Ok-name_leavers-clause-value g c objects told compared directory whole few level trees seen =
    well_more objects (MakesNamed objects c.args.path.now c.args.head.now c.in-Ok-name_leavers.named c.args.kept.now c.args.work.now c.merge_named.new.work)
    (MergesLevel objects c.args.path.now c.args.head.now level c.args.kept.now c.args.work.now c.merge_named.new.work) c.merge_named.result
    (λ part makes. level_merged objects c.args.path.now c.args.head.now level trees c.args.kept.now c.args.work.now c.merge_named.new.work c.in-Ok-name_leavers.named
    (λ more keeps. c.in-Ok-name_leavers.ensures.value more level trees (c.in-Ok.ensures.value objects told compared more keeps whole level trees (seen more keeps)).1)
    (c.in-Ok-name_leavers.ensures.whole objects (c.in-Ok.ensures.whole objects whole)) part makes)
    (c.merge_named.ensures.value objects (told_after c.in-Ok.ensures.stays told) directory)

pub returns-in-Err-TooLong-clause-value : goal.returns-in-Err-TooLong-clause-value
returns-in-Err-TooLong-clause-value g c objects told compared directory whole few level trees seen =
    well_both objects (MergesLevel objects c.args.path.now c.args.head.now level c.args.kept.now c.args.work.now c.refuse_name.new.work) (λ (part : Option Kept). is_some part ≡ true)
    (RefusesName c.args.path.now c.in-Err-TooLong.own c.in-Err-TooLong.bytes c.args.work.now c.refuse_name.new.work) c.refuse_name.result c.refuse_name.ensures.memory
    (λ part some refused. level_refused objects c.args.path.now c.args.head.now level trees c.args.kept.now c.args.work.now c.refuse_name.new.work c.in-Err-TooLong.own c.in-Err-TooLong.bytes
    (subst (λ (f : CopyFault). IsNamed objects level (Err f)) c.in-Err-TooLong.field-0-is
    (c.in-Err-TooLong.ensures.value objects level trees (c.in-Ok.ensures.value objects told compared objects (kept_itself objects) whole level trees (seen objects (kept_itself objects))).1)) refused part some)
    c.refuse_name.ensures.told c.refuse_name.ensures.ok

pub returns-in-Err-TooLong-clause-named : goal.returns-in-Err-TooLong-clause-named
returns-in-Err-TooLong-clause-named g c = on_ok_more c.refuse_name.result (λ refused named. subst AreNamed (sym refused.made) named) c.refuse_name.ensures.ok

pub returns-in-Err-TooLong-clause-cause : goal.returns-in-Err-TooLong-clause-cause
returns-in-Err-TooLong-clause-cause g c = on_ok_more c.refuse_name.result (λ refused named id is. inl (sym refused.stop ∙ is)) c.refuse_name.ensures.ok
