-- A directory is merged name by name, each entry over what is left below it.
use Rattle.std.proofs.Common.{◌≡◌, ◌-◌, ◌++◌, not, Bool, true, refl, sym, ap, ◌∙◌, subst, arith, Ok, rules, inl, inr}
use Rattle.tree_walk.proofs.ReadsLemmas.{reads_then, told_after, told_before}
use Rattle.tree_model.specs.Path.{PathV}
use Rattle.tree_merge.specs.DirectoryMerge.{AreSidesOf, IsMergedPart, MergesDirectory, MergesPart}
use Rattle.tree_merge.specs.LevelMerge.{MergesLevel}
use Rattle.tree_merge.specs.Opening.{AreWholeSides, IsCompleteIf, kept_if}
use Rattle.tree_merge.specs.Telling.{AnswersWell}
use Rattle.tree_merge.specs.declared.opening.Ids.{Ids}
use Rattle.tree_merge.proofs.DirectoryMergedLemmas.{directory_merged}
use Rattle.tree_merge.proofs.EntryStepLemmas.{entry_merged, whole_taken}
use Rattle.tree_merge.proofs.FirstNameLemmas.{merging_start}
use Rattle.tree_merge.proofs.LevelReadyLemmas as ready
use Rattle.tree_merge.proofs.OwnPartLemmas.{own_part}
use Rattle.tree_merge.proofs.SideLemmas.{sides_exist}
use Rattle.tree_merge.proofs.TableLemmas.{on_ok_more, on_ok_of}
use Rattle.tree_merge.proofs.TellingLemmas.{well_each, well_more}
use Rattle.tree_merge.proofs.WholeSideLemmas.{complete_part_of, directory_side}
use Rattle.tree_merge.proofs.directory_merge.+directories.Goals as goal

pub merge_directory-returns-in-Err-clause-value : goal.merge_directory-returns-in-Err-clause-value
merge_directory-returns-in-Err-clause-value g t c objects told compared whole =
    c.in-Err.ensures.value objects told
    (directory_side objects c.args.room c.args.ids.now.base whole.0) (directory_side objects c.args.room c.args.ids.now.head whole.1) (directory_side objects c.args.room c.args.ids.now.pushed whole.2)

pub merge_directory-loop-own-init : goal.merge_directory-loop-own-init
merge_directory-loop-own-init g t c = record {
  reads = search rules;
  known = λ objects told. c.requires.known objects (told_before c.in-Ok.ensures.stays told);
  told = λ objects told compared. compared;
  named = λ named. named;
  cause = λ named id there. inl there;
  merging = λ objects told compared whole.
      let of = c.in-Ok.ensures.value objects (told_before c.in-Ok.ensures.stays told)
      (directory_side objects c.args.room c.args.ids.now.base whole.0) (directory_side objects c.args.room c.args.ids.now.head whole.1) (directory_side objects c.args.room c.args.ids.now.pushed whole.2) in
      merging_start objects c.args.ids.now c.args.room whole c.args.path.now c.in-Ok.level of.1 (record { joined = c.new.result; kept = c.new-2.result }) c.new.ensures.value c.new-2.ensures.value c.args.work.now;
}

pub merge_directory-loop-own-preserved : goal.merge_directory-loop-own-preserved
merge_directory-loop-own-preserved g t c =
    let inv = c.loop-own.invariant in
    record {
      reads = reads_then tt (Ok tt) inv.reads c.in-Ok-merge_entry.ensures.stays;
      known = λ objects told. c.in-Ok-merge_entry.ensures.known objects (told_before c.in-Ok-merge_entry.ensures.stays told);
      told = λ objects told compared. c.in-Ok-merge_entry.ensures.told objects (told_after inv.reads told) (inv.told objects told compared);
      named = λ named. c.in-Ok-merge_entry.ensures.named (inv.named named);
      cause = λ named id there. elim (c.in-Ok-merge_entry.ensures.cause (inv.named named) id there) [ inl before ↦ inv.cause named id before | inr collision ↦ inr collision ];
      merging = λ objects told compared whole.
          let so = inv.merging objects told compared whole in
          let taken = c.in-Some.ensures.value in
          let entry = c.in-Ok-merge_entry.ensures.value objects (told_after inv.reads told) (inv.told objects told compared)
          (whole_taken objects c.args.path.now c.args.ids.now c.args.room whole c.loop-own.level c.next.new.level c.loop-own.opened c.args.work.now c.loop-own.work c.in-Some.own c.in-Some.trio so taken) in
          entry_merged objects c.args.path.now c.args.ids.now c.args.room whole c.loop-own.level c.next.new.level c.loop-own.opened c.args.work.now c.loop-own.work c.in-Some.own c.in-Some.trio so taken
          c.merge_entry.new.opened c.merge_entry.new.work entry.1;
    }

pub merge_directory-returns-in-Err-merge_entry-clause-value : goal.merge_directory-returns-in-Err-merge_entry-clause-value
merge_directory-returns-in-Err-merge_entry-clause-value g t c objects told compared whole =
    let inv = c.loop-own.invariant in
    let told_start = told_after c.in-Ok.ensures.stays told in
    c.in-Err-merge_entry.ensures.value objects (told_after inv.reads told_start) (inv.told objects told_start compared)
    (whole_taken objects c.args.path.now c.args.ids.now c.args.room whole c.loop-own.level c.next.new.level c.loop-own.opened c.args.work.now c.loop-own.work c.in-Some.own c.in-Some.trio
    (inv.merging objects told_start compared whole) c.in-Some.ensures.value)

pub merge_directory-returns-in-Err-merge_entry-clause-told : goal.merge_directory-returns-in-Err-merge_entry-clause-told
merge_directory-returns-in-Err-merge_entry-clause-told g t c objects told compared =
    let inv = c.loop-own.invariant in
    let told_start = told_after c.in-Ok.ensures.stays told in
    c.in-Err-merge_entry.ensures.told objects (told_after inv.reads told_start) (inv.told objects told_start compared)

-- the last step: what the entries are merged to, over what is left below them
pub merge_directory-returns-clause-value : goal.merge_directory-returns-clause-value
merge_directory-returns-clause-value g t c objects told compared whole =
    let inv = c.loop-own.invariant in
    let told_start = told_after c.in-Ok.ensures.stays told in
    let so = inv.merging objects told_start compared whole in
    let empty = c.in_default.ensures.absent in
    let sides = sides_exist objects c.args.room c.args.ids.now whole in
    well_each objects (AreSidesOf objects c.args.ids.now) (λ part s. IsMergedPart objects c.args.path.now true c.args.ids.now s c.args.work.now c.merge_level.new.work part) c.merge_level.result sides.0 sides.1
    (λ s are. well_more objects
    (MergesLevel objects c.args.path.now c.args.ids.now.head (ready.l objects c.args.path.now c.args.ids.now c.args.room whole s are c.loop-own.level c.loop-own.opened c.args.work.now c.loop-own.work so empty) c.loop-own.opened.kept c.loop-own.work c.merge_level.new.work)
    (λ part. IsMergedPart objects c.args.path.now true c.args.ids.now s c.args.work.now c.merge_level.new.work part) c.merge_level.result
    (λ part merged. directory_merged objects c.args.path.now c.args.ids.now c.args.room whole s are c.loop-own.level c.loop-own.opened c.args.work.now c.loop-own.work so empty c.merge_level.new.work part merged)
    (c.merge_level.ensures.value objects (told_after inv.reads told_start) (inv.told objects told_start compared) (directory_side objects c.args.room c.args.ids.now.head whole.1)
    (ready.whole_here objects c.args.path.now c.args.ids.now c.args.room whole s are c.loop-own.level c.loop-own.opened c.args.work.now c.loop-own.work so empty)
    (ready.few_here objects c.args.path.now c.args.ids.now c.args.room whole s are c.loop-own.level c.loop-own.opened c.args.work.now c.loop-own.work so empty)
    (ready.l objects c.args.path.now c.args.ids.now c.args.room whole s are c.loop-own.level c.loop-own.opened c.args.work.now c.loop-own.work so empty)
    (ready.own_trees objects c.args.path.now c.args.ids.now c.args.room whole s are c.loop-own.level c.loop-own.opened c.args.work.now c.loop-own.work so empty)
    (ready.seen_here objects c.args.path.now c.args.ids.now c.args.room whole s are c.loop-own.level c.loop-own.opened c.args.work.now c.loop-own.work so empty)))

pub merge_directory-returns-clause-told : goal.merge_directory-returns-clause-told
merge_directory-returns-clause-told g t c objects told compared =
    let inv = c.loop-own.invariant in
    let told_start = told_after c.in-Ok.ensures.stays told in
    c.merge_level.ensures.known objects (told_after inv.reads told_start) (inv.told objects told_start compared)

pub merge_directory-returns-clause-named : goal.merge_directory-returns-clause-named
merge_directory-returns-clause-named g t c = on_ok_more c.merge_level.result (λ more named. more (c.loop-own.invariant.named named)) c.merge_level.ensures.named

pub merge_directory-returns-clause-cause : goal.merge_directory-returns-clause-cause
merge_directory-returns-clause-cause g t c =
    let inv = c.loop-own.invariant in
    on_ok_more c.merge_level.result (λ caused named id there. elim (caused (inv.named named) id there) [ inl before ↦ inv.cause named id before | inr collision ↦ inr collision ]) c.merge_level.ensures.cause

pub merge_entry-returns-in-Ok-put_entry-clause-value : goal.merge_entry-returns-in-Ok-put_entry-clause-value
merge_entry-returns-in-Ok-put_entry-clause-value g t c objects told compared whole =
    let own = whole.below (c.args.room - 1) (omega (arith, whole.some_room)) in
    let part = c.in-Ok-merge_below.ensures.value objects told compared (subst (λ (i : Ids). AreWholeSides objects (c.args.room - 1) i) (sym c.ids_of-ids.ensures.value) own) in (
      refl,
      record {
        part = c.in-Ok-merge_below.part;
        placed = c.in-Ok-put_entry.ensures.ok;
        merges = subst (λ (i : Ids). MergesPart objects (c.args.path.now ++ c.args.own) i c.args.work.now c.merge_below.new.work c.in-Ok-merge_below.part) c.ids_of-ids.ensures.value part.1;
      },
    )

pub merge_entry-returns-in-Err-merge_below-clause-value : goal.merge_entry-returns-in-Err-merge_below-clause-value
merge_entry-returns-in-Err-merge_below-clause-value g t c objects told compared whole =
    let own = whole.below (c.args.room - 1) (omega (arith, whole.some_room)) in
    c.in-Err-merge_below.ensures.value objects told compared (subst (λ (i : Ids). AreWholeSides objects (c.args.room - 1) i) (sym c.ids_of-ids.ensures.value) own)

pub merge_below-returns-then-is_settled-clause-value : goal.merge_below-returns-then-is_settled-clause-value
merge_below-returns-then-is_settled-clause-value g t c objects told compared whole =
    let side = c.part_of-part.ensures.value in
    well_more objects (λ part. part ≡ kept_if objects c.part_of-part.result) (MergesPart objects (c.args.path.now ++ c.args.own.now) c.args.ids.now c.args.work.now c.args.work.now) c.own_part.result
    (λ part is. own_part objects (c.args.path.now ++ c.args.own.now) c.args.ids.now c.args.work.now c.args.room whole (sym c.is_settled.ensures.value ∙ c.if-is_settled.true) part (is ∙ ap (kept_if objects) side))
    (c.own_part.ensures.value objects told (subst (IsCompleteIf objects) (sym side) (complete_part_of objects c.args.room c.args.ids.now whole)))

pub merge_below-returns-then-is_settled-clause-named : goal.merge_below-returns-then-is_settled-clause-named
merge_below-returns-then-is_settled-clause-named g t c = on_ok_of c.own_part.result (λ named. named)

pub merge_below-returns-then-is_settled-clause-cause : goal.merge_below-returns-then-is_settled-clause-cause
merge_below-returns-then-is_settled-clause-cause g t c = on_ok_of c.own_part.result (λ named id there. inl there)

pub merge_below-returns-in-Ok-clause-value : goal.merge_below-returns-in-Ok-clause-value
merge_below-returns-in-Ok-clause-value g t c objects told compared whole =
    subst (λ (p : PathV). AnswersWell objects (MergesPart objects p c.args.ids.now c.args.work.now c.merge_directory.new.work) c.merge_directory.result) c.in-Ok.ensures.value
    (well_more objects (MergesDirectory objects c.in-Ok.whole c.args.ids.now c.args.work.now c.merge_directory.new.work) (MergesPart objects c.in-Ok.whole c.args.ids.now c.args.work.now c.merge_directory.new.work) c.merge_directory.result
    (λ part merges s are. subst (λ (b : Bool). IsMergedPart objects c.in-Ok.whole (not b) c.args.ids.now s c.args.work.now c.merge_directory.new.work part) (sym (sym c.is_settled.ensures.value ∙ c.if-is_settled.false)) (merges s are))
    (c.merge_directory.ensures.value objects told compared whole))
