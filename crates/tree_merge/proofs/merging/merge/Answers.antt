-- The three roots are merged as directories; what was made is looked up at the end.
use Rattle.std.proofs.Common.{Err, ap, subst, sym}
use Rattle.tree_merge.specs.HeadDirectory.{UsesHeads}
use Rattle.tree_merge.specs.Merging.{AreLeft, IsMerged, KeepsSettled, LeavesSo}
use Rattle.tree_merge.specs.declared.merging.Merged.{Merged}
use Rattle.tree_merge.specs.declared.work.Work.{Work}
use Rattle.tree_walk.proofs.ReadsLemmas.{told_after}
use Rattle.tree_merge.proofs.MergingLemmas.{cause_from, finishes_refused, from_none, merges_all, settles, stores_refused, uses, whole_roots}
use Rattle.tree_merge.proofs.UnstoredLemmas.{named_none}
use Rattle.tree_merge.proofs.merging.merge.Goals as goal

pub returns-in-Err-clause-value : goal.returns-in-Err-clause-value
returns-in-Err-clause-value g c objects told s base head pushed =
    c.in-Err.ensures.value objects told (c.new-compared.ensures.value objects) (whole_roots objects c.args.base c.args.head c.args.pushed (c.requires.whole objects told))

-- of `finish`
pub returns-in-Err-finish-clause-value : goal.returns-in-Err-finish-clause-value
returns-in-Err-finish-clause-value g c objects told s base head pushed =
    let complete = c.requires.whole objects told in
    let merged = c.in-Ok.ensures.value objects told (c.new-compared.ensures.value objects) (whole_roots objects c.args.base c.args.head c.args.pushed complete) in
    finishes_refused objects c.args.base c.args.head c.args.pushed complete s (record { of_base = base; of_head = head; of_pushed = pushed }) c.merge_directory.new.work c.in-Ok.part
    (from_none objects c.root-root.result _ c.nothing_yet-work.result c.merge_directory.new.work c.in-Ok.part c.root-root.ensures.value c.nothing_yet-work.ensures.value merged.1)
    (c.in-Ok.ensures.named (named_none c.nothing_yet-work.result.made (ap (λ (w : Work). w.made) c.nothing_yet-work.ensures.value))) c.in-Err-finish.fault c.in-Err-finish.ensures.value

pub returns-in-Err-finish-clause-cause : goal.returns-in-Err-finish-clause-cause
returns-in-Err-finish-clause-cause g c =
    c.in-Err-finish.ensures.cause (cause_from c.nothing_yet-work.result c.merge_directory.new.work c.nothing_yet-work.ensures.value c.in-Ok.ensures.cause)

-- of `drop_stored`
pub drop_stored-requires : goal.drop_stored-requires
drop_stored-requires g c = record { named = c.in-Ok-finish.ensures.named (c.in-Ok.ensures.named (named_none c.nothing_yet-work.result.made (ap (λ (w : Work). w.made) c.nothing_yet-work.ensures.value))) }

pub returns-clause-value : goal.returns-clause-value
returns-clause-value g c objects told s base head pushed =
    let complete = c.requires.whole objects told in
    let merged = c.in-Ok.ensures.value objects told (c.new-compared.ensures.value objects) (whole_roots objects c.args.base c.args.head c.args.pushed complete) in
    let done = c.in-Ok-finish.ensures.value in
    let left = c.in-Err-drop_stored.ensures.value objects (told_after c.in-Ok.ensures.stays told) in
    stores_refused objects c.args.base c.args.head c.args.pushed complete s (record { of_base = base; of_head = head; of_pushed = pushed }) c.merge_directory.new.work c.in-Ok.part
    (from_none objects c.root-root.result _ c.nothing_yet-work.result c.merge_directory.new.work c.in-Ok.part c.root-root.ensures.value c.nothing_yet-work.ensures.value merged.1)
    done.0 (c.in-Ok.ensures.named (named_none c.nothing_yet-work.result.made (ap (λ (w : Work). w.made) c.nothing_yet-work.ensures.value))) done.1 done.2 c.in-Err-drop_stored.fault
    (subst (λ (m : Merged). LeavesSo objects m.made (Err c.in-Err-drop_stored.fault)) done.3 left)

pub returns-in-Ok-drop_stored-clause-value : goal.returns-in-Ok-drop_stored-clause-value
returns-in-Ok-drop_stored-clause-value g c objects told s base head pushed =
    let complete = c.requires.whole objects told in
    let merged = c.in-Ok.ensures.value objects told (c.new-compared.ensures.value objects) (whole_roots objects c.args.base c.args.head c.args.pushed complete) in
    let done = c.in-Ok-finish.ensures.value in
    let left = c.in-Ok-drop_stored.ensures.value objects (told_after c.in-Ok.ensures.stays told) in
    subst (λ (m : Merged). IsMerged objects s (record m { made = c.in-Ok-drop_stored.made })) (sym done.3)
    (merges_all objects c.args.base c.args.head c.args.pushed complete s (record { of_base = base; of_head = head; of_pushed = pushed }) c.merge_directory.new.work c.in-Ok.part
    (from_none objects c.root-root.result _ c.nothing_yet-work.result c.merge_directory.new.work c.in-Ok.part c.root-root.ensures.value c.nothing_yet-work.ensures.value merged.1)
    done.0 (c.in-Ok.ensures.named (named_none c.nothing_yet-work.result.made (ap (λ (w : Work). w.made) c.nothing_yet-work.ensures.value))) done.1 done.2 c.in-Ok-drop_stored.made
    (subst (λ (m : Merged). AreLeft objects m.made c.in-Ok-drop_stored.made) done.3 left))

pub returns-in-Ok-drop_stored-clause-same : goal.returns-in-Ok-drop_stored-clause-same
returns-in-Ok-drop_stored-clause-same g c objects told =
    let complete = c.requires.whole objects told in
    let merged = c.in-Ok.ensures.value objects told (c.new-compared.ensures.value objects) (whole_roots objects c.args.base c.args.head c.args.pushed complete) in
    let done = c.in-Ok-finish.ensures.value in
    let left = c.in-Ok-drop_stored.ensures.value objects (told_after c.in-Ok.ensures.stays told) in
    subst (λ (m : Merged). KeepsSettled objects c.args.base c.args.head c.args.pushed (record m { made = c.in-Ok-drop_stored.made })) (sym done.3)
    (settles objects c.args.base c.args.head c.args.pushed complete c.merge_directory.new.work c.in-Ok.part
    (from_none objects c.root-root.result _ c.nothing_yet-work.result c.merge_directory.new.work c.in-Ok.part c.root-root.ensures.value c.nothing_yet-work.ensures.value merged.1)
    done.0 (c.in-Ok.ensures.named (named_none c.nothing_yet-work.result.made (ap (λ (w : Work). w.made) c.nothing_yet-work.ensures.value))) done.1 done.2 c.in-Ok-drop_stored.made
    (subst (λ (m : Merged). AreLeft objects m.made c.in-Ok-drop_stored.made) done.3 left))

pub returns-in-Ok-drop_stored-clause-heads : goal.returns-in-Ok-drop_stored-clause-heads
returns-in-Ok-drop_stored-clause-heads g c objects told =
    let complete = c.requires.whole objects told in
    let merged = c.in-Ok.ensures.value objects told (c.new-compared.ensures.value objects) (whole_roots objects c.args.base c.args.head c.args.pushed complete) in
    let done = c.in-Ok-finish.ensures.value in
    let left = c.in-Ok-drop_stored.ensures.value objects (told_after c.in-Ok.ensures.stays told) in
    subst (λ (m : Merged). UsesHeads objects c.args.head (record m { made = c.in-Ok-drop_stored.made })) (sym done.3)
    (uses objects c.args.base c.args.head c.args.pushed complete c.merge_directory.new.work c.in-Ok.part
    (from_none objects c.root-root.result _ c.nothing_yet-work.result c.merge_directory.new.work c.in-Ok.part c.root-root.ensures.value c.nothing_yet-work.ensures.value merged.1)
    done.0 (c.in-Ok.ensures.named (named_none c.nothing_yet-work.result.made (ap (λ (w : Work). w.made) c.nothing_yet-work.ensures.value))) done.1 done.2 c.in-Ok-drop_stored.made
    (subst (λ (m : Merged). AreLeft objects m.made c.in-Ok-drop_stored.made) done.3 left))
