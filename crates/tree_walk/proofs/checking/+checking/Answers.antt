use Rattle.std.proofs.Common.{◌+◌, ◌-◌, true, refl, sym, ap, ◌∙◌, subst, arith, drop, Ok, Err}
use Rattle.tree_walk.specs.Checking.{Measures}
use Rattle.tree_walk.specs.Steps.{entries_step}
use Rattle.tree_walk.specs.Listings.{listed_from}
use Rattle.tree_walk.specs.Trail.{names_of}
use Rattle.tree_walk.proofs.CheckingLemmas.{Counts, counted, counts_end, has_counted, within_next, counts_next, counts_stop, directory_counted, directory_nil, entry_bad, entry_counted, entry_deep, entry_stops, entry_whole}
use Rattle.tree_walk.proofs.ExtentLemmas.{becomes_known, stands_known}
use Rattle.tree_walk.proofs.KnownTreesLemmas.{learned, right_directory}
use Rattle.tree_walk.proofs.ReadsLemmas.{nothing_left, other_id, read_ok, reads_done, reads_then, told_after, told_before}
use Rattle.tree_walk.proofs.StepsLemmas.{next_entry, step_unread}
use Rattle.tree_walk.proofs.checking.+checking.Goals as goal

pub check_directory-returns-then-is_nil-clause-value : goal.check_directory-returns-then-is_nil-clause-value
check_directory-returns-then-is_nil-clause-value g t c = λ objects told.
    directory_nil objects c.args.room c.args.paths (names_of c.args.trail.now) c.args.id.now _ (c.is_nil.ensures.value.0 c.if-is_nil.true) refl

pub check_directory-returns-in-Some-clause-value : goal.check_directory-returns-in-Some-clause-value
check_directory-returns-in-Some-clause-value g t c = λ objects told.
    stands_known objects c.args.room c.args.paths (names_of c.args.trail.now) c.args.id.now c.in-Some.extent
    (right_directory objects c.args.known.now c.args.id.now c.in-Some.extent (c.requires.known objects told) c.in-Some.ensures.value) c.in-Some.ensures.bound

pub check_directory-returns-in-Err-clause-value : goal.check_directory-returns-in-Err-clause-value
check_directory-returns-in-Err-clause-value g t c = λ objects told.
    λ w has. step_unread true objects c.args.room (names_of c.args.trail.now) c.args.id.now w c.in-Err.fault
    (other_id c.args.id.now c.is_nil.result c.is_nil.ensures.value c.if-is_nil.false) (c.in-Err.ensures.value objects told)

pub check_directory-returns-clause-value :
    goal.check_directory-returns-clause-value
check_directory-returns-clause-value g t c = λ objects told.
    directory_counted objects c.args.room c.args.paths (names_of c.args.trail.now) c.args.id.now c.in-Dir.directory c.in-Ok-in_name_order.entries.items (Ok c.in-Ok-check_entries.extent)
    (other_id c.args.id.now c.is_nil.result c.is_nil.ensures.value c.if-is_nil.false)
    (read_ok objects _ _ (c.in-Ok.ensures.value objects told) ∙ ap Ok c.in-Dir.is)
    c.in-Ok-in_name_order.ensures.value
    (subst (λ es. Measures objects (entries_step true objects c.args.room (names_of c.args.trail.now) es) c.args.paths (listed_from objects c.args.room es) (Ok c.in-Ok-check_entries.extent))
    c.as_slice.ensures.value (c.in-Ok-check_entries.ensures.value objects (told_after c.in-Ok.ensures.stays told)))

pub check_directory-returns-in-Err-check_entries-clause-value :
    goal.check_directory-returns-in-Err-check_entries-clause-value
check_directory-returns-in-Err-check_entries-clause-value g t c = λ objects told.
    directory_counted objects c.args.room c.args.paths (names_of c.args.trail.now) c.args.id.now c.in-Dir.directory c.in-Ok-in_name_order.entries.items (Err c.in-Err-check_entries.fault)
    (other_id c.args.id.now c.is_nil.result c.is_nil.ensures.value c.if-is_nil.false)
    (read_ok objects _ _ (c.in-Ok.ensures.value objects told) ∙ ap Ok c.in-Dir.is)
    c.in-Ok-in_name_order.ensures.value
    (subst (λ es. Measures objects (entries_step true objects c.args.room (names_of c.args.trail.now) es) c.args.paths (listed_from objects c.args.room es) (Err c.in-Err-check_entries.fault))
    c.as_slice.ensures.value (c.in-Err-check_entries.ensures.value objects (told_after c.in-Ok.ensures.stays told)))

pub check_directory-returns-clause-known :
    goal.check_directory-returns-clause-known
check_directory-returns-clause-known g t c = λ objects told.
    learned objects c.check_entries.new.known c.learn.new.self c.args.id.now c.in-Ok-check_entries.extent
    (c.in-Ok-check_entries.ensures.known objects (told_after c.in-Ok.ensures.stays told))
    (becomes_known objects c.args.room c.args.paths (names_of c.args.trail.now) c.args.id.now c.in-Ok-check_entries.extent c.requires.room c.in-Ok-check_entries.ensures.bound
    (counted c.args.paths) (check_directory-returns-clause-value g t c objects told (counted c.args.paths) (has_counted c.args.paths)))
    c.learn.ensures.value

pub check_entries-loop-entry-preserved : goal.check_entries-loop-entry-preserved
check_entries-loop-entry-preserved g t c = record {
  reads = reads_then _ _ c.loop-entry.invariant.reads (reads_done _ c.in-Ok.ensures.stays);
  known = λ objects told. c.in-Ok.ensures.known objects (told_before c.in-Ok.ensures.stays told);
  within = within_next c.args.room c.args.paths c.loop-entry.extent c.in-Ok.more _ c.loop-entry.invariant.within c.in-Ok.ensures.bound c.joined-extent.ensures.value;
  counts = λ objects told.
      counts_next objects c.args.room c.args.paths (names_of c.args.trail.now) c.args.entries.now (drop (c.loop-entry.entry-index + 1) c.args.entries.now) c.entry-item.result
      c.loop-entry.extent c.in-Ok.more _
      (subst (λ rest. Counts objects c.args.room c.args.paths (names_of c.args.trail.now) c.args.entries.now rest c.loop-entry.extent)
      (next_entry c.args.entries.now c.loop-entry.entry-index c.entry-item.result (omega arith) c.entry-item.is)
      (c.loop-entry.invariant.counts objects told))
      (c.in-Ok.ensures.value objects (told_after c.loop-entry.invariant.reads told)) c.joined-extent.ensures.value;
}

pub check_entries-returns-in-Err-clause-value : goal.check_entries-returns-in-Err-clause-value
check_entries-returns-in-Err-clause-value g t c = λ objects told.
    counts_stop objects c.args.room c.args.paths (names_of c.args.trail.now) c.args.entries.now (drop (c.loop-entry.entry-index + 1) c.args.entries.now) c.entry-item.result
    c.loop-entry.extent c.in-Err.fault
    (subst (λ rest. Counts objects c.args.room c.args.paths (names_of c.args.trail.now) c.args.entries.now rest c.loop-entry.extent)
    (next_entry c.args.entries.now c.loop-entry.entry-index c.entry-item.result (omega arith) c.entry-item.is)
    (c.loop-entry.invariant.counts objects told))
    (c.in-Err.ensures.value objects (told_after c.loop-entry.invariant.reads told))

pub check_entries-returns-clause-value : goal.check_entries-returns-clause-value
check_entries-returns-clause-value g t c = λ objects told.
    counts_end objects c.args.room c.args.paths (names_of c.args.trail.now) c.args.entries.now c.loop-entry.extent
    (subst (λ rest. Counts objects c.args.room c.args.paths (names_of c.args.trail.now) c.args.entries.now rest c.loop-entry.extent)
    (nothing_left c.args.entries.now c.loop-entry.entry-index (omega arith)) (c.loop-entry.invariant.counts objects told))

pub check_entry-returns-then-room-eq0-clause-value : goal.check_entry-returns-then-room-eq0-clause-value
check_entry-returns-then-room-eq0-clause-value g t c = λ objects told.
    entry_deep objects c.args.room c.args.paths (names_of c.args.trail.now) _ c.args.entry.now c.if-room-eq0.true c.in_ok-path_of.ensures.value (omega arith)

pub check_entry-returns-in-Ok-clause-value : goal.check_entry-returns-in-Ok-clause-value
check_entry-returns-in-Ok-clause-value g t c = λ objects told.
    entry_counted objects c.args.room (c.args.room - 1) c.args.paths (names_of c.args.trail.now) c.args.entry.now c.in-Ok.extent _
    (omega arith) (omega arith) (sym c.is_directory_mode.ensures.value ∙ c.if-is_directory_mode.true) c.with_entry.ensures.value
    (c.in-Ok.ensures.value objects told)

pub check_entry-returns-in-Err-clause-value : goal.check_entry-returns-in-Err-clause-value
check_entry-returns-in-Err-clause-value g t c = λ objects told.
    entry_stops objects c.args.room (c.args.room - 1) c.args.paths (names_of c.args.trail.now) c.args.entry.now c.in-Err.fault
    (omega arith) (omega arith) (sym c.is_directory_mode.ensures.value ∙ c.if-is_directory_mode.true)
    (c.in-Err.ensures.value objects told)

pub check_entry-returns-in-Ok-check_file-clause-value : goal.check_entry-returns-in-Ok-check_file-clause-value
check_entry-returns-in-Ok-check_file-clause-value g t c = λ objects told.
    entry_whole objects c.args.room (c.args.room - 1) c.args.paths (names_of c.args.trail.now) c.args.entry.now _
    (omega arith) (omega arith) (sym c.is_directory_mode.ensures.value ∙ c.if-is_directory_mode.false) refl
    (c.in-Ok-check_file.ensures.value objects told).0

pub check_entry-returns-in-Err-check_file-clause-value : goal.check_entry-returns-in-Err-check_file-clause-value
check_entry-returns-in-Err-check_file-clause-value g t c = λ objects told.
    entry_bad objects c.args.room (c.args.room - 1) c.args.paths (names_of c.args.trail.now) c.args.entry.now c.in-Err-check_file.fault
    (omega arith) (omega arith) (sym c.is_directory_mode.ensures.value ∙ c.if-is_directory_mode.false)
    (c.in-Err-check_file.ensures.value objects told)
