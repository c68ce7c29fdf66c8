use Rattle.std.proofs.Common.{◌≡◌, ◌+◌, ◌-◌, true, sym, ap, ◌∙◌, subst, arith, drop, Ok, Err}
use Rattle.object_graph.specs.Reached.{entry_keys}
use Rattle.tree_walk.specs.Reaching.{Reaches}
use Rattle.tree_walk.specs.Steps.{entries_step}
use Rattle.tree_walk.specs.Trail.{names_of}
use Rattle.tree_walk.specs.Visits.{finished, is_done, with_key_met}
use Rattle.tree_walk.proofs.ReachingLemmas.{Comes, directory_reached, directory_stops, entries_next, entries_stop, entry_directory, entry_file, no_room}
use Rattle.tree_walk.proofs.ReadsLemmas.{other_id, read_ok, reads_done, reads_then, told_after}
use Rattle.tree_walk.proofs.SeenLemmas.{done_already}
use Rattle.tree_walk.proofs.StepsLemmas.{next_entry}
use Rattle.tree_walk.proofs.reaching.+reaching.Goals as goal

pub reach_entries-loop-entry-preserved : goal.reach_entries-loop-entry-preserved
reach_entries-loop-entry-preserved g t c = record {
  reads = reads_then _ _ c.loop-entry.invariant.reads (reads_done _ c.in-Ok.ensures.stays);
  comes = λ objects told w seen none.
      entries_next c.args.blocks objects c.args.room (names_of c.args.trail.now) c.args.entries.now (drop (c.loop-entry.entry-index + 1) c.args.entries.now) c.entry-item.result w
      c.args.met c.loop-entry.met c.in-Ok.met
      (subst (λ rest. Comes c.args.blocks objects c.args.room (names_of c.args.trail.now) c.args.entries.now rest w c.args.met c.loop-entry.met)
      (next_entry c.args.entries.now c.loop-entry.entry-index c.entry-item.result (omega arith) c.entry-item.is) (c.loop-entry.invariant.comes objects told w seen none))
      none (c.in-Ok.ensures.value objects (told_after c.loop-entry.invariant.reads told));
}

pub reach_entries-returns-in-Err-clause-value : goal.reach_entries-returns-in-Err-clause-value
reach_entries-returns-in-Err-clause-value g t c = λ objects told w seen none.
    entries_stop c.args.blocks objects c.args.room (names_of c.args.trail.now) c.args.entries.now (drop (c.loop-entry.entry-index + 1) c.args.entries.now) c.entry-item.result w
    c.args.met c.loop-entry.met c.in-Err.fault
    (subst (λ rest. Comes c.args.blocks objects c.args.room (names_of c.args.trail.now) c.args.entries.now rest w c.args.met c.loop-entry.met)
    (next_entry c.args.entries.now c.loop-entry.entry-index c.entry-item.result (omega arith) c.entry-item.is) (c.loop-entry.invariant.comes objects told w seen none))
    none (c.in-Err.ensures.value objects (told_after c.loop-entry.invariant.reads told))

pub reach_entry-returns-then-room-eq0-clause-value :
    goal.reach_entry-returns-then-room-eq0-clause-value
reach_entry-returns-then-room-eq0-clause-value g t c = λ objects told w seen none.
    absurd (no_room c.args.blocks objects c.args.room (names_of c.args.trail.now) c.args.entry.now w c.if-room-eq0.true none)

pub reach_entry-returns-then-is_directory_mode-clause-value :
    goal.reach_entry-returns-then-is_directory_mode-clause-value
reach_entry-returns-then-is_directory_mode-clause-value g t c = λ objects told.
    entry_directory c.args.blocks objects c.args.room (c.args.room - 1) (names_of c.args.trail.now) c.args.entry.now c.args.met c.reach_directory.result (omega arith)
    (sym c.is_directory_mode.ensures.value ∙ c.if-is_directory_mode.true) (c.reach_directory.ensures.value objects told)

pub reach_entry-returns-else-is_directory_mode-clause-value :
    goal.reach_entry-returns-else-is_directory_mode-clause-value
reach_entry-returns-else-is_directory_mode-clause-value g t c = λ objects told.
    entry_file c.args.blocks objects c.args.room (c.args.room - 1) (names_of c.args.trail.now) c.args.entry.now c.args.met c.reach_file.result (omega arith)
    (sym c.is_directory_mode.ensures.value ∙ c.if-is_directory_mode.false) (c.reach_file.ensures.value objects told)

pub reach_directory-returns-then-is_done-clause-value :
    goal.reach_directory-returns-then-is_done-clause-value
reach_directory-returns-then-is_done-clause-value g t c = λ objects told w seen none.
    done_already c.args.blocks objects c.args.room true (names_of c.args.trail.now) c.args.id.now c.args.met w
    (subst (λ k. is_done c.args.met k ≡ true) c.fs_key.ensures.value (sym c.is_done.ensures.value ∙ c.if-is_done.true)) seen

pub reach_directory-returns-in-Err-reach_entries-clause-value :
    goal.reach_directory-returns-in-Err-reach_entries-clause-value
reach_directory-returns-in-Err-reach_entries-clause-value g t c = λ objects told w seen none.
    directory_stops c.args.blocks objects c.args.room (names_of c.args.trail.now) c.args.id.now c.in-Dir.directory c.in-Ok-in_name_order.entries.items
    c.args.met c.in_ok-met.met c.in-Err-reach_entries.fault w seen none
    (other_id c.args.id.now c.is_nil.result c.is_nil.ensures.value c.if-is_nil.false)
    (read_ok objects _ _ (c.in-Ok.ensures.value objects told) ∙ ap Ok c.in-Dir.is)
    c.in-Ok-in_name_order.ensures.value
    (c.in_ok-met.ensures.value ∙ ap (λ k. with_key_met k c.args.met) c.fs_key-2.ensures.value)
    (subst (λ es. Reaches c.args.blocks objects (entries_step true objects c.args.room (names_of c.args.trail.now) es) (entry_keys es) c.in_ok-met.met (Err c.in-Err-reach_entries.fault))
    c.as_slice.ensures.value (c.in-Err-reach_entries.ensures.value objects (told_after c.in-Ok.ensures.stays told)))

pub reach_directory-returns-in-Ok-finish-clause-value :
    goal.reach_directory-returns-in-Ok-finish-clause-value
reach_directory-returns-in-Ok-finish-clause-value g t c = λ objects told w seen none.
    directory_reached c.args.blocks objects c.args.room (names_of c.args.trail.now) c.args.id.now c.in-Dir.directory c.in-Ok-in_name_order.entries.items
    c.args.met c.in_ok-met.met c.in-Ok-reach_entries.met c.in-Ok-finish.met w seen none
    (other_id c.args.id.now c.is_nil.result c.is_nil.ensures.value c.if-is_nil.false)
    (read_ok objects _ _ (c.in-Ok.ensures.value objects told) ∙ ap Ok c.in-Dir.is)
    c.in-Ok-in_name_order.ensures.value
    (c.in_ok-met.ensures.value ∙ ap (λ k. with_key_met k c.args.met) c.fs_key-2.ensures.value)
    (subst (λ es. Reaches c.args.blocks objects (entries_step true objects c.args.room (names_of c.args.trail.now) es) (entry_keys es) c.in_ok-met.met (Ok c.in-Ok-reach_entries.met))
    c.as_slice.ensures.value (c.in-Ok-reach_entries.ensures.value objects (told_after c.in-Ok.ensures.stays told)))
    (c.in-Ok-finish.ensures.value ∙ ap (λ k. finished k c.in-Ok-reach_entries.met) c.fs_key-3.ensures.value)
