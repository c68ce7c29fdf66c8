-- Each step gives what the traversal gives.
use Rattle.std.proofs.Common.{◌≡◌, ◌<◌, ◌+◌, ◌-◌, suc, false, length, sym, ap, ◌∙◌, subst, arith, drop, Ok}
use Rattle.tree_walk.specs.Listings.{listed_from, Lists}
use Rattle.tree_walk.specs.Steps.{entries_step}
use Rattle.tree_walk.proofs.ListingLemmas.{nil_directory, directory_unread, directory_entries, entry_directory, entry_file, entry_bad_file, entry_too_deep, goes_end, goes_next, goes_stop, GoesOn}
use Rattle.tree_walk.proofs.ReadsLemmas.{nothing_left, other_id, read_ok, reads_then, told_after}
use Rattle.tree_walk.proofs.StepsLemmas.{next_entry}
use Rattle.tree_walk.proofs.listing.+listing.Goals as goal

pub list_directory-returns-then-is_nil-clause-value :
    goal.list_directory-returns-then-is_nil-clause-value
list_directory-returns-then-is_nil-clause-value g t c = λ objects told.
    nil_directory objects c.args.room c.args.path.now c.args.id.now c.args.found.now (c.is_nil.ensures.value.0 c.if-is_nil.true)

pub list_directory-returns-in-Err-clause-value : goal.list_directory-returns-in-Err-clause-value
list_directory-returns-in-Err-clause-value g t c = λ objects told.
    directory_unread objects c.args.room c.args.path.now c.args.id.now c.args.found.now c.in-Err.fault
    (other_id c.args.id.now c.is_nil.result c.is_nil.ensures.value c.if-is_nil.false) (c.in-Err.ensures.value objects told)

pub list_directory-returns-in-Ok-in_name_order-clause-value :
    goal.list_directory-returns-in-Ok-in_name_order-clause-value
list_directory-returns-in-Ok-in_name_order-clause-value g t c = λ objects told.
    directory_entries objects c.args.room c.args.path.now c.args.id.now c.in-Dir.directory c.in-Ok-in_name_order.entries.items c.args.found.now c.list_entries.new.found c.list_entries.result
    (other_id c.args.id.now c.is_nil.result c.is_nil.ensures.value c.if-is_nil.false)
    (read_ok objects _ _ (c.in-Ok.ensures.value objects told) ∙ ap Ok c.in-Dir.is)
    c.in-Ok-in_name_order.ensures.value
    (subst (λ es. Lists objects (entries_step false objects c.args.room c.args.path.now es) c.args.path.now (listed_from objects c.args.room es) c.args.found.now c.list_entries.new.found c.list_entries.result)
    c.as_slice.ensures.value (c.list_entries.ensures.value objects (told_after c.in-Ok.ensures.stays told)))

pub list_entries-loop-entry-preserved : goal.list_entries-loop-entry-preserved
list_entries-loop-entry-preserved g t c = record {
  reads = reads_then _ _ c.loop-entry.invariant.reads c.in-Ok.ensures.stays;
  goes = λ objects told.
      goes_next objects c.args.room c.args.path.now c.args.entries.now (drop (c.loop-entry.entry-index + 1) c.args.entries.now) c.entry-item.result
      c.args.found.now c.loop-entry.found c.list_entry.new.found
      (subst (λ rest. GoesOn objects c.args.room c.args.path.now c.args.entries.now rest c.args.found.now c.loop-entry.found)
      (next_entry c.args.entries.now c.loop-entry.entry-index c.entry-item.result (omega arith) c.entry-item.is)
      (c.loop-entry.invariant.goes objects told))
      (c.in-Ok.ensures.value objects (told_after c.loop-entry.invariant.reads told));
}

pub list_entries-returns-in-Err-clause-value : goal.list_entries-returns-in-Err-clause-value
list_entries-returns-in-Err-clause-value g t c = λ objects told.
    goes_stop objects c.args.room c.args.path.now c.args.entries.now (drop (c.loop-entry.entry-index + 1) c.args.entries.now) c.entry-item.result
    c.args.found.now c.loop-entry.found
    (subst (λ rest. GoesOn objects c.args.room c.args.path.now c.args.entries.now rest c.args.found.now c.loop-entry.found)
    (next_entry c.args.entries.now c.loop-entry.entry-index c.entry-item.result (omega arith) c.entry-item.is)
    (c.loop-entry.invariant.goes objects told))
    c.in-Err.fault (c.in-Err.ensures.value objects (told_after c.loop-entry.invariant.reads told))

pub list_entries-returns-clause-value : goal.list_entries-returns-clause-value
list_entries-returns-clause-value g t c = λ objects told.
    goes_end objects c.args.room c.args.path.now c.args.entries.now c.args.found.now c.loop-entry.found
    (subst (λ rest. GoesOn objects c.args.room c.args.path.now c.args.entries.now rest c.args.found.now c.loop-entry.found)
    (nothing_left c.args.entries.now c.loop-entry.entry-index (omega arith)) (c.loop-entry.invariant.goes objects told))

pub list_entry-returns-then-room-eq0-clause-value :
    goal.list_entry-returns-then-room-eq0-clause-value
list_entry-returns-then-room-eq0-clause-value g t c = λ objects told.
    let few : length c.args.found.now < 1000000 = omega arith in
    entry_too_deep objects c.args.room c.args.path.now _ c.args.entry.now c.args.found.now c.if-room-eq0.true c.in_ok-child.ensures.value few

pub list_entry-returns-then-is_directory_mode-clause-value :
    goal.list_entry-returns-then-is_directory_mode-clause-value
list_entry-returns-then-is_directory_mode-clause-value g t c = λ objects told.
    let few : length c.args.found.now < 1000000 = omega arith in
    let room : c.args.room ≡ suc (c.args.room - 1) = omega arith in
    entry_directory objects c.args.room (c.args.room - 1) c.args.path.now c.in_ok-own.own c.args.entry.now
    c.args.found.now c.add.new.self c.list_directory.new.found c.list_directory.result
    room c.in_ok-own.ensures.value c.in_ok-add.ensures.ok few (sym c.is_directory_mode.ensures.value ∙ c.if-is_directory_mode.true)
    (c.list_directory.ensures.value objects told)

pub list_entry-returns-in-Ok-clause-value : goal.list_entry-returns-in-Ok-clause-value
list_entry-returns-in-Ok-clause-value g t c = λ objects told.
    let few : length c.args.found.now < 1000000 = omega arith in
    let room : c.args.room ≡ suc (c.args.room - 1) = omega arith in
    entry_file objects c.args.room (c.args.room - 1) c.args.path.now c.args.entry.now c.args.found.now c.add.new.self
    room c.in_ok-add.ensures.ok few (sym c.is_directory_mode.ensures.value ∙ c.if-is_directory_mode.false)
    c.in-Ok.field-0 (read_ok objects _ _ (c.in-Ok.ensures.value objects told))

pub list_entry-returns-clause-value : goal.list_entry-returns-clause-value
list_entry-returns-clause-value g t c = λ objects told.
    let few : length c.args.found.now < 1000000 = omega arith in
    let room : c.args.room ≡ suc (c.args.room - 1) = omega arith in
    entry_bad_file objects c.args.room (c.args.room - 1) c.args.path.now c.args.entry.now c.args.found.now
    room few (sym c.is_directory_mode.ensures.value ∙ c.if-is_directory_mode.false)
    c.in-Err.fault (c.in-Err.ensures.value objects told)
