-- For private clauses: one turn of a pass. Read CatchesUp and IsEntryOf.
use Rattle.std.specs.Prelude.{◌≡◌, ◌+◌, ◌≤◌, length}
use mathlib.Core.List.{IsPrefix}
use Rattle.depot.specs.declared.story.Change.{Change}
use Rattle.turnstile.specs.PassView.{first_of, parts_of, passes_of, start_of}
use Rattle.sync_calls.specs.Operations.{Deed, IsMadeBy}
use Rattle.sync_calls.specs.Shown.{LibraryPass, Shown}

-- as a turn begins all changes are seen, and it is one more
pub record CatchesUp {S : Type 0} (u v : Shown S) : Type 0 where
  pub same : v ≡ record u { seen = v.seen; turns = u.turns + 1 }
  pub grows : IsPrefix u.seen v.seen
  pub looked : u.looked ≤ length v.seen

-- the change is this deed, from one library to another
pub record IsEntryOf {V : Type 0} (before : V) (deed : Deed) (after : V) (change : Change V) : Type 0 where
  pub from : change.before.value ≡ before
  pub made : IsMadeBy change.made change.moment deed
  pub to : change.after.value ≡ after

-- what of a pass no turn changes
pub record IsSameShare {S : Type 0} (old new : LibraryPass S) : Type 0 where
  pub start : start_of new ≡ start_of old
  pub parts : parts_of new ≡ parts_of old
  pub passes : passes_of new ≡ passes_of old
  pub first : first_of new ≡ first_of old
