-- The collection that runs, and what a call does to its fresh keys, over any shelf. Our own. Read RunsOn.
use Rattle.std.specs.Prelude.{◌≡◌, Bool, not, ◌&&◌, ◌||◌, List, [], filter, Option, None, Some, is_some}
use Rattle.std.specs.FinMap as map
use Rattle.std.specs.FinSet as set
use Rattle.ids.specs.declared.key.Key.{Key}
use Rattle.library_rules.specs.Calls.{keys_of}
use Rattle.library_rules.specs.Changes.{told_by}
use Rattle.library_rules.specs.LibraryState.{Running}
use Rattle.library_state.specs.declared.call.Act.{Act}
use Rattle.library_state.specs.declared.call.Act.TheVariants as act
use Rattle.library_state.specs.declared.reply.Reply.{Reply}
use Rattle.library_state.specs.declared.reply.Reply.TheVariants as reply
use Rattle.object_graph.specs.Traversal.{is_in}
use Rattle.object_store.specs.StoreView.{Index}

-- the keys that an answer tells to be stored already: that of a put, and those that were asked for and aren't told missing
abbrev pub told_there : Index → Act → Reply → List Key
told_there index (act.Put key bytes) r = told_by key r
told_there index (act.Missing k ids) (reply.Absent found) = filter (λ key. is_some (map.get index key)) (keys_of k ids)
told_there index a r = []

-- a key came into the index
abbrev pub came : Index → Index → Key → Bool
came old new key = is_some (map.get new key) && not (is_some (map.get old key))

-- the collection goes on; fresh are the keys that were, those of objects that came, and those that were told to be there
pub record GoesOn (old new : Index) (told : List Key) (before after : Running) : Type 0 where
  pub stored : after.stored ≡ before.stored
  pub turned : after.turned ≡ before.turned
  pub fresh : (key : Key) → set.contains after.fresh key ≡ (set.contains before.fresh key || (came old new key || is_in told key))

-- a call begins and ends no collection, and one that runs goes on
abbrev pub RunsOn : Index → Index → List Key → Option Running → Option Running → Type 0
RunsOn old new told None after = after ≡ None
RunsOn old new told (Some before) after = (running : Running) × (after ≡ Some running) × GoesOn old new told before running
