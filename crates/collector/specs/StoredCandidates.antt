-- That what a collection may still remove is in its store. Our own.
use Rattle.std.specs.Prelude.{◌≡◌, true, IsSome}
use Rattle.std.specs.FinMap as map
use Rattle.ids.specs.declared.key.Key.{Key}
use Rattle.object_store.specs.StoreView.{Index}
use Rattle.collector.specs.Marks.{MarksView, is_candidate}

-- each candidate is in the index
abbrev pub AreStoredIn : Index → MarksView → Type 0
AreStoredIn index marks = (key : Key) → is_candidate marks key ≡ true → IsSome (map.get index key)
