-- Objects that lie on the shelf beside a store's, over two calls. The key lemmas are strays_then, strays_unless and strays_none.
use Rattle.std.proofs.Common.{inl, Bool, true, false, List, Result, Ok, Err, Option}
use Rattle.std.specs.Prelude.{⊤}
use Rattle.ids.specs.declared.key.Key.{Key}
use Rattle.object_store.specs.Shelf.{Contents}
use Rattle.object_store.specs.Store.{is_of_shelf}
use Rattle.object_store.specs.StoreView.{AddsNoStray, StoreView, StraysBy}
use Rattle.object_store.specs.declared.error.StoreFault.{StoreFault}
use Rattle.collector.specs.Sweeping.{StraysIf}

module _ {S : Type 0} (contents : S → Option Contents) where
  -- after a call that makes none
  pub strays_then : (old mid new : StoreView S) (result : Result ⊤ StoreFault) → AddsNoStray contents old mid → StraysBy is_of_shelf contents mid new result
      → StraysBy is_of_shelf contents old new result
  strays_then old mid new (Ok done) first second = λ key stray. first key (second key stray)
  strays_then old mid new (Err fault) first second = λ free key stray. first key (second free key stray)

  -- a call that makes none, whatever it answers
  pub strays_unless : (old new : StoreView S) (result : Result ⊤ StoreFault) → AddsNoStray contents old new → StraysBy is_of_shelf contents old new result
  strays_unless old new (Ok done) none = none
  strays_unless old new (Err fault) none = λ free. none

  -- a turn that makes none, whatever left
  pub strays_none : (failed : Bool) (old new : StoreView S) (removed : List Key) → AddsNoStray contents old new → StraysIf failed contents old new removed
  strays_none true old new removed none = λ key stray. inl (none key stray)
  strays_none false old new removed none = none
