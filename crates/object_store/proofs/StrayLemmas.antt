-- Objects that lie on the shelf beside those that a store holds. The key lemmas are strays_kept, strays_put, strays_removed
-- and strays_noted.
use Rattle.std.proofs.Common.{◌≡◌, inl, inr, ℕ, Bool, true, false, cond, List, length, Option, None, Some, is_some, Result, Ok, Err, refl, sym, ap, ◌∙◌, true≢false}
use Rattle.std.specs.Prelude.{⊤}
use Rattle.std.specs.FinMap as map
use Rattle.std.specs.Ordering.{eq_by_cmp}
use Rattle.ids.specs.Key.{key_cmp}
use Rattle.ids.specs.declared.key.Key.{Key}
use Rattle.ids.proofs.KeyOrderLemmas.{key_cmp_total}
use Rattle.object_store.specs.Shelf.{Changes, Contents, put_known, removed_known}
use Rattle.object_store.specs.Steps.{ChangesBoth}
use Rattle.object_store.specs.Store.{is_of_shelf}
use Rattle.object_store.specs.StoreView.{AddsNoStray, IsStray, StoreView, StraysBy}
use Rattle.object_store.specs.declared.error.StoreFault.{StoreFault}
use Rattle.object_store.specs.declared.error.StoreFault.TheVariants as fault
use Rattle.object_store.specs.declared.shelf.ShelfFailed.{ShelfFailed}
use Rattle.object_store.specs.declared.shelf.ShelfFailed.TheVariants.{Shelf, NoMemory}
use Rattle.object_store.specs.declared.shelf.Slot.TheVariants.{Object, Status}
use Rattle.ids.proofs.BasicLemmas.{same_from_some}

module _ {S : Type 0} (contents : S → Option Contents) (old new : StoreView S) where
  -- nothing was changed
  pub strays_kept : new.index ≡ old.index → contents new.shelf ≡ contents old.shelf → AddsNoStray contents old new
  strays_kept index shelf key stray = record {
    held = stray.held;
    told = sym shelf ∙ stray.told;
    lies = stray.lies;
    unknown = ap (λ m. map.get m key) (sym index) ∙ stray.unknown;
  }

  pub strays_same : {T : Type 0} (result : Result T StoreFault) → new.index ≡ old.index → contents new.shelf ≡ contents old.shelf → StraysBy is_of_shelf contents old new result
  strays_same (Ok x) index shelf = strays_kept index shelf
  strays_same (Err why) index shelf = λ free. strays_kept index shelf

  -- what lay there under the key before
  before_put : (b : Bool) (bytes : List ℕ) (size : ℕ) (x : Option (List ℕ)) (y : Option ℕ) → is_some (cond b (Some bytes) x) ≡ true → cond b (Some size) y ≡ None
      → (is_some x ≡ true) × (y ≡ None)
  before_put true bytes size x y lies unknown = cc
  before_put false bytes size x y lies unknown = (lies, unknown)

  -- an object was put, and its key into the index
  pub strays_put : (key : Key) (bytes : List ℕ) → new.index ≡ map.insert old.index key (length bytes) → contents new.shelf ≡ put_known (contents old.shelf) (Object key) bytes
      → AddsNoStray contents old new
  strays_put key bytes index shelf q stray = by (contents old.shelf) refl
    where
      by : (known : Option Contents) → contents old.shelf ≡ known → IsStray contents old q
      by None is = absurd (true≢false (sym (ap is_some (sym (shelf ∙ ap (λ o. put_known o (Object key) bytes) is) ∙ stray.told))))
      by (Some held) is =
          let objects = ap (λ (c : Contents). c.objects) (same_from_some _ _ (sym (shelf ∙ ap (λ o. put_known o (Object key) bytes) is) ∙ stray.told)) in
          let was = before_put (eq_by_cmp key_cmp q key) bytes (length bytes) (map.get held.objects q) (map.get old.index q)
          (ap is_some (sym (map.get-insert key_cmp_total held.objects key bytes q)) ∙ ap (λ m. is_some (map.get m q)) objects ∙ stray.lies)
          (sym (map.get-insert key_cmp_total old.index key (length bytes) q) ∙ ap (λ m. map.get m q) (sym index) ∙ stray.unknown) in
          record { held = held; told = is; lies = was.0; unknown = was.1 }

  pub strays_put_by : (key : Key) (bytes : List ℕ) (why : StoreFault)
      → ChangesBoth old.index (map.insert old.index key (length bytes)) old.index new.index (contents old.shelf) (put_known (contents old.shelf) (Object key) bytes) (contents new.shelf) (Err why)
      → is_of_shelf why ≡ false → AddsNoStray contents old new
  strays_put_by key bytes fault.Shelf changes free = absurd (true≢false free)
  strays_put_by key bytes fault.NoMemory changes free = strays_kept changes.0 changes.1
  strays_put_by key bytes (fault.Taken id) changes free = absurd changes
  strays_put_by key bytes (fault.Wrong id) changes free = absurd changes
  strays_put_by key bytes (fault.Damaged want got) changes free = absurd changes

  before_removal : (b : Bool) (x : Option (List ℕ)) (y : Option ℕ) → is_some (cond b None x) ≡ true → cond b None y ≡ None → (is_some x ≡ true) × (y ≡ None)
  before_removal true x y lies unknown = absurd (true≢false (sym lies))
  before_removal false x y lies unknown = (lies, unknown)

  gone : (key : Key) → new.index ≡ map.remove old.index key → contents new.shelf ≡ removed_known (contents old.shelf) (Object key) → AddsNoStray contents old new
  gone key index shelf q stray = by (contents old.shelf) refl
    where
      by : (known : Option Contents) → contents old.shelf ≡ known → IsStray contents old q
      by None is = absurd (true≢false (sym (ap is_some (sym (shelf ∙ ap (λ o. removed_known o (Object key)) is) ∙ stray.told))))
      by (Some held) is =
          let objects = ap (λ (c : Contents). c.objects) (same_from_some _ _ (sym (shelf ∙ ap (λ o. removed_known o (Object key)) is) ∙ stray.told)) in
          let was = before_removal (eq_by_cmp key_cmp q key) (map.get held.objects q) (map.get old.index q)
          (ap is_some (sym (map.get-remove key_cmp_total held.objects key q)) ∙ ap (λ m. is_some (map.get m q)) objects ∙ stray.lies)
          (sym (map.get-remove key_cmp_total old.index key q) ∙ ap (λ m. map.get m q) (sym index) ∙ stray.unknown) in
          record { held = held; told = is; lies = was.0; unknown = was.1 }

  -- an object was removed, unless the shelf failed
  pub strays_removed : (key : Key) (result : Result ⊤ StoreFault)
      → ChangesBoth old.index (map.remove old.index key) (map.remove old.index key) new.index (contents old.shelf) (removed_known (contents old.shelf) (Object key)) (contents new.shelf) result
      → StraysBy is_of_shelf contents old new result
  strays_removed key (Ok done) changes = gone key changes.0 changes.1
  strays_removed key (Err fault.Shelf) changes = λ free. absurd (true≢false free)
  strays_removed key (Err fault.NoMemory) changes = λ free. strays_kept changes.0 changes.1
  strays_removed key (Err (fault.Taken id)) changes = absurd changes
  strays_removed key (Err (fault.Wrong id)) changes = absurd changes
  strays_removed key (Err (fault.Damaged want got)) changes = absurd changes

  texted : (text : List ℕ) → new.index ≡ old.index → contents new.shelf ≡ put_known (contents old.shelf) Status text → AddsNoStray contents old new
  texted text index shelf q stray = by (contents old.shelf) refl
    where
      by : (known : Option Contents) → contents old.shelf ≡ known → IsStray contents old q
      by None is = absurd (true≢false (sym (ap is_some (sym (shelf ∙ ap (λ o. put_known o Status text) is) ∙ stray.told))))
      by (Some held) is =
          let objects = ap (λ (c : Contents). c.objects) (same_from_some _ _ (sym (shelf ∙ ap (λ o. put_known o Status text) is) ∙ stray.told)) in
          record { held = held; told = is; lies = ap (λ m. is_some (map.get m q)) objects ∙ stray.lies; unknown = ap (λ m. map.get m q) (sym index) ∙ stray.unknown }

  -- a text was written, or may be
  pub strays_noted : (text : List ℕ) (result : Result ⊤ ShelfFailed) → new.index ≡ old.index
      → Changes (contents old.shelf) (put_known (contents old.shelf) Status text) (contents new.shelf) result → AddsNoStray contents old new
  strays_noted text (Ok done) index changes = texted text index changes
  strays_noted text (Err Shelf) index (inl kept) = strays_kept index kept
  strays_noted text (Err Shelf) index (inr done) = texted text index done
  strays_noted text (Err NoMemory) index kept = strays_kept index kept
