-- How far the names of a kind were read. Read first: Steps.
use Rattle.std.specs.Prelude.{◌≡◌, ℕ, List, Option, Some}
use Rattle.ids.specs.declared.key.Kind.{Kind}
use Rattle.object_store.specs.Shelf.{Contents}
use Rattle.object_store.specs.Steps.{Indexes, is_read}
use Rattle.object_store.specs.StoreView.{Index, ReadsShelf}
use Rattle.object_store.specs.declared.shelf.Slot.{Slot}

-- the shelf is as it was, and the index has the names up to the last
pub record IsReadSo {S : Type 0} (contents : S → Option Contents) (may_give : S → Slot → Option (List ℕ) → Type 0) (texts faults : S → ℕ)
    (old new : S) (kind : Kind) (last : Option (List ℕ)) (index : Index) : Type 0 where
  pub kept : contents new ≡ contents old
  pub reads : ReadsShelf may_give texts old new
  pub count : faults new ≡ faults old
  pub read : (held : Contents) → contents new ≡ Some held → Indexes (is_read kind last) held.objects index
