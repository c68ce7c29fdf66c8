-- What a shelf may give after a call and before it. The key lemmas are tells_kept, tells_put and tells_removed, and of calls
-- one after another reads_then, reads_then_changes and changes_then_reads.
use Rattle.std.proofs.Common.{◌≡◌, ◌⊎◌, inl, inr, Bool, true, false, cond, ℕ, List, Option, None, Some, Result, Ok, Err, refl, ap, subst, ◌∙◌}
use Rattle.std.specs.Prelude.{⊤}
use Rattle.std.specs.FinMap as map
use Rattle.std.specs.Ordering.{eq_by_cmp}
use Rattle.ids.specs.Key.{key_cmp}
use Rattle.ids.specs.declared.key.Key.{Key}
use Rattle.ids.proofs.KeyOrderLemmas.{key_cmp_total}
use Rattle.object_store.proofs.MapLemmas.{tied_key}
use Rattle.object_store.specs.MemoryShelf.{ShelfAnswers, MemoryShelfState}
use Rattle.object_store.specs.Shelf.{Changes, Contents, GivesAlso, GivesNoMore, LaysBy, Tells, is_counted, lies_in, put_known, removed_known, texts_after, with_put, without}
use Rattle.object_store.specs.StoreView.{ChangesShelf, ReadsShelf}
use Rattle.object_store.specs.declared.shelf.ShelfFailed.{ShelfFailed}
use Rattle.object_store.specs.declared.shelf.ShelfFailed.TheVariants.{Shelf, NoMemory}
use Rattle.object_store.specs.declared.shelf.Slot.{Slot}
use Rattle.object_store.specs.declared.shelf.Slot.TheVariants.{Object, Status}
use Rattle.ids.proofs.BasicLemmas.{same_from_some}

-- ---- shelves that tell what they hold

-- nothing was changed
pub tells_kept : (old new : Contents) → new ≡ old → GivesNoMore (Tells old) (Tells new)
tells_kept old new same slot given is = is ∙ ap (λ held. lies_in held slot) same

-- what lies in a slot after a put
pub put_lies : (held : Contents) (slot : Slot) (bytes : List ℕ) → GivesAlso (Tells held) (Tells (with_put held slot bytes)) slot (Some bytes)
put_lies held (Object key) bytes (Object q) given is = by (eq_by_cmp key_cmp q key) refl (is ∙ map.get-insert key_cmp_total held.objects key bytes q)
  where
    by : (b : Bool) → eq_by_cmp key_cmp q key ≡ b → given ≡ cond b (Some bytes) (map.get held.objects q)
        → (given ≡ map.get held.objects q) ⊎ ((Object q ≡ Object key) × (given ≡ Some bytes))
    by true same e = inr (ap Object (tied_key q key same), e)
    by false other e = inl e
put_lies held (Object key) bytes Status given is = inl is
put_lies held Status bytes (Object q) given is = inl is
put_lies held Status bytes Status given is = inr (refl, is)

-- what lies in a slot after a removal
pub removed_lies : (held : Contents) (slot : Slot) → GivesAlso (Tells held) (Tells (without held slot)) slot None
removed_lies held (Object key) (Object q) given is = by (eq_by_cmp key_cmp q key) refl (is ∙ map.get-remove key_cmp_total held.objects key q)
  where
    by : (b : Bool) → eq_by_cmp key_cmp q key ≡ b → given ≡ cond b None (map.get held.objects q)
        → (given ≡ map.get held.objects q) ⊎ ((Object q ≡ Object key) × (given ≡ None))
    by true same e = inr (ap Object (tied_key q key same), e)
    by false other e = inl e
removed_lies held (Object key) Status given is = inl is
removed_lies held Status (Object q) given is = inl is
removed_lies held Status Status given is = inr (refl, is)

-- the contents are the old ones, or these
changed_lies : (old changed new : Contents) (slot : Slot) (laid : Option (List ℕ)) → GivesAlso (Tells old) (Tells changed) slot laid
    → (new ≡ old) ⊎ (new ≡ changed) → GivesAlso (Tells old) (Tells new) slot laid
changed_lies old changed new slot laid lies (inl same) at given is = inl (is ∙ ap (λ held. lies_in held at) same)
changed_lies old changed new slot laid lies (inr done) at given is = lies at given (is ∙ ap (λ held. lies_in held at) done)

either : (old changed new : Contents) (result : Result ⊤ ShelfFailed) → Changes (Some old) (Some changed) (Some new) result → (new ≡ old) ⊎ (new ≡ changed)
either old changed new (Ok done) is = inr (same_from_some _ _ is)
either old changed new (Err Shelf) (inl is) = inl (same_from_some _ _ is)
either old changed new (Err Shelf) (inr is) = inr (same_from_some _ _ is)
either old changed new (Err NoMemory) is = inl (same_from_some _ _ is)

-- a put, whatever it answers
pub tells_put : (old new : Contents) (slot : Slot) (bytes : List ℕ) (result : Result ⊤ ShelfFailed)
    → Changes (Some old) (put_known (Some old) slot bytes) (Some new) result → GivesAlso (Tells old) (Tells new) slot (Some bytes)
tells_put old new slot bytes result is =
    changed_lies old (with_put old slot bytes) new slot (Some bytes) (put_lies old slot bytes) (either old (with_put old slot bytes) new result is)

-- a removal, whatever it answers
pub tells_removed : (old new : Contents) (slot : Slot) (result : Result ⊤ ShelfFailed)
    → Changes (Some old) (removed_known (Some old) slot) (Some new) result → GivesAlso (Tells old) (Tells new) slot None
tells_removed old new slot result is =
    changed_lies old (without old slot) new slot None (removed_lies old slot) (either old (without old slot) new result is)

-- the same of a shelf in memory
pub answers_put : (old new : MemoryShelfState) (slot : Slot) (bytes : List ℕ) (result : Result ⊤ ShelfFailed)
    → ShelfAnswers old new (with_put old.contents slot bytes) result → GivesAlso (Tells old.contents) (Tells new.contents) slot (Some bytes)
answers_put old new slot bytes (Ok done) is =
    changed_lies old.contents (with_put old.contents slot bytes) new.contents slot (Some bytes) (put_lies old.contents slot bytes) (inr (ap (λ (s : MemoryShelfState). s.contents) is.after))
answers_put old new slot bytes (Err failed) is =
    changed_lies old.contents (with_put old.contents slot bytes) new.contents slot (Some bytes) (put_lies old.contents slot bytes) (inl (ap (λ (s : MemoryShelfState). s.contents) is.after))

pub answers_removed : (old new : MemoryShelfState) (slot : Slot) (result : Result ⊤ ShelfFailed)
    → ShelfAnswers old new (without old.contents slot) result → GivesAlso (Tells old.contents) (Tells new.contents) slot None
answers_removed old new slot (Ok done) is =
    changed_lies old.contents (without old.contents slot) new.contents slot None (removed_lies old.contents slot) (inr (ap (λ (s : MemoryShelfState). s.contents) is.after))
answers_removed old new slot (Err failed) is =
    changed_lies old.contents (without old.contents slot) new.contents slot None (removed_lies old.contents slot) (inl (ap (λ (s : MemoryShelfState). s.contents) is.after))

-- a removal that was refused
pub answers_unremoved : (old new : MemoryShelfState) (slot : Slot) (result : Result ⊤ ShelfFailed)
    → ShelfAnswers old new (without old.contents slot) result → LaysBy is_counted (Tells old.contents) (Tells new.contents) result
answers_unremoved old new slot (Ok done) is = tt
answers_unremoved old new slot (Err failed) is = λ _ at given may. may ∙ ap (λ (s : MemoryShelfState). lies_in s.contents at) is.after

-- ---- calls one after another, over any shelf

module _ {S : Type 0} {may_give : S → Slot → Option (List ℕ) → Type 0} {texts : S → ℕ} where
  -- no call
  pub reads_none : (shelf : S) → ReadsShelf may_give texts shelf shelf
  reads_none shelf = record { gives = λ slot given gives. gives; written = refl }

  pub reads_same : {old new : S} → old ≡ new → ReadsShelf may_give texts old new
  reads_same {old} same = subst (ReadsShelf may_give texts old) same (reads_none old)

  pub reads_then : {old mid new : S} → ReadsShelf may_give texts old mid → ReadsShelf may_give texts mid new → ReadsShelf may_give texts old new
  reads_then first second = record {
    gives = λ slot given gives. first.gives slot given (second.gives slot given gives);
    written = second.written ∙ first.written;
  }

  -- a call that reads, before one that changes a slot and after it
  pub reads_then_changes : {old mid new : S} {slot : Slot} {laid : Option (List ℕ)} → ReadsShelf may_give texts old mid
      → ChangesShelf may_give texts mid new slot laid → ChangesShelf may_give texts old new slot laid
  reads_then_changes {slot = slot} first second = record {
    gives = λ at given gives. elim (second.gives at given gives) [ inl before ↦ inl (first.gives at given before) | inr laid ↦ inr laid ];
    written = second.written ∙ ap (texts_after slot) first.written;
  }

  pub changes_then_reads : {old mid new : S} {slot : Slot} {laid : Option (List ℕ)} → ChangesShelf may_give texts old mid slot laid
      → ReadsShelf may_give texts mid new → ChangesShelf may_give texts old new slot laid
  changes_then_reads first second = record {
    gives = λ at given gives. first.gives at given (second.gives at given gives);
    written = second.written ∙ first.written;
  }

  -- to read is to change no object
  pub reads_changes : {old new : S} {key : Key} {laid : Option (List ℕ)} → ReadsShelf may_give texts old new
      → ChangesShelf may_give texts old new (Object key) laid
  reads_changes reads = record { gives = λ at given gives. inl (reads.gives at given gives); written = reads.written }
