-- What a shelf with one odd slot may give after a call. The key lemmas are odd_kept, odd_put and odd_removed.
use Rattle.std.proofs.Common.{◌≡◌, ◌⊎◌, inl, inr, Bool, true, false, cond, ℕ, List, Option, None, Some, Ok, Err, refl, sym, ap, ◌∙◌, true≢false}
use Rattle.std.specs.Prelude.{⊤}
use Rattle.std.specs.Cmp.{eq_by_cmp_equiv}
use Rattle.std.specs.FinMap as map
use Rattle.std.specs.Ordering.{eq_by_cmp}
use Rattle.ids.specs.Key.{key_cmp}
use Rattle.ids.specs.declared.key.Key.{Key}
use Rattle.ids.proofs.KeyOrderLemmas.{key_cmp_total}
use Rattle.object_store.proofs.MapLemmas.{tied_key}
use Rattle.object_store.proofs.ShelfLemmas.{put_lies, removed_lies}
use Rattle.object_store.specs.MemoryShelf.{ShelfAnswers, MemoryShelfState}
use Rattle.object_store.specs.OddShelf.{GivesOdd, OddAfter, OddShelfState, odd_or}
use Rattle.object_store.specs.Shelf.{Contents, GivesAlso, GivesNoMore, LaysBy, Tells, is_counted, lies_in, with_put, without}
use Rattle.object_store.specs.declared.shelf.ShelfFailed.{ShelfFailed}
use Rattle.object_store.specs.declared.shelf.Slot.{Slot}
use Rattle.object_store.specs.declared.shelf.Slot.TheVariants.{Object, Status}

-- ---- slots are told apart

abbrev key_of : Key → Slot → Key
key_of other (Object key) = key
key_of other Status = other

abbrev is_object : Slot → Bool
is_object (Object key) = true
is_object Status = false

same_or_not : (a b : Slot) → (a ≡ b) ⊎ (a ≡ b → ⊥)
same_or_not (Object q) (Object k) = by (eq_by_cmp key_cmp q k) refl
  where
    by : (b : Bool) → eq_by_cmp key_cmp q k ≡ b → (Object q ≡ Object k) ⊎ (Object q ≡ Object k → ⊥)
    by true e = inl (ap Object (tied_key q k e))
    by false e = inr (λ same. true≢false (sym ((eq_by_cmp_equiv key_cmp_total).refl k)
        ∙ ap (λ x. eq_by_cmp key_cmp x k) (sym (ap (key_of k) same)) ∙ e))
same_or_not (Object q) Status = inr (λ same. true≢false (ap is_object same))
same_or_not Status (Object k) = inr (λ same. true≢false (sym (ap is_object same)))
same_or_not Status Status = inl refl

module _ (old new : OddShelfState) where
  -- nothing was changed
  pub odd_kept : new.inner.contents ≡ old.inner.contents → new.slot ≡ old.slot → new.odd ≡ old.odd → GivesNoMore (GivesOdd old) (GivesOdd new)
  odd_kept contents slot odd at given gives = record {
    here = λ same. gives.here (slot ∙ same) ∙ (λ i. odd_or (odd i) (lies_in (contents i) at));
    elsewhere = λ other. gives.elsewhere (λ same. other (sym slot ∙ same)) ∙ ap (λ held. lies_in held at) contents;
  }

  -- the slot was changed, and all others are as they were
  changed : (slot : Slot) (laid : Option (List ℕ)) → lies_in new.inner.contents slot ≡ laid
      → ((at : Slot) → (at ≡ slot → ⊥) → lies_in new.inner.contents at ≡ lies_in old.inner.contents at)
      → new.slot ≡ old.slot → (old.slot ≡ slot → new.odd ≡ None) → ((old.slot ≡ slot → ⊥) → new.odd ≡ old.odd)
      → GivesAlso (GivesOdd old) (GivesOdd new) slot laid
  changed slot laid there beside kept ends stays at given gives = elim (same_or_not at slot) [
    | inl same ↦ inr (
      same,
      elim (same_or_not new.slot at) [
        | inl here ↦ gives.here here ∙ ap (λ odd. odd_or odd (lies_in new.inner.contents at)) (ends (sym kept ∙ here ∙ same))
            ∙ ap (lies_in new.inner.contents) same ∙ there
        | inr other ↦ gives.elsewhere other ∙ ap (lies_in new.inner.contents) same ∙ there
      ],
    )
    | inr other ↦ inl (record {
      here = λ same. gives.here (kept ∙ same) ∙ ap (λ odd. odd_or odd (lies_in new.inner.contents at)) (stays (λ is. other (sym same ∙ is)))
          ∙ ap (odd_or old.odd) (beside at other);
      elsewhere = λ elsewhere. gives.elsewhere (λ same. elsewhere (sym kept ∙ same)) ∙ beside at other;
    })
  ]

  -- what lies beside a slot that was changed
  beside_it : (changed : Contents) (slot : Slot) (laid : Option (List ℕ)) → GivesAlso (Tells old.inner.contents) (Tells changed) slot laid → new.inner.contents ≡ changed
      → (at : Slot) → (at ≡ slot → ⊥) → lies_in new.inner.contents at ≡ lies_in old.inner.contents at
  beside_it changed slot laid lies contents at other = elim (lies at (lies_in new.inner.contents at) (ap (λ held. lies_in held at) contents)) [
    | inl is ↦ is
    | inr is ↦ absurd (other is.0)
  ]

  put_there : (held : Contents) (slot : Slot) (bytes : List ℕ) → lies_in (with_put held slot bytes) slot ≡ Some bytes
  put_there held (Object key) bytes = map.get-insert key_cmp_total held.objects key bytes key
      ∙ ap (λ b. cond b (Some bytes) (map.get held.objects key)) ((eq_by_cmp_equiv key_cmp_total).refl key)
  put_there held Status bytes = refl

  removed_there : (held : Contents) (slot : Slot) → lies_in (without held slot) slot ≡ None
  removed_there held (Object key) = map.get-remove key_cmp_total held.objects key key
      ∙ ap (λ b. cond b None (map.get held.objects key)) ((eq_by_cmp_equiv key_cmp_total).refl key)
  removed_there held Status = refl

  pub odd_put : (slot : Slot) (bytes : List ℕ) → new.inner.contents ≡ with_put old.inner.contents slot bytes
      → new.slot ≡ old.slot → (old.slot ≡ slot → new.odd ≡ None) → ((old.slot ≡ slot → ⊥) → new.odd ≡ old.odd)
      → GivesAlso (GivesOdd old) (GivesOdd new) slot (Some bytes)
  odd_put slot bytes contents = changed slot (Some bytes) (ap (λ held. lies_in held slot) contents ∙ put_there old.inner.contents slot bytes)
      (beside_it (with_put old.inner.contents slot bytes) slot (Some bytes) (put_lies old.inner.contents slot bytes) contents)

  pub odd_removed : (slot : Slot) → new.inner.contents ≡ without old.inner.contents slot
      → new.slot ≡ old.slot → (old.slot ≡ slot → new.odd ≡ None) → ((old.slot ≡ slot → ⊥) → new.odd ≡ old.odd)
      → GivesAlso (GivesOdd old) (GivesOdd new) slot None
  odd_removed slot contents = changed slot None (ap (λ held. lies_in held slot) contents ∙ removed_there old.inner.contents slot)
      (beside_it (without old.inner.contents slot) slot None (removed_lies old.inner.contents slot) contents)

  -- the same where the shelf below answers it as done
  pub odd_put_by : (slot : Slot) (bytes : List ℕ) (done : ⊤) → ShelfAnswers old.inner new.inner (with_put old.inner.contents slot bytes) (Ok done) → OddAfter old new slot (Ok done)
      → GivesAlso (GivesOdd old) (GivesOdd new) slot (Some bytes)
  odd_put_by slot bytes done is odd = odd_put slot bytes (ap (λ (s : MemoryShelfState). s.contents) is.after) odd.0 odd.1.0 odd.1.1

  pub odd_removed_by : (slot : Slot) (done : ⊤) → ShelfAnswers old.inner new.inner (without old.inner.contents slot) (Ok done) → OddAfter old new slot (Ok done)
      → GivesAlso (GivesOdd old) (GivesOdd new) slot None
  odd_removed_by slot done is odd = odd_removed slot (ap (λ (s : MemoryShelfState). s.contents) is.after) odd.0 odd.1.0 odd.1.1

  -- it was refused
  pub odd_unremoved : (slot : Slot) (failed : ShelfFailed) → ShelfAnswers {T = ⊤} old.inner new.inner (without old.inner.contents slot) (Err failed) → OddAfter old new slot (Err failed)
      → LaysBy {T = ⊤} is_counted (GivesOdd old) (GivesOdd new) (Err failed)
  odd_unremoved slot failed is odd = λ _. odd_kept (ap (λ (s : MemoryShelfState). s.contents) is.after) odd.slot odd.odd
