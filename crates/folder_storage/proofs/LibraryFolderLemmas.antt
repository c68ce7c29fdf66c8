-- What calls leave of what a library's folder knows. The key lemmas are takes-out, notes, cut-short and
-- puts-into.
use Rattle.std.proofs.Common.{◌≡◌, ◌++◌, ◌∙◌, ℕ, Bool, false, true, List, [], ◌∷◌, Result, Ok, Err, OnErr, inl, inr, ap, refl, subst, sym, slice_index_or}
use Rattle.std.specs.List.{HoldsAt, remove}
use Rattle.std.specs.declared.cmp.Ordering.TheVariants.{Equal}
use Rattle.ids.specs.Key.{key_cmp}
use Rattle.ids.specs.declared.key.Key.{Key}
use Rattle.ids.specs.declared.key.Kind.{Kind}
use Rattle.ids.specs.declared.key.Kind.TheVariants.{Commit}
use Rattle.ids.proofs.KeyOrderLemmas.{key_cmp_exact}
use Rattle.sha1.specs.Sha1.{sha1}
use Rattle.object_store.specs.declared.shelf.Slot.{Slot}
use Rattle.object_store.specs.declared.shelf.Slot.TheVariants.{Object}
use Rattle.folder_storage.specs.Durability.{PutsOrStays}
use Rattle.folder_storage.specs.LibraryFolder.{Doubts, MayNote, PutsInto, PutsOne, TakesOut, doubts_of, noted, others}
use Rattle.folder_storage.specs.declared.library_folder.CommitSum.{CommitSum}
use Rattle.folder_storage.specs.declared.library_folder.LibraryFolder.{LibraryFolder}

-- a search finds a place of the key itself
pub takes-out : (key : Key) (old seen new : List Key) (place : ℕ) → seen ≡ old → HoldsAt (λ other. key_cmp other key ≡ Equal) seen place
    → new ≡ remove old place → TakesOut key old new
takes-out key old seen new place same is removed =
    inr (place, (λ d. key_cmp_exact (slice_index_or old place d) key (subst (λ keys. key_cmp (slice_index_or keys place d) key ≡ Equal) same (is d))), removed)

-- a commit is noted
pub notes : (kind : Kind) (id bytes sum : List ℕ) (old kept new : List CommitSum) → kind ≡ Commit → kept ≡ others id old → sum ≡ sha1 bytes
    → new ≡ kept ++ record { id = id; sum = sum } ∷ [] → new ≡ noted kind id bytes old
notes kind id bytes sum old kept new commit rest known pushed =
    subst (λ k. new ≡ noted k id bytes old) (sym commit)
    (pushed ∙ ap (λ (front : List CommitSum). front ++ record { id = id; sum = sum } ∷ []) rest ∙ ap (λ name. others id old ++ record { id = id; sum = name } ∷ []) known)

-- there was no memory to note it
pub cut-short : {T E : Type 0} (result : Result T E) (kind : Kind) (id bytes : List ℕ) (old kept new : List CommitSum) → kept ≡ others id old → new ≡ kept
    → OnErr result (MayNote kind id bytes old new)
cut-short (Ok done) kind id bytes old kept new rest same = _
cut-short (Err failure) kind id bytes old kept new rest same = inr (inl (same ∙ rest))

-- a put that failed before the disk was asked, and any other
stays-one : (key : Key) (bytes : List ℕ) (old new : Doubts) → new ≡ old → PutsOne key bytes false old new
stays-one key bytes old new same = subst (PutsOne key bytes false old) (sym same) (refl, inl refl)

puts-or-stays : {F : Type 0} (key : Key) (bytes : List ℕ) (is_done : Bool) (old new : LibraryFolder F)
    → PutsOrStays (λ done (from to : LibraryFolder F). PutsOne key bytes done (doubts_of from) (doubts_of to)) is_done old new
    → PutsOne key bytes is_done (doubts_of old) (doubts_of new)
puts-or-stays key bytes true old new put = put
puts-or-stays key bytes false old new (inl same) = stays-one key bytes (doubts_of old) (doubts_of new) (ap doubts_of same)
puts-or-stays key bytes false old new (inr put) = put

-- a shelf's put of an object, which was written beside its slot before
pub puts-into : {F : Type 0} (slot : Slot) (key : Key) (bytes : List ℕ) (is_done is_put : Bool) (old beside new : LibraryFolder F) → slot ≡ Object key
    → is_done ≡ is_put → doubts_of beside ≡ doubts_of old
    → PutsOrStays (λ done (from to : LibraryFolder F). PutsOne key bytes done (doubts_of from) (doubts_of to)) is_put beside new
    → PutsInto slot bytes is_done (doubts_of old) (doubts_of new)
puts-into slot key bytes is_done is_put old beside new object done same put =
    subst (λ s. PutsInto s bytes is_done (doubts_of old) (doubts_of new)) (sym object)
    (subst (λ d. PutsOne key bytes d (doubts_of old) (doubts_of new)) (sym done)
    (subst (λ from. PutsOne key bytes is_put from (doubts_of new)) same (puts-or-stays key bytes is_put beside new put)))
