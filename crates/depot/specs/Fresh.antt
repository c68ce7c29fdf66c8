-- For private clauses: the fresh keys of a collection that runs. Read HasFresh.
use Rattle.std.specs.Prelude.{◌≡◌, ◌&&◌, ◌||◌, ◌+◌, not, ℕ, Bool, true, false, List, [], ◌∷◌, Option, None, Some}
use Rattle.std.specs.FinSet as set
use Rattle.ids.specs.Key.{Objects, key_cmp}
use Rattle.ids.specs.declared.key.Key.{Key}
use Rattle.ids.specs.declared.key.Kind.{Kind}
use Rattle.library_rules.specs.Calls.{keys_of}
use Rattle.library_rules.specs.Changes.{stored_keys}
use Rattle.object_graph.specs.Traversal.{is_in}
use Rattle.library_state.specs.declared.reply.Reply.{Reply}
use Rattle.library_state.specs.declared.reply.Reply.TheVariants.{Absent, Stored}
use Rattle.collector.specs.Marks.{AreMarks, HasTheSameMarks, is_candidate}
use Rattle.depot.specs.DepotView.{CollectionView}

-- the same collection, with these keys fresh
pub record HasFresh (fresh : Key → Bool) (old new : CollectionView) : Type 0 where
  pub marks : new.marks ≡ old.marks
  pub stored : new.running.stored ≡ old.running.stored
  pub turned : new.running.turned ≡ old.running.turned
  pub each : (key : Key) → set.contains new.running.fresh key ≡ fresh key

-- those of the keys that weren't fresh
pub record AreNew (keys : List Key) (fresh : set.FinSet key_cmp) (new : List Key) : Type 0 where
  pub each : (key : Key) → is_in new key ≡ (is_in keys key && not (set.contains fresh key))

-- a key is fresh, and listed if it wasn't
pub record FreshensOne (key : Key) (old new : CollectionView) (before listed : List Key) : Type 0 where
  pub fresh : HasFresh (λ k. set.contains old.running.fresh k || is_in (key ∷ []) k) old new
  pub lists : (k : Key) → is_in listed k ≡ (is_in before k || (is_in (key ∷ []) k && not (set.contains old.running.fresh k)))

-- no other key is fresh, and what is listed more isn't
pub record FreshensNone (old new : CollectionView) (before listed : List Key) : Type 0 where
  pub fresh : HasFresh (λ k. set.contains old.running.fresh k) old new
  pub stays : (k : Key) → is_in before k ≡ true → is_in listed k ≡ true
  pub came : (k : Key) → is_in listed k ≡ true → is_in before k ≡ false → set.contains old.running.fresh k ≡ false

-- one turn more
abbrev pub counted_turn : CollectionView → CollectionView
counted_turn collection = record collection { running = record collection.running { turned = collection.running.turned + 1 } }

-- ---- where a collection may run

-- the fresh keys of a collection that runs, by those before; and none runs where none did
abbrev pub MayHaveFresh : (set.FinSet key_cmp → Key → Bool) → Option CollectionView → Option CollectionView → Type 0
MayHaveFresh fresh None new = new ≡ None
MayHaveFresh fresh (Some old) new = (collection : CollectionView) × (new ≡ Some collection) × HasFresh (fresh old.running.fresh) old collection

-- those of the keys that weren't fresh; where none runs, none
abbrev pub AreNewIn : List Key → Option CollectionView → List Key → Type 0
AreNewIn keys None new = new ≡ []
AreNewIn keys (Some old) new = AreNew keys old.running.fresh new

-- the keys are no candidates any more
pub record ShieldsKeys (keys : List Key) (old new : CollectionView) : Type 0 where
  pub marks : HasTheSameMarks old.marks new.marks
  pub each : (key : Key) → is_candidate new.marks key ≡ (is_candidate old.marks key && not (is_in keys key))
  pub good : AreMarks new.marks
  pub runs : new.running ≡ old.running

abbrev pub MayShield : List Key → Option CollectionView → Option CollectionView → Type 0
MayShield keys None new = new ≡ None
MayShield keys (Some old) new = (collection : CollectionView) × (new ≡ Some collection) × ShieldsKeys keys old collection

-- the keys are fresh, and no candidates any more
pub record KeepsKeys (keys : List Key) (old new : CollectionView) : Type 0 where
  pub next : CollectionView
  pub fresh : HasFresh (λ key. set.contains old.running.fresh key || is_in keys key) old next
  pub shields : ShieldsKeys keys next new

abbrev pub MayKeep : List Key → Option CollectionView → Option CollectionView → Type 0
MayKeep keys None new = new ≡ None
MayKeep keys (Some old) new = (collection : CollectionView) × (new ≡ Some collection) × KeepsKeys keys old collection

-- ---- which answers tell that something is there

-- the keys of what is stored among what was asked for, where the answer tells ids
abbrev pub stored_told : Objects → Kind → List (List ℕ) → Reply → List Key
stored_told objects k ids (Absent found) = stored_keys objects (keys_of k ids)
stored_told objects k ids other = []

abbrev pub is_stored_reply : Reply → Bool
is_stored_reply (Stored new) = true
is_stored_reply other = false

-- how a put ends: what became fresh for it is shielded, or taken back
abbrev pub EndsPut : List Key → Reply → Option CollectionView → Option CollectionView → Type 0
EndsPut keys (Stored newly) old new = MayShield keys old new
EndsPut keys other old new = MayHaveFresh (λ fresh key. set.contains fresh key && not (is_in keys key)) old new
