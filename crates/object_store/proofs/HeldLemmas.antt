-- What a store holds as its index and its shelf change. The key lemmas are objects-put, objects-removed, objects-dropped
-- and objects-beside, and of the index ready-put, ready-beside, ready-removed and ready-dropped.
use Rattle.std.proofs.Common.{◌≡◌, ◌⊎◌, ℕ, Bool, true, false, cond, List, length, Option, None, Some, is_some, Result, Ok, Err, inl, inr, refl, sym, ap, ◌∙◌, true≢false}
use Rattle.std.specs.Prelude.{option_map, ⊤}
use Rattle.std.specs.FinMap as map
use Rattle.std.specs.Ordering.{eq_by_cmp}
use Rattle.ids.specs.Key.{Objects, key_cmp}
use Rattle.ids.specs.declared.key.Key.{Key}
use Rattle.ids.proofs.KeyOrderLemmas.{key_cmp_total, key_cmp_exact}
use Rattle.object_store.proofs.MapLemmas.{get-retained, get-tied}
use Rattle.object_store.specs.Shelf.{Changes, Contents, put_known, removed_known}
use Rattle.object_store.specs.Steps.{ChangesBoth, fault_of}
use Rattle.object_store.specs.StoreView.{Index, indexed, with_object, without_object, left_after}
use Rattle.object_store.specs.declared.error.StoreFault.{StoreFault}
use Rattle.object_store.specs.declared.error.StoreFault.TheVariants as fault
use Rattle.object_store.specs.declared.shelf.ShelfFailed.{ShelfFailed}
use Rattle.object_store.specs.declared.shelf.ShelfFailed.TheVariants.{Shelf, NoMemory}
use Rattle.object_store.specs.declared.shelf.Slot.TheVariants.{Object}
use Rattle.ids.proofs.BasicLemmas.{same_from_some}

-- each key of the index lies in these contents, with its size
abbrev pub IsReady : Option Contents → Index → Type 0
IsReady known index = (held : Contents) → known ≡ Some held → (key : Key) (size : ℕ)
    → map.get index key ≡ Some size → option_map length (map.get held.objects key) ≡ Some size

nothing : {A : Type 0} {B : Type 0} (x : A) → ◌≡◌ {A = Option A} None (Some x) → B
nothing x e = absurd (true≢false (sym (ap is_some e)))

-- ---- the index stays that of the shelf

put_size : (b : Bool) (bytes : List ℕ) (x : Option (List ℕ)) (y : Option ℕ) (size : ℕ) → (y ≡ Some size → option_map length x ≡ Some size)
    → cond b (Some (length bytes)) y ≡ Some size → option_map length (cond b (Some bytes) x) ≡ Some size
put_size true bytes x y size f h = h
put_size false bytes x y size f h = f h

pub ready-put : (known : Option Contents) (index : Index) (key : Key) (bytes : List ℕ) → IsReady known index
    → IsReady (put_known known (Object key) bytes) (map.insert index key (length bytes))
ready-put None index key bytes ready held told q size found = nothing held told
ready-put (Some before) index key bytes ready held told q size found =
    let objects : map.insert before.objects key bytes ≡ held.objects = ap (λ (c : Contents). c.objects) (same_from_some _ _ told) in
    let at : map.get held.objects q ≡ cond (eq_by_cmp key_cmp q key) (Some bytes) (map.get before.objects q) =
    ap (λ m. map.get m q) (sym objects) ∙ map.get-insert key_cmp_total before.objects key bytes q in
    ap (option_map length) at
    ∙ put_size (eq_by_cmp key_cmp q key) bytes (map.get before.objects q) (map.get index q) size (ready before refl q size)
    (sym (map.get-insert key_cmp_total index key (length bytes) q) ∙ found)

beside_size : (b : Bool) (bytes : List ℕ) (x : Option (List ℕ)) (y : Option ℕ) (size : ℕ) → (b ≡ true → None ≡ y)
    → (y ≡ Some size → option_map length x ≡ Some size) → y ≡ Some size → option_map length (cond b (Some bytes) x) ≡ Some size
beside_size true bytes x y size absent f h = nothing size (absent refl ∙ h)
beside_size false bytes x y size absent f h = f h

pub ready-beside : (known : Option Contents) (index : Index) (key : Key) (bytes : List ℕ) → map.get index key ≡ None
    → IsReady known index → IsReady (put_known known (Object key) bytes) index
ready-beside None index key bytes absent ready held told q size found = nothing held told
ready-beside (Some before) index key bytes absent ready held told q size found =
    let objects : map.insert before.objects key bytes ≡ held.objects = ap (λ (c : Contents). c.objects) (same_from_some _ _ told) in
    let at : map.get held.objects q ≡ cond (eq_by_cmp key_cmp q key) (Some bytes) (map.get before.objects q) =
    ap (λ m. map.get m q) (sym objects) ∙ map.get-insert key_cmp_total before.objects key bytes q in
    ap (option_map length) at
    ∙ beside_size (eq_by_cmp key_cmp q key) bytes (map.get before.objects q) (map.get index q) size
    (λ e. sym absent ∙ get-tied index q key e) (ready before refl q size) found

removed_size : (b : Bool) (x : Option (List ℕ)) (y : Option ℕ) (size : ℕ) → (y ≡ Some size → option_map length x ≡ Some size)
    → cond b None y ≡ Some size → option_map length (cond b None x) ≡ Some size
removed_size true x y size f h = nothing size h
removed_size false x y size f h = f h

pub ready-removed : (known : Option Contents) (index : Index) (key : Key) → IsReady known index
    → IsReady (removed_known known (Object key)) (map.remove index key)
ready-removed None index key ready held told q size found = nothing held told
ready-removed (Some before) index key ready held told q size found =
    let objects : map.remove before.objects key ≡ held.objects = ap (λ (c : Contents). c.objects) (same_from_some _ _ told) in
    let at : map.get held.objects q ≡ cond (eq_by_cmp key_cmp q key) None (map.get before.objects q) =
    ap (λ m. map.get m q) (sym objects) ∙ map.get-remove key_cmp_total before.objects key q in
    ap (option_map length) at
    ∙ removed_size (eq_by_cmp key_cmp q key) (map.get before.objects q) (map.get index q) size (ready before refl q size)
    (sym (map.get-remove key_cmp_total index key q) ∙ found)

dropped_size : (b : Bool) (y : Option ℕ) (size : ℕ) → cond b None y ≡ Some size → y ≡ Some size
dropped_size true y size h = nothing size h
dropped_size false y size h = h

pub ready-dropped : (known : Option Contents) (index : Index) (key : Key) → IsReady known index → IsReady known (map.remove index key)
ready-dropped known index key ready held told q size found =
    ready held told q size (dropped_size (eq_by_cmp key_cmp q key) (map.get index q) size (sym (map.get-remove key_cmp_total index key q) ∙ found))

-- the same contents
pub ready-kept : (old new : Option Contents) (index : Index) → new ≡ old → IsReady old index → IsReady new index
ready-kept old new index same ready held told = ready held (sym same ∙ told)

-- after a failed put of a key that isn't in the index
pub ready-failed : (failed : ShelfFailed) (old new : Option Contents) (index : Index) (key : Key) (bytes : List ℕ)
    → Changes old (put_known old (Object key) bytes) new (Err failed) → map.get index key ≡ None → IsReady old index → IsReady new index
ready-failed Shelf old new index key bytes change absent ready = elim change [
  | inl same ↦ ready-kept old new index same ready
  | inr done ↦ ready-kept (put_known old (Object key) bytes) new index done (ready-beside old index key bytes absent ready)
]
ready-failed NoMemory old new index key bytes change absent ready = ready-kept old new index change ready

-- after a removal that may be made, and which took the key out of the index
pub ready-given_up : (old new : Option Contents) (index : Index) (key : Key)
    → (new ≡ old) ⊎ (new ≡ removed_known old (Object key)) → IsReady old index → IsReady new (map.remove index key)
ready-given_up old new index key change ready = elim change [
  | inl same ↦ ready-kept old new (map.remove index key) same (ready-dropped old index key ready)
  | inr done ↦ ready-kept (removed_known old (Object key)) new (map.remove index key) done (ready-removed old index key ready)
]

-- a put that failed and was taken out of the index
pub failed-both : (failed : ShelfFailed) (old changed now : Index) (held put new : Option Contents) → now ≡ old
    → Changes held put new (Err failed) → ChangesBoth old changed old now held put new (Err (fault_of failed))
failed-both Shelf old changed now held put new same change = (same, change)
failed-both NoMemory old changed now held put new same change = (same, change)

-- ---- what is held

get-indexed : (index : Index) (held : Contents) (q : Key) → map.get (indexed index held) q ≡ cond (is_some (map.get index q)) (map.get held.objects q) None
get-indexed index held q = get-retained held.objects index q

put_held : (b : Bool) (size : ℕ) (i : Option ℕ) (bytes : List ℕ) (x : Option (List ℕ))
    → cond (is_some (cond b (Some size) i)) (cond b (Some bytes) x) None ≡ cond b (Some bytes) (cond (is_some i) x None)
put_held true size i bytes x = refl
put_held false size i bytes x = refl

pub objects-put : (known : Option Contents) (index : Index) (key : Key) (size : ℕ) (bytes : List ℕ)
    → option_map (indexed (map.insert index key size)) (put_known known (Object key) bytes) ≡ with_object (option_map (indexed index) known) key bytes
objects-put None index key size bytes = refl
objects-put (Some held) index key size bytes = ap Some (map.same_map key_cmp_total key_cmp_exact _ _ (λ q.
    get-retained (map.insert held.objects key bytes) (map.insert index key size) q
    ∙ ap (λ i. cond (is_some i) (map.get (map.insert held.objects key bytes) q) None) (map.get-insert key_cmp_total index key size q)
    ∙ ap (λ x. cond (is_some (cond (eq_by_cmp key_cmp q key) (Some size) (map.get index q))) x None) (map.get-insert key_cmp_total held.objects key bytes q)
    ∙ put_held (eq_by_cmp key_cmp q key) size (map.get index q) bytes (map.get held.objects q)
    ∙ sym (map.get-insert key_cmp_total (indexed index held) key bytes q ∙ ap (cond (eq_by_cmp key_cmp q key) (Some bytes)) (get-indexed index held q))))

removed_held : (b : Bool) (i : Option ℕ) (x : Option (List ℕ)) → cond (is_some (cond b None i)) (cond b None x) None ≡ cond b None (cond (is_some i) x None)
removed_held true i x = refl
removed_held false i x = refl

pub objects-removed : (known : Option Contents) (index : Index) (key : Key)
    → option_map (indexed (map.remove index key)) (removed_known known (Object key)) ≡ without_object (option_map (indexed index) known) key
objects-removed None index key = refl
objects-removed (Some held) index key = ap Some (map.same_map key_cmp_total key_cmp_exact _ _ (λ q.
    get-retained (map.remove held.objects key) (map.remove index key) q
    ∙ ap (λ i. cond (is_some i) (map.get (map.remove held.objects key) q) None) (map.get-remove key_cmp_total index key q)
    ∙ ap (λ x. cond (is_some (cond (eq_by_cmp key_cmp q key) None (map.get index q))) x None) (map.get-remove key_cmp_total held.objects key q)
    ∙ removed_held (eq_by_cmp key_cmp q key) (map.get index q) (map.get held.objects q)
    ∙ sym (map.get-remove key_cmp_total (indexed index held) key q ∙ ap (cond (eq_by_cmp key_cmp q key) None) (get-indexed index held q))))

dropped_held : (b : Bool) (i : Option ℕ) (x : Option (List ℕ)) → cond (is_some (cond b None i)) x None ≡ cond b None (cond (is_some i) x None)
dropped_held true i x = refl
dropped_held false i x = refl

pub objects-dropped : (known : Option Contents) (index : Index) (key : Key)
    → option_map (indexed (map.remove index key)) known ≡ without_object (option_map (indexed index) known) key
objects-dropped None index key = refl
objects-dropped (Some held) index key = ap Some (map.same_map key_cmp_total key_cmp_exact _ _ (λ q.
    get-retained held.objects (map.remove index key) q
    ∙ ap (λ i. cond (is_some i) (map.get held.objects q) None) (map.get-remove key_cmp_total index key q)
    ∙ dropped_held (eq_by_cmp key_cmp q key) (map.get index q) (map.get held.objects q)
    ∙ sym (map.get-remove key_cmp_total (indexed index held) key q ∙ ap (cond (eq_by_cmp key_cmp q key) None) (get-indexed index held q))))

beside_held : (b : Bool) (i : Option ℕ) (bytes : List ℕ) (x : Option (List ℕ)) → (b ≡ true → None ≡ i)
    → cond (is_some i) (cond b (Some bytes) x) None ≡ cond (is_some i) x None
beside_held true i bytes x absent = ap (λ o. cond (is_some o) (Some bytes) None) (sym (absent refl)) ∙ ap (λ o. cond (is_some o) x None) (absent refl)
beside_held false i bytes x absent = refl

pub objects-beside : (known : Option Contents) (index : Index) (key : Key) (bytes : List ℕ) → map.get index key ≡ None
    → option_map (indexed index) (put_known known (Object key) bytes) ≡ option_map (indexed index) known
objects-beside None index key bytes absent = refl
objects-beside (Some held) index key bytes absent = ap Some (map.same_map key_cmp_total key_cmp_exact _ _ (λ q.
    get-retained (map.insert held.objects key bytes) index q
    ∙ ap (λ x. cond (is_some (map.get index q)) x None) (map.get-insert key_cmp_total held.objects key bytes q)
    ∙ beside_held (eq_by_cmp key_cmp q key) (map.get index q) bytes (map.get held.objects q) (λ e. sym absent ∙ get-tied index q key e)
    ∙ sym (get-indexed index held q)))

-- after a removal, by its answer
pub objects-given_up : (result : Result ⊤ StoreFault) (old new : Option Contents) (index now : Index) (key : Key)
    → ChangesBoth index (map.remove index key) (map.remove index key) now old (removed_known old (Object key)) new result
    → option_map (indexed now) new ≡ left_after (option_map (indexed index) old) key result
objects-given_up (Ok done) old new index now key change =
    (λ i. option_map (indexed (change.0 i)) (change.1 i)) ∙ objects-removed old index key
objects-given_up (Err fault.Shelf) old new index now key change = elim change.1 [
  | inl same ↦ (λ i. option_map (indexed (change.0 i)) (same i)) ∙ objects-dropped old index key
  | inr made ↦ (λ i. option_map (indexed (change.0 i)) (made i)) ∙ objects-removed old index key
]
objects-given_up (Err fault.NoMemory) old new index now key change = λ i. option_map (indexed (change.0 i)) (change.1 i)
objects-given_up (Err (fault.Taken id)) old new index now key change = absurd change
objects-given_up (Err (fault.Wrong id)) old new index now key change = absurd change
objects-given_up (Err (fault.Damaged want got)) old new index now key change = absurd change

-- the value of a key that is stored
pub held-at : (known : Option Contents) (index : Index) (objects : Objects) (key : Key) → option_map (indexed index) known ≡ Some objects
    → (held : Contents) × (known ≡ Some held) × (map.get objects key ≡ cond (is_some (map.get index key)) (map.get held.objects key) None)
held-at None index objects key told = nothing objects told
held-at (Some held) index objects key told = (held, refl, ap (λ m. map.get m key) (sym (same_from_some _ _ told)) ∙ get-indexed index held key)

size_of : (i : Option ℕ) (x : Option (List ℕ)) → ((size : ℕ) → i ≡ Some size → option_map length x ≡ Some size)
    → i ≡ option_map length (cond (is_some i) x None)
size_of None x f = refl
size_of (Some size) x f = sym (f size refl)

-- the index tells the sizes of what is held
pub sizes : (known : Option Contents) (index : Index) → IsReady known index → (objects : Objects) → option_map (indexed index) known ≡ Some objects
    → (key : Key) → map.get index key ≡ option_map length (map.get objects key)
sizes known index ready objects told key =
    let at = held-at known index objects key told in
    size_of (map.get index key) (map.get at.0.objects key) (λ size found. ready at.0 at.1 key size found) ∙ ap (option_map length) (sym at.2)
