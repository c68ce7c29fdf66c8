-- What a shelf that tells its contents may give, and the refusals that follow. The key lemmas are given-stored,
-- get-refused, judged-as, stored-fault, put-refused, same-held and new-refused.
use Rattle.std.proofs.Common.{◌≡◌, ℕ, Bool, true, false, if◌then◌else◌, cond, List, length, Option, None, Some, is_some, Result, Ok, Err, inl, inr, refl, sym, ap, ◌∙◌, true≢false}
use Rattle.std.specs.Prelude.{option_map, OnOk}
use Rattle.std.specs.Cmp.Lexicographic.{nat_list_eq_equiv}
use Rattle.std.specs.FinMap as map
use Rattle.std.specs.Ordering.{eq_by_cmp}
use Rattle.sha1.specs.Sha1.{sha1}
use Rattle.ids.specs.Key.{Objects, key_cmp}
use Rattle.ids.specs.Outcome.{RefusesAs}
use Rattle.ids.specs.declared.key.Key.{Key}
use Rattle.ids.proofs.KeyOrderLemmas.{key_cmp_total, key_cmp_exact}
use Rattle.ids.proofs.MapLemmas.{insert-same}
use Rattle.object_store.proofs.HeldLemmas.{IsReady, held-at, objects-beside, objects-put, sizes}
use Rattle.object_store.proofs.MapLemmas.{get-retained, tied_key}
use Rattle.object_store.specs.Shelf.{Contents, put_known}
use Rattle.object_store.specs.Steps.{ChangesBoth, FetchesWhole, PutsStored, judged}
use Rattle.object_store.specs.Store.{CountsShelf, HasNames, IsGetFault, IsOfStored, IsOther, judged_found, damage_of, damage_at, first_refusal, has_other_name, is_free, name_refusal, put_refusal, same_bytes, stored_refusal}
use Rattle.object_store.specs.StoreView.{Index, indexed, with_object}
use Rattle.object_store.specs.declared.error.StoreFault.{StoreFault}
use Rattle.object_store.specs.declared.error.StoreFault.TheVariants.{Taken, Wrong, Damaged, Shelf, NoMemory}
use Rattle.object_store.specs.declared.put.Put.{Put}
use Rattle.object_store.specs.declared.put.Put.TheVariants.{New, Same}
use Rattle.object_store.specs.declared.shelf.Slot.{Slot}
use Rattle.object_store.specs.declared.shelf.Slot.TheVariants.{Object}
use Rattle.ids.proofs.BasicLemmas.{none_from_is_some, is_some-option_map}

-- a fetch gives what is held under a key of the index
pub given-stored : (known : Option Contents) (index : Index) (objects : Objects) (key : Key) → option_map (indexed index) known ≡ Some objects
    → is_some (map.get index key) ≡ true → (may_give : Slot → Option (List ℕ) → Type 0)
    → ((held : Contents) (given : Option (List ℕ)) → known ≡ Some held → may_give (Object key) given → given ≡ map.get held.objects key)
    → (given : Option (List ℕ)) → may_give (Object key) given → given ≡ map.get objects key
given-stored known index objects key told there may_give tells given gives =
    let at = held-at known index objects key told in
    tells at.0 given at.1 gives ∙ sym (at.2 ∙ ap (λ b. cond b (map.get at.0.objects key) None) there)

-- what stands in the index is held
pub there-held : (known : Option Contents) (index : Index) (objects : Objects) (key : Key) → option_map (indexed index) known ≡ Some objects
    → IsReady known index → is_some (map.get index key) ≡ true → is_some (map.get objects key) ≡ true
there-held known index objects key told ready there =
    sym (is_some-option_map length (map.get objects key)) ∙ sym (ap is_some (sizes known index ready objects told key)) ∙ there

-- what doesn't stand in the index isn't held
pub not-held : (known : Option Contents) (index : Index) (objects : Objects) (key : Key) → option_map (indexed index) known ≡ Some objects
    → is_some (map.get index key) ≡ false → map.get objects key ≡ None
not-held known index objects key told absent =
    let at = held-at known index objects key told in
    at.2 ∙ ap (λ b. cond b (map.get at.0.objects key) None) absent

-- ---- damage

damaged : (key : Key) (given stored : Option (List ℕ)) (want : List ℕ) (got : Option (List ℕ)) (rest : List ℕ → Option StoreFault)
    → given ≡ stored → is_some stored ≡ true → want ≡ key.id → IsOther key given got
    → (bytes : List ℕ) × (stored ≡ Some bytes) × (cond (has_other_name key bytes) (Some (Damaged key.id (Some (sha1 bytes)))) (rest bytes) ≡ Some (Damaged want got))
damaged key None stored want got rest e there w other = absurd (true≢false (sym there ∙ sym (ap is_some e)))
damaged key (Some bytes) stored want got rest e there w other =
    (bytes, sym e, ap (λ b. cond b (Some (Damaged key.id (Some (sha1 bytes)))) (rest bytes)) other.0 ∙ (λ i. Some (Damaged (sym w i) (sym other.1 i))))

-- bytes that are given as good are not damaged
pub whole-due : (key : Key) (bytes : List ℕ) (stored : Option (List ℕ)) → Some bytes ≡ stored → has_other_name key bytes ≡ false → damage_of key stored ≡ None
whole-due key bytes stored e whole =
    ap (damage_of key) (sym e) ∙ ap (λ b. cond b (Some (Damaged key.id (Some (sha1 bytes)))) None) whole

-- a get's fault is the one that is due, or a free one
pub get-refused : (T : Type 0) (may_give : Slot → Option (List ℕ) → Type 0) (key : Key) (stored : Option (List ℕ)) → is_some stored ≡ true
    → ((given : Option (List ℕ)) → may_give (Object key) given → given ≡ stored) → (fault : StoreFault) → IsGetFault may_give key fault
    → RefusesAs {T = T} is_free (Err fault) (damage_of key stored)
get-refused T may_give key stored there tells (Taken id) is = absurd is
get-refused T may_give key stored there tells (Wrong id) is = absurd is
get-refused T may_give key stored there tells (Damaged want got) is =
    let found = damaged key is.given stored want got (λ _. None) (tells is.given is.gives) there is.named is.other in
    inl (ap (damage_of key) found.1 ∙ found.2)
get-refused T may_give key stored there tells Shelf is = inr refl
get-refused T may_give key stored there tells NoMemory is = inr refl

-- bytes that were fetched are whole, or damaged; and so they are judged
pub judged-as : (P : Result (Option (List ℕ)) StoreFault → Type 0) (may_give : Slot → Option (List ℕ) → Type 0) (key : Key) (bytes : List ℕ) → FetchesWhole may_give key (judged key bytes)
    → (may_give (Object key) (Some bytes) → has_other_name key bytes ≡ false → P (Ok (Some bytes)))
    → ((fault : StoreFault) → IsGetFault may_give key fault → P (Err fault)) → P (judged_found key (Ok (Some bytes)))
judged-as P may_give key bytes fetched good bad = by (has_other_name key bytes) fetched
  where
    by : (b : Bool) → FetchesWhole may_give key (if b then Err (Damaged key.id (Some (sha1 bytes))) else Ok bytes)
        → P (if b then Err (Damaged key.id (Some (sha1 bytes))) else Ok (Some bytes))
    by true is = bad (Damaged key.id (Some (sha1 bytes))) is
    by false is = good is.0 is.1

-- a get's fault is of what the index knows
pub stored-fault : (may_give : Slot → Option (List ℕ) → Type 0) (key : Key) (size : Option ℕ) → is_some size ≡ true → (fault : StoreFault) → IsGetFault may_give key fault
    → IsOfStored size key fault
stored-fault may_give key size there (Taken id) is = absurd is
stored-fault may_give key size there (Wrong id) is = absurd is
stored-fault may_give key size there (Damaged want got) is = there
stored-fault may_give key size there Shelf is = tt
stored-fault may_give key size there NoMemory is = tt

-- and isn't one that the shelf counts, where it isn't the shelf's
pub counts-judged : (before now : ℕ) (key : Key) (bytes : List ℕ) → now ≡ before → CountsShelf before now (judged_found key (Ok (Some bytes)))
counts-judged before now key bytes same = by (has_other_name key bytes)
  where
    by : (b : Bool) → CountsShelf {T = Option (List ℕ)} before now (if b then Err (Damaged key.id (Some (sha1 bytes))) else Ok (Some bytes))
    by true = same
    by false = same

-- ---- a put under a key that is stored

-- a name that isn't refused is the key's
other_by : (b c : Bool) (x y : StoreFault) → cond b (Some x) (cond c (Some y) None) ≡ None → b ≡ false
other_by true c x y e = absurd (true≢false (ap is_some e))
other_by false c x y e = refl

pub own-name : (key : Key) (bytes : List ℕ) → name_refusal key bytes ≡ None → has_other_name key bytes ≡ false
own-name key bytes e = other_by (has_other_name key bytes) _ _ _ e

itself : (bytes : List ℕ) → same_bytes bytes bytes ≡ true
itself bytes = nat_list_eq_equiv.refl bytes

same-due : (key : Key) (bytes : List ℕ) (stored : Option (List ℕ)) → Some bytes ≡ stored → has_other_name key bytes ≡ false → stored_refusal key bytes stored ≡ None
same-due key bytes stored e whole =
    ap (stored_refusal key bytes) (sym e)
    ∙ ap (λ b. cond b (Some (Damaged key.id (Some (sha1 bytes)))) (cond (same_bytes bytes bytes) None (Some (Taken key.id)))) whole
    ∙ ap (λ b. cond b None (Some (Taken key.id))) (itself bytes)

taken-due : (key : Key) (bytes given : List ℕ) (stored : Option (List ℕ)) (id : List ℕ) → Some given ≡ stored → has_other_name key given ≡ false
    → same_bytes given bytes ≡ false → id ≡ key.id → stored_refusal key bytes stored ≡ Some (Taken id)
taken-due key bytes given stored id e whole other named =
    ap (stored_refusal key bytes) (sym e)
    ∙ ap (λ b. cond b (Some (Damaged key.id (Some (sha1 given)))) (cond (same_bytes given bytes) None (Some (Taken key.id)))) whole
    ∙ ap (λ b. cond b None (Some (Taken key.id))) other ∙ ap (λ n. Some (Taken n)) (sym named)

stored-refused : (may_give : Slot → Option (List ℕ) → Type 0) (key : Key) (bytes : List ℕ) (stored : Option (List ℕ)) → is_some stored ≡ true
    → has_other_name key bytes ≡ false → ((given : Option (List ℕ)) → may_give (Object key) given → given ≡ stored) → (result : Result Put StoreFault)
    → PutsStored may_give key bytes result → RefusesAs is_free result (stored_refusal key bytes stored)
stored-refused may_give key bytes stored there whole tells (Ok New) is = absurd is
stored-refused may_give key bytes stored there whole tells (Ok Same) is = same-due key bytes stored (tells (Some bytes) is) whole
stored-refused may_give key bytes stored there whole tells (Err (Taken id)) is =
    inl (taken-due key bytes is.1.given stored id (tells (Some is.1.given) is.1.gives) is.1.whole is.1.other is.0)
stored-refused may_give key bytes stored there whole tells (Err (Wrong id)) is = absurd is
stored-refused may_give key bytes stored there whole tells (Err (Damaged want got)) is =
    let found = damaged key is.given stored want got (λ given. cond (same_bytes given bytes) None (Some (Taken key.id)))
    (tells is.given is.gives) there is.named is.other in
    inl (ap (stored_refusal key bytes) found.1 ∙ found.2)
stored-refused may_give key bytes stored there whole tells (Err Shelf) is = inr refl
stored-refused may_give key bytes stored there whole tells (Err NoMemory) is = inr refl

-- a put that the name doesn't refuse is refused for what is stored
first_none : (first later : Option StoreFault) → first ≡ None → first_refusal first later ≡ later
first_none None later e = refl
first_none (Some fault) later e = absurd (true≢false (ap is_some e))

pub put-refused : (may_give : Slot → Option (List ℕ) → Type 0) (key : Key) (bytes : List ℕ) (objects : Objects) → name_refusal key bytes ≡ None
    → is_some (map.get objects key) ≡ true → ((given : Option (List ℕ)) → may_give (Object key) given → given ≡ map.get objects key)
    → (result : Result Put StoreFault) → PutsStored may_give key bytes result → RefusesAs is_free result (put_refusal objects key bytes)
put-refused may_give key bytes objects free there tells result is =
    rw (first_none (name_refusal key bytes) (stored_refusal key bytes (map.get objects key)) free)
    (stored-refused may_give key bytes (map.get objects key) there (own-name key bytes free) tells result is)

-- to put again what is held changes nothing
pub same-held : (known : Option Contents) (index : Index) (key : Key) (bytes : List ℕ) → is_some (map.get index key) ≡ true
    → ((held : Contents) → known ≡ Some held → Some bytes ≡ map.get held.objects key)
    → option_map (indexed index) known ≡ with_object (option_map (indexed index) known) key bytes
same-held None index key bytes there is = refl
same-held (Some held) index key bytes there is = ap Some (sym (insert-same key_cmp_total key_cmp_exact (indexed index held) key bytes
    (get-retained held.objects index key ∙ ap (λ b. cond b (map.get held.objects key) None) there ∙ sym (is held refl))))

pub if-same : {P : Type 0} (may_give : Slot → Option (List ℕ) → Type 0) (key : Key) (bytes : List ℕ) (result : Result Put StoreFault)
    → PutsStored may_give key bytes result → (may_give (Object key) (Some bytes) → P) → OnOk result P
if-same may_give key bytes (Ok New) is f = absurd is
if-same may_give key bytes (Ok Same) is f = f is
if-same may_give key bytes (Err fault) is f = tt

-- ---- a put under a new key

-- nothing is due where the key is free
pub new-due : (objects : Objects) (key : Key) (bytes : List ℕ) → name_refusal key bytes ≡ None → map.get objects key ≡ None → put_refusal objects key bytes ≡ None
new-due objects key bytes free absent =
    first_none (name_refusal key bytes) (stored_refusal key bytes (map.get objects key)) free ∙ ap (stored_refusal key bytes) absent

-- and only a free fault comes
pub new-refused : (T : Type 0) (old changed left new : Index) (held put now : Option Contents) (fault : StoreFault) (due : Option StoreFault)
    → ChangesBoth old changed left new held put now (Err fault) → RefusesAs {T = T} is_free (Err fault) due
new-refused T old changed left new held put now (Taken id) due change = absurd change
new-refused T old changed left new held put now (Wrong id) due change = absurd change
new-refused T old changed left new held put now (Damaged want got) due change = absurd change
new-refused T old changed left new held put now Shelf due change = inr refl
new-refused T old changed left new held put now NoMemory due change = inr refl

pub put-made : (index new : Index) (key : Key) (size : ℕ) (bytes : List ℕ) (old now : Option Contents) → new ≡ map.insert index key size
    → now ≡ put_known old (Object key) bytes → option_map (indexed new) now ≡ with_object (option_map (indexed index) old) key bytes
put-made index new key size bytes old now i c = (λ t. option_map (indexed (i t)) (c t)) ∙ objects-put old index key size bytes

pub put-failed : (index new changed : Index) (key : Key) (bytes : List ℕ) (old now : Option Contents) (fault : StoreFault) → map.get index key ≡ None
    → ChangesBoth index changed index new old (put_known old (Object key) bytes) now (Err fault) → option_map (indexed new) now ≡ option_map (indexed index) old
put-failed index new changed key bytes old now (Taken id) absent change = absurd change
put-failed index new changed key bytes old now (Wrong id) absent change = absurd change
put-failed index new changed key bytes old now (Damaged want got) absent change = absurd change
put-failed index new changed key bytes old now Shelf absent change = elim change.1 [
  | inl same ↦ λ t. option_map (indexed (change.0 t)) (same t)
  | inr made ↦ (λ t. option_map (indexed (change.0 t)) (made t)) ∙ objects-beside old index key bytes absent
]
put-failed index new changed key bytes old now NoMemory absent change = λ t. option_map (indexed (change.0 t)) (change.1 t)

-- the status that is told
pub status-at : (known : Option Contents) (status : Option (List ℕ)) → option_map (λ held. held.status) known ≡ Some status
    → (held : Contents) × (known ≡ Some held) × (held.status ≡ status)
status-at None status e = absurd (true≢false (sym (ap is_some e)))
status-at (Some held) status e = (held, refl, inside held.status status e)
  where
    inside : (x y : Option (List ℕ)) → Some x ≡ Some y → x ≡ y
    inside x y e = cc

-- a key that doesn't stand in the index
pub absent-key : (index : Index) (key : Key) → is_some (map.get index key) ≡ false → map.get index key ≡ None
absent-key index key absent = none_from_is_some (map.get index key) absent

-- ---- objects under their own names

pub names-empty : HasNames map.empty
names-empty key bytes e = absurd (true≢false (sym (ap is_some e) ∙ ap is_some (map.get-empty key_cmp key)))

pub names-insert : (objects : Objects) (key : Key) (bytes : List ℕ) → HasNames objects → put_refusal objects key bytes ≡ None
    → HasNames (map.insert objects key bytes)
names-insert objects key bytes names free q found e =
    by (eq_by_cmp key_cmp q key) refl (sym (map.get-insert key_cmp_total objects key bytes q) ∙ e)
  where
    unrefused : (first later : Option StoreFault) → first_refusal first later ≡ None → first ≡ None
    unrefused None later e = refl
    unrefused (Some fault) later e = e

    whole : has_other_name key bytes ≡ false
    whole = own-name key bytes (unrefused (name_refusal key bytes) (stored_refusal key bytes (map.get objects key)) free)

    by : (b : Bool) → eq_by_cmp key_cmp q key ≡ b → cond b (Some bytes) (map.get objects q) ≡ Some found → has_other_name q found ≡ false
    by true t e = let same : bytes ≡ found = cc in (λ i. has_other_name (tied_key q key t i) (sym same i)) ∙ whole
    by false t e = names q found e

pub names-remove : (objects : Objects) (key : Key) → HasNames objects → HasNames (map.remove objects key)
names-remove objects key names q found e = by (eq_by_cmp key_cmp q key) (sym (map.get-remove key_cmp_total objects key q) ∙ e)
  where
    by : (b : Bool) → cond b None (map.get objects q) ≡ Some found → has_other_name q found ≡ false
    by true e = absurd (true≢false (sym (ap is_some e)))
    by false e = names q found e

pub undamaged : (objects : Objects) (key : Key) → HasNames objects → damage_at objects key ≡ None
undamaged objects key names = by (map.get objects key) refl
  where
    by : (stored : Option (List ℕ)) → map.get objects key ≡ stored → damage_of key stored ≡ None
    by None e = refl
    by (Some bytes) e = ap (λ b. cond b (Some (Damaged key.id (Some (sha1 bytes)))) None) (names key bytes e)
