-- A shelf in memory: how its next object is found, and its count of faults. The key lemmas are least-from, next-found,
-- ids-insert, ids-remove and begin-rose.
use Rattle.std.proofs.Common.{◌≡◌, ℕ, ◌+◌, ◌-◌, ◌^◌, ◌<◌, ◌≤◌, Bool, true, false, cond, not, List, [], ◌∷◌, length, min, Option, None, Some, is_some, IsSome, Result, Ok, Err, refl, sym, ap, ◌∙◌, arith, zero, suc, true≢false}
use Rattle.std.specs.Prelude.{option_map, replicate, OnOk, OnErr}
use Rattle.std.specs.Cmp.{tied_itself, ranks}
use Rattle.std.specs.FinMap as map
use Rattle.std.specs.Ordering.{eq_by_cmp, is_gt, nat_cmp, ordering_then}
use Rattle.std.specs.declared.cmp.Ordering.{Ordering}
use Rattle.std.specs.declared.cmp.Ordering.TheVariants.{Less, Equal, Greater}
use Rattle.ids.specs.FaultCount.{Rose, counted}
use Rattle.ids.specs.Key.{Objects, key_cmp}
use Rattle.ids.specs.Kind.{kind_place}
use Rattle.ids.specs.MapView.{IsAbove, IsNext}
use Rattle.ids.specs.ObjectId.{id_cmp, nil}
use Rattle.ids.specs.declared.key.Key.{Key}
use Rattle.ids.specs.declared.key.Kind.{Kind}
use Rattle.ids.specs.declared.key.Kind.TheVariants.{Commit, Fs, Block}
use Rattle.ids.proofs.KeyOrderLemmas.{key_cmp_total, key_cmp_exact}
use Rattle.object_store.proofs.MapLemmas.{tied_key}
use Rattle.object_store.specs.MemoryShelf.{FindsAt, FindsKey, HasIds, IsFirstFrom, IsFirstPast, IsLeastFrom, IsPast, MemoryShelfState, begun, fails_next}
use Rattle.object_store.specs.Shelf.{FindsNext}
use Rattle.object_store.specs.declared.shelf.Found.{Found}
use Rattle.std.proofs.lemmas.Bool.{not-false}

-- ---- the least key from one on

pub first-itself : (objects : Objects) (first : Key) → IsSome (map.get objects first) → IsFirstFrom objects first first
first-itself objects first there = record {
  there = there;
  past = ap is_gt (tied_itself key_cmp_total first);
  least = λ q past _. past;
}

-- a key that isn't stored has none that ties with it
behind : (objects : Objects) (first q : Key) (P : Type 0) → is_some (map.get objects first) ≡ false → IsSome (map.get objects q)
    → (r : Ordering) → key_cmp first q ≡ r → is_gt r ≡ false → (key_cmp first q ≡ Less → P) → P
behind objects first q P absent there Less e h f = f e
behind objects first q P absent there Equal e h f =
    absurd (true≢false (sym there ∙ ap (λ k. is_some (map.get objects k)) (sym (key_cmp_exact first q e)) ∙ absent))
behind objects first q P absent there Greater e h f = absurd (true≢false h)

nowhere : (o : Option (List ℕ)) → (IsSome o → o ≡ None) → o ≡ None
nowhere None f = refl
nowhere (Some x) f = f refl

pub least-from : (objects : Objects) (first : Key) (result : Option Key) → is_some (map.get objects first) ≡ false
    → IsNext objects (Some first) result → IsLeastFrom objects first result
least-from objects first None absent next = λ q past. nowhere (map.get objects q) (λ there.
    behind objects first q (map.get objects q ≡ None) absent there (key_cmp first q) refl past (next q))
least-from objects first (Some key) absent next = record {
  there = next.there;
  past = ap is_gt next.above;
  least = λ q past there. behind objects first q (is_gt (key_cmp key q) ≡ false) absent there (key_cmp first q) refl past (λ less. next.least q less there);
}

-- ---- the next object of a kind

place_tie : (kind : Kind) → nat_cmp (kind_place kind) (kind_place kind) ≡ Equal
place_tie Commit = refl
place_tie Fs = refl
place_tie Block = refl

-- keys of one kind are ordered by their ids
pub one_kind : (kind : Kind) (a b : List ℕ) → key_cmp (record { kind = kind; id = a }) (record { kind = kind; id = b }) ≡ id_cmp a b
one_kind kind a b = ap (λ r. ordering_then r (id_cmp a b)) (place_tie kind)

-- nothing is below 0
not_below : (x : ℕ) → nat_cmp 0 x ≡ Greater → false ≡ true
not_below x e = let below : x < 0 = rw e at (ranks 0 x) in absurd (omega arith)

not_past : (r s : Ordering) → (r ≡ Greater → false ≡ true) → is_gt s ≡ false → is_gt (ordering_then r s) ≡ false
not_past Less s f e = refl
not_past Equal s f e = e
not_past Greater s f e = absurd (true≢false (sym (f refl)))

-- no id of n bytes is before n zeros
zeros : (n : ℕ) (id : List ℕ) → length id ≡ n → is_gt (id_cmp (replicate n 0) id) ≡ false
zeros zero [] e = refl
zeros zero (x ∷ id) e = absurd (omega arith)
zeros (suc n) [] e = absurd (omega arith)
zeros (suc n) (x ∷ id) e = not_past (nat_cmp 0 x) (id_cmp (replicate n 0) id) (not_below x) (zeros n id (omega arith))

past_id : (kind : Kind) (after : Option (List ℕ)) (id : List ℕ) → length id ≡ 20 → IsAbove id_cmp after id → IsPast kind after (record { kind = kind; id = id })
past_id kind None id size above = ap is_gt (one_kind kind nil id) ∙ zeros 20 id size
past_id kind (Some last) id size above = one_kind kind last id ∙ above

absurd_some : {A B : Type 0} (o : Option A) → o ≡ None → is_some o ≡ true → B
absurd_some None e there = absurd (true≢false (sym there))
absurd_some (Some x) e there = absurd (true≢false (ap is_some e))

-- two keys of which neither is before the other's kind are of one kind
one_place : (kind own : Kind) (r s : Ordering) → is_gt (ordering_then (nat_cmp (kind_place kind) (kind_place own)) r) ≡ false
    → is_gt (ordering_then (nat_cmp (kind_place own) (kind_place kind)) s) ≡ false → own ≡ kind
one_place Commit Commit r s e f = refl
one_place Commit Fs r s e f = absurd (true≢false f)
one_place Commit Block r s e f = absurd (true≢false f)
one_place Fs Commit r s e f = absurd (true≢false e)
one_place Fs Fs r s e f = refl
one_place Fs Block r s e f = absurd (true≢false f)
one_place Block Commit r s e f = absurd (true≢false e)
one_place Block Fs r s e f = absurd (true≢false e)
one_place Block Block r s e f = refl

past_kind : (kind : Kind) (after : Option (List ℕ)) (key : Key) (id : List ℕ) → IsPast kind after key
    → is_gt (key_cmp key (record { kind = kind; id = id })) ≡ false → key.kind ≡ kind
past_kind kind None key id past least = one_place kind key.kind (id_cmp nil key.id) (id_cmp key.id id) past least
past_kind kind (Some last) key id past least = one_place kind key.kind (id_cmp last key.id) (id_cmp key.id id) (ap is_gt past) least

pub next-found : (objects : Objects) (kind : Kind) (after : Option (List ℕ)) → HasIds objects → (key : Key) → IsFirstPast objects kind after key
    → (found : Option Found) → FindsAt objects kind key found → FindsNext objects kind after found
next-found objects kind after ids key first None at = λ id above. nowhere (map.get objects (record { kind = kind; id = id })) (λ there.
    let past = past_id kind after id (ids (record { kind = kind; id = id }) there) above in
    let least = first.least (record { kind = kind; id = id }) past there in
    absurd_some (map.get objects key) (at (past_kind kind after key id first.past least)) first.there)
next-found objects kind after ids key first (Some found) at =
    let same : key ≡ record { kind = kind; id = found.id } = λ t. record { kind = at.0 t; id = sym at.1 t } in
    record {
      there = ap (λ k. option_map length (map.get objects k)) (sym same) ∙ at.2;
      above = above_by after first.past;
      least = λ id above there. ap is_gt (sym (one_kind kind found.id id)) ∙ ap (λ k. is_gt (key_cmp k (record { kind = kind; id = id }))) (sym same)
          ∙ first.least (record { kind = kind; id = id }) (past_id kind after id (ids (record { kind = kind; id = id }) there) above) there;
    }
  where
    above_by : (after : Option (List ℕ)) → IsPast kind after key → IsAbove id_cmp after found.id
    above_by None past = tt
    above_by (Some last) past =
        let same : key ≡ record { kind = kind; id = found.id } = λ t. record { kind = at.0 t; id = sym at.1 t } in
        sym (one_kind kind last found.id) ∙ ap (key_cmp (record { kind = kind; id = last })) (sym same) ∙ past

pub none-found : (objects : Objects) (kind : Kind) (after : Option (List ℕ)) → HasIds objects → FindsKey objects kind after None
    → FindsNext objects kind after None
none-found objects kind after ids none id above = nowhere (map.get objects (record { kind = kind; id = id })) (λ there.
    none (record { kind = kind; id = id }) (past_id kind after id (ids (record { kind = kind; id = id }) there) above))

-- ---- the ids have their sizes

pub ids-empty : (objects : Objects) → objects ≡ map.empty → HasIds objects
ids-empty objects e q there =
    absurd (true≢false (sym there ∙ ap (λ m. is_some (map.get m q)) e ∙ ap is_some (map.get-empty key_cmp q)))

pub ids-insert : (objects : Objects) (k : Key) (bytes : List ℕ) → HasIds objects → length k.id ≡ 20 → HasIds (map.insert objects k bytes)
ids-insert objects k bytes ids size q there =
    by (eq_by_cmp key_cmp q k) refl (ap is_some (sym (map.get-insert key_cmp_total objects k bytes q)) ∙ there)
  where
    by : (b : Bool) → eq_by_cmp key_cmp q k ≡ b → is_some (cond b (Some bytes) (map.get objects q)) ≡ true → length q.id ≡ 20
    by true e there = ap (λ (x : Key). length x.id) (tied_key q k e) ∙ size
    by false e there = ids q there

pub ids-remove : (objects : Objects) (k : Key) → HasIds objects → HasIds (map.remove objects k)
ids-remove objects k ids q there =
    by (eq_by_cmp key_cmp q k) (ap is_some (sym (map.get-remove key_cmp_total objects k q)) ∙ there)
  where
    by : (b : Bool) → is_some (cond b None (map.get objects q)) ≡ true → length q.id ≡ 20
    by true there = absurd (true≢false (sym there))
    by false there = ids q there

pub ids-put : {T E : Type 0} (old new : Objects) (k : Key) (bytes : List ℕ) (result : Result T E) → HasIds old → length k.id ≡ 20
    → OnOk result (new ≡ map.insert old k bytes) → OnErr result (new ≡ old) → HasIds new
ids-put old new k bytes (Ok x) ids size ok err = rw ok (ids-insert old k bytes ids size)
ids-put old new k bytes (Err e) ids size ok err = rw err ids

-- ---- the count of faults

pub begin-rose : (old new : MemoryShelfState) (may : Bool) → old.faults < 2 ^ 64 → may ≡ not (fails_next old) → may ≡ false → new ≡ begun old
    → (old.faults ≤ new.faults) × Rose old.faults new.faults
begin-rose old new may small is stopped e =
    let due : fails_next old ≡ true = not-false (fails_next old) (sym is ∙ stopped) in
    let faults : new.faults ≡ counted old.faults = ap (λ (s : MemoryShelfState). s.faults) e ∙ ap (λ b. cond b (counted old.faults) old.faults) due in
    rose old.faults new.faults small faults
  where
    rose : (f n : ℕ) → f < 2 ^ 64 → n ≡ min (f + 1) (2 ^ 64 - 1) → (f ≤ n) × Rose f n
    rose f n small e = (omega arith, omega arith)
