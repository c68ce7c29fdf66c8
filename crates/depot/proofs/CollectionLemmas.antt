-- A collection whose keys become fresh, or are taken back, one after another. The key lemmas are fresh_has, begins_as, turn_counts,
-- freshens_again, freshens_put, freshens_failed, so_far_next, so_far_stops, stales_one and back_next.
use Rattle.std.proofs.Common.{◌≡◌, ◌+◌, ◌<◌, ◌&&◌, ◌||◌, ℕ, Bool, true, false, cond, not, is_some, List, [], ◌∷◌, ◌++◌, length, take, get_or, Option, None, Some, Result, Ok, Err, refl, sym, ap, ap₂, ◌∙◌, subst, true≢false, ◌⊎◌, inl, inr, arith}
use Rattle.std.specs.Prelude.{⊤, OnErr, OnOk, map as map_list}
use Rattle.std.specs.FinMap as map
use Rattle.std.specs.FinSet as set
use Rattle.std.proofs.lemmas.List.{take_more}
use Rattle.ids.specs.Key.{key_cmp}
use Rattle.ids.specs.declared.key.Key.{Key}
use Rattle.ids.proofs.KeyOrderLemmas.{key_cmp_total}
use Rattle.object_graph.specs.Traversal.{is_in}
use Rattle.object_graph.proofs.KeyLemmas.{in_append, in_pushed, same_key, same_key-true}
use Rattle.collector.specs.Marks.{MarksView}
use Rattle.depot.specs.DepotView.{CollectionView, fresh_in}
use Rattle.depot.specs.Fresh.{AreNew, FreshensNone, FreshensOne, HasFresh, counted_turn}

-- a collection by its parts
abbrev pub collection_of : MarksView → map.FinMap key_cmp ⊤ → ℕ → ℕ → CollectionView
collection_of marks table stored turned = record { marks = marks; running = record { fresh = fresh_in table; stored = stored; turned = turned } }

-- a key is fresh where the table has it
pub fresh_has : (table : map.FinMap key_cmp ⊤) (key : Key) → set.contains (fresh_in table) key ≡ is_some (map.get table key)
fresh_has table key = set.contains-from_list key_cmp_total (map.keys table) key ∙ sym (map.contains_key-keys table key)

or_nothing : (b : Bool) → b ≡ (b || false)
or_nothing true = refl
or_nothing false = refl

and_all : (b : Bool) → b ≡ (b && true)
and_all true = refl
and_all false = refl

-- ---- a collection that begins, and its turns

no_keys : (xs : List (Key × ⊤)) → length xs ≡ 0 → xs ≡ []
no_keys [] e = refl
no_keys (x ∷ xs) e = absurd (omega (arith, e))

-- an empty table has no fresh key
pub begins_as : (marks : MarksView) (table : map.FinMap key_cmp ⊤) (stored turned : ℕ) → table ≡ map.empty → turned ≡ 0
    → collection_of marks table stored turned ≡ record { marks = marks; running = record { fresh = set.empty; stored = stored; turned = 0 } }
begins_as marks table stored turned none zero_turns =
    ap₂ (λ (fresh : set.FinSet key_cmp) (n : ℕ). record { marks = marks; running = record { fresh = fresh; stored = stored; turned = n } }) (ap fresh_in none ∙ empty_set) zero_turns
  where
    empty_set : fresh_in map.empty ≡ set.empty
    empty_set =
        let none : map.FinMap key_cmp ⊤ = map.empty in
        ap (λ (entries : List (Key × ⊤)). set.from_list {R = key_cmp} (map_list (λ (e : Key × ⊤). e.0) entries)) (no_keys (map.entries none) (sym (map.len-entries none) ∙ map.len-empty key_cmp ⊤))

pub turn_counts : (marks : MarksView) (table : map.FinMap key_cmp ⊤) (stored turned now : ℕ) (old : CollectionView) → now ≡ turned + 1 → collection_of marks table stored turned ≡ old
    → collection_of marks table stored now ≡ counted_turn old
turn_counts marks table stored turned now old more is = ap (λ (n : ℕ). collection_of marks table stored n) more ∙ ap counted_turn is

-- ---- one key

-- what a result promises brings what is wanted of it
pub ok_then : {T E P Q : Type 0} (r : Result T E) → (P → Q) → OnOk r P → OnOk r Q
ok_then (Ok value) brings is = brings is
ok_then (Err fault) brings is = tt

pub error_then : {T E P Q : Type 0} (r : Result T E) → (P → Q) → OnErr r P → OnErr r Q
error_then (Ok value) brings is = tt
error_then (Err fault) brings is = brings is

same_fresh : (marks : MarksView) (table after : map.FinMap key_cmp ⊤) (stored turned : ℕ) → after ≡ table
    → HasFresh (λ k. set.contains (fresh_in table) k) (collection_of marks table stored turned) (collection_of marks after stored turned)
same_fresh marks table after stored turned same = record { marks = refl; stored = refl; turned = refl; each = λ k. ap (λ (t : map.FinMap key_cmp ⊤). set.contains (fresh_in t) k) same }

module _ (marks : MarksView) (table : map.FinMap key_cmp ⊤) (stored turned : ℕ) (key : Key) (old : CollectionView) (is : collection_of marks table stored turned ≡ old) where
  -- it was fresh
  pub freshens_again : (listed : List Key) → is_some (map.get table key) ≡ true → FreshensOne key old old listed listed
  freshens_again listed there = subst (λ (c : CollectionView). FreshensOne key c c listed listed) is (record {
    fresh = record { marks = refl; stored = refl; turned = refl; each = λ k. more k (same_key k key) refl };
    lists = λ k. none k (same_key k key) refl;
  })
    where
      here : (k : Key) → same_key k key ≡ true → set.contains (fresh_in table) k ≡ true
      here k same = fresh_has table k ∙ subst (λ (q : Key). is_some (map.get table q) ≡ true) (sym (same_key-true k key same)) there

      more : (k : Key) (s : Bool) → same_key k key ≡ s → set.contains (fresh_in table) k ≡ (set.contains (fresh_in table) k || (s || false))
      more k true same = here k same ∙ sym (ap (λ b. b || true) (here k same))
      more k false other = or_nothing (set.contains (fresh_in table) k)

      none : (k : Key) (s : Bool) → same_key k key ≡ s → is_in listed k ≡ (is_in listed k || ((s || false) && not (set.contains (fresh_in table) k)))
      none k true same = or_nothing (is_in listed k) ∙ ap (λ b. is_in listed k || not b) (sym (here k same))
      none k false other = or_nothing (is_in listed k)

  -- it wasn't, and there is room for it
  pub freshens_put : (after : map.FinMap key_cmp ⊤) (listed more : List Key) → is_some (map.get table key) ≡ false → after ≡ map.insert table key tt → more ≡ listed ++ key ∷ []
      → FreshensOne key old (collection_of marks after stored turned) listed more
  freshens_put after listed more gone put pushed = subst (λ (c : CollectionView). FreshensOne key c (collection_of marks after stored turned) listed more) is (record {
    fresh = record {
      marks = refl;
      stored = refl;
      turned = refl;
      each = λ k.
          fresh_has after k ∙ ap (λ (t : map.FinMap key_cmp ⊤). is_some (map.get t k)) put ∙ ap is_some (map.get-insert key_cmp_total table key tt k)
          ∙ one_more (same_key k key) (map.get table k) ∙ ap (λ b. b || is_in (key ∷ []) k) (sym (fresh_has table k));
    };
    lists = λ k.
        ap (λ (keys : List Key). is_in keys k) pushed ∙ in_append listed (key ∷ []) k
        ∙ ap (λ b. is_in listed k || b) (new k (same_key k key) refl);
  })
    where
      one_more : (s : Bool) (o : Option ⊤) → is_some (cond s (Some tt) o) ≡ (is_some o || (s || false))
      one_more true None = refl
      one_more true (Some x) = refl
      one_more false None = refl
      one_more false (Some x) = refl

      new : (k : Key) (s : Bool) → same_key k key ≡ s → (s || false) ≡ ((s || false) && not (set.contains (fresh_in table) k))
      new k true same = sym (ap not (fresh_has table k ∙ subst (λ (q : Key). is_some (map.get table q) ≡ false) (sym (same_key-true k key same)) gone))
      new k false other = refl

  -- there is none: it may be listed, and isn't fresh
  pub freshens_unlisted : (listed more : List Key) → more ≡ listed → FreshensNone old old listed more
  freshens_unlisted listed more same = subst (λ (c : CollectionView). FreshensNone c c listed more) is (record {
    fresh = same_fresh marks table table stored turned refl;
    stays = λ k there. ap (λ (keys : List Key). is_in keys k) same ∙ there;
    came = λ k now gone. absurd (true≢false (sym now ∙ ap (λ (keys : List Key). is_in keys k) same ∙ gone));
  })

  pub freshens_failed : (after : map.FinMap key_cmp ⊤) (listed more : List Key) → is_some (map.get table key) ≡ false → after ≡ table → more ≡ listed ++ key ∷ []
      → FreshensNone old (collection_of marks after stored turned) listed more
  freshens_failed after listed more gone same pushed = subst (λ (c : CollectionView). FreshensNone c (collection_of marks after stored turned) listed more) is (record {
    fresh = same_fresh marks table after stored turned same;
    stays = λ k there. ap (λ (keys : List Key). is_in keys k) pushed ∙ in_append listed (key ∷ []) k ∙ ap (λ b. b || is_in (key ∷ []) k) there;
    came = λ k now before. by k (in_pushed listed key k (sym (ap (λ (keys : List Key). is_in keys k) pushed) ∙ now)) before;
  })
    where
      by : (k : Key) → (is_in listed k ≡ true) ⊎ (k ≡ key) → is_in listed k ≡ false → set.contains (fresh_in table) k ≡ false
      by k (inl there) before = absurd (true≢false (sym there ∙ before))
      by k (inr same_one) before = fresh_has table k ∙ subst (λ (q : Key). is_some (map.get table q) ≡ false) (sym same_one) gone

  -- it is taken back
  pub stales_one : (after : map.FinMap key_cmp ⊤) → after ≡ map.remove table key
      → HasFresh (λ k. set.contains old.running.fresh k && not (is_in (key ∷ []) k)) old (collection_of marks after stored turned)
  stales_one after removed = subst (λ (c : CollectionView). HasFresh (λ k. set.contains c.running.fresh k && not (is_in (key ∷ []) k)) c (collection_of marks after stored turned)) is (record {
    marks = refl;
    stored = refl;
    turned = refl;
    each = λ k.
        fresh_has after k ∙ ap (λ (t : map.FinMap key_cmp ⊤). is_some (map.get t k)) removed ∙ ap is_some (map.get-remove key_cmp_total table key k)
        ∙ one_less (same_key k key) (map.get table k) ∙ ap (λ b. b && not (is_in (key ∷ []) k)) (sym (fresh_has table k));
  })
    where
      one_less : (s : Bool) (o : Option ⊤) → is_some (cond s None o) ≡ (is_some o && not (s || false))
      one_less true None = refl
      one_less true (Some x) = refl
      one_less false None = refl
      one_less false (Some x) = refl

-- ---- keys one after another

-- the keys so far are fresh, and those that weren't are listed
pub record FreshenedSoFar (keys : List Key) (old new : CollectionView) (listed : List Key) : Type 0 where
  pub fresh : HasFresh (λ key. set.contains old.running.fresh key || is_in keys key) old new
  pub are_new : AreNew keys old.running.fresh listed

pub so_far_none : (old : CollectionView) (listed : List Key) → listed ≡ [] → FreshenedSoFar [] old old listed
so_far_none old listed none = record {
  fresh = record { marks = refl; stored = refl; turned = refl; each = λ key. or_nothing (set.contains old.running.fresh key) };
  are_new = record { each = λ key. ap (λ (keys : List Key). is_in keys key) none };
}

module _ (old : CollectionView) (keys : List Key) (i : ℕ) (key : Key) (more : i < length keys) (at : key ≡ get_or keys i key) where
  longer : take (i + 1) keys ≡ take i keys ++ key ∷ []
  longer = take_more keys i key more ∙ ap (λ (k : Key). take i keys ++ k ∷ []) (sym at)

  in_longer : (k : Key) → is_in (take (i + 1) keys) k ≡ (is_in (take i keys) k || is_in (key ∷ []) k)
  in_longer k = ap (λ (ks : List Key). is_in ks k) longer ∙ in_append (take i keys) (key ∷ []) k

  pub so_far_next : (mid new : CollectionView) (before listed : List Key) → FreshensOne key mid new before listed → FreshenedSoFar (take i keys) old mid before → FreshenedSoFar (take (i + 1) keys) old new listed
  so_far_next mid new before listed one so_far = record {
    fresh = record {
      marks = one.fresh.marks ∙ so_far.fresh.marks;
      stored = one.fresh.stored ∙ so_far.fresh.stored;
      turned = one.fresh.turned ∙ so_far.fresh.turned;
      each = λ k.
          one.fresh.each k ∙ ap (λ b. b || is_in (key ∷ []) k) (so_far.fresh.each k) ∙ joined (set.contains old.running.fresh k) (is_in (take i keys) k) (is_in (key ∷ []) k)
          ∙ ap (λ b. set.contains old.running.fresh k || b) (sym (in_longer k));
    };
    are_new = record {
      each = λ k.
          one.lists k ∙ ap₂ (λ (a : Bool) (b : Bool). a || (is_in (key ∷ []) k && not b)) (so_far.are_new.each k) (so_far.fresh.each k)
          ∙ listed_more (is_in (take i keys) k) (is_in (key ∷ []) k) (set.contains old.running.fresh k) ∙ ap (λ b. b && not (set.contains old.running.fresh k)) (sym (in_longer k));
    };
  }
    where
      joined : (a b c : Bool) → ((a || b) || c) ≡ (a || (b || c))
      joined true b c = refl
      joined false b c = refl

      listed_more : (front here fresh : Bool) → ((front && not fresh) || (here && not (fresh || front))) ≡ ((front || here) && not fresh)
      listed_more true true true = refl
      listed_more true true false = refl
      listed_more true false true = refl
      listed_more true false false = refl
      listed_more false true true = refl
      listed_more false true false = refl
      listed_more false false true = refl
      listed_more false false false = refl

  -- the keys from here on are one key and others
  pub back_next : (there : Key → Bool) (mid new : CollectionView) → HasFresh (λ k. set.contains mid.running.fresh k && not (is_in (key ∷ []) k && not (there k))) mid new
      → HasFresh (λ k. set.contains old.running.fresh k && not (is_in (take i keys) k && not (there k))) old mid
      → HasFresh (λ k. set.contains old.running.fresh k && not (is_in (take (i + 1) keys) k && not (there k))) old new
  back_next there mid new one so_far = record {
    marks = one.marks ∙ so_far.marks;
    stored = one.stored ∙ so_far.stored;
    turned = one.turned ∙ so_far.turned;
    each = λ k.
        one.each k ∙ ap (λ b. b && not (is_in (key ∷ []) k && not (there k))) (so_far.each k)
        ∙ twice (set.contains old.running.fresh k) (is_in (take i keys) k) (is_in (key ∷ []) k) (there k)
        ∙ ap (λ b. set.contains old.running.fresh k && not (b && not (there k))) (sym (in_longer k));
  }
    where
      twice : (fresh front here kept : Bool) → ((fresh && not (front && not kept)) && not (here && not kept)) ≡ (fresh && not ((front || here) && not kept))
      twice false front here kept = refl
      twice true true here true = unkept here
        where
          unkept : (h : Bool) → not (h && false) ≡ true
          unkept true = refl
          unkept false = refl
      twice true true here false = refl
      twice true false here kept = refl

  -- where none of them is kept
  pub stale_next : (mid new : CollectionView) → HasFresh (λ k. set.contains mid.running.fresh k && not (is_in (key ∷ []) k)) mid new
      → HasFresh (λ k. set.contains old.running.fresh k && not (is_in (take i keys) k)) old mid → HasFresh (λ k. set.contains old.running.fresh k && not (is_in (take (i + 1) keys) k)) old new
  stale_next mid new one so_far = record {
    marks = one.marks ∙ so_far.marks;
    stored = one.stored ∙ so_far.stored;
    turned = one.turned ∙ so_far.turned;
    each = λ k.
        one.each k ∙ ap (λ b. b && not (is_in (key ∷ []) k)) (so_far.each k) ∙ twice (set.contains old.running.fresh k) (is_in (take i keys) k) (is_in (key ∷ []) k)
        ∙ ap (λ b. set.contains old.running.fresh k && not b) (sym (in_longer k));
  }
    where
      twice : (fresh front here : Bool) → ((fresh && not front) && not here) ≡ (fresh && not (front || here))
      twice false front here = refl
      twice true true here = refl
      twice true false here = refl

-- nothing is taken back yet
pub back_none : (there : Key → Bool) (old : CollectionView) → HasFresh (λ k. set.contains old.running.fresh k && not (is_in [] k && not (there k))) old old
back_none there old = record { marks = refl; stored = refl; turned = refl; each = λ k. and_all (set.contains old.running.fresh k) }

pub stale_none : (old : CollectionView) → HasFresh (λ k. set.contains old.running.fresh k && not (is_in [] k)) old old
stale_none old = record { marks = refl; stored = refl; turned = refl; each = λ k. and_all (set.contains old.running.fresh k) }

-- a key that stays is as it was
pub kept_back : (there : Key → Bool) (key : Key) (old : CollectionView) → there key ≡ true → HasFresh (λ k. set.contains old.running.fresh k && not (is_in (key ∷ []) k && not (there k))) old old
kept_back there key old is = record { marks = refl; stored = refl; turned = refl; each = λ k. by k (same_key k key) refl }
  where
    by : (k : Key) (s : Bool) → same_key k key ≡ s → set.contains old.running.fresh k ≡ (set.contains old.running.fresh k && not ((s || false) && not (there k)))
    by k true same =
        and_all (set.contains old.running.fresh k)
        ∙ ap (λ b. set.contains old.running.fresh k && not (not b)) (sym (subst (λ (q : Key). there q ≡ true) (sym (same_key-true k key same)) is))
    by k false other = and_all (set.contains old.running.fresh k)

-- and one that doesn't leaves
pub gone_back : (there : Key → Bool) (key : Key) (old new : CollectionView) → there key ≡ false → HasFresh (λ k. set.contains old.running.fresh k && not (is_in (key ∷ []) k)) old new
    → HasFresh (λ k. set.contains old.running.fresh k && not (is_in (key ∷ []) k && not (there k))) old new
gone_back there key old new gone has = record { marks = has.marks; stored = has.stored; turned = has.turned; each = λ k. has.each k ∙ by k (same_key k key) refl }
  where
    by : (k : Key) (s : Bool) → same_key k key ≡ s → (set.contains old.running.fresh k && not (s || false)) ≡ (set.contains old.running.fresh k && not ((s || false) && not (there k)))
    by k true same = ap (λ b. set.contains old.running.fresh k && not (not b)) (sym (subst (λ (q : Key). there q ≡ false) (sym (same_key-true k key same)) gone))
    by k false other = refl

-- ---- where no key more finds room

-- what was fresh before, and nothing else
pub so_far_stops : (keys : List Key) (old mid failed new : CollectionView) (before listed shown : List Key) → shown ≡ listed → FreshenedSoFar keys old mid before → FreshensNone mid failed before listed
    → HasFresh (λ k. set.contains failed.running.fresh k && not (is_in shown k)) failed new → HasFresh (λ k. set.contains old.running.fresh k) old new
so_far_stops keys old mid failed new before listed shown same so_far none back = record {
  marks = back.marks ∙ none.fresh.marks ∙ so_far.fresh.marks;
  stored = back.stored ∙ none.fresh.stored ∙ so_far.fresh.stored;
  turned = back.turned ∙ none.fresh.turned ∙ so_far.fresh.turned;
  each = λ k.
      back.each k ∙ ap₂ (λ (a : Bool) (b : List Key). a && not (is_in b k)) (none.fresh.each k ∙ so_far.fresh.each k) same
      ∙ by k (set.contains old.running.fresh k) (is_in keys k) (is_in listed k) (is_in before k) refl refl refl refl;
}
  where
    by : (k : Key) (was among now earlier : Bool) → set.contains old.running.fresh k ≡ was → is_in keys k ≡ among → is_in listed k ≡ now → is_in before k ≡ earlier
        → ((set.contains old.running.fresh k || is_in keys k) && not (is_in listed k)) ≡ set.contains old.running.fresh k
    by k true among false earlier w a n e = ap₂ (λ (x : Bool) (y : Bool). (x || is_in keys k) && not y) w n ∙ sym w
    by k true among true true w a n e = absurd (true≢false (sym e ∙ so_far.are_new.each k ∙ ap (λ b. is_in keys k && not b) w ∙ never (is_in keys k)))
      where
        never : (b : Bool) → (b && false) ≡ false
        never true = refl
        never false = refl
    by k true among true false w a n e = absurd (true≢false (sym (so_far.fresh.each k ∙ ap (λ b. b || is_in keys k) w) ∙ none.came k n e))
    by k false false now earlier w a n e = ap₂ (λ (x : Bool) (y : Bool). (x || y) && not (is_in listed k)) w a ∙ sym w
    by k false true now earlier w a n e =
        ap₂ (λ (x : Bool) (y : Bool). (x || y) && not (is_in listed k)) w a
        ∙ ap not (none.stays k (so_far.are_new.each k ∙ ap₂ (λ (x : Bool) (y : Bool). x && not y) a w)) ∙ sym w
