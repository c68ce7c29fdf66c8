-- What a sweep takes, key after key. The key lemmas are took_none, took_then, took_err, took_refused, still_known, gives_told,
-- gives_refused, gives_on, least_then, least_err, strays_at_key, strays_after, and those of what a sweep answers.
use Rattle.std.proofs.Common.{◌≡◌, ◌≢◌, ◌&&◌, ◌||◌, ◌⊎◌, ◌<◌, ◌≤◌, ◌+◌, inl, inr, ℕ, Bool, true, false, cond, not, if◌then◌else◌, is_some, arith, List, [], ◌∷◌, ◌++◌, length, take, refl, sym, ap, ◌∙◌, subst, subst₂, true≢false, IsTrue, Option, None, Some, option_map, Result, Ok, Err}
use Rattle.std.specs.Prelude.{⊤, IfErr, IfOk, IfSome}
use Rattle.std.specs.Result.{result_err}
use Rattle.std.specs.Cmp.{eq_by_cmp_equiv}
use Rattle.std.specs.FinMap as map
use Rattle.std.specs.List.{AllByRecursion, IsDistinct}
use Rattle.std.specs.List.Sorted.{IsStrictlySortedBy}
use Rattle.std.specs.Ordering.{is_gt}
use Rattle.std.specs.declared.cmp.Ordering.{Ordering}
use Rattle.std.specs.declared.cmp.Ordering.TheVariants.{Less, Equal, Greater}
use Rattle.std.proofs.lemmas.Bool.{and_parts, not-true, or_left, or_right}
use Rattle.std.proofs.lemmas.List.{length_push, take-append-le, take_all}
use Rattle.std.proofs.lemmas.Map.Keys.{IsDistinct-push}
use Rattle.ids.specs.Key.{Objects, key_cmp}
use Rattle.ids.specs.MapView.{IsLeastAbove}
use Rattle.ids.specs.declared.key.Key.{Key}
use Rattle.ids.proofs.BasicLemmas.{pushed_is_some}
use Rattle.ids.proofs.KeyOrderLemmas.{key_cmp_exact, key_cmp_total}
use Rattle.library_rules.specs.Changes.{without}
use Rattle.object_graph.specs.Traversal.{is_in}
use Rattle.object_graph.proofs.KeyLemmas.{in_append, in_pushed, same_key, same_key-itself, same_key-true}
use Rattle.object_store.specs.Shelf.{Contents, GivesAlso, GivesNoMore, removed_known}
use Rattle.object_store.specs.Store.{CountsShelf, is_free, is_of_shelf}
use Rattle.object_store.specs.StoreView.{AddsNoStray, Index, IsStray, RemovalChanges, StoreView, left_after, objects_of}
use Rattle.object_store.specs.declared.error.StoreFault.{StoreFault}
use Rattle.object_store.specs.declared.error.StoreFault.TheVariants.{Taken, Wrong, Damaged, Shelf, NoMemory}
use Rattle.object_store.specs.declared.shelf.Slot.{Slot}
use Rattle.object_store.specs.declared.shelf.Slot.TheVariants.{Object}
use Rattle.object_store.proofs.StrayLemmas.{strays_kept, strays_removed}
use Rattle.tree_model.proofs.LastEntryLemmas.{IsStrictlySortedBy-push}
use Rattle.collector.specs.Marks.{Candidates}
use Rattle.collector.specs.Sweeping.{CountsSwept, EndsAtFault, EndsSo, GivesOrNothing, IsLast, StraysAtEnd, StraysIf, TakesKey, TakesNone, TellsRest, Took, TookLeast, TookOne, is_listed}
use Rattle.collector.proofs.CountedLemmas.{len_less}

-- keys leave one after another
pub without_last : (objects : Objects) (removed : List Key) (key : Key) → without objects (removed ++ key ∷ []) ≡ map.remove (without objects removed) key
without_last objects [] key = refl
without_last objects (k ∷ removed) key = without_last (map.remove objects k) removed key

and_true : (b : Bool) → b ≡ (b && true)
and_true true = refl
and_true false = refl

none_left : (o : Option Objects) → o ≡ option_map (λ objects. without objects []) o
none_left None = refl
none_left (Some objects) = refl

pub took_none : {S : Type 0} (contents : S → Option Contents) (store : StoreView S) (candidates : Candidates) → Took contents store store candidates candidates []
unfolding IsDistinct
took_none contents store candidates = record {
  each = λ key e. absurd (true≢false (sym e));
  once = tt;
  candidates = λ key. and_true (is_listed candidates key);
  size = omega arith;
  index = λ key. refl;
  held = omega arith;
  objects = none_left (objects_of contents store);
}

-- ---- one key more

listed_then : (s : Bool) (o : Option ⊤) (b c : Bool) → is_some o ≡ (b && not c) → is_some (cond s None o) ≡ (b && not (c || (s || false)))
listed_then true o true true e = refl
listed_then true o true false e = refl
listed_then true o false c e = refl
listed_then false o b true e = e
listed_then false o b false e = e

held_then : (s c : Bool) (before now : Option ℕ) → now ≡ (if c then None else before) → cond s None now ≡ (if c || (s || false) then None else before)
held_then true true before now e = refl
held_then true false before now e = refl
held_then false true before now e = e
held_then false false before now e = e

objects_then : (first : Option Objects) (removed : List Key) (key : Key)
    → option_map (λ objects. map.remove objects key) (option_map (λ objects. without objects removed) first) ≡ option_map (λ objects. without objects (removed ++ key ∷ [])) first
objects_then None removed key = refl
objects_then (Some objects) removed key = ap (λ (o : Objects). Some o) (sym (without_last objects removed key))

module _ {S : Type 0} (contents : S → Option Contents) (first next last : StoreView S) (before now after : Candidates) (removed told : List Key) (key : Key) where
  pub took_then : Took contents first next before now removed → TakesKey contents next last now after removed told key → is_listed now key ≡ true
      → is_some (map.get next.index key) ≡ true → Took contents first last before after told
  took_then took takes there known = subst (λ (keys : List Key). Took contents first last before after keys) (sym takes.removed) pushed
    where
      parts : (is_listed before key ≡ true) × (not (is_in removed key) ≡ true)
      parts = and_parts (is_listed before key) (not (is_in removed key)) (sym (took.candidates key) ∙ there)

      told_of : (q : Key) → is_in (removed ++ key ∷ []) q ≡ true → is_listed before q ≡ true
      told_of q e = elim (in_pushed removed key q e) [ inl old ↦ took.each q old | inr own ↦ subst (λ (k : Key). is_listed before k ≡ true) (sym own) parts.0 ]

      listed : (q : Key) → is_listed after q ≡ (is_listed before q && not (is_in (removed ++ key ∷ []) q))
      listed q =
          ap is_some (ap (λ (c : Candidates). map.get c q) takes.candidates ∙ map.get-remove key_cmp_total now key q)
          ∙ listed_then (same_key q key) (map.get now q) (is_listed before q) (is_in removed q) (took.candidates q)
          ∙ ap (λ (b : Bool). is_listed before q && not b) (sym (in_append removed (key ∷ []) q))

      held_at : (q : Key) → map.get last.index q ≡ (if is_in (removed ++ key ∷ []) q then None else map.get first.index q)
      held_at q =
          ap (λ (i : Index). map.get i q) takes.index ∙ map.get-remove key_cmp_total next.index key q
          ∙ held_then (same_key q key) (is_in removed q) (map.get first.index q) (map.get next.index q) (took.index q)
          ∙ ap (λ (b : Bool). if b then None else map.get first.index q) (sym (in_append removed (key ∷ []) q))

      pushed : Took contents first last before after (removed ++ key ∷ [])
      pushed = record {
        each = told_of;
        once = IsDistinct-push (eq_by_cmp_equiv key_cmp_total) removed key took.once (not-true (is_in removed key) parts.1);
        candidates = listed;
        size = omega (arith, took.size, len_less now key there, ap map.len takes.candidates, length_push removed key);
        index = held_at;
        held = omega (arith, took.held, len_less next.index key known, ap map.len takes.index, length_push removed key);
        objects = takes.objects ∙ ap (option_map (λ objects. map.remove objects key)) took.objects ∙ objects_then (objects_of contents first) removed key;
      }

-- ---- what is left, and what may be given

-- what is still to be taken is in the index
pub still_known : {S : Type 0} (contents : S → Option Contents) (old new : StoreView S) (before after : Candidates) (removed : List Key)
    → ((key : Key) → is_listed before key ≡ true → is_some (map.get old.index key) ≡ true) → Took contents old new before after removed
    → (key : Key) → is_listed after key ≡ true → is_some (map.get new.index key) ≡ true
still_known contents old new before after removed known took key there =
    ap is_some (took.index key ∙ ap (λ (b : Bool). if b then None else map.get old.index key) (not-true (is_in removed key) parts.1)) ∙ known key parts.0
  where
    parts : (is_listed before key ≡ true) × (not (is_in removed key) ≡ true)
    parts = and_parts (is_listed before key) (not (is_in removed key)) (sym (took.candidates key) ∙ there)

-- the keys that were told before are told still, where this one is told last
told_on : (removed told : List Key) (key : Key) → told ≡ removed ++ key ∷ [] → (other : Key) → is_in removed other ≡ true → is_in told other ≡ true
told_on removed told key is other there =
    ap (λ (keys : List Key). is_in keys other) is ∙ in_append removed (key ∷ []) other ∙ or_left (is_in removed other) (is_in (key ∷ []) other) there

-- it is told
told_itself : (removed told : List Key) (key : Key) → told ≡ removed ++ key ∷ [] → is_in told key ≡ true
told_itself removed told key is =
    ap (λ (keys : List Key). is_in keys key) is ∙ in_append removed (key ∷ []) key
    ∙ or_right (is_in removed key) (is_in (key ∷ []) key) (or_left (same_key key key) (is_in [] key) (same_key-itself key))

-- what may be given besides, once a key left that is told last
pub gives_told : (before now : Slot → Option (List ℕ) → Type 0) (removed told : List Key) (key : Key) → told ≡ removed ++ key ∷ [] → GivesAlso before now (Object key) None
    → GivesOrNothing before now told
gives_told before now removed told key is also slot given may = elim (also slot given may) [ inl was ↦ inl was | inr gone ↦ inr (key, told_itself removed told key is, gone.0, gone.1) ]

-- the same where it was refused
pub gives_refused : {S : Type 0} (contents : S → Option Contents) (old new : StoreView S) (candidates after : Candidates) (before now : Slot → Option (List ℕ) → Type 0)
    (removed told : List Key) (key : Key) (fault : StoreFault) → TookOne contents old new candidates after removed told key (Err fault)
    → GivesAlso before now (Object key) None → (is_of_shelf fault ≡ false → GivesNoMore before now) → GivesOrNothing before now told
gives_refused contents old new candidates after before now removed told key Shelf one also same = gives_told before now removed told key one.removed also
gives_refused contents old new candidates after before now removed told key NoMemory one also same = λ slot given may. inl (same refl slot given may)
gives_refused contents old new candidates after before now removed told key (Taken id) one also same = absurd one
gives_refused contents old new candidates after before now removed told key (Wrong id) one also same = absurd one
gives_refused contents old new candidates after before now removed told key (Damaged want got) one also same = absurd one

pub gives_then : (first next last : Slot → Option (List ℕ) → Type 0) (removed told : List Key) → ((key : Key) → is_in removed key ≡ true → is_in told key ≡ true)
    → GivesOrNothing first next removed → GivesOrNothing next last told → GivesOrNothing first last told
gives_then first next last removed told on one two slot given is = elim (two slot given is) [
  | inl was ↦ elim (one slot given was) [ inl earlier ↦ inl earlier | inr gone ↦ inr (gone.0, on gone.0 gone.1, gone.2, gone.3) ]
  | inr gone ↦ inr gone
]

-- after one more, which left or was refused
pub gives_on : {S : Type 0} (contents : S → Option Contents) (old new : StoreView S) (candidates after : Candidates) (first next last : Slot → Option (List ℕ) → Type 0)
    (removed told : List Key) (key : Key) (result : Result ⊤ StoreFault) → TookOne contents old new candidates after removed told key result
    → GivesOrNothing first next removed → GivesOrNothing next last told → GivesOrNothing first last told
gives_on contents old new candidates after first next last removed told key (Ok done) one = gives_then first next last removed told (told_on removed told key one.removed)
gives_on contents old new candidates after first next last removed told key (Err Shelf) one = gives_then first next last removed told (told_on removed told key one.removed)
gives_on contents old new candidates after first next last removed told key (Err NoMemory) one =
    gives_then first next last removed told (λ other there. ap (λ (keys : List Key). is_in keys other) one.removed ∙ there)
gives_on contents old new candidates after first next last removed told key (Err (Taken id)) one = absurd one
gives_on contents old new candidates after first next last removed told key (Err (Wrong id)) one = absurd one
gives_on contents old new candidates after first next last removed told key (Err (Damaged want got)) one = absurd one

-- ---- in which order they leave

all_in : (P : Key → Type 0) (keys : List Key) → ((key : Key) → is_in keys key ≡ true → P key) → AllByRecursion P keys
all_in P [] each = tt
all_in P (key ∷ keys) each =
    (each key (or_left (same_key key key) (is_in keys key) (same_key-itself key)), all_in P keys (λ other there. each other (or_right (same_key other key) (is_in keys other) there)))

pub least_none : (candidates : Candidates) (removed : List Key) → removed ≡ [] → TookLeast candidates removed
unfolding IsStrictlySortedBy
least_none candidates removed none = subst (λ (keys : List Key). TookLeast candidates keys) (sym none) (record { order = tt; least = λ key other e there. absurd (true≢false (sym e)) })

-- what isn't the least of all is above it
above_least : (o : Ordering) → is_gt o ≡ false → (o ≡ Equal → ⊥) → o ≡ Less
above_least Less e other = refl
above_least Equal e other = absurd (other refl)
above_least Greater e other = absurd (true≢false e)

not_here : (s : Bool) (o : Option ⊤) → is_some (cond s None o) ≡ true → (s ≡ false) × (is_some o ≡ true)
not_here true o e = absurd (true≢false (sym e))
not_here false o e = (refl, e)

pub least_then : (now after : Candidates) (removed told : List Key) (key : Key) → after ≡ map.remove now key → told ≡ removed ++ key ∷ [] → IsLeastAbove now None key
    → TookLeast now removed → TookLeast after told
least_then now after removed told key gone pushed is took =
    subst (λ (keys : List Key). TookLeast after keys) (sym pushed)
    (record { order = IsStrictlySortedBy-push key_cmp removed key took.order (all_in (λ q. key_cmp q key ≡ Less) removed (λ q there. took.least q key there is.there)); least = least })
  where
    still : (other : Key) → is_listed after other ≡ true → (same_key other key ≡ false) × (is_listed now other ≡ true)
    still other there =
        not_here (same_key other key) (map.get now other)
        (sym (ap is_some (ap (λ (c : Candidates). map.get c other) gone ∙ map.get-remove key_cmp_total now key other)) ∙ there)

    -- the key itself is below what is left
    below : (other : Key) → is_listed after other ≡ true → key_cmp key other ≡ Less
    below other there =
        above_least (key_cmp key other) (is.least other tt (still other there).1)
        (λ same. true≢false (sym (ap (λ (k : Key). same_key k key) (sym (key_cmp_exact key other same)) ∙ same_key-itself key) ∙ (still other there).0))

    least : (q other : Key) → is_in (removed ++ key ∷ []) q ≡ true → is_listed after other ≡ true → key_cmp q other ≡ Less
    least q other e there =
        elim (in_pushed removed key q e)
        [ inl old ↦ took.least q other old (still other there).1 | inr own ↦ subst (λ (k : Key). key_cmp k other ≡ Less) (sym own) (below other there) ]

-- ---- what comes to lie beside

pub strays_at_key : {S : Type 0} (contents : S → Option Contents) (old new : StoreView S) (before after : Candidates) (told_before told : List Key) (key : Key) (fault : StoreFault)
    → RemovalChanges contents old new key (Err fault) → TookOne contents old new before after told_before told key (Err fault) → StraysAtEnd contents old new told (Some fault)
strays_at_key contents old new before after told_before told key Shelf changes one = λ other stray. by other stray (same_key other key) refl
  where
    was : (other : Key) → IsStray contents new other → same_key other key ≡ false
        → (contents new.shelf ≡ contents old.shelf) ⊎ (contents new.shelf ≡ removed_known (contents old.shelf) (Object key)) → IsStray contents old other
    was other stray apart (inl kept) = record {
      held = stray.held;
      told = sym kept ∙ stray.told;
      lies = stray.lies;
      unknown =
          ap (λ (b : Bool). cond b None (map.get old.index other)) (sym apart) ∙ sym (map.get-remove key_cmp_total old.index key other) ∙ ap (λ (i : Index). map.get i other) (sym changes.index) ∙ stray.unknown;
    }
    was other stray apart (inr gone) = strays_removed contents old new key (Ok tt) (changes.index, gone) other stray

    by : (other : Key) → IsStray contents new other → (b : Bool) → same_key other key ≡ b → IsStray contents old other ⊎ IsLast told other
    by other stray true same = inr (record { front = told_before; is = one.removed ∙ ap (λ (k : Key). told_before ++ k ∷ []) (sym (same_key-true other key same)) })
    by other stray false apart = inl (was other stray apart changes.shelf)
strays_at_key contents old new before after told_before told key NoMemory changes one = strays_kept contents old new changes.index changes.shelf
strays_at_key contents old new before after told_before told key (Taken id) changes one = absurd one
strays_at_key contents old new before after told_before told key (Wrong id) changes one = absurd one
strays_at_key contents old new before after told_before told key (Damaged want got) changes one = absurd one

pub strays_after : {S : Type 0} (contents : S → Option Contents) (first next last : StoreView S) (removed : List Key) (fault : Option StoreFault) → AddsNoStray contents first next
    → StraysAtEnd contents next last removed fault → StraysAtEnd contents first last removed fault
strays_after {S} contents first next last removed None adds strays = λ key stray. adds key (strays key stray)
strays_after {S} contents first next last removed (Some fault) adds strays = by (is_of_shelf fault) strays
  where
    by : (b : Bool) → StraysIf b contents next last removed → StraysIf b contents first last removed
    by true ends = λ key stray. elim (ends key stray) [ inl old ↦ inl (adds key old) | inr own ↦ inr own ]
    by false ends = λ key stray. adds key (ends key stray)

-- ---- one key that is refused

took_same : {S : Type 0} (contents : S → Option Contents) (first next last : StoreView S) (before now after : Candidates) (removed told : List Key)
    → Took contents first next before now removed → TakesNone contents next last now after removed told → Took contents first last before after told
took_same contents first next last before now after removed told took none = subst (λ (keys : List Key). Took contents first last before after keys) (sym none.removed) same
  where
    same : Took contents first last before after removed
    same = record {
      each = took.each;
      once = took.once;
      candidates = λ key. ap (λ (c : Candidates). is_listed c key) none.candidates ∙ took.candidates key;
      size = omega (arith, took.size, ap map.len none.candidates);
      index = λ key. ap (λ (i : Index). map.get i key) none.kept.index ∙ took.index key;
      held = omega (arith, took.held, ap map.len none.kept.index);
      objects = none.kept.objects ∙ took.objects;
    }

pub took_err : {S : Type 0} (contents : S → Option Contents) (first next last : StoreView S) (before now after : Candidates) (removed told : List Key) (key : Key) (fault : StoreFault)
    → Took contents first next before now removed → TookOne contents next last now after removed told key (Err fault) → is_listed now key ≡ true
    → is_some (map.get next.index key) ≡ true → Took contents first last before after told
took_err contents first next last before now after removed told key Shelf took one there known = took_then contents first next last before now after removed told key took one there known
took_err contents first next last before now after removed told key NoMemory took one there known = took_same contents first next last before now after removed told took one
took_err contents first next last before now after removed told key (Taken id) took one there known = absurd one
took_err contents first next last before now after removed told key (Wrong id) took one there known = absurd one
took_err contents first next last before now after removed told key (Damaged want got) took one there known = absurd one

pub few_err : {S : Type 0} (contents : S → Option Contents) (next last : StoreView S) (now after : Candidates) (removed told : List Key) (key : Key) (fault : StoreFault) (most : ℕ)
    → TookOne contents next last now after removed told key (Err fault) → length removed < most → length told ≤ most
few_err contents next last now after removed told key Shelf most one less = omega (arith, less, ap length one.removed, length_push removed key)
few_err contents next last now after removed told key NoMemory most one less = omega (arith, less, ap length one.removed)
few_err contents next last now after removed told key (Taken id) most one less = absurd one
few_err contents next last now after removed told key (Wrong id) most one less = absurd one
few_err contents next last now after removed told key (Damaged want got) most one less = absurd one

pub least_err : {S : Type 0} (contents : S → Option Contents) (next last : StoreView S) (now after : Candidates) (removed told : List Key) (key : Key) (fault : StoreFault)
    → TookOne contents next last now after removed told key (Err fault) → IsLeastAbove now None key → TookLeast now removed → TookLeast after told
least_err contents next last now after removed told key Shelf one is took = least_then now after removed told key one.candidates one.removed is took
least_err contents next last now after removed told key NoMemory one is took =
    subst₂ (λ (c : Candidates) (keys : List Key). TookLeast c keys) (sym one.candidates) (sym one.removed) took
least_err contents next last now after removed told key (Taken id) one is took = absurd one
least_err contents next last now after removed told key (Wrong id) one is took = absurd one
least_err contents next last now after removed told key (Damaged want got) one is took = absurd one

pub told_err : {S : Type 0} (contents : S → Option Contents) (next last : StoreView S) (now after : Candidates) (removed told : List Key) (key : Key) (fault : StoreFault)
    → TookOne contents next last now after removed told key (Err fault) → is_of_shelf fault ≡ true → told ≢ []
told_err contents next last now after removed told key Shelf one is none = pushed_is_some removed key (sym one.removed ∙ none)
told_err contents next last now after removed told key NoMemory one is none = true≢false (sym is)
told_err contents next last now after removed told key (Taken id) one is none = one
told_err contents next last now after removed told key (Wrong id) one is none = one
told_err contents next last now after removed told key (Damaged want got) one is none = one

take_told : (told : List Key) (key : Key) → take (length told) (told ++ key ∷ []) ≡ told
take_told told key = take-append-le (length told) told (key ∷ []) (omega arith) ∙ take_all (length told) told (omega arith)

-- what a removal that was refused leaves, with what is told then
pub took_refused : {S : Type 0} (contents : S → Option Contents) (old new : StoreView S) (before after : Candidates) (told_before listed told : List Key) (key : Key) (count : ℕ) (fault : StoreFault)
    → RemovalChanges contents old new key (Err fault) → objects_of contents new ≡ left_after (objects_of contents old) key (Err fault)
    → listed ≡ told_before ++ key ∷ [] → count ≡ length told_before → TellsRest fault before after listed told key count
    → TookOne contents old new before after told_before told key (Err fault)
took_refused contents old new before after told_before listed told key count Shelf changes left pushed counted rest = record {
  candidates = rest.0;
  removed = rest.1 ∙ pushed;
  index = changes.index;
  objects = left;
}
took_refused contents old new before after told_before listed told key count NoMemory changes left pushed counted rest = record {
  candidates = rest.0;
  removed =
      rest.1 ∙ ap (λ (n : ℕ). take n listed) counted ∙ ap (λ (keys : List Key). take (length told_before) keys) pushed ∙ take_told told_before key;
  kept = changes;
}
took_refused contents old new before after told_before listed told key count (Taken id) changes left pushed counted rest = changes
took_refused contents old new before after told_before listed told key count (Wrong id) changes left pushed counted rest = changes
took_refused contents old new before after told_before listed told key count (Damaged want got) changes left pushed counted rest = changes

-- no candidate is left
pub none_len : (candidates : Candidates) → ((key : Key) → map.get candidates key ≡ None) → map.len candidates ≡ 0
none_len candidates none =
    ap map.len (map.same_map key_cmp_total key_cmp_exact candidates map.empty (λ key. none key ∙ sym (map.get-empty key_cmp key))) ∙ map.len-empty key_cmp ⊤

-- ---- what a sweep answers

pub ended_well : (P : ⊤ → Type 0) (r : Result ⊤ StoreFault) (fault : Option StoreFault) → fault ≡ result_err r → fault ≡ None → IfOk r P → P tt
ended_well P (Ok done) fault is none good = good
ended_well P (Err why) fault is none good = cc (is, none)

pub ended_free : (r : Result ⊤ StoreFault) (fault : Option StoreFault) → fault ≡ result_err r → IfErr r (λ why. IsTrue (is_free why)) → IfSome fault (λ why. IsTrue (is_free why))
ended_free (Ok done) fault is free = subst (λ (o : Option StoreFault). IfSome o (λ why. IsTrue (is_free why))) (sym is) tt
ended_free (Err why) fault is free = subst (λ (o : Option StoreFault). IfSome o (λ why. IsTrue (is_free why))) (sym is) free

pub ended_told : (r : Result ⊤ StoreFault) (fault : Option StoreFault) (removed told : List Key) → fault ≡ result_err r → told ≡ removed → EndsSo removed r → EndsAtFault told fault
ended_told (Ok done) fault removed told is same ends = subst (EndsAtFault told) (sym is) tt
ended_told (Err why) fault removed told is same ends = subst (EndsAtFault told) (sym is) (λ shelf none. ends shelf (sym same ∙ none))

pub ended_counted : (before now : ℕ) (r : Result ⊤ StoreFault) (fault : Option StoreFault) → fault ≡ result_err r → CountsShelf before now r → CountsSwept before now fault
ended_counted before now (Ok done) fault is counts = subst (CountsSwept before now) (sym is) counts
ended_counted before now (Err why) fault is counts = subst (CountsSwept before now) (sym is) counts

-- nothing was taken
pub took_nothing : {S : Type 0} (contents : S → Option Contents) (store : StoreView S) (candidates : Candidates) (removed : List Key) → removed ≡ []
    → Took contents store store candidates candidates removed
took_nothing contents store candidates removed none =
    subst (λ (keys : List Key). Took contents store store candidates candidates keys) (sym none) (took_none contents store candidates)
