-- The fresh keys after a put and a head update. The key lemmas are put_runs_as, put_runs, put_fresh, made_runs, left_runs,
-- same_runs and same_fresh.
use Rattle.std.proofs.Common.{◌≡◌, ◌⊎◌, inl, inr, ◌||◌, ◌&&◌, not, ℕ, Bool, true, false, filter, if◌then◌else◌, List, [], ◌∷◌, ◌++◌, refl, sym, ap, ◌∙◌, subst, true≢false, Option, None, Some, is_some}
use Rattle.std.specs.FinMap as map
use Rattle.std.specs.FinSet as set
use Rattle.ids.specs.Key.{Objects}
use Rattle.ids.specs.declared.key.Key.{Key}
use Rattle.library_rules.specs.Calls.{Says, Stores, first_refusal, put_due, put_refusals}
use Rattle.library_rules.specs.Changes.{is_refused, put_new, told_by}
use Rattle.library_rules.specs.LibraryState.{Running, State, is_stored}
use Rattle.library_rules.specs.declared.entry.Stored.{Stored}
use Rattle.library_rules.proofs.AddedLemmas.{stored_cases}
use Rattle.library_rules.proofs.BesideStepLemmas.{told_after}
use Rattle.library_rules.proofs.CallsLemmas.{put_by, put_due-is, taken}
use Rattle.library_rules.proofs.KeepingLemmas.{added_stored, grown, stored_then}
use Rattle.library_state.specs.declared.call.Act.{Act}
use Rattle.library_state.specs.declared.call.Act.TheVariants as act
use Rattle.library_state.specs.declared.refusal.Refusal.{Refusal}
use Rattle.library_state.specs.declared.reply.Reply.{Reply}
use Rattle.library_state.specs.declared.reply.Reply.TheVariants as reply
use Rattle.object_graph.specs.Traversal.{is_in}
use Rattle.object_graph.proofs.KeyLemmas.{same_key, same_key-true}
use Rattle.object_store.specs.Shelf.{Contents}
use Rattle.object_store.specs.StoreView.{Index, objects_of}
use Rattle.depot.specs.DepotView.{CollectionView, DepotView, running_of}
use Rattle.depot.specs.Fresh.{AreNewIn, EndsPut, MayHaveFresh}
use Rattle.depot.specs.Held.{HoldsMore, HoldsPut, KnowsAll, lacking}
use Rattle.depot.specs.FreshKeys.{RunsOn, came, told_there}
use Rattle.depot.specs.ObjectCalls.{DoneSo}
use Rattle.depot.proofs.BesideLemmas.{FreshTold}
use Rattle.depot.proofs.FreshLemmas.{RunsAs, as_before, fresh_by, runs_alike, runs_as, runs_by, runs_then, shields_as, some_same}

-- ---- one key at a time

-- what was known came not
pub none_came : (b : Bool) → (b && not b) ≡ false
none_came true = refl
none_came false = refl

or_none : (a : Bool) → a ≡ (a || (false || false))
or_none true = refl
or_none false = refl

-- a key that was taken back unless it was fresh
back : (fresh among : Bool) → ((fresh || among) && not (among && not fresh)) ≡ fresh
back true true = refl
back true false = refl
back false true = refl
back false false = refl

-- ---- a call that stores nothing and tells nothing

pub same_runs : (old new : Index) (a b : Option Running) (told : List Key) → new ≡ old → told ≡ [] → RunsAs as_before a b → RunsOn old new told a b
same_runs old new a b told same none runs = runs_by as_before old new told a b runs
    (λ before is key. or_none (set.contains before.fresh key)
    ∙ ap (λ c. set.contains before.fresh key || (c || false)) (sym (ap (λ (i : Index). is_some (map.get i key) && not (is_some (map.get old key))) same ∙ none_came (is_some (map.get old key))))
    ∙ ap (λ keys. set.contains before.fresh key || (came old new key || is_in keys key)) (sym none))

pub same_fresh : {S : Type 0} (contents : S → Option Contents) (old new : DepotView S) (a : Act) (r : Reply) → objects_of contents new.store ≡ objects_of contents old.store
    → ((now : Objects) → told_after now a r ≡ []) → RunsAs as_before old.running new.running → FreshTold contents old new a r
same_fresh contents old new a r same none runs = fresh_by contents old new a r as_before runs
    (λ before was now is told_was told_now key.
    let one : now ≡ was = some_objects (sym told_now ∙ same ∙ told_was) in
    or_none (set.contains before.fresh key)
    ∙ ap (λ c. set.contains before.fresh key || (c || false)) (sym (ap (λ (o : Objects). is_stored o key && not (is_stored was key)) one ∙ none_came (is_stored was key)))
    ∙ ap (λ keys. set.contains before.fresh key || ((is_stored now key && not (is_stored was key)) || is_in keys key)) (sym (none now)))
  where
    some_objects : {x y : Objects} → Some x ≡ Some y → x ≡ y
    some_objects e = cc

-- ---- a put

-- what a put does to the fresh keys, by its answer
abbrev pub put_by_answer : Key → Reply → Bool → Key → Bool
put_by_answer key (reply.Stored newly) fresh k = fresh || is_in (key ∷ []) k
put_by_answer key other fresh k = fresh

among_new : (fresh there among : Bool) → (among ≡ true → there ≡ false) → (fresh || among) ≡ (fresh || (((there || among) && not there) || false))
among_new true there among only = refl
among_new false true true only = absurd (true≢false (only refl))
among_new false true false only = refl
among_new false false true only = refl
among_new false false false only = refl

one_key : (key k : Key) → is_in (key ∷ []) k ≡ true → k ≡ key
one_key key k is = same_key-true k key (by (same_key k key) is)
  where
    by : (b : Bool) → (b || false) ≡ true → b ≡ true
    by true e = refl
    by false e = e

pub put_runs : (key : Key) (bytes : List ℕ) (r : Reply) (old new : Index) (a b : Option Running) → HoldsPut key r old new → RunsAs (put_by_answer key r) a b
    → RunsOn old new (told_there old (act.Put key bytes) r) a b
put_runs key bytes (reply.Stored true) old new a b (absent, holds) runs = runs_by (put_by_answer key (reply.Stored true)) old new [] a b runs
    (λ before is k. among_new (set.contains before.fresh k) (is_some (map.get old k)) (is_in (key ∷ []) k) (λ among. subst (λ q. is_some (map.get old q) ≡ false) (sym (one_key key k among)) absent)
    ∙ ap (λ c. set.contains before.fresh k || ((c && not (is_some (map.get old k))) || false)) (sym (holds k)))
put_runs key bytes (reply.Stored false) old new a b (there, same) runs = runs_by (put_by_answer key (reply.Stored false)) old new (key ∷ []) a b runs
    (λ before is k. ap (λ c. set.contains before.fresh k || (c || is_in (key ∷ []) k))
    (sym (ap (λ (i : Index). is_some (map.get i k) && not (is_some (map.get old k))) same ∙ none_came (is_some (map.get old k)))))
put_runs key bytes (reply.Refused why) old new a b same runs = same_runs old new a b [] same refl runs
put_runs key bytes reply.Checked old new a b same runs = same_runs old new a b [] same refl runs
put_runs key bytes (reply.HeadIs id) old new a b same runs = same_runs old new a b [] same refl runs
put_runs key bytes (reply.Got given) old new a b same runs = same_runs old new a b [] same refl runs
put_runs key bytes (reply.Absent ids) old new a b same runs = same_runs old new a b [] same refl runs
put_runs key bytes (reply.Updated id) old new a b same runs = same_runs old new a b [] same refl runs
put_runs key bytes reply.Limited old new a b same runs = same_runs old new a b [] same refl runs
put_runs key bytes (reply.Listed ids) old new a b same runs = same_runs old new a b [] same refl runs

pub new_in : (keys new : List Key) (o : Option CollectionView) → AreNewIn keys o new → (before : Running) → running_of o ≡ Some before → (k : Key) → is_in new k ≡ (is_in keys k && not (set.contains before.fresh k))
new_in keys new None none before is k = let e : None ≡ Some before = is in cc
new_in keys new (Some c) are before is k = are.each k ∙ ap (λ (q : Running). is_in keys k && not (set.contains q.fresh k)) (some_same is)

-- its key is made fresh, and then shielded or taken back
pub put_runs_as : (key : Key) (r : Reply) (new : List Key) (o m n : Option CollectionView) → MayHaveFresh (λ fresh k. set.contains fresh k || is_in (key ∷ []) k) o m → AreNewIn (key ∷ []) o new
    → EndsPut new r m n → RunsAs (put_by_answer key r) (running_of o) (running_of n)
put_runs_as key r new o m n fresh are ends = by r ends
  where
    first : RunsAs (λ b k. b || is_in (key ∷ []) k) (running_of o) (running_of m)
    first = runs_as (λ b k. b || is_in (key ∷ []) k) o m fresh

    by : (q : Reply) → EndsPut new q m n → RunsAs (put_by_answer key q) (running_of o) (running_of n)
    by (reply.Stored newly) shields = runs_then (λ b k. b || is_in (key ∷ []) k) as_before (running_of o) (running_of m) (running_of n) first (shields_as new m n shields)
    by other stale = runs_alike (λ b k. (b || is_in (key ∷ []) k) && not (is_in new k)) as_before (running_of o) (running_of n)
        (runs_then (λ b k. b || is_in (key ∷ []) k) (λ b k. b && not (is_in new k)) (running_of o) (running_of m) (running_of n) first (runs_as (λ b k. b && not (is_in new k)) m n stale))
        (λ before is k. ap (λ c. (set.contains before.fresh k || is_in (key ∷ []) k) && not c) (new_in (key ∷ []) new o are before is k) ∙ back (set.contains before.fresh k) (is_in (key ∷ []) k))

-- what was stored by a put that was answered so
abbrev pub PutTold : Objects → Key → List ℕ → Reply → Option Objects → Type 0
PutTold was key bytes (reply.Stored true) after = (is_stored was key ≡ false) × (after ≡ Some (put_new was (record { key = key; bytes = bytes })))
PutTold was key bytes (reply.Stored false) after = (is_stored was key ≡ true) × (after ≡ Some was)
PutTold was key bytes other after = after ≡ Some was

put_told_by : (s : State) (key : Key) (bytes : List ℕ) (o : Option Refusal) (r : Reply) (after : Option Objects) → DoneSo s.objects (put_by s key bytes o) r after → PutTold s.objects key bytes r after
put_told_by s key bytes (Some why) (reply.Stored true) after (inl said, kept) = let e : reply.Stored true ≡ reply.Refused why = said in cc
put_told_by s key bytes (Some why) (reply.Stored true) after (inr fault, kept) = absurd fault
put_told_by s key bytes (Some why) (reply.Stored false) after (inl said, kept) = let e : reply.Stored false ≡ reply.Refused why = said in cc
put_told_by s key bytes (Some why) (reply.Stored false) after (inr fault, kept) = absurd fault
put_told_by s key bytes (Some why) other after (said, kept) = kept
put_told_by s key bytes None r after done = by (is_stored s.objects key) refl r done
  where
    by : (b : Bool) → is_stored s.objects key ≡ b → (q : Reply) → DoneSo s.objects (if b then Says (reply.Stored false) else Stores (record { key = key; bytes = bytes })) q after
        → PutTold s.objects key bytes q after
    by true is (reply.Stored true) (inl said, kept) = let e : reply.Stored true ≡ reply.Stored false = said in cc
    by true is (reply.Stored true) (inr fault, kept) = absurd fault
    by true is (reply.Stored false) (said, kept) = (is, kept)
    by true is other (said, kept) = kept
    by false is (reply.Stored true) (inl (said, grown)) = (is, grown)
    by false is (reply.Stored true) (inr (fault, kept)) = absurd fault
    by false is (reply.Stored false) (inl (said, grown)) = let e : reply.Stored false ≡ reply.Stored true = said in cc
    by false is (reply.Stored false) (inr (fault, kept)) = absurd fault
    by false is other (inl (said, grown)) = let e : other ≡ reply.Stored true = said in cc
    by false is other (inr (fault, kept)) = kept

pub put_told : (s : State) (key : Key) (bytes : List ℕ) (r : Reply) (after : Option Objects) → DoneSo s.objects (put_due s key bytes) r after → PutTold s.objects key bytes r after
put_told s key bytes r after done =
    put_told_by s key bytes (first_refusal (put_refusals s.state.lib key.kind key bytes ++ taken s key bytes ∷ [])) r after
    (subst (λ d. DoneSo s.objects d r after) (put_due-is s key bytes) done)

pub put_fresh : {S : Type 0} (contents : S → Option Contents) (old new : DepotView S) (key : Key) (bytes : List ℕ) (r : Reply)
    → ((was : Objects) → objects_of contents old.store ≡ Some was → PutTold was key bytes r (objects_of contents new.store)) → RunsAs (put_by_answer key r) old.running new.running
    → FreshTold contents old new (act.Put key bytes) r
put_fresh contents old new key bytes r told runs = fresh_by contents old new (act.Put key bytes) r (put_by_answer key r) runs
    (λ before was now is told_was told_now k. by was r (told was told_was) before now told_now k)
  where
    some_objects : {x y : Objects} → Some x ≡ Some y → x ≡ y
    some_objects e = cc

    stays : (was now : Objects) (k : Key) → now ≡ was → (is_stored now k && not (is_stored was k)) ≡ false
    stays was now k same = ap (λ (o : Objects). is_stored o k && not (is_stored was k)) same ∙ none_came (is_stored was k)

    as_stored : (was : Objects) (k : Key) → is_stored (put_new was (record { key = key; bytes = bytes })) k ≡ (is_stored was k || is_in (key ∷ []) k)
    as_stored was k = joined (is_stored (put_new was x) k) (is_stored was k) (is_in (key ∷ []) k) refl refl refl
      where
        x : Stored
        x = record { key = key; bytes = bytes }

        joined : (n w i : Bool) → is_stored (put_new was x) k ≡ n → is_stored was k ≡ w → is_in (key ∷ []) k ≡ i → n ≡ (w || i)
        joined true true i is_n is_w is_i = refl
        joined true false true is_n is_w is_i = refl
        joined true false false is_n is_w is_i = absurd (none (stored_cases was (x ∷ []) k is_n))
          where
            none : (is_stored was k ≡ true) ⊎ (is_in (key ∷ []) k ≡ true) → ⊥
            none (inl there) = true≢false (sym there ∙ is_w)
            none (inr among) = true≢false (sym among ∙ is_i)
        joined false true i is_n is_w is_i = absurd (true≢false (sym (stored_then was (put_new was x) (grown was (x ∷ [])) k is_w) ∙ is_n))
        joined false false true is_n is_w is_i = absurd (true≢false (sym (added_stored was (x ∷ []) k is_i) ∙ is_n))
        joined false false false is_n is_w is_i = refl

    none_told : (b : Bool) (keys : List Key) → keys ≡ [] → (if b then [] else keys) ≡ []
    none_told true keys none = refl
    none_told false keys none = none

    by : (was : Objects) (q : Reply) → PutTold was key bytes q (objects_of contents new.store) → (before : Running) (now : Objects) → objects_of contents new.store ≡ Some now → (k : Key)
        → put_by_answer key q (set.contains before.fresh k) k ≡ (set.contains before.fresh k || ((is_stored now k && not (is_stored was k)) || is_in (told_after now (act.Put key bytes) q) k))
    by was (reply.Stored true) (gone, grown) before now told_now k =
        among_new (set.contains before.fresh k) (is_stored was k) (is_in (key ∷ []) k) (λ among. subst (λ q. is_stored was q ≡ false) (sym (one_key key k among)) gone)
        ∙ ap (λ c. set.contains before.fresh k || ((c && not (is_stored was k)) || false))
        (sym (ap (λ (o : Objects). is_stored o k) (some_objects (sym told_now ∙ grown)) ∙ as_stored was k))
    by was (reply.Stored false) (there, kept) before now told_now k =
        ap (λ c. set.contains before.fresh k || (c || is_in (key ∷ []) k)) (sym (stays was now k (some_objects (sym told_now ∙ kept))))
    by was other kept before now told_now k =
        or_none (set.contains before.fresh k)
        ∙ ap (λ c. set.contains before.fresh k || (c || false)) (sym (stays was now k (some_objects (sym told_now ∙ kept))))
        ∙ ap (λ keys. set.contains before.fresh k || ((is_stored now k && not (is_stored was k)) || is_in keys k)) (sym (none_told (is_refused other) (told_by key other) refl))

-- ---- a head update

pub in_filter : (p : Key → Bool) (keys : List Key) (key : Key) → is_in (filter p keys) key ≡ (is_in keys key && p key)
in_filter p [] key = refl
in_filter p (k ∷ keys) key = by (p k) refl (in_filter p keys key)
  where
    here : (same rest mine : Bool) → (same ≡ true → mine ≡ true) → (same || (rest && mine)) ≡ ((same || rest) && mine)
    here true rest mine only = sym (only refl)
    here false rest mine only = refl

    away : (same rest mine : Bool) → (same ≡ true → mine ≡ false) → (rest && mine) ≡ ((same || rest) && mine)
    away true rest mine only = ap (λ b. rest && b) (only refl) ∙ never rest ∙ sym (only refl)
      where
        never : (b : Bool) → (b && false) ≡ false
        never true = refl
        never false = refl
    away false rest mine only = refl

    by : (b : Bool) → p k ≡ b → is_in (filter p keys) key ≡ (is_in keys key && p key) → is_in (if b then k ∷ filter p keys else filter p keys) key ≡ ((same_key key k || is_in keys key) && p key)
    by true mine rest = ap (λ b. same_key key k || b) rest ∙ here (same_key key k) (is_in keys key) (p key) (λ same. ap p (same_key-true key k same) ∙ mine)
    by false other rest = rest ∙ away (same_key key k) (is_in keys key) (p key) (λ same. ap p (same_key-true key k same) ∙ other)

-- what is made and wasn't there, and came
pub made_came : (fresh among there now : Bool) → (among ≡ true → now ≡ true) → (now ≡ true → there ≡ false → among ≡ true) → (fresh || (among && not there)) ≡ (fresh || ((now && not there) || false))
made_came true among there now all only = refl
made_came false true true true all only = refl
made_came false true true false all only = refl
made_came false true false true all only = refl
made_came false true false false all only = absurd (true≢false (sym (all refl)))
made_came false false true true all only = refl
made_came false false true false all only = refl
made_came false false false true all only = absurd (true≢false (sym (only refl refl)))
made_came false false false false all only = refl

-- and what was taken back that didn't come
pub left_came : (fresh among there now : Bool) → (now ≡ true → there ≡ false → among ≡ true)
    → ((fresh || (among && not there)) && not (((among && not there) && not fresh) && not now)) ≡ (fresh || ((now && not there) || false))
left_came true true true true only = refl
left_came true true true false only = refl
left_came true true false true only = refl
left_came true true false false only = refl
left_came true false true true only = refl
left_came true false true false only = refl
left_came true false false true only = refl
left_came true false false false only = refl
left_came false true true true only = refl
left_came false true true false only = refl
left_came false true false true only = refl
left_came false true false false only = refl
left_came false false true true only = refl
left_came false false true false only = refl
left_came false false false true only = absurd (true≢false (sym (only refl refl)))
left_came false false false false only = refl

-- the keys that are made and aren't known are fresh, and all of them came
pub made_runs : (keys : List Key) (old new : Index) (a b : Option Running) → HoldsMore keys old new → KnowsAll keys new → RunsAs (λ fresh key. fresh || is_in (lacking old keys) key) a b
    → RunsOn old new [] a b
made_runs keys old new a b more all runs = runs_by (λ fresh key. fresh || is_in (lacking old keys) key) old new [] a b runs
    (λ before is key. ap (λ c. set.contains before.fresh key || c) (in_filter (λ k. not (is_some (map.get old k))) keys key)
    ∙ made_came (set.contains before.fresh key) (is_in keys key) (is_some (map.get old key)) (is_some (map.get new key)) (all.each key) (more.came key))

-- some of them came, and the others were taken back
pub left_runs : (keys : List Key) (old new : Index) (a b : Option Running) (f : Bool → Key → Bool) → HoldsMore keys old new → RunsAs f a b
    → ((before : Running) → a ≡ Some before → (key : Key) → f (set.contains before.fresh key) key
    ≡ ((set.contains before.fresh key || is_in (lacking old keys) key) && not ((is_in (lacking old keys) key && not (set.contains before.fresh key)) && not (is_some (map.get new key)))))
    → RunsOn old new [] a b
left_runs keys old new a b f more runs is = runs_by f old new [] a b runs
    (λ before at key. is before at key
    ∙ ap (λ c. (set.contains before.fresh key || c) && not ((c && not (set.contains before.fresh key)) && not (is_some (map.get new key)))) (in_filter (λ k. not (is_some (map.get old k))) keys key)
    ∙ left_came (set.contains before.fresh key) (is_in keys key) (is_some (map.get old key)) (is_some (map.get new key)) (more.came key))
