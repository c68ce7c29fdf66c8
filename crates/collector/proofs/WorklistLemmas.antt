-- Keys that are met one after another. The key lemmas are met_new, noted_again, noted_back, opened_one, opens_next, met_view,
-- met_next, met_all, met_part, waits_next, distinct_append and once_met.
use Rattle.std.proofs.Common.{◌≡◌, ◌≢◌, ◌||◌, ◌<◌, ◌≤◌, ◌+◌, ◌==◌, ℕ, Bool, true, false, cond, if◌then◌else◌, is_some, List, [], ◌∷◌, ◌++◌, length, map as map_list, take, drop, get_or, Option, None, Some, Result, Ok, Err, arith, refl, sym, ap, ap₂, ◌∙◌, subst, subst₂, append-nil, append_assoc, true≢false, ⊎_elim}
use Rattle.std.specs.Prelude.{⊤, OnErr}
use Rattle.std.specs.Cmp.{eq_by_cmp_equiv}
use Rattle.std.specs.FinMap as map
use Rattle.std.specs.List.{IsDistinct}
use Rattle.std.specs.Ordering.{eq_by_cmp}
use Rattle.std.proofs.lemmas.Bool.{cases_lt, eqb-true}
use Rattle.std.proofs.lemmas.List.{drop-append-le, drop_all, drop_more, length_push, map-append, nil_from_length, take-append-drop, take-append-le, take_all, take_more}
use Rattle.std.proofs.lemmas.Map.Keys.{IsDistinct-push}
use Rattle.ids.specs.Key.{key_cmp}
use Rattle.ids.specs.declared.key.Key.{Key}
use Rattle.ids.proofs.BasicLemmas.{inner_is_some, same_from_some}
use Rattle.ids.proofs.KeyOrderLemmas.{key_cmp_total}
use Rattle.object_graph.proofs.KeyLemmas.{distinct_push, in_append, in_distinct_from, same_key, same_key-true}
use Rattle.object_graph.specs.Objects.{commit_key}
use Rattle.object_graph.specs.Traversal.{distinct_from, is_in}
use Rattle.collector.specs.Worklist.{IsWorklist, MeetsFront, Opens, WorklistView, all_met, first_of, no_keys, with_met}

-- ---- the list and the table

-- no key
pub none_met : IsWorklist [] map.empty 0
unfolding IsDistinct
none_met = record { there = λ q. ap is_some (map.get-empty key_cmp q); once = tt; within = omega arith }

pub none_met_as : (order : List Key) (met : map.FinMap key_cmp ⊤) → order ≡ [] → met ≡ map.empty → IsWorklist order met 0
none_met_as order met none empty = subst₂ (λ (ks : List Key) (m : map.FinMap key_cmp ⊤). IsWorklist ks m 0) (sym none) (sym empty) none_met

-- a key that wasn't met, put into the table and then at the end of the list
pub met_new : (order : List Key) (met : map.FinMap key_cmp ⊤) (next : ℕ) (key : Key) → IsWorklist order met next → is_in order key ≡ false
    → IsWorklist (order ++ key ∷ []) (map.insert met key tt) next
met_new order met next key is new = record {
  there = λ q. ap is_some (map.get-insert key_cmp_total met key tt q) ∙ by (same_key q key) (map.get met q) (is_in order q) (is.there q) ∙ sym (in_append order (key ∷ []) q);
  once = IsDistinct-push (eq_by_cmp_equiv key_cmp_total) order key is.once new;
  within = omega (arith, is.within, length_push order key);
}
  where
    by : (b : Bool) (o : Option ⊤) (c : Bool) → is_some o ≡ c → is_some (cond b (Some tt) o) ≡ (c || (b || false))
    by true o true e = refl
    by true o false e = refl
    by false o true e = e
    by false o false e = e

-- a key that was met, put into the table again
pub noted_again : (order : List Key) (met : map.FinMap key_cmp ⊤) (next : ℕ) (key : Key) → IsWorklist order met next → is_in order key ≡ true
    → IsWorklist order (map.insert met key tt) next
noted_again order met next key is was = record {
  there = λ q. ap is_some (map.get-insert key_cmp_total met key tt q) ∙ by q (same_key q key) refl;
  once = is.once;
  within = is.within;
}
  where
    by : (q : Key) (b : Bool) → same_key q key ≡ b → is_some (cond b (Some tt) (map.get met q)) ≡ is_in order q
    by q true same = sym (ap (is_in order) (same_key-true q key same) ∙ was)
    by q false other = is.there q

-- a key that wasn't met, where the list didn't grow and the key was taken out again
pub noted_back : (order : List Key) (met : map.FinMap key_cmp ⊤) (next : ℕ) (key : Key) → IsWorklist order met next → is_in order key ≡ false
    → IsWorklist order (map.remove (map.insert met key tt) key) next
noted_back order met next key is new = record {
  there = λ q.
      ap is_some (map.get-remove key_cmp_total (map.insert met key tt) key q ∙ ap (λ (o : Option ⊤). cond (same_key q key) None o) (map.get-insert key_cmp_total met key tt q))
      ∙ by q (same_key q key) refl;
  once = is.once;
  within = is.within;
}
  where
    by : (q : Key) (b : Bool) → same_key q key ≡ b → is_some (cond b None (cond b (Some tt) (map.get met q))) ≡ is_in order q
    by q true same = sym (ap (is_in order) (same_key-true q key same) ∙ new)
    by q false other = is.there q

-- the first that waits is opened
pub opened_one : (order : List Key) (met : map.FinMap key_cmp ⊤) (next : ℕ) → IsWorklist order met next → next < length order → IsWorklist order met (next + 1)
opened_one order met next is more = record { there = is.there; once = is.once; within = omega (arith, more) }

-- ---- what is seen of them

abbrev view_of : (opened waiting : List Key) → WorklistView
view_of opened waiting = record { opened = opened; waiting = waiting }

-- the keys before a place are opened, the others wait
abbrev pub worklist_of : List Key → ℕ → WorklistView
worklist_of order next = record { opened = take next order; waiting = drop next order }

pub all_of : (order : List Key) (next : ℕ) → all_met (worklist_of order next) ≡ order
all_of order next = take-append-drop next order

pub first_waits : (order : List Key) (next : ℕ) (key : Key) → next < length order → key ≡ get_or order next key → Some key ≡ first_of (drop next order)
first_waits order next key more is = ap (λ (k : Key). Some k) is ∙ sym (ap first_of (drop_more order next key more))

pub none_waits : (order : List Key) (next : ℕ) → length order ≤ next → drop next order ≡ []
none_waits order next few = drop_all next order few

-- whether one waits, by the first that does
pub one_waits : (waiting : List Key) (key : Key) → Some key ≡ first_of waiting → false ≡ (length waiting == 0)
one_waits [] key e = cc
one_waits (k ∷ waiting) key e = by (length (k ∷ waiting) == 0) refl
  where
    by : (b : Bool) → (length (k ∷ waiting) == 0) ≡ b → false ≡ (length (k ∷ waiting) == 0)
    by false is = sym is
    by true is =
        let empty = eqb-true (length (k ∷ waiting)) 0 is in
        let no : ⊥ = omega (arith, empty) in absurd no

pub none_first : (waiting : List Key) → None ≡ first_of waiting → waiting ≡ []
none_first [] e = refl
none_first (k ∷ waiting) e = cc

pub none_waits_now : (waiting : List Key) → None ≡ first_of waiting → true ≡ (length waiting == 0)
none_waits_now [] e = refl
none_waits_now (k ∷ waiting) e = cc

pub nothing_waits : (waiting : List Key) → (length waiting == 0) ≡ true → waiting ≡ []
nothing_waits waiting e = nil_from_length waiting (eqb-true (length waiting) 0 e)

pub some_waiting : (waiting : List Key) → (length waiting == 0) ≡ false → waiting ≢ []
some_waiting [] e none = true≢false e
some_waiting (k ∷ waiting) e none = cc

pub first_is : (waiting : List Key) (key : Key) → Some key ≡ first_of waiting → (rest : List Key) × (waiting ≡ key ∷ rest)
first_is [] key e = cc
first_is (k ∷ waiting) key e = (waiting, ap (λ (x : Key). x ∷ waiting) (sym (same_from_some key k e)))

-- where one waits, one waits with more behind it
pub inner_some : (waiting : List Key) (key : Key) (more : List Key) → Some key ≡ first_of waiting → waiting ++ more ≢ []
inner_some [] key more e = cc
inner_some (k ∷ waiting) key more e = inner_is_some [] k (waiting ++ more)

pub more_waits : (order : List Key) (next : ℕ) → drop next order ≢ [] → next < length order
more_waits order next some = ⊎_elim (λ less. less) (λ long. absurd (some (drop_all next order long))) (cases_lt next (length order))

pub opens_next : (order : List Key) (next : ℕ) → next < length order → Opens (worklist_of order next) (worklist_of order (next + 1))
opens_next [] next more = let no : ⊥ = omega (arith, more) in absurd no
opens_next (k ∷ ks) next more = record {
  key = get_or (k ∷ ks) next k;
  rest = drop (next + 1) (k ∷ ks);
  first = drop_more (k ∷ ks) next k more;
  opened = take_more (k ∷ ks) next k more;
  waiting = refl;
}

-- a key that wasn't met waits last, and one that was changes nothing
with_met_new : (work : WorklistView) (key : Key) → is_in (all_met work) key ≡ false → with_met work key ≡ record work { waiting = work.waiting ++ key ∷ [] }
with_met_new work key new = ap (λ (b : Bool). if b then work else record work { waiting = work.waiting ++ key ∷ [] }) new

with_met_again : (work : WorklistView) (key : Key) → is_in (all_met work) key ≡ true → with_met work key ≡ work
with_met_again work key met = ap (λ (b : Bool). if b then work else record work { waiting = work.waiting ++ key ∷ [] }) met

pub met_view : (order : List Key) (next : ℕ) (key : Key) → next ≤ length order → is_in order key ≡ false
    → worklist_of (order ++ key ∷ []) next ≡ with_met (worklist_of order next) key
met_view order next key within new =
    ap₂ view_of (take-append-le next order (key ∷ []) within) (drop-append-le next order (key ∷ []) within)
    ∙ sym (with_met_new (worklist_of order next) key (ap (λ (keys : List Key). is_in keys key) (all_of order next) ∙ new))

pub met_again : (order : List Key) (next : ℕ) (key : Key) → is_in order key ≡ true → worklist_of order next ≡ with_met (worklist_of order next) key
met_again order next key met = sym (with_met_again (worklist_of order next) key (ap (λ (keys : List Key). is_in keys key) (all_of order next) ∙ met))

-- ---- several keys

swap : (a b c : Bool) → (a || (b || c)) ≡ (b || (a || c))
swap true true c = refl
swap true false c = refl
swap false true c = refl
swap false false c = refl

turn : (a b : Bool) → (a || b) ≡ (b || (a || false))
turn true true = refl
turn true false = refl
turn false true = refl
turn false false = refl

-- which keys were met decides, and not their order
distinct_alike : (met other keys : List Key) → ((key : Key) → is_in met key ≡ is_in other key) → distinct_from met keys ≡ distinct_from other keys
distinct_alike met other [] same = refl
distinct_alike met other (k ∷ keys) same =
    by (is_in met k) (is_in other k) (same k) (distinct_alike met other keys same)
    (distinct_alike (k ∷ met) (k ∷ other) keys (λ key. ap (λ b. same_key key k || b) (same key)))
  where
    by : (a b : Bool) → a ≡ b → distinct_from met keys ≡ distinct_from other keys → distinct_from (k ∷ met) keys ≡ distinct_from (k ∷ other) keys
        → (if a then distinct_from met keys else k ∷ distinct_from (k ∷ met) keys) ≡ (if b then distinct_from other keys else k ∷ distinct_from (k ∷ other) keys)
    by true true e both more = both
    by true false e both more = cc
    by false true e both more = cc
    by false false e both more = ap (λ (ks : List Key). k ∷ ks) more

moved : (x : Key) (met zs : List Key) (key : Key) → is_in ((x ∷ met) ++ zs) key ≡ is_in (met ++ x ∷ zs) key
moved x met zs key =
    ap (λ b. same_key key x || b) (in_append met zs key) ∙ swap (same_key key x) (is_in met key) (is_in zs key) ∙ sym (in_append met (x ∷ zs) key)

-- keys that are met one after another are those that weren't met, each once
pub distinct_append : (met xs ys : List Key) → distinct_from met (xs ++ ys) ≡ distinct_from met xs ++ distinct_from (met ++ distinct_from met xs) ys
distinct_append met [] ys = ap (λ (m : List Key). distinct_from m ys) (sym (append-nil met))
distinct_append met (x ∷ xs) ys =
    by (is_in met x) (distinct_append met xs ys)
    (distinct_append (x ∷ met) xs ys
    ∙ ap (λ (ks : List Key). distinct_from (x ∷ met) xs ++ ks)
    (distinct_alike ((x ∷ met) ++ distinct_from (x ∷ met) xs) (met ++ x ∷ distinct_from (x ∷ met) xs) ys (moved x met (distinct_from (x ∷ met) xs))))
  where
    by : (b : Bool) → distinct_from met (xs ++ ys) ≡ distinct_from met xs ++ distinct_from (met ++ distinct_from met xs) ys
        → distinct_from (x ∷ met) (xs ++ ys) ≡ distinct_from (x ∷ met) xs ++ distinct_from (met ++ x ∷ distinct_from (x ∷ met) xs) ys
        → (if b then distinct_from met (xs ++ ys) else x ∷ distinct_from (x ∷ met) (xs ++ ys))
        ≡ (if b then distinct_from met xs else x ∷ distinct_from (x ∷ met) xs) ++ distinct_from (met ++ (if b then distinct_from met xs else x ∷ distinct_from (x ∷ met) xs)) ys
    by true old new = old
    by false old new = ap (λ (ks : List Key). x ∷ ks) new

-- what stands after a front of keys was met
abbrev pub met_after : WorklistView → List Key → WorklistView
met_after work front = record work { waiting = work.waiting ++ distinct_from (all_met work) front }

-- nothing was met yet
pub met_none : (work : WorklistView) → work ≡ met_after work []
met_none work = ap (λ (ks : List Key). record work { waiting = ks }) (sym (append-nil work.waiting))

met_test : (work : WorklistView) (found : List Key) (key : Key) → is_in (work.opened ++ (work.waiting ++ found)) key ≡ (is_in (all_met work) key || is_in found key)
met_test work found key = ap (λ (ks : List Key). is_in ks key) (sym (append_assoc work.opened work.waiting found)) ∙ in_append (all_met work) found key

met_both : (work : WorklistView) (found : List Key) (key : Key) (a b : Bool) → a ≡ b
    → (if a then record work { waiting = work.waiting ++ found } else record work { waiting = (work.waiting ++ found) ++ key ∷ [] })
    ≡ record work { waiting = work.waiting ++ (if b then found else found ++ key ∷ []) }
met_both work found key true true e = refl
met_both work found key true false e = cc
met_both work found key false true e = cc
met_both work found key false false e = ap (λ (ks : List Key). record work { waiting = ks }) (append_assoc work.waiting found (key ∷ []))

-- one key more of a front: a turn of the loop
pub met_one : (work : WorklistView) (front : List Key) (key : Key) → with_met (met_after work front) key ≡ met_after work (front ++ key ∷ [])
met_one work front key =
    met_both work (distinct_from (all_met work) front) key (is_in (all_met (met_after work front)) key) (is_in (all_met work) key || is_in front key)
    (met_test work (distinct_from (all_met work) front) key ∙ in_distinct_from (all_met work) front key)
    ∙ sym (ap (λ (ks : List Key). record work { waiting = work.waiting ++ ks }) (distinct_push (all_met work) front key))

-- the same by places, and at the end of the loop
pub met_next : (work : WorklistView) (keys : List Key) (i : ℕ) (key : Key) → i < length keys → key ≡ get_or keys i key
    → with_met (met_after work (take i keys)) key ≡ met_after work (take (i + 1) keys)
met_next work keys i key more is =
    met_one work (take i keys) key ∙ ap (met_after work) (ap (λ (k : Key). take i keys ++ k ∷ []) is ∙ sym (take_more keys i key more))

pub met_all : (work : WorklistView) (keys : List Key) (i : ℕ) → length keys ≤ i → met_after work (take i keys) ≡ met_after work keys
met_all work keys i done = ap (met_after work) (take_all i keys done)

pub waits_all : (commits : List (List ℕ)) (i : ℕ) → length commits ≤ i
    → met_after no_keys (map_list commit_key (take i commits)) ≡ record { opened = []; waiting = distinct_from [] (map_list commit_key commits) }
waits_all commits i done = ap (λ (cs : List (List ℕ)). met_after no_keys (map_list commit_key cs)) (take_all i commits done)

-- the same of the keys of commits, where nothing was met before
pub waits_next : (commits : List (List ℕ)) (i : ℕ) (commit : List ℕ) → i < length commits → commit ≡ get_or commits i commit
    → with_met (met_after no_keys (map_list commit_key (take i commits))) (commit_key commit) ≡ met_after no_keys (map_list commit_key (take (i + 1) commits))
waits_next commits i commit more is =
    met_one no_keys (map_list commit_key (take i commits)) (commit_key commit)
    ∙ ap (met_after no_keys) (
    sym (map-append commit_key (take i commits) (commit ∷ []))
    ∙ ap (map_list commit_key) (ap (λ (c : List ℕ). take i commits ++ c ∷ []) is ∙ sym (take_more commits i commit more))
    )

-- after an error: the first ones of the keys were met
pub met_part : (work : WorklistView) (keys : List Key) (i : ℕ) → MeetsFront keys work (met_after work (take i keys))
met_part work keys i = record { front = take i keys; rest = drop i keys; parts = sym (take-append-drop i keys); opened = refl; waiting = refl }

-- ---- each once

once_from : (met xs keys : List Key) → ((key : Key) → is_in met key ≡ is_in xs key) → IsDistinct (eq_by_cmp key_cmp) xs
    → IsDistinct (eq_by_cmp key_cmp) (xs ++ distinct_from met keys)
once_from met xs [] same once = subst (IsDistinct (eq_by_cmp key_cmp)) (sym (append-nil xs)) once
once_from met xs (k ∷ keys) same once =
    by (is_in met k) refl (once_from met xs keys same once)
    (λ new. once_from (k ∷ met) (xs ++ k ∷ []) keys more (IsDistinct-push (eq_by_cmp_equiv key_cmp_total) xs k once new))
  where
    more : (key : Key) → is_in (k ∷ met) key ≡ is_in (xs ++ k ∷ []) key
    more key = ap (λ b. same_key key k || b) (same key) ∙ turn (same_key key k) (is_in xs key) ∙ sym (in_append xs (k ∷ []) key)

    by : (b : Bool) → is_in met k ≡ b → IsDistinct (eq_by_cmp key_cmp) (xs ++ distinct_from met keys)
        → (is_in xs k ≡ false → IsDistinct (eq_by_cmp key_cmp) ((xs ++ k ∷ []) ++ distinct_from (k ∷ met) keys))
        → IsDistinct (eq_by_cmp key_cmp) (xs ++ (if b then distinct_from met keys else k ∷ distinct_from (k ∷ met) keys))
    by true is old new = old
    by false is old new = subst (IsDistinct (eq_by_cmp key_cmp)) (append_assoc xs (k ∷ []) (distinct_from (k ∷ met) keys)) (new (sym (same k) ∙ is))

-- what is met stands once
pub once_met : (met keys : List Key) → IsDistinct (eq_by_cmp key_cmp) met → IsDistinct (eq_by_cmp key_cmp) (met ++ distinct_from met keys)
once_met met keys once = once_from met met keys (λ key. refl) once

-- what is promised of an error
pub on_error : {T E : Type 0} (P : Type 0) (r : Result T E) → P → OnErr r P
on_error P (Ok value) is = tt
on_error P (Err fault) is = is
