-- How many keys there can be. The key lemmas are len_less, len_no_more, once_fits, fewer_fit, all_in and few_needed.
use Rattle.std.proofs.Common.{◌≡◌, ◌≤◌, ◌+◌, ◌-◌, ◌&&◌, ◌||◌, ℕ, suc, Bool, true, false, cond, T, is_some, arith, List, [], ◌∷◌, length, refl, sym, ap, ◌∙◌, true≢false, Option, None, Some}
use Rattle.std.specs.Cmp.{eq_by_cmp_equiv}
use Rattle.std.specs.FinMap as map
use Rattle.std.specs.FinMap.Entries.{below_all}
use Rattle.std.specs.List.{AllByRecursion, IsDistinct}
use Rattle.std.specs.Ordering.{eq_by_cmp, is_lt}
use Rattle.std.proofs.lemmas.Bool.{or_left, or_right}
use Rattle.ids.specs.Key.{Objects, key_cmp}
use Rattle.ids.specs.declared.key.Key.{Key}
use Rattle.ids.proofs.BasicLemmas.{apart_from_is_lt}
use Rattle.ids.proofs.KeyOrderLemmas.{key_cmp_exact, key_cmp_total}
use Rattle.object_graph.specs.Traversal.{is_in, needs}
use Rattle.object_graph.proofs.KeyLemmas.{same_key, same_key-itself, same_key-true}
use Rattle.library_rules.proofs.KeepingLemmas.{needs_stored}
use Rattle.collector.specs.Marks.{AreCompleteCommits, needed_by}
use Rattle.collector.proofs.LeadingLemmas.{any_of}

-- a map without a key that has a value has one less
pub len_less : {X : Type 0} (m : map.FinMap key_cmp X) (key : Key) → is_some (map.get m key) ≡ true → map.len (map.remove m key) + 1 ≡ map.len m
len_less {X} m key there = by (map.get m key) refl there
  where
    gone : is_some (map.get (map.remove m key) key) ≡ false
    gone = ap is_some (map.get-remove key_cmp_total m key key ∙ ap (λ (b : Bool). cond b None (map.get m key)) (same_key-itself key))

    same : (v : X) → map.get m key ≡ Some v → (q : Key) (b : Bool) → same_key q key ≡ b → cond b (Some v) (cond b None (map.get m q)) ≡ map.get m q
    same v is q true own = sym (ap (λ (k : Key). map.get m k) (same_key-true q key own) ∙ is)
    same v is q false other = refl

    back : (v : X) → map.get m key ≡ Some v → map.insert (map.remove m key) key v ≡ m
    back v is =
        map.same_map key_cmp_total key_cmp_exact (map.insert (map.remove m key) key v) m
        (λ q. map.get-insert key_cmp_total (map.remove m key) key v q
        ∙ ap (λ (o : Option X). cond (same_key q key) (Some v) o) (map.get-remove key_cmp_total m key q) ∙ same v is q (same_key q key) refl)

    by : (o : Option X) → map.get m key ≡ o → is_some o ≡ true → map.len (map.remove m key) + 1 ≡ map.len m
    by None is e = absurd (true≢false (sym e))
    by (Some v) is e =
        ap (λ (b : Bool). cond b (map.len (map.remove m key)) (map.len (map.remove m key) + 1)) (sym gone)
        ∙ sym (map.len-insert key_cmp_total (map.remove m key) key v) ∙ ap map.len (back v is)

-- and never more
pub len_no_more : {X : Type 0} (m : map.FinMap key_cmp X) (key : Key) → map.len (map.remove m key) ≤ map.len m
len_no_more m key = by (is_some (map.get m key)) refl
  where
    by : (b : Bool) → is_some (map.get m key) ≡ b → map.len (map.remove m key) ≤ map.len m
    by true there = omega (arith, len_less m key there)
    by false gone =
        let same : map.len (map.remove m key) ≡ map.len m
        = map.len-remove key_cmp_total m key ∙ ap (λ (b : Bool). cond b (map.len m - 1) (map.len m)) gone in
        omega (arith, same)

-- what holds of each key of a list holds of all
pub all_in : (P : Key → Type 0) (keys : List Key) → ((key : Key) → is_in keys key ≡ true → P key) → AllByRecursion P keys
all_in P [] each = tt
all_in P (k ∷ keys) each = (each k (or_left (same_key k k) (is_in keys k) (same_key-itself k)), all_in P keys (λ key there. each key (or_right (same_key key k) (is_in keys key) there)))

pub all_as : (P Q : Key → Type 0) (keys : List Key) → ((key : Key) → P key → Q key) → AllByRecursion P keys → AllByRecursion Q keys
all_as P Q [] each all = tt
all_as P Q (k ∷ keys) each all = (each k all.0, all_as P Q keys each all.1)

still_there : {X : Type 0} (m : map.FinMap key_cmp X) (k : Key) (keys : List Key) → AllByRecursion (λ y. same_key k y ≡ false) keys
    → AllByRecursion (λ key. is_some (map.get m key) ≡ true) keys → AllByRecursion (λ key. is_some (map.get (map.remove m k) key) ≡ true) keys
still_there m k [] apart there = tt
still_there m k (y ∷ keys) apart there = (
  ap is_some (map.get-remove key_cmp_total m k y ∙ ap (λ (b : Bool). cond b None (map.get m y)) ((eq_by_cmp_equiv key_cmp_total).symm y k ∙ apart.0)) ∙ there.0,
  still_there m k keys apart.1 there.1,
)

-- keys that have values, each once, are no more than the map has
pub once_fits : {X : Type 0} (keys : List Key) (m : map.FinMap key_cmp X) → IsDistinct (eq_by_cmp key_cmp) keys
    → AllByRecursion (λ key. is_some (map.get m key) ≡ true) keys → length keys ≤ map.len m
unfolding IsDistinct
once_fits [] m once there = omega arith
once_fits (k ∷ keys) m once there =
    let rest = once_fits keys (map.remove m k) once.1 (still_there m k keys once.0 there.1) in
    omega (arith, rest, len_less m k there.0)

-- ---- the keys of a map

abbrev keys_in : {X : Type 0} → List (Key × X) → List Key
keys_in [] = []
keys_in (e ∷ entries) = e.0 ∷ keys_in entries

keys_length : {X : Type 0} (entries : List (Key × X)) → length (keys_in entries) ≡ length entries
keys_length [] = refl
keys_length (e ∷ entries) = ap suc (keys_length entries)

left_of : (a b : Bool) → T (a && b) → T a
left_of true b h = tt
left_of false b h = absurd h

right_of : (a b : Bool) → T (a && b) → T b
right_of true b h = h
right_of false b h = absurd h

keys_apart : {X : Type 0} (q : Key) (entries : List (Key × X)) → T (below_all key_cmp q entries) → AllByRecursion (λ key. same_key q key ≡ false) (keys_in entries)
keys_apart q [] h = tt
keys_apart q (e ∷ entries) h = (
  apart_from_is_lt (key_cmp q e.0) (left_of (is_lt (key_cmp q e.0)) (below_all key_cmp q entries) h),
  keys_apart q entries (right_of (is_lt (key_cmp q e.0)) (below_all key_cmp q entries) h),
)

keys_once : {X : Type 0} (entries : List (Key × X)) → T (map.is_sorted key_cmp entries) → IsDistinct (eq_by_cmp key_cmp) (keys_in entries)
unfolding IsDistinct
keys_once [] h = tt
keys_once (e ∷ entries) h = (
  keys_apart e.0 entries (left_of (below_all key_cmp e.0 entries) (map.is_sorted key_cmp entries) h),
  keys_once entries (right_of (below_all key_cmp e.0 entries) (map.is_sorted key_cmp entries) h),
)

found_there : {X : Type 0} (q : Key) (entries : List (Key × X)) → is_in (keys_in entries) q ≡ true → is_some (map.find key_cmp q entries) ≡ true
found_there q [] e = absurd (true≢false (sym e))
found_there {X} q (f ∷ entries) e = by (same_key q f.0) e (found_there q entries)
  where
    by : (b : Bool) → (b || is_in (keys_in entries) q) ≡ true → (is_in (keys_in entries) q ≡ true → is_some (map.find key_cmp q entries) ≡ true)
        → is_some (cond b (Some f.1) (map.find key_cmp q entries)) ≡ true
    by true is rest = refl
    by false is rest = rest is

-- a map whose keys another one has is no larger
pub fewer_fit : {X Y : Type 0} (a : map.FinMap key_cmp X) (b : map.FinMap key_cmp Y) → ((key : Key) → is_some (map.get a key) ≡ true → is_some (map.get b key) ≡ true)
    → map.len a ≤ map.len b
fewer_fit a b more =
    let fits = once_fits (keys_in (map.entries a)) b (keys_once (map.entries a) (map.entries_sorted a))
    (all_in (λ key. is_some (map.get b key) ≡ true) (keys_in (map.entries a)) (λ key there. more key (ap is_some (map.get-entries a key) ∙ found_there key (map.entries a) there))) in
    omega (arith, fits, keys_length (map.entries a), map.len-entries a)

-- ---- what commits need

all_stored : (objects : Objects) (commits : List (List ℕ)) → AreCompleteCommits objects commits → (keys : List Key)
    → AllByRecursion (λ key. needed_by objects commits key ≡ true) keys → AllByRecursion (λ key. is_some (map.get objects key) ≡ true) keys
all_stored objects commits complete [] needed = tt
all_stored objects commits complete (key ∷ keys) needed =
    let one = any_of (λ commit. is_in (needs objects commit) key) commits needed.0 in
    (needs_stored objects one.0 (complete one.0 one.1) key one.2, all_stored objects commits complete keys needed.1)

-- what complete commits need is stored, so there is no more of it than is stored
pub few_needed : (objects : Objects) (commits : List (List ℕ)) (keys : List Key) → AreCompleteCommits objects commits → IsDistinct (eq_by_cmp key_cmp) keys
    → AllByRecursion (λ key. needed_by objects commits key ≡ true) keys → length keys ≤ map.len objects
few_needed objects commits keys complete once needed = once_fits keys objects once (all_stored objects commits complete keys needed)
