-- Lists in which no key stands twice. The key lemmas are once_append, once_front, once_filter and keys_once.
use Rattle.std.proofs.Common.{◌≡◌, ◌||◌, ◌⊎◌, inl, inr, Bool, true, false, List, [], ◌∷◌, ◌++◌, map, cond, refl, sym, ap, ◌∙◌, true≢false}
use Rattle.std.proofs.Math.Dec.{T}
use Rattle.std.proofs.lemmas.Bool.{or_cases, or_left, or_right}
use Rattle.std.specs.FinMap as fin
use Rattle.std.specs.FinMap.Entries.{below_all}
use Rattle.std.specs.List.{AllByRecursion, IsDistinct, filter}
use Rattle.std.specs.Ordering.{is_lt}
use Rattle.ids.specs.Key.{key_cmp}
use Rattle.ids.specs.declared.key.Key.{Key}
use Rattle.ids.proofs.BasicLemmas.{apart_from_is_lt, both_from_T}
use Rattle.object_graph.specs.Traversal.{is_in}
use Rattle.object_graph.proofs.KeyLemmas.{in_append, same_key, same_key-itself, same_key-true}
use Rattle.tree_push.specs.SentOnce.{AreOnce}

-- ---- lists in which no key stands twice

abbrev Apart : Key → List Key → Type 0
Apart key keys = AllByRecursion (λ (other : Key). same_key key other ≡ false) keys

apart_none : (key : Key) (keys : List Key) → is_in keys key ≡ false → Apart key keys
apart_none key [] none = tt
apart_none key (other ∷ keys) none = by (same_key key other) refl none (apart_none key keys)
  where
    by : (b : Bool) → same_key key other ≡ b → (b || is_in keys key) ≡ false → (is_in keys key ≡ false → Apart key keys) → Apart key (other ∷ keys)
    by true same found more = absurd (true≢false found)
    by false apart rest more = (apart, more rest)

apart_append : (key : Key) (xs ys : List Key) → Apart key xs → Apart key ys → Apart key (xs ++ ys)
apart_append key [] ys first later = later
apart_append key (x ∷ xs) ys first later = (first.0, apart_append key xs ys first.1 later)

apart_front : (key : Key) (xs ys : List Key) → Apart key (xs ++ ys) → Apart key xs
apart_front key [] ys all = tt
apart_front key (x ∷ xs) ys all = (all.0, apart_front key xs ys all.1)

pub once_none : AreOnce []
unfolding IsDistinct
once_none = tt

pub once_one : (key : Key) → AreOnce (key ∷ [])
unfolding IsDistinct
once_one key = (tt, tt)

pub once_append : (xs ys : List Key) → AreOnce xs → AreOnce ys → ((key : Key) → is_in xs key ≡ true → is_in ys key ≡ false) → AreOnce (xs ++ ys)
unfolding IsDistinct
once_append [] ys first later apart = later
once_append (x ∷ xs) ys first later apart = (
  apart_append x xs ys first.0 (apart_none x ys (apart x (or_left (same_key x x) (is_in xs x) (same_key-itself x)))),
  once_append xs ys first.1 later (λ key there. apart key (or_right (same_key key x) (is_in xs key) there)),
)

pub once_front : (xs ys : List Key) → AreOnce (xs ++ ys) → AreOnce xs
unfolding IsDistinct
once_front [] ys all = tt
once_front (x ∷ xs) ys all = (apart_front x xs ys all.0, once_front xs ys all.1)

pub in_front : (xs ys : List Key) (key : Key) → is_in xs key ≡ true → is_in (xs ++ ys) key ≡ true
in_front xs ys key there = in_append xs ys key ∙ or_left (is_in xs key) (is_in ys key) there

apart_filter : (p : Key → Bool) (key : Key) (keys : List Key) → Apart key keys → Apart key (filter p keys)
apart_filter p key [] all = tt
apart_filter p key (k ∷ keys) all = by (p k) (apart_filter p key keys all.1)
  where
    by : (b : Bool) → Apart key (filter p keys) → Apart key (cond b (k ∷ filter p keys) (filter p keys))
    by true more = (all.0, more)
    by false more = more

pub once_filter : (p : Key → Bool) (keys : List Key) → AreOnce keys → AreOnce (filter p keys)
unfolding IsDistinct
once_filter p [] all = tt
once_filter p (k ∷ keys) all = by (p k) (once_filter p keys all.1)
  where
    by : (b : Bool) → AreOnce (filter p keys) → AreOnce (cond b (k ∷ filter p keys) (filter p keys))
    by true more = (apart_filter p k keys all.0, more)
    by false more = more

pub filter_passes : (p : Key → Bool) (keys : List Key) (key : Key) → is_in (filter p keys) key ≡ true → p key ≡ true
filter_passes p [] key there = absurd (true≢false (sym there))
filter_passes p (k ∷ keys) key there = by (p k) refl there (filter_passes p keys key)
  where
    by : (b : Bool) → p k ≡ b → is_in (cond b (k ∷ filter p keys) (filter p keys)) key ≡ true → (is_in (filter p keys) key ≡ true → p key ≡ true) → p key ≡ true
    by true passes some more = at (or_cases (same_key key k) (is_in (filter p keys) key) some)
      where
        at : (same_key key k ≡ true) ⊎ (is_in (filter p keys) key ≡ true) → p key ≡ true
        at (inl same) = ap p (same_key-true key k same) ∙ passes
        at (inr rest) = more rest
    by false fails rest more = more rest

-- the keys of a table
module _ {V : Type 0} where
  entry_apart : (key : Key) (es : List (Key × V)) → T (below_all key_cmp key es) → Apart key (map (λ (e : Key × V). e.0) es)
  entry_apart key [] below = tt
  entry_apart key (e ∷ es) below =
      let parts = both_from_T (is_lt (key_cmp key e.0)) (below_all key_cmp key es) below in
      (apart_from_is_lt (key_cmp key e.0) parts.0, entry_apart key es parts.1)

  entries_once : (es : List (Key × V)) → T (fin.is_sorted key_cmp es) → AreOnce (map (λ (e : Key × V). e.0) es)
  unfolding IsDistinct
  entries_once [] sorted = tt
  entries_once (e ∷ es) sorted =
      let parts = both_from_T (below_all key_cmp e.0 es) (fin.is_sorted key_cmp es) sorted in
      (entry_apart e.0 es parts.0, entries_once es parts.1)

  pub keys_once : (table : fin.FinMap key_cmp V) → AreOnce (fin.keys table)
  keys_once table = entries_once (fin.entries table) (fin.entries_sorted table)
