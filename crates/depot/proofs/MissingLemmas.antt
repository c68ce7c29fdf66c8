-- Ids that name nothing, gone over with the keys that were met. The key lemmas are absent_are, present_one,
-- present_none and present_next.
use Rattle.std.proofs.Common.{◌≡◌, ℕ, ◌+◌, ◌<◌, Bool, true, false, not, ◌&&◌, ◌||◌, cond, if◌then◌else◌, is_some, List, [], ◌∷◌, ◌++◌, append-nil, length, take, get_or, refl, sym, ap, ◌∙◌, true≢false, Option, Some}
use Rattle.std.specs.Prelude.{⊤, filter}
use Rattle.std.specs.FinMap as map
use Rattle.std.proofs.lemmas.List.{take_more}
use Rattle.std.proofs.lemmas.List.Elements.{filter-append}
use Rattle.ids.specs.Key.{key_cmp}
use Rattle.ids.specs.declared.key.Key.{Key}
use Rattle.ids.specs.declared.key.Kind.{Kind}
use Rattle.ids.proofs.KeyOrderLemmas.{key_cmp_total}
use Rattle.library_rules.specs.Calls.{absent, ids_of, keys_of}
use Rattle.library_rules.specs.LibraryState.{State, is_stored}
use Rattle.object_graph.specs.Objects.{is_nil}
use Rattle.object_graph.specs.Traversal.{distinct_from, is_in}
use Rattle.object_graph.proofs.KeyLemmas.{same_key}
use Rattle.object_store.specs.StoreView.{Index}
use Rattle.depot.specs.Answering.{unknown}
use Rattle.depot.specs.Missing.{Met, absent_from, is_known}

keys_append : (k : Kind) (front ids : List (List ℕ)) → keys_of k (front ++ ids) ≡ keys_of k front ++ keys_of k ids
keys_append k [] ids = refl
keys_append k (id ∷ front) ids = by (is_nil id) (keys_append k front ids)
  where
    by : (nil : Bool) → keys_of k (front ++ ids) ≡ keys_of k front ++ keys_of k ids
        → (if nil then keys_of k (front ++ ids) else record { kind = k; id = id } ∷ keys_of k (front ++ ids)) ≡ (if nil then keys_of k front else record { kind = k; id = id } ∷ keys_of k front) ++ keys_of k ids
    by true rest = rest
    by false rest = ap (λ (keys : List Key). record { kind = k; id = id } ∷ keys) rest

-- the table knows exactly these keys
abbrev pub Knows : List Key → Met → Type 0
Knows keys met = (key : Key) → is_some (map.get met key) ≡ is_in keys key

knows_more : (keys : List Key) (met : Met) (key : Key) → Knows keys met → Knows (key ∷ keys) (map.insert met key tt)
knows_more keys met key knows q = ap is_some (map.get-insert key_cmp_total met key tt q) ∙ by (same_key q key) (map.get met q) (is_in keys q) (knows q)
  where
    by : (b : Bool) (o : Option ⊤) (c : Bool) → is_some o ≡ c → is_some (cond b (Some tt) o) ≡ (b || c)
    by true o c is = refl
    by false o c is = is

module _ (stored : Key → Bool) (k : Kind) where
  abbrev unstored : List (List ℕ) → List Key
  unstored ids = filter (λ (key : Key). not (stored key)) (keys_of k ids)

  -- one id after another
  absent_step : (ids : List (List ℕ)) (id : List ℕ) (keys : List Key) (met : Met) → Knows keys met
      → ((more : List Key) (with : Met) → Knows more with → absent_from stored k with ids ≡ ids_of (distinct_from more (unstored ids)))
      → absent_from stored k met (id ∷ ids) ≡ ids_of (distinct_from keys (unstored (id ∷ ids)))
  absent_step ids id keys met knows rest = first (is_nil id)
    where
      key : Key
      key = record { kind = k; id = id }

      told : List (List ℕ)
      told = absent_from stored k (map.insert met key tt) ids

      left : List (List ℕ)
      left = absent_from stored k met ids

      third : (known found : Bool) → known ≡ found → (if not false && (not false && not known) then id ∷ told else left)
          ≡ ids_of (if found then distinct_from keys (unstored ids) else key ∷ distinct_from (key ∷ keys) (unstored ids))
      third true true e = rest keys met knows
      third false false e = ap (λ xs. id ∷ xs) (rest (key ∷ keys) (map.insert met key tt) (knows_more keys met key knows))
      third true false e = absurd (true≢false e)
      third false true e = absurd (true≢false (sym e))

      second : (there : Bool) → (if not false && (not there && not (is_some (map.get met key))) then id ∷ told else left)
          ≡ ids_of (distinct_from keys (cond (not there) (key ∷ unstored ids) (unstored ids)))
      second true = rest keys met knows
      second false = third (is_some (map.get met key)) (is_in keys key) (knows key)

      first : (nil : Bool) → (if not nil && (not (stored key) && not (is_some (map.get met key))) then id ∷ told else left)
          ≡ ids_of (distinct_from keys (filter (λ (key : Key). not (stored key)) (if nil then keys_of k ids else key ∷ keys_of k ids)))
      first true = rest keys met knows
      first false = second (stored key)

pub absent_are : (stored : Key → Bool) (k : Kind) (ids : List (List ℕ)) (keys : List Key) (met : Met) → Knows keys met → absent_from stored k met ids ≡ ids_of (distinct_from keys (unstored stored k ids))
absent_are stored k [] keys met knows = refl
absent_are stored k (id ∷ ids) keys met knows = absent_step stored k ids id keys met knows (absent_are stored k ids)

-- over a library, from no key met
pub absent_all : (s : State) (k : Kind) (ids : List (List ℕ)) (met : Met) → met ≡ map.empty → absent_from (is_stored s.objects) k met ids ≡ absent s k ids
absent_all s k ids met none = absent_are (is_stored s.objects) k ids [] met (λ key. ap (λ (m : Met). is_some (map.get m key)) none ∙ ap is_some (map.get-empty key_cmp key))

-- over an index
pub unknown_all : (index : Index) (k : Kind) (ids : List (List ℕ)) → absent_from (is_known index) k map.empty ids ≡ unknown index k ids
unknown_all index k ids = absent_are (is_known index) k ids [] map.empty (λ key. ap is_some (map.get-empty key_cmp key))

-- ---- ids that name what is stored

module _ (stored : Key → Bool) where
  -- of one id, which is listed or isn't
  pub present_one : (key : Key) (keys more : List Key) → (not (is_nil key.id) && stored key) ≡ true → more ≡ keys ++ key ∷ [] → more ≡ keys ++ filter stored (keys_of key.kind (key.id ∷ []))
  present_one key keys more is pushed = pushed ∙ ap (λ (found : List Key). keys ++ found) (sym (first (is_nil key.id) is))
    where
      second : (there : Bool) → there ≡ true → cond there (key ∷ []) [] ≡ key ∷ []
      second true e = refl
      second false e = absurd (true≢false (sym e))

      first : (nil : Bool) → (not nil && stored key) ≡ true → filter stored (if nil then [] else key ∷ []) ≡ key ∷ []
      first true e = absurd (true≢false (sym e))
      first false e = second (stored key) e

  pub present_none : (key : Key) (keys : List Key) → (not (is_nil key.id) && stored key) ≡ false → keys ≡ keys ++ filter stored (keys_of key.kind (key.id ∷ []))
  present_none key keys is = sym (append-nil keys) ∙ ap (λ (found : List Key). keys ++ found) (sym (first (is_nil key.id) is))
    where
      second : (there : Bool) → there ≡ false → cond there (key ∷ []) [] ≡ []
      second true e = absurd (true≢false e)
      second false e = refl

      first : (nil : Bool) → (not nil && stored key) ≡ false → filter stored (if nil then [] else key ∷ []) ≡ []
      first true e = refl
      first false e = second (stored key) e

  module _ (k : Kind) where
    present_more : (front ids : List (List ℕ)) → filter stored (keys_of k (front ++ ids)) ≡ filter stored (keys_of k front) ++ filter stored (keys_of k ids)
    present_more front ids = ap (λ (keys : List Key). filter stored keys) (keys_append k front ids) ∙ filter-append stored (keys_of k front) (keys_of k ids)

    -- the first ids, and one more
    pub present_next : (ids : List (List ℕ)) (i : ℕ) (id : List ℕ) (keys more : List Key) → i < length ids → id ≡ get_or ids i id → keys ≡ filter stored (keys_of k (take i ids))
        → more ≡ keys ++ filter stored (keys_of k (id ∷ [])) → more ≡ filter stored (keys_of k (take (i + 1) ids))
    present_next ids i id keys more in_range at so_far pushed =
        pushed ∙ ap (λ (listed : List Key). listed ++ filter stored (keys_of k (id ∷ []))) so_far ∙ sym (present_more (take i ids) (id ∷ []))
        ∙ ap (λ (front : List (List ℕ)). filter stored (keys_of k front)) (sym (take_more ids i id in_range ∙ ap (λ (x : List ℕ). take i ids ++ x ∷ []) (sym at)))
