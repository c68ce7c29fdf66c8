-- What was found of one tree beside an older one, step by step. The key lemmas are finds_none, finds_one, finds_more,
-- spares_none, spares_more, places_none, places_one, places_then and finds_named.
use Rattle.std.proofs.Common.{◌≡◌, ◌≢◌, ◌||◌, ◌⊎◌, ◌+◌, ◌<◌, inl, inr, ℕ, Bool, true, false, cond, not, if◌then◌else◌, is_some, filter, List, [], ◌∷◌, ◌++◌, length, take, drop, get_or, refl, sym, ap, ap₂, ◌∙◌, subst, append-nil, append_assoc, true≢false, Option, Some}
use Rattle.std.specs.Prelude.{⊤}
use Rattle.std.specs.FinMap as map
use Rattle.std.proofs.lemmas.Bool.{or_left, or_right}
use Rattle.std.proofs.lemmas.List.{take-append-drop, take_more}
use Rattle.ids.specs.Key.{key_cmp}
use Rattle.ids.specs.declared.key.Key.{Key}
use Rattle.ids.proofs.BasicLemmas.{same_from_some}
use Rattle.ids.proofs.KeyOrderLemmas.{key_cmp_total}
use Rattle.fs_objects.specs.declared.dirent.Dirent.{Dirent}
use Rattle.object_graph.specs.Objects.{fs_key, is_nil}
use Rattle.object_graph.specs.Reached.{entry_keys, own_keys}
use Rattle.object_graph.specs.Traversal.{distinct_from, is_in}
use Rattle.object_graph.proofs.KeyLemmas.{in_append, same_key}
use Rattle.object_graph.proofs.ReachingLemmas.{in_first}
use Rattle.collector.specs.Compared.{AreAmong, ComparedView, Finds, FindsNamed, FindsSome, MayPlace, OpensFirst, PlacesBeside, Spares, SparesSome, is_spared, with_found, with_spared}
use Rattle.collector.specs.Worklist.{Opens, WorklistView, with_met}
use Rattle.collector.proofs.WorklistLemmas.{distinct_append}

abbrev pub compared_of : WorklistView → map.FinMap key_cmp ⊤ → map.FinMap key_cmp (List ℕ) → ComparedView
compared_of found spared beside = record { opened = found.opened; waiting = found.waiting; spared = spared; beside = beside }

-- ---- spared

pub spares_none : (c : ComparedView) → Spares [] c c
spares_none c = record { opened = refl; waiting = refl; spared = λ key. by (is_spared c key); beside = refl }
  where
    by : (b : Bool) → b ≡ (b || false)
    by true = refl
    by false = refl

spared_one : (s a b : Bool) (o : Option ⊤) → is_some o ≡ (a || b) → is_some (cond s (Some tt) o) ≡ (a || (b || (s || false)))
spared_one true true b o e = refl
spared_one true false true o e = refl
spared_one true false false o e = refl
spared_one false true b o e = e
spared_one false false true o e = e
spared_one false false false o e = e

-- one key more is spared
pub spares_more : (first before after : ComparedView) (keys : List Key) (i : ℕ) (key : Key) → i < length keys → key ≡ get_or keys i key
    → after ≡ with_spared before key → Spares (take i keys) first before → Spares (take (i + 1) keys) first after
spares_more first before after keys i key more is put spares = record {
  opened = ap (λ (c : ComparedView). c.opened) put ∙ spares.opened;
  waiting = ap (λ (c : ComparedView). c.waiting) put ∙ spares.waiting;
  spared = λ q.
      ap (λ (c : ComparedView). is_spared c q) put ∙ ap is_some (map.get-insert key_cmp_total before.spared key tt q)
      ∙ spared_one (same_key q key) (is_spared first q) (is_in (take i keys) q) (map.get before.spared q) (spares.spared q)
      ∙ ap (λ (b : Bool). is_spared first q || b)
      (sym (ap (λ (ks : List Key). is_in ks q) (take_more keys i key more ∙ ap (λ (k : Key). take i keys ++ k ∷ []) (sym is)) ∙ in_append (take i keys) (key ∷ []) q));
  beside = ap (λ (c : ComparedView). c.beside) put ∙ spares.beside;
}

pub spares_some : (keys : List Key) (i : ℕ) (old new : ComparedView) → Spares (take i keys) old new → SparesSome keys old new
spares_some keys i old new spares = record { front = take i keys; rest = drop i keys; parts = sym (take-append-drop i keys); spares = spares }

-- ---- found

abbrev pub unspared : ComparedView → Key → Bool
unspared c key = not (is_spared c key)

pub finds_none : (c : ComparedView) → Finds [] c c
finds_none c = record { opened = refl; waiting = sym (append-nil c.waiting); spared = refl; beside = refl }

-- a key that is spared isn't found
pub finds_spared : (c : ComparedView) (key : Key) → is_spared c key ≡ true → Finds (key ∷ []) c c
finds_spared c key spared = record {
  opened = refl;
  waiting =
      sym (ap (λ (keys : List Key). c.waiting ++ distinct_from (c.opened ++ c.waiting) keys) (ap (λ (b : Bool). if not b then key ∷ [] else []) spared)
      ∙ append-nil c.waiting);
  spared = refl;
  beside = refl;
}

found_waiting : (c : ComparedView) (key : Key) (b : Bool)
    → (if b then c.waiting else c.waiting ++ key ∷ []) ≡ c.waiting ++ (if b then [] else key ∷ [])
found_waiting c key true = sym (append-nil c.waiting)
found_waiting c key false = refl

-- another one waits, if it wasn't found
pub finds_met : (found met : WorklistView) (spared : map.FinMap key_cmp ⊤) (beside : map.FinMap key_cmp (List ℕ)) (key : Key)
    → is_spared (compared_of found spared beside) key ≡ false → met ≡ with_met found key → Finds (key ∷ []) (compared_of found spared beside) (compared_of met spared beside)
finds_met found met spared beside key free is = record {
  opened = ap (λ (work : WorklistView). work.opened) is ∙ opened_by (is_in (found.opened ++ found.waiting) key);
  waiting =
      ap (λ (work : WorklistView). work.waiting) is ∙ waiting_by (is_in (found.opened ++ found.waiting) key)
      ∙ found_waiting (compared_of found spared beside) key (is_in (found.opened ++ found.waiting) key)
      ∙ sym (ap (λ (keys : List Key). found.waiting ++ distinct_from (found.opened ++ found.waiting) keys) (ap (λ (b : Bool). if not b then key ∷ [] else []) free));
  spared = refl;
  beside = refl;
}
  where
    opened_by : (b : Bool) → (if b then found else record found { waiting = found.waiting ++ key ∷ [] }).opened ≡ found.opened
    opened_by true = refl
    opened_by false = refl

    waiting_by : (b : Bool) → (if b then found else record found { waiting = found.waiting ++ key ∷ [] }).waiting ≡ (if b then found.waiting else found.waiting ++ key ∷ [])
    waiting_by true = refl
    waiting_by false = refl

filter_append : (p : Key → Bool) (xs ys : List Key) → filter p (xs ++ ys) ≡ filter p xs ++ filter p ys
filter_append p [] ys = refl
filter_append p (x ∷ xs) ys = by (p x) (filter_append p xs ys)
  where
    by : (b : Bool) → filter p (xs ++ ys) ≡ filter p xs ++ filter p ys
        → (if b then x ∷ filter p (xs ++ ys) else filter p (xs ++ ys)) ≡ (if b then x ∷ filter p xs else filter p xs) ++ filter p ys
    by true rest = ap (λ (ks : List Key). x ∷ ks) rest
    by false rest = rest

-- keys are found one after another
pub finds_then : (first before after : ComparedView) (xs ys : List Key) → Finds xs first before → Finds ys before after → Finds (xs ++ ys) first after
finds_then first before after xs ys one two = record {
  opened = two.opened ∙ one.opened;
  waiting =
      two.waiting
      ∙ ap₂ (λ (met : List Key) (keys : List Key). before.waiting ++ distinct_from met keys) met (ap (λ (spared : map.FinMap key_cmp ⊤). filter (λ (k : Key). not (is_some (map.get spared k))) ys) one.spared)
      ∙ ap (λ (waiting : List Key). waiting ++ distinct_from (all ++ news xs) (left ys)) one.waiting
      ∙ append_assoc first.waiting (news xs) (distinct_from (all ++ news xs) (left ys))
      ∙ sym (ap (λ (keys : List Key). first.waiting ++ keys) (ap (distinct_from all) (filter_append (unspared first) xs ys) ∙ distinct_append all (left xs) (left ys)));
  spared = two.spared ∙ one.spared;
  beside = two.beside ∙ one.beside;
}
  where
    all : List Key
    all = first.opened ++ first.waiting

    left : List Key → List Key
    left keys = filter (unspared first) keys

    news : List Key → List Key
    news keys = distinct_from all (left keys)

    met : before.opened ++ before.waiting ≡ all ++ news xs
    met = ap₂ (λ (a : List Key) (b : List Key). a ++ b) one.opened one.waiting ∙ sym (append_assoc first.opened first.waiting (news xs))

pub finds_more : (first before after : ComparedView) (keys : List Key) (i : ℕ) (key : Key) → i < length keys → key ≡ get_or keys i key
    → Finds (key ∷ []) before after → Finds (take i keys) first before → Finds (take (i + 1) keys) first after
finds_more first before after keys i key more is finds so_far =
    subst (λ (ks : List Key). Finds ks first after) (sym (take_more keys i key more ∙ ap (λ (k : Key). take i keys ++ k ∷ []) (sym is)))
    (finds_then first before after (take i keys) (key ∷ []) so_far finds)

pub finds_some : (keys : List Key) (i : ℕ) (old new : ComparedView) → Finds (take i keys) old new → FindsSome keys old new
finds_some keys i old new finds = record { front = take i keys; rest = drop i keys; parts = sym (take-append-drop i keys); finds = finds }

-- a key that is met, by the list that waits
pub met_found : (found met : WorklistView) (spared : map.FinMap key_cmp ⊤) (beside : map.FinMap key_cmp (List ℕ)) (key : Key) → met ≡ with_met found key
    → compared_of met spared beside ≡ with_found (compared_of found spared beside) key
met_found found met spared beside key is =
    ap (λ (work : WorklistView). compared_of work spared beside) is ∙ by (is_in (found.opened ++ found.waiting) key)
  where
    by : (b : Bool) → compared_of (if b then found else record found { waiting = found.waiting ++ key ∷ [] }) spared beside
        ≡ (if b then compared_of found spared beside else record (compared_of found spared beside) { waiting = found.waiting ++ key ∷ [] })
    by true = refl
    by false = refl

pub opens_found : (found opened : WorklistView) (spared : map.FinMap key_cmp ⊤) (beside : map.FinMap key_cmp (List ℕ)) → Opens found opened
    → OpensFirst (compared_of found spared beside) (compared_of opened spared beside)
opens_found found opened spared beside opens = record {
  key = opens.key;
  rest = opens.rest;
  first = opens.first;
  is = ap₂ (λ (a : List Key) (b : List Key). record (compared_of found spared beside) { opened = a; waiting = b }) opens.opened opens.waiting;
}

-- ---- what stands beside

pub places_none : (entries : List Dirent) (c : ComparedView) → PlacesBeside entries c c
places_none entries c = record { opened = refl; waiting = refl; spared = refl; each = λ key id is. inl is }

pub places_then : (entries : List Dirent) (first before after : ComparedView) → PlacesBeside entries first before → PlacesBeside entries before after → PlacesBeside entries first after
places_then entries first before after one two = record {
  opened = two.opened ∙ one.opened;
  waiting = two.waiting ∙ one.waiting;
  spared = two.spared ∙ one.spared;
  each = λ key id is. elim (two.each key id is) [ inl was ↦ one.each key id was | inr naming ↦ inr naming ];
}

-- an entry's object is among those that the entries name
entry_named : (entries : List Dirent) (i : ℕ) (e : Dirent) → i < length entries → e ≡ get_or entries i e → is_nil e.id ≡ false → is_in (entry_keys entries) (fs_key e.id) ≡ true
entry_named entries i e less is some =
    subst (λ (es : List Dirent). is_in (entry_keys es) (fs_key e.id) ≡ true) (take-append-drop (i + 1) entries)
    (in_both (drop (i + 1) entries))
  where
    own : is_in (own_keys e.id) (fs_key e.id) ≡ true
    own = ap (λ (b : Bool). is_in (if b then [] else fs_key e.id ∷ []) (fs_key e.id)) some ∙ in_first (fs_key e.id) []

    after : (front rest : List Dirent) → is_in (entry_keys (front ++ e ∷ rest)) (fs_key e.id) ≡ true
    after [] rest = in_append (own_keys e.id) (entry_keys rest) (fs_key e.id) ∙ or_left (is_in (own_keys e.id) (fs_key e.id)) (is_in (entry_keys rest) (fs_key e.id)) own
    after (x ∷ front) rest =
        in_append (own_keys x.id) (entry_keys (front ++ e ∷ rest)) (fs_key e.id)
        ∙ or_right (is_in (own_keys x.id) (fs_key e.id)) (is_in (entry_keys (front ++ e ∷ rest)) (fs_key e.id)) (after front rest)

    in_both : (rest : List Dirent) → is_in (entry_keys (take (i + 1) entries ++ rest)) (fs_key e.id) ≡ true
    in_both rest =
        subst (λ (es : List Dirent). is_in (entry_keys es) (fs_key e.id) ≡ true)
        (sym (ap (λ (es : List Dirent). es ++ rest) (take_more entries i e less ∙ ap (λ (d : Dirent). take i entries ++ d ∷ []) (sym is)) ∙ append_assoc (take i entries) (e ∷ []) rest))
        (after (take i entries) rest)

-- one of the older entries is placed
pub places_one : (entries : List Dirent) (i : ℕ) (e : Dirent) (old new : ComparedView) → i < length entries → e ≡ get_or entries i e → is_nil e.id ≡ false
    → MayPlace e.id old new → PlacesBeside entries old new
places_one entries i e old new less is some (inl same) = subst (λ (c : ComparedView). PlacesBeside entries old c) (sym same) (places_none entries old)
places_one entries i e old new less is some (inr placed) = record {
  opened = ap (λ (c : ComparedView). c.opened) placed.1;
  waiting = ap (λ (c : ComparedView). c.waiting) placed.1;
  spared = ap (λ (c : ComparedView). c.spared) placed.1;
  each = λ key id there.
      by key id (same_key key placed.0)
      (sym (ap (λ (c : ComparedView). map.get c.beside key) placed.1 ∙ map.get-insert key_cmp_total old.beside placed.0 e.id key) ∙ there);
}
  where
    by : (key : Key) (id : List ℕ) (b : Bool) → cond b (Some e.id) (map.get old.beside key) ≡ Some id
        → (map.get old.beside key ≡ Some id) ⊎ (is_in (entry_keys entries) (fs_key id) ≡ true)
    by key id true there = inr (subst (λ (i : List ℕ). is_in (entry_keys entries) (fs_key i) ≡ true) (same_from_some e.id id there) (entry_named entries i e less is some))
    by key id false there = inl there

pub finds_named : (names : List Key) (entries : List Dirent) (old next new : ComparedView) → PlacesBeside entries old next → Finds names next new → FindsNamed names entries old new
finds_named names entries old next new places finds = record { next = next; places = places; finds = finds }

-- no entries name nothing
pub none_among : (names : List Key) (entries : List Dirent) → entries ≡ [] → AreAmong names entries
none_among names entries none key there = absurd (true≢false (sym (sym (ap (λ (es : List Dirent). is_in (entry_keys es) key) none) ∙ there)))
