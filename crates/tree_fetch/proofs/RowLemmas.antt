-- What a list of rows leaves. The key lemmas are rows_next, rows_end, rows_stop, rows_got,
-- list_done, list_none, reached_first, reached_later and grows_both.
use Rattle.std.proofs.Common.{◌≡◌, ◌≤◌, ◌<◌, ◌+◌, ℕ, ◌⊎◌, Bool, true, false, cond, if◌then◌else◌, is_some, List, [], ◌∷◌, ◌++◌, length, drop, get_or, refl, sym, ap, subst, ◌∙◌, None, Some, Result, Ok, Err, inl, inr, All}
use Rattle.std.specs.Prelude.{map as list_map, ⊤}
use Rattle.std.specs.FinMap as map
use Rattle.std.specs.List.{Contains, cons_option, filter_map, flat_map}
use Rattle.std.specs.Ordering.{eq_by_cmp}
use Rattle.std.proofs.lemmas.Grind.{flat_map-append}
use Rattle.std.proofs.lemmas.List.{append-nil, get_or-map, length-map, nil_from_length}
use Rattle.std.proofs.lemmas.List.Elements.{All-cons, All-nil, Contains-append_left, Contains-append_right, Contains-push}
use Rattle.std.proofs.lemmas.Slice.Eq.{bytes_eq-Decides}
use Rattle.sha1.specs.Sha1.{sha1}
use Rattle.ids.specs.Key.{Objects, key_cmp}
use Rattle.ids.specs.declared.key.Key.{Key}
use Rattle.ids.specs.declared.key.Kind.TheVariants as kind
use Rattle.ids.proofs.KeyOrderLemmas.{key_cmp_total}
use Rattle.object_graph.specs.Objects.{fs_key}
use Rattle.object_graph.specs.Unchanged.{Keeps}
use Rattle.object_graph.proofs.KeyLemmas.{same_key-itself}
use Rattle.object_store.proofs.MapLemmas.{tied_key}
use Rattle.tree_walk.proofs.ReadsLemmas.{nothing_left}
use Rattle.tree_walk.proofs.StepsLemmas.{next_entry}
use Rattle.http_front.specs.declared.order.What.TheVariants as what
use Rattle.http_front.specs.declared.outcome.Outcome.TheVariants.{Packed}
use Rattle.http_front.specs.declared.row.Row.{Row}
use Rattle.http_client.specs.OrderOutcome.{row_id}
use Rattle.remote_calls.specs.Sends.{Sent}
use Rattle.sync_rules.specs.Named.{HasAll, IsHadFor, IsNamedSo, Named, got_in, has_name, if_named, row_named}
use Rattle.sync_rules.specs.declared.fault.SyncFault.{SyncFault}
use Rattle.sync_rules.specs.declared.fault.SyncFault.TheVariants as fault
use Rattle.tree_fetch.specs.Asking.{order_of}
use Rattle.tree_fetch.specs.Fetching.{Fetching}
use Rattle.tree_fetch.specs.Levels.{AreReached, FetchesList, Grows, IsAmong, IsHeld, KeepsObject, KeepsRows, PutsAll}
use Rattle.tree_fetch.specs.declared.asker.Asker.{Asker}
use Rattle.tree_fetch.proofs.CoverLemmas.{still_held}
use Rattle.tree_fetch.proofs.SendLemmas.{fetches_some, is_fetch, one_more, reached_all, stops}

-- ---- lists of ids

pub among_first : (id : List ℕ) (xs ys : List (List ℕ)) → IsAmong id xs → IsAmong id (xs ++ ys)
among_first id [] ys none = absurd none
among_first id (x ∷ xs) ys (inl is) = inl is
among_first id (x ∷ xs) ys (inr more) = inr (among_first id xs ys more)

pub among_later : (id : List ℕ) (xs ys : List (List ℕ)) → IsAmong id ys → IsAmong id (xs ++ ys)
among_later id [] ys is = is
among_later id (x ∷ xs) ys is = inr (among_later id xs ys is)

pub among_either : (id : List ℕ) (xs ys : List (List ℕ)) → IsAmong id (xs ++ ys) → IsAmong id xs ⊎ IsAmong id ys
among_either id [] ys is = inr is
among_either id (x ∷ xs) ys (inl is) = inl (inl is)
among_either id (x ∷ xs) ys (inr more) = elim (among_either id xs ys more) [ inl first ↦ inl (inr first) | inr later ↦ inr later ]

pub keeps_then : (F G H : Objects) → Keeps F G → Keeps G H → Keeps F H
keeps_then F G H first second = record { kept = λ key bytes here. second.kept key bytes (first.kept key bytes here) }

pub grows_none : (F : Objects) → Grows [] F F
grows_none F = record { keeps = record { kept = λ key bytes here. here }; there = λ id none. absurd none; only = λ id held. inl held }

pub grows_both : (first later : List (List ℕ)) (F G H : Objects) → Grows first F G → Grows later G H → Grows (first ++ later) F H
grows_both first later F G H one two = record {
  keeps = keeps_then F G H one.keeps two.keeps;
  there = λ id is. elim (among_either id first later is) [ inl here ↦ still_held G H two.keeps id (one.there id here) | inr here ↦ two.there id here ];
  only = λ id held. elim (two.only id held) [
    | inl before ↦ elim (one.only id before) [ inl old ↦ inl old | inr here ↦ inr (among_first id first later here) ]
    | inr here ↦ inr (among_later id first later here)
  ];
}

-- ---- an object more

module _ {X : Type 0} (m : map.FinMap key_cmp X) where
  pub get_put : (key : Key) (value : X) → map.get (map.insert m key value) key ≡ Some value
  get_put key value = map.get-insert key_cmp_total m key value key ∙ ap (λ b. cond b (Some value) (map.get m key)) (same_key-itself key)

  -- what was there stays so, and nothing but the one comes
  pub put_stays : (own id : List ℕ) (value : X) → is_some (map.get m (fs_key id)) ≡ true → is_some (map.get (map.insert m (fs_key own) value) (fs_key id)) ≡ true
  put_stays own id value there = ap is_some (map.get-insert key_cmp_total m (fs_key own) value (fs_key id)) ∙ by (eq_by_cmp key_cmp (fs_key id) (fs_key own))
    where
      by : (b : Bool) → is_some (cond b (Some value) (map.get m (fs_key id))) ≡ true
      by true = refl
      by false = there

  pub put_only : (own id : List ℕ) (value : X) → is_some (map.get (map.insert m (fs_key own) value) (fs_key id)) ≡ true → (is_some (map.get m (fs_key id)) ≡ true) ⊎ (id ≡ own)
  put_only own id value held =
      by (eq_by_cmp key_cmp (fs_key id) (fs_key own)) refl (ap is_some (sym (map.get-insert key_cmp_total m (fs_key own) value (fs_key id))) ∙ held)
    where
      by : (b : Bool) → eq_by_cmp key_cmp (fs_key id) (fs_key own) ≡ b → is_some (cond b (Some value) (map.get m (fs_key id))) ≡ true
          → (is_some (map.get m (fs_key id)) ≡ true) ⊎ (id ≡ own)
      by true tied is = inr (ap (λ (k : Key). k.id) (tied_key (fs_key id) (fs_key own) tied))
      by false apart is = inl is

held_put : (F : Objects) (id bytes : List ℕ) → IsHeld (map.insert F (fs_key id) bytes) id
held_put F id bytes = ap is_some (get_put F (fs_key id) bytes)

pub keeps_insert : (F O : Objects) (key : Key) (bytes : List ℕ) → Keeps F O → map.get O key ≡ Some bytes → Keeps (map.insert F key bytes) O
keeps_insert F O key bytes keeps there = record { kept = λ at given here. by at given (eq_by_cmp key_cmp at key) refl (sym (map.get-insert key_cmp_total F key bytes at) ∙ here) }
  where
    by : (at : Key) (given : List ℕ) (b : Bool) → eq_by_cmp key_cmp at key ≡ b → cond b (Some bytes) (map.get F at) ≡ Some given → map.get O at ≡ Some given
    by at given true tied is = ap (map.get O) (tied_key at key tied) ∙ there ∙ is
    by at given false apart is = keeps.kept at given is

-- what is kept more is the one
pub insert_comes : (F : Objects) (key : Key) (bytes : List ℕ) (at : Key) (given : List ℕ) → map.get (map.insert F key bytes) at ≡ Some given
    → (map.get F at ≡ Some given) ⊎ (◌≡◌ {A = Named} (key, Some bytes) (at, Some given))
insert_comes F key bytes at given here = by (eq_by_cmp key_cmp at key) refl (sym (map.get-insert key_cmp_total F key bytes at) ∙ here)
  where
    by : (b : Bool) → eq_by_cmp key_cmp at key ≡ b → cond b (Some bytes) (map.get F at) ≡ Some given → (map.get F at ≡ Some given) ⊎ (◌≡◌ {A = Named} (key, Some bytes) (at, Some given))
    by true tied is = inr (λ i. (sym (tied_key at key tied) i, is i))
    by false apart is = inl is

-- ---- rows

named_true : (row : Row) → sha1 row.bytes ≡ row.id → has_name (fs_key row.id) row.bytes ≡ true
named_true row is = (bytes_eq-Decides (sha1 row.bytes) row.id).1 is

-- what is had for rows
had_rows : List Row → List (Key × List ℕ)
had_rows [] = []
had_rows (row ∷ rows) = if has_name (fs_key row.id) row.bytes then (fs_key row.id, row.bytes) ∷ had_rows rows else had_rows rows

rows_had : (rows : List Row) → IsHadFor (filter_map if_named (list_map row_named rows)) (had_rows rows)
unfolding had_rows
rows_had [] = tt
rows_had (row ∷ rows) = by (has_name (fs_key row.id) row.bytes) (rows_had rows)
  where
    by : (b : Bool) → IsHadFor (filter_map if_named (list_map row_named rows)) (had_rows rows)
        → IsHadFor (cons_option (if b then Some (row_named row) else None) (filter_map if_named (list_map row_named rows))) (if b then (fs_key row.id, row.bytes) ∷ had_rows rows else had_rows rows)
    by true more = (refl, more)
    by false more = more

rows_named : (rows : List Row) (F G : Objects) → PutsAll rows F G → All IsNamedSo (list_map row_named rows)
rows_named [] F G puts = All-nil IsNamedSo
rows_named (row ∷ rows) F G puts =
    All-cons IsNamedSo (row_named row) (list_map row_named rows) (named_true row puts.0) (rows_named rows (map.insert F (fs_key row.id) row.bytes) G puts.2)

rows_kept : (rows : List Row) (F G O : Objects) → PutsAll rows F G → HasAll O (had_rows rows) → Keeps F O → Keeps G O
unfolding had_rows
rows_kept [] F G O puts has keeps = subst (λ (x : Objects). Keeps x O) (sym puts) keeps
rows_kept (row ∷ rows) F G O puts has keeps =
    let all : HasAll O ((fs_key row.id, row.bytes) ∷ had_rows rows) =
    subst (λ (b : Bool). HasAll O (if b then (fs_key row.id, row.bytes) ∷ had_rows rows else had_rows rows)) (named_true row puts.0) has in
    rows_kept rows (map.insert F (fs_key row.id) row.bytes) G O puts.2 all.1 (keeps_insert F O (fs_key row.id) row.bytes keeps all.0)

-- what is kept of rows came in them
rows_come : (rows : List Row) (F G : Objects) → PutsAll rows F G → (key : Key) (bytes : List ℕ) → map.get G key ≡ Some bytes
    → (map.get F key ≡ Some bytes) ⊎ Contains (list_map row_named rows) (key, Some bytes)
rows_come [] F G puts key bytes here = inl (ap (λ (x : Objects). map.get x key) (sym puts) ∙ here)
rows_come (row ∷ rows) F G puts key bytes here =
    elim (rows_come rows (map.insert F (fs_key row.id) row.bytes) G puts.2 key bytes here) [
      | inl there ↦ elim (insert_comes F (fs_key row.id) row.bytes key bytes there) [
        | inl before ↦ inl before
        | inr same ↦ inr (subst (Contains (row_named row ∷ list_map row_named rows)) same
            (Contains-append_left (row_named row ∷ []) (list_map row_named rows) (row_named row) (Contains-push [] (row_named row))))
      ]
      | inr later ↦ inr (Contains-append_right (row_named row ∷ []) (list_map row_named rows) (key, Some bytes) later)
    ]

rows_grow : (rows : List Row) (F G : Objects) → PutsAll rows F G → Grows (list_map row_id rows) F G
rows_grow [] F G puts = subst (Grows [] F) (sym puts) (grows_none F)
rows_grow (row ∷ rows) F G puts =
    let more = rows_grow rows (map.insert F (fs_key row.id) row.bytes) G puts.2 in
    let first : Grows (row.id ∷ []) F (map.insert F (fs_key row.id) row.bytes) = record {
      keeps = puts.1;
      there = λ id is. elim is [
        | inl same ↦ subst (λ i. IsHeld (map.insert F (fs_key row.id) row.bytes) i) (sym same) (held_put F row.id row.bytes)
        | inr none ↦ absurd none
      ];
      only = λ id held. elim (put_only F row.id id row.bytes held) [ inl before ↦ inl before | inr same ↦ inr (inl same) ];
    } in
    grows_both (row.id ∷ []) (list_map row_id rows) F (map.insert F (fs_key row.id) row.bytes) G first more

contains_mapped : {X Y : Type 0} (f : X → Y) (xs : List X) (x : X) → Contains xs x → Contains (list_map f xs) (f x)
contains_mapped f xs x (k, within, is) = (k, subst (λ n. k < n) (sym (length-map xs f)) within, get_or-map f xs k x (f x) within ∙ ap f is)

-- ---- one answered list

pub rows_got : (asker : Asker) (from : List Key) (before old new : List Sent) (ids : List (List ℕ)) (rows : List Row) (F G : Objects) → 0 < length ids → length ids ≤ 10000
    → Fetching asker from before old F → AreReached from F ids → new ≡ old ++ (order_of asker (what.GetFs ids), Ok (Packed rows)) ∷ [] → list_map row_id rows ≡ ids
    → (result : Result ⊤ SyncFault) → KeepsRows rows F G result → FetchesList asker from before new ids F G result
rows_got asker from before old new ids rows F G some few f reached grown same (Ok done) puts = (
  one_more asker from before old new F G (order_of asker (what.GetFs ids), Ok (Packed rows)) (had_rows rows) f grown (is_fetch asker (what.GetFs ids) (Ok (Packed rows)) (fetches_some ids some) few refl)
      (reached_all asker from before old F f ids reached) (refl, rows_named rows F G puts) (rows_had rows) (λ objects has keeps. rows_kept rows F G objects puts has keeps)
      (rows_come rows F G puts),
  subst (λ list. Grows list F G) same (rows_grow rows F G puts),
)
rows_got asker from before old new ids rows F G some few f reached grown same (Err (fault.Damaged want got)) (row, there, w, g, other) =
    let sent : Sent = (order_of asker (what.GetFs ids), Ok (Packed rows)) in
    let here : Contains (list_map row_named rows ++ []) (row_named row) = subst (λ names. Contains names (row_named row)) (sym (append-nil (list_map row_named rows))) (contains_mapped row_named rows row there) in
    let last : Contains (flat_map got_in (f.more ++ sent ∷ [])) (row_named row) =
    subst (λ names. Contains names (row_named row)) (sym (flat_map-append got_in f.more (sent ∷ []))) (Contains-append_right (flat_map got_in f.more) (list_map row_named rows ++ []) (row_named row) here) in
    stops asker from before old new F sent (had_rows rows) f grown (is_fetch asker (what.GetFs ids) (Ok (Packed rows)) (fetches_some ids some) few refl) (reached_all asker from before old F f ids reached) (rows_had rows)
    (fault.Damaged want got) (fs_key row.id, row.bytes, sym w, g, (λ e. other (sym g ∙ e ∙ w)), (λ (e : kind.Fs ≡ kind.Commit). cc), last) refl tt
rows_got asker from before old new ids rows F G some few f reached grown same (Err fault.NoMemory) puts =
    stops asker from before old new F (order_of asker (what.GetFs ids), Ok (Packed rows)) (had_rows rows) f grown (is_fetch asker (what.GetFs ids) (Ok (Packed rows)) (fetches_some ids some) few refl)
    (reached_all asker from before old F f ids reached) (rows_had rows) fault.NoMemory tt refl tt
rows_got asker from before old new ids rows F G some few f reached grown same (Err _) puts = absurd puts

-- ---- rows, one after another

-- what is kept once the first ones were, and then the rest, is what is kept once all were
abbrev pub RowsLeft : List Row → ℕ → Objects → Objects → Type 0
RowsLeft rows i old now = (end : Objects) → PutsAll (drop i rows) now end → PutsAll rows old end

pub rows_next : (rows : List Row) (i : ℕ) (row : Row) (old F G : Objects) → i < length rows → row ≡ get_or rows i row → RowsLeft rows i old F → KeepsObject row.id row.bytes F G (Ok tt)
    → RowsLeft rows (i + 1) old G
rows_next rows i row old F G within is left (named, put, keeps) end rest =
    left end (subst (λ list. PutsAll list F end) (sym (next_entry rows i row within is))
    (named, subst (Keeps F) put keeps, subst (λ (x : Objects). PutsAll (drop (i + 1) rows) x end) put rest))

pub rows_end : (rows : List Row) (i : ℕ) (old F : Objects) → length rows ≤ i → RowsLeft rows i old F → PutsAll rows old F
rows_end rows i old F past left = left F (subst (λ list. PutsAll list F F) (sym (nothing_left rows i past)) refl)

pub rows_stop : (rows : List Row) (i : ℕ) (row : Row) (old F G H : Objects) → i < length rows → row ≡ get_or rows i row → (why : SyncFault) → KeepsObject row.id row.bytes F G (Err why)
    → KeepsRows rows old H (Err why)
rows_stop rows i row old F G H within is (fault.Damaged want got) (w, g, other) = (row, (i, within, sym is), w, g, other)
rows_stop rows i row old F G H within is fault.NoMemory never = tt
rows_stop rows i row old F G H within is _ never = absurd never

-- ---- one list by its halves

pub list_done : (asker : Asker) (from : List Key) (before now : List Sent) (first later ids : List (List ℕ)) (F G H : Objects) → first ++ later ≡ ids → Grows first F G
    → (result : Result ⊤ SyncFault) → FetchesList asker from before now later G H result → FetchesList asker from before now ids F H result
list_done asker from before now first later ids F G H both one (Ok done) two = (two.0, subst (λ list. Grows list F H) both (grows_both first later F G H one two.1))
list_done asker from before now first later ids F G H both one (Err f) stopped = stopped

pub list_none : (asker : Asker) (from : List Key) (before now : List Sent) (ids : List (List ℕ)) (F : Objects) → length ids ≡ 0 → Fetching asker from before now F
    → FetchesList asker from before now ids F F (Ok tt)
list_none asker from before now ids F none f = (f, subst (λ list. Grows list F F) (sym (nil_from_length ids none)) (grows_none F))

-- the first half is reached as the whole was, and so is the other one, over what is held by then
pub reached_first : (from : List Key) (F : Objects) (first later ids : List (List ℕ)) → first ++ later ≡ ids → AreReached from F ids → AreReached from F first
reached_first from F first later ids both all =
    record { each = λ id among. all.each id (subst (IsAmong id) both (among_first id first later among)) }

pub reached_later : (from : List Key) (F G : Objects) (first later ids : List (List ℕ)) → first ++ later ≡ ids → Keeps F G → AreReached from F ids → AreReached from G later
reached_later from F G first later ids both keeps all =
    record { each = λ id among objects kept. all.each id (subst (IsAmong id) both (among_later id first later among)) objects (keeps_then F G objects keeps kept) }
