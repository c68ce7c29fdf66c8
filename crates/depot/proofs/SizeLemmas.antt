-- Maps by their size, and which keys the index knows after a call that leaves it as large. The key lemmas are same_len,
-- all_there, index_stays and taken_stays.
use Rattle.std.proofs.Common.{◌≡◌, ◌≤◌, Bool, true, false, cond, if◌then◌else◌, is_some, List, [], ◌∷◌, length, arith, refl, sym, ap, ◌∙◌, true≢false, None}
use Rattle.std.specs.FinMap as map
use Rattle.ids.specs.Key.{key_cmp}
use Rattle.ids.specs.declared.key.Key.{Key}
use Rattle.ids.proofs.KeyOrderLemmas.{key_cmp_total}
use Rattle.object_graph.specs.Traversal.{is_in}
use Rattle.object_graph.proofs.KeyLemmas.{same_key, same_key-true}
use Rattle.library_state.specs.declared.call.Act.{Act}
use Rattle.library_state.specs.declared.call.Act.TheVariants as act
use Rattle.library_state.specs.declared.reply.Reply.{Reply}
use Rattle.collector.proofs.CountedLemmas.{fewer_fit, len_less}
use Rattle.object_store.specs.StoreView.{Index}
use Rattle.depot.specs.Held.{HoldsPut, IndexSo}
use Rattle.depot.proofs.PutBesideLemmas.{put_stays}

-- maps with the same keys are as large
pub same_len : (a b : Index) → ((key : Key) → is_some (map.get a key) ≡ is_some (map.get b key)) → map.len a ≡ map.len b
same_len a b same =
    let up = fewer_fit a b (λ key has. sym (same key) ∙ has) in
    let down = fewer_fit b a (λ key has. same key ∙ has) in
    omega (arith, up, down)

-- a map that another one holds and that is as large has each of its keys
pub all_there : {X Y : Type 0} (a : map.FinMap key_cmp X) (b : map.FinMap key_cmp Y) → ((key : Key) → is_some (map.get a key) ≡ true → is_some (map.get b key) ≡ true)
    → map.len a ≡ map.len b → (key : Key) → is_some (map.get b key) ≡ true → is_some (map.get a key) ≡ true
all_there {X} {Y} a b more same key there = by (is_some (map.get a key)) refl
  where
    still : (k : Key) → is_some (map.get a key) ≡ false → is_some (map.get a k) ≡ true → (c : Bool) → same_key k key ≡ c → is_some (map.get (map.remove b key) k) ≡ true
    still k lacks has true own = absurd (true≢false (sym has ∙ ap (λ q. is_some (map.get a q)) (same_key-true k key own) ∙ lacks))
    still k lacks has false other = ap is_some (map.get-remove key_cmp_total b key k) ∙ ap (λ (c : Bool). is_some (cond c None (map.get b k))) other ∙ more k has

    by : (c : Bool) → is_some (map.get a key) ≡ c → is_some (map.get a key) ≡ true
    by true is = is
    by false lacks =
        let fits : map.len a ≤ map.len (map.remove b key) = fewer_fit a (map.remove b key) (λ k has. still k lacks has (same_key k key) refl) in
        let less = len_less b key there in
        absurd (omega (arith, fits, less, same))

-- a map that holds another one and is as large has no other key
both_ways : (old new : Index) → ((key : Key) → is_some (map.get old key) ≡ true → is_some (map.get new key) ≡ true) → map.len new ≡ map.len old → (key : Key)
    → is_some (map.get new key) ≡ is_some (map.get old key)
both_ways old new more size key = by (is_some (map.get new key)) refl
  where
    by : (c : Bool) → is_some (map.get new key) ≡ c → is_some (map.get new key) ≡ is_some (map.get old key)
    by true is = is ∙ sym (all_there old new more (sym size) key is)
    by false is = is ∙ sym (lacks (is_some (map.get old key)) refl)
      where
        lacks : (c : Bool) → is_some (map.get old key) ≡ c → is_some (map.get old key) ≡ false
        lacks true has = absurd (true≢false (sym (more key has) ∙ is))
        lacks false has = has

-- the index knows the same keys after a call that leaves it as large
pub index_stays : (a : Act) (r : Reply) (old new : Index) → IndexSo a r old new → map.len new ≡ map.len old → (key : Key) → is_some (map.get new key) ≡ is_some (map.get old key)
index_stays (act.Check o) r old new is size key = ap (λ (i : Index). is_some (map.get i key)) is
index_stays act.Head r old new is size key = ap (λ (i : Index). is_some (map.get i key)) is
index_stays (act.Get other) r old new is size key = ap (λ (i : Index). is_some (map.get i key)) is
index_stays (act.Put other bytes) r old new is size key = put_index_stays other r old new is size key
  where
    put_index_stays : (other : Key) (r : Reply) (old new : Index) → HoldsPut other r old new → map.len new ≡ map.len old → (key : Key) → is_some (map.get new key) ≡ is_some (map.get old key)
    put_index_stays other r old new is size key = both_ways old new (put_stays other r old new is) size key
index_stays (act.Missing k ids) r old new is size key = ap (λ (i : Index). is_some (map.get i key)) is
index_stays (act.Update pushed) r old new is size key = both_ways old new is size key
index_stays (act.Limit days) r old new is size key = ap (λ (i : Index). is_some (map.get i key)) is
index_stays (act.Ids server client) r old new is size key = ap (λ (i : Index). is_some (map.get i key)) is

-- and after a turn
pub taken_stays : (removed : List Key) (old new : Index) → length removed ≡ 0 → ((key : Key) → map.get new key ≡ (if is_in removed key then None else map.get old key)) → (key : Key)
    → is_some (map.get new key) ≡ is_some (map.get old key)
taken_stays [] old new none holds key = ap is_some (holds key)
taken_stays (k ∷ removed) old new none holds key = absurd (omega (arith, none))
