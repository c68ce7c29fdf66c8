-- What was met, where a traversal made these visits. The key lemmas are visit_seen, own_reached, done_already, blocks_reached
-- and fs_of_chosen.
use Rattle.std.proofs.Common.{◌≡◌, ◌||◌, inl, inr, ℕ, Bool, true, false, cond, if◌then◌else◌, List, [], ◌∷◌, ◌++◌, refl, sym, ap, ap₂, ◌∙◌, subst, Some, unwrap_or, append_assoc, append-nil}
use Rattle.std.specs.FinMap as map
use Rattle.ids.specs.Key.{Objects, key_cmp}
use Rattle.ids.specs.declared.key.Key.{Key}
use Rattle.ids.specs.declared.key.Kind.{Kind}
use Rattle.ids.specs.declared.key.Kind.TheVariants.{Commit, Fs, Block}
use Rattle.ids.proofs.KeyOrderLemmas.{key_cmp_total}
use Rattle.tree_model.specs.Path.{PathV}
use Rattle.object_graph.specs.Objects.{block_key, commit_key, fs_key, is_nil}
use Rattle.object_graph.specs.Reached.{block_keys, named, named_under, own_keys}
use Rattle.object_graph.specs.Traversal.{Walk, distinct_from, is_in, start, visited, walk_below, walk_object}
use Rattle.object_graph.proofs.KeyLemmas.{distinct_push, in_append, in_distinct, in_pushed, once_push, same_key, same_key-itself, same_key-true}
use Rattle.object_graph.proofs.ReachingLemmas.{object_stays}
use Rattle.std.proofs.lemmas.Bool.{or_cases, or_left, or_right}
use Rattle.tree_walk.specs.Reaching.{Grows, HasFsOf, IsDone, IsDoneOf, IsReached, IsSeen, chosen, goes_over}
use Rattle.tree_walk.specs.Visits.{MetView, finished, is_done, nothing_met, with_blocks_met, with_key_met}
use Rattle.tree_walk.proofs.VisitLemmas.{key_is_met, with_key, with_key-once}

-- ---- keys that are gone over

chosen_push : (blocks : Bool) (keys : List Key) (key : Key) → chosen blocks (keys ++ key ∷ []) ≡ (if goes_over blocks key.kind then chosen blocks keys ++ key ∷ [] else chosen blocks keys)
chosen_push blocks [] key = refl
chosen_push blocks (k ∷ keys) key = by (goes_over blocks k.kind) (goes_over blocks key.kind) (chosen_push blocks keys key)
  where
    by : (a b : Bool) → chosen blocks (keys ++ key ∷ []) ≡ (if b then chosen blocks keys ++ key ∷ [] else chosen blocks keys)
        → (if a then k ∷ chosen blocks (keys ++ key ∷ []) else chosen blocks (keys ++ key ∷ []))
        ≡ (if b then (if a then k ∷ chosen blocks keys else chosen blocks keys) ++ key ∷ [] else (if a then k ∷ chosen blocks keys else chosen blocks keys))
    by true true rest = ap (λ ks. k ∷ ks) rest
    by true false rest = ap (λ ks. k ∷ ks) rest
    by false true rest = rest
    by false false rest = rest

pub chosen_all : (keys : List Key) → chosen true keys ≡ keys
chosen_all [] = refl
chosen_all (key ∷ keys) = ap₂ (λ (b : Bool) (ks : List Key). if b then key ∷ ks else ks) (all key.kind) (chosen_all keys)
  where
    all : (kind : Kind) → goes_over true kind ≡ true
    all Commit = refl
    all Fs = refl
    all Block = refl

pub in_chosen : (blocks : Bool) (keys : List Key) (key : Key) → goes_over blocks key.kind ≡ true → is_in (chosen blocks keys) key ≡ is_in keys key
in_chosen blocks [] key goes = refl
in_chosen blocks (k ∷ keys) key goes = by (goes_over blocks k.kind) refl (in_chosen blocks keys key goes)
  where
    other : (t : Bool) → same_key key k ≡ t → goes_over blocks k.kind ≡ false → is_in keys key ≡ (t || is_in keys key)
    other true tied off = let e = sym goes ∙ ap (λ (q : Key). goes_over blocks q.kind) (same_key-true key k tied) ∙ off in cc e
    other false tied off = refl

    by : (b : Bool) → goes_over blocks k.kind ≡ b → is_in (chosen blocks keys) key ≡ is_in keys key
        → is_in (if b then k ∷ chosen blocks keys else chosen blocks keys) key ≡ (same_key key k || is_in keys key)
    by true is rest = ap (λ b. same_key key k || b) rest
    by false is rest = rest ∙ other (same_key key k) refl is

-- the files and directories among the keys that are gone over
pub fs_of_chosen : (blocks : Bool) (visits keys : List Key) → keys ≡ distinct_from [] (chosen blocks visits) → HasFsOf keys (distinct_from [] visits)
fs_of_chosen blocks visits keys is id =
    ap (λ ks. is_in ks (fs_key id)) is ∙ in_distinct (chosen blocks visits) (fs_key id) ∙ in_chosen blocks visits (fs_key id) refl ∙ sym (in_distinct visits (fs_key id))

-- ---- what was met grows

pub grows_itself : (met : MetView) → Grows met met
grows_itself met = record { met = λ key is. is; done = λ key is. is }

pub grows_then : (a b c : MetView) → Grows a b → Grows b c → Grows a c
grows_then a b c first second = record { met = λ key is. second.met key (first.met key is); done = λ key is. second.done key (first.done key is) }

pub stays_done : (blocks : Bool) (old new : MetView) → Grows old new → (key : Key) → IsDone blocks old key → IsDone blocks new key
stays_done blocks old new grows key = by key.kind
  where
    by : (kind : Kind) → IsDoneOf kind blocks old key → IsDoneOf kind blocks new key
    by Commit is = absurd is
    by Fs is = grows.done key is
    by Block is = λ here. grows.met key (is here)

-- a visit

AllMet : MetView → Type 0
AllMet met = (key : Key) → is_done met key ≡ true → is_in met.keys key ≡ true

abbrev pushed : Key → MetView → MetView
pushed key met = record { keys = met.keys ++ key ∷ []; marks = map.insert met.marks key false }

visit_keys : (met : MetView) (key : Key) → (with_key_met key met).keys ≡ with_key met.keys key
visit_keys met key = by (is_in met.keys key)
  where
    by : (b : Bool) → (if b then met else pushed key met).keys ≡ (if b then met.keys else met.keys ++ key ∷ [])
    by true = refl
    by false = refl

visit_done : (met : MetView) (key : Key) → AllMet met → (k : Key) → is_done (with_key_met key met) k ≡ is_done met k
unfolding AllMet
visit_done met key there k = by (is_in met.keys key) refl
  where
    not_done : is_in met.keys key ≡ false → (d : Bool) → is_done met key ≡ d → d ≡ false
    not_done new true is = let e = sym (there key is) ∙ new in cc e
    not_done new false is = refl

    at : is_in met.keys key ≡ false → (t : Bool) → same_key k key ≡ t → unwrap_or (cond t (Some false) (map.get met.marks k)) false ≡ is_done met k
    at new true tied = sym (ap (is_done met) (same_key-true k key tied) ∙ not_done new (is_done met key) refl)
    at new false tied = refl

    by : (b : Bool) → is_in met.keys key ≡ b → is_done (if b then met else pushed key met) k ≡ is_done met k
    by true is = refl
    by false is = ap (λ o. unwrap_or o false) (map.get-insert key_cmp_total met.marks key false k) ∙ at is (same_key k key) refl

visit_met : (met : MetView) (key k : Key) → is_in met.keys k ≡ true → is_in (with_key_met key met).keys k ≡ true
visit_met met key k is = by (is_in met.keys key)
  where
    by : (b : Bool) → is_in (if b then met else pushed key met).keys k ≡ true
    by true = is
    by false = in_append met.keys (key ∷ []) k ∙ or_left (is_in met.keys k) (is_in (key ∷ []) k) is

-- the same with a key finished that was met

abbrev marked : Key → MetView → MetView
marked key met = record met { marks = map.insert met.marks key true }

marked_done : (met : MetView) (key k : Key) → is_done (marked key met) k ≡ (same_key k key || is_done met k)
marked_done met key k = ap (λ o. unwrap_or o false) (map.get-insert key_cmp_total met.marks key true k) ∙ by (same_key k key)
  where
    by : (t : Bool) → unwrap_or (cond t (Some true) (map.get met.marks k)) false ≡ (t || is_done met k)
    by true = refl
    by false = refl

marked_grows : (met : MetView) (key : Key) → Grows met (marked key met)
marked_grows met key = record { met = λ k is. is; done = λ k is. marked_done met key k ∙ or_right (same_key k key) (is_done met k) is }

pub blocks_only : (ids : List (List ℕ)) (k : Key) → is_in (block_keys ids) k ≡ true → k.kind ≡ Block
blocks_only [] k is = cc is
blocks_only (id ∷ ids) k is = elim (or_cases (same_key k (block_key id)) (is_in (block_keys ids) k) is) [
  | inl one ↦ ap (λ (q : Key). q.kind) (same_key-true k (block_key id) one)
  | inr more ↦ blocks_only ids k more
]

module _ (blocks : Bool) (objects : Objects) where
  -- ---- what was seen

  pub seen_in : (visits : List Key) (met : MetView) (key : Key) → IsSeen blocks objects visits met → goes_over blocks key.kind ≡ true → is_in met.keys key ≡ is_in visits key
  seen_in visits met key seen goes =
      sym (in_distinct met.keys key) ∙ ap (λ ks. is_in ks key) (sym seen.keys) ∙ in_distinct (chosen blocks visits) key ∙ in_chosen blocks visits key goes

  pub visit_grows : (visits : List Key) (met : MetView) (key : Key) → IsSeen blocks objects visits met → Grows met (with_key_met key met)
  unfolding AllMet
  visit_grows visits met key seen = record { met = visit_met met key; done = λ k is. visit_done met key seen.there k ∙ is }

  pub visit_seen : (visits : List Key) (met : MetView) (key : Key) → IsSeen blocks objects visits met → goes_over blocks key.kind ≡ true → IsSeen blocks objects (visits ++ key ∷ []) (with_key_met key met)
  unfolding AllMet
  visit_seen visits met key seen goes = record {
    keys = ap (distinct_from []) (chosen_push blocks visits key ∙ ap (λ (b : Bool). if b then chosen blocks visits ++ key ∷ [] else chosen blocks visits) goes)
        ∙ once_push (chosen blocks visits) met.keys key seen.keys
        ∙ sym (with_key-once met.keys key)
        ∙ ap (distinct_from []) (sym (visit_keys met key));
    there = λ k is. visit_met met key k (seen.there k (sym (visit_done met key seen.there k) ∙ is));
    closed = λ above k is named_is.
        stays_done blocks met (with_key_met key met) (visit_grows visits met key seen) k (seen.closed above k (sym (visit_done met key seen.there above) ∙ is) named_is);
  }

  -- a visit that isn't gone over
  passed_seen : (visits : List Key) (met : MetView) (key : Key) → IsSeen blocks objects visits met → goes_over blocks key.kind ≡ false → IsSeen blocks objects (visits ++ key ∷ []) met
  passed_seen visits met key seen goes = record {
    keys = ap (distinct_from []) (chosen_push blocks visits key ∙ ap (λ (b : Bool). if b then chosen blocks visits ++ key ∷ [] else chosen blocks visits) goes) ∙ seen.keys;
    there = seen.there;
    closed = seen.closed;
  }

  -- ---- what was reached

  pub reached_nothing : (visits : List Key) (met : MetView) → IsSeen blocks objects visits met → IsReached blocks objects visits [] met met
  reached_nothing visits met seen = record { seen = seen; grows = grows_itself met; there = λ key is. cc is }

  pub own_done : (id : List ℕ) (met : MetView) → is_done met (fs_key id) ≡ true → (key : Key) → is_in (own_keys id) key ≡ true → IsDone blocks met key
  own_done id met has key = by (is_nil id)
    where
      by : (n : Bool) → is_in (if n then [] else fs_key id ∷ []) key ≡ true → IsDone blocks met key
      by true is = cc is
      by false is = elim (in_pushed [] (fs_key id) key is) [ inl none ↦ cc none | inr own ↦ subst (λ (k : Key). IsDone blocks met k) (sym own) has ]

  -- a file or directory is finished that names only what is done
  pub own_reached : (visits : List Key) (names : List Key) (old mid new : MetView) (id : List ℕ) → IsReached blocks objects visits names old mid → is_in visits (fs_key id) ≡ true
      → ((k : Key) → is_in (named objects (fs_key id)) k ≡ true → IsDone blocks mid k) → new ≡ finished (fs_key id) mid → IsReached blocks objects visits (own_keys id) old new
  own_reached visits names old mid new id inner here closes is =
      subst (λ (m : MetView). IsReached blocks objects visits (own_keys id) old m) (sym (is ∙ ap (λ (m : MetView). record m { marks = map.insert m.marks (fs_key id) true }) (key_is_met mid (fs_key id) has))) (record {
        seen = record { keys = inner.seen.keys; there = there; closed = closed };
        grows = grows_then old mid (marked (fs_key id) mid) inner.grows grown;
        there = own_done id (marked (fs_key id) mid) (marked_done mid (fs_key id) (fs_key id) ∙ or_left (same_key (fs_key id) (fs_key id)) (is_done mid (fs_key id)) (same_key-itself (fs_key id)));
      })
    where
      has : is_in mid.keys (fs_key id) ≡ true
      has = seen_in visits mid (fs_key id) inner.seen refl ∙ here

      grown : Grows mid (marked (fs_key id) mid)
      grown = marked_grows mid (fs_key id)

      there : (k : Key) → is_done (marked (fs_key id) mid) k ≡ true → is_in mid.keys k ≡ true
      there k done = elim (or_cases (same_key k (fs_key id)) (is_done mid k) (sym (marked_done mid (fs_key id) k) ∙ done)) [
        | inl own ↦ ap (is_in mid.keys) (same_key-true k (fs_key id) own) ∙ has
        | inr before ↦ inner.seen.there k before
      ]

      closed : (above k : Key) → is_done (marked (fs_key id) mid) above ≡ true → is_in (named objects above) k ≡ true → IsDone blocks (marked (fs_key id) mid) k
      closed above k done named_is =
          stays_done blocks mid (marked (fs_key id) mid) grown k (elim (or_cases (same_key above (fs_key id)) (is_done mid above) (sym (marked_done mid (fs_key id) above) ∙ done)) [
            | inl own ↦ closes k (subst (λ a. is_in (named objects a) k ≡ true) (same_key-true above (fs_key id) own) named_is)
            | inr before ↦ inner.seen.closed above k before named_is
          ])

  -- ---- nothing more is reached

  -- what is finished is gone over again without a key more
  again : (room : ℕ) (wants : Bool) (path : PathV) (id : List ℕ) (met : MetView) (w : Walk) → is_done met (fs_key id) ≡ true → IsSeen blocks objects w.visits met
      → IsSeen blocks objects (walk_object true objects (walk_below true objects room) wants path id w).visits met
  again room wants path id met w has seen = record {
    keys = object_stays objects (IsDone blocks met) closed (λ keys. distinct_from [] (chosen blocks keys) ≡ distinct_from [] met.keys) push room wants path id (own_done id met has) w seen.keys;
    there = seen.there;
    closed = seen.closed;
  }
    where
      closed : (above key : Key) → IsDone blocks met above → is_in (named objects above) key ≡ true → IsDone blocks met key
      closed above key = by above.kind refl
        where
          by : (kind : Kind) → above.kind ≡ kind → IsDoneOf kind blocks met above → is_in (named objects above) key ≡ true → IsDone blocks met key
          by Commit is done named_is = absurd done
          by Fs is done named_is = seen.closed above key done named_is
          by Block is done named_is = let none = subst (λ kind. is_in (named_under objects kind above.id) key ≡ true) is named_is in cc none

      push : (key : Key) → IsDone blocks met key → (keys : List Key) → distinct_from [] (chosen blocks keys) ≡ distinct_from [] met.keys
          → distinct_from [] (chosen blocks (keys ++ key ∷ [])) ≡ distinct_from [] met.keys
      push key done keys same = ap (distinct_from []) (chosen_push blocks keys key) ∙ by (goes_over blocks key.kind) refl
        where
          met_one : (kind : Kind) → IsDoneOf kind blocks met key → goes_over blocks kind ≡ true → is_in met.keys key ≡ true
          met_one Commit is goes = absurd is
          met_one Fs is goes = seen.there key is
          met_one Block is goes = is goes

          by : (b : Bool) → goes_over blocks key.kind ≡ b → distinct_from [] (if b then chosen blocks keys ++ key ∷ [] else chosen blocks keys) ≡ distinct_from [] met.keys
          by true goes =
              let here : is_in (chosen blocks keys) key ≡ true
              = sym (in_distinct (chosen blocks keys) key) ∙ ap (λ ks. is_in ks key) same ∙ in_distinct met.keys key ∙ met_one key.kind done goes in
              distinct_push [] (chosen blocks keys) key
              ∙ ap (λ (b : Bool). if b then distinct_from [] (chosen blocks keys) else distinct_from [] (chosen blocks keys) ++ key ∷ []) here ∙ same
          by false goes = same

  pub done_already : (room : ℕ) (wants : Bool) (path : PathV) (id : List ℕ) (met : MetView) (w : Walk) → is_done met (fs_key id) ≡ true → IsSeen blocks objects w.visits met
      → IsReached blocks objects (walk_object true objects (walk_below true objects room) wants path id w).visits (own_keys id) met met
  done_already room wants path id met w has seen = record { seen = again room wants path id met w has seen; grows = grows_itself met; there = own_done id met has }

  pub first_seen : (visits : List Key) (id : List ℕ) (old first : MetView) → IsSeen blocks objects visits old → first ≡ with_key_met (fs_key id) old
      → IsReached blocks objects (visits ++ fs_key id ∷ []) [] old first
  first_seen visits id old first seen is =
      subst (λ (m : MetView). IsReached blocks objects (visits ++ fs_key id ∷ []) [] old m) (sym is)
      (record { seen = visit_seen visits old (fs_key id) seen refl; grows = visit_grows visits old (fs_key id) seen; there = λ key none. cc none })

  -- what was reached before as well
  pub reached_then : (before after names more : List Key) (old mid new : MetView) → IsReached blocks objects before names old mid → IsReached blocks objects after more mid new
      → IsReached blocks objects after more old new
  reached_then before after names more old mid new first second = record { seen = second.seen; grows = grows_then old mid new first.grows second.grows; there = second.there }

  -- ---- blocks

  -- blocks are met, or passed over
  blocks_met : blocks ≡ true → (ids : List (List ℕ)) (visits : List Key) (met : MetView) → IsSeen blocks objects visits met
      → IsReached blocks objects (visits ++ block_keys ids) [] met (with_blocks_met ids met)
  blocks_met is [] visits met seen = subst (λ keys. IsReached blocks objects keys [] met met) (sym (append-nil visits)) (reached_nothing visits met seen)
  blocks_met is (id ∷ ids) visits met seen =
      let next = visit_seen visits met (block_key id) seen is in
      let rest = blocks_met is ids (visits ++ block_key id ∷ []) (with_key_met (block_key id) met) next in
      subst (λ keys. IsReached blocks objects keys [] met (with_blocks_met ids (with_key_met (block_key id) met))) (append_assoc visits (block_key id ∷ []) (block_keys ids)) (record {
        seen = rest.seen;
        grows = grows_then met (with_key_met (block_key id) met) (with_blocks_met ids (with_key_met (block_key id) met)) (visit_grows visits met (block_key id) seen) rest.grows;
        there = λ key none. cc none;
      })

  blocks_passed : blocks ≡ false → (ids : List (List ℕ)) (visits : List Key) (met : MetView) → IsSeen blocks objects visits met → IsReached blocks objects (visits ++ block_keys ids) [] met met
  blocks_passed is [] visits met seen = subst (λ keys. IsReached blocks objects keys [] met met) (sym (append-nil visits)) (reached_nothing visits met seen)
  blocks_passed is (id ∷ ids) visits met seen =
      subst (λ keys. IsReached blocks objects keys [] met met) (append_assoc visits (block_key id ∷ []) (block_keys ids))
      (blocks_passed is ids (visits ++ block_key id ∷ []) met (passed_seen visits met (block_key id) seen is))

  pub blocks_reached : (ids : List (List ℕ)) (visits : List Key) (met new : MetView) → IsSeen blocks objects visits met → new ≡ (if blocks then with_blocks_met ids met else met)
      → IsReached blocks objects (visits ++ block_keys ids) [] met new
  blocks_reached ids visits met new seen is = subst (λ (m : MetView). IsReached blocks objects (visits ++ block_keys ids) [] met m) (sym is) (by blocks refl)
    where
      by : (b : Bool) → blocks ≡ b → IsReached blocks objects (visits ++ block_keys ids) [] met (if b then with_blocks_met ids met else met)
      by true here = blocks_met here ids visits met seen
      by false none = blocks_passed none ids visits met seen

  -- ---- a commit

  none_seen : IsSeen blocks objects [] nothing_met
  none_seen = record {
    keys = refl;
    there = λ key is. let e = sym (ap (λ o. unwrap_or o false) (map.get-empty key_cmp key)) ∙ is in cc e;
    closed = λ above key is named_is. let e = sym (ap (λ o. unwrap_or o false) (map.get-empty key_cmp above)) ∙ is in cc e;
  }

  pub commit_seen : (id : List ℕ) (none first : MetView) → none ≡ nothing_met → first ≡ with_key_met (commit_key id) none → IsSeen blocks objects (visited (commit_key id) start).visits first
  commit_seen id none first empty is =
      subst (λ (m : MetView). IsSeen blocks objects (visited (commit_key id) start).visits m) (sym (is ∙ ap (with_key_met (commit_key id)) empty)) (visit_seen [] nothing_met (commit_key id) none_seen refl)
