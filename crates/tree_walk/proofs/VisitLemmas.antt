-- What a traversal met, and the blocks that it visits. The key lemmas are met_more, met_marked, distinct-once, with_key-once,
-- blocks_visits and commit_unread.
use Rattle.std.proofs.Common.{◌≡◌, ◌||◌, ◌&&◌, not, ℕ, Bool, true, false, cond, if◌then◌else◌, is_some, List, [], ◌∷◌, ◌++◌, refl, sym, ap, ap₂, ◌∙◌, Option, None, Some, Result, Err, append_assoc, append-nil, subst₂}
use Rattle.std.specs.FinMap as map
use Rattle.ids.specs.Key.{Objects, key_cmp}
use Rattle.ids.specs.declared.key.Key.{Key}
use Rattle.ids.proofs.KeyOrderLemmas.{key_cmp_total}
use Rattle.commit_objects.specs.declared.commit.Commit.{Commit}
use Rattle.object_graph.specs.Objects.{block_key, commit_at, commit_key}
use Rattle.object_graph.specs.Reached.{block_keys}
use Rattle.object_graph.specs.Traversal.{Walk, start, walk_commit, walk_root, visited, failed, then_walk, then_read, walk_block, walk_blocks, is_in, distinct_from}
use Rattle.object_graph.specs.declared.fault.TreeFault.{TreeFault}
use Rattle.object_graph.specs.declared.fault.TreeFault.TheVariants.{Incomplete}
use Rattle.object_graph.proofs.KeyLemmas.{same_key, same_key-true, in_append, in_last, distinct_push, Once}
use Rattle.object_graph.proofs.SchemeLemmas.{none_before, goes_on}
use Rattle.tree_walk.specs.Reading.{AnswersRead, IsDue}
use Rattle.tree_walk.specs.Visits.{MetView, IsMet, no_repeat, with_key_met}
use Rattle.tree_walk.specs.declared.fault.WalkFault.{WalkFault}
use Rattle.tree_walk.proofs.StepsLemmas.{due_unread}
use Rattle.std.proofs.lemmas.Bool.{not-true, and_parts}

-- ---- keys, each once

-- a key behind others, unless it stands there
abbrev pub with_key : List Key → Key → List Key
with_key keys key = if is_in keys key then keys else keys ++ key ∷ []

pub with_key-once : (keys : List Key) (key : Key) → Once (with_key keys key) (keys ++ key ∷ [])
with_key-once keys key = by (is_in keys key) refl ∙ sym (distinct_push [] keys key)
  where
    by : (b : Bool) → is_in keys key ≡ b → distinct_from [] (if b then keys else keys ++ key ∷ []) ≡ (if is_in keys key then distinct_from [] keys else distinct_from [] keys ++ key ∷ [])
    by true is = ap (λ (b : Bool). if b then distinct_from [] keys else distinct_from [] keys ++ key ∷ []) (sym is)
    by false is = distinct_push [] keys key

-- what stands once is its own list of distinct keys
pub distinct-once : (met keys : List Key) → no_repeat met keys ≡ true → distinct_from met keys ≡ keys
distinct-once met [] once = refl
distinct-once met (key ∷ keys) once =
    let parts = and_parts (not (is_in met key)) (no_repeat (key ∷ met) keys) once in
    ap (λ (b : Bool). if b then distinct_from met keys else key ∷ distinct_from (key ∷ met) keys) (not-true (is_in met key) parts.0)
    ∙ ap (λ ks. key ∷ ks) (distinct-once (key ∷ met) keys parts.1)

no_repeat_push : (met keys : List Key) (last : Key) → no_repeat met keys ≡ true → is_in met last ≡ false → is_in keys last ≡ false → no_repeat met (keys ++ last ∷ []) ≡ true
no_repeat_push met [] last once new apart = ap (λ (b : Bool). not b && true) new
no_repeat_push met (key ∷ keys) last once new apart =
    let parts = and_parts (not (is_in met key)) (no_repeat (key ∷ met) keys) once in
    let first : same_key last key ≡ false = left_false (same_key last key) (is_in keys last) apart in
    let rest : is_in keys last ≡ false = right_false (same_key last key) (is_in keys last) apart in
    ap₂ ◌&&◌ parts.0 (no_repeat_push (key ∷ met) keys last parts.1 (ap₂ ◌||◌ first new) rest)
  where
    left_false : (a b : Bool) → (a || b) ≡ false → a ≡ false
    left_false true b e = cc
    left_false false b e = refl

    right_false : (a b : Bool) → (a || b) ≡ false → b ≡ false
    right_false true b e = cc
    right_false false b e = e

-- ---- what was met

-- a new key in the table and behind the list
pub met_more : (order : List Key) (marks : map.FinMap key_cmp Bool) (key : Key) (done : Bool) → IsMet order marks → is_some (map.get marks key) ≡ false
    → IsMet (order ++ key ∷ []) (map.insert marks key done)
met_more order marks key done met new = record {
  there = λ q. ap is_some (map.get-insert key_cmp_total marks key done q) ∙ by (same_key q key) (map.get marks q) (is_in order q) (met.there q) ∙ sym (in_append order (key ∷ []) q);
  once = no_repeat_push [] order key met.once refl (sym (met.there key) ∙ new);
}
  where
    by : (b : Bool) (o : Option Bool) (c : Bool) → is_some o ≡ c → is_some (cond b (Some done) o) ≡ (c || (b || false))
    by true o true is = refl
    by true o false is = refl
    by false o true is = is
    by false o false is = is

-- a key of the list is marked anew
pub met_marked : (order : List Key) (marks : map.FinMap key_cmp Bool) (key : Key) (done : Bool) → IsMet order marks → is_in order key ≡ true → IsMet order (map.insert marks key done)
met_marked order marks key done met has = record {
  there = λ q. ap is_some (map.get-insert key_cmp_total marks key done q) ∙ by q (same_key q key) refl (map.get marks q) (met.there q);
  once = met.once;
}
  where
    by : (q : Key) (b : Bool) → same_key q key ≡ b → (o : Option Bool) → is_some o ≡ is_in order q → is_some (cond b (Some done) o) ≡ is_in order q
    by q true tied o is = sym (ap (is_in order) (same_key-true q key tied) ∙ has)
    by q false tied o is = is

pub nothing_is_met : (order : List Key) (marks : map.FinMap key_cmp Bool) → order ≡ [] → marks ≡ map.empty → IsMet order marks
nothing_is_met order marks none empty =
    subst₂ (λ (ks : List Key) (m : map.FinMap key_cmp Bool). IsMet ks m) (sym none) (sym empty)
    (record { there = λ key. ap is_some (map.get-empty key_cmp key); once = refl })

pub key_is_met : (met : MetView) (key : Key) → is_in met.keys key ≡ true → with_key_met key met ≡ met
key_is_met met key is = ap (λ (b : Bool). if b then met else record { keys = met.keys ++ key ∷ []; marks = map.insert met.marks key false }) is

-- a key that was visited is among those that were met
pub visit_has : (met : MetView) (key : Key) → is_in (with_key_met key met).keys key ≡ true
visit_has met key = by (is_in met.keys key) refl
  where
    by : (b : Bool) → is_in met.keys key ≡ b → is_in (if b then met else record { keys = met.keys ++ key ∷ []; marks = map.insert met.marks key false }).keys key ≡ true
    by true is = is
    by false is = in_last met.keys key

-- ---- blocks that are all stored
block_visits : (objects : Objects) (id : List ℕ) (w : Walk) → (walk_block true objects id w).visits ≡ w.visits ++ block_key id ∷ []
block_visits objects id w = by (is_some (map.get objects (block_key id)))
  where
    by : (b : Bool) → (if b then visited (block_key id) w else failed (Incomplete (block_key id)) (visited (block_key id) w)).visits ≡ w.visits ++ block_key id ∷ []
    by true = refl
    by false = refl

pub blocks_visits : (objects : Objects) (ids : List (List ℕ)) (w : Walk) → (walk_blocks true objects ids w).fault ≡ None → (walk_blocks true objects ids w).visits ≡ w.visits ++ block_keys ids
blocks_visits objects [] w none = sym (append-nil w.visits)
blocks_visits objects (id ∷ ids) w none =
    let v : Walk = walk_block true objects id w in
    let early : v.fault ≡ None = none_before v (walk_blocks true objects ids) none in
    let on : then_walk v (walk_blocks true objects ids) ≡ walk_blocks true objects ids v = goes_on v (walk_blocks true objects ids) early in
    let rest = blocks_visits objects ids v (ap (λ (u : Walk). u.fault) (sym on) ∙ none) in
    ap (λ (u : Walk). u.visits) on ∙ rest ∙ ap (λ ks. ks ++ block_keys ids) (block_visits objects id w) ∙ append_assoc w.visits (block_key id ∷ []) (block_keys ids)

-- ---- a commit

pub commit_unread : (objects : Objects) (id : List ℕ) (fault : WalkFault) → AnswersRead objects (commit_at objects id) (Err fault) → IsDue objects (walk_commit objects id).fault fault
unfolding walk_commit
commit_unread objects id fault is =
    due_unread objects (walk_commit objects id).fault (commit_at objects id)
    (λ due at. ap (λ (r : Result Commit TreeFault). (then_read r (λ commit. walk_root true objects commit.root) (visited (commit_key id) start)).fault) at) fault is
