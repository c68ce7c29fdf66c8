-- Ids of keys that aren't known. The key lemmas are with_ids_push, with_ids_are, firsts_are and same_fs_ids.
use Rattle.std.proofs.Common.{◌≡◌, ◌&&◌, ◌||◌, not, ℕ, Bool, true, false, cond, if◌then◌else◌, is_some, List, [], ◌∷◌, ◌++◌, length, refl, sym, ap, ap₂, ◌∙◌, Option, None, Some, arith, ◌<◌, ◌+◌, get_or, take, take-suc, add-one}
use Rattle.std.specs.Prelude.{⊤, map as list_map}
use Rattle.std.specs.Cmp.{Equal-is}
use Rattle.std.specs.FinMap as map
use Rattle.std.specs.Ordering.{eq_by_cmp}
use Rattle.ids.specs.Key.{key_cmp}
use Rattle.ids.specs.ObjectId.{id_cmp}
use Rattle.ids.specs.declared.key.Key.{Key}
use Rattle.ids.specs.declared.key.Kind.{Kind}
use Rattle.ids.specs.declared.key.Kind.TheVariants.{Commit, Fs, Block}
use Rattle.ids.proofs.KeyOrderLemmas.{id_cmp_total, id_cmp_exact, key_cmp_total}
use Rattle.object_graph.specs.FsIds.{fs_ids_among, fs_ids_of, is_fs}
use Rattle.object_graph.specs.Objects.{fs_key}
use Rattle.object_graph.specs.Traversal.{is_in}
use Rattle.object_graph.proofs.KeyLemmas.{same_key, same_key-true, in_append}
use Rattle.tree_walk.specs.Known.{Knows, is_wanted, with_ids}
use Rattle.tree_walk.specs.Reaching.{HasFsOf}

-- one key more is known
pub knows_more : (keys : List Key) (known : map.FinMap key_cmp ⊤) (key : Key) → Knows keys known → Knows (keys ++ key ∷ []) (map.insert known key tt)
knows_more keys known key knows q =
    ap is_some (map.get-insert key_cmp_total known key tt q) ∙ by (same_key q key) (map.get known q) (is_in keys q) (knows q) ∙ sym (in_append keys (key ∷ []) q)
  where
    by : (b : Bool) (o : Option ⊤) (c : Bool) → is_some o ≡ c → is_some (cond b (Some tt) o) ≡ (c || (b || false))
    by true o true is = refl
    by true o false is = refl
    by false o true is = is
    by false o false is = is

pub knows_nothing : (known : map.FinMap key_cmp ⊤) → known ≡ map.empty → Knows [] known
knows_nothing known is q = ap (λ (m : map.FinMap key_cmp ⊤). is_some (map.get m q)) is ∙ ap is_some (map.get-empty key_cmp q)

-- the last key is put in first
pub with_ids_push : (known : map.FinMap key_cmp ⊤) (keys : List Key) (key : Key) (ids : map.FinMap id_cmp ⊤)
    → with_ids known (keys ++ key ∷ []) ids ≡ with_ids known keys (if is_wanted known key then map.insert ids key.id tt else ids)
with_ids_push known [] key ids = refl
with_ids_push known (k ∷ keys) key ids = ap (λ m. if is_wanted known k then map.insert m k.id tt else m) (with_ids_push known keys key ids)

-- ---- the map of those that aren't known

abbrev IdMap : Type 0
IdMap = map.FinMap id_cmp ⊤

module _ (p : List ℕ → Bool) where
  get_kept : (m : IdMap) (q : List ℕ) → map.get (map.retain_keys m p) q ≡ cond (p q) (map.get m q) None
  get_kept m q = map.get-retain_keys m p q (λ x tied. ap p (sym (id_cmp_exact q x tied)))

  retain_empty : map.retain_keys (map.empty {X = ⊤} {R = id_cmp}) p ≡ map.empty
  retain_empty = map.same_map id_cmp_total id_cmp_exact (map.retain_keys map.empty p) map.empty (λ q. get_kept map.empty q ∙ ap (λ o. cond (p q) o None) (map.get-empty id_cmp q) ∙ by (p q) ∙ sym (map.get-empty id_cmp q))
    where
      by : (b : Bool) → cond b None None ≡ (let o : Option ⊤ = None in o)
      by true = refl
      by false = refl

  retain_insert : (m : IdMap) (id : List ℕ) → map.retain_keys (map.insert m id tt) p ≡ (if p id then map.insert (map.retain_keys m p) id tt else map.retain_keys m p)
  retain_insert m id = map.same_map id_cmp_total id_cmp_exact (map.retain_keys (map.insert m id tt) p) (if p id then map.insert (map.retain_keys m p) id tt else map.retain_keys m p) at
    where
      same : (q : List ℕ) → eq_by_cmp id_cmp q id ≡ true → q ≡ id
      same q e = id_cmp_exact q id ((Equal-is (id_cmp q id)).0 e)

      right : (q : List ℕ) (c : Bool) → map.get (if c then map.insert (map.retain_keys m p) id tt else map.retain_keys m p) q
          ≡ (if c then cond (eq_by_cmp id_cmp q id) (Some tt) (cond (p q) (map.get m q) None) else cond (p q) (map.get m q) None)
      right q true = map.get-insert id_cmp_total (map.retain_keys m p) id tt q ∙ ap (cond (eq_by_cmp id_cmp q id) (Some tt)) (get_kept m q)
      right q false = get_kept m q

      by : (q : List ℕ) (b c d : Bool) (o : Option ⊤) → (b ≡ true → d ≡ c) → cond d (cond b (Some tt) o) None ≡ (if c then cond b (Some tt) (cond d o None) else cond d o None)
      by q true true true o is = refl
      by q true true false o is = absurd (no (is refl))
        where
          no : false ≡ true → ⊥
          no e = cc
      by q true false true o is = absurd (no (is refl))
        where
          no : true ≡ false → ⊥
          no e = cc
      by q true false false o is = refl
      by q false true true o is = refl
      by q false true false o is = refl
      by q false false true o is = refl
      by q false false false o is = refl

      at : (q : List ℕ) → map.get (map.retain_keys (map.insert m id tt) p) q ≡ map.get (if p id then map.insert (map.retain_keys m p) id tt else map.retain_keys m p) q
      at q =
          get_kept (map.insert m id tt) q ∙ ap (λ o. cond (p q) o None) (map.get-insert id_cmp_total m id tt q)
          ∙ by q (eq_by_cmp id_cmp q id) (p id) (p q) (map.get m q) (λ e. ap p (same q e)) ∙ sym (right q (p id))

-- a key of a file or directory is the key of its id
fs_is : (key : Key) → is_fs key.kind ≡ true → fs_key key.id ≡ key
fs_is key is = by key.kind refl is
  where
    by : (kind : Kind) → key.kind ≡ kind → is_fs kind ≡ true → fs_key key.id ≡ key
    by Commit same is = cc
    by Fs same is = λ i. record { kind = sym same i; id = key.id }
    by Block same is = cc

-- the ids that are put in are those that are wanted and aren't known
pub with_ids_are : (known : map.FinMap key_cmp ⊤) (others : List Key) → Knows others known → (wanted : List Key)
    → with_ids known wanted map.empty ≡ map.retain_keys (fs_ids_among wanted) (λ id. not (is_in others (fs_key id)))
with_ids_are known others knows [] = sym (retain_empty (λ id. not (is_in others (fs_key id))))
with_ids_are known others knows (key ∷ wanted) = by (is_fs key.kind) refl (with_ids_are known others knows wanted)
  where
    p : List ℕ → Bool
    p id = not (is_in others (fs_key id))

    test : is_fs key.kind ≡ true → not (is_some (map.get known key)) ≡ not (is_in others (fs_key key.id))
    test is = ap not (knows key ∙ ap (is_in others) (sym (fs_is key is)))

    by : (b : Bool) → is_fs key.kind ≡ b → with_ids known wanted map.empty ≡ map.retain_keys (fs_ids_among wanted) (λ id. not (is_in others (fs_key id)))
        → (if b && not (is_some (map.get known key)) then map.insert (with_ids known wanted map.empty) key.id tt else with_ids known wanted map.empty)
        ≡ map.retain_keys (if b then map.insert (fs_ids_among wanted) key.id tt else fs_ids_among wanted) (λ id. not (is_in others (fs_key id)))
    by true is rest =
        ap₂ (λ (c : Bool) (m : IdMap). if c then map.insert m key.id tt else m) (test is) rest
        ∙ sym (retain_insert (λ id. not (is_in others (fs_key id))) (fs_ids_among wanted) key.id)
    by false is rest = rest

-- ---- the ids of a map

abbrev pub firsts : List (List ℕ × ⊤) → List (List ℕ)
firsts [] = []
firsts (p ∷ pairs) = p.0 ∷ firsts pairs

pub firsts_are : (pairs : List (List ℕ × ⊤)) → list_map (λ (p : List ℕ × ⊤). p.0) pairs ≡ firsts pairs
firsts_are [] = refl
firsts_are (p ∷ pairs) = ap (λ ids. p.0 ∷ ids) (firsts_are pairs)

pub no_ids : (pairs : List (List ℕ × ⊤)) → length pairs ≡ 0 → pairs ≡ []
no_ids [] e = refl
no_ids (p ∷ pairs) e = absurd (omega arith)

pub next_key : (keys : List Key) (i : ℕ) (key : Key) → i < length keys → key ≡ get_or keys i key → take (i + 1) keys ≡ take i keys ++ key ∷ []
next_key keys i key within is = rw (add-one, take-suc keys i key) (ap (λ k. take i keys ++ k ∷ []) (sym is))

-- ---- ids of files and directories, by which keys there are

-- an id is among those of some keys where its key is one of them
ids_among : (keys : List Key) (q : List ℕ) → is_some (map.get (fs_ids_among keys) q) ≡ is_in keys (fs_key q)
ids_among [] q = ap is_some (map.get-empty id_cmp q)
ids_among (key ∷ keys) q = by (ids_among keys q) (is_fs key.kind) refl
  where
    put : (b c : Bool) (o : Option ⊤) → is_some o ≡ c → is_some (cond b (Some tt) o) ≡ (b || c)
    put true c o is = refl
    put false c o is = is

    one : is_fs key.kind ≡ true → eq_by_cmp id_cmp q key.id ≡ same_key (fs_key q) key
    one is = ap (same_key (fs_key q)) (fs_is key is)

    other : is_fs key.kind ≡ false → (b : Bool) → same_key (fs_key q) key ≡ b → b ≡ false
    other is true e = ap (λ (k : Key). is_fs k.kind) (same_key-true (fs_key q) key e) ∙ is
    other is false e = refl

    by : is_some (map.get (fs_ids_among keys) q) ≡ is_in keys (fs_key q) → (b : Bool) → is_fs key.kind ≡ b
        → is_some (map.get (if b then map.insert (fs_ids_among keys) key.id tt else fs_ids_among keys) q) ≡ (same_key (fs_key q) key || is_in keys (fs_key q))
    by rest true is =
        ap is_some (map.get-insert id_cmp_total (fs_ids_among keys) key.id tt q)
        ∙ put (eq_by_cmp id_cmp q key.id) (is_in keys (fs_key q)) (map.get (fs_ids_among keys) q) rest
        ∙ ap (λ b. b || is_in keys (fs_key q)) (one is)
    by rest false is = rest ∙ ap (λ b. b || is_in keys (fs_key q)) (sym (other is (same_key (fs_key q) key) refl))

-- the list goes by which keys of files and directories there are, and which are known
pub same_fs_ids : (wanted others known had : List Key) → HasFsOf wanted others → HasFsOf known had → fs_ids_of wanted known ≡ fs_ids_of others had
same_fs_ids wanted others known had same same_known =
    ap map.keys (map.same_map id_cmp_total id_cmp_exact (map.retain_keys (fs_ids_among wanted) (free known)) (map.retain_keys (fs_ids_among others) (free had))
    (λ q. get_kept (free known) (fs_ids_among wanted) q
    ∙ ap₂ (λ (b : Bool) (o : Option ⊤). cond b o None) (ap not (same_known q)) (told (map.get (fs_ids_among wanted) q) (map.get (fs_ids_among others) q) (ids_among wanted q ∙ same q ∙ sym (ids_among others q)))
    ∙ sym (get_kept (free had) (fs_ids_among others) q)))
  where
    free : List Key → List ℕ → Bool
    free keys id = not (is_in keys (fs_key id))

    told : (o p : Option ⊤) → is_some o ≡ is_some p → o ≡ p
    told None None is = refl
    told (Some x) (Some y) is = refl
    told None (Some y) is = cc
    told (Some x) None is = cc
