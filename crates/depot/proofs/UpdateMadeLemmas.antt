-- The made commit: whether it is stored, its name, and what its traversal meets. The key lemmas are get_refused, plan_named,
-- text_named, commit_complete, root_needed and commit_reads.
use borrow.Author.Tests.{eqb-true}
use Rattle.std.proofs.Common.{if◌then◌else◌, arith, ◌≡◌, ◌≢◌, ◌⊎◌, inr, ℕ, ◌==◌, Bool, true, false, not, ◌&&◌, ◌||◌, List, [], ◌∷◌, ◌++◌, length, refl, sym, ap, ◌∙◌, subst, true≢false, Option, None, Some, IsTrue, Result, Ok, Err}
use Rattle.std.specs.FinMap as map
use Rattle.sha1.specs.Sha1.{sha1}
use Rattle.ids.specs.Key.{Objects}
use Rattle.ids.specs.ObjectId.{nil}
use Rattle.ids.specs.declared.key.Key.{Key}
use Rattle.ids.specs.declared.key.Kind.{Kind}
use Rattle.commit_objects.specs.Commit.{commit_of}
use Rattle.commit_objects.specs.Spelling.{text_of}
use Rattle.commit_objects.specs.declared.commit.Commit.{Commit}
use Rattle.library_rules.specs.MergeCommit.{some_in}
use Rattle.library_rules.specs.declared.entry.Stored.{Stored}
use Rattle.library_rules.proofs.MemberLemmas.{same_id-itself, same_id-true}
use Rattle.object_graph.specs.Objects.{commit_at, commit_in, commit_key, is_nil, of_name}
use Rattle.object_graph.specs.Traversal.{IsComplete, IsCompleteRoot, Walk, is_in, needs, start, then_read, visited, walk_commit, walk_root}
use Rattle.object_graph.specs.declared.fault.TreeFault.{TreeFault}
use Rattle.object_graph.specs.declared.fault.TreeFault.TheVariants.{Unreadable}
use Rattle.object_graph.proofs.AlikeLemmas.{Alike, object_alike}
use Rattle.object_graph.proofs.KeyLemmas.{in_append, in_distinct}
use Rattle.object_store.specs.Store.{IsGetFault, IsWhole, damage_at, has_other_name, is_free, is_named_by_bytes, name_refusal, same_bytes}
use Rattle.object_store.specs.declared.error.StoreFault.{StoreFault}
use Rattle.object_store.specs.declared.error.StoreFault.TheVariants as store
use Rattle.object_store.specs.declared.shelf.Slot.{Slot as ShelfSlot}
use Rattle.tree_merge.specs.TreeBuilding.{AreNamed as AreOwn, IsOwnName}
use Rattle.tree_model.specs.ConflictCopies.{places_of}
use Rattle.tree_model.specs.Path.{PathV}
use Rattle.tree_model.specs.declared.node.FileVersion.{FileVersion}
use Rattle.tree_walk.proofs.ReadsLemmas.{store_due}
use Rattle.depot.specs.Answering.{IsTakenBy}
use Rattle.depot.specs.ObjectCalls.{IsToldDamageOf}
use Rattle.depot.specs.UpdateMerge.{StoredSo}
use Rattle.depot.specs.Giving.{IsLaidAs}
use Rattle.depot.specs.Plan.{AreNamed, HasNames, IsNamed, listed}
use Rattle.depot.proofs.RefusalsLemmas.{store_told, told_damage}
use Rattle.depot.specs.Refusals.{store_refusal}
use Rattle.depot.proofs.UpdateListedLemmas.{all_join, listed_all}

-- ---- what is stored of the made commit

pub get_refused : (objects : Objects) (id text : List ℕ) (may_give : ShelfSlot → Option (List ℕ) → Type 0) (fault : StoreFault) → IsGetFault may_give (commit_key id) fault
    → (damage_at objects (commit_key id) ≡ Some fault) ⊎ IsTrue (is_free fault) → StoredSo objects id text (Err (store_refusal fault))
get_refused objects id text may_give (store.Taken taken) cause refused = absurd cause
get_refused objects id text may_give (store.Wrong wrong) cause refused = absurd cause
get_refused objects id text may_give (store.Damaged want got) cause refused = store_due objects (commit_key id) may_give (store.Damaged want got) cause refused
get_refused objects id text may_give store.Shelf cause refused = tt
get_refused objects id text may_give store.NoMemory cause refused = tt

-- other bytes are stored where the made commit belongs
pub other_stored : (may_give : ShelfSlot → Option (List ℕ) → Type 0) (id text stored : List ℕ) → IsWhole may_give (commit_key id) (Some stored) → same_bytes stored text ≡ false
    → IsTakenBy may_give id
other_stored may_give id text stored whole other =
    inr (inr (record { key = commit_key id; named = refl; bytes = text; other = record { given = stored; gives = whole.0; whole = whole.1; other = other } }))

pub get_damage : (objects : Objects) (id : List ℕ) (may_give : ShelfSlot → Option (List ℕ) → Type 0) (fault : StoreFault) → IsGetFault may_give (commit_key id) fault
    → (damage_at objects (commit_key id) ≡ Some fault) ⊎ IsTrue (is_free fault) → IsToldDamageOf objects (store_refusal fault)
get_damage objects id may_give fault cause refused = told_damage objects (store_refusal fault) (store_told objects fault (store_due objects (commit_key id) may_give fault cause refused))

-- ---- names

own_named : (a b : Bool) (x y : StoreFault) → a ≡ false → b ≡ false → (if a then Some x else if b then Some y else None) ≡ None
own_named true b x y e f = absurd (true≢false e)
own_named false true x y e f = absurd (true≢false f)
own_named false false x y e f = refl

and_not : (a b : Bool) → b ≡ true → (a && not b) ≡ false
and_not true true e = refl
and_not true false e = absurd (true≢false (sym e))
and_not false b e = refl

not_nil : (id : List ℕ) → id ≢ nil → same_bytes id nil ≡ false
not_nil id some = by (same_bytes id nil) refl
  where
    by : (b : Bool) → same_bytes id nil ≡ b → same_bytes id nil ≡ false
    by true e = absurd (some (same_id-true id nil e))
    by false e = e

dir_named : (key : Key) (bytes : List ℕ) → IsOwnName key bytes → name_refusal key bytes ≡ None
dir_named key bytes own =
    own_named (has_other_name key bytes) (same_bytes key.id nil) (store.Wrong (sha1 bytes)) (store.Taken key.id)
    (and_not (is_named_by_bytes key.kind) (same_bytes (sha1 bytes) key.id) (ap (same_bytes (sha1 bytes)) own.is_sha1 ∙ same_id-itself (sha1 bytes))) (not_nil key.id own.some)

dir_laid : (key : Key) (bytes : List ℕ) → IsOwnName key bytes → IsLaidAs key.kind key.id bytes
dir_laid key bytes own = subst (λ (k : Kind). IsLaidAs k key.id bytes) (sym own.is_fs) tt

pub dirs_named : (made : Objects) → AreOwn made → AreNamed (listed (map.entries made))
dirs_named made own = listed_all (λ x. IsNamed x) made (λ key bytes is. (dir_named key bytes (own key bytes is), dir_laid key bytes (own key bytes is)))

-- a plan whose commit is stored already
pub plan_named : (made : Objects) (id : List ℕ) → AreOwn made → HasNames (record { head = id; dirs = made; text = None })
plan_named made id own = all_join (λ (x : Stored). IsNamed x) (listed (map.entries made)) [] (dirs_named made own) tt

-- a plan with the text of its commit
pub text_named : (made : Objects) (commit : Commit) (text : List ℕ) → AreOwn made → is_nil commit.id ≡ false → text ≡ text_of commit → HasNames (record { head = commit.id; dirs = made; text = Some text })
text_named made commit text own some is =
    all_join (λ (x : Stored). IsNamed x) (listed (map.entries made)) (record { key = commit_key commit.id; bytes = text } ∷ []) (dirs_named made own)
    ((own_named false (same_bytes commit.id nil) (store.Wrong (sha1 text)) (store.Taken commit.id) refl some, (commit, is, refl)), tt)

-- ---- a commit over a root, traversed

-- each key of the one is one of the other
record Covers (xs ys : List Key) : Type 0 where
  each : (key : Key) → is_in xs key ≡ true → is_in ys key ≡ true

covers_pushed : (xs ys : List Key) (key : Key) → Covers xs ys → Covers (xs ++ key ∷ []) (ys ++ key ∷ [])
covers_pushed xs ys key covers = record { each = λ q e. in_append ys (key ∷ []) q ∙ by q (is_in xs q) refl (sym (in_append xs (key ∷ []) q) ∙ e) }
  where
    or_true : (b : Bool) → (true || b) ≡ true
    or_true b = refl

    or_last : (a b : Bool) → b ≡ true → (a || b) ≡ true
    or_last true b e = refl
    or_last false b e = e

    by : (q : Key) (b : Bool) → is_in xs q ≡ b → (b || is_in (key ∷ []) q) ≡ true → (is_in ys q || is_in (key ∷ []) q) ≡ true
    by q true is e = ap (λ c. c || is_in (key ∷ []) q) (covers.each q is)
    by q false is e = or_last (is_in ys q) (is_in (key ∷ []) q) e

over_root : (objects : Objects) (id : List ℕ) (commit : Commit) → Alike Covers (walk_root true objects commit.root start) (walk_root true objects commit.root (visited (commit_key id) start))
over_root objects id commit =
    object_alike Covers covers_pushed true objects 100 true [] commit.root start (visited (commit_key id) start)
    (record { keys = record { each = λ key e. absurd (true≢false (sym e)) }; paths = refl; fault = refl })

walk_is : (objects : Objects) (id : List ℕ) (commit : Commit) → commit_at objects id ≡ Ok commit → walk_commit objects id ≡ walk_root true objects commit.root (visited (commit_key id) start)
unfolding walk_commit
walk_is objects id commit reads = ap (λ (r : Result Commit TreeFault). then_read r (λ c. walk_root true objects c.root) (visited (commit_key id) start)) reads

pub commit_complete : (objects : Objects) (id : List ℕ) (commit : Commit) → commit_at objects id ≡ Ok commit → IsCompleteRoot objects commit.root → IsComplete objects id
commit_complete objects id commit reads whole =
    ap (λ (w : Walk). w.fault) (walk_is objects id commit reads) ∙ sym (over_root objects id commit).fault ∙ whole

pub root_needed : (objects : Objects) (id : List ℕ) (commit : Commit) (key : Key) → commit_at objects id ≡ Ok commit → is_in (walk_root true objects commit.root start).visits key ≡ true
    → is_in (needs objects id) key ≡ true
root_needed objects id commit key reads there =
    in_distinct (walk_commit objects id).visits key
    ∙ ap (λ (w : Walk). is_in w.visits key) (walk_is objects id commit reads)
    ∙ (over_root objects id commit).keys.each key there

-- a commit's text, read as that commit
pub commit_reads : (objects : Objects) (commit : Commit) → map.get objects (commit_key commit.id) ≡ Some (text_of commit) → commit_of (text_of commit) ≡ Ok commit
    → commit_at objects commit.id ≡ Ok commit
commit_reads objects commit there reads =
    ap (commit_in commit.id) there ∙ ap (of_name commit.id) reads
    ∙ ap (λ b. if b then Ok commit else Err (Unreadable (commit_key commit.id))) (same_id-itself commit.id)

-- ---- conflicts

pub copies_is : (copies : List ((PathV × FileVersion) × PathV)) → not (length (places_of copies) == 0) ≡ some_in copies
copies_is [] = refl
copies_is (x ∷ copies) = by (length (places_of (x ∷ copies)) == 0) refl
  where
    never : length (places_of (x ∷ copies)) ≡ 0 → ⊥
    never e = omega arith

    by : (b : Bool) → (length (places_of (x ∷ copies)) == 0) ≡ b → not (length (places_of (x ∷ copies)) == 0) ≡ true
    by true e = absurd (never (eqb-true (length (places_of (x ∷ copies))) 0 e))
    by false e = ap not e
