-- How the objects of a library change, and what stays of kept commits. The key lemmas are grown, kept_without,
-- agrees_then and agrees_moved.
use Rattle.std.proofs.Common.{◌≡◌, ◌⊎◌, inl, inr, ℕ, Bool, true, false, if◌then◌else◌, cond, is_some, List, [], ◌∷◌, refl, sym, ap, ◌∙◌, subst, true≢false, Option, None, Some}
use Rattle.std.specs.FinMap as map
use Rattle.ids.specs.Key.{Objects}
use Rattle.ids.specs.declared.key.Key.{Key}
use Rattle.ids.proofs.KeyOrderLemmas.{key_cmp_total}
use Rattle.library_state.specs.declared.history.Install.{Install}
use Rattle.object_graph.specs.Traversal.{Walk, walk_commit, distinct_from, is_in, needs, IsComplete}
use Rattle.object_graph.specs.Unchanged.{AgreeOn, Keeps}
use Rattle.object_graph.proofs.KeyLemmas.{same_key, same_key-true, same_key-itself, in_distinct}
use Rattle.object_graph.proofs.LocalityLemmas.{local_commit, agree_needs}
use Rattle.object_graph.proofs.StoredLemmas.{commit_stored, agree_kept}
use Rattle.library_rules.specs.Changes.{put_new, with_added, without, keys_added}
use Rattle.library_rules.specs.LibraryState.{kept_commits, is_kept, is_stored, is_needed}
use Rattle.library_rules.specs.declared.entry.Stored.{Stored}
use Rattle.library_rules.proofs.MemberLemmas.{apart, any_found}
use Rattle.std.proofs.lemmas.Bool.{or_cases, false_from_ne_true, or_parts}

-- ---- objects that come

pub keeps_then : {A B C : Objects} → Keeps A B → Keeps B C → Keeps A C
keeps_then first second = record { kept = λ key bytes is. second.kept key bytes (first.kept key bytes is) }

pub keeps_itself : (A : Objects) → Keeps A A
keeps_itself A = record { kept = λ key bytes is. is }

pub stored_then : (A B : Objects) → Keeps A B → (key : Key) → is_stored A key ≡ true → is_stored B key ≡ true
stored_then A B keeps key stored = by (map.get A key) refl stored
  where
    by : (o : Option (List ℕ)) → map.get A key ≡ o → is_some o ≡ true → is_stored B key ≡ true
    by None is e = absurd (true≢false (sym e))
    by (Some bytes) is e = ap is_some (keeps.kept key bytes is)

put_keeps : (A : Objects) (x : Stored) → Keeps A (put_new A x)
put_keeps A x = record { kept = λ key bytes is. by key bytes is (is_stored A x.key) refl }
  where
    new : (key : Key) (bytes : List ℕ) → map.get A key ≡ Some bytes → is_stored A x.key ≡ false
        → (b : Bool) → same_key key x.key ≡ b → cond b (Some x.bytes) (map.get A key) ≡ Some bytes
    new key bytes is absent true same =
        absurd (apart (is_stored A key) (ap is_some is) (subst (λ k. is_stored A k ≡ false) (sym (same_key-true key x.key same)) absent))
    new key bytes is absent false same = is

    by : (key : Key) (bytes : List ℕ) → map.get A key ≡ Some bytes → (b : Bool) → is_stored A x.key ≡ b
        → map.get (if b then A else map.insert A x.key x.bytes) key ≡ Some bytes
    by key bytes is true e = is
    by key bytes is false e = map.get-insert key_cmp_total A x.key x.bytes key ∙ new key bytes is e (same_key key x.key) refl

pub grown : (A : Objects) (added : List Stored) → Keeps A (with_added A added)
grown A [] = keeps_itself A
grown A (x ∷ added) = keeps_then (put_keeps A x) (grown (put_new A x) added)

pub put_stored : (A : Objects) (x : Stored) → is_stored (put_new A x) x.key ≡ true
put_stored A x = by (is_stored A x.key) refl
  where
    by : (b : Bool) → is_stored A x.key ≡ b → is_stored (if b then A else map.insert A x.key x.bytes) x.key ≡ true
    by true e = e
    by false e = ap is_some (map.get-insert key_cmp_total A x.key x.bytes x.key) ∙ ap (λ b. is_some (cond b (Some x.bytes) (map.get A x.key))) (same_key-itself x.key)

pub added_stored : (A : Objects) (added : List Stored) (key : Key) → is_in (keys_added added) key ≡ true → is_stored (with_added A added) key ≡ true
added_stored A [] key e = absurd (true≢false (sym e))
added_stored A (x ∷ added) key e = elim (or_cases (same_key key x.key) (is_in (keys_added added) key) e) [
  | inl here ↦ stored_then (put_new A x) (with_added (put_new A x) added) (grown (put_new A x) added) key
      (subst (λ k. is_stored (put_new A x) k ≡ true) (sym (same_key-true key x.key here)) (put_stored A x))
  | inr there ↦ added_stored (put_new A x) added key there
]

-- ---- objects that leave

pub kept_without : (A : Objects) (removed : List Key) (key : Key) → is_in removed key ≡ false → map.get (without A removed) key ≡ map.get A key
kept_without A [] key e = refl
kept_without A (k ∷ removed) key e =
    let parts = or_parts (same_key key k) (is_in removed key) e in
    kept_without (map.remove A k) removed key parts.1 ∙ map.get-remove key_cmp_total A k key ∙ ap (λ b. cond b None (map.get A key)) parts.0

-- what is stored stays, where it doesn't leave
pub still_stored : (A : Objects) (added : List Stored) (removed : List Key) (key : Key) → is_stored A key ≡ true → is_in removed key ≡ false
    → is_stored (without (with_added A added) removed) key ≡ true
still_stored A added removed key stored stays =
    ap is_some (kept_without (with_added A added) removed key stays) ∙ stored_then A (with_added A added) (grown A added) key stored

-- ---- what a commit needs

-- the traversal of a commit is the same where what it needs is
pub same_walk : (A B : Objects) (id : List ℕ) → AgreeOn (needs A id) A B → walk_commit B id ≡ walk_commit A id
same_walk A B id agree = local_commit A B id (agree_needs A B id agree)

pub same_needs : (A B : Objects) (id : List ℕ) → AgreeOn (needs A id) A B → needs B id ≡ needs A id
same_needs A B id agree = ap (λ (w : Walk). distinct_from [] w.visits) (same_walk A B id agree)

pub still_complete : (A B : Objects) (id : List ℕ) → AgreeOn (needs A id) A B → IsComplete A id → IsComplete B id
still_complete A B id agree complete = ap (λ (w : Walk). w.fault) (same_walk A B id agree) ∙ complete

pub agrees_itself : (keys : List Key) (A : Objects) → AgreeOn keys A A
agrees_itself keys A = record { same = λ key e. refl }

pub agrees_then : (A B C : Objects) (id : List ℕ) → AgreeOn (needs A id) A B → AgreeOn (needs B id) B C → AgreeOn (needs A id) A C
agrees_then A B C id first second = record {
  same = λ key e. second.same key (subst (λ keys. is_in keys key ≡ true) (sym (same_needs A B id first)) e) ∙ first.same key e;
}

pub needs_stored : (A : Objects) (id : List ℕ) → IsComplete A id → (key : Key) → is_in (needs A id) key ≡ true → is_stored A key ≡ true
needs_stored A id complete key e = (commit_stored A id complete).stored key (sym (in_distinct (walk_commit A id).visits key) ∙ e)

pub agrees_grown : (A B : Objects) (id : List ℕ) → IsComplete A id → Keeps A B → AgreeOn (needs A id) A B
agrees_grown A B id complete keeps = agree_kept A B (needs A id) keeps (record { stored = needs_stored A id complete })

-- what a kept commit needs is needed
pub kept_needs : (A : Objects) (kept : List Install) (id : List ℕ) (key : Key) → is_kept kept id ≡ true → is_in (needs A id) key ≡ true → is_needed A kept key ≡ true
kept_needs A kept id key is_one e = any_found (λ commit. is_in (needs A commit) key) (kept_commits kept) id is_one e

pub agrees_swept : (A : Objects) (kept : List Install) (removed : List Key) (id : List ℕ) → is_kept kept id ≡ true
    → ((key : Key) → is_in removed key ≡ true → is_needed A kept key ≡ false) → AgreeOn (needs A id) A (without A removed)
agrees_swept A kept removed id is_one unneeded = record {
  same = λ key e. kept_without A removed key (false_from_ne_true (is_in removed key) (λ gone. apart (is_needed A kept key) (kept_needs A kept id key is_one e) (unneeded key gone)));
}

-- objects come or leave, and what kept commits need stays
pub agrees_moved : (A : Objects) (kept : List Install) (added : List Stored) (removed : List Key) (id : List ℕ) → is_kept kept id ≡ true → IsComplete A id
    → ((key : Key) → is_in removed key ≡ true → is_needed A kept key ≡ false) → (added ≡ []) ⊎ (removed ≡ [])
    → AgreeOn (needs A id) A (without (with_added A added) removed)
agrees_moved A kept added removed id is_one complete unneeded (inl none) =
    subst (λ xs. AgreeOn (needs A id) A (without (with_added A xs) removed)) (sym none) (agrees_swept A kept removed id is_one unneeded)
agrees_moved A kept added removed id is_one complete unneeded (inr none) =
    subst (λ keys. AgreeOn (needs A id) A (without (with_added A added) keys)) (sym none) (agrees_grown A (with_added A added) id complete (grown A added))
