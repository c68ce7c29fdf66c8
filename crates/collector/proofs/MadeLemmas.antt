-- What is stored, with what is made and not stored yet. The key lemmas are keeps_made and get-with_made.
use Rattle.std.proofs.Common.{◌≡◌, ℕ, Bool, true, false, cond, if◌then◌else◌, is_some, List, [], ◌∷◌, refl, sym, ap, ◌∙◌, true≢false, Option, None, Some}
use Rattle.std.specs.FinMap as map
use Rattle.ids.specs.Key.{Objects, key_cmp}
use Rattle.ids.specs.declared.key.Key.{Key}
use Rattle.ids.proofs.KeyOrderLemmas.{key_cmp_total}
use Rattle.library_rules.specs.Changes.{with_added}
use Rattle.library_rules.proofs.KeepingLemmas.{grown}
use Rattle.object_graph.specs.Unchanged.{Keeps}
use Rattle.object_graph.proofs.KeyLemmas.{same_key, same_key-true}
use Rattle.collector.specs.Comparing.{stored_in, with_made}

-- what is stored keeps its bytes
pub keeps_made : (objects : Objects) (made : map.FinMap key_cmp (List ℕ)) → Keeps objects (with_made objects made)
keeps_made objects made = grown objects (stored_in (map.entries made))

pick : (o later other : Option (List ℕ)) → is_some o ≡ true → (if is_some o then o else later) ≡ (if is_some o then o else other)
pick None later other e = absurd (true≢false (sym e))
pick (Some bytes) later other e = refl

unpicked : (o later : Option (List ℕ)) → is_some o ≡ false → later ≡ (if is_some o then o else later)
unpicked None later e = refl
unpicked (Some bytes) later e = absurd (true≢false e)

with_one : (A : Objects) (k : Key) (bytes : List ℕ) (q : Key) (later : Option (List ℕ)) (stored : Bool) → is_some (map.get A k) ≡ stored → (same : Bool) → same_key q k ≡ same
    → (if is_some (map.get (if stored then A else map.insert A k bytes) q) then map.get (if stored then A else map.insert A k bytes) q else later)
    ≡ (if is_some (map.get A q) then map.get A q else cond same (Some bytes) later)
with_one A k bytes q later true here true own = pick (map.get A q) later (Some bytes) (ap (λ (x : Key). is_some (map.get A x)) (same_key-true q k own) ∙ here)
with_one A k bytes q later true here false other = refl
with_one A k bytes q later false gone true own =
    ap (λ (o : Option (List ℕ)). if is_some o then o else later) (map.get-insert key_cmp_total A k bytes q ∙ ap (λ (b : Bool). cond b (Some bytes) (map.get A q)) own)
    ∙ unpicked (map.get A q) (Some bytes) (ap (λ (x : Key). is_some (map.get A x)) (same_key-true q k own) ∙ gone)
with_one A k bytes q later false gone false other =
    ap (λ (o : Option (List ℕ)). if is_some o then o else later) (map.get-insert key_cmp_total A k bytes q ∙ ap (λ (b : Bool). cond b (Some bytes) (map.get A q)) other)

none_more : (o : Option (List ℕ)) → o ≡ (if is_some o then o else None)
none_more None = refl
none_more (Some bytes) = refl

get-added : (entries : List (Key × List ℕ)) (A : Objects) (q : Key)
    → map.get (with_added A (stored_in entries)) q ≡ (if is_some (map.get A q) then map.get A q else map.find key_cmp q entries)
get-added [] A q = none_more (map.get A q)
get-added (e ∷ entries) A q =
    get-added entries (if is_some (map.get A e.0) then A else map.insert A e.0 e.1) q
    ∙ with_one A e.0 e.1 q (map.find key_cmp q entries) (is_some (map.get A e.0)) refl (same_key q e.0) refl

-- and what is made beside has its own
pub get-with_made : (objects : Objects) (made : map.FinMap key_cmp (List ℕ)) (key : Key)
    → map.get (with_made objects made) key ≡ (if is_some (map.get objects key) then map.get objects key else map.get made key)
get-with_made objects made key =
    get-added (map.entries made) objects key
    ∙ ap (λ (o : Option (List ℕ)). if is_some (map.get objects key) then map.get objects key else o) (sym (map.get-entries made key))
