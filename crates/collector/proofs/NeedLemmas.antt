-- What commits need, and what is reached, as objects come and leave. The key lemmas are needed_alike, needed_kept,
-- without_gone and reached_grown.
use Rattle.std.proofs.Common.{◌≡◌, ◌||◌, inl, inr, ℕ, Bool, true, false, cond, List, [], ◌∷◌, refl, sym, ap, ap₂, ◌∙◌, true≢false, Option, None, Some}
use Rattle.std.specs.FinMap as map
use Rattle.std.specs.List.{list_any}
use Rattle.std.proofs.lemmas.Bool.{or_cases, or_left, or_right}
use Rattle.ids.specs.Key.{Objects}
use Rattle.ids.specs.declared.key.Key.{Key}
use Rattle.ids.specs.declared.key.Kind.{Kind}
use Rattle.ids.specs.declared.key.Kind.TheVariants as kind
use Rattle.ids.proofs.KeyOrderLemmas.{key_cmp_total}
use Rattle.library_rules.specs.Changes.{without}
use Rattle.library_rules.specs.LibraryState.{is_kept, is_needed}
use Rattle.library_rules.proofs.KeepingLemmas.{kept_needs, same_needs}
use Rattle.library_rules.proofs.MemberLemmas.{same_id-itself}
use Rattle.library_state.specs.declared.history.Install.{Install}
use Rattle.object_graph.specs.Objects.{commit_in, fs_in, fs_key, same_id}
use Rattle.object_graph.specs.Reached.{ReachedFrom, pends, names, named, named_by_commit, named_by_fs, named_under}
use Rattle.object_graph.specs.Traversal.{is_in, needs}
use Rattle.object_graph.specs.Unchanged.{AgreeOn, Keeps}
use Rattle.object_graph.proofs.KeyLemmas.{same_key}
use Rattle.collector.specs.Marks.{needed_by}
use Rattle.collector.proofs.ComparingLemmas.{same_named}
use Rattle.collector.proofs.LeadingLemmas.{any_of}

-- where what commits need keeps its bytes, they need the same
pub needed_alike : (objects other : Objects) (commits : List (List ℕ)) → ((commit : List ℕ) → list_any (same_id commit) commits ≡ true → AgreeOn (needs objects commit) objects other)
    → (key : Key) → needed_by other commits key ≡ needed_by objects commits key
needed_alike objects other [] agree key = refl
needed_alike objects other (x ∷ commits) agree key =
    ap₂ (λ (a : Bool) (b : Bool). a || b)
    (ap (λ (ks : List Key). is_in ks key) (same_needs objects other x (agree x (or_left (same_id x x) (list_any (same_id x) commits) (same_id-itself x)))))
    (needed_alike objects other commits (λ c is. agree c (or_right (same_id c x) (list_any (same_id c) commits) is)) key)

-- what commits need that are kept is needed
pub needed_kept : (objects : Objects) (kept : List Install) (commits : List (List ℕ)) → ((commit : List ℕ) → list_any (same_id commit) commits ≡ true → is_kept kept commit ≡ true)
    → (key : Key) → needed_by objects commits key ≡ true → is_needed objects kept key ≡ true
needed_kept objects kept commits each key needed =
    let one = any_of (λ commit. is_in (needs objects commit) key) commits needed in
    kept_needs objects kept one.0 key (each one.0 one.1) one.2

-- ---- what left

none_stays : (A : Objects) (removed : List Key) (key : Key) → map.get A key ≡ None → map.get (without A removed) key ≡ None
none_stays A [] key none = none
none_stays A (k ∷ removed) key none =
    none_stays (map.remove A k) removed key (map.get-remove key_cmp_total A k key ∙ ap (λ (o : Option (List ℕ)). cond (same_key key k) None o) none ∙ both (same_key key k))
  where
    both : (b : Bool) → ◌≡◌ {A = Option (List ℕ)} (cond b None None) None
    both true = refl
    both false = refl

pub without_gone : (A : Objects) (removed : List Key) (key : Key) → is_in removed key ≡ true → map.get (without A removed) key ≡ None
without_gone A [] key e = absurd (true≢false (sym e))
without_gone A (k ∷ removed) key e = elim (or_cases (same_key key k) (is_in removed key) e) [
  | inl own ↦ none_stays (map.remove A k) removed key (map.get-remove key_cmp_total A k key ∙ ap (λ (b : Bool). cond b None (map.get A key)) own)
  | inr there ↦ without_gone (map.remove A k) removed key there
]

-- ---- what is reached among more objects

-- what isn't stored names nothing
unnamed : (A : Objects) (key : Key) → map.get A key ≡ None → named A key ≡ []
unnamed A key none = by key.kind key.id none
  where
    by : (k : Kind) (id : List ℕ) → map.get A (record { kind = k; id = id }) ≡ None → named_under A k id ≡ []
    by kind.Commit id is = ap (λ (o : Option (List ℕ)). named_by_commit (commit_in id o)) is
    by kind.Fs id is = ap (λ (o : Option (List ℕ)). named_by_fs (fs_in (fs_key id) o)) is
    by kind.Block id is = refl

named_grown : (A B : Objects) → Keeps A B → (above key : Key) → is_in (named A above) key ≡ true → is_in (named B above) key ≡ true
named_grown A B keeps above key naming = by (map.get A above) refl
  where
    by : (o : Option (List ℕ)) → map.get A above ≡ o → is_in (named B above) key ≡ true
    by None is = absurd (true≢false (sym (sym (ap (λ (ks : List Key). is_in ks key) (unnamed A above is)) ∙ naming)))
    by (Some bytes) is = ap (λ (ks : List Key). is_in ks key) (same_named A B above (keeps.kept above bytes is ∙ sym is)) ∙ naming

pub reached_grown : (A B : Objects) → Keeps A B → (marked pending : List Key) (key : Key) → ReachedFrom A marked pending key → ReachedFrom B marked pending key
reached_grown A B keeps marked pending _ (pends key is) = pends key is
reached_grown A B keeps marked pending _ (names above key from is free) =
    names above key (reached_grown A B keeps marked pending above from) (named_grown A B keeps above key is) free
