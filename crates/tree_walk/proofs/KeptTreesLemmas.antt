-- What is kept for commits. The key lemmas are among_none, among_next, fits_kept and fits_left.
use Rattle.std.proofs.Common.{◌≡◌, ◌⊎◌, ◌||◌, inl, inr, ℕ, ◌<◌, ◌+◌, Bool, true, false, cond, if◌then◌else◌, is_some, List, [], ◌∷◌, ◌++◌, length, get_or, take, refl, sym, ap, ◌∙◌, subst, true≢false, Option, None, Some}
use Rattle.std.specs.Prelude.{⊤}
use Rattle.std.specs.FinMap as map
use Rattle.std.specs.List.{list_any}
use Rattle.ids.specs.Key.{Objects, key_cmp}
use Rattle.ids.specs.declared.key.Key.{Key}
use Rattle.ids.proofs.KeyOrderLemmas.{key_cmp_total}
use Rattle.tree_model.specs.declared.limits.TheConstants.{MAX_NAMES}
use Rattle.object_graph.specs.Objects.{fs_key, is_nil, same_id}
use Rattle.object_graph.specs.Reached.{named, own_keys}
use Rattle.object_graph.specs.Traversal.{IsComplete, is_in, start, walk_commit, walk_file_at, walk_root}
use Rattle.object_graph.specs.Unchanged.{AgreeOn}
use Rattle.object_graph.proofs.KeyLemmas.{in_append, in_distinct, in_pushed, same_key, same_key-true}
use Rattle.object_graph.proofs.ReachingLemmas.{commit_closes, object_stays, root_within}
use Rattle.tree_walk.specs.KnownTrees.{AreRight, Fits, right, IsNeededBy, KeepsAmong, KeepsFor, KeepsOn, KnownView, extent_known, file_known, put_known}
use Rattle.tree_walk.specs.declared.extent.Extent.{Extent}
use Rattle.tree_walk.proofs.KnownLemmas.{next_key}
use Rattle.tree_walk.proofs.KnownTreesLemmas.{all_right, complete_agrees, directory_agrees, file_agrees, needed_agrees, right_directory, right_nothing, whole_file}

-- ---- what is known of some keys

-- the map has what is known of these keys, and nothing else
abbrev pub IsAmong : {V : Type 0} → (Key → Option V) → List Key → map.FinMap key_cmp V → Type 0
IsAmong {V} known keys among = (key : Key) → map.get among key ≡ (if is_in keys key then known key else None)

pub among_none : {V : Type 0} (known : Key → Option V) (among : map.FinMap key_cmp V) → among ≡ map.empty → IsAmong known [] among
among_none {V} known among none key = ap (λ (m : map.FinMap key_cmp V). map.get m key) none ∙ map.get-empty key_cmp key

-- one key more
among_more : {V : Type 0} (known : Key → Option V) (keys : List Key) (among : map.FinMap key_cmp V) (key : Key) → IsAmong known keys among → IsAmong known (keys ++ key ∷ []) (put_known among key (known key))
among_more {V} known keys among key so q = by (known key) refl (same_key q key) refl ∙ ap (λ (b : Bool). if b then known q else None) (sym (in_append keys (key ∷ []) q))
  where
    same : (o : Option V) → known key ≡ o → same_key q key ≡ true → known q ≡ o
    same o is e = ap known (same_key-true q key e) ∙ is

    both : (b : Bool) → known q ≡ None → (if b then known q else None) ≡ None
    both true e = e
    both false e = refl

    met : (b : Bool) → known q ≡ (if b || (true || false) then known q else None)
    met true = refl
    met false = refl

    unmet : (b : Bool) → (if b then known q else None) ≡ (if b || (false || false) then known q else None)
    unmet true = refl
    unmet false = refl

    by : (o : Option V) → known key ≡ o → (e : Bool) → same_key q key ≡ e → map.get (put_known among key o) q ≡ (if is_in keys q || (e || false) then known q else None)
    by None is true e = so q ∙ both (is_in keys q) (same None is e) ∙ sym (same None is e) ∙ met (is_in keys q)
    by None is false e = so q ∙ unmet (is_in keys q)
    by (Some value) is true e =
        map.get-insert key_cmp_total among key value q ∙ ap (λ (b : Bool). cond b (Some value) (map.get among q)) e ∙ sym (same (Some value) is e) ∙ met (is_in keys q)
    by (Some value) is false e = map.get-insert key_cmp_total among key value q ∙ ap (λ (b : Bool). cond b (Some value) (map.get among q)) e ∙ so q ∙ unmet (is_in keys q)

pub among_next : {V : Type 0} (known : Key → Option V) (keys : List Key) (i : ℕ) (key : Key) (among next : map.FinMap key_cmp V) → i < length keys → key ≡ get_or keys i key
    → next ≡ put_known among key (known key) → IsAmong known (take i keys) among → IsAmong known (take (i + 1) keys) next
among_next {V} known keys i key among next within is put so q =
    ap (λ (m : map.FinMap key_cmp V). map.get m q) put ∙ among_more known (take i keys) among key so q
    ∙ ap (λ (ks : List Key). if is_in ks q then known q else None) (sym (next_key keys i key within is))

-- a file's key is put in where the file is known
pub put_file_is : (among next : map.FinMap key_cmp ⊤) (key : Key) (known : Option ⊤) (is_known : Bool) → is_known ≡ is_some known
    → next ≡ (if is_known then map.insert among key tt else among) → next ≡ put_known among key known
put_file_is among next key known is_known is put = put ∙ ap (λ (b : Bool). if b then map.insert among key tt else among) is ∙ by known
  where
    by : (o : Option ⊤) → (if is_some o then map.insert among key tt else among) ≡ put_known among key o
    by None = refl
    by (Some tt) = refl

-- ---- what is kept is right

pub fits_kept : (objects : Objects) (commits : List (List ℕ)) (keys : List Key) (old new : KnownView) → Fits objects old → KeepsFor commits keys old new
    → ((commit : List ℕ) → list_any (same_id commit) commits ≡ true → IsComplete objects commit) → ((key : Key) → is_in keys key ≡ true → IsNeededBy objects commits key) → Fits objects new
fits_kept objects commits keys old new fits keeps complete needed = right (record {
  learned = right_nothing objects new.directories new.files keeps.directories keeps.files;
  kept = kept keeps.kept;
  complete = λ commit listed. complete commit (ap (list_any (same_id commit)) (sym keeps.commits) ∙ listed);
  needed = λ key there. subst (λ (cs : List (List ℕ)). IsNeededBy objects cs key) (sym keeps.commits) (needs keeps.kept key there);
})
  where
    taken : {V : Type 0} (b : Bool) (o : Option V) (value : V) → (if b then o else None) ≡ Some value → o ≡ Some value
    taken true o value e = e
    taken false o value e = cc e

    listed_one : {V : Type 0} (b : Bool) (o : Option V) → is_some (if b then o else None) ≡ true → b ≡ true
    listed_one true o e = refl
    listed_one false o e = absurd (true≢false (sym e))

    some : {V : Type 0} (b : Bool) (o : Option V) → is_some (if b then o else None) ≡ true → is_some o ≡ true
    some true o e = e
    some false o e = absurd (true≢false (sym e))

    kept : KeepsAmong keys old new ⊎ KeepsOn commits old new → AreRight objects new.kept_directories new.kept_files
    kept (inl among) = record {
      directories = λ id extent there. right_directory objects old id extent fits (taken (is_in keys (fs_key id)) (extent_known old (fs_key id)) extent (sym (among.directories (fs_key id)) ∙ there));
      files = λ id there. whole_file objects old id fits (some (is_in keys (fs_key id)) (file_known old (fs_key id)) (sym (ap is_some (among.files (fs_key id))) ∙ there));
    }
    kept (inr on) = subst (λ (m : map.FinMap key_cmp Extent). AreRight objects m new.kept_files) (sym on.directories)
        (subst (λ (m : map.FinMap key_cmp ⊤). AreRight objects old.kept_directories m) (sym on.files) (all_right fits).kept)

    either : (a b : Bool) → (a || b) ≡ true → (a ≡ true) ⊎ (b ≡ true)
    either true b e = inl refl
    either false b e = inr e

    needs : KeepsAmong keys old new ⊎ KeepsOn commits old new → (key : Key) → (is_some (map.get new.kept_directories key) || is_some (map.get new.kept_files key)) ≡ true → IsNeededBy objects commits key
    needs (inl among) key there = elim (either (is_some (map.get new.kept_directories key)) (is_some (map.get new.kept_files key)) there) [
      | inl directory ↦ needed key (listed_one (is_in keys key) (extent_known old key) (sym (ap is_some (among.directories key)) ∙ directory))
      | inr file ↦ needed key (listed_one (is_in keys key) (file_known old key) (sym (ap is_some (among.files key)) ∙ file))
    ]
    needs (inr on) key there = subst (λ (cs : List (List ℕ)). IsNeededBy objects cs key) on.same
        ((all_right fits).needed key
        (ap (λ (m : map.FinMap key_cmp Extent). is_some (map.get m key) || is_some (map.get old.kept_files key)) (sym on.directories)
        ∙ ap (λ (m : map.FinMap key_cmp ⊤). is_some (map.get new.kept_directories key) || is_some (map.get m key)) (sym on.files) ∙ there))

-- ---- as other objects leave

-- what lies below a key that a complete commit needs, it needs
own_of : (P : Key → Type 0) (id : List ℕ) → P (fs_key id) → (key : Key) → is_in (own_keys id) key ≡ true → P key
own_of P id has key is = by (is_nil id) is
  where
    by : (n : Bool) → is_in (if n then [] else fs_key id ∷ []) key ≡ true → P key
    by true e = absurd (true≢false (sym e))
    by false e = one (in_pushed [] (fs_key id) key e)
      where
        one : (is_in [] key ≡ true) ⊎ (key ≡ fs_key id) → P key
        one (inl none) = absurd (true≢false (sym none))
        one (inr same) = subst P (sym same) has

module _ (A B : Objects) (known : KnownView) (fits : Fits A known) (stays : (key : Key) → IsNeededBy A known.commits key → map.get B key ≡ map.get A key) where
  agree : (commit : List ℕ) → list_any (same_id commit) known.commits ≡ true → AgreeOn (walk_commit A commit).visits A B
  agree commit listed = record { same = λ key is. stays key (record { commit = commit; is = listed; there = in_distinct (walk_commit A commit).visits key ∙ is }) }

  module _ (id : List ℕ) (needed : IsNeededBy A known.commits (fs_key id)) where
    abbrev Visited : Key → Type 0
    Visited key = is_in (walk_commit A needed.commit).visits key ≡ true

    closed : (above key : Key) → Visited above → is_in (named A above) key ≡ true → Visited key
    closed above key is naming = commit_closes A needed.commit ((all_right fits).complete needed.commit needed.is) above key is naming

    own : (key : Key) → is_in (own_keys id) key ≡ true → Visited key
    own = own_of Visited id (sym (in_distinct (walk_commit A needed.commit).visits (fs_key id)) ∙ needed.there)

    agree_root : AgreeOn (walk_root true A id start).visits A B
    agree_root = record { same = λ key is. (agree needed.commit needed.is).same key (root_within A Visited closed id own key is) }

    abbrev Every : List Key → Type 0
    Every keys = (key : Key) → is_in keys key ≡ true → Visited key

    push : (key : Key) → Visited key → (keys : List Key) → Every keys → Every (keys ++ key ∷ [])
    push key has keys all k is = elim (in_pushed keys key k is) [ inl old ↦ all k old | inr last ↦ subst Visited (sym last) has ]

    agree_file : AgreeOn (walk_file_at A id start).visits A B
    agree_file = record { same = λ key is. (agree needed.commit needed.is).same key (object_stays A Visited closed Every push MAX_NAMES false [] id own start (λ k none. cc none) key is) }

  pub fits_left : known.directories ≡ map.empty → known.files ≡ map.empty → Fits B known
  fits_left no_directory no_file = right (record {
    learned = right_nothing B known.directories known.files no_directory no_file;
    kept = record {
      directories = λ id extent there.
          directory_agrees A B id extent (agree_root id ((all_right fits).needed (fs_key id) (ap (λ (o : Option Extent). is_some o || is_some (map.get known.kept_files (fs_key id))) there))) ((all_right fits).kept.directories id extent there);
      files = λ id there. file_agrees A B id (agree_file id ((all_right fits).needed (fs_key id) (right_of (is_some (map.get known.kept_directories (fs_key id))) there))) ((all_right fits).kept.files id there);
    };
    complete = λ commit listed. complete_agrees A B commit (agree commit listed) ((all_right fits).complete commit listed);
    needed = λ key there. needed_agrees A B known.commits key agree ((all_right fits).needed key there);
  })
    where
      right_of : (a : Bool) {b : Bool} → b ≡ true → (a || b) ≡ true
      right_of true e = refl
      right_of false e = e
