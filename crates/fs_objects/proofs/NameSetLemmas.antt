-- The set of the names met so far, of which one more entry makes one more. The key lemma is HasNames-push.
use Rattle.std.proofs.Common.{◌≡◌, ℕ, List, [], ◌∷◌, ◌++◌, ◌||◌, Bool, true, false, Ordering, Less, Equal, Greater, is_eq, nat_cmp, refl, sym, ap, ◌∙◌}
use Rattle.std.specs.BTreeSet.{insert_key}
use Rattle.std.specs.Cmp.Lexicographic.{slice_cmp}
use Rattle.std.specs.FinMap.{slice_cmp-IsAntisymmetric, nat_cmp-IsAntisymmetric}
use Rattle.std.specs.Ordering.{match_ordering}
use Rattle.std.specs.Str.{bytes_eq}
use Rattle.std.proofs.lemmas.Map.Text.{is_eq-slice_cmp}
use Rattle.fs_objects.specs.Directory.{names_of, is_taken}
use Rattle.fs_objects.specs.Reading.{has_name, HasNames}
use Rattle.fs_objects.specs.declared.dirent.Dirent.{Dirent}
use Rattle.fs_objects.proofs.DirectoryLemmas.{is_taken-push}

or_swapped : (a b c : Bool) → (a || (b || c)) ≡ (b || (a || c))
or_swapped true true c = refl
or_swapped true false c = refl
or_swapped false b c = refl

or_twice : (a b c : Bool) → b ≡ a → (b || c) ≡ (a || (b || c))
or_twice true b c e = ap (λ x. x || c) e
or_twice false b c e = refl

put_at : (name k : List ℕ) (keys : List (List ℕ)) (key : List ℕ) (o : Ordering) → slice_cmp nat_cmp key k ≡ o
    → has_name name (insert_key (slice_cmp nat_cmp) keys key) ≡ (is_eq (slice_cmp nat_cmp name key) || has_name name keys)
    → has_name name (match_ordering o (key ∷ k ∷ keys) (k ∷ keys) (k ∷ insert_key (slice_cmp nat_cmp) keys key)) ≡ (is_eq (slice_cmp nat_cmp name key) || has_name name (k ∷ keys))
put_at name k keys key Less e later = refl
put_at name k keys key Equal e later =
    or_twice (is_eq (slice_cmp nat_cmp name key)) (is_eq (slice_cmp nat_cmp name k)) (has_name name keys)
    (ap (λ t. is_eq (slice_cmp nat_cmp name t)) (sym (slice_cmp-IsAntisymmetric nat_cmp-IsAntisymmetric key k e)))
put_at name k keys key Greater e later =
    ap (λ b. is_eq (slice_cmp nat_cmp name k) || b) later ∙ or_swapped (is_eq (slice_cmp nat_cmp name k)) (is_eq (slice_cmp nat_cmp name key)) (has_name name keys)

-- what the set has after a name was put in
has_name-insert_key : (name : List ℕ) (keys : List (List ℕ)) (key : List ℕ) → has_name name (insert_key (slice_cmp nat_cmp) keys key) ≡ (is_eq (slice_cmp nat_cmp name key) || has_name name keys)
has_name-insert_key name [] key = refl
has_name-insert_key name (k ∷ keys) key = put_at name k keys key (slice_cmp nat_cmp key k) refl (has_name-insert_key name keys key)

or_moved : (a b : Bool) → (a || b) ≡ (b || (a || false))
or_moved true true = refl
or_moved true false = refl
or_moved false true = refl
or_moved false false = refl

-- the set has the names of one entry more
pub HasNames-push : (keys : List (List ℕ)) (key : List ℕ) (earlier : List Dirent) (entry : Dirent) → entry.name ≡ key → HasNames keys earlier
    → HasNames (insert_key (slice_cmp nat_cmp) keys key) (earlier ++ entry ∷ [])
HasNames-push keys key earlier entry named names q =
    has_name-insert_key q keys key
    ∙ ap (λ b. b || has_name q keys) (is_eq-slice_cmp q key ∙ ap (bytes_eq q) (sym named))
    ∙ ap (λ b. bytes_eq q entry.name || b) (names q)
    ∙ or_moved (bytes_eq q entry.name) (is_taken (names_of earlier) q)
    ∙ sym (is_taken-push earlier entry q)
