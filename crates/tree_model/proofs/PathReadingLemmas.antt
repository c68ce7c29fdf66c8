-- A path's text is read as the path, and what is read is the path of its text. The key lemmas are path_of-text and path_of-has.
use Rattle.std.proofs.Common.{◌≡◌, ◌≢◌, ℕ, ◌==◌, Bool, true, false, if◌then◌else◌, List, [], ◌∷◌, All, refl, sym, ap, subst, ◌∙◌, Option, Some, None}
use borrow.Author.Tests.{eqb-true}
use Rattle.std.proofs.lemmas.List.Elements.{All-from_recursion}
use Rattle.std.proofs.lemmas.List.Splits.{join_with_byte-slice_split, slice_split_none, slice_split_at}
use Rattle.std.specs.List.{AllByRecursion, list_all, slice_split, onto_first}
use Rattle.std.specs.Option.{is_none}
use Rattle.tree_model.specs.Name.{IsName, name_fault}
use Rattle.tree_model.specs.Path.{PathV, IsPath, good_path, path_of, path_text}
use Rattle.tree_model.proofs.NameLemmas.{IsName-no_slash}
use Rattle.ids.proofs.BasicLemmas.{same_from_some}
use Rattle.std.proofs.lemmas.Bool.{and_parts, false≢true}

abbrev is_slash : ℕ → Bool
is_slash b = b == 47

plain : (name : List ℕ) → AllByRecursion (λ b. b ≢ 47) name → AllByRecursion (λ b. is_slash b ≡ false) name
plain [] h = tt
plain (b ∷ name) h = (by (b == 47) refl, plain name h.1)
  where
    by : (t : Bool) → (b == 47) ≡ t → (b == 47) ≡ false
    by true e = absurd (h.0 (eqb-true b 47 e))
    by false e = e

no_slash : (name : List ℕ) → IsName name → All (λ b. is_slash b ≡ false) name
no_slash name h = All-from_recursion (λ b. is_slash b ≡ false) name (plain name (IsName-no_slash name h))

-- the pieces of a text are the names
pub pieces-text : (path : PathV) → path ≢ [] → AllByRecursion IsName path → slice_split is_slash (path_text path) ≡ path
pieces-text [] some h = absurd (some refl)
pieces-text (name ∷ []) some h = slice_split_none is_slash name (no_slash name h.0)
pieces-text (name ∷ next ∷ path) some h =
    slice_split_at is_slash name 47 (path_text (next ∷ path)) (no_slash name h.0) refl
    ∙ ap (λ names. name ∷ names) (pieces-text (next ∷ path) (λ e. cc) h.1)

good_names : (path : PathV) → AllByRecursion IsName path → list_all (λ name. is_none (name_fault name)) path ≡ true
good_names [] h = refl
good_names (name ∷ path) h = rw h.0.faultless (good_names path h.1)

pub path_of-text : (path : PathV) → path ≢ [] → IsPath path → path_of (path_text path) ≡ Some path
path_of-text path some h =
    ap good_path (pieces-text path some h.named) ∙ ap (λ b. if b then Some path else None) (good_names path h.named)

-- what is read as a path has a name
pub path_of-some : (text : List ℕ) (path : PathV) → path_of text ≡ Some path → path ≢ []
path_of-some text path e = by (slice_split is_slash text) refl (list_all (λ name. is_none (name_fault name)) (slice_split is_slash text)) e
  where
    split_some : (text : List ℕ) → slice_split is_slash text ≢ []
    split_some [] e = cc
    split_some (b ∷ text) e = test (is_slash b) (slice_split is_slash text) e
      where
        first : (parts : List (List ℕ)) → onto_first b parts ≡ [] → ⊥
        first [] e = cc
        first (part ∷ parts) e = cc

        test : (t : Bool) (parts : List (List ℕ)) → (if t then ([] ∷ parts) else onto_first b parts) ≡ [] → ⊥
        test true parts e = cc
        test false parts e = first parts e

    by : (parts : List (List ℕ)) → slice_split is_slash text ≡ parts → (b : Bool) → (if b then Some (slice_split is_slash text) else None) ≡ Some path → path ≢ []
    by parts is true e none = let same : slice_split is_slash text ≡ path = cc in split_some text (same ∙ none)
    by parts is false e none = cc

is_faultless : {A : Type 0} (o : Option A) → is_none o ≡ true → o ≡ None
is_faultless None e = refl
is_faultless (Some a) e = absurd (false≢true e)

are_names : (path : PathV) → list_all (λ name. is_none (name_fault name)) path ≡ true → AllByRecursion IsName path
are_names [] e = tt
are_names (name ∷ path) e =
    let parts = and_parts (is_none (name_fault name)) (list_all (λ name. is_none (name_fault name)) path) e in
    (record { faultless = is_faultless (name_fault name) parts.0 }, are_names path parts.1)

-- a text of a path
pub record IsTextOf (text : List ℕ) (path : PathV) : Type 0 where
  pub named : IsPath path
  pub is : text ≡ path_text path

good_path-has : (names path : PathV) → good_path names ≡ Some path → (names ≡ path) × IsPath path
good_path-has names path e = by (list_all (λ name. is_none (name_fault name)) names) refl e
  where
    by : (b : Bool) → list_all (λ name. is_none (name_fault name)) names ≡ b → (if b then Some names else None) ≡ Some path → (names ≡ path) × IsPath path
    by true is e = let same = same_from_some names path e in (same, subst IsPath same (record { named = are_names names is }))
    by false is e = absurd (cc)

pub path_of-has : (text : List ℕ) (path : PathV) → path_of text ≡ Some path → IsTextOf text path
path_of-has text path e =
    let good = good_path-has (slice_split is_slash text) path e in
    record { named = good.1; is = sym (join_with_byte-slice_split 47 text) ∙ ap path_text good.0 }
