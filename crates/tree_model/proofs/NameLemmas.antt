-- What a good name has. The key lemmas are IsName-some, IsName-short and IsName-no_slash.
use Rattle.std.proofs.Common.{◌≡◌, ℕ, ◌+◌, ◌≤◌, ◌≢◌, ◌==◌, Bool, true, false, cond, List, [], ◌∷◌, length, nat_lt, Option, Some, None, position, refl, sym, ap, ◌∙◌, ltb-false, eq-eqb}
use Rattle.std.proofs.lemmas.Iterator.Adapters.{position_from-zero}
use Rattle.std.specs.List.{AllByRecursion, position_from}
use Rattle.std.specs.Bool.{then_some}
use Rattle.ids.proofs.BasicLemmas.{none_from_option_map, nones_from_option_or}
use Rattle.std.proofs.lemmas.Bool.{or_parts}
use Rattle.tree_model.specs.Name.{IsName, is_separator, has_dots}
use Rattle.tree_model.specs.declared.limits.TheConstants.{MAX_NAME}

not_so : {X : Type 0} (b : Bool) (x : X) → then_some b x ≡ None → b ≡ false
not_so true x e = cc
not_so false x e = refl

none_pass : (p : ℕ → Bool) (place : ℕ) (xs : List ℕ) → position_from p place xs ≡ None → AllByRecursion (λ x. p x ≡ false) xs
none_pass p place [] e = tt
none_pass p place (x ∷ xs) e = by (p x) refl e (none_pass p (place + 1) xs)
  where
    rest : Option ℕ
    rest = position_from p (place + 1) xs

    by : (b : Bool) → p x ≡ b → cond b (Some place) rest ≡ None → (rest ≡ None → AllByRecursion (λ x. p x ≡ false) xs) → AllByRecursion (λ x. p x ≡ false) (x ∷ xs)
    by true is e more = cc
    by false is e more = (is, more e)

no_slashes : (text : List ℕ) → AllByRecursion (λ b. is_separator b ≡ false) text → AllByRecursion (λ b. b ≢ 47) text
no_slashes [] h = tt
no_slashes (b ∷ text) h =
    let other : (b == 47) ≡ false = (or_parts (b == 47) (b == 0) h.0).0 in
    ((λ e. let same : (b == 47) ≡ true = eq-eqb b 47 e in cc), no_slashes text h.1)

-- the parts of the test, each without its fault
parts : (text : List ℕ) → IsName text
    → ((length text == 0) ≡ false) × (nat_lt MAX_NAME (length text) ≡ false) × (position is_separator text ≡ None) × (has_dots text ≡ false)
parts text h =
    let a = nones_from_option_or _ _ h.faultless in
    let b = nones_from_option_or _ _ a.1 in
    let c = nones_from_option_or _ _ b.1 in
    (not_so _ _ a.0, not_so _ _ b.0, none_from_option_map _ _ c.0, not_so _ _ c.1)

pub IsName-some : (text : List ℕ) → IsName text → text ≢ []
IsName-some text h e =
    let none : (length text == 0) ≡ true = ap (λ (t : List ℕ). length t == 0) e in
    let some : (length text == 0) ≡ false = (parts text h).0 in
    cc

pub IsName-short : (text : List ℕ) → IsName text → length text ≤ MAX_NAME
IsName-short text h = ltb-false MAX_NAME (length text) (parts text h).1

pub IsName-no_slash : (text : List ℕ) → IsName text → AllByRecursion (λ b. b ≢ 47) text
IsName-no_slash text h =
    no_slashes text (none_pass is_separator 0 text (sym (position_from-zero is_separator text) ∙ (parts text h).2))
