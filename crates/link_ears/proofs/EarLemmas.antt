-- Ears that came back, one after another. The key lemmas are back_more, counted_more and new_more.
use Rattle.std.proofs.Common.{◌≡◌, ◌+◌, ◌<◌, ℕ, All, Vec, Global, vec_len, List, [], ◌∷◌, ◌++◌, length, get_or, map, take, refl, sym, subst, ap, ◌∙◌, append_assoc, Some}
use Rattle.std.proofs.lemmas.List.{map-append, take_more}
use Rattle.std.proofs.lemmas.List.Elements.{All-pop, All-push}
use Rattle.http_front.specs.Dial.{count_sum}
use Rattle.link_ears.specs.Ear.{IsNewEar, counts_sum}
use Rattle.link_ears.specs.declared.list_ear.ListEar.{ListEar}

-- the count with one ear's more
pub counts_push : (count : ℕ) (xs : List ℕ) (x : ℕ) → counts_sum count (xs ++ x ∷ []) ≡ count_sum (counts_sum count xs) x
counts_push count [] x = refl
counts_push count (y ∷ ys) x = counts_push (count_sum count y) ys x

module _ {X : Type 0} (xs : List X) (i : ℕ) (x : X) (within : i < length xs) (is : x ≡ get_or xs i x) where
  next_taken : take (i + 1) xs ≡ take i xs ++ x ∷ []
  next_taken = take_more xs i x within ∙ ap (λ (y : X). take i xs ++ y ∷ []) (sym is)

  -- one more of a list is noted
  pub back_more : {Y : Type 0} (seen : Y → X) (start now later : List Y) (y : Y) → seen y ≡ x → map seen now ≡ map seen start ++ take i xs → later ≡ now ++ y ∷ []
      → map seen later ≡ map seen start ++ take (i + 1) xs
  back_more {Y} seen start now later y same so grown =
      ap (map seen) grown ∙ map-append seen now (y ∷ []) ∙ ap (λ (zs : List X). zs ++ seen y ∷ []) so ∙ ap (λ (z : X). (map seen start ++ take i xs) ++ z ∷ []) same
      ∙ append_assoc (map seen start) (take i xs) (x ∷ []) ∙ ap (λ (zs : List X). map seen start ++ zs) (sym next_taken)

  -- and its count
  pub counted_more : (value : X → ℕ) (start now later : ℕ) → now ≡ counts_sum start (map value (take i xs)) → later ≡ count_sum now (value x)
      → later ≡ counts_sum start (map value (take (i + 1) xs))
  counted_more value start now later so grown =
      grown ∙ ap (λ (n : ℕ). count_sum n (value x)) so ∙ sym (counts_push start (map value (take i xs)) (value x))
      ∙ ap (counts_sum start) (sym (map-append value (take i xs) (x ∷ [])) ∙ ap (map value) (sym next_taken))

-- ---- ears over lists

-- an ear over a list of so many links, as it is made
abbrev pub IsNewList : {L : Type 0} → ℕ → ListEar L → Type 0
IsNewList connections ear = IsNewEar (record { gave = map (λ entry. entry.0) ear.gave.items; left = vec_len ear.rest; over = ear.over }) ear.back.items ear.faults connections

-- one list more is made an ear
pub new_more : {L : Type 0} (connections : ℕ) (old front : List (Vec L Global)) (links : Vec L Global) (ears later : List (ListEar L)) (ear : ListEar L) → old ≡ front ++ links ∷ []
    → All (λ list. vec_len list ≡ connections) old × All (IsNewList connections) ears → IsNewList (vec_len links) ear → later ≡ ears ++ ear ∷ []
    → All (λ list. vec_len list ≡ connections) front × All (IsNewList connections) later
new_more {L} connections old front links ears later ear pop so fresh push =
    let cut = All-pop (λ (list : Vec L Global). vec_len list ≡ connections) old front (Some links) pop so.0 in (
      cut.0,
      subst (All (IsNewList connections)) (sym push) (All-push (IsNewList connections) ears ear so.1 (subst (λ (n : ℕ). IsNewList n ear) cut.1 fresh)),
    )
