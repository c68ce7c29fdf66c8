-- What cuts a query, in the words of specs/Query.antt. The lemmas that callers want are first_part and last_part.
use Rattle.std.proofs.Common.{◌≡◌, ℕ, nat_eq, false, List, [], ◌∷◌, Option, Some, None, Bor, ap, subst, arith, lit<}
use Rattle.std.proofs.lemmas.Str.Pattern.{IsSplitOnceResult, split_once_first}
use Rattle.std.proofs.lemmas.List.Elements.{All-from_get_or}
use Rattle.std.proofs.lemmas.List.Splits.{slice_split_first, slice_split_none}
use Rattle.std.proofs.lemmas.List.Sums.{fails_before_first}
use Rattle.http_front.specs.Query.{and_more, query_parts, value_in, values_of}

-- the first `&` ends the first part
cut_at_and : (query : List ℕ) (x : Bor (List ℕ) × Bor (List ℕ)) → IsSplitOnceResult 38 query (Some x) → query_parts query ≡ x.0.now ∷ query_parts x.1.now
cut_at_and query x h =
    let cut = split_once_first 38 query (Some x) h (lit< tt) in
    rw (cut.1, cut.2) (slice_split_first (λ b. nat_eq b 38) query 0 cut.0)

-- a query without an `&` is one part
no_and : (query : List ℕ) → IsSplitOnceResult 38 query None → query_parts query ≡ query ∷ []
no_and query h =
    let whole = split_once_first 38 query None h (lit< tt) in
    slice_split_none (λ b. nat_eq b 38) query
    (All-from_get_or (λ b. nat_eq b 38 ≡ false) query 0 (λ k l. fails_before_first (λ b. nat_eq b 38) query k 0 (omega (arith, whole))))

-- the values of a query are that of its first part, if it has one, and those of the rest
pub first_part : (name query : List ℕ) (x : Bor (List ℕ) × Bor (List ℕ)) (value : Option (List ℕ)) → IsSplitOnceResult 38 query (Some x) → value ≡ value_in name x.0.now
    → and_more value (values_of name x.1.now) ≡ values_of name query
first_part name query x value h is =
    rw (cut_at_and query x h) (ap (λ (o : Option (List ℕ)). and_more o (values_of name x.1.now)) is)

-- and of its last part that of it, if it has one
pub last_part : (name query : List ℕ) (r : Option (Bor (List ℕ) × Bor (List ℕ))) (value : Option (List ℕ)) → IsSplitOnceResult 38 query r → r ≡ None → value ≡ value_in name query
    → and_more value [] ≡ values_of name query
last_part name query r value h none is =
    rw (no_and query (subst (λ (o : Option (Bor (List ℕ) × Bor (List ℕ))). IsSplitOnceResult 38 query o) none h))
    (ap (λ (o : Option (List ℕ)). and_more o []) is)
