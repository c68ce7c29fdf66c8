-- What cuts a target, in the words of specs/Target.antt. The lemmas that callers want are parts_cut and parts_whole.
use Rattle.std.proofs.Common.{◌≡◌, ◌≢◌, ℕ, ◌+◌, ◌-◌, ◌<◌, nat_eq, Bool, true, false, List, [], ◌∷◌, ◌++◌, length, take, get_or, refl, sym, ◌∙◌, ap, subst, arith, length-append, cond, lit<, Bor, Some, None}
use Rattle.std.proofs.lemmas.Str.Pattern.{IsSplitOnceResult, split_once_first}
use Rattle.std.proofs.lemmas.Bool.{eqb-true}
use Rattle.std.proofs.lemmas.List.{take_all, take_at, take_more, get_or_at}
use Rattle.std.proofs.lemmas.List.Elements.{All-from_get_or}
use Rattle.std.proofs.lemmas.List.Splits.{slice_split_first, slice_split_none}
use Rattle.std.proofs.lemmas.List.Sums.{fails_before_first}
use Rattle.std.specs.List.{onto_first, before_first, after_first, position_or_len}
use Rattle.http_front.specs.Target.{without_end_slash, parts}

-- a list that is all before the first such element
pub before_first_whole : (p : ℕ → Bool) (s : List ℕ) → position_or_len p s ≡ length s → s ≡ before_first p s
before_first_whole p s e = sym (take_all (position_or_len p s) s (omega (arith, e)))

pub end_slash_dropped : (s front : List ℕ) → s ≡ front ++ (47 ∷ []) → front ≡ without_end_slash s
end_slash_dropped s front e =
    let len : length s ≡ length front + 1 = ap length e ∙ length-append front (47 ∷ []) in
    let at : length front ≡ length s - 1 = omega (arith, len) in
    let last : get_or s (length s - 1) 0 ≡ 47 = ap (λ (t : List ℕ). get_or t (length s - 1) 0) e ∙ get_or_at front 47 [] 0 (length s - 1) at in
    let whole : take (length s - 1) s ≡ front = ap (λ (t : List ℕ). take (length s - 1) t) e ∙ take_at front (47 ∷ []) (length s - 1) at in
    rw last (sym whole)

-- a list is its front and its last
at_last : (s : List ℕ) → 0 < length s → s ≡ take (length s - 1) s ++ (get_or s (length s - 1) 0 ∷ [])
at_last s l =
    let more : take (length s - 1 + 1) s ≡ take (length s - 1) s ++ (get_or s (length s - 1) 0 ∷ []) = take_more s (length s - 1) 0 (omega arith) in
    let all : take (length s - 1 + 1) s ≡ s = take_all (length s - 1 + 1) s (omega arith) in
    sym all ∙ more

not_empty : (s : List ℕ) → get_or s (length s - 1) 0 ≡ 47 → 0 < length s
not_empty [] e = let z : ◌≡◌ {A = ℕ} 0 47 = e in absurd (omega arith)
not_empty (x ∷ xs) e = omega arith

no_end_slash_at : (s : List ℕ) → ((front : List ℕ) → s ≢ front ++ (47 ∷ [])) → (b : Bool) → nat_eq (get_or s (length s - 1) 0) 47 ≡ b → s ≡ cond b (take (length s - 1) s) s
no_end_slash_at s none true h =
    let at : get_or s (length s - 1) 0 ≡ 47 = eqb-true (get_or s (length s - 1) 0) 47 h in
    let is : s ≡ take (length s - 1) s ++ (47 ∷ []) = subst (λ (c : ℕ). s ≡ take (length s - 1) s ++ (c ∷ [])) at (at_last s (not_empty s at)) in
    absurd (none (take (length s - 1) s) is)
no_end_slash_at s none false h = refl

pub no_end_slash : (s : List ℕ) → ((front : List ℕ) → s ≢ front ++ (47 ∷ [])) → s ≡ without_end_slash s
no_end_slash s none = no_end_slash_at s none (nat_eq (get_or s (length s - 1) 0) 47) refl

-- the first slash ends the first part
pub parts_cut : (s front rest : List ℕ) → position_or_len (λ b. nat_eq b 47) s < length s → front ≡ before_first (λ b. nat_eq b 47) s → rest ≡ after_first (λ b. nat_eq b 47) s
    → parts s ≡ front ∷ parts rest
parts_cut s front rest l e f = rw (e, f) (slice_split_first (λ b. nat_eq b 47) s 0 l)

-- a path without a slash is one part
pub parts_whole : (s : List ℕ) → position_or_len (λ b. nat_eq b 47) s ≡ length s → parts s ≡ s ∷ []
parts_whole s e = slice_split_none (λ b. nat_eq b 47) s
    (All-from_get_or (λ b. nat_eq b 47 ≡ false) s 0 (λ k l. fails_before_first (λ b. nat_eq b 47) s k 0 (omega (arith, e))))

onto_part : (c : ℕ) (ps : List (List ℕ)) → (w : List ℕ) × ((ws : List (List ℕ)) × (onto_first c ps ≡ w ∷ ws))
onto_part c [] = (c ∷ [], ([], refl))
onto_part c (p ∷ ps) = (c ∷ p, (ps, refl))

part_at : (c : ℕ) (ps : List (List ℕ)) (b : Bool) → (w : List ℕ) × ((ws : List (List ℕ)) × (cond b ([] ∷ ps) (onto_first c ps) ≡ w ∷ ws))
part_at c ps true = ([], (ps, refl))
part_at c ps false = onto_part c ps

-- there is always a part
pub parts_first : (s : List ℕ) → (w : List ℕ) × ((ws : List (List ℕ)) × (parts s ≡ w ∷ ws))
parts_first [] = ([], ([], refl))
parts_first (c ∷ s) = part_at c (parts s) (nat_eq c 47)

-- what `split_once('/')` says, in the words of specs/Target.antt
pub cut_at_slash : (s : List ℕ) (x : Bor (List ℕ) × Bor (List ℕ)) → IsSplitOnceResult 47 s (Some x) → parts s ≡ x.0.now ∷ parts x.1.now
cut_at_slash s x h = let cut = split_once_first 47 s (Some x) h (lit< tt) in parts_cut s x.0.now x.1.now cut.0 cut.1 cut.2

pub no_slash : (s : List ℕ) → IsSplitOnceResult 47 s None → parts s ≡ s ∷ []
no_slash s h = parts_whole s (split_once_first 47 s None h (lit< tt))
