-- Keys in lists. The key lemmas are in_front, in_last, in_pushed and in_distinct.
use Rattle.std.proofs.Common.{◌≡◌, ◌||◌, ◌⊎◌, inl, inr, Bool, true, false, if◌then◌else◌, List, [], ◌∷◌, ◌++◌, refl, sym, ap, ap₂, ◌∙◌, append-nil, append_assoc}
use Rattle.std.specs.Cmp.{tied_itself, Equal-is}
use Rattle.std.specs.Ordering.{eq_by_cmp, is_eq}
use Rattle.ids.specs.Key.{key_cmp}
use Rattle.ids.specs.declared.key.Key.{Key}
use Rattle.ids.proofs.KeyOrderLemmas.{key_cmp_total, key_cmp_exact}
use Rattle.std.proofs.lemmas.Bool.{or_right, or_left}
use Rattle.std.proofs.Math.Bool.{or-false, or_assoc}
use Rattle.object_graph.specs.Traversal.{is_in, distinct_from}

abbrev pub same_key : Key → Key → Bool
same_key = eq_by_cmp key_cmp

pub same_key-true : (a b : Key) → same_key a b ≡ true → a ≡ b
same_key-true a b e = key_cmp_exact a b ((Equal-is (key_cmp a b)).0 e)

pub same_key-itself : (a : Key) → same_key a a ≡ true
same_key-itself a = ap is_eq (tied_itself key_cmp_total a)

-- the keys of the first list stand in the second
pub record Within (keys more : List Key) : Type 0 where
  pub there : (key : Key) → is_in keys key ≡ true → is_in more key ≡ true

pub within_itself : (keys : List Key) → Within keys keys
within_itself keys = record { there = λ key e. e }

pub within_then : {a b c : List Key} → Within a b → Within b c → Within a c
within_then ab bc = record { there = λ key e. bc.there key (ab.there key e) }

pub in_append : (xs ys : List Key) (key : Key) → is_in (xs ++ ys) key ≡ (is_in xs key || is_in ys key)
in_append [] ys key = refl
in_append (x ∷ xs) ys key = ap (λ b. same_key key x || b) (in_append xs ys key) ∙ sym (or_assoc (same_key key x) (is_in xs key) (is_in ys key))

pub within_front : (xs ys : List Key) → Within xs (xs ++ ys)
within_front xs ys = record { there = λ key e. in_append xs ys key ∙ or_left (is_in xs key) (is_in ys key) e }

pub in_last : (xs : List Key) (key : Key) → is_in (xs ++ key ∷ []) key ≡ true
in_last xs key = in_append xs (key ∷ []) key ∙ or_right (is_in xs key) (is_in (key ∷ []) key) (ap (λ b. b || false) (same_key-itself key))

-- what stands in a list with a key behind it is that key, or stood in the list
pub in_pushed : (xs : List Key) (last key : Key) → is_in (xs ++ last ∷ []) key ≡ true → (is_in xs key ≡ true) ⊎ (key ≡ last)
in_pushed xs last key e = by (is_in xs key) (same_key key last) (same_key-true key last) (sym (in_append xs (last ∷ []) key) ∙ e)
  where
    by : (a b : Bool) → (b ≡ true → key ≡ last) → (a || (b || false)) ≡ true → (a ≡ true) ⊎ (key ≡ last)
    by true b is e = inl refl
    by false true is e = inr (is refl)
    by false false is e = cc

-- ---- each key once

distinct_or : (a b c d : Bool) → ((a || b) || c) ≡ ((a || b) || d) → (b || (a || c)) ≡ (b || (a || d))
distinct_or true true c d e = refl
distinct_or true false c d e = refl
distinct_or false true c d e = refl
distinct_or false false c d e = e

met_again : (a b c d : Bool) → (a ≡ true → b ≡ true) → (b || c) ≡ (b || d) → (b || c) ≡ (b || (a || d))
met_again true true c d is e = refl
met_again true false c d is e = absurd (is_absurd (is refl))
  where
    is_absurd : false ≡ true → ⊥
    is_absurd e = cc
met_again false b c d is e = e

pub in_distinct_from : (met keys : List Key) (key : Key) → (is_in met key || is_in (distinct_from met keys) key) ≡ (is_in met key || is_in keys key)
in_distinct_from met [] key = refl
in_distinct_from met (k ∷ keys) key = by (is_in met k) refl (λ more. in_distinct_from more keys key)
  where
    by : (b : Bool) → is_in met k ≡ b
        → ((more : List Key) → (is_in more key || is_in (distinct_from more keys) key) ≡ (is_in more key || is_in keys key))
        → (is_in met key || is_in (if b then distinct_from met keys else k ∷ distinct_from (k ∷ met) keys) key) ≡ (is_in met key || (same_key key k || is_in keys key))
    by true is rest =
        met_again (same_key key k) (is_in met key) (is_in (distinct_from met keys) key) (is_in keys key)
        (λ same. ap (is_in met) (same_key-true key k same) ∙ is) (rest met)
    by false is rest =
        distinct_or (same_key key k) (is_in met key) (is_in (distinct_from (k ∷ met) keys) key) (is_in keys key) (rest (k ∷ met))

pub in_distinct : (keys : List Key) (key : Key) → is_in (distinct_from [] keys) key ≡ is_in keys key
in_distinct keys key = in_distinct_from [] keys key

-- a key behind others: it is new, or was met

or_shift : (a b c : Bool) → ((a || b) || c) ≡ (b || (a || c))
or_shift true true c = refl
or_shift true false c = refl
or_shift false true c = refl
or_shift false false c = refl

if_same : (t u : Bool) (xs ys : List Key) → t ≡ u → (if t then xs else ys) ≡ (if u then xs else ys)
if_same t u xs ys e = ap (λ b. if b then xs else ys) e

pub distinct_push : (met xs : List Key) (key : Key)
    → distinct_from met (xs ++ key ∷ []) ≡ (if is_in met key || is_in xs key then distinct_from met xs else distinct_from met xs ++ key ∷ [])
distinct_push met [] key = if_same (is_in met key) (is_in met key || false) [] (key ∷ []) (sym (or-false (is_in met key)))
distinct_push met (x ∷ xs) key = by (is_in met x) refl (λ more. distinct_push more xs key)
  where
    again : is_in met x ≡ true → (is_in met key || is_in xs key) ≡ (is_in met key || (same_key key x || is_in xs key))
    again is = met_again (same_key key x) (is_in met key) (is_in xs key) (is_in xs key) (λ same. ap (is_in met) (same_key-true key x same) ∙ is) refl

    behind : (t : Bool) → (x ∷ (if t then distinct_from (x ∷ met) xs else distinct_from (x ∷ met) xs ++ key ∷ []))
        ≡ (if t then x ∷ distinct_from (x ∷ met) xs else (x ∷ distinct_from (x ∷ met) xs) ++ key ∷ [])
    behind true = refl
    behind false = refl

    by : (b : Bool) → is_in met x ≡ b
        → ((more : List Key) → distinct_from more (xs ++ key ∷ []) ≡ (if is_in more key || is_in xs key then distinct_from more xs else distinct_from more xs ++ key ∷ []))
        → (if b then distinct_from met (xs ++ key ∷ []) else x ∷ distinct_from (x ∷ met) (xs ++ key ∷ []))
        ≡ (if is_in met key || (same_key key x || is_in xs key) then (if b then distinct_from met xs else x ∷ distinct_from (x ∷ met) xs)
        else (if b then distinct_from met xs else x ∷ distinct_from (x ∷ met) xs) ++ key ∷ [])
    by true is rest = rest met ∙ if_same (is_in met key || is_in xs key) (is_in met key || (same_key key x || is_in xs key)) (distinct_from met xs) (distinct_from met xs ++ key ∷ []) (again is)
    by false is rest =
        ap (λ ks. x ∷ ks) (rest (x ∷ met)) ∙ behind ((same_key key x || is_in met key) || is_in xs key)
        ∙ if_same ((same_key key x || is_in met key) || is_in xs key) (is_in met key || (same_key key x || is_in xs key)) (x ∷ distinct_from (x ∷ met) xs) ((x ∷ distinct_from (x ∷ met) xs) ++ key ∷ [])
        (or_shift (same_key key x) (is_in met key) (is_in xs key))

-- lists with the same keys in the order of first visit
abbrev pub Once : List Key → List Key → Type 0
Once xs ys = distinct_from [] xs ≡ distinct_from [] ys

pub once_push : (xs ys : List Key) (key : Key) → Once xs ys → Once (xs ++ key ∷ []) (ys ++ key ∷ [])
once_push xs ys key once =
    distinct_push [] xs key
    ∙ ap₂ (λ (b : Bool) (ks : List Key). if b then ks else ks ++ key ∷ []) (sym (in_distinct xs key) ∙ ap (λ ks. is_in ks key) once ∙ in_distinct ys key) once
    ∙ sym (distinct_push [] ys key)

pub once_append : (xs ys zs : List Key) → Once xs ys → Once (xs ++ zs) (ys ++ zs)
once_append xs ys [] once = ap (distinct_from []) (append-nil xs) ∙ once ∙ ap (distinct_from []) (sym (append-nil ys))
once_append xs ys (z ∷ zs) once =
    ap (distinct_from []) (sym (append_assoc xs (z ∷ []) zs)) ∙ once_append (xs ++ z ∷ []) (ys ++ z ∷ []) zs (once_push xs ys z once) ∙ ap (distinct_from []) (append_assoc ys (z ∷ []) zs)
