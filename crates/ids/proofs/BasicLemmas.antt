-- General facts on lists, options and orders that the kit's library lacks, each found by what stands before its last arrow.
-- Those on Bool are in the kit's library: or_left, or_right, or_parts, or_cases, and_parts, not-true, not-false of
-- std.proofs.lemmas.Bool; or_assoc, or-false, and-true and and-false of std.proofs.Math.Bool; nil_from_length, length_push,
-- length-map of std.proofs.lemmas.List; and list_any-append and list_all-append of std.proofs.lemmas.List.Folds.
use Rattle.std.proofs.Common.{◌≡◌, ◌≢◌, ◌&&◌, ℕ, suc, List, [], ◌∷◌, ◌++◌, Bool, true, false, arith, Option, Some, None, option_map, is_some, is_eq, is_lt, nat_cmp, Ordering, Less, Equal, Greater, refl, sym, ap, ◌∙◌}
use Rattle.std.specs.Prelude.{T}
use Rattle.std.specs.Cmp.Lexicographic.{slice_cmp}
use Rattle.std.specs.List.{AllByRecursion, Contains, list_all}
use Rattle.std.specs.Option.{option_or}
use Rattle.std.specs.Str.{bytes_eq}
use Rattle.std.proofs.lemmas.Bool.{and_from, false_from_ne_true}
use Rattle.std.proofs.lemmas.List.Folds.{list_all-append}
use Rattle.std.proofs.lemmas.Map.Text.{is_eq-slice_cmp}
use Rattle.std.proofs.lemmas.Slice.Eq.{bytes_eq-Decides}

-- ---- lists

pub inner_is_some : {X : Type 0} (xs : List X) (x : X) (ys : List X) → xs ++ x ∷ ys ≢ []
inner_is_some [] x ys e = cc
inner_is_some (y ∷ xs) x ys e = cc

pub pushed_is_some : {X : Type 0} (xs : List X) (x : X) → xs ++ x ∷ [] ≢ []
pushed_is_some xs x = inner_is_some xs x []

pub AllByRecursion-push : {X : Type 0} (P : X → Type 0) (xs : List X) (x : X) → AllByRecursion P xs → P x → AllByRecursion P (xs ++ x ∷ [])
AllByRecursion-push P [] x all here = (here, tt)
AllByRecursion-push P (y ∷ xs) x all here = (all.0, AllByRecursion-push P xs x all.1 here)

-- what holds of all holds of one in the middle
pub AllByRecursion-middle : {X : Type 0} (P : X → Type 0) (xs : List X) (x : X) (ys : List X) → AllByRecursion P (xs ++ x ∷ ys) → P x
AllByRecursion-middle P [] x ys all = all.0
AllByRecursion-middle P (y ∷ xs) x ys all = AllByRecursion-middle P xs x ys all.1

pub contains_more : {X : Type 0} (y x : X) (xs : List X) → Contains xs x → Contains (y ∷ xs) x
contains_more y x xs there = (suc there.0, omega (arith, there.1), there.2)

pub list_all-joined : {X : Type 0} (p : X → Bool) (xs ys : List X) → list_all p xs ≡ true → list_all p ys ≡ true → list_all p (xs ++ ys) ≡ true
list_all-joined p xs ys left right = list_all-append p xs ys ∙ and_from _ _ left right

-- ---- texts as bytes

pub apart_from_bytes_eq : (xs ys : List ℕ) → xs ≢ ys → bytes_eq xs ys ≡ false
apart_from_bytes_eq xs ys other = false_from_ne_true (bytes_eq xs ys) (λ is. other ((bytes_eq-Decides xs ys).0 is))

pub same_from_bytes_eq : (xs ys : List ℕ) → bytes_eq xs ys ≡ true → xs ≡ ys
same_from_bytes_eq xs ys is = (bytes_eq-Decides xs ys).0 is

pub same_from_slice_cmp : (xs ys : List ℕ) → slice_cmp nat_cmp xs ys ≡ Equal → xs ≡ ys
same_from_slice_cmp xs ys is = same_from_bytes_eq xs ys (sym (is_eq-slice_cmp xs ys) ∙ ap is_eq is)

-- ---- tests, options and orders

pub both_from_T : (x y : Bool) → T (x && y) → T x × T y
both_from_T true y h = (tt, h)
both_from_T false y h = absurd h

pub same_from_some : {X : Type 0} (x y : X) → Some x ≡ Some y → x ≡ y
same_from_some x y e = cc

pub none_from_is_some : {X : Type 0} (o : Option X) → is_some o ≡ false → o ≡ None
none_from_is_some None is = refl
none_from_is_some (Some x) is = cc

pub none_from_option_map : {X Y : Type 0} (f : X → Y) (o : Option X) → option_map f o ≡ None → o ≡ None
none_from_option_map f None is = refl
none_from_option_map f (Some x) is = cc

pub nones_from_option_or : {X : Type 0} (a b : Option X) → option_or a b ≡ None → (a ≡ None) × (b ≡ None)
nones_from_option_or None b e = (refl, e)
nones_from_option_or (Some x) b e = cc

pub is_some-option_map : {X Y : Type 0} (f : X → Y) (o : Option X) → is_some (option_map f o) ≡ is_some o
is_some-option_map f None = refl
is_some-option_map f (Some x) = refl

pub apart_from_is_lt : (o : Ordering) → T (is_lt o) → is_eq o ≡ false
apart_from_is_lt Less is = refl
apart_from_is_lt Equal is = absurd is
apart_from_is_lt Greater is = absurd is

pub less_from_is_lt : (o : Ordering) → T (is_lt o) → o ≡ Less
less_from_is_lt Less h = refl
less_from_is_lt Equal h = absurd h
less_from_is_lt Greater h = absurd h
