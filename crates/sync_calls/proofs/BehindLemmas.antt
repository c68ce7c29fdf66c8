-- A list that is taken from its end, and what each item that was taken became. The key lemmas are none_behind, next_behind and
-- all_behind; undone_behind puts one back.
use Rattle.std.proofs.Common.{◌≡◌, ℕ, ◌+◌, ◌-◌, ◌<◌, ⊎_elim, List, [], ◌∷◌, ◌++◌, length, reverse, take, refl, sym, ◌∙◌, ap, subst, arith}
use Rattle.std.specs.Prelude.{slice_index_or}
use Rattle.sync_calls.specs.Making.{AreBehind}
use Rattle.std.proofs.lemmas.Bool.{cases_eq}
use Rattle.std.proofs.lemmas.List.{get_or-reverse, get_or-take, get_or_append_left, get_or_at, get_or_push, length-append, length-reverse, take-take, take_all, take_at}

-- an item of the front of a list
pub front_at : {A : Type 0} (front xs : List A) (i : ℕ) (d : A) → front ≡ take (length front) xs → i < length front → slice_index_or front i d ≡ slice_index_or xs i d
front_at front xs i d is below = ap (λ l. slice_index_or l i d) is ∙ get_or-take (length front) xs i d below

last_of : {A : Type 0} (front : List A) (x : A) (xs : List A) (d : A) → front ++ x ∷ [] ≡ take (length (front ++ x ∷ [])) xs → slice_index_or xs (length front) d ≡ x
last_of front x xs d is =
    let size = length-append front (x ∷ []) in
    sym (front_at (front ++ x ∷ []) xs (length front) d is (omega arith)) ∙ get_or_at front x [] d (length front) refl

shorter_front : {A : Type 0} (front : List A) (x : A) (xs : List A) → front ++ x ∷ [] ≡ take (length (front ++ x ∷ [])) xs → front ≡ take (length front) xs
shorter_front front x xs is =
    let size = length-append front (x ∷ []) in
    sym (take_at front (x ∷ []) (length front) refl)
    ∙ (ap (λ l. take (length front) l) is ∙ take-take (length front) (length (front ++ x ∷ [])) xs (omega arith))

-- the last item of a front, and the front without it
pub front_less : {A : Type 0} (old front : List A) (x : A) (xs : List A) → old ≡ front ++ x ∷ [] → old ≡ take (length old) xs → front ≡ take (length front) xs
front_less old front x xs pop is = shorter_front front x xs (subst (λ l. l ≡ take (length l) xs) pop is)

pub last_there : {A : Type 0} (old front : List A) (x : A) (xs : List A) (d : A) → old ≡ front ++ x ∷ [] → old ≡ take (length old) xs → slice_index_or xs (length front) d ≡ x
last_there old front x xs d pop is = last_of front x xs d (subst (λ l. l ≡ take (length l) xs) pop is)

pub one_less : {A : Type 0} (old front : List A) (x : A) → old ≡ front ++ x ∷ [] → length old ≡ length front + 1
one_less old front x pop = ap length pop ∙ length-append front (x ∷ [])

module _ {A B : Type 0} (R : A → B → Type 0) where
  pub none_behind : (all : List A) (out : List B) → length out ≡ 0 → AreBehind R all all out
  none_behind all out empty = record {
    front = sym (take_all (length all) all (omega arith));
    size = omega arith;
    each = λ k a b below. absurd (omega arith);
  }

  pub next_behind : (all old front : List A) (out : List B) (last : A) (new : B) → AreBehind R all old out → old ≡ front ++ last ∷ [] → R last new → AreBehind R all front (out ++ new ∷ [])
  next_behind all old front out last new so pop here =
      let longer = one_less old front last pop in
      let more = length-append out (new ∷ []) in
      let sizes = so.size in record {
        front = front_less old front last all pop so.front;
        size = omega arith;
        each = λ k a b below. ⊎_elim
            (λ (is : k ≡ length out).
            let where_it_is : length all - 1 - k ≡ length front = omega arith in
            subst (λ (n : ℕ). R (slice_index_or all n a) (slice_index_or (out ++ new ∷ []) k b)) (sym where_it_is)
            (subst (λ (x : A). R x (slice_index_or (out ++ new ∷ []) k b)) (sym (last_there old front last all a pop so.front))
            (subst (λ (y : B). R last y) (sym (get_or_push out new b k (sym is))) here)))
            (λ (ne : k ≡ length out → ⊥).
            let inner : k < length out = within k (length out) (length (out ++ new ∷ [])) more below ne in
            subst (λ (y : B). R (slice_index_or all (length all - 1 - k) a) y) (sym (get_or_append_left out (new ∷ []) b k inner))
            (so.each k a b inner))
            (cases_eq k (length out));
      }
    where
      within : (k n m : ℕ) → m ≡ n + 1 → k < m → (k ≡ n → ⊥) → k < n
      within k n m is below ne = omega (arith, ne)

  -- the one that was taken last became this
  pub last_behind : (all left : List A) (front out : List B) (last : B) (a : A) → AreBehind R all left out → out ≡ front ++ last ∷ [] → R (slice_index_or all (length left) a) last
  last_behind all left front out last a so pop =
      let longer = one_less out front last pop in
      let sizes = so.size in
      let below : length front < length out = omega arith in
      let at : length all - 1 - length front ≡ length left = omega arith in
      subst (λ (n : ℕ). R (slice_index_or all n a) last) at
      (subst (λ (y : B). R (slice_index_or all (length all - 1 - length front) a) y) (ap (λ l. slice_index_or l (length front) last) pop ∙ get_or_at front last [] last (length front) refl)
      (so.each (length front) a last below))

  -- all are out, in their order once they are turned round
  pub all_behind : (all left : List A) (out : List B) → AreBehind R all left out → length left ≡ 0
      → (length (reverse out) ≡ length all) × ((i : ℕ) (a : A) (b : B) → i < length all → R (slice_index_or all i a) (slice_index_or (reverse out) i b))
  all_behind all left out so none =
      let sizes = so.size in
      let turned = length-reverse out in (
        omega arith,
        λ i a b below.
            let there : i < length out = omega arith in
            let within : length out - 1 - i < length out = omega arith in
            let back : length all - 1 - (length out - 1 - i) ≡ i = omega arith in
            subst (λ (y : B). R (slice_index_or all i a) y) (sym (get_or-reverse out i b there))
            (subst (λ (n : ℕ). R (slice_index_or all n a) (slice_index_or out (length out - 1 - i) b)) back
            (so.each (length out - 1 - i) a b within)),
      )
