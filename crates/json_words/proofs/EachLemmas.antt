-- A loop over items that checks each: what is left to check, after what was done, gives the whole answer.
-- The key lemmas are each_after-ok and each_after-err.
use Rattle.std.proofs.Common.{◌≡◌, List, [], ◌∷◌, ◌++◌, Result, Ok, Err, refl, sym, ap, ◌∙◌, append_assoc, append-nil}
use Rattle.json_words.specs.Check.{◌>>=◌, each}

after_nothing : {B E : Type 0} (r : Result (List B) E) → (r >>= (λ ys. Ok ([] ++ ys))) ≡ r
after_nothing (Ok ys) = refl
after_nothing (Err fault) = refl

one_more : {B E : Type 0} (done : List B) (y : B) (r : Result (List B) E) → ((r >>= (λ ys. Ok (y ∷ ys))) >>= (λ ys. Ok (done ++ ys))) ≡ (r >>= (λ ys. Ok ((done ++ y ∷ []) ++ ys)))
one_more done y (Ok ys) = ap Ok (sym (append_assoc done (y ∷ []) ys))
one_more done y (Err fault) = refl

module _ {A B E : Type 0} where
  -- the answers done, and then those of the items that are left
  abbrev pub each_after : (A → Result B E) → List B → List A → Result (List B) E
  each_after check done xs = each check xs >>= (λ ys. Ok (done ++ ys))

  pub each_after-start : (check : A → Result B E) (xs : List A) → each_after check [] xs ≡ each check xs
  each_after-start check xs = after_nothing (each check xs)

  pub each_after-end : (check : A → Result B E) (done : List B) → each_after check done [] ≡ Ok done
  each_after-end check done = ap Ok (append-nil done)

  -- an item that passes joins what was done
  pub each_after-ok : (check : A → Result B E) (done : List B) (x : A) (xs : List A) (y : B) → check x ≡ Ok y → each_after check done (x ∷ xs) ≡ each_after check (done ++ y ∷ []) xs
  each_after-ok check done x xs y is =
      ap (λ r. (r >>= (λ z. each check xs >>= (λ ys. Ok (z ∷ ys)))) >>= (λ ys. Ok (done ++ ys))) is ∙ one_more done y (each check xs)

  -- an item that fails is the whole answer
  pub each_after-err : (check : A → Result B E) (done : List B) (x : A) (xs : List A) (fault : E) → check x ≡ Err fault → each_after check done (x ∷ xs) ≡ Err fault
  each_after-err check done x xs fault is =
      ap (λ r. (r >>= (λ z. each check xs >>= (λ ys. Ok (z ∷ ys)))) >>= (λ ys. Ok (done ++ ys))) is
