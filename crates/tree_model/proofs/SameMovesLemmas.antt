-- Two tests that answer the same at a thing's spots give it the same number. The key lemma is moves_same.
use Rattle.std.proofs.Common.{◌≡◌, ◌≢◌, ◌≤◌, ◌<◌, ◌+◌, ◌==◌, ◌||◌, ℕ, zero, suc, Bool, true, false, List, [], ◌∷◌, length, refl, sym, ap, ◌∙◌, arith, eqb-true, true≢false, ◌⊎◌, inl, inr}
use Rattle.std.proofs.lemmas.Bool.{eqb-false}
use Rattle.tree_model.specs.Path.{PathV}
use Rattle.tree_model.specs.ConflictCopies.{is_gone, least_free, moves}
use Rattle.tree_model.proofs.ListedLemmas.{is_in, same_path}
use Rattle.tree_model.proofs.MovingLemmas.{In, least_before, least_from, least_is_free}

-- with two tests of the same answers at a thing's spots, its number is the same
module _ {X : Type 0} (u v : PathV → Bool) (spot : X → ℕ → PathV) (us vs : List PathV) (in_us : (q : PathV) → u q ≡ true → is_in q us ≡ true) (in_vs : (q : PathV) → v q ≡ true → is_in q vs ≡ true)
    (apart : (x : X) (i j : ℕ) → spot x (1 + i) ≡ spot x (1 + j) → i ≡ j) (t w : ℕ) where
  least_same : (taken : List PathV) (x : X) → ((k : ℕ) → u (spot x k) ≡ v (spot x k)) → length us + length taken < t → length vs + length taken < w
      → least_free same_path u spot taken x t 1 ≡ least_free same_path v spot taken x w 1
  least_same taken x same enough_u enough_v = by (a == b) refl
    where
      a : ℕ
      a = least_free same_path u spot taken x t 1

      b : ℕ
      b = least_free same_path v spot taken x w 1

      gone_same : (k : ℕ) → is_gone same_path u spot taken (spot x k) ≡ is_gone same_path v spot taken (spot x k)
      gone_same k = ap (λ c. c || is_in (spot x k) taken) (same k)

      free_u : is_gone same_path u spot taken (spot x a) ≡ false
      free_u = least_is_free u spot us in_us apart taken x t enough_u

      free_v : is_gone same_path v spot taken (spot x b) ≡ false
      free_v = least_is_free v spot vs in_vs apart taken x w enough_v

      not_less : a < b → ⊥
      not_less less = true≢false (sym (least_before v spot taken x w 1 a (least_from u spot taken x t 1) less) ∙ sym (gone_same a) ∙ free_u)

      not_more : b < a → ⊥
      not_more less = true≢false (sym (least_before u spot taken x t 1 b (least_from v spot taken x w 1) less) ∙ gone_same b ∙ free_v)

      by : (e : Bool) → (a == b) ≡ e → a ≡ b
      by true is = eqb-true a b is
      by false is = let other : a ≢ b = eqb-false a b is in side (nat_less a b other)
        where
          nat_less : (m n : ℕ) → m ≢ n → (m < n) ⊎ (n < m)
          nat_less zero zero other = absurd (other refl)
          nat_less zero (suc n) other = inl (omega arith)
          nat_less (suc m) zero other = inr (omega arith)
          nat_less (suc m) (suc n) other = elim (nat_less m n (λ e. other (ap suc e))) [ inl h ↦ inl (omega arith) | inr h ↦ inr (omega arith) ]

          side : (a < b) ⊎ (b < a) → a ≡ b
          side (inl less) = absurd (not_less less)
          side (inr more) = absurd (not_more more)

  pub moves_same : (xs : List X) (taken : List PathV) → ((x : X) → In x xs → (k : ℕ) → u (spot x k) ≡ v (spot x k)) → length us + length taken + length xs ≤ t → length vs + length taken + length xs ≤ w
      → moves same_path u spot t taken xs ≡ moves same_path v spot w taken xs
  moves_same [] taken same enough_u enough_v = refl
  moves_same (x ∷ xs) taken same enough_u enough_v =
      let one = least_same taken x (same x (inl refl)) (omega arith) (omega arith) in
      let to : PathV = spot x (least_free same_path v spot taken x w 1) in
      ap (λ k. (x, spot x k) ∷ moves same_path u spot t (spot x k ∷ taken) xs) one
      ∙ ap (λ ms. (x, to) ∷ ms) (moves_same xs (to ∷ taken) (λ y there. same y (inr there)) (omega arith) (omega arith))
