-- One pass more for each participant, one after another. The key lemmas are dealt_first and dealt_next.
use Rattle.std.proofs.Common.{◌≡◌, ℕ, ◌+◌, ◌<◌, ◌≤◌, ⊎_elim, List, [], ◌∷◌, ◌++◌, length, refl, sym, ◌∙◌, ap, subst, arith}
use Rattle.std.specs.List.{Contains}
use Rattle.std.specs.Prelude.{slice_index_or, slice_set, vec_capacity, vec_len}
use Rattle.std.proofs.lemmas.Bool.{cases_eq}
use Rattle.std.proofs.lemmas.List.{get_or-set_other, get_or-set_same, get_or_append_left, get_or_at, get_or_default, length-set}
use Rattle.sync_calls.specs.Hall.{PassOf, passes_in}
use Rattle.sync_calls.specs.Making.{IsDealt}
use Rattle.sync_calls.specs.Shown.{LibraryPass}
use Rattle.sync_calls.proofs.BehindLemmas.{one_less}

last_has : {A : Type 0} (old front : List A) (last : A) → old ≡ front ++ last ∷ [] → Contains old last
last_has old front last pop =
    let longer = one_less old front last pop in
    (length front, omega arith, ap (λ l. slice_index_or l (length front) last) pop ∙ get_or_at front last [] last (length front) refl)

front_has : {A : Type 0} (old front : List A) (last x : A) → old ≡ front ++ last ∷ [] → Contains front x → Contains old x
front_has old front last x pop (k, below, is) =
    let longer = one_less old front last pop in
    (k, omega arith, ap (λ l. slice_index_or l k x) pop ∙ (get_or_append_left front (last ∷ []) x k below ∙ is))

module _ {S : Type 0} where
  -- those before this place have one of these passes more, and these are left
  pub record AreDealt (all left : List (LibraryPass S)) (place : ℕ) (old now : List (PassOf S)) : Type 0 where
    pub size : length now ≡ length old
    pub kept : (i : ℕ) (d : PassOf S) → place ≤ i → slice_index_or now i d ≡ slice_index_or old i d
    pub dealt : (i : ℕ) (d e : PassOf S) → i < place → i < length old → IsDealt all (slice_index_or old i d) (slice_index_or now i e)
    pub rest : (x : LibraryPass S) → Contains left x → Contains all x

  pub dealt_first : (all : List (LibraryPass S)) (old : List (PassOf S)) → AreDealt all all 0 old old
  dealt_first all old = record {
    size = refl;
    kept = λ i d past. refl;
    dealt = λ i d e below within. absurd (omega arith);
    rest = λ x has. has;
  }

  pub dealt_next : (all left front : List (LibraryPass S)) (old now : List (PassOf S)) (place next : ℕ) (last : LibraryPass S) (to new : PassOf S) → AreDealt all left place old now
      → left ≡ front ++ last ∷ [] → to ≡ slice_index_or now place to → place < length old → next ≡ place + 1 → passes_in new ≡ passes_in to ++ last ∷ []
      → vec_len new.passes ≡ vec_len to.passes + 1 → vec_capacity new.passes ≡ vec_capacity to.passes → new.exit ≡ to.exit
      → AreDealt all front next old (slice_set now place new)
  dealt_next all left front old now place next last to new so pop at within is grows more room exit =
      let sizes = so.size in
      let here : place < length now = omega arith in record {
        size = length-set now place new ∙ so.size;
        kept = λ i d past.
            let apart : i ≡ place → ⊥ = λ e. omega arith in
            get_or-set_other now place i new d apart ∙ so.kept i d (omega arith);
        dealt = λ i d e below inside. ⊎_elim
            (λ (same : i ≡ place).
            let was : slice_index_or old place d ≡ to = sym (so.kept place d (omega arith)) ∙ (sym (get_or_default now place to d here) ∙ sym at) in
            subst (λ (n : ℕ). IsDealt all (slice_index_or old n d) (slice_index_or (slice_set now place new) n e)) (sym same)
            (subst (λ (p : PassOf S). IsDealt all p (slice_index_or (slice_set now place new) place e)) (sym was)
            (subst (λ (p : PassOf S). IsDealt all to p) (sym (get_or-set_same now place new e here))
            (record { one = last; is = so.rest last (last_has left front last pop); grows = grows; size = more; room = room; exit = exit }))))
            (λ (ne : i ≡ place → ⊥). subst (λ (p : PassOf S). IsDealt all (slice_index_or old i d) p) (sym (get_or-set_other now place i new e ne))
            (so.dealt i d e (before i place next is below ne) inside))
            (cases_eq i place);
        rest = λ x has. so.rest x (front_has left front last x pop has);
      }
    where
      before : (i place next : ℕ) → next ≡ place + 1 → i < next → (i ≡ place → ⊥) → i < place
      before i place next is below ne = omega (arith, ne)
