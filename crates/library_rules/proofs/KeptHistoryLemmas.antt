-- The retained history: what a cut and a head update leave. The key lemmas are cut_kept, cut_some and installed_kept.
use Rattle.std.proofs.Common.{◌≡◌, ◌≢◌, ◌||◌, ◌⊎◌, inl, inr, ℕ, ℤ, Bool, true, false, if◌then◌else◌, List, [], ◌∷◌, ◌++◌, refl, sym, ◌∙◌, true≢false}
use Rattle.library_state.specs.Retention.{is_recent, is_last, kept_for}
use Rattle.library_state.specs.declared.history.Install.{Install}
use Rattle.object_graph.specs.Objects.{same_id}
use Rattle.library_rules.specs.LibraryState.{is_kept}
use Rattle.library_rules.proofs.MemberLemmas.{kept_append, same_id-true}
use Rattle.std.proofs.lemmas.Bool.{or_cases, or_right}
use Rattle.ids.proofs.BasicLemmas.{pushed_is_some}

pub cons_some : {A : Type 0} (x : A) (xs : List A) → x ∷ xs ≢ []
cons_some x xs e = cc

rest_none : {A : Type 0} (front rest : List A) → front ++ rest ≡ [] → rest ≡ []
rest_none [] rest e = e
rest_none (x ∷ front) rest e = absurd (cons_some x (front ++ rest) e)

or_map : (a b c : Bool) → (b ≡ true → c ≡ true) → (a || b) ≡ true → (a || c) ≡ true
or_map true b c h e = refl
or_map false b c h e = h e

-- what a cut leaves was kept
pub cut_kept : (days : ℤ) (moment : ℕ) (kept : List Install) (id : List ℕ) → is_kept (kept_for days moment kept) id ≡ true → is_kept kept id ≡ true
cut_kept days moment [] id e = e
cut_kept days moment (i ∷ later) id e = by (is_last later || is_recent days moment i.at) (λ h. cut_kept days moment later id h) e
  where
    by : (b : Bool) → (is_kept (kept_for days moment later) id ≡ true → is_kept later id ≡ true)
        → is_kept ((if b then i ∷ [] else []) ++ kept_for days moment later) id ≡ true → is_kept (i ∷ later) id ≡ true
    by true rest e = or_map (same_id id i.head) (same_id id i.pushed || is_kept (kept_for days moment later) id) (same_id id i.pushed || is_kept later id)
        (or_map (same_id id i.pushed) (is_kept (kept_for days moment later) id) (is_kept later id) rest) e
    by false rest e = or_right (same_id id i.head) (same_id id i.pushed || is_kept later id) (or_right (same_id id i.pushed) (is_kept later id) (rest e))

-- the last head update is retained
pub cut_some : (days : ℤ) (moment : ℕ) (kept : List Install) → kept ≢ [] → kept_for days moment kept ≢ []
cut_some days moment [] some = some
cut_some days moment (i ∷ []) some = cons_some i []
cut_some days moment (i ∷ j ∷ later) some = λ e.
    cut_some days moment (j ∷ later) (cons_some j later)
    (rest_none (if is_last (j ∷ later) || is_recent days moment i.at then i ∷ [] else []) (kept_for days moment (j ∷ later)) e)

-- a commit that is kept after a head update was kept before, or is one of its commits
pub installed_cases : (kept : List Install) (head pushed : List ℕ) (moment : ℕ) (id : List ℕ)
    → is_kept (kept ++ record { head = head; pushed = pushed; at = moment } ∷ []) id ≡ true
    → (is_kept kept id ≡ true) ⊎ ((id ≡ head) ⊎ (id ≡ pushed))
installed_cases kept head pushed moment id e =
    one (or_cases (is_kept kept id) (same_id id head || (same_id id pushed || false))
    (sym (kept_append kept (record { head = head; pushed = pushed; at = moment } ∷ []) id) ∙ e))
  where
    last : (same_id id pushed ≡ true) ⊎ (false ≡ true) → (id ≡ head) ⊎ (id ≡ pushed)
    last (inl same) = inr (same_id-true id pushed same)
    last (inr never) = absurd (true≢false (sym never))

    new : (same_id id head ≡ true) ⊎ ((same_id id pushed || false) ≡ true) → (id ≡ head) ⊎ (id ≡ pushed)
    new (inl same) = inl (same_id-true id head same)
    new (inr other) = last (or_cases (same_id id pushed) false other)

    one : (is_kept kept id ≡ true) ⊎ ((same_id id head || (same_id id pushed || false)) ≡ true) → (is_kept kept id ≡ true) ⊎ ((id ≡ head) ⊎ (id ≡ pushed))
    one (inl old) = inl old
    one (inr other) = inr (new (or_cases (same_id id head) (same_id id pushed || false) other))
