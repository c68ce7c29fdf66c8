-- The conflict copies of a directory depend on that directory alone. The key lemmas are moves_own and own_conflicts.
use Rattle.std.proofs.Common.{◌≡◌, ℕ, zero, suc, ◌+◌, ◌||◌, Bool, true, false, cond, if◌then◌else◌, List, [], ◌∷◌, filter, refl, sym, ap, ap₂, ◌∙◌, true≢false}
use Rattle.std.specs.FinMap as map
use Rattle.tree_model.specs.declared.node.FileVersion.{FileVersion}
use Rattle.tree_model.specs.Path.{PathV, parent_of, last_name}
use Rattle.tree_model.specs.DirectorySurvival.{Sides}
use Rattle.tree_model.specs.ConflictCopies.{in_trees, Naming, conflicts, conflict_spot, tries, leavers, least_free, moves, stands_in}
use Rattle.tree_model.proofs.BelowLemmas.{parent_push}
use Rattle.tree_model.proofs.ListedLemmas.{same_path, same_path-apart, is_in}

any_own : (own : PathV → Bool) (q : PathV) (ts : List PathV) → own q ≡ true → is_in q ts ≡ is_in q (filter own ts)
any_own own q [] e = refl
any_own own q (y ∷ ts) e = by (own y) refl (any_own own q ts e)
  where
    by : (b : Bool) → own y ≡ b → is_in q ts ≡ is_in q (filter own ts) → (same_path q y || is_in q ts) ≡ is_in q (cond b (y ∷ filter own ts) (filter own ts))
    by true is more = ap (λ r. same_path q y || r) more
    by false is more =
        let other : same_path q y ≡ false = same_path-apart q y (λ h. true≢false (sym e ∙ ap own h ∙ is)) in
        ap (λ r. r || is_in q ts) other ∙ more

module _ {X : Type 0} (is_used : PathV → Bool) (spot : X → ℕ → PathV) (t : ℕ) (own : PathV → Bool) (of : X → Bool) (ties : (x : X) (k : ℕ) → own (spot x k) ≡ of x) where
  least_own : (taken : List PathV) (x : X) (u k : ℕ) → of x ≡ true
      → least_free same_path is_used spot taken x u k ≡ least_free same_path is_used spot (filter own taken) x u k
  least_own taken x zero k e = refl
  least_own taken x (suc u) k e =
      ap₂ (λ (b : Bool) (r : ℕ). if b then r else k)
      (ap (λ r. is_used (spot x k) || r) (any_own own (spot x k) taken (ties x k ∙ e)))
      (least_own taken x u (k + 1) e)

  -- what moves of one kind is what moves alone of that kind
  pub moves_own : (xs : List X) (taken : List PathV)
      → filter (λ (m : X × PathV). of m.0) (moves same_path is_used spot t taken xs) ≡ moves same_path is_used spot t (filter own taken) (filter of xs)
  moves_own [] taken = refl
  moves_own (x ∷ xs) taken = by (of x) refl (moves_own xs (to ∷ taken))
    where
      to : PathV
      to = spot x (least_free same_path is_used spot taken x t 1)

      rest : List (X × PathV)
      rest = filter (λ (m : X × PathV). of m.0) (moves same_path is_used spot t (to ∷ taken) xs)

      by : (b : Bool) → of x ≡ b → rest ≡ moves same_path is_used spot t (filter own (to ∷ taken)) (filter of xs)
          → cond b ((x, to) ∷ rest) rest ≡ moves same_path is_used spot t (filter own taken) (cond b (x ∷ filter of xs) (filter of xs))
      by true is more =
          let same : to ≡ spot x (least_free same_path is_used spot (filter own taken) x t 1) = ap (spot x) (least_own taken x t 1 is) in
          let front : filter own (to ∷ taken) ≡ to ∷ filter own taken =
          ap (λ (b : Bool). cond b (to ∷ filter own taken) (filter own taken)) (ties x (least_free same_path is_used spot taken x t 1) ∙ is) in
          ap (λ (r : List (X × PathV)). (x, to) ∷ r) (more ∙ ap (λ ts. moves same_path is_used spot t ts (filter of xs)) front)
          ∙ ap (λ (p : PathV). (x, p) ∷ moves same_path is_used spot t (p ∷ filter own taken) (filter of xs)) same
      by false is more =
          let front : filter own (to ∷ taken) ≡ filter own taken =
          ap (λ (b : Bool). cond b (to ∷ filter own taken) (filter own taken)) (ties x (least_free same_path is_used spot taken x t 1) ∙ is) in
          more ∙ ap (λ ts. moves same_path is_used spot t ts (filter of xs)) front

-- the copies of a directory's files are named as if no other file left its name
pub own_conflicts : (naming : Naming) (s : Sides) (d : PathV)
    → filter (λ (m : (PathV × FileVersion) × PathV). stands_in d m.0.0) (conflicts naming s)
    ≡ moves same_path (in_trees s) (conflict_spot naming) (tries s) [] (filter (λ (x : PathV × FileVersion). stands_in d x.0) (map.entries (leavers s)))
own_conflicts naming s d =
    moves_own (in_trees s) (conflict_spot naming) (tries s) (stands_in d) (λ x. stands_in d x.0)
    (λ x k. ap (λ (p : PathV). same_path p d) (parent_push (parent_of x.0) (naming (last_name x.0) x.1.modifier x.1.mtime k)))
    (map.entries (leavers s)) []
