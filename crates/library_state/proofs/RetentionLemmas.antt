-- What is retained, with the last update taken off first. The key lemma is kept_for-push.
use Rattle.std.proofs.Common.{◌≡◌, ℕ, ℤ, List, [], ◌∷◌, ◌++◌, ◌||◌, Bool, true, false, cond, filter, refl, ap, ◌∙◌}
use Rattle.library_state.specs.Retention.{is_recent, is_last, kept_for}
use Rattle.library_state.specs.declared.history.Install.{Install}

not_last : (front : List Install) (last : Install) → is_last (front ++ last ∷ []) ≡ false
not_last [] last = refl
not_last (install ∷ front) last = refl

one_more : (b : Bool) (install : Install) (kept : List Install) (last : Install) → cond b (install ∷ []) [] ++ (kept ++ last ∷ []) ≡ cond b (install ∷ kept) kept ++ last ∷ []
one_more true install kept last = refl
one_more false install kept last = refl

-- the recent ones of the others, and the last
pub kept_for-push : (days : ℤ) (moment : ℕ) (front : List Install) (last : Install)
    → kept_for days moment (front ++ last ∷ []) ≡ filter (λ install. is_recent days moment install.at) front ++ last ∷ []
kept_for-push days moment [] last = refl
kept_for-push days moment (install ∷ front) last =
    let keep : Bool = is_recent days moment install.at in
    ap (λ b. cond (b || keep) (install ∷ []) [] ++ kept_for days moment (front ++ last ∷ [])) (not_last front last)
    ∙ ap (λ rest. cond keep (install ∷ []) [] ++ rest) (kept_for-push days moment front last)
    ∙ one_more keep install (filter (λ i. is_recent days moment i.at) front) last
