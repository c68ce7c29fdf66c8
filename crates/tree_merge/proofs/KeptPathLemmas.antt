-- The paths below directories that are kept, counted one after the other. The key lemmas are count_start, count_more and count_end.
use Rattle.std.proofs.Common.{◌≡◌, ℕ, ◌+◌, min, List, [], ◌∷◌, ◌++◌, refl, sym, ap, ◌∙◌, arith, append_assoc, append-nil}
use Rattle.std.proofs.lemmas.List.Sums.{sum_by_push}
use Rattle.std.specs.List.{sum_by}
use Rattle.tree_model.specs.Path.{PathV}
use Rattle.tree_merge.specs.declared.opening.Kept.{Kept}

abbrev pub KeptEntry : Type 0
KeptEntry = PathV × Kept

abbrev pub paths_in : List KeptEntry → ℕ
paths_in es = sum_by (λ (e : KeptEntry). e.1.paths) es

-- the first of the entries are counted, up to a limit
pub record CountsSo (all left : List KeptEntry) (paths : ℕ) : Type 0 where
  pub done : List KeptEntry
  pub is : all ≡ done ++ left
  pub sum : paths ≡ min (paths_in done) 18446744073709551615

pub count_start : (all : List KeptEntry) → CountsSo all all 0
count_start all = record { done = []; is = refl; sum = refl }

pub count_more : (all left : List KeptEntry) (e : KeptEntry) (paths now : ℕ) → CountsSo all (e ∷ left) paths → now ≡ min (paths + e.1.paths) 18446744073709551615 → CountsSo all left now
count_more all left e paths now so is =
    let more = sum_by_push (λ (x : KeptEntry). x.1.paths) so.done e in
    let before = so.sum in
    record { done = so.done ++ e ∷ []; is = so.is ∙ sym (append_assoc so.done (e ∷ []) left); sum = omega (arith, more, before, is) }

pub count_end : (all : List KeptEntry) (paths : ℕ) → CountsSo all [] paths → paths ≡ min (paths_in all) 18446744073709551615
count_end all paths so = so.sum ∙ ap (λ (es : List KeptEntry). min (paths_in es) 18446744073709551615) (sym (so.is ∙ append-nil so.done))
