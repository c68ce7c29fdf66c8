-- The files of an index, counted one after the other. The key lemmas are count_start, count_more and count_end.
use Rattle.std.proofs.Common.{◌≡◌, ℕ, ◌+◌, min, List, [], ◌∷◌, ◌++◌, refl, sym, ap, ◌∙◌, arith, append_assoc, append-nil}
use Rattle.std.proofs.lemmas.List.Sums.{sum_by_push}
use Rattle.tree_model.specs.Path.{PathV}
use Rattle.local_index.specs.declared.index.Known.{Known}
use Rattle.sync_daemon.specs.FilesKnown.{file_count, files_in}

abbrev pub KnownEntry : Type 0
KnownEntry = PathV × Known

-- the first of the entries are counted, up to a limit
pub record CountsSo (all left : List KnownEntry) (files : ℕ) : Type 0 where
  pub done : List KnownEntry
  pub is : all ≡ done ++ left
  pub sum : files ≡ min (files_in done) 18446744073709551615

pub count_start : (all : List KnownEntry) → CountsSo all all 0
count_start all = record { done = []; is = refl; sum = refl }

pub count_more : (all left : List KnownEntry) (e : KnownEntry) (files now : ℕ) → CountsSo all (e ∷ left) files → now ≡ min (files + file_count e.1) 18446744073709551615 → CountsSo all left now
count_more all left e files now so is =
    let more = sum_by_push (λ (x : KnownEntry). file_count x.1) so.done e in
    let before = so.sum in
    record { done = so.done ++ e ∷ []; is = so.is ∙ sym (append_assoc so.done (e ∷ []) left); sum = omega (arith, more, before, is) }

pub count_end : (all : List KnownEntry) (files : ℕ) → CountsSo all [] files → files ≡ min (files_in all) 18446744073709551615
count_end all files so = so.sum ∙ ap (λ (es : List KnownEntry). min (files_in es) 18446744073709551615) (sym (so.is ∙ append-nil so.done))
