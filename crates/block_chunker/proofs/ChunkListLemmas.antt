-- The chunks that end within bytes: behind bytes without a cut, behind a cut, and of two byte strings joined.
-- The key lemmas are finished_chunks-quiet, finished_chunks-cut and finished_chunks-append.
use Rattle.std.proofs.Common.{◌≡◌, ℕ, ◌+◌, ◌<◌, true, false, cond, List, [], ◌∷◌, ◌++◌, length, take, refl, sym, ap, ◌∙◌, arith, suc}
use Rattle.std.proofs.lemmas.List.{append_assoc, append-nil}
use Rattle.block_chunker.specs.declared.cuts.Cuts.{Cuts}
use Rattle.block_chunker.specs.ChunkBoundaries.{ends_in_cut, finished_chunk, unfinished_chunk, finished_chunks, begun_after}

-- of the beginnings of `more` with fewer than n bytes, none ends the chunk
abbrev pub IsQuiet : Cuts → List ℕ → List ℕ → ℕ → Type 0
IsQuiet cuts begun more n = (k : ℕ) → 0 < k → k < n → ends_in_cut cuts (begun ++ take k more) ≡ false

-- one byte on
quiet_tail : (cuts : Cuts) (begun : List ℕ) (b : ℕ) (more : List ℕ) (n : ℕ) → IsQuiet cuts begun (b ∷ more) (n + 1) → IsQuiet cuts (begun ++ b ∷ []) more n
quiet_tail cuts begun b more n quiet = λ k p q. ap (ends_in_cut cuts) (append_assoc begun (b ∷ []) (take k more)) ∙ quiet (suc k) (omega arith) (omega arith)

-- a byte that ends no chunk, and one that does
pub finished_chunks-on : (cuts : Cuts) (begun : List ℕ) (b : ℕ) (bytes : List ℕ) → ends_in_cut cuts (begun ++ b ∷ []) ≡ false → finished_chunks cuts begun (b ∷ bytes) ≡ finished_chunks cuts (begun ++ b ∷ []) bytes
unfolding finished_chunks
finished_chunks-on cuts begun b bytes e = ap (λ t. cond t ((begun ++ b ∷ []) ∷ []) [] ++ finished_chunks cuts (cond t [] (begun ++ b ∷ [])) bytes) e

pub finished_chunks-end : (cuts : Cuts) (begun : List ℕ) (b : ℕ) (bytes : List ℕ) → ends_in_cut cuts (begun ++ b ∷ []) ≡ true → finished_chunks cuts begun (b ∷ bytes) ≡ (begun ++ b ∷ []) ∷ finished_chunks cuts [] bytes
unfolding finished_chunks
finished_chunks-end cuts begun b bytes e = ap (λ t. cond t ((begun ++ b ∷ []) ∷ []) [] ++ finished_chunks cuts (cond t [] (begun ++ b ∷ [])) bytes) e

pub begun_after-on : (cuts : Cuts) (begun : List ℕ) (b : ℕ) (bytes : List ℕ) → ends_in_cut cuts (begun ++ b ∷ []) ≡ false → begun_after cuts begun (b ∷ bytes) ≡ begun_after cuts (begun ++ b ∷ []) bytes
unfolding begun_after
begun_after-on cuts begun b bytes e = ap (λ t. begun_after cuts (cond t [] (begun ++ b ∷ [])) bytes) e

pub begun_after-end : (cuts : Cuts) (begun : List ℕ) (b : ℕ) (bytes : List ℕ) → ends_in_cut cuts (begun ++ b ∷ []) ≡ true → begun_after cuts begun (b ∷ bytes) ≡ begun_after cuts [] bytes
unfolding begun_after
begun_after-end cuts begun b bytes e = ap (λ t. begun_after cuts (cond t [] (begun ++ b ∷ [])) bytes) e

-- bytes without a cut only lengthen the chunk
pub finished_chunks-quiet : (cuts : Cuts) (begun xs ys : List ℕ) → IsQuiet cuts begun xs (length xs + 1) → finished_chunks cuts begun (xs ++ ys) ≡ finished_chunks cuts (begun ++ xs) ys
finished_chunks-quiet cuts begun [] ys quiet = ap (λ x. finished_chunks cuts x ys) (sym (append-nil begun))
finished_chunks-quiet cuts begun (b ∷ xs) ys quiet =
    finished_chunks-on cuts begun b (xs ++ ys) (quiet 1 (omega arith) (omega arith))
    ∙ finished_chunks-quiet cuts (begun ++ b ∷ []) xs ys (quiet_tail cuts begun b xs (length xs + 1) (λ k p q. quiet k p (omega arith)))
    ∙ ap (λ x. finished_chunks cuts x ys) (append_assoc begun (b ∷ []) xs)

pub begun_after-quiet : (cuts : Cuts) (begun xs ys : List ℕ) → IsQuiet cuts begun xs (length xs + 1) → begun_after cuts begun (xs ++ ys) ≡ begun_after cuts (begun ++ xs) ys
begun_after-quiet cuts begun [] ys quiet = ap (λ x. begun_after cuts x ys) (sym (append-nil begun))
begun_after-quiet cuts begun (b ∷ xs) ys quiet =
    begun_after-on cuts begun b (xs ++ ys) (quiet 1 (omega arith) (omega arith))
    ∙ begun_after-quiet cuts (begun ++ b ∷ []) xs ys (quiet_tail cuts begun b xs (length xs + 1) (λ k p q. quiet k p (omega arith)))
    ∙ ap (λ x. begun_after cuts x ys) (append_assoc begun (b ∷ []) xs)

-- bytes whose first cut is at their end finish the chunk
pub finished_chunks-cut : (cuts : Cuts) (begun xs ys : List ℕ) → 0 < length xs → IsQuiet cuts begun xs (length xs) → ends_in_cut cuts (begun ++ xs) ≡ true → finished_chunks cuts begun (xs ++ ys) ≡ (begun ++ xs) ∷ finished_chunks cuts [] ys
finished_chunks-cut cuts begun [] ys some quiet cut = absurd (omega arith)
finished_chunks-cut cuts begun (b ∷ []) ys some quiet cut = finished_chunks-end cuts begun b ys cut
finished_chunks-cut cuts begun (b ∷ c ∷ xs) ys some quiet cut =
    finished_chunks-on cuts begun b ((c ∷ xs) ++ ys) (quiet 1 (omega arith) (omega arith))
    ∙ finished_chunks-cut cuts (begun ++ b ∷ []) (c ∷ xs) ys (omega arith) (quiet_tail cuts begun b (c ∷ xs) (length (c ∷ xs)) (λ k p q. quiet k p (omega arith))) (ap (ends_in_cut cuts) (append_assoc begun (b ∷ []) (c ∷ xs)) ∙ cut)
    ∙ ap (λ x. x ∷ finished_chunks cuts [] ys) (append_assoc begun (b ∷ []) (c ∷ xs))

pub begun_after-cut : (cuts : Cuts) (begun xs ys : List ℕ) → 0 < length xs → IsQuiet cuts begun xs (length xs) → ends_in_cut cuts (begun ++ xs) ≡ true → begun_after cuts begun (xs ++ ys) ≡ begun_after cuts [] ys
begun_after-cut cuts begun [] ys some quiet cut = absurd (omega arith)
begun_after-cut cuts begun (b ∷ []) ys some quiet cut = begun_after-end cuts begun b ys cut
begun_after-cut cuts begun (b ∷ c ∷ xs) ys some quiet cut =
    begun_after-on cuts begun b ((c ∷ xs) ++ ys) (quiet 1 (omega arith) (omega arith))
    ∙ begun_after-cut cuts (begun ++ b ∷ []) (c ∷ xs) ys (omega arith) (quiet_tail cuts begun b (c ∷ xs) (length (c ∷ xs)) (λ k p q. quiet k p (omega arith))) (ap (ends_in_cut cuts) (append_assoc begun (b ∷ []) (c ∷ xs)) ∙ cut)

-- two byte strings joined
pub begun_after-append : (cuts : Cuts) (begun xs ys : List ℕ) → begun_after cuts begun (xs ++ ys) ≡ begun_after cuts (begun_after cuts begun xs) ys
unfolding begun_after
begun_after-append cuts begun [] ys = refl
begun_after-append cuts begun (b ∷ xs) ys = begun_after-append cuts (unfinished_chunk cuts (begun ++ b ∷ [])) xs ys

pub finished_chunks-append : (cuts : Cuts) (begun xs ys : List ℕ) → finished_chunks cuts begun (xs ++ ys) ≡ finished_chunks cuts begun xs ++ finished_chunks cuts (begun_after cuts begun xs) ys
unfolding finished_chunks begun_after
finished_chunks-append cuts begun [] ys = refl
finished_chunks-append cuts begun (b ∷ xs) ys =
    let grown = begun ++ b ∷ [] in
    ap (λ cs. finished_chunk cuts grown ++ cs) (finished_chunks-append cuts (unfinished_chunk cuts grown) xs ys)
    ∙ sym (append_assoc (finished_chunk cuts grown) (finished_chunks cuts (unfinished_chunk cuts grown) xs) (finished_chunks cuts (begun_after cuts (unfinished_chunk cuts grown) xs) ys))
