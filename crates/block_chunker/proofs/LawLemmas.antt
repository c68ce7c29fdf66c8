-- The chunks follow the rule and are the only ones, do not depend on the pieces, and join to the bytes.
-- The key lemmas are AreChunks-chunks_of and chunks_of-unique.
use Rattle.std.proofs.Common.{◌≡◌, ◌≢◌, ℕ, ◌+◌, ◌<◌, ◌≤◌, Bool, true, false, List, [], ◌∷◌, ◌++◌, length, take, All, refl, sym, ap, ◌∙◌, subst, arith, ⊎_elim}
use Rattle.std.specs.List.{concat}
use Rattle.std.proofs.lemmas.Bool.{cases_lt, false≢true}
use Rattle.std.proofs.lemmas.List.{append_assoc, append-nil, length_push, take-append-le, take_all, length-take-le}
use Rattle.std.proofs.lemmas.List.Elements.{All-cons, All-nil}
use Rattle.block_chunker.specs.declared.cuts.Cuts.{Cuts}
use Rattle.block_chunker.specs.ChunkBoundaries.{ends_in_cut, HasNoCutBefore, IsNextChunk, IsLastChunk, AreChunks, none, last, next, finished_chunks, begun_after, last_chunk, chunks_of}
use Rattle.block_chunker.specs.ChunkerProgress.{Progress, after_piece, chunks_of_run}
use Rattle.block_chunker.proofs.ChunkBoundariesLemmas.{ends_in_cut-full, ends_in_cut-young}
use Rattle.block_chunker.proofs.ChunkListLemmas.{finished_chunks-on, finished_chunks-end, begun_after-on, begun_after-end, finished_chunks-quiet, begun_after-quiet, finished_chunks-cut, begun_after-cut, finished_chunks-append, begun_after-append}

-- the chunks of what has begun and of the bytes behind it
abbrev pub chunks_from : Cuts → List ℕ → List ℕ → List (List ℕ)
chunks_from cuts begun bytes = finished_chunks cuts begun bytes ++ last_chunk (begun_after cuts begun bytes)

-- a run from any progress
pub chunks_of_run-is : (progress : Progress) (pieces : List (List ℕ)) → chunks_of_run progress pieces ≡ chunks_from progress.cuts progress.begun (concat pieces)
unfolding chunks_of_run finished_chunks begun_after
chunks_of_run-is progress [] = refl
chunks_of_run-is progress (piece ∷ pieces) =
    let cuts = progress.cuts in
    let begun = progress.begun in
    let middle = begun_after cuts begun piece in
    let more = concat pieces in
    ap (λ cs. finished_chunks cuts begun piece ++ cs) (chunks_of_run-is (after_piece progress piece) pieces)
    ∙ sym (append_assoc (finished_chunks cuts begun piece) (finished_chunks cuts middle more) (last_chunk (begun_after cuts middle more)))
    ∙ ap (λ cs. cs ++ last_chunk (begun_after cuts middle more)) (sym (finished_chunks-append cuts begun piece more))
    ∙ ap (λ b. finished_chunks cuts begun (piece ++ more) ++ last_chunk b) (sym (begun_after-append cuts begun piece more))

-- a chunk without a cut is the last, where it has a byte
last_is : (cuts : Cuts) (begun : List ℕ) → HasNoCutBefore cuts begun (length begun + 1) → AreChunks cuts begun (last_chunk begun)
last_is cuts [] uncut = none
last_is cuts (b ∷ bytes) uncut = last (b ∷ bytes) (record { some = λ e. cc; uncut = uncut })

-- the beginnings of a chunk that grew by a byte
grown_before : (cuts : Cuts) (begun : List ℕ) (b : ℕ) → HasNoCutBefore cuts begun (length begun + 1) → HasNoCutBefore cuts (begun ++ b ∷ []) (length begun + 1)
grown_before cuts begun b uncut k p q = ap (ends_in_cut cuts) (take-append-le k begun (b ∷ []) (omega arith)) ∙ uncut k p q

grown_uncut : (cuts : Cuts) (begun : List ℕ) (b : ℕ) → HasNoCutBefore cuts begun (length begun + 1) → ends_in_cut cuts (begun ++ b ∷ []) ≡ false → HasNoCutBefore cuts (begun ++ b ∷ []) (length (begun ++ b ∷ []) + 1)
grown_uncut cuts begun b uncut e k p q =
    ⊎_elim (λ before. grown_before cuts begun b uncut k p before)
    (λ whole. ap (ends_in_cut cuts) (take_all k (begun ++ b ∷ []) (omega (arith, length_push begun b))) ∙ e)
    (cases_lt k (length begun + 1))

grown_next : (cuts : Cuts) (begun : List ℕ) (b : ℕ) → HasNoCutBefore cuts begun (length begun + 1) → ends_in_cut cuts (begun ++ b ∷ []) ≡ true → IsNextChunk cuts (begun ++ b ∷ [])
grown_next cuts begun b uncut e = record {
  some = λ none. omega (arith, length_push begun b, ap length none);
  ends = e;
  shortest = λ k p q. grown_before cuts begun b uncut k p (omega (arith, length_push begun b));
}

-- a byte that goes on with the chunk, and one that ends it
chunks_from-on : (cuts : Cuts) (begun : List ℕ) (b : ℕ) (bytes : List ℕ) → ends_in_cut cuts (begun ++ b ∷ []) ≡ false → chunks_from cuts begun (b ∷ bytes) ≡ chunks_from cuts (begun ++ b ∷ []) bytes
chunks_from-on cuts begun b bytes e =
    ap (λ cs. cs ++ last_chunk (begun_after cuts begun (b ∷ bytes))) (finished_chunks-on cuts begun b bytes e)
    ∙ ap (λ x. finished_chunks cuts (begun ++ b ∷ []) bytes ++ last_chunk x) (begun_after-on cuts begun b bytes e)

chunks_from-end : (cuts : Cuts) (begun : List ℕ) (b : ℕ) (bytes : List ℕ) → ends_in_cut cuts (begun ++ b ∷ []) ≡ true → chunks_from cuts begun (b ∷ bytes) ≡ (begun ++ b ∷ []) ∷ chunks_from cuts [] bytes
chunks_from-end cuts begun b bytes e =
    ap (λ cs. cs ++ last_chunk (begun_after cuts begun (b ∷ bytes))) (finished_chunks-end cuts begun b bytes e)
    ∙ ap (λ x. ((begun ++ b ∷ []) ∷ finished_chunks cuts [] bytes) ++ last_chunk x) (begun_after-end cuts begun b bytes e)

moved : (cuts : Cuts) (xs ys : List ℕ) (cs ds : List (List ℕ)) → xs ≡ ys → ds ≡ cs → AreChunks cuts xs cs → AreChunks cuts ys ds
moved cuts xs ys cs ds same_bytes same_chunks h = subst (λ x. AreChunks cuts x ds) same_bytes (subst (AreChunks cuts xs) (sym same_chunks) h)

follow_step : (cuts : Cuts) (begun : List ℕ) (b : ℕ) (bytes : List ℕ) (t : Bool) → ends_in_cut cuts (begun ++ b ∷ []) ≡ t → HasNoCutBefore cuts begun (length begun + 1) → AreChunks cuts bytes (chunks_from cuts [] bytes) → (HasNoCutBefore cuts (begun ++ b ∷ []) (length (begun ++ b ∷ []) + 1) → AreChunks cuts ((begun ++ b ∷ []) ++ bytes) (chunks_from cuts (begun ++ b ∷ []) bytes)) → AreChunks cuts (begun ++ b ∷ bytes) (chunks_from cuts begun (b ∷ bytes))
follow_step cuts begun b bytes true e uncut anew goes_on =
    moved cuts ((begun ++ b ∷ []) ++ bytes) (begun ++ b ∷ bytes) ((begun ++ b ∷ []) ∷ chunks_from cuts [] bytes) (chunks_from cuts begun (b ∷ bytes)) (append_assoc begun (b ∷ []) bytes) (chunks_from-end cuts begun b bytes e)
    (next (begun ++ b ∷ []) bytes (chunks_from cuts [] bytes) (grown_next cuts begun b uncut e) anew)
follow_step cuts begun b bytes false e uncut anew goes_on =
    moved cuts ((begun ++ b ∷ []) ++ bytes) (begun ++ b ∷ bytes) (chunks_from cuts (begun ++ b ∷ []) bytes) (chunks_from cuts begun (b ∷ bytes)) (append_assoc begun (b ∷ []) bytes) (chunks_from-on cuts begun b bytes e)
    (goes_on (grown_uncut cuts begun b uncut e))

-- the chunks of what has begun and of the bytes behind it follow the rule
chunks_from-follow : (cuts : Cuts) (begun bytes : List ℕ) → HasNoCutBefore cuts begun (length begun + 1) → AreChunks cuts (begun ++ bytes) (chunks_from cuts begun bytes)
unfolding finished_chunks begun_after
chunks_from-follow cuts begun [] uncut = subst (λ x. AreChunks cuts x (last_chunk begun)) (sym (append-nil begun)) (last_is cuts begun uncut)
chunks_from-follow cuts begun (b ∷ bytes) uncut =
    follow_step cuts begun b bytes (ends_in_cut cuts (begun ++ b ∷ [])) refl uncut
    (chunks_from-follow cuts [] bytes (λ k p q. absurd (omega arith)))
    (λ grown. chunks_from-follow cuts (begun ++ b ∷ []) bytes grown)

-- the chunks of a byte string follow the rule
pub AreChunks-chunks_of : (cuts : Cuts) (bytes : List ℕ) → AreChunks cuts bytes (chunks_of cuts bytes)
unfolding chunks_of
AreChunks-chunks_of cuts bytes = chunks_from-follow cuts [] bytes (λ k p q. absurd (omega arith))

last_chunk_some : (bytes : List ℕ) → bytes ≢ [] → last_chunk bytes ≡ bytes ∷ []
last_chunk_some [] some = absurd (some refl)
last_chunk_some (b ∷ bytes) some = refl

has_bytes : (bytes : List ℕ) → bytes ≢ [] → 0 < length bytes
has_bytes [] some = absurd (some refl)
has_bytes (b ∷ bytes) some = omega arith

-- bytes without a cut are one chunk
chunks_of-last : (cuts : Cuts) (bytes : List ℕ) → IsLastChunk cuts bytes → chunks_of cuts bytes ≡ bytes ∷ []
unfolding chunks_of finished_chunks begun_after
chunks_of-last cuts bytes h =
    ap (chunks_from cuts []) (sym (append-nil bytes))
    ∙ ap (λ cs. cs ++ last_chunk (begun_after cuts [] (bytes ++ []))) (finished_chunks-quiet cuts [] bytes [] h.uncut)
    ∙ ap last_chunk (begun_after-quiet cuts [] bytes [] h.uncut)
    ∙ last_chunk_some bytes h.some

-- the shortest beginning that ends in a cut is the first chunk
chunks_of-next : (cuts : Cuts) (chunk rest : List ℕ) → IsNextChunk cuts chunk → chunks_of cuts (chunk ++ rest) ≡ chunk ∷ chunks_of cuts rest
unfolding chunks_of
chunks_of-next cuts chunk rest h =
    let some = has_bytes chunk h.some in
    ap (λ cs. cs ++ last_chunk (begun_after cuts [] (chunk ++ rest))) (finished_chunks-cut cuts [] chunk rest some h.shortest h.ends)
    ∙ ap (λ x. (chunk ∷ finished_chunks cuts [] rest) ++ last_chunk x) (begun_after-cut cuts [] chunk rest some h.shortest h.ends)

-- the rule allows no other chunks
pub chunks_of-unique : (cuts : Cuts) {bytes : List ℕ} {chunks : List (List ℕ)} → AreChunks cuts bytes chunks → chunks ≡ chunks_of cuts bytes
unfolding chunks_of finished_chunks begun_after
chunks_of-unique cuts none = refl
chunks_of-unique cuts (last bytes h) = sym (chunks_of-last cuts bytes h)
chunks_of-unique cuts (next chunk rest chunks h more) = ap (λ cs. chunk ∷ cs) (chunks_of-unique cuts more) ∙ sym (chunks_of-next cuts chunk rest h)

-- chunks by the rule join to the bytes
pub concat-AreChunks : (cuts : Cuts) {bytes : List ℕ} {chunks : List (List ℕ)} → AreChunks cuts bytes chunks → concat chunks ≡ bytes
concat-AreChunks cuts none = refl
concat-AreChunks cuts (last bytes h) = append-nil bytes
concat-AreChunks cuts (next chunk rest chunks h more) = ap (λ x. chunk ++ x) (concat-AreChunks cuts more)

-- a chunk without an earlier cut has at most the greatest length
short_enough : (cuts : Cuts) (chunk : List ℕ) → HasNoCutBefore cuts chunk (length chunk) → length chunk ≤ cuts.max
short_enough cuts chunk uncut =
    ⊎_elim
    (λ long. absurd (false≢true (sym (uncut cuts.max (omega (arith, cuts.wide, cuts.ordered)) long) ∙ ends_in_cut-full cuts (take cuts.max chunk) (length-take-le cuts.max chunk (omega arith)))))
    (λ short. short)
    (cases_lt cuts.max (length chunk))

-- no chunk by the rule is empty or too long
pub AreChunks-bound : (cuts : Cuts) {bytes : List ℕ} {chunks : List (List ℕ)} → AreChunks cuts bytes chunks → All (λ chunk. (0 < length chunk) × (length chunk ≤ cuts.max)) chunks
AreChunks-bound cuts none = All-nil (λ (chunk : List ℕ). (0 < length chunk) × (length chunk ≤ cuts.max))
AreChunks-bound cuts (last bytes h) =
    All-cons (λ (chunk : List ℕ). (0 < length chunk) × (length chunk ≤ cuts.max)) bytes [] (has_bytes bytes h.some, short_enough cuts bytes (λ k p q. h.uncut k p (omega arith))) (All-nil (λ (chunk : List ℕ). (0 < length chunk) × (length chunk ≤ cuts.max)))
AreChunks-bound cuts (next chunk rest chunks h more) =
    All-cons (λ (chunk : List ℕ). (0 < length chunk) × (length chunk ≤ cuts.max)) chunk chunks (has_bytes chunk h.some, short_enough cuts chunk h.shortest) (AreChunks-bound cuts more)

-- a chunk that ends in a cut has at least the least length
long_enough : (cuts : Cuts) (chunk : List ℕ) → ends_in_cut cuts chunk ≡ true → cuts.min ≤ length chunk
long_enough cuts chunk e =
    ⊎_elim (λ short. absurd (false≢true (sym (ends_in_cut-young cuts chunk short) ∙ e))) (λ long. long) (cases_lt (length chunk) cuts.min)

-- so has each one that another follows
pub AreChunks-least : (cuts : Cuts) {bytes : List ℕ} {chunks : List (List ℕ)} (before : List (List ℕ)) (chunk follower : List ℕ) (after : List (List ℕ)) → AreChunks cuts bytes chunks → chunks ≡ before ++ chunk ∷ follower ∷ after → cuts.min ≤ length chunk
AreChunks-least cuts [] chunk follower after none e = cc
AreChunks-least cuts [] chunk follower after (last bytes h) e = cc
AreChunks-least cuts [] chunk follower after (next first rest chunks h more) e =
    let same : first ≡ chunk = cc in
    long_enough cuts chunk (ap (ends_in_cut cuts) (sym same) ∙ h.ends)
AreChunks-least cuts (c ∷ before) chunk follower after none e = cc
AreChunks-least cuts (c ∷ []) chunk follower after (last bytes h) e = cc
AreChunks-least cuts (c ∷ d ∷ before) chunk follower after (last bytes h) e = cc
AreChunks-least cuts (c ∷ before) chunk follower after (next first rest chunks h more) e =
    let same : chunks ≡ before ++ chunk ∷ follower ∷ after = cc in
    AreChunks-least cuts before chunk follower after more same
