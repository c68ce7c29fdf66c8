-- A chunk that grows by the bytes of a piece, and what is left of the chunks behind it.
use Rattle.std.proofs.Common.{◌≡◌, ℕ, ◌+◌, ◌-◌, ◌<◌, ◌≤◌, Bool, true, false, List, [], ◌∷◌, ◌++◌, length, take, drop, refl, sym, ap, ◌∙◌, arith, ⊎_elim, Result, Ok, Err, OnErr}
use Rattle.std.proofs.lemmas.Bool.{cases_lt, false≢true}
use Rattle.std.proofs.lemmas.List.{length-take-le, length-append, take-take, take-append-drop, append-nil, take_at}
use Rattle.std.proofs.Math.Seq.{take-append-add}
use Rattle.block_chunker.specs.declared.cuts.Cuts.{Cuts}
use Rattle.block_chunker.specs.ChunkBoundaries.{ends_in_cut, finished_chunks, begun_after}
use Rattle.block_chunker.specs.ChunkerProgress.{GrowsBy, TakesSome, AppendsSome}
use Rattle.block_chunker.specs.RollingHash.{IsFirstEnd}
use Rattle.block_chunker.proofs.ChunkBoundariesLemmas.{ends_in_cut-full}
use Rattle.block_chunker.proofs.ChunkListLemmas.{IsQuiet, finished_chunks-quiet, begun_after-quiet, finished_chunks-cut, begun_after-cut}

-- the first end behind a chunk's bytes says how it grows by a piece's beginning
pub GrowsBy-from_end : (cuts : Cuts) (begun piece bytes grown : List ℕ) (from n end : ℕ) (found : Bool) → from ≡ length begun → 0 < n → n ≤ length piece → bytes ≡ begun ++ take n piece → grown ≡ take end bytes → IsFirstEnd (λ k. ends_in_cut cuts (take k bytes)) from (length bytes) end found → GrowsBy cuts begun grown piece (end - from) found
GrowsBy-from_end cuts begun piece bytes grown from n end found e some fits joined is h =
    let size : length bytes ≡ from + n = omega (arith, ap length joined, length-append begun (take n piece), length-take-le n piece fits) in
    let at : (j : ℕ) → j ≤ n → take (from + j) bytes ≡ begun ++ take j piece = λ j p.
    ap (take (from + j)) joined ∙ ap (λ m. take (m + j) (begun ++ take n piece)) e ∙ take-append-add begun (take n piece) j ∙ ap (λ x. begun ++ x) (take-take j n piece p) in
    let behind : from < end = end_behind found h.some h.whole size some in
    let whole : from + (end - from) ≡ end = omega arith in
    let here : take end bytes ≡ begun ++ take (end - from) piece = ap (λ m. take m bytes) (sym whole) ∙ at (end - from) (omega (arith, h.within)) in
    record {
      some = omega arith;
      within = omega (arith, h.within);
      joined = is ∙ here;
      quiet = λ k p q. ap (ends_in_cut cuts) (sym (at k (omega (arith, h.within)))) ∙ h.quiet (from + k) (omega arith) (omega arith);
      told = ap (ends_in_cut cuts) (sym here) ∙ h.told behind;
    }
  where
    end_behind : (b : Bool) → (b ≡ true → from < end) → (b ≡ false → end ≡ length bytes) → length bytes ≡ from + n → 0 < n → from < end
    end_behind true past all size some = past refl
    end_behind false past all size some = omega (arith, all refl)

-- a piece is what was taken of it and what is left
halves : (piece : List ℕ) (taken : ℕ) → piece ≡ take taken piece ++ drop taken piece
halves piece taken = sym (take-append-drop taken piece)

quiet_taken : (cuts : Cuts) (begun grown piece : List ℕ) (taken : ℕ) (finished : Bool) → GrowsBy cuts begun grown piece taken finished → IsQuiet cuts begun (take taken piece) taken
quiet_taken cuts begun grown piece taken finished h = λ k p q. ap (λ x. ends_in_cut cuts (begun ++ x)) (take-take k taken piece (omega arith)) ∙ h.quiet k p q

-- a chunk that goes on, and chunks that stay as they are
pub TakesSome-on : (cuts : Cuts) (begun grown piece : List ℕ) (chunks : List (List ℕ)) (taken : ℕ) → GrowsBy cuts begun grown piece taken false → TakesSome cuts begun grown piece chunks chunks taken
TakesSome-on cuts begun grown piece chunks taken h =
    let xs = take taken piece in
    let size = length-take-le taken piece h.within in
    let quiet : IsQuiet cuts begun xs (length xs + 1) = λ k p q.
    ⊎_elim (λ before. quiet_taken cuts begun grown piece taken false h k p before)
    (λ here. let same : k ≡ taken = omega (arith, size) in ap (λ x. ends_in_cut cuts (begun ++ x)) (take-take k taken piece (omega arith)) ∙ ap (λ n. ends_in_cut cuts (begun ++ take n piece)) same ∙ h.told)
    (cases_lt k taken) in
    record {
      some = h.some;
      within = h.within;
      done = [];
      appended = sym (append-nil chunks);
      finished = ap (λ x. finished_chunks cuts x (drop taken piece)) h.joined ∙ sym (finished_chunks-quiet cuts begun xs (drop taken piece) quiet) ∙ ap (finished_chunks cuts begun) (sym (halves piece taken));
      goes_on = ap (λ x. begun_after cuts x (drop taken piece)) h.joined ∙ sym (begun_after-quiet cuts begun xs (drop taken piece) quiet) ∙ ap (begun_after cuts begun) (sym (halves piece taken));
    }

-- a chunk that is finished and handed out
pub TakesSome-end : (cuts : Cuts) (begun grown none piece : List ℕ) (old new : List (List ℕ)) (taken : ℕ) → GrowsBy cuts begun grown piece taken true → none ≡ [] → new ≡ old ++ grown ∷ [] → TakesSome cuts begun none piece old new taken
TakesSome-end cuts begun grown none piece old new taken h empty handed =
    let xs = take taken piece in
    let size = length-take-le taken piece h.within in
    let some : 0 < length xs = omega (arith, size, h.some) in
    let quiet : IsQuiet cuts begun xs (length xs) = λ k p q. quiet_taken cuts begun grown piece taken true h k p (omega (arith, size)) in
    record {
      some = h.some;
      within = h.within;
      done = grown ∷ [];
      appended = handed;
      finished = ap (λ x. grown ∷ finished_chunks cuts x (drop taken piece)) empty ∙ ap (λ x. x ∷ finished_chunks cuts [] (drop taken piece)) h.joined ∙ sym (finished_chunks-cut cuts begun xs (drop taken piece) some quiet h.told) ∙ ap (finished_chunks cuts begun) (sym (halves piece taken));
      goes_on = ap (λ x. begun_after cuts x (drop taken piece)) empty ∙ sym (begun_after-cut cuts begun xs (drop taken piece) some quiet h.told) ∙ ap (begun_after cuts begun) (sym (halves piece taken));
    }

-- a chunk that goes on is shorter than the greatest length
pub GrowsBy-short : (cuts : Cuts) (begun grown piece : List ℕ) (taken : ℕ) → GrowsBy cuts begun grown piece taken false → length grown ≤ cuts.max → length grown < cuts.max
GrowsBy-short cuts begun grown piece taken h bound =
    ⊎_elim (λ short. short) (λ long. absurd (false≢true (sym (ap (ends_in_cut cuts) h.joined ∙ h.told) ∙ ends_in_cut-full cuts grown (omega arith)))) (cases_lt (length grown) cuts.max)

-- of all the chunks that end within a piece some were handed out, and the rest is to come
pub record HandsOut (old now rest all : List (List ℕ)) : Type 0 where
  pub done : List (List ℕ)
  pub appended : now ≡ old ++ done
  pub whole : done ++ rest ≡ all

-- so they are the first few of them
pub AppendsSome-from_HandsOut : (old now rest all : List (List ℕ)) → HandsOut old now rest all → AppendsSome old now all
AppendsSome-from_HandsOut old now rest all h =
    (length h.done, h.appended ∙ ap (λ x. old ++ x) (sym (ap (take (length h.done)) (sym h.whole) ∙ take_at h.done rest (length h.done) refl)))

-- at the end of a piece it is all of them
pub HandsOut-all : (cuts : Cuts) (begun left : List ℕ) (old now all : List (List ℕ)) → left ≡ [] → HandsOut old now (finished_chunks cuts begun left) all → now ≡ old ++ all
unfolding finished_chunks
HandsOut-all cuts begun left old now all e h =
    h.appended ∙ ap (λ x. old ++ x) (sym (append-nil h.done) ∙ ap (λ x. h.done ++ finished_chunks cuts begun x) (sym e) ∙ h.whole)

pub begun_after-none : (cuts : Cuts) (begun left : List ℕ) → left ≡ [] → begun_after cuts begun left ≡ begun
unfolding begun_after
begun_after-none cuts begun left e = ap (begun_after cuts begun) e

pub OnErr-any : {T E P : Type 0} (r : Result T E) → P → OnErr r P
OnErr-any (Ok x) p = tt
OnErr-any (Err e) p = p

pub OnErr-with : {T E : Type 0} (P : Type 0) (b : Bool) (r : Result T E) → b ≡ true → OnErr r P → OnErr r ((b ≡ true) × P)
OnErr-with P b (Ok x) e p = tt
OnErr-with P b (Err y) e p = (e, p)
