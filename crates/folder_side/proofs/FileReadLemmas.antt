-- A file that is read piece by piece: what its chunker and the names say of the bytes so far.
use Rattle.std.proofs.Common.{◌≡◌, ℕ, ◌+◌, ◌≤◌, List, [], ◌++◌, length, take, drop, map, sym, ap, ◌∙◌, arith, subst, Option, Some}
use Rattle.std.proofs.lemmas.List.{map-append, length-drop, take_all}
use Rattle.std.proofs.Math.Seq.{take-add}
use Rattle.sha1.specs.Sha1.{sha1}
use Rattle.block_chunker.specs.declared.cuts.Cuts.{Cuts}
use Rattle.block_chunker.specs.ChunkBoundaries.{chunks_of, finished_chunks, begun_after, last_chunk}
use Rattle.block_chunker.specs.ChunkerProgress.{Progress, start_of, after_piece, finished_by}
use Rattle.block_chunker.proofs.ChunkListLemmas.{finished_chunks-append, begun_after-append}
use Rattle.folder_side.specs.declared.file_reader.Reading.{Reading}
use Rattle.folder_side.specs.FileRead.{IsBehind}
use Rattle.folder_side.specs.Folder.{IsPart, PartAt}
use Rattle.folder_side.specs.declared.holding.Holding.{Holding}
use Rattle.folder_side.specs.declared.holding.Holding.TheVariants.{File}

abbrev pub reading_at : Progress → List (List ℕ) → ℕ → Reading
reading_at chunker names place = record { chunker = chunker; names = names; place = place }

-- at the start
pub IsBehind-start : (cuts : Cuts) (bytes : List ℕ) (chunker : Progress) (names : List (List ℕ)) → chunker ≡ start_of cuts → names ≡ [] → IsBehind cuts bytes (reading_at chunker names 0)
unfolding finished_chunks begun_after
IsBehind-start cuts bytes chunker names e f = record { within = omega arith; begun = e; named = f }

-- one piece on
pub IsBehind-more : (cuts : Cuts) (bytes into : List ℕ) (place count : ℕ) (before after : Progress) (had has : List (List ℕ)) → IsBehind cuts bytes (reading_at before had place) → IsPart bytes place count into → after ≡ after_piece before (take count into) → has ≡ had ++ map sha1 (finished_by before (take count into)) → IsBehind cuts bytes (reading_at after has (place + count))
IsBehind-more cuts bytes into place count before after had has h part e f =
    let front = take place bytes in
    let piece = take count (drop place bytes) in
    let joined : take (place + count) bytes ≡ front ++ piece = take-add place count bytes in
    let start = start_of cuts in
    record {
      within = omega (arith, part.inside, length-drop place bytes, h.within);
      begun =
          e ∙ ap (after_piece before) part.same ∙ ap (λ p. after_piece p piece) h.begun
          ∙ ap (λ b. record start { begun = b }) (sym (begun_after-append cuts [] front piece))
          ∙ ap (after_piece start) (sym joined);
      named =
          f ∙ ap (λ names. names ++ map sha1 (finished_by before (take count into))) h.named
          ∙ ap (λ x. map sha1 (finished_by start front) ++ map sha1 (finished_by before x)) part.same
          ∙ ap (λ p. map sha1 (finished_by start front) ++ map sha1 (finished_by p piece)) h.begun
          ∙ sym (map-append sha1 (finished_by start front) (finished_chunks cuts (begun_after cuts [] front) piece))
          ∙ ap (map sha1) (sym (finished_chunks-append cuts [] front piece))
          ∙ ap (λ x. map sha1 (finished_by start x)) (sym joined);
    }

-- at the end
pub IsBehind-end : (cuts : Cuts) (bytes into : List ℕ) (place count : ℕ) (chunker : Progress) (names blocks : List (List ℕ)) → IsBehind cuts bytes (reading_at chunker names place) → IsPart bytes place count into → count ≡ 0 → blocks ≡ names ++ map sha1 (last_chunk chunker.begun) → (blocks ≡ map sha1 (chunks_of cuts bytes)) × (place ≡ length bytes)
unfolding chunks_of
IsBehind-end cuts bytes into place count chunker names blocks h part none e =
    let over : length bytes ≤ place = omega (arith, length-drop place bytes, ap length (part.ends.0 none)) in
    let whole : take place bytes ≡ bytes = take_all place bytes over in
    let start = start_of cuts in (
      e ∙ ap (λ ns. ns ++ map sha1 (last_chunk chunker.begun)) h.named
          ∙ ap (λ p. map sha1 (finished_by start (take place bytes)) ++ map sha1 (last_chunk p.begun)) h.begun
          ∙ sym (map-append sha1 (finished_by start (take place bytes)) (last_chunk (begun_after cuts [] (take place bytes))))
          ∙ ap (λ x. map sha1 (finished_chunks cuts [] x ++ last_chunk (begun_after cuts [] x))) whole,
      omega (arith, h.within),
    )

-- what a read says where a file with these bytes is there
pub IsPart-at : (held : Option Holding) (bytes into : List ℕ) (place count : ℕ) → held ≡ Some (File bytes) → PartAt held place count into → IsPart bytes place count into
IsPart-at held bytes into place count is part = subst (λ here. PartAt here place count into) is part
