-- How far a chunker has come, and what a run of calls gives. Read ChunkBoundaries first, then Progress.
use Rattle.std.specs.Prelude.{◌≡◌, ℕ, ◌<◌, ◌≤◌, Bool, false, List, [], ◌∷◌, ◌++◌, length, take, drop}
use Rattle.block_chunker.specs.declared.cuts.Cuts.{Cuts}
use Rattle.block_chunker.specs.ChunkBoundaries.{ends_in_cut, finished_chunks, begun_after, last_chunk}

-- a chunker: where it cuts, the bytes of the chunk that goes on, and whether it wanted for memory once
pub record Progress : Type 0 where
  pub cuts : Cuts
  pub begun : List ℕ
  pub failed : Bool

-- no byte has come yet
abbrev pub start_of : Cuts → Progress
start_of cuts = record { cuts = cuts; begun = []; failed = false }

-- the progress behind a piece
abbrev pub after_piece : Progress → List ℕ → Progress
after_piece progress piece = record { cuts = progress.cuts; begun = begun_after progress.cuts progress.begun piece; failed = progress.failed }

-- the chunks that end within a piece
abbrev pub finished_by : Progress → List ℕ → List (List ℕ)
finished_by progress piece = finished_chunks progress.cuts progress.begun piece

-- the new list is the old one with some of these at its end, from the first on
abbrev pub AppendsSome : List (List ℕ) → List (List ℕ) → List (List ℕ) → Type 0
AppendsSome old new more = (n : ℕ) × (new ≡ old ++ take n more)

-- every chunk that a run gives: of each piece in turn, and the last one of `finish`
unfoldable pub chunks_of_run : Progress → List (List ℕ) → List (List ℕ)
chunks_of_run progress [] = last_chunk progress.begun
chunks_of_run progress (piece ∷ pieces) = finished_by progress piece ++ chunks_of_run (after_piece progress piece) pieces

-- A chunk that had begun grew by the first `taken` bytes of a piece, no further than to its first end, and whether
-- it is finished there
pub record GrowsBy (cuts : Cuts) (begun grown piece : List ℕ) (taken : ℕ) (finished : Bool) : Type 0 where
  pub some : 0 < taken
  pub within : taken ≤ length piece
  pub joined : grown ≡ begun ++ take taken piece
  pub quiet : (k : ℕ) → 0 < k → k < taken → ends_in_cut cuts (begun ++ take k piece) ≡ false
  pub told : ends_in_cut cuts (begun ++ take taken piece) ≡ finished

-- The first `taken` bytes of a piece went into the chunk or finished it, and what is left of the piece gives what
-- is left of the chunks
pub record TakesSome (cuts : Cuts) (begun grown piece : List ℕ) (old new : List (List ℕ)) (taken : ℕ) : Type 0 where
  pub some : 0 < taken
  pub within : taken ≤ length piece
  pub done : List (List ℕ)
  pub appended : new ≡ old ++ done
  pub finished : done ++ finished_chunks cuts grown (drop taken piece) ≡ finished_chunks cuts begun piece
  pub goes_on : begun_after cuts grown (drop taken piece) ≡ begun_after cuts begun piece
