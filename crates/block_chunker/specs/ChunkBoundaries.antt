-- Where a chunk ends, and the chunks of a byte string. Our own rule, docs/FORMATS.md "Chunk boundaries".
-- Read window_hash, ends_in_cut and AreChunks first. chunks_of is the one list of which AreChunks holds.
use Rattle.std.specs.Prelude.{◌≡◌, ◌≢◌, ℕ, ◌+◌, ◌-◌, ◌*◌, ◌/◌, ◌%◌, ◌^◌, ◌<◌, Bool, true, false, ◌&&◌, ◌||◌, ◌==◌, nat_le, if◌then◌else◌, List, [], ◌∷◌, ◌++◌, length, take, drop, Option, None, Some}
use Rattle.std.specs.Option.{option_to_list}
use Rattle.block_chunker.specs.declared.cuts.Cuts.{Cuts}

-- the multiplier of the hash
abbrev pub multiplier : ℕ
multiplier = 6364136223846793005

-- each byte and one, times the multiplier to the power of the number of bytes behind it, summed
abbrev pub window_sum : List ℕ → ℕ
window_sum [] = 0
window_sum (b ∷ bytes) = (b + 1) * multiplier ^ length bytes + window_sum bytes

-- the hash of a window is that sum, modulo 2^64
unfoldable pub window_hash : List ℕ → ℕ
window_hash bytes = window_sum bytes % 2 ^ 64

-- the window at the end of a chunk: its last 48 bytes
abbrev pub window : List ℕ → List ℕ
window chunk = drop (length chunk - 48) chunk

-- A chunk ends in a cut where it has at least `min` bytes and its window's hash is 0 but for the low
-- `shift` bits, or where it has `max` bytes
unfoldable pub ends_in_cut : Cuts → List ℕ → Bool
ends_in_cut cuts chunk = (nat_le cuts.min (length chunk) && (window_hash (window chunk) / 2 ^ cuts.shift == 0)) || (length chunk == cuts.max)

-- no beginning of these bytes, of more than none and fewer than n of them, ends in a cut
abbrev pub HasNoCutBefore : Cuts → List ℕ → ℕ → Type 0
HasNoCutBefore cuts bytes n = (k : ℕ) → 0 < k → k < n → ends_in_cut cuts (take k bytes) ≡ false

-- a chunk that goes to a cut, and has none before
pub record IsNextChunk (cuts : Cuts) (chunk : List ℕ) : Type 0 where
  pub some : chunk ≢ []
  pub ends : ends_in_cut cuts chunk ≡ true
  pub shortest : HasNoCutBefore cuts chunk (length chunk)

-- a last chunk: some bytes, and no cut in them
pub record IsLastChunk (cuts : Cuts) (bytes : List ℕ) : Type 0 where
  pub some : bytes ≢ []
  pub uncut : HasNoCutBefore cuts bytes (length bytes + 1)

-- The chunks of some bytes. Cut after cut: a chunk goes to the first place after its start that is a cut, where there is one;
-- else it goes to the end
pub data AreChunks (cuts : Cuts) : List ℕ → List (List ℕ) → Type 0 where
  none : AreChunks cuts [] []
  last : (bytes : List ℕ) → IsLastChunk cuts bytes → AreChunks cuts bytes (bytes ∷ [])
  next : (chunk rest : List ℕ) (chunks : List (List ℕ)) → IsNextChunk cuts chunk → AreChunks cuts rest chunks → AreChunks cuts (chunk ++ rest) (chunk ∷ chunks)

-- a chunk that grew by one byte is finished at a cut, and otherwise goes on
abbrev pub finished_chunk : Cuts → List ℕ → List (List ℕ)
finished_chunk cuts chunk = if ends_in_cut cuts chunk then (chunk ∷ []) else []

abbrev pub unfinished_chunk : Cuts → List ℕ → List ℕ
unfinished_chunk cuts chunk = if ends_in_cut cuts chunk then [] else chunk

-- the chunks that end within these bytes, where the first of them has begun with the bytes `begun`
unfoldable pub finished_chunks : Cuts → List ℕ → List ℕ → List (List ℕ)
finished_chunks cuts begun [] = []
finished_chunks cuts begun (b ∷ bytes) = finished_chunk cuts (begun ++ b ∷ []) ++ finished_chunks cuts (unfinished_chunk cuts (begun ++ b ∷ [])) bytes

-- the bytes of the chunk that goes on behind them
unfoldable pub begun_after : Cuts → List ℕ → List ℕ → List ℕ
begun_after cuts begun [] = begun
begun_after cuts begun (b ∷ bytes) = begun_after cuts (unfinished_chunk cuts (begun ++ b ∷ [])) bytes

-- what has begun is the last chunk, where it has a byte
abbrev pub unfinished_of : List ℕ → Option (List ℕ)
unfinished_of [] = None
unfinished_of (b ∷ bytes) = Some (b ∷ bytes)

abbrev pub last_chunk : List ℕ → List (List ℕ)
last_chunk begun = option_to_list (unfinished_of begun)

-- the chunks of a byte string
unfoldable pub chunks_of : Cuts → List ℕ → List (List ℕ)
chunks_of cuts bytes = finished_chunks cuts [] bytes ++ last_chunk (begun_after cuts [] bytes)
