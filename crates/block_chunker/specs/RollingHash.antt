-- What the rolling hash holds at any place of a chunk. Read ChunkBoundaries first.
use Rattle.std.specs.Prelude.{◌≡◌, ℕ, ◌-◌, ◌<◌, ◌≤◌, Bool, true, false, List, length, drop, max}
use Rattle.block_chunker.specs.ChunkBoundaries.{window_hash}

-- what the ones that are added to 48 bytes make of a hash, modulo 2^64
abbrev pub ones : ℕ
ones = 17128602639275940368

-- the bytes of a chunk that are in its hash: its window, but nothing before the first window that can end in a cut
abbrev pub hashed : ℕ → List ℕ → List ℕ
hashed least chunk = drop (max (length chunk) least - 48) chunk

-- the hash of a chunk of which the least length is `least`
abbrev pub chunk_hash : ℕ → List ℕ → ℕ
chunk_hash least chunk = window_hash (hashed least chunk)

-- `end` is the first place behind `from` that passes the test, or else all of the `len` places
pub record IsFirstEnd (test : ℕ → Bool) (from len end : ℕ) (found : Bool) : Type 0 where
  pub behind : from ≤ end
  pub within : end ≤ len
  pub quiet : (k : ℕ) → from < k → k < end → test k ≡ false
  pub told : from < end → test end ≡ found
  pub some : found ≡ true → from < end
  pub whole : found ≡ false → end ≡ len
