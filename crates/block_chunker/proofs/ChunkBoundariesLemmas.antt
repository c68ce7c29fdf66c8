-- Which chunks end in a cut, by their length, and which chunks a byte string has.
use Rattle.std.proofs.Common.{◌≡◌, ℕ, ◌/◌, ◌^◌, ◌<◌, ◌≤◌, ◌==◌, ◌||◌, ◌&&◌, true, false, List, length, ap, arith}
use Rattle.std.proofs.lemmas.Bool.Decides.{nat_tests}
use Rattle.std.proofs.lemmas.Bool.{le-leb}
use Rattle.block_chunker.specs.declared.cuts.Cuts.{Cuts}
use Rattle.block_chunker.specs.ChunkBoundaries.{window_hash, window, ends_in_cut}

-- a chunk below the least length ends in no cut
pub ends_in_cut-young : (cuts : Cuts) (chunk : List ℕ) → length chunk < cuts.min → ends_in_cut cuts chunk ≡ false
unfolding ends_in_cut
ends_in_cut-young cuts chunk short =
    let bound : cuts.min ≤ cuts.max = cuts.ordered in
    grind (arith, nat_tests)

-- one between both lengths by its window
pub ends_in_cut-grown : (cuts : Cuts) (chunk : List ℕ) → cuts.min ≤ length chunk → length chunk < cuts.max → ends_in_cut cuts chunk ≡ (window_hash (window chunk) / 2 ^ cuts.shift == 0)
unfolding ends_in_cut
ends_in_cut-grown cuts chunk long short = grind (arith, nat_tests)

-- one of the greatest length always
pub ends_in_cut-full : (cuts : Cuts) (chunk : List ℕ) → length chunk ≡ cuts.max → ends_in_cut cuts chunk ≡ true
unfolding ends_in_cut
ends_in_cut-full cuts chunk full = grind (arith, nat_tests)

-- from the least length on it goes by the window and the greatest length
pub ends_in_cut-long : (cuts : Cuts) (chunk : List ℕ) → cuts.min ≤ length chunk → ends_in_cut cuts chunk ≡ ((window_hash (window chunk) / 2 ^ cuts.shift == 0) || (length chunk == cuts.max))
unfolding ends_in_cut
ends_in_cut-long cuts chunk long =
    ap (λ b. (b && (window_hash (window chunk) / 2 ^ cuts.shift == 0)) || (length chunk == cuts.max)) (le-leb cuts.min (length chunk) long)
