-- The first end of a chunk, from what the rolling hash finds.
use Rattle.std.proofs.Common.{◌≡◌, ℕ, ◌-◌, ◌/◌, ◌^◌, ◌<◌, ◌≤◌, ◌==◌, ◌||◌, Bool, true, false, List, length, take, drop, refl, sym, ap, ◌∙◌, arith, ◌⊎◌, ⊎_elim}
use Rattle.std.proofs.lemmas.Bool.{cases_lt, ne_eqb, eqb-true, false≢true, or_cases, false_from_ne_true, or_parts}
use Rattle.std.proofs.lemmas.List.{length-take-le}
use Rattle.block_chunker.specs.declared.cuts.Cuts.{Cuts}
use Rattle.block_chunker.specs.ChunkBoundaries.{window_hash, window, ends_in_cut}
use Rattle.block_chunker.specs.RollingHash.{IsFirstEnd}
use Rattle.block_chunker.proofs.RollingHashLemmas.{window-take}
use Rattle.block_chunker.proofs.ChunkBoundariesLemmas.{ends_in_cut-young, ends_in_cut-long}

pub or_of_true : (a b : Bool) → a ≡ true → a ≡ (a || b)
or_of_true true b e = refl
or_of_true false b e = absurd (false≢true e)

pub or_of_false : (a b : Bool) → a ≡ false → b ≡ (a || b)
or_of_false true b e = absurd (false≢true (sym e))
or_of_false false b e = refl

-- whether a beginning of the chunk ends in a cut, from the least length on
pub ends_in_cut-take : (cuts : Cuts) (bytes : List ℕ) (k : ℕ) → cuts.min ≤ k → k ≤ length bytes → ends_in_cut cuts (take k bytes) ≡ ((window_hash (window (take k bytes)) / 2 ^ cuts.shift == 0) || (k == cuts.max))
ends_in_cut-take cuts bytes k long fits =
    let size = length-take-le k bytes fits in
    ends_in_cut-long cuts (take k bytes) (omega arith) ∙ ap (λ n. (window_hash (window (take k bytes)) / 2 ^ cuts.shift == 0) || (n == cuts.max)) size

-- and below it
pub ends_in_cut-take_young : (cuts : Cuts) (bytes : List ℕ) (k : ℕ) → k < cuts.min → k ≤ length bytes → ends_in_cut cuts (take k bytes) ≡ false
ends_in_cut-take_young cuts bytes k short fits = ends_in_cut-young cuts (take k bytes) (omega (arith, length-take-le k bytes fits))

-- the first window that ends in a cut, or the greatest length, is the first end
pub IsFirstEnd-grown : (cuts : Cuts) (bytes : List ℕ) (from end : ℕ) (found is : Bool) → cuts.min ≤ from → from < cuts.max → length bytes ≤ cuts.max → IsFirstEnd (λ k. window_hash (window (take k bytes)) / 2 ^ cuts.shift == 0) from (length bytes) end found → is ≡ (found || (end == cuts.max)) → IsFirstEnd (λ k. ends_in_cut cuts (take k bytes)) from (length bytes) end is
IsFirstEnd-grown cuts bytes from end found is long short bounded h e = record {
  behind = h.behind;
  within = h.within;
  quiet = λ k p q. ends_in_cut-take cuts bytes k (omega arith) (omega (arith, h.within)) ∙ ap (λ b. b || (k == cuts.max)) (h.quiet k p q) ∙ ne_eqb k cuts.max (omega (arith, h.within));
  told = λ p. ends_in_cut-take cuts bytes end (omega arith) h.within ∙ ap (λ b. b || (end == cuts.max)) (h.told p) ∙ sym e;
  some = λ t. ⊎_elim h.some (λ full. omega (arith, eqb-true end cuts.max full)) (or_cases found (end == cuts.max) (sym e ∙ t));
  whole = λ t. h.whole (or_parts found (end == cuts.max) (sym e ∙ t)).0;
}

-- a first end behind a later place, where there is none up to it
pub IsFirstEnd-join : (test : ℕ → Bool) (from next len end : ℕ) (found : Bool) → from ≤ next → ((k : ℕ) → from < k → k ≤ next → test k ≡ false) → IsFirstEnd test next len end found → IsFirstEnd test from len end found
IsFirstEnd-join test from next len end found p none h = record {
  behind = omega (arith, h.behind);
  within = h.within;
  quiet = λ k a b. ⊎_elim (λ later. h.quiet k later b) (λ before. none k a before) (cases_lt next k);
  told = λ a. ⊎_elim h.told (λ before. none end a before ∙ sym (false_from_ne_true found (λ t. omega (arith, h.some t)))) (cases_lt next end);
  some = λ t. omega (arith, h.some t);
  whole = h.whole;
}

-- a chunk that stays below its least length has no end
pub IsFirstEnd-young : (cuts : Cuts) (bytes : List ℕ) (from to : ℕ) → from ≤ to → to ≡ length bytes → to < cuts.min → IsFirstEnd (λ k. ends_in_cut cuts (take k bytes)) from (length bytes) to false
IsFirstEnd-young cuts bytes from to p e short = record {
  behind = p;
  within = omega arith;
  quiet = λ k a b. ends_in_cut-take_young cuts bytes k (omega arith) (omega arith);
  told = λ a. ends_in_cut-take_young cuts bytes to short (omega arith);
  some = λ t. absurd (false≢true t);
  whole = λ t. e;
}

-- whether a chunk of the least length ends in a cut, by a hash that began with its window
pub ends_in_cut-least : (cuts : Cuts) (bytes : List ℕ) (to hash : ℕ) → to ≡ cuts.min → to ≤ length bytes → hash ≡ window_hash (drop (cuts.min - 48) (take to bytes)) → ends_in_cut cuts (take to bytes) ≡ ((hash / 2 ^ cuts.shift == 0) || (cuts.min == cuts.max))
ends_in_cut-least cuts bytes to hash e fits is =
    let same : window_hash (window (take to bytes)) ≡ hash = ap window_hash (window-take bytes to fits) ∙ ap (λ n. window_hash (drop (n - 48) (take to bytes))) e ∙ sym is in
    ends_in_cut-take cuts bytes to (omega arith) fits ∙ ap (λ h. (h / 2 ^ cuts.shift == 0) || (to == cuts.max)) same ∙ ap (λ n. (hash / 2 ^ cuts.shift == 0) || (n == cuts.max)) e

-- a cut at the least length is the first end
pub IsFirstEnd-least : (cuts : Cuts) (bytes : List ℕ) (from to : ℕ) → from < to → to ≡ cuts.min → to ≤ length bytes → ends_in_cut cuts (take to bytes) ≡ true → IsFirstEnd (λ k. ends_in_cut cuts (take k bytes)) from (length bytes) to true
IsFirstEnd-least cuts bytes from to p e fits cut = record {
  behind = omega arith;
  within = fits;
  quiet = λ k a b. ends_in_cut-take_young cuts bytes k (omega arith) (omega arith);
  told = λ a. cut;
  some = λ t. p;
  whole = λ t. absurd (false≢true (sym t));
}

-- no cut at the least length: the first end is the next one
pub IsFirstEnd-go_on : (cuts : Cuts) (bytes : List ℕ) (from to end : ℕ) (found : Bool) → from < to → to ≡ cuts.min → to ≤ length bytes → ends_in_cut cuts (take to bytes) ≡ false → IsFirstEnd (λ k. ends_in_cut cuts (take k bytes)) to (length bytes) end found → IsFirstEnd (λ k. ends_in_cut cuts (take k bytes)) from (length bytes) end found
IsFirstEnd-go_on cuts bytes from to end found p e fits uncut h =
    IsFirstEnd-join (λ k. ends_in_cut cuts (take k bytes)) from to (length bytes) end found (omega arith)
    (λ k a b. ⊎_elim (λ before. ends_in_cut-take_young cuts bytes k (omega arith) (omega arith)) (λ here. let same : k ≡ to = omega arith in ap (λ n. ends_in_cut cuts (take n bytes)) same ∙ uncut) (cases_lt k to))
    h

pub either_true : (a b : Bool) → (a ≡ true) ⊎ (b ≡ true) → (a || b) ≡ true
either_true true b h = refl
either_true false b h = ⊎_elim (λ e. absurd (false≢true e)) (λ e. e) h
