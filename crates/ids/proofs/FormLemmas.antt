-- How far a text begins one of a form. The key lemma is longest_by_places; IsOf-from_longest and longest-IsOf tie the
-- length of the longest beginning to having the form.
use Rattle.std.proofs.Common.{◌≡◌, ℕ, ◌+◌, ◌-◌, ◌<◌, ◌≤◌, ◌⊎◌, inl, inr, List, [], ◌++◌, length, get_or, take, map, IsTrue, false, true≢false, sym, ◌∙◌, arith, length-append}
use Rattle.std.proofs.lemmas.Bool.{cases_lt}
use Rattle.std.proofs.lemmas.List.{get_or_append_left, get_or-append_right, get_or-take, length-take-le, take_all, append-nil}
use Rattle.std.proofs.lemmas.List.FromFn.{get_or-map-range_with_len, length-map-range_with_len}
use Rattle.std.specs.List.{range_with_len}
use Rattle.ids.specs.Form.{Form, IsOf, Begins, IsLongestBeginning}

-- the first n characters are allowed
pub record AllowsFront (form : Form) (text : List ℕ) (n : ℕ) : Type 0 where
  pub each : (k : ℕ) → k < n → IsTrue (form.allows k (get_or text k 0))

-- why no longer prefix begins a text of the form
pub data Stops (form : Form) (text : List ℕ) (n : ℕ) : Type 0 where
  at_end : n ≡ length text → Stops form text n
  at_size : n ≡ form.size → Stops form text n
  at_other : form.allows n (get_or text n 0) ≡ false → Stops form text n

-- the characters from place n on, at each place one that is allowed
fillers : Form → (ℕ → ℕ) → ℕ → List ℕ
fillers form filler n = map filler (range_with_len n (form.size - n))

IsOf-fillers : (form : Form) (filler : ℕ → ℕ) → ((k : ℕ) → k < form.size → IsTrue (form.allows k (filler k)))
    → (text : List ℕ) (n : ℕ) → n ≤ length text → n ≤ form.size → AllowsFront form text n
    → IsOf form (take n text ++ fillers form filler n)
unfolding fillers
IsOf-fillers form filler fills text n within short front =
    let size : length (take n text) ≡ n = length-take-le n text within in
    record {
      whole = omega (arith, length-append (take n text) (fillers form filler n), size, length-map-range_with_len filler n (form.size - n));
      each = λ k h. elim (cases_lt k n) [
        | inl below ↦
            let inside : k < length (take n text) = omega (arith, size) in
            rw (get_or_append_left (take n text) (fillers form filler n) 0 k inside, get_or-take n text k 0 below) (front.each k below)
        | inr above ↦
            let place : n + (k - n) ≡ k = omega arith in
            rw (get_or-append_right (take n text) (fillers form filler n) n k 0 size above, get_or-map-range_with_len filler n (form.size - n) (k - n) k 0 (omega arith) place) (fills k h)
      ];
    }

-- a text of the form that begins with m characters allows each of them
begun : (form : Form) (text : List ℕ) (m n : ℕ) → m ≤ length text → Begins form (take m text) → n < m
    → (n < form.size) × IsTrue (form.allows n (get_or text n 0))
begun form text m n within b below =
    let size : length (take m text) ≡ m = length-take-le m text within in
    let inside : n < length (take m text) = omega (arith, size) in
    let long : n < form.size = omega (arith, length-append (take m text) b.0, size, b.1.whole) in
    let there = b.1.each n long in
    (long, rw (get_or_append_left (take m text) b.0 0 n inside, get_or-take m text n 0 below) at there)

no_more : (form : Form) (text : List ℕ) (n m : ℕ) → Stops form text n → m ≤ length text → Begins form (take m text) → n < m → m ≤ n
no_more form text n m (at_end e) within b below = omega (arith, e)
no_more form text n m (at_size e) within b below = let p = begun form text m n within b below in absurd (omega (arith, e, p.0))
no_more form text n m (at_other e) within b below = let p = begun form text m n within b below in absurd (true≢false (sym p.1 ∙ e))

pub longest_by_places : (form : Form) (filler : ℕ → ℕ) → ((k : ℕ) → k < form.size → IsTrue (form.allows k (filler k)))
    → (text : List ℕ) (n : ℕ) → n ≤ length text → n ≤ form.size → AllowsFront form text n → Stops form text n
    → IsLongestBeginning form text n
longest_by_places form filler fills text n within short front stops = record {
  within = within;
  begins = (fillers form filler n, IsOf-fillers form filler fills text n within short front);
  longest = λ m inside b. elim (cases_lt n m) [
    | inl below ↦ no_more form text n m stops inside b below
    | inr above ↦ above
  ];
}

-- a text that begins a good one as far as a good one goes, and is no longer, has the form
pub IsOf-from_longest : (form : Form) (text : List ℕ) (n : ℕ) → IsLongestBeginning form text n → form.size ≤ n → length text ≤ form.size
    → IsOf form text
IsOf-from_longest form text n is long short =
    let whole : take n text ≡ text = take_all n text (omega (arith, is.within)) in
    let b = is.begins in
    let sizes : length (take n text ++ b.0) ≡ form.size = b.1.whole in
    let size : length (take n text) ≡ n = length-take-le n text is.within in
    record {
      whole = omega (arith, is.within);
      each = λ k h. (begun form text (length text) k (omega arith) (rw (take_all (length text) text (omega arith)) (b.0, rw whole at b.1)) (omega (arith, is.within))).1;
    }

-- a text of the form begins a good one as far as it goes
pub longest-IsOf : (form : Form) (text : List ℕ) (n : ℕ) → IsLongestBeginning form text n → IsOf form text → n ≡ form.size
longest-IsOf form text n is good =
    let all : take (length text) text ≡ text = take_all (length text) text (omega arith) in
    let same : IsOf form (take (length text) text ++ []) = rw (append-nil, all) good in
    omega (arith, is.longest (length text) (omega arith) ([], same), is.within, good.whole)

-- a text that stops short, or is too long, hasn't the form
pub not_of_form : (form : Form) (text : List ℕ) (n : ℕ) → IsLongestBeginning form text n
    → (n < form.size) ⊎ ((form.size ≤ n) × (form.size < length text)) → IsOf form text → ⊥
not_of_form form text n is (inl short) good = omega (arith, longest-IsOf form text n is good, short)
not_of_form form text n is (inr long) good = omega (arith, good.whole, long.1)
