-- What a link in memory moves, as parts of its lists.
use Rattle.std.proofs.Common.{◌≡◌, ℕ, ◌+◌, ◌≤◌, List, [], ◌∷◌, ◌++◌, length, take, drop, refl, sym, ap, arith, append-nil, Some}
use Rattle.std.proofs.lemmas.List.{take-append-drop, drop-drop, drop-take, take-take, length-take-le}
use Rattle.http_front.specs.Link.{Asked, GivesFront}
use Rattle.ids.specs.FaultCount.{counted}
use Rattle.http_front.specs.MemoryLink.{MemoryLinkState, after_failed_take, after_take, asked_more}

-- what was copied is the front of what is left
pub left_by : (input copied : List ℕ) (place n : ℕ) → take n copied ≡ take n (drop place input)
    → drop place input ≡ take n copied ++ drop (place + n) input
left_by input copied place n same =
    rw (same, ← drop-drop n place input) (sym (take-append-drop n (drop place input)))

-- the front of what is left joins what was taken
pub taken_by : (input : List ℕ) (place n : ℕ) → take (place + n) input ≡ take place input ++ take n (drop place input)
taken_by input place n =
    let whole = take-append-drop place (take (place + n) input) in
    let front : take place (take (place + n) input) ≡ take place input = take-take place (place + n) input (omega arith) in
    sym (rw (front, drop-take place n input) at whole)

-- nothing is a front
pub gives_none : (old piece : List ℕ) → GivesFront (Some old) (Some old) piece
gives_none old piece = record { front = []; rest = piece; cut = refl; given = ap Some (sym (append-nil old)) }

-- so is what found room
pub gives_part : (old piece : List ℕ) (n : ℕ) → GivesFront (Some old) (Some (old ++ take n piece)) piece
gives_part old piece n = record {
  front = take n piece;
  rest = drop n piece;
  cut = sym (take-append-drop n piece);
  given = refl;
}

-- a link whose bytes and count are those after a take
pub is_after_take : (link : MemoryLinkState) (n : ℕ) (left taken : List ℕ) (calls : ℕ) (asked : List Asked)
    → left ≡ drop n link.left → taken ≡ link.taken ++ take n link.left → calls ≡ counted link.calls → asked ≡ asked_more link
    → record link { left = left; taken = taken; calls = calls; asked = asked } ≡ after_take link n
is_after_take link n left taken calls asked same_left same_taken same_calls same_asked =
    λ i. record link { left = same_left i; taken = same_taken i; calls = same_calls i; asked = same_asked i }

-- a link whose counts are those after a take that failed
pub is_after_failed_take : (link : MemoryLinkState) (calls faults : ℕ) (asked : List Asked)
    → calls ≡ counted link.calls → faults ≡ counted link.faults → asked ≡ asked_more link
    → record link { calls = calls; faults = faults; asked = asked } ≡ after_failed_take link
is_after_failed_take link calls faults asked same_calls same_faults same_asked =
    λ i. record link { calls = same_calls i; faults = same_faults i; asked = same_asked i }

-- the place is how much was taken
pub asked_at : (input out : List ℕ) (place size : ℕ) (before : List Asked) → place ≤ length input → size ≡ length out
    → before ++ (place, size) ∷ [] ≡ before ++ (length (take place input), length out) ∷ []
asked_at input out place size before within same =
    λ i. before ++ (sym (length-take-le place input within) i, same i) ∷ []
