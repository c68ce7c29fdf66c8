-- The count of faults of a remote, over its dial and the link that is kept. The key lemmas are readied_none, same_dial,
-- given_back, readies_count, no_link_counts, send_counts, kept_counts,
-- ended_count, count_few, rose_in_dial and rose_on_link. Counts stop at `most`.
use Rattle.std.proofs.Common.{◌≡◌, ℕ, ◌+◌, ◌-◌, ◌^◌, ◌≤◌, min, Option, None, Some, option_map, Result, Ok, Err, refl, sym, ap, subst, ◌∙◌, arith}
use Rattle.ids.specs.FaultCount.{Rose}
use Rattle.http_front.specs.Dial.{count_sum}
use Rattle.remote_calls.specs.Exchange.{LinkView, open_view}
use Rattle.remote_calls.specs.HttpRemote.{ReadiesCount, faults_in, sum_with}
use Rattle.remote_calls.specs.Sends.{CountsFailure}
use Rattle.remote_calls.specs.declared.error.RemoteFault.{RemoteFault}
use Rattle.remote_calls.specs.declared.error.RemoteFault.TheVariants as fault
use Rattle.remote_calls.specs.declared.open_link.OpenLink.{OpenLink}

again : (most dial link : ℕ) → min (min (dial + link) most + 0) most ≡ min (dial + link) most
again most dial link = omega arith

rises : (most dial before now : ℕ) → min (before + 1) most ≤ now → min (min (dial + before) most + 1) most ≤ min (dial + now) most
rises most dial before now rose = omega (arith, rose)

rises_alone : (most before now : ℕ) → min (before + 1) most ≤ now → min (min (before + 0) most + 1) most ≤ min (now + 0) most
rises_alone most before now rose = omega (arith, rose)

-- a link that counted none changes nothing
pub readied_none : (dial link : ℕ) → link ≡ 0 → count_sum dial link ≡ count_sum dial 0
readied_none dial link none = rw none refl

-- a link that goes back takes its count along
pub given_back : (dial link now : ℕ) → now ≡ count_sum dial link → count_sum now 0 ≡ count_sum dial link
given_back dial link now is = rw is (again (2 ^ 64 - 1) dial link)

-- a dial that failed raises the count of all
pub rose_in_dial : (before now : ℕ) → Rose before now → Rose (count_sum before 0) (count_sum now 0)
rose_in_dial before now rose = rises_alone (2 ^ 64 - 1) before now rose

-- and so does a link that failed
pub rose_on_link : (dial before now : ℕ) → Rose before now → Rose (count_sum dial before) (count_sum dial now)
rose_on_link dial before now rose = rises (2 ^ 64 - 1) dial before now rose

-- a dial whose count stayed
pub same_dial : (before now : ℕ) → now ≡ before → count_sum now 0 ≡ count_sum before 0
same_dial before now same = ap (λ (n : ℕ). count_sum n 0) same

-- ---- as a link is readied, and an order goes over it

-- the count of all is that of an earlier time
pub readies_count : {D L : Type 0} (faults : D → ℕ) (link_faults : L → ℕ) (before mid : ℕ) (dial : D) (told : Result (OpenLink L) RemoteFault)
    → mid ≡ before → ReadiesCount faults link_faults mid dial told → ReadiesCount faults link_faults before dial told
readies_count faults link_faults before mid dial told same is = subst (λ (n : ℕ). ReadiesCount faults link_faults n dial told) same is

-- no link was made, and none is kept
pub no_link_counts : {D L : Type 0} (T : Type 0) (faults : D → ℕ) (link_faults : L → ℕ) (view : L → LinkView) (before : ℕ) (dial : D) (kept : Option (OpenLink L)) (f : RemoteFault)
    → kept ≡ None → ReadiesCount faults link_faults before dial (Err f)
    → CountsFailure {T = T} before (count_sum (faults dial) (faults_in (option_map (open_view view) kept))) (Err f)
no_link_counts {D} {L} T faults link_faults view before dial kept f none is =
    subst (λ (k : Option (OpenLink L)). CountsFailure {T = T} before (count_sum (faults dial) (faults_in (option_map (open_view view) k))) (Err f)) (sym none) (by f is)
  where
    by : (f : RemoteFault) → ReadiesCount faults link_faults before dial (Err f) → CountsFailure {T = T} before (count_sum (faults dial) 0) (Err f)
    by fault.Link is = is
    by other is = is

-- an order went over a link that was readied
pub send_counts : {T : Type 0} (before dial link now : ℕ) (told : Result T RemoteFault) → count_sum dial link ≡ before → CountsFailure link now told
    → CountsFailure before (count_sum dial now) told
send_counts before dial link now (Ok done) same is = ap (count_sum dial) is ∙ same
send_counts before dial link now (Err fault.Link) same is =
    subst (λ (n : ℕ). Rose n (count_sum dial now)) same (rose_on_link dial link now is)
send_counts before dial link now (Err other) same is = ap (count_sum dial) is ∙ same

-- the same, where the link is kept then
pub kept_counts : {D L T : Type 0} (faults : D → ℕ) (view : L → LinkView) (before : ℕ) (mid dial : D) (after : OpenLink L) (kept : Option (OpenLink L)) (told : Result T RemoteFault)
    → dial ≡ mid → kept ≡ Some after → CountsFailure before (count_sum (faults mid) (view after.link).faults) told
    → CountsFailure before (count_sum (faults dial) (faults_in (option_map (open_view view) kept))) told
kept_counts {D} {L} faults view before mid dial after kept told same kept_is is =
    subst (λ (d : D). CountsFailure before (count_sum (faults d) (faults_in (option_map (open_view view) kept))) told) (sym same)
    (subst (λ (k : Option (OpenLink L)). CountsFailure before (count_sum (faults mid) (faults_in (option_map (open_view view) k))) told) (sym kept_is) is)

-- the dial to which all went back has the count of all
pub ended_count : {L : Type 0} (faults : L → ℕ) (view : L → LinkView) (count now : ℕ) (kept : Option (OpenLink L)) → ((l : L) → (view l).faults ≡ faults l)
    → now ≡ sum_with faults count kept → count_sum now 0 ≡ count_sum count (faults_in (option_map (open_view view) kept))
ended_count faults view count now None same is = ap (λ (n : ℕ). count_sum n 0) is
ended_count faults view count now (Some last) same is =
    given_back count (faults last.link) now is ∙ ap (count_sum count) (sym (same last.link))

at_most : (most n : ℕ) → min n most ≤ most
at_most most n = omega arith

-- no sum of counts is over the greatest number
pub count_few : (dial link : ℕ) → count_sum dial link ≤ 2 ^ 64 - 1
count_few dial link = at_most (2 ^ 64 - 1) (dial + link)
