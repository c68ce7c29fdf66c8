-- The count of faults over all sends. The key lemmas are counts_none, counts_step and counts_rest.
use Rattle.std.proofs.Common.{◌≡◌, ℕ, ◌+◌, ◌-◌, ◌^◌, ◌≤◌, min, Bool, true, false, ◌||◌, List, [], ◌∷◌, ◌++◌, Ok, Err, refl, sym, ap, subst, ◌∙◌, arith}
use Rattle.std.specs.Bool.{MatchBool}
use Rattle.std.proofs.lemmas.List.Folds.{list_any-append}
use Rattle.ids.specs.FaultCount.{Rose}
use Rattle.http_front.specs.declared.order.Order.{Order}
use Rattle.remote_calls.specs.Sends.{CountsSend, CountsSends, Ending, SendsOne, Sent, fails_by_link, is_link_failure}
use Rattle.remote_calls.specs.declared.error.RemoteFault.TheVariants as fault

no_less : (before now : ℕ) → now ≡ before → before ≤ now
no_less before now same = omega (arith, same)

pub counts_none : (before now : ℕ) (sends : List Sent) → sends ≡ [] → now ≡ before → CountsSends before sends now
counts_none before now sends none same = subst (λ (ss : List Sent). CountsSends before ss now) (sym none) (no_less before now same)

-- ---- one send more

rose_both : (most before mid now : ℕ) → min (before + 1) most ≤ mid → min (mid + 1) most ≤ now → min (before + 1) most ≤ now
rose_both most before mid now first second = omega (arith, first, second)

rose_after : (most before mid now : ℕ) → before ≤ mid → min (mid + 1) most ≤ now → min (before + 1) most ≤ now
rose_after most before mid now first second = omega (arith, first, second)

rose_before : (most before mid now : ℕ) → min (before + 1) most ≤ mid → mid ≤ now → min (before + 1) most ≤ now
rose_before most before mid now first second = omega (arith, first, second)

grows : (before mid now : ℕ) → before ≤ mid → mid ≤ now → before ≤ now
grows before mid now first second = omega (arith, first, second)

-- whatever was told of a count is so of one that isn't lower
later : (fails : Bool) (before mid now : ℕ) → MatchBool fails (Rose before mid) (before ≤ mid) → mid ≤ now → MatchBool fails (Rose before now) (before ≤ now)
later true before mid now is more = rose_before (2 ^ 64 - 1) before mid now is more
later false before mid now is more = grows before mid now is more

or_same : (b : Bool) → (b || false) ≡ b
or_same true = refl
or_same false = refl

fails_more : (old : List Sent) (order : Order) (ending : Ending) → fails_by_link (old ++ (order, ending) ∷ []) ≡ (fails_by_link old || is_link_failure ending)
fails_more old order ending = list_any-append (λ (sent : Sent). is_link_failure sent.1) old ((order, ending) ∷ []) ∙ ap (λ b. fails_by_link old || b) (or_same (is_link_failure ending))

or_so : (b : Bool) → (b || true) ≡ true
or_so true = refl
or_so false = refl

-- one that isn't a failure of the link
counts_other : (before mid now : ℕ) (old new : List Sent) (order : Order) (ending : Ending) → is_link_failure ending ≡ false → new ≡ old ++ (order, ending) ∷ [] → mid ≤ now
    → CountsSends before old mid → CountsSends before new now
counts_other before mid now old new order ending other listed more is =
    let fails : fails_by_link new ≡ fails_by_link old
    = ap fails_by_link listed ∙ fails_more old order ending ∙ ap (λ b. fails_by_link old || b) other ∙ or_same (fails_by_link old) in
    subst (λ (b : Bool). MatchBool b (Rose before now) (before ≤ now)) (sym fails) (later (fails_by_link old) before mid now is more)

-- one that is
counts_failure : (before mid now : ℕ) (old new : List Sent) (order : Order) → new ≡ old ++ (order, Err fault.Link) ∷ [] → Rose mid now
    → CountsSends before old mid → CountsSends before new now
counts_failure before mid now old new order listed rose is =
    let fails : fails_by_link new ≡ true = ap fails_by_link listed ∙ fails_more old order (Err fault.Link) ∙ or_so (fails_by_link old) in
    subst (λ (b : Bool). MatchBool b (Rose before now) (before ≤ now)) (sym fails) (by (fails_by_link old) is)
  where
    by : (b : Bool) → MatchBool b (Rose before mid) (before ≤ mid) → Rose before now
    by true first = rose_both (2 ^ 64 - 1) before mid now first rose
    by false first = rose_after (2 ^ 64 - 1) before mid now first rose

pub counts_step : (before mid now : ℕ) (old new : List Sent) (order : Order) (ending : Ending) → CountsSends before old mid → CountsSend mid now ending
    → SendsOne old new order ending → CountsSends before new now
counts_step before mid now old new order (Ok outcome) is counts listed = counts_other before mid now old new order (Ok outcome) refl listed counts is
counts_step before mid now old new order (Err fault.Link) is counts listed = counts_failure before mid now old new order listed counts is
counts_step before mid now old new order (Err fault.NoMemory) is counts listed =
    subst (λ (ss : List Sent). CountsSends before ss now) (sym listed) (later (fails_by_link old) before mid now is counts)
counts_step before mid now old new order (Err other) is counts listed = counts_other before mid now old new order (Err other) refl listed counts is

-- where nothing was sent
pub counts_rest : (before mid now : ℕ) (old new : List Sent) → CountsSends before old mid → now ≡ mid → new ≡ old → CountsSends before new now
counts_rest before mid now old new is same listed =
    subst (λ (ss : List Sent). CountsSends before ss now) (sym listed) (subst (λ (n : ℕ). CountsSends before old n) (sym same) is)
