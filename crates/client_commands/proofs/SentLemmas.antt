-- A link that failed is on the list of sends and in the count. The key lemmas are counted_send, counted_rest and
-- counted_end.
use Rattle.std.proofs.Common.{◌≡◌, ℕ, ◌+◌, ◌-◌, ◌^◌, ◌≤◌, min, ◌||◌, Bool, true, false, List, [], ◌∷◌, ◌++◌, Ok, Err, refl, sym, ap, subst, ◌∙◌, arith}
use Rattle.std.proofs.lemmas.List.Folds.{list_any-append}
use Rattle.http_front.specs.Dial.{count_sum}
use Rattle.http_front.specs.declared.order.Order.{Order}
use Rattle.remote_calls.specs.Sends.{CountsSend, Ending, Sent, SendsOne}
use Rattle.remote_calls.specs.declared.error.RemoteFault.TheVariants as fault
use Rattle.client_commands.specs.SentFaults.{has_link_fault, is_link_fault}

or_false : (a : Bool) → (a || false) ≡ a
or_false true = refl
or_false false = refl

with_one : (old : List Sent) (sent : Sent) → has_link_fault (old ++ sent ∷ []) ≡ (has_link_fault old || is_link_fault sent.1)
with_one old sent = list_any-append (λ (s : Sent). is_link_fault s.1) old (sent ∷ []) ∙ ap (λ b. has_link_fault old || b) (or_false (is_link_fault sent.1))

no_less : (before now : ℕ) → 1 ≤ before → before ≤ now → 1 ≤ now
no_less before now some more = omega (arith, some, more)

one_more : (old new : List Sent) (sent : Sent) (before now : ℕ) → is_link_fault sent.1 ≡ false → new ≡ old ++ sent ∷ [] → before ≤ now
    → (has_link_fault old ≡ true → 1 ≤ before) → has_link_fault new ≡ true → 1 ≤ now
one_more old new sent before now none grown more counted has =
    let here : has_link_fault old ≡ true =
    sym (or_false (has_link_fault old)) ∙ ap (λ b. has_link_fault old || b) (sym none) ∙ sym (with_one old sent) ∙ ap has_link_fault (sym grown) ∙ has in
    no_less before now (counted here) more

rises : (most before now : ℕ) → 1 ≤ most → min (before + 1) most ≤ now → 1 ≤ now
rises most before now large rose = omega (arith, large, rose)

-- a send keeps it
pub counted_send : (old new : List Sent) (order : Order) (ending : Ending) (before now : ℕ) → SendsOne old new order ending → CountsSend before now ending
    → (has_link_fault old ≡ true → 1 ≤ before) → has_link_fault new ≡ true → 1 ≤ now
counted_send old new order (Ok outcome) before now grown more counted has = one_more old new (order, Ok outcome) before now refl grown more counted has
counted_send old new order (Err fault.Link) before now grown rose counted has = rises (2 ^ 64 - 1) before now (omega arith) rose
counted_send old new order (Err (fault.BadReply at)) before now grown more counted has = one_more old new (order, Err (fault.BadReply at)) before now refl grown more counted has
counted_send old new order (Err (fault.Cut size)) before now grown more counted has = one_more old new (order, Err (fault.Cut size)) before now refl grown more counted has
counted_send old new order (Err (fault.TooLarge size)) before now grown more counted has = one_more old new (order, Err (fault.TooLarge size)) before now refl grown more counted has
counted_send old new order (Err fault.NoMemory) before now grown more counted has = no_less before now (counted (ap has_link_fault (sym grown) ∙ has)) more

-- and so does what sends nothing
pub counted_rest : (old new : List Sent) (before now : ℕ) → new ≡ old → now ≡ before → (has_link_fault old ≡ true → 1 ≤ before) → has_link_fault new ≡ true → 1 ≤ now
counted_rest old new before now listed same counted has = subst (λ (n : ℕ). 1 ≤ n) (sym same) (counted (ap has_link_fault (sym listed) ∙ has))

ends : (most all now : ℕ) → min (now + 0) most ≡ all → 1 ≤ all → 1 ≤ now
ends most all now is some = omega (arith, is, some)

-- and so it is of the dial, once every link went back
pub counted_end : (all now : ℕ) → count_sum now 0 ≡ all → 1 ≤ all → 1 ≤ now
counted_end all now is some = ends (2 ^ 64 - 1) all now is some

-- the last send is on the list
pub last_fault : (before more : List Sent) (order : Order) → more ≡ before ++ (order, Err fault.Link) ∷ [] → has_link_fault more ≡ true
last_fault before more order is = ap has_link_fault is ∙ with_one before (order, Err fault.Link) ∙ or_true (has_link_fault before)
  where
    or_true : (a : Bool) → (a || true) ≡ true
    or_true true = refl
    or_true false = refl
