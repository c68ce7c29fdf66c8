-- What a pass knows that was joined. The key lemma is knows_joined.
use Rattle.std.proofs.Common.{◌≡◌, ℕ, ⊎_elim, List, ◌++◌, length, sym, ◌∙◌, ap, subst, arith, Option, Some}
use Rattle.object_store.specs.Shelf.{Contents}
use Rattle.object_store.specs.declared.shelf.Slot.{Slot}
use Rattle.depot.specs.DepotView.{DepotView}
use Rattle.depot.specs.Story.{LeadsTo}
use Rattle.depot.specs.declared.story.Change.{Change}
use Rattle.turnstile.specs.Lists.{Has, IsOnce, longer}
use Rattle.turnstile.proofs.ListsLemmas.{Has-append, longer-left, longer-right, longer_by}
use Rattle.sync_calls.specs.Shown.{Knows, Shown}

module _ {S : Type 0} (contents : S → Option Contents) (may_give : S → Slot → Option (List ℕ) → Type 0) (texts faults : S → ℕ) where
  -- some library is the last one
  abbrev LeadsSomewhere : DepotView S → List (Change (DepotView S)) → Type 0
  LeadsSomewhere x changes = (y : DepotView S) × LeadsTo contents may_give texts faults x changes y

  leads_from : (u : Shown S) (x : DepotView S) → u.start ≡ Some x → Knows contents may_give texts faults u → LeadsSomewhere x u.seen
  leads_from u x begins knows =
      let same : knows.start ≡ x = both knows.start x (sym knows.begins ∙ begins) in
      (knows.last, subst (λ (z : DepotView S). LeadsTo contents may_give texts faults z u.seen knows.last) same knows.leads)
    where
      both : (a b : DepotView S) → Some a ≡ Some b → a ≡ b
      both a b e = cc

  pub knows_joined : (u v w : Shown S) (x : DepotView S) → u.start ≡ Some x → v.start ≡ Some x → Knows contents may_give texts faults u → Knows contents may_give texts faults v
      → w.start ≡ Some x → w.seen ≡ longer u.seen v.seen → w.book ≡ u.book ++ v.book → IsOnce w.book → Knows contents may_give texts faults w
  knows_joined u v w x begins begins' knows knows' starts seen book once =
      let leads = longer_by (λ l. LeadsSomewhere x l) u.seen v.seen (leads_from u x begins knows) (leads_from v x begins' knows') in
      let left = longer-left u.seen v.seen in
      let right = longer-right u.seen v.seen in
      let size = ap length seen in
      record {
        start = x;
        begins = starts;
        last = leads.0;
        leads = subst (λ l. LeadsTo contents may_give texts faults x l leads.0) (sym seen) leads.1;
        once = once;
        below = λ p has. ⊎_elim
            (λ mine. let short = knows.below p mine in omega arith)
            (λ its. let short = knows'.below p its in omega arith)
            (Has-append p u.book v.book (subst (λ b. Has p b) book has));
      }
