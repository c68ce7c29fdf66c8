-- Histories that grow by one change, and the library at a place of one. The key lemmas are leads_on, leads_same, last_at and
-- before_at.
use Rattle.std.proofs.Common.{◌≡◌, ℕ, List, [], ◌∷◌, ◌++◌, length, refl, sym, ◌∙◌, subst, Option, Some}
use Rattle.std.specs.List.{slice_get}
use Rattle.object_store.specs.Shelf.{Contents}
use Rattle.object_store.specs.declared.shelf.Slot.{Slot}
use Rattle.depot.specs.DepotView.{DepotView}
use Rattle.depot.specs.Story.{IsSame, LeadsTo, Links, same_itself}
use Rattle.depot.specs.declared.story.Change.{Change}
use Rattle.sync_calls.specs.Shown.{library_after}

-- the library after as many changes as there are more in front
pub after_front : {V : Type 0} (start : Option V) (cs more : List (Change V)) → library_after start (cs ++ more) (length cs) ≡ library_after start cs (length cs)
after_front start [] [] = refl
after_front start [] (m ∷ more) = refl
after_front start (c ∷ cs) more = after_front (Some c.after.value) cs more

-- the change behind a list stands at its length
pub at_end : {A : Type 0} (xs : List A) (x : A) → slice_get (xs ++ x ∷ []) (length xs) ≡ Some x
at_end [] x = refl
at_end (y ∷ xs) x = at_end xs x

module _ {S : Type 0} (contents : S → Option Contents) (may_give : S → Slot → Option (List ℕ) → Type 0) (texts faults : S → ℕ) where
  pub same_on : (x y z : DepotView S) → IsSame contents faults x y → IsSame contents faults y z → IsSame contents faults x z
  same_on x y z a b = record {
    state = b.state ∙ a.state;
    running = b.running ∙ a.running;
    count = b.count ∙ a.count;
    keys = λ key. b.keys key ∙ a.keys key;
    objects = λ objects told. b.objects objects (a.objects objects told);
  }

  -- a library that is the same as the last one
  pub leads_same : (x : DepotView S) (cs : List (Change (DepotView S))) (y z : DepotView S) → LeadsTo contents may_give texts faults x cs y → IsSame contents faults y z
      → LeadsTo contents may_give texts faults x cs z
  leads_same x [] y z leads same = same_on x y z leads same
  leads_same x (c ∷ cs) y z leads same = (leads.0, leads.1, leads_same c.after.value cs y z leads.2 same)

  -- one change more
  pub leads_on : (x : DepotView S) (cs : List (Change (DepotView S))) (y : DepotView S) (c : Change (DepotView S)) (z : DepotView S) → LeadsTo contents may_give texts faults x cs y
      → c.before.value ≡ y → Links contents may_give texts faults c → c.after.value ≡ z → LeadsTo contents may_give texts faults x (cs ++ c ∷ []) z
  leads_on x [] y c z leads from links to =
      (subst (λ (w : DepotView S). IsSame contents faults x w) (sym from) leads, links, subst (λ (w : DepotView S). IsSame contents faults c.after.value w) to (same_itself contents faults c.after.value))
  leads_on x (d ∷ cs) y c z leads from links to = (leads.0, leads.1, leads_on d.after.value cs y c z leads.2 from links to)

  -- the library after all changes is the same as the one that they lead to
  pub record IsLast (start : Option (DepotView S)) (cs : List (Change (DepotView S))) (y : DepotView S) : Type 0 where
    pub there : DepotView S
    pub stood : library_after start cs (length cs) ≡ Some there
    pub same : IsSame contents faults there y

  pub last_at : (x : DepotView S) (cs : List (Change (DepotView S))) (y : DepotView S) → LeadsTo contents may_give texts faults x cs y → IsLast (Some x) cs y
  last_at x [] y leads = record { there = x; stood = refl; same = leads }
  last_at x (c ∷ cs) y leads =
      let deeper = last_at c.after.value cs y leads.2 in
      record { there = deeper.there; stood = deeper.stood; same = deeper.same }
