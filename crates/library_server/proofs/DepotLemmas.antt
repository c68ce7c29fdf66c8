-- What a depot leaves on its shelf. The key lemma is stands_back, at the end.
use Rattle.std.proofs.Common.{◌≡◌, ℕ, false, List, Option, None, Some, option_map, refl, sym, ap, subst, ◌∙◌}
use Rattle.depot.specs.DepotView.{DepotView, IsGood, running_library, state_of}
use Rattle.depot.specs.Standing.{IsOnShelf}
use Rattle.depot.proofs.StandingLemmas.{held_all, on_shelf}
use Rattle.folder_storage.specs.Ground.{Standing, Standings}
use Rattle.library_rules.specs.LibraryState.{State}
use Rattle.library_rules.specs.Recovery.{StandsFor}
use Rattle.object_store.specs.Shelf.{Contents}
use Rattle.object_store.specs.StoreView.{HasNoStray, StoreView, indexed}
use Rattle.library_server.specs.Standing.{ComesBack, StandsAs}
use Rattle.ids.proofs.BasicLemmas.{same_from_some}

pub mapped_from : {A B : Type 0} (f : A → B) (o : Option A) (b : B) → option_map f o ≡ Some b → (a : A) × (o ≡ Some a)
mapped_from f (Some a) b e = (a, refl)
mapped_from f None b e = absurd (cc)

mapped_some : {A B C : Type 0} (f : A → B) (g : B → C) (o : Option A) (c : C) → option_map g (option_map f o) ≡ Some c → (a : A) × (o ≡ Some a)
mapped_some f g (Some a) c e = (a, refl)
mapped_some f g None c e = absurd (cc)

-- where nothing lies beside what a store holds, its shelf holds just that
pub all_indexed : {S : Type 0} (contents : S → Option Contents) (store : StoreView S) (held : Contents) → HasNoStray contents store → contents store.shelf ≡ Some held
    → held.objects ≡ indexed store.index held
all_indexed contents store held none there =
    sym (same_from_some (indexed store.index held) held.objects (sym (ap (option_map (indexed store.index)) there) ∙ held_all contents store held none there))

module _ {S : Type 0} (contents : S → Option Contents) (faults : S → ℕ) where
  -- where the state is told, the shelf tells what it holds
  pub shelf_told : (depot : DepotView S) (s : State) → state_of contents faults depot ≡ Some s → (held : Contents) × (contents depot.store.shelf ≡ Some held)
  shelf_told depot s told = mapped_some (indexed depot.store.index) (running_library depot.state depot.running (faults depot.store.shelf)) (contents depot.store.shelf) s told

  pub state_is : (depot : DepotView S) (held : Contents) (s : State) → contents depot.store.shelf ≡ Some held → state_of contents faults depot ≡ Some s
      → s ≡ running_library depot.state depot.running (faults depot.store.shelf) (indexed depot.store.index held)
  state_is depot held s there told =
      same_from_some s (running_library depot.state depot.running (faults depot.store.shelf) (indexed depot.store.index held))
      (sym told ∙ ap (λ o. option_map (running_library depot.state depot.running (faults depot.store.shelf)) (option_map (indexed depot.store.index) o)) there)

  -- the shelf of a settled depot stands for its state
  pub stands_again : (depot : DepotView S) (held : Contents) (s : State) → IsGood contents faults depot → depot.unsettled ≡ false
      → state_of contents faults depot ≡ Some s → contents depot.store.shelf ≡ Some held → StandsFor held.status held.objects s
  stands_again depot held s good settled told there = subst (λ b. IsOnShelf b held s) settled (on_shelf contents faults depot held s good there told)

  -- a library that came back with a settled depot's shelf stands for its state, where nothing lay beside it
  pub stands_back : (depot : DepotView S) (s : State) (old new : Standings) (folder lib : List ℕ) (standing : Standing)
      → IsGood contents faults depot → HasNoStray contents depot.store → depot.unsettled ≡ false → state_of contents faults depot ≡ Some s
      → ComesBack old new folder lib (contents depot.store.shelf) → old folder lib ≡ Some standing → StandsAs (new folder lib) s
  stands_back depot s old new folder lib standing good none settled told back there =
      let shelf = shelf_told depot s told in
      record {
        held = shelf.0;
        there = back.here standing shelf.0 there shelf.1;
        stands = stands_again depot shelf.0 s good settled told shelf.1;
        objects = all_indexed contents depot.store shelf.0 none shelf.1 ∙ sym (ap (λ (z : State). z.objects) (state_is depot shelf.0 s shelf.1 told));
      }
