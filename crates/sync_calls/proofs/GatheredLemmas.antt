-- Passes to one room that are taken from a list. The key lemmas are popped and unseen.
use Rattle.std.proofs.Common.{◌≡◌, ℕ, List, [], ◌∷◌, ◌++◌, length, All, Vec, Global, arith, refl, subst, sym, ◌∙◌, ap, Some}
use Rattle.std.proofs.lemmas.List.Elements.{All-pop}
use Rattle.std.specs.Prelude.{Option}
use Rattle.object_store.specs.Shelf.{Contents}
use Rattle.object_store.specs.declared.shelf.Slot.{Slot}
use Rattle.depot.specs.DepotView.{DepotView}
use Rattle.depot.specs.Story.{ComesBy}
use Rattle.turnstile.specs.Lists.{longer}
use Rattle.turnstile.specs.PassView.{StandsFor}
use Rattle.sync_calls.specs.Shown.{LibraryView}

-- the last of a list of which each is such
pub popped : {A : Type 0} (P : A → Type 0) (old front : List A) (x : A) → old ≡ front ++ x ∷ [] → All P old → All P front × P x
popped P old front x pop each = All-pop P old front (Some x) pop each

-- two histories of which nothing was seen
pub unseen : {A : Type 0} (xs ys : List A) → xs ≡ [] → ys ≡ [] → longer xs ys ≡ []
unseen {A} xs ys none none' =
    let bare : List A = [] in
    subst (λ (l : List A). longer l ys ≡ bare) (sym none) (subst (λ (l : List A). longer bare l ≡ bare) (sym none') refl)

-- of equal tables the items
pub items_same : {A : Type 0} (v w : Vec A Global) → v ≡ w → v.items ≡ w.items
items_same {A} v w same = ap (λ (t : Vec A Global). t.items) same

pub empty_list : {A : Type 0} (xs : List A) → length xs ≡ 0 → xs ≡ []
empty_list [] none = refl
empty_list (x ∷ xs) none = absurd (omega (arith, none))

module _ {S : Type 0} (contents : S → Option Contents) (may_give : S → Slot → Option (List ℕ) → Type 0) (texts faults : S → ℕ) where
  -- a library that comes out of a room of which nothing was seen
  pub came_out : (v : LibraryView S) (depot out : DepotView S) → StandsFor (ComesBy contents may_give texts faults) v out → v.seen ≡ [] → v.start ≡ Some depot
      → ComesBy contents may_give texts faults depot [] out
  came_out v depot out (x, begins, comes) none starts =
      subst (λ (d : DepotView S). ComesBy contents may_give texts faults d [] out) (from_some x depot (sym begins ∙ starts))
      (subst (λ cs. ComesBy contents may_give texts faults x cs out) none comes)
    where
      from_some : (a b : DepotView S) → Some a ≡ Some b → a ≡ b
      from_some a b e = cc
