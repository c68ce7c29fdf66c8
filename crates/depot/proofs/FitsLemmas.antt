-- What a depot knows stays right as objects come. The key lemmas are fits_same, fits_put and fits_carried.
use Rattle.std.proofs.Common.{◌≡◌, ◌⊎◌, inl, inr, ◌∷◌, [], Bool, List, sym, ◌∙◌, subst, Option, Some, Result, Ok, Err}
use Rattle.std.specs.Prelude.{⊤}
use Rattle.ids.specs.Key.{Objects}
use Rattle.library_rules.specs.Changes.{with_added}
use Rattle.library_rules.specs.declared.entry.Stored.{Stored}
use Rattle.library_rules.proofs.KeepingLemmas.{grown}
use Rattle.library_state.specs.declared.state.LibState.{LibState}
use Rattle.object_store.specs.Shelf.{Contents}
use Rattle.object_store.specs.StoreView.{StoreView, objects_of}
use Rattle.object_store.specs.declared.error.StoreFault.{StoreFault}
use Rattle.tree_walk.specs.KnownTrees.{Fits, KnownView, nothing_known}
use Rattle.tree_walk.proofs.KnownTreesLemmas.{fits_grown, fits_nothing}
use Rattle.depot.specs.DepotView.{FitsIn}
use Rattle.depot.specs.UpdateInstall.{CarriesSo, Held, StoresPart, stopped, unsure, with_all}
use Rattle.depot.specs.Writing.{with_stored}
use Rattle.depot.proofs.ToldLemmas.{mapped_at}

-- over objects that may be told
abbrev pub FitsTold : Option Objects → KnownView → Type 0
FitsTold known view = (objects : Objects) → known ≡ Some objects → Fits objects view

-- with the first ones, or all, of some objects put
fits_with : (old new : Option Objects) (part : List Stored) (view : KnownView) → new ≡ with_all part old → FitsTold old view → FitsTold new view
fits_with old new part view put fits objects told =
    let before = mapped_at (λ (o : Objects). with_added o part) old objects (sym put ∙ told) in
    subst (λ o. Fits o view) before.gives (fits_grown before.value (with_added before.value part) view (grown before.value part) (fits before.value before.is))

fits_part : (old new : Option Objects) (all : List Stored) (view : KnownView) → StoresPart old all new → FitsTold old view → FitsTold new view
fits_part old new all view stores fits = fits_with old new stores.part view stores.objects fits

pub fits_carried : (unsettled still : Bool) (present next : LibState) (all : List Stored) (old new : Held) (result : Result ⊤ StoreFault) (view : KnownView)
    → CarriesSo unsettled present next all old still new result → FitsTold old.objects view → FitsTold new.objects view
fits_carried unsettled still present next all old new (Ok done) view carries fits = fits_with old.objects new.objects all view carries.objects fits
fits_carried unsettled still present next all old new (Err fault) view (stopped part same_flag same_slot same_texts) fits = fits_part old.objects new.objects all view part fits
fits_carried unsettled still present next all old new (Err fault) view (unsure free put left) fits = fits_with old.objects new.objects all view put fits

module _ {S : Type 0} (contents : S → Option Contents) (old new : StoreView S) (view : KnownView) where
  -- the same objects
  pub fits_same : objects_of contents new ≡ objects_of contents old → FitsIn contents old view → FitsIn contents new view
  fits_same kept fits objects told = fits objects (sym kept ∙ told)

  -- the same, or one more
  pub fits_put : (x : Stored) → (objects_of contents new ≡ objects_of contents old) ⊎ (objects_of contents new ≡ with_stored x (objects_of contents old))
      → FitsIn contents old view → FitsIn contents new view
  fits_put x (inl kept) fits = fits_same kept fits
  fits_put x (inr more) fits = fits_with (objects_of contents old) (objects_of contents new) (x ∷ []) view more fits

-- where nothing is known
pub fits_empty : {S : Type 0} (contents : S → Option Contents) (store : StoreView S) (view : KnownView) → view ≡ nothing_known → FitsIn contents store view
fits_empty contents store view is objects told = subst (Fits objects) (sym is) (fits_nothing objects)
