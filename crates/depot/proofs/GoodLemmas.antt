-- A depot stays good as a call writes the text of another state. The key lemmas are sound_at, good_rewritten and
-- good_with_token.
use Rattle.std.proofs.Common.{◌≡◌, ◌≢◌, ℕ, ◌≤◌, ◌<◌, Bool, false, List, [], ◌∷◌, ◌++◌, length, sym, ap, ◌∙◌, subst, true≢false, Option, None, Some, option_map, Result, Ok, Err}
use Rattle.std.specs.Prelude.{⊤, OnOk, OnErr, true, is_some}
use Rattle.std.specs.FinMap as map
use Rattle.ids.specs.Key.{Objects}
use Rattle.ids.specs.declared.key.Key.{Key}
use Rattle.library_rules.specs.LibraryState.{State, IsSound, is_fresh}
use Rattle.library_rules.proofs.CreatedLemmas.{sound_with_token}
use Rattle.library_rules.proofs.SoundLemmas.{sound_counted}
use Rattle.library_state.specs.Tokens.{is_taken}
use Rattle.library_state.specs.declared.right.Right.{Right}
use Rattle.library_state.specs.declared.state.LibState.{LibState}
use Rattle.library_state.specs.declared.token.Token.{Token}
use Rattle.object_store.specs.Shelf.{Contents}
use Rattle.object_store.specs.StoreView.{StoreView, objects_of, status_of}
use Rattle.object_store.specs.declared.error.StoreFault.{StoreFault}
use Rattle.depot.specs.DepotView.{at_rest, DepotView, depot_of, library, state_of, Holds, IsGood}
use Rattle.depot.specs.NextState.{Follows, token_added}
use Rattle.depot.specs.Writing.{ReadsBack, RewritesSo}
use Rattle.depot.proofs.ToldLemmas.{mapped_at}
use Rattle.depot.proofs.WritingLemmas.{holds_after, holds_next}

module _ {S : Type 0} (contents : S → Option Contents) (faults : S → ℕ) where
  -- the library is sound over what is told, whatever the count of faults
  pub sound_at : (depot : DepotView S) → IsGood contents faults (at_rest depot) → (objects : Objects) (count : ℕ) → objects_of contents depot.store ≡ Some objects
      → IsSound (library depot.state count objects)
  sound_at depot good objects count told =
      sound_counted (library depot.state (faults depot.store.shelf) objects) count
      (good.sound (library depot.state (faults depot.store.shelf) objects) (ap (option_map (library depot.state (faults depot.store.shelf))) told))

  -- sound over what is told is sound
  pub sound_told : (depot : DepotView S) → ((objects : Objects) → objects_of contents depot.store ≡ Some objects → IsSound (library depot.state (faults depot.store.shelf) objects))
      → (s : State) → state_of contents faults (at_rest depot) ≡ Some s → IsSound s
  sound_told depot each s is =
      let at = mapped_at (library depot.state (faults depot.store.shelf)) (objects_of contents depot.store) s is in
      subst IsSound at.gives (each at.value at.is)

  -- no key is fresh where no collection runs
  pub none_fresh : (store : StoreView S) (key : Key) → is_fresh None key ≡ true → is_some (map.get store.index key) ≡ true
  none_fresh store key e = absurd (true≢false (sym e))

  module _ (old : DepotView S) (good : IsGood contents faults (at_rest old)) (next : LibState) (follows : Follows old.state next) (some_kept : next.kept ≢ [])
      (sound : (objects : Objects) (count : ℕ) → objects_of contents old.store ≡ Some objects → IsSound (library next count objects)) where
    -- the state of the call, or the present one
    pub good_rewritten : (store : StoreView S) (state : LibState) (still : Bool) (result : Result ⊤ StoreFault) → OnOk result (state ≡ next) → OnErr result (state ≡ old.state)
        → RewritesSo old.unsettled old.state next (status_of contents old.store) still (status_of contents store) result
        → objects_of contents store ≡ objects_of contents old.store → IsGood contents faults (depot_of store state still None)
    good_rewritten store state still (Ok done) ok err writes kept = record {
      head = subst (λ (st : LibState). st.kept ≢ []) (sym ok) some_kept;
      reads = subst ReadsBack (sym ok) writes.1.reads;
      fresh = none_fresh store;
      sound = sound_told (depot_of store state still None)
          (λ objects told. subst (λ st. IsSound (library st (faults store.shelf) objects)) (sym ok) (sound objects (faults store.shelf) (sym kept ∙ told)));
      text = λ objects status told at. subst (λ st. Holds still st objects status) (sym ok)
          (holds_next old.unsettled old.state next objects (status_of contents old.store) (status_of contents store) still status writes at);
    }
    good_rewritten store state still (Err fault) ok err writes kept = record {
      head = subst (λ (st : LibState). st.kept ≢ []) (sym err) good.head;
      reads = subst ReadsBack (sym err) good.reads;
      fresh = none_fresh store;
      sound = sound_told (depot_of store state still None)
          (λ objects told. subst (λ st. IsSound (library st (faults store.shelf) objects)) (sym err) (sound_at old good objects (faults store.shelf) (sym kept ∙ told)));
      text = λ objects status told at. subst (λ st. Holds still st objects status) (sym err)
          (holds_after old.unsettled old.state next objects (status_of contents old.store) (λ given. good.text objects given (sym kept ∙ told))
          follows (λ count. sound objects count (sym kept ∙ told)) still (status_of contents store) status fault writes at);
    }

  -- a token more
  pub good_with_token : (old : DepotView S) → IsGood contents faults (at_rest old) → (user secret : List ℕ) (right : Right) (token : Token)
      → token ≡ record { secret = secret; user = user; right = right; last = 0 }
      → is_taken old.state.tokens secret ≡ false → length old.state.tokens < 1000 → 1 ≤ length user → length user ≤ 255
      → (store : StoreView S) (state : LibState) (still : Bool) (result : Result ⊤ StoreFault)
      → OnOk result (state ≡ record old.state { tokens = old.state.tokens ++ token ∷ [] }) → OnErr result (state ≡ old.state)
      → RewritesSo old.unsettled old.state (record old.state { tokens = old.state.tokens ++ token ∷ [] }) (status_of contents old.store) still (status_of contents store) result
      → objects_of contents store ≡ objects_of contents old.store → IsGood contents faults (depot_of store state still None)
  good_with_token old good user secret right token is free room some_user fits =
      good_rewritten old good (record old.state { tokens = old.state.tokens ++ token ∷ [] })
      (token_added user secret right (ap (λ (t : Token). record old.state { tokens = old.state.tokens ++ t ∷ [] }) (sym is))) good.head
      (λ objects count told. subst (λ (t : Token). IsSound (library (record old.state { tokens = old.state.tokens ++ t ∷ [] }) count objects)) (sym is)
      (sound_with_token (library old.state count objects) user secret right (sound_at old good objects count told) free room some_user fits))
