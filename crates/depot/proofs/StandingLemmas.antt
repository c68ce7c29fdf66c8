-- What a depot's shelf stands for, and what opens it. The key lemmas are on_shelf, opens and held_all.
use Rattle.std.proofs.Common.{◌≡◌, inl, inr, ℕ, ◌==◌, Bool, true, false, cond, if◌then◌else◌, List, [], ◌∷◌, refl, sym, ap, ◌∙◌, subst, Option, None, Some, is_some, option_map, Ok}
use Rattle.std.specs.FinMap as map
use Rattle.std.specs.List.{list_any}
use Rattle.ids.specs.Key.{Objects}
use Rattle.ids.specs.declared.key.Key.{Key}
use Rattle.ids.proofs.KeyOrderLemmas.{key_cmp_total, key_cmp_exact}
use Rattle.library_rules.specs.LibraryState.{IsSound, State, kept_commits, last_number}
use Rattle.library_rules.specs.Recovery.{StandsFor}
use Rattle.library_rules.proofs.KeepingLemmas.{agrees_grown, still_complete}
use Rattle.library_rules.proofs.MemberLemmas.{same_id-itself}
use Rattle.library_rules.proofs.ProperTextLemmas.{sound_is_proper}
use Rattle.library_rules.proofs.ReopenedLemmas.{stands_by_its_objects}
use Rattle.library_state.specs.StateSpelling.{text_of}
use Rattle.library_state.specs.StateText.{state_of as read_state}
use Rattle.object_graph.specs.Objects.{same_id}
use Rattle.object_graph.specs.Traversal.{IsComplete}
use Rattle.object_graph.specs.Unchanged.{Keeps}
use Rattle.object_store.specs.Shelf.{Contents}
use Rattle.object_store.specs.StoreView.{HasNoStray, Index, StoreView, indexed, objects_of}
use Rattle.object_store.proofs.MapLemmas.{get-retained}
use Rattle.depot.specs.DepotView.{DepotView, Holds, HoldsOther, IsGood, library, running_library, state_of}
use Rattle.depot.specs.Start.{first_incomplete, start_refusal, text_refusal}
use Rattle.depot.specs.Standing.{IsOnShelf, StandsForNext}
use Rattle.depot.specs.declared.error.StartFault.TheVariants as start
use Rattle.std.proofs.lemmas.Bool.{or_left, or_right}
use Rattle.tree_walk.specs.Files.{first_due}

-- what a store holds lies on its shelf
pub indexed_lies : (index : Index) (held : Contents) → Keeps (indexed index held) held.objects
indexed_lies index held = record { kept = λ key bytes there. by (is_some (map.get index key)) (map.get held.objects key) bytes (sym (get-retained held.objects index key) ∙ there) }
  where
    by : (b : Bool) (o : Option (List ℕ)) (bytes : List ℕ) → cond b o None ≡ Some bytes → o ≡ Some bytes
    by true o bytes e = e
    by false o bytes e = cc

module _ {S : Type 0} (contents : S → Option Contents) (faults : S → ℕ) (depot : DepotView S) (held : Contents) (s : State) (good : IsGood contents faults depot)
    (there : contents depot.store.shelf ≡ Some held) (told : state_of contents faults depot ≡ Some s) where
  objects : Objects
  objects = indexed depot.store.index held

  some_same : {A : Type 0} {x y : A} → Some x ≡ Some y → x ≡ y
  some_same e = cc

  objects_told : objects_of contents depot.store ≡ Some objects
  unfolding objects
  objects_told = ap (option_map (indexed depot.store.index)) there

  s_is : running_library depot.state depot.running (faults depot.store.shelf) objects ≡ s
  s_is = some_same (sym (ap (option_map (running_library depot.state depot.running (faults depot.store.shelf))) objects_told) ∙ told)

  sound : IsSound s
  sound = good.sound s told

  -- the library's own text
  stands_own : held.status ≡ Some (text_of depot.state) → StandsFor held.status held.objects s
  unfolding objects
  stands_own text =
      stands_by_its_objects s held.status held.objects sound
      (text ∙ ap (λ (z : State). Some (text_of z.state)) s_is)
      (subst (λ (z : State). IsSound z → read_state (text_of z.state) ≡ Ok z.state) s_is
      (λ (own : IsSound (running_library depot.state depot.running (faults depot.store.shelf) objects)).
      good.reads (sound_is_proper (running_library depot.state depot.running (faults depot.store.shelf) objects) own)) sound)
      (subst (λ (z : State). Keeps z.objects held.objects) s_is (indexed_lies depot.store.index held))

  stands_next : HoldsOther depot.state objects held.status → StandsForNext held s
  unfolding objects
  stands_next other = subst (λ (z : State). StandsForNext held z) s_is (record {
    next = other.other;
    follows = other.follows;
    sound = other.sound (faults depot.store.shelf);
    stands = stands_by_its_objects (library other.other (faults depot.store.shelf) objects) held.status held.objects (other.sound (faults depot.store.shelf))
        other.text other.reads (indexed_lies depot.store.index held);
  })

  pub on_shelf : IsOnShelf depot.unsettled held s
  on_shelf = by depot.unsettled (good.text objects held.status objects_told (ap (option_map (λ (c : Contents). c.status)) there))
    where
      by : (b : Bool) → Holds b depot.state objects held.status → IsOnShelf b held s
      by false text = stands_own text
      by true (inl text) = inl (stands_own text)
      by true (inr other) = inr (stands_next other)

-- ---- opening

none_incomplete : (lying : Objects) (ids : List (List ℕ)) → ((id : List ℕ) → list_any (same_id id) ids ≡ true → IsComplete lying id) → first_incomplete lying ids ≡ None
none_incomplete lying [] each = refl
none_incomplete lying (id ∷ ids) each =
    ap (λ o. first_due o (first_incomplete lying ids)) (each id (or_left (same_id id id) (list_any (same_id id) ids) (same_id-itself id)))
    ∙ none_incomplete lying ids (λ other e. each other (or_right (same_id other id) (list_any (same_id other) ids) e))

pub opens : (s : State) (slot : Option (List ℕ)) (lying : Objects) → IsSound s → StandsFor slot lying s
    → start_refusal lying slot ≡ (if s.state.opening == last_number then Some start.Worn else None)
opens s slot lying sound stands =
    ap (start_refusal lying) stands.text
    ∙ ap (text_refusal lying) stands.reads
    ∙ ap (λ o. if s.state.opening == last_number then Some start.Worn else option_map start.Walk o)
    (none_incomplete lying (kept_commits s.state.kept) (λ id e. still_complete s.objects lying id (agrees_grown s.objects lying id (sound.kept.complete id e) stands.lies) (sound.kept.complete id e)))

-- ---- what lies there

pub held_all : {S : Type 0} (contents : S → Option Contents) (store : StoreView S) (held : Contents) → HasNoStray contents store → contents store.shelf ≡ Some held
    → objects_of contents store ≡ Some held.objects
held_all contents store held none there =
    ap (option_map (indexed store.index)) there
    ∙ ap Some (map.same_map key_cmp_total key_cmp_exact (indexed store.index held) held.objects (λ key. get-retained held.objects store.index key ∙ at key (map.get store.index key) refl (map.get held.objects key) refl))
  where
    at : (key : Key) (known : Option ℕ) → map.get store.index key ≡ known → (o : Option (List ℕ)) → map.get held.objects key ≡ o → cond (is_some known) o None ≡ o
    at key (Some size) is o lies = refl
    at key None is None lies = refl
    at key None is (Some bytes) lies = absurd (none key (record { held = held; told = there; lies = ap is_some lies; unknown = is }))
