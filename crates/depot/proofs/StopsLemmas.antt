-- A call for which there was no memory to note fresh keys, or that is denied, changes nothing. The key lemmas are
-- still_running, kept_still, put_stopped, missing_stopped and denied_beside.
use Rattle.std.proofs.Common.{◌≡◌, inr, ◌++◌, ℕ, false, List, [], ◌∷◌, refl, sym, ap, ◌∙◌, subst, subst₂, Option, None, Some}
use Rattle.std.specs.FinSet as set
use Rattle.ids.specs.Key.{Objects}
use Rattle.ids.specs.declared.key.Key.{Key}
use Rattle.ids.specs.declared.key.Kind.{Kind}
use Rattle.ids.proofs.KeyOrderLemmas.{key_cmp_exact, key_cmp_total}
use Rattle.library_rules.specs.Calls.{first_refusal, put_decided, put_due, put_refusals, token_of}
use Rattle.library_rules.specs.LibraryState.{Running, State}
use Rattle.library_rules.proofs.CallsLemmas.{put_due-is, taken}
use Rattle.library_state.specs.declared.call.Act.{Act}
use Rattle.library_state.specs.declared.call.Act.TheVariants as act
use Rattle.library_state.specs.declared.call.Call.{Call}
use Rattle.library_state.specs.declared.refusal.Refusal.{Refusal}
use Rattle.library_state.specs.declared.refusal.Refusal.TheVariants as refusal
use Rattle.library_state.specs.declared.reply.Reply.{Reply}
use Rattle.library_state.specs.declared.reply.Reply.TheVariants as reply
use Rattle.object_store.specs.Shelf.{Contents}
use Rattle.object_store.specs.StoreView.{Index, objects_of}
use Rattle.object_store.specs.declared.shelf.Slot.{Slot as ShelfSlot}
use Rattle.tree_walk.specs.KnownTrees.{KnownView}
use Rattle.depot.specs.Answering.{MayAnswer, Serves, ServesAct, permits}
use Rattle.depot.specs.DepotView.{CollectionView, DepotView, IsKept, at_rest, library, marked_of, running_of}
use Rattle.depot.specs.Fresh.{HasFresh, MayHaveFresh}
use Rattle.depot.specs.FreshKeys.{told_there}
use Rattle.depot.specs.ObjectCalls.{DoneSo, IsFault}
use Rattle.depot.proofs.ActLemmas.{missing_serves, put_serves}
use Rattle.depot.proofs.BesideLemmas.{serves_beside}
use Rattle.depot.proofs.CallFreshLemmas.{same_fresh, same_runs}
use Rattle.depot.proofs.FreshLemmas.{runs_still_as}
use Rattle.depot.proofs.ObjectCallLemmas.{fault_by}
use Rattle.depot.proofs.ServingLemmas.{denied_serves}

-- ---- where the same keys are fresh, the collection is the same

still_same : (old new : CollectionView) → HasFresh (λ key. set.contains old.running.fresh key) old new → new ≡ old
still_same old new has = λ i. record { marks = has.marks i; running = record { fresh = same i; stored = has.stored i; turned = has.turned i } }
  where
    same : new.running.fresh ≡ old.running.fresh
    same = set.same_set key_cmp_total key_cmp_exact new.running.fresh old.running.fresh has.each

pub still_running : (old new : Option CollectionView) → MayHaveFresh (λ fresh key. set.contains fresh key) old new → new ≡ old
still_running None new is = is
still_running (Some old) new (collection, is, has) = is ∙ ap Some (still_same old collection has)

-- ---- what is refused then

due_fault : (s : State) (key : Key) (bytes : List ℕ) (r : Reply) (after : Option Objects) → IsFault s.objects r → after ≡ Some s.objects → DoneSo s.objects (put_due s key bytes) r after
due_fault s key bytes r after fault is =
    subst (λ d. DoneSo s.objects d r after) (sym (put_due-is s key bytes))
    (fault_by s key bytes (first_refusal (put_refusals s.state.lib key.kind key bytes ++ taken s key bytes ∷ [])) r after fault is)

free_put : (index : Index) (give : ShelfSlot → Option (List ℕ) → Type 0) (key : Key) (bytes : List ℕ) (o : Option Reply)
    → MayAnswer index give (act.Put key bytes) o (reply.Refused refusal.NoMemory)
free_put index give key bytes (Some said) = inr refl
free_put index give key bytes None = tt

-- a refusal tells of no key that it is stored
pub none_told : (index : Index) (a : Act) (why : Refusal) → told_there index a (reply.Refused why) ≡ []
none_told index (act.Check op) why = refl
none_told index act.Head why = refl
none_told index (act.Get key) why = refl
none_told index (act.Put key bytes) why = refl
none_told index (act.Missing k ids) why = refl
none_told index (act.Update pushed) why = refl
none_told index (act.Limit days) why = refl
none_told index (act.Ids server client) why = refl

module _ {S : Type 0} (contents : S → Option Contents) (faults : S → ℕ) where
  -- the invariant stands
  pub kept_still : (depot : DepotView S) (known : KnownView) (o n : Option CollectionView) → MayHaveFresh (λ fresh key. set.contains fresh key) o n
      → IsKept contents faults (record depot { running = running_of o; marked = marked_of o }) known o → IsKept contents faults (record depot { running = running_of n; marked = marked_of n }) known n
  kept_still depot known o n same kept = subst (λ c. IsKept contents faults (record depot { running = running_of c; marked = marked_of c }) known c) (sym (still_running o n same)) kept

  module _ (may_give : S → ShelfSlot → Option (List ℕ) → Type 0) (texts : S → ℕ) (old : DepotView S) where
    -- what is refused where no collection runs, and changes nothing, is refused beside one
    serves_refused : (call : Call) (moment : ℕ) (why : Refusal) → told_there old.store.index call.act (reply.Refused why) ≡ []
        → Serves contents may_give texts faults (at_rest old) call moment (reply.Refused why) (at_rest old) → Serves contents may_give texts faults old call moment (reply.Refused why) old
    serves_refused call moment why none rest =
        serves_beside contents faults old old call moment (reply.Refused why)
        (same_runs old.store.index old.store.index old.running old.running (told_there old.store.index call.act (reply.Refused why)) refl none (runs_still_as old.running))
        (same_fresh contents old old call.act (reply.Refused why) refl (λ now. refl) (runs_still_as old.running)) may_give texts refl rest

    -- one who may not ask is denied
    pub denied_beside : (call : Call) (moment : ℕ) → permits (token_of old.state.tokens call.secret) call.act ≡ false
        → Serves contents may_give texts faults old call moment (reply.Refused refusal.Denied) old
    denied_beside call moment lacks =
        serves_refused call moment refusal.Denied (none_told old.store.index call.act refusal.Denied) (denied_serves contents may_give texts faults old call moment lacks)

    pub put_stopped : (running : Option Running) (marked : ℕ) (key : Key) (bytes : List ℕ) → running ≡ old.running → marked ≡ old.marked
        → ServesAct contents may_give texts faults old (act.Put key bytes) (reply.Refused refusal.NoMemory) (record old { running = running; marked = marked })
    put_stopped running marked key bytes same marks =
        subst₂ (λ (o : Option Running) (m : ℕ). ServesAct contents may_give texts faults old (act.Put key bytes) (reply.Refused refusal.NoMemory) (record old { running = o; marked = m })) (sym same) (sym marks)
        (λ call moment right asks.
        serves_refused call moment refusal.NoMemory (ap (λ a. told_there old.store.index a (reply.Refused refusal.NoMemory)) asks)
        (put_serves contents may_give texts faults old call moment right key bytes asks old.store (reply.Refused refusal.NoMemory) refl refl
        (λ objects told. due_fault (library old.state (faults old.store.shelf) objects) key bytes (reply.Refused refusal.NoMemory) (objects_of contents old.store) tt told)
        (free_put old.store.index (may_give old.store.shelf) key bytes (put_decided old.state.lib key bytes)) (λ objects told. tt) refl (λ free k stray. stray)))

    pub missing_stopped : (running : Option Running) (marked : ℕ) (k : Kind) (ids : List (List ℕ)) → running ≡ old.running → marked ≡ old.marked
        → ServesAct contents may_give texts faults old (act.Missing k ids) (reply.Refused refusal.NoMemory) (record old { running = running; marked = marked })
    missing_stopped running marked k ids same marks =
        subst₂ (λ (o : Option Running) (m : ℕ). ServesAct contents may_give texts faults old (act.Missing k ids) (reply.Refused refusal.NoMemory) (record old { running = o; marked = m })) (sym same) (sym marks)
        (λ call moment right asks.
        serves_refused call moment refusal.NoMemory (ap (λ a. told_there old.store.index a (reply.Refused refusal.NoMemory)) asks)
        (missing_serves contents may_give texts faults old call moment right k ids asks (reply.Refused refusal.NoMemory) (λ objects told. inr tt) refl (λ objects told. tt) refl))
