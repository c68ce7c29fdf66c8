-- A put that the store refuses, or takes, and the cause of each answer. The key lemmas are put_refused, new_done, same_done,
-- put_damage, new_may, same_may and refused_may, and of a block block_decided, block_due and block_done.
use Rattle.std.proofs.Common.{◌≡◌, ◌⊎◌, inl, inr, ℕ, Bool, true, false, not, ◌&&◌, ◌||◌, if◌then◌else◌, cond, List, [], ◌∷◌, ◌++◌, refl, sym, ap, ◌∙◌, subst, true≢false, Option, None, Some, option_map, is_some}
use Rattle.std.specs.Bool.{then_some}
use Rattle.std.specs.FinMap as map
use Rattle.sha1.specs.Sha1.{sha1}
use Rattle.ids.specs.Key.{Objects}
use Rattle.ids.specs.declared.key.Key.{Key}
use Rattle.ids.specs.declared.key.Kind.{Kind}
use Rattle.ids.specs.declared.key.Kind.TheVariants as kinds
use Rattle.ids.proofs.KeyOrderLemmas.{key_cmp_total}
use Rattle.library_rules.specs.Calls.{Due, Says, Stores, by_state, first_refusal, other_bytes, put_by_objects, put_decided, put_due, put_refusals}
use Rattle.library_rules.proofs.CallsLemmas.{put_after, put_by, taken}
use Rattle.library_rules.specs.LibraryState.{State, is_stored}
use Rattle.library_state.specs.declared.call.Act.TheVariants as act
use Rattle.library_state.specs.declared.refusal.Refusal.{Refusal}
use Rattle.library_state.specs.declared.refusal.Refusal.TheVariants as refusal
use Rattle.library_state.specs.declared.reply.Reply.{Reply}
use Rattle.library_state.specs.declared.reply.Reply.TheVariants as reply
use Rattle.object_graph.specs.Objects.{is_nil}
use Rattle.object_graph.proofs.KeyLemmas.{same_key-itself}
use Rattle.object_store.specs.Store.{IsGetFault, IsOfStored, IsPutFault, damage_at, damage_of, first_refusal as first_fault, has_other_name, is_free, is_named_by_bytes, is_want, put_refusal, same_bytes, stored_refusal}
use Rattle.object_store.specs.Shelf.{Contents}
use Rattle.object_store.specs.StoreView.{Index, StoreView, indexed, objects_of}
use Rattle.object_store.proofs.MapLemmas.{get-retained}
use Rattle.object_store.specs.declared.put.Put.TheVariants.{New, Same}
use Rattle.object_store.specs.declared.error.StoreFault.{StoreFault}
use Rattle.object_store.specs.declared.error.StoreFault.TheVariants.{Taken, Wrong, Damaged, Shelf, NoMemory}
use Rattle.object_store.specs.declared.shelf.Slot.{Slot}
use Rattle.object_store.specs.declared.shelf.Slot.TheVariants.{Object}
use Rattle.depot.specs.Answering.{MayAnswer, MayGet, MayPut}
use Rattle.depot.specs.ObjectCalls.{DoneSo, IsFault, IsToldDamage, own_name, store_decided, store_due}
use Rattle.depot.specs.Refusals.{store_refusal}
use Rattle.depot.proofs.AnsweringLemmas.{damage_other}
use Rattle.depot.proofs.RefusalsLemmas.{free_told}
use Rattle.depot.proofs.ToldLemmas.{mapped_at}
use Rattle.depot.proofs.WritingLemmas.{put_is_new}

-- ---- a block

-- what is decided of it goes by its name alone
pub block_decided : (lib : List ℕ) (key : Key) (bytes : List ℕ) → key.kind ≡ kinds.Block → put_decided lib key bytes ≡ store_decided key bytes
block_decided lib key bytes block =
    ap (λ (kind : Kind). option_map reply.Refused (first_refusal (put_refusals lib kind key bytes ++ then_some (is_nil key.id) (refusal.Taken key.id) ∷ []))) block
    ∙ sym (ap (λ (kind : Kind). option_map reply.Refused (first_refusal (then_some (is_named_by_bytes kind && not (same_bytes (sha1 bytes) key.id)) (refusal.Wrong (sha1 bytes))
    ∷ then_some (is_nil key.id) (refusal.Taken key.id) ∷ []))) block)

pub block_due : (s : State) (key : Key) (bytes : List ℕ) → key.kind ≡ kinds.Block → put_due s key bytes ≡ store_due s key bytes
block_due s key bytes block = ap (λ (said : Option Reply). by_state said (put_by_objects s key bytes)) (block_decided s.state.lib key bytes block)

pub block_done : (key : Key) (bytes : List ℕ) → key.kind ≡ kinds.Block → (s : State) (r : Reply) (after : Option Objects)
    → DoneSo s.objects (store_due s key bytes) r after → DoneSo s.objects (put_due s key bytes) r after
block_done key bytes block s r after done = subst (λ (d : Due). DoneSo s.objects d r after) (sym (block_due s key bytes block)) done

-- ---- what is due of a put

module _ (s : State) (key : Key) (bytes : List ℕ) where
  pub fault_by : (o : Option Refusal) (r : Reply) (after : Option Objects) → IsFault s.objects r → after ≡ Some s.objects → DoneSo s.objects (put_by s key bytes o) r after
  fault_by (Some why) r after fault is = (inr fault, is)
  fault_by None r after fault is = by (is_stored s.objects key)
    where
      by : (b : Bool) → DoneSo s.objects (if b then Says (reply.Stored false) else Stores (record { key = key; bytes = bytes })) r after
      by true = (inr fault, is)
      by false = inr (fault, is)

  pub store_due-is : store_due s key bytes ≡ put_by s key bytes (first_refusal (own_name key bytes ∷ taken s key bytes ∷ []))
  store_due-is = put_after s key bytes (is_nil key.id) (other_bytes (map.get s.objects key) bytes) (own_name key bytes ∷ [])

  -- a fault in the place of what is due
  pub put_fault : (r : Reply) (after : Option Objects) → IsFault s.objects r → after ≡ Some s.objects → DoneSo s.objects (store_due s key bytes) r after
  put_fault r after fault is =
      subst (λ d. DoneSo s.objects d r after) (sym store_due-is) (fault_by (first_refusal (own_name key bytes ∷ taken s key bytes ∷ [])) r after fault is)

  -- a refusal that is due
  pub due_refused : (o : Option Refusal) (why : Refusal) (after : Option Objects) → o ≡ Some why → after ≡ Some s.objects → DoneSo s.objects (put_by s key bytes o) (reply.Refused why) after
  due_refused o why after due is = subst (λ d. DoneSo s.objects (put_by s key bytes d) (reply.Refused why) after) (sym due) (inl refl, is)

-- ---- a put that is refused

-- by its name, by what is stored, or since that is damaged
RefusedBy : Key → Option Refusal → Option (List ℕ) → StoreFault → Type 0
RefusedBy key due o fault = (due ≡ Some (store_refusal fault)) ⊎ (damage_of key o ≡ Some fault)

refused_stored : (key : Key) (fault : StoreFault) (c d : Bool) (damaged : StoreFault) → (if c then Some damaged else if d then None else Some (Taken key.id)) ≡ Some fault
    → (first_refusal (None ∷ then_some (not d) (refusal.Taken key.id) ∷ []) ≡ Some (store_refusal fault)) ⊎ ((if c then Some damaged else None) ≡ Some fault)
refused_stored key fault true d damaged e = inr e
refused_stored key fault false true damaged e = cc
refused_stored key fault false false damaged e =
    let is : Taken key.id ≡ fault = cc in
    inl (ap (λ f. Some (store_refusal f)) is)

refused_by : (key : Key) (bytes : List ℕ) (fault : StoreFault) (a b : Bool) (o : Option (List ℕ))
    → first_fault (if a then Some (Wrong (sha1 bytes)) else if b then Some (Taken key.id) else None) (stored_refusal key bytes o) ≡ Some fault
    → (first_refusal (then_some a (refusal.Wrong (sha1 bytes)) ∷ then_some (b || other_bytes o bytes) (refusal.Taken key.id) ∷ []) ≡ Some (store_refusal fault)) ⊎ (damage_of key o ≡ Some fault)
refused_by key bytes fault true b o e =
    let is : Wrong (sha1 bytes) ≡ fault = cc in
    inl (ap (λ f. Some (store_refusal f)) is)
refused_by key bytes fault false true o e =
    let is : Taken key.id ≡ fault = cc in
    inl (ap (λ f. Some (store_refusal f)) is)
refused_by key bytes fault false false None e = cc
refused_by key bytes fault false false (Some stored) e =
    refused_stored key fault (has_other_name key stored) (same_bytes stored bytes) (Damaged key.id (Some (sha1 stored))) e

damage_told : (objects : Objects) (key : Key) (o : Option (List ℕ)) (fault : StoreFault) → damage_of key o ≡ Some fault → damage_at objects key ≡ damage_of key o
    → IsFault objects (reply.Refused (store_refusal fault))
damage_told objects key None fault e at = cc
damage_told objects key (Some stored) fault e at = by (has_other_name key stored) e at
  where
    is_damage : (f : StoreFault) → Damaged key.id (Some (sha1 stored)) ≡ f → damage_at objects key ≡ Some f → IsFault objects (reply.Refused (store_refusal f))
    is_damage (Taken id) is there = cc
    is_damage (Wrong id) is there = cc
    is_damage (Damaged want got) is there = (key, there)
    is_damage Shelf is there = tt
    is_damage NoMemory is there = tt

    by : (c : Bool) → (if c then Some (Damaged key.id (Some (sha1 stored))) else None) ≡ Some fault → damage_at objects key ≡ (if c then Some (Damaged key.id (Some (sha1 stored))) else None)
        → IsFault objects (reply.Refused (store_refusal fault))
    by true e at =
        let is : Damaged key.id (Some (sha1 stored)) ≡ fault = cc in
        is_damage fault is (at ∙ e)
    by false e at = cc

pub put_refused : (s : State) (key : Key) (bytes : List ℕ) (fault : StoreFault) (after : Option Objects)
    → (put_refusal s.objects key bytes ≡ Some fault) ⊎ (is_free fault ≡ true) → after ≡ Some s.objects
    → DoneSo s.objects (store_due s key bytes) (reply.Refused (store_refusal fault)) after
put_refused s key bytes fault after (inr free) is = put_fault s key bytes (reply.Refused (store_refusal fault)) after (free_told s.objects fault free) is
put_refused s key bytes fault after (inl due) is = by (refused_by key bytes fault (has_other_name key bytes) (same_bytes key.id _) (map.get s.objects key) due)
  where
    by : (first_refusal (own_name key bytes ∷ taken s key bytes ∷ []) ≡ Some (store_refusal fault)) ⊎ (damage_of key (map.get s.objects key) ≡ Some fault)
        → DoneSo s.objects (store_due s key bytes) (reply.Refused (store_refusal fault)) after
    by (inl refused) =
        subst (λ d. DoneSo s.objects d (reply.Refused (store_refusal fault)) after) (sym (store_due-is s key bytes))
        (due_refused s key bytes (first_refusal (own_name key bytes ∷ taken s key bytes ∷ [])) (store_refusal fault) after refused is)
    by (inr damage) = put_fault s key bytes (reply.Refused (store_refusal fault)) after (damage_told s.objects key (map.get s.objects key) fault damage refl) is

-- ---- a put that isn't refused

none_stored : (key : Key) (c d : Bool) (damaged : StoreFault) → (if c then Some damaged else if d then None else Some (Taken key.id)) ≡ None
    → first_refusal (None ∷ then_some (not d) (refusal.Taken key.id) ∷ []) ≡ None
none_stored key true d damaged e = cc
none_stored key false true damaged e = refl
none_stored key false false damaged e = cc

none_by : (key : Key) (bytes : List ℕ) (a b : Bool) (o : Option (List ℕ))
    → first_fault (if a then Some (Wrong (sha1 bytes)) else if b then Some (Taken key.id) else None) (stored_refusal key bytes o) ≡ None
    → first_refusal (then_some a (refusal.Wrong (sha1 bytes)) ∷ then_some (b || other_bytes o bytes) (refusal.Taken key.id) ∷ []) ≡ None
none_by key bytes true b o e = cc
none_by key bytes false true o e = cc
none_by key bytes false false None e = refl
none_by key bytes false false (Some stored) e = none_stored key (has_other_name key stored) (same_bytes stored bytes) (Damaged key.id (Some (sha1 stored))) e

module _ (s : State) (key : Key) (bytes : List ℕ) (free : put_refusal s.objects key bytes ≡ None) where
  due_by : (b : Bool) → is_stored s.objects key ≡ b → store_due s key bytes ≡ (if b then Says (reply.Stored false) else Stores (record { key = key; bytes = bytes }))
  due_by b is =
      store_due-is s key bytes ∙ ap (put_by s key bytes) (none_by key bytes (has_other_name key bytes) (same_bytes key.id _) (map.get s.objects key) free)
      ∙ ap (λ c. if c then Says (reply.Stored false) else Stores (record { key = key; bytes = bytes })) is

  -- an object that wasn't stored, and one that was
  pub new_done : (after : Option Objects) → is_stored s.objects key ≡ false → after ≡ Some (map.insert s.objects key bytes) → DoneSo s.objects (store_due s key bytes) (reply.Stored true) after
  new_done after absent grown =
      subst (λ d. DoneSo s.objects d (reply.Stored true) after) (sym (due_by false absent)) (inl (refl, grown ∙ ap Some (put_is_new s.objects key bytes free)))

  pub same_done : (after : Option Objects) → is_stored s.objects key ≡ true → after ≡ Some s.objects → DoneSo s.objects (store_due s key bytes) (reply.Stored false) after
  same_done after there kept = subst (λ d. DoneSo s.objects d (reply.Stored false) after) (sym (due_by true there)) (inl refl, kept)

-- what a put tells of the index
pub new_unknown : (b : Bool) → New ≡ (if b then Same else New) → b ≡ false
new_unknown true e = cc
new_unknown false e = refl

pub same_known : (b : Bool) → Same ≡ (if b then Same else New) → b ≡ true
same_known true e = refl
same_known false e = cc

-- an object whose key the index lacks isn't stored, and one whose put changes nothing is
pub unknown_absent : {S : Type 0} (contents : S → Option Contents) (store : StoreView S) (objects : Objects) (key : Key) → objects_of contents store ≡ Some objects
    → is_some (map.get store.index key) ≡ false → is_stored objects key ≡ false
unknown_absent contents store objects key told unknown =
    let at = mapped_at (indexed store.index) (contents store.shelf) objects told in
    ap (λ (o : Objects). is_some (map.get o key)) (sym at.gives) ∙ ap is_some (get-retained at.value.objects store.index key)
    ∙ ap (λ b. is_some (cond b (map.get at.value.objects key) None)) unknown

pub same_stored : (objects : Objects) (key : Key) (bytes : List ℕ) → Some (map.insert objects key bytes) ≡ Some objects → is_stored objects key ≡ true
same_stored objects key bytes e =
    let same : map.insert objects key bytes ≡ objects = cc in
    ap (λ (o : Objects). is_some (map.get o key)) (sym same) ∙ ap is_some (map.get-insert key_cmp_total objects key bytes key)
    ∙ ap (λ b. is_some (cond b (Some bytes) (map.get objects key))) (same_key-itself key)

-- ---- damage

no_damage_by_name : (a b : Bool) (sha id want : List ℕ) (got : Option (List ℕ))
    → first_refusal (then_some a (refusal.Wrong sha) ∷ then_some b (refusal.Taken id) ∷ []) ≡ Some (refusal.Damaged want got) → ⊥
no_damage_by_name true b sha id want got e = cc
no_damage_by_name false true sha id want got e = cc
no_damage_by_name false false sha id want got e = cc

-- damage that a put tells is that of what is stored under its key
pub put_damage : (objects : Objects) (key : Key) (bytes : List ℕ) (fault : StoreFault) → (put_refusal objects key bytes ≡ Some fault) ⊎ (is_free fault ≡ true)
    → IsToldDamage objects (reply.Refused (store_refusal fault))
put_damage objects key bytes (Taken id) e = tt
put_damage objects key bytes (Wrong id) e = tt
put_damage objects key bytes Shelf e = tt
put_damage objects key bytes NoMemory e = tt
put_damage objects key bytes (Damaged want got) (inr free) = absurd (true≢false (sym free))
put_damage objects key bytes (Damaged want got) (inl due) =
    by (refused_by key bytes (Damaged want got) (has_other_name key bytes) (same_bytes key.id _) (map.get objects key) due)
  where
    by : (first_refusal (own_name key bytes ∷ then_some (is_nil key.id || other_bytes (map.get objects key) bytes) (refusal.Taken key.id) ∷ []) ≡ Some (refusal.Damaged want got))
        ⊎ (damage_of key (map.get objects key) ≡ Some (Damaged want got)) → IsToldDamage objects (reply.Refused (refusal.Damaged want got))
    by (inl refused) = absurd (no_damage_by_name (has_other_name key bytes) (is_nil key.id || other_bytes (map.get objects key) bytes) (sha1 bytes) key.id want got refused)
    by (inr damage) = (key, damage)

-- a get's fault is one of the store's
pub get_fault : (objects : Objects) (key : Key) (fault : StoreFault) → (damage_at objects key ≡ Some fault) ⊎ (is_free fault ≡ true) → IsFault objects (reply.Refused (store_refusal fault))
get_fault objects key fault (inr free) = free_told objects fault free
get_fault objects key fault (inl due) = damage_told objects key (map.get objects key) fault due refl

pub get_damage : (objects : Objects) (key : Key) (fault : StoreFault) → (damage_at objects key ≡ Some fault) ⊎ (is_free fault ≡ true)
    → IsToldDamage objects (reply.Refused (store_refusal fault))
get_damage objects key (Taken id) e = tt
get_damage objects key (Wrong id) e = tt
get_damage objects key Shelf e = tt
get_damage objects key NoMemory e = tt
get_damage objects key (Damaged want got) (inr free) = absurd (true≢false (sym free))
get_damage objects key (Damaged want got) (inl due) = (key, due)

-- ---- the cause of each refusal, over any shelf

module _ (index : Index) (may_give : Slot → Option (List ℕ) → Type 0) (key : Key) where
  pub get_may : (fault : StoreFault) → IsGetFault may_give key fault → IsOfStored (map.get index key) key fault → MayGet index may_give key (reply.Refused (store_refusal fault))
  get_may (Taken id) cause known = absurd cause
  get_may (Wrong id) cause known = absurd cause
  get_may (Damaged want got) cause known = (damage_other may_give key want got cause, known, cause)
  get_may Shelf cause known = tt
  get_may NoMemory cause known = tt

  module _ (bytes : List ℕ) where
    by_name : Bool → Bool → Option Reply
    by_name a b = option_map reply.Refused (first_refusal (then_some a (refusal.Wrong (sha1 bytes)) ∷ then_some b (refusal.Taken key.id) ∷ []))

    free_name : (a b : Bool) → (a ≡ true → ⊥) → (b ≡ true → ⊥) → (r : Reply) → MayPut index may_give key bytes r → MayAnswer index may_give (act.Put key bytes) (by_name a b) r
    unfolding by_name
    free_name true b no_a no_b r may = absurd (no_a refl)
    free_name false true no_a no_b r may = absurd (no_b refl)
    free_name false false no_a no_b r may = may

    -- what was stored
    pub new_may : New ≡ (if is_some (map.get index key) then Same else New) → (has_other_name key bytes ≡ true → ⊥) → (is_nil key.id ≡ true → ⊥)
        → MayAnswer index may_give (act.Put key bytes) (store_decided key bytes) (reply.Stored true)
    unfolding by_name
    new_may told own named = free_name (has_other_name key bytes) (is_nil key.id) own named (reply.Stored true) (new_unknown (is_some (map.get index key)) told)

    pub same_may : Same ≡ (if is_some (map.get index key) then Same else New) → may_give (Object key) (Some bytes) → (has_other_name key bytes ≡ true → ⊥) → (is_nil key.id ≡ true → ⊥)
        → MayAnswer index may_give (act.Put key bytes) (store_decided key bytes) (reply.Stored false)
    unfolding by_name
    same_may told found own named = free_name (has_other_name key bytes) (is_nil key.id) own named (reply.Stored false) (same_known (is_some (map.get index key)) told, found)

    taken_may : (id : List ℕ) → (is_nil key.id ≡ false) → IsPutFault may_give key bytes (Taken id) → IsOfStored (map.get index key) key (Taken id)
        → MayPut index may_give key bytes (reply.Refused (refusal.Taken id))
    taken_may id named (at, inl zeros) known = absurd (true≢false (sym zeros ∙ named))
    taken_may id named (at, inr other) (inl zeros) = absurd (true≢false (sym zeros ∙ named))
    taken_may id named (at, inr other) (inr known) = (at, known, other)

    put_may : (fault : StoreFault) → (has_other_name key bytes ≡ false) → (is_nil key.id ≡ false) → IsPutFault may_give key bytes fault → IsOfStored (map.get index key) key fault
        → MayPut index may_give key bytes (reply.Refused (store_refusal fault))
    put_may (Taken id) own named cause known = taken_may id named cause known
    put_may (Wrong id) own named (at, other) known = absurd (true≢false (sym other ∙ own))
    put_may (Damaged want got) own named cause known = (damage_other may_give key want got cause, known, cause)
    put_may Shelf own named cause known = tt
    put_may NoMemory own named cause known = tt

    want_may : (fault : StoreFault) (said : Reply) → (fault ≡ Wrong (sha1 bytes)) ⊎ (is_want fault ≡ true) → said ≡ reply.Refused (refusal.Wrong (sha1 bytes))
        → MayAnswer index may_give (act.Put key bytes) (Some said) (reply.Refused (store_refusal fault))
    want_may fault said (inl wrong) is = inl (ap (λ f. reply.Refused (store_refusal f)) wrong ∙ sym is)
    want_may NoMemory said (inr want) is = inr refl
    want_may Shelf said (inr want) is = absurd (true≢false (sym want))
    want_may (Taken id) said (inr want) is = absurd (true≢false (sym want))
    want_may (Wrong id) said (inr want) is = absurd (true≢false (sym want))
    want_may (Damaged wanted got) said (inr want) is = absurd (true≢false (sym want))

    -- what was refused
    pub refused_may : (fault : StoreFault) → IsPutFault may_give key bytes fault → IsOfStored (map.get index key) key fault
        → (has_other_name key bytes ≡ true → (fault ≡ Wrong (sha1 bytes)) ⊎ (is_want fault ≡ true))
        → (has_other_name key bytes ≡ false → is_nil key.id ≡ true → fault ≡ Taken key.id)
        → MayAnswer index may_give (act.Put key bytes) (store_decided key bytes) (reply.Refused (store_refusal fault))
    unfolding by_name
    refused_may fault cause known wrong taken = by (has_other_name key bytes) (is_nil key.id) refl refl
      where
        by : (a b : Bool) → has_other_name key bytes ≡ a → is_nil key.id ≡ b → MayAnswer index may_give (act.Put key bytes) (by_name a b) (reply.Refused (store_refusal fault))
        by true b other named = want_may fault (reply.Refused (refusal.Wrong (sha1 bytes))) (wrong other) refl
        by false true other named = inl (ap (λ f. reply.Refused (store_refusal f)) (taken other named))
        by false false other named = put_may fault other named cause known
