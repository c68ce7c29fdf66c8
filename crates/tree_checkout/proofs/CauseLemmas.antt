-- Which orders of a checkout went well, and the cause of each fault. The key lemmas are all_went, stopped_well, ordered_went, got_fresh,
-- stopped_fresh, caused_stop, got_asks, stopped_asks, got_ordered, stopped_ordered, has_of_got and has_of_stopped.
use Rattle.std.proofs.Common.{◌≡◌, ◌⊎◌, ℕ, Bool, true, false, All, if◌then◌else◌, List, [], ◌∷◌, ◌++◌, None, Some, Ok, length, refl, sym, ap, subst, ◌∙◌, inl, inr, true≢false, arith}
use Rattle.std.specs.List.{Contains, cons_option, filter_map, flat_map}
use Rattle.std.proofs.lemmas.Grind.{flat_map-append}
use Rattle.std.proofs.lemmas.List.Elements.{All-cons, All-nil, Contains-append_right}
use Rattle.std.proofs.lemmas.Slice.Eq.{bytes_eq-Decides}
use Rattle.sha1.specs.Sha1.{sha1}
use Rattle.ids.specs.Key.{Objects}
use Rattle.http_front.specs.declared.order.Order.{Order}
use Rattle.http_front.specs.declared.order.What.TheVariants as what
use Rattle.http_front.specs.declared.outcome.Outcome.TheVariants.{Plain, Refused}
use Rattle.library_state.specs.declared.refusal.Refusal.{Refusal}
use Rattle.library_state.specs.declared.refusal.Refusal.TheVariants as refusal
use Rattle.library_state.specs.declared.reply.Reply.TheVariants as reply
use Rattle.library_state.specs.declared.tag.Tag.{Tag}
use Rattle.object_graph.specs.Objects.{block_key}
use Rattle.remote_calls.specs.Sends.{Ending, Sent}
use Rattle.sync_rules.specs.Causes.{CausedBy, GoesWell, IsRefusedBy, WentWell, ends_sync, is_of_order, is_stale, stale_count}
use Rattle.sync_rules.specs.Named.{HasAll, HasGot, IsNamedSo, Named, got_in, is_block, is_get}
use Rattle.sync_rules.specs.Orders.{IsSyncOrder}
use Rattle.sync_rules.specs.declared.fault.SyncFault.{SyncFault}
use Rattle.sync_rules.specs.declared.fault.SyncFault.TheVariants as fault
use Rattle.sync_rules.proofs.GotLemmas.{got_has}
use Rattle.tree_checkout.specs.BlockGets.{AreGot, ComesNamed, IsGot, IsToldBy, Stops, block_order, had_of, is_quiet}
use Rattle.tree_checkout.specs.declared.block_gets.Source.{Source}
use Rattle.tree_checkout.proofs.HadLemmas.{got_had, stopped_had, told_at}

-- ---- orders that went well

went_ending : (source : Source) (id : List ℕ) (ending : Ending) → ComesNamed id ending → WentWell (block_order source id, ending)
went_ending source id (Ok (Plain (reply.Got bytes) tag)) comes =
    (refl, All-cons IsNamedSo (block_key id, Some bytes) [] ((bytes_eq-Decides (sha1 bytes) id).1 comes) (All-nil IsNamedSo))
went_ending source id other comes = absurd comes

went_got : (source : Source) (id : List ℕ) (sent : Sent) → IsGot source id sent → WentWell sent
went_got source id sent got = subst (λ (order : Order). WentWell (order, sent.1)) (sym got.asked) (went_ending source id sent.1 got.comes)

pub all_went : (source : Source) (ids : List (List ℕ)) (more : List Sent) → AreGot source ids more → All WentWell more
all_went source [] [] are = All-nil WentWell
all_went source [] (sent ∷ more) are = absurd are
all_went source (id ∷ ids) [] are = absurd are
all_went source (id ∷ ids) (sent ∷ more) are = All-cons WentWell sent more (went_got source id sent are.0) (all_went source ids more are.1)

some_left : (sent : Sent) (more : List Sent) → sent ∷ more ≡ [] → ⊥
some_left sent more e = cc

-- each but the last went well
pub stopped_well : (source : Source) (f : SyncFault) (more : List Sent) (ids : List (List ℕ)) → Stops source more ids f → GoesWell more
stopped_well source f [] ids stops = tt
stopped_well source f (sent ∷ []) ids stops = tt
stopped_well source f (sent ∷ next ∷ more) [] stops = absurd stops
stopped_well source f (sent ∷ next ∷ more) (id ∷ ids) (inl on) = (went_got source id sent on.0, stopped_well source f (next ∷ more) ids on.1)
stopped_well source f (sent ∷ next ∷ more) (id ∷ ids) (inr ends) = absurd (some_left next more ends.1)

-- ---- the send that told a fault

record LastTold (source : Source) (f : SyncFault) (more : List Sent) : Type 0 where
  id : List ℕ
  before : List Sent
  sent : Sent
  ends : more ≡ before ++ sent ∷ []
  told : IsToldBy source id sent f

-- no send told it and all went well, or the last one did
last_told : (source : Source) (f : SyncFault) (more : List Sent) (ids : List (List ℕ)) → Stops source more ids f
    → ((is_quiet f ≡ true) × All WentWell more) ⊎ LastTold source f more
last_told source f [] ids stops = inl (stops, All-nil WentWell)
last_told source f (sent ∷ more) [] stops = absurd stops
last_told source f (sent ∷ more) (id ∷ ids) (inl on) = by (last_told source f more ids on.1)
  where
    by : ((is_quiet f ≡ true) × All WentWell more) ⊎ LastTold source f more → ((is_quiet f ≡ true) × All WentWell (sent ∷ more)) ⊎ LastTold source f (sent ∷ more)
    by (inl quiet) = inl (quiet.0, All-cons WentWell sent more (went_got source id sent on.0) quiet.1)
    by (inr last) = inr (record {
      id = last.id;
      before = sent ∷ last.before;
      sent = last.sent;
      ends = ap (λ (rest : List Sent). sent ∷ rest) last.ends;
      told = last.told;
    })
last_told source f (sent ∷ more) (id ∷ ids) (inr ends) =
    inr (record { id = id; before = []; sent = sent; ends = ap (λ (rest : List Sent). sent ∷ rest) ends.1; told = ends.0 })

-- a fault that a send tells is one of an order
told_ordered : (source : Source) (id : List ℕ) (sent : Sent) (f : SyncFault) → is_of_order f ≡ false → IsToldBy source id sent f → ⊥
told_ordered source id sent (fault.Remote why) other told = true≢false other
told_ordered source id sent (fault.Refused why) other told = true≢false other
told_ordered source id sent (fault.Damaged want got) other told = true≢false other
told_ordered source id sent f other told = told

pub ordered_went : (source : Source) (f : SyncFault) (more : List Sent) (ids : List (List ℕ)) → Stops source more ids f → is_of_order f ≡ false → All WentWell more
ordered_went source f more ids stops other = by (last_told source f more ids stops)
  where
    by : ((is_quiet f ≡ true) × All WentWell more) ⊎ LastTold source f more → All WentWell more
    by (inl quiet) = quiet.1
    by (inr last) = absurd (told_ordered source last.id last.sent f other last.told)

-- ---- no update was sent, so none came too late

comes_fresh : (id : List ℕ) (ending : Ending) → ComesNamed id ending → is_stale ending ≡ false
comes_fresh id (Ok (Plain (reply.Got bytes) tag)) comes = refl
comes_fresh id other comes = absurd comes

refused_fresh : (id : List ℕ) (why : Refusal) (ending : Ending) → IsRefusedBy ending why → ends_sync (what.Get (block_key id)) why ≡ true → is_stale ending ≡ false
refused_fresh id why (Ok (Plain (reply.Refused (refusal.Stale last now)) tag)) is ends =
    absurd (true≢false (sym ends ∙ ap (ends_sync (what.Get (block_key id))) (sym is)))
refused_fresh id why (Ok (Refused (refusal.Stale last now))) is ends = absurd (true≢false (sym ends ∙ ap (ends_sync (what.Get (block_key id))) (sym is)))
refused_fresh id why other is ends = refl

told_fresh : (source : Source) (id : List ℕ) (sent : Sent) (f : SyncFault) → IsToldBy source id sent f → is_stale sent.1 ≡ false
told_fresh source id sent (fault.Remote why) told = ap (λ (s : Sent). is_stale s.1) told
told_fresh source id sent (fault.Refused why) told = refused_fresh id why sent.1 told.1 told.2
told_fresh source id sent (fault.Damaged want got) told = ap (λ (s : Sent). is_stale s.1) told.4
told_fresh source id sent other told = absurd told

fresh_more : (sent : Sent) (more : List Sent) → is_stale sent.1 ≡ false → stale_count more ≡ 0 → stale_count (sent ∷ more) ≡ 0
fresh_more sent more fresh none =
    ap (λ (b : Bool). length (cons_option (if b then Some sent else None) (filter_map (λ (s : Sent). if is_stale s.1 then Some s else None) more))) fresh ∙ none

pub got_fresh : (source : Source) (ids : List (List ℕ)) (more : List Sent) → AreGot source ids more → stale_count more ≡ 0
got_fresh source [] [] are = refl
got_fresh source [] (sent ∷ more) are = absurd are
got_fresh source (id ∷ ids) [] are = absurd are
got_fresh source (id ∷ ids) (sent ∷ more) are = fresh_more sent more (comes_fresh id sent.1 are.0.comes) (got_fresh source ids more are.1)

pub stopped_fresh : (source : Source) (f : SyncFault) (more : List Sent) (ids : List (List ℕ)) → Stops source more ids f → stale_count more ≡ 0
stopped_fresh source f [] ids stops = refl
stopped_fresh source f (sent ∷ more) [] stops = absurd stops
stopped_fresh source f (sent ∷ more) (id ∷ ids) (inl on) = fresh_more sent more (comes_fresh id sent.1 on.0.comes) (stopped_fresh source f more ids on.1)
stopped_fresh source f (sent ∷ more) (id ∷ ids) (inr ends) =
    fresh_more sent more (told_fresh source id sent f ends.0) (ap (λ (rest : List Sent). stale_count rest) ends.1)

-- ---- the cause of each fault

damaged_came : (source : Source) (id bytes : List ℕ) (tag : Tag) (before more : List Sent) (sent : Sent) → more ≡ before ++ sent ∷ []
    → sent ≡ (block_order source id, Ok (Plain (reply.Got bytes) tag)) → Contains (flat_map got_in more) (block_key id, Some bytes)
damaged_came source id bytes tag before more sent ends is =
    let last : Sent = (block_order source id, Ok (Plain (reply.Got bytes) tag)) in
    subst (λ (all : List Sent). Contains (flat_map got_in all) (block_key id, Some bytes)) (sym (ends ∙ ap (λ (s : Sent). before ++ s ∷ []) is))
    (subst (λ (all : List Named). Contains all (block_key id, Some bytes)) (sym (flat_map-append got_in before (last ∷ [])))
    (Contains-append_right (flat_map got_in before) (flat_map got_in (last ∷ [])) (block_key id, Some bytes) (0, omega arith, refl)))

module _ (here : SyncFault → Type 0) (source : Source) (more : List Sent) where
  by_cause : (f : SyncFault) → ((is_quiet f ≡ true) × All WentWell more) ⊎ LastTold source f more → (is_quiet f ≡ true → here f) → CausedBy here more f
  by_cause fault.NoMemory told quiet = tt
  by_cause (fault.Remote why) (inl none) quiet = absurd (true≢false (sym none.0))
  by_cause (fault.Remote why) (inr last) quiet = (block_order source last.id, (last.before, last.ends ∙ ap (λ (s : Sent). last.before ++ s ∷ []) last.told))
  by_cause (fault.Refused why) (inl none) quiet = absurd (true≢false (sym none.0))
  by_cause (fault.Refused why) (inr last) quiet =
      inl (
        block_order source last.id,
        last.sent.1,
        (last.before, last.ends ∙ ap (λ (order : Order). last.before ++ (order, last.sent.1) ∷ []) last.told.0),
        last.told.1,
        last.told.2,
      )
  by_cause (fault.Damaged want got) (inl none) quiet = absurd (true≢false (sym none.0))
  by_cause (fault.Damaged want got) (inr last) quiet = (
    block_key last.id,
    last.told.2,
    sym last.told.0,
    last.told.5,
    (λ same. last.told.1 (same ∙ last.told.0)),
    (λ same. true≢false (ap is_block same)),
    damaged_came source last.id last.told.2 last.told.3 last.before more last.sent last.ends last.told.4,
  )
  by_cause (fault.BadTree why) (inl none) quiet = inr (none.1, quiet none.0)
  by_cause (fault.BadTree why) (inr last) quiet = absurd last.told
  by_cause fault.NotEmpty (inl none) quiet = absurd (true≢false (sym none.0))
  by_cause fault.NotEmpty (inr last) quiet = absurd last.told
  by_cause (fault.Stale now) (inl none) quiet = absurd (true≢false (sym none.0))
  by_cause (fault.Stale now) (inr last) quiet = absurd last.told
  by_cause fault.Folder (inl none) quiet = quiet none.0
  by_cause fault.Folder (inr last) quiet = absurd last.told
  by_cause (fault.Changed path) (inl none) quiet = quiet none.0
  by_cause (fault.Changed path) (inr last) quiet = absurd last.told
  by_cause (fault.Blocked path) (inl none) quiet = quiet none.0
  by_cause (fault.Blocked path) (inr last) quiet = absurd last.told
  by_cause (fault.Scan why) (inl none) quiet = quiet none.0
  by_cause (fault.Scan why) (inr last) quiet = absurd last.told

  pub caused_stop : (ids : List (List ℕ)) (f : SyncFault) → Stops source more ids f → (is_quiet f ≡ true → here f) → CausedBy here more f
  caused_stop ids f stops quiet = by_cause f (last_told source f more ids stops) quiet

-- ---- objects that have what was got

abbrev pub AsksGet : Sent → Type 0
AsksGet sent = is_get sent.0.what ≡ true

pub got_asks : (source : Source) (ids : List (List ℕ)) (more : List Sent) → AreGot source ids more → All AsksGet more
got_asks source [] [] are = All-nil AsksGet
got_asks source [] (sent ∷ more) are = absurd are
got_asks source (id ∷ ids) [] are = absurd are
got_asks source (id ∷ ids) (sent ∷ more) are =
    All-cons AsksGet sent more (ap (λ (order : Order). is_get order.what) are.0.asked) (got_asks source ids more are.1)

pub stopped_asks : (source : Source) (f : SyncFault) (more : List Sent) (ids : List (List ℕ)) → Stops source more ids f → All AsksGet more
stopped_asks source f [] ids stops = All-nil AsksGet
stopped_asks source f (sent ∷ more) [] stops = absurd stops
stopped_asks source f (sent ∷ more) (id ∷ ids) (inl on) =
    All-cons AsksGet sent more (ap (λ (order : Order). is_get order.what) on.0.asked) (stopped_asks source f more ids on.1)
stopped_asks source f (sent ∷ more) (id ∷ ids) (inr ends) =
    All-cons AsksGet sent more (ap (λ (order : Order). is_get order.what) (told_at source id sent f ends.0))
    (subst (All AsksGet) (sym ends.1) (All-nil AsksGet))

-- ---- orders of a sync

order_of_sync : (source : Source) (id : List ℕ) (sent : Sent) → sent.0 ≡ block_order source id → IsSyncOrder source.lib source.secret sent
order_of_sync source id sent asked = subst (λ (order : Order). IsSyncOrder source.lib source.secret (order, sent.1)) (sym asked) (refl, refl, refl, tt)

pub got_ordered : (source : Source) (ids : List (List ℕ)) (more : List Sent) → AreGot source ids more → All (IsSyncOrder source.lib source.secret) more
got_ordered source [] [] are = All-nil (IsSyncOrder source.lib source.secret)
got_ordered source [] (sent ∷ more) are = absurd are
got_ordered source (id ∷ ids) [] are = absurd are
got_ordered source (id ∷ ids) (sent ∷ more) are =
    All-cons (IsSyncOrder source.lib source.secret) sent more (order_of_sync source id sent are.0.asked) (got_ordered source ids more are.1)

pub stopped_ordered : (source : Source) (f : SyncFault) (more : List Sent) (ids : List (List ℕ)) → Stops source more ids f → All (IsSyncOrder source.lib source.secret) more
stopped_ordered source f [] ids stops = All-nil (IsSyncOrder source.lib source.secret)
stopped_ordered source f (sent ∷ more) [] stops = absurd stops
stopped_ordered source f (sent ∷ more) (id ∷ ids) (inl on) =
    All-cons (IsSyncOrder source.lib source.secret) sent more (order_of_sync source id sent on.0.asked) (stopped_ordered source f more ids on.1)
stopped_ordered source f (sent ∷ more) (id ∷ ids) (inr ends) =
    All-cons (IsSyncOrder source.lib source.secret) sent more (order_of_sync source id sent (told_at source id sent f ends.0))
    (subst (All (IsSyncOrder source.lib source.secret)) (sym ends.1) (All-nil (IsSyncOrder source.lib source.secret)))

pub has_of_got : (objects : Objects) (source : Source) (ids : List (List ℕ)) (more : List Sent) → AreGot source ids more → HasGot objects more → HasAll objects (had_of more)
has_of_got objects source ids more are has = got_has objects more (had_of more) (got_asks source ids more are) (got_had source ids more are) has

pub has_of_stopped : (objects : Objects) (source : Source) (f : SyncFault) (more : List Sent) (ids : List (List ℕ)) → Stops source more ids f → HasGot objects more
    → HasAll objects (had_of more)
has_of_stopped objects source f more ids stops has =
    got_has objects more (had_of more) (stopped_asks source f more ids stops) (stopped_had source more ids f stops) has
