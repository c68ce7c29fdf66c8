-- What each act answers and leaves. The key lemmas are get_serves, put_serves, missing_serves, list_serves, head_serves,
-- download_serves, upload_serves, limit_serves and days_serve.
use Rattle.std.proofs.Common.{◌≡◌, ℕ, Bool, true, false, if◌then◌else◌, List, refl, sym, ap, ◌∙◌, subst, Option, None, Some, Result}
use Rattle.std.specs.Prelude.{ℤ, ⊤, OnOk, OnErr}
use Rattle.std.specs.FinMap as map
use Rattle.ids.specs.Key.{Objects}
use Rattle.ids.specs.declared.key.Key.{Key}
use Rattle.ids.specs.declared.key.Kind.{Kind}
use Rattle.library_rules.specs.Calls.{Due, Says, absent, act_due, due, got, listed, put_due, token_of, said_by}
use Rattle.library_rules.specs.Changes.{act_changes, seen_by}
use Rattle.library_rules.specs.LibraryState.{State, IsSound, head_of, is_day_count}
use Rattle.library_rules.proofs.SoundLemmas.{numbers_limited, sound_checked}
use Rattle.library_state.specs.declared.call.Act.{Act}
use Rattle.library_state.specs.declared.call.Act.TheVariants as act
use Rattle.library_state.specs.declared.call.Call.{Call}
use Rattle.library_state.specs.declared.call.Op.TheVariants as op
use Rattle.library_state.specs.declared.refusal.Refusal.TheVariants as refusal
use Rattle.library_state.specs.declared.reply.Reply.{Reply}
use Rattle.library_state.specs.declared.reply.Reply.TheVariants as reply
use Rattle.library_state.specs.declared.state.LibState.{LibState}
use Rattle.library_state.specs.declared.token.Token.{Token}
use Rattle.object_store.specs.Shelf.{Contents}
use Rattle.object_store.specs.Store.{CountsShelf}
use Rattle.object_store.specs.StoreView.{AddsNoStray, Keeps, StoreView, objects_of, status_of}
use Rattle.object_store.proofs.StrayLemmas.{strays_kept}
use Rattle.object_store.specs.declared.error.StoreFault.{StoreFault}
use Rattle.object_store.specs.declared.shelf.Slot.{Slot as ShelfSlot}
use Rattle.depot.specs.Answering.{MayAnswer, MayGet, MayTell, Serves, act_decided, decided, ids_decided, next_by, permits, put_decided}
use Rattle.depot.specs.Changing.{TextSo}
use Rattle.depot.specs.DepotView.{at_rest, DepotView, depot_of, library, IsGood}
use Rattle.depot.specs.FreshKeys.{told_there}
use Rattle.depot.specs.NextState.{answered}
use Rattle.depot.specs.ObjectCalls.{Counts, DoneSo, IsToldDamage, SaysOr, is_counted}
use Rattle.depot.proofs.AnsweringLemmas.{is_quiet}
use Rattle.depot.proofs.GoodLemmas.{sound_at}
use Rattle.depot.proofs.GrownLemmas.{kept_status}
use Rattle.depot.proofs.ServingLemmas.{decided_is, due_as, serves_put, serves_said, serves_still}
use Rattle.depot.specs.Refusals.{answer_of}
use Rattle.depot.proofs.TextLemmas.{good_changed, serves_changed}
use Rattle.library_rules.proofs.CallsLemmas.{said_due}

module _ {S : Type 0} (contents : S → Option Contents) (may_give : S → ShelfSlot → Option (List ℕ) → Type 0) (texts faults : S → ℕ) (old : DepotView S) (call : Call) (moment : ℕ)
    (right : permits (token_of old.state.tokens call.secret) call.act ≡ true) where
  abbrev given : Objects → State
  given objects = library old.state (faults old.store.shelf) objects

  abbrev Told : (Objects → Type 0) → Type 0
  Told P = (objects : Objects) → objects_of contents old.store ≡ Some objects → P objects

  abbrev Left : Reply → StoreView S → Type 0
  Left r store = Serves contents may_give texts faults (at_rest old) call moment r (depot_of store old.state old.unsettled None)

  decided_by : (a : Act) → call.act ≡ a → (o : Option Reply) → ((token : Token) → act_decided old.state token a ≡ o) → decided old.state call ≡ o
  decided_by a is o each = decided_is old.state call right o (λ token known. ap (act_decided old.state token) is ∙ each token)

  due_by : (a : Act) → call.act ≡ a → (objects : Objects) (d : Due) → ((token : Token) → act_due (given objects) token a ≡ d) → due (given objects) call ≡ d
  due_by a is objects d each = due_as (given objects) call right d (λ token. ap (act_due (given objects) token) is ∙ each token)

  may_by : (a : Act) → call.act ≡ a → (o : Option Reply) → decided old.state call ≡ o → (give : ShelfSlot → Option (List ℕ) → Type 0) (r : Reply)
      → MayAnswer old.store.index give a o r → MayAnswer old.store.index give call.act (decided old.state call) r
  may_by a is o decides give r may_come =
      subst (λ b. MayAnswer old.store.index give b (decided old.state call) r) (sym is) (subst (λ p. MayAnswer old.store.index give a p r) (sym decides) may_come)

  quiet_by : (a : Act) → call.act ≡ a → is_quiet a ≡ true → is_quiet call.act ≡ true
  quiet_by a is quiet = subst (λ b. is_quiet b ≡ true) (sym is) quiet

  -- ---- objects

  pub get_serves : (key : Key) → call.act ≡ act.Get key → (store : StoreView S) (r : Reply) → Keeps contents old.store store → texts store.shelf ≡ texts old.store.shelf
      → Told (λ objects. SaysOr objects (got key (map.get objects key)) r) → MayGet old.store.index (may_give store.shelf) key r → Told (λ objects. IsToldDamage objects r)
      → Counts (faults old.store.shelf) (faults store.shelf) r → Left r store
  get_serves key is store r keeps written says may_come damage count =
      serves_said contents may_give texts faults old call moment (quiet_by (act.Get key) is refl) store r (kept_status contents old.store store keeps) written
      (may_by (act.Get key) is None (decided_by (act.Get key) is None (λ token. refl)) (may_give store.shelf) r may_come) damage count (λ _. strays_kept contents old.store store keeps.index keeps.shelf) keeps.objects
      (λ objects told. (got key (map.get objects key), due_by (act.Get key) is objects (Says (got key (map.get objects key))) (λ token. refl), says objects told))

  pub put_serves : (key : Key) (bytes : List ℕ) → call.act ≡ act.Put key bytes → (store : StoreView S) (r : Reply) → status_of contents store ≡ status_of contents old.store
      → texts store.shelf ≡ texts old.store.shelf
      → Told (λ objects. DoneSo objects (put_due (given objects) key bytes) r (objects_of contents store))
      → MayAnswer old.store.index (may_give store.shelf) (act.Put key bytes) (put_decided old.state.lib key bytes) r → Told (λ objects. IsToldDamage objects r)
      → Counts (faults old.store.shelf) (faults store.shelf) r → (is_counted r ≡ false → AddsNoStray contents old.store store) → Left r store
  put_serves key bytes is store r text_kept written done may_come damage count lying =
      serves_put contents may_give texts faults old call moment (quiet_by (act.Put key bytes) is refl) store r text_kept written
      (may_by (act.Put key bytes) is (put_decided old.state.lib key bytes) (decided_by (act.Put key bytes) is (put_decided old.state.lib key bytes) (λ token. refl)) (may_give store.shelf) r may_come)
      damage count lying key bytes is
      (λ objects told. (due_by (act.Put key bytes) is objects (put_due (given objects) key bytes) (λ token. refl), done objects told))

  pub missing_serves : (k : Kind) (ids : List (List ℕ)) → call.act ≡ act.Missing k ids → (r : Reply)
      → Told (λ objects. SaysOr objects (reply.Absent (absent (given objects) k ids)) r) → MayTell old.store.index k ids r → Told (λ objects. IsToldDamage objects r)
      → Counts (faults old.store.shelf) (faults old.store.shelf) r → Left r old.store
  missing_serves k ids is r says may_come damage count =
      serves_said contents may_give texts faults old call moment (quiet_by (act.Missing k ids) is refl) old.store r refl refl
      (may_by (act.Missing k ids) is None (decided_by (act.Missing k ids) is None (λ token. refl)) (may_give old.store.shelf) r may_come) damage count (λ _ key stray. stray) refl
      (λ objects told. (reply.Absent (absent (given objects) k ids), due_by (act.Missing k ids) is objects (Says (reply.Absent (absent (given objects) k ids))) (λ token. refl), says objects told))

  abbrev list_said : Objects → List ℕ → Option (List ℕ) → Reply
  list_said objects server client = said_by (ids_decided old.state.kept server) (listed (given objects) server client)

  pub list_serves : (server : List ℕ) (client : Option (List ℕ)) → call.act ≡ act.Ids server client → (store : StoreView S) (r : Reply) → Keeps contents old.store store
      → texts store.shelf ≡ texts old.store.shelf
      → Told (λ objects. SaysOr objects (list_said objects server client) r) → MayAnswer store.index (may_give store.shelf) (act.Ids server client) (ids_decided old.state.kept server) r
      → Told (λ objects. IsToldDamage objects r) → Counts (faults old.store.shelf) (faults store.shelf) r → Left r store
  list_serves server client is store r keeps written says may_come damage count =
      serves_said contents may_give texts faults old call moment (quiet_by (act.Ids server client) is refl) store r (kept_status contents old.store store keeps) written
      (may_by (act.Ids server client) is (ids_decided old.state.kept server) (decided_by (act.Ids server client) is (ids_decided old.state.kept server) (λ token. refl)) (may_give store.shelf) r
      (subst (λ index. MayAnswer index (may_give store.shelf) (act.Ids server client) (ids_decided old.state.kept server) r) keeps.index may_come))
      damage count (λ _. strays_kept contents old.store store keeps.index keeps.shelf) keeps.objects
      (λ objects told. (
        list_said objects server client,
        due_by (act.Ids server client) is objects (Says (list_said objects server client)) (λ token. said_due (ids_decided old.state.kept server) (listed (given objects) server client)),
        says objects told,
      ))

  -- ---- answers of the state alone

  -- what is due, whatever collection runs
  due_of : (a : Act) → call.act ≡ a → (s : State) → s.state.tokens ≡ old.state.tokens → (d : Due) → ((token : Token) → act_due s token a ≡ d) → due s call ≡ d
  due_of a is s same d each =
      due_as s call (subst (λ tokens. permits (token_of tokens call.secret) call.act ≡ true) (sym same) right) d (λ token. ap (act_due s token) is ∙ each token)

  pub head_serves : call.act ≡ act.Head → Serves contents may_give texts faults old call moment (reply.HeadIs (head_of old.state.kept)) old
  head_serves is =
      serves_still contents may_give texts faults old call moment (reply.HeadIs (head_of old.state.kept))
      (λ s kept tokens. due_of act.Head is s tokens (Says (reply.HeadIs (head_of old.state.kept))) (λ token. ap (λ installs. Says (reply.HeadIs (head_of installs))) kept))
      (λ s. ap (λ a. act_changes call.secret moment a (reply.HeadIs (head_of old.state.kept)) s) is)
      (decided_by act.Head is (Some (reply.HeadIs (head_of old.state.kept))) (λ token. refl)) (λ objects. tt) refl
      (sym (ap (λ a. next_by old.state call.secret moment a (reply.HeadIs (head_of old.state.kept))) is))
      (ap (λ a. told_there old.store.index a (reply.HeadIs (head_of old.state.kept))) is)

  pub download_serves : call.act ≡ act.Check op.Download → Serves contents may_give texts faults old call moment reply.Checked old
  download_serves is =
      serves_still contents may_give texts faults old call moment reply.Checked
      (λ s kept tokens. due_of (act.Check op.Download) is s tokens (Says reply.Checked) (λ token. refl))
      (λ s. ap (λ a. act_changes call.secret moment a reply.Checked s) is)
      (decided_by (act.Check op.Download) is (Some reply.Checked) (λ token. refl)) (λ objects. tt) refl
      (sym (ap (λ a. next_by old.state call.secret moment a reply.Checked) is))
      (ap (λ a. told_there old.store.index a reply.Checked) is)

  pub days_serve : (days : ℤ) → call.act ≡ act.Limit days → is_day_count days ≡ false → Serves contents may_give texts faults old call moment (reply.Refused (refusal.BadDays days)) old
  days_serve days is bad =
      serves_still contents may_give texts faults old call moment (reply.Refused (refusal.BadDays days))
      (λ s kept tokens. due_of (act.Limit days) is s tokens (Says (reply.Refused (refusal.BadDays days))) (λ token. ap (λ b. Says (if b then reply.Limited else reply.Refused (refusal.BadDays days))) bad))
      (λ s. refl)
      (decided_by (act.Limit days) is (Some (reply.Refused (refusal.BadDays days))) (λ token. ap (λ b. Some (if b then reply.Limited else reply.Refused (refusal.BadDays days))) bad))
      (λ objects. tt) refl refl
      (ap (λ a. told_there old.store.index a (reply.Refused (refusal.BadDays days))) is)

  -- ---- the state text

  pub upload_serves : (tokens : List Token) → call.act ≡ act.Check op.Upload → seen_by call.secret old.state.collection old.state.tokens ≡ tokens
      → (store : StoreView S) (state : LibState) (still : Bool) → objects_of contents store ≡ objects_of contents old.store → AddsNoStray contents old.store store → (result : Result ⊤ StoreFault)
      → OnOk result (state ≡ record old.state { tokens = tokens }) → OnErr result (state ≡ old.state)
      → TextSo old.unsettled old.state (record old.state { tokens = tokens }) (status_of contents old.store) still (status_of contents store) result
      (texts old.store.shelf) (texts store.shelf)
      → CountsShelf (faults old.store.shelf) (faults store.shelf) result
      → Serves contents may_give texts faults (at_rest old) call moment (answer_of reply.Checked result) (depot_of store state still None)
  upload_serves tokens is seen store state still kept lying =
      serves_changed contents may_give texts faults old call moment reply.Checked (record old.state { tokens = tokens }) refl
      (decided_by (act.Check op.Upload) is (Some reply.Checked) (λ token. refl))
      (ap (λ a. next_by old.state call.secret moment a reply.Checked) is ∙ ap (λ ts. record old.state { tokens = ts }) seen)
      (λ objects. due_by (act.Check op.Upload) is objects (Says reply.Checked) (λ token. refl))
      (λ objects. ap (λ a. act_changes call.secret moment a reply.Checked (given objects)) is
      ∙ ap (λ ts. library (record old.state { tokens = ts }) (faults old.store.shelf) objects) seen)
      store state still kept lying

  pub limit_serves : (days : ℤ) → call.act ≡ act.Limit days → is_day_count days ≡ true
      → (store : StoreView S) (state : LibState) (still : Bool) → objects_of contents store ≡ objects_of contents old.store → AddsNoStray contents old.store store → (result : Result ⊤ StoreFault)
      → OnOk result (state ≡ record old.state { days = days }) → OnErr result (state ≡ old.state)
      → TextSo old.unsettled old.state (record old.state { days = days }) (status_of contents old.store) still (status_of contents store) result
      (texts old.store.shelf) (texts store.shelf)
      → CountsShelf (faults old.store.shelf) (faults store.shelf) result
      → Serves contents may_give texts faults (at_rest old) call moment (answer_of reply.Limited result) (depot_of store state still None)
  limit_serves days is fits store state still kept lying =
      serves_changed contents may_give texts faults old call moment reply.Limited (record old.state { days = days }) refl
      (decided_by (act.Limit days) is (Some reply.Limited) (λ token. ap (λ b. Some (if b then reply.Limited else reply.Refused (refusal.BadDays days))) fits))
      (ap (λ a. next_by old.state call.secret moment a reply.Limited) is)
      (λ objects. due_by (act.Limit days) is objects (Says reply.Limited) (λ token. ap (λ b. Says (if b then reply.Limited else reply.Refused (refusal.BadDays days))) fits))
      (λ objects. ap (λ a. act_changes call.secret moment a reply.Limited (given objects)) is)
      store state still kept lying

-- ---- the library stays good

module _ {S : Type 0} (contents : S → Option Contents) (texts faults : S → ℕ) (old : DepotView S) (good : IsGood contents faults (at_rest old)) where
  pub upload_good : (secret : Option (List ℕ)) (tokens : List Token) → seen_by secret old.state.collection old.state.tokens ≡ tokens
      → (store : StoreView S) (state : LibState) (still : Bool) (result : Result ⊤ StoreFault) → OnOk result (state ≡ record old.state { tokens = tokens }) → OnErr result (state ≡ old.state)
      → TextSo old.unsettled old.state (record old.state { tokens = tokens }) (status_of contents old.store) still (status_of contents store) result
      (texts old.store.shelf) (texts store.shelf)
      → objects_of contents store ≡ objects_of contents old.store → IsGood contents faults (depot_of store state still None)
  upload_good secret tokens seen =
      good_changed contents texts faults old (record old.state { tokens = tokens }) good
      (answered (record { secret = secret; act = act.Check op.Upload }) 0 reply.Checked refl (ap (λ ts. record old.state { tokens = ts }) seen)) good.head
      (λ objects count told. subst (λ ts. IsSound (library (record old.state { tokens = ts }) count objects)) seen
      (sound_checked (library old.state count objects) secret (sound_at contents faults old good objects count told)))

  pub limit_good : (days : ℤ) → is_day_count days ≡ true
      → (store : StoreView S) (state : LibState) (still : Bool) (result : Result ⊤ StoreFault) → OnOk result (state ≡ record old.state { days = days }) → OnErr result (state ≡ old.state)
      → TextSo old.unsettled old.state (record old.state { days = days }) (status_of contents old.store) still (status_of contents store) result
      (texts old.store.shelf) (texts store.shelf)
      → objects_of contents store ≡ objects_of contents old.store → IsGood contents faults (depot_of store state still None)
  limit_good days fits =
      good_changed contents texts faults old (record old.state { days = days }) good
      (answered (record { secret = None; act = act.Limit days }) 0 reply.Limited refl refl) good.head (λ objects count told. limited objects count (sound_at contents faults old good objects count told))
    where
      limited : (objects : Objects) (count : ℕ) → IsSound (library old.state count objects) → IsSound (library (record old.state { days = days }) count objects)
      limited objects count sound = record {
        kept = sound.kept;
        tokens = sound.tokens;
        numbers = numbers_limited old.state.collection old.state.opening old.state.days days old.state.name fits sound.numbers;
      }
