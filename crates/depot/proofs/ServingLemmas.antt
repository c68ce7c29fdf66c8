-- What a call that writes no text answers and leaves. The key lemmas are permitted_by, denied_serves,
-- serves_said and serves_put.
use Rattle.std.proofs.Common.{◌≡◌, inl, inr, ℕ, Bool, true, false, not, ◌&&◌, ◌||◌, if◌then◌else◌, List, [], ◌∷◌, ◌++◌, refl, sym, ap, ◌∙◌, subst, true≢false, Option, None, Some, is_some, option_map}
use Rattle.std.specs.FinMap as map
use Rattle.std.specs.FinSet as set
use Rattle.ids.specs.Key.{Objects}
use Rattle.ids.specs.declared.key.Key.{Key}
use Rattle.library_rules.specs.Calls.{Due, Denies, Says, Stores, Installs, Merges, act_due, due, first_refusal, may, put_due, put_refusals, token_of}
use Rattle.library_rules.specs.Changes.{is_refused, put_new, step_changes}
use Rattle.library_rules.specs.LibraryState.{Running, State}
use Rattle.library_rules.specs.declared.entry.Step.TheVariants as step
use Rattle.library_rules.specs.declared.entry.Stored.{Stored}
use Rattle.library_state.specs.declared.call.Act.{Act}
use Rattle.library_state.specs.declared.call.Act.TheVariants as act
use Rattle.library_state.specs.declared.call.Call.{Call}
use Rattle.library_state.specs.declared.call.Op.TheVariants as op
use Rattle.library_state.specs.declared.refusal.Refusal.{Refusal}
use Rattle.library_state.specs.declared.refusal.Refusal.TheVariants as refusal
use Rattle.library_state.specs.declared.reply.Reply.{Reply}
use Rattle.library_state.specs.declared.reply.Reply.TheVariants as reply
use Rattle.library_state.specs.declared.state.LibState.{LibState}
use Rattle.library_state.specs.declared.token.Token.{Token}
use Rattle.object_store.specs.Shelf.{Contents}
use Rattle.object_graph.specs.Traversal.{is_in}
use Rattle.object_store.specs.StoreView.{AddsNoStray, Index, StoreView, objects_of, status_of}
use Rattle.object_store.specs.declared.shelf.Slot.{Slot as ShelfSlot}
use Rattle.depot.specs.Answering.{AnswersBySome, MayAnswer, Serves, act_decided, decided, next_by, next_state, permits, state_after, token_decided, unwritten}
use Rattle.depot.specs.DepotView.{DepotView, at_rest, depot_of, library, running_library, state_of}
use Rattle.depot.specs.FreshKeys.{RunsOn, came, told_there}
use Rattle.depot.specs.ObjectCalls.{Counts, DoneSo, IsToldDamage, SaysOr, is_counted}
use Rattle.depot.proofs.AnsweringLemmas.{denied_answers, due_denies, due_is, fault_answers, is_quiet, quiet_step, said_answers, says_answers, stores_answers, stores_new}
use Rattle.depot.proofs.ToldLemmas.{mapped_at}
use Rattle.library_rules.proofs.CallsLemmas.{put_due-is, taken, put_by}

-- ---- who may ask

-- the token of one whose right is enough
pub record Permitted (tokens : List Token) (call : Call) : Type 0 where
  pub token : Token
  pub known : token_of tokens call.secret ≡ Some token
  pub right : may token call.act ≡ true

pub permitted_by : (tokens : List Token) (call : Call) → permits (token_of tokens call.secret) call.act ≡ true → Permitted tokens call
permitted_by tokens call right = by (token_of tokens call.secret) refl right
  where
    by : (o : Option Token) → token_of tokens call.secret ≡ o → permits o call.act ≡ true → Permitted tokens call
    by None is e = absurd (true≢false (sym e))
    by (Some token) is e = record { token = token; known = is; right = e }

-- what the state decides, and what is due, of an act of one whose right is enough
pub decided_is : (state : LibState) (call : Call) → permits (token_of state.tokens call.secret) call.act ≡ true → (o : Option Reply)
    → ((token : Token) → token_of state.tokens call.secret ≡ Some token → act_decided state token call.act ≡ o) → decided state call ≡ o
decided_is state call right o each =
    let who = permitted_by state.tokens call right in
    ap (token_decided state call.act) who.known
    ∙ ap (λ b. if b then act_decided state who.token call.act else Some (reply.Refused refusal.Denied)) who.right
    ∙ each who.token who.known

pub due_as : (s : State) (call : Call) → permits (token_of s.state.tokens call.secret) call.act ≡ true → (d : Due)
    → ((token : Token) → act_due s token call.act ≡ d) → due s call ≡ d
due_as s call right d each =
    let who = permitted_by s.state.tokens call right in
    due_is s call who.token who.known who.right ∙ each who.token

-- ---- the state that is left

quiet_next : (state : LibState) (secret : Option (List ℕ)) (moment : ℕ) (a : Act) (r : Reply) → is_quiet a ≡ true → next_by state secret moment a r ≡ state
quiet_next state secret moment (act.Check op.Upload) r quiet = absurd (true≢false (sym quiet))
quiet_next state secret moment (act.Check op.Download) r quiet = refl
quiet_next state secret moment act.Head r quiet = refl
quiet_next state secret moment (act.Get key) r quiet = refl
quiet_next state secret moment (act.Put key bytes) r quiet = refl
quiet_next state secret moment (act.Missing k ids) r quiet = refl
quiet_next state secret moment (act.Update pushed) r quiet = absurd (true≢false (sym quiet))
quiet_next state secret moment (act.Limit days) r quiet = absurd (true≢false (sym quiet))
quiet_next state secret moment (act.Ids server client) r quiet = refl

pub quiet_left : (state : LibState) (call : Call) (moment : ℕ) (r : Reply) → is_quiet call.act ≡ true → state ≡ state_after state call moment r
quiet_left state call moment r quiet = by (is_refused r)
  where
    by : (b : Bool) → state ≡ (if b then state else next_state state call moment r)
    by true = refl
    by false = sym (quiet_next state call.secret moment call.act r quiet)

-- ---- a call that is denied

pub denied_told : {S : Type 0} (contents : S → Option Contents) (faults : S → ℕ) (old : DepotView S) (call : Call) (moment : ℕ) → permits (token_of old.state.tokens call.secret) call.act ≡ false
    → (s : State) → state_of contents faults old ≡ Some s → AnswersBySome s call moment (reply.Refused refusal.Denied) (state_of contents faults old)
denied_told contents faults old call moment lacks s is =
    let at = mapped_at (running_library old.state old.running (faults old.store.shelf)) (objects_of contents old.store) s is in
    subst (AnswersBySome s call moment (reply.Refused refusal.Denied)) (sym is)
    (denied_answers s call moment (due_denies s call (subst (λ (st : State). permits (token_of st.state.tokens call.secret) call.act ≡ false) at.gives lacks)))

denied_decided : (state : LibState) (call : Call) → permits (token_of state.tokens call.secret) call.act ≡ false → decided state call ≡ Some (reply.Refused refusal.Denied)
denied_decided state call lacks = by (token_of state.tokens call.secret) lacks
  where
    by : (o : Option Token) → permits o call.act ≡ false → token_decided state call.act o ≡ Some (reply.Refused refusal.Denied)
    by None e = refl
    by (Some token) e = ap (λ b. if b then act_decided state token call.act else Some (reply.Refused refusal.Denied)) e

pub denied_serves : {S : Type 0} (contents : S → Option Contents) (may_give : S → ShelfSlot → Option (List ℕ) → Type 0) (texts faults : S → ℕ) (old : DepotView S) (call : Call) (moment : ℕ)
    → permits (token_of old.state.tokens call.secret) call.act ≡ false → Serves contents may_give texts faults (at_rest old) call moment (reply.Refused refusal.Denied) (at_rest old)
denied_serves contents may_give texts faults old call moment lacks = record {
  told = denied_told contents faults (at_rest old) call moment lacks;
  may_come = subst (λ o. MayAnswer old.store.index (may_give old.store.shelf) call.act o (reply.Refused refusal.Denied)) (sym (denied_decided old.state call lacks)) (inl refl);
  damage = λ objects told. tt;
  count = refl;
  left = refl;
  fresh = refl;
  marked = refl;
  lying = λ _ key stray. stray;
  slot = unwritten refl refl refl refl;
}

-- ---- a call that touches nothing, whether a collection runs or not

pub runs_still : (index : Index) (told : List Key) (running : Option Running) → told ≡ [] → RunsOn index index told running running
runs_still index told None none = refl
runs_still index told (Some running) none = (
  running,
  refl,
  record {
    stored = refl;
    turned = refl;
    fresh = λ key. by (set.contains running.fresh key) (is_some (map.get index key)) ∙ ap (λ keys. set.contains running.fresh key || (came index index key || is_in keys key)) (sym none);
  },
)
  where
    by : (b c : Bool) → b ≡ (b || ((c && not c) || false))
    by true c = refl
    by false true = refl
    by false false = refl

pub serves_still : {S : Type 0} (contents : S → Option Contents) (may_give : S → ShelfSlot → Option (List ℕ) → Type 0) (texts faults : S → ℕ) (old : DepotView S) (call : Call) (moment : ℕ) (r : Reply)
    → ((s : State) → s.state.kept ≡ old.state.kept → s.state.tokens ≡ old.state.tokens → due s call ≡ Says r) → ((s : State) → step_changes moment (step.Asked call) r s ≡ s)
    → decided old.state call ≡ Some r → ((objects : Objects) → IsToldDamage objects r) → Counts (faults old.store.shelf) (faults old.store.shelf) r
    → old.state ≡ state_after old.state call moment r → told_there old.store.index call.act r ≡ [] → Serves contents may_give texts faults old call moment r old
serves_still contents may_give texts faults old call moment r is_due stays is_decided damage count left none = record {
  told = λ s told.
      let at = mapped_at (running_library old.state old.running (faults old.store.shelf)) (objects_of contents old.store) s told in
      subst (AnswersBySome s call moment r) (sym told)
      (says_answers s call moment r (is_due s (ap (λ (t : State). t.state.kept) (sym at.gives)) (ap (λ (t : State). t.state.tokens) (sym at.gives))) (stays s));
  may_come = subst (λ o. MayAnswer old.store.index (may_give old.store.shelf) call.act o r) (sym is_decided) (inl refl);
  damage = λ objects told. damage objects;
  count = count;
  left = left;
  fresh = runs_still old.store.index (told_there old.store.index call.act r) old.running none;
  marked = refl;
  lying = λ _ key stray. stray;
  slot = unwritten refl refl refl refl;
}

-- ---- a put

stores_not_denied : (x : Stored) → Stores x ≡ Denies → ⊥
stores_not_denied x e = cc

put_answers : (s : State) (call : Call) (moment : ℕ) (key : Key) (bytes : List ℕ) (o : Option Refusal) (d : Due) (r : Reply) (now : ℕ) (after : Option Objects)
    → call.act ≡ act.Put key bytes → s.running ≡ None → due s call ≡ d → put_by s key bytes o ≡ d → DoneSo s.objects d r after → Counts s.faults now r
    → AnswersBySome s call moment r (option_map (λ objects. record s { objects = objects; faults = now }) after)
put_answers s call moment key bytes o (Says said) r now after acts idle is put (says, kept) counts =
    subst (λ a. AnswersBySome s call moment r (option_map (λ objects. record s { objects = objects; faults = now }) a)) (sym kept)
    (said_answers s call moment said r now is (quiet_step s call moment said (subst (λ a. is_quiet a ≡ true) (sym acts) refl) idle) says counts)
put_answers s call moment key bytes o (Stores x) r now after acts idle is put (inl (same, grown)) counts =
    let new = stores_new s key bytes x o put in
    let stays : now ≡ s.faults = subst (λ q. Counts s.faults now q) same counts in
    subst (λ a. AnswersBySome s call moment r (option_map (λ objects. record s { objects = objects; faults = now }) a)) (sym grown)
    (subst (λ n. AnswersBySome s call moment r (Some (record s { objects = put_new s.objects x; faults = n }))) (sym stays)
    (subst (λ q. AnswersBySome s call moment q (Some (record s { objects = put_new s.objects x }))) (sym same)
    (subst (λ y. AnswersBySome s call moment (reply.Stored true) (Some (record s { objects = put_new s.objects y }))) new.1
    (stores_answers s call moment key bytes acts idle (is ∙ ap Stores (sym new.1)) new.0))))
put_answers s call moment key bytes o (Stores x) r now after acts idle is put (inr (fault, kept)) counts =
    subst (λ a. AnswersBySome s call moment r (option_map (λ objects. record s { objects = objects; faults = now }) a)) (sym kept)
    (fault_answers s call moment (λ e. stores_not_denied x (sym is ∙ e)) r now fault counts)
put_answers s call moment key bytes o Denies r now after acts idle is put done counts = absurd done
put_answers s call moment key bytes o (Installs pushed) r now after acts idle is put done counts = absurd done
put_answers s call moment key bytes o (Merges user base pushed) r now after acts idle is put done counts = absurd done

-- ---- what a call answers that writes no text

module _ {S : Type 0} (contents : S → Option Contents) (may_give : S → ShelfSlot → Option (List ℕ) → Type 0) (texts faults : S → ℕ) (old : DepotView S) (call : Call) (moment : ℕ) where
  -- what holds of the library over what is told
  pub of_told : (P : State → Type 0) → ((objects : Objects) → objects_of contents old.store ≡ Some objects → P (library old.state (faults old.store.shelf) objects))
      → (s : State) → state_of contents faults (at_rest old) ≡ Some s → P s
  of_told P each s is =
      let at = mapped_at (library old.state (faults old.store.shelf)) (objects_of contents old.store) s is in
      subst P at.gives (each at.value at.is)

  module _ (quiet : is_quiet call.act ≡ true) (store : StoreView S) (r : Reply) (text_kept : status_of contents store ≡ status_of contents old.store) (written : texts store.shelf ≡ texts old.store.shelf)
      (may_come : MayAnswer old.store.index (may_give store.shelf) call.act (decided old.state call) r)
      (damage : (objects : Objects) → objects_of contents old.store ≡ Some objects → IsToldDamage objects r)
      (count : Counts (faults old.store.shelf) (faults store.shelf) r) (lying : is_counted r ≡ false → AddsNoStray contents old.store store) where
    serves_by : ((s : State) → state_of contents faults (at_rest old) ≡ Some s → AnswersBySome s call moment r (state_of contents faults (depot_of store old.state old.unsettled None)))
        → Serves contents may_give texts faults (at_rest old) call moment r (depot_of store old.state old.unsettled None)
    serves_by told = record {
      told = told;
      may_come = may_come;
      damage = damage;
      count = count;
      left = quiet_left old.state call moment r quiet;
      fresh = refl;
      marked = refl;
      lying = lying;
      slot = unwritten refl refl text_kept written;
    }

    -- an answer that changes nothing
    pub serves_said : objects_of contents store ≡ objects_of contents old.store
        → ((objects : Objects) → objects_of contents old.store ≡ Some objects
        → (said : Reply) × (due (library old.state (faults old.store.shelf) objects) call ≡ Says said) × SaysOr objects said r)
        → Serves contents may_give texts faults (at_rest old) call moment r (depot_of store old.state old.unsettled None)
    serves_said kept says = serves_by (of_told (λ s. AnswersBySome s call moment r (state_of contents faults (depot_of store old.state old.unsettled None)))
        (λ objects told.
        let due_says = says objects told in
        let s : State = library old.state (faults old.store.shelf) objects in
        subst (AnswersBySome s call moment r) (sym (ap (option_map (library old.state (faults store.shelf))) (kept ∙ told)))
        (said_answers s call moment due_says.0 r (faults store.shelf) due_says.1 (quiet_step s call moment due_says.0 quiet refl) due_says.2 count)))

    -- a put
    pub serves_put : (key : Key) (bytes : List ℕ) → call.act ≡ act.Put key bytes
        → ((objects : Objects) → objects_of contents old.store ≡ Some objects
        → (due (library old.state (faults old.store.shelf) objects) call ≡ put_due (library old.state (faults old.store.shelf) objects) key bytes)
        × DoneSo objects (put_due (library old.state (faults old.store.shelf) objects) key bytes) r (objects_of contents store))
        → Serves contents may_give texts faults (at_rest old) call moment r (depot_of store old.state old.unsettled None)
    serves_put key bytes acts done = serves_by (of_told (λ s. AnswersBySome s call moment r (state_of contents faults (depot_of store old.state old.unsettled None)))
        (λ objects told.
        let s : State = library old.state (faults old.store.shelf) objects in
        let both = done objects told in
        put_answers s call moment key bytes (first_refusal (put_refusals s.state.lib key.kind key bytes ++ taken s key bytes ∷ []))
        (put_due s key bytes) r (faults store.shelf) (objects_of contents store) acts refl both.0 (sym (put_due-is s key bytes)) both.1 count))
