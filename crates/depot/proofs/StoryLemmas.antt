-- The history of a library: chains of changes, and the legal list that a chain is. The key lemmas are leads_on, leads_same, lib_stays,
-- answered_lays, turned_lays, ran_same, ran_on, comes_on, history_of, sound_still, keys_stay, stored_stays and stored_not_missing.
use Rattle.std.proofs.Common.{◌≡◌, ◌⊎◌, inl, inr, ℕ, zero, suc, ◌+◌, List, [], ◌∷◌, ◌++◌, length, refl, sym, ap, ◌∙◌, subst, Bool, true, false, ◌||◌, if◌then◌else◌, is_some, true≢false, Option, None, Some, option_map, add-one, ◌≤◌, arith, take, drop, take-append-drop}
use Rattle.std.specs.FinMap as map
use Rattle.std.specs.List.{slice_get}
use Rattle.ids.specs.declared.key.Key.{Key}
use Rattle.ids.specs.declared.key.Kind.{Kind}
use Rattle.ids.specs.declared.key.Kind.TheVariants as kinds
use Rattle.library_rules.specs.Changes.{apply, head_in, is_refused, with_install}
use Rattle.library_rules.specs.History.{Enters, IsPermitted, StepPermits, after}
use Rattle.library_rules.specs.LibraryState.{IsSound, State, is_kept}
use Rattle.library_rules.specs.Turns.{TakesNone, TakesStep}
use Rattle.library_rules.specs.declared.entry.Entry.{Entry}
use Rattle.library_rules.specs.declared.entry.Step.{Step}
use Rattle.library_rules.specs.declared.entry.Step.TheVariants as step
use Rattle.library_rules.proofs.HistoryLemmas.{sound_after}
use Rattle.library_state.specs.declared.call.Act.{Act}
use Rattle.library_state.specs.declared.call.Act.TheVariants as act
use Rattle.library_state.specs.declared.call.Call.{Call}
use Rattle.library_state.specs.declared.call.Op.TheVariants as op
use Rattle.library_state.specs.declared.refusal.Refusal.{Refusal}
use Rattle.library_state.specs.declared.refusal.Refusal.TheVariants as refusal
use Rattle.library_state.specs.declared.reply.Reply.{Reply}
use Rattle.library_state.specs.declared.reply.Reply.TheVariants as reply
use Rattle.library_state.specs.declared.state.LibState.{LibState}
use Rattle.sha1.specs.Sha1.{sha1}
use Rattle.ids.specs.ObjectId.{nil}
use Rattle.object_store.specs.Shelf.{Contents}
use Rattle.object_graph.specs.Traversal.{is_in}
use Rattle.object_graph.proofs.KeyLemmas.{in_append, same_key-itself}
use Rattle.std.proofs.lemmas.Bool.{or_left, or_right}
use Rattle.collector.proofs.CountedLemmas.{fewer_fit}
use Rattle.ids.proofs.BasicLemmas.{same_from_some}
use Rattle.object_store.specs.StoreView.{Index, objects_of}
use Rattle.object_store.specs.declared.shelf.Slot.{Slot}
use Rattle.object_store.specs.Store.{has_other_name, name_refusal, same_bytes}
use Rattle.object_store.specs.declared.error.StoreFault.TheVariants.{Taken, Wrong}
use Rattle.depot.specs.Answering.{AnswersBySome}
use Rattle.depot.specs.CollectionTurns.{MayLayIn, MayLayRefused, TurnsBySome, removed_in, state_after_turn}
use Rattle.depot.specs.Giving.{GivesBy, IsLaid, IsLaidAs, IsNamedAs, IsOfSweep, IsReadAs, MayLay}
use Rattle.depot.specs.NextState.{next_by, next_state, state_after}
use Rattle.depot.proofs.GivingLemmas.{then_by, wider_by}
use Rattle.depot.specs.DepotView.{DepotView, running_library, state_of}
use Rattle.depot.specs.Story.{ComesBy, Done, HistoryOf, IsAnswered, IsAsked, IsDoneSo, IsMadeAs, IsOther, IsSame, IsTurned, LeadsTo, Links, MadeBy, RanBy, removed_of, reply_of, reply_of_turn, removed_through, same_itself, step_of, step_of_turn}
use Rattle.depot.specs.Held.{HoldsPut, IndexSo, TellsMissing}
use Rattle.depot.specs.declared.story.Change.{Change}
use Rattle.depot.specs.declared.story.Made.{Made}
use Rattle.depot.specs.declared.story.Made.TheVariants as made
use Rattle.depot.specs.declared.turn.Turn.{Turn}
use Rattle.depot.specs.declared.turn.Turn.TheVariants as turn
use Rattle.depot.proofs.PutBesideLemmas.{put_stays}
use Rattle.depot.proofs.ToldLemmas.{MappedAt, mapped_at}
use Rattle.depot.proofs.ToldMissingLemmas.{known_not_missing}

-- ---- sameness

module _ {S : Type 0} {contents : S → Option Contents} {faults : S → ℕ} where
  pub same_on : {x y z : DepotView S} → IsSame contents faults x y → IsSame contents faults y z → IsSame contents faults x z
  same_on p q = record {
    state = q.state ∙ p.state;
    running = q.running ∙ p.running;
    count = q.count ∙ p.count;
    keys = λ key. q.keys key ∙ p.keys key;
    objects = λ objects told. q.objects objects (p.objects objects told);
  }

  -- where a library is told, so is one that is the same, as the same state
  pub same_state : {x y : DepotView S} {s : State} → IsSame contents faults x y → state_of contents faults x ≡ Some s → state_of contents faults y ≡ Some s
  same_state {x} {y} {s} same told =
      let at : MappedAt (running_library x.state x.running (faults x.store.shelf)) (objects_of contents x.store) s = mapped_at _ _ _ told in
      ap (option_map (running_library y.state y.running (faults y.store.shelf))) (same.objects at.value at.is)
      ∙ ap (λ st. Some (running_library st y.running (faults y.store.shelf) at.value)) same.state
      ∙ ap (λ r. Some (running_library x.state r (faults y.store.shelf) at.value)) same.running
      ∙ ap (λ n. Some (running_library x.state x.running n at.value)) same.count
      ∙ ap Some at.gives

-- ---- chains

module _ {S : Type 0} (contents : S → Option Contents) (may_give : S → Slot → Option (List ℕ) → Type 0) (texts faults : S → ℕ) where
  -- a chain goes on where nothing changed, and with one change more
  pub leads_same : (x : DepotView S) (cs : List (Change (DepotView S))) {y z : DepotView S} → LeadsTo contents may_give texts faults x cs y → IsSame contents faults y z
      → LeadsTo contents may_give texts faults x cs z
  leads_same x [] leads same = same_on leads same
  leads_same x (c ∷ cs) leads same = (leads.0, leads.1, leads_same c.after.value cs leads.2 same)

  pub leads_on : (x : DepotView S) (cs : List (Change (DepotView S))) {y : DepotView S} (c : Change (DepotView S)) → LeadsTo contents may_give texts faults x cs y
      → IsSame contents faults y c.before.value → Links contents may_give texts faults c → LeadsTo contents may_give texts faults x (cs ++ c ∷ []) c.after.value
  leads_on x [] c leads same links = (same_on leads same, links, same_itself contents faults c.after.value)
  leads_on x (d ∷ cs) c leads same links = (leads.0, leads.1, leads_on d.after.value cs c leads.2 same links)

-- ---- what its shelf may give

-- what a call lays
named_bytes : (key : Key) (bytes : List ℕ) → name_refusal key bytes ≡ None → has_other_name key bytes ≡ false
named_bytes key bytes = by (has_other_name key bytes)
  where
    by : (b : Bool) → (if b then Some (Wrong (sha1 bytes)) else if same_bytes key.id nil then Some (Taken key.id) else None) ≡ None → b ≡ false
    by true none = cc none
    by false none = refl

-- under a name that is its own
read_named : (kind : Kind) (id bytes : List ℕ) → IsReadAs kind id bytes → IsNamedAs kind id bytes
read_named kinds.Commit id bytes read = (read.0, inl read.1, read.2)
read_named kinds.Fs id bytes read = tt
read_named kinds.Block id bytes read = tt

laid_named : (kind : Kind) (id bytes : List ℕ) → IsLaidAs kind id bytes → IsNamedAs kind id bytes
laid_named kinds.Commit id bytes laid = (laid.0, inr laid.1, laid.2)
laid_named kinds.Fs id bytes laid = tt
laid_named kinds.Block id bytes laid = absurd laid

call_lays : (lib : List ℕ) (a : Act) (slot : Slot) (given : Option (List ℕ)) → MayLay lib a slot given → IsLaid lib [] slot given
call_lays lib (act.Check op.Download) slot given none = absurd none
call_lays lib (act.Check op.Upload) slot given text = inl text
call_lays lib act.Head slot given none = absurd none
call_lays lib (act.Get key) slot given none = absurd none
call_lays lib (act.Put key bytes) slot given object = inr (inl (key, bytes, read_named key.kind key.id bytes object.0, object.1))
call_lays lib (act.Missing k ids) slot given none = absurd none
call_lays lib (act.Update pushed) slot given (inl laid) =
    inr (inl (laid.key, laid.bytes, laid_named laid.key.kind laid.key.id laid.bytes laid.laid_as, record { at = laid.at; is = laid.is; named = named_bytes laid.key laid.bytes laid.named }))
call_lays lib (act.Update pushed) slot given (inr text) = inl text
call_lays lib (act.Limit days) slot given text = inl text
call_lays lib (act.Ids server client) slot given none = absurd none

-- and a turn, by which its keys leave
sweep_lays : (lib : List ℕ) (keys : List Key) (slot : Slot) (given : Option (List ℕ)) → IsOfSweep lib keys slot given → IsLaid lib keys slot given
sweep_lays lib keys slot given (inl text) = inl text
sweep_lays lib keys slot given (inr gone) = inr (inr gone)

refused_lays : (lib : List ℕ) (why : Refusal) (keys : List Key) (slot : Slot) (given : Option (List ℕ)) → MayLayRefused lib why keys slot given → IsLaid lib keys slot given
refused_lays lib refusal.Store keys slot given laid = sweep_lays lib keys slot given laid
refused_lays lib refusal.NoMemory keys slot given laid = sweep_lays lib keys slot given laid
refused_lays lib other keys slot given none = absurd none

turn_lays : (lib : List ℕ) (taken : Turn) (slot : Slot) (given : Option (List ℕ)) → MayLayIn lib taken slot given → IsLaid lib (removed_in taken) slot given
turn_lays lib (turn.Began number) slot given text = inl text
turn_lays lib (turn.Marked count) slot given none = absurd none
turn_lays lib (turn.Swept keys) slot given laid = sweep_lays lib keys slot given laid
turn_lays lib (turn.Ended number) slot given none = absurd none
turn_lays lib (turn.Over number) slot given none = absurd none
turn_lays lib (turn.Refused why keys) slot given laid = refused_lays lib why keys slot given laid

-- what is laid as keys leave is laid as more leave
pub laid_more : (lib : List ℕ) (keys more : List Key) → ((key : Key) → is_in keys key ≡ true → is_in more key ≡ true) → (slot : Slot) (given : Option (List ℕ)) → IsLaid lib keys slot given
    → IsLaid lib more slot given
laid_more lib keys more among slot given (inl text) = inl text
laid_more lib keys more among slot given (inr (inl object)) = inr (inl object)
laid_more lib keys more among slot given (inr (inr gone)) = inr (inr (gone.0, among gone.0 gone.1, gone.2, gone.3))

pub among_none : (more : List Key) (key : Key) → is_in [] key ≡ true → is_in more key ≡ true
among_none more key none = absurd (true≢false (sym none))

-- the keys that left stay those that left as changes follow
pub removed_on : {V : Type 0} (cs ds : List (Change V)) (key : Key) → is_in (removed_through cs) key ≡ true → is_in (removed_through (cs ++ ds)) key ≡ true
removed_on [] ds key none = absurd (true≢false (sym none))
removed_on (c ∷ cs) ds key there =
    in_append (removed_of c.made) (removed_through (cs ++ ds)) key
    ∙ by (is_in (removed_of c.made) key) (removed_on cs ds key) (sym (in_append (removed_of c.made) (removed_through cs) key) ∙ there)
  where
    by : (b : Bool) → (is_in (removed_through cs) key ≡ true → is_in (removed_through (cs ++ ds)) key ≡ true) → (b || is_in (removed_through cs) key) ≡ true
        → (b || is_in (removed_through (cs ++ ds)) key) ≡ true
    by true more is = refl
    by false more is = more is

-- so of all changes up to a place
pub removed_front : {V : Type 0} (n : ℕ) (cs : List (Change V)) (key : Key) → is_in (removed_through (take n cs)) key ≡ true → is_in (removed_through cs) key ≡ true
removed_front {V} n cs key there = subst (λ (l : List (Change V)). is_in (removed_through l) key ≡ true) (take-append-drop n cs) (removed_on (take n cs) (drop n cs) key there)

-- those of the change at a place are among them
pub removed_at : {V : Type 0} (cs : List (Change V)) (n : ℕ) (c : Change V) (key : Key) → slice_get cs n ≡ Some c → is_in (removed_of c.made) key ≡ true → is_in (removed_through cs) key ≡ true
removed_at [] n c key at there = cc
removed_at {V} (d ∷ cs) zero c key at there =
    in_append (removed_of d.made) (removed_through cs) key
    ∙ or_left (is_in (removed_of d.made) key) (is_in (removed_through cs) key) (subst (λ (e : Change V). is_in (removed_of e.made) key ≡ true) (sym (same_from_some d c at)) there)
removed_at (d ∷ cs) (suc n) c key at there =
    in_append (removed_of d.made) (removed_through cs) key ∙ or_right (is_in (removed_of d.made) key) (is_in (removed_through cs) key) (removed_at cs n c key at there)

-- and those of the last one
pub removed_last : {V : Type 0} (cs : List (Change V)) (c : Change V) (key : Key) → is_in (removed_of c.made) key ≡ true → is_in (removed_through (cs ++ c ∷ [])) key ≡ true
removed_last [] c key there = in_append (removed_of c.made) [] key ∙ or_left (is_in (removed_of c.made) key) (is_in [] key) there
removed_last (d ∷ cs) c key there =
    in_append (removed_of d.made) (removed_through (cs ++ c ∷ [])) key
    ∙ or_right (is_in (removed_of d.made) key) (is_in (removed_through (cs ++ c ∷ [])) key) (removed_last cs c key there)

-- neither makes another library's state
lib_next : (state : LibState) (secret : Option (List ℕ)) (moment : ℕ) (a : Act) (r : Reply) → (next_by state secret moment a r).lib ≡ state.lib
lib_next state secret moment (act.Check op.Upload) r = refl
lib_next state secret moment (act.Check op.Download) r = refl
lib_next state secret moment act.Head r = refl
lib_next state secret moment (act.Get key) r = refl
lib_next state secret moment (act.Put key bytes) r = refl
lib_next state secret moment (act.Missing k ids) r = refl
lib_next state secret moment (act.Update pushed) r = by (is_kept state.kept pushed)
  where
    by : (b : Bool) → (if b then state else with_install (head_in r pushed) pushed moment state).lib ≡ state.lib
    by true = refl
    by false = refl
lib_next state secret moment (act.Limit days) r = refl
lib_next state secret moment (act.Ids server client) r = refl

lib_turned : (state : LibState) (moment : ℕ) (taken : Turn) → (state_after_turn state moment taken).lib ≡ state.lib
lib_turned state moment (turn.Began number) = refl
lib_turned state moment (turn.Marked count) = refl
lib_turned state moment (turn.Swept keys) = refl
lib_turned state moment (turn.Ended number) = refl
lib_turned state moment (turn.Over number) = refl
lib_turned state moment (turn.Refused why keys) = refl

lib_after : (state : LibState) (call : Call) (moment : ℕ) (r : Reply) → (state_after state call moment r).lib ≡ state.lib
lib_after state call moment r = by (is_refused r)
  where
    by : (b : Bool) → (if b then state else next_state state call moment r).lib ≡ state.lib
    by true = refl
    by false = lib_next state call.secret moment call.act r

module _ {S : Type 0} (contents : S → Option Contents) (may_give : S → Slot → Option (List ℕ) → Type 0) (texts faults : S → ℕ) where
  pub answered_lays : (x : DepotView S) (call : Call) (moment : ℕ) (r : Reply) (y : DepotView S) → IsAnswered contents may_give texts faults x call moment r y
      → GivesBy (IsLaid x.state.lib []) (may_give x.store.shelf) (may_give y.store.shelf)
  answered_lays x call moment r y answered = wider_by (call_lays x.state.lib call.act) answered.gives

  pub turned_lays : (x : DepotView S) (goal : Option ℕ) (moment at_most : ℕ) (taken : Turn) (y : DepotView S) → IsTurned contents may_give texts faults x goal moment at_most taken y
      → GivesBy (IsLaid x.state.lib (removed_in taken)) (may_give x.store.shelf) (may_give y.store.shelf)
  turned_lays x goal moment at_most taken y turned = wider_by (turn_lays x.state.lib taken) turned.takes.gives

  -- a turn that left the library as it was let no key go
  pub turned_same : (x : DepotView S) (goal : Option ℕ) (moment at_most : ℕ) (taken : Turn) (y : DepotView S) → IsTurned contents may_give texts faults x goal moment at_most taken y
      → IsSame contents faults x y → removed_in taken ≡ []
  turned_same x goal moment at_most taken y turned same = none_by (removed_in taken) (omega (arith, turned.takes.number, fewer_fit x.store.index y.store.index (λ key there. same.keys key ∙ there)))
    where
      none_by : (keys : List Key) → length keys ≤ 0 → keys ≡ []
      none_by [] none = refl
      none_by (key ∷ keys) none = absurd (omega (arith, none))

  lib_made : (m : Made) (old : DepotView S) (moment : ℕ) (new : DepotView S) → MadeBy contents may_give texts faults m old moment new → new.state.lib ≡ old.state.lib
  lib_made (made.Asked call said) old moment new by = ap (λ (s : LibState). s.lib) by.serves.left ∙ lib_after old.state call.value moment said.value
  lib_made (made.Turned goal at_most taken) old moment new by = ap (λ (s : LibState). s.lib) by.takes.left ∙ lib_turned old.state moment taken.value

  -- the id stays
  pub lib_stays : (x : DepotView S) (cs : List (Change (DepotView S))) (y : DepotView S) → LeadsTo contents may_give texts faults x cs y → y.state.lib ≡ x.state.lib
  lib_stays x [] y leads = ap (λ (s : LibState). s.lib) leads.state
  lib_stays x (c ∷ cs) y leads =
      lib_stays c.after.value cs y leads.2 ∙ lib_made c.made c.before.value c.moment c.after.value leads.1.by ∙ ap (λ (s : LibState). s.lib) leads.0.state

  -- a call or turn more, which changed nothing
  pub ran_same : (x : DepotView S) (cs : List (Change (DepotView S))) (y : DepotView S) (done : Done) (z : DepotView S) → RanBy contents may_give texts faults x cs y → IsAsked done
      → IsDoneSo contents may_give texts faults y done z → IsSame contents faults y z → RanBy contents may_give texts faults x cs z
  ran_same x cs y done z ran asked did same = record { dones = done ∷ ran.dones; runs = (y, ran.runs, did); are = inl (asked, same, ran.are) }

  -- or made a change
  pub ran_on : (x : DepotView S) (cs : List (Change (DepotView S))) (y : DepotView S) (done : Done) (z : DepotView S) (c : Change (DepotView S)) → RanBy contents may_give texts faults x cs y
      → IsDoneSo contents may_give texts faults y done z → c.before.value ≡ y → IsMadeAs c.made c.moment done → c.after.value ≡ z → RanBy contents may_give texts faults x (cs ++ c ∷ []) z
  ran_on x cs y done z c ran did from is_made to = record {
    dones = done ∷ ran.dones;
    runs = (y, ran.runs, did);
    are = inr (cs, record { change = c; is = refl; from = from; made = is_made; to = to }, ran.are);
  }

  -- a library comes on by what is laid after it, while keys that left stay those that left
  pub comes_on : (x : DepotView S) (cs : List (Change (DepotView S))) (y : DepotView S) (ds : List (Change (DepotView S))) (z : DepotView S) → ComesBy contents may_give texts faults x cs y
      → LeadsTo contents may_give texts faults x ds z → GivesBy (IsLaid y.state.lib (removed_through ds)) (may_give y.store.shelf) (may_give z.store.shelf) → RanBy contents may_give texts faults x ds z
      → ((key : Key) → is_in (removed_through cs) key ≡ true → is_in (removed_through ds) key ≡ true) → ComesBy contents may_give texts faults x ds z
  comes_on x cs y ds z comes leads gives ran among = record {
    leads = leads;
    gives = then_by (wider_by (laid_more x.state.lib (removed_through cs) (removed_through ds) among) comes.gives)
        (subst (λ (lib : List ℕ). GivesBy (IsLaid lib (removed_through ds)) (may_give y.store.shelf) (may_give z.store.shelf)) (lib_stays x cs y comes.leads) gives);
    ran = ran;
  }

-- ---- the legal list

-- a step leads from a state to what is left, as one entry, which removes these keys
pub record EntersSo (s : State) (st : Step) (moment : ℕ) (r : Reply) (removed : List Key) (left : Option State) : Type 0 where
  pub entry : Entry
  pub permitted : IsPermitted s entry
  pub is_step : entry.step ≡ st
  pub at : entry.moment ≡ moment
  pub answers : entry.reply ≡ r
  pub removes : entry.removed ≡ removed
  pub leaves : left ≡ Some (apply s entry)

-- what a step enters
of_entry : (s : State) (st : Step) (moment : ℕ) (r : Reply) (removed : List Key) (t : State) (left : Option State) (e : Entry) → Enters s st moment r t e
    → e.removed ≡ removed → left ≡ Some t → EntersSo s st moment r removed left
of_entry s st moment r removed t left e enters removes is = record {
  entry = e;
  permitted = enters.permitted;
  is_step = enters.is_step;
  at = enters.at;
  answers = enters.answers;
  removes = removes;
  leaves = is ∙ ap Some (sym enters.state);
}

-- of a call that left another state
asked_entry : (s : State) (call : Call) (moment : ℕ) (r : Reply) (left : Option State) → AnswersBySome s call moment r left → (left ≡ Some s → ⊥)
    → EntersSo s (step.Asked call) moment r [] left
asked_entry s call moment r left ([], answers) other = absurd (other (answers.left ∙ ap Some answers.step.0))
asked_entry s call moment r left (e ∷ [], answers) other =
    let permits : StepPermits s e (step.Asked call) = subst (StepPermits s e) answers.step.is_step answers.step.permitted.permits in
    of_entry s (step.Asked call) moment r [] answers.state left e answers.step permits.1 answers.left
asked_entry s call moment r left (e ∷ f ∷ es, answers) other = absurd answers.step

taken_entry : (s : State) (st : Step) (moment : ℕ) (r : Reply) (removed : List Key) (t : State) (es : List Entry) (left : Option State) → TakesStep s st moment r removed t es
    → left ≡ Some t → EntersSo s st moment r removed left
taken_entry s st moment r removed t es left takes is = of_entry s st moment r removed t left takes.entry takes.enters takes.removes is

-- of a turn that left another state
turned_entry : (s : State) (goal : Option ℕ) (moment at_most : ℕ) (taken : Turn) (left : Option State) → TurnsBySome s goal moment at_most taken left → (left ≡ Some s → ⊥)
    → EntersSo s (step_of_turn taken) moment (reply_of_turn taken) (removed_in taken) left
turned_entry s goal moment at_most (turn.Began number) left by other = taken_entry s step.Began moment reply.Checked [] by.state by.entries left by.turns.2 by.left
turned_entry s goal moment at_most (turn.Marked count) left by other = taken_entry s step.Swept moment reply.Checked [] by.state by.entries left by.turns.2 by.left
turned_entry s goal moment at_most (turn.Swept keys) left by other = taken_entry s step.Swept moment reply.Checked keys by.state by.entries left by.turns.2 by.left
turned_entry s goal moment at_most (turn.Ended number) left by other = taken_entry s step.Ended moment reply.Checked [] by.state by.entries left by.turns.2 by.left
turned_entry s goal moment at_most (turn.Over number) left by other = absurd (other (by.left ∙ ap Some by.turns.1))
turned_entry s goal moment at_most (turn.Refused why keys) left by other = refused by.turns.1
  where
    refused : TakesStep s step.Swept moment (reply.Refused why) keys by.state by.entries
        ⊎ ((keys ≡ []) × TakesNone s step.Swept moment (reply.Refused why) by.state by.entries) → EntersSo s step.Swept moment (reply.Refused why) keys left
    refused (inl takes) = taken_entry s step.Swept moment (reply.Refused why) keys by.state by.entries left takes by.left
    refused (inr none) = absurd (other (by.left ∙ ap Some none.1.same))

module _ {S : Type 0} (contents : S → Option Contents) (may_give : S → Slot → Option (List ℕ) → Type 0) (texts faults : S → ℕ) where
  -- of a change, where the library before it is told
  made_entry : (made : Made) (old : DepotView S) (moment : ℕ) (new : DepotView S) (s : State) → MadeBy contents may_give texts faults made old moment new
      → IsOther contents faults old new → state_of contents faults old ≡ Some s
      → EntersSo s (step_of made) moment (reply_of made) (removed_of made) (state_of contents faults new)
  made_entry (made.Asked call said) old moment new s by other told =
      asked_entry s call.value moment said.value (state_of contents faults new) (by.serves.told s told) (other.told s told)
  made_entry (made.Turned goal at_most taken) old moment new s by other told =
      turned_entry s goal moment at_most taken.value (state_of contents faults new) (by.takes.told s told) (other.told s told)

  -- a chain from a library that is told is a legal list, and each library on the way is told
  pub history_of : (x : DepotView S) (cs : List (Change (DepotView S))) (y : DepotView S) (s : State) → LeadsTo contents may_give texts faults x cs y
      → state_of contents faults x ≡ Some s → HistoryOf contents faults s cs y
  history_of x [] y s leads told = record {
    entries = [];
    legal = tt;
    told = tt;
    states = λ n c at. cc;
    last = same_state leads told;
  }
  history_of x (c ∷ cs) y s leads told =
      let one : EntersSo s (step_of c.made) c.moment (reply_of c.made) (removed_of c.made) (state_of contents faults c.after.value) =
      made_entry c.made c.before.value c.moment c.after.value s leads.1.by leads.1.other (same_state leads.0 told)
      in
      let more : HistoryOf contents faults (apply s one.entry) cs y = history_of c.after.value cs y (apply s one.entry) leads.2 one.leaves in
      record {
        entries = one.entry ∷ more.entries;
        legal = (one.permitted, more.legal);
        told = (record { is_step = one.is_step; at = one.at; answers = one.answers; removes = one.removes }, more.told);
        states = states_on c cs s one.entry more.entries one.leaves more.states;
        last = more.last;
      }
    where
      states_on : (c : Change (DepotView S)) (cs : List (Change (DepotView S))) (s : State) (e : Entry) (es : List Entry)
          → state_of contents faults c.after.value ≡ Some (apply s e)
          → ((n : ℕ) (d : Change (DepotView S)) → slice_get cs n ≡ Some d → state_of contents faults d.after.value ≡ Some (after (apply s e) es (n + 1)))
          → (n : ℕ) (d : Change (DepotView S)) → slice_get (c ∷ cs) n ≡ Some d → state_of contents faults d.after.value ≡ Some (after s (e ∷ es) (n + 1))
      states_on c cs s e es here more zero d at = subst (λ c. state_of contents faults c.after.value ≡ Some (apply s e)) (some_is at) here
        where
          some_is : {A : Type 0} {x y : A} → Some x ≡ Some y → x ≡ y
          some_is e = cc
      states_on c cs s e es here more (suc n) d at =
          more n d at ∙ ap (λ m. Some (after (apply s e) es m)) (add-one n) ∙ sym (ap (λ m. Some (after s (e ∷ es) m)) (add-one (suc n)))

  -- a library that was sound is sound at the end of a chain
  pub sound_still : (x : DepotView S) (cs : List (Change (DepotView S))) (y : DepotView S) (s t : State) → LeadsTo contents may_give texts faults x cs y
      → state_of contents faults x ≡ Some s → state_of contents faults y ≡ Some t → IsSound s → IsSound t
  sound_still x cs y s t leads was now sound =
      let history : HistoryOf contents faults s cs y = history_of x cs y s leads was in
      subst IsSound (one (sym history.last ∙ now)) (sound_after s history.entries (length history.entries) history.legal sound)
    where
      one : {a b : State} → Some a ≡ Some b → a ≡ b
      one e = cc

  -- ---- over any shelf

  -- a key that is known stays so through a call
  call_keeps : (a : Act) (r : Reply) (old new : Index) → IndexSo a r old new → (key : Key) → is_some (map.get old key) ≡ true → is_some (map.get new key) ≡ true
  call_keeps (act.Check o) r old new same key there = ap (λ (i : Index). is_some (map.get i key)) same ∙ there
  call_keeps act.Head r old new same key there = ap (λ (i : Index). is_some (map.get i key)) same ∙ there
  call_keeps (act.Get other) r old new same key there = ap (λ (i : Index). is_some (map.get i key)) same ∙ there
  call_keeps (act.Put other bytes) r old new holds key there = put_stays other r old new holds key there
  call_keeps (act.Missing k ids) r old new same key there = ap (λ (i : Index). is_some (map.get i key)) same ∙ there
  call_keeps (act.Update pushed) r old new holds key there = holds key there
  call_keeps (act.Limit days) r old new same key there = ap (λ (i : Index). is_some (map.get i key)) same ∙ there
  call_keeps (act.Ids server client) r old new same key there = ap (λ (i : Index). is_some (map.get i key)) same ∙ there

  -- and through a turn that doesn't remove it
  turn_keeps : (removed : List Key) (old new : Index) → ((key : Key) → map.get new key ≡ (if is_in removed key then None else map.get old key)) → (key : Key)
      → is_in removed key ≡ false → is_some (map.get old key) ≡ true → is_some (map.get new key) ≡ true
  turn_keeps removed old new holds key apart there =
      ap is_some (holds key) ∙ ap (λ (b : Bool). is_some (if b then None else map.get old key)) apart ∙ there

  made_keeps : (made : Made) (old : DepotView S) (moment : ℕ) (new : DepotView S) → MadeBy contents may_give texts faults made old moment new → (key : Key)
      → is_in (removed_of made) key ≡ false → is_some (map.get old.store.index key) ≡ true → is_some (map.get new.store.index key) ≡ true
  made_keeps (made.Asked call said) old moment new by key apart there = call_keeps call.value.act said.value old.store.index new.store.index by.index key there
  made_keeps (made.Turned goal at_most taken) old moment new by key apart there =
      turn_keeps (removed_in taken.value) old.store.index new.store.index by.takes.index key apart there

  not_in : (xs ys : List Key) (key : Key) → is_in (xs ++ ys) key ≡ false → (is_in xs key ≡ false) × (is_in ys key ≡ false)
  not_in xs ys key apart = by (is_in xs key) (is_in ys key) (sym (in_append xs ys key) ∙ apart)
    where
      by : (b c : Bool) → (b || c) ≡ false → (b ≡ false) × (c ≡ false)
      by true c e = absurd (true≢false e)
      by false c e = (refl, e)

  -- a key that the index knows stays known till a turn removes it
  pub keys_stay : (x : DepotView S) (cs : List (Change (DepotView S))) (y : DepotView S) (key : Key) → LeadsTo contents may_give texts faults x cs y
      → is_some (map.get x.store.index key) ≡ true → is_in (removed_through cs) key ≡ false → is_some (map.get y.store.index key) ≡ true
  keys_stay x [] y key leads there apart = leads.keys key ∙ there
  keys_stay x (c ∷ cs) y key leads there apart =
      let split = not_in (removed_of c.made) (removed_through cs) key apart in
      keys_stay c.after.value cs y key leads.2 (made_keeps c.made c.before.value c.moment c.after.value leads.1.by key split.0 (leads.0.keys key ∙ there)) split.1

  -- so does one that was answered as stored
  pub stored_stays : (u : DepotView S) (call : Call) (moment : ℕ) (newly : Bool) (x : DepotView S) (cs : List (Change (DepotView S))) (y : DepotView S) (key : Key) (bytes : List ℕ)
      → IsAnswered contents may_give texts faults u call moment (reply.Stored newly) x → call.act ≡ act.Put key bytes → LeadsTo contents may_give texts faults x cs y
      → is_in (removed_through cs) key ≡ false → is_some (map.get y.store.index key) ≡ true
  stored_stays u call moment newly x cs y key bytes answered puts leads apart =
      keys_stay x cs y key leads (by newly (subst (λ a. IndexSo a (reply.Stored newly) u.store.index x.store.index) puts answered.index)) apart
    where
      by : (b : Bool) → HoldsPut key (reply.Stored b) u.store.index x.store.index → is_some (map.get x.store.index key) ≡ true
      by true holds = holds.1 key ∙ ap (λ c. c || is_in (key ∷ []) key) holds.0 ∙ ap (λ c. c || false) (same_key-itself key)
      by false holds = ap (λ (i : Index). is_some (map.get i key)) holds.1 ∙ holds.0

  -- and no answer tells that it is missing
  pub stored_not_missing : (u : DepotView S) (call : Call) (moment : ℕ) (newly : Bool) (x : DepotView S) (cs : List (Change (DepotView S))) (y : DepotView S) (later : Call) (at : ℕ)
      (r : Reply) (z : DepotView S) (key : Key) (bytes : List ℕ) → IsAnswered contents may_give texts faults u call moment (reply.Stored newly) x → call.act ≡ act.Put key bytes
      → LeadsTo contents may_give texts faults x cs y → is_in (removed_through cs) key ≡ false → IsAnswered contents may_give texts faults y later at r z
      → TellsMissing key later.act r → ⊥
  stored_not_missing u call moment newly x cs y later at r z key bytes answered puts leads apart answers tells =
      let there = stored_stays u call moment newly x cs y key bytes answered puts leads apart in
      let lacks = known_not_missing y.store.index (may_give z.store.shelf) y.state key later r answers.serves.may_come tells in
      true≢false (sym there ∙ lacks)
