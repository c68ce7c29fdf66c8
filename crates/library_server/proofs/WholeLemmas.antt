-- Storage that never fails, and objects under their own names. The key lemmas are answers_whole, made_whole and
-- started_whole.
use Rattle.std.proofs.Common.{◌≡◌, ◌≢◌, ◌⊎◌, inl, inr, ℕ, ◌==◌, Bool, true, false, cond, List, [], ◌∷◌, length, nat_le, Option, None, Some, is_some, option_map, Result, Ok, Err, refl, sym, ap, subst, ◌∙◌, true≢false, arith}
use Rattle.std.specs.Prelude.{IsTrue, ⊤}
use Rattle.std.specs.FinMap as map
use Rattle.std.specs.Str.{bytes_eq}
use Rattle.ids.specs.FaultCount.{FailsBy, Rose}
use Rattle.ids.specs.Key.{Objects, key_cmp}
use Rattle.ids.specs.ObjectId.{nil}
use Rattle.ids.specs.Outcome.{RefusesAs}
use Rattle.ids.specs.declared.key.Key.{Key}
use Rattle.depot.specs.Answering.{AnswersBySome}
use Rattle.depot.specs.DepotView.{DepotView, running_library, state_of}
use Rattle.depot.specs.ObjectCalls.{Counts, IsToldDamage}
use Rattle.depot.specs.Make.{is_make_counted, is_make_free, make_refusal}
use Rattle.depot.specs.Start.{first_incomplete, state_refusal}
use Rattle.depot.specs.Tokens.{is_token_counted, is_token_free, token_refusal}
use Rattle.depot.specs.declared.error.MakeFault.{MakeFault}
use Rattle.depot.specs.declared.error.MakeFault.TheVariants as make
use Rattle.depot.specs.declared.error.StartFault.TheVariants as start
use Rattle.depot.specs.declared.error.TokenFault.{TokenFault}
use Rattle.depot.specs.declared.error.TokenFault.TheVariants as token
use Rattle.folder_storage.specs.Ground.{Absent, HandedOut, Kept, Standing}
use Rattle.library_rules.specs.Changes.{put_new}
use Rattle.library_rules.specs.LibraryState.{State, kept_commits, last_number}
use Rattle.library_state.specs.StateText.{state_of as read_state}
use Rattle.library_state.specs.Tokens.{is_taken}
use Rattle.library_state.specs.declared.call.Call.{Call}
use Rattle.library_state.specs.declared.refusal.Refusal.{Refusal}
use Rattle.library_state.specs.declared.refusal.Refusal.TheVariants as refusal
use Rattle.library_state.specs.declared.reply.Reply.{Reply}
use Rattle.library_state.specs.declared.reply.Reply.TheVariants as reply
use Rattle.library_state.specs.declared.state.LibState.{LibState}
use Rattle.library_state.specs.declared.state_fault.StateKey.{StateKey}
use Rattle.library_state.specs.declared.token.Token.{Token}
use Rattle.object_graph.specs.Objects.{commit_key}
use Rattle.object_graph.specs.declared.fault.TreeFault.{TreeFault}
use Rattle.object_graph.specs.declared.fault.TreeFault.TheVariants as tree
use Rattle.object_store.proofs.RefusalLemmas.{names-empty, undamaged}
use Rattle.object_store.specs.Shelf.{Contents}
use Rattle.object_store.specs.Store.{HasNames, damage_at, first_refusal, is_free, name_refusal, put_refusal, same_bytes, stored_refusal}
use Rattle.object_store.specs.StoreView.{objects_of}
use Rattle.object_store.specs.declared.error.StoreFault.{StoreFault}
use Rattle.object_store.specs.declared.error.StoreFault.TheVariants as store
use Rattle.object_store.specs.declared.shelf.ShelfFailed.{ShelfFailed}
use Rattle.object_store.specs.declared.shelf.ShelfFailed.TheVariants as shelf
use Rattle.object_store.specs.declared.shelf.Slot.{Slot}
use Rattle.worker_server.specs.Calls.{AnsweredSo, HostRules, Told, Ran, call_asked, collection_asked, look_asked, rules_at}
use Rattle.library_server.proofs.DepotLemmas.{mapped_from}
use Rattle.library_server.proofs.NamesLemmas.{names_new, names_stepped}
use Rattle.library_server.proofs.TokenLemmas.{freed}
use Rattle.library_server.specs.Answering.{AnswersOn, LooksOn, NamesIn, NeverFails, SparesOn, is_storage_reply}
use Rattle.library_server.specs.Collecting.{CollectsOn}
use Rattle.library_server.specs.Counting.{OpenedView}
use Rattle.library_server.specs.Starting.{IsDueOpening, IsOpenedFrom, is_unstarted_counted, opening_refusal, read_refusal}
use Rattle.library_server.specs.Lines.{fault_of_make, fault_of_not_added, fault_of_not_made, fault_of_not_started, fault_of_shelf, fault_of_store, fault_of_token, fault_of_tree, is_storage_fault}
use Rattle.library_server.specs.Making.{no_objects}
use Rattle.library_server.specs.Runs.{added_line, created_line}
use Rattle.library_server.specs.Whole.{IsWhole, NotOfStorage}
use Rattle.library_server.specs.WholeRuns.{NoneOfStorage, is_storage_line, tells_storage}
use Rattle.library_server.specs.declared.not_done.NotAdded.{NotAdded}
use Rattle.library_server.specs.declared.not_done.NotMade.{NotMade}
use Rattle.library_server.specs.declared.not_done.NotStarted.{NotStarted}
use Rattle.library_server.specs.declared.not_done.NotStarted.TheVariants as unstarted
use Rattle.ids.proofs.BasicLemmas.{same_from_some}

-- a count that stays 0 didn't rise
never_rose : Rose 0 0 → ⊥
never_rose rose = omega (arith, rose)

never : IsTrue false → ⊥
never e = cc

-- damage is told of nothing where objects lie under their names
no_damage : (objects : Objects) (key : Key) (why : StoreFault) → HasNames objects → damage_at objects key ≡ Some why → ⊥
no_damage objects key why names e = true≢false (sym (ap is_some e) ∙ ap is_some (undamaged objects key names))

-- ---- replies

pub refusal_whole : (objects : Objects) (why : Refusal) → HasNames objects → Counts 0 0 (reply.Refused why) → IsToldDamage objects (reply.Refused why)
    → is_storage_reply (reply.Refused why) ≡ false
refusal_whole objects refusal.Store names count told = absurd (never_rose count.1)
refusal_whole objects (refusal.Damaged want got) names count told = absurd (no_damage objects told.0 (store.Damaged want got) names told.1)
refusal_whole objects other names count told = refl

reply_whole : (objects : Objects) (r : Reply) → HasNames objects → Counts 0 0 r → IsToldDamage objects r → is_storage_reply r ≡ false
reply_whole objects (reply.Refused why) names count told = refusal_whole objects why names count told
reply_whole objects other names count told = refl

module _ {S : Type 0} (contents : S → Option Contents) (faults : S → ℕ) where
  -- where a depot stands for a state, its objects are the state's
  pub names_of : (depot : DepotView S) (s : State) → state_of contents faults depot ≡ Some s → HasNames s.objects → NamesIn contents depot
  names_of depot s told names =
      let found = mapped_from (running_library depot.state depot.running (faults depot.store.shelf)) (objects_of contents depot.store) s told in
      let same : running_library depot.state depot.running (faults depot.store.shelf) found.0 ≡ s =
      same_from_some (running_library depot.state depot.running (faults depot.store.shelf) found.0) s
      (sym (ap (option_map (running_library depot.state depot.running (faults depot.store.shelf))) found.1) ∙ told) in
      (found.0, found.1, subst (λ (z : State). HasNames z.objects) (sym same) names)

  pub answers_whole : (old new : DepotView S) (call : Call) (moment : ℕ) (r : Reply)
      → ((s : State) → state_of contents faults old ≡ Some s → AnswersBySome s call moment r (state_of contents faults new))
      → ((objects : Objects) → objects_of contents old.store ≡ Some objects → IsToldDamage objects r)
      → Counts (faults old.store.shelf) (faults new.store.shelf) r → NeverFails faults → NamesIn contents old
      → (is_storage_reply r ≡ false) × NamesIn contents new
  answers_whole old new call moment r told damaged count steady names =
      let objects = names.0 in
      let before = running_library old.state old.running (faults old.store.shelf) objects in
      let answers = told before (ap (option_map (running_library old.state old.running (faults old.store.shelf))) names.1) in (
        reply_whole objects r names.2
            (subst (λ n. Counts 0 n r) (steady new.store.shelf) (subst (λ n. Counts n (faults new.store.shelf) r) (steady old.store.shelf) count))
            (damaged objects names.1),
        names_of new answers.1.state answers.1.left (names_stepped before call moment r answers.1.state answers.0 answers.1.step names.2),
      )

-- ---- making

make_free : (why : MakeFault) → FailsBy {T = ⊤} is_make_counted 0 0 (Err why) → IsTrue (is_make_free why) → is_storage_fault (fault_of_make why) ≡ false
make_free make.HasState count free = refl
make_free (make.Store (store.Taken id)) count free = refl
make_free (make.Store (store.Wrong id)) count free = absurd (never free)
make_free (make.Store (store.Damaged want got)) count free = absurd (never free)
make_free (make.Store store.Shelf) count free = absurd (never_rose count.1)
make_free (make.Store store.NoMemory) count free = refl

make_due : (why : MakeFault) (b : Bool) (id : List ℕ) → option_map make.Store (first_refusal (cond b (Some (store.Taken id)) None) None) ≡ Some why
    → is_storage_fault (fault_of_make why) ≡ false
make_due why true id due = subst (λ w. is_storage_fault (fault_of_make w) ≡ false) (same_from_some (make.Store (store.Taken id)) why due) refl
make_due why false id due = absurd (cc)

-- the opening commit is put on an empty shelf: that is refused for forty zeros, or for want of memory
pub made_whole : (id bytes : List ℕ) (why : MakeFault) → FailsBy {T = ⊤} is_make_counted 0 0 (Err why)
    → (make_refusal None (put_refusal no_objects (commit_key id) bytes) ≡ Some why) ⊎ IsTrue (is_make_free why) → is_storage_fault (fault_of_make why) ≡ false
made_whole id bytes why count (inr free) = make_free why count free
made_whole id bytes why count (inl due) =
    make_due why (same_bytes id nil) id
    (ap (λ o. option_map make.Store (first_refusal (name_refusal (commit_key id) bytes) (stored_refusal (commit_key id) bytes o))) (sym (map.get-empty key_cmp (commit_key id))) ∙ due)

-- a new library's one object lies under its own name
pub new_names : (id bytes : List ℕ) → HasNames (put_new no_objects (record { key = commit_key id; bytes = bytes }))
new_names id bytes = names_new no_objects (record { key = commit_key id; bytes = bytes }) names-empty refl

-- ---- opening

tree_whole : (why : TreeFault) → is_storage_fault (fault_of_tree why) ≡ false
tree_whole (tree.Incomplete key) = refl
tree_whole other = refl

abbrev IsOfText : NotStarted → Type 0
IsOfText why = is_storage_fault (fault_of_not_started why) ≡ false

told_of_text : (is why : NotStarted) → ◌≡◌ {A = Option NotStarted} (Some is) (Some why) → IsOfText is → IsOfText why
told_of_text is why same of_text = subst IsOfText (same_from_some is why same) of_text

state_whole : (b : Bool) (o : Option TreeFault) (why : NotStarted) → option_map unstarted.Fault (cond b (Some start.Worn) (option_map start.Walk o)) ≡ Some why → IsOfText why
state_whole true o why due = told_of_text (unstarted.Fault start.Worn) why due refl
state_whole false None why due = absurd (cc)
state_whole false (Some fault) why due = told_of_text (unstarted.Fault (start.Walk fault)) why due (tree_whole fault)

named_whole : (b : Bool) (objects : Objects) (state : LibState) (why : NotStarted)
    → cond b (option_map unstarted.Fault (state_refusal objects state)) (Some unstarted.Other) ≡ Some why → IsOfText why
named_whole true objects state why due = state_whole (state.opening == last_number) (first_incomplete objects (kept_commits state.kept)) why due
named_whole false objects state why due = told_of_text unstarted.Other why due refl

read_whole : (lib : List ℕ) (objects : Objects) (r : Result LibState StateKey) (why : NotStarted) → read_refusal lib objects r ≡ Some why → IsOfText why
read_whole lib objects (Err key) why due = told_of_text (unstarted.Fault (start.BadState key)) why due refl
read_whole lib objects (Ok state) why due = named_whole (bytes_eq state.lib lib) objects state why due

due_whole : (lib : List ℕ) (objects : Objects) (status : Option (List ℕ)) (why : NotStarted) → opening_refusal lib objects status ≡ Some why → IsOfText why
due_whole lib objects None why due = told_of_text (unstarted.Fault start.NoState) why due refl
due_whole lib objects (Some text) why due = read_whole lib objects (read_state text) why due

pub started_whole : (lib : List ℕ) (objects : Objects) (status : Option (List ℕ)) (why : NotStarted) → HasNames objects
    → FailsBy {T = ⊤} is_unstarted_counted 0 0 (Err why) → IsDueOpening lib objects status why → is_storage_fault (fault_of_not_started why) ≡ false
started_whole lib objects status why names count (inl due) = due_whole lib objects status why due
started_whole lib objects status unstarted.Other names count (inr free) = absurd free
started_whole lib objects status (unstarted.Fault start.NoState) names count (inr free) = refl
started_whole lib objects status (unstarted.Fault (start.BadState key)) names count (inr free) = refl
started_whole lib objects status (unstarted.Fault start.Worn) names count (inr free) = refl
started_whole lib objects status (unstarted.Fault (start.Walk fault)) names count (inr free) = tree_whole fault
started_whole lib objects status (unstarted.Fault (start.Store (store.Taken id))) names count (inr free) = absurd free
started_whole lib objects status (unstarted.Fault (start.Store (store.Wrong id))) names count (inr free) = absurd free
started_whole lib objects status (unstarted.Fault (start.Store (store.Damaged want got))) names count (inr free) =
    absurd (no_damage objects free.0 (store.Damaged want got) names free.1)
started_whole lib objects status (unstarted.Fault (start.Store store.Shelf)) names count (inr free) = absurd (never_rose count.1)
started_whole lib objects status (unstarted.Fault (start.Store store.NoMemory)) names count (inr free) = refl

-- what was opened has the objects that lay there
pub opened_names : (lib : List ℕ) (held : Contents) (s : State) → IsOpenedFrom lib held s → HasNames held.objects → HasNames s.objects
opened_names lib held s is names = subst (λ (z : State). HasNames z.objects) (sym is.state) names

-- ---- tokens

pub token_whole : (tokens : List Token) (secret : List ℕ) (why : TokenFault) → RefusesAs {T = ⊤} is_token_free (Err why) (token_refusal tokens secret)
    → FailsBy {T = ⊤} is_token_counted 0 0 (Err why) → is_storage_fault (fault_of_token why) ≡ false
token_whole tokens secret token.SecretTaken refused count = refl
token_whole tokens secret token.Full refused count = refl
token_whole tokens secret (token.Store why) refused count = store_whole why (freed why (is_taken tokens secret) (nat_le 1000 (length tokens)) refused) count
  where
    store_whole : (why : StoreFault) → IsTrue (is_free why) → FailsBy {T = ⊤} is_token_counted 0 0 (Err (token.Store why)) → is_storage_fault (fault_of_store why) ≡ false
    store_whole (store.Taken id) free count = refl
    store_whole (store.Wrong id) free count = absurd (never free)
    store_whole (store.Damaged want got) free count = absurd (never free)
    store_whole store.Shelf free count = absurd (never_rose count.1)
    store_whole store.NoMemory free count = refl

-- ---- places

-- a failure for want of memory alone
pub want_whole : (failed : ShelfFailed) → failed ≡ shelf.NoMemory → is_storage_fault (fault_of_shelf failed) ≡ false
want_whole failed want = ap (λ f. is_storage_fault (fault_of_shelf f)) want

pub whole_in : (standing : Standing) → IsWhole standing → standing ≢ HandedOut
whole_in Absent whole e = cc
whole_in (Kept held) whole e = cc
whole_in HandedOut whole e = whole

-- counts of storage that never fails
pub steady_count : {T E : Type 0} (counted : E → Bool) (before now : ℕ) (result : Result T E) → before ≡ 0 → now ≡ 0 → FailsBy counted before now result → FailsBy counted 0 0 result
steady_count counted before now result b n count = subst (λ k. FailsBy counted 0 k result) n (subst (λ k. FailsBy counted k now result) b count)

-- ---- lines

pub created_whole : (lib : List ℕ) (created : Result (List ℕ) NotMade) → NotOfStorage fault_of_not_made created → is_storage_line (created_line lib created) ≡ false
created_whole lib (Ok head) whole = refl
created_whole lib (Err why) whole = whole

pub added_whole : (added : Result ⊤ NotAdded) → NotOfStorage fault_of_not_added added → is_storage_line (added_line added) ≡ false
added_whole (Ok done) whole = refl
added_whole (Err why) whole = whole

-- ---- connections

module _ {S : Type 0} (contents : S → Option Contents) (may_give : S → Slot → Option (List ℕ) → Type 0) (texts faults : S → ℕ) (shows : ℕ → Type 0) where
  abbrev pub opened_rules : HostRules (OpenedView S) ⊤
  opened_rules = rules_at shows (AnswersOn contents may_give texts faults) SparesOn (CollectsOn contents may_give texts faults) LooksOn

  -- a call and a collection leave objects under their own names, and tell no refusal by storage that never fails
  told_whole : (library after : OpenedView S) (t : Told ⊤) → NeverFails faults → NamesIn contents library.depot → AnsweredSo opened_rules library t after
      → (tells_storage t ≡ false) × NamesIn contents after.depot
  told_whole library after (call_asked lib call answer lines) steady names answered = answered.2.steady steady names
  told_whole library after (collection_asked lib secret ends lines) steady names answered = answered.steady steady names
  told_whole library after (look_asked lib secret tag same lines) steady names looked = (refl, subst (λ (w : OpenedView S). NamesIn contents w.depot) (sym looked.2) names)

  -- no reply is a refusal by storage that never fails
  pub calls_whole : (library after : OpenedView S) (calls : List (Told ⊤)) → NeverFails faults → NamesIn contents library.depot → Ran opened_rules library calls after
      → NoneOfStorage calls
  calls_whole library after [] steady names ran = tt
  calls_whole library after (t ∷ calls) steady names ran =
      let whole = told_whole library ran.0 t steady names ran.1 in
      (whole.0, calls_whole ran.0 after calls steady whole.1 ran.2)
