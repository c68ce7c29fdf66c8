-- The library that a shelf's text is of, and the refusal that is due. The key lemmas are started_due, faulted,
-- no_other, opened_state, absent_given and absent_cause.
use Rattle.std.proofs.Common.{◌≡◌, ◌≢◌, ℕ, Bool, true, false, cond, not, inl, inr, List, Option, None, Some, option_map, Result, Ok, Err, refl, sym, ap, subst, ◌∙◌, ◌==◌}
use Rattle.std.specs.Prelude.{IfErr, IfOk}
use Rattle.std.specs.Str.{bytes_eq}
use Rattle.std.proofs.lemmas.Slice.Eq.{bytes_eq-Decides}
use Rattle.ids.specs.Key.{Objects}
use Rattle.depot.proofs.MakeLemmas.{make_before}
use Rattle.library_rules.specs.Creation.{opening_commit, opening_object}
use Rattle.depot.specs.Start.{IsDueOr, IsGiven, IsNextOf, IsOpened, IsTextFault, first_incomplete, next_opening, start_refusal, text_refusal}
use Rattle.depot.proofs.StartLemmas.{fault_before}
use Rattle.depot.specs.declared.error.StartFault.{StartFault}
use Rattle.depot.specs.declared.error.StartFault.TheVariants as start
use Rattle.folder_storage.specs.Ground.{Absent, Standing}
use Rattle.library_rules.specs.LibraryState.{kept_commits, last_number}
use Rattle.library_state.specs.StateText.{state_of as read_state}
use Rattle.library_state.specs.declared.state.LibState.{LibState}
use Rattle.library_state.specs.declared.state_fault.StateKey.{StateKey}
use Rattle.object_graph.specs.declared.fault.TreeFault.{TreeFault}
use Rattle.object_store.specs.Shelf.{Contents, GivesNoMore}
use Rattle.object_store.specs.StoreView.{StoreView, status_of}
use Rattle.object_store.specs.declared.shelf.Slot.{Slot}
use Rattle.object_store.specs.declared.shelf.Slot.TheVariants.{Status}
use Rattle.server_words.specs.declared.command.Location.{Location}
use Rattle.library_server.specs.Starting.{GivesOther, IsDueOpening, IsNotBrought, IsNotStarted, IsOpenedState, IsTextOf, memory_library, objects_in, of_new, of_text, opening_refusal, read_refusal}
use Rattle.library_server.specs.Making.{IsNotMade}
use Rattle.library_server.specs.declared.making.NewLibrary.{NewLibrary}
use Rattle.library_server.specs.declared.not_done.NotMade.{NotMade}
use Rattle.library_server.specs.declared.not_done.NotMade.TheVariants as unmade
use Rattle.library_server.specs.declared.not_done.NotBrought.{NotBrought}
use Rattle.library_server.specs.declared.not_done.NotBrought.TheVariants as unbrought
use Rattle.library_server.specs.declared.not_done.NotStarted.{NotStarted}
use Rattle.library_server.specs.declared.not_done.NotStarted.TheVariants as unstarted
use Rattle.ids.proofs.BasicLemmas.{apart_from_bytes_eq, same_from_some}

-- a text that is the library's is opened as it is, or refused as it is
due_named : (lib : List ℕ) (objects : Objects) (text : List ℕ) (found : LibState) → read_state text ≡ Ok found → found.lib ≡ lib
    → opening_refusal lib objects (Some text) ≡ option_map unstarted.Fault (start_refusal objects (Some text))
due_named lib objects text found reads named = rw (reads, (bytes_eq-Decides found.lib lib).1 named) refl

pub started_due : (lib : List ℕ) (objects : Objects) (status : Option (List ℕ)) → IsTextOf lib status
    → opening_refusal lib objects status ≡ option_map unstarted.Fault (start_refusal objects status)
started_due lib objects status is =
    ap (opening_refusal lib objects) is.there ∙ due_named lib objects is.text is.found is.reads is.named ∙ ap (λ s. option_map unstarted.Fault (start_refusal objects s)) (sym is.there)

pub started_fault : (lib : List ℕ) (objects : Objects) (status : Option (List ℕ)) (fault : StartFault) → IsTextOf lib status
    → IsDueOr objects (start_refusal objects status) fault → IsDueOpening lib objects status (unstarted.Fault fault)
started_fault lib objects status fault is (inl due) = inl (started_due lib objects status is ∙ ap (option_map unstarted.Fault) due)
started_fault lib objects status fault is (inr free) = inr free

pub started_none : (lib : List ℕ) (objects : Objects) (status : Option (List ℕ)) → IsTextOf lib status → start_refusal objects status ≡ None
    → opening_refusal lib objects status ≡ None
started_none lib objects status is due = started_due lib objects status is ∙ ap (option_map unstarted.Fault) due

-- ---- what a shelf may give after it was read it might give before

pub given_before : {before now : Slot → Option (List ℕ) → Type 0} (state : LibState) → GivesNoMore before now → IsGiven now state → IsGiven before state
given_before state gives is = record { text = is.text; gives = gives Status (Some is.text) is.gives; reads = is.reads }

pub next_before : {before now : Slot → Option (List ℕ) → Type 0} (state : LibState) → GivesNoMore before now → IsNextOf now state → IsNextOf before state
next_before state gives is = record { found = is.found; given = given_before is.found gives is.given; next = is.next }

pub unstarted_before : {before now : Slot → Option (List ℕ) → Type 0} (lib : List ℕ) (why : NotStarted) → GivesNoMore before now → IsNotStarted now lib why → IsNotStarted before lib why
unstarted_before lib (unstarted.Fault fault) gives is = fault_before fault gives is
unstarted_before lib unstarted.Other gives is = record { state = is.state; given = given_before is.state gives is.given; other = is.other }

-- the state that was opened is that of a text of the library that was named
pub opened_state : {before now : Slot → Option (List ℕ) → Type 0} (location : Location) (lib : List ℕ) (shows : ℕ → Type 0) (state : LibState)
    → GivesNoMore before now → IsNextOf now state → state.lib ≡ lib → IsOpenedState before location lib shows state
opened_state location lib shows state gives given named = of_text (next_before state gives given) named

opened_before : {before now : Slot → Option (List ℕ) → Type 0} (location : Location) (lib : List ℕ) (shows : ℕ → Type 0) (state : LibState)
    → GivesNoMore before now → IsOpenedState now location lib shows state → IsOpenedState before location lib shows state
opened_before location lib shows state gives (of_text given named) = of_text (next_before state gives given) named
opened_before location lib shows state gives (of_new is moment shown same) = of_new is moment shown same

unmade_before : {before now : Slot → Option (List ℕ) → Type 0} (new : NewLibrary) (moment : ℕ) (why : NotMade) → GivesNoMore before now → IsNotMade now new moment why → IsNotMade before new moment why
unmade_before new moment (unmade.Storage failed) gives is = tt
unmade_before new moment unmade.Exists gives is = tt
unmade_before new moment (unmade.Refused fault) gives is = make_before gives (opening_object (opening_commit new.lib new.user moment)) fault is

pub unbrought_before : {before now : Slot → Option (List ℕ) → Type 0} (location : Location) (lib : List ℕ) (shows : ℕ → Type 0) (why : NotBrought)
    → GivesNoMore before now → IsNotBrought now location lib shows why → IsNotBrought before location lib shows why
unbrought_before location lib shows (unbrought.Storage failed) gives is = tt
unbrought_before location lib shows unbrought.Absent gives is = is
unbrought_before location lib shows (unbrought.Refused why) gives is = unstarted_before lib why gives is
unbrought_before location lib shows (unbrought.Unmade why) gives is = (is.0, is.1, is.2, unmade_before (memory_library lib) is.1 why gives is.3)

-- the same where it was looked for first, and is not there
pub absent_given : {T : Type 0} {before now : Slot → Option (List ℕ) → Type 0} (location : Location) (lib : List ℕ) (shows : ℕ → Type 0) (state_in : T → LibState) (result : Result T NotBrought)
    → GivesNoMore before now → IfOk result (λ x. IsOpenedState now location lib shows (state_in x)) → IfOk result (λ x. IsOpenedState before location lib shows (state_in x))
absent_given location lib shows state_in (Ok x) gives is = opened_before location lib shows (state_in x) gives is
absent_given location lib shows state_in (Err why) gives is = tt

pub absent_cause : {T : Type 0} {before now : Slot → Option (List ℕ) → Type 0} (location : Location) (lib : List ℕ) (shows : ℕ → Type 0) (result : Result T NotBrought)
    → GivesNoMore before now → IfErr result (IsNotBrought now location lib shows) → IfErr result (IsNotBrought before location lib shows)
absent_cause location lib shows (Ok x) gives is = tt
absent_cause location lib shows (Err why) gives is = unbrought_before location lib shows why gives is

-- a library that isn't there is opened with one object
pub counted_absent : {A : Type 0} (result : Result (A × ℕ) NotBrought) (standing : Standing) → standing ≡ Absent → IfOk result (λ opened. opened.1 ≡ 1)
    → IfOk result (λ opened. opened.1 ≡ objects_in standing)
counted_absent (Ok opened) standing absent one = one ∙ ap objects_in (sym absent)
counted_absent (Err why) standing absent one = tt

ok_same : (a b : LibState) → ◌≡◌ {A = Result LibState StateKey} (Ok a) (Ok b) → a ≡ b
ok_same a b e = cc

-- what is read again from the text of the named library is of that library
pub found_named : (lib : List ℕ) (status : Option (List ℕ)) → IsTextOf lib status → (text : List ℕ) (found : LibState) → status ≡ Some text
    → read_state text ≡ Ok found → found.lib ≡ lib
found_named lib status is text found there reads =
    let same : is.text ≡ text = same_from_some is.text text (sym is.there ∙ there) in
    let one : is.found ≡ found = ok_same is.found found (sym is.reads ∙ ap read_state same ∙ reads) in
    sym (ap (λ (z : LibState). z.lib) one) ∙ is.named

-- ---- another library

not_other : (b : Bool) → false ≡ not b → b ≡ true
not_other true e = refl
not_other false e = absurd (cc)

not_same : (b : Bool) → true ≡ not b → b ≡ true → ⊥
not_same true e t = cc
not_same false e t = cc

pub is_same : (a b : List ℕ) → false ≡ not (bytes_eq a b) → a ≡ b
is_same a b e = (bytes_eq-Decides a b).0 (not_other (bytes_eq a b) e)

pub is_other : (a b : List ℕ) → true ≡ not (bytes_eq a b) → a ≢ b
is_other a b e same = not_same (bytes_eq a b) e ((bytes_eq-Decides a b).1 same)

pub other_due : (lib : List ℕ) (objects : Objects) (status : Option (List ℕ)) (text : List ℕ) (found : LibState) → status ≡ Some text → read_state text ≡ Ok found
    → found.lib ≢ lib → opening_refusal lib objects status ≡ Some unstarted.Other
other_due lib objects status text found there reads other = ap (opening_refusal lib objects) there ∙ at
  where
    at : opening_refusal lib objects (Some text) ≡ Some unstarted.Other
    at = rw (reads, apart_from_bytes_eq found.lib lib other) refl

-- ---- a fault of the text alone

start_same : (a b : StartFault) → ◌≡◌ {A = Option StartFault} (Some a) (Some b) → a ≡ b
start_same a b e = cc

state_fault : (b : Bool) (o : Option TreeFault) (fault : StartFault) → IsTextFault fault → cond b (Some start.Worn) (option_map start.Walk o) ≡ Some fault → ⊥
state_fault true o fault is e = subst IsTextFault (sym (start_same start.Worn fault e)) is
state_fault false None fault is e = cc
state_fault false (Some why) fault is e = subst IsTextFault (sym (start_same (start.Walk why) fault e)) is

text_fault : (lib : List ℕ) (objects : Objects) (r : Result LibState StateKey) (fault : StartFault) → IsTextFault fault → text_refusal objects r ≡ Some fault
    → read_refusal lib objects r ≡ Some (unstarted.Fault fault)
text_fault lib objects (Err key) fault is e = ap (option_map unstarted.Fault) e
text_fault lib objects (Ok state) fault is e = absurd (state_fault (state.opening == last_number) (first_incomplete objects (kept_commits state.kept)) fault is e)

pub faulted : (lib : List ℕ) (objects : Objects) (status : Option (List ℕ)) (fault : StartFault) → IsTextFault fault
    → IsDueOr objects (start_refusal objects status) fault → IsDueOpening lib objects status (unstarted.Fault fault)
faulted lib objects None fault is (inl e) = inl (ap (option_map unstarted.Fault) e)
faulted lib objects (Some text) fault is (inl e) = inl (text_fault lib objects (read_state text) fault is e)
faulted lib objects status fault is (inr free) = inr free

-- ---- a library that was opened

next_lib : (state found : LibState) → state ≡ next_opening found → state.lib ≡ found.lib
next_lib state found next = ap (λ (z : LibState). z.lib) next

pub gives_other : (may_give : Slot → Option (List ℕ) → Type 0) (lib : List ℕ) (state : LibState) → IsNextOf may_give state → state.lib ≢ lib → GivesOther may_give lib
gives_other may_give lib state is other = record { state = is.found; given = is.given; other = λ same. other (next_lib state is.found is.next ∙ same) }

-- what was opened from the text of the named library is that library
pub no_other : {S : Type 0} (contents : S → Option Contents) (faults : S → ℕ) (given store : StoreView S) (state : LibState) (lib : List ℕ) (status : Option (List ℕ))
    → IsOpened contents faults given store state → status_of contents given ≡ Some status → IsTextOf lib status → state.lib ≢ lib → ⊥
no_other contents faults given store state lib status opened at is other =
    other (next_lib state opened.found opened.is_next
    ∙ found_named lib status is opened.is_found.text opened.found (opened.is_found.told status at) opened.is_found.reads)
