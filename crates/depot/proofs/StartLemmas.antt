-- A library that is opened again is sound. The key lemmas are opened_over, good_opened and left_unopened.
use Rattle.std.proofs.Common.{◌≡◌, ◌≢◌, ◌⊎◌, inl, inr, ℕ, ◌+◌, ◌≤◌, ◌==◌, Bool, true, false, if◌then◌else◌, List, [], ◌∷◌, length, refl, sym, ap, ◌∙◌, subst, true≢false, arith, Option, None, Some, option_map, Ok, Err}
use Rattle.std.proofs.lemmas.List.Elements.{recursion_from_All}
use Rattle.std.specs.List.{list_any, AllByRecursion}
use Rattle.ids.specs.Key.{Objects}
use Rattle.library_rules.specs.LibraryState.{IsSound, kept_commits, last_number, users_of}
use Rattle.library_rules.proofs.MemberLemmas.{same_id-true}
use Rattle.library_state.specs.ProperState.{IsProper, IsProperToken}
use Rattle.library_state.specs.declared.history.Install.{Install}
use Rattle.library_state.specs.declared.state.LibState.{LibState}
use Rattle.library_state.specs.declared.token.Token.{Token}
use Rattle.object_graph.specs.Objects.{same_id}
use Rattle.object_graph.specs.Traversal.{IsComplete, walk_commit}
use Rattle.object_graph.specs.declared.fault.TreeFault.{TreeFault}
use Rattle.library_state.specs.StateText.{state_of as read_state}
use Rattle.library_state.specs.declared.state_fault.StateKey.{StateKey}
use Rattle.object_store.specs.Shelf.{Contents, GivesNoMore}
use Rattle.object_store.specs.StoreView.{Keeps, StoreView, status_of}
use Rattle.object_store.specs.declared.error.StoreFault.{StoreFault}
use Rattle.object_store.specs.declared.shelf.Slot.{Slot}
use Rattle.object_store.specs.declared.shelf.Slot.TheVariants.{Status}
use Rattle.object_store.specs.declared.error.StoreFault.TheVariants.{Taken, Wrong, Damaged, Shelf, NoMemory}
use Rattle.depot.specs.DepotView.{depot_of, library, IsGood, IsSoundIn}
use Rattle.depot.specs.Start.{IsFound, IsOpened, LeftUnopenedBy, GivesBad, IsGiven, IsStartFault, IsStateFault, first_incomplete, next_opening, raised, state_refusal, untouched}
use Rattle.depot.specs.Writing.{Writes, written}
use Rattle.depot.specs.declared.error.StartFault.{StartFault}
use Rattle.depot.specs.declared.error.StartFault.TheVariants as start
use Rattle.depot.proofs.CompleteLemmas.{damage_before, start_before}
use Rattle.depot.proofs.GoodLemmas.{none_fresh, sound_told}
use Rattle.depot.proofs.WritingLemmas.{written_at}
use Rattle.std.proofs.lemmas.Bool.{or_cases}
use Rattle.tree_walk.specs.Files.{first_due}

-- ---- commits that are complete, one after another

first_none : (a b : Option TreeFault) → first_due a b ≡ None → (a ≡ None) × (b ≡ None)
first_none None b e = (refl, e)
first_none (Some fault) b e = cc

each_complete : (objects : Objects) (ids : List (List ℕ)) → first_incomplete objects ids ≡ None → (id : List ℕ) → list_any (same_id id) ids ≡ true → IsComplete objects id
each_complete objects [] none id e = absurd (true≢false (sym e))
each_complete objects (x ∷ ids) none id e =
    by (each_complete objects ids both.1 id) (or_cases (same_id id x) (list_any (same_id id) ids) e)
  where
    both : ((walk_commit objects x).fault ≡ None) × (first_incomplete objects ids ≡ None)
    both = first_none (walk_commit objects x).fault (first_incomplete objects ids) none

    by : (list_any (same_id id) ids ≡ true → IsComplete objects id) → (same_id id x ≡ true) ⊎ (list_any (same_id id) ids ≡ true) → IsComplete objects id
    by later (inl same) = subst (IsComplete objects) (sym (same_id-true id x same)) both.0
    by later (inr other) = later other

-- ---- what was read

not_worn : (b : Bool) (o : Option TreeFault) → (if b then Some start.Worn else option_map start.Walk o) ≡ None → (b ≡ false) × (o ≡ None)
not_worn true o e = cc
not_worn false None e = (refl, refl)
not_worn false (Some fault) e = cc

some_kept : (kept : List Install) → 1 ≤ length kept → kept ≢ []
some_kept [] some e = none some
  where
    none : 1 ≤ length {A = Install} [] → ⊥
    none le = omega arith
some_kept (x ∷ kept) some e = cc

lasts_of : (collection : ℕ) (tokens : List Token) → AllByRecursion (IsProperToken collection) tokens → AllByRecursion (λ (t : Token). t.last ≤ collection) tokens
lasts_of collection [] all = tt
lasts_of collection (t ∷ tokens) all = (all.0.last, lasts_of collection tokens all.1)

users_are : (collection : ℕ) (tokens : List Token) → AllByRecursion (IsProperToken collection) tokens
    → AllByRecursion (λ user. (1 ≤ length user) × (length user ≤ 255)) (users_of tokens)
users_are collection [] all = tt
users_are collection (t ∷ tokens) all = ((all.0.least, all.0.most), users_are collection tokens all.1)

next_fits : (opening : ℕ) → opening ≤ last_number → opening ≢ last_number → opening + 1 ≤ last_number
next_fits opening most other = omega arith

-- a proper state that can be opened is sound over its objects
pub opened_soundly : (found : LibState) (objects : Objects) (count : ℕ) → IsProper found → found.opening ≢ last_number
    → first_incomplete objects (kept_commits found.kept) ≡ None → IsSound (library (next_opening found) count objects)
opened_soundly found objects count proper other complete = record {
  kept = record {
    some_kept = some_kept found.kept proper.some_kept;
    complete = each_complete objects (kept_commits found.kept) complete;
    fresh_stored = λ key e. absurd (true≢false (sym e));
  };
  tokens = record {
    secrets = proper.tokens.distinct;
    few = proper.tokens.few;
    lasts = lasts_of found.collection found.tokens all;
    users = users_are found.collection found.tokens all;
  };
  numbers = record {
    collections = proper.collection;
    opened = more found.opening;
    openings = next_fits found.opening proper.opening other;
    day_count = proper.days;
    name_size = proper.name;
  };
}
  where
    all : AllByRecursion (IsProperToken found.collection) found.tokens
    all = recursion_from_All (IsProperToken found.collection) found.tokens proper.tokens.each

    more : (n : ℕ) → 1 ≤ n + 1
    more n = omega arith

pub opened_over : (found : LibState) (objects : Objects) (count : ℕ) → IsProper found → found.opening ≢ last_number → state_refusal objects found ≡ None
    → IsSound (library (next_opening found) count objects)
opened_over found objects count proper other free =
    opened_soundly found objects count proper other (not_worn (found.opening == last_number) (first_incomplete objects (kept_commits found.kept)) free).1

-- ---- a library that was opened

pub good_opened : {S : Type 0} (contents : S → Option Contents) (faults : S → ℕ) (given store : StoreView S) (state : LibState)
    → IsOpened contents faults given store state → state.kept ≢ [] → IsSoundIn contents store state → IsGood contents faults (depot_of store state false None)
good_opened contents faults given store state opened some sound = record {
  head = some;
  reads = opened.text.reads;
  fresh = none_fresh contents faults store;
  sound = sound_told contents faults (depot_of store state false None) (λ objects told. sound objects (faults store.shelf) told);
  text = λ objects status told at. written_at state (status_of contents given) (status_of contents store) status opened.text.text at;
}

-- the store after the text with the next opening number wasn't written
pub left_unopened : {S : Type 0} (contents : S → Option Contents) (given mid store : StoreView S) (found : LibState) (fault : StoreFault) → IsFound contents given found
    → found.opening ≢ last_number → status_of contents mid ≡ status_of contents given → Writes (next_opening found) (status_of contents mid) (status_of contents store) (Err fault)
    → LeftUnopenedBy contents given store (start.Store fault)
left_unopened contents given mid store found (Taken id) is more same writes = absurd writes
left_unopened contents given mid store found (Wrong id) is more same writes = absurd writes
left_unopened contents given mid store found (Damaged want got) is more same writes = absurd writes
left_unopened contents given mid store found Shelf is more same (inl old) = (untouched (old ∙ same), λ e. absurd (true≢false e))
left_unopened contents given mid store found Shelf is more same (inr new) = (raised found is more (record { text = new.text ∙ ap (written (next_opening found)) same; reads = new.reads }), λ e. absurd (true≢false e))
left_unopened contents given mid store found NoMemory is more same writes = (untouched (writes ∙ same), λ e. writes ∙ same)

-- two calls that change nothing keep the text
pub same_status : {S : Type 0} (contents : S → Option Contents) (given mid last : StoreView S) → Keeps contents given mid → Keeps contents mid last → status_of contents last ≡ status_of contents given
same_status contents given mid last first second = ap (option_map (λ (held : Contents). held.status)) (second.shelf ∙ first.shelf)

-- before the text was written
pub left_by : {S : Type 0} (contents : S → Option Contents) (given store : StoreView S) (fault : StartFault) → status_of contents store ≡ status_of contents given → LeftUnopenedBy contents given store fault
left_by contents given store (start.Store fault) kept = (untouched kept, λ e. kept)
left_by contents given store start.NoState kept = kept
left_by contents given store (start.BadState key) kept = kept
left_by contents given store start.Worn kept = kept
left_by contents given store (start.Walk fault) kept = kept

-- the cause of a fault of the state that was read
pub state_cause : (given mid : Slot → Option (List ℕ) → Type 0) (found : LibState) (fault : StartFault)
    → IsGiven given found → GivesNoMore given mid → IsStateFault found mid fault → IsStartFault given fault
state_cause given mid found fault is gives cause = by fault (start_before found fault gives cause)
  where
    by : (why : StartFault) → IsStateFault found given why → IsStartFault given why
    by (start.Store why) of_state = of_state
    by start.NoState of_state = absurd of_state
    by (start.BadState key) of_state = absurd of_state
    by start.Worn of_state = record { state = found; given = is; last = of_state }
    by (start.Walk why) of_state = tt

-- a text that was given after a read might be given before it
pub given_before : (before now : Slot → Option (List ℕ) → Type 0) (text : List ℕ) (found : LibState) → GivesNoMore before now → now Status (Some text) → read_state text ≡ Ok found
    → IsGiven before found
given_before before now text found gives is reads = record { text = text; gives = gives Status (Some text) is; reads = reads }

-- or refused
pub refused_before : (before now : Slot → Option (List ℕ) → Type 0) (text : List ℕ) (key : StateKey) → GivesNoMore before now → now Status (Some text) → read_state text ≡ Err key
    → GivesBad before key
refused_before before now text key gives is reads = record { text = text; gives = gives Status (Some text) is; reads = reads }

-- what a shelf may give after it was read it might give before
pub fault_before : {before now : Slot → Option (List ℕ) → Type 0} (fault : StartFault) → GivesNoMore before now → IsStartFault now fault → IsStartFault before fault
fault_before start.NoState gives is = gives Status None is
fault_before (start.BadState key) gives is = record { text = is.text; gives = gives Status (Some is.text) is.gives; reads = is.reads }
fault_before start.Worn gives is = record {
  state = is.state;
  given = record { text = is.given.text; gives = gives Status (Some is.given.text) is.given.gives; reads = is.given.reads };
  last = is.last;
}
fault_before (start.Walk why) gives is = tt
fault_before (start.Store why) gives is = damage_before why gives is
