-- How a filling ended, of a hall's one library, and what follows for its line: where it tells a failure of the storage its count rose, and over storage
-- that never fails it tells none. The key lemmas are collected_by, stopped_by, comes_rose and comes_whole.
use Rattle.std.proofs.Common.{◌≡◌, ◌⊎◌, inl, inr, ◌+◌, ℕ, zero, suc, Bool, true, false, cond, nat_le, List, [], ◌∷◌, length, refl, sym, ap, ◌∙◌, subst, arith, true≢false, Option, None, Some, option_map, Result, Ok, Err}
use Rattle.std.specs.Prelude.{IsTrue, ◌==◌, if◌then◌else◌, map as map_list}
use Rattle.std.specs.List.{slice_get}
use Rattle.std.specs.Str.{bytes_eq}
use Rattle.std.proofs.lemmas.Bool.{false≢true}
use Rattle.std.proofs.lemmas.Slice.Eq.{bytes_eq-Decides}
use Rattle.ids.specs.FaultCount.{Rose}
use Rattle.ids.specs.declared.key.Key.{Key}
use Rattle.ids.proofs.BasicLemmas.{same_from_some}
use Rattle.library_rules.specs.Calls.{right_for, token_of}
use Rattle.library_rules.specs.LibraryState.{last_number}
use Rattle.library_state.specs.Rights.{right_number}
use Rattle.library_state.specs.declared.call.Act.{Act}
use Rattle.library_state.specs.declared.call.Call.{Call}
use Rattle.library_state.specs.declared.refusal.Refusal.{Refusal}
use Rattle.library_state.specs.declared.refusal.Refusal.TheVariants as refusal
use Rattle.library_state.specs.declared.reply.Reply.{Reply}
use Rattle.library_state.specs.declared.reply.Reply.TheVariants as reply
use Rattle.library_state.specs.declared.right.Right.{Right}
use Rattle.library_state.specs.declared.right.Right.TheVariants.{Read, Write, Owner}
use Rattle.library_state.specs.declared.token.Token.{Token}
use Rattle.object_store.specs.Shelf.{Contents}
use Rattle.object_store.specs.declared.shelf.Slot.{Slot}
use Rattle.depot.specs.Answering.{permits}
use Rattle.depot.specs.CollectionTurns.{CountsTurn, is_owner, permits_collection}
use Rattle.depot.specs.DepotView.{DepotView}
use Rattle.depot.specs.ObjectCalls.{Counts}
use Rattle.depot.specs.Story.{IsSame, LeadsTo, MadeBy}
use Rattle.depot.specs.declared.story.Change.{Change}
use Rattle.depot.specs.declared.story.Made.{Made}
use Rattle.depot.specs.declared.story.Made.TheVariants as made
use Rattle.depot.specs.declared.turn.Turn.{Turn}
use Rattle.depot.specs.declared.turn.Turn.TheVariants as turn
use Rattle.sync_calls.specs.Asking.{AsksSo, IsNowhere}
use Rattle.sync_calls.specs.Collecting.{CollectsSo, EndsAs, EndsSo, OneTurn, collects, left_by, told as told_number}
use Rattle.sync_calls.specs.Door.{admitted}
use Rattle.sync_calls.specs.Hall.{PassOf, drawn_by, passes_in, shown_by}
use Rattle.sync_calls.specs.Operations.{Called, IsDone, IsMadeBy, Line, TookTurn}
use Rattle.sync_calls.specs.Shown.{LibraryPass, Shown, all_shown, library_after, library_at, shown_of}
use Rattle.sync_calls.specs.declared.asking.Answer.{Answer as HallAnswer}
use Rattle.sync_calls.specs.declared.collecting.Collected.{Collected}
use Rattle.sync_calls.specs.declared.collecting.Collected.TheVariants as collected
use Rattle.sync_calls.proofs.ShownLemmas.{last_at}
use Rattle.turnstile.specs.PassView.{drawn_of, seen_of, start_of}
use Rattle.turnstile.specs.Rule.{most_turns}
use Rattle.hall_server.proofs.LaterLemmas.{none_some}
use Rattle.generated_library.specs.Leading.{call_of}
use Rattle.generated_library.specs.Stopping.{EndsFor, WasCollected, WasNotCollected, WasRefused}
use Rattle.generated_library.specs.declared.asking.NotFilled.{NotFilled}
use Rattle.generated_library.specs.declared.asking.NotFilled.TheVariants as unfilled
use Rattle.generated_library.specs.declared.filling.Filled.{Filled}
use Rattle.generated_library.proofs.OwnLemmas.{alone_set}
use Rattle.server_words.specs.declared.fault.Fault.{Fault}
use Rattle.server_words.specs.declared.fault.Fault.TheVariants as fault
use Rattle.library_server.specs.Answering.{NamesIn, NeverFails, is_of_storage}
use Rattle.library_server.specs.Filling.{ComesOf, IsLastAnswer, IsLastCollection, IsLastRefused, IsOwnedBy, IsStopped, LeadsOut, exists, fault_of_not_filled, fault_of_refusal, filled_line, is_unfilled_counted, new, no_room, of_call, of_lock, of_turn, stopped, whole}
use Rattle.library_server.specs.Lines.{is_storage_fault}
use Rattle.library_server.specs.WholeRuns.{is_storage_line}
use Rattle.library_server.proofs.CollectingWholeLemmas.{is_storage_turn}
use Rattle.library_server.proofs.HallWholeLemmas.{did_call, did_turn, names_after}

-- ---- lists of one

only_at : {A : Type 0} (x y : A) (n : ℕ) → slice_get (x ∷ []) n ≡ Some y → y ≡ x
only_at x y zero is = same_from_some y x (sym is)
only_at x y (suc n) is = absurd (none_some y is)

-- ---- what an owner may

shown_first : (a b : List ℕ × Right) → Some a ≡ Some b → a ≡ b
shown_first a b e = cc

none_shown : (a : List ℕ × Right) → ◌≡◌ {A = Option (List ℕ × Right)} None (Some a) → ⊥
none_shown a e = cc

owner_first : (tokens : List Token) (secret : List ℕ) → IsOwnedBy tokens secret → (t : Token) × (token_of tokens (Some secret) ≡ Some t) × (t.right ≡ Owner)
owner_first [] secret owned = absurd (none_shown (secret, Owner) owned)
owner_first (t ∷ tokens) secret owned =
    let pair : ◌≡◌ {A = List ℕ × Right} (t.secret, t.right) (secret, Owner) = shown_first (t.secret, t.right) (secret, Owner) owned in
    let own : t.secret ≡ secret = ap (λ (p : List ℕ × Right). p.0) pair in
    let same : bytes_eq secret t.secret ≡ true = (bytes_eq-Decides secret t.secret).1 (sym own) in
    (t, ap (λ (b : Bool). cond b (Some t) (token_of tokens (Some secret))) same, ap (λ (p : List ℕ × Right). p.1) pair)

below_owner : (r : Right) → nat_le (right_number r) 2 ≡ true
below_owner Read = refl
below_owner Write = refl
below_owner Owner = refl

owner_permitted : (tokens : List Token) (secret : List ℕ) (a : Act) → IsOwnedBy tokens secret → permits (token_of tokens (Some secret)) a ≡ true
owner_permitted tokens secret a owned =
    let first = owner_first tokens secret owned in
    ap (λ (o : Option Token). permits o a) first.1 ∙ (ap (λ (r : Right). nat_le (right_number (right_for a)) (right_number r)) first.2 ∙ below_owner (right_for a))

owner_collects : (tokens : List Token) (secret : List ℕ) → IsOwnedBy tokens secret → permits_collection (token_of tokens (Some secret)) ≡ true
owner_collects tokens secret owned =
    let first = owner_first tokens secret owned in
    ap permits_collection first.1 ∙ ap is_owner first.2

-- ---- refusals

refused_same : (x y : Refusal) → ◌≡◌ {A = Reply} (reply.Refused x) (reply.Refused y) → x ≡ y
refused_same x y e = cc

ended_same : (x y : Refusal) → ◌≡◌ {A = Collected} (collected.Refused x) (collected.Refused y) → x ≡ y
ended_same x y e = cc

not_done : (why : Refusal) (number removed turns : ℕ) → ◌≡◌ {A = Collected} (collected.Refused why) (collected.Done number removed turns) → ⊥
not_done why number removed turns e = cc

-- the turn that ended a collection as refused was refused so
refused_turn : (t : Turn) (left taken : ℕ) (why : Refusal) → EndsAs t left taken (collected.Refused why) → (keys : List Key) × (t ≡ turn.Refused why keys)
refused_turn (turn.Ended number) left taken why ends = absurd (not_done why number (told_number left) (told_number taken) ends)
refused_turn (turn.Refused is keys) left taken why ends = (keys, ap (λ (r : Refusal). turn.Refused r keys) (sym (ended_same why is ends)))
refused_turn other left taken why ends = absurd ends

-- ---- what a hall tells of its one library, through this pass to it

module _ {S : Type 0} (contents : S → Option Contents) (may_give : S → Slot → Option (List ℕ) → Type 0) (texts faults : S → ℕ) (shows : ℕ → Type 0) (lib secret : List ℕ)
    (depot : DepotView S) (pass : PassOf S) (to : LibraryPass S) (alone : passes_in pass ≡ to ∷ []) (begins : start_of to ≡ Some depot) (named : lib ≡ depot.state.lib)
    (owned : IsOwnedBy depot.state.tokens secret) where
  shown_alone : shown_by pass ≡ shown_of to ∷ []
  shown_alone = ap (λ (ps : List (LibraryPass S)). all_shown ps) alone

  drawn_alone : drawn_by pass ≡ drawn_of to ∷ []
  drawn_alone = ap (λ (ps : List (LibraryPass S)). map_list drawn_of ps) alone

  -- the library is there
  nowhere_never : (us : List (Shown S)) → shown_by pass ≡ us → IsNowhere us lib → ⊥
  nowhere_never us same away =
      let here : IsNowhere (shown_of to ∷ []) lib = subst (λ (ws : List (Shown S)). IsNowhere ws lib) (sym same ∙ shown_alone) away in
      here 0 (shown_of to) refl (ap (λ (o : Option (DepotView S)). option_map (λ (d : DepotView S). d.state.lib) o) begins ∙ ap Some (sym named))

  -- and it is the one that is asked
  here_is : (us : List (Shown S)) (library : ℕ) (u : Shown S) → shown_by pass ≡ us → slice_get us library ≡ Some u → u ≡ shown_of to
  here_is us library u same at = only_at (shown_of to) u library (subst (λ (ws : List (Shown S)). slice_get ws library ≡ Some u) (sym same ∙ shown_alone) at)

  start_is : (u : Shown S) → u ≡ shown_of to → u.start ≡ Some depot
  start_is u is = ap (λ (w : Shown S). w.start) is ∙ begins

  drawn_last : (library drawn : ℕ) → slice_get (drawn_by pass) library ≡ Some drawn → drawn_of to ≡ drawn
  drawn_last library drawn drew = sym (only_at (drawn_of to) drawn library (subst (λ (ns : List ℕ). slice_get ns library ≡ Some drawn) drawn_alone drew))

  -- the last call was answered so, or its lock gave no turn
  asked_last : (us : List (Shown S)) (a : Act) (moment : ℕ) (answer : HallAnswer) (lines : List Line) → shows moment
      → AsksSo contents may_give texts faults us lib (call_of (Some secret) a) moment answer lines (shown_by pass) (drawn_by pass)
      → IsLastAnswer contents may_give texts faults shows secret a answer.reply to ⊎ ((drawn_of to ≡ most_turns) × (answer.reply ≡ reply.Refused refusal.Spent))
  asked_last us a moment answer lines shown (AsksSo.nowhere away told_is empty same) = absurd (nowhere_never us same away)
  asked_last us a moment answer lines shown (AsksSo.denied library u at not_may told_is empty same) =
      absurd (true≢false (sym (owner_permitted depot.state.tokens secret a owned)
      ∙ (ap (λ (o : Option (DepotView S)). admitted o (Some secret) a) (sym (start_is u (here_is us library u same at.at))) ∙ not_may)))
  asked_last us a moment answer lines shown (AsksSo.spent library u at may drew told_is empty same) = inr (drawn_last library most_turns drew, ap (λ (x : HallAnswer). x.reply) told_is)
  asked_last us a moment answer lines shown (AsksSo.took library u at may drawn drew fits took) =
      let set = alone_set us library u took.after (shown_of to) at.at (sym took.is ∙ shown_alone) in
      inl (record {
        before = u;
        place = took.place;
        moment = moment;
        shown = shown;
        done = subst (λ (w : Shown S). IsDone contents may_give texts faults u took.place (Called (call_of (Some secret) a) moment answer.reply) w) (sym set.1) took.done;
      })

  call_stops : (moment : ℕ) (why : Refusal) → shows moment → WasRefused contents may_give texts faults lib secret moment why pass
      → IsLastRefused contents may_give texts faults shows secret why to
  call_stops moment why shown refused = by (asked_last refused.asked.us refused.a moment refused.answer refused.asked.lines shown refused.asked.asks)
    where
      by : IsLastAnswer contents may_give texts faults shows secret refused.a refused.answer.reply to ⊎ ((drawn_of to ≡ most_turns) × (refused.answer.reply ≡ reply.Refused refusal.Spent))
          → IsLastRefused contents may_give texts faults shows secret why to
      by (inl last) = of_call refused.a refused.kind (subst (λ (r : Reply). IsLastAnswer contents may_give texts faults shows secret refused.a r to) refused.is last)
      by (inr spent) = of_lock spent.0 (refused_same why refusal.Spent (sym refused.is ∙ spent.1))

  -- the turns of a collection, whatever it tells
  record WentSo (ends : Collected) : Type 0 where
    pub u : Shown S
    pub turns : List OneTurn
    pub so : EndsSo contents may_give texts faults shows u ends turns (shown_of to) (drawn_of to)

  went_so : (us : List (Shown S)) (ends : Collected) (lines : List Line) → CollectsSo contents may_give texts faults shows us lib (Some secret) ends lines (shown_by pass) (drawn_by pass) → WentSo ends
  went_so us ends lines (CollectsSo.nowhere away is empty same) = absurd (nowhere_never us same away)
  went_so us ends lines (CollectsSo.denied library u at not_may is empty same) =
      absurd (true≢false (sym (owner_collects depot.state.tokens secret owned)
      ∙ (ap (λ (o : Option (DepotView S)). collects o (Some secret)) (sym (start_is u (here_is us library u same at.at))) ∙ not_may)))
  went_so us ends lines (CollectsSo.went library u at may turns v drawn so seen drew lines_are is) =
      let set = alone_set us library u v (shown_of to) at.at (sym is ∙ shown_alone) in
      record {
        u = u;
        turns = turns;
        so = subst (λ (z : Shown S). EndsSo contents may_give texts faults shows u ends turns z (drawn_of to)) (sym set.1)
            (subst (λ (n : ℕ). EndsSo contents may_give texts faults shows u ends turns v n) (sym (drawn_last library drawn drew)) so);
      }

  pub collected_by : (removed : ℕ) → WasCollected contents may_give texts faults lib secret shows removed pass → IsLastCollection contents may_give texts faults shows secret removed to
  collected_by removed was =
      let went = went_so was.us (collected.Done was.number removed was.turns) was.lines was.collects in
      record { before = went.u; number = was.number; turns = went.turns; taken = was.turns; ends = went.so }

  -- a collection that was refused
  ends_refused : (u : Shown S) (why : Refusal) (turns : List OneTurn) → EndsSo contents may_give texts faults shows u (collected.Refused why) turns (shown_of to) (drawn_of to)
      → IsLastRefused contents may_give texts faults shows secret why to
  ends_refused u why turns (EndsSo.ended before goal w last on taken unspent are tells) =
      let refused = refused_turn last.turn (left_by turns) (length turns) why tells in
      of_turn (record { before = w; goal = goal; one = last; keys = refused.0; taken = taken; is = refused.1 })
  ends_refused u why turns (EndsSo.over number w last on taken unspent over tells) =
      absurd (not_done why number (told_number (left_by turns)) (told_number (length turns + 1)) tells)
  ends_refused u why turns (EndsSo.spent goal on last_drawn tells) = of_lock last_drawn (ended_same why refusal.Spent tells)

  collection_stops : (why : Refusal) → WasNotCollected contents may_give texts faults lib secret shows why pass → IsLastRefused contents may_give texts faults shows secret why to
  collection_stops why stops =
      let went = went_so stops.us (collected.Refused why) stops.lines stops.collects in
      ends_refused went.u why went.turns went.so

  pub stopped_by : (count number : ℕ) (why : NotFilled) → EndsFor contents may_give texts faults lib secret count number shows pass why
      → IsStopped contents may_give texts faults shows secret count number why to
  stopped_by count number (unfilled.Refused why) (inl (moment, shown, refused)) = call_stops moment why shown refused
  stopped_by count number (unfilled.Refused why) (inr stops) = collection_stops why stops
  stopped_by count number (unfilled.Taken id) clash = clash
  stopped_by count number unfilled.NoMemory free = tt

-- ---- the count of the storage

module _ {S : Type 0} (contents : S → Option Contents) (may_give : S → Slot → Option (List ℕ) → Type 0) (texts faults : S → ℕ) where
  -- what the last change leaves is what the library is
  last_one : (c : Change (DepotView S)) (cs : List (Change (DepotView S))) (y : DepotView S) → length (c ∷ cs) ≡ 1 → LeadsTo contents may_give texts faults c.after.value cs y
      → IsSame contents faults c.after.value y
  last_one c [] y size leads = leads
  last_one c (d ∷ cs) y size leads = absurd (omega (arith, size))

  last_change : (x : DepotView S) (cs : List (Change (DepotView S))) (y : DepotView S) (place : ℕ) (c : Change (DepotView S)) → LeadsTo contents may_give texts faults x cs y
      → slice_get cs place ≡ Some c → length cs ≡ place + 1 → IsSame contents faults c.after.value y
  last_change x [] y place c leads at size = absurd (none_some c at)
  last_change x (d ∷ cs) y zero c leads at size =
      subst (λ (z : Change (DepotView S)). IsSame contents faults z.after.value y) (same_from_some d c at) (last_one d cs y (omega (arith, size)) leads.2)
  last_change x (d ∷ cs) y (suc place) c leads at size = last_change d.after.value cs y place c leads.2 at (omega (arith, size))

  -- and what stands after all changes
  end_same : (x : DepotView S) (cs : List (Change (DepotView S))) (y d : DepotView S) → LeadsTo contents may_give texts faults x cs y → library_after (Some x) cs (length cs) ≡ Some d
      → IsSame contents faults d y
  end_same x cs y d leads is =
      let last = last_at contents may_give texts faults x cs y leads in
      subst (λ (z : DepotView S). IsSame contents faults z y) (same_from_some last.there d (sym last.stood ∙ is)) last.same

  module _ (depot after : DepotView S) (v : Shown S) (begins : v.start ≡ Some depot) (leads : LeadsTo contents may_give texts faults depot v.seen after) where
    -- what was read at the end of a history stands so to the library
    read_count : (place : ℕ) (there : DepotView S) → place ≡ length v.seen → library_at v place ≡ Some there → faults after.store.shelf ≡ faults there.store.shelf
    read_count place there end stood =
        let last : library_after (Some depot) v.seen (length v.seen) ≡ Some there =
        ap (λ (o : Option (DepotView S)). library_after o v.seen (length v.seen)) (sym begins) ∙ (ap (λ (n : ℕ). library_at v n) (sym end) ∙ stood) in
        (end_same depot v.seen after there leads last).count

    -- a failure was counted in the last call, or in the last turn
    call_rose : (u : Shown S) (place : ℕ) (call : Call) (moment : ℕ) → IsDone contents may_give texts faults u place (Called call moment (reply.Refused refusal.Store)) v
        → (before : ℕ) × Rose before (faults after.store.shelf)
    call_rose u place call moment (inl reads) =
        let read = reads.reads in
        let same : faults after.store.shelf ≡ faults read.after.store.shelf = read_count place read.there reads.whole read.stood ∙ (sym read.same.count ∙ sym read.stays.count) in
        (faults read.before.store.shelf, subst (λ (n : ℕ). Rose (faults read.before.store.shelf) n) (sym same) read.does.serves.count.1)
    call_rose u place call moment (inr changes) = by changes.change.made changes.change.moment changes.made changes.links.by
      where
        same : faults after.store.shelf ≡ faults changes.change.after.value.store.shelf
        same = (last_change depot v.seen after place changes.change leads changes.at changes.whole).count

        by : (m : Made) (at : ℕ) → IsMadeBy m at (Called call moment (reply.Refused refusal.Store)) → MadeBy contents may_give texts faults m changes.change.before.value at changes.change.after.value
            → (before : ℕ) × Rose before (faults after.store.shelf)
        by (made.Asked asked said) at is answered =
            let count : Counts (faults changes.change.before.value.store.shelf) (faults changes.change.after.value.store.shelf) (reply.Refused refusal.Store) =
            subst (λ (r : Reply). Counts (faults changes.change.before.value.store.shelf) (faults changes.change.after.value.store.shelf) r) is.1 answered.serves.count in
            (faults changes.change.before.value.store.shelf, subst (λ (n : ℕ). Rose (faults changes.change.before.value.store.shelf) n) (sym same) count.1)
        by (made.Turned goal most taken) at is answered = absurd is

    turn_rose : (u : Shown S) (place : ℕ) (goal : Option ℕ) (moment most : ℕ) (keys : List Key)
        → IsDone contents may_give texts faults u place (TookTurn goal moment most (turn.Refused refusal.Store keys)) v → (before : ℕ) × Rose before (faults after.store.shelf)
    turn_rose u place goal moment most keys (inl reads) =
        let read = reads.reads in
        let same : faults after.store.shelf ≡ faults read.after.store.shelf = read_count place read.there reads.whole read.stood ∙ (sym read.same.count ∙ sym read.stays.count) in
        (faults read.before.store.shelf, subst (λ (n : ℕ). Rose (faults read.before.store.shelf) n) (sym same) read.does.takes.count.1)
    turn_rose u place goal moment most keys (inr changes) = by changes.change.made changes.change.moment changes.made changes.links.by
      where
        same : faults after.store.shelf ≡ faults changes.change.after.value.store.shelf
        same = (last_change depot v.seen after place changes.change leads changes.at changes.whole).count

        by : (m : Made) (at : ℕ) → IsMadeBy m at (TookTurn goal moment most (turn.Refused refusal.Store keys))
            → MadeBy contents may_give texts faults m changes.change.before.value at changes.change.after.value → (before : ℕ) × Rose before (faults after.store.shelf)
        by (made.Asked asked said) at is turned = absurd is
        by (made.Turned aim n taken) at is turned =
            let count : CountsTurn (faults changes.change.before.value.store.shelf) (faults changes.change.after.value.store.shelf) (turn.Refused refusal.Store keys) =
            subst (λ (t : Turn). CountsTurn (faults changes.change.before.value.store.shelf) (faults changes.change.after.value.store.shelf) t) is.2 turned.takes.count in
            (faults changes.change.before.value.store.shelf, subst (λ (n : ℕ). Rose (faults changes.change.before.value.store.shelf) n) (sym same) count.1)

store_or_spent : ◌≡◌ {A = Refusal} refusal.Store refusal.Spent → ⊥
store_or_spent e = cc

-- a failure of the storage is told of such a refusal alone
spent_uncounted : (is_last : Bool) → is_unfilled_counted (Err (if is_last then fault.Worn else fault.NoMemory)) ≡ false
spent_uncounted true = refl
spent_uncounted false = refl

spent_line : (is_last : Bool) → is_storage_fault (if is_last then fault.Worn else fault.NoMemory) ≡ false
spent_line true = refl
spent_line false = refl

store_alone : (collection : ℕ) (why : Refusal) → is_unfilled_counted (Err (fault_of_refusal collection why)) ≡ true → why ≡ refusal.Store
store_alone collection refusal.Store counted = refl
store_alone collection refusal.Spent counted = absurd (false≢true (sym (spent_uncounted (collection == last_number)) ∙ counted))
store_alone collection other counted = absurd (false≢true counted)

refusal_line : (collection : ℕ) (why : Refusal) → is_of_storage why ≡ false → is_storage_fault (fault_of_refusal collection why) ≡ false
refusal_line collection refusal.Store whole_is = absurd (true≢false whole_is)
refusal_line collection (refusal.Damaged want got) whole_is = absurd (true≢false whole_is)
refusal_line collection refusal.Spent whole_is = spent_line (collection == last_number)
refusal_line collection other whole_is = refl

module _ {S : Type 0} (contents : S → Option Contents) (may_give : S → Slot → Option (List ℕ) → Type 0) (texts faults : S → ℕ) (shows : ℕ → Type 0) where
  stops_rose : (secret : List ℕ) (depot after : DepotView S) (pass : LibraryPass S) → LeadsOut contents may_give texts faults depot pass after
      → IsLastRefused contents may_give texts faults shows secret refusal.Store pass → (before : ℕ) × Rose before (faults after.store.shelf)
  stops_rose secret depot after pass leads (of_call a kind last) =
      call_rose contents may_give texts faults depot after (shown_of pass) leads.begins leads.comes.leads last.before last.place (call_of (Some secret) a) last.moment last.done
  stops_rose secret depot after pass leads (of_turn last) =
      turn_rose contents may_give texts faults depot after (shown_of pass) leads.begins leads.comes.leads last.before last.one.place last.one.goal last.one.moment 1000 last.keys
      (subst (λ (t : Turn). IsDone contents may_give texts faults last.before last.one.place (TookTurn last.one.goal last.one.moment 1000 t) (shown_of pass)) last.is last.taken.done)
  stops_rose secret depot after pass leads (of_lock drew is) = absurd (store_or_spent is)

  -- ---- over storage that never fails

  stops_whole : NeverFails faults → (secret : List ℕ) (depot after : DepotView S) (pass : LibraryPass S) → LeadsOut contents may_give texts faults depot pass after → NamesIn contents depot
      → (why : Refusal) → IsLastRefused contents may_give texts faults shows secret why pass → is_of_storage why ≡ false
  stops_whole steady secret depot after pass leads names why refused = by refused
    where
      named : (place : ℕ) (d : DepotView S) → library_at (shown_of pass) place ≡ Some d → NamesIn contents d
      named place d is =
          names_after contents may_give texts faults shows steady depot (seen_of pass) after leads.comes.leads names place d
          (subst (λ (o : Option (DepotView S)). library_after o (seen_of pass) place ≡ Some d) leads.begins is)

      by : IsLastRefused contents may_give texts faults shows secret why pass → is_of_storage why ≡ false
      by (of_call a kind last) =
          did_call contents may_give texts faults shows steady last.before last.place (call_of (Some secret) a) last.moment (reply.Refused why) (shown_of pass) last.done (named last.place)
      by (of_turn last) =
          ap is_storage_turn (sym last.is)
          ∙ did_turn contents may_give texts faults shows steady last.before last.one.place last.one.goal last.one.moment 1000 last.one.turn (shown_of pass) last.taken.done (named last.one.place)
      by (of_lock drew is) = ap is_of_storage is

  -- ---- what came of a library

  module _ (count number : ℕ) (depot after : DepotView S) (objects stored : ℕ) (filled : Result Filled Fault) where
    no_failure : (told : Result Filled Fault) → filled ≡ told → is_unfilled_counted told ≡ false → IsTrue (is_unfilled_counted filled) → ⊥
    no_failure told is none counted = true≢false (sym counted ∙ (ap is_unfilled_counted is ∙ none))

    pub comes_rose : ComesOf contents may_give texts faults shows count number depot objects after stored filled → IsTrue (is_unfilled_counted filled)
        → (before : ℕ) × Rose before (faults after.store.shelf)
    comes_rose (new one secret owned (whole pass leads what is numbers last known told)) counted = absurd (no_failure (Ok what) is refl counted)
    comes_rose (new one secret owned (stopped pass leads why is stops)) counted = by why stops (sym (ap is_unfilled_counted is) ∙ counted)
      where
        by : (w : NotFilled) → IsStopped contents may_give texts faults shows secret count number w pass → is_unfilled_counted (Err (fault_of_not_filled after.state.collection w)) ≡ true
            → (before : ℕ) × Rose before (faults after.store.shelf)
        by (unfilled.Refused r) refused tells =
            stops_rose secret depot after pass leads (subst (λ (x : Refusal). IsLastRefused contents may_give texts faults shows secret x pass) (store_alone after.state.collection r tells) refused)
        by (unfilled.Taken id) taken tells = absurd (false≢true tells)
        by unfilled.NoMemory free tells = absurd (false≢true tells)
    comes_rose (new one secret owned (no_room comes is)) counted = absurd (no_failure (Err fault.NoMemory) is refl counted)
    comes_rose (exists other same is) counted = absurd (no_failure (Err fault.LibraryExists) is refl counted)

    pub comes_whole : NeverFails faults → NamesIn contents depot → ComesOf contents may_give texts faults shows count number depot objects after stored filled
        → is_storage_line (filled_line filled stored) ≡ false
    comes_whole steady names (new one secret owned (whole pass leads what is numbers last known told)) = ap (λ (f : Result Filled Fault). is_storage_line (filled_line f stored)) is
    comes_whole steady names (new one secret owned (stopped pass leads why is stops)) = ap (λ (f : Result Filled Fault). is_storage_line (filled_line f stored)) is ∙ by why stops
      where
        by : (w : NotFilled) → IsStopped contents may_give texts faults shows secret count number w pass → is_storage_line (filled_line (Err (fault_of_not_filled after.state.collection w)) stored) ≡ false
        by (unfilled.Refused r) refused = refusal_line after.state.collection r (stops_whole steady secret depot after pass leads names r refused)
        by (unfilled.Taken id) taken = refl
        by unfilled.NoMemory free = refl
    comes_whole steady names (new one secret owned (no_room comes is)) = ap (λ (f : Result Filled Fault). is_storage_line (filled_line f stored)) is
    comes_whole steady names (exists other same is) = ap (λ (f : Result Filled Fault). is_storage_line (filled_line f stored)) is
