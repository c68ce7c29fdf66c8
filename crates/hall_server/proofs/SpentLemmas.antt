-- A lock that was read as spent stays so through a connection; so a call is told it only of such a lock. The key lemmas are stay_ran,
-- spent_later, spent_ran, taken_within and taken_all.
use Rattle.std.proofs.Common.{◌≡◌, ◌⊎◌, ⊎_elim, inl, inr, ℕ, zero, suc, ◌<◌, List, [], ◌∷◌, ◌++◌, length, Option, Some, ap, refl, subst, sym, ◌∙◌}
use Rattle.std.specs.List.{AllByRecursion, slice_get}
use Rattle.std.specs.Prelude.{option_map, slice_set}
use Rattle.std.proofs.lemmas.List.{map-append}
use Rattle.depot.specs.declared.turn.Turn.{Turn}
use Rattle.depot.specs.declared.turn.Turn.TheVariants as turn
use Rattle.library_state.specs.declared.call.Call.{Call}
use Rattle.library_state.specs.declared.refusal.Refusal.TheVariants as refusal
use Rattle.library_state.specs.declared.reply.Reply.TheVariants as reply
use Rattle.object_store.specs.Shelf.{Contents}
use Rattle.object_store.specs.declared.shelf.Slot.{Slot}
use Rattle.depot.specs.DepotView.{DepotView}
use Rattle.turnstile.specs.Rule.{most_turns}
use Rattle.sync_calls.specs.Asking.{AsksSo, IsAt, without_turn}
use Rattle.sync_calls.specs.Hall.{AreWithin, StaySpent}
use Rattle.sync_calls.specs.Operations.{Line, Lines, Moves}
use Rattle.sync_calls.specs.Shown.{Shown, lib_of}
use Rattle.sync_calls.specs.Collecting.{CollectsSo, EndsAs, EndsSo, OneTurn, left_by, line_of, lines_of, told}
use Rattle.sync_calls.specs.declared.asking.Answer.{Answer as HallAnswer}
use Rattle.sync_calls.specs.declared.collecting.Collected.{Collected as HallCollected}
use Rattle.worker_server.specs.Calls.{AnsweredSo, Ran, Told, call_asked, collection_asked, look_asked}
use Rattle.worker_server.specs.declared.host.Answer.{Answer}
use Rattle.worker_server.specs.declared.host.Collected.TheVariants as collected
use Rattle.hall_server.specs.Serving.{AreTakenOf, EndsAtLast, Goes, HallShown, IsSpentOf, IsSpentTurn, TellsSpentOf, TellsTakenOf, hall_rules, host_answer, host_end}
use Rattle.hall_server.proofs.CollectingLemmas.{collects_goes}
use Rattle.hall_server.proofs.GoingLemmas.{done_start, from_some, set_back}
use Rattle.hall_server.proofs.RanLemmas.{ran_goes}

-- two refusals that took no turn are two answers
no_library : host_answer (without_turn refusal.NoLibrary) ≡ host_answer (without_turn refusal.Spent) → ⊥
no_library e = let same : reply.Refused refusal.NoLibrary ≡ reply.Refused refusal.Spent = ap (λ (a : Answer). a.reply) e in cc (same)

no_denial : host_answer (without_turn refusal.Denied) ≡ host_answer (without_turn refusal.Spent) → ⊥
no_denial e = let same : reply.Refused refusal.Denied ≡ reply.Refused refusal.Spent = ap (λ (a : Answer). a.reply) e in cc (same)

no_library_end : collected.Refused refusal.NoLibrary ≡ collected.Refused refusal.Spent → ⊥
no_library_end e = cc (e)

no_denial_end : collected.Refused refusal.Denied ≡ collected.Refused refusal.Spent → ⊥
no_denial_end e = cc (e)

-- what is told as done isn't refused
not_done : (number removed : ℕ) → collected.Done number removed ≡ collected.Refused refusal.Spent → ⊥
not_done number removed e = cc (e)

-- an end that tells of spent is that of a turn that was refused so
refused_turn : (t : Turn) (left taken : ℕ) (end : HallCollected) → EndsAs t left taken end → host_end end ≡ collected.Refused refusal.Spent → IsSpentTurn t
refused_turn (turn.Began number) left taken end is tells = absurd is
refused_turn (turn.Marked count) left taken end is tells = absurd is
refused_turn (turn.Swept keys) left taken end is tells = absurd is
refused_turn (turn.Ended number) left taken end is tells = absurd (not_done number (told left) (sym (ap host_end is) ∙ tells))
refused_turn (turn.Over number) left taken end is tells = absurd is
refused_turn (turn.Refused why keys) left taken end is tells =
    let same : collected.Refused why ≡ collected.Refused refusal.Spent = sym (ap host_end is) ∙ tells in
    cc (same)

-- what left an operation left some
pub no_operation : (line : Line) (lines : List Line) → lines ≡ line ∷ [] → lines ≡ [] → ⊥
no_operation line lines one none = cc (one, none)

-- ---- where a library stands

-- what stands in a place, where another was set that is named as what it was set for
set_named : {S : Type 0} (us : List (Shown S)) (k : ℕ) (before after : Shown S) → slice_get us k ≡ Some before → lib_of after ≡ lib_of before → (library : ℕ) (u : Shown S) → slice_get us library ≡ Some u
    → (v : Shown S) × (slice_get (slice_set us k after) library ≡ Some v) × (lib_of v ≡ lib_of u)
set_named [] k before after was same library u at = (u, at, refl)
set_named (x ∷ xs) zero before after was same zero u at = (after, refl, same ∙ ap lib_of (from_some before u (sym was ∙ at)))
set_named (x ∷ xs) zero before after was same (suc n) u at = (u, at, refl)
set_named (x ∷ xs) (suc k) before after was same zero u at = (u, at, refl)
set_named (x ∷ xs) (suc k) before after was same (suc n) u at = set_named xs k before after was same n u at

module _ {S : Type 0} (contents : S → Option Contents) (may_give : S → Slot → Option (List ℕ) → Type 0) (texts faults : S → ℕ) where
  -- an operation leaves each library in its place
  at_moved : (us : List (Shown S)) (line : Line) (vs : List (Shown S)) (lib : List ℕ) (library : ℕ) (u : Shown S) → Moves contents may_give texts faults us line vs → IsAt us lib library u
      → (v : Shown S) × IsAt vs lib library v
  at_moved us line vs lib library u moves at =
      let same : lib_of moves.after ≡ lib_of moves.before
      = ap (λ o. option_map (λ (depot : DepotView S). depot.state.lib) o) (done_start contents may_give texts faults moves.before line.place line.deed moves.after moves.done) in
      let found = set_named us line.library moves.before moves.after moves.was same library u at.at in (
        found.0,
        subst (λ (ws : List (Shown S)). IsAt ws lib library found.0) (sym moves.is) (record {
          at = found.1;
          named = found.2 ∙ at.named;
          first = λ j w less there named.
              elim (set_back us line.library moves.after j w there) [
                | inl here ↦ at.first line.library moves.before (subst (λ (n : ℕ). n < library) here.0 less) moves.was (sym same ∙ (ap lib_of (sym here.1) ∙ named))
                | inr stood ↦ at.first j w less stood named
              ];
        }),
      )

  at_lines : (us : List (Shown S)) (lines : List Line) (vs : List (Shown S)) (lib : List ℕ) (library : ℕ) (u : Shown S) → Lines contents may_give texts faults us lines vs → IsAt us lib library u
      → (v : Shown S) × IsAt vs lib library v
  at_lines us [] vs lib library u same at = (u, subst (λ (ws : List (Shown S)). IsAt ws lib library u) (sym same) at)
  at_lines us (line ∷ lines) vs lib library u (mid, moves, rest) at =
      let next = at_moved us line mid lib library u moves at in
      at_lines mid lines vs lib library next.0 rest next.1

  -- ---- one call

  asks_spent : (us : List (Shown S)) (lib : List ℕ) (call : Call) (moment : ℕ) (given : HallAnswer) (answer : Answer) (lines : List Line) (vs : List (Shown S)) (draws : List ℕ)
      → AsksSo contents may_give texts faults us lib call moment given lines vs draws → answer ≡ host_answer given → answer ≡ host_answer (without_turn refusal.Spent) → lines ≡ []
      → (library : ℕ) × (u : Shown S) × IsAt vs lib library u × (slice_get draws library ≡ Some most_turns)
  asks_spent us lib call moment given answer lines vs draws (AsksSo.nowhere away told_is empty same) is tells none =
      absurd (no_library (sym (is ∙ ap (λ (a : HallAnswer). host_answer a) told_is) ∙ tells))
  asks_spent us lib call moment given answer lines vs draws (AsksSo.denied library u at not_may told_is empty same) is tells none =
      absurd (no_denial (sym (is ∙ ap (λ (a : HallAnswer). host_answer a) told_is) ∙ tells))
  asks_spent us lib call moment given answer lines vs draws (AsksSo.spent library u at may last told_is empty same) is tells none =
      (library, u, subst (λ (ws : List (Shown S)). IsAt ws lib library u) (sym same) at, last)
  asks_spent us lib call moment given answer lines vs draws (AsksSo.took library u at may drawn drew fits turn) is tells none = absurd (no_operation _ lines turn.one none)

-- ---- all of a connection

module _ {S : Type 0} (contents : S → Option Contents) (may_give : S → Slot → Option (List ℕ) → Type 0) (texts faults : S → ℕ) (shows : ℕ → Type 0) where
  stay_told : (u : HallShown S) (t : Told Line) (v : HallShown S) → AnsweredSo (hall_rules contents may_give texts faults shows) u t v → StaySpent u.drawn v.drawn
  stay_told u (call_asked lib call answer lines) v (moment, shown, (given, asks, stays, is)) = stays
  stay_told u (collection_asked lib secret ends lines) v (end, collects, stays, is) = stays
  stay_told u (look_asked lib secret tag same lines) v (found, glances, stays, is) = stays

  pub stay_ran : (u : HallShown S) (calls : List (Told Line)) (v : HallShown S) → Ran (hall_rules contents may_give texts faults shows) u calls v → StaySpent u.drawn v.drawn
  stay_ran u [] v same library at = subst (λ (w : HallShown S). slice_get w.drawn library ≡ Some most_turns) (sym same) at
  stay_ran u (t ∷ ts) v (mid, first, more) library at = stay_ran mid ts v more library (stay_told u t mid first library at)

  -- the lock of a library that was spent is so later
  pub spent_later : (u : HallShown S) (calls : List (Told Line)) (v : HallShown S) (lib : List ℕ) → Ran (hall_rules contents may_give texts faults shows) u calls v → IsSpentOf u lib → IsSpentOf v lib
  spent_later u calls v lib ran (library, shown, at, last) =
      let goes = ran_goes contents may_give texts faults shows u calls v ran in
      let there = at_lines contents may_give texts faults u.libraries goes.all v.libraries lib library shown goes.leads at in
      (library, there.0, there.1, stay_ran u calls v ran library last)

  -- a collection is told so of a lock that was read so, or its last turn was refused so
  end_spent : (u : HallShown S) (lib : List ℕ) (secret : Option (List ℕ)) (end : HallCollected) (lines : List Line) (v : HallShown S)
      → CollectsSo contents may_give texts faults shows u.libraries lib secret end lines v.libraries v.drawn → Goes contents may_give texts faults u.libraries lines v.libraries
      → host_end end ≡ collected.Refused refusal.Spent → IsSpentOf v lib ⊎ EndsAtLast lines
  end_spent u lib secret end lines v (CollectsSo.nowhere away is empty same) goes tells = absurd (no_library_end (sym (ap host_end is) ∙ tells))
  end_spent u lib secret end lines v (CollectsSo.denied library x at not_may is empty same) goes tells = absurd (no_denial_end (sym (ap host_end is) ∙ tells))
  end_spent u lib secret end lines v (CollectsSo.went library x at may turns w drawn ends seen drew lines_are is) goes tells = by turns drawn ends drew lines_are
    where
      by : (turns : List OneTurn) (drawn : ℕ) → EndsSo contents may_give texts faults shows x end turns w drawn → slice_get v.drawn library ≡ Some drawn → lines ≡ lines_of library turns
          → IsSpentOf v lib ⊎ EndsAtLast lines
      by turns drawn (EndsSo.ended before goal y last on taken unspent are told_as) drew lines_are =
          inr (
            lines_of library before,
            library,
            last,
            lines_are ∙ (ap (lines_of library) are ∙ map-append (line_of library) before (last ∷ [])),
            refused_turn last.turn (left_by turns) (length turns) end told_as tells,
          )
      by turns drawn (EndsSo.over number y last on taken unspent is_over told_as) drew lines_are =
          absurd (not_done number (told (left_by turns)) (sym (ap host_end told_as) ∙ tells))
      by turns drawn (EndsSo.spent goal on last_drawn told_as) drew lines_are =
          let there = at_lines contents may_give texts faults u.libraries goes.all v.libraries lib library x goes.leads at in
          inl (library, there.0, there.1, drew ∙ ap Some last_drawn)

  told_spent : (u : HallShown S) (t : Told Line) (v : HallShown S) → AnsweredSo (hall_rules contents may_give texts faults shows) u t v → TellsSpentOf v t
  told_spent u (call_asked lib call answer lines) v (moment, shown, (given, asks, stays, is)) =
      λ tells none. asks_spent contents may_give texts faults u.libraries lib call moment given answer lines v.libraries v.drawn asks is tells none
  told_spent u (collection_asked lib secret ends lines) v (end, collects, stays, is) =
      λ tells. end_spent u lib secret end lines v collects (collects_goes contents may_give texts faults shows u lib secret ends lines v (end, collects, stays, is)) (sym is ∙ tells)
  told_spent u (look_asked lib secret tag same lines) v answered = tt

  told_later : (u : HallShown S) (calls : List (Told Line)) (v : HallShown S) (t : Told Line) → Ran (hall_rules contents may_give texts faults shows) u calls v → TellsSpentOf u t → TellsSpentOf v t
  told_later u calls v (call_asked lib call answer lines) ran is = λ tells none. spent_later u calls v lib ran (is tells none)
  told_later u calls v (collection_asked lib secret ends lines) ran is = λ tells. ⊎_elim (λ spent. inl (spent_later u calls v lib ran spent)) (λ refused. inr refused) (is tells)
  told_later u calls v (look_asked lib secret tag same lines) ran is = tt

  pub spent_ran : (u : HallShown S) (calls : List (Told Line)) (v : HallShown S) → Ran (hall_rules contents may_give texts faults shows) u calls v → AllByRecursion (TellsSpentOf v) calls
  spent_ran u [] v same = tt
  spent_ran u (t ∷ ts) v (mid, first, more) = (told_later mid ts v t more (told_spent u t mid first), spent_ran mid ts v more)

-- where no more was read than was taken, all turns of a lock that is spent were
pub taken_within : {S : Type 0} (v : HallShown S) → AreWithin v.drawn v.libraries → (lib : List ℕ) → IsSpentOf v lib → AreTakenOf v.libraries lib
taken_within v within lib (library, shown, at, last) = (library, shown, at, within library most_turns shown last at.at)

-- so that is told of them
pub taken_all : {S : Type 0} (v : HallShown S) (us : List (Shown S)) (calls : List (Told Line)) → ((lib : List ℕ) → IsSpentOf v lib → AreTakenOf us lib)
    → AllByRecursion (TellsSpentOf v) calls → AllByRecursion (TellsTakenOf us) calls
taken_all {S} v us [] taken told = tt
taken_all {S} v us (t ∷ ts) taken told = (one t told.0, taken_all v us ts taken told.1)
  where
    one : (t : Told Line) → TellsSpentOf v t → TellsTakenOf us t
    one (call_asked lib call answer lines) told = λ tells none. taken lib (told tells none)
    one (collection_asked lib secret ends lines) told = λ tells. ⊎_elim (λ spent. inl (taken lib spent)) (λ refused. inr refused) (told tells)
    one (look_asked lib secret tag same lines) told = tt
