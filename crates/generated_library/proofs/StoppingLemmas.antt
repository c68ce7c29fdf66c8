-- Why a step of a filling stops is why what it asked stopped. The key lemmas are stopped, stopped_where, wants_memory, asked_stops, ends_for,
-- push_ends and was_collected.
use Rattle.std.proofs.Common.{◌≡◌, inl, inr, ℕ, Bool, false, List, Option, Some, Result, Ok, Err, subst, sym}
use Rattle.std.specs.Prelude.{IfErr, IfOk}
use Rattle.std.specs.Result.{IsErrAnd}
use Rattle.library_rules.specs.Changes.{is_refused}
use Rattle.library_state.specs.declared.call.Act.{Act}
use Rattle.library_state.specs.declared.refusal.Refusal.{Refusal}
use Rattle.library_state.specs.declared.reply.Reply.{Reply}
use Rattle.object_store.specs.Shelf.{Contents}
use Rattle.object_store.specs.declared.shelf.Slot.{Slot}
use Rattle.sync_calls.specs.Asking.{AsksSo}
use Rattle.sync_calls.specs.Collecting.{CollectsSo}
use Rattle.sync_calls.specs.Hall.{PassOf, drawn_by, shown_by}
use Rattle.sync_calls.specs.Operations.{Line}
use Rattle.sync_calls.specs.Shown.{Shown}
use Rattle.sync_calls.specs.declared.asking.Answer.{Answer}
use Rattle.sync_calls.specs.declared.collecting.Collected.{Collected}
use Rattle.sync_calls.specs.declared.collecting.Collected.TheVariants as collected
use Rattle.tree_merge.specs.TreeBuilding.{IsClash}
use Rattle.tree_merge.specs.declared.tree_builder.BuildFault.{BuildFault}
use Rattle.tree_merge.specs.declared.tree_builder.BuildFault.TheVariants as unmade
use Rattle.generated_library.specs.Directories.{IsTakenFor}
use Rattle.generated_library.specs.Filled.{entries_of, pushed_files}
use Rattle.generated_library.specs.Generated.{files_from}
use Rattle.generated_library.specs.Leading.{call_of}
use Rattle.generated_library.specs.Stopping.{EndsFor, IsOfFilling, IsRefusalOf, StopsAsBuilt, StopsFor, StopsWhere, WasAsked, WasCollected}
use Rattle.generated_library.specs.declared.asking.NotFilled.{NotFilled}
use Rattle.generated_library.specs.declared.asking.NotFilled.TheVariants as not_filled

module _ {S : Type 0} (contents : S → Option Contents) (may_give : S → Slot → Option (List ℕ) → Type 0) (texts faults : S → ℕ) (lib secret : List ℕ) where
  -- ---- a step, at a moment

  module _ (moment : ℕ) where
    abbrev Stops : PassOf S → NotFilled → Type 0
    Stops pass why = StopsFor contents may_give texts faults lib secret moment pass why

    -- what is handed on
    pub stopped : {T : Type 0} (pass : PassOf S) (was : NotFilled) (r : Result T NotFilled) → IsErrAnd r (λ told. told ≡ was)
        → StopsFor contents may_give texts faults lib secret moment pass was → IfErr r (StopsFor contents may_give texts faults lib secret moment pass)
    stopped pass was (Ok x) is stops = tt
    stopped pass was (Err told) is stops = subst (Stops pass) (sym is) stops

    pub wants_memory : {T : Type 0} (pass : PassOf S) (r : Result T NotFilled) → IsErrAnd r (λ told. told ≡ not_filled.NoMemory) → IfErr r (StopsFor contents may_give texts faults lib secret moment pass)
    wants_memory pass (Ok x) is = tt
    wants_memory pass (Err told) is = subst (Stops pass) (sym is) tt

    -- the same of a step that makes directories
    module _ (clashes : List ℕ → Type 0) (pass : PassOf S) where
      abbrev There : NotFilled → Type 0
      There why = StopsWhere contents may_give texts faults lib secret clashes moment pass why

      pub stopped_where : {T : Type 0} (was : NotFilled) (r : Result T NotFilled) → IsErrAnd r (λ told. told ≡ was)
          → StopsWhere contents may_give texts faults lib secret clashes moment pass was → IfErr r (StopsWhere contents may_give texts faults lib secret clashes moment pass)
      stopped_where was (Ok x) is stops = tt
      stopped_where was (Err told) is stops = subst There (sym is) stops

      -- of what else it asks
      pub stopped_else : {T : Type 0} (was : NotFilled) (r : Result T NotFilled) → IsErrAnd r (λ told. told ≡ was) → StopsFor contents may_give texts faults lib secret moment pass was
          → IfErr r (StopsWhere contents may_give texts faults lib secret clashes moment pass)
      stopped_else was r is stops = stopped_where was r is (by was stops)
        where
          by : (was : NotFilled) → StopsFor contents may_give texts faults lib secret moment pass was → There was
          by (not_filled.Refused why) refused = refused
          by (not_filled.Taken id) none = absurd none
          by not_filled.NoMemory stops = tt

      -- a clash of names as they were made
      pub unbuilt : (fault : BuildFault) (now : NotFilled) → IsTakenFor clashes fault → StopsAsBuilt fault now
          → StopsWhere contents may_give texts faults lib secret clashes moment pass now
      unbuilt (unmade.Taken id) now clash is = subst There (sym is) clash
      unbuilt unmade.NoMemory now clash is = subst There (sym is) tt

    module _ (us : List (Shown S)) (pass : PassOf S) (a : Act) (answer : Answer) (turn : (lines : List Line) × AsksSo contents may_give texts faults us lib (call_of (Some secret) a) moment answer lines (shown_by pass) (drawn_by pass)) where
      was_asked : WasAsked contents may_give texts faults lib secret moment a answer pass
      was_asked = record { us = us; lines = turn.0; asks = turn.1 }

      -- a call that was refused
      pub asked_stops : IsOfFilling a → (r : Result Reply NotFilled) → IfErr r (IsRefusalOf answer.reply) → IfErr r (StopsFor contents may_give texts faults lib secret moment pass)
      asked_stops kind (Ok said) refused = tt
      asked_stops kind (Err (not_filled.Refused why)) is = record { a = a; kind = kind; answer = answer; asked = was_asked; is = is }
      asked_stops kind (Err (not_filled.Taken id)) none = absurd none
      asked_stops kind (Err not_filled.NoMemory) none = absurd none

      -- and one that was done
      pub asked_done : (r : Result Reply NotFilled) → IfOk r (λ told. (told ≡ answer.reply) × (is_refused answer.reply ≡ false))
          → IfOk r (λ said. (answered : Answer) × WasAsked contents may_give texts faults lib secret moment a answered pass × (answered.reply ≡ said))
      asked_done (Ok said) is = (answer, was_asked, sym is.0)
      asked_done (Err why) is = tt

  -- ---- a whole filling

  module _ (count number : ℕ) (shows : ℕ → Type 0) where
    abbrev Ends : PassOf S → NotFilled → Type 0
    Ends pass why = EndsFor contents may_give texts faults lib secret count number shows pass why

    -- of a push, the first or the second
    pub push_ends : (moment : ℕ) → shows moment → (pass : PassOf S) (is_second : Bool) (was : NotFilled)
        → StopsWhere contents may_give texts faults lib secret (IsClash (entries_of moment (pushed_files is_second 0 (files_from count number)))) moment pass was
        → EndsFor contents may_give texts faults lib secret count number shows pass was
    push_ends moment shown pass is_second (not_filled.Refused why) refused = inl (moment, shown, refused)
    push_ends moment shown pass is_second (not_filled.Taken id) clash = (moment, shown, (is_second, clash))
    push_ends moment shown pass is_second not_filled.NoMemory stops = tt

    ends_by : (moment : ℕ) → shows moment → (pass : PassOf S) (was : NotFilled) → StopsFor contents may_give texts faults lib secret moment pass was → Ends pass was
    ends_by moment shown pass (not_filled.Refused why) refused = inl (moment, shown, refused)
    ends_by moment shown pass (not_filled.Taken id) none = absurd none
    ends_by moment shown pass not_filled.NoMemory stops = tt

    pub ended_for : {T : Type 0} (pass : PassOf S) (was : NotFilled) (r : Result T NotFilled) → IsErrAnd r (λ told. told ≡ was)
        → EndsFor contents may_give texts faults lib secret count number shows pass was → IfErr r (EndsFor contents may_give texts faults lib secret count number shows pass)
    ended_for pass was (Ok x) is ends = tt
    ended_for pass was (Err told) is ends = subst (Ends pass) (sym is) ends

    pub ends_for : {T : Type 0} (moment : ℕ) → shows moment → (pass : PassOf S) (was : NotFilled) (r : Result T NotFilled) → IsErrAnd r (λ told. told ≡ was)
        → StopsFor contents may_give texts faults lib secret moment pass was → IfErr r (EndsFor contents may_give texts faults lib secret count number shows pass)
    ends_for moment shown pass was r is stops = ended_for pass was r is (ends_by moment shown pass was stops)

    -- a collection that was refused
    pub not_collected : (us : List (Shown S)) (pass : PassOf S) (why : Refusal) (told : Collected) → told ≡ collected.Refused why
        → (lines : List Line) × CollectsSo contents may_give texts faults shows us lib (Some secret) told lines (shown_by pass) (drawn_by pass)
        → EndsFor contents may_give texts faults lib secret count number shows pass (not_filled.Refused why)
    not_collected us pass why told is (lines, collects) =
        inr (record { us = us; lines = lines; collects = subst (λ (e : Collected). CollectsSo contents may_give texts faults shows us lib (Some secret) e lines (shown_by pass) (drawn_by pass)) is collects })

    -- and one that was done
    pub was_collected : (us : List (Shown S)) (pass : PassOf S) (number removed turns : ℕ) (told : Collected) → told ≡ collected.Done number removed turns
        → (lines : List Line) × CollectsSo contents may_give texts faults shows us lib (Some secret) told lines (shown_by pass) (drawn_by pass)
        → WasCollected contents may_give texts faults lib secret shows removed pass
    was_collected us pass number removed turns told is (lines, collects) = record {
      us = us;
      lines = lines;
      number = number;
      turns = turns;
      collects = subst (λ (e : Collected). CollectsSo contents may_give texts faults shows us lib (Some secret) e lines (shown_by pass) (drawn_by pass)) is collects;
    }
