-- The cause of damage that is told in a connection. The key lemmas are call_caused, opening_harmless, started_gives and
-- made_gives.
use Rattle.std.proofs.Common.{◌≡◌, ◌⊎◌, inl, inr, ℕ, Bool, true, false, true≢false, List, Option, Some, Result, Ok, Err, refl, sym, ap, subst, ◌∙◌}
use Rattle.std.specs.Prelude.{IfOk, ⊤}
use Rattle.std.specs.Str.{bytes_eq}
use Rattle.std.proofs.lemmas.Slice.Eq.{bytes_eq-Decides}
use Rattle.depot.specs.DepotView.{DepotView}
use Rattle.depot.specs.Giving.{GivesBy, IsOfMaking}
use Rattle.depot.proofs.GivingLemmas.{read_by}
use Rattle.library_rules.specs.Calls.{decided}
use Rattle.library_rules.specs.declared.entry.Stored.{Stored}
use Rattle.library_state.specs.StateSpelling.{text_of}
use Rattle.library_state.specs.declared.call.Call.{Call}
use Rattle.library_state.specs.declared.state.LibState.{LibState}
use Rattle.object_store.specs.Shelf.{Contents, GivesAlso, GivesNoMore}
use Rattle.object_store.specs.Store.{has_other_name}
use Rattle.object_store.specs.declared.shelf.Slot.{Slot}
use Rattle.object_store.specs.declared.shelf.Slot.TheVariants.{Object, Status}
use Rattle.worker_server.specs.Calls.{AtAMoment}
use Rattle.worker_server.specs.declared.host.Answer.{Answer}
use Rattle.server_words.specs.declared.command.Location.{Location}
use Rattle.server_words.specs.declared.command.Location.TheVariants.{Memory}
use Rattle.library_server.specs.Answering.{AnswersOn}
use Rattle.library_server.specs.Counting.{OpenedView}
use Rattle.library_server.specs.Starting.{IsOfOpening, laid_commit, laid_text, memory_library}
use Rattle.library_server.specs.Making.{first_of, new_commit}
use Rattle.library_server.specs.declared.not_done.NotBrought.{NotBrought}
use Rattle.depot.specs.Damage.{IsCausedReply}
use Rattle.depot.proofs.DamageLemmas.{Harmless, answer_caused, commit_harmless, decided_undamaged, harmless_then, no_text, reply_back}

-- ---- what an opening lays

module _ (location : Location) (lib : List ℕ) (shows : ℕ → Type 0) where
  -- a library that is started lays its text
  pub started_gives : {before mid now : Slot → Option (List ℕ) → Type 0} (state : LibState) → GivesNoMore before mid → GivesAlso mid now Status (Some (text_of state))
      → GivesBy (IsOfOpening location lib shows state) before now
  started_gives {before} {mid} state reads gives slot given is = by (gives slot given is)
    where
      by : mid slot given ⊎ ((slot ≡ Status) × (given ≡ Some (text_of state))) → before slot given ⊎ IsOfOpening location lib shows state slot given
      by (inl was) = inl (reads slot given was)
      by (inr laid) = inr (laid_text laid.0 laid.1)

  -- one that was looked for first
  pub absent_gives : {S T : Type 0} {before now : Slot → Option (List ℕ) → Type 0} (may_give : S → Slot → Option (List ℕ) → Type 0) (depot_in : T → DepotView S) (result : Result T NotBrought) → GivesNoMore before now
      → IfOk result (λ x. GivesBy (IsOfOpening location lib shows (depot_in x).state) now (may_give (depot_in x).store.shelf))
      → IfOk result (λ x. GivesBy (IsOfOpening location lib shows (depot_in x).state) before (may_give (depot_in x).store.shelf))
  absent_gives may_give depot_in (Ok x) reads gives = read_by reads gives
  absent_gives may_give depot_in (Err why) reads gives = tt

  -- neither lays what is damage
  pub opening_harmless : {before now : Slot → Option (List ℕ) → Type 0} (state : LibState) → GivesBy (IsOfOpening location lib shows state) before now → Harmless before now
  opening_harmless {before} state gives key given is = by (gives (Object key) given is)
    where
      by : before (Object key) given ⊎ IsOfOpening location lib shows state (Object key) given
          → before (Object key) given ⊎ ((bytes : List ℕ) × (given ≡ Some bytes) × (has_other_name key bytes ≡ false))
      by (inl was) = inl was
      by (inr (laid_text at is)) = absurd (no_text key at)
      by (inr (laid_commit memory moment shown first at is)) =
          inr (commit_harmless (new_commit (memory_library lib) moment).key.id (new_commit (memory_library lib) moment).bytes key given at is)

  -- one that is made first lays an object too
  made_at : {before now : Slot → Option (List ℕ) → Type 0} (state first : LibState) (x : Stored) → state ≡ first
      → ((slot : Slot) (given : Option (List ℕ)) → slot ≡ Object x.key → given ≡ Some x.bytes → IsOfOpening location lib shows state slot given)
      → GivesBy (IsOfMaking x first) before now → GivesBy (IsOfOpening location lib shows state) before now
  made_at {before} state first x same laid_by gives slot given is = by (gives slot given is)
    where
      by : before slot given ⊎ IsOfMaking x first slot given → before slot given ⊎ IsOfOpening location lib shows state slot given
      by (inl was) = inl was
      by (inr (inl laid)) = inr (laid_by slot given laid.0 laid.1)
      by (inr (inr laid)) = inr (laid_text laid.0 (laid.1 ∙ ap (λ (s : LibState). Some (text_of s)) (sym same)))

-- a library that is made in memory lays its opening commit too
pub made_gives : (lib : List ℕ) (shows : ℕ → Type 0) {before now : Slot → Option (List ℕ) → Type 0} (state : LibState) (moment : ℕ) → shows moment → state ≡ first_of (memory_library lib) moment
    → GivesBy (IsOfMaking (new_commit (memory_library lib) moment) (first_of (memory_library lib) moment)) before now → GivesBy (IsOfOpening Memory lib shows state) before now
made_gives lib shows state moment shown same gives =
    made_at Memory lib shows state (first_of (memory_library lib) moment) (new_commit (memory_library lib) moment) same (λ slot given at is. laid_commit tt moment shown same at is) gives

-- ---- a connection

module _ {S : Type 0} (contents : S → Option Contents) (may_give : S → Slot → Option (List ℕ) → Type 0) (texts faults : S → ℕ) (shows : ℕ → Type 0)
    (gives : Slot → Option (List ℕ) → Type 0) where
  -- a call on the library, or on another, which isn't there
  pub call_caused : (u : OpenedView S) (lib : List ℕ) (call : Call) (answer : Answer) (operations : List ⊤) (v : OpenedView S) → Harmless gives (may_give u.depot.store.shelf)
      → AtAMoment shows (AnswersOn contents may_give texts faults) u lib call answer operations v
      → IsCausedReply gives answer.reply × Harmless gives (may_give v.depot.store.shelf)
  call_caused u lib call answer operations v harmless (moment, shown, answers) = by (bytes_eq lib u.depot.state.lib) refl
    where
      by : (b : Bool) → bytes_eq lib u.depot.state.lib ≡ b → IsCausedReply gives answer.reply × Harmless gives (may_give v.depot.store.shelf)
      by true same =
          let answered = answers.here ((bytes_eq-Decides lib u.depot.state.lib).0 same) in
          let later = harmless_then gives (may_give u.depot.store.shelf) (may_give v.depot.store.shelf) u.depot.state.lib call.act harmless answered.gives in (
            reply_back gives (may_give v.depot.store.shelf) later answer.reply
                (answer_caused (may_give v.depot.store.shelf) u.depot.store.index call.act (decided u.depot.state call) answer.reply (decided_undamaged u.depot.state call) answered.serves.may_come),
            later,
          )
      by false other =
          let none = answers.elsewhere (λ same. true≢false (sym ((bytes_eq-Decides lib u.depot.state.lib).1 same) ∙ other)) in (
            subst (IsCausedReply gives) (sym none.0) tt,
            subst (λ (w : OpenedView S). Harmless gives (may_give w.depot.store.shelf)) (sym none.1) harmless,
          )
