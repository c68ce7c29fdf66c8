-- What the theorems on the rules say of an answer. The key lemmas are answered_files and answered_safe.
use Rattle.std.proofs.Common.{◌≡◌, ℕ, sym, ◌∙◌, subst, Option, Some}
use Rattle.library_rules.specs.Files.{KeepsKept}
use Rattle.library_rules.specs.LateUpdates.{TakesUploaded}
use Rattle.library_rules.specs.LibraryState.{State}
use Rattle.library_rules.specs.Uploads.{KeepsSafe, TellsSafe}
use Rattle.library_rules.specs.declared.entry.Step.TheVariants.{Asked}
use Rattle.library_rules.proofs.StepLawLemmas.{files_stay, safe_stays, takes_uploaded, tells_safe}
use Rattle.library_state.specs.declared.call.Call.{Call}
use Rattle.library_state.specs.declared.reply.Reply.{Reply}
use Rattle.object_store.specs.Shelf.{Contents}
use Rattle.depot.specs.Answering.{AnswersBySome}
use Rattle.depot.specs.DepotView.{DepotView, IsGood, state_of}

module _ {S : Type 0} (contents : S → Option Contents) (faults : S → ℕ) (old new : DepotView S) (call : Call) (moment : ℕ) (r : Reply) (good : IsGood contents faults old)
    (told : (s : State) → state_of contents faults old ≡ Some s → AnswersBySome s call moment r (state_of contents faults new)) where
  some_state : {s t : State} → Some s ≡ Some t → s ≡ t
  some_state e = cc

  -- each kept commit keeps its files
  pub answered_files : (s t : State) → state_of contents faults old ≡ Some s → state_of contents faults new ≡ Some t → KeepsKept s t
  answered_files s t was now =
      let answers = told s was in
      subst (KeepsKept s) (some_state (sym answers.1.left ∙ now)) (files_stay s (Asked call) moment r answers.1.state answers.0 (good.sound s was) answers.1.step)

  -- what was safe stays so, what is told to be stored is, and an update whose upload is complete isn't late
  pub answered_safe : (s t : State) → state_of contents faults old ≡ Some s → state_of contents faults new ≡ Some t → KeepsSafe s t × TellsSafe call.act r t × TakesUploaded s call r
  answered_safe s t was now =
      let answers = told s was in
      let same : answers.1.state ≡ t = some_state (sym answers.1.left ∙ now) in (
        subst (KeepsSafe s) same (safe_stays s call moment r answers.1.state answers.0 (good.sound s was) answers.1.step),
        subst (TellsSafe call.act r) same (tells_safe s call moment r answers.1.state answers.0 answers.1.step),
        takes_uploaded s call moment r answers.1.state answers.0 answers.1.step,
      )
