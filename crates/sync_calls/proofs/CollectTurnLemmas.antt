-- Which collection runs as a turn ends, and what no turn changes. The key lemmas are runs_at and share_trans.
use Rattle.std.proofs.Common.{◌≡◌, ℕ, List, length, sym, ◌∙◌, ap, Option, Some}
use Rattle.std.specs.Prelude.{option_map}
use Rattle.library_state.specs.declared.state.LibState.{LibState}
use Rattle.object_store.specs.Shelf.{Contents}
use Rattle.object_store.specs.declared.shelf.Slot.{Slot}
use Rattle.depot.specs.DepotView.{DepotView}
use Rattle.depot.specs.Story.{ComesBy}
use Rattle.turnstile.specs.PassView.{StandsFor}
use Rattle.sync_calls.specs.CollectTurn.{RunsAt, running_number}
use Rattle.sync_calls.specs.ServedTurn.{IsSameShare}
use Rattle.sync_calls.specs.Shown.{LibraryPass, LibraryView, library_after, shown_in}
use Rattle.sync_calls.proofs.ShownLemmas.{last_at}

module _ {S : Type 0} (contents : S → Option Contents) (may_give : S → Slot → Option (List ℕ) → Type 0) (texts faults : S → ℕ) where
  pub runs_at : (w : LibraryView S) (y : DepotView S) (number : Option ℕ) → StandsFor (ComesBy contents may_give texts faults) w y → number ≡ running_number y → RunsAt (shown_in w) number
  runs_at w y number stands is =
      let last = last_at contents may_give texts faults stands.0 w.seen y stands.2.leads in
      record {
        there = last.there;
        stood = ap (λ (o : Option (DepotView S)). library_after o w.seen (length w.seen)) stands.1 ∙ last.stood;
        runs = is ∙ (ap (λ r. option_map (λ _. y.state.collection) r) last.same.running ∙ ap (λ (s : LibState). option_map (λ _. s.collection) last.there.running) last.same.state);
      }

pub share_trans : {S : Type 0} (a b c : LibraryPass S) → IsSameShare a b → IsSameShare b c → IsSameShare a c
share_trans a b c first second = record { start = second.start ∙ first.start; parts = second.parts ∙ first.parts; passes = second.passes ∙ first.passes; first = second.first ∙ first.first }
