-- Files and directories that an index knows to have more bytes than one reply packs are not read: the outcome is want of memory, and the
-- library is as it was. The key lemma is spared.
use Rattle.std.proofs.Common.{◌≡◌, ℕ, List, [], ◌∷◌, Option, inl, inr, subst, sym, ◌∙◌}
use Rattle.std.specs.Prelude.{⊤}
use Rattle.object_store.specs.Shelf.{Contents}
use Rattle.object_store.specs.declared.shelf.Slot.{Slot}
use Rattle.http_front.specs.declared.outcome.Outcome.{Outcome}
use Rattle.worker_server.specs.Calls.{GetsEach, most_packed, rules_at}
use Rattle.worker_server.proofs.EachLemmas.{got_no_want}
use Rattle.library_server.specs.Answering.{AnswersOn, AsksTooMuch, IsWant, LooksOn, SparesOn}
use Rattle.library_server.specs.Collecting.{CollectsOn}
use Rattle.library_server.specs.Counting.{OpenedView}

module _ {S : Type 0} (contents : S → Option Contents) (may_give : S → Slot → Option (List ℕ) → Type 0) (texts faults : S → ℕ) (shows : ℕ → Type 0) where
  pub spared : (u v : OpenedView S) (lib : List ℕ) (secret : Option (List ℕ)) (ids : List (List ℕ)) (o : Outcome) (operations : List ⊤)
      → GetsEach (rules_at shows (AnswersOn contents may_give texts faults) SparesOn (CollectsOn contents may_give texts faults) LooksOn) lib secret u ids [] o operations v
      → AsksTooMuch u lib secret ids most_packed → IsWant o × (v ≡ u)
  spared u v lib secret [] o operations gets much = absurd much
  spared u v lib secret (id ∷ ids) o operations gets much =
      let told = gets.5 much in
      elim gets.7 [
        | inl on ↦ absurd (got_no_want gets.0.reply on.0 on.1 told.0)
        | inr end ↦ elim end [
          | inl over ↦ absurd (got_no_want gets.0.reply over.0 over.1 told.0)
          | inr refused ↦ (subst IsWant (sym refused.1) told.0, refused.3 ∙ told.1)
        ]
      ]
