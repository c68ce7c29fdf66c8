-- As a collection ends, and what leaves before. The key lemmas are clean_at_end and spared.
use Rattle.std.proofs.Common.{◌≡◌, ◌||◌, true, false, sym, ap, subst, ◌∙◌}
use Rattle.ids.specs.declared.key.Key.{Key}
use Rattle.object_graph.specs.Traversal.{is_in}
use Rattle.library_rules.specs.Changes.{with_added, without, apply, step_changes, moved}
use Rattle.library_rules.specs.CollectionSteps.{Ends}
use Rattle.library_rules.specs.History.{StepPermits, Permits}
use Rattle.library_rules.specs.LibraryState.{State, is_stored, is_needed, is_fresh}
use Rattle.library_rules.specs.declared.entry.Entry.{Entry}
use Rattle.library_rules.specs.declared.entry.Step.TheVariants as step
use Rattle.library_rules.proofs.StepLemmas.{objects_after, spares}
use Rattle.std.proofs.lemmas.Bool.{or_from}

-- what leaves is neither needed nor fresh
pub spared : (s : State) (e : Entry) → Permits s e → (key : Key) → is_in e.removed key ≡ true → (is_needed s.objects s.state.kept key || is_fresh s.running key) ≡ false
spared s e permits key there =
    or_from (is_needed s.objects s.state.kept key) (is_fresh s.running key) ((spares s e permits).unneeded key there) ((spares s e permits).not_fresh key there)

-- an end changes no object and cuts nothing
ended_objects : (s : State) (e : Entry) → Ends s e → (apply s e).objects ≡ s.objects
ended_objects s e ends = objects_after s e ∙ ap (λ removed. without (with_added s.objects e.added) removed) ends.removes ∙ ap (with_added s.objects) ends.adds

ended_kept : (s : State) (e : Entry) → e.step ≡ step.Ended → (apply s e).state.kept ≡ s.state.kept
ended_kept s e is = ap (λ st. (step_changes e.moment st e.reply (moved s e.added e.removed)).state.kept) is

pub clean_at_end : (s : State) (e : Entry) → Permits s e → e.step ≡ step.Ended → (key : Key) → is_stored (apply s e).objects key ≡ true
    → (is_needed (apply s e).objects (apply s e).state.kept key || is_fresh s.running key) ≡ true
clean_at_end s e permits is key there =
    let ends : Ends s e = subst (λ st. StepPermits s e st) is permits in
    let objects = ended_objects s e ends in
    let kept = ended_kept s e is in
    let before : is_stored s.objects key ≡ true = ap (λ o. is_stored o key) (sym objects) ∙ there in
    ap (λ o. is_needed o (apply s e).state.kept key || is_fresh s.running key) objects
    ∙ ap (λ k. is_needed s.objects k key || is_fresh s.running key) kept
    ∙ ends.clean.each key before
