-- A library that is opened again. The key lemmas are sound_opened and stands_by_its_objects.
use Rattle.std.proofs.Common.{◌≡◌, ℕ, ◌+◌, ◌≤◌, ◌<◌, Bool, true, false, List, [], ◌∷◌, refl, sym, subst, true≢false, arith, Some, Option, Ok, ◌||◌}
use Rattle.std.specs.List.{list_any}
use Rattle.ids.specs.Key.{Objects}
use Rattle.ids.specs.declared.key.Key.{Key}
use Rattle.library_state.specs.StateSpelling.{text_of}
use Rattle.library_state.specs.StateText.{state_of as read_state}
use Rattle.object_graph.specs.Objects.{same_id}
use Rattle.object_graph.specs.Traversal.{is_in, needs, IsComplete}
use Rattle.object_graph.specs.Unchanged.{Keeps}
use Rattle.library_rules.specs.LibraryState.{State, kept_commits, is_stored, is_needed, IsSound, last_number}
use Rattle.library_rules.specs.Recovery.{StandsFor, opened}
use Rattle.library_rules.proofs.KeepingLemmas.{agrees_grown, still_complete, same_needs, needs_stored}
use Rattle.library_rules.proofs.MemberLemmas.{apart, same_id-itself}
use Rattle.std.proofs.lemmas.Bool.{or_left, or_right, false_from_ne_true}
use Rattle.library_rules.proofs.SoundLemmas.{next_number}

one_more : (n : ℕ) → 1 ≤ n + 1
one_more n = omega arith

pub sound_opened : (s : State) (lying : Objects) (faults : ℕ) → IsSound s → Keeps s.objects lying → s.state.opening < last_number → IsSound (opened lying faults s)
sound_opened s lying faults sound keeps less = record {
  kept = record {
    some_kept = sound.kept.some_kept;
    complete = λ id e. still_complete s.objects lying id (agrees_grown s.objects lying id (sound.kept.complete id e) keeps) (sound.kept.complete id e);
    fresh_stored = λ key e. absurd (true≢false (sym e));
  };
  tokens = sound.tokens;
  numbers = record {
    collections = sound.numbers.collections;
    opened = one_more s.state.opening;
    openings = next_number s.state.opening less;
    day_count = sound.numbers.day_count;
    name_size = sound.numbers.name_size;
  };
}

-- a test that passes at one of some ids passes at one that is among them
pub record Found (P : List ℕ → Bool) (ids : List (List ℕ)) : Type 0 where
  pub id : List ℕ
  pub among : list_any (same_id id) ids ≡ true
  pub passes : P id ≡ true

pub any_at : (P : List ℕ → Bool) (ids : List (List ℕ)) → list_any P ids ≡ true → Found P ids
any_at P [] e = absurd (true≢false (sym e))
any_at P (x ∷ ids) e = by (P x) refl e (λ h. any_at P ids h)
  where
    later : Found P ids → Found P (x ∷ ids)
    later found = record { id = found.id; among = or_right (same_id found.id x) (list_any (same_id found.id) ids) found.among; passes = found.passes }

    by : (b : Bool) → P x ≡ b → (b || list_any P ids) ≡ true → (list_any P ids ≡ true → Found P ids) → Found P (x ∷ ids)
    by true is e rest = record { id = x; among = or_left (same_id x x) (list_any (same_id x) ids) (same_id-itself x); passes = is }
    by false is e rest = later (rest e)

-- what a kept commit needs is stored
pub needed_stored : (s : State) → IsSound s → (key : Key) → is_needed s.objects s.state.kept key ≡ true → is_stored s.objects key ≡ true
needed_stored s sound key e =
    let found = any_at (λ commit. is_in (needs s.objects commit) key) (kept_commits s.state.kept) e in
    needs_stored s.objects found.id (sound.kept.complete found.id found.among) key found.passes

-- where the text and the objects of a sound state are there, what else lies there is garbage
pub stands_by_its_objects : (s : State) (slot : Option (List ℕ)) (lying : Objects) → IsSound s → slot ≡ Some (text_of s.state)
    → read_state (text_of s.state) ≡ Ok s.state → Keeps s.objects lying → StandsFor slot lying s
stands_by_its_objects s slot lying sound text reads keeps = record {
  text = text;
  reads = reads;
  lies = keeps;
  garbage = λ key absent. false_from_ne_true (is_needed lying s.state.kept key) (λ e. apart (is_stored s.objects key) (there key e) absent);
}
  where
    there : (key : Key) → is_needed lying s.state.kept key ≡ true → is_stored s.objects key ≡ true
    there key e =
        let found = any_at (λ commit. is_in (needs lying commit) key) (kept_commits s.state.kept) e in
        let complete : IsComplete s.objects found.id = sound.kept.complete found.id found.among in
        let same = same_needs s.objects lying found.id (agrees_grown s.objects lying found.id complete keeps) in
        needs_stored s.objects found.id complete key (subst (λ keys. is_in keys key ≡ true) same found.passes)
