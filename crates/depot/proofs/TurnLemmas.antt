-- Each turn of a collection is a permitted step. The key lemmas are marked_turn, swept_turn, ended_turn, begun_turn, refused_turn,
-- idle_turn, turn_files, turn_sound and turn_safe.
use Rattle.std.proofs.Common.{◌≡◌, ◌≢◌, ◌⊎◌, inl, inr, ℕ, ◌<◌, Bool, true, false, nat_eq, eq-eqb, List, [], ◌∷◌, refl, sym, ap, ◌∙◌, subst, true≢false, Option, None, Some}
use borrow.Author.Tests.{eqb-true}
use Rattle.std.specs.List.{IsDistinct}
use Rattle.std.specs.Ordering.{eq_by_cmp}
use Rattle.ids.specs.Key.{key_cmp}
use Rattle.ids.specs.declared.key.Key.{Key}
use Rattle.library_rules.specs.Answered.{Fails, IsFault, Plain}
use Rattle.library_rules.specs.Changes.{apply, begun, counted, without}
use Rattle.library_rules.specs.CollectionSteps.{IsClean, Sweeps}
use Rattle.library_rules.specs.Files.{KeepsKept}
use Rattle.library_rules.specs.History.{Permits, lone}
use Rattle.library_rules.specs.LibraryState.{IsSound, Running, State, last_number}
use Rattle.library_rules.specs.Turns.{IsRefusedTurn, TakesStep}
use Rattle.library_rules.specs.Uploads.{KeepsSafe}
use Rattle.library_rules.specs.declared.entry.Entry.{Entry}
use Rattle.library_rules.specs.declared.entry.Step.TheVariants as step
use Rattle.library_rules.proofs.BesideLemmas.{beside}
use Rattle.library_rules.proofs.ChangedLemmas.{began_changes, ended_changes, faults_change, removal_changes, swept_changes}
use Rattle.library_rules.proofs.StepLawLemmas.{by_refused, by_turn, files_after, kept_itself}
use Rattle.library_rules.proofs.StepLemmas.{sound_apply}
use Rattle.library_rules.proofs.UnmovedLemmas.{lone_apply}
use Rattle.library_rules.proofs.UploadSafeLemmas.{stays_safe}
use Rattle.library_state.specs.declared.refusal.Refusal.{Refusal}
use Rattle.library_state.specs.declared.refusal.Refusal.TheVariants as refusal
use Rattle.library_state.specs.declared.reply.Reply.TheVariants as reply
use Rattle.object_graph.specs.Traversal.{is_in}
use Rattle.object_graph.proofs.ReachingLemmas.{in_first}
use Rattle.collector.specs.Collecting.{AreCandidates, Collects}
use Rattle.collector.specs.Marks.{MarksView}
use Rattle.collector.proofs.CollectingLemmas.{distinct_none, marks_so, sweeps_so}
use Rattle.depot.specs.CollectionTurns.{TurnSo, is_begin, turned_once}
use Rattle.depot.specs.declared.turn.Turn.{Turn}
use Rattle.depot.specs.declared.turn.Turn.TheVariants.{Began, Marked, Swept, Ended, Over, Refused}

-- ---- a collection that runs

module _ (rest : State) (running : Running) (marks : MarksView) (sound : IsSound (beside rest (Some running))) (collects : Collects (beside rest (Some running)) running marks) (moment : ℕ) where
  abbrev library : State
  library = beside rest (Some running)

  -- some objects were marked: a sweep of nothing
  pub marked_turn : marks.pending ≢ [] → TakesStep library step.Swept moment reply.Checked [] (beside rest (Some (turned_once running))) (lone library step.Swept moment reply.Checked ∷ [])
  marked_turn some =
      let e : Entry = lone library step.Swept moment reply.Checked in record {
        entry = e;
        one = refl;
        enters = record {
          permitted = record {
            permits = (marks_so library running marks sound collects e some (record { reply = refl; faults = refl }) refl, refl);
            changes = swept_changes library e refl refl refl;
          };
          is_step = refl;
          at = refl;
          answers = refl;
          state = lone_apply library step.Swept moment reply.Checked;
        };
        removes = refl;
      }

  -- some candidates left
  pub swept_turn : marks.pending ≡ [] → (keys : List Key) → AreCandidates marks keys → keys ≢ []
      → (es : List Entry) × TakesStep library step.Swept moment reply.Checked keys (beside (record rest { objects = without rest.objects keys }) (Some (turned_once running))) es
  swept_turn none keys are some =
      let e : Entry = record (lone library step.Swept moment reply.Checked) { removed = keys } in (
        e ∷ [],
        record {
          entry = e;
          one = refl;
          enters = record {
            permitted = record {
              permits = (sweeps_so library running marks sound collects e none are (inl some) (inl (record { reply = refl; faults = refl })), refl);
              changes = swept_changes library e refl refl refl;
            };
            is_step = refl;
            at = refl;
            answers = refl;
            state = refl;
          };
          removes = refl;
        },
      )

  -- nothing is left to be done
  pub ended_turn : IsClean library → TakesStep library step.Ended moment reply.Checked [] (beside rest None) (lone library step.Ended moment reply.Checked ∷ [])
  ended_turn clean =
      let e : Entry = lone library step.Ended moment reply.Checked in record {
        entry = e;
        one = refl;
        enters = record {
          permitted = record {
            permits = record { says = record { reply = refl; faults = refl }; runs = refl; clean = clean; adds = refl; removes = refl };
            changes = ended_changes library e refl refl;
          };
          is_step = refl;
          at = refl;
          answers = refl;
          state = lone_apply library step.Ended moment reply.Checked;
        };
        removes = refl;
      }

  -- ---- a turn that is refused

  module _ (why : Refusal) (keys : List Key) (now : ℕ) where
    abbrev failed : Entry
    failed = record (lone library step.Swept moment (reply.Refused why)) { removed = keys; faults = now }

    abbrev left : State
    left = counted now (beside (record rest { objects = without rest.objects keys }) (Some running))

    failed_apply : apply library failed ≡ left
    failed_apply = refl

    -- a refused turn that marked is a sweep of nothing that fails
    pub fails_marking : keys ≡ [] → IsFault library failed why → Sweeps library running failed
    fails_marking none fault = record {
      stored = λ key is. absurd (nothing key is);
      unneeded = λ key is. absurd (nothing key is);
      not_fresh = λ key is. absurd (nothing key is);
      once = subst (IsDistinct (eq_by_cmp key_cmp)) (sym none) distinct_none;
      few = λ checked. absurd (unlike checked);
      says = inr (record { why = why; reply = refl; fault = fault });
    }
      where
        nothing : (key : Key) → is_in keys key ≡ true → ⊥
        nothing key is = true≢false (sym is ∙ ap (λ (ks : List Key). is_in ks key) none)

        unlike : reply.Refused why ≡ reply.Checked → ⊥
        unlike e = cc

    pub fails_sweeping : marks.pending ≡ [] → AreCandidates marks keys → IsFault library failed why → Sweeps library running failed
    fails_sweeping none are fault =
        let fails : Fails library failed = record { why = why; reply = refl; fault = fault } in
        sweeps_so library running marks sound collects failed none are (inr fails) (inr fails)

    -- it leaves an entry exactly where it changed something
    pub refused_turn : Sweeps library running failed → (es : List Entry) × IsRefusedTurn library moment why keys left es
    refused_turn sweeps = by keys refl (nat_eq now rest.faults) refl
      where
        enters : apply library failed ≢ library → (es : List Entry) × IsRefusedTurn library moment why keys left es
        enters changes = (
          failed ∷ [],
          inl (record {
            entry = failed;
            one = refl;
            enters = record { permitted = record { permits = (sweeps, refl); changes = changes }; is_step = refl; at = refl; answers = refl; state = failed_apply };
            removes = refl;
          }),
        )

        by : (ks : List Key) → keys ≡ ks → (b : Bool) → nat_eq now rest.faults ≡ b → (es : List Entry) × IsRefusedTurn library moment why keys left es
        by (k ∷ ks) is b same =
            let among : is_in keys k ≡ true = ap (λ xs. is_in xs k) is ∙ in_first k ks in
            enters (removal_changes library failed k (sweeps.stored k among) among)
        by [] is false other = enters (faults_change library failed (λ e. true≢false (sym (eq-eqb now rest.faults e) ∙ other)))
        by [] is true same =
            let equal : now ≡ rest.faults = eqb-true now rest.faults same in
            let stays : left ≡ library = ap (λ ks. counted now (beside (record rest { objects = without rest.objects ks }) (Some running))) is ∙ ap (λ n. counted n library) equal in (
              [],
              inr (
                is,
                record {
                  none = refl;
                  same = stays;
                  read = record {
                    permits = subst (Permits library) (ap (λ ks. record (lone library step.Swept moment (reply.Refused why)) { removed = ks; faults = now }) is ∙ ap (λ n. record (lone library step.Swept moment (reply.Refused why)) { faults = n }) equal) (sweeps, refl);
                    stays = lone_apply library step.Swept moment (reply.Refused why);
                  };
                },
              ),
            )

-- ---- where none runs

module _ (rest : State) (moment : ℕ) where
  abbrev idle : State
  idle = beside rest None

  -- a collection begins
  pub begun_turn : rest.state.collection < last_number → TakesStep idle step.Began moment reply.Checked [] (begun moment idle) (lone idle step.Began moment reply.Checked ∷ [])
  begun_turn next =
      let e : Entry = lone idle step.Began moment reply.Checked in record {
        entry = e;
        one = refl;
        enters = record {
          permitted = record {
            permits = record { says = record { reply = refl; faults = refl }; idle = refl; next = next; adds = refl; removes = refl };
            changes = began_changes idle e refl;
          };
          is_step = refl;
          at = refl;
          answers = refl;
          state = lone_apply idle step.Began moment reply.Checked;
        };
        removes = refl;
      }

  -- none begins: by a fault, or since the last number was given
  pub idle_turn : (why : Refusal) (now : ℕ)
      → (Fails idle (record (lone idle step.Swept moment (reply.Refused why)) { faults = now }) ⊎ ((why ≡ refusal.Spent) × (now ≡ rest.faults) × (rest.state.collection ≡ last_number)))
      → (es : List Entry) × IsRefusedTurn idle moment why [] (counted now idle) es
  idle_turn why now cause = by (nat_eq now rest.faults) refl
    where
      e : Entry
      e = record (lone idle step.Swept moment (reply.Refused why)) { faults = now }

      permits : Permits idle e
      permits = ((refl, said cause), refl)
        where
          said : (Fails idle e ⊎ ((why ≡ refusal.Spent) × (now ≡ rest.faults) × (rest.state.collection ≡ last_number)))
              → Fails idle e ⊎ (Plain idle e (reply.Refused refusal.Spent) × (rest.state.collection ≡ last_number))
          said (inl fails) = inl fails
          said (inr (spent, same, last)) = inr (record { reply = ap reply.Refused spent; faults = same }, last)

      by : (b : Bool) → nat_eq now rest.faults ≡ b → (es : List Entry) × IsRefusedTurn idle moment why [] (counted now idle) es
      by false other = (
        e ∷ [],
        inl (record {
          entry = e;
          one = refl;
          enters = record {
            permitted = record { permits = permits; changes = faults_change idle e (λ same. true≢false (sym (eq-eqb now rest.faults same) ∙ other)) };
            is_step = refl;
            at = refl;
            answers = refl;
            state = refl;
          };
          removes = refl;
        }),
      )
      by true same =
          let equal : now ≡ rest.faults = eqb-true now rest.faults same in (
            [],
            inr (
              refl,
              record {
                none = refl;
                same = ap (λ n. counted n idle) equal;
                read = record {
                  permits = subst (λ n. Permits idle (record (lone idle step.Swept moment (reply.Refused why)) { faults = n })) equal permits;
                  stays = lone_apply idle step.Swept moment (reply.Refused why);
                };
              },
            ),
          )

-- ---- what a turn is due by the theorems on the rules

pub turn_files : (s : State) (goal : Option ℕ) (moment at_most : ℕ) (turn : Turn) (t : State) (es : List Entry) → IsSound s → TurnSo s goal moment at_most turn t es → KeepsKept s t
turn_files s goal moment at_most (Began number) t es sound (rests, next, takes) =
    by_turn s step.Began moment reply.Checked [] t es (KeepsKept s) takes (λ e permits at. files_after s e sound permits)
turn_files s goal moment at_most (Marked count) t es sound (some, few, takes) =
    by_turn s step.Swept moment reply.Checked [] t es (KeepsKept s) takes (λ e permits at. files_after s e sound permits)
turn_files s goal moment at_most (Swept keys) t es sound (some, few, takes) =
    by_turn s step.Swept moment reply.Checked keys t es (KeepsKept s) takes (λ e permits at. files_after s e sound permits)
turn_files s goal moment at_most (Ended number) t es sound (is, clean, takes) =
    by_turn s step.Ended moment reply.Checked [] t es (KeepsKept s) takes (λ e permits at. files_after s e sound permits)
turn_files s goal moment at_most (Over number) t es sound (missed, same, none) = subst (KeepsKept s) (sym same) (kept_itself s sound)
turn_files s goal moment at_most (Refused why keys) t es sound (few, takes) = by_refused s moment why keys t es (KeepsKept s) takes (λ e permits at. files_after s e sound permits)

pub turn_sound : (s : State) (goal : Option ℕ) (moment at_most : ℕ) (turn : Turn) (t : State) (es : List Entry) → IsSound s → TurnSo s goal moment at_most turn t es → IsSound t
turn_sound s goal moment at_most (Began number) t es sound (rests, next, takes) = by_turn s step.Began moment reply.Checked [] t es IsSound takes (λ e permits at. sound_apply s e permits sound)
turn_sound s goal moment at_most (Marked count) t es sound (some, few, takes) = by_turn s step.Swept moment reply.Checked [] t es IsSound takes (λ e permits at. sound_apply s e permits sound)
turn_sound s goal moment at_most (Swept keys) t es sound (some, few, takes) = by_turn s step.Swept moment reply.Checked keys t es IsSound takes (λ e permits at. sound_apply s e permits sound)
turn_sound s goal moment at_most (Ended number) t es sound (is, clean, takes) = by_turn s step.Ended moment reply.Checked [] t es IsSound takes (λ e permits at. sound_apply s e permits sound)
turn_sound s goal moment at_most (Over number) t es sound (missed, same, none) = subst IsSound (sym same) sound
turn_sound s goal moment at_most (Refused why keys) t es sound (few, takes) = by_refused s moment why keys t es IsSound takes (λ e permits at. sound_apply s e permits sound)

pub turn_safe : (s : State) (goal : Option ℕ) (moment at_most : ℕ) (turn : Turn) (t : State) (es : List Entry) → IsSound s → TurnSo s goal moment at_most turn t es → is_begin turn ≡ false → KeepsSafe s t
turn_safe s goal moment at_most (Began number) t es sound so other = absurd (true≢false other)
turn_safe s goal moment at_most (Marked count) t es sound (some, few, takes) other =
    by_turn s step.Swept moment reply.Checked [] t es (KeepsSafe s) takes (λ e permits at. stays_safe s e sound permits (λ began. swept_no_begin (sym at ∙ began)))
  where
    swept_no_begin : step.Swept ≡ step.Began → ⊥
    swept_no_begin e = cc
turn_safe s goal moment at_most (Swept keys) t es sound (some, few, takes) other =
    by_turn s step.Swept moment reply.Checked keys t es (KeepsSafe s) takes (λ e permits at. stays_safe s e sound permits (λ began. swept_no_begin (sym at ∙ began)))
  where
    swept_no_begin : step.Swept ≡ step.Began → ⊥
    swept_no_begin e = cc
turn_safe s goal moment at_most (Ended number) t es sound (is, clean, takes) other =
    by_turn s step.Ended moment reply.Checked [] t es (KeepsSafe s) takes (λ e permits at. stays_safe s e sound permits (λ began. ended_no_begin (sym at ∙ began)))
  where
    ended_no_begin : step.Ended ≡ step.Began → ⊥
    ended_no_begin e = cc
turn_safe s goal moment at_most (Over number) t es sound (missed, same, none) other = subst (KeepsSafe s) (sym same) (λ key safe. safe)
turn_safe s goal moment at_most (Refused why keys) t es sound (few, takes) other =
    by_refused s moment why keys t es (KeepsSafe s) takes (λ e permits at. stays_safe s e sound permits (λ began. swept_no_begin (sym at ∙ began)))
  where
    swept_no_begin : step.Swept ≡ step.Began → ⊥
    swept_no_begin e = cc
