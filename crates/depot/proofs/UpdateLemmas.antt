-- What an update leaves, by what was planned and what was stored. The key lemmas are kept_answers, refused_answers,
-- done_answers and stopped_answers.
use Rattle.std.proofs.Common.{◌≡◌, ◌≢◌, inl, inr, ℕ, true, false, if◌then◌else◌, List, [], ◌∷◌, ◌++◌, refl, sym, ap, ◌∙◌, subst, arith, Some}
use Rattle.std.specs.List.{AllByRecursion, Contains, IsDistinct}
use Rattle.std.specs.Ordering.{eq_by_cmp}
use Rattle.ids.specs.Key.{Objects, key_cmp}
use Rattle.ids.specs.declared.key.Key.{Key}
use Rattle.library_rules.specs.Calls.{Due, Denies, Says, Stores, Installs, Merges, due}
use Rattle.library_rules.specs.Changes.{act_changes, apply, counted, keys_added, moved, with_added}
use Rattle.library_rules.specs.History.{lone}
use Rattle.library_rules.specs.LibraryState.{State, head_of, is_kept, is_stored}
use Rattle.library_rules.specs.MergeCommit.{Makes, Partly}
use Rattle.library_rules.specs.Permitted.{DuePermits, MergeFails}
use Rattle.library_rules.specs.declared.entry.Entry.{Entry}
use Rattle.library_rules.specs.declared.entry.Step.TheVariants as step
use Rattle.library_rules.specs.declared.entry.Stored.{Stored}
use Rattle.library_rules.proofs.ChangedLemmas.{install_changes, objects_change}
use Rattle.library_state.specs.declared.call.Act.TheVariants as act
use Rattle.library_state.specs.declared.call.Call.{Call}
use Rattle.library_state.specs.declared.refusal.Refusal.{Refusal}
use Rattle.library_state.specs.declared.refusal.Refusal.TheVariants as refusal
use Rattle.library_state.specs.declared.reply.Reply.{Reply}
use Rattle.library_state.specs.declared.reply.Reply.TheVariants as reply
use Rattle.library_state.specs.declared.state.LibState.{LibState}
use Rattle.object_graph.specs.Traversal.{is_in}
use Rattle.object_graph.proofs.KeyLemmas.{same_key, same_key-itself}
use Rattle.depot.specs.Answering.{AnswersBySome, MayAnswerSo, with_install}
use Rattle.depot.specs.DepotView.{library}
use Rattle.depot.specs.ObjectCalls.{Counts, IsToldRefusal}
use Rattle.depot.specs.UpdateInstall.{IsFront}
use Rattle.depot.specs.Plan.{objects_in}
use Rattle.depot.specs.UpdatePlan.{IsPlan, IsPlanFault, MergeRefuses}
use Rattle.depot.specs.declared.plan.Plan.{Plan}
use Rattle.depot.proofs.HeldLemmas.{keys_append}
use Rattle.depot.proofs.AnsweringLemmas.{damage_differs, fault_answers, said_answers, says_answers}
use Rattle.std.proofs.lemmas.Bool.{or_left}
use Rattle.ids.proofs.BasicLemmas.{contains_more}

-- ---- the first ones of a list

front_all : {A : Type 0} (P : A → Type 0) (xs ys : List A) → AllByRecursion P (xs ++ ys) → AllByRecursion P xs
front_all P [] ys all = tt
front_all P (x ∷ xs) ys all = (all.0, front_all P xs ys all.1)

front_distinct : (xs ys : List Key) → IsDistinct (eq_by_cmp key_cmp) (xs ++ ys) → IsDistinct (eq_by_cmp key_cmp) xs
unfolding IsDistinct
front_distinct [] ys all = tt
front_distinct (x ∷ xs) ys all = (front_all (λ y. eq_by_cmp key_cmp x y ≡ false) xs ys all.0, front_distinct xs ys all.1)

all_more : {A : Type 0} (x : A) (xs ys : List A) → AllByRecursion (Contains xs) ys → AllByRecursion (Contains (x ∷ xs)) ys
all_more x xs [] all = tt
all_more x xs (y ∷ ys) all = (contains_more x y xs all.0, all_more x xs ys all.1)

front_within : {A : Type 0} (xs ys : List A) → AllByRecursion (Contains (xs ++ ys)) xs
front_within [] ys = tt
front_within (x ∷ xs) ys = ((0, omega arith, refl), all_more x (xs ++ ys) xs (front_within xs ys))

-- ---- entries

module _ (state : LibState) (count : ℕ) (objects : Objects) (call : Call) (moment : ℕ) (pushed : List ℕ) (updates : call.act ≡ act.Update pushed) where
  abbrev s : State
  s = library state count objects

  entry_of : Reply → List Stored → ℕ → Entry
  entry_of r added faults = record (lone s (step.Asked call) moment r) { added = added; faults = faults }

  -- a commit that is kept
  pub kept_answers : is_kept state.kept pushed ≡ true → due s call ≡ Says (reply.Updated (head_of state.kept))
      → AnswersBySome s call moment (reply.Updated (head_of state.kept)) (Some s)
  kept_answers kept is =
      says_answers s call moment (reply.Updated (head_of state.kept)) is
      (ap (λ a. act_changes call.secret moment a (reply.Updated (head_of state.kept)) s) updates
      ∙ ap (λ b. record s { state = if b then state else with_install (head_of state.kept) pushed moment state }) kept)

  -- ---- a refusal before anything is stored

  read_answers : (why : Refusal) → DuePermits s (lone s (step.Asked call) moment (reply.Refused why)) (due s call) → AnswersBySome s call moment (reply.Refused why) (Some s)
  read_answers why permits = ([], record { state = s; left = refl; step = (refl, record { permits = (permits, refl); stays = refl }) })

  -- a merge that is refused
  merge_answers : (user base other : List ℕ) (why : Refusal) → due s call ≡ Merges user base other
      → MergeFails s (lone s (step.Asked call) moment (reply.Refused why)) user base other why → AnswersBySome s call moment (reply.Refused why) (Some s)
  merge_answers user base other why is fails =
      read_answers why (subst (DuePermits s (lone s (step.Asked call) moment (reply.Refused why))) (sym is)
      (inr (record { why = why; reply = refl; cause = fails })))

  at_count : (why : Refusal) (now : ℕ) → now ≡ count → AnswersBySome s call moment (reply.Refused why) (Some s) → AnswersBySome s call moment (reply.Refused why) (Some (library state now objects))
  at_count why now same answers = subst (λ n. AnswersBySome s call moment (reply.Refused why) (Some (library state n objects))) (sym same) answers

  merges_not_denied : (user base other : List ℕ) → Merges user base other ≢ Denies
  merges_not_denied user base other e = cc

  merge_refused : (user base other : List ℕ) (why : Refusal) (now : ℕ) → due s call ≡ Merges user base other → MergeRefuses s moment user base other why
      → Counts count now (reply.Refused why) → AnswersBySome s call moment (reply.Refused why) (Some (library state now objects))
  merge_refused user base other (refusal.TooLong path size) now is refuses counts =
      at_count (refusal.TooLong path size) now counts (merge_answers user base other (refusal.TooLong path size) is (refl, refl, refuses))
  merge_refused user base other (refusal.TooMany paths) now is refuses counts =
      at_count (refusal.TooMany paths) now counts (merge_answers user base other (refusal.TooMany paths) is (refl, refl, refuses))
  merge_refused user base other (refusal.Taken id) now is refuses counts =
      at_count (refusal.Taken id) now counts (merge_answers user base other (refusal.Taken id) is (refl, refl, refuses))
  merge_refused user base other why now is refuses counts =
      fault_answers s call moment (λ e. merges_not_denied user base other (sym is ∙ e)) (reply.Refused why) now refuses counts

  pub refused_answers : (why : Refusal) (now : ℕ) → IsPlanFault s moment (due s call) why → Counts count now (reply.Refused why)
      → AnswersBySome s call moment (reply.Refused why) (Some (library state now objects))
  refused_answers why now fault counts = by (due s call) refl fault
    where
      says_not : (r : Reply) → Says r ≢ Denies
      says_not r e = cc

      installs_not : (other : List ℕ) → Installs other ≢ Denies
      installs_not other e = cc

      by : (d : Due) → due s call ≡ d → IsPlanFault s moment d why → AnswersBySome s call moment (reply.Refused why) (Some (library state now objects))
      by Denies is fault = absurd fault
      by (Stores x) is fault = absurd fault
      by (Says r) is (inl same) = said_answers s call moment (reply.Refused why) (reply.Refused why) now (is ∙ ap Says same) refl (inl refl) counts
      by (Says r) is (inr told) = fault_answers s call moment (λ e. says_not r (sym is ∙ e)) (reply.Refused why) now told counts
      by (Installs other) is fault = fault_answers s call moment (λ e. installs_not other (sym is ∙ e)) (reply.Refused why) now fault counts
      by (Merges user base other) is fault = merge_refused user base other why now is fault counts

  -- ---- a new head

  permits_done : (plan : Plan) (d : Due) → IsPlan s moment d plan → DuePermits s (entry_of (reply.Updated plan.head) (objects_in plan) count) d
  unfolding entry_of
  permits_done plan Denies is = absurd is
  permits_done plan (Says r) is = absurd is
  permits_done plan (Stores x) is = absurd is
  permits_done plan (Installs other) is = (inl (record { reply = ap reply.Updated is.0; faults = refl }), is.1)
  permits_done plan (Merges user base other) is = inl (record { new = plan.head; says = record { reply = refl; faults = refl }; made = is })

  -- it may be answered so
  pub done_may : (plan : Plan) → IsPlan s moment (due s call) plan → MayAnswerSo s call moment (reply.Updated plan.head)
  unfolding entry_of
  done_may plan is = (objects_in plan, (permits_done plan (due s call) is, refl))

  done_apply : (plan : Plan) → is_kept state.kept pushed ≡ false
      → apply s (entry_of (reply.Updated plan.head) (objects_in plan) count) ≡ library (with_install plan.head pushed moment state) count (with_added objects (objects_in plan))
  unfolding entry_of
  done_apply plan new =
      ap (λ a. counted count (act_changes call.secret moment a (reply.Updated plan.head) (moved s (objects_in plan) []))) updates
      ∙ ap (λ b. counted count (record (moved s (objects_in plan) []) { state = if b then state else with_install plan.head pushed moment state })) new

  pub done_answers : (plan : Plan) → is_kept state.kept pushed ≡ false → IsPlan s moment (due s call) plan
      → AnswersBySome s call moment (reply.Updated plan.head) (Some (library (with_install plan.head pushed moment state) count (with_added objects (objects_in plan))))
  unfolding entry_of
  done_answers plan new is = (
    entry_of (reply.Updated plan.head) (objects_in plan) count ∷ [],
    record {
      state = library (with_install plan.head pushed moment state) count (with_added objects (objects_in plan));
      left = refl;
      step = record {
        permitted = record {
          permits = (permits_done plan (due s call) is, refl);
          changes = install_changes s (entry_of (reply.Updated plan.head) (objects_in plan) count) call pushed refl updates refl new;
        };
        is_step = refl;
        at = refl;
        answers = refl;
        state = done_apply plan new;
      };
    },
  )

  -- ---- a failure as objects are stored

  merge_faulty : (user base other : List ℕ) (why : Refusal) (now : ℕ) (added : List Stored) → IsToldRefusal objects why → Counts count now (reply.Refused why)
      → Partly s moment user base other added → MergeFails s (entry_of (reply.Refused why) added now) user base other why
  unfolding entry_of
  merge_faulty user base other refusal.Store now added told counts partly = (counts.1, inr partly)
  merge_faulty user base other refusal.NoMemory now added told counts partly = (counts, inr partly)
  merge_faulty user base other (refusal.Damaged want got) now added told counts partly = ((counts, damage_differs objects told.0 want got told.1), inr partly)
  merge_faulty user base other why now added told counts partly = absurd told

  partly_made : (user base other : List ℕ) (plan : Plan) (part rest : List Stored) → objects_in plan ≡ part ++ rest → Makes s moment user base other plan.head (objects_in plan)
      → Partly s moment user base other part
  partly_made user base other plan part rest is makes = record {
    new = plan.head;
    all = objects_in plan;
    would = makes;
    part = subst (λ all. AllByRecursion (Contains all) part) (sym is) (front_within part rest);
    once = front_distinct (keys_added part) (keys_added rest)
        (subst (IsDistinct (eq_by_cmp key_cmp)) (ap keys_added is ∙ keys_append part rest) makes.once);
  }

  -- of a plan that stores something
  some_stored : (plan : Plan) (x : Stored) (part rest : List Stored) (why : Refusal) (now : ℕ) → objects_in plan ≡ x ∷ part ++ rest → IsToldRefusal objects why → Counts count now (reply.Refused why)
      → (d : Due) → due s call ≡ d → IsPlan s moment d plan → DuePermits s (entry_of (reply.Refused why) (x ∷ part) now) d × (is_stored objects x.key ≡ false)
  unfolding entry_of
  some_stored plan x part rest why now is told counts Denies due_is planned = absurd planned
  some_stored plan x part rest why now is told counts (Says r) due_is planned = absurd planned
  some_stored plan x part rest why now is told counts (Stores y) due_is planned = absurd planned
  some_stored plan x part rest why now is told counts (Installs other) due_is planned = let none : [] ≡ x ∷ part ++ rest = sym planned.1 ∙ is in cc
  some_stored plan x part rest why now is told counts (Merges user base other) due_is planned = (
    inr (record { why = why; reply = refl; cause = merge_faulty user base other why now (x ∷ part) told counts (partly_made user base other plan (x ∷ part) rest is planned) }),
    (subst (AllByRecursion (λ (y : Stored). is_stored objects y.key ≡ false)) is planned.were_gone).0,
  )

  plan_not_denied : (plan : Plan) → IsPlan s moment (due s call) plan → due s call ≢ Denies
  plan_not_denied plan planned is = absurd (subst (λ d. IsPlan s moment d plan) is planned)

  pub stopped_answers : (plan : Plan) (part : List Stored) (why : Refusal) (now : ℕ) → IsPlan s moment (due s call) plan → IsFront part (objects_in plan)
      → IsToldRefusal objects why → Counts count now (reply.Refused why) → AnswersBySome s call moment (reply.Refused why) (Some (library state now (with_added objects part)))
  unfolding entry_of
  stopped_answers plan [] why now planned front told counts = fault_answers s call moment (plan_not_denied plan planned) (reply.Refused why) now told counts
  stopped_answers plan (x ∷ part) why now planned front told counts =
      let permits = some_stored plan x part front.0 why now front.1 told counts (due s call) refl planned in (
        entry_of (reply.Refused why) (x ∷ part) now ∷ [],
        record {
          state = library state now (with_added objects (x ∷ part));
          left = refl;
          step = record {
            permitted = record {
              permits = (permits.0, refl);
              changes = objects_change s (entry_of (reply.Refused why) (x ∷ part) now) x.key permits.1 (or_left (same_key x.key x.key) (is_in (keys_added part) x.key) (same_key-itself x.key)) refl;
            };
            is_step = refl;
            at = refl;
            answers = refl;
            state = refl;
          };
        },
      )
