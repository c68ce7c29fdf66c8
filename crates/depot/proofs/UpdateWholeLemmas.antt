-- What an update is planned over is complete. The key lemmas are whole_due, plan_whole and plan_fault.
use Rattle.std.proofs.Common.{◌≡◌, ℕ, Bool, true, false, if◌then◌else◌, List, refl, sym, ◌∙◌, subst, Option, None, Some}
use Rattle.std.specs.Prelude.{⊤}
use Rattle.library_rules.specs.Calls.{Due, Denies, Says, Stores, Installs, Merges, act_by_objects, act_decided, base_due, by_state, complete_due, due, may, token_due, token_of}
use Rattle.library_rules.specs.LibraryState.{IsSound, State, head_of, is_kept}
use Rattle.library_rules.specs.MergeBase.{Based, Base, NoBase, base_of}
use Rattle.library_state.specs.declared.call.Act.TheVariants as act
use Rattle.library_state.specs.declared.call.Call.{Call}
use Rattle.library_state.specs.declared.refusal.Refusal.{Refusal}
use Rattle.library_state.specs.declared.refusal.Refusal.TheVariants as refusal
use Rattle.library_state.specs.declared.reply.Reply.{Reply}
use Rattle.library_state.specs.declared.token.Token.{Token}
use Rattle.object_graph.specs.Objects.{same_id}
use Rattle.object_graph.specs.Traversal.{IsComplete, walk_commit}
use Rattle.object_graph.specs.declared.fault.TreeFault.{TreeFault}
use Rattle.depot.specs.ObjectCalls.{IsToldRefusal}
use Rattle.depot.specs.Shields.{AreWhole}
use Rattle.depot.specs.UpdatePlan.{IsPlan, IsPlanFault, MergeRefuses}
use Rattle.depot.specs.declared.plan.Plan.{Plan}
use Rattle.library_rules.specs.Changes.{with_added}

module _ (s : State) (pushed : List ℕ) where
  -- a commit that is to be taken in is the pushed one, and complete
  abbrev pub WholeIn : Due → Type 0
  WholeIn Denies = ⊤
  WholeIn (Says r) = ⊤
  WholeIn (Stores x) = ⊤
  WholeIn (Installs id) = (id ≡ pushed) × IsComplete s.objects pushed
  WholeIn (Merges user base id) = (id ≡ pushed) × IsComplete s.objects pushed

  whole_by : (o : Option Reply) (d : Due) → WholeIn d → WholeIn (by_state o d)
  whole_by None d whole = whole
  whole_by (Some said) d whole = tt

  whole_complete : (user base : List ℕ) (o : Option TreeFault) → (walk_commit s.objects pushed).fault ≡ o → WholeIn (complete_due s user base pushed o)
  whole_complete user base (Some fault) is = tt
  whole_complete user base None is = by (same_id base (head_of s.state.kept))
    where
      by : (b : Bool) → WholeIn (if b then Installs pushed else Merges user base pushed)
      by true = (refl, is)
      by false = (refl, is)

  whole_based : (user : List ℕ) (b : Based) → WholeIn (base_due s user pushed b)
  whole_based user (NoBase why) = tt
  whole_based user (Base base) = whole_complete user base (walk_commit s.objects pushed).fault refl

  pub whole_due : (call : Call) → call.act ≡ act.Update pushed → WholeIn (due s call)
  whole_due call updates = by (token_of s.state.tokens call.secret)
    where
      at : (token : Token) → WholeIn (act_by_objects s token call.act)
      at token = subst (λ a. WholeIn (act_by_objects s token a)) (sym updates) (whole_based token.user (base_of s pushed))

      by_right : (token : Token) (b : Bool) → WholeIn (if b then by_state (act_decided s.state token call.act) (act_by_objects s token call.act) else Denies)
      by_right token true = whole_by (act_decided s.state token call.act) (act_by_objects s token call.act) (at token)
      by_right token false = tt

      by : (o : Option Token) → WholeIn (token_due s call.act o)
      by None = tt
      by (Some token) = by_right token (may token call.act)

  -- what a plan is made over is whole
  pub plan_whole : IsSound s → is_kept s.state.kept (head_of s.state.kept) ≡ true → (moment : ℕ) (d : Due) (plan : Plan) → IsPlan s moment d plan → WholeIn d → AreWhole s.objects (head_of s.state.kept) plan pushed
  plan_whole sound kept moment Denies plan is whole = absurd is
  plan_whole sound kept moment (Says r) plan is whole = absurd is
  plan_whole sound kept moment (Stores x) plan is whole = absurd is
  plan_whole sound kept moment (Installs id) plan (is_head, nothing) (is_pushed, complete) = record {
    older = sound.kept.complete (head_of s.state.kept) kept;
    head = subst (λ added. IsComplete (with_added s.objects added) plan.head) (sym nothing) (subst (IsComplete s.objects) (sym (is_head ∙ is_pushed)) complete);
    pushed_one = complete;
  }
  plan_whole sound kept moment (Merges user base id) plan makes (is_pushed, complete) = record {
    older = sound.kept.complete (head_of s.state.kept) kept;
    head = makes.complete;
    pushed_one = complete;
  }

  -- a fault of the store in the place of a plan
  merge_fault : (moment : ℕ) (user base id : List ℕ) (why : Refusal) → IsToldRefusal s.objects why → MergeRefuses s moment user base id why
  merge_fault moment user base id (refusal.TooLong path size) told = absurd told
  merge_fault moment user base id (refusal.TooMany paths) told = absurd told
  merge_fault moment user base id (refusal.Taken taken) told = absurd told
  merge_fault moment user base id other told = told

  pub plan_fault : (moment : ℕ) (d : Due) (plan : Plan) (why : Refusal) → IsPlan s moment d plan → IsToldRefusal s.objects why → IsPlanFault s moment d why
  plan_fault moment Denies plan why is told = absurd is
  plan_fault moment (Says r) plan why is told = absurd is
  plan_fault moment (Stores x) plan why is told = absurd is
  plan_fault moment (Installs id) plan why is told = told
  plan_fault moment (Merges user base id) plan why is told = merge_fault moment user base id why told
