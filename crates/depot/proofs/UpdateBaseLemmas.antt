-- The search for a merge base, commit by commit, and calls that read before an update is refused. The key lemmas are
-- base_here, base_on, base_ends, finds_fault, complete_refused and reads_only_then.
use Rattle.std.proofs.Common.{◌≡◌, ◌⊎◌, inl, inr, ℕ, zero, suc, ◌+◌, ◌-◌, ◌<◌, ◌≤◌, Bool, true, false, not, ◌||◌, cond, List, [], ◌∷◌, Option, None, Some, Result, Ok, Err, refl, sym, ap, ◌∙◌, subst, arith}
use Rattle.std.specs.Bool.{MatchBool}
use Rattle.std.specs.Prelude.{⊤}
use Rattle.std.specs.List.{list_any}
use Rattle.ids.specs.FaultCount.{FailsBy, Rose}
use Rattle.ids.specs.Key.{Objects}
use Rattle.commit_objects.specs.declared.commit.Commit.{Commit}
use Rattle.library_rules.specs.Calls.{Installs, Merges, complete_due}
use Rattle.library_rules.specs.LibraryState.{State, head_of, is_kept, kept_commits}
use Rattle.library_rules.specs.MergeBase.{Based, Base, NoBase, base_from, base_of, by_commit, by_parent, refusal_of}
use Rattle.library_state.specs.declared.history.Install.{Install}
use Rattle.library_state.specs.declared.refusal.Refusal.{Refusal}
use Rattle.library_state.specs.declared.refusal.Refusal.TheVariants as refusal
use Rattle.library_state.specs.declared.reply.Reply.TheVariants as reply
use Rattle.object_graph.specs.Objects.{commit_at, same_id}
use Rattle.object_graph.specs.declared.fault.TreeFault.{TreeFault}
use Rattle.object_graph.specs.declared.fault.TreeFault.TheVariants as tree
use Rattle.object_store.specs.Shelf.{Contents}
use Rattle.object_store.specs.StoreView.{StoreView}
use Rattle.object_store.specs.declared.shelf.Slot.{Slot}
use Rattle.tree_walk.specs.Reading.{AnswersRead, IsDue, Reads}
use Rattle.tree_walk.specs.declared.fault.WalkFault.{WalkFault}
use Rattle.depot.specs.ObjectCalls.{IsToldDamageOf, IsToldRefusal, is_of_store}
use Rattle.depot.specs.UpdateBase.{FindsSo, HasParent, LooksSo, ReadsOnly}
use Rattle.depot.specs.UpdatePlan.{IsPlanFault, MergeRefuses}
use Rattle.depot.specs.Refusals.{walk_refusal}
use Rattle.depot.specs.declared.update_base.Look.{Look}
use Rattle.tree_walk.proofs.ReadsLemmas.{keeps_then}
use Rattle.depot.proofs.RefusalsLemmas.{counted_alike, none_due, one_due, told_damage}

-- ---- the search

-- what was seen of a commit
pub at_look : (objects : Objects) (kept : List Install) (id : List ℕ) (seen at : Look) → seen ≡ at → LooksSo objects kept id (Ok seen) → LooksSo objects kept id (Ok at)
at_look objects kept id seen at is looks = subst (λ l. LooksSo objects kept id (Ok l)) is looks

pub not_kept : (s : State) (kept : List Install) (id : List ℕ) → s.state.kept ≡ kept → is_kept kept id ≡ false → is_kept s.state.kept id ≡ false
not_kept s kept id same not = ap (λ k. is_kept k id) same ∙ not

-- both commits of each head update
or_group : (a b c : Bool) → ((a || b) || c) ≡ (a || (b || c))
or_group true b c = refl
or_group false b c = refl

pub any_commit : (id : List ℕ) (kept : List Install) → list_any (λ (i : Install). same_id id i.head || same_id id i.pushed) kept ≡ is_kept kept id
any_commit id [] = refl
any_commit id (i ∷ kept) =
    ap (λ rest. (same_id id i.head || same_id id i.pushed) || rest) (any_commit id kept)
    ∙ or_group (same_id id i.head) (same_id id i.pushed) (list_any (same_id id) (kept_commits kept))

module _ (s : State) where
  pub base_here : (left n : ℕ) (id : List ℕ) → is_kept s.state.kept id ≡ true → base_from s left n id ≡ Base id
  unfolding base_from
  base_here zero n id is = ap (λ b. cond b (Base id) (by_commit (λ parent. NoBase (refusal.Unrelated n)) n (commit_at s.objects id))) is
  base_here (suc left) n id is = ap (λ b. cond b (Base id) (by_commit (base_from s left (n + 1)) n (commit_at s.objects id))) is

  by_below : (next : List ℕ → Based) (n : ℕ) (id : List ℕ) (parent : Option (List ℕ)) → is_kept s.state.kept id ≡ false → HasParent s.objects id parent
      → cond (is_kept s.state.kept id) (Base id) (by_commit next n (commit_at s.objects id)) ≡ by_parent next n parent
  by_below next n id parent not below =
      ap (λ b. cond b (Base id) (by_commit next n (commit_at s.objects id))) not
      ∙ ap (by_commit next n) below.reads ∙ ap (by_parent next n) below.is

  -- on to the parent
  base_next : (left n : ℕ) (id parent : List ℕ) → is_kept s.state.kept id ≡ false → HasParent s.objects id (Some parent) → base_from s (suc left) n id ≡ base_from s left (n + 1) parent
  unfolding base_from
  base_next left n id parent not below = by_below (base_from s left (n + 1)) n id (Some parent) not below

  pub base_on : (n : ℕ) (id parent : List ℕ) → n < 128 → is_kept s.state.kept id ≡ false → HasParent s.objects id (Some parent)
      → base_from s (128 - n) n id ≡ base_from s (128 - (n + 1)) (n + 1) parent
  base_on n id parent below not has =
      let more : 128 - n ≡ suc (128 - (n + 1)) = omega arith in
      ap (λ left. base_from s left n id) more ∙ base_next (128 - (n + 1)) n id parent not has

  -- a commit without parents
  pub base_ends : (left n : ℕ) (id : List ℕ) → is_kept s.state.kept id ≡ false → HasParent s.objects id None → base_from s left n id ≡ NoBase (refusal.Unrelated n)
  unfolding base_from
  base_ends zero n id not below = by_below (λ parent. NoBase (refusal.Unrelated n)) n id None not below
  base_ends (suc left) n id not below = by_below (base_from s left (n + 1)) n id None not below

  -- no step is left
  pub base_over : (n : ℕ) (id parent : List ℕ) → is_kept s.state.kept id ≡ false → HasParent s.objects id (Some parent) → base_from s 0 n id ≡ NoBase (refusal.Unrelated n)
  unfolding base_from
  base_over n id parent not below = by_below (λ parent. NoBase (refusal.Unrelated n)) n id (Some parent) not below

  by_fault : (next : List ℕ → Based) (n : ℕ) (id : List ℕ) (fault : TreeFault) → is_kept s.state.kept id ≡ false → commit_at s.objects id ≡ Err fault
      → cond (is_kept s.state.kept id) (Base id) (by_commit next n (commit_at s.objects id)) ≡ NoBase (refusal_of fault)
  by_fault next n id fault not is =
      ap (λ b. cond b (Base id) (by_commit next n (commit_at s.objects id))) not ∙ ap (by_commit next n) is

  base_unread : (left n : ℕ) (id : List ℕ) (fault : TreeFault) → is_kept s.state.kept id ≡ false → commit_at s.objects id ≡ Err fault → base_from s left n id ≡ NoBase (refusal_of fault)
  unfolding base_from
  base_unread zero n id fault not is = by_fault (λ parent. NoBase (refusal.Unrelated n)) n id fault not is
  base_unread (suc left) n id fault not is = by_fault (base_from s left (n + 1)) n id fault not is

  -- a commit that can't be read
  pub finds_fault : (left n : ℕ) (id : List ℕ) (fault : WalkFault) → is_kept s.state.kept id ≡ false → AnswersRead {T = Commit} s.objects (commit_at s.objects id) (Err fault)
      → FindsSo s.objects (base_from s left n id) (Err fault)
  finds_fault left n id fault not read = by (commit_at s.objects id) refl read
    where
      by : (r : Result Commit TreeFault) → commit_at s.objects id ≡ r → AnswersRead {T = Commit} s.objects r (Err fault) → FindsSo s.objects (base_from s left n id) (Err fault)
      by (Ok commit) is due = inr (none_due s.objects fault due)
      by (Err wrong) is due =
          elim (one_due s.objects wrong fault due) [
            | inl same ↦ inl (base_unread left n id wrong not is ∙ ap NoBase same)
            | inr told ↦ inr told
          ]

pub finds_moved : (objects : Objects) (one other : Based) (fault : WalkFault) → one ≡ other → FindsSo objects other (Err fault) → FindsSo objects one (Err fault)
finds_moved objects one other fault same finds = subst (λ based. FindsSo objects based (Err fault)) (sym same) finds

-- no merge base isn't for damage
abbrev NotDamaged : Objects → Based → Type 0
NotDamaged objects (Base id) = ⊤
NotDamaged objects (NoBase why) = IsToldDamageOf objects why

tree_not_damaged : (objects : Objects) (fault : TreeFault) → IsToldDamageOf objects (refusal_of fault)
tree_not_damaged objects (tree.Incomplete key) = tt
tree_not_damaged objects other = tt

module _ (s : State) where
  if_not_damaged : (b : Bool) (id : List ℕ) (other : Based) → NotDamaged s.objects other → NotDamaged s.objects (cond b (Base id) other)
  if_not_damaged true id other is = tt
  if_not_damaged false id other is = is

  parent_not_damaged : (next : List ℕ → Based) (n : ℕ) (o : Option (List ℕ)) → ((p : List ℕ) → NotDamaged s.objects (next p)) → NotDamaged s.objects (by_parent next n o)
  parent_not_damaged next n None each = tt
  parent_not_damaged next n (Some p) each = each p

  commit_not_damaged : (next : List ℕ → Based) (n : ℕ) (r : Result Commit TreeFault) → ((p : List ℕ) → NotDamaged s.objects (next p)) → NotDamaged s.objects (by_commit next n r)
  commit_not_damaged next n (Err fault) each = tree_not_damaged s.objects fault
  commit_not_damaged next n (Ok commit) each = parent_not_damaged next n commit.parent each

  base_not_damaged : (left n : ℕ) (id : List ℕ) → NotDamaged s.objects (base_from s left n id)
  unfolding base_from
  base_not_damaged zero n id =
      if_not_damaged (is_kept s.state.kept id) id (by_commit (λ parent. NoBase (refusal.Unrelated n)) n (commit_at s.objects id))
      (commit_not_damaged (λ parent. NoBase (refusal.Unrelated n)) n (commit_at s.objects id) (λ p. tt))
  base_not_damaged (suc left) n id =
      if_not_damaged (is_kept s.state.kept id) id (by_commit (base_from s left (n + 1)) n (commit_at s.objects id))
      (commit_not_damaged (base_from s left (n + 1)) n (commit_at s.objects id) (base_not_damaged left (n + 1)))

pub fault_not_damaged : (s : State) (pushed : List ℕ) (why : Refusal) → (base_of s pushed ≡ NoBase why) ⊎ IsToldRefusal s.objects why → IsToldDamageOf s.objects why
fault_not_damaged s pushed why (inl none) = subst (NotDamaged s.objects) none (base_not_damaged s 128 0 pushed)
fault_not_damaged s pushed why (inr told) = told_damage s.objects why told

-- ---- what is due then

module _ (s : State) (moment : ℕ) (user : List ℕ) where
  -- a fault of the store refuses a merge too
  pub told_merge : (base pushed : List ℕ) (why : Refusal) → IsToldRefusal s.objects why → MergeRefuses s moment user base pushed why
  told_merge base pushed (refusal.TooLong path size) is = absurd is
  told_merge base pushed (refusal.TooMany paths) is = absurd is
  told_merge base pushed (refusal.Taken id) is = absurd is
  told_merge base pushed other is = is

  told_complete : (base pushed : List ℕ) (b : Bool) (why : Refusal) → IsToldRefusal s.objects why
      → IsPlanFault s moment (cond b (Installs pushed) (Merges user base pushed)) why
  told_complete base pushed true why is = is
  told_complete base pushed false why is = told_merge base pushed why is

  -- a traversal of the pushed commit that has a fault
  pub complete_refused : (base pushed : List ℕ) (o : Option TreeFault) (fault : WalkFault) → IsDue s.objects o fault
      → IsPlanFault s moment (complete_due s user base pushed o) (walk_refusal fault)
  complete_refused base pushed None fault is = told_complete base pushed (same_id base (head_of s.state.kept)) (walk_refusal fault) (none_due s.objects fault is)
  complete_refused base pushed (Some due) fault is = elim (one_due s.objects due fault is) [ inl same ↦ inl (ap reply.Refused same) | inr told ↦ inr told ]

  -- a fault of the store, where there is a merge base
  pub told_after_base : (pushed base : List ℕ) (o : Option TreeFault) (why : Refusal) → IsToldRefusal s.objects why → IsPlanFault s moment (complete_due s user base pushed o) why
  told_after_base pushed base None why is = told_complete base pushed (same_id base (head_of s.state.kept)) why is
  told_after_base pushed base (Some due) why is = inr is

-- ---- calls that read, one after another

module _ {S : Type 0} {contents : S → Option Contents} {may_give : S → Slot → Option (List ℕ) → Type 0} {texts faults : S → ℕ} where
  -- a reading that failed, as a refusal
  pub reads_refused : {T U : Type 0} {old new : StoreView S} (fault : WalkFault) → Reads {T = T} contents may_give texts faults old new (Err fault)
      → ReadsOnly {T = U} contents may_give texts faults old new (Err (walk_refusal fault))
  reads_refused {old = old} {new = new} fault reads = record {
    kept = reads.kept;
    gives = reads.shelf.gives;
    written = reads.shelf.written;
    count = subst (λ b. MatchBool b ((faults old.shelf ≤ faults new.shelf) × Rose (faults old.shelf) (faults new.shelf)) (faults new.shelf ≡ faults old.shelf))
        (counted_alike fault) reads.count;
  }

  -- a fault is one of any reading
  pub reads_fails : {T U : Type 0} {old new : StoreView S} (fault : WalkFault) → Reads {T = T} contents may_give texts faults old new (Err fault)
      → Reads {T = U} contents may_give texts faults old new (Err fault)
  reads_fails fault reads = record { kept = reads.kept; shelf = reads.shelf; cause = reads.cause; count = reads.count }

  -- an answer after a reading that gave something
  pub reads_then_says : {T U : Type 0} {old new : StoreView S} (value : T) (result : Result U Refusal) → Reads contents may_give texts faults old new (Ok value)
      → FailsBy is_of_store (faults old.shelf) (faults old.shelf) result → ReadsOnly contents may_give texts faults old new result
  reads_then_says {old = old} value result reads count = record {
    kept = reads.kept;
    gives = reads.shelf.gives;
    written = reads.shelf.written;
    count = subst (λ n. FailsBy is_of_store (faults old.shelf) n result) (sym reads.count) count;
  }

  -- a reading that gave something, and then another call
  pub reads_only_then : {T U : Type 0} {old mid new : StoreView S} (value : T) (result : Result U Refusal)
      → Reads contents may_give texts faults old mid (Ok value) → ReadsOnly contents may_give texts faults mid new result → ReadsOnly contents may_give texts faults old new result
  reads_only_then {new = new} value result first second = record {
    kept = keeps_then first.kept second.kept;
    gives = λ slot given is. first.shelf.gives slot given (second.gives slot given is);
    written = second.written ∙ first.shelf.written;
    count = subst (λ n. FailsBy is_of_store n (faults new.shelf) result) first.count second.count;
  }
