-- Why an update is refused as stale or as incomplete. The key lemma is has_cause.
use Rattle.std.proofs.Common.{◌≡◌, ℕ, zero, suc, ◌+◌, ◌<◌, nat_lt, Bool, true, false, cond, is_some, List, Option, None, Some, Result, Ok, Err, refl, ap, subst, arith}
use Rattle.std.proofs.lemmas.Bool.Decides.{nat_tests}
use Rattle.std.specs.FinMap as map
use Rattle.commit_objects.specs.Commit.{commit_of}
use Rattle.commit_objects.specs.declared.commit.Commit.{Commit}
use Rattle.commit_objects.specs.declared.fault.BadCommit.{BadCommit}
use Rattle.library_state.specs.declared.call.Act.{Act}
use Rattle.library_state.specs.declared.call.Act.TheVariants as act
use Rattle.library_state.specs.declared.call.Call.{Call}
use Rattle.library_state.specs.declared.refusal.Refusal.{Refusal}
use Rattle.library_state.specs.declared.refusal.Refusal.TheVariants as refusal
use Rattle.library_state.specs.declared.reply.Reply.TheVariants as reply
use Rattle.library_state.specs.declared.token.Token.{Token}
use Rattle.object_graph.specs.Objects.{same_id, commit_key, commit_at, commit_in, of_name}
use Rattle.object_graph.specs.Traversal.{walk_commit}
use Rattle.object_graph.specs.declared.fault.TreeFault.{TreeFault}
use Rattle.object_graph.specs.declared.fault.TreeFault.TheVariants as fault
use Rattle.object_graph.proofs.StoredLemmas.{commit_tells}
use Rattle.library_rules.specs.Calls.{Denies, Says, Installs, Merges, token_of, may, update_due, base_due, complete_due, token_due, due}
use Rattle.library_rules.specs.History.{StepPermits, Permits}
use Rattle.library_rules.specs.LateUpdates.{IsLate, IsCauseOf}
use Rattle.library_rules.specs.LibraryState.{State, is_kept, head_of}
use Rattle.library_rules.specs.MergeBase.{Based, Base, NoBase, refusal_of, by_parent, by_commit, base_from, base_of}
use Rattle.library_rules.specs.declared.entry.Entry.{Entry}
use Rattle.library_rules.specs.declared.entry.Step.TheVariants as step
use Rattle.library_rules.proofs.UploadLateLemmas.{TellsLate, tells_late}
use Rattle.library_rules.proofs.CallsLemmas.{update_due-is}

module _ (s : State) (token : Token) where
  -- ---- no base

  base_cause : (why : Refusal) (b : Bool) (id : List ℕ) (other : Based) → cond b (Base id) other ≡ NoBase why → (other ≡ NoBase why → IsCauseOf s token why) → IsCauseOf s token why
  base_cause why true id other e next = cc
  base_cause why false id other e next = next e

  parent_cause : (why : Refusal) (next : List ℕ → Based) (n : ℕ) (o : Option (List ℕ)) → ((parent : List ℕ) → next parent ≡ NoBase why → IsCauseOf s token why) → by_parent next n o ≡ NoBase why → IsCauseOf s token why
  parent_cause why next n None later e = let same : refusal.Unrelated n ≡ why = cc in subst (IsCauseOf s token) same tt
  parent_cause why next n (Some parent) later e = later parent e

  named_cause : (why : Refusal) (next : List ℕ → Based) (n : ℕ) (id : List ℕ) (b : Bool) (commit : Commit) → ((parent : List ℕ) → next parent ≡ NoBase why → IsCauseOf s token why)
      → by_commit next n (cond b (Ok commit) (Err (fault.Unreadable (commit_key id)))) ≡ NoBase why → IsCauseOf s token why
  named_cause why next n id true commit later e = parent_cause why next n commit.parent later e
  named_cause why next n id false commit later e = let same : refusal.Unreadable (commit_key id) ≡ why = cc in subst (IsCauseOf s token) same tt

  read_cause : (why : Refusal) (next : List ℕ → Based) (n : ℕ) (id : List ℕ) (r : Result Commit BadCommit) → ((parent : List ℕ) → next parent ≡ NoBase why → IsCauseOf s token why)
      → by_commit next n (of_name id r) ≡ NoBase why → IsCauseOf s token why
  read_cause why next n id (Ok commit) later e = named_cause why next n id (same_id commit.id id) commit later e
  read_cause why next n id (Err bad) later e = let same : refusal.Unreadable (commit_key id) ≡ why = cc in subst (IsCauseOf s token) same tt

  commit_cause : (why : Refusal) (next : List ℕ → Based) (n : ℕ) (id : List ℕ) (o : Option (List ℕ)) → map.get s.objects (commit_key id) ≡ o
      → ((parent : List ℕ) → next parent ≡ NoBase why → IsCauseOf s token why) → by_commit next n (commit_in id o) ≡ NoBase why → IsCauseOf s token why
  commit_cause why next n id None is later e =
      let same : refusal.Incomplete (commit_key id) ≡ why = cc in
      subst (IsCauseOf s token) same (ap is_some is)
  commit_cause why next n id (Some bytes) is later e = read_cause why next n id (commit_of bytes) later e

  far : (why : Refusal) (n : ℕ) (parent : List ℕ) → NoBase (refusal.Unrelated n) ≡ NoBase why → IsCauseOf s token why
  far why n parent e = let same : refusal.Unrelated n ≡ why = cc in subst (IsCauseOf s token) same tt

  no_base_cause : (why : Refusal) (left n : ℕ) (id : List ℕ) → base_from s left n id ≡ NoBase why → IsCauseOf s token why
  unfolding base_from
  no_base_cause why zero n id e =
      base_cause why (is_kept s.state.kept id) id (by_commit (λ parent. NoBase (refusal.Unrelated n)) n (commit_at s.objects id)) e
      (commit_cause why (λ parent. NoBase (refusal.Unrelated n)) n id (map.get s.objects (commit_key id)) refl (far why n))
  no_base_cause why (suc left) n id e =
      base_cause why (is_kept s.state.kept id) id (by_commit (base_from s left (n + 1)) n (commit_at s.objects id)) e
      (commit_cause why (base_from s left (n + 1)) n id (map.get s.objects (commit_key id)) refl (no_base_cause why left (n + 1)))

  -- ---- a fault of the pushed commit

  fault_cause : (pushed : List ℕ) (f : TreeFault) → (walk_commit s.objects pushed).fault ≡ Some f → IsCauseOf s token (refusal_of f)
  fault_cause pushed (fault.Incomplete key) is = ap is_some (commit_tells s.objects pushed key is).absent
  fault_cause pushed (fault.Unreadable key) is = tt
  fault_cause pushed (fault.WrongKind id) is = tt
  fault_cause pushed (fault.WrongSize id) is = tt
  fault_cause pushed (fault.TooDeep path) is = tt
  fault_cause pushed (fault.TooMany paths) is = tt

  -- ---- what was due

  module _ (why : Refusal) (pushed : List ℕ) where
    by_same : (user base : List ℕ) (b : Bool) → TellsLate why (cond b (Installs pushed) (Merges user base pushed)) → IsCauseOf s token why
    by_same user base true told = absurd told
    by_same user base false told = absurd told

    by_fault : (user base : List ℕ) (f : Option TreeFault) → (walk_commit s.objects pushed).fault ≡ f → TellsLate why (complete_due s user base pushed f) → IsCauseOf s token why
    by_fault user base (Some f) is told = let same : refusal_of f ≡ why = cc in subst (IsCauseOf s token) same (fault_cause pushed f is)
    by_fault user base None is told = by_same user base (same_id base (head_of s.state.kept)) told

    by_base : (d : Based) → base_of s pushed ≡ d → TellsLate why (base_due s token.user pushed d) → IsCauseOf s token why
    by_base (NoBase reason) is told = let same : reason ≡ why = cc in subst (IsCauseOf s token) same (no_base_cause reason 128 0 pushed is)
    by_base (Base base) is told = by_fault token.user base (walk_commit s.objects pushed).fault refl told

    by_stale : (b : Bool) → nat_lt token.last s.state.collection ≡ b
        → TellsLate why (cond b (Says (reply.Refused (refusal.Stale token.last s.state.collection))) (base_due s token.user pushed (base_of s pushed))) → IsCauseOf s token why
    by_stale true is told =
        let same : refusal.Stale token.last s.state.collection ≡ why = cc in
        let below : token.last < s.state.collection = began token.last s.state.collection is in
        subst (IsCauseOf s token) same (refl, refl, below)
      where
        began : (m n : ℕ) → nat_lt m n ≡ true → m < n
        began m n e = grind (arith, nat_tests)
    by_stale false is told = by_base (base_of s pushed) refl told

    by_known : (b : Bool)
        → TellsLate why (cond b (Says (reply.Updated (head_of s.state.kept))) (cond (nat_lt token.last s.state.collection) (Says (reply.Refused (refusal.Stale token.last s.state.collection))) (base_due s token.user pushed (base_of s pushed)))) → IsCauseOf s token why
    by_known true told = cc
    by_known false told = by_stale (nat_lt token.last s.state.collection) refl told

    by_right : (b : Bool) → TellsLate why (cond b (update_due s token pushed) Denies) → IsCauseOf s token why
    by_right true told = by_known (is_kept s.state.kept pushed) (subst (TellsLate why) (update_due-is s token pushed) told)
    by_right false told = absurd told

pub has_cause : (s : State) (e : Entry) (call : Call) (token : Token) (pushed : List ℕ) → Permits s e → e.step ≡ step.Asked call → call.act ≡ act.Update pushed → token_of s.state.tokens call.secret ≡ Some token
    → (why : Refusal) → IsLate why → e.reply ≡ reply.Refused why → IsCauseOf s token why
has_cause s e call token pushed permits asked updates known why late answers =
    let asked_permits : StepPermits s e (step.Asked call) = subst (StepPermits s e) asked permits in
    let told = tells_late s e why late answers (due s call) asked_permits.0 in
    let P : Act → Type 0 = λ a. TellsLate why (token_due s a (token_of s.state.tokens call.secret)) in
    let Q : Option Token → Type 0 = λ o. TellsLate why (token_due s (act.Update pushed) o) in
    by_right s token why pushed (may token (act.Update pushed)) (subst Q known (subst P updates told))
