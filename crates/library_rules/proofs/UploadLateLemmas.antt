-- An update all of whose keys are safe is refused neither as stale nor as incomplete. The key lemma is not_late.
use Rattle.std.proofs.Common.{◌≡◌, ◌≢◌, inl, inr, ℕ, zero, suc, ◌+◌, nat_lt, Bool, true, false, cond, is_some, List, [], ◌∷◌, ◌++◌, Option, None, Some, Result, Ok, Err, refl, sym, ap, subst, ◌∙◌, true≢false, arith}
use Rattle.std.proofs.lemmas.Bool.{and_parts}
use Rattle.std.proofs.lemmas.Bool.Decides.{nat_tests}
use Rattle.std.specs.FinMap as map
use Rattle.std.specs.List.{AllByRecursion}
use Rattle.ids.specs.declared.key.Key.{Key}
use Rattle.commit_objects.specs.Commit.{commit_of}
use Rattle.commit_objects.specs.declared.commit.Commit.{Commit}
use Rattle.commit_objects.specs.declared.fault.BadCommit.{BadCommit}
use Rattle.library_state.specs.declared.call.Act.{Act}
use Rattle.library_state.specs.declared.call.Act.TheVariants as act
use Rattle.library_state.specs.declared.call.Call.{Call}
use Rattle.library_state.specs.declared.refusal.Refusal.{Refusal}
use Rattle.library_state.specs.declared.refusal.Refusal.TheVariants as refusal
use Rattle.library_state.specs.declared.reply.Reply.TheVariants as reply
use Rattle.library_state.specs.declared.token.Token.{Token}
use Rattle.object_graph.specs.Objects.{same_id, commit_key, commit_at, commit_in, of_name}
use Rattle.object_graph.specs.Traversal.{walk_commit}
use Rattle.object_graph.specs.declared.fault.TreeFault.{TreeFault}
use Rattle.object_graph.specs.declared.fault.TreeFault.TheVariants as fault
use Rattle.object_graph.proofs.StoredLemmas.{IsTold, commit_tells}
use Rattle.library_rules.specs.Answered.{IsFault, Fails}
use Rattle.library_rules.specs.Calls.{Due, Denies, Says, Stores, Installs, Merges, token_of, may, update_due, base_due, complete_due, token_due, due}
use Rattle.library_rules.specs.History.{StepPermits, Permits}
use Rattle.library_rules.specs.LibraryState.{State, is_kept, is_stored, head_of}
use Rattle.library_rules.specs.MergeBase.{Based, Base, NoBase, refusal_of, by_parent, by_commit, parents_of, along, base_from, base_of, chain_from}
use Rattle.library_rules.specs.Permitted.{MergeFails, DuePermits}
use Rattle.library_rules.specs.Uploads.{is_shielded, is_safe, IsUploaded}
use Rattle.library_rules.specs.LateUpdates.{IsLate}
use Rattle.library_rules.specs.declared.entry.Entry.{Entry}
use Rattle.library_rules.specs.declared.entry.Step.TheVariants as step
use Rattle.library_rules.proofs.CallsLemmas.{update_due-is}

-- ---- such a refusal is no fault

not_fault : (s : State) (e : Entry) (why : Refusal) → IsLate why → IsFault s e why → ⊥
not_fault s e (refusal.Stale last now) late f = f
not_fault s e (refusal.Incomplete key) late f = f
not_fault s e other late f = absurd late

not_merge_fault : (s : State) (e : Entry) (user base pushed : List ℕ) (why : Refusal) → IsLate why → MergeFails s e user base pushed why → ⊥
not_merge_fault s e user base pushed (refusal.Stale last now) late f = f.0
not_merge_fault s e user base pushed (refusal.Incomplete key) late f = f.0
not_merge_fault s e user base pushed other late f = absurd late

-- it comes of what was due alone
abbrev pub TellsLate : Refusal → Due → Type 0
TellsLate why Denies = ⊥
TellsLate why (Says r) = r ≡ reply.Refused why
TellsLate why (Stores x) = ⊥
TellsLate why (Installs pushed) = ⊥
TellsLate why (Merges user base pushed) = ⊥

module _ (s : State) (e : Entry) (why : Refusal) (late : IsLate why) (answers : e.reply ≡ reply.Refused why) where
  no_fault : Fails s e → ⊥
  no_fault fails =
      let said = fails.reply in
      let same : fails.why ≡ why = cc in
      not_fault s e why late (subst (IsFault s e) same fails.fault)

  not_denied : (r : Refusal) → (IsLate r → ⊥) → e.reply ≡ reply.Refused r → ⊥
  not_denied r other said = let same : why ≡ r = cc in other (subst IsLate same late)

  pub tells_late : (d : Due) → DuePermits s e d → TellsLate why d
  tells_late Denies p = elim p.0 [ inl plain ↦ not_denied refusal.Denied (λ l. l) plain.reply | inr plain ↦ not_denied refusal.NoMemory (λ l. l) plain.reply ]
  tells_late (Says r) p = elim p.0 as (λ _. r ≡ reply.Refused why) [ inl plain ↦ sym plain.reply ∙ answers | inr fails ↦ absurd (no_fault fails) ]
  tells_late (Stores x) p = elim p [ inl plain ↦ let said = plain.0.reply in cc | inr fails ↦ no_fault fails.0 ]
  tells_late (Installs pushed) p = elim p.0 [ inl plain ↦ let said = plain.reply in cc | inr fails ↦ no_fault fails ]
  tells_late (Merges user base pushed) p = elim p [
    | inl is ↦ let said = is.says.reply in cc
    | inr other ↦
        let said = other.reply in
        let same : other.why ≡ why = cc in
        not_merge_fault s e user base pushed why late (subst (MergeFails s e user base pushed) same other.cause)
  ]

-- ---- nothing is missing on the way

module _ (s : State) where
  safe_stored : (key : Key) → is_safe s key ≡ true → is_stored s.objects key ≡ true
  safe_stored key safe = (and_parts (is_stored s.objects key) (is_shielded s s.running key) safe).0

  -- why there is no base, where each commit on the way is stored
  base_or : (why : Refusal) (b : Bool) (id : List ℕ) (other : Based) → cond b (Base id) other ≡ NoBase why → (b ≡ false → other ≡ NoBase why → IsLate why → ⊥) → IsLate why → ⊥
  base_or why true id other e next late = cc
  base_or why false id other e next late = next refl e late

  parent_late : (why : Refusal) (next : List ℕ → Based) (n : ℕ) (o : Option (List ℕ)) → ((parent : List ℕ) → o ≡ Some parent → next parent ≡ NoBase why → IsLate why → ⊥) → by_parent next n o ≡ NoBase why → IsLate why → ⊥
  parent_late why next n None later e late = let same : refusal.Unrelated n ≡ why = cc in subst IsLate (sym same) late
  parent_late why next n (Some parent) later e late = later parent refl e late

  -- a stored commit is read, or is unreadable
  named_late : (why : Refusal) (next : List ℕ → Based) (n : ℕ) (id : List ℕ) (b : Bool) (commit : Commit)
      → ((parent : List ℕ) → parents_of (cond b (Ok commit) (Err (fault.Unreadable (commit_key id)))) ≡ Some parent → next parent ≡ NoBase why → IsLate why → ⊥)
      → by_commit next n (cond b (Ok commit) (Err (fault.Unreadable (commit_key id)))) ≡ NoBase why → IsLate why → ⊥
  named_late why next n id true commit later e late = parent_late why next n commit.parent later e late
  named_late why next n id false commit later e late = let same : refusal.Unreadable (commit_key id) ≡ why = cc in subst IsLate (sym same) late

  read_late : (why : Refusal) (next : List ℕ → Based) (n : ℕ) (id : List ℕ) (r : Result Commit BadCommit)
      → ((parent : List ℕ) → parents_of (of_name id r) ≡ Some parent → next parent ≡ NoBase why → IsLate why → ⊥)
      → by_commit next n (of_name id r) ≡ NoBase why → IsLate why → ⊥
  read_late why next n id (Ok commit) later e late = named_late why next n id (same_id commit.id id) commit later e late
  read_late why next n id (Err bad) later e late = let same : refusal.Unreadable (commit_key id) ≡ why = cc in subst IsLate (sym same) late

  commit_late : (why : Refusal) (next : List ℕ → Based) (n : ℕ) (id : List ℕ) (o : Option (List ℕ)) → is_some o ≡ true
      → ((parent : List ℕ) → parents_of (commit_in id o) ≡ Some parent → next parent ≡ NoBase why → IsLate why → ⊥)
      → by_commit next n (commit_in id o) ≡ NoBase why → IsLate why → ⊥
  commit_late why next n id None stored later e late = cc
  commit_late why next n id (Some bytes) stored later e late = read_late why next n id (commit_of bytes) later e late

  abbrev SafeIds : List (List ℕ) → Type 0
  SafeIds ids = AllByRecursion (λ id. is_safe s (commit_key id) ≡ true) ids

  base_fine : (why : Refusal) (left n : ℕ) (id : List ℕ) → SafeIds (chain_from s left id) → base_from s left n id ≡ NoBase why → IsLate why → ⊥
  unfolding base_from chain_from
  base_fine why zero n id safe e late =
      base_or why (is_kept s.state.kept id) id (by_commit (λ parent. NoBase (refusal.Unrelated n)) n (commit_at s.objects id)) e
      (λ unknown other more.
      let P : Bool → Type 0 = λ b. SafeIds (cond b [] (id ∷ [])) in
      let here = subst P unknown safe in
      commit_late why (λ parent. NoBase (refusal.Unrelated n)) n id (map.get s.objects (commit_key id)) (safe_stored (commit_key id) here.0)
      (λ parent is far l. let same : refusal.Unrelated n ≡ why = cc in subst IsLate (sym same) l) other more) late
  base_fine why (suc left) n id safe e late =
      base_or why (is_kept s.state.kept id) id (by_commit (base_from s left (n + 1)) n (commit_at s.objects id)) e
      (λ unknown other more.
      let P : Bool → Type 0 = λ b. SafeIds (cond b [] (id ∷ along (chain_from s left) (parents_of (commit_at s.objects id)))) in
      let here = subst P unknown safe in
      commit_late why (base_from s left (n + 1)) n id (map.get s.objects (commit_key id)) (safe_stored (commit_key id) here.0)
      (λ parent is far l.
      let Q : Option (List ℕ) → Type 0 = λ o. SafeIds (along (chain_from s left) o) in
      base_fine why left (n + 1) parent (subst Q is here.1) far l) other more) late

  -- a traversal names as incomplete only what it visited, and what isn't stored
  last_safe : (before : List Key) (key : Key) → AllByRecursion (λ k. is_safe s k ≡ true) (before ++ key ∷ []) → is_safe s key ≡ true
  last_safe [] key safe = safe.0
  last_safe (k ∷ before) key safe = last_safe before key safe.1

  fault_fine : (pushed : List ℕ) (f : TreeFault) → (walk_commit s.objects pushed).fault ≡ Some f → IsUploaded s pushed → IsLate (refusal_of f) → ⊥
  fault_fine pushed (fault.Incomplete key) is uploaded late =
      let told : IsTold s.objects (walk_commit s.objects pushed) key = commit_tells s.objects pushed key is in
      let P : List Key → Type 0 = λ keys. AllByRecursion (λ k. is_safe s k ≡ true) keys in
      let safe = last_safe told.before key (subst P told.last uploaded.visited) in
      let stored = safe_stored key safe in
      true≢false (sym stored ∙ ap is_some told.absent)
  fault_fine pushed other is uploaded late = late

-- ---- what was due

module _ (s : State) (why : Refusal) (late : IsLate why) (pushed : List ℕ) (uploaded : IsUploaded s pushed) where
  by_same : (user base : List ℕ) (b : Bool) → TellsLate why (cond b (Installs pushed) (Merges user base pushed)) → ⊥
  by_same user base true told = told
  by_same user base false told = told

  by_fault : (user base : List ℕ) (f : Option TreeFault) → (walk_commit s.objects pushed).fault ≡ f → TellsLate why (complete_due s user base pushed f) → ⊥
  by_fault user base (Some f) is told = let same : refusal_of f ≡ why = cc in fault_fine s pushed f is uploaded (subst IsLate (sym same) late)
  by_fault user base None is told = by_same user base (same_id base (head_of s.state.kept)) told

  by_base : (user : List ℕ) (d : Based) → base_of s pushed ≡ d → TellsLate why (base_due s user pushed d) → ⊥
  by_base user (NoBase reason) is told = let same : reason ≡ why = cc in base_fine s reason 128 0 pushed uploaded.chain is (subst IsLate (sym same) late)
  by_base user (Base base) is told = by_fault user base (walk_commit s.objects pushed).fault refl told

  by_stale : (token : Token) (b : Bool) → nat_lt token.last s.state.collection ≡ b → token.last ≡ s.state.collection
      → TellsLate why (cond b (Says (reply.Refused (refusal.Stale token.last s.state.collection))) (base_due s token.user pushed (base_of s pushed))) → ⊥
  by_stale token true is seen told = never token.last s.state.collection seen is
    where
      never : (m n : ℕ) → m ≡ n → nat_lt m n ≡ true → ⊥
      never m n same below = grind (arith, nat_tests)
  by_stale token false is seen told = by_base token.user (base_of s pushed) refl told

  by_known : (token : Token) (b : Bool) → token.last ≡ s.state.collection
      → TellsLate why (cond b (Says (reply.Updated (head_of s.state.kept))) (cond (nat_lt token.last s.state.collection) (Says (reply.Refused (refusal.Stale token.last s.state.collection))) (base_due s token.user pushed (base_of s pushed)))) → ⊥
  by_known token true seen told = cc
  by_known token false seen told = by_stale token (nat_lt token.last s.state.collection) refl seen told

  by_right : (token : Token) (b : Bool) → token.last ≡ s.state.collection → TellsLate why (cond b (update_due s token pushed) Denies) → ⊥
  by_right token true seen told = by_known token (is_kept s.state.kept pushed) seen (subst (TellsLate why) (update_due-is s token pushed) told)
  by_right token false seen told = told

-- the update isn't refused as stale, and not as incomplete
pub not_late : (s : State) (e : Entry) (call : Call) (token : Token) (pushed : List ℕ) → Permits s e → e.step ≡ step.Asked call → call.act ≡ act.Update pushed → token_of s.state.tokens call.secret ≡ Some token → token.last ≡ s.state.collection
    → IsUploaded s pushed → (why : Refusal) → IsLate why → e.reply ≢ reply.Refused why
not_late s e call token pushed permits asked updates known seen uploaded why late answers =
    let asked_permits : StepPermits s e (step.Asked call) = subst (StepPermits s e) asked permits in
    let told = tells_late s e why late answers (due s call) asked_permits.0 in
    let P : Act → Type 0 = λ a. TellsLate why (token_due s a (token_of s.state.tokens call.secret)) in
    let Q : Option Token → Type 0 = λ o. TellsLate why (token_due s (act.Update pushed) o) in
    by_right s why late pushed uploaded token (may token (act.Update pushed)) seen (subst Q known (subst P updates told))
