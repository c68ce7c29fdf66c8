-- What an update that was answered says, where its commit wasn't kept. The key lemmas are taken_in, base_kept and
-- head_after.
use Rattle.std.proofs.Common.{◌≡◌, ◌⊎◌, inl, inr, ℕ, zero, suc, ◌+◌, nat_lt, Bool, true, false, cond, List, [], ◌∷◌, ◌++◌, Option, None, Some, Result, Ok, Err, refl, sym, subst, ◌∙◌, true≢false}
use Rattle.commit_objects.specs.declared.commit.Commit.{Commit}
use Rattle.library_state.specs.declared.call.Act.{Act}
use Rattle.library_state.specs.declared.call.Act.TheVariants as act
use Rattle.library_state.specs.declared.call.Call.{Call}
use Rattle.library_state.specs.declared.history.Install.{Install}
use Rattle.library_state.specs.declared.refusal.Refusal.TheVariants as refusal
use Rattle.library_state.specs.declared.reply.Reply.{Reply}
use Rattle.library_state.specs.declared.reply.Reply.TheVariants as reply
use Rattle.library_state.specs.declared.token.Token.{Token}
use Rattle.object_graph.specs.Objects.{same_id, commit_at}
use Rattle.object_graph.specs.Traversal.{walk_commit, IsComplete}
use Rattle.object_graph.specs.declared.fault.TreeFault.{TreeFault}
use Rattle.library_rules.specs.Answered.{Fails}
use Rattle.library_rules.specs.Calls.{Due, Denies, Says, Stores, Installs, Merges, token_of, token_due, update_due, base_due, complete_due, may, due}
use Rattle.library_rules.specs.Changes.{moved, with_install, act_changes, step_changes, apply}
use Rattle.library_rules.specs.History.{StepPermits, Permits}
use Rattle.library_rules.specs.LibraryState.{State, is_kept, head_of}
use Rattle.library_rules.specs.MergeBase.{Based, Base, NoBase, by_parent, by_commit, base_from, base_of}
use Rattle.library_rules.specs.MergeCommit.{Makes}
use Rattle.library_rules.specs.Permitted.{IsMerged, DuePermits}
use Rattle.library_rules.specs.declared.entry.Entry.{Entry}
use Rattle.library_rules.specs.declared.entry.Step.{Step}
use Rattle.library_rules.specs.declared.entry.Step.TheVariants as step
use Rattle.library_rules.proofs.CallsLemmas.{update_due-is}

-- ---- the merge base is kept

module _ (s : State) (base : List ℕ) where
  found_or : (b : Bool) (id : List ℕ) (other : Based) → is_kept s.state.kept id ≡ b → cond b (Base id) other ≡ Base base → (other ≡ Base base → is_kept s.state.kept base ≡ true) → is_kept s.state.kept base ≡ true
  found_or true id other is e next = let same : id ≡ base = cc in subst (λ i. is_kept s.state.kept i ≡ true) same is
  found_or false id other is e next = next e

  parent_found : (next : List ℕ → Based) (n : ℕ) (o : Option (List ℕ)) → ((parent : List ℕ) → next parent ≡ Base base → is_kept s.state.kept base ≡ true) → by_parent next n o ≡ Base base → is_kept s.state.kept base ≡ true
  parent_found next n None later e = cc
  parent_found next n (Some parent) later e = later parent e

  commit_found : (next : List ℕ → Based) (n : ℕ) (r : Result Commit TreeFault) → ((parent : List ℕ) → next parent ≡ Base base → is_kept s.state.kept base ≡ true) → by_commit next n r ≡ Base base → is_kept s.state.kept base ≡ true
  commit_found next n (Err fault) later e = cc
  commit_found next n (Ok commit) later e = parent_found next n commit.parent later e

  never : (n : ℕ) (parent : List ℕ) → NoBase (refusal.Unrelated n) ≡ Base base → is_kept s.state.kept base ≡ true
  never n parent e = cc

  from_kept : (left n : ℕ) (id : List ℕ) → base_from s left n id ≡ Base base → is_kept s.state.kept base ≡ true
  unfolding base_from
  from_kept zero n id e =
      found_or (is_kept s.state.kept id) id (by_commit (λ parent. NoBase (refusal.Unrelated n)) n (commit_at s.objects id)) refl e
      (commit_found (λ parent. NoBase (refusal.Unrelated n)) n (commit_at s.objects id) (never n))
  from_kept (suc left) n id e =
      found_or (is_kept s.state.kept id) id (by_commit (base_from s left (n + 1)) n (commit_at s.objects id)) refl e
      (commit_found (base_from s left (n + 1)) n (commit_at s.objects id) (from_kept left (n + 1)))

pub base_kept : (s : State) (pushed base : List ℕ) → base_of s pushed ≡ Base base → is_kept s.state.kept base ≡ true
base_kept s pushed base found = from_kept s base 128 0 pushed found

-- ---- what the answer tells of what was due

-- an answer with a new head comes of these alone
abbrev pub TellsHead : State → Entry → List ℕ → Due → Type 0
TellsHead s e new Denies = ⊥
TellsHead s e new (Says r) = r ≡ reply.Updated new
TellsHead s e new (Stores x) = ⊥
TellsHead s e new (Installs pushed) = (new ≡ pushed) × (e.added ≡ [])
TellsHead s e new (Merges user base pushed) = Makes s e.moment user base pushed new e.added

module _ (s : State) (e : Entry) (new : List ℕ) (answers : e.reply ≡ reply.Updated new) where
  no_fault : Fails s e → ⊥
  no_fault fails = let said = fails.reply in cc

  tells_made : (user base pushed : List ℕ) → IsMerged s e user base pushed → Makes s e.moment user base pushed new e.added
  tells_made user base pushed is =
      let said = is.says.reply in
      let same : is.new ≡ new = cc in
      subst (λ id. Makes s e.moment user base pushed id e.added) same is.made

  pub tells : (d : Due) → DuePermits s e d → TellsHead s e new d
  tells Denies p = elim p.0 [ inl plain ↦ let said = plain.reply in cc | inr plain ↦ let said = plain.reply in cc ]
  tells (Says r) p = elim p.0 as (λ _. r ≡ reply.Updated new) [ inl plain ↦ sym plain.reply ∙ answers | inr fails ↦ absurd (no_fault fails) ]
  tells (Stores x) p = elim p [ inl plain ↦ let said = plain.0.reply in cc | inr fails ↦ no_fault fails.0 ]
  tells (Installs pushed) p = elim p.0 as (λ _. (new ≡ pushed) × (e.added ≡ [])) [
    | inl plain ↦ let said = plain.reply in let same : new ≡ pushed = cc in (same, p.1)
    | inr fails ↦ absurd (no_fault fails)
  ]
  tells (Merges user base pushed) p = elim p as (λ _. Makes s e.moment user base pushed new e.added) [
    | inl is ↦ tells_made user base pushed is
    | inr other ↦ let said = other.reply in cc
  ]

-- ---- what was due

-- the head came as the pushed commit, or as a merge into it
pub record NewHead (s : State) (e : Entry) (pushed new : List ℕ) : Type 0 where
  pub base : List ℕ
  pub found : base_of s pushed ≡ Base base
  pub complete : IsComplete s.objects pushed
  pub came : ((same_id base (head_of s.state.kept) ≡ true) × (new ≡ pushed) × (e.added ≡ [])) ⊎ ((user : List ℕ) × Makes s e.moment user base pushed new e.added)

module _ (s : State) (e : Entry) (pushed new : List ℕ) (unknown : is_kept s.state.kept pushed ≡ false) where
  by_same : (user base : List ℕ) (b : Bool) → same_id base (head_of s.state.kept) ≡ b → base_of s pushed ≡ Base base → IsComplete s.objects pushed
      → TellsHead s e new (cond b (Installs pushed) (Merges user base pushed)) → NewHead s e pushed new
  by_same user base true is found complete told = record { base = base; found = found; complete = complete; came = inl (is, told.0, told.1) }
  by_same user base false is found complete told = record { base = base; found = found; complete = complete; came = inr (user, told) }

  by_fault : (user base : List ℕ) (f : Option TreeFault) → (walk_commit s.objects pushed).fault ≡ f → base_of s pushed ≡ Base base
      → TellsHead s e new (complete_due s user base pushed f) → NewHead s e pushed new
  by_fault user base (Some fault) is found told = cc
  by_fault user base None is found told = by_same user base (same_id base (head_of s.state.kept)) refl found is told

  by_base : (user : List ℕ) (d : Based) → base_of s pushed ≡ d → TellsHead s e new (base_due s user pushed d) → NewHead s e pushed new
  by_base user (NoBase why) is told = cc
  by_base user (Base base) is told = by_fault user base (walk_commit s.objects pushed).fault refl is told

  by_stale : (token : Token) (b : Bool) → TellsHead s e new (cond b (Says (reply.Refused (refusal.Stale token.last s.state.collection))) (base_due s token.user pushed (base_of s pushed))) → NewHead s e pushed new
  by_stale token true told = cc
  by_stale token false told = by_base token.user (base_of s pushed) refl told

  by_known : (token : Token) (b : Bool) → is_kept s.state.kept pushed ≡ b
      → TellsHead s e new (cond b (Says (reply.Updated (head_of s.state.kept))) (cond (nat_lt token.last s.state.collection) (Says (reply.Refused (refusal.Stale token.last s.state.collection))) (base_due s token.user pushed (base_of s pushed)))) → NewHead s e pushed new
  by_known token true is told = absurd (true≢false (sym is ∙ unknown))
  by_known token false is told = by_stale token (nat_lt token.last s.state.collection) told

  by_right : (token : Token) (b : Bool) → TellsHead s e new (cond b (update_due s token pushed) Denies) → NewHead s e pushed new
  by_right token true told = by_known token (is_kept s.state.kept pushed) refl (subst (TellsHead s e new) (update_due-is s token pushed) told)
  by_right token false told = absurd told

  by_token : (o : Option Token) → TellsHead s e new (token_due s (act.Update pushed) o) → NewHead s e pushed new
  by_token None told = absurd told
  by_token (Some token) told = by_right token (may token (act.Update pushed)) told

pub taken_in : (s : State) (e : Entry) (call : Call) (pushed new : List ℕ) → Permits s e → e.step ≡ step.Asked call → call.act ≡ act.Update pushed → e.reply ≡ reply.Updated new → is_kept s.state.kept pushed ≡ false
    → NewHead s e pushed new × (e.removed ≡ [])
taken_in s e call pushed new permits asked updates answers unknown =
    let asked_permits : StepPermits s e (step.Asked call) = subst (StepPermits s e) asked permits in
    let told = tells s e new answers (due s call) asked_permits.0 in
    let P : Act → Type 0 = λ a. TellsHead s e new (token_due s a (token_of s.state.tokens call.secret)) in
    (by_token s e pushed new unknown (token_of s.state.tokens call.secret) (subst P updates told), asked_permits.1)

-- ---- the head after it

pub head_push : (installs : List Install) (last : Install) → head_of (installs ++ last ∷ []) ≡ last.head
head_push [] last = refl
head_push (install ∷ []) last = refl
head_push (install ∷ next ∷ installs) last = head_push (next ∷ installs) last

installed_head : (secret : Option (List ℕ)) (moment : ℕ) (pushed new : List ℕ) (s : State) → is_kept s.state.kept pushed ≡ false → head_of (act_changes secret moment (act.Update pushed) (reply.Updated new) s).state.kept ≡ new
installed_head secret moment pushed new s unknown = by (is_kept s.state.kept pushed) unknown
  where
    by : (b : Bool) → b ≡ false → head_of (cond b s.state (with_install new pushed moment s.state)).kept ≡ new
    by true e = absurd (true≢false e)
    by false e = head_push s.state.kept (record { head = new; pushed = pushed; at = moment })

pub head_after : (s : State) (e : Entry) (call : Call) (pushed new : List ℕ) → e.step ≡ step.Asked call → call.act ≡ act.Update pushed → e.reply ≡ reply.Updated new → is_kept s.state.kept pushed ≡ false
    → head_of (apply s e).state.kept ≡ new
head_after s e call pushed new asked updates answers unknown =
    let m = moved s e.added e.removed in
    let P : Act → Type 0 = λ a. head_of (act_changes call.secret e.moment a (reply.Updated new) m).state.kept ≡ new in
    let Q : Reply → Type 0 = λ r. head_of (step_changes e.moment (step.Asked call) r m).state.kept ≡ new in
    let R : Step → Type 0 = λ st. head_of (step_changes e.moment st e.reply m).state.kept ≡ new in
    subst R (sym asked) (subst Q (sym answers) (subst P (sym updates) (installed_head call.secret e.moment pushed new m unknown)))
