-- A commit whose update was answered stays kept until a begin cuts it. The key lemmas are update_kept, kept_stays,
-- kept_along and again.
use Rattle.std.proofs.Common.{◌≡◌, ◌⊎◌, inl, inr, ℕ, zero, suc, ◌<◌, Bool, true, false, cond, List, [], ◌∷◌, ◌++◌, Option, Some, refl, sym, ap, subst, ◌∙◌, arith, true≢false}
use Rattle.library_state.specs.Retention.{kept_for}
use Rattle.library_state.specs.declared.call.Act.{Act}
use Rattle.library_state.specs.declared.call.Act.TheVariants as act
use Rattle.library_state.specs.declared.call.Call.{Call}
use Rattle.library_state.specs.declared.call.Op.TheVariants as op
use Rattle.library_state.specs.declared.history.Install.{Install}
use Rattle.library_state.specs.declared.reply.Reply.{Reply}
use Rattle.library_state.specs.declared.reply.Reply.TheVariants as reply
use Rattle.library_state.specs.declared.state.LibState.{LibState}
use Rattle.object_graph.specs.Objects.{same_id}
use Rattle.library_rules.specs.Answered.{Fails}
use Rattle.library_rules.specs.Calls.{Due, Denies, Says, token_due, act_due, may, due}
use Rattle.library_rules.specs.Changes.{moved, is_refused, with_install, head_in, act_changes, step_changes, counted, apply}
use Rattle.library_rules.specs.History.{StepPermits, Permits, after}
use Rattle.library_rules.specs.LibraryState.{State, is_kept, head_of}
use Rattle.library_rules.specs.Permitted.{DuePermits}
use Rattle.library_rules.specs.Retried.{entry_at, IsUpdate, MayUpdate, IsRetained, SaysHead}
use Rattle.library_rules.specs.declared.entry.Entry.{Entry}
use Rattle.library_rules.specs.declared.entry.Step.{Step}
use Rattle.library_rules.specs.declared.entry.Step.TheVariants as step
use Rattle.library_rules.proofs.MemberLemmas.{same_id-itself, kept_append}
use Rattle.library_rules.proofs.UnmovedLemmas.{moved_nothing}
use Rattle.library_rules.proofs.CallsLemmas.{update_due-is}
use Rattle.std.proofs.lemmas.Bool.{or_left, or_right}

-- ---- an update keeps its commit

either_kept : (b : Bool) (x y : State) (id : List ℕ) → is_kept x.state.kept id ≡ true → is_kept y.state.kept id ≡ true → is_kept (cond b x y).state.kept id ≡ true
either_kept true x y id p q = p
either_kept false x y id p q = q

either_next : (b : Bool) (x y : LibState) (id : List ℕ) → is_kept x.kept id ≡ true → is_kept y.kept id ≡ true → is_kept (cond b x y).kept id ≡ true
either_next true x y id p q = p
either_next false x y id p q = q

pushed_kept : (kept : List Install) (head pushed : List ℕ) (moment : ℕ) → is_kept (kept ++ record { head = head; pushed = pushed; at = moment } ∷ []) pushed ≡ true
pushed_kept kept head pushed moment =
    let install : Install = record { head = head; pushed = pushed; at = moment } in
    kept_append kept (install ∷ []) pushed
    ∙ or_right (is_kept kept pushed) (is_kept (install ∷ []) pushed) (or_right (same_id pushed head) _ (or_left (same_id pushed pushed) false (same_id-itself pushed)))

by_kept : (b : Bool) (x y : LibState) (id : List ℕ) → is_kept x.kept id ≡ b → is_kept y.kept id ≡ true → is_kept (cond b x y).kept id ≡ true
by_kept true x y id p q = p
by_kept false x y id p q = q

updated_kept : (secret : Option (List ℕ)) (moment : ℕ) (pushed : List ℕ) (r : Reply) (s : State) → is_kept (act_changes secret moment (act.Update pushed) r s).state.kept pushed ≡ true
updated_kept secret moment pushed r s = by_kept (is_kept s.state.kept pushed) s.state (with_install (head_in r pushed) pushed moment s.state) pushed refl (pushed_kept s.state.kept (head_in r pushed) pushed moment)

-- an update that was answered keeps its commit
pub update_kept : (s : State) (e : Entry) (pushed : List ℕ) → IsUpdate e pushed → is_kept (apply s e).state.kept pushed ≡ true
update_kept s e pushed is =
    let m = moved s e.added e.removed in
    let P : Act → Type 0 = λ a. is_kept (act_changes is.call.secret e.moment a (reply.Updated is.head) m).state.kept pushed ≡ true in
    let Q : Reply → Type 0 = λ r. is_kept (step_changes e.moment (step.Asked is.call) r m).state.kept pushed ≡ true in
    let R : Step → Type 0 = λ st. is_kept (step_changes e.moment st e.reply m).state.kept pushed ≡ true in
    let told = subst P (sym is.updates) (updated_kept is.call.secret e.moment pushed (reply.Updated is.head) m) in
    subst R (sym is.asked) (subst Q (sym is.answers) told)

-- ---- a kept commit stays kept, until a begin cuts it

act_kept : (secret : Option (List ℕ)) (moment : ℕ) (a : Act) (r : Reply) (s : State) (id : List ℕ) → is_kept s.state.kept id ≡ true → is_kept (act_changes secret moment a r s).state.kept id ≡ true
act_kept secret moment (act.Check op.Upload) r s id is = is
act_kept secret moment (act.Check op.Download) r s id is = is
act_kept secret moment act.Head r s id is = is
act_kept secret moment (act.Get key) r s id is = is
act_kept secret moment (act.Put key bytes) r s id is = is
act_kept secret moment (act.Missing k ids) r s id is = is
act_kept secret moment (act.Update pushed) r s id is =
    let next = with_install (head_in r pushed) pushed moment s.state in
    let install : Install = record { head = head_in r pushed; pushed = pushed; at = moment } in
    either_next (is_kept s.state.kept pushed) s.state next id is (kept_append s.state.kept (install ∷ []) id ∙ or_left (is_kept s.state.kept id) (is_kept (install ∷ []) id) is)
act_kept secret moment (act.Limit days) r s id is = is
act_kept secret moment (act.Ids server client) r s id is = is

step_kept : (moment : ℕ) (st : Step) (r : Reply) (s : State) (id : List ℕ) → is_kept s.state.kept id ≡ true
    → (st ≡ step.Began → is_kept (kept_for s.state.days moment s.state.kept) id ≡ true) → is_kept (step_changes moment st r s).state.kept id ≡ true
step_kept moment (step.Asked call) r s id is cut = either_kept (is_refused r) s (act_changes call.secret moment call.act r s) id is (act_kept call.secret moment call.act r s id is)
step_kept moment step.Began r s id is cut = cut refl
step_kept moment step.Swept r s id is cut = is
step_kept moment step.Ended r s id is cut = is

pub kept_stays : (s : State) (e : Entry) (id : List ℕ) → is_kept s.state.kept id ≡ true → (e.step ≡ step.Began → is_kept (kept_for s.state.days e.moment s.state.kept) id ≡ true) → is_kept (apply s e).state.kept id ≡ true
kept_stays s e id is cut = step_kept e.moment e.step e.reply (moved s e.added e.removed) id is cut

-- ---- along a history

first_left : (s : State) (e : Entry) (es : List Entry) (to : ℕ) (id : List ℕ) → IsRetained s (e ∷ es) 0 (suc to) id → IsRetained (apply s e) es 0 to id
first_left s e es to id retained = record { each = λ n f least below is began. retained.each (suc n) f (omega arith) (omega arith) is began }

pub kept_along : (s : State) (es : List Entry) (to : ℕ) (id : List ℕ) → is_kept s.state.kept id ≡ true → IsRetained s es 0 to id → is_kept (after s es to).state.kept id ≡ true
kept_along s es zero id is retained = is
kept_along s [] (suc to) id is retained = is
kept_along s (e ∷ es) (suc to) id is retained =
    let next = kept_stays s e id is (λ began. retained.each 0 e (omega arith) (omega arith) refl began) in
    kept_along (apply s e) es to id next (first_left s e es to id retained)

later_left : (s : State) (e : Entry) (es : List Entry) (from to : ℕ) (id : List ℕ) → IsRetained s (e ∷ es) (suc from) (suc to) id → IsRetained (apply s e) es from to id
later_left s e es from to id retained = record { each = λ n f least below is began. retained.each (suc n) f (omega arith) (omega arith) is began }

pub kept_since : (s : State) (es : List Entry) (n to : ℕ) (e : Entry) (pushed : List ℕ) → entry_at es n ≡ Some e → IsUpdate e pushed → n < to → IsRetained s es (suc n) to pushed → is_kept (after s es to).state.kept pushed ≡ true
kept_since s [] n to e pushed is update below retained = cc
kept_since s (f ∷ es) n zero e pushed is update below retained = absurd (omega arith)
kept_since s (f ∷ es) zero (suc to) e pushed is update below retained =
    let same : f ≡ e = cc in
    let here = update_kept s f pushed (subst (λ (x : Entry). IsUpdate x pushed) (sym same) update) in
    kept_along (apply s f) es to pushed here (later_left s f es 0 to pushed retained)
kept_since s (f ∷ es) (suc n) (suc to) e pushed is update below retained =
    kept_since (apply s f) es n to e pushed is update (omega arith) (later_left s f es (suc n) to pushed retained)

-- ---- the answer

kept_due : (b : Bool) (x y : Due) → b ≡ true → cond b x y ≡ x
kept_due true x y e = refl
kept_due false x y e = absurd (true≢false (sym e))

may_due : (s : State) (call : Call) (pushed : List ℕ) → MayUpdate s call pushed → is_kept s.state.kept pushed ≡ true → due s call ≡ Says (reply.Updated (head_of s.state.kept))
may_due s call pushed asks is =
    ap (token_due s call.act) asks.known
    ∙ kept_due (may asks.token call.act) (act_due s asks.token call.act) Denies asks.right
    ∙ ap (act_due s asks.token) asks.updates
    ∙ update_due-is s asks.token pushed
    ∙ kept_due (is_kept s.state.kept pushed) (Says (reply.Updated (head_of s.state.kept))) _ is

same_state : (secret : Option (List ℕ)) (moment : ℕ) (pushed : List ℕ) (r : Reply) (s : State) → is_kept s.state.kept pushed ≡ true → act_changes secret moment (act.Update pushed) r s ≡ s
same_state secret moment pushed r s is = by (is_kept s.state.kept pushed) is
  where
    by : (b : Bool) → b ≡ true → record s { state = cond b s.state (with_install (head_in r pushed) pushed moment s.state) } ≡ s
    by true e = refl
    by false e = absurd (true≢false (sym e))

either_same : (b : Bool) (x y : State) → y ≡ x → cond b x y ≡ x
either_same true x y e = refl
either_same false x y e = e

-- what is kept is known again: the answer is the head, and nothing changes but the count of faults
pub again : (s : State) (call : Call) (pushed : List ℕ) (e : Entry) → MayUpdate s call pushed → is_kept s.state.kept pushed ≡ true → e.step ≡ step.Asked call → Permits s e → SaysHead s e
again s call pushed e asks is asked permits =
    let asked_permits : StepPermits s e (step.Asked call) = subst (StepPermits s e) asked permits in
    let said : DuePermits s e (Says (reply.Updated (head_of s.state.kept))) = subst (DuePermits s e) (may_due s call pushed asks is) asked_permits.0 in
    let P : Act → Type 0 = λ a. act_changes call.secret e.moment a e.reply s ≡ s in
    let R : Step → Type 0 = λ st. step_changes e.moment st e.reply s ≡ s in
    let told = subst P (sym asks.updates) (same_state call.secret e.moment pushed e.reply s is) in
    let unchanged : step_changes e.moment e.step e.reply s ≡ s =
    subst R (sym asked) (either_same (is_refused e.reply) s (act_changes call.secret e.moment call.act e.reply s) told) in
    let unmoved : moved s e.added e.removed ≡ s =
    ap (moved s e.added) asked_permits.1 ∙ ap (λ added. moved s added []) said.1 ∙ moved_nothing s in
    record {
      answers = elim said.0 as (λ _. (e.reply ≡ reply.Updated (head_of s.state.kept)) ⊎ Fails s e) [ inl plain ↦ inl plain.reply | inr fails ↦ inr fails ];
      stays = ap (λ m. counted e.faults (step_changes e.moment e.step e.reply m)) unmoved ∙ ap (counted e.faults) unchanged;
    }
