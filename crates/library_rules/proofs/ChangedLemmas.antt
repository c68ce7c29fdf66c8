-- Steps that change a state. The key lemmas are faults_change, objects_change, removal_changes, install_leaves,
-- began_changes, swept_changes and ended_changes.
use Rattle.std.proofs.Common.{◌≡◌, ◌≢◌, ◌||◌, ℕ, ◌+◌, Bool, true, false, if◌then◌else◌, cond, is_some, List, [], ◌∷◌, ◌++◌, refl, sym, ap, ◌∙◌, subst, true≢false, arith, Option, None, Some, option_map}
use Rattle.std.specs.FinMap as map
use Rattle.ids.specs.Key.{Objects}
use Rattle.ids.specs.declared.key.Key.{Key}
use Rattle.ids.proofs.KeyOrderLemmas.{key_cmp_total}
use Rattle.library_state.specs.declared.call.Act.TheVariants as act
use Rattle.library_state.specs.declared.call.Call.{Call}
use Rattle.object_graph.specs.Traversal.{is_in}
use Rattle.object_graph.proofs.KeyLemmas.{same_key}
use Rattle.library_rules.specs.Changes.{with_added, without, keys_added, fresher, moved, is_refused, head_in, with_install, act_changes, turn_counted, step_changes, apply}
use Rattle.library_rules.specs.LibraryState.{State, Running, is_kept, is_stored}
use Rattle.library_rules.specs.declared.entry.Entry.{Entry}
use Rattle.library_rules.specs.declared.entry.Step.TheVariants as step
use Rattle.library_rules.proofs.KeepingLemmas.{added_stored, kept_without}
use Rattle.library_rules.proofs.MemberLemmas.{apart}
use Rattle.library_rules.proofs.StepLemmas.{objects_after}

one_more_not : (n : ℕ) → n + 1 ≢ n
one_more_not n is = omega arith

-- ---- faults and objects

pub faults_change : (s : State) (e : Entry) → e.faults ≢ s.faults → apply s e ≢ s
faults_change s e other same = other (ap (λ (t : State). t.faults) same)

-- an object that wasn't stored is
pub objects_change : (s : State) (e : Entry) (key : Key) → is_stored s.objects key ≡ false → is_in (keys_added e.added) key ≡ true → e.removed ≡ [] → apply s e ≢ s
objects_change s e key absent came none same =
    apart (is_stored s.objects key) (subst (λ (t : State). is_stored t.objects key ≡ true) same stored) absent
  where
    stored : is_stored (apply s e).objects key ≡ true
    stored = subst (λ (o : Objects). is_stored o key ≡ true) (sym (objects_after s e))
        (subst (λ keys. is_stored (without (with_added s.objects e.added) keys) key ≡ true) (sym none) (added_stored s.objects e.added key came))

pub gone_without : (A : Objects) (removed : List Key) (key : Key) → is_in removed key ≡ true → map.get (without A removed) key ≡ None
gone_without A [] key e = absurd (true≢false (sym e))
gone_without A (k ∷ removed) key e = by (is_in removed key) refl (λ h. gone_without (map.remove A k) removed key h)
  where
    first : (b : Bool) → same_key key k ≡ b → is_in removed key ≡ false → cond b None (map.get A key) ≡ None
    first true same other = refl
    first false same other = absurd (true≢false (sym e ∙ ap (λ b. b || is_in removed key) same ∙ other))

    by : (b : Bool) → is_in removed key ≡ b → (is_in removed key ≡ true → map.get (without (map.remove A k) removed) key ≡ None)
        → map.get (without (map.remove A k) removed) key ≡ None
    by true is rest = rest is
    by false is rest = kept_without (map.remove A k) removed key is ∙ map.get-remove key_cmp_total A k key ∙ first (same_key key k) refl is

-- an object that was stored is gone
pub removal_changes : (s : State) (e : Entry) (key : Key) → is_stored s.objects key ≡ true → is_in e.removed key ≡ true → apply s e ≢ s
removal_changes s e key there gone same =
    apart (is_stored s.objects key) there (subst (λ (t : State). is_stored t.objects key ≡ false) same absent)
  where
    absent : is_stored (apply s e).objects key ≡ false
    absent = ap (λ (o : Objects). is_stored o key) (objects_after s e) ∙ ap is_some (gone_without (with_added s.objects e.added) e.removed key gone)

-- to remove one key more is to remove it last
pub without_push : (A : Objects) (removed : List Key) (key : Key) → without A (removed ++ key ∷ []) ≡ map.remove (without A removed) key
without_push A [] key = refl
without_push A (k ∷ removed) key = without_push (map.remove A k) removed key

-- ---- head updates

-- the history after an update that isn't refused, of a commit that wasn't kept
pub install_leaves : (s : State) (e : Entry) (call : Call) (pushed : List ℕ) → e.step ≡ step.Asked call → call.act ≡ act.Update pushed → is_refused e.reply ≡ false
    → is_kept s.state.kept pushed ≡ false → (apply s e).state.kept ≡ s.state.kept ++ record { head = head_in e.reply pushed; pushed = pushed; at = e.moment } ∷ []
install_leaves s e call pushed is acts goes new =
    ap (λ st. (step_changes e.moment st e.reply (moved s e.added e.removed)).state.kept) is
    ∙ ap (λ b. (if b then moved s e.added e.removed else act_changes call.secret e.moment call.act e.reply (moved s e.added e.removed)).state.kept) goes
    ∙ ap (λ a. (act_changes call.secret e.moment a e.reply (moved s e.added e.removed)).state.kept) acts
    ∙ ap (λ b. (if b then s.state else with_install (head_in e.reply pushed) pushed e.moment s.state).kept) new

longer_not : {A : Type 0} (xs : List A) (x : A) → xs ++ x ∷ [] ≢ xs
longer_not [] x is = cc
longer_not (y ∷ xs) x is =
    let rest : xs ++ x ∷ [] ≡ xs = cc in
    longer_not xs x rest

pub install_changes : (s : State) (e : Entry) (call : Call) (pushed : List ℕ) → e.step ≡ step.Asked call → call.act ≡ act.Update pushed → is_refused e.reply ≡ false
    → is_kept s.state.kept pushed ≡ false → apply s e ≢ s
install_changes s e call pushed is acts goes new same =
    longer_not s.state.kept (record { head = head_in e.reply pushed; pushed = pushed; at = e.moment })
    (sym (install_leaves s e call pushed is acts goes new) ∙ ap (λ (t : State). t.state.kept) same)

-- ---- collections

pub began_changes : (s : State) (e : Entry) → e.step ≡ step.Began → apply s e ≢ s
began_changes s e is same =
    one_more_not s.state.collection
    (sym (ap (λ st. (step_changes e.moment st e.reply (moved s e.added e.removed)).state.collection) is) ∙ ap (λ (t : State). t.state.collection) same)

turns_of : Option Running → ℕ
turns_of None = 0
turns_of (Some r) = r.turned

more_turns : (keys : List Key) (o : Option Running) → is_some o ≡ true → turns_of (option_map (turn_counted false) (option_map (fresher keys) o)) ≡ turns_of o + 1
unfolding turns_of
more_turns keys None runs = cc
more_turns keys (Some r) runs = refl

pub swept_changes : (s : State) (e : Entry) → e.step ≡ step.Swept → is_refused e.reply ≡ false → is_some s.running ≡ true → apply s e ≢ s
swept_changes s e is goes runs same =
    one_more_not (turns_of s.running)
    (sym (ap (λ st. turns_of (step_changes e.moment st e.reply (moved s e.added e.removed)).running) is
    ∙ ap (λ b. turns_of (option_map (turn_counted b) (option_map (fresher (keys_added e.added)) s.running))) goes
    ∙ more_turns (keys_added e.added) s.running runs)
    ∙ ap (λ (t : State). turns_of t.running) same)

pub ended_changes : (s : State) (e : Entry) → e.step ≡ step.Ended → is_some s.running ≡ true → apply s e ≢ s
ended_changes s e is runs same =
    apart (is_some s.running) runs
    (sym (ap (λ (t : State). is_some t.running) same) ∙ ap (λ st. is_some (step_changes e.moment st e.reply (moved s e.added e.removed)).running) is)
