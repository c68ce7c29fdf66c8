-- One key more; at the end all.
use Rattle.std.proofs.Common.{◌≡◌, ◌∙◌, List, ◌∷◌, ap, is_some, not, subst, sym, ℕ}
use Rattle.std.specs.FinMap as map
use Rattle.std.specs.Map.Iter.{deref_pair}
use Rattle.std.proofs.lemmas.Map.Iter.{rest_more}
use Rattle.ids.specs.declared.key.Key.{Key}
use Rattle.library_rules.specs.Changes.{keys_added}
use Rattle.library_rules.specs.LibraryState.{is_stored}
use Rattle.depot.specs.Plan.{listed}
use Rattle.depot.proofs.MayFreshLemmas.{ListsSo, lists_all, lists_next, lists_none}
use Rattle.depot.proofs.unstored.dir_keys.Goals as goal

pub loop-key-init : goal.loop-key-init
loop-key-init g c =
    let all : List Key = keys_added (listed (map.entries c.args.dirs.now)) in
    let first = sym (c.into_iter-key-iterator.ensures.into_iter_gives ∙ c.iter-key-items.ensures.value) in
    record {
      index = subst (λ (left : List (Key × List ℕ)). ListsSo (λ key. not (is_some (map.get c.args.store.now.index key))) all (keys_added (listed left)) c.new-keys.result) first
          (lists_none (λ key. not (is_some (map.get c.args.store.now.index key))) all c.new-keys.result c.new-keys.ensures.value);
      held = λ objects told.
          subst (λ (left : List (Key × List ℕ)). ListsSo (λ key. not (is_stored objects key)) all (keys_added (listed left)) c.new-keys.result) first
          (lists_none (λ key. not (is_stored objects key)) all c.new-keys.result c.new-keys.ensures.value);
    }

pub loop-key-preserved : goal.loop-key-preserved
loop-key-preserved g c =
    let next : c.loop-key.key-iterator ≡ (c.in-Some.key.now, c.in-Some.field-0-1.now) ∷ c.next.new.self
    = rest_more deref_pair _ _ _ (c.in-Some.key, c.in-Some.field-0-1) c.in-Some.is c.next.ensures.steps in
    let all : List Key = keys_added (listed (map.entries c.args.dirs.now)) in
    record {
      index = lists_next (λ key. not (is_some (map.get c.args.store.now.index key))) all c.in-Some.key.now (keys_added (listed c.next.new.self)) c.loop-key.keys c.push_unstored.new.keys
          c.in_ok-push_unstored.ensures.value
          (subst (λ (left : List (Key × List ℕ)). ListsSo (λ key. not (is_some (map.get c.args.store.now.index key))) all (keys_added (listed left)) c.loop-key.keys) next c.loop-key.invariant.index);
      held = λ objects told.
          lists_next (λ key. not (is_stored objects key)) all c.in-Some.key.now (keys_added (listed c.next.new.self)) c.loop-key.keys c.push_unstored.new.keys
          (c.in_ok-push_unstored.ensures.shown objects told)
          (subst (λ (left : List (Key × List ℕ)). ListsSo (λ key. not (is_stored objects key)) all (keys_added (listed left)) c.loop-key.keys) next (c.loop-key.invariant.held objects told));
    }

pub returns-clause-value : goal.returns-clause-value
returns-clause-value g c =
    lists_all (λ key. not (is_some (map.get c.args.store.now.index key))) (keys_added (listed (map.entries c.args.dirs.now))) (keys_added (listed c.loop-key.key-iterator)) c.loop-key.keys
    (ap (λ (left : List (Key × List ℕ)). keys_added (listed left)) c.in-None.ensures.steps.0) c.loop-key.invariant.index

pub returns-clause-shown : goal.returns-clause-shown
returns-clause-shown g c = λ objects told.
    lists_all (λ key. not (is_stored objects key)) (keys_added (listed (map.entries c.args.dirs.now))) (keys_added (listed c.loop-key.key-iterator)) c.loop-key.keys
    (ap (λ (left : List (Key × List ℕ)). keys_added (listed left)) c.in-None.ensures.steps.0) (c.loop-key.invariant.held objects told)
