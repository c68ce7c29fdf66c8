use Rattle.std.proofs.Common.{sym, refl, arith, ap}
use Rattle.std.specs.FinMap as map
use Rattle.tree_merge.specs.Level.{Dirents}
use Rattle.tree_merge.proofs.LevelLemmas.{none_in, popped_len, removed_len, without_none, without_removed}
use Rattle.tree_merge.proofs.level.next.Goals as goal

pub returns-in-Some-clause-value : goal.returns-in-Some-clause-value
returns-in-Some-clause-value c =
    let base = popped_len c.args.level.now.base c.pop_last.new.self (c.in-Some.path, c.in-Some.entry) c.in-Some.ensures.found in
    let head = removed_len c.in-Some.path c.args.level.now.head c.remove-head.new.self c.remove-head.ensures.ok in
    let pushed = removed_len c.in-Some.path c.args.level.now.pushed c.remove-pushed.new.self c.remove-pushed.ensures.ok in
    record {
      base = sym c.in-Some.ensures.value;
      head = c.remove-head.ensures.value;
      pushed = c.remove-pushed.ensures.value;
      some = refl;
      left_base = without_removed c.in-Some.path c.args.level.now.base c.pop_last.new.self c.in-Some.ensures.ok;
      left_head = without_removed c.in-Some.path c.args.level.now.head c.remove-head.new.self c.remove-head.ensures.ok;
      left_pushed = without_removed c.in-Some.path c.args.level.now.pushed c.remove-pushed.new.self c.remove-pushed.ensures.ok;
      less = omega (arith, base, head, pushed);
    }

pub returns-in-Some-pop_last-clause-value : goal.returns-in-Some-pop_last-clause-value
returns-in-Some-pop_last-clause-value c =
    let base = ap (λ (m : Dirents). map.len m) c.in_default.ensures.err in
    let head = popped_len c.args.level.now.head c.pop_last-2.new.self (c.in-Some-pop_last.path, c.in-Some-pop_last.entry) c.in-Some-pop_last.ensures.found in
    let pushed = removed_len c.in-Some-pop_last.path c.args.level.now.pushed c.remove-pushed-in-Some-pop_last.new.self c.remove-pushed-in-Some-pop_last.ensures.ok in
    record {
      base = none_in c.in-Some-pop_last.path c.args.level.now.base c.in_default.ensures.absent;
      head = sym c.in-Some-pop_last.ensures.value;
      pushed = c.remove-pushed-in-Some-pop_last.ensures.value;
      some = refl;
      left_base = without_none c.in-Some-pop_last.path c.args.level.now.base c.pop_last.new.self c.in_default.ensures.absent c.in_default.ensures.err;
      left_head = without_removed c.in-Some-pop_last.path c.args.level.now.head c.pop_last-2.new.self c.in-Some-pop_last.ensures.ok;
      left_pushed = without_removed c.in-Some-pop_last.path c.args.level.now.pushed c.remove-pushed-in-Some-pop_last.new.self c.remove-pushed-in-Some-pop_last.ensures.ok;
      less = omega (arith, base, head, pushed);
    }

pub returns-in-Some-pop_last-2-clause-value : goal.returns-in-Some-pop_last-2-clause-value
returns-in-Some-pop_last-2-clause-value c =
    let base = ap (λ (m : Dirents). map.len m) c.in_default.ensures.err in
    let head = ap (λ (m : Dirents). map.len m) c.in_default-pop_last.ensures.err in
    let pushed = popped_len c.args.level.now.pushed c.pop_last-3.new.self (c.in-Some-pop_last-2.path, c.in-Some-pop_last-2.entry) c.in-Some-pop_last-2.ensures.found in
    record {
      base = none_in c.in-Some-pop_last-2.path c.args.level.now.base c.in_default.ensures.absent;
      head = none_in c.in-Some-pop_last-2.path c.args.level.now.head c.in_default-pop_last.ensures.absent;
      pushed = sym c.in-Some-pop_last-2.ensures.value;
      some = refl;
      left_base = without_none c.in-Some-pop_last-2.path c.args.level.now.base c.pop_last.new.self c.in_default.ensures.absent c.in_default.ensures.err;
      left_head = without_none c.in-Some-pop_last-2.path c.args.level.now.head c.pop_last-2.new.self c.in_default-pop_last.ensures.absent c.in_default-pop_last.ensures.err;
      left_pushed = without_removed c.in-Some-pop_last-2.path c.args.level.now.pushed c.pop_last-3.new.self c.in-Some-pop_last-2.ensures.ok;
      less = omega (arith, base, head, pushed);
    }
