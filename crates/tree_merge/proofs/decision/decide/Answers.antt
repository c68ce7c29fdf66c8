use Rattle.std.proofs.Common.{◌≡◌, [], refl, sym, ap, subst, Ok, ◌∙◌, arith, Some, None, cond, is_some, IsSome, rules, Bool, true, false, true≢false}
use Rattle.std.specs.FinMap as map
use Rattle.tree_model.specs.Path.{PathV, path_cmp}
use Rattle.tree_model.proofs.ListedLemmas.{same_path, same_path-apart}
use Rattle.ids.specs.Key.{Objects}
use Rattle.tree_walk.proofs.ReadsLemmas.{reads_then, told_after}
use Rattle.tree_merge.specs.FileChoice.{IsWholeAt, IsWholeThree}
use Rattle.tree_merge.specs.declared.file_entry.FileEntry.{FileEntry}
use Rattle.tree_merge.specs.declared.sides.Three.{Three}
use Rattle.tree_merge.specs.Sides.{Threes}
use Rattle.tree_merge.proofs.TableLemmas.{get-popped, popped_len, above_popped}
use Rattle.tree_merge.proofs.DecisionLemmas.{decided_start, decided_more, decided_all}
use Rattle.tree_merge.proofs.WholeLemmas.{whole_start}
use Rattle.tree_merge.proofs.decision.decide.Goals as goal

no_items : {X : Type 0} (m : map.FinMap path_cmp X) → m ≡ map.empty → (q : PathV) → map.get m q ≡ None
no_items m is q = ap (λ n. map.get n q) is ∙ map.get-empty path_cmp q

pub loop-path-init : goal.loop-path-init
loop-path-init g c =
    let no_leavers = ap map.len c.new-2.ensures.value ∙ map.len-empty path_cmp FileEntry in
    let no_known = ap map.len c.new-3.ensures.value ∙ map.len-empty path_cmp (Unit {0}) in
    record {
      reads = search rules;
      left = λ q there. search rules;
      leavers = omega arith;
      known = omega arith;
      root = λ none. no_items c.new-2.result c.new-2.ensures.value [];
      whole = λ objects whole. whole_start objects (record { nodes = c.new.result; leavers = c.new-2.result; known = c.new-3.result }) c.new.ensures.value c.new-2.ensures.value;
      compared = λ objects told are. are;
      decided = λ objects told are more keeps whole s trees seen.
          decided_start more s trees c.args.joined seen c.new-staying.result (record { nodes = c.new.result; leavers = c.new-2.result; known = c.new-3.result })
          (no_items c.new-staying.result c.new-staying.ensures.value) (no_items c.new.result c.new.ensures.value)
          (no_items c.new-2.result c.new-2.ensures.value) (no_items c.new-3.result c.new-3.ensures.value);
    }

pub loop-path-smaller : goal.loop-path-smaller
loop-path-smaller g c =
    let one = popped_len c.loop-path.joined c.pop_last.new.self (c.in-Some.path, c.in-Some.three) c.in-Some.ensures.found in
    omega arith

-- what is left after one path was taken is what was left before
left_more : (rest after whole : Threes) (path : PathV) → ((q : PathV) → map.get after q ≡ cond (same_path q path) None (map.get rest q))
    → ((q : PathV) → IsSome (map.get rest q) → map.get rest q ≡ map.get whole q) → (q : PathV) → IsSome (map.get after q) → map.get after q ≡ map.get whole q
left_more rest after whole path popped left q there = by (same_path q path) (popped q)
  where
    by : (b : Bool) → map.get after q ≡ cond b None (map.get rest q) → map.get after q ≡ map.get whole q
    by true e = absurd (true≢false (sym there ∙ ap is_some e))
    by false e = e ∙ left q (ap is_some (sym e) ∙ there)

no_root : (three : Three) → Some three ≡ None → ⊥
no_root three e = cc

whole_three : (objects : Objects) (joined : Threes) (path : PathV) (three : Three) → map.get joined path ≡ Some three
    → ((q : PathV) → IsWholeAt objects (map.get joined q)) → IsWholeThree objects three
whole_three objects joined path three there whole = subst (IsWholeAt objects) there (whole path)

pub loop-path-preserved : goal.loop-path-preserved
loop-path-preserved g c =
    let inv = c.loop-path.invariant in
    let popped = get-popped c.loop-path.joined c.pop_last.new.self (c.in-Some.path, c.in-Some.three) c.in-Some.ensures.ok in
    let there = c.in-Some.ensures.value in
    let in_whole = sym (inv.left c.in-Some.path (ap is_some there)) ∙ there in
    let one = popped_len c.loop-path.joined c.pop_last.new.self (c.in-Some.path, c.in-Some.three) c.in-Some.ensures.found in
    let grown = c.in-Ok.ensures.bound in
    record {
      reads = reads_then tt (Ok tt) inv.reads c.in-Ok.ensures.stays;
      left = left_more c.loop-path.joined c.pop_last.new.self c.args.joined c.in-Some.path popped inv.left;
      leavers = omega (arith, grown.leavers, inv.leavers);
      known = omega (arith, grown.known, inv.known);
      root = λ none.
          grown.others [] (same_path-apart [] c.in-Some.path (λ e. no_root c.in-Some.three (sym in_whole ∙ ap (map.get c.args.joined) (sym e) ∙ none))) ∙ inv.root none;
      whole = λ objects whole.
          c.in-Ok.ensures.whole objects (whole_three objects c.args.joined c.in-Some.path c.in-Some.three in_whole whole) (inv.whole objects whole);
      compared = λ objects told are. c.in-Ok.ensures.known objects (told_after inv.reads told) (inv.compared objects told are);
      decided = λ objects told are more keeps whole s trees seen.
          let at = (c.in-Ok.ensures.value objects (told_after inv.reads told) (inv.compared objects told are) more keeps (whole_three objects c.args.joined c.in-Some.path c.in-Some.three in_whole whole)).1 in
          decided_more more s trees c.args.joined seen c.loop-path.joined c.pop_last.new.self c.loop-path.staying c.decide_at.new.staying
          c.loop-path.decided c.decide_at.new.decided c.in-Some.path c.in-Some.three
          (inv.decided objects told are more keeps whole s trees seen) there in_whole
          (above_popped c.loop-path.joined c.pop_last.new.self (c.in-Some.path, c.in-Some.three) c.in-Some.ensures.found)
          popped at.placing at.placed at.settled;
    }

pub returns-clause-value : goal.returns-clause-value
returns-clause-value g c objects told are more keeps whole s trees seen = (
  refl,
  decided_all more s c.loop-path.joined c.loop-path.staying c.loop-path.decided (no_items c.loop-path.joined c.in_default.ensures.absent)
      (c.loop-path.invariant.decided objects told are more keeps whole s trees seen),
)

pub returns-in-Err-clause-value : goal.returns-in-Err-clause-value
returns-in-Err-clause-value g c objects told are more keeps whole s trees seen =
    let in_whole = sym (c.loop-path.invariant.left c.in-Some.path (ap is_some c.in-Some.ensures.value)) ∙ c.in-Some.ensures.value in
    c.in-Err.ensures.value objects (told_after c.loop-path.invariant.reads told) (c.loop-path.invariant.compared objects told are) more keeps
    (whole_three objects c.args.joined c.in-Some.path c.in-Some.three in_whole whole)

pub returns-in-Err-clause-known : goal.returns-in-Err-clause-known
returns-in-Err-clause-known g c objects told are = c.in-Err.ensures.known objects (told_after c.loop-path.invariant.reads told) (c.loop-path.invariant.compared objects told are)
