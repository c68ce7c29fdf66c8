-- Each change gives its own id.
use Rattle.std.proofs.Common.{◌≡◌, ◌+◌, ◌∷◌, ◌∙◌, suc, ap, arith, drop, sym}
use Rattle.std.proofs.Math.Seq.{drop-cons}
use Rattle.std.proofs.lemmas.List.{drop_all}
use Rattle.std.specs.FinMap as fin
use Rattle.local_index.specs.declared.scan_changes.Change.{Change}
use Rattle.tree_push.specs.ChangedOwns.{Owns, with_changes}
use Rattle.tree_push.proofs.ChangedOwnLemmas.{changes_next, owns_are}
use Rattle.tree_push.proofs.own_table.changed_owns.Goals as goal

pub loop-change-init : goal.loop-change-init
loop-change-init c = ap (λ (owns : Owns). with_changes owns c.args.seens.now c.args.changes.now) c.new-owns.ensures.value

pub loop-change-preserved : goal.loop-change-preserved
loop-change-preserved c =
    let i = c.loop-change.change-index in
    let all = c.args.changes.now in
    let one : suc i ≡ i + 1 = omega arith in
    let next : drop i all ≡ c.change-item.result ∷ drop (i + 1) all
    = drop-cons all i c.change-item.result (omega arith) ∙ ap (λ (x : Change). x ∷ drop (suc i) all) (sym c.change-item.is) ∙ ap (λ n. c.change-item.result ∷ drop n all) one in
    changes_next (with_changes fin.empty c.args.seens.now all) c.loop-change.owns c.add_own.new.owns c.args.seens.now all i c.change-item.result next c.loop-change.invariant
    c.in_ok-add_own.ensures.ok

pub returns : goal.returns
returns c = record {
  value = owns_are c.args.seens.now c.args.changes.now c.loop-change.owns
      (ap (with_changes c.loop-change.owns c.args.seens.now) (sym (drop_all c.loop-change.change-index c.args.changes.now (omega arith))) ∙ c.loop-change.invariant);
}
