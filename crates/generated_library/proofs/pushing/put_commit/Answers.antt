-- The commit is read back as it was written.
use Rattle.std.proofs.Common.{◌≢◌, List, None, Some, ap, false, subst, ◌∙◌, ℕ}
use Rattle.ids.specs.ObjectId.{nil}
use Rattle.commit_objects.specs.Made.{made}
use Rattle.commit_objects.specs.declared.commit.Commit.{Commit}
use Rattle.sync_calls.specs.Hall.{shown_by}
use Rattle.generated_library.specs.Filled.{HasCommit}
use Rattle.generated_library.specs.Leading.{Leads}
use Rattle.generated_library.proofs.LedLemmas.{commit_led, commit_proper}
use Rattle.generated_library.proofs.StoppingLemmas.{stopped, wants_memory}
use Rattle.generated_library.proofs.pushing.put_commit.Goals as goal

pub returns-clause-leads : goal.returns-clause-leads
returns-clause-leads g c =
    let commit = c.in_ok-commit.commit in
    let is = c.in_ok-commit.ensures.value in
    let over = ap (λ (x : Commit). x.parent) is in
    let alone = ap (λ (x : Commit). x.second_parent) is in
    let led = commit_led g.S.Shelf.contents g.S.Shelf.may_give g.S.Shelf.texts g.S.Shelf.faults (shown_by c.args.pass.now) (shown_by c.put.new.pass) commit c.in_ok-text.text c.args.parent
    (λ own some. c.in_ok-text.ensures.reads_back (commit_proper commit c.args.parent over alone own some)) c.in_ok-put.ensures.leads in
    subst (λ (x : Commit). Leads g.S.Shelf.contents g.S.Shelf.faults (shown_by c.args.pass.now) (shown_by c.put.new.pass) (λ s. c.args.parent ≢ nil) (HasCommit commit.id x))
    (is ∙ ap (λ (n : List ℕ). made c.args.asker.now.lib c.args.root (Some c.args.parent) None n n c.args.asker.now.moment false) c.in_ok-name.ensures.value) led

pub returns-in_err-name-clause-stops : goal.returns-in_err-name-clause-stops
returns-in_err-name-clause-stops g c = wants_memory g.S.Shelf.contents g.S.Shelf.may_give g.S.Shelf.texts g.S.Shelf.faults c.args.asker.now.lib c.args.asker.now.secret c.args.asker.now.moment c.args.pass.now c.from_residual.result c.from_residual.ensures.1

pub returns-in_err-commit-clause-stops : goal.returns-in_err-commit-clause-stops
returns-in_err-commit-clause-stops g c = wants_memory g.S.Shelf.contents g.S.Shelf.may_give g.S.Shelf.texts g.S.Shelf.faults c.args.asker.now.lib c.args.asker.now.secret c.args.asker.now.moment c.args.pass.now c.from_residual-in_err-commit.result c.from_residual-in_err-commit.ensures.1

pub returns-in_err-text-clause-stops : goal.returns-in_err-text-clause-stops
returns-in_err-text-clause-stops g c = wants_memory g.S.Shelf.contents g.S.Shelf.may_give g.S.Shelf.texts g.S.Shelf.faults c.args.asker.now.lib c.args.asker.now.secret c.args.asker.now.moment c.args.pass.now c.from_residual-in_err-text.result c.from_residual-in_err-text.ensures.1

pub returns-in_err-put-clause-stops : goal.returns-in_err-put-clause-stops
returns-in_err-put-clause-stops g c =
    stopped g.S.Shelf.contents g.S.Shelf.may_give g.S.Shelf.texts g.S.Shelf.faults c.args.asker.now.lib c.args.asker.now.secret c.args.asker.now.moment c.put.new.pass c.in_err-put.field-0.0 c.from_residual-in_err-put.result c.from_residual-in_err-put.ensures.1 c.in_err-put.ensures.stops
