-- The tree is got, looked at, a plan made for it, and done.
use Rattle.std.proofs.Common.{List, inl, inr, refl, subst}
use Rattle.tree_checkout.specs.declared.planning.Due.{Due}
use Rattle.tree_checkout.proofs.TouchLemmas.{touches_none}
use Rattle.sync_daemon.specs.Bringing.{AreMade}
use Rattle.sync_daemon.proofs.BringLemmas.{brings_by, not_so}
use Rattle.sync_daemon.proofs.bringing.bring.Goals as goal

pub returns-in-Err-clause-value : goal.returns-in-Err-clause-value
returns-in-Err-clause-value g c = inl (c.in-Err.ensures.value, refl)

pub returns-then-not-may_change-clause-value : goal.returns-then-not-may_change-clause-value
returns-then-not-may_change-clause-value g c =
    inr (inl (c.in-Ok.tree, c.in-Ok.ensures.value, refl, inl (not_so c.may_change.result c.may_change.ensures.value c.if-not-may_change.true, refl)))

pub returns-in-Err-plan_of-clause-value : goal.returns-in-Err-plan_of-clause-value
returns-in-Err-plan_of-clause-value g c = inr (inl (
  c.in-Ok.tree,
  c.in-Ok.ensures.value,
  refl,
  inr (c.may_change.ensures.value.0 c.if-not-may_change.false, inl (c.in-Err-plan_of.ensures.cause, c.in-Err-plan_of.ensures.value)),
))

pub returns-in-Err-writes_of-clause-value : goal.returns-in-Err-writes_of-clause-value
returns-in-Err-writes_of-clause-value g c = inr (inl (
  c.in-Ok.tree,
  c.in-Ok.ensures.value,
  refl,
  inr (c.may_change.ensures.value.0 c.if-not-may_change.false, inr refl),
))

pub returns-clause-value : goal.returns-clause-value
returns-clause-value g c =
    brings_by c.args.asker.now c.args.cuts c.args.settled.now.scan c.args.index.now c.args.pushed c.args.settled.now.differs c.args.root (g.R.Remote.sends c.args.remote.now)
    (g.R.Remote.sends c.fetch_tree.new.remote) (g.R.Remote.sends c.change.new.remote) (g.F.Folder.told c.args.folder.now) (g.F.Folder.told c.change.new.folder) c.in-Ok.tree
    c.in-Ok-plan_of.plan c.in-Ok-writes_of.writes c.change.result
    (record {
      fetched = c.in-Ok.ensures.value;
      may = c.may_change.ensures.value.0 c.if-not-may_change.false;
      planned = record { plans = c.in-Ok-plan_of.ensures.value; looks = c.in-Ok-plan_of.ensures.same; gone = c.in-Ok-plan_of.ensures.gone; written = c.in-Ok-plan_of.ensures.written };
      made = subst (λ (dues : List Due). AreMade c.in-Ok.tree.objects dues c.in-Ok-writes_of.writes) c.slice.ensures.value c.in-Ok-writes_of.ensures.value;
    }) c.change.ensures.value

pub returns-in-Err-clause-touches : goal.returns-in-Err-clause-touches
returns-in-Err-clause-touches g c = touches_none c.args.cuts c.args.settled.now.scan _ _ refl

pub returns-then-not-may_change-clause-touches : goal.returns-then-not-may_change-clause-touches
returns-then-not-may_change-clause-touches g c = touches_none c.args.cuts c.args.settled.now.scan _ _ refl

pub returns-in-Err-plan_of-clause-touches : goal.returns-in-Err-plan_of-clause-touches
returns-in-Err-plan_of-clause-touches g c = touches_none c.args.cuts c.args.settled.now.scan _ _ refl

pub returns-in-Err-writes_of-clause-touches : goal.returns-in-Err-writes_of-clause-touches
returns-in-Err-writes_of-clause-touches g c = touches_none c.args.cuts c.args.settled.now.scan _ _ refl
