-- No root, the older one, one beside none, and one beside an older one.
use Rattle.std.proofs.Common.{inl, inr, subst, sym, ap, ◌∙◌, rules}
use Rattle.collector.specs.Comparing.{AreSettled}
use Rattle.collector.specs.Compared.{ComparedView, with_found, with_spared}
use Rattle.std.specs.FinMap as map
use Rattle.object_graph.specs.Objects.{fs_key}
use Rattle.tree_walk.proofs.ReadsLemmas.{other_id}
use Rattle.collector.proofs.ComparingLemmas.{is_nil_id, nothing_settled, settled_alone, settled_beside}
use Rattle.collector.proofs.comparing.begin.Goals as goal

pub returns-then-is_nil : goal.returns-then-is_nil
returns-then-is_nil c = record {
  value = λ objects all complete.
      subst (AreSettled objects all c.args.older.now c.args.newer.now) (sym c.new.ensures.value)
      (nothing_settled objects all c.args.older.now c.args.newer.now complete (inl (is_nil_id c.args.newer.now c.is_nil.result c.is_nil.ensures.value c.if-is_nil.true)));
}

pub returns-then-eq : goal.returns-then-eq
returns-then-eq c = record {
  value = λ objects all complete.
      subst (AreSettled objects all c.args.older.now c.args.newer.now) (sym c.new-then-eq.ensures.value)
      (nothing_settled objects all c.args.older.now c.args.newer.now complete (inr (search rules)));
}

pub returns-then-is_nil-2 : goal.returns-then-is_nil-2
returns-then-is_nil-2 c = record {
  value = λ objects all complete.
      subst (AreSettled objects all c.args.older.now c.args.newer.now)
      (sym (c.in_ok-meet.ensures.ok ∙ ap (λ (compared : ComparedView). with_found compared (fs_key c.args.newer.now)) c.new-compared.ensures.value))
      (settled_alone objects all c.args.older.now c.args.newer.now complete (other_id c.args.newer.now c.is_nil.result c.is_nil.ensures.value c.if-is_nil.false));
}

pub returns : goal.returns
returns c = record {
  value = λ objects all complete.
      subst (AreSettled objects all c.args.older.now c.args.newer.now)
      (sym (c.in_ok-place.ensures.ok
      ∙ ap (λ (compared : ComparedView). record compared { beside = map.insert compared.beside (fs_key c.args.newer.now) c.args.older.now })
      (c.in_ok-spare_one.ensures.ok
      ∙ ap (λ (compared : ComparedView). with_spared compared (fs_key c.args.older.now))
      (c.in_ok-meet.ensures.ok ∙ ap (λ (compared : ComparedView). with_found compared (fs_key c.args.newer.now)) c.new-compared.ensures.value))))
      (settled_beside objects all c.args.older.now c.args.newer.now complete (other_id c.args.newer.now c.is_nil.result c.is_nil.ensures.value c.if-is_nil.false)
      (other_id c.args.older.now c.is_nil-2.result c.is_nil-2.ensures.value c.if-is_nil-2.false));
}
