-- Another library, or one who may not; else the turns.
use Rattle.std.proofs.Common.{sym, ◌∙◌, true≢false}
use Rattle.std.proofs.lemmas.Slice.Eq.{bytes_eq-Decides}
use Rattle.ids.proofs.BasicLemmas.{same_from_bytes_eq}
use Rattle.collection_turns.proofs.CollectingLemmas.{collected_denied, collected_elsewhere, collected_here}
use Rattle.collection_turns.proofs.collecting.collect.Goals as goal

pub returns-then-may_collect : goal.returns-then-may_collect
returns-then-may_collect g c = record {
  value = collected_here g.T.Collectable.view g.T.Collectable.notes g.T.Storage.Shelf.contents g.T.Storage.Shelf.may_give g.T.Storage.Shelf.texts g.T.Storage.Shelf.faults
      (g.C.Clock.shows c.args.clock.now) c.args.library.now c.args.lib c.args.secret.now c.depot-depot.result.now c.depot-depot.ensures.value c.take_turns.result c.take_turns.new.library
      (same_from_bytes_eq c.args.lib c.lib.result (sym c.if-eq.ensures) ∙ c.lib.ensures.value) (sym c.may_collect.ensures.value ∙ c.if-may_collect.true) c.take_turns.ensures.value;
}

pub returns-then-eq : goal.returns-then-eq
returns-then-eq g c = record {
  value = collected_denied g.T.Collectable.view g.T.Collectable.notes g.T.Storage.Shelf.contents g.T.Storage.Shelf.may_give g.T.Storage.Shelf.texts g.T.Storage.Shelf.faults
      (g.C.Clock.shows c.args.clock.now) c.args.library.now c.args.lib c.args.secret.now c.depot-depot.result.now c.depot-depot.ensures.value
      (same_from_bytes_eq c.args.lib c.lib.result (sym c.if-eq.ensures) ∙ c.lib.ensures.value) (sym c.may_collect.ensures.value ∙ c.if-may_collect.false);
}

pub returns : goal.returns
returns g c = record {
  value = collected_elsewhere g.T.Collectable.view g.T.Collectable.notes g.T.Storage.Shelf.contents g.T.Storage.Shelf.may_give g.T.Storage.Shelf.texts g.T.Storage.Shelf.faults
      (g.C.Clock.shows c.args.clock.now) c.args.library.now c.args.lib c.args.secret.now c.depot-depot.result.now c.depot-depot.ensures.value
      (λ same. true≢false (sym ((bytes_eq-Decides c.args.lib c.lib.result).1 (same ∙ sym c.lib.ensures.value)) ∙ sym c.if-eq.ensures));
}
