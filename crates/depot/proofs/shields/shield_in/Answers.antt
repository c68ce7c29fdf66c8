-- The marks alone change.
use Rattle.std.proofs.Common.{refl, subst}
use Rattle.depot.specs.DepotView.{CollectionView}
use Rattle.depot.specs.Fresh.{ShieldsKeys}
use Rattle.depot.proofs.CollectionLemmas.{collection_of}
use Rattle.depot.proofs.shields.shield_in.Goals as goal

pub returns : goal.returns
returns c = record {
  value = subst (λ (old : CollectionView). ShieldsKeys c.args.keys.now old (collection_of c.shield.new.self c.running.inside.fresh c.running.inside.stored c.running.inside.turned.count)) c.running.view_is
      (record { marks = c.shield.ensures.stays; each = c.shield.ensures.value; good = c.shield.ensures.good; runs = refl });
}
