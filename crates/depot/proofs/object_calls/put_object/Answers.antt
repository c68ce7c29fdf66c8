-- A block is named by its bytes alone.
use Rattle.ids.specs.declared.key.Kind.TheVariants as kinds
use Rattle.depot.proofs.GivingLemmas.{put_as}
use Rattle.depot.proofs.object_calls.put_object.Goals as goal

pub returns-in-Block-clause-gives : goal.returns-in-Block-clause-gives
returns-in-Block-clause-gives g c = put_as c.args.key.now c.args.bytes.now kinds.Block c.in-Block.is tt c.store_object.ensures.gives
