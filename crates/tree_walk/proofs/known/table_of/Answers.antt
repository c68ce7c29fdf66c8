use Rattle.std.proofs.Common.{sym, subst₂, take, List, arith}
use Rattle.std.specs.Prelude.{⊤}
use Rattle.std.specs.FinMap as map
use Rattle.ids.specs.Key.{key_cmp}
use Rattle.ids.specs.declared.key.Key.{Key}
use Rattle.tree_walk.specs.Known.{Knows}
use Rattle.tree_walk.proofs.KnownLemmas.{knows_more, knows_nothing, next_key}
use Rattle.tree_walk.proofs.known.table_of.Goals as goal

pub loop-key-init : goal.loop-key-init
loop-key-init c = knows_nothing c.new-known.result c.new-known.ensures.value

pub loop-key-preserved : goal.loop-key-preserved
loop-key-preserved c =
    subst₂ (λ (ks : List Key) (m : map.FinMap key_cmp ⊤). Knows ks m)
    (sym (next_key c.args.keys.now c.loop-key.key-index c.key-item.result (omega arith) c.key-item.is)) (sym c.in_ok-put.ensures.ok)
    (knows_more (take c.loop-key.key-index c.args.keys.now) c.loop-key.known c.key-item.result c.loop-key.invariant)
