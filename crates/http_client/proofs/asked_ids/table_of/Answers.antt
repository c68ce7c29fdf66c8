use Rattle.std.proofs.Common.{ℕ, sym, ap, ◌∙◌, subst₂, take, List, arith}
use Rattle.std.specs.Prelude.{⊤}
use Rattle.std.specs.FinMap as map
use Rattle.ids.specs.Key.{key_cmp}
use Rattle.ids.specs.declared.key.Key.{Key}
use Rattle.http_client.specs.AskedIds.{KnowsIds}
use Rattle.http_client.proofs.AskedIdsLemmas.{knows_more, knows_nothing, next_id}
use Rattle.http_client.proofs.asked_ids.table_of.Goals as goal

pub loop-id-init : goal.loop-id-init
loop-id-init c = knows_nothing c.new-known.result c.new-known.ensures.value

pub loop-id-preserved : goal.loop-id-preserved
loop-id-preserved c =
    subst₂ (λ (ids : List (List ℕ)) (m : map.FinMap key_cmp ⊤). KnowsIds ids m)
    (sym (next_id c.args.asked.now c.loop-id.id-index c.id-item.result (omega arith) c.id-item.is)) (sym (c.in_ok-put.ensures.ok ∙ ap (λ (key : Key). map.insert c.loop-id.known key tt) c.block_key.ensures.value))
    (knows_more (take c.loop-id.id-index c.args.asked.now) c.loop-id.known c.id-item.result c.loop-id.invariant)
