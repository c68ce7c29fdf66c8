use Rattle.tree_checkout.proofs.GotLemmas.{gets_failed, gets_told}
use Rattle.tree_checkout.proofs.block_gets.get_block.Goals as goal

pub returns-in-Ok-clause-value : goal.returns-in-Ok-clause-value
returns-in-Ok-clause-value g c =
    gets_told c.args.source.now c.args.id.now _ _ c.in-Ok.outcome c.in-Ok.ensures.told c.in-Ok.ensures.listed c.block_in.result c.block_in.ensures.value

pub returns-in-Err-clause-value : goal.returns-in-Err-clause-value
returns-in-Err-clause-value g c =
    gets_failed c.args.source.now c.args.id.now _ _ c.in-Err.fault c.in-Err.ensures.listed c.remote_fault.result c.remote_fault.ensures.value
