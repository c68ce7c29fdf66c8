-- What is put is lacking no more.
use Rattle.std.proofs.Common.{◌∙◌, ◌∷◌, [], refl, sym}
use Rattle.object_graph.specs.Objects.{block_key}
use Rattle.object_graph.specs.Traversal.{is_in}
use Rattle.tree_push.specs.Asking.{PutsAmong}
use Rattle.tree_push.specs.BlockUpload.{PutsOff}
use Rattle.tree_push.specs.Lacking.{has_key}
use Rattle.tree_push.specs.Puts.{PutsKeys}
use Rattle.tree_push.proofs.BlockUploadLemmas.{off_put, off_skipped, one_noted}
use Rattle.tree_push.proofs.SentOnceLemmas.{takes_skipped, takes_taken}
use Rattle.tree_push.proofs.TraceLemmas.{ran_none, went_as, went_wide}
use Rattle.tree_push.proofs.block_upload.put_lacking.Goals as goal

pub returns-in-Some-clause-value : goal.returns-in-Some-clause-value
returns-in-Some-clause-value g c =
    let there = sym c.remove.ensures.value ∙ c.in-Some.is in
    went_as c.args.library.now (PutsAmong (has_key c.args.lacking.now)) (PutsKeys (block_key c.args.id ∷ [])) (PutsOff (c.args.id ∷ []) c.args.lacking.now c.remove.new.self)
    (λ more puts. off_put c.args.lacking.now c.remove.new.self c.args.id c.remove.ensures.stays there more puts) _ _ c.put_block.result
    (went_wide c.args.library.now (is_in (block_key c.args.id ∷ [])) (has_key c.args.lacking.now) (one_noted c.args.lacking.now c.args.id there) (PutsKeys (block_key c.args.id ∷ [])) _ _
    c.put_block.result c.put_block.ensures.value)

pub returns-in-None-clause-value : goal.returns-in-None-clause-value
returns-in-None-clause-value g c =
    ran_none c.args.library.now (PutsAmong (has_key c.args.lacking.now)) (PutsOff (c.args.id ∷ []) c.args.lacking.now c.remove.new.self) _ _ refl
    (off_skipped c.args.lacking.now c.remove.new.self c.args.id c.remove.ensures.stays (sym c.remove.ensures.value ∙ c.in-None.is))

pub returns-in-Some-clause-once : goal.returns-in-Some-clause-once
returns-in-Some-clause-once g c =
    takes_taken c.args.lacking.now c.remove.new.self c.args.id c.remove.ensures.stays (sym c.remove.ensures.value ∙ c.in-Some.is) _ _ c.put_block.ensures.once

pub returns-in-None-clause-once : goal.returns-in-None-clause-once
returns-in-None-clause-once g c = takes_skipped c.args.lacking.now c.remove.new.self c.args.id c.remove.ensures.stays (g.R.Remote.sends c.args.remote.now)
