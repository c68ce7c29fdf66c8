-- The file is known and nothing of it is lacking, or it is read again.
use Rattle.std.proofs.Common.{◌∙◌, refl, sym, true≢false}
use Rattle.std.proofs.lemmas.Bool.{or_parts}
use Rattle.folder_side.proofs.CallLemmas.{glances_same}
use Rattle.tree_push.specs.Asking.{PutsAmong}
use Rattle.tree_push.specs.BlockUpload.{PutsOff}
use Rattle.tree_push.specs.Lacking.{has_key}
use Rattle.tree_push.proofs.SentOnceLemmas.{takes_none}
use Rattle.tree_push.proofs.TraceLemmas.{ran_none}
use Rattle.tree_push.proofs.UploadLemmas.{off_unlisted, reads_upload, seen_file}
use Rattle.tree_push.proofs.upload.put_lacking_of.Goals as goal

pub returns-then-not-is_read_again-clause-value : goal.returns-then-not-is_read_again-clause-value
returns-then-not-is_read_again-clause-value g c =
    ran_none c.args.library.now (PutsAmong (has_key c.args.lacking.now)) (PutsOff c.args.blocks.now c.args.lacking.now c.args.lacking.now) _ _ refl
    (off_unlisted c.args.lacking.now c.args.blocks.now (or_parts c.args.changed _ (sym c.is_read_again.ensures.value ∙ c.if-not-is_read_again.true)).1)

pub returns-then-not-is_read_again-clause-same : goal.returns-then-not-is_read_again-clause-same
returns-then-not-is_read_again-clause-same g c = λ c' told is.
    absurd (true≢false (sym is ∙ (or_parts c.args.changed _ (sym c.is_read_again.ensures.value ∙ c.if-not-is_read_again.true)).0))

pub returns-clause-same : goal.returns-clause-same
returns-clause-same g c = λ c' told is. c.put_blocks.ensures.same c' told

pub returns-clause-cause : goal.returns-clause-cause
returns-clause-cause g c = λ c' told there.
    let file = seen_file c.args.cuts _ c.args.blocks.now c.args.size there in
    c.put_blocks.ensures.cause c' file.0 told file.1 file.2 file.3

pub returns-clause-bad : goal.returns-clause-bad
returns-clause-bad g c = reads_upload c.args.path.now c.put_blocks.result c.put_blocks.ensures.bad

pub returns-then-not-is_read_again-clause-once : goal.returns-then-not-is_read_again-clause-once
returns-then-not-is_read_again-clause-once g c = takes_none c.args.lacking.now (g.R.Remote.sends c.args.remote.now)

pub returns-then-not-is_read_again-clause-traced : goal.returns-then-not-is_read_again-clause-traced
returns-then-not-is_read_again-clause-traced g c = glances_same _ _ refl
