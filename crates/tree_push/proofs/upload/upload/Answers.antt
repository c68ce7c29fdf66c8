-- What was asked about, and then put.
use Rattle.std.proofs.Common.{refl}
use Rattle.folder_side.proofs.CallLemmas.{glances_same}
use Rattle.tree_merge.proofs.TableLemmas.{on_ok_of}
use Rattle.tree_push.proofs.BlockUploadLemmas.{order_no_change}
use Rattle.tree_push.proofs.UploadOnceLemmas.{blocks_once, files_once, objects_once, upload_once}
use Rattle.tree_push.proofs.UploadEndLemmas.{all_uploaded, blocks_stop, files_stop, objects_stop, orders_no_change, orders_stay}
use Rattle.tree_push.proofs.UploadLemmas.{order_upload, orders_upload}
use Rattle.tree_push.proofs.upload.upload.Goals as goal

pub returns-in-Err-clause-value : goal.returns-in-Err-clause-value
returns-in-Err-clause-value g c = objects_stop c.args.library.now c.args.wanted.now c.requires.named c.args.paths.now c.requires.seen _ _ c.in-Err.fault c.in-Err.ensures.value

pub returns-in-Err-clause-cause : goal.returns-in-Err-clause-cause
returns-in-Err-clause-cause g c = λ c' told sees. order_no_change c.in-Err.fault c.in-Err.ensures.faults

pub returns-in-Err-clause-bad : goal.returns-in-Err-clause-bad
returns-in-Err-clause-bad g c = order_upload c.in-Err.fault c.in-Err.ensures.faults

pub returns-in-Err-ask_blocks-clause-value : goal.returns-in-Err-ask_blocks-clause-value
returns-in-Err-ask_blocks-clause-value g c =
    blocks_stop c.args.library.now c.args.wanted.now c.requires.named c.args.paths.now c.requires.seen c.new-objects.result c.ask_objects.new.lacking c.new-objects.ensures.value _ _ _ c.in-Ok.ensures.value c.in-Err-ask_blocks.fault
    c.in-Err-ask_blocks.ensures.value

pub returns-in-Err-ask_blocks-clause-cause : goal.returns-in-Err-ask_blocks-clause-cause
returns-in-Err-ask_blocks-clause-cause g c = λ c' told sees. order_no_change c.in-Err-ask_blocks.fault c.in-Err-ask_blocks.ensures.faults

pub returns-in-Err-ask_blocks-clause-bad : goal.returns-in-Err-ask_blocks-clause-bad
returns-in-Err-ask_blocks-clause-bad g c = order_upload c.in-Err-ask_blocks.fault c.in-Err-ask_blocks.ensures.faults

pub returns-in-Err-put_files-clause-value : goal.returns-in-Err-put_files-clause-value
returns-in-Err-put_files-clause-value g c =
    files_stop c.args.library.now c.args.wanted.now c.requires.named c.args.paths.now c.requires.seen c.new-objects.result c.ask_objects.new.lacking c.new-blocks.result c.ask_blocks.new.lacking c.new-objects.ensures.value
    c.new-blocks.ensures.value _ _ _ _ c.in-Ok.ensures.value c.in-Ok-ask_blocks.ensures.value c.in-Err-put_files.fault c.in-Err-put_files.ensures.value

pub returns-clause-value : goal.returns-clause-value
returns-clause-value g c =
    all_uploaded c.args.library.now c.args.wanted.now c.requires.named c.args.paths.now c.requires.seen c.new-objects.result c.ask_objects.new.lacking c.new-blocks.result
    c.ask_blocks.new.lacking c.put_files.new.lacking c.new-objects.ensures.value c.new-blocks.ensures.value _ _ _ _ _ c.in-Ok.ensures.value c.in-Ok-ask_blocks.ensures.value
    c.in-Ok-put_files.ensures.value c.put_objects.result c.put_objects.ensures.value

pub returns-clause-same : goal.returns-clause-same
returns-clause-same g c = λ c' told. on_ok_of c.put_objects.result (c.in-Ok-put_files.ensures.same c' told)

pub returns-clause-cause : goal.returns-clause-cause
returns-clause-cause g c = λ c' told sees. orders_no_change c.put_objects.result c.put_objects.ensures.faults

pub returns-clause-faults : goal.returns-clause-faults
returns-clause-faults g c = orders_stay _ _ c.put_objects.result c.in-Ok-put_files.ensures.faults c.put_objects.ensures.faults

pub returns-clause-bad : goal.returns-clause-bad
returns-clause-bad g c = orders_upload c.put_objects.result c.put_objects.ensures.faults

pub returns-in-Err-clause-once : goal.returns-in-Err-clause-once
returns-in-Err-clause-once g c = objects_once c.args.wanted.now c.requires.named c.args.paths.now c.requires.seen _ _ c.in-Err.ensures.once

pub returns-in-Err-ask_blocks-clause-once : goal.returns-in-Err-ask_blocks-clause-once
returns-in-Err-ask_blocks-clause-once g c =
    blocks_once c.args.wanted.now c.requires.named c.args.paths.now c.requires.seen _ _ _ c.in-Ok.ensures.once c.in-Err-ask_blocks.ensures.once

pub returns-in-Err-put_files-clause-once : goal.returns-in-Err-put_files-clause-once
returns-in-Err-put_files-clause-once g c =
    files_once c.args.wanted.now c.requires.named c.args.paths.now c.requires.seen _ _ _ c.in-Ok.ensures.once c.in-Ok-ask_blocks.ensures.once c.args.library.now _ _ _ _
    c.new-blocks.ensures.value _ c.in-Ok-ask_blocks.ensures.value c.in-Err-put_files.ensures.once

pub returns-clause-once : goal.returns-clause-once
returns-clause-once g c =
    upload_once c.args.wanted.now c.requires.named c.args.paths.now c.requires.seen _ _ _ c.in-Ok.ensures.once c.in-Ok-ask_blocks.ensures.once c.args.library.now _ _ _ _
    c.new-blocks.ensures.value _ c.in-Ok-ask_blocks.ensures.value c.in-Ok-put_files.ensures.once c.ask_objects.new.lacking _ c.put_objects.ensures.once

pub returns-in-Err-clause-traced : goal.returns-in-Err-clause-traced
returns-in-Err-clause-traced g c = glances_same _ _ refl

pub returns-in-Err-ask_blocks-clause-traced : goal.returns-in-Err-ask_blocks-clause-traced
returns-in-Err-ask_blocks-clause-traced g c = glances_same _ _ refl
