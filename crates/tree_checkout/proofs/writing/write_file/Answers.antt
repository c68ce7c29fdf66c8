use Rattle.std.proofs.Common.{◌∙◌, inl, refl}
use Rattle.tree_checkout.proofs.WritingLemmas.{stops_looked, stops_moved, stops_unfilled, written_at, written_or_not}
use Rattle.folder_side.specs.Calls.{SpareSynced}
use Rattle.tree_checkout.proofs.TouchLemmas.{none_no_call, none_of_glances, none_one, none_then, touches_moved, touches_quiet}
use Rattle.tree_checkout.proofs.writing.write_file.Goals as goal

pub returns-in-Err-clause-err : goal.returns-in-Err-clause-err
returns-in-Err-clause-err g c =
    stops_unfilled c.args.source.now c.args.file.now c.args.path.now c.args.cuts _ _ _ _ _ c.in-Err.fault c.in-Err.ensures.untouched c.in-Err.ensures.err

pub returns-in-Err-spare_sync-clause-err : goal.returns-in-Err-spare_sync-clause-err
returns-in-Err-spare_sync-clause-err g c =
    stops_moved c.args.source.now c.args.file.now c.args.path.now c.args.cuts _ _ _ _ _ c.in-Err-spare_sync.fault c.folder_fault.result _ _ _ c.folder_fault.ensures.value c.in-Ok.ensures.ok
    (inl (c.in-Err-spare_sync.ensures.stays.0 ∙ c.in-Ok.ensures.untouched))

pub returns-in-Err-look_again-clause-err : goal.returns-in-Err-look_again-clause-err
returns-in-Err-look_again-clause-err g c =
    let synced = c.in-Ok-spare_sync.ensures.stays.0 ∙ c.in-Ok.ensures.untouched in
    stops_looked c.args.source.now c.args.file.now c.args.path.now c.args.cuts _ _ _ _ _ c.in-Err-look_again.fault _ _ _ _
    (c.in-Err-look_again.ensures.stays.0 ∙ synced) synced c.in-Ok.ensures.ok c.in-Err-look_again.ensures.cause

pub returns-in-Ok-spare_move-clause-ok : goal.returns-in-Ok-spare_move-clause-ok
returns-in-Ok-spare_move-clause-ok g c =
    let fills = c.in-Ok.ensures.ok in
    record {
      more = fills.more;
      grown = fills.grown;
      got = fills.got;
      sized = fills.sized;
      written =
          written_at c.args.path.now _ _ _ _ _ (c.in-Ok-look_again.ensures.stays.0 ∙ c.in-Ok-spare_sync.ensures.stays.0 ∙ c.in-Ok.ensures.untouched)
          (λ c' told. c.in-Ok-look_again.ensures.stays.1 ∙ c.in-Ok-spare_sync.ensures.stays.1 ∙ fills.filled c' told) c.in-Ok-spare_move.ensures.ok c.in-Ok-spare_move.ensures.stays;
      owned = fills.owned;
    }

pub returns-in-Err-spare_move-clause-err : goal.returns-in-Err-spare_move-clause-err
returns-in-Err-spare_move-clause-err g c =
    let fills = c.in-Ok.ensures.ok in
    stops_moved c.args.source.now c.args.file.now c.args.path.now c.args.cuts _ _ _ _ _ c.in-Err-spare_move.fault c.folder_fault-in-Err-spare_move.result _ _ _ c.folder_fault-in-Err-spare_move.ensures.value fills
    (written_or_not c.args.path.now _ _ _ _ _ (c.in-Ok-look_again.ensures.stays.0 ∙ c.in-Ok-spare_sync.ensures.stays.0 ∙ c.in-Ok.ensures.untouched)
    (λ c' told. c.in-Ok-look_again.ensures.stays.1 ∙ c.in-Ok-spare_sync.ensures.stays.1 ∙ fills.filled c' told) c.in-Err-spare_move.ensures.ok c.in-Err-spare_move.ensures.stays)

pub returns-in-Ok-spare_move-clause-found : goal.returns-in-Ok-spare_move-clause-found
returns-in-Ok-spare_move-clause-found g c = λ c' told. c.in-Ok-look_again.ensures.same c' (c.in-Ok-spare_sync.ensures.stays.0 ∙ c.in-Ok.ensures.untouched ∙ told)

pub returns-in-Err-clause-touches : goal.returns-in-Err-clause-touches
returns-in-Err-clause-touches g c = λ scan is. touches_quiet c.args.cuts scan _ _ c.in-Err.ensures.traced

pub returns-in-Err-spare_sync-clause-touches : goal.returns-in-Err-spare_sync-clause-touches
returns-in-Err-spare_sync-clause-touches g c = λ scan is.
    touches_quiet c.args.cuts scan _ _ (none_then _ _ _ c.in-Ok.ensures.traced (none_no_call _ _ c.in-Err-spare_sync.ensures.traced))

pub returns-in-Err-look_again-clause-touches : goal.returns-in-Err-look_again-clause-touches
returns-in-Err-look_again-clause-touches g c = λ scan is.
    touches_quiet c.args.cuts scan _ _
    (none_then _ _ _ c.in-Ok.ensures.traced
    (none_then _ _ _ (none_one SpareSynced _ _ refl c.in-Ok-spare_sync.ensures.traced) (none_of_glances _ _ c.in-Err-look_again.ensures.traced)))

pub returns-in-Ok-spare_move-clause-touches : goal.returns-in-Ok-spare_move-clause-touches
returns-in-Ok-spare_move-clause-touches g c = λ scan is.
    touches_moved c.args.cuts scan c.args.path.now _ _ _ _ _ _ is c.in-Ok.ensures.traced c.in-Ok-spare_sync.ensures.traced c.in-Ok-look_again.ensures.traced
    c.in-Ok-spare_move.ensures.traced

pub returns-in-Err-spare_move-clause-touches : goal.returns-in-Err-spare_move-clause-touches
returns-in-Err-spare_move-clause-touches g c = λ scan is.
    touches_moved c.args.cuts scan c.args.path.now _ _ _ _ _ _ is c.in-Ok.ensures.traced c.in-Ok-spare_sync.ensures.traced c.in-Ok-look_again.ensures.traced
    c.in-Err-spare_move.ensures.traced
