-- The offer, what was uploaded of it, and the commit at which the library is asked to stand.
use Rattle.std.proofs.Common.{[], refl, sym}
use Rattle.std.proofs.lemmas.List.{append-nil}
use Rattle.folder_side.proofs.CallLemmas.{glances_same}
use Rattle.tree_push.proofs.NamedOfferLemmas.{needs_none, stood_needs, stopped_needs}
use Rattle.tree_push.proofs.PushEndLemmas.{owned_stand, stood_push, stopped_push}
use Rattle.tree_push.proofs.PushLemmas.{push_none}
use Rattle.tree_push.proofs.UploadEndLemmas.{orders_stay}
use Rattle.tree_push.proofs.pushing.push.Goals as goal

pub returns-in-Err-clause-value : goal.returns-in-Err-clause-value
returns-in-Err-clause-value g c = (
  [],
  sym (append-nil (g.R.Remote.sends c.args.remote.now)),
  push_none c.args.library.now c.args.user.now c.args.moment c.args.parent (g.F.Folder.told c.args.folder.now) c.args.cuts c.args.index.now c.args.scan.now,
)

pub returns-in-Err-piece_buffer-clause-value : goal.returns-in-Err-piece_buffer-clause-value
returns-in-Err-piece_buffer-clause-value g c = (
  [],
  sym (append-nil (g.R.Remote.sends c.args.remote.now)),
  push_none c.args.library.now c.args.user.now c.args.moment c.args.parent (g.F.Folder.told c.args.folder.now) c.args.cuts c.args.index.now c.args.scan.now,
)

pub returns-in-Err-upload-clause-value : goal.returns-in-Err-upload-clause-value
returns-in-Err-upload-clause-value g c =
    stopped_push c.args.library.now c.args.user.now c.args.moment c.args.parent (g.F.Folder.told c.args.folder.now) c.args.cuts c.args.index.now c.args.scan.now c.in-Ok.offered.wanted _ _
    c.in-Err-upload.fault c.in-Err-upload.ensures.value c.in-Err-upload.ensures.cause

pub returns-clause-value : goal.returns-clause-value
returns-clause-value g c =
    stood_push c.args.library.now c.args.user.now c.args.moment c.args.parent (g.F.Folder.told c.args.folder.now) c.args.cuts c.args.index.now c.args.scan.now c.in-Ok.offered.root
    c.in-Ok.offered.wanted c.in-Ok.ensures.ok c.in-Ok.ensures.within c.in-Ok.ensures.named c.in-Ok.ensures.value c.in-Ok.ensures.tree c.requires.library
    (λ c' told. owned_stand c.args.cuts c' c.args.index.now c.args.scan.now c.args.owns.now c.requires.ids (c.in-Ok-upload.ensures.same c' told)) _ _ _ c.in-Ok-upload.ensures.value
    c.stand_at.result c.stand_at.ensures.value c.stand_at.ensures.faults

pub returns-clause-faults : goal.returns-clause-faults
returns-clause-faults g c = orders_stay _ _ c.stand_at.result c.in-Ok-upload.ensures.faults c.stand_at.ensures.faults

pub upload-requires-clause-seen : goal.upload-requires-clause-seen
upload-requires-clause-seen g c = λ key there. (c.in-Ok.ensures.within key there).block

pub returns-in-Err-clause-needed : goal.returns-in-Err-clause-needed
returns-in-Err-clause-needed g c =
    needs_none c.args.library.now c.args.user.now c.args.moment c.args.parent c.args.index.now c.args.scan.now (g.R.Remote.sends c.args.remote.now)

pub returns-in-Err-piece_buffer-clause-needed : goal.returns-in-Err-piece_buffer-clause-needed
returns-in-Err-piece_buffer-clause-needed g c =
    needs_none c.args.library.now c.args.user.now c.args.moment c.args.parent c.args.index.now c.args.scan.now (g.R.Remote.sends c.args.remote.now)

pub returns-in-Err-upload-clause-needed : goal.returns-in-Err-upload-clause-needed
returns-in-Err-upload-clause-needed g c =
    stopped_needs c.args.library.now c.args.user.now c.args.moment c.args.parent c.args.index.now c.args.scan.now c.in-Ok.offered.root c.in-Ok.offered.wanted c.in-Ok.ensures.within
    c.in-Ok.ensures.tree _ _ c.in-Err-upload.fault c.in-Err-upload.ensures.value c.in-Err-upload.ensures.once

pub returns-clause-needed : goal.returns-clause-needed
returns-clause-needed g c =
    stood_needs c.args.library.now c.args.user.now c.args.moment c.args.parent c.args.index.now c.args.scan.now c.in-Ok.offered.root c.in-Ok.offered.wanted c.in-Ok.ensures.within
    c.in-Ok.ensures.tree _ _ _ c.in-Ok-upload.ensures.value c.in-Ok-upload.ensures.once c.stand_at.result c.stand_at.ensures.value

pub returns-in-Err-clause-traced : goal.returns-in-Err-clause-traced
returns-in-Err-clause-traced g c = glances_same _ _ refl

pub returns-in-Err-piece_buffer-clause-traced : goal.returns-in-Err-piece_buffer-clause-traced
returns-in-Err-piece_buffer-clause-traced g c = glances_same _ _ refl
