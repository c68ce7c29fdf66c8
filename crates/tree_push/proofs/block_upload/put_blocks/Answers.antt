-- A piece more.
use Rattle.std.proofs.Common.{◌-◌, ◌∙◌, ℕ, Err, ap, arith, refl, subst, sym}
use Rattle.std.specs.Prelude.{⊤}
use Rattle.std.proofs.lemmas.List.{length-drop}
use Rattle.ids.specs.FaultCount.{FailsBy}
use Rattle.folder_side.specs.Folder.{at}
use Rattle.folder_side.proofs.CallLemmas.{glances_same, glances_then}
use Rattle.sync_rules.specs.Causes.{is_folder_fault}
use Rattle.tree_merge.proofs.TableLemmas.{on_ok_more}
use Rattle.tree_push.specs.Asking.{PutsAmong}
use Rattle.tree_push.specs.BlockUpload.{PutsOff}
use Rattle.tree_push.specs.Lacking.{has_key}
use Rattle.tree_push.proofs.TraceLemmas.{stopped_own}
use Rattle.tree_push.proofs.BlockUploadLemmas.{file_own, file_read, passed_all, passed_end, passed_more, passed_next, passed_start, put_read, put_reads, put_stays, taking_last, taking_more, taking_start, taking_stop}
use Rattle.tree_push.proofs.SentOnceLemmas.{takes_none, takes_then}
use Rattle.tree_push.proofs.block_upload.put_blocks.Goals as goal

pub loop-place-init : goal.loop-place-init
loop-place-init g c = record {
  told = refl;
  spare = refl;
  traced = glances_same _ _ refl;
  faults = refl;
  peer = refl;
  alive = ap (λ p. p.failed) c.new-chunker.ensures.value;
  within = omega arith;
  taking = taking_start c.args.library.now c.args.blocks.now c.args.lacking.now (g.R.Remote.sends c.args.remote.now);
  once = takes_none c.args.lacking.now (g.R.Remote.sends c.args.remote.now);
  behind = λ c' bytes t a. passed_start c.args.cuts bytes c.args.blocks.now c.new-chunker.result c.new-chunker.ensures.value;
}

pub loop-place-preserved : goal.loop-place-preserved
loop-place-preserved g c = record {
  told = c.in-Ok.ensures.stays.0 ∙ c.loop-place.invariant.told;
  spare = c.in-Ok.ensures.stays.1 ∙ c.loop-place.invariant.spare;
  traced = glances_then _ _ _ c.loop-place.invariant.traced c.in-Ok.ensures.traced;
  faults = c.in-Ok.ensures.faults ∙ c.loop-place.invariant.faults;
  peer = c.in-Ok-put_piece.ensures.stays ∙ c.loop-place.invariant.peer;
  alive = ap (λ p. p.failed) c.in-Ok-put_piece.ensures.ok ∙ c.loop-place.invariant.alive;
  within = omega (arith, c.in-Ok.ensures.bound.2, c.loop-place.invariant.within);
  taking = taking_more c.args.library.now c.args.blocks.now c.loop-place.left.now c.args.lacking.now c.loop-place.lacking (g.R.Remote.sends c.args.remote.now) (g.R.Remote.sends c.loop-place.remote)
      c.loop-place.invariant.taking _ c.in-Ok-put_piece.rest.now c.put_piece.new.lacking (g.R.Remote.sends c.put_piece.new.remote) c.in-Ok-put_piece.ensures.rest c.in-Ok-put_piece.ensures.value;
  once = takes_then c.args.lacking.now c.loop-place.lacking c.put_piece.new.lacking _ _ _ c.loop-place.invariant.once c.in-Ok-put_piece.ensures.once;
  behind = λ c' bytes t a.
      let part = c.in-Ok.ensures.ok c' bytes (c.loop-place.invariant.told ∙ t) a in
      passed_more c.args.cuts bytes c.read_piece.new.buffer c.args.blocks.now c.loop-place.place c.in-Ok.count c.loop-place.chunker c.loop-place.left.now
      (c.loop-place.invariant.behind c' bytes t a) part c.put_piece.new.chunker c.in-Ok-put_piece.rest.now c.in-Ok-put_piece.ensures.ok c.in-Ok-put_piece.ensures.rest;
}

pub returns-clause-value : goal.returns-clause-value
returns-clause-value g c =
    taking_last c.args.library.now c.args.blocks.now c.loop-place.left.now c.args.lacking.now c.loop-place.lacking (g.R.Remote.sends c.args.remote.now) (g.R.Remote.sends c.loop-place.remote)
    c.loop-place.invariant.taking c.put_last.new.lacking (g.R.Remote.sends c.put_last.new.remote) c.put_last.result c.put_last.ensures.value

pub returns-clause-cause : goal.returns-clause-cause
returns-clause-cause g c = λ c' bytes t a b n.
    c.put_last.ensures.cause
    (passed_end c.args.cuts bytes c.args.blocks.now c.loop-place.place c.loop-place.chunker c.loop-place.left.now (c.loop-place.invariant.behind c' bytes t a)
    (omega (arith, n, c.loop-place.invariant.within)) b)

pub returns-clause-same : goal.returns-clause-same
returns-clause-same g c = λ c' t.
    on_ok_more c.put_last.result
    (λ last.
    passed_all c.args.cuts (at c' c.args.path.now) c.args.blocks.now c.loop-place.place c.args.size c.loop-place.chunker c.loop-place.left.now c.meet_end.new.buffer
    (c.in-Ok-meet_end.ensures.ok c' (c.loop-place.invariant.told ∙ t)) (λ bytes a. c.loop-place.invariant.behind c' bytes t a) last (omega (arith, c.loop-place.invariant.within)))
    c.put_last.ensures.rest

pub returns-clause-faults : goal.returns-clause-faults
returns-clause-faults g c = put_stays c.args.path.now _ _ c.put_last.result (c.in-Ok-meet_end.ensures.faults ∙ c.loop-place.invariant.faults) c.put_last.ensures.faults

pub returns-clause-bad : goal.returns-clause-bad
returns-clause-bad g c = put_reads c.args.path.now c.put_last.result c.put_last.ensures.faults

-- ---- the folder failed, or the file has ended

pub returns-in-Err-clause-value : goal.returns-in-Err-clause-value
returns-in-Err-clause-value g c =
    stopped_own c.args.library.now (PutsAmong (has_key c.args.lacking.now)) (PutsOff c.loop-place.invariant.taking.done c.args.lacking.now c.loop-place.lacking) _ _ c.in-Err.fault
    c.loop-place.invariant.taking.ran (file_own c.args.path.now c.in-Err.fault c.in-Err.ensures.bad)

pub returns-in-Err-clause-cause : goal.returns-in-Err-clause-cause
returns-in-Err-clause-cause g c = λ c' bytes t a b n.
    c.in-Err.ensures.cause c' bytes (c.loop-place.invariant.told ∙ t) a (ap (λ (m : ℕ). m - c.loop-place.place) n ∙ sym (length-drop c.loop-place.place bytes))

pub returns-in-Err-clause-faults : goal.returns-in-Err-clause-faults
returns-in-Err-clause-faults g c =
    subst (λ (before : ℕ). FailsBy {T = ⊤} is_folder_fault before (g.F.Folder.faults c.read_piece.new.folder) (Err c.in-Err.fault)) c.loop-place.invariant.faults c.in-Err.ensures.faults

pub returns-in-Err-clause-bad : goal.returns-in-Err-clause-bad
returns-in-Err-clause-bad g c = file_read c.args.path.now c.in-Err.fault c.in-Err.ensures.bad

-- ---- it goes on behind its last chunk

pub returns-in-Err-meet_end-clause-value : goal.returns-in-Err-meet_end-clause-value
returns-in-Err-meet_end-clause-value g c =
    stopped_own c.args.library.now (PutsAmong (has_key c.args.lacking.now)) (PutsOff c.loop-place.invariant.taking.done c.args.lacking.now c.loop-place.lacking) _ _ c.in-Err-meet_end.fault
    c.loop-place.invariant.taking.ran (file_own c.args.path.now c.in-Err-meet_end.fault c.in-Err-meet_end.ensures.bad)

pub returns-in-Err-meet_end-clause-cause : goal.returns-in-Err-meet_end-clause-cause
returns-in-Err-meet_end-clause-cause g c = λ c' bytes t a b n.
    c.in-Err-meet_end.ensures.cause c' bytes (c.loop-place.invariant.told ∙ t) a (omega (arith, n, c.loop-place.invariant.within))

pub returns-in-Err-meet_end-clause-faults : goal.returns-in-Err-meet_end-clause-faults
returns-in-Err-meet_end-clause-faults g c =
    subst (λ (before : ℕ). FailsBy {T = ⊤} is_folder_fault before (g.F.Folder.faults c.meet_end.new.folder) (Err c.in-Err-meet_end.fault)) c.loop-place.invariant.faults
    c.in-Err-meet_end.ensures.faults

pub returns-in-Err-meet_end-clause-bad : goal.returns-in-Err-meet_end-clause-bad
returns-in-Err-meet_end-clause-bad g c = file_read c.args.path.now c.in-Err-meet_end.fault c.in-Err-meet_end.ensures.bad

-- ---- an order came to nothing, or the file was changed

pub returns-in-Err-put_piece-clause-value : goal.returns-in-Err-put_piece-clause-value
returns-in-Err-put_piece-clause-value g c =
    taking_stop c.args.library.now c.args.blocks.now c.loop-place.left.now c.args.lacking.now c.loop-place.lacking _ _ c.loop-place.invariant.taking _ c.in-Err-put_piece.fault
    c.in-Err-put_piece.ensures.value

pub returns-in-Err-put_piece-clause-cause : goal.returns-in-Err-put_piece-clause-cause
returns-in-Err-put_piece-clause-cause g c = λ c' bytes t a b n.
    let part = c.in-Ok.ensures.ok c' bytes (c.loop-place.invariant.told ∙ t) a in
    let next = passed_next c.args.cuts bytes c.read_piece.new.buffer c.args.blocks.now c.loop-place.place c.in-Ok.count c.loop-place.chunker c.loop-place.left.now
    (c.loop-place.invariant.behind c' bytes t a) part b in
    c.in-Err-put_piece.ensures.cause next.0 next.1

pub returns-in-Err-put_piece-clause-faults : goal.returns-in-Err-put_piece-clause-faults
returns-in-Err-put_piece-clause-faults g c =
    put_stays {T = ⊤} c.args.path.now _ _ (Err c.in-Err-put_piece.fault) (c.in-Ok.ensures.faults ∙ c.loop-place.invariant.faults) c.in-Err-put_piece.ensures.faults

pub returns-in-Err-put_piece-clause-bad : goal.returns-in-Err-put_piece-clause-bad
returns-in-Err-put_piece-clause-bad g c = put_read c.args.path.now c.in-Err-put_piece.fault c.in-Err-put_piece.ensures.faults

-- ---- no key is sent twice

pub returns-in-Err-put_piece-clause-once : goal.returns-in-Err-put_piece-clause-once
returns-in-Err-put_piece-clause-once g c = takes_then c.args.lacking.now c.loop-place.lacking c.put_piece.new.lacking _ _ _ c.loop-place.invariant.once c.in-Err-put_piece.ensures.once

pub returns-clause-once : goal.returns-clause-once
returns-clause-once g c = takes_then c.args.lacking.now c.loop-place.lacking c.put_last.new.lacking _ _ _ c.loop-place.invariant.once c.put_last.ensures.once

-- ---- the calls

pub returns-clause-traced : goal.returns-clause-traced
returns-clause-traced g c = glances_then _ _ _ c.loop-place.invariant.traced c.in-Ok-meet_end.ensures.traced

pub returns-in-Err-clause-traced : goal.returns-in-Err-clause-traced
returns-in-Err-clause-traced g c = glances_then _ _ _ c.loop-place.invariant.traced c.in-Err.ensures.traced

pub returns-in-Err-meet_end-clause-traced : goal.returns-in-Err-meet_end-clause-traced
returns-in-Err-meet_end-clause-traced g c = glances_then _ _ _ c.loop-place.invariant.traced c.in-Err-meet_end.ensures.traced

pub returns-in-Err-put_piece-clause-traced : goal.returns-in-Err-put_piece-clause-traced
returns-in-Err-put_piece-clause-traced g c = glances_then _ _ _ c.loop-place.invariant.traced c.in-Ok.ensures.traced
