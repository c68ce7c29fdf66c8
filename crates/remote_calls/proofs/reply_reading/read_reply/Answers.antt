-- Each piece comes where the bytes that are held are the beginning of a reply, and what they come to then is told.
use Rattle.std.proofs.Common.{ℕ, None, Some, Err, inr, refl, ◌∙◌}
use Rattle.std.specs.Prelude.{⊤}
use Rattle.http_client.specs.Response.{IsCut}
use Rattle.worker_server.proofs.TimingLemmas.{ReadsOn-ends, ReadsOn-more, ReadsOn-none, comes_some}
use Rattle.remote_calls.specs.declared.reply_reading.ReadReply.{ReadReply}
use Rattle.remote_calls.proofs.ExchangeLemmas.{at_end_cut, fill_asked, fill_fails, read_asked, read_fails, read_of}
use Rattle.remote_calls.proofs.SendsLemmas.{counts_after, counts_told, read_counts}
use Rattle.remote_calls.proofs.reply_reading.read_reply.Goals as goal

-- ---- a reply, or bytes that are none

pub returns-in-Ok-Some-clause-ok : goal.returns-in-Ok-Some-clause-ok
returns-in-Ok-Some-clause-ok g c =
    read_of c.args.order.now.what _ _ _ (Some c.in-Ok-Some.reply) c.front.ensures c.in-Ok-Some.field-0-is c.in-Ok-Some.ensures.value

pub returns-in-Err-clause-err : goal.returns-in-Err-clause-err
returns-in-Err-clause-err g c = read_fails c.args.order.now.what _ _ _ c.in-Err.fault c.front.ensures c.in-Err.ensures.value

pub returns-in-Err-clause-reads : goal.returns-in-Err-clause-reads
returns-in-Err-clause-reads g c = ReadsOn-ends ⊤ (IsCut c.args.order.now.what) _ _ _ _ c.loop-reply.invariant.reads

pub returns-in-Err-clause-last : goal.returns-in-Err-clause-last
returns-in-Err-clause-last g c = read_asked c.args.order.now.what _ _ _ c.in-Err.fault c.in-Err.ensures.value

pub returns-in-Err-clause-faults : goal.returns-in-Err-clause-faults
returns-in-Err-clause-faults g c = read_counts ReadReply c.args.order.now.what _ _ _ c.in-Err.fault c.loop-reply.invariant.faults c.in-Err.ensures.value

-- ---- the end of input

pub returns-in-Ok-eq0-clause-err : goal.returns-in-Ok-eq0-clause-err
returns-in-Ok-eq0-clause-err g c =
    at_end_cut c.args.order.now.what _ _ _ _ _ _ _ _ c.front.ensures (read_of c.args.order.now.what _ _ _ None refl c.in-Ok-None.field-0-is c.in-Ok-None.ensures.value)
    c.in-Ok-eq0.ensures.fills c.in-Ok-eq0.ensures.value c.in-Ok-eq0.field-0-test c.in-Ok-eq0.ensures.end c.len-held.ensures

pub returns-in-Ok-eq0-clause-reads : goal.returns-in-Ok-eq0-clause-reads
returns-in-Ok-eq0-clause-reads g c =
    let cut = read_of c.args.order.now.what _ _ _ None c.front.ensures c.in-Ok-None.field-0-is c.in-Ok-None.ensures.value in
    ReadsOn-more ⊤ (IsCut c.args.order.now.what) _ _ _ _ _ _ c.loop-reply.invariant.reads cut c.in-Ok-eq0.ensures.fills (inr tt)

pub returns-in-Ok-eq0-clause-faults : goal.returns-in-Ok-eq0-clause-faults
returns-in-Ok-eq0-clause-faults g c = c.in-Ok-eq0.ensures.faults ∙ c.loop-reply.invariant.faults

-- ---- a piece that did not come

pub returns-in-Err-fill-clause-err : goal.returns-in-Err-fill-clause-err
returns-in-Err-fill-clause-err g c = fill_fails c.args.order.now.what _ _ c.in-Err-fill.fault c.in-Err-fill.ensures.cause

pub returns-in-Err-fill-clause-reads : goal.returns-in-Err-fill-clause-reads
returns-in-Err-fill-clause-reads g c =
    let cut = read_of c.args.order.now.what _ _ _ None c.front.ensures c.in-Ok-None.field-0-is c.in-Ok-None.ensures.value in
    ReadsOn-more ⊤ (IsCut c.args.order.now.what) _ _ _ _ _ _ c.loop-reply.invariant.reads cut c.in-Err-fill.ensures.fills (inr tt)

pub returns-in-Err-fill-clause-last : goal.returns-in-Err-fill-clause-last
returns-in-Err-fill-clause-last g c =
    fill_asked (IsCut c.args.order.now.what) _ _ _ _ _ c.in-Err-fill.fault c.loop-reply.invariant.reads c.in-Err-fill.ensures.last

pub returns-in-Err-fill-clause-faults : goal.returns-in-Err-fill-clause-faults
returns-in-Err-fill-clause-faults g c =
    counts_told ℕ ReadReply _ _ c.in-Err-fill.fault (counts_after {T = ℕ} _ _ _ (Err c.in-Err-fill.fault) c.loop-reply.invariant.faults c.in-Err-fill.ensures.faults)

-- ---- the loop

pub loop-reply-init : goal.loop-reply-init
loop-reply-init g c = record { same = refl; reads = ReadsOn-none ⊥ (IsCut c.args.order.now.what) _ _; faults = refl }

pub loop-reply-preserved : goal.loop-reply-preserved
loop-reply-preserved g c =
    let s = c.loop-reply.invariant in
    let cut = read_of c.args.order.now.what _ _ _ None c.front.ensures c.in-Ok-None.field-0-is c.in-Ok-None.ensures.value in
    record {
      same = c.in-Ok.ensures.to_read ∙ s.same;
      reads = ReadsOn-more ⊥ (IsCut c.args.order.now.what) _ _ _ _ _ _ s.reads cut c.in-Ok.ensures.fills
          (comes_some _ _ _ _ _ c.in-Ok.ensures.fills c.in-Ok.ensures.value c.in-Ok.field-0-test.1);
      faults = c.in-Ok.ensures.faults ∙ s.faults;
    }
