-- A fill that failed ends the body as it ends the head, and each fill comes where bytes of the body are wanted.
use Rattle.std.proofs.Common.{ℕ, ◌+◌, ◌-◌, ◌<◌, ◌≤◌, inr, length, subst, ◌∙◌, arith}
use Rattle.std.specs.Prelude.{⊤}
use Rattle.worker_server.specs.RequestSteps.{WantsBytes}
use Rattle.worker_server.proofs.AskedLemmas.{read_later}
use Rattle.worker_server.proofs.TimingLemmas.{ReadsOn-more, comes_some, wants_bytes}
use Rattle.worker_server.proofs.reading.read_body.Goals as goal

pub returns-in-Err-clause-err : goal.returns-in-Err-clause-err
returns-in-Err-clause-err g c = λ rest e. (c.in-Err.ensures.err rest (c.args.used + c.args.body)).1

pub returns-in-Ok-eq0-clause-reading : goal.returns-in-Ok-eq0-clause-reading
returns-in-Ok-eq0-clause-reading g c =
    let s = c.loop-link.invariant in
    let short : length c.loop-link.buffer - c.args.used < c.args.body = subst (λ (n : ℕ). n - c.args.used < c.args.body) c.len.ensures c.loop-link-test.true in
    ReadsOn-more ⊤ (WantsBytes (c.args.used + c.args.body)) _ _ _ _ _ _ s.reads (wants_bytes c.loop-link.buffer c.args.used c.args.body s.fits short) c.in-Ok-eq0.ensures.fills (inr tt)

pub returns-in-Err-clause-reading : goal.returns-in-Err-clause-reading
returns-in-Err-clause-reading g c =
    let s = c.loop-link.invariant in
    let short : length c.loop-link.buffer - c.args.used < c.args.body = subst (λ (n : ℕ). n - c.args.used < c.args.body) c.len.ensures c.loop-link-test.true in
    ReadsOn-more ⊤ (WantsBytes (c.args.used + c.args.body)) _ _ _ _ _ _ s.reads (wants_bytes c.loop-link.buffer c.args.used c.args.body s.fits short) c.in-Err.ensures.fills (inr tt)

pub loop-link-preserved : goal.loop-link-preserved
loop-link-preserved g c =
    let s = c.loop-link.invariant in
    let short : length c.loop-link.buffer - c.args.used < c.args.body = subst (λ (n : ℕ). n - c.args.used < c.args.body) c.len.ensures c.loop-link-test.true in
    let grown : c.args.used ≤ length c.fill.new.buffer = omega (arith, s.fits, c.in-Ok.ensures.value) in
    record {
      fits = grown;
      same = c.in-Ok.ensures.to_read ∙ s.same;
      reads = ReadsOn-more ⊥ (WantsBytes (c.args.used + c.args.body)) _ _ _ _ _ _ s.reads (wants_bytes c.loop-link.buffer c.args.used c.args.body s.fits short) c.in-Ok.ensures.fills
          (comes_some _ _ _ _ _ c.in-Ok.ensures.fills c.in-Ok.ensures.value c.in-Ok.field-0-test.1);
      faults = c.in-Ok.ensures.faults ∙ s.faults;
      came = λ start came. c.in-Ok.ensures.last start (s.came start came);
    }

pub returns-in-Err-clause-last : goal.returns-in-Err-clause-last
returns-in-Err-clause-last g c = read_later c.in-Err.end _ _ _ _ _ _ c.loop-link.invariant.came c.in-Err.ensures.last
