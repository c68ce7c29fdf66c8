-- The head at the front of the buffer, or the end that the input makes there.
use Rattle.std.proofs.Common.{◌≡◌, ℕ, List, inr, length, nat_le, refl, subst, sym, ◌∙◌}
use Rattle.std.specs.Prelude.{⊤}
use Rattle.http_front.specs.declared.head.Head.{Head}
use Rattle.http_front.specs.Limits.{head_limit}
use Rattle.http_front.specs.RequestStream.{front_of}
use Rattle.http_front.proofs.StreamLemmas.{bad_status}
use Rattle.worker_server.specs.declared.reading.Look.{Look}
use Rattle.worker_server.specs.declared.reading.Look.TheVariants as look
use Rattle.worker_server.specs.RequestSteps.{BeginsBlank, IsLook, IsScanned, WantsHead}
use Rattle.worker_server.proofs.AskedLemmas.{read_later, read_whole}
use Rattle.worker_server.proofs.BlankLemmas.{blank_first, blank_longer}
use Rattle.worker_server.proofs.LookLemmas.{look_first, look_later, none_at_end}
use Rattle.worker_server.proofs.TimingLemmas.{ReadsOn-ends, ReadsOn-more, ReadsOn-none, comes_some}
use Rattle.worker_server.proofs.ReadingLemmas.{bad_end, counts_no_fault, last_ends}
use Rattle.worker_server.proofs.reading.read_head.Goals as goal

-- what was told of the front is so of the buffer
told_of : (front buffer : List ℕ) (told is : Look) → front ≡ buffer → told ≡ is → IsLook front told → IsLook buffer is
told_of front buffer told is same e h = subst (λ (z : List ℕ). IsLook z is) same (subst (λ (z : Look). IsLook front z) e h)

pub blank_lines-blank-requires : goal.blank_lines-blank-requires
blank_lines-blank-requires g c = record { part = subst (λ (z : List ℕ). BeginsBlank c.loop-now.blank z) (sym c.front-front.ensures) c.loop-now.invariant.blank }

pub look_for_head-requires : goal.look_for_head-requires
look_for_head-requires g c = record {
  known = subst (λ (z : List ℕ). IsScanned c.loop-now.seen c.loop-now.known z) (sym c.front-front.ensures) c.loop-now.invariant.scanned;
  part = c.blank_lines-blank.ensures.value;
}

pub returns-in-Ok-Head-clause-ok : goal.returns-in-Ok-Head-clause-ok
returns-in-Ok-Head-clause-ok g c =
    told_of _ _ _ (look.Head c.in-Ok-Head.head) c.front-front.ensures c.in-Ok-Head.field-0-is c.in-Ok-Head.ensures.value

pub returns-in-Ok-Bad-clause-err : goal.returns-in-Ok-Bad-clause-err
returns-in-Ok-Bad-clause-err g c = λ rest e.
    let bad = told_of _ _ _ (look.Bad c.in-Ok-Bad.status) c.front-front.ensures c.in-Ok-Bad.field-0-is c.in-Ok-Bad.ensures.value in
    bad_end c.loop-now.buffer _ rest c.in-Ok-Bad.status (c.loop-now.invariant.same ∙ e) bad

pub returns-in-Ok-Bad-clause-status : goal.returns-in-Ok-Bad-clause-status
returns-in-Ok-Bad-clause-status g c =
    let bad = told_of _ _ _ (look.Bad c.in-Ok-Bad.status) c.front-front.ensures c.in-Ok-Bad.field-0-is c.in-Ok-Bad.ensures.value in
    bad_status (front_of c.loop-now.buffer) (nat_le head_limit (length c.loop-now.buffer)) c.in-Ok-Bad.status bad

pub returns-in-Ok-eq0-clause-err : goal.returns-in-Ok-eq0-clause-err
returns-in-Ok-eq0-clause-err g c = λ rest e.
    last_ends c.fill.new.buffer _ rest c.last_end.result (c.in-Ok-eq0.ensures.to_read ∙ c.loop-now.invariant.same ∙ e) (c.in-Ok-eq0.ensures.end c.in-Ok-eq0.field-0-test) c.last_end.ensures.value

pub returns-in-Ok-eq0-clause-last : goal.returns-in-Ok-eq0-clause-last
returns-in-Ok-eq0-clause-last g c =
    read_whole c.last_end.result _ _ _ _ (λ start came. c.in-Ok-eq0.ensures.last start (c.loop-now.invariant.came start came)) c.last_end.ensures.faults

pub returns-in-Err-fill-clause-last : goal.returns-in-Err-fill-clause-last
returns-in-Err-fill-clause-last g c = read_later c.in-Err-fill.end _ _ _ _ _ _ c.loop-now.invariant.came c.in-Err-fill.ensures.last

pub returns-in-Ok-eq0-clause-faults : goal.returns-in-Ok-eq0-clause-faults
returns-in-Ok-eq0-clause-faults g c = counts_no_fault Head c.last_end.result _ _ (c.in-Ok-eq0.ensures.faults ∙ c.loop-now.invariant.faults) c.last_end.ensures.faults

pub returns-in-Err-fill-clause-err : goal.returns-in-Err-fill-clause-err
returns-in-Err-fill-clause-err g c = λ rest e. (c.in-Err-fill.ensures.err rest 0).0

-- each fill comes where no head stands in the buffer yet
pub returns-in-Ok-eq0-clause-reading : goal.returns-in-Ok-eq0-clause-reading
returns-in-Ok-eq0-clause-reading g c =
    let begun = told_of _ _ _ (look.Open c.in-Ok-Open.now) c.front-front.ensures c.in-Ok-Open.field-0-is c.in-Ok-Open.ensures.value in
    ReadsOn-more ⊤ WantsHead _ _ _ _ _ _ c.loop-now.invariant.reads (c.in-Ok-Open.now, begun) c.in-Ok-eq0.ensures.fills (inr tt)

pub returns-in-Err-fill-clause-reading : goal.returns-in-Err-fill-clause-reading
returns-in-Err-fill-clause-reading g c =
    let begun = told_of _ _ _ (look.Open c.in-Ok-Open.now) c.front-front.ensures c.in-Ok-Open.field-0-is c.in-Ok-Open.ensures.value in
    ReadsOn-more ⊤ WantsHead _ _ _ _ _ _ c.loop-now.invariant.reads (c.in-Ok-Open.now, begun) c.in-Err-fill.ensures.fills (inr tt)

-- what was read until then, where no more was asked for
pub returns-in-Ok-Bad-clause-reading : goal.returns-in-Ok-Bad-clause-reading
returns-in-Ok-Bad-clause-reading g c = ReadsOn-ends ⊤ WantsHead _ _ _ _ c.loop-now.invariant.reads

pub returns-in-Err-clause-reading : goal.returns-in-Err-clause-reading
returns-in-Err-clause-reading g c = ReadsOn-ends ⊤ WantsHead _ _ _ _ c.loop-now.invariant.reads

-- at the end of the input no head stands in the buffer still
pub last_end-requires : goal.last_end-requires
last_end-requires g c =
    let begun = told_of _ _ _ (look.Open c.in-Ok-Open.now) c.front-front.ensures c.in-Ok-Open.field-0-is c.in-Ok-Open.ensures.value in
    record {
      none = none_at_end c.loop-now.buffer c.fill.new.buffer c.in-Ok-eq0.ensures.fills.piece _ begun.none c.in-Ok-eq0.ensures.fills.grown c.in-Ok-eq0.ensures.value c.in-Ok-eq0.field-0-test;
    }

pub loop-now-init : goal.loop-now-init
loop-now-init g c = record {
  same = refl;
  reads = ReadsOn-none ⊥ WantsHead _ _;
  faults = refl;
  scanned = look_first _;
  blank = blank_first _;
  came = λ start came. came;
}

pub loop-now-preserved : goal.loop-now-preserved
loop-now-preserved g c =
    let begun = told_of _ _ _ (look.Open c.in-Ok-Open.now) c.front-front.ensures c.in-Ok-Open.field-0-is c.in-Ok-Open.ensures.value in
    let s = c.loop-now.invariant in
    let fills = c.in-Ok.ensures.fills in
    record {
      same = c.in-Ok.ensures.to_read ∙ s.same;
      reads = ReadsOn-more ⊥ WantsHead _ _ _ _ _ _ s.reads (c.in-Ok-Open.now, begun) fills (comes_some _ _ _ _ _ fills c.in-Ok.ensures.value c.in-Ok.field-0-test.1);
      faults = c.in-Ok.ensures.faults ∙ s.faults;
      scanned = subst (λ (n : ℕ). IsScanned c.in-Ok-Open.now n c.fill.new.buffer) (sym c.len-known.ensures)
          (subst (λ (z : List ℕ). IsScanned c.in-Ok-Open.now (length c.loop-now.buffer) z) (sym fills.grown) (look_later c.in-Ok-Open.now c.loop-now.buffer fills.piece begun));
      blank = subst (λ (z : List ℕ). BeginsBlank c.blank_lines-blank.result z) (sym fills.grown)
          (blank_longer c.blank_lines-blank.result c.loop-now.buffer fills.piece (subst (λ (z : List ℕ). BeginsBlank c.blank_lines-blank.result z) c.front-front.ensures c.blank_lines-blank.ensures.value));
      came = λ start came. c.in-Ok.ensures.last start (s.came start came);
    }
