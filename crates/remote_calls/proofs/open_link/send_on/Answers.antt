-- The request was given whole, and then its reply was read; or a front of it alone was given.
use Rattle.std.proofs.Common.{Err, refl, ap, ◌∙◌, arith}
use Rattle.http_front.specs.Buffer.{to_read}
use Rattle.http_front.specs.Link.{told_by}
use Rattle.http_front.specs.declared.outcome.Outcome.{Outcome}
use Rattle.remote_calls.specs.Exchange.{Exchanges}
use Rattle.remote_calls.specs.declared.reply_reading.ReadReply.{ReadReply}
use Rattle.remote_calls.proofs.ExchangeLemmas.{fails_cause, used_there, whole_can}
use Rattle.remote_calls.proofs.LinkChoiceLemmas.{count_fits}
use Rattle.remote_calls.proofs.SendsLemmas.{counts_after, counts_told}
use Rattle.remote_calls.proofs.open_link.send_on.Goals as goal

-- there are fewer than 9,000 so far
pub overflow_add-chosen : goal.overflow_add-chosen
overflow_add-chosen g c =
    let few = count_fits c.args.chosen.now.over c.args.chosen.now.count c.requires.within in
    omega (arith, few)

-- ---- a request that was not given whole

pub returns-in-Err-clause-value : goal.returns-in-Err-clause-value
returns-in-Err-clause-value g c = Exchanges.cut_off refl (record {
  is = refl;
  given = c.in-Err.ensures.given;
  taken = c.in-Err.ensures.stays_taken;
  asked = c.in-Err.ensures.stays_asked;
  left = c.in-Err.ensures.stays_left;
  unread = refl;
  over = refl;
})

pub returns-in-Err-clause-faults : goal.returns-in-Err-clause-faults
returns-in-Err-clause-faults g c = c.in-Err.ensures.faults.1

-- ---- a reply that was not read

pub returns-in-Err-read_reply-clause-value : goal.returns-in-Err-read_reply-clause-value
returns-in-Err-read_reply-clause-value g c = Exchanges.given refl (record {
  between = told_by g.L.Link.taken g.L.Link.given g.L.Link.asked c.give.new.self;
  given = c.in-Ok.ensures.given;
  taken = c.in-Ok.ensures.stays_taken;
  asked = c.in-Ok.ensures.stays_asked;
  held = c.read_reply.new.buffer;
  reads = c.in-Err-read_reply.ensures.reads;
  ahead = c.in-Err-read_reply.ensures.to_read ∙ ap (to_read c.args.chosen.now.buffer) c.in-Ok.ensures.stays_left;
  comes = (c.in-Err-read_reply.ensures.err, refl, refl);
  last = c.in-Err-read_reply.ensures.last;
})

pub returns-in-Err-read_reply-clause-cause : goal.returns-in-Err-read_reply-clause-cause
returns-in-Err-read_reply-clause-cause g c = fails_cause c.args.order.now.what _ _ c.in-Err-read_reply.fault c.in-Err-read_reply.ensures.err

pub returns-in-Err-read_reply-clause-faults : goal.returns-in-Err-read_reply-clause-faults
returns-in-Err-read_reply-clause-faults g c =
    counts_told ReadReply Outcome _ _ c.in-Err-read_reply.fault (counts_after {T = ReadReply} _ _ _ (Err c.in-Err-read_reply.fault) c.in-Ok.ensures.faults c.in-Err-read_reply.ensures.faults)

-- ---- a reply

pub skip-requires : goal.skip-requires
skip-requires g c = used_there c.args.order.now.what _ _ _ _ c.in-Ok-read_reply.ensures.ok

pub returns-clause-told : goal.returns-clause-told
returns-clause-told g c = whole_can c.args.order.now.what _ _ _ _ c.in-Ok-read_reply.ensures.ok

pub returns-clause-value : goal.returns-clause-value
returns-clause-value g c = Exchanges.given refl (record {
  between = told_by g.L.Link.taken g.L.Link.given g.L.Link.asked c.give.new.self;
  given = c.in-Ok.ensures.given;
  taken = c.in-Ok.ensures.stays_taken;
  asked = c.in-Ok.ensures.stays_asked;
  held = c.read_reply.new.buffer;
  reads = c.in-Ok-read_reply.ensures.reads;
  ahead = c.in-Ok-read_reply.ensures.to_read ∙ ap (to_read c.args.chosen.now.buffer) c.in-Ok.ensures.stays_left;
  comes = (c.in-Ok-read_reply.reply.used, c.in-Ok-read_reply.ensures.ok, c.skip.ensures);
  last = tt;
})

pub returns-clause-faults : goal.returns-clause-faults
returns-clause-faults g c = c.in-Ok-read_reply.ensures.faults ∙ c.in-Ok.ensures.faults
