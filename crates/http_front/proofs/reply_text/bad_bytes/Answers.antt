use Rattle.http_front.proofs.ReplyLemmas.{bad_text_else}
use Rattle.http_front.specs.ReplyText.{bad_text}
use Rattle.http_front.proofs.reply_text.bad_bytes.Goals as goal

pub returns-then-status-eq400 : goal.returns-then-status-eq400
unfolding bad_text
returns-then-status-eq400 c = rw c.if-status-eq400.true c.reason_bytes.ensures

pub returns-then-status-eq413 : goal.returns-then-status-eq413
unfolding bad_text
returns-then-status-eq413 c = rw c.if-status-eq413.true c.reason_bytes-then-status-eq413.ensures

pub returns-then-status-eq431 : goal.returns-then-status-eq431
unfolding bad_text
returns-then-status-eq431 c = rw c.if-status-eq431.true c.reason_bytes-then-status-eq431.ensures

pub returns-else-status-eq431 : goal.returns-else-status-eq431
returns-else-status-eq431 c =
    rw (bad_text_else c.args.status c.if-status-eq400.false c.if-status-eq413.false c.if-status-eq431.false) c.reason_bytes-else-status-eq431.ensures
