-- The link that is kept is that of the last send.
use Rattle.std.proofs.Common.{sym}
use Rattle.remote_calls.proofs.link_choice.ready_link.Goals as goal

pub returns-in-Some-clause-ok : goal.returns-in-Some-clause-ok
returns-in-Some-clause-ok g c = rw (sym c.in-Some.ensures.value) c.keep_or_dial.ensures.ok

pub returns-in-Some-clause-err : goal.returns-in-Some-clause-err
returns-in-Some-clause-err g c = rw (sym c.in-Some.ensures.value) c.keep_or_dial.ensures.err

pub returns-in-Some-clause-faults : goal.returns-in-Some-clause-faults
returns-in-Some-clause-faults g c = rw (sym c.in-Some.ensures.value) c.keep_or_dial.ensures.faults

pub returns-in-None-clause-ok : goal.returns-in-None-clause-ok
returns-in-None-clause-ok g c = rw (sym c.in-None.ensures.value) c.dial_anew.ensures.ok

pub returns-in-None-clause-err : goal.returns-in-None-clause-err
returns-in-None-clause-err g c = rw (sym c.in-None.ensures.value) c.dial_anew.ensures.err

pub returns-in-None-clause-faults : goal.returns-in-None-clause-faults
returns-in-None-clause-faults g c = rw (sym c.in-None.ensures.value) c.dial_anew.ensures.faults
