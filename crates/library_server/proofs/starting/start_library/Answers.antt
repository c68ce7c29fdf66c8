-- What was opened, without its count.
use Rattle.library_server.proofs.starting.start_library.Goals as goal

pub returns-in-Err-clause-shown : goal.returns-in-Err-clause-shown
returns-in-Err-clause-shown g c = c.in-Err.ensures.shown

pub returns-in-Err-clause-back : goal.returns-in-Err-clause-back
returns-in-Err-clause-back g c = c.in-Err.ensures.back

pub returns-in-Err-clause-others : goal.returns-in-Err-clause-others
returns-in-Err-clause-others g c = c.in-Err.ensures.others

pub returns-in-Err-clause-cause : goal.returns-in-Err-clause-cause
returns-in-Err-clause-cause g c = c.in-Err.ensures.cause

pub returns-in-Err-clause-faults : goal.returns-in-Err-clause-faults
returns-in-Err-clause-faults g c = c.in-Err.ensures.faults

pub returns-in-Err-clause-steady : goal.returns-in-Err-clause-steady
returns-in-Err-clause-steady g c = c.in-Err.ensures.steady

pub returns-clause-any : goal.returns-clause-any
returns-clause-any g c = c.in-Ok.ensures.any

pub returns-clause-gives : goal.returns-clause-gives
returns-clause-gives g c = c.in-Ok.ensures.gives

pub returns-clause-settled : goal.returns-clause-settled
returns-clause-settled g c = c.in-Ok.ensures.settled

pub returns-clause-lying : goal.returns-clause-lying
returns-clause-lying g c = c.in-Ok.ensures.lying

pub returns-clause-shown : goal.returns-clause-shown
returns-clause-shown g c = c.in-Ok.ensures.shown

pub returns-clause-back : goal.returns-clause-back
returns-clause-back g c = c.in-Ok.ensures.back

pub returns-clause-others : goal.returns-clause-others
returns-clause-others g c = c.in-Ok.ensures.others

pub returns-clause-steady : goal.returns-clause-steady
returns-clause-steady g c = c.in-Ok.ensures.steady

pub returns-clause-good : goal.returns-clause-good
returns-clause-good g c = c.in-Ok.ensures.good

pub returns-clause-count : goal.returns-clause-count
returns-clause-count g c = c.in-Ok.ensures.count
