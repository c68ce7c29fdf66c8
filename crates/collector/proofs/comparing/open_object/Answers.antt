use Rattle.collector.proofs.ComparingLemmas.{fails_by_store}
use Rattle.collector.proofs.OpeningLemmas.{opens_beside}
use Rattle.collector.proofs.comparing.open_object.Goals as goal

pub open_fs-requires : goal.open_fs-requires
open_fs-requires g c = record { ready = c.requires.fits }

pub returns-in-Ok-clause-value : goal.returns-in-Ok-clause-value
returns-in-Ok-clause-value g c = λ objects all told with older newer complete settled.
    opens_beside objects all older newer c.args.key.now c.args.compared.now c.open_fs.new.compared c.open.new.self complete settled c.requires.ready
    (c.in-Ok.ensures.value objects all told with) c.open.ensures.value

pub returns-in-Err-clause-cause : goal.returns-in-Err-clause-cause
returns-in-Err-clause-cause g c = λ objects all told with older newer complete settled.
    fails_by_store objects all older newer c.args.key.now c.args.compared.now c.in-Err.fault complete settled c.requires.ready c.requires.fits
    (c.in-Err.ensures.cause objects all told with)
