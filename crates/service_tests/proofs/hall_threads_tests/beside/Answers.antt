-- What of a hall crosses to the other thread: a reference to the hall, a pass, and a reference to a call. The key lemmas are hall_sync
-- and pass_send, over variables: over the rows themselves no lemma fits.
use denote.Param.Send.{sendable}
use Rattle.depot.proofs.depot.Depot.TheSendSync as depot
use Rattle.hall_workers.proofs.CrossingLemmas.{hall_sync, parcel_send, pass_send}
use Rattle.library_state.proofs.call.Call.TheSendSync as call
use Rattle.turnstile.proofs.seated.Seated.TheSendSync as seated
use Rattle.sync_calls.proofs.hall.Exit.TheSendSync as exit
use Rattle.sync_calls.proofs.hall.Passes.TheSendSync as passes
use Rattle.service_tests.proofs.hall_threads_tests.beside.Goals as goal

pub join-first-requires-send-F : goal.join-first-requires-send-F
join-first-requires-send-F g c κs within = search (hall_sync, pass_send, parcel_send, exit.the_send, depot.the_send, call.the_sync, sendable) depth 40 fits 20000

pub join-first-requires-send-A : goal.join-first-requires-send-A
join-first-requires-send-A g c κs = search (passes.the_send, seated.the_send, parcel_send, exit.the_send, depot.the_send, sendable) depth 20
