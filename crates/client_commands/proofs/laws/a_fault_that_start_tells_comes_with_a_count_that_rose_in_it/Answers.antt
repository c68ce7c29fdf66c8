use Rattle.remote_calls.specs.Exchange.{link_view}
use Rattle.client_commands.specs.Views.{dial_view}
use Rattle.client_commands.proofs.ToldFaultLemmas.{start_rose}
use Rattle.client_commands.proofs.laws.a_fault_that_start_tells_comes_with_a_count_that_rose_in_it.Goals as goal

pub returns : goal.returns
returns g c = λ clock conf turns old new before after status fault starts told.
    let links = dial_view (link_view g.D.N.L.Link.left g.D.N.L.Link.taken g.D.N.L.Link.given g.D.N.L.Link.asked g.D.N.L.Link.faults) g.D.N.Dial.back g.D.N.Dial.dialled in
    start_rose links (g.C.Clock.shows clock) conf turns old new before after status fault starts told
