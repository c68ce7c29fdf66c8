-- The port had no ears; or it was served, and they are back.
use Rattle.std.proofs.Common.{ap, refl, ◌∙◌}
use Rattle.std.specs.Prelude.{⊤}
use Rattle.link_ears.specs.Ear.{link_seen}
use Rattle.server_words.specs.declared.line.Line.TheVariants as line
use Rattle.library_server.specs.Lines.{is_storage_fault}
use Rattle.library_server.specs.Port.{opened, unopened}
use Rattle.library_server.proofs.PortLemmas.{ears_back, ears_heard, net_whole}
use Rattle.library_server.proofs.port.serve_port.Goals as goal

pub returns-in-Err-clause-serves : goal.returns-in-Err-clause-serves
returns-in-Err-clause-serves g c = unopened c.in-Err.why c.in-Err.ensures.asked c.in-Err.ensures.stays c.in-Err.ensures.faults refl (ap line.Fault c.fault_of_net.ensures.value)

pub returns-in-Err-clause-steady : goal.returns-in-Err-clause-steady
returns-in-Err-clause-steady g c = λ steady all. ap is_storage_fault c.fault_of_net.ensures.value ∙ net_whole c.in-Err.why

pub returns-clause-serves : goal.returns-clause-serves
returns-clause-serves g c =
    opened c.in-Ok.ears c.serve_ears-line.result.1 (record { count = c.in-Ok.ensures.count; told = c.in-Ok.ensures.told; fresh = c.in-Ok.ensures.fresh })
    (ears_heard g.G.S.Shelf.contents g.G.S.Shelf.may_give g.G.S.Shelf.texts g.G.S.Shelf.faults
    (record { hears = λ ear port. ⊤; tells = g.N.E.Ear.tells; back = g.N.E.Ear.back; faults = g.N.E.Ear.faults; seen = link_seen g.N.E.L.Link.left g.N.E.L.Link.taken g.N.E.L.Link.given g.N.E.L.Link.asked g.N.E.L.Link.faults })
    g.N.Net.hears (g.C.Clock.shows c.args.clock.now) _ _ _ _ _ _ _ _ c.serve_ears-line.ensures.serves)
    (c.give_back.ensures.asked ∙ c.in-Ok.ensures.asked)
    (ears_back
    (record { hears = g.N.Net.hears; tells = g.N.E.Ear.tells; back = g.N.E.Ear.back; faults = g.N.E.Ear.faults; seen = link_seen g.N.E.L.Link.left g.N.E.L.Link.taken g.N.E.L.Link.given g.N.E.L.Link.asked g.N.E.L.Link.faults })
    (record { asked = g.N.Net.asked c.args.net.now; back = g.N.Net.back c.args.net.now; faults = g.N.Net.faults c.args.net.now })
    (record { asked = g.N.Net.asked c.ears.new.self; back = g.N.Net.back c.ears.new.self; faults = g.N.Net.faults c.ears.new.self })
    (record { asked = g.N.Net.asked c.give_back.new.self; back = g.N.Net.back c.give_back.new.self; faults = g.N.Net.faults c.give_back.new.self })
    c.serve_ears-line.result.1 c.in-Ok.ensures.stays c.in-Ok.ensures.faults c.give_back.ensures.back c.give_back.ensures.faults)

pub returns-clause-steady : goal.returns-clause-steady
returns-clause-steady g c = c.serve_ears-line.ensures.steady
