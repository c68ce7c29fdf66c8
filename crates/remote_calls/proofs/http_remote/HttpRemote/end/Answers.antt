-- The link that was kept went back behind the others.
use Rattle.std.proofs.Common.{ℕ, List, map, refl, sym, ap, subst, ◌∙◌}
use Rattle.http_front.specs.Dial.{DialsOnly}
use Rattle.remote_calls.specs.Exchange.{link_view}
use Rattle.remote_calls.specs.HttpRemote.{Reaches, first_dialled}
use Rattle.remote_calls.proofs.LinkChoiceLemmas.{went_back}
use Rattle.remote_calls.proofs.LinkCountLemmas.{ended_count}
use Rattle.remote_calls.proofs.MadeThereLemmas.{there_at_end}
use Rattle.remote_calls.proofs.SpelledLemmas.{spells_all}
use Rattle.remote_calls.proofs.http_remote.HttpRemote.end.Goals as goal

pub returns-clause-back : goal.returns-clause-back
returns-clause-back g c =
    let view = link_view g.D.L.Link.left g.D.L.Link.taken g.D.L.Link.given g.D.L.Link.asked g.D.L.Link.faults in
    rw (← c.self.view_is) (ap (map view) c.hang_up.ensures.back ∙ went_back view (g.D.Dial.back c.self.inside.dial) c.self.inside.kept)

pub returns-clause-told : goal.returns-clause-told
returns-clause-told g c =
    let view = link_view g.D.L.Link.left g.D.L.Link.taken g.D.L.Link.given g.D.L.Link.asked g.D.L.Link.faults in
    rw (← c.self.view_is) (spells_all _ _ c.self.invariant.spelled
    (ap (map view) c.hang_up.ensures.back ∙ went_back view (g.D.Dial.back c.self.inside.dial) c.self.inside.kept))

pub returns-clause-faults : goal.returns-clause-faults
returns-clause-faults g c =
    let view = link_view g.D.L.Link.left g.D.L.Link.taken g.D.L.Link.given g.D.L.Link.asked g.D.L.Link.faults in
    rw (← c.self.view_is) (ended_count g.D.L.Link.faults view (g.D.Dial.faults c.self.inside.dial) _ c.self.inside.kept (λ link. refl) c.hang_up.ensures.faults)

pub returns-clause-reached : goal.returns-clause-reached
returns-clause-reached g c =
    let view = link_view g.D.L.Link.left g.D.L.Link.taken g.D.L.Link.given g.D.L.Link.asked g.D.L.Link.faults in
    rw (← c.self.view_is) (there_at_end (Reaches view g.D.Dial.reaches) _ _ _ c.self.invariant.links.there
    (ap (map view) c.hang_up.ensures.back ∙ went_back view (g.D.Dial.back c.self.inside.dial) c.self.inside.kept))

pub returns-clause-dialled : goal.returns-clause-dialled
returns-clause-dialled g c =
    rw (← c.self.view_is) (subst (λ (now : List (List ℕ × ℕ)). DialsOnly c.self.inside.host c.self.inside.port (first_dialled g.D.Dial.dialled c.self.inside.made.items) now) (sym c.hang_up.ensures.dialled) c.self.invariant.dials)

pub returns-clause-cause : goal.returns-clause-cause
returns-clause-cause g c = rw (← c.self.view_is) c.self.invariant.links.counts
