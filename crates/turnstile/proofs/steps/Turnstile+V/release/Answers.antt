use Rattle.std.proofs.Common.{rules}
use Rattle.turnstile.proofs.TurnLemmas.{releases}
use Rattle.turnstile.proofs.steps.Turnstile+V.release.Goals as goal

pub fetch_add-requires : goal.fetch_add-requires
fetch_add-requires g c =
    let held = c.requires.held in
    let parcel = held.1 in
    let stood = held.2 in
    (c.requires.own, search rules, releases _ _ _ _ _ parcel.0 stood.0 held.0 c.requires.turn.0 c.requires.turn.1 parcel.1 stood.1 parcel.2 stood.2)
