-- A link that was just made, or none.
use Rattle.std.proofs.Common.{ℕ, List, [], ◌∷◌, ◌++◌, map, refl, sym, ap, subst, ◌∙◌, append-nil}
use Rattle.remote_calls.specs.Exchange.{link_view}
use Rattle.remote_calls.specs.HttpRemote.{HasNoLink, ReadiesBy}
use Rattle.remote_calls.proofs.DialledLemmas.{dialled_none, dialled_one}
use Rattle.remote_calls.proofs.LinkCountLemmas.{readied_none, rose_in_dial, same_dial}
use Rattle.remote_calls.proofs.link_choice.dial_anew.Goals as goal

-- ---- no room for what a link gives

pub returns-in-Err-clause-err : goal.returns-in-Err-clause-err
returns-in-Err-clause-err g c = HasNoLink.no_room refl (record { no_more = refl; back_is = sym (append-nil _) }) refl

pub returns-in-Err-clause-dialled : goal.returns-in-Err-clause-dialled
returns-in-Err-clause-dialled g c = dialled_none c.args.host.now c.args.port (g.D.Dial.dialled c.args.dial.now) (g.D.Dial.dialled c.args.dial.now) refl

-- ---- a dial that failed

pub returns-in-Err-link-clause-dialled : goal.returns-in-Err-link-clause-dialled
returns-in-Err-link-clause-dialled g c =
    dialled_one c.args.host.now c.args.port (g.D.Dial.dialled c.args.dial.now) (g.D.Dial.dialled c.link.new.self)
    (c.in-Err-link.ensures.dialled ∙ ap (λ (host : List ℕ). g.D.Dial.dialled c.args.dial.now ++ (host, c.args.port) ∷ []) c.slice.ensures.value)

pub returns-in-Err-link-clause-err : goal.returns-in-Err-link-clause-err
returns-in-Err-link-clause-err g c =
    let view = link_view g.D.L.Link.left g.D.L.Link.taken g.D.L.Link.given g.D.L.Link.asked g.D.L.Link.faults in
    HasNoLink.undialled refl (record { no_more = refl; back_is = ap (map view) c.in-Err-link.ensures.stays ∙ sym (append-nil _) }) refl

pub returns-in-Err-link-clause-faults : goal.returns-in-Err-link-clause-faults
returns-in-Err-link-clause-faults g c = rose_in_dial _ _ c.in-Err-link.ensures.faults.1

-- ---- a link

pub returns-in-Ok-link-clause-dialled : goal.returns-in-Ok-link-clause-dialled
returns-in-Ok-link-clause-dialled g c =
    dialled_one c.args.host.now c.args.port (g.D.Dial.dialled c.args.dial.now) (g.D.Dial.dialled c.link.new.self)
    (c.in-Ok-link.ensures.dialled ∙ ap (λ (host : List ℕ). g.D.Dial.dialled c.args.dial.now ++ (host, c.args.port) ∷ []) c.slice.ensures.value)

pub returns-in-Ok-link-clause-ok : goal.returns-in-Ok-link-clause-ok
returns-in-Ok-link-clause-ok g c =
    let view = link_view g.D.L.Link.left g.D.L.Link.taken g.D.L.Link.given g.D.L.Link.asked g.D.L.Link.faults in
    let fresh = c.in-Ok-link.ensures.fresh in
    ReadiesBy.made (record { no_more = refl; back_is = ap (map view) c.in-Ok-link.ensures.stays ∙ sym (append-nil _) }) (record {
      taken = fresh.taken_none;
      given = fresh.given_none;
      asked = fresh.asked_none;
      no_faults = fresh.no_faults;
      unread = c.in-Ok.ensures;
      count = refl;
      over = refl;
    }) (c.in-Ok-link.link, refl, subst (λ (host : List ℕ). g.D.Dial.reaches c.in-Ok-link.link host c.args.port) c.slice.ensures.value c.in-Ok-link.ensures.told)

pub returns-in-Ok-link-clause-faults : goal.returns-in-Ok-link-clause-faults
returns-in-Ok-link-clause-faults g c =
    readied_none _ _ c.in-Ok-link.ensures.fresh.no_faults ∙ same_dial _ _ c.in-Ok-link.ensures.faults
