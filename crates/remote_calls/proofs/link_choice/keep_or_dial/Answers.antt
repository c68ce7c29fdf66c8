-- The link may be kept; or it went back, and another was asked for.
use Rattle.std.proofs.Common.{[], ◌∷◌, Some, None, Err, map, refl, sym, ap, ◌∙◌}
use Rattle.std.proofs.lemmas.List.{map-append}
use Rattle.std.proofs.lemmas.Result.{IfErr-weaker, IfOk-weaker}
use Rattle.remote_calls.specs.Exchange.{link_view, open_view}
use Rattle.remote_calls.specs.HttpRemote.{Reaches, ReadiesBy, links_of}
use Rattle.remote_calls.proofs.DialledLemmas.{dialled_none, dialled_then}
use Rattle.remote_calls.proofs.LinkChoiceLemmas.{WentBack, no_link_after, readies_after}
use Rattle.remote_calls.proofs.LinkCountLemmas.{given_back, readies_count}
use Rattle.remote_calls.proofs.link_choice.keep_or_dial.Goals as goal

-- ---- it may be kept

pub returns-then-keeps-clause-ok : goal.returns-then-keeps-clause-ok
returns-then-keeps-clause-ok g c = ReadiesBy.kept (record {
  is = refl;
  may = sym c.keeps.ensures.value ∙ c.if-keeps.true;
  back_is = refl;
})

pub returns-then-keeps-clause-within : goal.returns-then-keeps-clause-within
returns-then-keeps-clause-within g c = sym c.keeps.ensures.value ∙ c.if-keeps.true

pub returns-then-keeps-clause-dialled : goal.returns-then-keeps-clause-dialled
returns-then-keeps-clause-dialled g c = dialled_none c.args.host.now c.args.port (g.D.Dial.dialled c.args.dial.now) (g.D.Dial.dialled c.args.dial.now) refl

-- ---- it went back

pub returns-clause-dialled : goal.returns-clause-dialled
returns-clause-dialled g c =
    dialled_then c.args.host.now c.args.port (g.D.Dial.dialled c.args.dial.now) (g.D.Dial.dialled c.hang_up.new.self) (g.D.Dial.dialled c.dial_anew.new.dial)
    (dialled_none c.args.host.now c.args.port (g.D.Dial.dialled c.args.dial.now) (g.D.Dial.dialled c.hang_up.new.self) c.hang_up.ensures.dialled) c.dial_anew.ensures.dialled

pub returns-clause-ok : goal.returns-clause-ok
returns-clause-ok g c =
    let view = link_view g.D.L.Link.left g.D.L.Link.taken g.D.L.Link.given g.D.L.Link.asked g.D.L.Link.faults in
    let old = links_of view g.D.Dial.back g.D.Dial.faults c.args.dial.now (Some c.args.last) in
    let mid = links_of view g.D.Dial.back g.D.Dial.faults c.hang_up.new.self None in
    let over = sym c.keeps.ensures.value ∙ c.if-keeps.false in
    let went : WentBack old mid = record { none = refl; back = ap (map view) c.hang_up.ensures.back ∙ map-append view (g.D.Dial.back c.args.dial.now) (c.args.last.link ∷ []) } in
    IfOk-weaker c.dial_anew.result _ _ (λ made is. readies_after (λ link. Reaches view g.D.Dial.reaches link c.args.host.now c.args.port) old mid (open_view view made) _ over went is) c.dial_anew.ensures.ok

pub returns-clause-err : goal.returns-clause-err
returns-clause-err g c =
    let view = link_view g.D.L.Link.left g.D.L.Link.taken g.D.L.Link.given g.D.L.Link.asked g.D.L.Link.faults in
    let old = links_of view g.D.Dial.back g.D.Dial.faults c.args.dial.now (Some c.args.last) in
    let mid = links_of view g.D.Dial.back g.D.Dial.faults c.hang_up.new.self None in
    let new = links_of view g.D.Dial.back g.D.Dial.faults c.dial_anew.new.dial None in
    let over = sym c.keeps.ensures.value ∙ c.if-keeps.false in
    let went : WentBack old mid = record { none = refl; back = ap (map view) c.hang_up.ensures.back ∙ map-append view (g.D.Dial.back c.args.dial.now) (c.args.last.link ∷ []) } in
    IfErr-weaker c.dial_anew.result _ _ (λ f is. no_link_after old mid new (Err f) over went is) c.dial_anew.ensures.err

pub returns-clause-faults : goal.returns-clause-faults
returns-clause-faults g c =
    readies_count g.D.Dial.faults g.D.L.Link.faults _ _ c.dial_anew.new.dial c.dial_anew.result
    (given_back _ _ _ c.hang_up.ensures.faults) c.dial_anew.ensures.faults
