-- A remote that was sent nothing.
use Rattle.std.proofs.Common.{None, refl, sym, ap}
use Rattle.remote_calls.specs.Exchange.{link_view}
use Rattle.remote_calls.specs.HttpRemote.{Reaches, first_count, remote_of, start_of}
use Rattle.remote_calls.proofs.DialledLemmas.{dialled_first}
use Rattle.remote_calls.proofs.LinksToldLemmas.{tells_first}
use Rattle.remote_calls.proofs.SpelledLemmas.{made_one, spelled_first}
use Rattle.remote_calls.proofs.http_remote.HttpRemote.new.Goals as goal

pub invariant_of-result : goal.invariant_of-result
invariant_of-result g c =
    let view = link_view g.D.L.Link.left g.D.L.Link.taken g.D.L.Link.given g.D.L.Link.asked g.D.L.Link.faults in
    let made = made_one c.and-made.result.items c.new.result.items c.args.dial c.and-made.ensures c.new.ensures in
    record {
      name = c.requires.name;
      spelled = spelled_first _ c.new-2.ensures refl (sym (ap (start_of view g.D.Dial.back) made));
      links = tells_first (Reaches view g.D.Dial.reaches) _ c.new-2.ensures refl (sym (ap (start_of view g.D.Dial.back) made)) (sym (ap (first_count g.D.Dial.faults) made));
      dials = dialled_first g.D.Dial.dialled c.args.host c.args.port c.args.dial c.and-made.result.items made;
    }

pub returns : goal.returns
returns g c =
    let view = link_view g.D.L.Link.left g.D.L.Link.taken g.D.L.Link.given g.D.L.Link.asked g.D.L.Link.faults in
    let made = made_one c.and-made.result.items c.new.result.items c.args.dial c.and-made.ensures c.new.ensures in
    record { value = λ i. remote_of view g.D.Dial.back g.D.Dial.dialled g.D.Dial.faults c.args.host c.args.port c.args.dial None (made i) (c.new-2.ensures i) }
