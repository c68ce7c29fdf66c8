-- One list more is made an ear; at the end all are.
use Rattle.std.proofs.Common.{◌≡◌, All, List, arith, ap, subst, sym}
use Rattle.link_ears.specs.declared.list_ear.ListEar.{ListEar}
use Rattle.link_ears.specs.declared.memory_net.MemoryNet.{MemoryNet}
use Rattle.link_ears.proofs.EarLemmas.{IsNewList, new_more}
use Rattle.link_ears.proofs.memory_net.MemoryNet.take_ears.Goals as goal

pub loop-links-preserved : goal.loop-links-preserved
loop-links-preserved g c =
    let so = c.loop-links.invariant in
    let size = so.size in
    let room = so.room in
    let less = c.in-Some.ensures.len in
    let more = c.push_reserved.ensures.len in
    let kept = c.push_reserved.ensures.capacity in
    record {
      size = omega (arith, size, less, more);
      room = omega (arith, room, less, more, kept);
      fresh = λ connections are.
          new_more connections _ _ c.in-Some.links _ _ c.in_ok-new.field-0 c.in-Some.ensures.items (so.fresh connections are) c.in_ok-new.ensures.fresh c.push_reserved.ensures.items;
      stays = ap (λ (net : MemoryNet g.row.L.Denot). record net { rest = c.pop.new.self }) so.stays;
    }

pub returns-clause-fresh : goal.returns-clause-fresh
returns-clause-fresh g c = λ connections are.
    subst (λ (ears : List (ListEar g.row.L.Denot)). All (IsNewList connections) ears) (sym c.from_vec.ensures.value) (c.loop-links.invariant.fresh connections are).1
