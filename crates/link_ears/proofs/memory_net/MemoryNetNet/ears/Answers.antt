-- Where the lists are as they are asked for, all ears are new.
use Rattle.std.proofs.Common.{◌≡◌, All, Global, List, Vec, subst, vec_len}
use Rattle.link_ears.proofs.memory_net.MemoryNetNet.ears.Goals as goal

pub returns-in-Ok-clause-fresh : goal.returns-in-Ok-clause-fresh
returns-in-Ok-clause-fresh g c =
    c.in-Ok.ensures.fresh c.args.connections
    (subst (λ (lists : List (Vec g.row.L.Denot Global)). All (λ links. vec_len links ≡ c.args.connections) lists) c.as_slice.ensures.value c.if-not-are_for.ensures.value.1)
