use Rattle.std.proofs.Common.{None}
use Rattle.tree_merge.proofs.merging.nothing_yet.Goals as goal

pub returns : goal.returns
returns c = record { value = λ i. record { made = c.new.ensures.value i; copies = c.new-2.ensures.value i; long = None; stop = None } }
