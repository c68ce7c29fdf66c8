-- A library has a head.
use Rattle.depot.proofs.depot.Depot.head.Goals as goal

pub head_of-requires : goal.head_of-requires
head_of-requires g c = record { some = rw c.slice.ensures.value c.self.invariant.good.head }

pub returns : goal.returns
returns g c = record { value = rw (← c.self.view_is) (rw c.slice.ensures.value at c.head_of.ensures.value) }
