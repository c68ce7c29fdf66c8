use Rattle.std.proofs.Common.{sym, subst}
use Rattle.tree_walk.specs.KnownTrees.{Fits, KnownView}
use Rattle.tree_walk.proofs.KnownTreesLemmas.{fits_nothing}
use Rattle.tree_walk.proofs.reaching.check_anew.Goals as goal

pub check-requires : goal.check-requires
check-requires g c = record { known = λ objects told. subst (λ (known : KnownView). Fits objects known) (sym c.new-known.ensures.value) (fits_nothing objects) }
