-- The entries of a map are what its iterator yields.
use Rattle.std.proofs.Common.{List, length, ap}
use Rattle.std.specs.Map.Iter.{TakesFirst, deref_pair}
use Rattle.std.proofs.lemmas.Iterator.{YieldsList}
use Rattle.std.proofs.lemmas.Iterator.Consumers.{YieldsList-from_shown}

pub listed : {K X : Type 0} (s : List (K × X)) → YieldsList (TakesFirst deref_pair) deref_pair s s
listed s = YieldsList-from_shown (TakesFirst deref_pair) deref_pair (λ s. s) (λ s t step. ap length step.0) (λ s x t step. step) s
