-- The operations of the requests of a connection are those that its calls left, in their order.
use Rattle.std.proofs.Common.{List, [], ◌∷◌, refl}
use Rattle.worker_server.specs.Calls.{HostRules, Leaves}
use Rattle.worker_server.specs.ServedConnection.{Answers, Exchange, Run, operations_in}
use Rattle.worker_server.proofs.CallLemmas.{Leaves-append, Serves-leaves}

module _ {V Operation : Type 0} (rules : HostRules V Operation) where
  pub Answers-leaves : (u : V) (x : Exchange Operation) (v : V) → Answers rules u x v → Leaves rules u x.operations v
  Answers-leaves u x v (secret, shown, tag, names, serves) = Serves-leaves rules u _ x.outcome x.operations v serves

  pub Run-leaves : (u : V) (xs : List (Exchange Operation)) (v : V) → Run rules u xs v → Leaves rules u (operations_in xs) v
  Run-leaves u [] v same = ([], same, refl)
  Run-leaves u (x ∷ xs) v (mid, first, more) =
      Leaves-append rules u mid v x.operations (operations_in xs) (Answers-leaves u x mid first) (Run-leaves mid xs v more)
