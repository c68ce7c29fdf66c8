-- Orders that went well, one after another. The key lemmas are went_then and goes_well.
use Rattle.std.proofs.Common.{All, List, [], ◌∷◌, ◌++◌}
use Rattle.std.proofs.lemmas.List.Elements.{All-head, All-tail}
use Rattle.remote_calls.specs.Sends.{Sent}
use Rattle.sync_rules.specs.Causes.{GoesWell, WentWell}

-- orders go well behind those that went well
pub went_then : (first later : List Sent) → All WentWell first → GoesWell later → GoesWell (first ++ later)
went_then [] later went goes = goes
went_then (sent ∷ []) [] went goes = tt
went_then (sent ∷ []) (next ∷ later) went goes = (All-head WentWell sent [] went, goes)
went_then (sent ∷ next ∷ first) later went goes =
    (All-head WentWell sent (next ∷ first) went, went_then (next ∷ first) later (All-tail WentWell sent (next ∷ first) went) goes)

-- where all went well, each but the last did
pub goes_well : (sends : List Sent) → All WentWell sends → GoesWell sends
goes_well [] went = tt
goes_well (sent ∷ []) went = tt
goes_well (sent ∷ next ∷ sends) went = (All-head WentWell sent (next ∷ sends) went, goes_well (next ∷ sends) (All-tail WentWell sent (next ∷ sends) went))
