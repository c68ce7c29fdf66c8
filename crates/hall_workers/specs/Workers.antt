-- What workers do: the links that each had, and why each stopped. Our own. Read Had, InTurn and Works, then Stops.
-- Read before: EarTells of `link_ears`.
use Rattle.std.specs.Prelude.{◌≡◌, ℕ, ◌+◌, List, [], ◌∷◌, ◌++◌, length, map as map_list, true, Option, None, Some}
use Rattle.ids.specs.FaultCount.{Rose}
use Rattle.link_ears.specs.Ear.{EarTells, LinkView}
use Rattle.worker_server.specs.declared.served.Served.{Served}
use Rattle.hall_workers.specs.declared.worker.Ending.{Ending}
use Rattle.hall_workers.specs.declared.worker.Ending.TheVariants as ending
use Rattle.hall_workers.specs.declared.worker.Worker.{Worker}

-- a link that a worker had: as its ear gave it, how it was served, and as the ear got it back
pub record Had (L : Type 0) : Type 0 where
  pub came : L
  pub how : Served
  pub went : L

abbrev pub came_of : {L : Type 0} → Had L → L
came_of had = had.came

abbrev pub how_of : {L : Type 0} → Had L → Served
how_of had = had.how

abbrev pub back_of : {L : Type 0} → Had L → L × Served
back_of had = (had.went, had.how)

-- these links were served one after another, the first through a pass as it was, each next one through the pass as the link before left it
abbrev pub InTurn : {P L : Type 0} → (P → LinkView → Served → LinkView → P → Type 0) → (L → LinkView) → P → List (Had L) → P → Type 0
InTurn serves seen u [] v = v ≡ u
InTurn {P} serves seen u (had ∷ more) v = (mid : P) × serves u (seen had.came) had.how (seen had.went) mid × InTurn serves seen mid more v

-- what is seen of a worker: its pass, what its ear tells, and how its links ended
pub record WorkerView (P L : Type 0) : Type 0 where
  pub pass : P
  pub tells : EarTells L
  pub back : List (L × Served)
  pub faults : ℕ
  pub served : List Served

abbrev pub worker_seen : {P E L : Type 0} → (E → EarTells L) → (E → List (L × Served)) → (E → ℕ) → Worker P E → WorkerView P L
worker_seen tells back faults worker = record { pass = worker.pass; tells = tells worker.ear; back = back worker.ear; faults = faults worker.ear; served = worker.served.items }

-- the worker had these links, and no others: its ear gave each and got it back, in order, with how it ended, which the worker keeps; and
-- its pass went from one to the next
pub record Works {P L : Type 0} (serves : P → LinkView → Served → LinkView → P → Type 0) (seen : L → LinkView) (old new : WorkerView P L) : Type 0 where
  pub had : List (Had L)
  pub gave : new.tells.gave ≡ old.tells.gave ++ map_list came_of had
  pub left : new.tells.left + length had ≡ old.tells.left
  pub back : new.back ≡ old.back ++ map_list back_of had
  pub served : new.served ≡ old.served ++ map_list how_of had
  pub through : InTurn serves seen old.pass had new.pass

-- why it stopped: its ear has no links left and said so; its ear failed; or there was no memory to take another link. It never ends idle.
-- An ear that failed, or wasn't asked any more, said nothing
abbrev pub Stops : {P L : Type 0} → WorkerView P L → Ending → WorkerView P L → Type 0
Stops old ending.Idle new = ⊥
Stops old ending.Ended new = (new.tells.left ≡ 0) × (new.tells.over ≡ true) × (new.faults ≡ old.faults)
Stops old ending.EarFault new = Rose old.faults new.faults × (new.tells.over ≡ old.tells.over)
Stops old ending.NoMemory new = (new.faults ≡ old.faults) × (new.tells.over ≡ old.tells.over)

-- ---- for private clauses

-- a link that was given was served, and came back
pub record ServesGiven {P L : Type 0} (serves : P → LinkView → Served → LinkView → P → Type 0) (seen : L → LinkView) (old : WorkerView P L) (link : L) (new : WorkerView P L) : Type 0 where
  pub how : Served
  pub went : L
  pub tells : new.tells ≡ old.tells
  pub back : new.back ≡ old.back ++ (went, how) ∷ []
  pub served : new.served ≡ old.served ++ how ∷ []
  pub faults : new.faults ≡ old.faults
  pub by : serves old.pass (seen link) how (seen went) new.pass

-- a link more was served
pub record ServesOne {P L : Type 0} (serves : P → LinkView → Served → LinkView → P → Type 0) (seen : L → LinkView) (old new : WorkerView P L) : Type 0 where
  pub one : Had L
  pub gave : new.tells.gave ≡ old.tells.gave ++ one.came ∷ []
  pub left : new.tells.left + 1 ≡ old.tells.left
  pub over : new.tells.over ≡ old.tells.over
  pub back : new.back ≡ old.back ++ (one.went, one.how) ∷ []
  pub served : new.served ≡ old.served ++ one.how ∷ []
  pub faults : new.faults ≡ old.faults
  pub by : serves old.pass (seen one.came) one.how (seen one.went) new.pass

-- no link more was served, and the worker stops
pub record StopsNow {P L : Type 0} (old : WorkerView P L) (why : Ending) (new : WorkerView P L) : Type 0 where
  pub gave : new.tells.gave ≡ old.tells.gave
  pub left : new.tells.left ≡ old.tells.left
  pub back : new.back ≡ old.back
  pub served : new.served ≡ old.served
  pub pass : new.pass ≡ old.pass
  pub stops : Stops old why new

-- a link more was served where it goes on
abbrev pub GoesOn : {P L : Type 0} → (P → LinkView → Served → LinkView → P → Type 0) → (L → LinkView) → WorkerView P L → Option Ending → WorkerView P L → Type 0
GoesOn serves seen old None new = ServesOne serves seen old new
GoesOn serves seen old (Some why) new = StopsNow old why new

-- it worked so far, and nothing stops it
pub record WorksYet {P L : Type 0} (serves : P → LinkView → Served → LinkView → P → Type 0) (seen : L → LinkView) (old new : WorkerView P L) : Type 0 where
  pub works : Works serves seen old new
  pub over : new.tells.over ≡ old.tells.over
  pub faults : new.faults ≡ old.faults
