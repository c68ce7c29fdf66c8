-- What an ear tells of the links that it gives, and what the ears of a net are. Our own. Read LinkView and EarTells, then Accepts, IsNewEar.
use Rattle.std.specs.Prelude.{ℕ, ◌≡◌, ◌-◌, ◌<◌, Bool, true, false, All, List, [], ◌∷◌, ◌++◌, length, map, Option, Some, None, Result, Ok, Err}
use Rattle.ids.specs.FaultCount.{FailsBy}
use Rattle.http_front.specs.Dial.{count_sum}
use Rattle.http_front.specs.Link.{Asked, LinkTells, told_by}
use Rattle.http_front.specs.declared.link.LinkFailed.{LinkFailed}
use Rattle.worker_server.specs.declared.served.Served.{Served}
use Rattle.link_ears.specs.declared.net.NetFault.{NetFault}
use Rattle.link_ears.specs.declared.net.NetFault.TheVariants as fault

-- what is seen of a link: the bytes that it has left, what it tells of those that it moved, and its count of faults
pub record LinkView : Type 0 where
  pub left : Option (List ℕ)
  pub tells : LinkTells
  pub faults : ℕ

abbrev pub link_seen : {L : Type 0} → (left taken given : L → Option (List ℕ)) → (L → Option (List Asked)) → (L → ℕ) → L → LinkView
link_seen left taken given asked faults link = record { left = left link; tells = told_by taken given asked link; faults = faults link }

-- `gave` are the links that it gave so far, each as it was then, in order. `left` is how many more it gives, and `over`
-- whether it said that no more come
pub record EarTells (L : Type 0) : Type 0 where
  pub gave : List L
  pub left : ℕ
  pub over : Bool

-- one link more is given and one less is left; or it is said that none comes, which is so exactly where none is left; a
-- failure changes nothing
abbrev pub Accepts : {L : Type 0} → EarTells L → EarTells L → Result (Option L) LinkFailed → Type 0
Accepts old new (Ok (Some link)) = (0 < old.left) × (new ≡ record old { gave = old.gave ++ link ∷ []; left = old.left - 1 })
Accepts old new (Ok None) = (old.left ≡ 0) × (new ≡ record old { over = true })
Accepts old new (Err failed) = new ≡ old

-- an ear as it is made, which gives this many links: it gave none and took none back, and none of its calls failed
pub record IsNewEar {L : Type 0} (tells : EarTells L) (back : List (L × Served)) (faults count : ℕ) : Type 0 where
  pub told : tells ≡ record { gave = []; left = count; over = false }
  pub none_back : back ≡ []
  pub no_faults : faults ≡ 0

-- the fault that a net's count tells
abbrev pub is_link_fault : NetFault → Bool
is_link_fault fault.Link = true
is_link_fault fault.NoMemory = false

-- a fault but want of memory comes only where the net's count rose; in every other call it stays
abbrev pub NetFails : {T : Type 0} → ℕ → ℕ → Result T NetFault → Type 0
NetFails before now result = FailsBy is_link_fault before now result

-- a count with those of the ears that came back
abbrev pub counts_sum : ℕ → List ℕ → ℕ
counts_sum count [] = count
counts_sum count (n ∷ more) = counts_sum (count_sum count n) more

-- ---- for who runs a server

-- what the ears of a net tell: where they hear, their links, which came back, their counts of faults, and what is seen of a link
pub record EarRules (E L : Type 0) : Type 1 where
  pub hears : E → ℕ → Type 0
  pub tells : E → EarTells L
  pub back : E → List (L × Served)
  pub faults : E → ℕ
  pub seen : L → LinkView

-- what is seen of a net: the ports that it was asked for, each with how many workers and connections of each, and what came back
pub record NetView (E : Type 0) : Type 0 where
  pub asked : List (ℕ × (ℕ × ℕ))
  pub back : List E
  pub faults : ℕ

-- as many ears of a port as there are workers, each of which gave nothing yet and has so many connections left
pub record AreEars {E L : Type 0} (rules : EarRules E L) (port workers connections : ℕ) (ears : List E) : Type 0 where
  pub count : length ears ≡ workers
  pub told : All (λ ear. rules.hears ear port) ears
  pub fresh : All (λ ear. IsNewEar (rules.tells ear) (rules.back ear) (rules.faults ear) connections) ears

-- these ears came back, with their faults
abbrev pub TakesEars : {E L : Type 0} → EarRules E L → NetView E → List E → NetView E → Type 0
TakesEars rules before ears now = (now.back ≡ before.back ++ ears) × (now.faults ≡ counts_sum before.faults (map rules.faults ears))
