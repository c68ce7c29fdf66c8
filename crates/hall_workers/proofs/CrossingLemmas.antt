-- What of a hall crosses to threads: it is shared, and its passes go to them. The key lemmas are hall_sync, parcel_send and pass_send.
use denote.RattleType.{RattleType}
use denote.Param.Send.{IsSend, IsSync, sendable}
use Rattle.std.proofs.Crossing.{crosses}
use Rattle.atomic_table.specs.declared.shared.TableRule.{Ghosts}
use Rattle.turnstile.specs.contracts.lock.Lock as Lock
use Rattle.turnstile.specs.contracts.seated.Seated as Seated
use Rattle.turnstile.specs.contracts.view.Parcel as Parcel
use Rattle.sync_calls.specs.contracts.hall.Passes as Passes
use Rattle.sync_calls.specs.contracts.hall.Room as Room
use Rattle.sync_calls.specs.contracts.hall.Rooms as Rooms
use Rattle.turnstile.proofs.lock.Lock.TheSendSync as lock
use Rattle.turnstile.proofs.seated.Seated.TheSendSync as seated
use Rattle.sync_calls.proofs.hall.Rooms.TheSendSync as rooms
use Rattle.sync_calls.proofs.hall.Passes.TheSendSync as passes

-- what a lock's slot holds crosses as the value does
pub parcel_send : (V E : RattleType) → IsSend V → IsSend (Parcel.the_row V E)
parcel_send V E v = search (sendable, crosses) depth 20

-- a room is shared as its lock is
room_sync : (L X : RattleType) → IsSync L → IsSync (Room.the_row L X)
room_sync L X l = search (crosses, sendable) depth 40

module _ (P V A T P' V' A' T' X : RattleType) (g : Ghosts T.Denot P.Denot V.Denot A.Denot) (h : Ghosts T'.Denot P'.Denot V'.Denot A'.Denot) where
  -- a hall is shared where what its slots hold crosses
  pub hall_sync : IsSend P → IsSend P' → IsSync (Rooms.the_row (Room.the_row (Lock.the_row P V A T g) X) (Lock.the_row P' V' A' T' h))
  hall_sync p q = rooms.the_sync (Room.the_row (Lock.the_row P V A T g) X) (Lock.the_row P' V' A' T' h) (room_sync (Lock.the_row P V A T g) X (lock.the_sync P V A T g p)) (lock.the_sync P' V' A' T' h q)

-- and a pass of it crosses
pub pass_send : (P V P' V' : RattleType) → IsSend P → IsSend P' → IsSend (Passes.the_row (Seated.the_row P V) (Seated.the_row P' V'))
pass_send P V P' V' p q = passes.the_send (Seated.the_row P V) (Seated.the_row P' V') (seated.the_send P V p) (seated.the_send P' V' q)
