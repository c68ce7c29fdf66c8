-- Which replies the calls of an order may have, so that its outcome is one that it can have. Our own. Read Asks first, then
-- MayReply. Read before: OrderOutcome of `http_client`, Calls of `worker_server`.
use Rattle.std.specs.Prelude.{ℕ, ◌≡◌, Bool, true, false, List}
use Rattle.library_state.specs.declared.call.Act.{Act}
use Rattle.library_state.specs.declared.call.Act.TheVariants as act
use Rattle.library_state.specs.declared.reply.Reply.{Reply}
use Rattle.library_state.specs.declared.reply.Reply.TheVariants as reply
use Rattle.http_front.specs.declared.order.What.{What}
use Rattle.http_front.specs.declared.order.What.TheVariants as what
use Rattle.http_front.specs.declared.row.Row.{Row}
use Rattle.http_client.specs.OrderOutcome.{CanAnswer}
use Rattle.worker_server.specs.Calls.{get_of, put_of}

-- an order is asked by this call, or by this one among others
abbrev pub Asks : What → Act → Type 0
Asks what.Version a = ⊥
Asks (what.Check op) a = a ≡ act.Check op
Asks (what.Head tag) a = a ≡ act.Head
Asks (what.Update commit) a = a ≡ act.Update commit
Asks (what.Get key) a = a ≡ act.Get key
Asks (what.Put key bytes) a = a ≡ act.Put key bytes
Asks (what.Missing kind ids) a = a ≡ act.Missing kind ids
Asks (what.PutFs rows) a = (row : Row) × (a ≡ put_of row)
Asks (what.GetFs ids) a = (id : List ℕ) × (a ≡ get_of id)
Asks (what.Limit days) a = a ≡ act.Limit days
Asks (what.Ids server client) a = a ≡ act.Ids server client
Asks what.Collect a = ⊥

-- an object is given by a call of it
abbrev pub gives_objects : What → Bool
gives_objects (what.Get key) = true
gives_objects (what.GetFs ids) = true
gives_objects _ = false

-- a call of the order may be replied to so: as the order itself, or, where it asks for several files and directories, with
-- one of them
abbrev pub MayReply : What → Reply → Type 0
MayReply w (reply.Got bytes) = gives_objects w ≡ true
MayReply w r = CanAnswer w r
