-- Links that failed, as a list of sends tells them. Read has_link_fault.
use Rattle.std.specs.Prelude.{Bool, true, false, List, Err}
use Rattle.std.specs.List.{list_any}
use Rattle.remote_calls.specs.Sends.{Ending, Sent}
use Rattle.remote_calls.specs.declared.error.RemoteFault.TheVariants as fault

abbrev pub is_link_fault : Ending → Bool
is_link_fault (Err fault.Link) = true
is_link_fault _ = false

-- a link could not be made for some send, or failed at it
abbrev pub has_link_fault : List Sent → Bool
has_link_fault sends = list_any (λ (sent : Sent). is_link_fault sent.1) sends
