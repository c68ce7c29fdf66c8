-- An answer of which the bytes are still to be judged by their name. Our own. Read judged.
use Rattle.std.specs.Prelude.{ℕ, if◌then◌else◌, List, Option, None, Some, Result, Ok, Err}
use Rattle.sha1.specs.Sha1.{sha1}
use Rattle.ids.specs.declared.key.Key.{Key}
use Rattle.library_state.specs.declared.refusal.Refusal.TheVariants as refusal
use Rattle.library_state.specs.declared.reply.Reply.{Reply}
use Rattle.library_state.specs.declared.reply.Reply.TheVariants as reply
use Rattle.object_store.specs.Store.{has_other_name}
use Rattle.object_store.specs.declared.error.StoreFault.{StoreFault}
use Rattle.depot.specs.Refusals.{store_refusal}
use Rattle.depot.specs.declared.unjudged.Unjudged.{Unjudged}
use Rattle.depot.specs.declared.unjudged.Unjudged.TheVariants as answer

-- the reply where these bytes lie under the key: they, or that they are damaged
abbrev pub judged_bytes : Key → List ℕ → Reply
judged_bytes key bytes = if has_other_name key bytes then reply.Refused (refusal.Damaged key.id (Some (sha1 bytes))) else reply.Got bytes

-- the reply that an answer is
abbrev pub judged : Unjudged → Reply
judged (answer.Told r) = r
judged (answer.Found key bytes) = judged_bytes key bytes

-- ---- for private clauses

-- the other name of the bytes, if they have one
abbrev pub other_name : Key → List ℕ → Option (List ℕ)
other_name key bytes = if has_other_name key bytes then Some (sha1 bytes) else None

-- the reply to a get by what the store answers to it
abbrev pub reply_found : Key → Result (Option (List ℕ)) StoreFault → Reply
reply_found key (Ok None) = reply.Refused (refusal.NoObject key)
reply_found key (Ok (Some bytes)) = reply.Got bytes
reply_found key (Err fault) = reply.Refused (store_refusal fault)
