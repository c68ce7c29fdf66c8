-- Two short syncs, as words of laws, of a library that stands at the index's base: of a folder in which nothing changed; and of a changed
-- folder, by one who may only read. Our own.
use Rattle.std.specs.Prelude.{ℕ, false, List, [], ◌∷◌, None, Some, Ok}
use Rattle.std.specs.FinMap as fin
use Rattle.std.specs.List.{filter_map}
use Rattle.library_state.specs.declared.call.Op.TheVariants as op
use Rattle.library_state.specs.declared.refusal.Refusal.TheVariants as refusal
use Rattle.library_state.specs.declared.reply.Reply.TheVariants as reply
use Rattle.library_state.specs.declared.tag.Tag.{Tag}
use Rattle.folder_side.specs.Folder.{Contents}
use Rattle.folder_side.specs.ScanReport.{skipped_path}
use Rattle.http_front.specs.Order.{asked_of}
use Rattle.http_front.specs.declared.order.What.TheVariants as what
use Rattle.http_front.specs.declared.outcome.Outcome.TheVariants.{Plain}
use Rattle.remote_calls.specs.Sends.{Sent}
use Rattle.sync_rules.specs.declared.synced.Synced.{Synced}

-- an upload is allowed
abbrev pub check_sent : (lib secret : List ℕ) → Tag → Sent
check_sent lib secret tag = (asked_of lib (Some secret) (what.Check op.Upload), Ok (Plain reply.Checked tag))

-- the library stands at this commit
abbrev pub head_sent : (lib secret : List ℕ) → (id : List ℕ) → Tag → Sent
head_sent lib secret id tag = (asked_of lib (Some secret) (what.Head None), Ok (Plain (reply.HeadIs id) tag))

abbrev pub two_sent : (lib secret : List ℕ) → (id : List ℕ) → (first later : Tag) → List Sent
two_sent lib secret id first later = check_sent lib secret first ∷ head_sent lib secret id later ∷ []

-- nothing was done
abbrev pub none_done : Contents → (id : List ℕ) → Synced
none_done c id = record {
  head = id;
  pushed = None;
  conflict = false;
  written = 0;
  removed = 0;
  skipped = filter_map skipped_path (fin.entries c.paths);
  held = [];
}

-- an upload is denied, and a download allowed
abbrev pub denied_sent : (lib secret : List ℕ) → Tag → Sent
denied_sent lib secret tag = (asked_of lib (Some secret) (what.Check op.Upload), Ok (Plain (reply.Refused refusal.Denied) tag))

abbrev pub allowed_sent : (lib secret : List ℕ) → Tag → Sent
allowed_sent lib secret tag = (asked_of lib (Some secret) (what.Check op.Download), Ok (Plain reply.Checked tag))

abbrev pub reader_sent : (lib secret : List ℕ) → (id : List ℕ) → (first later last : Tag) → List Sent
reader_sent lib secret id first later last = denied_sent lib secret first ∷ allowed_sent lib secret later ∷ head_sent lib secret id last ∷ []
