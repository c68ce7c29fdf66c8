-- How a sync's fault, and a scan's, is printed. Our own; docs/FORMATS.md. Read fault_of_sync.
use Rattle.std.specs.Prelude.{ℕ, Result, Ok, Err}
use Rattle.http_front.specs.RefusalText.{refused_status}
use Rattle.http_front.specs.declared.status.Status.{Status}
use Rattle.http_front.specs.declared.status.Status.TheVariants as status
use Rattle.folder_side.specs.declared.error.ScanFault.{ScanFault}
use Rattle.folder_side.specs.declared.error.ScanFault.TheVariants as scan
use Rattle.remote_calls.specs.declared.error.RemoteFault.{RemoteFault}
use Rattle.remote_calls.specs.declared.error.RemoteFault.TheVariants as remote
use Rattle.sync_rules.specs.declared.fault.SyncFault.{SyncFault}
use Rattle.sync_rules.specs.declared.fault.SyncFault.TheVariants as sync
use Rattle.client_words.specs.declared.fault.Fault.{Fault}
use Rattle.client_words.specs.declared.fault.Fault.TheVariants as fault

-- the number of a status (RFC 9110, section 15; 431 is of RFC 6585, and 442 to 449 are our own)
abbrev pub status_number : Status → ℕ
status_number status.Success = 200
status_number status.NotModified = 304
status_number status.BadRequest = 400
status_number status.Forbidden = 403
status_number status.NotFound = 404
status_number status.Conflict = 409
status_number status.ContentTooLarge = 413
status_number status.HeadTooLarge = 431
status_number status.TooLarge = 442
status_number status.Damaged = 445
status_number status.Incomplete = 446
status_number status.Spent = 449
status_number status.ServerError = 500
status_number status.NotImplemented = 501
status_number status.Unavailable = 503

abbrev pub fault_of_scan : ScanFault → Fault
fault_of_scan scan.Folder = fault.Folder
fault_of_scan (scan.TooDeep path) = fault.TooDeep path
fault_of_scan (scan.TooMany count) = fault.TooMany
fault_of_scan (scan.TooBig path) = fault.TooBig path
fault_of_scan scan.NoMemory = fault.NoMemory

abbrev pub fault_of_remote : RemoteFault → Fault
fault_of_remote remote.Link = fault.Link
fault_of_remote (remote.BadReply at) = fault.BadReply at
fault_of_remote (remote.Cut size) = fault.Cut size
fault_of_remote (remote.TooLarge size) = fault.TooLarge size
fault_of_remote remote.NoMemory = fault.NoMemory

abbrev pub fault_of_sync : SyncFault → Fault
fault_of_sync sync.Folder = fault.Folder
fault_of_sync (sync.Remote why) = fault_of_remote why
fault_of_sync (sync.Refused refusal) = fault.Refused (status_number (refused_status refusal))
fault_of_sync (sync.Damaged want got) = fault.Damaged want
fault_of_sync (sync.BadTree why) = fault.BadTree
fault_of_sync (sync.Changed path) = fault.Changed path
fault_of_sync (sync.Blocked path) = fault.Blocked path
fault_of_sync sync.NotEmpty = fault.FolderNotEmpty
fault_of_sync (sync.Scan why) = fault_of_scan why
fault_of_sync (sync.Stale now) = fault.Stale now
fault_of_sync sync.NoMemory = fault.NoMemory

abbrev pub told_of : {T : Type 0} → Result T SyncFault → Result T Fault
told_of (Ok x) = Ok x
told_of (Err f) = Err (fault_of_sync f)

abbrev pub told_of_scan : {T : Type 0} → Result T ScanFault → Result T Fault
told_of_scan (Ok x) = Ok x
told_of_scan (Err f) = Err (fault_of_scan f)
