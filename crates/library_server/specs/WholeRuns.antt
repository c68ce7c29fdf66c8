-- What a command tells over storage that never fails. Our own. Read RunsWhole first, at the end.
use Rattle.std.specs.Prelude.{◌≡◌, ℕ, Bool, false, List, Option, ⊤}
use Rattle.std.specs.List.{AllByRecursion}
use Rattle.folder_storage.specs.Ground.{MayGive}
use Rattle.object_store.specs.Shelf.{Contents}
use Rattle.object_store.specs.declared.shelf.Slot.{Slot}
use Rattle.server_words.specs.declared.command.Command.{Command}
use Rattle.server_words.specs.declared.command.Location.{Location}
use Rattle.server_words.specs.declared.line.Line.{Line}
use Rattle.server_words.specs.declared.line.Line.TheVariants as line
use Rattle.worker_server.specs.Calls.{Told, call_asked, collection_asked, look_asked}
use Rattle.library_server.specs.Answering.{is_storage_reply}
use Rattle.library_server.specs.Collecting.{is_storage_end}
use Rattle.link_ears.specs.Ear.{EarRules, LinkView, NetView}
use Rattle.library_server.specs.Connections.{ServesLocation, opened, unbrought}
use Rattle.library_server.specs.HallConnections.{ServesLibraries, ServesNamed, no_room, one, served, several, stopped}
use Rattle.library_server.specs.Lines.{fault_of_not_brought, is_storage_fault}
use Rattle.library_server.specs.Runs.{RunsSo, SinkView, added_line, adds, created_line, creates, makes, prints, serves, serves_port, unread}
use Rattle.library_server.specs.Standing.{GroundView}

-- a line that tells of no fault of the storage
abbrev pub is_storage_line : Line → Bool
is_storage_line (line.Fault why) = is_storage_fault why
is_storage_line other = false

-- the reply to a call, or the end of a collection, is a refusal by the storage
abbrev pub tells_storage : {Operation : Type 0} → Told Operation → Bool
tells_storage (call_asked lib call answer lines) = is_storage_reply answer.reply
tells_storage (collection_asked lib secret ends lines) = is_storage_end ends
tells_storage (look_asked lib secret tag same lines) = false

-- the replies of some calls are no refusals by the storage
abbrev pub NoneOfStorage : {Operation : Type 0} → List (Told Operation) → Type 0
NoneOfStorage {Operation} calls = AllByRecursion (λ (t : Told Operation). tells_storage t ≡ false) calls

-- of one connection: no reply was a refusal by the storage; or no library was opened, for another cause
abbrev pub ServesWhole : {S : Type 0} {contents : S → Option Contents} {may_give : S → Slot → Option (List ℕ) → Type 0} {texts faults : S → ℕ} {gives : MayGive}
    {location : Location} {lib : List ℕ} {shows : ℕ → Type 0} {old new : GroundView} {before now : LinkView} {status : ℕ}
    → ServesLocation contents may_give texts faults gives location lib shows old new before now status → Type 0
ServesWhole (opened depot after state opens given none settled service caused good back) = NoneOfStorage service.ran.0
ServesWhole (unbrought why refused code left) = is_storage_fault (fault_of_not_brought why) ≡ false

-- of several libraries on one connection: no reply was a refusal by the storage; or one wasn't started, for another cause
abbrev pub LibrariesWhole : {S : Type 0} {contents : S → Option Contents} {may_give : S → Slot → Option (List ℕ) → Type 0} {texts faults : S → ℕ} {gives : MayGive}
    {location : Location} {libs : List (List ℕ)} {shows : ℕ → Type 0} {old new : GroundView} {before now : LinkView} {status : ℕ}
    → ServesLibraries contents may_give texts faults gives location libs shows old new before now status → Type 0
LibrariesWhole (served depots afters brought service back good) = NoneOfStorage service.ran.0
LibrariesWhole (stopped why at code left) = is_storage_fault (fault_of_not_brought why) ≡ false
LibrariesWhole (no_room depots afters brought same back good three left) = ⊤

-- of the libraries that were named: one that is served alone, or several
abbrev pub NamedWhole : {S : Type 0} {contents : S → Option Contents} {may_give : S → Slot → Option (List ℕ) → Type 0} {texts faults : S → ℕ} {gives : MayGive}
    {location : Location} {libs : List (List ℕ)} {shows : ℕ → Type 0} {old new : GroundView} {before now : LinkView} {status : ℕ}
    → ServesNamed contents may_give texts faults gives location libs shows old new before now status → Type 0
NamedWhole (one lib same service) = ServesWhole service
NamedWhole (several some service) = LibrariesWhole service

-- of what a command did: the line that it put tells no fault of the storage, or it served so; of the replies at a port nothing is said;
-- a text and a status alone tell none
abbrev pub RunsWhole : {S E L : Type 0} {contents : S → Option Contents} {may_give : S → Slot → Option (List ℕ) → Type 0} {texts faults : S → ℕ} {rules : EarRules E L} {gives : MayGive}
    {shows : ℕ → Type 0} {command : Command} {old new : GroundView} {before now : LinkView} {net net_now : NetView E} {out_before out_now : SinkView} {status : ℕ}
    → RunsSo contents may_give texts faults rules gives shows command old new before now net net_now out_before out_now status → Type 0
RunsWhole (creates location lib name user secret is made left kept) = is_storage_line (created_line lib made.created) ≡ false
RunsWhole (adds location lib token is added left kept) = is_storage_line (added_line added.added) ≡ false
RunsWhole (serves location libs is service kept out) = NamedWhole service
RunsWhole (serves_port location port libs is told service put left) = is_storage_line told ≡ false
RunsWhole (makes location lib count number is told made put left kept) = is_storage_line told ≡ false
RunsWhole (prints printed is put same left kept) = ⊤
RunsWhole (unread three same left kept out) = ⊤
