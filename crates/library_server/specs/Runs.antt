-- What the top call does, and its status. Read RunsSo first, at the end, and OnlyNamedGivesMore.
use Rattle.std.specs.Prelude.{◌≡◌, ℕ, List, length, Option, None, Some, Result, Ok, Err, ⊤}
use Rattle.std.specs.Io.KnownBytes.{append_known}
use Rattle.ids.specs.FaultCount.{Rose}
use Rattle.folder_storage.specs.Ground.{AllGiveNoMore, MayGive, Standing}
use Rattle.http_front.specs.Link.{GivesFront}
use Rattle.library_rules.specs.Creation.{opening_commit}
use Rattle.object_store.specs.Shelf.{Contents}
use Rattle.object_store.specs.declared.shelf.Slot.{Slot}
use Rattle.server_words.specs.Lines.{help_text, line_text, status_of, version_text}
use Rattle.server_words.specs.Spelling.{location_text}
use Rattle.server_words.specs.declared.command.Command.{Command}
use Rattle.server_words.specs.declared.command.Command.TheVariants.{Create, Token, Inetd, Serve, Make, Help, Version, Usage}
use Rattle.server_words.specs.declared.command.Location.{Location}
use Rattle.server_words.specs.declared.line.Line.{Line}
use Rattle.server_words.specs.declared.line.Line.TheVariants as line
use Rattle.library_server.specs.Adding.{AddsSo, IsAddedTo, IsNotAdded, is_unadded_counted}
use Rattle.library_server.specs.Bringing.{UnnamedGiveNoMore}
use Rattle.link_ears.specs.Ear.{EarRules, LinkView, NetView}
use Rattle.library_server.specs.Creating.{CreatesSo}
use Rattle.library_server.specs.Filling.{MakesFiles}
use Rattle.library_server.specs.HallConnections.{ServesNamed}
use Rattle.library_server.specs.Lines.{fault_of_not_added, fault_of_not_made}
use Rattle.library_server.specs.Port.{ServesPort}
use Rattle.library_server.specs.Making.{IsNotMade, RoseWhere, is_unmade_counted}
use Rattle.library_server.specs.Standing.{GroundView, OthersGiveNoMore, Returned}
use Rattle.library_server.specs.declared.adding.NewToken.{NewToken}
use Rattle.library_server.specs.declared.making.NewLibrary.{NewLibrary}
use Rattle.library_server.specs.declared.not_done.NotAdded.{NotAdded}
use Rattle.library_server.specs.declared.not_done.NotMade.{NotMade}
use Rattle.library_server.specs.declared.port.Port.{Port}

-- what is seen of a sink
pub record SinkView : Type 0 where
  pub given : Option (List ℕ)
  pub faults : ℕ

-- ---- what is printed

-- a text, and the status of a command that printed it whole
pub record Printed : Type 0 where
  pub text : List ℕ
  pub status : ℕ

abbrev pub line_printed : Line → Printed
line_printed line = record { text = line_text line; status = status_of line }

abbrev pub help_printed : Printed
help_printed = record { text = help_text; status = 0 }

abbrev pub version_printed : Printed
version_printed = record { text = version_text; status = 0 }

-- the text was put whole, or the sink's count rose and the status is 1
pub data PrintsSo (printed : Printed) (before now : SinkView) (status : ℕ) : Type 0 where
  whole : now.given ≡ append_known before.given printed.text → now.faults ≡ before.faults → status ≡ printed.status
      → PrintsSo printed before now status
  in_part : GivesFront before.given now.given printed.text → Rose before.faults now.faults → status ≡ 1
      → PrintsSo printed before now status

-- what a command prints that does nothing else
abbrev pub printed_of : Command → Option Printed
printed_of Help = Some help_printed
printed_of Version = Some version_printed
printed_of Usage = Some (line_printed line.Usage)
printed_of (Create location lib name user secret) = None
printed_of (Token location lib user secret right) = None
printed_of (Inetd location libs) = None
printed_of (Serve location port workers connections libs) = None
printed_of (Make location lib count number) = None

-- ---- the commands that change a library

-- the line that tells how the making of a library went, and the adding of a token
abbrev pub created_line : List ℕ → Result (List ℕ) NotMade → Line
created_line lib (Ok head) = line.Created lib head
created_line lib (Err why) = line.Fault (fault_of_not_made why)

abbrev pub added_line : Result ⊤ NotAdded → Line
added_line (Ok done) = line.TokenAdded
added_line (Err why) = line.Fault (fault_of_not_added why)

-- a line that tells of a new library names its opening commit; one that tells of a token comes where a library of the name
-- asked for was opened; and one that tells a refusal has its cause in what that library may give
abbrev pub IsCreated : (Slot → Option (List ℕ) → Type 0) → NewLibrary → ℕ → ℕ → ℕ → Result (List ℕ) NotMade → Type 0
IsCreated gives new moment before now (Ok head) = head ≡ (opening_commit new.lib new.user moment).id
IsCreated gives new moment before now (Err why) = IsNotMade gives new moment why × RoseWhere (is_unmade_counted why) before now

abbrev pub IsAdded : (Slot → Option (List ℕ) → Type 0) → Location → List ℕ → (ℕ → Type 0) → NewToken → ℕ → ℕ → Result ⊤ NotAdded → Type 0
IsAdded gives location lib shows new before now (Ok done) = IsAddedTo gives location lib shows new
IsAdded gives location lib shows new before now (Err why) = IsNotAdded gives location lib shows new why × RoseWhere (is_unadded_counted why) before now

-- a library was made at a moment of the clock, or not, and the line tells it
pub record CreatesLibrary {S : Type 0} (contents : S → Option Contents) (gives : MayGive) (shows : ℕ → Type 0)
    (location : Location) (new : NewLibrary) (old now : GroundView) (before after : SinkView) (status : ℕ) : Type 0 where
  pub created : Result (List ℕ) NotMade
  pub moment : ℕ
  pub shown : shows moment
  pub told : (standing : Standing) → old.stands (location_text location) new.lib ≡ Some standing
      → CreatesSo new moment standing created (now.stands (location_text location) new.lib)
  pub is : IsCreated (gives (location_text location) new.lib) new moment old.faults now.faults created
  pub back : Returned contents old.stands now.stands (location_text location) new.lib
  pub prints : PrintsSo (line_printed (created_line new.lib created)) before after status

-- a token was added, or not, and the line tells it
pub record AddsToken {S : Type 0} (contents : S → Option Contents) (gives : MayGive) (shows : ℕ → Type 0)
    (location : Location) (lib : List ℕ) (new : NewToken) (old now : GroundView) (before after : SinkView) (status : ℕ) : Type 0 where
  pub added : Result ⊤ NotAdded
  pub told : (standing : Standing) → old.stands (location_text location) lib ≡ Some standing
      → AddsSo location lib shows new standing added (now.stands (location_text location) lib)
  pub is : IsAdded (gives (location_text location) lib) location lib shows new old.faults now.faults added
  pub back : Returned contents old.stands now.stands (location_text location) lib
  pub prints : PrintsSo (line_printed (added_line added)) before after status

-- ---- all of it

-- a command makes a library, adds a token, serves a connection and prints nothing, serves a port or fills a library and prints the line of that; or it
-- prints its text and leaves the libraries, the link and the net alone; or there was no memory for the words, and nothing was done. What the libraries may give is
-- that before the command
pub data RunsSo {S E L : Type 0} (contents : S → Option Contents) (may_give : S → Slot → Option (List ℕ) → Type 0) (texts faults : S → ℕ) (rules : EarRules E L) (gives : MayGive)
    (shows : ℕ → Type 0) (command : Command) (old new : GroundView) (before now : LinkView) (net net_now : NetView E) (out_before out_now : SinkView) (status : ℕ)
    : Type 0 where
  creates : (location : Location) (lib name user secret : List ℕ) → command ≡ Create location lib name user secret
      → CreatesLibrary contents gives shows location (record { lib = lib; name = name; user = user; secret = secret }) old new out_before out_now status
      → now ≡ before → net_now ≡ net → RunsSo contents may_give texts faults rules gives shows command old new before now net net_now out_before out_now status
  adds : (location : Location) (lib : List ℕ) (token : NewToken) → command ≡ Token location lib token.user token.secret token.right
      → AddsToken contents gives shows location lib token old new out_before out_now status
      → now ≡ before → net_now ≡ net → RunsSo contents may_give texts faults rules gives shows command old new before now net net_now out_before out_now status
  serves : (location : Location) (libs : List (List ℕ)) → command ≡ Inetd location libs
      → ServesNamed contents may_give texts faults gives location libs shows old new before now status
      → net_now ≡ net → out_now ≡ out_before → RunsSo contents may_give texts faults rules gives shows command old new before now net net_now out_before out_now status
  serves_port : (location : Location) (port : Port) (libs : List (List ℕ)) → command ≡ Serve location port.number port.workers port.connections libs
      → (told : Line) → ServesPort contents may_give texts faults rules gives location port libs shows old new net net_now told
      → PrintsSo (line_printed told) out_before out_now status
      → now ≡ before → RunsSo contents may_give texts faults rules gives shows command old new before now net net_now out_before out_now status
  makes : (location : Location) (lib : List ℕ) (count number : ℕ) → command ≡ Make location lib count number
      → (told : Line) → MakesFiles contents may_give texts faults gives location lib count number shows old new told → PrintsSo (line_printed told) out_before out_now status
      → now ≡ before → net_now ≡ net → RunsSo contents may_give texts faults rules gives shows command old new before now net net_now out_before out_now status
  prints : (printed : Printed) → printed_of command ≡ Some printed → PrintsSo printed out_before out_now status
      → new ≡ old → now ≡ before → net_now ≡ net → RunsSo contents may_give texts faults rules gives shows command old new before now net net_now out_before out_now status
  unread : status ≡ 3 → new ≡ old → now ≡ before → net_now ≡ net → out_now ≡ out_before
      → RunsSo contents may_give texts faults rules gives shows command old new before now net net_now out_before out_now status

-- no library may give more than it might before the command, but those that the command names
abbrev pub OnlyNamedGivesMore : Command → MayGive → MayGive → Type 0
OnlyNamedGivesMore (Create location lib name user secret) old new = OthersGiveNoMore old new (location_text location) lib
OnlyNamedGivesMore (Token location lib user secret right) old new = OthersGiveNoMore old new (location_text location) lib
OnlyNamedGivesMore (Inetd location libs) old new = UnnamedGiveNoMore old new (location_text location) libs 0 (length libs)
OnlyNamedGivesMore (Serve location port workers connections libs) old new = UnnamedGiveNoMore old new (location_text location) libs 0 (length libs)
OnlyNamedGivesMore (Make location lib count number) old new = OthersGiveNoMore old new (location_text location) lib
OnlyNamedGivesMore Help old new = AllGiveNoMore old new
OnlyNamedGivesMore Version old new = AllGiveNoMore old new
OnlyNamedGivesMore Usage old new = AllGiveNoMore old new
