-- What the top call printed, and its status. The key lemmas are runs_usage, printed_as, kept_alone,
-- one_named and alone_is.
use Rattle.std.proofs.Common.{◌≡◌, ◌≤◌, ℕ, zero, suc, Bool, true, false, List, [], ◌∷◌, length, Option, Some, Result, Ok, Err, refl, sym, ap, subst, ◌∙◌, arith}
use Rattle.std.specs.Prelude.{IfErr, IfOk, slice_index_or, ⊤}
use Rattle.std.specs.Io.KnownBytes.{append_known}
use Rattle.folder_storage.specs.Ground.{MayGive}
use Rattle.library_rules.specs.Creation.{opening_commit}
use Rattle.object_store.specs.declared.shelf.Slot.{Slot}
use Rattle.object_store.specs.Shelf.{Contents}
use Rattle.server_words.specs.Lines.{fault_status, line_text, status_of as line_status}
use Rattle.server_words.specs.declared.command.Command.{Command}
use Rattle.server_words.specs.declared.command.Command.TheVariants.{Create, Token, Inetd, Serve, Make, Help, Version, Usage}
use Rattle.server_words.specs.declared.fault.Fault.{Fault}
use Rattle.server_words.specs.declared.fault.Fault.TheVariants as fault
use Rattle.server_words.specs.declared.line.Line.{Line}
use Rattle.server_words.specs.declared.line.Line.TheVariants as line
use Rattle.worker_server.specs.declared.served.Served.{Served}
use Rattle.worker_server.specs.declared.served.Served.TheVariants as end_of
use Rattle.hall_workers.specs.declared.worker.Worker.{Worker}
use Rattle.link_ears.specs.Ear.{EarRules, LinkView, NetView}
use Rattle.library_server.specs.Connections.{ServesOpened, opened, status_of, unbrought}
use Rattle.generated_library.specs.declared.filling.Filled.{Filled}
use Rattle.library_server.specs.Filling.{MakesFiles, filled_line, not_opened, opened as opened_here}
use Rattle.library_server.specs.HallConnections.{no_room, one as only, served, several, stopped}
use Rattle.library_server.specs.Counting.{OpenedView, opened_now}
use Rattle.library_server.specs.Lines.{fault_of_not_added, fault_of_not_made, fault_of_not_brought}
use Rattle.server_words.specs.declared.command.Location.{Location}
use Rattle.library_server.specs.Adding.{IsAddedTo, IsNotAdded, is_unadded_counted}
use Rattle.library_server.specs.Making.{IsNotMade, RoseWhere, is_unmade_counted}
use Rattle.library_server.specs.declared.adding.NewToken.{NewToken}
use Rattle.library_server.specs.declared.making.NewLibrary.{NewLibrary}
use Rattle.library_server.specs.Runs.{IsAdded, IsCreated, OnlyNamedGivesMore, Printed, PrintsSo, RunsSo, SinkView, added_line, adds, created_line, creates, help_printed, in_part, line_printed, makes, printed_of, prints, serves, serves_port, unread, version_printed, whole}
use Rattle.library_server.specs.Bringing.{UnnamedGiveNoMore}
use Rattle.library_server.specs.Port.{ServesPort, fault_of_net, fault_of_unserved, line_by, started, tally_of, unopened}
use Rattle.library_server.specs.Port.{opened as opened_port, stopped as stopped_so, held as held_so, not_held as not_held_so}
use Rattle.library_server.specs.Standing.{GroundView, OthersGiveNoMore}
use Rattle.library_server.specs.declared.not_done.NotAdded.{NotAdded}
use Rattle.library_server.specs.declared.not_done.NotMade.{NotMade}
use Rattle.library_server.specs.declared.port.Port.{Port}

-- ---- no line but the usage line has the status 2

no_fault : (why : Fault) → fault_status why ≡ 2 → ⊥
no_fault fault.NoMemory e = cc
no_fault other e = cc

no_creation : (lib : List ℕ) (created : Result (List ℕ) NotMade) → line_status (created_line lib created) ≡ 2 → ⊥
no_creation lib (Ok head) e = cc
no_creation lib (Err why) e = no_fault (fault_of_not_made why) e

no_addition : (added : Result ⊤ NotAdded) → line_status (added_line added) ≡ 2 → ⊥
no_addition (Ok done) e = cc
no_addition (Err why) e = no_fault (fault_of_not_added why) e

no_end : (how : Served) → status_of how ≡ 2 → ⊥
no_end end_of.Ended e = cc
no_end other e = cc

-- what was put with another status than that of its text failed
no_print : (printed : Printed) (before now : SinkView) (status : ℕ) → PrintsSo printed before now status → (printed.status ≡ 2 → ⊥) → status ≡ 2 → ⊥
no_print printed before now status (whole put kept code) never two = never (sym code ∙ two)
no_print printed before now status (in_part front rose one) never two = cc

unwrapped : (a b : Printed) → ◌≡◌ {A = Option Printed} (Some a) (Some b) → b ≡ a
unwrapped a b e = cc

usage_alone : (command : Command) (printed : Printed) → printed_of command ≡ Some printed → printed.status ≡ 2
    → (command ≡ Usage) × (printed.text ≡ line_text line.Usage)
usage_alone (Create location lib name user secret) printed e two = absurd (cc)
usage_alone (Token location lib user secret right) printed e two = absurd (cc)
usage_alone (Inetd location libs) printed e two = absurd (cc)
usage_alone (Serve location port workers connections libs) printed e two = absurd (cc)
usage_alone (Make location lib count number) printed e two = absurd (cc)
usage_alone Help printed e two = absurd (zero_two (sym (ap (λ z. z.status) (unwrapped help_printed printed e)) ∙ two))
  where
    zero_two : ◌≡◌ {A = ℕ} 0 2 → ⊥
    zero_two e = omega arith
usage_alone Version printed e two = absurd (zero_two (sym (ap (λ z. z.status) (unwrapped version_printed printed e)) ∙ two))
  where
    zero_two : ◌≡◌ {A = ℕ} 0 2 → ⊥
    zero_two e = omega arith
usage_alone Usage printed e two = (refl, ap (λ z. z.text) (unwrapped (line_printed line.Usage) printed e))

module _ {S E L : Type 0} (contents : S → Option Contents) (may_give : S → Slot → Option (List ℕ) → Type 0) (texts faults : S → ℕ) (rules : EarRules E L) (gives : MayGive) (shows : ℕ → Type 0) where
  no_service : (library after : OpenedView S) (before now : LinkView) (status : ℕ)
      → ServesOpened contents may_give texts faults shows library after before now status → status ≡ 2 → ⊥
  no_service library after before now status service two = no_end service.how (sym service.status_is ∙ two)

  no_tally : {P X : Type 0} (workers : List (Worker P X)) → line_status (line_by (tally_of workers)) ≡ 2 → ⊥
  no_tally workers = by (tally_of workers).failed (tally_of workers).wanting (tally_of workers).served
    where
      by : (failed wanting : Bool) (count : ℕ) → line_status (line_by (record { failed = failed; wanting = wanting; served = count })) ≡ 2 → ⊥
      by true wanting count e = cc
      by false true count e = cc
      by false false count e = cc

  no_port : (location : Location) (port : Port) (libs : List (List ℕ)) (old new : GroundView) (net net_now : NetView E) (told : Line)
      → ServesPort contents may_give texts faults rules gives location port libs shows old new net net_now told → line_status told ≡ 2 → ⊥
  no_port location port libs old new net net_now told (opened_port ears ends are (started depots afters brought (held_so service) back good) asked taken) two =
      no_tally service.workers (ap line_status (sym service.line_is) ∙ two)
  no_port location port libs old new net net_now told (opened_port ears ends are (started depots afters brought (not_held_so same still is) back good) asked taken) two =
      no_fault fault.NoMemory (ap line_status (sym is) ∙ two)
  no_port location port libs old new net net_now told (opened_port ears ends are (stopped_so why at still is) asked taken) two = no_fault (fault_of_unserved why) (ap line_status (sym is) ∙ two)
  no_port location port libs old new net net_now told (unopened why asked kept count same is) two = no_fault (fault_of_net why) (ap line_status (sym is) ∙ two)

  no_making : (location : Location) (lib : List ℕ) (count number : ℕ) (old new : GroundView) (told : Line) → MakesFiles contents may_give texts faults gives location lib count number shows old new told
      → line_status told ≡ 2 → ⊥
  no_making location lib count number old new told (opened_here depot after objects stored filled here came back good rose is) two = by filled (ap line_status (sym is) ∙ two)
    where
      by : (result : Result Filled Fault) → line_status (filled_line result stored) ≡ 2 → ⊥
      by (Ok what) e = cc
      by (Err why) e = no_fault why e
  no_making location lib count number old new told (not_opened why at is) two = no_fault (fault_of_unserved why) (ap line_status (sym is) ∙ two)

  -- the status 2 comes with the usage line alone
  pub runs_usage : (command : Command) (old new : GroundView) (before now : LinkView) (net net_now : NetView E) (out_before out_now : SinkView) (status : ℕ)
      → RunsSo contents may_give texts faults rules gives shows command old new before now net net_now out_before out_now status → status ≡ 2
      → (command ≡ Usage) × (out_now.given ≡ append_known out_before.given (line_text line.Usage))
  runs_usage command old new before now net net_now out_before out_now status (creates location lib name user secret is made left same) two =
      absurd (no_print (line_printed (created_line lib made.created)) out_before out_now status made.prints (no_creation lib made.created) two)
  runs_usage command old new before now net net_now out_before out_now status (adds location lib token is added left same) two =
      absurd (no_print (line_printed (added_line added.added)) out_before out_now status added.prints (no_addition added.added) two)
  runs_usage command old new before now net net_now out_before out_now status (serves location libs is (only lib same (opened depot after state opens given none settled service caused good back)) kept out) two =
      absurd (no_service (opened_now depot) after before now status service two)
  runs_usage command old new before now net net_now out_before out_now status (serves location libs is (only lib same (unbrought why cause code left)) kept out) two =
      absurd (no_fault (fault_of_not_brought why) (sym code ∙ two))
  runs_usage command old new before now net net_now out_before out_now status (serves location libs is (several some (served depots afters brought held back good)) kept out) two =
      absurd (no_end held.how (sym held.status_is ∙ two))
  runs_usage command old new before now net net_now out_before out_now status (serves location libs is (several some (stopped why at code left)) kept out) two =
      absurd (no_fault (fault_of_not_brought why) (sym code ∙ two))
  runs_usage command old new before now net net_now out_before out_now status (serves location libs is (several some (no_room depots afters brought same back good code left)) kept out) two = absurd (cc (code, two))
  runs_usage command old new before now net net_now out_before out_now status (serves_port location port libs is told service put left) two =
      absurd (no_print (line_printed told) out_before out_now status put (no_port location port libs old new net net_now told service) two)
  runs_usage command old new before now net net_now out_before out_now status (makes location lib count number is told made put left kept) two =
      absurd (no_print (line_printed told) out_before out_now status put (no_making location lib count number old new told made) two)
  runs_usage command old new before now net net_now out_before out_now status (prints printed is (whole put kept code) same left alone) two =
      let usage = usage_alone command printed is (sym code ∙ two) in
      (usage.0, put ∙ ap (append_known out_before.given) usage.1)
  runs_usage command old new before now net net_now out_before out_now status (prints printed is (in_part front rose one) same left alone) two = absurd (cc)
  runs_usage command old new before now net net_now out_before out_now status (unread three same left kept out) two = absurd (cc)

-- ---- what was printed tells what was done

module _ (gives : Slot → Option (List ℕ) → Type 0) where
  pub created_so : (new : NewLibrary) (moment before now : ℕ) (created : Result (List ℕ) NotMade)
      → IfOk created (λ head. head ≡ (opening_commit new.lib new.user moment).id) → IfErr created (IsNotMade gives new moment)
      → IfErr created (λ why. RoseWhere (is_unmade_counted why) before now) → IsCreated gives new moment before now created
  created_so new moment before now (Ok head) is cause count = is
  created_so new moment before now (Err why) is cause count = (cause, count)

  pub added_so : (location : Location) (lib : List ℕ) (shows : ℕ → Type 0) (new : NewToken) (before now : ℕ) (added : Result ⊤ NotAdded)
      → IfOk added (λ done. IsAddedTo gives location lib shows new) → IfErr added (IsNotAdded gives location lib shows new) → IfErr added (λ why. RoseWhere (is_unadded_counted why) before now)
      → IsAdded gives location lib shows new before now added
  added_so location lib shows new before now (Ok done) given cause count = given
  added_so location lib shows new before now (Err why) given cause count = (cause, count)

-- a text that was put is the one of its name
pub printed_as : (printed : Printed) (text : List ℕ) (before now : SinkView) (status : ℕ) → text ≡ printed.text
    → PrintsSo (record { text = text; status = printed.status }) before now status → PrintsSo printed before now status
printed_as printed text before now status same put =
    subst (λ t. PrintsSo (record { text = t; status = printed.status }) before now status) same put

-- ---- what other libraries may give

-- a command that was read is the one that was named
pub named_alone : (old new : MayGive) (command named : Command) → command ≡ named → OnlyNamedGivesMore named old new → OnlyNamedGivesMore command old new
named_alone old new command named is others = subst (λ (k : Command). OnlyNamedGivesMore k old new) (sym is) others

-- where nothing was done
pub kept_alone : (old : MayGive) (command : Command) → OnlyNamedGivesMore command old old
kept_alone old (Create location lib name user secret) = λ f l apart slot given is. is
kept_alone old (Token location lib user secret right) = λ f l apart slot given is. is
kept_alone old (Inetd location libs) = λ f l apart slot given is. is
kept_alone old (Serve location port workers connections libs) = λ f l apart slot given is. is
kept_alone old (Make location lib count number) = λ f l apart slot given is. is
kept_alone old Help = λ f l slot given is. is
kept_alone old Version = λ f l slot given is. is
kept_alone old Usage = λ f l slot given is. is

-- one library is all that is named
pub one_named : (old new : MayGive) (folder lib : List ℕ) (libs : List (List ℕ)) → libs ≡ lib ∷ [] → OthersGiveNoMore old new folder lib → UnnamedGiveNoMore old new folder libs 0 (length libs)
one_named old new folder lib libs same others =
    subst (λ (all : List (List ℕ)). UnnamedGiveNoMore old new folder all 0 (length all)) (sym same)
    (λ f l none. others f l (λ both. none both.0 0 lib (omega arith) (omega arith) (sym both.1)))

-- so where there is one, and it is this
pub alone_is : (libs : List (List ℕ)) (lib : List ℕ) → length libs ≡ 1 → lib ≡ slice_index_or libs 0 lib → libs ≡ lib ∷ []
alone_is [] lib single is = absurd (omega (arith, single))
alone_is (x ∷ []) lib single is = ap (λ (l : List ℕ). l ∷ []) (sym is)
alone_is (x ∷ y ∷ more) lib single is = absurd (omega (arith, single))

-- more than one, where there is some
pub two_or_more : (count size : ℕ) → count ≡ size → 1 ≤ size → (count ≡ 1 → ⊥) → 2 ≤ size
two_or_more count zero same some not_one = absurd (omega (arith, some))
two_or_more count (suc zero) same some not_one = absurd (not_one same)
two_or_more count (suc (suc size)) same some not_one = omega arith
