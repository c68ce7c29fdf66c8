-- A connection with several libraries over storage that never fails, and objects under their own names. The key lemmas are names_after,
-- did_call, did_turn, hall_whole and served_whole.
use Rattle.std.proofs.Common.{◌≡◌, inl, inr, ℕ, zero, suc, ◌<◌, false, List, [], ◌∷◌, length, Option, Some, ap, arith, refl, subst, subst₂, sym, ◌∙◌}
use Rattle.std.specs.List.{AllByRecursion, slice_get}
use Rattle.std.specs.Prelude.{slice_index_or, slice_set, map as map_list}
use Rattle.std.proofs.lemmas.Option.{get_or_from_slice_get, slice_get_within}
use Rattle.depot.specs.DepotView.{DepotView}
use Rattle.depot.specs.Story.{IsAnswered, IsSame, LeadsTo, Links, MadeBy}
use Rattle.depot.specs.declared.story.Change.{Change}
use Rattle.depot.specs.declared.story.Made.{Made}
use Rattle.depot.specs.declared.story.Made.TheVariants as made
use Rattle.depot.specs.declared.turn.Turn.{Turn}
use Rattle.depot.specs.declared.turn.Turn.TheVariants as turn
use Rattle.folder_storage.specs.Ground.{MayGive, Standing, Standings}
use Rattle.library_rules.specs.Creation.{opening_commit}
use Rattle.library_rules.specs.LibraryState.{State}
use Rattle.library_state.specs.declared.call.Call.{Call}
use Rattle.library_state.specs.declared.reply.Reply.{Reply}
use Rattle.object_store.specs.Shelf.{Contents}
use Rattle.object_store.specs.Store.{HasNames}
use Rattle.object_store.specs.declared.shelf.Slot.{Slot}
use Rattle.server_words.specs.Spelling.{location_text}
use Rattle.server_words.specs.declared.command.Location.{Location}
use Rattle.sync_calls.specs.Asking.{AsksSo}
use Rattle.sync_calls.specs.Collecting.{CollectsSo, EndsAs, EndsSo, OneTurn}
use Rattle.sync_calls.specs.Hall.{shown_by}
use Rattle.sync_calls.specs.Making.{new_shown}
use Rattle.sync_calls.specs.Operations.{Called, IsDone, IsMadeBy, Line, Lines, TookTurn}
use Rattle.sync_calls.specs.Shown.{Shown, library_after, library_at}
use Rattle.sync_calls.specs.declared.asking.Answer.{Answer as HallAnswer}
use Rattle.sync_calls.specs.declared.collecting.Collected.{Collected as HallCollected}
use Rattle.worker_server.specs.Calls.{AnsweredSo, Ran, Told, call_asked, collection_asked, look_asked}
use Rattle.worker_server.specs.declared.host.Answer.{Answer}
use Rattle.hall_server.specs.Serving.{HallShown, hall_rules, hall_shown, host_end}
use Rattle.hall_server.proofs.GoingLemmas.{done_start, from_some, set_at, set_back}
use Rattle.hall_server.proofs.LaterLemmas.{GoesOn, after_some, lines_on, none_some}
use Rattle.hall_server.proofs.RanLemmas.{ran_goes}
use Rattle.library_server.specs.Answering.{NamesIn, NeverFails, is_storage_reply}
use Rattle.library_server.specs.Bringing.{AreBrought, AreOut, AreTaken, IsBrought}
use Rattle.library_server.specs.Collecting.{is_storage_end}
use Rattle.link_ears.specs.Ear.{LinkView}
use Rattle.library_server.specs.HallConnections.{AreGood, HoldsHall, ServesHall, ServesLibraries, held, no_room, not_held, served}
use Rattle.library_server.specs.Standing.{GroundView}
use Rattle.library_server.specs.Starting.{OpensTo, memory_library}
use Rattle.library_server.specs.Whole.{AreWhole, IsWhole}
use Rattle.library_server.specs.WholeRuns.{LibrariesWhole, NoneOfStorage, tells_storage}
use Rattle.library_server.proofs.BringingLemmas.{came_back_all}
use Rattle.library_server.proofs.CollectingWholeLemmas.{is_storage_turn, turn_whole}
use Rattle.library_server.proofs.WholeLemmas.{answers_whole, names_of, new_names, opened_names}

-- ---- lists

-- of which library nothing was seen
pub new_at : {S : Type 0} (depots : List (DepotView S)) (j : ℕ) (u : Shown S) → slice_get (map_list new_shown depots) j ≡ Some u
    → (x : DepotView S) × (slice_get depots j ≡ Some x) × (new_shown x ≡ u)
new_at [] j u is = absurd (none_some u is)
new_at (d ∷ ds) zero u is = (d, refl, from_some (new_shown d) u is)
new_at (d ∷ ds) (suc j) u is = new_at ds j u is

all_at : {A : Type 0} (P : A → Type 0) (xs : List A) (j : ℕ) (x : A) → AllByRecursion P xs → slice_get xs j ≡ Some x → P x
all_at P [] j x all is = absurd (none_some x is)
all_at P (y ∷ ys) zero x all is = subst P (from_some y x is) all.0
all_at P (y ∷ ys) (suc j) x all is = all_at P ys j x all.1 is

-- what holds at each place holds of all
all_each : {A : Type 0} (P : A → Type 0) (xs : List A) → ((i : ℕ) (d : A) → i < length xs → P (slice_index_or xs i d)) → AllByRecursion P xs
all_each P [] each = tt
all_each P (x ∷ xs) each = (each 0 x (omega arith), all_each P xs (λ i d below. each (suc i) d (omega (arith, below))))

module _ {S : Type 0} (contents : S → Option Contents) (may_give : S → Slot → Option (List ℕ) → Type 0) (texts faults : S → ℕ) where
  -- ---- what was shown before

  -- how each library began
  pub lines_back : (us : List (Shown S)) (lines : List Line) (vs : List (Shown S)) → Lines contents may_give texts faults us lines vs → (j : ℕ) (v : Shown S) → slice_get vs j ≡ Some v
      → (u : Shown S) × (slice_get us j ≡ Some u) × (v.start ≡ u.start)
  lines_back us [] vs same j v at = (v, subst (λ (ws : List (Shown S)). slice_get ws j ≡ Some v) same at, refl)
  lines_back us (line ∷ lines) vs (mid, moves, rest) j v at =
      let next = lines_back mid lines vs rest j v at in
      elim (set_back us line.library moves.after j next.0 (subst (λ (ws : List (Shown S)). slice_get ws j ≡ Some next.0) moves.is next.1)) [
        | inl here ↦ (
          moves.before,
          subst (λ (k : ℕ). slice_get us k ≡ Some moves.before) (sym here.0) moves.was,
          next.2 ∙ ap (λ (w : Shown S). w.start) here.1 ∙ done_start contents may_give texts faults moves.before line.place line.deed moves.after moves.done,
        )
        | inr there ↦ (next.0, there, next.2)
      ]

module _ {S : Type 0} (contents : S → Option Contents) (may_give : S → Slot → Option (List ℕ) → Type 0) (texts faults : S → ℕ) (shows : ℕ → Type 0) (steady : NeverFails faults) where
  -- ---- a library at a place of its history

  names_same : (x y : DepotView S) → IsSame contents faults x y → NamesIn contents x → NamesIn contents y
  names_same x y same names = (names.0, same.objects names.0 names.1, names.2)

  call_whole : (x y : DepotView S) (call : Call) (moment : ℕ) (r : Reply) → IsAnswered contents may_give texts faults x call moment r y → NamesIn contents x
      → (is_storage_reply r ≡ false) × NamesIn contents y
  call_whole x y call moment r answered names =
      answers_whole contents faults x y call moment r answered.serves.told answered.serves.damage answered.serves.count steady names

  -- a change leaves objects under their own names
  change_names : (c : Change (DepotView S)) → Links contents may_give texts faults c → NamesIn contents c.before.value → NamesIn contents c.after.value
  change_names c links names = by c.made c.moment links.by
    where
      by : (m : Made) (at : ℕ) → MadeBy contents may_give texts faults m c.before.value at c.after.value → NamesIn contents c.after.value
      by (made.Asked call said) at answered = (call_whole c.before.value c.after.value call.value at said.value answered names).1
      by (made.Turned goal most taken) at turned =
          (turn_whole contents may_give texts faults shows steady c.before.value goal at most taken.value c.after.value turned.takes names).1

  pub names_after : (x : DepotView S) (cs : List (Change (DepotView S))) (y : DepotView S) → LeadsTo contents may_give texts faults x cs y → NamesIn contents x → (n : ℕ) (d : DepotView S)
      → library_after (Some x) cs n ≡ Some d → NamesIn contents d
  names_after x cs y leads names zero d is = subst (λ (z : DepotView S). NamesIn contents z) (from_some x d is) names
  names_after x [] y leads names (suc n) d is = absurd (none_some d is)
  names_after x (c ∷ cs) y leads names (suc n) d is =
      names_after c.after.value cs y leads.2 (change_names c leads.1 (names_same x c.before.value leads.0 names)) n d is

  -- each library of these began with objects under their own names, and what was seen of it leads somewhere
  abbrev AreHeld : List (Shown S) → Type 0
  AreHeld vs = (j : ℕ) (w : Shown S) → slice_get vs j ≡ Some w
      → (x : DepotView S) × (w.start ≡ Some x) × NamesIn contents x × ((y : DepotView S) × LeadsTo contents may_give texts faults x w.seen y)

  place_names : (vs : List (Shown S)) → AreHeld vs → (j : ℕ) (v w : Shown S) → slice_get vs j ≡ Some w → GoesOn v w → (place : ℕ) (d : DepotView S) → library_at v place ≡ Some d
      → NamesIn contents d
  place_names vs stood j v w at on place d is =
      let h = stood j w at in
      let began : library_after (Some h.0) v.seen place ≡ Some d = subst (λ (o : Option (DepotView S)). library_after o v.seen place ≡ Some d) (sym on.begun ∙ h.1) is in
      let there : library_after (Some h.0) w.seen place ≡ Some d
      = subst (λ (l : List (Change (DepotView S))). library_after (Some h.0) l place ≡ Some d) on.grows.1 (after_some (Some h.0) v.seen on.grows.0 place d began) in
      names_after h.0 w.seen h.3.0 h.3.1 h.2 place d there

  -- ---- one deed

  pub did_call : (u : Shown S) (place : ℕ) (call : Call) (moment : ℕ) (r : Reply) (v : Shown S) → IsDone contents may_give texts faults u place (Called call moment r) v
      → ((d : DepotView S) → library_at v place ≡ Some d → NamesIn contents d) → is_storage_reply r ≡ false
  did_call u place call moment r v (inl reads) named =
      (call_whole reads.reads.before reads.reads.after call moment r reads.reads.does
      (names_same reads.reads.there reads.reads.before reads.reads.same (named reads.reads.there reads.reads.stood))).0
  did_call u place call moment r v (inr changes) named =
      by changes.change.made changes.change.moment changes.made changes.links.by (names_same changes.there changes.change.before.value changes.follows (named changes.there changes.stood))
    where
      by : (m : Made) (at : ℕ) → IsMadeBy m at (Called call moment r) → MadeBy contents may_give texts faults m changes.change.before.value at changes.change.after.value
          → NamesIn contents changes.change.before.value → is_storage_reply r ≡ false
      by (made.Asked asked said) at is answered names =
          subst (λ (x : Reply). is_storage_reply x ≡ false) is.1 (call_whole changes.change.before.value changes.change.after.value asked.value at said.value answered names).0
      by (made.Turned goal most taken) at is answered names = absurd is

  pub did_turn : (u : Shown S) (place : ℕ) (goal : Option ℕ) (moment most : ℕ) (taken : Turn) (v : Shown S) → IsDone contents may_give texts faults u place (TookTurn goal moment most taken) v
      → ((d : DepotView S) → library_at v place ≡ Some d → NamesIn contents d) → is_storage_turn taken ≡ false
  did_turn u place goal moment most taken v (inl reads) named =
      (turn_whole contents may_give texts faults shows steady reads.reads.before goal moment most taken reads.reads.after reads.reads.does.takes
      (names_same reads.reads.there reads.reads.before reads.reads.same (named reads.reads.there reads.reads.stood))).0
  did_turn u place goal moment most taken v (inr changes) named =
      by changes.change.made changes.change.moment changes.made changes.links.by (names_same changes.there changes.change.before.value changes.follows (named changes.there changes.stood))
    where
      by : (m : Made) (at : ℕ) → IsMadeBy m at (TookTurn goal moment most taken) → MadeBy contents may_give texts faults m changes.change.before.value at changes.change.after.value
          → NamesIn contents changes.change.before.value → is_storage_turn taken ≡ false
      by (made.Asked asked said) at is turned names = absurd is
      by (made.Turned g n turned_to) at is turned names =
          subst (λ (x : Turn). is_storage_turn x ≡ false) is.2
          (turn_whole contents may_give texts faults shows steady changes.change.before.value g at n turned_to.value changes.change.after.value turned.takes names).0

  -- ---- a call, and a collection

  -- what was set at a library's place goes on up to the end
  place_later : (us : List (Shown S)) (library : ℕ) (u after : Shown S) (vs : List (Shown S)) → slice_get us library ≡ Some u → vs ≡ slice_set us library after
      → (last : List (Shown S)) (more : List Line) → Lines contents may_give texts faults vs more last → AreHeld last → (place : ℕ) (d : DepotView S) → library_at after place ≡ Some d → NamesIn contents d
  place_later us library u after vs was is last more goes stood place d there =
      let at : slice_get vs library ≡ Some after = subst (λ (ws : List (Shown S)). slice_get ws library ≡ Some after) (sym is) (set_at us library after u was) in
      let later = lines_on contents may_give texts faults vs more last goes library after at in
      place_names last stood library after later.0 later.1 later.2 place d there

  asks_whole : (us : List (Shown S)) (lib : List ℕ) (call : Call) (moment : ℕ) (given : HallAnswer) (lines : List Line) (vs : List (Shown S)) (draws : List ℕ)
      → AsksSo contents may_give texts faults us lib call moment given lines vs draws → (last : List (Shown S)) (more : List Line) → Lines contents may_give texts faults vs more last → AreHeld last
      → is_storage_reply given.reply ≡ false
  asks_whole us lib call moment given lines vs draws (AsksSo.nowhere away told_is empty same) last more goes stood = ap (λ (a : HallAnswer). is_storage_reply a.reply) told_is
  asks_whole us lib call moment given lines vs draws (AsksSo.denied library u at not_may told_is empty same) last more goes stood = ap (λ (a : HallAnswer). is_storage_reply a.reply) told_is
  asks_whole us lib call moment given lines vs draws (AsksSo.spent library u at may drew told_is empty same) last more goes stood = ap (λ (a : HallAnswer). is_storage_reply a.reply) told_is
  asks_whole us lib call moment given lines vs draws (AsksSo.took library u at may drawn drew fits taken) last more goes stood =
      did_call u taken.place call moment given.reply taken.after taken.done (place_later us library u taken.after vs at.at taken.is last more goes stood taken.place)

  turn_ends : (t : Turn) (left taken : ℕ) (ends : HallCollected) → is_storage_turn t ≡ false → EndsAs t left taken ends → is_storage_end (host_end ends) ≡ false
  turn_ends (turn.Ended number) left taken ends whole tells = ap (λ (e : HallCollected). is_storage_end (host_end e)) tells
  turn_ends (turn.Refused why keys) left taken ends whole tells = ap (λ (e : HallCollected). is_storage_end (host_end e)) tells ∙ whole
  turn_ends other left taken ends whole tells = absurd tells

  ends_whole : (us : List (Shown S)) (library : ℕ) (u v : Shown S) (ends : HallCollected) (turns : List OneTurn) (drawn : ℕ) (vs : List (Shown S)) → slice_get us library ≡ Some u
      → vs ≡ slice_set us library v → EndsSo contents may_give texts faults shows u ends turns v drawn → (last : List (Shown S)) (more : List Line) → Lines contents may_give texts faults vs more last
      → AreHeld last → is_storage_end (host_end ends) ≡ false
  ends_whole us library u v ends turns drawn vs was is (EndsSo.ended before goal w one on taken unspent are tells) last more goes stood =
      turn_ends one.turn _ _ ends (did_turn w one.place one.goal one.moment _ one.turn v taken.done (place_later us library u v vs was is last more goes stood one.place)) tells
  ends_whole us library u v ends turns drawn vs was is (EndsSo.over number w one on taken unspent over tells) last more goes stood = ap (λ (e : HallCollected). is_storage_end (host_end e)) tells
  ends_whole us library u v ends turns drawn vs was is (EndsSo.spent goal on drew tells) last more goes stood = ap (λ (e : HallCollected). is_storage_end (host_end e)) tells

  collects_whole : (us : List (Shown S)) (lib : List ℕ) (secret : Option (List ℕ)) (ends : HallCollected) (lines : List Line) (vs : List (Shown S)) (draws : List ℕ)
      → CollectsSo contents may_give texts faults shows us lib secret ends lines vs draws → (last : List (Shown S)) (more : List Line) → Lines contents may_give texts faults vs more last → AreHeld last
      → is_storage_end (host_end ends) ≡ false
  collects_whole us lib secret ends lines vs draws (CollectsSo.nowhere away is empty same) last more goes stood = ap (λ (e : HallCollected). is_storage_end (host_end e)) is
  collects_whole us lib secret ends lines vs draws (CollectsSo.denied library u at not_may is empty same) last more goes stood = ap (λ (e : HallCollected). is_storage_end (host_end e)) is
  collects_whole us lib secret ends lines vs draws (CollectsSo.went library u at may turns v drawn so seen drew lines_are is) last more goes stood =
      ends_whole us library u v ends turns drawn vs at.at is so last more goes stood

  -- ---- all of a connection

  told_whole : (u : HallShown S) (t : Told Line) (v : HallShown S) → AnsweredSo (hall_rules contents may_give texts faults shows) u t v → (last : List (Shown S)) (more : List Line)
      → Lines contents may_give texts faults v.libraries more last → AreHeld last → tells_storage t ≡ false
  told_whole u (call_asked lib call answer lines) v (moment, shown, (given, asks, stays, is)) last more goes stood =
      ap (λ (a : Answer). is_storage_reply a.reply) is ∙ asks_whole u.libraries lib call moment given lines v.libraries v.drawn asks last more goes stood
  told_whole u (collection_asked lib secret ends lines) v (end, collects, stays, is) last more goes stood =
      ap is_storage_end is ∙ collects_whole u.libraries lib secret end lines v.libraries v.drawn collects last more goes stood
  told_whole u (look_asked lib secret tag same lines) v looked last more goes stood = refl

  ran_whole : (u : HallShown S) (calls : List (Told Line)) (v : HallShown S) → Ran (hall_rules contents may_give texts faults shows) u calls v → AreHeld v.libraries → NoneOfStorage calls
  ran_whole u [] v same stood = tt
  ran_whole u (t ∷ ts) v (mid, first, more) stood =
      let rest = ran_goes contents may_give texts faults shows mid ts v more in
      (told_whole u t mid first v.libraries rest.all rest.leads stood, ran_whole mid ts v more stood)

  hall_whole : (depots afters : List (DepotView S)) (before now : LinkView) (status : ℕ) → AllByRecursion (λ (depot : DepotView S). NamesIn contents depot) depots
      → (serves : ServesHall contents may_give texts faults shows depots afters before now status) → NoneOfStorage serves.ran.0
  hall_whole depots afters before now status named serves =
      ran_whole (hall_shown serves.pass) serves.ran.0 serves.last serves.ran.1 stood
    where
      stood : AreHeld serves.last.libraries
      stood j w at =
          let goes = serves.ran.2 in
          let back = lines_back contents may_give texts faults (shown_by serves.pass) goes.all serves.last.libraries goes.leads j w at in
          let own = new_at depots j back.0 (subst (λ (ws : List (Shown S)). slice_get ws j ≡ Some back.0) serves.begins.shows back.1) in
          let comes = serves.each.1 j w own.0 own.0 (slice_get_within depots j own.0 own.1) in (
            own.0,
            back.2 ∙ ap (λ (u : Shown S). u.start) (sym own.2),
            all_at (λ (depot : DepotView S). NamesIn contents depot) depots j own.0 named own.1,
            (
              slice_index_or afters j own.0,
              subst₂ (λ (d : DepotView S) (v : Shown S). LeadsTo contents may_give texts faults d v.seen (slice_index_or afters j own.0)) (get_or_from_slice_get depots j own.0 own.0 own.1)
                  (get_or_from_slice_get serves.last.libraries j w w at) comes.0.leads,
            ),
          )

  -- ---- those that were started

  -- what was opened where each object lay under its own name has them so
  opens_names : (location : Location) (lib : List ℕ) (standing : Standing) (s : State) → OpensTo location lib shows standing s → IsWhole standing → HasNames s.objects
  opens_names location lib standing s (OpensTo.reopened stood kept opened) whole = opened_names lib stood s opened (subst IsWhole kept whole)
  opens_names location lib standing s (OpensTo.made memory absent moment count shown is) whole =
      subst (λ (z : State). HasNames z.objects) (sym is) (new_names (opening_commit (memory_library lib).lib (memory_library lib).user moment).id _)

  brought_names : (gives : MayGive) (location : Location) (stands : Standings) (lib : List ℕ) (depot : DepotView S) → AreWhole stands
      → IsBrought contents may_give faults gives location shows stands lib depot → NamesIn contents depot
  brought_names gives location stands lib depot all brought =
      let whole = all (location_text location) lib in
      let told = brought.told whole.0 whole.1 in
      names_of contents faults depot told.0 told.1 (opens_names location lib whole.0 told.0 told.2 whole.2)

module _ {S : Type 0} (contents : S → Option Contents) (may_give : S → Slot → Option (List ℕ) → Type 0) (texts faults : S → ℕ) where
  -- what was started is served, and comes back
  pub served_whole : (gives : MayGive) (location : Location) (libs : List (List ℕ)) (shows : ℕ → Type 0) (old new : GroundView) (mid : Standings) (depots afters : List (DepotView S))
      (before now : LinkView) (status : ℕ) → AreBrought contents may_give faults gives location shows old.stands libs (length libs) depots
      → AreOut old.stands mid (location_text location) libs (length libs) → HoldsHall contents may_give texts faults shows depots afters before now status
      → AreTaken contents mid new.stands (location_text location) libs afters 0 (length libs) → AreGood contents faults afters (length libs)
      → (service : ServesLibraries contents may_give texts faults gives location libs shows old new before now status) × (NeverFails faults → AreWhole old.stands → LibrariesWhole service)
  served_whole gives location libs shows old new mid depots afters before now status brought out (held serves) taken good = (
    served depots afters brought serves (came_back_all contents (location_text location) libs afters old.stands mid new.stands (length libs) out taken) good,
    λ steady all.
        hall_whole contents may_give texts faults shows steady depots afters before now status
        (all_each (λ (depot : DepotView S). NamesIn contents depot) depots (λ i d below.
        brought_names contents may_give texts faults shows steady gives location old.stands (slice_index_or libs i []) (slice_index_or depots i d) all
        (brought.1 i [] d (subst (λ (n : ℕ). i < n) brought.0 below)))) serves,
  )
  served_whole gives location libs shows old new mid depots afters before now status brought out (not_held same is left) taken good = (
    no_room depots afters brought same (came_back_all contents (location_text location) libs afters old.stands mid new.stands (length libs) out taken) good is left,
    λ steady all. tt,
  )
