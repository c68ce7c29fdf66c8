-- A lock that is told as spent at a port: all its turns were taken. The key lemmas are taken_at_last, taken_at_port and turns_of_port.
use Rattle.std.proofs.Common.{◌≡◌, ℕ, zero, suc, ◌<◌, List, [], ◌∷◌, length, Option, Some, option_map, arith, refl, sym, ap, subst, ◌∙◌}
use Rattle.std.specs.List.{slice_get}
use Rattle.std.specs.Prelude.{map as map_list, slice_index_or, sum_by}
use Rattle.std.proofs.lemmas.List.{get_or_default}
use Rattle.std.proofs.lemmas.List.Elements.{All-get_or}
use Rattle.std.proofs.lemmas.List.Sums.{sum_by-cons}
use Rattle.std.proofs.lemmas.Option.{get_or_from_slice_get, slice_get-get_or, slice_get_within}
use Rattle.depot.specs.DepotView.{DepotView}
use Rattle.object_store.specs.Shelf.{Contents}
use Rattle.object_store.specs.declared.shelf.Slot.{Slot}
use Rattle.turnstile.specs.Rule.{most_turns}
use Rattle.sync_calls.specs.Asking.{IsAt}
use Rattle.sync_calls.specs.Hall.{AreWithin, PassOf, drawn_by, shown_by}
use Rattle.sync_calls.specs.Making.{IsNewOf, new_shown}
use Rattle.sync_calls.specs.Shown.{Shown}
use Rattle.hall_server.proofs.SpentLemmas.{spent_later, spent_ran, taken_all}
use Rattle.hall_server.specs.Serving.{AreTakenOf, IsSpentOf, hall_shown}
use Rattle.hall_workers.proofs.WorkingLemmas.{in_turn_keeps}
use Rattle.hall_workers.specs.Serves.{ServesLink}
use Rattle.hall_workers.specs.Workers.{Had, InTurn}
use Rattle.hall_workers.specs.declared.worker.Worker.{Worker}
use Rattle.link_ears.specs.Ear.{EarRules}
use Rattle.server_words.specs.declared.line.Line.{Line}
use Rattle.library_server.specs.Port.{ServesWorkers, TellsTakenThrough}
use Rattle.library_server.proofs.HallEndLemmas.{StayStarted, stay_started}

module _ {S : Type 0} (contents : S → Option Contents) (may_give : S → Slot → Option (List ℕ) → Type 0) (texts faults : S → ℕ) where
  -- what began alike is named alike
  started_alike : (vs us ws : List (Shown S)) → StayStarted contents may_give texts faults vs us → StayStarted contents may_give texts faults vs ws → (i : ℕ) (x : Shown S) → i < length us
      → (slice_index_or ws i x).start ≡ (slice_index_or us i x).start
  started_alike vs us ws mine its i x below =
      let within : i < length vs = subst (λ (n : ℕ). i < n) mine.0 below in
      its.1 i x x within ∙ sym (mine.1 i x x within)

  -- a lock that one of several passes has read as spent, which began alike, is one of which all turns were taken, where none has read of more
  pub taken_at_last : (vs us ws : List (Shown S)) (draws : List ℕ) → StayStarted contents may_give texts faults vs us → StayStarted contents may_give texts faults vs ws → AreWithin draws ws
      → (lib : List ℕ) (library : ℕ) (x : Shown S) → IsAt us lib library x → slice_get draws library ≡ Some most_turns → AreTakenOf ws lib
  taken_at_last vs us ws draws mine its within lib library x at last =
      let below : library < length us = slice_get_within us library x at.at in
      let there : library < length ws = subst (λ (n : ℕ). library < n) (mine.0 ∙ sym its.0) below in
      let w : Shown S = slice_index_or ws library x in
      let is : slice_get ws library ≡ Some w = slice_get-get_or ws library x there in
      let same : w.start ≡ x.start = started_alike vs us ws mine its library x below ∙ ap (λ (u : Shown S). u.start) (get_or_from_slice_get us library x x at.at) in (
        library,
        w,
        record {
          at = is;
          named = ap (λ (o : Option (DepotView S)). option_map (λ (depot : DepotView S). depot.state.lib) o) same ∙ at.named;
          first = λ j v less here named.
              let inside : j < length us = subst (λ (n : ℕ). j < n) (its.0 ∙ sym mine.0) (slice_get_within ws j v here) in
              let alike : v.start ≡ (slice_index_or us j v).start
              = ap (λ (u : Shown S). u.start) (sym (get_or_from_slice_get ws j v v here)) ∙ started_alike vs us ws mine its j v inside in
              at.first j (slice_index_or us j v) less (slice_get-get_or us j v inside)
              (ap (λ (o : Option (DepotView S)). option_map (λ (depot : DepotView S). depot.state.lib) o) (sym alike) ∙ named);
        },
        within library most_turns w last is,
      )

module _ {S E L : Type 0} (contents : S → Option Contents) (may_give : S → Slot → Option (List ℕ) → Type 0) (texts faults : S → ℕ) (rules : EarRules E L) (shows : ℕ → Type 0) where
  -- a lock stays spent through links
  spent_through : (lib : List ℕ) (u v : PassOf S) (had : List (Had L)) → InTurn (ServesLink contents may_give texts faults shows) rules.seen u had v
      → IsSpentOf (hall_shown u) lib → IsSpentOf (hall_shown v) lib
  spent_through lib u v had through =
      in_turn_keeps (ServesLink contents may_give texts faults shows) rules.seen (λ p q. IsSpentOf (hall_shown p) lib → IsSpentOf (hall_shown q) lib)
      (λ p spent. spent) (λ p mid q first rest spent. rest (first spent))
      (λ p q before now how by. spent_later contents may_give texts faults shows (hall_shown p) by.ran.0 (hall_shown q) lib by.ran.1) u v had through

  -- each history goes on as it began
  stays_through : (u v : PassOf S) (had : List (Had L)) → InTurn (ServesLink contents may_give texts faults shows) rules.seen u had v
      → StayStarted contents may_give texts faults (shown_by u) (shown_by v)
  stays_through u v had through =
      in_turn_keeps (ServesLink contents may_give texts faults shows) rules.seen (λ p q. StayStarted contents may_give texts faults (shown_by p) (shown_by q))
      (λ p. (refl, λ i v u below. ap (λ (w : Shown S). w.start) (get_or_default (shown_by p) i v u below)))
      (λ p mid q first rest. (
        rest.0 ∙ first.0,
        λ i v u below. rest.1 i v u (subst (λ (n : ℕ). i < n) (sym first.0) below) ∙ first.1 i u u below,
      ))
      (λ p q before now how by. stay_started contents may_give texts faults (shown_by p) by.ran.2.all (shown_by q) by.ran.2.leads) u v had through

  taken_through : (last : List (Shown S)) (v : PassOf S) → ((lib : List ℕ) → IsSpentOf (hall_shown v) lib → AreTakenOf last lib) → (u : PassOf S) (had : List (Had L))
      → (through : InTurn (ServesLink contents may_give texts faults shows) rules.seen u had v) → TellsTakenThrough contents may_give texts faults rules shows last u had v through
  taken_through last v taken u [] same = tt
  taken_through last v taken u (one ∷ more) (mid, by, rest) = (
    λ calls ran. taken_all (hall_shown mid) last calls (λ lib spent. taken lib (spent_through lib mid v more rest spent))
        (spent_ran contents may_give texts faults shows (hall_shown u) calls (hall_shown mid) ran),
    taken_through last v taken mid more rest,
  )

  pub taken_at_port : (depots afters : List (DepotView S)) (ears ends : List E) (told : Line) (serves : ServesWorkers contents may_give texts faults rules shows depots afters ears ends told)
      → (i : ℕ) (p : PassOf S) (e : E) (w : Worker (PassOf S) E) (below : i < length ears)
      → TellsTakenThrough contents may_give texts faults rules shows serves.last (slice_index_or serves.passes i p) (serves.works i p e w below).had (slice_index_or serves.workers i w).pass
      (serves.works i p e w below).through
  taken_at_port depots afters ears ends told serves i p e w below =
      let works = serves.works i p e w below in
      let u : PassOf S = slice_index_or serves.passes i p in
      let v : PassOf S = (slice_index_or serves.workers i w).pass in
      let inside : i < length serves.passes = subst (λ (n : ℕ). i < n) (sym serves.sizes.0) below in
      let among : i < length serves.workers = subst (λ (n : ℕ). i < n) (sym serves.sizes.1) below in
      let new = All-get_or (IsNewOf contents may_give texts faults _ depots serves.hall) serves.passes i p inside serves.begins in
      let stays : StayStarted contents may_give texts faults (map_list new_shown depots) (shown_by v)
      = subst (λ (us : List (Shown S)). StayStarted contents may_give texts faults us (shown_by v)) new.shows (stays_through u v works.had works.through) in
      let joins : StayStarted contents may_give texts faults (map_list new_shown depots) serves.last = (serves.joined.0, λ i v u below. (serves.joined.1 i u u v below).start) in
      let within = All-get_or (λ (x : Worker (PassOf S) E). AreWithin (drawn_by x.pass) serves.last) serves.workers i w among serves.within in
      taken_through serves.last v
      (λ lib spent. taken_at_last contents may_give texts faults (map_list new_shown depots) (shown_by v) serves.last (drawn_by v) stays joins within lib spent.0 spent.1 spent.2 spent.3)
      u works.had works.through

  -- a sum over what is made of what is made of each
  sum_of_twice : {A B C : Type 0} (f : C → ℕ) (g : B → C) (h : A → B) (xs : List A) → sum_by f (map_list g (map_list h xs)) ≡ sum_by (λ x. f (g (h x))) xs
  sum_of_twice f g h [] = refl
  sum_of_twice f g h (x ∷ xs) =
      let more = sum_of_twice f g h xs in
      let mine = sum_by-cons f (g (h x)) (map_list g (map_list h xs)) in
      let its = sum_by-cons (λ y. f (g (h y))) x xs in
      omega (arith, more, mine, its)

  -- nothing was taken before
  new_turns : (depots : List (DepotView S)) (i : ℕ) (u : Shown S) → i < length (map_list new_shown depots) → (slice_index_or (map_list new_shown depots) i u).turns ≡ 0
  new_turns [] i u below = absurd (omega (arith, below))
  new_turns (d ∷ ds) zero u below = refl
  new_turns (d ∷ ds) (suc i) u below = new_turns ds i u (omega (arith, below))

  pub turns_of_port : (depots afters : List (DepotView S)) (ears ends : List E) (told : Line) (serves : ServesWorkers contents may_give texts faults rules shows depots afters ears ends told)
      → (library : ℕ) (u : Shown S) → slice_get serves.last library ≡ Some u
      → u.turns ≡ sum_by (λ (w : Worker (PassOf S) E). (slice_index_or (shown_by w.pass) library u).turns) serves.workers
  turns_of_port depots afters ears ends told serves library u at =
      let below : library < length (map_list new_shown depots) = subst (λ (n : ℕ). library < n) serves.joined.0 (slice_get_within serves.last library u at) in
      let is : (slice_index_or serves.last library u).turns ≡ u.turns = ap (λ (w : Shown S). w.turns) (get_or_from_slice_get serves.last library u u at) in
      let join = (serves.joined.1 library u u u below).turns in
      let none = new_turns depots library u below in
      let sum = sum_of_twice (λ (w : Shown S). w.turns) (λ (us : List (Shown S)). slice_index_or us library u) (λ (w : Worker (PassOf S) E). shown_by w.pass) serves.workers in
      omega (arith, is, join, none, sum)
