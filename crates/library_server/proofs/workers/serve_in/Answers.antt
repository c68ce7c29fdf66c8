-- The hall is shared by all workers, and its passes go to them; the last one joins them all, and closes.
use Rattle.std.proofs.Common.{◌≡◌, ◌+◌, ℕ, length, map, arith, refl, ap, subst, ◌∙◌}
use Rattle.std.specs.Prelude.{slice_index_or, ⊤}
use Rattle.std.proofs.lemmas.List.Elements.{All-weaker}
use denote.Param.Send.{sendable}
use Rattle.depot.proofs.depot.Depot.TheSendSync as depot
use Rattle.hall_workers.proofs.CrossingLemmas.{hall_sync, parcel_send, pass_send}
use Rattle.hall_workers.specs.Serves.{ServesLink}
use Rattle.hall_workers.specs.Workers.{Stops, Works, worker_seen}
use Rattle.hall_workers.specs.declared.worker.Worker.{Worker}
use Rattle.link_ears.specs.Ear.{link_seen}
use Rattle.sync_calls.proofs.GatheredLemmas.{popped}
use Rattle.sync_calls.proofs.hall.Exit.TheSendSync as exit
use Rattle.sync_calls.specs.Hall.{AreReady, PassOf, made_with, passes_in, shares_of, shown_by}
use Rattle.sync_calls.specs.Making.{AreNew, IsNewOf}
use Rattle.library_server.specs.Port.{AreJoinOf, held, line_by, new_worker, not_held}
use Rattle.library_server.proofs.HallEndLemmas.{closed_within}
use Rattle.library_server.proofs.WorkersLemmas.{all_seated, all_within, close_all, each_one, led_to, seated_at, seated_size}
use Rattle.library_server.proofs.workers.serve_in.Goals as goal

pub returns-in-Err : goal.returns-in-Err
returns-in-Err g c = not_held c.in-Err.ensures.err refl refl

pub seat-workers-requires-clause-size : goal.seat-workers-requires-clause-size
seat-workers-requires-clause-size g c =
    let made = c.in-Ok.ensures.bound in
    let less = c.in-Some.ensures.len in
    let count = c.len.ensures.value in
    let into = ap length c.into_vec.ensures.value in
    let ok = c.into_vec.result.ok.0 in
    omega arith

pub seat-workers-requires-clause-room : goal.seat-workers-requires-clause-room
seat-workers-requires-clause-room g c =
    let into = ap length c.into_vec.ensures.value in
    let ok = c.into_vec.result.ok.0 in
    let room = c.requires.capacity.0 in
    (c.requires.empty.0, omega arith)

pub serve_all-requires : goal.serve_all-requires
serve_all-requires g c =
    let both = popped (IsNewOf g.S.Shelf.contents g.S.Shelf.may_give g.S.Shelf.texts g.S.Shelf.faults _ c.args.depots.items c.in-Ok.made.0) _ _ _ c.in-Some.ensures.items c.in-Ok.ensures.ok in
    let ready = all_seated (λ p. AreReady g.S.Shelf.contents g.S.Shelf.may_give g.S.Shelf.texts g.S.Shelf.faults c.in-Ok.made.0 p) c.pop.new.self.items c.into_vec.result.items c.seat-workers.result.items c.seat-workers.ensures.seated
    (All-weaker (IsNewOf g.S.Shelf.contents g.S.Shelf.may_give g.S.Shelf.texts g.S.Shelf.faults _ c.args.depots.items c.in-Ok.made.0) (λ p. AreReady g.S.Shelf.contents g.S.Shelf.may_give g.S.Shelf.texts g.S.Shelf.faults c.in-Ok.made.0 p) (λ p new. new.ready) c.pop.new.self.items both.0) in (
      search (hall_sync, pass_send, parcel_send, exit.the_send, depot.the_send, sendable) depth 40 fits 20000,
      (
        search (hall_sync, pass_send, parcel_send, exit.the_send, depot.the_send, sendable) depth 40 fits 20000,
        (
          search (hall_sync, pass_send, parcel_send, exit.the_send, depot.the_send, sendable) depth 40 fits 20000,
          (search (hall_sync, pass_send, parcel_send, exit.the_send, depot.the_send, sendable) depth 40 fits 20000, (search (hall_sync, pass_send, parcel_send, exit.the_send, depot.the_send, sendable) depth 40 fits 20000, (search (hall_sync, pass_send, parcel_send, exit.the_send, depot.the_send, sendable) depth 40 fits 20000, ready))),
        ),
      ),
    )

pub unseat-ears-requires-clause-ready : goal.unseat-ears-requires-clause-ready
unseat-ears-requires-clause-ready g c =
    let both = popped (IsNewOf g.S.Shelf.contents g.S.Shelf.may_give g.S.Shelf.texts g.S.Shelf.faults _ c.args.depots.items c.in-Ok.made.0) _ _ _ c.in-Some.ensures.items c.in-Ok.ensures.ok in
    let size = c.serve_all.ensures.size in
    let ok = c.serve_all.new.workers.ok.0 in
    (both.1.ready, λ k d below. c.serve_all.ensures.ready k d (omega (arith, below)))

pub unseat-ears-requires-clause-room : goal.unseat-ears-requires-clause-room
unseat-ears-requires-clause-room g c =
    let size = c.serve_all.ensures.size in
    let ok = c.seat-workers.result.ok.0 in
    let seated = (seated_size c.pop.new.self.items c.into_vec.result.items c.seat-workers.result.items c.seat-workers.ensures.seated).1 in
    let into = ap length c.into_vec.ensures.value in
    let room = c.requires.capacity.1 in
    (c.requires.empty.1, omega arith)

pub close-requires-clause-all : goal.close-requires-clause-all
close-requires-clause-all g c =
    let both = popped (IsNewOf g.S.Shelf.contents g.S.Shelf.may_give g.S.Shelf.texts g.S.Shelf.faults _ c.args.depots.items c.in-Ok.made.0) _ _ _ c.in-Some.ensures.items c.in-Ok.ensures.ok in
    let made = c.in-Ok.ensures.bound in
    let count = c.len.ensures.value in
    let size = c.serve_all.ensures.size in
    let ok = c.seat-workers.result.ok.0 in
    let now_ok = c.serve_all.new.workers.ok.0 in
    let sizes = (seated_size c.pop.new.self.items c.into_vec.result.items c.seat-workers.result.items c.seat-workers.ensures.seated).1 in
    let into = ap length c.into_vec.ensures.value in
    close_all c.serve_all.new.workers.items (shares_of c.unseat-ears.new.last) (shares_of c.in-Some.pass) (made_with c.unseat-ears.new.last) (made_with c.in-Some.pass) (length c.args.ears)
    (each_one g.S.Shelf.contents g.S.Shelf.may_give g.S.Shelf.texts g.S.Shelf.faults (record { hears = λ ear port. ⊤; tells = g.E.Ear.tells; back = g.E.Ear.back; faults = g.E.Ear.faults; seen = link_seen g.E.L.Link.left g.E.L.Link.taken g.E.L.Link.given g.E.L.Link.asked g.E.L.Link.faults }) (g.C.Clock.shows c.args.clock.now)
    c.seat-workers.result.items c.serve_all.new.workers.items (omega arith)
    (all_seated (λ p. shares_of p ≡ 1) c.pop.new.self.items c.into_vec.result.items c.seat-workers.result.items c.seat-workers.ensures.seated
    (All-weaker (IsNewOf g.S.Shelf.contents g.S.Shelf.may_give g.S.Shelf.texts g.S.Shelf.faults _ c.args.depots.items c.in-Ok.made.0) (λ p. shares_of p ≡ 1) (λ p new. new.share) c.pop.new.self.items both.0))
    (λ i d below. c.serve_all.ensures.each i d (omega (arith, below))))
    (omega arith) c.unseat-ears.ensures.size.0 both.1.share c.unseat-ears.ensures.size.1 (both.1.made ∙ omega arith)

pub returns : goal.returns
returns g c =
    let both = popped (IsNewOf g.S.Shelf.contents g.S.Shelf.may_give g.S.Shelf.texts g.S.Shelf.faults _ c.args.depots.items c.in-Ok.made.0) _ _ _ c.in-Some.ensures.items c.in-Ok.ensures.ok in
    let count = c.len.ensures.value in
    let made = c.in-Ok.ensures.bound in
    let less = c.in-Some.ensures.len in
    let front = c.pop.new.self.ok.0 in
    let size = c.serve_all.ensures.size in
    let ok = c.seat-workers.result.ok.0 in
    let now_ok = c.serve_all.new.workers.ok.0 in
    let seated = c.seat-workers.ensures.seated in
    let sizes = (seated_size c.pop.new.self.items c.into_vec.result.items c.seat-workers.result.items seated).1 in
    let into = ap length c.into_vec.ensures.value in
    let many : _ ≡ length c.args.ears + 1 = ap (λ (n : ℕ). n + 1) count in
    let joined = subst (λ us. AreJoinOf us (map (λ (w : Worker (PassOf g.row.S.Denot) g.row.E.Denot). shown_by w.pass) c.serve_all.new.workers.items) (shown_by c.unseat-ears.new.last)) both.1.shows c.unseat-ears.ensures.joined in
    held (record {
      hall = c.in-Ok.made.0;
      passes = c.pop.new.self.items;
      workers = c.serve_all.new.workers.items;
      sizes = (omega arith, omega arith);
      begins = subst (λ (n : ℕ). AreNew g.S.Shelf.contents g.S.Shelf.may_give g.S.Shelf.texts g.S.Shelf.faults n c.args.depots.items c.in-Ok.made.0 c.pop.new.self.items) many both.0;
      works = λ i p e w below.
          subst (λ old. Works (ServesLink g.S.Shelf.contents g.S.Shelf.may_give g.S.Shelf.texts g.S.Shelf.faults (g.C.Clock.shows c.args.clock.now)) (link_seen g.E.L.Link.left g.E.L.Link.taken g.E.L.Link.given g.E.L.Link.asked g.E.L.Link.faults) old
          (worker_seen g.E.Ear.tells g.E.Ear.back g.E.Ear.faults (slice_index_or c.serve_all.new.workers.items i w)))
          (seated_at (record { hears = λ ear port. ⊤; tells = g.E.Ear.tells; back = g.E.Ear.back; faults = g.E.Ear.faults; seen = link_seen g.E.L.Link.left g.E.L.Link.taken g.E.L.Link.given g.E.L.Link.asked g.E.L.Link.faults }) c.pop.new.self.items c.into_vec.result.items c.seat-workers.result.items seated i p e w (omega (arith, below))
          ∙ ap (λ es. new_worker (record { hears = λ ear port. ⊤; tells = g.E.Ear.tells; back = g.E.Ear.back; faults = g.E.Ear.faults; seen = link_seen g.E.L.Link.left g.E.L.Link.taken g.E.L.Link.given g.E.L.Link.asked g.E.L.Link.faults }) (slice_index_or c.pop.new.self.items i p) (slice_index_or es i e)) c.into_vec.ensures.value)
          (c.serve_all.ensures.each i w (omega (arith, below)));
      stops = λ i p e w below.
          subst (λ old. Stops old (slice_index_or c.serve_all.new.workers.items i w).ending
          (worker_seen g.E.Ear.tells g.E.Ear.back g.E.Ear.faults (slice_index_or c.serve_all.new.workers.items i w)))
          (seated_at (record { hears = λ ear port. ⊤; tells = g.E.Ear.tells; back = g.E.Ear.back; faults = g.E.Ear.faults; seen = link_seen g.E.L.Link.left g.E.L.Link.taken g.E.L.Link.given g.E.L.Link.asked g.E.L.Link.faults }) c.pop.new.self.items c.into_vec.result.items c.seat-workers.result.items seated i p e w (omega (arith, below))
          ∙ ap (λ es. new_worker (record { hears = λ ear port. ⊤; tells = g.E.Ear.tells; back = g.E.Ear.back; faults = g.E.Ear.faults; seen = link_seen g.E.L.Link.left g.E.L.Link.taken g.E.L.Link.given g.E.L.Link.asked g.E.L.Link.faults }) (slice_index_or c.pop.new.self.items i p) (slice_index_or es i e)) c.into_vec.ensures.value)
          (c.serve_all.ensures.stops i w (omega (arith, below)));
      ends_are = c.from_vec.ensures.value ∙ c.unseat-ears.ensures.ears;
      last = shown_by c.unseat-ears.new.last;
      joined = joined;
      each = led_to g.S.Shelf.contents g.S.Shelf.may_give g.S.Shelf.texts g.S.Shelf.faults c.args.depots.items c.close.result.items _ (passes_in c.unseat-ears.new.last) joined c.close.ensures;
      within = all_within c.serve_all.new.workers.items c.unseat-ears.new.last c.unseat-ears.ensures.drawn
          (closed_within g.S.Shelf.contents g.S.Shelf.may_give g.S.Shelf.texts g.S.Shelf.faults (passes_in c.unseat-ears.new.last) c.close.result.items c.close.ensures);
      line_is = c.line_of.ensures.value ∙ ap line_by c.unseat-ears.ensures.tally;
    })
