-- The last worker that is left is joined, and its ear is out.
use Rattle.std.proofs.Common.{◌≡◌, ◌+◌, ◌++◌, ◌∷◌, [], ℕ, All, List, length, map, arith, refl, ap, subst, sym, ◌∙◌}
use Rattle.std.specs.Prelude.{sum_by}
use Rattle.std.proofs.lemmas.List.{map-append}
use Rattle.std.proofs.lemmas.List.Elements.{All-nil, All-push, All-weaker}
use Rattle.std.proofs.lemmas.List.Sorted.{All-permutation}
use Rattle.std.proofs.lemmas.List.Sums.{sum_by_push}
use Rattle.hall_workers.specs.declared.worker.Worker.{Worker}
use Rattle.sync_calls.proofs.GatheredLemmas.{popped}
use Rattle.sync_calls.specs.Hall.{AreReady, PassOf, drawn_by, passes_in, shares_of, shown_by}
use Rattle.sync_calls.specs.Shown.{Shown}
use Rattle.library_server.specs.Port.{AreJoinOf, ReadNoMore, tallied, tally_of}
use Rattle.library_server.proofs.JoinLemmas.{books_once, join_more, join_none, joined_drawn, joined_shown, read_on}
use Rattle.library_server.proofs.WorkersLemmas.{tally_more, turned_all, unseated_more}
use Rattle.library_server.proofs.workers.unseat.Goals as goal

pub loop-worker-init : goal.loop-worker-init
loop-worker-init g c =
    let none = ap length c.requires.room.0 in
    let room = c.requires.room.1 in
    let turned = c.reverse.ensures.len in
    let ok = c.args.ears.ok.0 in (
      [],
      record {
        all = refl;
        ready = c.requires.ready.0;
        left = All-permutation (λ (w : Worker (PassOf g.row.S.Denot) g.row.E.Denot). AreReady g.S.Shelf.contents g.S.Shelf.may_give g.S.Shelf.texts g.S.Shelf.faults c.args.hall.now w.pass) c.args.workers.items c.reverse.new.self.items
            c.reverse.ensures.permutation c.requires.ready.1;
        room = omega arith;
        ears = c.requires.room.0;
        tally = refl;
        joined = join_none (shown_by c.args.last.now) (books_once g.S.Shelf.contents g.S.Shelf.may_give g.S.Shelf.texts g.S.Shelf.faults c.args.hall.now c.args.last.now c.requires.ready.0);
        drawn = All-nil (λ (w : Worker (PassOf g.row.S.Denot) g.row.E.Denot). ReadNoMore (drawn_by w.pass) (drawn_by c.args.last.now));
        size = (omega arith, refl);
      },
    )

pub join-requires : goal.join-requires
join-requires g c = record {
  ready = (
    c.loop-worker.invariant.1.ready,
    (popped (λ (w : Worker (PassOf g.row.S.Denot) g.row.E.Denot). AreReady g.S.Shelf.contents g.S.Shelf.may_give g.S.Shelf.texts g.S.Shelf.faults c.args.hall.now w.pass) _ _ _ c.in-Some.ensures.items c.loop-worker.invariant.1.left).1,
  );
}

pub push_reserved-requires : goal.push_reserved-requires
push_reserved-requires g c =
    let room = c.loop-worker.invariant.1.room in
    let less = c.in-Some.ensures.len in
    omega arith

pub loop-worker-preserved : goal.loop-worker-preserved
loop-worker-preserved g c =
    let done = c.loop-worker.invariant.0 in
    let so = c.loop-worker.invariant.1 in
    let worker = c.in-Some.worker in
    let both = popped (λ (w : Worker (PassOf g.row.S.Denot) g.row.E.Denot). AreReady g.S.Shelf.contents g.S.Shelf.may_give g.S.Shelf.texts g.S.Shelf.faults c.args.hall.now w.pass) c.loop-worker.workers.items c.pop.new.self.items worker c.in-Some.ensures.items so.left in
    let less = c.in-Some.ensures.len in
    let room = so.room in
    let more = c.push_reserved.ensures.len in
    let kept = c.push_reserved.ensures.capacity in
    let into = c.loop-worker.last.passes.ok.0 in
    let from = worker.pass.passes.ok.0 in
    let mine = so.ready.size in
    let its = both.1.size in
    let size : length (passes_in worker.pass) ≡ length (passes_in c.loop-worker.last) = omega arith in
    let served = worker.served.ok.0 in
    let count = c.len.ensures in
    let counted : c.len.result ≡ length worker.served.items = omega arith in (
      done ++ worker ∷ [],
      record {
        all = unseated_more done c.loop-worker.workers.items c.pop.new.self.items _ worker c.in-Some.ensures.items so.all;
        ready = c.join.ensures.ready;
        left = both.0;
        room = omega arith;
        ears = c.push_reserved.ensures.items ∙ (ap (λ es. es ++ worker.ear ∷ []) so.ears ∙ sym (map-append (λ (w : Worker (PassOf g.row.S.Denot) g.row.E.Denot). w.ear) done (worker ∷ [])));
        tally = c.tallied-tally.ensures.value ∙ (ap (λ t. tallied t worker.ending c.len.result) so.tally ∙ (ap (λ (n : ℕ). tallied (tally_of done) worker.ending n) counted ∙ tally_more done worker));
        joined = subst (λ (all : List (List (Shown g.row.S.Denot))). AreJoinOf (shown_by c.args.last.now) all (shown_by c.join.new.into))
            (sym (map-append (λ (w : Worker (PassOf g.row.S.Denot) g.row.E.Denot). shown_by w.pass) done (worker ∷ [])))
            (join_more (shown_by c.args.last.now) (map (λ (w : Worker (PassOf g.row.S.Denot) g.row.E.Denot). shown_by w.pass) done) (shown_by c.loop-worker.last) (shown_by worker.pass) (shown_by c.join.new.into) so.joined
            (joined_shown (passes_in c.loop-worker.last) (passes_in worker.pass) (passes_in c.join.new.into) size c.join.ensures.told));
        drawn =
            let more = joined_drawn (passes_in c.loop-worker.last) (passes_in worker.pass) (passes_in c.join.new.into) size c.join.ensures.told in
            All-push (λ (w : Worker (PassOf g.row.S.Denot) g.row.E.Denot). ReadNoMore (drawn_by w.pass) (drawn_by c.join.new.into)) done worker
            (All-weaker (λ (w : Worker (PassOf g.row.S.Denot) g.row.E.Denot). ReadNoMore (drawn_by w.pass) (drawn_by c.loop-worker.last)) (λ (w : Worker (PassOf g.row.S.Denot) g.row.E.Denot). ReadNoMore (drawn_by w.pass) (drawn_by c.join.new.into))
            (λ w read. read_on (drawn_by w.pass) (drawn_by c.loop-worker.last) (drawn_by c.join.new.into) read more.0) done so.drawn)
            more.1;
        size = (
          c.join.ensures.size.0 ∙ (let a = so.size.0 in let b = sum_by_push (λ (w : Worker (PassOf g.row.S.Denot) g.row.E.Denot). shares_of w.pass) done worker in omega arith),
          c.join.ensures.size.1 ∙ so.size.1,
        );
      },
    )

pub returns : goal.returns
returns g c =
    let done = c.loop-worker.invariant.0 in
    let so = c.loop-worker.invariant.1 in
    let ok = c.loop-worker.workers.ok.0 in
    let none = c.in_default.ensures.cases in
    let whole = turned_all done c.loop-worker.workers.items c.reverse.new.self.items c.args.workers.items (omega (arith, none)) c.reverse.ensures.items so.all in record {
      ready = so.ready;
      joined = subst (λ ws. AreJoinOf (shown_by c.args.last.now) (map (λ (w : Worker (PassOf g.row.S.Denot) g.row.E.Denot). shown_by w.pass) ws) (shown_by c.loop-worker.last)) whole so.joined;
      drawn = subst (λ ws. All (λ (w : Worker (PassOf g.row.S.Denot) g.row.E.Denot). ReadNoMore (drawn_by w.pass) (drawn_by c.loop-worker.last)) ws) whole so.drawn;
      size = (so.size.0 ∙ ap (λ ws. shares_of c.args.last.now + sum_by (λ (w : Worker (PassOf g.row.S.Denot) g.row.E.Denot). shares_of w.pass) ws) whole, so.size.1);
      tally = so.tally ∙ ap tally_of whole;
      ears = so.ears ∙ ap (λ ws. map (λ (w : Worker (PassOf g.row.S.Denot) g.row.E.Denot). w.ear) ws) whole;
    }
