-- The last pass and the last ear that are left go to the next worker.
use Rattle.std.proofs.Common.{◌≡◌, ◌++◌, ◌∷◌, [], All, length, map, reverse, arith, ap, subst, sym, ◌∙◌}
use Rattle.std.proofs.lemmas.List.Elements.{All-nil, All-push}
use Rattle.hall_workers.specs.declared.worker.Worker.{Worker}
use Rattle.library_server.proofs.WorkersLemmas.{seated_more, turned_all}
use Rattle.library_server.proofs.workers.seat.Goals as goal

pub loop-ear-init : goal.loop-ear-init
loop-ear-init g c =
    let ears = c.reverse-2.ensures.len in
    let none = ap length c.requires.room.0 in
    let room = c.requires.room.1 in
    let ok = c.args.workers.ok.0 in record {
      size = c.reverse.ensures.len ∙ (c.requires.size ∙ sym ears);
      room = omega arith;
      pass_is = ap (λ ws. map (λ w. w.pass) ws ++ reverse c.reverse.new.self.items) c.requires.room.0;
      ear_is = ap (λ ws. map (λ w. w.ear) ws ++ reverse c.reverse-2.new.self.items) c.requires.room.0;
      none = subst (λ ws. All (λ w. w.served.items ≡ []) ws) (sym c.requires.room.0) (All-nil (λ (w : Worker g.row.P.Denot g.row.E.Denot). w.served.items ≡ []));
    }

pub loop-ear-preserved : goal.loop-ear-preserved
loop-ear-preserved g c =
    let ear = c.in-Some.ensures.len in
    let pass = c.in-Some-pop.ensures.len in
    let size = c.loop-ear.invariant.size in
    let room = c.loop-ear.invariant.room in
    let more = c.push_reserved.ensures.len in
    let kept = c.push_reserved.ensures.capacity in record {
      size = omega arith;
      room = omega arith;
      pass_is = subst (λ ws. map (λ w. w.pass) ws ++ reverse c.pop-in-Some.new.self.items ≡ reverse c.reverse.new.self.items) (sym c.push_reserved.ensures.items)
          (seated_more (λ (w : Worker g.row.P.Denot g.row.E.Denot). w.pass) c.loop-ear.workers.items _ c.loop-ear.passes.items c.pop-in-Some.new.self.items _ c.in-Some-pop.ensures.items c.loop-ear.invariant.pass_is);
      ear_is = subst (λ ws. map (λ w. w.ear) ws ++ reverse c.pop.new.self.items ≡ reverse c.reverse-2.new.self.items) (sym c.push_reserved.ensures.items)
          (seated_more (λ (w : Worker g.row.P.Denot g.row.E.Denot). w.ear) c.loop-ear.workers.items _ c.loop-ear.ears.items c.pop.new.self.items _ c.in-Some.ensures.items c.loop-ear.invariant.ear_is);
      none = subst (λ ws. All (λ w. w.served.items ≡ []) ws) (sym c.push_reserved.ensures.items)
          (All-push (λ (w : Worker g.row.P.Denot g.row.E.Denot). w.served.items ≡ []) c.loop-ear.workers.items _ c.loop-ear.invariant.none c.new.ensures.items);
    }

pub returns : goal.returns
returns g c =
    let ears = c.loop-ear.ears.ok.0 in
    let passes = c.loop-ear.passes.ok.0 in
    let none = c.in_default.ensures.cases in
    let size = c.loop-ear.invariant.size in record {
      seated = record {
        pass_is = turned_all (map (λ (w : Worker g.row.P.Denot g.row.E.Denot). w.pass) c.loop-ear.workers.items) c.loop-ear.passes.items c.reverse.new.self.items c.args.passes.items (omega (arith, none)) c.reverse.ensures.items
            c.loop-ear.invariant.pass_is;
        ear_is = turned_all (map (λ (w : Worker g.row.P.Denot g.row.E.Denot). w.ear) c.loop-ear.workers.items) c.loop-ear.ears.items c.reverse-2.new.self.items c.args.ears.items (omega (arith, none)) c.reverse-2.ensures.items
            c.loop-ear.invariant.ear_is;
        none = c.loop-ear.invariant.none;
      };
    }
