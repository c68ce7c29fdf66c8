-- One row more was given, or the first that was not ends it.
use Rattle.std.proofs.Common.{◌≡◌, ◌+◌, ◌<◌, ℕ, List, [], ◌∷◌, ◌++◌, ◌∙◌, drop, length, vec_len, inl, refl, sym, ap, subst, arith}
use Rattle.std.proofs.lemmas.Bool.{leb-true}
use Rattle.std.proofs.lemmas.List.{drop_more, drop_all}
use Rattle.library_state.specs.declared.refusal.Refusal.TheVariants.{NoMemory}
use Rattle.http_front.specs.declared.outcome.Outcome.{Outcome}
use Rattle.http_front.specs.declared.outcome.Outcome.TheVariants.{Packed, Refused}
use Rattle.http_front.specs.declared.row.Row.{Row}
use Rattle.http_front.specs.Rows.{row_with}
use Rattle.worker_server.specs.Calls.{GetsEach, most_packed, packed_size, rules_at, told_of}
use Rattle.worker_server.proofs.EachLemmas.{GetsEach-given, GetsEach-over, GetsEach-refused, first_of, packed_fit, packed_now, packed_over, told_first}
use Rattle.worker_server.proofs.asking.get_each.Goals as goal

pub returns-in-Err-row_of-clause-asks : goal.returns-in-Err-row_of-clause-asks
returns-in-Err-row_of-clause-asks g c =
    let rules = rules_at (g.H.Host.shows c.args.host.now) g.H.Host.asks g.H.Host.spares g.H.Host.collects g.H.Host.looks in
    let asked = c.get_next-answer.ensures.asks in
    let id = c.id-item.result in
    let rest = drop (c.loop-id.id-index + 1) c.args.ids.now in
    let left : drop c.loop-id.id-index c.args.ids.now ≡ id ∷ rest = drop_more c.args.ids.now c.loop-id.id-index id c.loop-id-test.true ∙ ap (λ (x : List ℕ). x ∷ rest) (sym c.id-item.is) in
    let told = told_first rules c.loop-id.rows.items _ _ c.args.lib c.args.secret c.args.ids.now (id ∷ rest) c.get_next-answer.result asked.0 (vec_len c.loop-id.rows) c.loop-id.id-index c.is_empty.result
    c.is_empty.ensures c.loop-id.invariant.count c.loop-id.rows.ok.0 left asked.2 in
    let whole = c.loop-id.invariant.goes_on (told_of c.get_next-answer.result) asked.0 (g.H.Host.view c.get_next-answer.new.pass)
    (subst (λ (ids : List (List ℕ)). GetsEach rules c.args.lib c.args.secret (g.H.Host.view c.loop-id.pass) ids c.loop-id.rows.items (told_of c.get_next-answer.result) asked.0 (g.H.Host.view c.get_next-answer.new.pass)) (sym left)
    (GetsEach-refused rules c.args.lib c.args.secret _ _ id rest c.loop-id.rows.items c.get_next-answer.result asked.0 asked.1 told c.in-Err-row_of.ensures.not_got)) in
    (whole.0, inl (subst (λ (o : Outcome). GetsEach rules c.args.lib c.args.secret (g.H.Host.view c.args.pass.now) c.args.ids.now [] o whole.0 (g.H.Host.view c.get_next-answer.new.pass)) (sym c.in-Err-row_of.ensures.refused) whole.1))

-- with this row they are more than fit: the outcome is want of memory
pub returns-then-not-is_room-clause-asks : goal.returns-then-not-is_room-clause-asks
returns-then-not-is_room-clause-asks g c =
    let rules = rules_at (g.H.Host.shows c.args.host.now) g.H.Host.asks g.H.Host.spares g.H.Host.collects g.H.Host.looks in
    let asked = c.get_next-answer.ensures.asks in
    let id = c.id-item.result in
    let bytes = c.in-Ok-row_of.row.bytes in
    let rest = drop (c.loop-id.id-index + 1) c.args.ids.now in
    let left : drop c.loop-id.id-index c.args.ids.now ≡ id ∷ rest = drop_more c.args.ids.now c.loop-id.id-index id c.loop-id-test.true ∙ ap (λ (x : List ℕ). x ∷ rest) (sym c.id-item.is) in
    let told = told_first rules c.loop-id.rows.items _ _ c.args.lib c.args.secret c.args.ids.now (id ∷ rest) c.get_next-answer.result asked.0 (vec_len c.loop-id.rows) c.loop-id.id-index c.is_empty.result
    c.is_empty.ensures c.loop-id.invariant.count c.loop-id.rows.ok.0 left asked.2 in
    let over : most_packed < packed_size (c.loop-id.rows.items ++ row_with id bytes ∷ []) = packed_over c.loop-id.rows.items id bytes c.slice.result.now c.loop-id.packed c.loop-id.invariant.size c.slice.ensures.value c.if-not-is_room.ensures.value in
    let whole = c.loop-id.invariant.goes_on (Refused NoMemory) asked.0 (g.H.Host.view c.get_next-answer.new.pass)
    (subst (λ (ids : List (List ℕ)). GetsEach rules c.args.lib c.args.secret (g.H.Host.view c.loop-id.pass) ids c.loop-id.rows.items (Refused NoMemory) asked.0 (g.H.Host.view c.get_next-answer.new.pass)) (sym left)
    (GetsEach-over rules c.args.lib c.args.secret _ _ id rest c.loop-id.rows.items c.get_next-answer.result asked.0 bytes asked.1 told c.in-Ok-row_of.ensures.got over)) in
    (whole.0, inl whole.1)

pub loop-id-preserved : goal.loop-id-preserved
loop-id-preserved g c = record {
  is_ready = c.get_next-answer.ensures.ready;
  goes_on = λ o more v later.
      let rules = rules_at (g.H.Host.shows c.args.host.now) g.H.Host.asks g.H.Host.spares g.H.Host.collects g.H.Host.looks in
      let asked = c.get_next-answer.ensures.asks in
      let id = c.id-item.result in
      let bytes = c.in-Ok-row_of.row.bytes in
      let rest = drop (c.loop-id.id-index + 1) c.args.ids.now in
      let left : drop c.loop-id.id-index c.args.ids.now ≡ id ∷ rest = drop_more c.args.ids.now c.loop-id.id-index id c.loop-id-test.true ∙ ap (λ (x : List ℕ). x ∷ rest) (sym c.id-item.is) in
      let told = told_first rules c.loop-id.rows.items _ _ c.args.lib c.args.secret c.args.ids.now (id ∷ rest) c.get_next-answer.result asked.0 (vec_len c.loop-id.rows) c.loop-id.id-index c.is_empty.result
      c.is_empty.ensures c.loop-id.invariant.count c.loop-id.rows.ok.0 left asked.2 in
      let pushed : c.push.new.self.items ≡ c.loop-id.rows.items ++ row_with id bytes ∷ [] = c.in-Ok-push.ensures.items ∙ ap (λ (r : Row). c.loop-id.rows.items ++ r ∷ []) c.in-Ok-row_of.ensures.named in
      let next = subst (λ (rows : List Row). GetsEach rules c.args.lib c.args.secret (g.H.Host.view c.get_next-answer.new.pass) rest rows o more v) pushed later in
      c.loop-id.invariant.goes_on o (asked.0 ++ more) v
      (subst (λ (ids : List (List ℕ)). GetsEach rules c.args.lib c.args.secret (g.H.Host.view c.loop-id.pass) ids c.loop-id.rows.items o (asked.0 ++ more) v) (sym left)
      (GetsEach-given rules c.args.lib c.args.secret _ _ v id rest c.loop-id.rows.items c.get_next-answer.result asked.0 more o bytes asked.1 told c.in-Ok-row_of.ensures.got
      (packed_fit c.loop-id.rows.items id bytes c.slice.result.now c.loop-id.packed c.loop-id.invariant.size c.slice.ensures.value c.if-not-is_room.ensures.value) next));
  room = let grown = c.in-Ok-push.ensures.capacity in omega (arith, grown, c.loop-id.invariant.room);
  size =
      packed_now c.loop-id.rows.items c.id-item.result c.in-Ok-row_of.row.bytes c.slice.result.now c.loop-id.packed c.loop-id.invariant.size c.slice.ensures.value
      ∙ sym (ap packed_size (c.in-Ok-push.ensures.items ∙ ap (λ (r : Row). c.loop-id.rows.items ++ r ∷ []) c.in-Ok-row_of.ensures.named));
  within = leb-true (c.loop-id.packed + length c.slice.result.now) most_packed (sym c.if-not-is_room.ensures.value);
  count = let one = c.in-Ok-push.ensures.len in omega (arith, one, c.loop-id.invariant.count);
}

pub returns-clause-asks : goal.returns-clause-asks
returns-clause-asks g c =
    let rules = rules_at (g.H.Host.shows c.args.host.now) g.H.Host.asks g.H.Host.spares g.H.Host.collects g.H.Host.looks in
    let none : drop c.loop-id.id-index c.args.ids.now ≡ [] = drop_all c.loop-id.id-index c.args.ids.now c.loop-id-test.false in
    let whole = c.loop-id.invariant.goes_on (Packed c.loop-id.rows.items) [] (g.H.Host.view c.loop-id.pass)
    (subst (λ (ids : List (List ℕ)). GetsEach rules c.args.lib c.args.secret (g.H.Host.view c.loop-id.pass) ids c.loop-id.rows.items (Packed c.loop-id.rows.items) [] (g.H.Host.view c.loop-id.pass)) (sym none) (refl, refl, refl)) in
    (whole.0, inl (subst (λ (rows : List Row). GetsEach rules c.args.lib c.args.secret (g.H.Host.view c.args.pass.now) c.args.ids.now [] (Packed rows) whole.0 (g.H.Host.view c.loop-id.pass)) (sym c.from_vec.ensures.value) whole.1))

-- the first that is asked for stands in front of those that follow
pub get_next-answer-requires : goal.get_next-answer-requires
get_next-answer-requires g c = record {
  ready = c.loop-id.invariant.is_ready;
  first =
      let id = c.id-item.result in
      let left : drop c.loop-id.id-index c.args.ids.now ≡ id ∷ drop (c.loop-id.id-index + 1) c.args.ids.now = drop_more c.args.ids.now c.loop-id.id-index id c.loop-id-test.true ∙ ap (λ (x : List ℕ). x ∷ drop (c.loop-id.id-index + 1) c.args.ids.now) (sym c.id-item.is) in
      first_of c.args.ids.now id _ c.loop-id.id-index c.is_empty.result c.is_empty.ensures c.loop-id.invariant.count left;
}
