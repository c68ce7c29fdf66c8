-- The next object of the table is put.
use Rattle.std.proofs.Common.{◌≡◌, ◌∙◌, List, ◌∷◌, subst, sym}
use Rattle.std.specs.FinMap as map
use Rattle.std.specs.Map.Iter.{deref_pair}
use Rattle.std.proofs.lemmas.Map.Iter.{rest_more}
use Rattle.ids.specs.declared.key.Key.{Key}
use Rattle.std.specs.Prelude.{ℕ}
use Rattle.depot.specs.Plan.{listed}
use Rattle.depot.proofs.UpdateInstallLemmas.{IsPutting, putting_next, putting_start, putting_stop}
use Rattle.depot.proofs.update_install.put_dirs.Goals as goal

pub loop-key-init : goal.loop-key-init
loop-key-init g c =
    subst (λ (left : List (Key × List ℕ)). IsPutting g.S.Shelf.contents g.S.Shelf.may_give g.S.Shelf.texts g.S.Shelf.faults (listed (map.entries c.args.dirs.now)) c.args.store.now (listed left) c.args.store.now)
    (sym (c.into_iter-key-iterator.ensures.into_iter_gives ∙ c.iter-key-items.ensures.value)) (putting_start c.requires.named c.requires.ready)

pub put_one-requires : goal.put_one-requires
put_one-requires g c =
    let next : c.loop-key.key-iterator ≡ (c.in-Some.key.now, c.in-Some.bytes.now) ∷ c.next.new.self
    = rest_more deref_pair _ _ _ (c.in-Some.key, c.in-Some.bytes) c.in-Some.is c.next.ensures.steps in
    let putting = subst (λ (left : List (Key × List ℕ)). IsPutting g.S.Shelf.contents g.S.Shelf.may_give g.S.Shelf.texts g.S.Shelf.faults (listed (map.entries c.args.dirs.now)) c.args.store.now (listed left)
    c.loop-key.store) next c.loop-key.invariant in
    record { named = (putting.named.0, tt); ready = λ objects told. ((putting.ready objects told).0, tt) }

pub loop-key-preserved : goal.loop-key-preserved
loop-key-preserved g c =
    let next : c.loop-key.key-iterator ≡ (c.in-Some.key.now, c.in-Some.bytes.now) ∷ c.next.new.self
    = rest_more deref_pair _ _ _ (c.in-Some.key, c.in-Some.bytes) c.in-Some.is c.next.ensures.steps in
    putting_next (listed c.next.new.self) (record { key = c.in-Some.key.now; bytes = c.in-Some.bytes.now })
    (subst (λ (left : List (Key × List ℕ)). IsPutting g.S.Shelf.contents g.S.Shelf.may_give g.S.Shelf.texts g.S.Shelf.faults (listed (map.entries c.args.dirs.now)) c.args.store.now (listed left)
    c.loop-key.store) next c.loop-key.invariant) c.in-Ok.ensures.value

pub returns-in-Err : goal.returns-in-Err
returns-in-Err g c =
    let next : c.loop-key.key-iterator ≡ (c.in-Some.key.now, c.in-Some.bytes.now) ∷ c.next.new.self
    = rest_more deref_pair _ _ _ (c.in-Some.key, c.in-Some.bytes) c.in-Some.is c.next.ensures.steps in
    record {
      value = putting_stop (listed c.next.new.self) (record { key = c.in-Some.key.now; bytes = c.in-Some.bytes.now }) c.in-Err.fault
          (subst (λ (left : List (Key × List ℕ)). IsPutting g.S.Shelf.contents g.S.Shelf.may_give g.S.Shelf.texts g.S.Shelf.faults (listed (map.entries c.args.dirs.now)) c.args.store.now (listed left)
          c.loop-key.store) next c.loop-key.invariant) c.in-Err.ensures.value;
    }
