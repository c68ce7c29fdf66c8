-- One id more is looked at; at the end all are.
use Rattle.std.proofs.Common.{◌∙◌, List, ap, arith, ℕ}
use Rattle.std.specs.Prelude.{filter}
use Rattle.std.proofs.lemmas.List.{take_all}
use Rattle.library_rules.specs.Calls.{keys_of}
use Rattle.library_rules.specs.Changes.{stored_keys}
use Rattle.library_rules.specs.LibraryState.{is_stored}
use Rattle.depot.specs.Missing.{is_known}
use Rattle.depot.proofs.MissingLemmas.{present_next}
use Rattle.depot.proofs.missing.present_keys.Goals as goal

pub loop-id-init : goal.loop-id-init
loop-id-init g c = record {
  shown = λ objects told. c.new-keys.ensures.value;
  value = c.new-keys.ensures.value;
}

pub loop-id-preserved : goal.loop-id-preserved
loop-id-preserved g c = record {
  shown = λ objects told.
      present_next (is_stored objects) c.args.kind c.args.ids.now c.loop-id.id-index c.id-item.result c.loop-id.keys c.list_present.new.keys c.loop-id-test.true c.id-item.is
      (c.loop-id.invariant.shown objects told) (c.in_ok-list_present.ensures.shown objects told);
  value = present_next (is_known c.args.store.now.index) c.args.kind c.args.ids.now c.loop-id.id-index c.id-item.result c.loop-id.keys c.list_present.new.keys c.loop-id-test.true c.id-item.is
      c.loop-id.invariant.value c.in_ok-list_present.ensures.value;
}

pub returns-clause-shown : goal.returns-clause-shown
returns-clause-shown g c = λ objects told.
    c.loop-id.invariant.shown objects told ∙ ap (λ (ids : List (List ℕ)). stored_keys objects (keys_of c.args.kind ids)) (take_all c.loop-id.id-index c.args.ids.now (omega arith))

pub returns-clause-value : goal.returns-clause-value
returns-clause-value g c =
    c.loop-id.invariant.value ∙ ap (λ (ids : List (List ℕ)). filter (is_known c.args.store.now.index) (keys_of c.args.kind ids)) (take_all c.loop-id.id-index c.args.ids.now (omega arith))
