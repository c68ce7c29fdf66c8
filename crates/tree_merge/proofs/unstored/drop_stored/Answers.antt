use Rattle.std.proofs.Common.{Ok, sym, ◌∙◌, rules}
use Rattle.tree_walk.proofs.ReadsLemmas.{reads_then, told_after}
use Rattle.tree_merge.proofs.MadeLemmas.{made_named}
use Rattle.tree_merge.proofs.UnstoredLemmas.{drops_end, drops_more, drops_start, finds_refused, left_none, named_none, named_rest, removed_len, stored_put, unstored_put}
use Rattle.tree_merge.proofs.unstored.drop_stored.Goals as goal

pub loop-key-init : goal.loop-key-init
loop-key-init g c = record {
  reads = search rules;
  names = c.requires.named;
  left_names = named_none c.new-left.result c.new-left.ensures.value;
  drops = λ objects told. drops_start objects c.args.made c.new-left.result c.new-left.ensures.value;
}

pub is_stored-requires : goal.is_stored-requires
is_stored-requires g c = record { named = c.loop-key.invariant.names c.in-Some.key c.in-Some-remove.bytes (sym c.in-Some-remove.ensures.value) }

pub loop-key-smaller-then-is_stored : goal.loop-key-smaller-then-is_stored
loop-key-smaller-then-is_stored g c =
    removed_len c.loop-key.made c.remove.new.self c.in-Some.key c.in-Some-remove.bytes c.remove.ensures.stays (sym c.in-Some-remove.ensures.value)

pub loop-key-smaller : goal.loop-key-smaller
loop-key-smaller g c =
    removed_len c.loop-key.made c.remove.new.self c.in-Some.key c.in-Some-remove.bytes c.remove.ensures.stays (sym c.in-Some-remove.ensures.value)

pub loop-key-preserved-then-is_stored : goal.loop-key-preserved-then-is_stored
loop-key-preserved-then-is_stored g c =
    let inv = c.loop-key.invariant in
    let there = sym c.in-Some-remove.ensures.value in
    record {
      reads = reads_then tt (Ok tt) inv.reads c.in-Ok-true.ensures.stays;
      names = named_rest c.loop-key.made c.remove.new.self c.in-Some.key c.remove.ensures.stays inv.names;
      left_names = inv.left_names;
      drops = λ objects told.
          let so = inv.drops objects told in
          let found = c.in-Ok-true.ensures.value objects (told_after inv.reads told) in
          drops_more objects c.args.made c.loop-key.made c.remove.new.self c.loop-key.left c.loop-key.left c.in-Some.key c.in-Some-remove.bytes so there c.remove.ensures.stays
          (stored_put objects c.loop-key.left c.in-Some.key c.in-Some-remove.bytes
          (left_none objects c.args.made c.loop-key.made c.loop-key.left so c.in-Some.key c.in-Some-remove.bytes there) (sym c.in-Ok-true.field-0-test ∙ found.0)) found.1;
    }

pub loop-key-preserved : goal.loop-key-preserved
loop-key-preserved g c =
    let inv = c.loop-key.invariant in
    let there = sym c.in-Some-remove.ensures.value in
    record {
      reads = reads_then tt (Ok tt) inv.reads c.in-Ok-false.ensures.stays;
      names = named_rest c.loop-key.made c.remove.new.self c.in-Some.key c.remove.ensures.stays inv.names;
      left_names = made_named c.loop-key.left c.keep.new.made c.in-Some.key c.in-Some-remove.bytes c.in-Ok.ensures.ok (inv.names c.in-Some.key c.in-Some-remove.bytes there) inv.left_names;
      drops = λ objects told.
          let found = c.in-Ok-false.ensures.value objects (told_after inv.reads told) in
          drops_more objects c.args.made c.loop-key.made c.remove.new.self c.loop-key.left c.keep.new.made c.in-Some.key c.in-Some-remove.bytes (inv.drops objects told) there c.remove.ensures.stays
          (unstored_put objects c.loop-key.left c.keep.new.made c.in-Some.key c.in-Some-remove.bytes c.in-Ok.ensures.ok (sym c.in-Ok-false.field-0-test ∙ found.0)) found.1;
    }

pub returns-in-Err-clause-value : goal.returns-in-Err-clause-value
returns-in-Err-clause-value g c objects told =
    let inv = c.loop-key.invariant in
    finds_refused objects c.args.made c.loop-key.made c.loop-key.left (inv.drops objects told) c.in-Some.key c.in-Some-remove.bytes (sym c.in-Some-remove.ensures.value) c.in-Err.fault
    (c.in-Err.ensures.value objects (told_after inv.reads told))

pub returns-clause-value : goal.returns-clause-value
returns-clause-value g c objects told =
    drops_end objects c.args.made c.loop-key.made c.loop-key.left (λ key. c.in_default.ensures.value key tt) (c.loop-key.invariant.drops objects told)
