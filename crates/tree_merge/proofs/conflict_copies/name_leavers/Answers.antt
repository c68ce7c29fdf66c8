use Rattle.std.proofs.Common.{[], ◌∙◌, ap, arith, Err}
use Rattle.std.specs.FinMap as map
use Rattle.tree_merge.proofs.TableLemmas.{first_popped_len, new_len, gone_too, no_entries}
use Rattle.tree_merge.proofs.ConflictLemmas.{named_start, named_more, named_long, named_all, refused}
use Rattle.tree_merge.proofs.WholeLemmas.{whole_file_at, whole_popped, whole_put}
use Rattle.tree_merge.proofs.conflict_copies.name_leavers.Goals as goal

pub loop-path-init : goal.loop-path-init
loop-path-init c = record {
  root = c.requires.some;
  fits = c.requires.fits;
  whole = λ objects whole. (whole.nodes, whole.leavers);
  named = λ objects s trees is. named_start objects s c.args.decided is c.new-copies.result c.new-copies.ensures.value;
}

pub returns-in-Err : goal.returns-in-Err
returns-in-Err c = record {
  value = λ objects s trees is.
      refused objects s c.in-Err.fault (λ of bytes e.
      named_long objects s trees c.loop-path.leavers c.pop_first.new.self c.loop-path.known c.loop-path.nodes c.loop-path.copies c.in-Some.path c.in-Some.file
      (c.loop-path.invariant.named objects s trees is) c.in-Some.ensures.found of bytes (c.in-Err.ensures.too_long of bytes (ap Err e)));
  whole = tt;
}

pub loop-path-smaller : goal.loop-path-smaller
loop-path-smaller c =
    let one = first_popped_len c.loop-path.leavers c.pop_first.new.self (c.in-Some.path, c.in-Some.file) c.in-Some.ensures.found in
    omega arith

pub loop-path-preserved : goal.loop-path-preserved
loop-path-preserved c =
    let free = c.in-Ok.ensures.ok in
    let copied = c.in-Ok-put_copy.ensures.ok in
    let one = first_popped_len c.loop-path.leavers c.pop_first.new.self (c.in-Some.path, c.in-Some.file) c.in-Some.ensures.found in
    let two = ap map.len copied.marked ∙ new_len c.loop-path.known c.in-Ok.place tt free.free in
    record {
      root = gone_too c.loop-path.leavers c.pop_first.new.self (c.in-Some.path, c.in-Some.file) c.in-Some.ensures.ok [] c.loop-path.invariant.root;
      fits = omega (arith, c.loop-path.invariant.fits, one, two);
      whole = λ objects whole.
          let before = c.loop-path.invariant.whole objects whole in (
            whole_put objects c.loop-path.nodes c.put_copy.new.nodes c.in-Ok.place c.in-Some.file copied.stands
                (whole_file_at objects c.loop-path.leavers c.in-Some.path c.in-Some.file c.in-Some.ensures.value before.1) before.0,
            whole_popped objects c.loop-path.leavers c.pop_first.new.self (c.in-Some.path, c.in-Some.file) c.in-Some.ensures.ok before.1,
          );
      named = λ objects s trees is.
          named_more objects s trees c.loop-path.leavers c.pop_first.new.self c.loop-path.known c.loop-path.nodes c.loop-path.copies c.in-Some.path c.in-Some.file
          (c.loop-path.invariant.named objects s trees is) c.in-Some.ensures.found
          c.put_copy.new.known c.put_copy.new.nodes c.put_copy.new.copies c.in-Ok.place free copied;
    }

pub returns : goal.returns
returns c = record {
  value = λ objects s trees is.
      let all = named_all objects s c.loop-path.leavers c.loop-path.known c.loop-path.nodes c.loop-path.copies
      (no_entries c.loop-path.leavers c.in_default.ensures.absent) (c.loop-path.invariant.named objects s trees is) in
      record { short = all.short; nodes = all.nodes_seen; copies = all.told };
  whole = λ objects whole. (c.loop-path.invariant.whole objects whole).0;
}
