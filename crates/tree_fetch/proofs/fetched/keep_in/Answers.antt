-- What the store refuses is another name, or want of memory.
use Rattle.std.proofs.Common.{sym, subst, Err, refl}
use Rattle.tree_fetch.specs.Held.{objects_in}
use Rattle.tree_fetch.specs.Levels.{KeepsObject}
use Rattle.tree_fetch.proofs.StoreLemmas.{kept_err, kept_ok}
use Rattle.tree_fetch.proofs.fetched.keep_in.Goals as goal

pub returns-in-Ok : goal.returns-in-Ok
returns-in-Ok c = record {
  value = kept_ok c.args.id.now c.args.bytes.now (objects_in c.args.store.now) (objects_in c.put.new.self) c.fs_key.result c.fs_key.ensures.value
      c.in-Ok.ensures.ok c.in-Ok.ensures.wrong (c.in-Ok.ensures.refused (objects_in c.args.store.now) refl);
}

pub returns-in-Err : goal.returns-in-Err
returns-in-Err c = record {
  value = subst (λ why. KeepsObject c.args.id.now c.args.bytes.now (objects_in c.args.store.now) (objects_in c.put.new.self) (Err why)) (sym c.put_fault.ensures.value)
      (kept_err c.args.id.now c.args.bytes.now (objects_in c.args.store.now) (objects_in c.put.new.self) c.fs_key.result c.fs_key.ensures.value c.in-Err.fault c.in-Err.ensures.wrong.0);
}
