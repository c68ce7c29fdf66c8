-- The id is met now, and listed.
use Rattle.tree_fetch.proofs.LevelLemmas.{adds_note, not_nil, noted, on_ok}
use Rattle.tree_fetch.proofs.levels.note.Goals as goal

pub returns : goal.returns
returns c = record {
  value = on_ok c.put.result c.put.ensures.ok
      (noted c.args.seen.now c.put.new.self c.args.next.now c.push.new.self c.args.id.now c.fs_key-key.result c.fs_key-key.ensures.value c.in-Ok.ensures.ok);
  named = on_ok c.put.result c.put.ensures.ok (λ put. adds_note c.args.next.now c.push.new.self c.args.id.now (not_nil c.is_nil.result c.args.id.now c.is_nil.ensures.value c.if-is_nil.false) c.in-Ok.ensures.ok);
}
