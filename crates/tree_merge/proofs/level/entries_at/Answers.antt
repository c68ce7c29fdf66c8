use Rattle.std.proofs.Common.{refl}
use Rattle.tree_merge.proofs.LevelLemmas.{nil_dirents, tells_nothing}
use Rattle.tree_merge.proofs.level.entries_at.Goals as goal

pub returns-then-is_nil-clause-value : goal.returns-then-is_nil-clause-value
returns-then-is_nil-clause-value g c objects told directory =
    (refl, tells_nothing c.args.path.now _ c.new.result (nil_dirents objects c.args.id.now (c.is_nil.ensures.value.0 c.if-is_nil.true)) c.new.ensures.value)
