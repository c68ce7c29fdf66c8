use Rattle.tree_walk.proofs.ReadsLemmas.{other_id}
use Rattle.collector.proofs.comparing.is_beside.Goals as goal

pub returns-then-is_directory_mode-2 : goal.returns-then-is_directory_mode-2
returns-then-is_directory_mode-2 c = record { value = λ is. other_id c.args.older.now.id c.is_nil.result c.is_nil.ensures.value c.if-is_nil.false }

pub returns-else-is_directory_mode-2 : goal.returns-else-is_directory_mode-2
returns-else-is_directory_mode-2 c = record { value = λ is. other_id c.args.older.now.id c.is_nil.result c.is_nil.ensures.value c.if-is_nil.false }
