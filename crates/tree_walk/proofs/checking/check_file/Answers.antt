use Rattle.std.proofs.Common.{sym, ◌∙◌}
use Rattle.tree_walk.proofs.KnownTreesLemmas.{learned_file, whole_file}
use Rattle.tree_walk.proofs.checking.check_file.Goals as goal

pub returns-in-Ok-clause-known : goal.returns-in-Ok-clause-known
returns-in-Ok-clause-known g c = λ objects told.
    learned_file objects c.args.known.now c.learn_file.new.self c.args.id.now (c.requires.known objects told) (c.in-Ok.ensures.value objects told).0 c.learn_file.ensures.value

pub returns-then-has_file-clause-value : goal.returns-then-has_file-clause-value
returns-then-has_file-clause-value g c = λ objects told.
    (whole_file objects c.args.known.now c.args.id.now (c.requires.known objects told) (sym c.has_file.ensures.value ∙ c.if-has_file.true), tt)
