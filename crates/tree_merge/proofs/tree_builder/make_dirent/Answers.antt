use Rattle.tree_merge.proofs.tree_builder.make_dirent.Goals as goal

pub returns-in-None-clause-taken : goal.returns-in-None-clause-taken
returns-in-None-clause-taken c id e = record { is_dir = c.in-Dir.is; not_kept = c.in-None.is; refused = c.make_named.ensures.taken id e }
