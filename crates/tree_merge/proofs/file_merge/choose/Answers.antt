use Rattle.tree_merge.proofs.file_merge.choose.Goals as goal

pub returns-clause-whole : goal.returns-clause-whole
returns-clause-whole g c objects base head pushed = c.both_changed.ensures.whole objects head pushed
