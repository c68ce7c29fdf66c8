-- Where a traversal stands. Our own.
use Rattle.std.specs.Prelude.{[], ◌∷◌, ◌++◌}
use Rattle.tree_model.specs.Path.{PathV}
use Rattle.tree_walk.specs.declared.trail.Trail.{Trail, Root, Below'}

-- the names from the root on
abbrev pub names_of : Trail → PathV
names_of Root = []
names_of (Below' shape above name) = names_of above ++ name.now ∷ []
