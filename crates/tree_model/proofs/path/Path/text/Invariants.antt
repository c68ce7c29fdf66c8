use Rattle.std.proofs.Common.{◌≡◌, take, string_bytes}
use Rattle.tree_model.specs.Path.{path_text}
use Rattle.tree_model.proofs.path.Path.text.Given as goal

abbrev pub invariant-loop-place : goal.invariant-loop-place
invariant-loop-place l = string_bytes l.text ≡ path_text (take l.place l.self)
