-- So many lists are made.
use Rattle.std.proofs.Common.{◌≡◌, ◌≤◌, [], All, vec_len}
use Rattle.std.specs.Prelude.{vec_capacity}
use Rattle.sync_calls.proofs.making.tables_of.Given as goal

abbrev pub invariant-loop-made : goal.invariant-loop-made
invariant-loop-made g l = (vec_len l.tables ≡ l._made) × (l.passes ≤ vec_capacity l.tables) × All (λ table. (table.items ≡ []) × (l.rooms ≤ vec_capacity table)) l.tables.items
