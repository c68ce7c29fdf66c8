use Rattle.std.proofs.Common.{inl, inr, refl}
use Rattle.object_graph.specs.Objects.{fs_key}
use Rattle.collector.proofs.comparing.note_beside.Goals as goal

pub returns-then-is_spared : goal.returns-then-is_spared
returns-then-is_spared c = record { value = inl refl }

pub returns : goal.returns
returns c = record { value = inr (fs_key c.args.newer.now, c.in_ok-place.ensures.ok) }
