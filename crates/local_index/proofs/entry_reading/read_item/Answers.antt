use Rattle.std.proofs.Common.{sym, subst}
use Rattle.local_index.specs.Reading.{IsSound}
use Rattle.local_index.proofs.IndexReadBackLemmas.{IsSound-insert}
use Rattle.local_index.proofs.entry_reading.read_item.Goals as goal

pub returns-clause-sound : goal.returns-clause-sound
returns-clause-sound c = λ sound.
    subst IsSound (sym c.in_ok-insert.ensures.ok)
    (IsSound-insert c.args.entries.now c.in_ok-path.path c.in_ok-known.known sound c.in_ok-path.ensures.proper c.in_ok-known.ensures.proper)
