-- The entry at the place is one of the older ones.
use Rattle.std.proofs.Common.{arith}
use Rattle.collector.proofs.ComparedLemmas.{places_none, places_one}
use Rattle.collector.proofs.comparing.place_at.Goals as goal

pub returns-then-place-older : goal.returns-then-place-older
returns-then-place-older c = record { value = places_none c.args.older.now c.args.compared.now }

pub returns-then-not-is_beside : goal.returns-then-not-is_beside
returns-then-not-is_beside c = record { value = places_none c.args.older.now c.args.compared.now }

pub returns : goal.returns
returns c = record {
  value =
      places_one c.args.older.now c.args.place c.index-older-place.result c.args.compared.now c.note_beside.new.compared (omega (arith, c.if-place-older.false)) c.index-older-place.is
      (c.is_beside.ensures.value c.if-not-is_beside.false) c.in_ok-note_beside.ensures.value;
}
