-- Those so far were started and are out; the others stand as they did.
use Rattle.std.proofs.Common.{◌≡◌, ◌≤◌, length, vec_len}
use Rattle.std.specs.Prelude.{vec_capacity}
use Rattle.server_words.specs.Spelling.{location_text}
use Rattle.library_server.specs.Bringing.{AreBrought, AreOut, UnnamedGiveNoMore}
use Rattle.library_server.proofs.bringing.bring_each.Given as goal

abbrev pub invariant-loop-lib : goal.invariant-loop-lib
invariant-loop-lib g l = record {
  size : vec_len l.depots ≡ l.lib-index;
  within : l.lib-index ≤ length l.libs;
  room : length l.libs ≤ vec_capacity l.depots;
  brought : AreBrought g.G.S.Shelf.contents g.G.S.Shelf.may_give g.G.S.Shelf.faults (g.G.Ground.may_give l.fn.libraries) l.location (g.C.Clock.shows l.clock) (g.G.Ground.stands l.fn.libraries) l.libs l.lib-index l.depots.items;
  out : AreOut (g.G.Ground.stands l.fn.libraries) (g.G.Ground.stands l.libraries) (location_text l.location) l.libs l.lib-index;
  count : g.G.Ground.faults l.libraries ≡ g.G.Ground.faults l.fn.libraries;
  others : UnnamedGiveNoMore (g.G.Ground.may_give l.fn.libraries) (g.G.Ground.may_give l.libraries) (location_text l.location) l.libs 0 l.lib-index;
}
