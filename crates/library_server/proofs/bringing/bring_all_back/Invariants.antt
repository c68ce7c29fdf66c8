-- Those behind what is left are back.
use Rattle.std.proofs.Common.{◌≡◌, ◌≤◌, length, take, vec_len}
use Rattle.library_server.specs.Bringing.{AreTaken, IsRaised, UnnamedGiveNoMore}
use Rattle.library_server.proofs.BringingLemmas.{AreGoodFrom}
use Rattle.library_server.proofs.bringing.bring_all_back.Given as goal

abbrev pub invariant-loop-depot : goal.invariant-loop-depot
invariant-loop-depot g l = record {
  first : l.depots.items ≡ take (length l.depots.items) l.initial.depots.items;
  fits : length l.depots.items ≤ length l.initial.depots.items;
  few : length l.initial.depots.items ≤ length l.libs;
  taken : AreTaken g.G.S.Shelf.contents (g.G.Ground.stands l.fn.libraries) (g.G.Ground.stands l.libraries) l.folder l.libs l.initial.depots.items (length l.depots.items) (length l.initial.depots.items);
  others : UnnamedGiveNoMore (g.G.Ground.may_give l.fn.libraries) (g.G.Ground.may_give l.libraries) l.folder l.libs (length l.depots.items) (length l.initial.depots.items);
  good : AreGoodFrom g.G.S.Shelf.contents g.G.S.Shelf.faults l.initial.depots.items (length l.depots.items) (length l.initial.depots.items);
  faults : IsRaised (g.G.Ground.faults l.fn.libraries) (g.G.Ground.faults l.libraries);
}

abbrev pub decreases-loop-depot : goal.decreases-loop-depot
decreases-loop-depot g l = vec_len l.depots
