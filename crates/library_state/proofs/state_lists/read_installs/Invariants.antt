-- What is left to check, after the head updates so far, gives the whole answer; those so far are proper.
use Rattle.std.proofs.Common.{◌≡◌, All, map, drop, length}
use Rattle.serde_json.specs.View.{view}
use Rattle.json_words.specs.Check.{each}
use Rattle.json_words.proofs.EachLemmas.{each_after}
use Rattle.library_state.specs.ProperState.{IsProperInstall}
use Rattle.library_state.specs.StateText.{install_of}
use Rattle.library_state.proofs.state_lists.read_installs.Given as goal

abbrev pub invariant-loop-item : goal.invariant-loop-item
invariant-loop-item l = record {
  ahead : each_after install_of l.kept (map view (drop l.item-index l.items)) ≡ each install_of (map view l.items);
  same : length l.kept ≡ l.item-index;
  proper : All IsProperInstall l.kept;
}
