-- The values so far are those of the installs so far.
use Rattle.std.proofs.Common.{◌≡◌, All, map, take}
use Rattle.serde_json.specs.View.{view}
use Rattle.library_state.specs.StateSpelling.{install_data}
use Rattle.library_state.specs.TypedState.{IsTypedInstall}
use Rattle.library_state.proofs.state_writing.install_values.Given as goal

abbrev pub invariant-loop-install : goal.invariant-loop-install
invariant-loop-install l = record {
  value : map view l.values.items ≡ map install_data (take l.install-index l.installs);
  typed : All IsTypedInstall (take l.install-index l.installs);
}
