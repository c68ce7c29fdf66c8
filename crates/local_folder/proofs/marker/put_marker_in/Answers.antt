use Rattle.std.proofs.Common.{◌∷◌, inl, refl}
use Rattle.uuid.specs.Text.{hyphenated_text, lower}
use Rattle.local_folder.specs.Marker.{marker_name}
use Rattle.local_folder.specs.Steps.{Created, filled_small, spare_path}
use Rattle.local_folder.proofs.StepLemmas.{none-done, small-named}
use Rattle.local_folder.proofs.marker.put_marker_in.Goals as goal

pub returns-in-Err : goal.returns-in-Err
returns-in-Err g c = record {
  order = inl (none-done (Created spare_path ∷ filled_small marker_name (hyphenated_text lower c.args.lib.now)) (g.C.DirectoryCalls.steps c.args.calls.now) (g.C.DirectoryCalls.steps c.args.calls.now) refl);
}

pub returns : goal.returns
returns g c = record {
  order =
      small-named _ marker_name _ (hyphenated_text lower c.args.lib.now) (g.C.DirectoryCalls.steps c.args.calls.now) (g.C.DirectoryCalls.steps c.put_small.new.calls) c.put_small.result
      c.in-Ok.ensures.value c.digits.ensures.value c.put_small.ensures.order;
}
