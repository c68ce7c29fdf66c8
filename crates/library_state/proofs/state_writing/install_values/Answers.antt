-- One head update more is in the list.
use Rattle.std.proofs.Common.{◌∷◌, ◌++◌, [], All, List, map, take, sym, ap, subst, ◌∙◌}
use Rattle.std.proofs.lemmas.List.{take_more, map-append}
use Rattle.std.proofs.lemmas.List.Elements.{All-push}
use Rattle.serde_json.specs.View.{view}
use Rattle.library_state.specs.StateSpelling.{install_data}
use Rattle.library_state.specs.TypedState.{IsTypedInstall}
use Rattle.library_state.specs.declared.history.Install.{Install}
use Rattle.library_state.proofs.state_writing.install_values.Goals as goal

pub loop-install-preserved : goal.loop-install-preserved
loop-install-preserved c =
    let before = take c.loop-install.install-index c.args.installs.now in
    let install = c.install-item.result in
    let taken = take_more c.args.installs.now c.loop-install.install-index install c.loop-install-test.true ∙ ap (λ x. before ++ x ∷ []) (sym c.install-item.is) in
    record {
      value =
          ap (map view) c.in_ok-push.ensures.items
          ∙ map-append view c.loop-install.values.items (c.in_ok-value.value ∷ [])
          ∙ ap (λ values. values ++ view c.in_ok-value.value ∷ []) c.loop-install.invariant.value
          ∙ ap (λ value. map install_data before ++ value ∷ []) c.in_ok-value.ensures.value
          ∙ sym (ap (map install_data) taken ∙ map-append install_data before (install ∷ []));
      typed = let P : List Install → Type 0 = λ installs. All IsTypedInstall installs in
          subst P (sym taken) (All-push IsTypedInstall before install c.loop-install.invariant.typed c.in_ok-value.ensures.typed);
    }
