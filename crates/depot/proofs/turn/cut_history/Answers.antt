-- A copy is cut.
use Rattle.std.proofs.Common.{FitsSigned, List, ap, rules, to_z-of_z, w64, ◌∙◌, ℤ}
use Rattle.library_state.specs.Retention.{kept_for}
use Rattle.library_state.specs.declared.history.Install.{Install}
use Rattle.depot.proofs.turn.cut_history.Goals as goal

pub returns : goal.returns
returns c =
    let fits : FitsSigned w64 c.args.state.now.days = search rules in
    record {
      value =
          c.cut.ensures.value ∙ ap (λ (days : ℤ). kept_for days c.args.moment c.in_ok-kept.kept) (to_z-of_z fits)
          ∙ ap (λ (kept : List Install). kept_for c.args.state.now.days c.args.moment kept) (c.in_ok-kept.ensures.value ∙ c.slice.ensures.value);
    }
