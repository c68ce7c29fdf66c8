-- The commit and the state are those of the definition.
use Rattle.std.proofs.Common.{◌≡◌, ap, ◌∙◌, None, false}
use Rattle.commit_objects.specs.Made.{made}
use Rattle.commit_objects.specs.declared.commit.Commit.{Commit}
use Rattle.ids.specs.ObjectId.{nil}
use Rattle.library_rules.specs.Creation.{opening_commit}
use Rattle.depot.specs.Make.{first_state}
use Rattle.depot.proofs.make.first_parts.Goals as goal

pub returns : goal.returns
returns c =
    let commit : c.in_ok-commit.commit ≡ opening_commit c.args.lib c.args.user.now c.args.moment
    = c.in_ok-commit.ensures.value ∙ ap (λ text. made c.args.lib nil None None c.args.user.now text c.args.moment false) c.in_ok-description.ensures.value in
    record {
      value = (
        commit,
        c.in_ok-state.ensures.value ∙ ap (λ (made : Commit). first_state c.args.lib c.args.name.now c.args.user.now c.args.secret made.id c.args.moment) commit,
      );
    }
