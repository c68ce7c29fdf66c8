-- The parts are put one behind the other.
use Rattle.std.proofs.Common.{ap, ◌∙◌}
use Rattle.std.proofs.lemmas.Result.{on_ok_weaker}
use Rattle.serde_json.specs.Data.{object}
use Rattle.commit_objects.specs.Members.{with_end, with_front, with_middle}
use Rattle.commit_objects.proofs.MembersLemmas.{written}
use Rattle.commit_objects.proofs.writing.put_members.Goals as goal

pub returns-clause-value : goal.returns-clause-value
returns-clause-value c =
    let commit = c.args.commit.now in
    let front = c.in_ok-put_front.ensures.value ∙ ap (with_front commit) c.requires.none in
    let middle = c.in_ok-put_middle.ensures.value ∙ ap (with_middle commit) front in
    on_ok_weaker c.put_end.result (λ is. ap object (is ∙ ap (with_end commit) middle) ∙ written commit) c.put_end.ensures.value
