-- What is stored is a candidate, and the commits wait.
use Rattle.std.proofs.Common.{List, [], ap, map as map_list, ◌∙◌, ℕ}
use Rattle.object_graph.specs.Objects.{commit_key}
use Rattle.object_graph.specs.Traversal.{distinct_from}
use Rattle.collector.specs.Marks.{AreFirst}
use Rattle.collector.specs.Worklist.{WorklistView}
use Rattle.collector.proofs.LeadingLemmas.{first_good}
use Rattle.collector.proofs.MarkingLemmas.{marks_of}
use Rattle.collector.proofs.OpenedLemmas.{have_first}
use Rattle.collector.proofs.marks.Marks.begin.Goals as goal

pub returns-clause-value : goal.returns-clause-value
returns-clause-value g c = record {
  commits = c.in_ok-commits.ensures.value ∙ c.slice.ensures.value;
  marked = ap (λ (work : WorklistView). work.opened) c.in_ok-work.ensures.value;
  pending =
      ap (λ (work : WorklistView). work.waiting) c.in_ok-work.ensures.value
      ∙ ap (λ (ids : List (List ℕ)). distinct_from [] (map_list commit_key ids)) c.slice-2.ensures.value;
  candidates = c.in_ok-candidates.ensures.value;
}

pub invariant_of-result : goal.invariant_of-result
invariant_of-result g c =
    let first : AreFirst c.args.store.now.index c.args.kept.now (marks_of c.in_ok-commits.commits c.in_ok-work.work.opened c.in_ok-work.work.waiting c.in_ok-candidates.candidates) = record {
      commits = c.in_ok-commits.ensures.value ∙ c.slice.ensures.value;
      marked = ap (λ (work : WorklistView). work.opened) c.in_ok-work.ensures.value;
      pending =
          ap (λ (work : WorklistView). work.waiting) c.in_ok-work.ensures.value
          ∙ ap (λ (ids : List (List ℕ)). distinct_from [] (map_list commit_key ids)) c.slice-2.ensures.value;
      candidates = c.in_ok-candidates.ensures.value;
    } in
    (first_good c.args.store.now.index c.args.kept.now _ first, have_first c.args.store.now.index c.args.kept.now _ first)

pub returns-clause-good : goal.returns-clause-good
returns-clause-good g c = (invariant_of-result g c).0

pub returns-clause-read : goal.returns-clause-read
returns-clause-read g c = (invariant_of-result g c).1

pub returns-clause-shown : goal.returns-clause-shown
returns-clause-shown g c = λ objects told. c.in_ok-candidates.ensures.found objects told
