-- The map has of the members found so far those that are kept.
use Rattle.std.proofs.Common.{◌≡◌, length, map}
use Rattle.serde_json.specs.Data.{Members}
use Rattle.serde_json.specs.View.{members_view}
use Rattle.json_tokens.specs.Kept.{kept_members}
use Rattle.json_tokens.proofs.FrontLemmas.{MembersAfter}
use Rattle.json_tokens.proofs.KeptLemmas.{IsSorted}
use Rattle.json_tokens.proofs.kept.kept_members.Given as goal

abbrev pub invariant-members : goal.invariant-members
invariant-members l =
    (found : Members) × MembersAfter l.depth l.initial.reader found l.reader × IsSorted found
    × (members_view l.found.entries ≡ kept_members (map (λ key. key.now) l.known) found)

abbrev pub decreases-members : goal.decreases-members
decreases-members l = length l.reader
