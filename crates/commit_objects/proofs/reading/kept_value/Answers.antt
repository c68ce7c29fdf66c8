-- What is kept of the value is read as the value is.
use Rattle.std.proofs.Common.{◌≡◌, Option, option_map, ap, ◌∙◌}
use Rattle.std.proofs.lemmas.Result.{IfOk-weaker}
use Rattle.serde_json.specs.View.{view}
use Rattle.serde_json.specs.declared.value.Value.{Value}
use Rattle.json_words.specs.JsonText.{json_of}
use Rattle.json_tokens.specs.Kept.{kept}
use Rattle.commit_objects.specs.Commit.{commit_of}
use Rattle.commit_objects.specs.Reading.{commit_keys, value_seen}
use Rattle.commit_objects.proofs.KeptCommitLemmas.{value_seen-kept}
use Rattle.commit_objects.proofs.reading.kept_value.Goals as goal

pub returns : goal.returns
unfolding commit_of
returns c =
    let bytes = c.args.bytes.now in
    let IsKept : Option Value → Type 0 = λ value. option_map view value ≡ option_map (kept commit_keys) (json_of bytes) in
    let IsSeen : Option Value → Type 0 = λ value. value_seen (option_map view value) ≡ commit_of bytes in
    record {
      value = IfOk-weaker c.parse_kept.result IsKept IsSeen (λ value is. ap value_seen is ∙ value_seen-kept (json_of bytes)) c.parse_kept.ensures.value;
    }
