-- For private clauses: what the reader keeps of a text, and its own record, seen as a commit.
use Rattle.std.specs.Prelude.{ℕ, List, [], ◌∷◌, codes, Option, Result}
use Rattle.serde_json.specs.Data.{Data}
use Rattle.json_words.specs.Check.{◌>>=◌, holds, ok_or}
use Rattle.json_words.specs.Fields.{is_object}
use Rattle.commit_objects.specs.Commit.{commit_in}
use Rattle.commit_objects.specs.declared.commit.Commit.{Commit}
use Rattle.commit_objects.specs.declared.fault.BadCommit.{BadCommit}
use Rattle.commit_objects.specs.declared.fault.BadCommit.TheVariants.{NotJson}
use Rattle.commit_objects.specs.declared.reading.Parts.{Parts}

-- the texts are those of the parts
abbrev pub parts_seen : Parts → Commit
parts_seen parts = record {
  id = parts.id;
  lib = parts.lib;
  root = parts.root;
  parent = parts.parent;
  second_parent = parts.second_parent;
  creator = parts.creator.now;
  creator_name = parts.creator_name.now;
  description = parts.description.now;
  ctime = parts.ctime;
  conflict = parts.conflict;
}

-- every key of a commit
abbrev pub commit_keys : List (List ℕ)
commit_keys = codes "commit_id" ∷ codes "root_id" ∷ codes "repo_id" ∷ codes "ctime" ∷ codes "parent_id" ∷ codes "second_parent_id" ∷ codes "creator" ∷ codes "creator_name" ∷ codes "description" ∷ codes "conflict" ∷ []

-- the commit that a value is, where bytes have one
abbrev pub value_seen : Option Data → Result Commit BadCommit
value_seen value = do
  d ← ok_or value NotJson
  object ← holds (is_object d) NotJson
  commit_in d
