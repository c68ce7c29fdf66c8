-- For private clauses: what the types of the program tell of a commit's ids: their texts are read as them.
use Rattle.std.specs.Prelude.{◌≡◌, Some, IfSome}
use Rattle.uuid.specs.Text.{hyphenated_text, lower}
use Rattle.json_words.specs.IdText.{IsId, library_id_of}
use Rattle.commit_objects.specs.declared.commit.Commit.{Commit}

pub record IsTyped (commit : Commit) : Type 0 where
  pub id : IsId commit.id
  pub lib : library_id_of (hyphenated_text lower commit.lib) ≡ Some commit.lib
  pub root : IsId commit.root
  pub parent : IfSome commit.parent IsId
  pub second_parent : IfSome commit.second_parent IsId

-- the same of the ids behind the description
pub record AreEndsTyped (commit : Commit) : Type 0 where
  pub parent : IfSome commit.parent IsId
  pub lib : library_id_of (hyphenated_text lower commit.lib) ≡ Some commit.lib
  pub root : IsId commit.root
  pub second_parent : IfSome commit.second_parent IsId
