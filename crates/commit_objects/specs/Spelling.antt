-- The one text of a commit: compact JSON with sorted keys. docs/FORMATS.md, "Commits". Read text_of first.
use Rattle.std.specs.Prelude.{ℕ, Bool, true, false, List, codes, Option, Some, None}
use Rattle.uuid.specs.Text.{hyphenated_text, lower}
use Rattle.serde_json.specs.Data.{Data, Members, null, number, string, object, unsigned, member, no_members}
use Rattle.serde_json.specs.Written.{compact_text}
use Rattle.json_words.specs.IdText.{id_data}
use Rattle.commit_objects.specs.declared.commit.Commit.{Commit}

-- null for no parent
abbrev pub parent_data : Option (List ℕ) → Data
parent_data None = null
parent_data (Some id) = id_data id

-- a library id as its characters
abbrev pub library_data : List ℕ → Data
library_data lib = string (hyphenated_text lower lib)

-- the keys after `conflict`
unfoldable pub members_with : List ℕ → List ℕ → ℕ → List ℕ → Data → Data → Data → Data → Members
members_with creator creator_name ctime description parent lib root second_parent =
    member (codes "creator") (string creator)
    (member (codes "creator_name") (string creator_name)
    (member (codes "ctime") (number (unsigned ctime))
    (member (codes "description") (string description)
    (member (codes "parent_id") parent
    (member (codes "repo_id") lib
    (member (codes "root_id") root
    (member (codes "second_parent_id") second_parent
    (member (codes "version") (number (unsigned 1)) no_members))))))))

-- `conflict` stands only where it is true
abbrev pub commit_with : Bool → Data → Members → Data
commit_with true id ms = object (member (codes "commit_id") id (member (codes "conflict") (number (unsigned 1)) ms))
commit_with false id ms = object (member (codes "commit_id") id ms)

-- the value that is written
unfoldable pub data_of : Commit → Data
data_of commit =
    commit_with commit.conflict (id_data commit.id)
    (members_with commit.creator commit.creator_name commit.ctime commit.description (parent_data commit.parent) (library_data commit.lib) (id_data commit.root) (parent_data commit.second_parent))

-- the text of a commit
abbrev pub text_of : Commit → List ℕ
text_of commit = compact_text (data_of commit)
