-- The bodies of replies that are JSON objects (RFC 8259): compact, with sorted keys. Their members are our own.
use Rattle.std.specs.Prelude.{ℕ, List, codes}
use Rattle.hex.specs.Hex.{encode_lower}
use Rattle.serde_json.specs.Data.{Data, number, unsigned, string, object, member, no_members}
use Rattle.serde_json.specs.Written.{compact_text}

abbrev pub version_data : Data
version_data = object (member (codes "version") (number (unsigned 2)) no_members)

abbrev pub head_data : List ℕ → Data
head_data id = object (member (codes "head_commit_id") (string (encode_lower id)) (member (codes "is_corrupted") (number (unsigned 0)) no_members))

abbrev pub collected_data : ℕ → ℕ → Data
collected_data number_is removed =
    object (member (codes "collection") (number (unsigned number_is)) (member (codes "removed") (number (unsigned removed)) no_members))

-- the version of the protocol
unfoldable pub version_body : List ℕ
version_body = compact_text version_data

-- the commit that a library stands at
unfoldable pub head_body : List ℕ → List ℕ
head_body id = compact_text (head_data id)

-- the number of a collection, and how many objects it removed
unfoldable pub collected_body : ℕ → ℕ → List ℕ
collected_body number_is removed = compact_text (collected_data number_is removed)
