-- A commit that is made here: its id is the SHA-1 of its own text with forty zeros in the id's place.
-- Seafile's own clients name commits by other bytes; the name is free. Read made first.
use Rattle.std.specs.Prelude.{ℕ, Bool, List, codes, Option}
use Rattle.sha1.specs.Sha1.{sha1}
use Rattle.ids.specs.ObjectId.{nil}
use Rattle.commit_objects.specs.Spelling.{text_of}
use Rattle.commit_objects.specs.declared.commit.Commit.{Commit}

-- the creator of a commit that is made here: forty zeros
abbrev pub no_creator : List ℕ
no_creator = codes "0000000000000000000000000000000000000000"

-- the commit under the name of its text
abbrev pub named : Commit → Commit
named commit = record commit { id = sha1 (text_of commit) }

abbrev pub made : List ℕ → List ℕ → Option (List ℕ) → Option (List ℕ) → List ℕ → List ℕ → ℕ → Bool → Commit
made lib root parent second_parent creator_name description ctime conflict = named (record {
  id = nil;
  lib = lib;
  root = root;
  parent = parent;
  second_parent = second_parent;
  creator = no_creator;
  creator_name = creator_name;
  description = description;
  ctime = ctime;
  conflict = conflict;
})
