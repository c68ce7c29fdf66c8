-- For private clauses: what the writer of a commit puts into an object, part by part.
use Rattle.std.specs.Prelude.{codes, if◌then◌else◌}
use Rattle.serde_json.specs.Data.{Members, number, string, unsigned, put}
use Rattle.json_words.specs.IdText.{id_data}
use Rattle.commit_objects.specs.Spelling.{library_data, parent_data}
use Rattle.commit_objects.specs.declared.commit.Commit.{Commit}

-- the id, and that there is a conflict, where there is one
abbrev pub with_front : Commit → Members → Members
with_front commit before =
    if commit.conflict
    then put (codes "conflict") (number (unsigned 1)) (put (codes "commit_id") (id_data commit.id) before)
    else put (codes "commit_id") (id_data commit.id) before

-- who made it, when, and what was said of it
abbrev pub with_middle : Commit → Members → Members
with_middle commit before =
    put (codes "description") (string commit.description)
    (put (codes "ctime") (number (unsigned commit.ctime))
    (put (codes "creator_name") (string commit.creator_name)
    (put (codes "creator") (string commit.creator) before)))

-- parents, library and root, and the version
abbrev pub with_end : Commit → Members → Members
with_end commit before =
    put (codes "version") (number (unsigned 1))
    (put (codes "second_parent_id") (parent_data commit.second_parent)
    (put (codes "root_id") (id_data commit.root)
    (put (codes "repo_id") (library_data commit.lib)
    (put (codes "parent_id") (parent_data commit.parent) before))))
