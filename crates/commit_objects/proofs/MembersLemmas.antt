-- What the writer of a commit puts into an object of no members is the value of the commit: written.
use Rattle.std.proofs.Common.{◌≡◌, ℕ, Bool, true, false, List, codes, refl, if◌then◌else◌}
use Rattle.serde_json.specs.Data.{Data, no_members, object, number, string, unsigned, put}
use Rattle.json_words.specs.IdText.{id_data}
use Rattle.commit_objects.specs.declared.commit.Commit.{Commit}
use Rattle.commit_objects.specs.Members.{with_front, with_middle, with_end}
use Rattle.commit_objects.specs.Spelling.{commit_with, data_of, library_data, members_with, parent_data}

-- the keys are put in their order, so that each comes last
written_with : (conflict : Bool) (id parent lib root second_parent : Data) (creator creator_name description : List ℕ) (ctime : ℕ)
    → object (put (codes "version") (number (unsigned 1)) (put (codes "second_parent_id") second_parent (put (codes "root_id") root
    (put (codes "repo_id") lib (put (codes "parent_id") parent (put (codes "description") (string description)
    (put (codes "ctime") (number (unsigned ctime)) (put (codes "creator_name") (string creator_name) (put (codes "creator") (string creator)
    (if conflict then put (codes "conflict") (number (unsigned 1)) (put (codes "commit_id") id no_members) else put (codes "commit_id") id no_members))))))))))
    ≡ commit_with conflict id (members_with creator creator_name ctime description parent lib root second_parent)
unfolding members_with
written_with true id parent lib root second_parent creator creator_name description ctime = refl
written_with false id parent lib root second_parent creator creator_name description ctime = refl

pub written : (commit : Commit) → object (with_end commit (with_middle commit (with_front commit no_members))) ≡ data_of commit
unfolding data_of
written commit =
    written_with commit.conflict (id_data commit.id) (parent_data commit.parent) (library_data commit.lib) (id_data commit.root) (parent_data commit.second_parent)
    commit.creator commit.creator_name commit.description commit.ctime
