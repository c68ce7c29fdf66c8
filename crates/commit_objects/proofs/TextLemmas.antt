-- What is written of a commit has no float, and nests one level.
use Rattle.std.proofs.Common.{◌≡◌, ◌≤◌, ℕ, List, Bool, true, false, Option, Some, None, refl, arith}
use Rattle.serde_json.specs.Data.{Members, depth, members_depth}
use Rattle.serde_json.specs.Written.{has_float, members_have_float}
use Rattle.json_words.specs.IdText.{id_data}
use Rattle.commit_objects.specs.Spelling.{parent_data, library_data, members_with, commit_with, data_of}
use Rattle.commit_objects.specs.declared.commit.Commit.{Commit}

no_float_parent : (parent : Option (List ℕ)) → has_float (parent_data parent) ≡ false
no_float_parent None = refl
no_float_parent (Some id) = refl

flat_parent : (parent : Option (List ℕ)) → depth (parent_data parent) ≡ 0
flat_parent None = refl
flat_parent (Some id) = refl

no_float_members : (commit : Commit) → members_have_float (members_with commit.creator commit.creator_name commit.ctime commit.description (parent_data commit.parent) (library_data commit.lib) (id_data commit.root) (parent_data commit.second_parent)) ≡ false
unfolding members_with
no_float_members commit = rw (no_float_parent commit.parent, no_float_parent commit.second_parent)

flat_members : (commit : Commit) → members_depth (members_with commit.creator commit.creator_name commit.ctime commit.description (parent_data commit.parent) (library_data commit.lib) (id_data commit.root) (parent_data commit.second_parent)) ≡ 0
unfolding members_with
flat_members commit = rw (flat_parent commit.parent, flat_parent commit.second_parent)

no_float_with : (conflict : Bool) (id : List ℕ) (ms : Members) → members_have_float ms ≡ false → has_float (commit_with conflict (id_data id) ms) ≡ false
no_float_with true id ms none = none
no_float_with false id ms none = none

shallow_with : (conflict : Bool) (id : List ℕ) (ms : Members) → members_depth ms ≡ 0 → depth (commit_with conflict (id_data id) ms) ≤ 127
shallow_with true id ms flat = rw flat (omega arith)
shallow_with false id ms flat = rw flat (omega arith)

pub has_float-data_of : (commit : Commit) → has_float (data_of commit) ≡ false
unfolding data_of
has_float-data_of commit = no_float_with commit.conflict commit.id _ (no_float_members commit)

pub depth-data_of : (commit : Commit) → depth (data_of commit) ≤ 127
unfolding data_of
depth-data_of commit = shallow_with commit.conflict commit.id _ (flat_members commit)
