-- The file at one path after a three-way merge. Our own table. Read same_file, then choice.
use Rattle.std.specs.Prelude.{◌==◌, ◌&&◌, Bool, true, false, nat_eq, Option, Some, None}
use Rattle.std.specs.Cmp.Lexicographic.{pointwise}
use Rattle.tree_model.specs.declared.node.FileVersion.{FileVersion}

-- equal bytes and mode; times and authors aren't compared
abbrev pub same_version : FileVersion → FileVersion → Bool
same_version left right = pointwise nat_eq left.bytes right.bytes && (left.mode == right.mode)

-- the same version, or both absent
abbrev pub same_file : Option FileVersion → Option FileVersion → Bool
same_file None None = true
same_file None (Some right) = false
same_file (Some left) None = false
same_file (Some left) (Some right) = same_version left right

-- the file that keeps its name, and the one that gets a conflict name
pub record Choice : Type 0 where
  pub main : Option FileVersion
  pub side : Option FileVersion

abbrev pub only : Option FileVersion → Choice
only file = record { main = file; side = None }

-- by whether head and pushed, head and base, pushed and base are the same, and by the files of head and pushed
abbrev pub choice_by : Bool → Bool → Bool → Option FileVersion → Option FileVersion → Choice
choice_by true head_is_base pushed_is_base head pushed = only head
choice_by false true pushed_is_base head pushed = only pushed
choice_by false false true head pushed = only head
choice_by false false false None pushed = only pushed
choice_by false false false (Some head) None = only (Some head)
choice_by false false false (Some head) (Some pushed) = record { main = Some head; side = Some pushed }

-- the first row that holds: the same change, only pushed changed, only the head changed, a change beats a
-- deletion on either side, and two changes both stay
abbrev pub choice : (base head pushed : Option FileVersion) → Choice
choice base head pushed = choice_by (same_file head pushed) (same_file head base) (same_file pushed base) head pushed
