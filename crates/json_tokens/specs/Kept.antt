-- What is kept of a value where memory counts: of an object the members with known names, and of each the value without
-- what an array or an object in it holds. Our own. Read kept first.
use Rattle.std.specs.Prelude.{ℕ, List, if◌then◌else◌}
use Rattle.std.specs.List.{list_any}
use Rattle.std.specs.Str.{bytes_eq}
use Rattle.serde_json.specs.Data.{Data, null, boolean, number, string, array, object, no_items, Members, no_members, member, put}

-- an array or an object without what it holds, and any other value as it is
abbrev pub emptied : Data → Data
emptied null = null
emptied (boolean b) = boolean b
emptied (number n) = number n
emptied (string text) = string text
emptied (array ds) = array no_items
emptied (object ms) = object no_members

-- the members with known names, each emptied
abbrev pub kept_members : List (List ℕ) → Members → Members
kept_members known no_members = no_members
kept_members known (member key d ms) = if list_any (bytes_eq key) known then member key (emptied d) (kept_members known ms) else kept_members known ms

-- of an object the known members, and of any other value what it is without what it holds
abbrev pub kept : List (List ℕ) → Data → Data
kept known null = null
kept known (boolean b) = boolean b
kept known (number n) = number n
kept known (string text) = string text
kept known (array ds) = array no_items
kept known (object ms) = object (kept_members known ms)

-- the kept members, with one more member of the object, which is kept where its name is known
abbrev pub put_kept : List (List ℕ) → List ℕ → Data → Members → Members
put_kept known key d ms = if list_any (bytes_eq key) known then put key (emptied d) ms else ms
