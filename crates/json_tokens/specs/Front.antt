-- The value at the front of some tokens, and what is behind it. Read FrontIs first.
-- The values are those that `serde_json` reads, so a number too large for a double is refused wherever it stands.
use Rattle.std.specs.Prelude.{◌≡◌, ℕ, List, length, Some, None}
use Rattle.json.specs.Token.{Token}
use Rattle.json.specs.Json.{value, items, members}
use Rattle.serde_json.specs.Data.{Data, Items, Members, no_members}
use Rattle.serde_json.specs.Read.{of_json, of_items, of_members, converted}

-- a value of at most `depth` levels stands first, and `new` is behind it
abbrev pub FrontIs : ℕ → List Token → Data → List Token → Type 0
FrontIs depth old d new = converted of_json (value depth old) ≡ Some (d, new)

-- no value of at most `depth` levels stands first
abbrev pub NoFront : ℕ → List Token → Type 0
NoFront depth old = converted of_json (value depth old) ≡ None

-- behind the bracket that opens an array: its items, each of at most `depth` levels, and `new` behind the closing one
abbrev pub ItemsAre : ℕ → List Token → Items → List Token → Type 0
ItemsAre depth old ds new = converted of_items (items (value depth) (length old) old) ≡ Some (ds, new)

abbrev pub NoItems : ℕ → List Token → Type 0
NoItems depth old = converted of_items (items (value depth) (length old) old) ≡ None

-- the same of the members of an object, behind its brace
abbrev pub MembersAre : ℕ → List Token → Members → List Token → Type 0
MembersAre depth old ms new = converted (λ found. of_members found no_members) (members (value depth) (length old) old) ≡ Some (ms, new)

abbrev pub NoMembers : ℕ → List Token → Type 0
NoMembers depth old = converted (λ found. of_members found no_members) (members (value depth) (length old) old) ≡ None
