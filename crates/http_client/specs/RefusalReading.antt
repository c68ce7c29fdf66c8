-- The refusal that a JSON value tells: the one whose own text, as a server writes it, has no member that the value lacks.
-- Other members of the value are passed over. Our own. Read first: RefusalText of `http_front`; here: TellsRefusal.
use Rattle.std.specs.Prelude.{◌≡◌, ◌<◌, ◌^◌, pos, negsuc, IsUtf8, Some, ⊤}
use Rattle.serde_json.specs.Data.{Data, null, boolean, number, string, array, object, Members, member, no_members}
use Rattle.serde_json.specs.Find.{get}
use Rattle.tree_model.specs.Path.{IsPath, path_text}
use Rattle.library_state.specs.declared.refusal.Refusal.{Refusal}
use Rattle.library_state.specs.declared.refusal.Refusal.TheVariants as refusal
use Rattle.http_front.specs.CallQuery.{IsClient, IsObjectId}
use Rattle.http_front.specs.RefusalText.{refused_data}
use Rattle.http_front.specs.Route.{IsLibrary}

-- each of the members stands in the value, with the same value
abbrev pub HasMembers : Data → Members → Type 0
HasMembers d no_members = ⊤
HasMembers d (member name value more) = (get name d ≡ Some value) × HasMembers d more

abbrev pub members_of : Data → Members
members_of null = no_members
members_of (boolean b) = no_members
members_of (number n) = no_members
members_of (string text) = no_members
members_of (array items) = no_members
members_of (object members) = members

-- the ids and paths that a refusal tells are ids and paths, and its days are below 2^63
abbrev pub NamesThings : Refusal → Type 0
NamesThings (refusal.NoObject key) = IsObjectId key.id
NamesThings (refusal.Wrong got) = IsObjectId got
NamesThings (refusal.OtherLibrary lib) = IsLibrary lib
NamesThings (refusal.Taken id) = IsObjectId id
NamesThings (refusal.Incomplete key) = IsObjectId key.id
NamesThings (refusal.Unreadable key) = IsObjectId key.id
NamesThings (refusal.WrongKind id) = IsObjectId id
NamesThings (refusal.WrongSize id) = IsObjectId id
NamesThings (refusal.TooDeep path) = IsPath path
NamesThings (refusal.TooLong path size) = IsPath path
NamesThings (refusal.Damaged want got) = IsObjectId want × IsClient got
NamesThings (refusal.BadDays (pos days)) = days < 2 ^ 63
NamesThings _ = ⊤

-- a value tells a refusal
pub record TellsRefusal (d : Data) (why : Refusal) : Type 0 where
  pub named : NamesThings why
  pub has : HasMembers d (members_of (refused_data why))

-- its numbers have 64 bits and its path is a text, as in every refusal of a program
abbrev pub IsSpoken : Refusal → Type 0
IsSpoken (refusal.BadBody at) = at < 2 ^ 64
IsSpoken (refusal.BadFs code) = code < 2 ^ 64
IsSpoken (refusal.BadCommit code) = code < 2 ^ 64
IsSpoken (refusal.Stale last now) = (last < 2 ^ 64) × (now < 2 ^ 64)
IsSpoken (refusal.Unrelated count) = count < 2 ^ 64
IsSpoken (refusal.TooDeep path) = IsUtf8 (path_text path)
IsSpoken (refusal.TooMany count) = count < 2 ^ 64
IsSpoken (refusal.TooLong path size) = IsUtf8 (path_text path) × (size < 2 ^ 64)
IsSpoken (refusal.BadDays (pos days)) = days < 2 ^ 64
IsSpoken (refusal.BadDays (negsuc days)) = days < 2 ^ 63
IsSpoken _ = ⊤
