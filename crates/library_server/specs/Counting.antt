-- How changes of a library that was opened are counted, and the tag of its state. Our own. Read IsCounted first, then tag_at and
-- is_current.
use Rattle.library_state.specs.declared.state.TheConstants.{MAX_TOKENS}
use Rattle.std.specs.Prelude.{◌≡◌, ◌+◌, ◌==◌, ◌&&◌, ℕ, Bool, true, false, min, nat_lt, List, take, Option}
use Rattle.std.specs.Str.{bytes_eq}
use Rattle.depot.specs.Answering.{permits}
use Rattle.depot.specs.DepotView.{DepotView}
use Rattle.depot.specs.Story.{IsOther, IsSame}
use Rattle.library_rules.specs.Calls.{token_of}
use Rattle.library_state.specs.declared.call.Act.TheVariants as act
use Rattle.library_state.specs.declared.tag.Tag.{Tag}
use Rattle.object_store.specs.Shelf.{Contents}
use Rattle.library_server.specs.declared.counting.Counted.{Counted}

-- a library that was opened, with the number of changes since
abbrev pub OpenedView : Type 0 → Type 0
OpenedView S = Counted (DepotView S)

-- the same as it is opened
abbrev pub opened_now : {S : Type 0} → DepotView S → OpenedView S
opened_now depot = record { depot = depot; changes = 0 }

-- the largest count: where it is reached it stays
abbrev pub last_count : ℕ
last_count = 18446744073709551615

-- the count after what changed the library, or didn't
abbrev pub count_after : ℕ → Bool → ℕ
count_after changes false = changes
count_after changes true = min last_count (changes + 1)

-- what was done is counted exactly where it left another library
pub data IsCounted {S : Type 0} (contents : S → Option Contents) (faults : S → ℕ) (old new : OpenedView S) : Type 0 where
  unchanged : IsSame contents faults old.depot new.depot → new.changes ≡ old.changes → IsCounted contents faults old new
  changed : IsOther contents faults old.depot new.depot → new.changes ≡ min last_count (old.changes + 1) → IsCounted contents faults old new

-- the tag of the state: which opening, and how many changes since
abbrev pub tag_at : {S : Type 0} → OpenedView S → Tag
tag_at library = record { opening = library.depot.state.opening; count = library.changes }

-- a look by the one of this secret tells that a library is still in the state of a tag: it is the one that is served, the tag is
-- that of its state, below the largest count, and a token that may ask for the head has the secret. No library has more than
-- MAX_TOKENS tokens
abbrev pub is_current : {S : Type 0} → OpenedView S → List ℕ → Option (List ℕ) → Tag → Bool
is_current library lib secret tag =
    bytes_eq lib library.depot.state.lib && ((tag.opening == library.depot.state.opening) && ((tag.count == library.changes) && (nat_lt tag.count last_count
    && permits (token_of (take MAX_TOKENS library.depot.state.tokens) secret) act.Head)))
