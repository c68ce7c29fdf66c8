-- What is put of what a library lacks. Our own. Read PutsKeys, then PutsMade.
use Rattle.std.specs.Prelude.{ℕ, ◌≡◌, ◌≤◌, ◌+◌, ◌⊎◌, All, List, [], ◌++◌, length, map}
use Rattle.std.specs.FinMap as fin
use Rattle.std.specs.List.{filter}
use Rattle.ids.specs.Key.{Objects}
use Rattle.ids.specs.declared.key.Key.{Key}
use Rattle.http_client.specs.RequestText.{body_in}
use Rattle.http_front.specs.declared.order.What.TheVariants as what
use Rattle.http_front.specs.declared.row.Row.{Row}
use Rattle.object_graph.specs.Objects.{fs_key}
use Rattle.remote_calls.specs.Sends.{Sent}
use Rattle.sync_rules.specs.Named.{keys_put}
use Rattle.sync_rules.specs.Orders.{IsRowNamed}
use Rattle.tree_push.specs.Asking.{ArePuts, IsSmall, most_bytes}
use Rattle.tree_push.specs.Lacking.{Keys, has_key}

-- these keys are put, in this order, and nothing else is sent
abbrev pub PutsKeys : List Key → List Sent → Type 0
PutsKeys keys more = ArePuts more × (keys_put more ≡ keys)

-- what is put is what is lacking of what was made: all of it, each once, in order
abbrev pub PutsMade : Objects → Keys → List Sent → Type 0
PutsMade made lacking more = PutsKeys (filter (has_key made) (fin.keys lacking)) more

-- ---- for private clauses

abbrev pub row_of : (id bytes : List ℕ) → Row
row_of id bytes = record { id = id; bytes = bytes }

abbrev pub row_keys : List Row → List Key
row_keys rows = map (λ (row : Row). fs_key row.id) rows

-- rows that wait, with the bytes that they have in a body; where that is too many the number need not be exact
pub record IsBatch (rows : List Row) (size : ℕ) : Type 0 where
  pub named : All IsRowNamed rows
  pub small : IsSmall rows
  pub counted : size ≤ most_bytes → length (body_in (what.PutFs rows)) ≤ size

-- so many bytes more are not too many, or nothing waits
abbrev pub HasRoom : List Row → (size more : ℕ) → Type 0
HasRoom rows size more = (rows ≡ []) ⊎ (size + more ≤ most_bytes)

-- of the rows that waited the first ones were put, and these wait still
abbrev pub PutsSome : (old new : List Row) → List Sent → Type 0
PutsSome old new more = ArePuts more × (keys_put more ++ row_keys new ≡ row_keys old)

-- the same where those of these keys that were made wait behind them
abbrev pub PutsInto : Objects → (taken : List Key) → (old new : List Row) → List Sent → Type 0
PutsInto made taken old new more = ArePuts more × (keys_put more ++ row_keys new ≡ row_keys old ++ filter (has_key made) taken)
