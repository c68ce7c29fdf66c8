-- For private clauses: which ids a table knows.
use Rattle.std.specs.Prelude.{ℕ, ◌≡◌, is_some, List, ⊤}
use Rattle.std.specs.FinMap as map
use Rattle.ids.specs.Key.{key_cmp}
use Rattle.ids.specs.declared.key.Key.{Key}
use Rattle.ids.specs.declared.key.Kind.TheVariants.{Block}
use Rattle.http_client.specs.OrderOutcome.{is_among}

-- the key that stands for an id
abbrev pub block_key : List ℕ → Key
block_key id = record { kind = Block; id = id }

-- the table knows exactly these ids
abbrev pub KnowsIds : List (List ℕ) → map.FinMap key_cmp ⊤ → Type 0
KnowsIds asked known = (id : List ℕ) → is_some (map.get known (block_key id)) ≡ is_among asked id
