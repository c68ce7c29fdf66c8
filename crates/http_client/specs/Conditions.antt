-- For private clauses: which orders have a request, and how long its body is, as tests and numbers. Read first: RequestText.
use Rattle.std.specs.Prelude.{ℕ, nat_lt, ◌^◌, unsigned_abs, not, Bool, true, false, Option, None, Some, List}
use Rattle.ids.specs.declared.key.Kind.{Kind}
use Rattle.ids.specs.declared.key.Kind.TheVariants.{Commit, Fs, Block}
use Rattle.http_front.specs.declared.order.What.{What}
use Rattle.http_front.specs.declared.order.What.TheVariants as what
use Rattle.http_client.specs.OrderOutcome.{asks_version}

abbrev pub names_library : Option (List ℕ) → What → Bool
names_library None w = asks_version w
names_library (Some lib) w = not (asks_version w)

-- a path can name an object of the kind
abbrev pub is_path_kind : Kind → Bool
is_path_kind Commit = true
is_path_kind Fs = false
is_path_kind Block = true

-- it can be asked which ids of the kind name nothing
abbrev pub is_listed_kind : Kind → Bool
is_listed_kind Commit = false
is_listed_kind Fs = true
is_listed_kind Block = true

abbrev pub is_asked : What → Bool
is_asked what.Version = true
is_asked (what.Check op) = true
is_asked (what.Head tag) = true
is_asked (what.Update commit) = true
is_asked (what.Get key) = is_path_kind key.kind
is_asked (what.Put key bytes) = is_path_kind key.kind
is_asked (what.Missing kind ids) = is_listed_kind kind
is_asked (what.PutFs rows) = true
is_asked (what.GetFs ids) = true
is_asked (what.Ids server client) = true
is_asked (what.Limit days) = nat_lt (unsigned_abs days) (10 ^ 18)
is_asked what.Collect = true
