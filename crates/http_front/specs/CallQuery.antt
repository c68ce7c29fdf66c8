-- The query that a call needs, the other way round: what asks for it. Our own. Read first: Query.
use Rattle.std.specs.Prelude.{ℕ, ℤ, ◌≡◌, ◌<◌, All, Option, None, Some, List, ◌∷◌, ◌++◌, length, codes, ⊤}
use Rattle.std.specs.Fmt.{signed_decimal}
use Rattle.hex.specs.Hex.{encode_lower}
use Rattle.library_state.specs.declared.call.Op.{Op}
use Rattle.library_state.specs.declared.call.Op.TheVariants.{Upload, Download}

-- the bytes of an object id
pub record IsObjectId (id : List ℕ) : Type 0 where
  pub size : length id ≡ 20
  pub bytes : All (λ byte. byte < 256) id

-- a part: a name, `=` and a value
abbrev pub part_of : List ℕ → List ℕ → List ℕ
part_of name value = name ++ 61 ∷ value

abbrev pub op_word : Op → List ℕ
op_word Upload = codes "upload"
op_word Download = codes "download"

-- whether something may be done
abbrev pub check_query : Op → List ℕ
check_query op = part_of (codes "op") (op_word op)

-- the commit that is to be taken in
abbrev pub update_query : List ℕ → List ℕ
update_query commit = part_of (codes "head") (encode_lower commit)

-- for how many days history is to be kept
abbrev pub days_query : ℤ → List ℕ
days_query days = part_of (codes "days") (signed_decimal days)

-- the commit whose objects are asked for, and the one that a client has
abbrev pub ids_query : List ℕ → Option (List ℕ) → List ℕ
ids_query server None = part_of (codes "server-head") (encode_lower server)
ids_query server (Some client) =
    part_of (codes "server-head") (encode_lower server) ++ 38 ∷ part_of (codes "client-head") (encode_lower client)

abbrev pub IsClient : Option (List ℕ) → Type 0
IsClient None = ⊤
IsClient (Some client) = IsObjectId client
