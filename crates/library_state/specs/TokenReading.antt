-- For private clauses: the reader's own record, seen as a token.
use Rattle.library_state.specs.declared.state_lists.TokenParts.{TokenParts}
use Rattle.library_state.specs.declared.token.Token.{Token}

-- the user is that of the parts
abbrev pub parts_seen : TokenParts → Token
parts_seen parts = record { secret = parts.secret; user = parts.user.now; right = parts.right; last = parts.last }
