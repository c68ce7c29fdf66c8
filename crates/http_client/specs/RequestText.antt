-- The bytes of a request, as a client writes what it orders (RFC 9112, sections 2 to 5). Which method, path and query ask
-- for what is the table of calls that the server reads by: Route and CallQuery of `http_front`. Read request_text first, then
-- HasRequest and IsWithinLimit, at the end: which orders have a request.
use Rattle.std.specs.Prelude.{ℕ, ◌<◌, ◌≤◌, ◌^◌, unsigned_abs, All, IsTrue, Bool, ◌||◌, ◌==◌, Option, None, Some, List, [], ◌∷◌, ◌++◌, length, codes, decimal, ⊤}
use Rattle.std.specs.Char.{is_ascii_alphanumeric}
use Rattle.hex.specs.Hex.{encode_lower}
use Rattle.ids.specs.declared.key.Kind.{Kind}
use Rattle.ids.specs.declared.key.Kind.TheVariants.{Commit, Fs, Block}
use Rattle.library_state.specs.declared.tag.Tag.{Tag}
use Rattle.http_front.specs.EntityTag.{tag_text}
use Rattle.http_front.specs.CallQuery.{check_query, days_query, ids_query, update_query}
use Rattle.http_front.specs.IdArray.{array_text}
use Rattle.http_front.specs.ReplyText.{close_line, end_of_line, line}
use Rattle.http_front.specs.Route.{IsPathKind, method_in, path_in, route_limit}
use Rattle.http_front.specs.Rows.{rows_text}
use Rattle.http_front.specs.declared.method.Method.{Method}
use Rattle.http_front.specs.declared.method.Method.TheVariants as method
use Rattle.http_front.specs.declared.order.Order.{Order}
use Rattle.http_front.specs.declared.order.What.{What}
use Rattle.http_front.specs.declared.order.What.TheVariants as what
use Rattle.http_front.specs.declared.route.Route.{Route}
use Rattle.http_front.specs.declared.route.Route.TheVariants as route
use Rattle.http_client.specs.declared.conditions.TheConstants.{MAX_HOST}

-- the call that asks which ids of a kind name nothing. Commits have none
abbrev pub missing_route : List ℕ → Kind → Route
missing_route lib Commit = route.CheckBlocks lib
missing_route lib Fs = route.CheckFs lib
missing_route lib Block = route.CheckBlocks lib

-- the call of a library that asks for it
abbrev pub library_route : List ℕ → What → Route
library_route lib what.Version = route.Version
library_route lib (what.Check op) = route.Check lib
library_route lib (what.Head tag) = route.Head lib
library_route lib (what.Update commit) = route.Update lib
library_route lib (what.Get key) = route.Get lib key
library_route lib (what.Put key bytes) = route.Put lib key
library_route lib (what.Missing kind ids) = missing_route lib kind
library_route lib (what.PutFs rows) = route.PutFs lib
library_route lib (what.GetFs ids) = route.GetFs lib
library_route lib (what.Ids server client) = route.Ids lib
library_route lib (what.Limit days) = route.Limit lib
library_route lib what.Collect = route.Collect lib

-- the call that asks for it. Of no library the version alone is asked
abbrev pub route_in : Option (List ℕ) → What → Route
route_in None what = route.Version
route_in (Some lib) what = library_route lib what

-- what follows the path: a `?` and the query of the call, or nothing
abbrev pub query_text : What → List ℕ
query_text (what.Check op) = 63 ∷ check_query op
query_text (what.Update commit) = 63 ∷ update_query commit
query_text (what.Ids server client) = 63 ∷ ids_query server client
query_text (what.Limit days) = 63 ∷ days_query days
query_text _ = []

abbrev pub target_text : Option (List ℕ) → What → List ℕ
target_text lib what = path_in (route_in lib what) ++ query_text what

-- the body: an object, ids or rows
abbrev pub body_in : What → List ℕ
body_in (what.Put key bytes) = bytes
body_in (what.Missing kind ids) = array_text ids
body_in (what.PutFs rows) = rows_text rows
body_in (what.GetFs ids) = array_text ids
body_in _ = []

abbrev pub method_word : Method → List ℕ
method_word method.Get = codes "GET"
method_word method.Put = codes "PUT"
method_word method.Post = codes "POST"
method_word method.Other = []

-- method, target and version, and the end of the line
abbrev pub start_line : Method → List ℕ → List ℕ
start_line m target = method_word m ++ 32 ∷ target ++ codes " HTTP/1.1" ++ end_of_line

abbrev pub host_line : List ℕ → List ℕ
host_line host = line (codes "Host: ") host

abbrev pub token_line : Option (List ℕ) → List ℕ
token_line None = []
token_line (Some secret) = line (codes "Seafile-Repo-Token: ") (encode_lower secret)

-- the tag that is named where the head is asked for
abbrev pub named_tag : What → Option Tag
named_tag (what.Head tag) = tag
named_tag _ = None

abbrev pub match_line : Option Tag → List ℕ
match_line None = []
match_line (Some tag) = line (codes "If-None-Match: ") (tag_text tag)

-- the length of the body, with a method that has one
abbrev pub length_line : Method → ℕ → List ℕ
length_line method.Get size = []
length_line method.Put size = line (codes "Content-Length: ") (decimal size)
length_line method.Post size = line (codes "Content-Length: ") (decimal size)
length_line method.Other size = []

-- a request with this body
unfoldable pub request_with : Order → List ℕ → Bool → List ℕ → List ℕ
request_with order host closes body =
    start_line (method_in (route_in order.lib order.what)) (target_text order.lib order.what) ++ host_line host ++ token_line order.secret
    ++ match_line (named_tag order.what) ++ length_line (method_in (route_in order.lib order.what)) (length body) ++ close_line closes ++ end_of_line ++ body

-- the request that an order is written as, with `Connection: close` where the connection is to end after it
abbrev pub request_text : Order → List ℕ → Bool → List ℕ
request_text order host closes = request_with order host closes (body_in order.what)

-- ---- which orders have a request

-- a library is named, unless the version is asked for
abbrev pub NamesLibrary : Option (List ℕ) → What → Type 0
NamesLibrary None what.Version = ⊤
NamesLibrary None _ = ⊥
NamesLibrary (Some lib) what.Version = ⊥
NamesLibrary (Some lib) _ = ⊤

-- files and directories are named by ids in a body alone, it is not asked which commits are there, and days have at most 18
-- digits
abbrev pub IsAsked : What → Type 0
IsAsked (what.Get key) = IsPathKind key.kind
IsAsked (what.Put key bytes) = IsPathKind key.kind
IsAsked (what.Missing Commit ids) = ⊥
IsAsked (what.Limit days) = unsigned_abs days < 10 ^ 18
IsAsked _ = ⊤

-- the order is one of a request
pub record HasRequest (order : Order) : Type 0 where
  pub library : NamesLibrary order.lib order.what
  pub asked : IsAsked order.what

-- the most bytes that the server takes as the body of its request
abbrev pub limit_in : Order → ℕ
limit_in order = route_limit (route_in order.lib order.what)

-- its body has no more
pub record IsWithinLimit (order : Order) : Type 0 where
  pub short : length (body_in order.what) ≤ limit_in order

-- a letter, a digit, `.` or `-`, of ASCII
abbrev pub is_host_byte : ℕ → Bool
is_host_byte byte = is_ascii_alphanumeric byte || (byte == 46) || (byte == 45)

-- the name of a host, as a client shows it
pub record IsHost (host : List ℕ) : Type 0 where
  pub some : 1 ≤ length host
  pub short : length host ≤ MAX_HOST
  pub allowed : All (λ byte. IsTrue (is_host_byte byte)) host
