-- The calls that a method and a path can name. Our own, after the HTTP sync calls of seafile-server:
--
--     GET       /protocol-version           the version of the protocol is asked for
--     GET       /repo/LIB/permission-check  whether something may be done is asked
--     GET       /repo/LIB/commit/HEAD       the commit that the library stands at is asked for
--     PUT       /repo/LIB/commit/HEAD       the library is to take in a commit
--     GET, PUT  /repo/LIB/commit/ID         an object's bytes are asked for, or are to be stored
--     GET, PUT  /repo/LIB/block/ID          the same of a block
--     POST      /repo/LIB/check-fs          of some ids those are asked for that name no file and no directory
--     POST      /repo/LIB/check-blocks      the same of blocks
--     POST      /repo/LIB/recv-fs           files and directories are to be stored
--     POST      /repo/LIB/pack-fs           files and directories are asked for
--     GET       /repo/LIB/fs-id-list        the files and directories are asked for that a commit needs
--     PUT       /repo/LIB/history-limit     it is to be set for how many days history is kept (ours alone)
--     POST      /repo/LIB/collect           what no kept commit needs is to be removed (ours alone)
--
-- LIB is the text of a library id and ID that of an object id. One slash at the end of a path and the query are dropped;
-- what a call needs of the query stands in Query.
-- Read route_of first; then parts_in, which says the same the other way round.
use Rattle.std.specs.Prelude.{ℕ, ◌≡◌, ◌<◌, ◌==◌, All, if◌then◌else◌, Option, None, Some, List, [], ◌∷◌, length, codes, ⊤}
use Rattle.std.specs.List.{join_with_byte}
use Rattle.std.specs.Option.{option_and_then}
use Rattle.std.specs.Str.{bytes_eq}
use Rattle.ids.specs.declared.key.Key.{Key}
use Rattle.ids.specs.declared.key.Kind.{Kind}
use Rattle.ids.specs.declared.key.Kind.TheVariants.{Commit, Fs, Block}
use Rattle.hex.specs.Hex.{encode_lower}
use Rattle.uuid.specs.Text.{hyphenated_text, lower}
use Rattle.json_words.specs.IdText.{library_id_of, object_id_of}
use Rattle.ids.specs.Kind.{kind_of, kind_word}
use Rattle.http_front.specs.Limits.{body_limit}
use Rattle.http_front.specs.Target.{parts_of}
use Rattle.http_front.specs.declared.method.Method.{Method}
use Rattle.http_front.specs.declared.method.Method.TheVariants as method
use Rattle.http_front.specs.declared.route.Route.{Route}
use Rattle.http_front.specs.declared.route.Route.TheVariants.{Version, Check, Head, Update, Get, Put, CheckFs, CheckBlocks, PutFs, GetFs, Ids, Limit, Collect}

-- the kind, where a path can name objects of it
abbrev pub path_kind : Kind → Option Kind
path_kind Commit = Some Commit
path_kind Fs = None
path_kind Block = Some Block

-- the kind of object that a word of a path names
abbrev pub kind_in_path : List ℕ → Option Kind
kind_in_path word = option_and_then path_kind (kind_of word)

-- what each method asks of an object
abbrev pub object_route : Method → List ℕ → Key → Option Route
object_route method.Get lib key = Some (Get lib key)
object_route method.Put lib key = Some (Put lib key)
object_route method.Post lib key = None
object_route method.Other lib key = None

-- what each method asks of the commit that is the head
abbrev pub head_method : Method → List ℕ → Option Route
head_method method.Get lib = Some (Head lib)
head_method method.Put lib = Some (Update lib)
head_method method.Post lib = None
head_method method.Other lib = None

-- the head is a commit
abbrev pub head_route : Method → List ℕ → List ℕ → Option Route
head_route m lib word = if bytes_eq word (codes "commit") then head_method m lib else None

-- what a kind of object and an id name
abbrev pub named_route : Method → List ℕ → List ℕ → List ℕ → Option Route
named_route m lib word name =
    option_and_then (λ kind. option_and_then (λ id. object_route m lib (record { kind = kind; id = id })) (object_id_of name)) (kind_in_path word)

-- what follows `/repo/LIB/`, where it is two words. `HEAD` is no id
abbrev pub pair_route : Method → List ℕ → List ℕ → List ℕ → Option Route
pair_route m lib word name = if bytes_eq name (codes "HEAD") then head_route m lib word else named_route m lib word name

-- what follows `/repo/LIB/`, where it is a word alone
abbrev pub word_route : Method → List ℕ → List ℕ → Option Route
word_route method.Get lib word =
    if bytes_eq word (codes "permission-check") then Some (Check lib)
    else if bytes_eq word (codes "fs-id-list") then Some (Ids lib)
    else None
word_route method.Put lib word = if bytes_eq word (codes "history-limit") then Some (Limit lib) else None
word_route method.Other lib word = None
word_route method.Post lib word =
    if bytes_eq word (codes "check-fs") then Some (CheckFs lib)
    else if bytes_eq word (codes "check-blocks") then Some (CheckBlocks lib)
    else if bytes_eq word (codes "recv-fs") then Some (PutFs lib)
    else if bytes_eq word (codes "pack-fs") then Some (GetFs lib)
    else if bytes_eq word (codes "collect") then Some (Collect lib)
    else None

-- what follows `/repo/LIB/`: a word or two
abbrev pub library_route : Method → List ℕ → List (List ℕ) → Option Route
library_route m lib [] = None
library_route m lib (word ∷ []) = word_route m lib word
library_route m lib (word ∷ name ∷ []) = pair_route m lib word name
library_route m lib (word ∷ name ∷ x ∷ more) = None

-- what follows `/repo/`: a library
abbrev pub repo_route : Method → List (List ℕ) → Option Route
repo_route m (name ∷ rest) = option_and_then (λ lib. library_route m lib rest) (library_id_of name)
repo_route m [] = None

-- what stands alone behind the first slash
abbrev pub version_route : Method → List ℕ → Option Route
version_route method.Get word = if bytes_eq word (codes "protocol-version") then Some Version else None
version_route method.Put word = None
version_route method.Post word = None
version_route method.Other word = None

-- what follows the first slash
abbrev pub top_route : Method → List (List ℕ) → Option Route
top_route m [] = None
top_route m (word ∷ []) = version_route m word
top_route m (word ∷ next ∷ rest) = if bytes_eq word (codes "repo") then repo_route m (next ∷ rest) else None

-- the parts of a path, which begins with a slash
abbrev pub path_route : Method → List (List ℕ) → Option Route
path_route m (front ∷ rest) = if length front == 0 then top_route m rest else None
path_route m [] = None

-- the call that a method and a target name, if they name one
unfoldable pub route_of : Method → List ℕ → Option Route
route_of m target = path_route m (parts_of target)

-- ---- how long a body may be

-- the most bytes of a body where no row says otherwise
abbrev pub usual_limit : ℕ
usual_limit = 33554432

-- the most bytes of an object that is to be stored
abbrev pub object_limit : Kind → ℕ
object_limit Commit = 1048576
object_limit Fs = usual_limit
object_limit Block = 16777216

-- the most bytes of the body of a call: those of an object, of files and directories, and of every other call
abbrev pub route_limit : Route → ℕ
route_limit Version = usual_limit
route_limit (Check lib) = usual_limit
route_limit (Head lib) = usual_limit
route_limit (Update lib) = usual_limit
route_limit (Get lib key) = usual_limit
route_limit (Put lib key) = object_limit key.kind
route_limit (CheckFs lib) = usual_limit
route_limit (CheckBlocks lib) = usual_limit
route_limit (PutFs lib) = body_limit
route_limit (GetFs lib) = usual_limit
route_limit (Ids lib) = usual_limit
route_limit (Limit lib) = usual_limit
route_limit (Collect lib) = usual_limit

-- the same where no call is named
abbrev pub limit_at : Option Route → ℕ
limit_at None = usual_limit
limit_at (Some route) = route_limit route

-- the most bytes that the body of a request may have, by its method and path alone
unfoldable pub limit_of : Method → List ℕ → ℕ
limit_of m target = limit_at (route_of m target)

-- ---- the other way round: the method and the path of a call

abbrev pub method_in : Route → Method
method_in Version = method.Get
method_in (Check lib) = method.Get
method_in (Head lib) = method.Get
method_in (Update lib) = method.Put
method_in (Get lib key) = method.Get
method_in (Put lib key) = method.Put
method_in (CheckFs lib) = method.Post
method_in (CheckBlocks lib) = method.Post
method_in (PutFs lib) = method.Post
method_in (GetFs lib) = method.Post
method_in (Ids lib) = method.Get
method_in (Limit lib) = method.Put
method_in (Collect lib) = method.Post

-- what follows `/repo/LIB/`
abbrev pub under : List ℕ → List (List ℕ) → List (List ℕ)
under lib rest = [] ∷ codes "repo" ∷ hyphenated_text lower lib ∷ rest

-- what stands between the slashes of a call's path, of which the first begins it
abbrev pub parts_in : Route → List (List ℕ)
parts_in Version = [] ∷ codes "protocol-version" ∷ []
parts_in (Check lib) = under lib (codes "permission-check" ∷ [])
parts_in (Head lib) = under lib (codes "commit" ∷ codes "HEAD" ∷ [])
parts_in (Update lib) = under lib (codes "commit" ∷ codes "HEAD" ∷ [])
parts_in (Get lib key) = under lib (kind_word key.kind ∷ encode_lower key.id ∷ [])
parts_in (Put lib key) = under lib (kind_word key.kind ∷ encode_lower key.id ∷ [])
parts_in (CheckFs lib) = under lib (codes "check-fs" ∷ [])
parts_in (CheckBlocks lib) = under lib (codes "check-blocks" ∷ [])
parts_in (PutFs lib) = under lib (codes "recv-fs" ∷ [])
parts_in (GetFs lib) = under lib (codes "pack-fs" ∷ [])
parts_in (Ids lib) = under lib (codes "fs-id-list" ∷ [])
parts_in (Limit lib) = under lib (codes "history-limit" ∷ [])
parts_in (Collect lib) = under lib (codes "collect" ∷ [])

-- the path of a call: its parts with a slash between each two
abbrev pub path_in : Route → List ℕ
path_in route = join_with_byte 47 (parts_in route)

-- the bytes of a library id
pub record IsLibrary (lib : List ℕ) : Type 0 where
  pub size : length lib ≡ 16
  pub bytes : All (λ byte. byte < 256) lib

-- the objects that a path can name
abbrev pub IsPathKind : Kind → Type 0
IsPathKind Commit = ⊤
IsPathKind Fs = ⊥
IsPathKind Block = ⊤

-- the library and the key that a path can name
pub record IsNamed (lib : List ℕ) (key : Key) : Type 0 where
  pub lib_is : IsLibrary lib
  pub id_size : length key.id ≡ 20
  pub id_bytes : All (λ byte. byte < 256) key.id
  pub kind : IsPathKind key.kind

abbrev pub IsCall : Route → Type 0
IsCall Version = ⊤
IsCall (Check lib) = IsLibrary lib
IsCall (Head lib) = IsLibrary lib
IsCall (Update lib) = IsLibrary lib
IsCall (Get lib key) = IsNamed lib key
IsCall (Put lib key) = IsNamed lib key
IsCall (CheckFs lib) = IsLibrary lib
IsCall (CheckBlocks lib) = IsLibrary lib
IsCall (PutFs lib) = IsLibrary lib
IsCall (GetFs lib) = IsLibrary lib
IsCall (Ids lib) = IsLibrary lib
IsCall (Limit lib) = IsLibrary lib
IsCall (Collect lib) = IsLibrary lib
