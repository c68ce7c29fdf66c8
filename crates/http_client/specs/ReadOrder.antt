-- What a server reads of a request that was written for an order. Our own. Read SpellsOrder first.
use Rattle.std.specs.Prelude.{ℕ, ◌≡◌, All, Bool, false, Option, None, Some, Ok, List, codes, ⊤}
use Rattle.library_state.specs.declared.tag.Tag.{Tag}
use Rattle.http_front.specs.CallQuery.{IsClient, IsObjectId}
use Rattle.http_front.specs.Fields.{found, values_of}
use Rattle.http_front.specs.NextHead.{IsSecret, IsTag, IsTagIn, IsTokenIn}
use Rattle.http_front.specs.Order.{IsOrder}
use Rattle.http_front.specs.RequestHead.{closes, expects, fields_of, method_of}
use Rattle.http_front.specs.RequestStream.{IsRequest, Request}
use Rattle.http_front.specs.Route.{IsLibrary}
use Rattle.http_front.specs.Rows.{IsRow}
use Rattle.http_front.specs.declared.order.Order.{Order}
use Rattle.http_front.specs.declared.order.What.{What}
use Rattle.http_front.specs.declared.order.What.TheVariants as what
use Rattle.http_client.specs.RequestText.{named_tag}

-- the input is one request, for which the client does not wait, and then the rest; a server reads it as that order, with
-- its secret and tag, and ends the connection after it just where that is wished
pub record SpellsOrder (input : List ℕ) (order : Order) (ends : Bool) (rest : List ℕ) : Type 0 where
  pub request : Request
  pub is : IsRequest input request rest
  pub waits : expects request.head ≡ false
  pub ends_is : closes request.head ≡ ends
  pub secret_is : IsTokenIn (found (values_of (codes "seafile-repo-token") (fields_of request.head))) order.secret
  pub tag_is : IsTagIn (found (values_of (codes "if-none-match") (fields_of request.head))) (named_tag order.what)
  pub order_is : IsOrder (method_of request.head.method) request.head.target order.secret (named_tag order.what) request.body (Ok order)

abbrev pub IsLibraryOrNone : Option (List ℕ) → Type 0
IsLibraryOrNone None = ⊤
IsLibraryOrNone (Some lib) = IsLibrary lib

abbrev pub IsSecretOrNone : Option (List ℕ) → Type 0
IsSecretOrNone None = ⊤
IsSecretOrNone (Some secret) = IsSecret secret

abbrev pub IsTagOrNone : Option Tag → Type 0
IsTagOrNone None = ⊤
IsTagOrNone (Some tag) = IsTag tag

-- ids are ids, the numbers of a tag have 64 bits, and rows have lengths that are told
abbrev pub HasIds : What → Type 0
HasIds (what.Head tag) = IsTagOrNone tag
HasIds (what.Update commit) = IsObjectId commit
HasIds (what.Get key) = IsObjectId key.id
HasIds (what.Put key bytes) = IsObjectId key.id
HasIds (what.Missing kind ids) = All IsObjectId ids
HasIds (what.PutFs rows) = All IsRow rows
HasIds (what.GetFs ids) = All IsObjectId ids
HasIds (what.Ids server client) = IsObjectId server × IsClient client
HasIds _ = ⊤

-- what every order of the program is: its library, secret and ids have their number of bytes, and its tag numbers of 64 bits
pub record IsTyped (order : Order) : Type 0 where
  pub lib : IsLibraryOrNone order.lib
  pub secret : IsSecretOrNone order.secret
  pub ids : HasIds order.what
