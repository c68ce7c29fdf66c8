-- What a request asks for, by its method, target, secret, tag and body. Our own. Read IsOrder first, then Route, Query, Rows,
-- IdArray.
use Rattle.std.specs.Prelude.{◌≡◌, ⊤, ℕ, ℤ, Option, None, Some, Result, Ok, Err, List, codes}
use Rattle.ids.specs.declared.key.Kind.{Kind}
use Rattle.ids.specs.declared.key.Kind.TheVariants.{Fs, Block}
use Rattle.json_words.specs.declared.answer.ReadFault.{ReadFault}
use Rattle.json_words.specs.declared.answer.ReadFault.TheVariants.{Bad, NoMemory as NoRoom}
use Rattle.library_state.specs.declared.call.Op.{Op}
use Rattle.library_state.specs.declared.refusal.Refusal.{Refusal}
use Rattle.library_state.specs.declared.refusal.Refusal.TheVariants.{NoCall, BadMethod, BadQuery, BadBody}
use Rattle.library_state.specs.declared.tag.Tag.{Tag}
use Rattle.http_front.specs.IdArray.{ids_of}
use Rattle.http_front.specs.Query.{client_asked, days_asked, id_asked, op_asked, query_of}
use Rattle.http_front.specs.Route.{route_of}
use Rattle.http_front.specs.Rows.{IsRowsOf}
use Rattle.http_front.specs.declared.method.Method.{Method}
use Rattle.http_front.specs.declared.method.Method.TheVariants as method
use Rattle.http_front.specs.declared.order.Order.{Order}
use Rattle.http_front.specs.declared.order.OrderFault.{OrderFault}
use Rattle.http_front.specs.declared.order.OrderFault.TheVariants.{Refused, NoMemory}
use Rattle.http_front.specs.declared.order.What.{What}
use Rattle.http_front.specs.declared.order.What.TheVariants as what
use Rattle.http_front.specs.declared.route.Route.{Route}
use Rattle.http_front.specs.declared.route.Route.TheVariants as route
use Rattle.http_front.specs.declared.row.Row.{Row}

-- what is asked of a library
abbrev pub asked_of : List ℕ → Option (List ℕ) → What → Order
asked_of lib secret what = record { lib = Some lib; secret = secret; what = what }

-- a value that the query is to say, and that it does not say once in its form, makes it a bad one

-- whether something may be done is asked
abbrev pub asks_to : List ℕ → Option (List ℕ) → Option Op → Result Order Refusal
asks_to lib secret None = Err BadQuery
asks_to lib secret (Some op) = Ok (asked_of lib secret (what.Check op))

-- the library is to take in a commit
abbrev pub updates : List ℕ → Option (List ℕ) → Option (List ℕ) → Result Order Refusal
updates lib secret None = Err BadQuery
updates lib secret (Some commit) = Ok (asked_of lib secret (what.Update commit))

-- history is to be kept for so many days
abbrev pub limits : List ℕ → Option (List ℕ) → Option ℤ → Result Order Refusal
limits lib secret None = Err BadQuery
limits lib secret (Some days) = Ok (asked_of lib secret (what.Limit days))

-- what the first commit needs and the second, if there is one, does not is asked for
abbrev pub asks_what_differs : List ℕ → Option (List ℕ) → Option (List ℕ) → Option (Option (List ℕ)) → Result Order Refusal
asks_what_differs lib secret None client = Err BadQuery
asks_what_differs lib secret (Some server) None = Err BadQuery
asks_what_differs lib secret (Some server) (Some client) = Ok (asked_of lib secret (what.Ids server client))

-- the absent ones of the ids are asked for
abbrev pub asks_what_is_absent : List ℕ → Option (List ℕ) → Kind → Result (List (List ℕ)) ℕ → Result Order Refusal
asks_what_is_absent lib secret kind (Ok ids) = Ok (asked_of lib secret (what.Missing kind ids))
asks_what_is_absent lib secret kind (Err at) = Err (BadBody at)

-- the files and directories with the ids are asked for
abbrev pub asks_objects : List ℕ → Option (List ℕ) → Result (List (List ℕ)) ℕ → Result Order Refusal
asks_objects lib secret (Ok ids) = Ok (asked_of lib secret (what.GetFs ids))
asks_objects lib secret (Err at) = Err (BadBody at)

-- the files and directories of the rows are to be stored
abbrev pub puts_objects : List ℕ → Option (List ℕ) → Result (List Row) ℕ → Result Order Refusal
puts_objects lib secret (Ok rows) = Ok (asked_of lib secret (what.PutFs rows))
puts_objects lib secret (Err at) = Err (BadBody at)

-- the same of what the rows of a body are
abbrev pub PutsRows : List ℕ → Option (List ℕ) → List ℕ → Result Order Refusal → Type 0
PutsRows lib secret body due = (rows : Result (List Row) ℕ) × IsRowsOf body rows × (due ≡ puts_objects lib secret rows)

-- why a request is refused whose method and path name no call
abbrev pub refusal_without_call : Method → Refusal
refusal_without_call method.Get = NoCall
refusal_without_call method.Put = NoCall
refusal_without_call method.Post = NoCall
refusal_without_call method.Other = BadMethod

-- the order of a call that the method and the path name, or why it is refused. The tag counts where the head is asked for
abbrev pub IsOrderAt : Option Route → Method → Option (List ℕ) → Option Tag → List ℕ → List ℕ → Result Order Refusal → Type 0
IsOrderAt None m secret tag query body due = due ≡ Err (refusal_without_call m)
IsOrderAt (Some route.Version) m secret tag query body due = due ≡ Ok (record { lib = None; secret = secret; what = what.Version })
IsOrderAt (Some (route.Check lib)) m secret tag query body due = due ≡ asks_to lib secret (op_asked query)
IsOrderAt (Some (route.Head lib)) m secret tag query body due = due ≡ Ok (asked_of lib secret (what.Head tag))
IsOrderAt (Some (route.Update lib)) m secret tag query body due = due ≡ updates lib secret (id_asked (codes "head") query)
IsOrderAt (Some (route.Get lib key)) m secret tag query body due = due ≡ Ok (asked_of lib secret (what.Get key))
IsOrderAt (Some (route.Put lib key)) m secret tag query body due = due ≡ Ok (asked_of lib secret (what.Put key body))
IsOrderAt (Some (route.CheckFs lib)) m secret tag query body due = due ≡ asks_what_is_absent lib secret Fs (ids_of body)
IsOrderAt (Some (route.CheckBlocks lib)) m secret tag query body due = due ≡ asks_what_is_absent lib secret Block (ids_of body)
IsOrderAt (Some (route.PutFs lib)) m secret tag query body due = PutsRows lib secret body due
IsOrderAt (Some (route.GetFs lib)) m secret tag query body due = due ≡ asks_objects lib secret (ids_of body)
IsOrderAt (Some (route.Ids lib)) m secret tag query body due =
    due ≡ asks_what_differs lib secret (id_asked (codes "server-head") query) (client_asked query)
IsOrderAt (Some (route.Limit lib)) m secret tag query body due = due ≡ limits lib secret (days_asked query)
IsOrderAt (Some (route.Collect lib)) m secret tag query body due = due ≡ Ok (asked_of lib secret what.Collect)

-- what a request asks for, or why it is refused before any library is asked
abbrev pub IsOrder : Method → List ℕ → Option (List ℕ) → Option Tag → List ℕ → Result Order Refusal → Type 0
IsOrder m target secret tag body due = IsOrderAt (route_of m target) m secret tag (query_of target) body due

-- the answer is such a one, unless there was no memory for it
abbrev pub OrdersAs : Result Order OrderFault → (Result Order Refusal → Type 0) → Type 0
OrdersAs (Ok order) IsDue = IsDue (Ok order)
OrdersAs (Err (Refused refusal)) IsDue = IsDue (Err refusal)
OrdersAs (Err NoMemory) IsDue = ⊤

-- the fault of a body that is not of its form, at a place
abbrev pub body_fault : ReadFault ℕ → OrderFault
body_fault (Bad at) = Refused (BadBody at)
body_fault NoRoom = NoMemory
