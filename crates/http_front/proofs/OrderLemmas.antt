-- Orders whose body is not of its form, and that a request has one order. The lemmas that callers want are rows_refused
-- and order_once.
use Rattle.std.proofs.Common.{◌≡◌, ℕ, List, Option, None, Some, Result, Err, refl, sym, ap, ◌∙◌}
use Rattle.json_words.specs.declared.answer.ReadFault.{ReadFault}
use Rattle.json_words.specs.declared.answer.ReadFault.TheVariants.{Bad, NoMemory}
use Rattle.library_state.specs.declared.refusal.Refusal.{Refusal}
use Rattle.library_state.specs.declared.tag.Tag.{Tag}
use Rattle.http_front.specs.Order.{IsOrder, IsOrderAt, OrdersAs, PutsRows, body_fault, puts_objects}
use Rattle.http_front.specs.Query.{query_of}
use Rattle.http_front.specs.Route.{route_of}
use Rattle.http_front.specs.Rows.{ReadsRows}
use Rattle.http_front.specs.declared.method.Method.{Method}
use Rattle.http_front.specs.declared.order.Order.{Order}
use Rattle.http_front.specs.declared.route.Route.{Route}
use Rattle.http_front.specs.declared.route.Route.TheVariants as route
use Rattle.http_front.proofs.RowLemmas.{rows_once}

pub rows_refused : (lib : List ℕ) (secret : Option (List ℕ)) (body : List ℕ) (fault : ReadFault ℕ) → ReadsRows body (Err fault)
    → OrdersAs (Err (body_fault fault)) (λ due. PutsRows lib secret body due)
rows_refused lib secret body (Bad at) is = (Err at, is, refl)
rows_refused lib secret body NoMemory is = tt

-- a method, a target, a secret, a tag and a body have one order
once_at : (o : Option Route) (m : Method) (secret : Option (List ℕ)) (tag : Option Tag) (query body : List ℕ) (due other : Result Order Refusal) → IsOrderAt o m secret tag query body due → IsOrderAt o m secret tag query body other
    → due ≡ other
once_at None m secret tag query body due other is same = is ∙ sym same
once_at (Some route.Version) m secret tag query body due other is same = is ∙ sym same
once_at (Some (route.Check lib)) m secret tag query body due other is same = is ∙ sym same
once_at (Some (route.Head lib)) m secret tag query body due other is same = is ∙ sym same
once_at (Some (route.Update lib)) m secret tag query body due other is same = is ∙ sym same
once_at (Some (route.Get lib key)) m secret tag query body due other is same = is ∙ sym same
once_at (Some (route.Put lib key)) m secret tag query body due other is same = is ∙ sym same
once_at (Some (route.CheckFs lib)) m secret tag query body due other is same = is ∙ sym same
once_at (Some (route.CheckBlocks lib)) m secret tag query body due other is same = is ∙ sym same
once_at (Some (route.PutFs lib)) m secret tag query body due other is same = is.2 ∙ ap (puts_objects lib secret) (rows_once body is.0 same.0 is.1 same.1) ∙ sym same.2
once_at (Some (route.GetFs lib)) m secret tag query body due other is same = is ∙ sym same
once_at (Some (route.Ids lib)) m secret tag query body due other is same = is ∙ sym same
once_at (Some (route.Limit lib)) m secret tag query body due other is same = is ∙ sym same
once_at (Some (route.Collect lib)) m secret tag query body due other is same = is ∙ sym same

pub order_once : (m : Method) (target : List ℕ) (secret : Option (List ℕ)) (tag : Option Tag) (body : List ℕ) (due other : Result Order Refusal) → IsOrder m target secret tag body due → IsOrder m target secret tag body other
    → due ≡ other
order_once m target secret tag body due other is same = once_at (route_of m target) m secret tag (query_of target) body due other is same
