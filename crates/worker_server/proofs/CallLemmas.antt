-- What follows of a request and its outcome: Serves-refused_for_memory, Serves-ran, Serves-leaves, Serves-fits.
use Rattle.std.proofs.Common.{◌≡◌, ℕ, Bool, true, false, arith, List, [], ◌∷◌, ◌++◌, Option, None, Some, Result, Ok, Err, ap, ap₂, append-nil, append_assoc, inl, inr, refl, subst, sym, ◌∙◌}
use Rattle.library_state.specs.declared.call.Act.TheVariants as act
use Rattle.library_state.specs.declared.call.Call.{Call}
use Rattle.library_state.specs.declared.refusal.Refusal.{Refusal}
use Rattle.library_state.specs.declared.refusal.Refusal.TheVariants.{NoMemory}
use Rattle.library_state.specs.declared.tag.Tag.{Tag}
use Rattle.http_front.specs.declared.order.Order.{Order}
use Rattle.http_front.specs.Order.{OrdersAs}
use Rattle.http_front.specs.declared.order.OrderFault.{OrderFault}
use Rattle.http_front.specs.declared.order.OrderFault.TheVariants as fault
use Rattle.http_front.specs.declared.order.What.{What}
use Rattle.http_front.specs.declared.order.What.TheVariants as what
use Rattle.http_front.specs.declared.outcome.Outcome.{Outcome}
use Rattle.http_front.specs.declared.outcome.Outcome.TheVariants.{Packed, Refused, Same}
use Rattle.http_front.specs.declared.row.Row.{Row}
use Rattle.http_front.specs.Rows.{row_with}
use Rattle.worker_server.specs.declared.host.Collected.{Collected}
use Rattle.worker_server.specs.declared.host.Collected.TheVariants as collected
use Rattle.worker_server.specs.Calls.{AnsweredSo, FitReply, HeadSo, HostRules, Leaves, LooksSo, Told, Ran, call_asked, collected_outcome, collection_asked, goes_on, left_by, look_asked, not_modified, operations_of, ServedAt, ServedBy, ServedSo, ServesOrder, AskedSo, PutsEach, GetsEach, NotAsked, Serves, told, unwritten, unready, call_of, get_of, outcome_without_library, put_of, refusal_of}
use Rattle.worker_server.proofs.EachLemmas.{GetsEach-fits}

module _ {V Operation : Type 0} (rules : HostRules V Operation) where
  -- where no memory was for the text, the outcome is the refusal for want of memory
  pub Serves-refused_for_memory : (u : V) (IsDue : Result Order Refusal → Type 0) (o : Outcome) (operations : List Operation) (v : V)
      → Serves rules u IsDue o operations v → Serves rules u IsDue (Refused NoMemory) operations v
  Serves-refused_for_memory u IsDue o operations v (told order due served) = unwritten order o due served refl
  Serves-refused_for_memory u IsDue o operations v (unwritten order other due served is) = unwritten order other due served refl
  Serves-refused_for_memory u IsDue o operations v (unready none) = unready (refl, none.1, none.2)

  -- an order that was read is served as such
  pub Serves-from_order : (u : V) (IsDue : Result Order Refusal → Type 0) (order : Order) (o : Outcome) (operations : List Operation) (v : V) → IsDue (Ok order)
      → ServesOrder rules u order o operations v → Serves rules u IsDue o operations v
  Serves-from_order u IsDue order o operations v due (inl served) = told (Ok order) due served
  Serves-from_order u IsDue order o operations v due (inr none) = unready none

  -- a request that has no order has no call
  pub Serves-from_fault : (u : V) (IsDue : Result Order Refusal → Type 0) (fault : OrderFault) → OrdersAs (Err fault) IsDue → Serves rules u IsDue (Refused (refusal_of fault)) [] u
  Serves-from_fault u IsDue (fault.Refused refusal) due = told (Err refusal) due (refl, refl, refl)
  Serves-from_fault u IsDue fault.NoMemory due = unready (refl, refl, refl)

  -- one call
  AskedSo-leaves : (u : V) (lib : List ℕ) (call : Call) (o : Outcome) (operations : List Operation) (v : V) → AskedSo rules.asks u lib call o operations v → Leaves rules u operations v
  AskedSo-leaves u lib call o operations v h = (call_asked lib call h.0 operations ∷ [], (v, h.1, refl), append-nil operations)

  -- no call
  NotAsked-leaves : (u : V) (due o : Outcome) (operations : List Operation) (v : V) → NotAsked u due o operations v → Leaves rules u operations v
  NotAsked-leaves u due o operations v h = ([], h.2, sym h.1)

  -- one call, and then more of them
  leaves_more : (u mid v : V) (t : Told Operation) (operations more : List Operation) → AnsweredSo rules u t mid → Leaves rules mid more v → operations ≡ left_by t ++ more
      → Leaves rules u operations v
  leaves_more u mid v t operations more answered rest is =
      (t ∷ rest.0, (mid, answered, rest.1), ap (λ (xs : List Operation). left_by t ++ xs) rest.2 ∙ sym is)

  -- nothing follows
  leaves_none : (mid v : V) (more : List Operation) → more ≡ [] → v ≡ mid → Leaves rules mid more v
  leaves_none mid v more empty same = ([], same, sym empty)

  PutsEach-leaves : (lib : List ℕ) (secret : Option (List ℕ)) (u : V) (rows : List Row) (o : Outcome) (operations : List Operation) (v : V)
      → PutsEach rules.asks lib secret u rows o operations v → Leaves rules u operations v
  PutsEach-leaves lib secret u [] o operations v h = NotAsked-leaves u _ o operations v h
  PutsEach-leaves lib secret u (row ∷ rows) o operations v h =
      leaves_more u h.1 v (call_asked lib (call_of secret (put_of row)) h.0 h.2) operations h.3 h.4 (elim h.6 [
        | inl on ↦ PutsEach-leaves lib secret h.1 rows o h.3 v on.1
        | inr end ↦ leaves_none h.1 v h.3 end.2 end.3
      ]) h.5

  GetsEach-leaves : (lib : List ℕ) (secret : Option (List ℕ)) (u : V) (ids : List (List ℕ)) (given : List Row) (o : Outcome) (operations : List Operation) (v : V)
      → GetsEach rules lib secret u ids given o operations v → Leaves rules u operations v
  GetsEach-leaves lib secret u [] given o operations v h = NotAsked-leaves u _ o operations v h
  GetsEach-leaves lib secret u (id ∷ ids) given o operations v h =
      leaves_more u h.1 v (call_asked lib (call_of secret (get_of id)) h.0 h.2) operations h.3 h.4 (elim h.7 [
        | inl on ↦ GetsEach-leaves lib secret h.1 ids (given ++ row_with id on.0 ∷ []) o h.3 v on.3
        | inr end ↦ elim end [
          | inl over ↦ leaves_none h.1 v h.3 over.4 over.5
          | inr refused ↦ leaves_none h.1 v h.3 refused.2 refused.3
        ]
      ]) h.6

  LooksSo-leaves : (u : V) (lib : List ℕ) (secret : Option (List ℕ)) (tag : Tag) (o : Outcome) (operations : List Operation) (v : V) → LooksSo rules u lib secret tag o operations v
      → Leaves rules u operations v
  LooksSo-leaves u lib secret tag o operations v (not_modified same is) = (look_asked lib secret tag true operations ∷ [], (v, same, refl), append-nil operations)
  LooksSo-leaves u lib secret tag o operations v (goes_on mid first more other asked is) =
      leaves_more u mid v (look_asked lib secret tag false first) operations more other (AskedSo-leaves mid lib (call_of secret act.Head) o more v asked) is

  HeadSo-leaves : (u : V) (lib : List ℕ) (secret : Option (List ℕ)) (tag : Option Tag) (o : Outcome) (operations : List Operation) (v : V) → HeadSo rules u lib secret tag o operations v
      → Leaves rules u operations v
  HeadSo-leaves u lib secret None o operations v h = AskedSo-leaves u lib (call_of secret act.Head) o operations v h
  HeadSo-leaves u lib secret (Some tag) o operations v h = LooksSo-leaves u lib secret tag o operations v h

  -- what a look told, and what came of it
  pub HeadSo-same : (u v : V) (lib : List ℕ) (secret : Option (List ℕ)) (tag : Tag) (same : Bool) (operations : List Operation) → same ≡ true
      → rules.looks u lib secret tag same operations v → HeadSo rules u lib secret (Some tag) (Same tag) operations v
  HeadSo-same u v lib secret tag same operations is looks =
      not_modified (subst (λ (b : Bool). rules.looks u lib secret tag b operations v) is looks) refl

  pub HeadSo-other : (u mid v : V) (lib : List ℕ) (secret : Option (List ℕ)) (tag : Tag) (same : Bool) (o : Outcome) (first more : List Operation) → same ≡ false
      → rules.looks u lib secret tag same first mid → AskedSo rules.asks mid lib (call_of secret act.Head) o more v
      → HeadSo rules u lib secret (Some tag) o (first ++ more) v
  HeadSo-other u mid v lib secret tag same o first more is looks asked =
      goes_on mid first more (subst (λ (b : Bool). rules.looks u lib secret tag b first mid) is looks) asked refl

  ServedBy-leaves : (lib : List ℕ) (secret : Option (List ℕ)) (w : What) (u : V) (o : Outcome) (operations : List Operation) (v : V)
      → ServedBy rules lib secret w u o operations v → Leaves rules u operations v
  ServedBy-leaves lib secret what.Version u o operations v h = NotAsked-leaves u _ o operations v h
  ServedBy-leaves lib secret (what.Check op) u o operations v h = AskedSo-leaves u lib _ o operations v h
  ServedBy-leaves lib secret (what.Head tag) u o operations v h = HeadSo-leaves u lib secret tag o operations v h
  ServedBy-leaves lib secret (what.Update commit) u o operations v h = AskedSo-leaves u lib _ o operations v h
  ServedBy-leaves lib secret (what.Get key) u o operations v h = AskedSo-leaves u lib _ o operations v h
  ServedBy-leaves lib secret (what.Put key bytes) u o operations v h = AskedSo-leaves u lib _ o operations v h
  ServedBy-leaves lib secret (what.Missing kind ids) u o operations v h = AskedSo-leaves u lib _ o operations v h
  ServedBy-leaves lib secret (what.PutFs rows) u o operations v h = PutsEach-leaves lib secret u rows o operations v h
  ServedBy-leaves lib secret (what.Ids server client) u o operations v h = AskedSo-leaves u lib _ o operations v h
  ServedBy-leaves lib secret (what.Limit days) u o operations v h = AskedSo-leaves u lib _ o operations v h
  ServedBy-leaves lib secret what.Collect u o operations v h = (collection_asked lib secret h.0 operations ∷ [], (v, h.1, refl), append-nil operations)
  ServedBy-leaves lib secret (what.GetFs ids) u o operations v h = GetsEach-leaves lib secret u ids [] o operations v h

  ServedAt-leaves : (lib secret : Option (List ℕ)) (w : What) (u : V) (o : Outcome) (operations : List Operation) (v : V)
      → ServedAt rules lib secret w u o operations v → Leaves rules u operations v
  ServedAt-leaves None secret w u o operations v h = NotAsked-leaves u _ o operations v h
  ServedAt-leaves (Some lib) secret w u o operations v h = ServedBy-leaves lib secret w u o operations v h

  ServedSo-leaves : (u : V) (order : Result Order Refusal) (o : Outcome) (operations : List Operation) (v : V)
      → ServedSo rules u order o operations v → Leaves rules u operations v
  ServedSo-leaves u (Err refusal) o operations v h = NotAsked-leaves u _ o operations v h
  ServedSo-leaves u (Ok order) o operations v h = ServedAt-leaves order.lib order.secret order.what u o operations v h

  -- the calls of a request, and what they left
  pub Serves-leaves : (u : V) (IsDue : Result Order Refusal → Type 0) (o : Outcome) (operations : List Operation) (v : V)
      → Serves rules u IsDue o operations v → Leaves rules u operations v
  Serves-leaves u IsDue o operations v (told order due served) = ServedSo-leaves u order o operations v served
  Serves-leaves u IsDue o operations v (unwritten order other due served is) = ServedSo-leaves u order other operations v served
  Serves-leaves u IsDue o operations v (unready none) = NotAsked-leaves u _ o operations v none

  pub Serves-ran : (u : V) (IsDue : Result Order Refusal → Type 0) (o : Outcome) (operations : List Operation) (v : V)
      → Serves rules u IsDue o operations v → (calls : List (Told Operation)) × Ran rules u calls v
  Serves-ran u IsDue o operations v served = let leaves = Serves-leaves u IsDue o operations v served in (leaves.0, leaves.1)

  -- some calls, and then more
  Ran-both : (u w v : V) (calls more : List (Told Operation)) → Ran rules u calls w → Ran rules w more v
      → (all : List (Told Operation)) × Ran rules u all v × (operations_of all ≡ operations_of calls ++ operations_of more)
  Ran-both u w v [] more e r = (more, subst (λ (z : V). Ran rules z more v) e r, refl)
  Ran-both u w v (t ∷ ts) more h r =
      let rest = Ran-both h.0 w v ts more h.2 r in (
        t ∷ rest.0,
        (h.0, h.1, rest.1),
        ap (λ (xs : List Operation). left_by t ++ xs) rest.2 ∙ sym (append_assoc (left_by t) (operations_of ts) (operations_of more)),
      )

  pub Ran-append : (u w v : V) (calls more : List (Told Operation)) → Ran rules u calls w → Ran rules w more v
      → (all : List (Told Operation)) × Ran rules u all v
  Ran-append u w v calls more h r = let both = Ran-both u w v calls more h r in (both.0, both.1)

  pub Leaves-append : (u w v : V) (first more : List Operation) → Leaves rules u first w → Leaves rules w more v → Leaves rules u (first ++ more) v
  Leaves-append u w v first more is also =
      let both = Ran-both u w v is.0 also.0 is.1 also.1 in
      (both.0, both.1, both.2 ∙ ap₂ (λ (xs ys : List Operation). xs ++ ys) is.2 also.2)

  -- ---- what a reply packs

  ServedBy-fits : (lib : List ℕ) (secret : Option (List ℕ)) (w : What) (u : V) (rows : List Row) (operations : List Operation) (v : V)
      → ServedBy rules lib secret w u (Packed rows) operations v → FitReply rows
  ServedBy-fits lib secret what.Version u rows operations v h = absurd (cc h.0)
  ServedBy-fits lib secret (what.Check op) u rows operations v h = absurd (cc h.2)
  ServedBy-fits lib secret (what.Head tag) u rows operations v h = absurd (not_head tag h)
    where
      not_looked : (tag : Tag) → LooksSo rules u lib secret tag (Packed rows) operations v → ⊥
      not_looked tag (not_modified same is) = cc is
      not_looked tag (goes_on mid first more other asked is) = cc asked.2

      not_head : (tag : Option Tag) → HeadSo rules u lib secret tag (Packed rows) operations v → ⊥
      not_head None h = cc h.2
      not_head (Some tag) h = not_looked tag h
  ServedBy-fits lib secret (what.Update commit) u rows operations v h = absurd (cc h.2)
  ServedBy-fits lib secret (what.Get key) u rows operations v h = absurd (cc h.2)
  ServedBy-fits lib secret (what.Put key bytes) u rows operations v h = absurd (cc h.2)
  ServedBy-fits lib secret (what.Missing kind ids) u rows operations v h = absurd (cc h.2)
  ServedBy-fits lib secret (what.PutFs puts) u rows operations v h = absurd (not_packed lib secret u puts rows operations v h)
    where
      not_packed : (lib : List ℕ) (secret : Option (List ℕ)) (u : V) (puts rows : List Row) (operations : List Operation) (v : V)
          → PutsEach rules.asks lib secret u puts (Packed rows) operations v → ⊥
      not_packed lib secret u [] rows operations v h = cc h.0
      not_packed lib secret u (row ∷ puts) rows operations v h =
          elim h.6 [
            | inl on ↦ not_packed lib secret h.1 puts rows h.3 v on.1
            | inr end ↦ cc end.1
          ]
  ServedBy-fits lib secret (what.Ids server client) u rows operations v h = absurd (cc h.2)
  ServedBy-fits lib secret (what.Limit days) u rows operations v h = absurd (cc h.2)
  ServedBy-fits lib secret what.Collect u rows operations v h = absurd (not_collected h.0 h.2)
    where
      not_collected : (ends : Collected) → Packed rows ≡ collected_outcome ends → ⊥
      not_collected (collected.Done number removed) e = cc e
      not_collected (collected.Refused why) e = cc e
  ServedBy-fits lib secret (what.GetFs ids) u rows operations v h = GetsEach-fits rules lib secret u v ids [] rows operations none_fits h
    where
      none_fits : FitReply []
      none_fits = omega arith

  ServedSo-fits : (u : V) (order : Result Order Refusal) (rows : List Row) (operations : List Operation) (v : V)
      → ServedSo rules u order (Packed rows) operations v → FitReply rows
  ServedSo-fits u (Err refusal) rows operations v h = absurd (cc h.0)
  ServedSo-fits u (Ok order) rows operations v h = by_library order.lib h
    where
      version_or_none : (w : What) → Packed rows ≡ outcome_without_library w → ⊥
      version_or_none what.Version e = cc e
      version_or_none (what.Check op) e = cc e
      version_or_none (what.Head tag) e = cc e
      version_or_none (what.Update commit) e = cc e
      version_or_none (what.Get key) e = cc e
      version_or_none (what.Put key bytes) e = cc e
      version_or_none (what.Missing kind ids) e = cc e
      version_or_none (what.PutFs puts) e = cc e
      version_or_none (what.GetFs ids) e = cc e
      version_or_none (what.Ids server client) e = cc e
      version_or_none (what.Limit days) e = cc e
      version_or_none what.Collect e = cc e

      by_library : (lib : Option (List ℕ)) → ServedAt rules lib order.secret order.what u (Packed rows) operations v → FitReply rows
      by_library None h = absurd (version_or_none order.what h.0)
      by_library (Some lib) h = ServedBy-fits lib order.secret order.what u rows operations v h

  -- a reply that packs files and directories has no more than fit
  pub Serves-fits : (u : V) (IsDue : Result Order Refusal → Type 0) (rows : List Row) (operations : List Operation) (v : V)
      → Serves rules u IsDue (Packed rows) operations v → FitReply rows
  Serves-fits u IsDue rows operations v (told order due served) = ServedSo-fits u order rows operations v served
  Serves-fits u IsDue rows operations v (unwritten order other due served is) = absurd (cc is)
  Serves-fits u IsDue rows operations v (unready none) = absurd (cc none.0)
