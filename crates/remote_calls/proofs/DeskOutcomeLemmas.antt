-- What a library answers to the calls of an order is an outcome that the order can have. The key lemmas are order_can, over any
-- host whose answers may be replied so, and desk_replies and desk_collects, that a library in memory is one.
use Rattle.std.proofs.Common.{◌≡◌, ℕ, ◌++◌, Bool, true, false, List, [], ◌∷◌, map, refl, sym, ap, subst, ◌∙◌, inl, inr, append_assoc, append-nil, Option, None, Some}
use Rattle.std.proofs.lemmas.List.{map-append}
use Rattle.std.specs.Prelude.{⊤}
use Rattle.std.specs.Str.{bytes_eq}
use Rattle.std.proofs.lemmas.Bool.{false≢true, true≢false}
use Rattle.std.proofs.lemmas.Slice.Eq.{bytes_eq-Decides}
use Rattle.library_state.specs.declared.call.Act.TheVariants as act
use Rattle.library_state.specs.declared.tag.Tag.{Tag}
use Rattle.library_state.specs.declared.call.Act.{Act}
use Rattle.library_state.specs.declared.call.Call.{Call}
use Rattle.library_rules.specs.Calls.{token_of}
use Rattle.library_rules.specs.LibraryState.{Running}
use Rattle.library_state.specs.declared.refusal.Refusal.{Refusal}
use Rattle.library_state.specs.declared.refusal.Refusal.TheVariants as refusal
use Rattle.library_state.specs.declared.reply.Reply.{Reply}
use Rattle.library_state.specs.declared.reply.Reply.TheVariants as reply
use Rattle.object_store.specs.Shelf.{Contents}
use Rattle.object_store.specs.declared.shelf.Slot.{Slot}
use Rattle.ids.specs.declared.key.Key.{Key}
use Rattle.object_store.specs.StoreView.{Index}
use Rattle.depot.specs.CollectionTurns.{MayRefuseTurn, permits_collection}
use Rattle.depot.specs.DepotView.{DepotView}
use Rattle.depot.specs.declared.turn.Turn.{Turn}
use Rattle.depot.specs.declared.turn.Turn.TheVariants as turn
use Rattle.collection_turns.specs.Turns.{EndsAs, TakesTurns, TellsTurns, TurnsOn, ended, endless, itself, notes_nothing, told_removed}
use Rattle.collection_turns.proofs.CollectingLemmas.{last_taken}
use Rattle.http_front.specs.Rows.{row_with}
use Rattle.http_front.specs.declared.order.Order.{Order}
use Rattle.http_front.specs.declared.order.What.{What}
use Rattle.http_front.specs.declared.order.What.TheVariants as what
use Rattle.http_front.specs.declared.outcome.Outcome.{Outcome}
use Rattle.http_front.specs.declared.outcome.Outcome.TheVariants.{Refused}
use Rattle.http_front.specs.declared.row.Row.{Row}
use Rattle.http_client.specs.OrderOutcome.{CanAnswer, CanHave, asks_library, asks_object, can_refuse, row_id}
use Rattle.http_client.specs.RequestText.{HasRequest, IsAsked, NamesLibrary}
use Rattle.worker_server.specs.Calls.{AskedSo, GetsEach, HeadSo, HostRules, LooksSo, NotAsked, PutsEach, ServedAt, ServedBy, ServesOrder, call_of, collected_outcome, get_of, goes_on, is_got, not_modified, put_of}
use Rattle.worker_server.specs.declared.host.Answer.{Answer}
use Rattle.worker_server.specs.declared.host.Collected.{Collected}
use Rattle.worker_server.specs.declared.host.Collected.TheVariants as collected
use Rattle.remote_calls.specs.DeskRemote.{DeskAnswers, DeskCollects}
use Rattle.remote_calls.specs.OrderReply.{Asks, MayReply, gives_objects}
use Rattle.remote_calls.proofs.MayRefuseLemmas.{free_can, tree_refused}
use Rattle.remote_calls.proofs.OrderReplyLemmas.{may_reply}

-- ---- replies

-- an order of one call is answered as its call is
single : (w : What) (r : Reply) → (gives_objects w ≡ true → asks_object w ≡ true) → MayReply w r → CanAnswer w r
single w (reply.Got bytes) one is = one is
single w other one is = is

-- one of several that was not given
not_got : (w : What) (r : Reply) → is_got r ≡ false → MayReply w r → CanAnswer w r
not_got w (reply.Got bytes) none is = absurd (true≢false none)
not_got w other none is = is

-- ---- outcomes

module _ {V Operation : Type 0} (rules : HostRules V Operation)
    (replies : (w : What) (u : V) (lib : List ℕ) (call : Call) (answer : Answer) (lines : List Operation) (v : V)
    → IsAsked w → Asks w call.act → rules.asks u lib call answer lines v → MayReply w answer.reply)
    (ends_so : (u : V) (lib : List ℕ) (secret : Option (List ℕ)) (ends : Collected) (lines : List Operation) (v : V)
    → rules.collects u lib secret ends lines v → CanHave what.Collect (collected_outcome ends)) where
  one_can : (w : What) (a : Act) (u : V) (lib : List ℕ) (secret : Option (List ℕ)) (o : Outcome) (lines : List Operation) (v : V) → IsAsked w → Asks w a
      → (gives_objects w ≡ true → asks_object w ≡ true) → AskedSo rules.asks u lib (call_of secret a) o lines v → CanHave w o
  one_can w a u lib secret o lines v asked of_it one is =
      subst (CanHave w) (sym is.2) (single w is.0.reply one (replies w u lib (call_of secret a) is.0 lines v asked of_it is.1))

  rows_can : (all : List Row) (lib : List ℕ) (secret : Option (List ℕ)) (rows : List Row) (u : V) (o : Outcome) (lines : List Operation) (v : V)
      → PutsEach rules.asks lib secret u rows o lines v → CanHave (what.PutFs all) o
  rows_can all lib secret [] u o lines v is = subst (CanHave (what.PutFs all)) (sym is.0) refl
  rows_can all lib secret (row ∷ rows) u o lines v is =
      elim is.6 [
        | inl later ↦ rows_can all lib secret rows is.1 o is.3 v later.1
        | inr last ↦ subst (CanHave (what.PutFs all)) (sym last.1)
            (single (what.PutFs all) is.0.reply (λ e. absurd (false≢true e)) (replies (what.PutFs all) u lib (call_of secret (put_of row)) is.0 is.2 is.1 tt (row, refl) is.4))
      ]

  ids_can : (all : List (List ℕ)) (lib : List ℕ) (secret : Option (List ℕ)) (ids : List (List ℕ)) (given : List Row) (u : V) (o : Outcome) (lines : List Operation) (v : V)
      → map row_id given ++ ids ≡ all → GetsEach rules lib secret u ids given o lines v → CanHave (what.GetFs all) o
  ids_can all lib secret [] given u o lines v same is =
      subst (CanHave (what.GetFs all)) (sym is.0) (sym (append-nil (map row_id given)) ∙ same)
  ids_can all lib secret (id ∷ ids) given u o lines v same is =
      elim is.7 [
        | inl later ↦
            ids_can all lib secret ids (given ++ row_with id later.0 ∷ []) is.1 o is.3 v
            (ap (λ (xs : List (List ℕ)). xs ++ ids) (map-append row_id given (row_with id later.0 ∷ [])) ∙ append_assoc (map row_id given) (id ∷ []) ids ∙ same) later.3
        | inr other ↦ elim other [
          | inl many ↦ subst (CanHave (what.GetFs all)) (sym many.3) refl
          | inr last ↦ subst (CanHave (what.GetFs all)) (sym last.1)
              (not_got (what.GetFs all) is.0.reply last.0 (replies (what.GetFs all) u lib (call_of secret (get_of id)) is.0 is.2 is.1 tt (id, refl) is.4))
        ]
      ]

  -- the head, or that the library is still in the state of a tag that was named
  looked_can : (tag : Tag) (lib : List ℕ) (secret : Option (List ℕ)) (u : V) (o : Outcome) (lines : List Operation) (v : V)
      → LooksSo rules u lib secret tag o lines v → CanHave (what.Head (Some tag)) o
  looked_can tag lib secret u o lines v (not_modified same is) = subst (CanHave (what.Head (Some tag))) (sym is) tt
  looked_can tag lib secret u o lines v (goes_on mid first more other asked is) =
      one_can (what.Head (Some tag)) act.Head mid lib secret o more v tt refl (λ e. absurd (false≢true e)) asked

  head_can : (tag : Option Tag) (lib : List ℕ) (secret : Option (List ℕ)) (u : V) (o : Outcome) (lines : List Operation) (v : V)
      → HeadSo rules u lib secret tag o lines v → CanHave (what.Head tag) o
  head_can None lib secret u o lines v is = one_can (what.Head None) act.Head u lib secret o lines v tt refl (λ e. absurd (false≢true e)) is
  head_can (Some tag) lib secret u o lines v is = looked_can tag lib secret u o lines v is

  library_can : (w : What) (lib : List ℕ) (secret : Option (List ℕ)) (u : V) (o : Outcome) (lines : List Operation) (v : V) → IsAsked w
      → ServedBy rules lib secret w u o lines v → CanHave w o
  library_can what.Version lib secret u o lines v asked is = subst (CanHave what.Version) (sym is.0) refl
  library_can (what.Head tag) lib secret u o lines v asked is = head_can tag lib secret u o lines v is
  library_can (what.Get key) lib secret u o lines v asked is = one_can (what.Get key) _ u lib secret o lines v asked refl (λ e. e) is
  library_can (what.PutFs rows) lib secret u o lines v asked is = rows_can rows lib secret rows u o lines v is
  library_can (what.GetFs ids) lib secret u o lines v asked is = ids_can ids lib secret ids [] u o lines v refl is
  library_can what.Collect lib secret u o lines v asked is = subst (CanHave what.Collect) (sym is.2) (ends_so u lib secret is.0 lines v is.1)
  library_can other lib secret u o lines v asked is = one_can other _ u lib secret o lines v asked refl (λ e. absurd (false≢true e)) is

  -- an order that names no library asks for the version
  named_can : (lib secret : Option (List ℕ)) (w : What) (u : V) (o : Outcome) (lines : List Operation) (v : V) → NamesLibrary lib w → IsAsked w
      → ServedAt rules lib secret w u o lines v → CanHave w o
  named_can None secret what.Version u o lines v names asked is = subst (CanHave what.Version) (sym is.0) refl
  named_can None secret (what.Check op) u o lines v names asked is = absurd names
  named_can None secret (what.Head tag) u o lines v names asked is = absurd names
  named_can None secret (what.Update commit) u o lines v names asked is = absurd names
  named_can None secret (what.Get key) u o lines v names asked is = absurd names
  named_can None secret (what.Put key bytes) u o lines v names asked is = absurd names
  named_can None secret (what.Missing kind ids) u o lines v names asked is = absurd names
  named_can None secret (what.PutFs rows) u o lines v names asked is = absurd names
  named_can None secret (what.GetFs ids) u o lines v names asked is = absurd names
  named_can None secret (what.Limit days) u o lines v names asked is = absurd names
  named_can None secret (what.Ids server client) u o lines v names asked is = absurd names
  named_can None secret what.Collect u o lines v names asked is = absurd names
  named_can (Some lib) secret w u o lines v names asked is = library_can w lib secret u o lines v asked is

  -- want of memory may come to every order
  memory_can : (w : What) (u : V) (o : Outcome) (lines : List Operation) (v : V) → NotAsked u (Refused refusal.NoMemory) o lines v → CanHave w o
  memory_can w u o lines v is = subst (CanHave w) (sym is.0) refl

  pub order_can : (order : Order) (u : V) (o : Outcome) (lines : List Operation) (v : V) → HasRequest order → ServesOrder rules u order o lines v → CanHave order.what o
  order_can order u o lines v has (inl is) = named_can order.lib order.secret order.what u o lines v has.library has.asked is
  order_can order u o lines v has (inr is) = memory_can order.what u o lines v is

-- ---- a library in memory

asks_one : (w : What) (a : Act) → Asks w a → asks_library w ≡ true
asks_one what.Version a is = absurd is
asks_one other a is = refl

module _ {S : Type 0} (contents : S → Option Contents) (may_give : S → Slot → Option (List ℕ) → Type 0) (texts faults : S → ℕ) where
  pub desk_replies : (w : What) (old : DepotView S) (lib : List ℕ) (call : Call) (moment : ℕ) (answer : Answer) (lines : List ⊤) (new : DepotView S)
      → IsAsked w → Asks w call.act → DeskAnswers contents may_give texts faults old lib call moment answer lines new → MayReply w answer.reply
  desk_replies w old lib call moment answer lines new asked of_it is = by (bytes_eq lib old.state.lib) refl
    where
      by : (b : Bool) → bytes_eq lib old.state.lib ≡ b → MayReply w answer.reply
      by true same =
          let replies = is.here ((bytes_eq-Decides lib old.state.lib).0 same) in
          may_reply old.store.index (may_give new.store.shelf) old.state w call answer.reply asked of_it replies.serves.may_come
      by false other =
          let none = is.elsewhere (λ same. true≢false (sym ((bytes_eq-Decides lib old.state.lib).1 same) ∙ other)) in
          subst (MayReply w) (sym none.0) (asks_one w call.act of_it)

-- ---- its collections

-- why a turn is refused
turn_refused : (index : Index) (gives : Slot → Option (List ℕ) → Type 0) (running : Option Running) (collection : ℕ) (why : Refusal)
    → MayRefuseTurn index gives running collection why → can_refuse what.Collect why ≡ true
turn_refused index gives None collection refusal.Spent is = refl
turn_refused index gives None collection why is = free_can what.Collect why refl is
turn_refused index gives (Some running) collection why is = tree_refused index gives what.Collect why refl refl is

module _ {S : Type 0} (contents : S → Option Contents) (may_give : S → Slot → Option (List ℕ) → Type 0) (texts faults : S → ℕ) (shows : ℕ → Type 0) where
  -- what its turns tell
  ends_can : (old : DepotView S) (ends : Collected) (new : DepotView S) → TakesTurns itself notes_nothing contents may_give texts faults shows old ends new
      → CanHave what.Collect (collected_outcome ends)
  ends_can old ends new takes = by takes.2
    where
      told : (e : Collected) → CanHave what.Collect (collected_outcome e) → ends ≡ e → CanHave what.Collect (collected_outcome ends)
      told e can is = subst (λ (x : Collected). CanHave what.Collect (collected_outcome x)) (sym is) can

      refused : (before : List Turn) (why : Refusal) (keys : List Key) → takes.0 ≡ before ++ turn.Refused why keys ∷ [] → can_refuse what.Collect why ≡ true
      refused before why keys is =
          let last = last_taken itself notes_nothing contents may_give texts faults shows old None before (turn.Refused why keys) new
          (subst (λ turns. TurnsOn itself notes_nothing contents may_give texts faults shows old None turns new) is takes.1) in
          turn_refused last.0.store.index (may_give last.1.store.shelf) last.0.running last.0.state.collection why last.4.may_come.may

      at_last : (before : List Turn) (last : Turn) → takes.0 ≡ before ++ last ∷ [] → EndsAs last (told_removed takes.0) ends → CanHave what.Collect (collected_outcome ends)
      at_last before (turn.Ended number) is tells = told (collected.Done number (told_removed takes.0)) refl tells
      at_last before (turn.Refused why keys) is tells = told (collected.Refused why) (refused before why keys is) tells
      at_last before other is tells = absurd tells

      by : TellsTurns takes.0 ends → CanHave what.Collect (collected_outcome ends)
      by (ended before last is goes tells) = at_last before last is tells
      by (endless goes long is) = told (collected.Refused refusal.NoMemory) refl is

  pub desk_collects : (old : DepotView S) (lib : List ℕ) (secret : Option (List ℕ)) (ends : Collected) (lines : List ⊤) (new : DepotView S)
      → DeskCollects contents may_give texts faults shows old lib secret ends lines new → CanHave what.Collect (collected_outcome ends)
  desk_collects old lib secret ends lines new is = by (bytes_eq lib old.state.lib) (permits_collection (token_of old.state.tokens secret)) refl refl
    where
      told : (why : Refusal) → can_refuse what.Collect why ≡ true → ends ≡ collected.Refused why → CanHave what.Collect (collected_outcome ends)
      told why can same = subst (λ (e : Collected). CanHave what.Collect (collected_outcome e)) (sym same) can

      by : (b d : Bool) → bytes_eq lib old.state.lib ≡ b → permits_collection (token_of old.state.tokens secret) ≡ d → CanHave what.Collect (collected_outcome ends)
      by true true same may = ends_can old ends new (is.collects.here ((bytes_eq-Decides lib old.state.lib).0 same) may)
      by true false same may = told refusal.Denied refl (is.collects.denied ((bytes_eq-Decides lib old.state.lib).0 same) may).0
      by false d other may =
          told refusal.NoLibrary refl (is.collects.elsewhere (λ same. true≢false (sym ((bytes_eq-Decides lib old.state.lib).1 same) ∙ other))).0
