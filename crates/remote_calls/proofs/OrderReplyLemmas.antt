-- Each reply that a library may give to a call of an order is one that the order can have. The key lemma is may_reply.
use Rattle.std.proofs.Common.{◌≡◌, ℕ, ℤ, ◌++◌, not, nat_lt, Bool, true, false, if◌then◌else◌, List, [], ◌∷◌, Option, None, Some, Result, Ok, Err, refl, sym, ap, subst, option_map}
use Rattle.std.specs.Prelude.{⊤, filter, is_some}
use Rattle.sha1.specs.Sha1.{sha1}
use Rattle.std.specs.Bool.{then_some}
use Rattle.std.specs.FinMap as map
use Rattle.std.specs.List.{list_all}
use Rattle.std.specs.Str.{bytes_eq}
use Rattle.std.proofs.lemmas.Bool.{and_from, and_parts, or_left, or_right}
use Rattle.std.proofs.lemmas.Slice.Eq.{bytes_eq-Decides}
use Rattle.ids.proofs.BasicLemmas.{same_from_some}
use Rattle.ids.specs.declared.key.Key.{Key}
use Rattle.ids.specs.declared.key.Kind.{Kind}
use Rattle.ids.specs.declared.key.Kind.TheVariants as kind
use Rattle.commit_objects.specs.Commit.{commit_of}
use Rattle.commit_objects.specs.declared.commit.Commit.{Commit}
use Rattle.commit_objects.specs.declared.fault.BadCommit.{BadCommit}
use Rattle.fs_objects.specs.FsObject.{fs_of}
use Rattle.fs_objects.specs.declared.fault.BadFs.{BadFs}
use Rattle.fs_objects.specs.declared.fs_object.FsObject.{FsObject}
use Rattle.library_state.specs.declared.call.Act.{Act}
use Rattle.library_state.specs.declared.call.Act.TheVariants as act
use Rattle.library_state.specs.declared.call.Call.{Call}
use Rattle.library_state.specs.declared.refusal.Refusal.{Refusal}
use Rattle.library_state.specs.declared.refusal.Refusal.TheVariants as refusal
use Rattle.library_state.specs.declared.reply.Reply.{Reply}
use Rattle.library_state.specs.declared.reply.Reply.TheVariants as reply
use Rattle.library_state.specs.declared.state.LibState.{LibState}
use Rattle.library_state.specs.declared.token.Token.{Token}
use Rattle.library_rules.specs.Calls.{act_decided, first_refusal, ids_decided, ids_of, keys_of, may, not_commit, not_fs, put_decided, put_refusals, token_decided, token_of, update_decided}
use Rattle.library_rules.specs.LibraryState.{head_of, is_day_count, is_kept}
use Rattle.object_graph.specs.Objects.{commit_key, is_nil, same_id}
use Rattle.object_graph.specs.Traversal.{distinct_from, is_in}
use Rattle.object_store.specs.StoreView.{Index}
use Rattle.object_store.specs.declared.shelf.Slot.{Slot}
use Rattle.depot.specs.Answering.{MayAnswer, MayDo, MayTell, decided, unknown}
use Rattle.http_front.specs.declared.order.What.{What}
use Rattle.http_front.specs.declared.order.What.TheVariants as what
use Rattle.http_client.specs.OrderOutcome.{are_among, asks_library, can_refuse, is_among, is_commit, stores, stores_commit, stores_fs}
use Rattle.http_front.specs.Route.{IsPathKind}
use Rattle.http_client.specs.RequestText.{IsAsked}
use Rattle.worker_server.specs.Calls.{get_of, put_of}
use Rattle.remote_calls.specs.OrderReply.{Asks, MayReply}
use Rattle.remote_calls.proofs.MayRefuseLemmas.{get_can, list_can, put_can, said_can, update_can}

-- ---- ids that are absent were asked for

-- each of the keys' ids is among these
abbrev AmongKeys : List (List ℕ) → List Key → Type 0
AmongKeys asked keys = list_all (is_among asked) (ids_of keys) ≡ true

more_among : (id : List ℕ) (asked xs : List (List ℕ)) → list_all (is_among asked) xs ≡ true → list_all (is_among (id ∷ asked)) xs ≡ true
more_among id asked [] is = refl
more_among id asked (x ∷ xs) is =
    let parts = and_parts (is_among asked x) (list_all (is_among asked) xs) is in
    and_from (is_among (id ∷ asked) x) (list_all (is_among (id ∷ asked)) xs) (or_right (bytes_eq id x) (is_among asked x) parts.0) (more_among id asked xs parts.1)

self_among : (ids : List (List ℕ)) → list_all (is_among ids) ids ≡ true
self_among [] = refl
self_among (id ∷ ids) =
    and_from (is_among (id ∷ ids) id) (list_all (is_among (id ∷ ids)) ids) (or_left (bytes_eq id id) (is_among ids id) ((bytes_eq-Decides id id).1 refl))
    (more_among id ids ids (self_among ids))

keys_among : (k : Kind) (asked ids : List (List ℕ)) → list_all (is_among asked) ids ≡ true → AmongKeys asked (keys_of k ids)
keys_among k asked [] is = refl
keys_among k asked (id ∷ ids) is =
    let parts = and_parts (is_among asked id) (list_all (is_among asked) ids) is in
    by (is_nil id) parts.0 (keys_among k asked ids parts.1)
  where
    by : (b : Bool) → is_among asked id ≡ true → AmongKeys asked (keys_of k ids)
        → AmongKeys asked (if b then keys_of k ids else record { kind = k; id = id } ∷ keys_of k ids)
    by true first later = later
    by false first later = and_from (is_among asked id) (list_all (is_among asked) (ids_of (keys_of k ids))) first later

filter_among : (asked : List (List ℕ)) (p : Key → Bool) (keys : List Key) → AmongKeys asked keys → AmongKeys asked (filter p keys)
filter_among asked p [] is = refl
filter_among asked p (key ∷ keys) is =
    let parts = and_parts (is_among asked key.id) (list_all (is_among asked) (ids_of keys)) is in
    by (p key) parts.0 (filter_among asked p keys parts.1)
  where
    by : (b : Bool) → is_among asked key.id ≡ true → AmongKeys asked (filter p keys) → AmongKeys asked (if b then key ∷ filter p keys else filter p keys)
    by true first later = and_from (is_among asked key.id) (list_all (is_among asked) (ids_of (filter p keys))) first later
    by false first later = later

distinct_among : (asked : List (List ℕ)) (met keys : List Key) → AmongKeys asked keys → AmongKeys asked (distinct_from met keys)
distinct_among asked met [] is = refl
distinct_among asked met (key ∷ keys) is =
    let parts = and_parts (is_among asked key.id) (list_all (is_among asked) (ids_of keys)) is in
    by (is_in met key) parts.0 (distinct_among asked met keys parts.1) (distinct_among asked (key ∷ met) keys parts.1)
  where
    by : (b : Bool) → is_among asked key.id ≡ true → AmongKeys asked (distinct_from met keys) → AmongKeys asked (distinct_from (key ∷ met) keys)
        → AmongKeys asked (if b then distinct_from met keys else key ∷ distinct_from (key ∷ met) keys)
    by true first skipped later = skipped
    by false first skipped later = and_from (is_among asked key.id) (list_all (is_among asked) (ids_of (distinct_from (key ∷ met) keys))) first later

unknown_among : (index : Index) (k : Kind) (ids : List (List ℕ)) → are_among ids (unknown index k ids) ≡ true
unknown_among index k ids =
    distinct_among ids [] (filter (λ key. not (is_some (map.get index key))) (keys_of k ids))
    (filter_among ids (λ key. not (is_some (map.get index key))) (keys_of k ids) (keys_among k ids ids (self_among ids)))

tell_can : (index : Index) (k : Kind) (ids : List (List ℕ)) (r : Reply) → MayTell index k ids r → MayReply (what.Missing k ids) r
tell_can index k ids (reply.Absent found) is = subst (λ (x : List (List ℕ)). are_among ids x ≡ true) (sym is) (unknown_among index k ids)
tell_can index k ids (reply.Refused why) is = subst (λ (y : Refusal). can_refuse (what.Missing k ids) y ≡ true) (sym is) refl
tell_can index k ids other is = absurd is

-- ---- what the state decides

-- each refusal of a list that comes at all can be had
abbrev AllCan : What → List (Option Refusal) → Type 0
AllCan w [] = ⊤
AllCan w (None ∷ others) = AllCan w others
AllCan w (Some why ∷ others) = (can_refuse w why ≡ true) × AllCan w others

some_can : (w : What) (b : Bool) (why : Refusal) (others : List (Option Refusal)) → can_refuse w why ≡ true → AllCan w others → AllCan w (then_some b why ∷ others)
some_can w true why others can later = (can, later)
some_can w false why others can later = later

first_can : (w : What) (whys : List (Option Refusal)) (why : Refusal) → AllCan w whys → first_refusal whys ≡ Some why → can_refuse w why ≡ true
first_can w [] why all is = absurd (cc)
first_can w (None ∷ others) why all is = first_can w others why all is
first_can w (Some first ∷ others) why all is = subst (λ (x : Refusal). can_refuse w x ≡ true) (same_from_some first why is) all.0

refused_can : (w : What) (found : Option Refusal) (r : Reply) → ((why : Refusal) → found ≡ Some why → can_refuse w why ≡ true)
    → option_map reply.Refused found ≡ Some r → MayReply w r
refused_can w None r can is = absurd (cc)
refused_can w (Some why) r can is = subst (MayReply w) (same_from_some (reply.Refused why) r is) (can why refl)

-- which refusals a put may have by the kind of its object
record PutKind (w : What) (k : Kind) : Type 0 where
  stored : stores w ≡ true
  fs : k ≡ kind.Fs → stores_fs w ≡ true
  commit : k ≡ kind.Commit → stores_commit w ≡ true

last_can : (w : What) (key : Key) → stores w ≡ true → AllCan w (then_some (is_nil key.id) (refusal.Taken key.id) ∷ [])
last_can w key stored = some_can w (is_nil key.id) (refusal.Taken key.id) [] (or_left (stores w) _ stored) tt

commit_can : (w : What) (lib : List ℕ) (key : Key) (read : Result Commit BadCommit) → stores w ≡ true → stores_commit w ≡ true
    → AllCan w (not_commit lib key.id read ++ then_some (is_nil key.id) (refusal.Taken key.id) ∷ [])
commit_can w lib key (Ok commit) stored commits =
    some_can w (not (same_id commit.id key.id)) (refusal.Wrong commit.id) _ stored
    (some_can w (not (same_id commit.lib lib)) (refusal.OtherLibrary commit.lib) _ commits (last_can w key stored))
commit_can w lib key (Err bad) stored commits = (commits, last_can w key stored)

fs_can : (w : What) (key : Key) (read : Result FsObject BadFs) → stores w ≡ true → stores_fs w ≡ true
    → AllCan w (not_fs read ∷ then_some (is_nil key.id) (refusal.Taken key.id) ∷ [])
fs_can w key (Ok object) stored fs = last_can w key stored
fs_can w key (Err bad) stored fs = (fs, last_can w key stored)

puts_can : (w : What) (lib : List ℕ) (k : Kind) (key : Key) (bytes : List ℕ) → PutKind w k
    → AllCan w (put_refusals lib k key bytes ++ then_some (is_nil key.id) (refusal.Taken key.id) ∷ [])
puts_can w lib kind.Block key bytes is =
    some_can w (not (same_id (sha1 bytes) key.id)) (refusal.Wrong (sha1 bytes)) (then_some (is_nil key.id) (refusal.Taken key.id) ∷ []) is.stored (last_can w key is.stored)
puts_can w lib kind.Fs key bytes is =
    some_can w (not (same_id (sha1 bytes) key.id)) (refusal.Wrong (sha1 bytes)) (not_fs (fs_of bytes) ∷ then_some (is_nil key.id) (refusal.Taken key.id) ∷ []) is.stored (fs_can w key (fs_of bytes) is.stored (is.fs refl))
puts_can w lib kind.Commit key bytes is = commit_can w lib key (commit_of bytes) is.stored (is.commit refl)

put_said : (w : What) (lib : List ℕ) (key : Key) (bytes : List ℕ) (said : Reply) → PutKind w key.kind → put_decided lib key bytes ≡ Some said → MayReply w said
put_said w lib key bytes said is e =
    refused_can w _ said (λ why found. first_can w (put_refusals lib key.kind key bytes ++ then_some (is_nil key.id) (refusal.Taken key.id) ∷ []) why (puts_can w lib key.kind key bytes is) found) e

update_said : (state : LibState) (token : Token) (commit : List ℕ) (said : Reply) → update_decided state token commit ≡ Some said → MayReply (what.Update commit) said
update_said state token commit said e = by (is_kept state.kept commit) (nat_lt token.last state.collection) e
  where
    later : (b : Bool) (last now : ℕ) → (if b then Some (reply.Refused (refusal.Stale last now)) else None) ≡ Some said → MayReply (what.Update commit) said
    later true last now e = subst (MayReply (what.Update commit)) (same_from_some (reply.Refused (refusal.Stale last now)) said e) refl
    later false last now e = absurd (cc)

    by : (b c : Bool) → (if b then Some (reply.Updated (head_of state.kept)) else (if c then Some (reply.Refused (refusal.Stale token.last state.collection)) else None)) ≡ Some said
        → MayReply (what.Update commit) said
    by true c e = subst (MayReply (what.Update commit)) (same_from_some (reply.Updated (head_of state.kept)) said e) refl
    by false c e = later c token.last state.collection e

limit_said : (state : LibState) (token : Token) (days : ℤ) (said : Reply) → act_decided state token (act.Limit days) ≡ Some said → MayReply (what.Limit days) said
limit_said state token days said e = by (is_day_count days) e
  where
    by : (b : Bool) → Some (if b then reply.Limited else reply.Refused (refusal.BadDays days)) ≡ Some said → MayReply (what.Limit days) said
    by true e = subst (MayReply (what.Limit days)) (same_from_some reply.Limited said e) refl
    by false e = subst (MayReply (what.Limit days)) (same_from_some (reply.Refused (refusal.BadDays days)) said e) refl

ids_said : (state : LibState) (server : List ℕ) (client : Option (List ℕ)) (said : Reply) → ids_decided state.kept server ≡ Some said → MayReply (what.Ids server client) said
ids_said state server client said e = by (is_kept state.kept server) e
  where
    by : (b : Bool) → (if b then None else Some (reply.Refused (refusal.NoObject (commit_key server)))) ≡ Some said → MayReply (what.Ids server client) said
    by true e = absurd (cc)
    by false e = subst (MayReply (what.Ids server client)) (same_from_some (reply.Refused (refusal.NoObject (commit_key server))) said e) refl

-- the path of a put names a commit or a block
put_kind : (key : Key) (bytes : List ℕ) → IsAsked (what.Put key bytes) → PutKind (what.Put key bytes) key.kind
put_kind key bytes asked = record { stored = refl; fs = λ e. absurd (not_fs_asked key.kind asked e); commit = λ e. ap is_commit e }
  where
    not_fs_asked : (k : Kind) → IsPathKind k → k ≡ kind.Fs → ⊥
    not_fs_asked kind.Commit path e = cc
    not_fs_asked kind.Fs path e = path
    not_fs_asked kind.Block path e = cc

-- ---- a call of an order

module _ (index : Index) (gives : Slot → Option (List ℕ) → Type 0) (state : LibState) where
  -- what the state decides for one whose right is enough, or what the objects decide
  decided_can : (w : What) (a : Act) (r : Reply) (said : Option Reply) → asks_library w ≡ true → ((it : Reply) → said ≡ Some it → MayReply w it)
      → (said ≡ None → MayDo index gives a r → MayReply w r) → MayAnswer index gives a said r → MayReply w r
  decided_can w a r None asks says does is = does refl is
  decided_can w a r (Some it) asks says does is = said_can w r it asks (says it refl) is

  -- the same, whoever asks
  token_can : (w : What) (a : Act) (r : Reply) (token : Option Token) → asks_library w ≡ true
      → ((t : Token) (it : Reply) → act_decided state t a ≡ Some it → MayReply w it) → ((t : Token) → act_decided state t a ≡ None → MayDo index gives a r → MayReply w r)
      → MayAnswer index gives a (token_decided state a token) r → MayReply w r
  token_can w a r None asks says does is = said_can w r (reply.Refused refusal.Denied) asks asks is
  token_can w a r (Some token) asks says does is = by (may token a) is
    where
      by : (b : Bool) → MayAnswer index gives a (if b then act_decided state token a else Some (reply.Refused refusal.Denied)) r → MayReply w r
      by true is = decided_can w a r (act_decided state token a) asks (says token) (does token) is
      by false is = said_can w r (reply.Refused refusal.Denied) asks asks is

  reply_can : (w : What) (a : Act) (token : Option Token) (r : Reply) → IsAsked w → Asks w a → MayAnswer index gives a (token_decided state a token) r → MayReply w r
  reply_can what.Version a token r asked asks is = absurd asks
  reply_can (what.Check o) a token r asked asks is =
      token_can (what.Check o) (act.Check o) r token refl (λ t it e. subst (MayReply (what.Check o)) (same_from_some reply.Checked it e) refl) (λ t e m. absurd m)
      (subst (λ (x : Act). MayAnswer index gives x (token_decided state x token) r) asks is)
  reply_can (what.Head tag) a token r asked asks is =
      token_can (what.Head tag) act.Head r token refl (λ t it e. subst (MayReply (what.Head tag)) (same_from_some (reply.HeadIs (head_of state.kept)) it e) refl) (λ t e m. absurd m)
      (subst (λ (x : Act). MayAnswer index gives x (token_decided state x token) r) asks is)
  reply_can (what.Update commit) a token r asked asks is =
      token_can (what.Update commit) (act.Update commit) r token refl (λ t it e. update_said state t commit it e) (λ t e m. update_can index gives commit r m)
      (subst (λ (x : Act). MayAnswer index gives x (token_decided state x token) r) asks is)
  reply_can (what.Get key) a token r asked asks is =
      token_can (what.Get key) (act.Get key) r token refl (λ t it e. absurd (cc)) (λ t e m. get_can index gives (what.Get key) key r refl refl refl m)
      (subst (λ (x : Act). MayAnswer index gives x (token_decided state x token) r) asks is)
  reply_can (what.Put key bytes) a token r asked asks is =
      token_can (what.Put key bytes) (act.Put key bytes) r token refl (λ t it e. put_said (what.Put key bytes) state.lib key bytes it (put_kind key bytes asked) e)
      (λ t e m. put_can index gives (what.Put key bytes) key bytes r refl refl m)
      (subst (λ (x : Act). MayAnswer index gives x (token_decided state x token) r) asks is)
  reply_can (what.Missing k ids) a token r asked asks is =
      token_can (what.Missing k ids) (act.Missing k ids) r token refl (λ t it e. absurd (cc)) (λ t e m. tell_can index k ids r m)
      (subst (λ (x : Act). MayAnswer index gives x (token_decided state x token) r) asks is)
  reply_can (what.PutFs rows) a token r asked asks is =
      let row = asks.0 in
      token_can (what.PutFs rows) (put_of row) r token refl
      (λ t it e. put_said (what.PutFs rows) state.lib (record { kind = kind.Fs; id = row.id }) row.bytes it (record { stored = refl; fs = λ _. refl; commit = λ other. absurd (cc) }) e)
      (λ t e m. put_can index gives (what.PutFs rows) (record { kind = kind.Fs; id = row.id }) row.bytes r refl refl m)
      (subst (λ (x : Act). MayAnswer index gives x (token_decided state x token) r) asks.1 is)
  reply_can (what.GetFs ids) a token r asked asks is =
      let id = asks.0 in
      token_can (what.GetFs ids) (get_of id) r token refl (λ t it e. absurd (cc))
      (λ t e m. get_can index gives (what.GetFs ids) (record { kind = kind.Fs; id = id }) r refl refl refl m)
      (subst (λ (x : Act). MayAnswer index gives x (token_decided state x token) r) asks.1 is)
  reply_can (what.Limit days) a token r asked asks is =
      token_can (what.Limit days) (act.Limit days) r token refl (λ t it e. limit_said state t days it e) (λ t e m. absurd m)
      (subst (λ (x : Act). MayAnswer index gives x (token_decided state x token) r) asks is)
  reply_can what.Collect a token r asked asks is = absurd asks
  reply_can (what.Ids server client) a token r asked asks is =
      token_can (what.Ids server client) (act.Ids server client) r token refl (λ t it e. ids_said state server client it e) (λ t e m. list_can index gives server client r m)
      (subst (λ (x : Act). MayAnswer index gives x (token_decided state x token) r) asks is)

  pub may_reply : (w : What) (call : Call) (r : Reply) → IsAsked w → Asks w call.act → MayAnswer index gives call.act (decided state call) r → MayReply w r
  may_reply w call r asked asks is = reply_can w call.act (token_of state.tokens call.secret) r asked asks is
