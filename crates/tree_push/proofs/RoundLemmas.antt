-- Orders of an upload in the words of a sync: what they are, that each went well, what they put and when. The key lemmas are
-- ordered_sends, ordered_stops, asks_all, uploads_all, made_first, rounds_first, last_told, caused_by, lacked_sends,
-- lacked_stops, lacked_then and fresh_append.
use Rattle.std.proofs.Common.{◌≡◌, ◌⊎◌, inl, inr, ℕ, suc, Bool, true, false, if◌then◌else◌, All, List, [], ◌∷◌, ◌++◌, length, Option, None, Some, Ok, refl, sym, ap, ◌∙◌, subst, append_assoc, true≢false}
use Rattle.std.proofs.lemmas.Bool.{or_left}
use Rattle.std.proofs.lemmas.List.{append-nil}
use Rattle.std.proofs.lemmas.List.Elements.{All-cons, All-nil}
use Rattle.std.specs.List.{AllByRecursion, cons_option, filter_map}
use Rattle.std.specs.Option.{option_or}
use Rattle.sha1.specs.Sha1.{sha1}
use Rattle.ids.specs.declared.key.Key.{Key}
use Rattle.ids.specs.declared.key.Kind.{Kind}
use Rattle.ids.specs.declared.key.Kind.TheVariants as kind
use Rattle.library_state.specs.declared.refusal.Refusal.{Refusal}
use Rattle.library_state.specs.declared.refusal.Refusal.TheVariants as refusal
use Rattle.library_state.specs.declared.reply.Reply.{Reply}
use Rattle.library_state.specs.declared.reply.Reply.TheVariants as reply
use Rattle.object_graph.specs.Traversal.{is_in}
use Rattle.object_graph.proofs.KeyLemmas.{in_append}
use Rattle.http_front.specs.declared.order.Order.{Order}
use Rattle.http_front.specs.declared.order.What.{What}
use Rattle.http_front.specs.declared.order.What.TheVariants as what
use Rattle.http_front.specs.declared.outcome.Outcome.TheVariants as outcome
use Rattle.remote_calls.specs.Sends.{Ending, Sent}
use Rattle.sync_rules.specs.Causes.{CausedBy, GoesWell, IsRefusedBy, WentWell, ends_sync, goes_on, is_of_order, is_stale, stale_count}
use Rattle.sync_rules.specs.Named.{IsNamedSo, asked_after, begins_round, got_by, is_block, is_upload, keys_lacked, put_by, round_after}
use Rattle.sync_rules.specs.Orders.{AsksFew, GoesInRounds, IsLacked, IsSyncOrder, LackedAs, MadeSo, PutsAs, PutsAt, PutsLacked, PutsSo, StandsAtPut, is_sync_what, may_send, stage_after}
use Rattle.sync_rules.specs.Orders.Stage.{Uploads}
use Rattle.sync_rules.specs.declared.fault.SyncFault.{SyncFault}
use Rattle.sync_rules.specs.declared.fault.SyncFault.TheVariants as fault
use Rattle.tree_push.specs.Asking.{EndsBy, IsSend, IsUploadWhat, Replies, Stops, is_own, is_refused, order_for, AsksAmong, PutsAmong}
use Rattle.tree_push.specs.Pushing.{IsPushFault}
use Rattle.tree_push.specs.declared.asking.Library.{Library}
use Rattle.tree_push.proofs.NotedLemmas.{lacked_append}
use Rattle.tree_push.proofs.TraceLemmas.{all_as}

-- ---- which orders

pub record IsOrdered (library : Library) (sent : Sent) : Type 0 where
  pub order : sent.0 ≡ order_for library sent.0.what
  pub uploads : IsUploadWhat sent.0.what

module _ (library : Library) where
  pub ordered_sends : (may : What → Type 0) (more : List Sent) → AllByRecursion (IsSend library may) more → AllByRecursion (IsOrdered library) more
  ordered_sends may more went = all_as (IsSend library may) (IsOrdered library) (λ sent is. record { order = is.order; uploads = is.uploads }) more went

  pub ordered_stops : (may : What → Type 0) (f : SyncFault) (more : List Sent) → Stops library may f more → AllByRecursion (IsOrdered library) more
  ordered_stops may f [] own = tt
  ordered_stops may f (sent ∷ more) (inl on) = (record { order = on.0.order; uploads = on.0.uploads }, ordered_stops may f more on.1)
  ordered_stops may f (sent ∷ more) (inr ends) =
      (record { order = ends.0.order; uploads = ends.0.uploads }, subst (λ (rest : List Sent). AllByRecursion (IsOrdered library) rest) (sym ends.1) tt)

sync_what : (asked : What) → IsUploadWhat asked → (is_sync_what asked ≡ true) × AsksFew asked
sync_what (what.Missing kind ids) up = (refl, up.1)
sync_what (what.Put key bytes) up = (refl, tt)
sync_what (what.PutFs rows) up = (refl, up.1)
sync_what _ up = absurd up

pub upload_what : (asked : What) → IsUploadWhat asked → is_upload asked ≡ true
upload_what (what.Missing kind ids) up = refl
upload_what (what.Put key bytes) up = refl
upload_what (what.PutFs rows) up = refl
upload_what _ up = absurd up

pub no_update : (asked : What) (id : List ℕ) → IsUploadWhat asked → asked ≡ what.Update id → ⊥
no_update asked id up is = subst (λ (w : What). IsUploadWhat w) is up

-- an order to the library is one of a sync
pub asks_of : (library : Library) (sent : Sent) → sent.0 ≡ order_for library sent.0.what → (is_sync_what sent.0.what ≡ true) × AsksFew sent.0.what → IsSyncOrder library.lib library.secret sent
asks_of library sent is so = (ap (λ (o : Order). o.lib) is, ap (λ (o : Order). o.secret) is, so.0, so.1)

pub asks_all : (library : Library) (more : List Sent) → AllByRecursion (IsOrdered library) more → All (IsSyncOrder library.lib library.secret) more
asks_all library [] are = All-nil (IsSyncOrder library.lib library.secret)
asks_all library (sent ∷ more) are =
    All-cons (IsSyncOrder library.lib library.secret) sent more (asks_of library sent are.0.order (sync_what sent.0.what are.0.uploads)) (asks_all library more are.1)

pub uploads_all : (library : Library) (more : List Sent) → AllByRecursion (IsOrdered library) more → All (λ (sent : Sent). is_upload sent.0.what ≡ true) more
uploads_all library [] are = All-nil (λ (sent : Sent). is_upload sent.0.what ≡ true)
uploads_all library (sent ∷ more) are =
    All-cons (λ (s : Sent). is_upload s.0.what ≡ true) sent more (upload_what sent.0.what are.0.uploads) (uploads_all library more are.1)

-- ---- what is made

stands_quiet : (lib user : List ℕ) (shows : ℕ → Type 0) (parent : Option (List ℕ)) (before asked : What) → IsUploadWhat asked → StandsAtPut lib user shows parent before asked
stands_quiet lib user shows parent (what.Put key bytes) (what.Update id) up = absurd up
stands_quiet lib user shows parent (what.Put key bytes) _ up = tt
stands_quiet lib user shows parent _ (what.Update id) up = absurd up
stands_quiet lib user shows parent _ _ up = tt

-- a commit is put behind anything
pub stands_put : (lib user : List ℕ) (shows : ℕ → Type 0) (parent : Option (List ℕ)) (before : What) (key : Key) (bytes : List ℕ) → StandsAtPut lib user shows parent before (what.Put key bytes)
stands_put lib user shows parent (what.Put other text) key bytes = tt
stands_put lib user shows parent _ key bytes = tt

puts_block : (lib user : List ℕ) (shows : ℕ → Type 0) (parent : Option (List ℕ)) (k : Kind) (id bytes : List ℕ) → is_block k ≡ true
    → sha1 bytes ≡ id → PutsAs lib user shows parent k id bytes
puts_block lib user shows parent kind.Commit id bytes block named = absurd (true≢false (sym block))
puts_block lib user shows parent kind.Fs id bytes block named = named
puts_block lib user shows parent kind.Block id bytes block named = named

puts_quiet : (lib user : List ℕ) (shows : ℕ → Type 0) (parent : Option (List ℕ)) (asked : What) → IsUploadWhat asked → PutsSo lib user shows parent asked
puts_quiet lib user shows parent (what.Put key bytes) up = puts_block lib user shows parent key.kind key.id bytes up.0 up.1
puts_quiet lib user shows parent (what.PutFs rows) up = up.0
puts_quiet lib user shows parent (what.Missing kind ids) up = tt
puts_quiet lib user shows parent _ up = absurd up

asked_stays : (asked : What) (ending : Ending) (before : Option (List ℕ)) → IsUploadWhat asked → asked_after asked ending before ≡ before
asked_stays (what.Missing kind ids) ending before up = refl
asked_stays (what.Put key bytes) ending before up = refl
asked_stays (what.PutFs rows) ending before up = refl
asked_stays _ ending before up = absurd up

module _ (lib user : List ℕ) (shows : ℕ → Type 0) (base asked : Option (List ℕ)) where
  -- what is made behind orders of an upload is made whatever came before them
  pub made_first : (library : Library) (first later : List Sent) → AllByRecursion (IsOrdered library) first → ((before : What) → MadeSo lib user shows base asked before later)
      → (before : What) → MadeSo lib user shows base asked before (first ++ later)
  made_first library [] later are made before = made before
  made_first library (sent ∷ first) later are made before = (
    stands_quiet lib user shows (option_or base asked) before sent.0.what are.0.uploads,
    puts_quiet lib user shows (option_or base asked) sent.0.what are.0.uploads,
    subst (λ (a : Option (List ℕ)). MadeSo lib user shows base a sent.0.what (first ++ later)) (sym (asked_stays sent.0.what sent.1 asked are.0.uploads))
        (made_first library first later are.1 made sent.0.what),
  )

-- ---- rounds

stage_stays : (asked : What) (ending : Ending) → IsUploadWhat asked → stage_after asked ending Uploads ≡ Uploads
stage_stays (what.Missing kind ids) ending up = refl
stage_stays (what.Put key bytes) ending up = refl
stage_stays (what.PutFs rows) ending up = refl
stage_stays _ ending up = absurd up

may_upload : (asked : What) → IsUploadWhat asked → may_send Uploads asked ≡ true
may_upload (what.Missing kind ids) up = refl
may_upload (what.Put key bytes) up = refl
may_upload (what.PutFs rows) up = refl
may_upload _ up = absurd up

pub rounds_first : (library : Library) (first later : List Sent) → AllByRecursion (IsOrdered library) first → GoesInRounds Uploads later → GoesInRounds Uploads (first ++ later)
rounds_first library [] later are goes = goes
rounds_first library (sent ∷ first) later are goes = (
  may_upload sent.0.what are.0.uploads,
  subst (λ stage. GoesInRounds stage (first ++ later)) (sym (stage_stays sent.0.what sent.1 are.0.uploads)) (rounds_first library first later are.1 goes),
)

-- ---- each went well

gets_none : (asked : What) (ending : Ending) → is_upload asked ≡ true → All IsNamedSo (got_by asked ending)
gets_none (what.Get key) ending up = absurd (true≢false (sym up))
gets_none (what.GetFs ids) ending up = absurd (true≢false (sym up))
gets_none _ ending up = All-nil IsNamedSo

replied_on : (asked : What) (told : Reply) (ending : Ending) → Replies ending told → is_refused told ≡ false → goes_on asked ending ≡ true
replied_on asked told (Ok (outcome.Plain (reply.Refused why) tag)) replied well = absurd (true≢false (sym (ap is_refused replied) ∙ well))
replied_on asked told (Ok (outcome.Plain _ tag)) replied well = refl
replied_on asked told (Ok (outcome.Refused why)) replied well = absurd (true≢false (sym (ap is_refused replied) ∙ well))
replied_on asked told _ replied well = absurd replied

-- a reply that is no refusal
pub replied_well : (asked : What) (order : Order) (told : Reply) (ending : Ending) → order.what ≡ asked → is_upload asked ≡ true → Replies ending told → is_refused told ≡ false
    → WentWell (order, ending)
replied_well asked order told ending is up replied well = (
  replied_on order.what told ending replied well,
  gets_none order.what ending (ap is_upload is ∙ up),
)

pub replied_fresh : (told : Reply) (ending : Ending) → Replies ending told → is_refused told ≡ false → is_stale ending ≡ false
replied_fresh told (Ok (outcome.Plain (reply.Refused why) tag)) replied well = absurd (true≢false (sym (ap is_refused replied) ∙ well))
replied_fresh told (Ok (outcome.Refused why)) replied well = absurd (true≢false (sym (ap is_refused replied) ∙ well))
replied_fresh told _ replied well = refl

module _ (library : Library) (may : What → Type 0) where
  pub send_well : (sent : Sent) → IsSend library may sent → WentWell sent
  send_well sent is = replied_well sent.0.what sent.0 is.told sent.1 refl (upload_what sent.0.what is.uploads) is.replied is.well

  pub sends_well : (more : List Sent) → AllByRecursion (IsSend library may) more → All WentWell more
  sends_well [] went = All-nil WentWell
  sends_well (sent ∷ more) went = All-cons WentWell sent more (send_well sent went.0) (sends_well more went.1)

  pub stops_well : (f : SyncFault) (more : List Sent) → Stops library may f more → GoesWell more
  stops_well f [] own = tt
  stops_well f (sent ∷ []) stops = tt
  stops_well f (sent ∷ next ∷ more) (inl on) = (send_well sent on.0, stops_well f (next ∷ more) on.1)
  stops_well f (sent ∷ next ∷ more) (inr ends) = absurd (some_left ends.1)
    where
      some_left : next ∷ more ≡ [] → ⊥
      some_left e = cc

-- ---- none came too late

pub fresh_more : (sent : Sent) (more : List Sent) → is_stale sent.1 ≡ false → stale_count more ≡ 0 → stale_count (sent ∷ more) ≡ 0
fresh_more sent more fresh none =
    ap (λ (b : Bool). length (cons_option (if b then Some sent else None) (filter_map (λ (s : Sent). if is_stale s.1 then Some s else None) more))) fresh ∙ none

pub replies_refused : (ending : Ending) (why : Refusal) → Replies ending (reply.Refused why) → IsRefusedBy ending why
replies_refused (Ok (outcome.Plain (reply.Refused other) tag)) why is = one is
  where
    one : reply.Refused why ≡ reply.Refused other → other ≡ why
    one e = cc
replies_refused (Ok (outcome.Refused other)) why is = one is
  where
    one : reply.Refused why ≡ reply.Refused other → other ≡ why
    one e = cc
replies_refused (Ok (outcome.Plain told tag)) why is = absurd (cc)
replies_refused _ why is = absurd is

refused_fresh : (asked : What) (why : Refusal) (ending : Ending) → IsRefusedBy ending why → ends_sync asked why ≡ true → is_stale ending ≡ false
refused_fresh asked why (Ok (outcome.Plain (reply.Refused (refusal.Stale last now)) tag)) is ends = absurd (true≢false (sym ends ∙ ap (ends_sync asked) (sym is)))
refused_fresh asked why (Ok (outcome.Refused (refusal.Stale last now))) is ends = absurd (true≢false (sym ends ∙ ap (ends_sync asked) (sym is)))
refused_fresh asked why _ is ends = refl

pub ends_fresh : (asked : What) (ending : Ending) (f : SyncFault) → EndsBy asked ending f → is_stale ending ≡ false
ends_fresh asked ending (fault.Remote why) ends = ap is_stale ends
ends_fresh asked ending (fault.Refused why) ends = refused_fresh asked why ending (replies_refused ending why ends.0) ends.1
ends_fresh asked ending _ ends = absurd ends

module _ (library : Library) (may : What → Type 0) where
  pub sends_fresh : (more : List Sent) → AllByRecursion (IsSend library may) more → stale_count more ≡ 0
  sends_fresh [] went = refl
  sends_fresh (sent ∷ more) went = fresh_more sent more (replied_fresh went.0.told sent.1 went.0.replied went.0.well) (sends_fresh more went.1)

  pub stops_fresh : (f : SyncFault) (more : List Sent) → Stops library may f more → stale_count more ≡ 0
  stops_fresh f [] own = refl
  stops_fresh f (sent ∷ more) (inl on) = fresh_more sent more (replied_fresh on.0.told sent.1 on.0.replied on.0.well) (stops_fresh f more on.1)
  stops_fresh f (sent ∷ more) (inr ends) =
      fresh_more sent more (ends_fresh sent.0.what sent.1 f ends.0.ends) (ap (λ (rest : List Sent). stale_count rest) ends.1)

-- ---- the cause of each fault

-- the last send told it, or all went well and none did
pub record TellsLast (f : SyncFault) (more : List Sent) : Type 0 where
  pub before : List Sent
  pub sent : Sent
  pub ends : more ≡ before ++ sent ∷ []
  pub told : EndsBy sent.0.what sent.1 f

module _ (library : Library) (may : What → Type 0) (f : SyncFault) where
  pub last_told : (more : List Sent) → Stops library may f more → ((is_own f ≡ true) × All WentWell more) ⊎ TellsLast f more
  last_told [] own = inl (own, All-nil WentWell)
  last_told (sent ∷ more) (inl on) = by (last_told more on.1)
    where
      by : ((is_own f ≡ true) × All WentWell more) ⊎ TellsLast f more → ((is_own f ≡ true) × All WentWell (sent ∷ more)) ⊎ TellsLast f (sent ∷ more)
      by (inl own) = inl (own.0, All-cons WentWell sent more (send_well library may sent on.0) own.1)
      by (inr last) = inr (record { before = sent ∷ last.before; sent = last.sent; ends = ap (λ (rest : List Sent). sent ∷ rest) last.ends; told = last.told })
  last_told (sent ∷ more) (inr ends) = inr (record { before = []; sent = sent; ends = ap (λ (rest : List Sent). sent ∷ rest) ends.1; told = ends.0.ends })

pub caused_by : (f : SyncFault) (more : List Sent) → ((is_own f ≡ true) × All WentWell more) ⊎ TellsLast f more → CausedBy IsPushFault more f
caused_by fault.NoMemory more told = tt
caused_by (fault.Remote why) more (inl own) = absurd (true≢false (sym own.0))
caused_by (fault.Remote why) more (inr last) = (last.sent.0, (last.before, last.ends ∙ ap (λ (ending : Ending). last.before ++ (last.sent.0, ending) ∷ []) last.told))
caused_by (fault.Refused why) more (inl own) = absurd (true≢false (sym own.0))
caused_by (fault.Refused why) more (inr last) =
    inl (last.sent.0, last.sent.1, (last.before, last.ends), replies_refused last.sent.1 why last.told.0, last.told.1)
caused_by fault.Folder more told = tt
caused_by (fault.Changed path) more told = tt
caused_by (fault.Damaged want got) more (inl own) = absurd (true≢false (sym own.0))
caused_by (fault.Damaged want got) more (inr last) = absurd last.told
caused_by (fault.BadTree why) more (inl own) = absurd (true≢false (sym own.0))
caused_by (fault.BadTree why) more (inr last) = absurd last.told
caused_by fault.NotEmpty more (inl own) = absurd (true≢false (sym own.0))
caused_by fault.NotEmpty more (inr last) = absurd last.told
caused_by (fault.Stale now) more (inl own) = absurd (true≢false (sym own.0))
caused_by (fault.Stale now) more (inr last) = absurd last.told
caused_by (fault.Blocked path) more (inl own) = absurd (true≢false (sym own.0))
caused_by (fault.Blocked path) more (inr last) = absurd last.told
caused_by (fault.Scan why) more (inl own) = absurd (true≢false (sym own.0))
caused_by (fault.Scan why) more (inr last) = absurd last.told

-- a fault that no order tells comes where all went well
pub ordered_went : (f : SyncFault) (more : List Sent) → is_of_order f ≡ false → ((is_own f ≡ true) × All WentWell more) ⊎ TellsLast f more → All WentWell more
ordered_went f more other (inl own) = own.1
ordered_went (fault.Remote why) more other (inr last) = absurd (true≢false other)
ordered_went (fault.Refused why) more other (inr last) = absurd (true≢false other)
ordered_went f more other (inr last) = absurd last.told

-- ---- what is put was lacking

lacked_as : (round : List Sent) (key : Key) (k : Kind) → is_in (keys_lacked round) key ≡ true → LackedAs round key k
lacked_as round key kind.Commit there = tt
lacked_as round key kind.Fs there = there
lacked_as round key kind.Block there = there

-- each key that an order puts was told to lack
abbrev pub PutsTold : List Sent → What → Type 0
PutsTold round asked = AllByRecursion (λ (key : Key). is_in (keys_lacked round) key ≡ true) (put_by asked)

all_lacked : (round : List Sent) (keys : List Key) → AllByRecursion (λ (key : Key). is_in (keys_lacked round) key ≡ true) keys → All (IsLacked round) keys
all_lacked round [] are = All-nil (IsLacked round)
all_lacked round (key ∷ keys) are = All-cons (IsLacked round) key keys (lacked_as round key key.kind are.0) (all_lacked round keys are.1)

puts_at : (round : List Sent) (asked : What) → IsUploadWhat asked → PutsTold round asked → PutsAt round asked
puts_at round (what.Missing kind ids) up told = All-nil (IsLacked round)
puts_at round (what.Put key bytes) up told = all_lacked round (key ∷ []) told
puts_at round (what.PutFs rows) up told = all_lacked round (put_by (what.PutFs rows)) told
puts_at round _ up told = absurd up

module _ (library : Library) (may : What → Type 0) where
  pub round_grows : (round : List Sent) (sent : Sent) → IsUploadWhat sent.0.what → round_after round sent ≡ round ++ sent ∷ []
  round_grows round sent up = ap (λ (b : Bool). if b then [] else round ++ sent ∷ []) (begins_none sent.0.what up)
    where
      begins_none : (asked : What) → IsUploadWhat asked → begins_round asked ≡ false
      begins_none (what.Missing kind ids) up = refl
      begins_none (what.Put key bytes) up = refl
      begins_none (what.PutFs rows) up = refl
      begins_none _ up = absurd up

  still_told : (round : List Sent) (sent : Sent) → ((asked : What) → may asked → PutsTold round asked) → (asked : What) → may asked → PutsTold (round ++ sent ∷ []) asked
  still_told round sent wider asked is =
      all_as (λ (key : Key). is_in (keys_lacked round) key ≡ true) (λ (key : Key). is_in (keys_lacked (round ++ sent ∷ [])) key ≡ true)
      (λ key there.
      ap (λ (keys : List Key). is_in keys key) (lacked_append round (sent ∷ [])) ∙ in_append (keys_lacked round) (keys_lacked (sent ∷ [])) key
      ∙ or_left (is_in (keys_lacked round) key) (is_in (keys_lacked (sent ∷ [])) key) there)
      (put_by asked) (wider asked is)

  -- behind what the library told to lack, and before other sends
  pub lacked_sends : (round more later : List Sent) → ((asked : What) → may asked → PutsTold round asked) → AllByRecursion (IsSend library may) more
      → PutsLacked (round ++ more) later → PutsLacked round (more ++ later)
  lacked_sends round [] later wider went puts = subst (λ (r : List Sent). PutsLacked r later) (append-nil round) puts
  lacked_sends round (sent ∷ more) later wider went puts = (
    puts_at round sent.0.what went.0.uploads (wider sent.0.what went.0.among),
    subst (λ (r : List Sent). PutsLacked r (more ++ later)) (sym (round_grows round sent went.0.uploads))
        (lacked_sends (round ++ sent ∷ []) more later (still_told round sent wider) went.1
        (subst (λ (r : List Sent). PutsLacked r later) (sym (append_assoc round (sent ∷ []) more)) puts)),
  )

  pub lacked_stops : (f : SyncFault) (round more : List Sent) → ((asked : What) → may asked → PutsTold round asked) → Stops library may f more → PutsLacked round more
  lacked_stops f round [] wider own = tt
  lacked_stops f round (sent ∷ more) wider (inl on) = (
    puts_at round sent.0.what on.0.uploads (wider sent.0.what on.0.among),
    subst (λ (r : List Sent). PutsLacked r more) (sym (round_grows round sent on.0.uploads)) (lacked_stops f (round ++ sent ∷ []) more (still_told round sent wider) on.1),
  )
  lacked_stops f round (sent ∷ more) wider (inr ends) =
      (puts_at round sent.0.what ends.0.uploads (wider sent.0.what ends.0.among), subst (λ (rest : List Sent). PutsLacked (round_after round sent) rest) (sym ends.1) tt)

-- who only asks puts nothing
pub asks_told : (kind : Kind) (ids : List (List ℕ)) (round : List Sent) (asked : What) → AsksAmong kind ids asked → PutsTold round asked
asks_told kind ids round (what.Missing k others) is = tt
asks_told kind ids round _ is = absurd is

-- who puts what was told to lack
pub puts_told : (may : Key → Bool) (round : List Sent) → ((key : Key) → may key ≡ true → is_in (keys_lacked round) key ≡ true) → (asked : What) → PutsAmong may asked → PutsTold round asked
puts_told may round wider asked puts = all_as (λ (key : Key). may key ≡ true) (λ (key : Key). is_in (keys_lacked round) key ≡ true) wider (put_by asked) puts.1

module _ (library : Library) where
  -- what is put before other sends is as it was
  pub lacked_then : (round first later : List Sent) → AllByRecursion (IsOrdered library) first → PutsLacked round first → PutsLacked (round ++ first) later → PutsLacked round (first ++ later)
  lacked_then round [] later are puts after = subst (λ (r : List Sent). PutsLacked r later) (append-nil round) after
  lacked_then round (sent ∷ first) later are puts after = (
    puts.0,
    subst (λ (r : List Sent). PutsLacked r (first ++ later)) (sym (round_grows library IsUploadWhat round sent are.0.uploads))
        (lacked_then (round ++ sent ∷ []) first later are.1 (subst (λ (r : List Sent). PutsLacked r first) (round_grows library IsUploadWhat round sent are.0.uploads) puts.1)
        (subst (λ (r : List Sent). PutsLacked r later) (sym (append_assoc round (sent ∷ []) first)) after)),
  )

pub fresh_append : (first later : List Sent) → stale_count first ≡ 0 → stale_count later ≡ 0 → stale_count (first ++ later) ≡ 0
fresh_append [] later none also = also
fresh_append (sent ∷ first) later none also = by (is_stale sent.1) refl none (λ rest. fresh_append first later rest also)
  where
    by : (b : Bool) → is_stale sent.1 ≡ b → stale_count (sent ∷ first) ≡ 0 → (stale_count first ≡ 0 → stale_count (first ++ later) ≡ 0) → stale_count (sent ∷ (first ++ later)) ≡ 0
    by true stale count more =
        let one : suc (stale_count first) ≡ 0
        = ap (λ (b : Bool). length (cons_option (if b then Some sent else None) (filter_map (λ (s : Sent). if is_stale s.1 then Some s else None) first))) (sym stale) ∙ count in
        absurd (cc)
    by false fresh count more =
        let rest : stale_count first ≡ 0
        = ap (λ (b : Bool). length (cons_option (if b then Some sent else None) (filter_map (λ (s : Sent). if is_stale s.1 then Some s else None) first))) (sym fresh) ∙ count in
        fresh_more sent (first ++ later) fresh (more rest)
