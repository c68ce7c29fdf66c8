-- A sync goes on by one order, or is refused by it. The key lemmas are going_begins, goes_one, fails_one and fails_here.
use Rattle.std.proofs.Common.{◌≡◌, ◌≤◌, ◌+◌, ◌⊎◌, ℕ, Bool, true, false, if◌then◌else◌, All, List, [], ◌∷◌, ◌++◌, length, length-append, Option, None, Some, Ok, refl, sym, ap, subst, ◌∙◌, append-nil, inl, inr, true≢false, not, ◌||◌, arith}
use Rattle.std.specs.Option.{option_or}
use Rattle.std.specs.List.{cons_option, filter_map, flat_map}
use Rattle.std.proofs.lemmas.Grind.{flat_map-append}
use Rattle.std.proofs.lemmas.List.Elements.{All-append, All-cons, All-nil, Contains-push, All-contains, filter_map-append}
use Rattle.ids.specs.declared.key.Key.{Key}
use Rattle.folder_side.specs.Folder.{Contents}
use Rattle.folder_side.specs.ScanReport.{IsWithinLimits}
use Rattle.http_front.specs.declared.order.What.{What}
use Rattle.http_front.specs.declared.order.What.TheVariants as what
use Rattle.http_front.specs.declared.outcome.Outcome.TheVariants.{Plain, Refused}
use Rattle.library_state.specs.declared.refusal.Refusal.{Refusal}
use Rattle.library_state.specs.declared.reply.Reply.TheVariants as reply
use Rattle.remote_calls.specs.Sends.{Ending, Sent}
use Rattle.sync_rules.specs.Causes.{CausedBy, DeniesUpload, FindsSome, HasPath, IsRefusedBy, WentWell, ends_sync, goes_on, is_late, is_of_order, is_stale, is_too_long, stale_count}
use Rattle.sync_rules.specs.Named.{IsHad, IsHadFor, Named, asked_by, gets_tree, is_block, is_check, is_get, is_upload, keys_asked, asked_head, last_head, last_round, names_in}
use Rattle.sync_rules.specs.Offer.{Agrees}
use Rattle.sync_rules.specs.OneSync.{ComesInOrder, GoesInOrder, HasNotBegun, NeedsNoTree}
use Rattle.sync_rules.specs.Orders.{IsLacked, IsNeeded, IsSyncOrder, PutsAt, PutsSo, Stage, StandsAtPut, may_send, stage_after}
use Rattle.sync_rules.specs.Orders.Stage.{Begins}
use Rattle.sync_rules.specs.Uploads.{OffersAt, UploadsSo}
use Rattle.sync_rules.specs.declared.fault.SyncFault.{SyncFault}
use Rattle.sync_rules.proofs.WentLemmas.{goes_well, went_then}
use Rattle.sync_daemon.specs.RoundOrder.{AsksSo, IsSoInRound, is_head}
use Rattle.sync_daemon.specs.Going.{CausedUntouched, Going, GoingOver, Refuses, Spares, Sync}
use Rattle.sync_daemon.proofs.JoinLemmas.{empty_then, last_what, offers_then, orders_then, pushes_then, some_then, stage_then}
use Rattle.sync_daemon.proofs.SentKeyLemmas.{sends_one}

-- ---- the end of a list

abbrev pub last_with : {X : Type 0} → Option X → List X → Option X
last_with before [] = before
last_with before (x ∷ xs) = last_with (Some x) xs

pub last_then : {X : Type 0} (before : Option X) (xs ys : List X) → last_with before (xs ++ ys) ≡ last_with (last_with before xs) ys
last_then before [] ys = refl
last_then before (x ∷ xs) ys = last_then (Some x) xs ys

abbrev pub gets_last : Option Sent → Bool
gets_last None = false
gets_last (Some sent) = is_get sent.0.what

-- a sync that found something asked for an object last
pub some_gets : (more : List Sent) → FindsSome more → gets_last (last_with None more) ≡ true
some_gets more some =
    ap (λ (sends : List Sent). gets_last (last_with None sends)) some.is
    ∙ ap gets_last (last_then None some.before ((some.asked, Ok (Plain (reply.HeadIs some.head) some.tag)) ∷ (some.got, Ok (Plain (reply.Got some.bytes) some.later)) ∷ []))
    ∙ ap is_get some.gets

pub none_found : FindsSome [] → ⊥
none_found some = true≢false (sym (some_gets [] some))

pub found_by_get : (first : List Sent) (sent : Sent) → is_get sent.0.what ≡ false → FindsSome (first ++ sent ∷ []) → ⊥
found_by_get first sent other some =
    true≢false (sym (some_gets (first ++ sent ∷ []) some) ∙ ap gets_last (last_then None first (sent ∷ [])) ∙ other)

-- ---- what an order that uploads nothing has to be no part of

all_one : {X : Type 0} (P : X → Type 0) (x : X) → P x → All P (x ∷ [])
all_one P x is = All-cons P x [] is (All-nil P)

pub stands_quiet : (lib user : List ℕ) (shows : ℕ → Type 0) (parent : Option (List ℕ)) (before asked : What) → is_upload asked ≡ false → StandsAtPut lib user shows parent before asked
stands_quiet lib user shows parent (what.Put key bytes) (what.Update id) none = absurd (true≢false none)
stands_quiet lib user shows parent (what.Put key bytes) _ none = tt
stands_quiet lib user shows parent _ (what.Update id) none = absurd (true≢false none)
stands_quiet lib user shows parent _ _ none = tt

pub puts_quiet : (lib user : List ℕ) (shows : ℕ → Type 0) (parent : Option (List ℕ)) (asked : What) → is_upload asked ≡ false → PutsSo lib user shows parent asked
puts_quiet lib user shows parent (what.Put key bytes) none = absurd (true≢false none)
puts_quiet lib user shows parent (what.PutFs rows) none = absurd (true≢false none)
puts_quiet lib user shows parent _ none = tt

pub lacks_quiet : (round : List Sent) (asked : What) → is_upload asked ≡ false → PutsAt round asked
lacks_quiet round (what.Put key bytes) none = absurd (true≢false none)
lacks_quiet round (what.PutFs rows) none = absurd (true≢false none)
lacks_quiet round (what.Update id) none = absurd (true≢false none)
lacks_quiet round _ none = All-nil (IsLacked round)

module _ (s : Sync) (c : Contents) where
  pub offers_quiet : (before : List Sent) (asked : What) → is_upload asked ≡ false → OffersAt s.cuts c s.index s.user s.shows before asked
  offers_quiet before (what.Update id) none = absurd (true≢false none)
  offers_quiet before _ none = tt

  pushed_quiet : (before : List Sent) (asked : What) → gets_tree asked ≡ false → gets_tree asked ≡ true → (head : List ℕ) → last_head before None ≡ Some (head, None)
      → Agrees s.cuts c s.index ⊎ DeniesUpload before
  pushed_quiet before asked flat gets head named = absurd (true≢false (sym gets ∙ flat))

-- ---- counts and names

pub late_then : (first later : List Sent) → stale_count (first ++ later) ≡ stale_count first + stale_count later
late_then first later =
    ap length (filter_map-append (λ (sent : Sent). if is_stale sent.1 then Some sent else None) first later)
    ∙ length-append (filter_map (λ (sent : Sent). if is_stale sent.1 then Some sent else None) first) (filter_map (λ (sent : Sent). if is_stale sent.1 then Some sent else None) later)

timely_count : (sent : Sent) → is_stale sent.1 ≡ false → stale_count (sent ∷ []) ≡ 0
timely_count sent timely = ap (λ (b : Bool). length (cons_option (if b then Some sent else None) [])) timely

pub had_append : (names more : List Named) (had later : List (Key × List ℕ)) → IsHadFor names had → IsHadFor more later → IsHadFor (names ++ more) (had ++ later)
had_append [] more [] later first second = second
had_append [] more (x ∷ had) later first second = absurd first
had_append (name ∷ names) more [] later first second = absurd first
had_append (name ∷ names) more (x ∷ had) later first second = (first.0, had_append names more had later first.1 second)

pub had_then : (first later : List Sent) (had others : List (Key × List ℕ)) → IsHad first had → IsHad later others → IsHad (first ++ later) (had ++ others)
had_then first later had others is more =
    subst (λ (names : List Named). IsHadFor names (had ++ others)) (sym (flat_map-append names_in first later))
    (had_append (flat_map names_in first) (flat_map names_in later) had others is more)

-- ---- the beginning

pub going_begins : (s : Sync) → Going s [] Begins 0
going_begins s = record {
  orders = record { orders = record { asks = All-nil (IsSyncOrder s.lib s.secret); made = tt; puts = tt; rounds = tt; gets = tt }; heads = tt };
  went = All-nil WentWell;
  reached = refl;
  lates = refl;
  unbegun = All-nil (λ (key : Key). is_block key.kind ≡ false);
  over = λ c told. record {
    uploads = record { changed = λ same. All-nil (λ (sent : Sent). is_upload sent.0.what ≡ false); joins = λ none has. tt; offers = tt };
    order = record { scanned = inl (All-nil (λ (sent : Sent). is_check sent.0.what ≡ true)); found = λ none has. tt; pushed = tt };
    found = λ none has some. none_found some;
    sends = tt;
    had = [];
    is_had = tt;
  };
}

-- ---- one order

pub record IsQuiet (s : Sync) (first : List Sent) (stage : Stage) (sent : Sent) : Type 0 where
  pub asks : IsSyncOrder s.lib s.secret sent
  pub none : is_upload sent.0.what ≡ false
  pub flat : gets_tree sent.0.what ≡ false
  pub may : may_send stage sent.0.what ≡ true
  pub needed : All (IsNeeded first) (asked_by sent.0.what)
  pub timely : is_stale sent.1 ≡ false
  pub small : All (λ (key : Key). is_block key.kind ≡ false) (asked_by sent.0.what)
  pub once : is_head sent.0.what ≡ true → asked_head first None ≡ None

-- nothing but checks is sent of a folder that wasn't scanned
abbrev pub IsScanned : Contents → Sent → Type 0
IsScanned c sent = (is_check sent.0.what ≡ true) ⊎ IsWithinLimits c

-- ---- both ways on

module _ (s : Sync) (first : List Sent) (stage : Stage) (late : ℕ) (sent : Sent) (going : Going s first stage late) (quiet : IsQuiet s first stage sent) where
  orders_one : AsksSo s.lib s.secret s.user s.shows s.index.base (first ++ sent ∷ [])
  orders_one = orders_then s.lib s.secret s.user s.shows s.index.base first (sent ∷ []) going.orders (record {
    asks = all_one (IsSyncOrder s.lib s.secret) sent quiet.asks;
    made = (
      stands_quiet s.lib s.user s.shows (option_or s.index.base (asked_head first None)) (last_what what.Version first) sent.0.what quiet.none,
      puts_quiet s.lib s.user s.shows (option_or s.index.base (asked_head first None)) sent.0.what quiet.none,
      tt,
    );
    puts = (lacks_quiet (last_round first []) sent.0.what quiet.none, tt);
    rounds = (subst (λ (at : Stage). may_send at sent.0.what ≡ true) (sym going.reached) quiet.may, tt);
    gets = (quiet.needed, tt);
    heads = (record { once = quiet.once; unneeded = λ up. absurd (true≢false (sym up ∙ quiet.none)) }, tt);
  })

  late_one : stale_count (first ++ sent ∷ []) ≡ late
  late_one = let sum : stale_count (first ++ sent ∷ []) ≡ stale_count first + stale_count (sent ∷ []) = late_then first (sent ∷ []) in
      let none : stale_count (sent ∷ []) ≡ 0 = timely_count sent quiet.timely in
      let lates : stale_count first ≡ late = going.lates in
      omega (arith, sum, none, lates)

  unbegun_one : All (λ (key : Key). is_block key.kind ≡ false) (keys_asked (first ++ sent ∷ []))
  unbegun_one =
      let mine : All (λ (key : Key). is_block key.kind ≡ false) (asked_by sent.0.what ++ []) =
      subst (All (λ (key : Key). is_block key.kind ≡ false)) (sym (append-nil (asked_by sent.0.what))) quiet.small in
      subst (All (λ (key : Key). is_block key.kind ≡ false)) (sym (flat_map-append (λ (other : Sent). asked_by other.0.what) first (sent ∷ [])))
      (All-append (λ (key : Key). is_block key.kind ≡ false) (keys_asked first) (asked_by sent.0.what ++ []) going.unbegun mine)

  uploads_one : (c : Contents) → UploadsSo s.cuts c s.index s.user first s.shows → UploadsSo s.cuts c s.index s.user (first ++ sent ∷ []) s.shows
  uploads_one c is = record {
    changed = λ same. All-append (λ (other : Sent). is_upload other.0.what ≡ false) first (sent ∷ []) (is.changed same)
        (all_one (λ (other : Sent). is_upload other.0.what ≡ false) sent quiet.none);
    joins = λ none has. empty_then [] first (sent ∷ []) (is.joins none has) ((λ up. absurd (true≢false (sym up ∙ quiet.none))), tt);
    offers = offers_then s.cuts c s.index s.user s.shows [] first (sent ∷ []) is.offers (offers_quiet s c first sent.0.what quiet.none, tt);
  }

  scanned_one : (c : Contents) → (All (λ (other : Sent). is_check other.0.what ≡ true) first ⊎ IsWithinLimits c) → IsScanned c sent
      → (All (λ (other : Sent). is_check other.0.what ≡ true) (first ++ sent ∷ []) ⊎ IsWithinLimits c)
  scanned_one c (inr within) here = inr within
  scanned_one c (inl checks) (inr within) = inr within
  scanned_one c (inl checks) (inl check) =
      inl (All-append (λ (other : Sent). is_check other.0.what ≡ true) first (sent ∷ []) checks (all_one (λ (other : Sent). is_check other.0.what ≡ true) sent check))

  order_one : (c : Contents) → GoingOver s c first → IsScanned c sent → GoesInOrder s.cuts c s.index (first ++ sent ∷ [])
  order_one c over scanned = record {
    scanned = scanned_one c over.order.scanned scanned;
    found = λ none has. some_then [] first (sent ∷ []) (over.order.found none has) (over.found none has, tt);
    pushed = pushes_then s.cuts c s.index [] first (sent ∷ []) over.order.pushed (pushed_quiet s c first sent.0.what quiet.flat, tt);
  }

  -- it went well
  pub record GoesOver (c : Contents) : Type 0 where
    pub scanned : IsScanned c sent
    pub found : s.index.base ≡ None → HasPath c → FindsSome (first ++ sent ∷ []) → ⊥
    pub had : List (Key × List ℕ)
    pub is_had : IsHad (sent ∷ []) had

  pub goes_one : WentWell sent → ((c : Contents) → s.told ≡ Some c → GoesOver c) → Going s (first ++ sent ∷ []) (stage_after sent.0.what sent.1 stage) late
  goes_one went over = record {
    orders = orders_one;
    went = All-append WentWell first (sent ∷ []) going.went (all_one WentWell sent went);
    reached = stage_then Begins first (sent ∷ []) ∙ ap (stage_after sent.0.what sent.1) going.reached;
    lates = late_one;
    unbegun = unbegun_one;
    over = λ c told.
        let was : GoingOver s c first = going.over c told in
        let here : GoesOver c = over c told in record {
          uploads = uploads_one c was.uploads;
          sends = sends_one (record { lib = s.lib; secret = s.secret }) s.user s.shows s.cuts c s.index first sent was.sends quiet.none;
          order = order_one c was here.scanned;
          found = here.found;
          had = was.had ++ here.had;
          is_had = had_then first (sent ∷ []) was.had here.had was.is_had here.is_had;
        };
  }

  -- it ends the sync
  pub fails_one : (f : SyncFault) → late ≤ 2 → is_of_order f ≡ true → is_late f ≡ false → NeedsNoTree f → CausedBy (IsSoInRound s.cuts s.told s.index (first ++ sent ∷ [])) (first ++ sent ∷ []) f
      → (All (λ (key : Key). is_block key.kind ≡ false) (keys_asked (first ++ sent ∷ [])) → HasNotBegun (first ++ sent ∷ []) f)
      → ((c : Contents) → s.told ≡ Some c → IsScanned c sent × ComesInOrder c s.index (first ++ sent ∷ []) f) → Refuses s (first ++ sent ∷ []) f
  fails_one f few of_order not_late no_tree cause unbegun over = record {
    orders = orders_one;
    ends = (
      went_then first (sent ∷ []) going.went tt,
      cause,
      (λ other. absurd (true≢false (sym of_order ∙ other))),
      (λ early. subst (λ (n : ℕ). n ≤ 2) (sym late_one) few),
    );
    over = λ c told.
        let was : GoingOver s c first = going.over c told in
        let here : IsScanned c sent × ComesInOrder c s.index (first ++ sent ∷ []) f = over c told in record {
          uploads = uploads_one c was.uploads;
          sends = sends_one (record { lib = s.lib; secret = s.secret }) s.user s.shows s.cuts c s.index first sent was.sends quiet.none;
          order = order_one c was here.0;
          comes = here.1;
          cause = inl (no_tree, unbegun unbegun_one);
        };
  }

  -- it went well, and tells what ends the sync
  pub ends_one : (f : SyncFault) → late ≤ 2 → WentWell sent → NeedsNoTree f → CausedBy (IsSoInRound s.cuts s.told s.index (first ++ sent ∷ [])) (first ++ sent ∷ []) f
      → (All (λ (key : Key). is_block key.kind ≡ false) (keys_asked (first ++ sent ∷ [])) → HasNotBegun (first ++ sent ∷ []) f)
      → ((c : Contents) → s.told ≡ Some c → IsScanned c sent × ComesInOrder c s.index (first ++ sent ∷ []) f) → Refuses s (first ++ sent ∷ []) f
  ends_one f few went no_tree cause unbegun over = record {
    orders = orders_one;
    ends = (
      went_then first (sent ∷ []) going.went tt,
      cause,
      (λ other. All-append WentWell first (sent ∷ []) going.went (all_one WentWell sent went)),
      (λ early. subst (λ (n : ℕ). n ≤ 2) (sym late_one) few),
    );
    over = λ c told.
        let was : GoingOver s c first = going.over c told in
        let here : IsScanned c sent × ComesInOrder c s.index (first ++ sent ∷ []) f = over c told in record {
          uploads = uploads_one c was.uploads;
          sends = sends_one (record { lib = s.lib; secret = s.secret }) s.user s.shows s.cuts c s.index first sent was.sends quiet.none;
          order = order_one c was here.0;
          comes = here.1;
          cause = inl (no_tree, unbegun unbegun_one);
        };
  }

-- ---- no order

module _ (s : Sync) (more : List Sent) (stage : Stage) (late : ℕ) (going : Going s more stage late) where
  pub fails_here : (f : SyncFault) → late ≤ 2 → CausedBy (IsSoInRound s.cuts s.told s.index more) more f
      → ((c : Contents) → s.told ≡ Some c → ComesInOrder c s.index more f × CausedUntouched s c more f) → Refuses s more f
  fails_here f few cause over = record {
    orders = going.orders;
    ends = (
      goes_well more going.went,
      cause,
      (λ other. going.went),
      (λ early. subst (λ (n : ℕ). n ≤ 2) (sym going.lates) few),
    );
    over = λ c told.
        let was : GoingOver s c more = going.over c told in
        let here : ComesInOrder c s.index more f × CausedUntouched s c more f = over c told in record {
          uploads = was.uploads;
          sends = was.sends;
          order = was.order;
          comes = here.0;
          cause = here.1;
        };
  }

-- what asks for nothing leaves it so
pub spares_more : (s : Sync) (first : List Sent) (sent : Sent) → Spares s first → asked_by sent.0.what ≡ [] → Spares s (first ++ sent ∷ [])
spares_more s first sent spares none = λ based. flat_map-append (λ (other : Sent). asked_by other.0.what) first (sent ∷ []) ∙ (λ i. spares based i ++ (none i ++ []))

-- ---- a refusal by the last order

refused_stops : (asked : What) (ending : Ending) (why : Refusal) → IsRefusedBy ending why → ends_sync asked why ≡ true → is_too_long asked why ≡ false → goes_on asked ending ≡ false
refused_stops asked (Ok (Plain (reply.Refused r) tag)) why is ends short =
    ap (λ (x : Refusal). not (ends_sync asked x) || is_too_long asked x) is ∙ ap (λ (b : Bool). not b || is_too_long asked why) ends ∙ short
refused_stops asked (Ok (Refused r)) why is ends short =
    ap (λ (x : Refusal). not (ends_sync asked x) || is_too_long asked x) is ∙ ap (λ (b : Bool). not b || is_too_long asked why) ends ∙ short
refused_stops asked _ why is ends short = absurd is

-- not all went well then
pub refused_not_well : (first : List Sent) (sent : Sent) (why : Refusal) → IsRefusedBy sent.1 why → ends_sync sent.0.what why ≡ true → is_too_long sent.0.what why ≡ false
    → All WentWell (first ++ sent ∷ []) → ⊥
refused_not_well first sent why is ends short went =
    let well : WentWell sent = All-contains WentWell (first ++ sent ∷ []) sent went (Contains-push first sent) in
    true≢false (sym well.0 ∙ refused_stops sent.0.what sent.1 why is ends short)
