-- What the list of sends tells as it grows. The key lemmas are begins, kept_got, one_more, stops, stops_here,
-- failed_stops, failed_halts and halved.
use Rattle.std.proofs.Common.{◌||◌, ◌==◌, zero, suc, not, ◌≡◌, ◌<◌, ◌≤◌, ℕ, Bool, true, false, List, [], ◌∷◌, ◌++◌, length, refl, sym, ap, subst, ◌∙◌, ◌⊎◌, append_assoc, None, Some, Ok, Err, inl, inr, All, true≢false, arith, nat_lt}
use Rattle.std.specs.FinMap as map
use Rattle.std.specs.Prelude.{⊤, map as list_map}
use Rattle.std.specs.List.{Contains, filter_map, flat_map}
use Rattle.std.proofs.lemmas.Bool.Decides.{Decides-ltb}
use Rattle.std.proofs.lemmas.Grind.{flat_map-append}
use Rattle.std.proofs.lemmas.List.{append-nil}
use Rattle.std.proofs.lemmas.List.Elements.{All-append, All-cons, All-head, All-nil, All-tail, Contains-append_left, Contains-append_right}
use Rattle.ids.specs.Key.{Objects, key_cmp}
use Rattle.ids.specs.declared.key.Key.{Key}
use Rattle.library_state.specs.declared.refusal.Refusal.{Refusal}
use Rattle.library_state.specs.declared.refusal.Refusal.TheVariants as refusal
use Rattle.library_state.specs.declared.reply.Reply.TheVariants as reply
use Rattle.object_graph.specs.Objects.{fs_key}
use Rattle.object_graph.specs.Unchanged.{Keeps}
use Rattle.http_front.specs.declared.order.What.{What}
use Rattle.http_front.specs.declared.order.What.TheVariants as what
use Rattle.http_front.specs.declared.outcome.Outcome.{Outcome}
use Rattle.http_front.specs.declared.outcome.Outcome.TheVariants.{Plain, Refused}
use Rattle.http_client.specs.OrderOutcome.{CanHave, can_refuse}
use Rattle.remote_calls.specs.Sends.{Ending, Sent}
use Rattle.remote_calls.specs.declared.error.RemoteFault.{RemoteFault}
use Rattle.sync_rules.proofs.GotLemmas.{got_has}
use Rattle.sync_rules.proofs.OverLemmas.{has_first, has_later}
use Rattle.sync_rules.proofs.WentLemmas.{goes_well, went_then}
use Rattle.sync_rules.specs.Named.{GetsNamed, HasAll, HasGot, IsHadFor, IsNamedSo, Named, Sends, asked_by, got_by, got_in, if_named, is_get, named_by, names_in}
use Rattle.sync_rules.specs.Orders.{AsksFew, is_sync_what}
use Rattle.sync_rules.specs.Causes.{CausedBy, IsRefusedBy, WentWell, ends_sync, goes_on, is_of_order, is_stale, is_too_long}
use Rattle.sync_rules.specs.declared.fault.SyncFault.{SyncFault}
use Rattle.sync_rules.specs.declared.fault.SyncFault.TheVariants as fault
use Rattle.tree_fetch.specs.Asking.{FailsSo, GetsRows, IsOfOne, IsRefused, order_of, refused_of}
use Rattle.tree_fetch.specs.Fetching.{AreCome, AsksOne, Fetching, GetsReached, IsAlone, IsFetch, IsReached, Stopped, fetches}
use Rattle.tree_fetch.specs.Levels.{AreReached, Halts}
use Rattle.tree_fetch.specs.declared.asker.Asker.{Asker}

-- ---- what was had

had_append : (names more : List Named) (had later : List (Key × List ℕ)) → IsHadFor names had → IsHadFor more later → IsHadFor (names ++ more) (had ++ later)
had_append [] more [] later first second = second
had_append [] more (x ∷ had) later first second = absurd first
had_append (name ∷ names) more [] later first second = absurd first
had_append (name ∷ names) more (x ∷ had) later first second = (first.0, had_append names more had later first.1 second)

pub had_of_one : (sent : Sent) (had : List (Key × List ℕ)) → IsHadFor (names_in sent) had → IsHadFor (flat_map names_in (sent ∷ [])) had
had_of_one sent had is = subst (λ names. IsHadFor names had) (sym (append-nil (names_in sent))) is

sends_one : (before old new more : List Sent) (had : List (Key × List ℕ)) (sent : Sent) (now : List (Key × List ℕ)) → Sends before old more had → new ≡ old ++ sent ∷ []
    → IsHadFor (names_in sent) now → Sends before new (more ++ sent ∷ []) (had ++ now)
sends_one before old new more had sent now sends is here = record {
  grown = is ∙ ap (λ sents. sents ++ sent ∷ []) sends.grown ∙ append_assoc before more (sent ∷ []);
  had_them = subst (λ names. IsHadFor names (had ++ now)) (sym (flat_map-append names_in more (sent ∷ [])))
      (had_append (flat_map names_in more) (flat_map names_in (sent ∷ [])) had now sends.had_them (had_of_one sent now here));
}

pub all_of_one : {X : Type 0} (P : X → Type 0) (x : X) → P x → All P (x ∷ [])
all_of_one P x is = All-cons P x [] is (All-nil P)

pub all_pushed : {X : Type 0} (P : X → Type 0) (xs : List X) (x : X) → All P xs → P x → All P (xs ++ x ∷ [])
all_pushed P xs x all is = All-append P xs (x ∷ []) all (all_of_one P x is)

-- ---- a fetch that goes on, or stops

pub begins : (asker : Asker) (from : List Key) (before : List Sent) → Fetching asker from before before map.empty
begins asker from before = record {
  more = [];
  had = [];
  sends = record { grown = sym (append-nil before); had_them = tt };
  asked = All-nil (IsFetch asker);
  reached = tt;
  went = All-nil WentWell;
  kept = λ objects has. record { kept = λ key bytes here. let none : map.get (map.empty {X = List ℕ} {R = key_cmp}) key ≡ None = map.get-empty key_cmp key in cc };
  came = λ key bytes here. absurd (let none : map.get (map.empty {X = List ℕ} {R = key_cmp}) key ≡ None = map.get-empty key_cmp key in cc);
}

gets : (w : What) → fetches w ≡ true → is_get w ≡ true
gets (what.Get key) is = refl
gets (what.GetFs []) is = cc
gets (what.GetFs (id ∷ ids)) is = refl
gets _ is = cc

-- each order of a fetch asks for objects
all_get : (asker : Asker) (sends : List Sent) → All (IsFetch asker) sends → All (λ (sent : Sent). is_get sent.0.what ≡ true) sends
all_get asker [] asked = All-nil (λ (sent : Sent). is_get sent.0.what ≡ true)
all_get asker (sent ∷ sends) asked =
    All-cons (λ (s : Sent). is_get s.0.what ≡ true) sent sends (gets sent.0.what (All-head (IsFetch asker) sent sends asked).1)
    (all_get asker sends (All-tail (IsFetch asker) sent sends asked))

pub kept_got : (asker : Asker) (from : List Key) (before now : List Sent) (F : Objects) (f : Fetching asker from before now F) (objects : Objects) → HasGot objects f.more → HasAll objects f.had
kept_got asker from before now F f objects has = got_has objects f.more f.had (all_get asker f.more f.asked) f.sends.had_them has

reached_pushed : (from : List Key) (before more : List Sent) (sent : Sent) → GetsReached from before more → All (IsReached from (before ++ more)) (asked_by sent.0.what)
    → GetsReached from before (more ++ sent ∷ [])
reached_pushed from before [] sent gets all = (subst (λ (sends : List Sent). All (IsReached from sends) (asked_by sent.0.what)) (append-nil before) all, tt)
reached_pushed from before (other ∷ more) sent gets all = (
  gets.0,
  reached_pushed from (before ++ other ∷ []) more sent gets.1
      (subst (λ (sends : List Sent). All (IsReached from sends) (asked_by sent.0.what)) (sym (append_assoc before (other ∷ []) more)) all),
)

-- ids that are reached over any objects that have what is held are reached over any that have what was got
pub reached_all : (asker : Asker) (from : List Key) (before now : List Sent) (F : Objects) (f : Fetching asker from before now F) (ids : List (List ℕ)) → AreReached from F ids
    → All (IsReached from f.more) (list_map fs_key ids)
reached_all asker from before now F f [] reached = All-nil (IsReached from f.more)
reached_all asker from before now F f (id ∷ ids) reached =
    All-cons (IsReached from f.more) (fs_key id) (list_map fs_key ids)
    (λ objects has. reached.each id (inl refl) objects (f.kept objects (kept_got asker from before now F f objects has)))
    (reached_all asker from before now F f ids (record { each = λ other among. reached.each other (inr among) }))

-- what is held more came with one send
abbrev pub ComesBy : (F G : Objects) → Sent → Type 0
ComesBy F G sent = (key : Key) (bytes : List ℕ) → map.get G key ≡ Some bytes → (map.get F key ≡ Some bytes) ⊎ Contains (got_in sent) (key, Some bytes)

comes_then : (F G : Objects) (more : List Sent) (sent : Sent) → AreCome F more → ComesBy F G sent → AreCome G (more ++ sent ∷ [])
comes_then F G more sent came comes key bytes here =
    subst (λ (all : List Named). Contains all (key, Some bytes)) (sym (flat_map-append got_in more (sent ∷ [])))
    (elim (comes key bytes here) [
      | inl there ↦ Contains-append_left (flat_map got_in more) (got_in sent ++ []) (key, Some bytes) (came key bytes there)
      | inr new ↦ Contains-append_right (flat_map got_in more) (got_in sent ++ []) (key, Some bytes) (Contains-append_left (got_in sent) [] (key, Some bytes) new)
    ])

pub one_more : (asker : Asker) (from : List Key) (before old new : List Sent) (F G : Objects) (sent : Sent) (now : List (Key × List ℕ)) (f : Fetching asker from before old F)
    → new ≡ old ++ sent ∷ [] → IsFetch asker sent → All (IsReached from f.more) (asked_by sent.0.what) → WentWell sent → IsHadFor (names_in sent) now
    → ((objects : Objects) → HasAll objects now → Keeps F objects → Keeps G objects) → ComesBy F G sent → Fetching asker from before new G
one_more asker from before old new F G sent now f is asks reached went here keeps comes = record {
  more = f.more ++ sent ∷ [];
  had = f.had ++ now;
  sends = sends_one before old new f.more f.had sent now f.sends is here;
  asked = all_pushed (IsFetch asker) f.more sent f.asked asks;
  reached = reached_pushed from [] f.more sent f.reached reached;
  went = all_pushed WentWell f.more sent f.went went;
  kept = λ objects has. keeps objects (has_later objects f.had now has) (f.kept objects (has_first objects f.had now has));
  came = comes_then F G f.more sent f.came comes;
}

pub stops : (asker : Asker) (from : List Key) (before old new : List Sent) (F : Objects) (sent : Sent) (now : List (Key × List ℕ)) (f : Fetching asker from before old F)
    → new ≡ old ++ sent ∷ [] → IsFetch asker sent → All (IsReached from f.more) (asked_by sent.0.what) → IsHadFor (names_in sent) now → (why : SyncFault)
    → CausedBy (λ _. ⊥) (f.more ++ sent ∷ []) why → is_of_order why ≡ true → IsAlone (f.more ++ sent ∷ []) why → Stopped asker from before new why
stops asker from before old new F sent now f is asks reached here why cause of_order alone = record {
  more = f.more ++ sent ∷ [];
  had = f.had ++ now;
  sends = sends_one before old new f.more f.had sent now f.sends is here;
  asked = all_pushed (IsFetch asker) f.more sent f.asked asks;
  reached = reached_pushed from [] f.more sent f.reached reached;
  went = went_then f.more (sent ∷ []) f.went tt;
  cause = cause;
  of_order = of_order;
  alone = alone;
}

pub stops_here : (asker : Asker) (from : List Key) (before now : List Sent) (F : Objects) → Fetching asker from before now F → Stopped asker from before now fault.NoMemory
stops_here asker from before now F f = record {
  more = f.more;
  had = f.had;
  sends = f.sends;
  asked = f.asked;
  reached = f.reached;
  went = goes_well f.more f.went;
  cause = tt;
  of_order = refl;
  alone = tt;
}

-- ---- an order of a fetch

is_sync : (w : What) → fetches w ≡ true → is_sync_what w ≡ true
is_sync (what.Get key) is = refl
is_sync (what.GetFs []) is = cc
is_sync (what.GetFs (id ∷ ids)) is = refl
is_sync _ is = cc

pub is_fetch : (asker : Asker) (w : What) (ending : Ending) → fetches w ≡ true → AsksFew w → is_stale ending ≡ false → IsFetch asker (order_of asker w, ending)
is_fetch asker w ending is few timely = ((refl, refl, is_sync w is, few), is, timely)

-- a fetch can't come too late
never_stale : (w : What) → fetches w ≡ true → (last now : ℕ) → can_refuse w (refusal.Stale last now) ≡ true → ⊥
never_stale (what.Get key) is last now can = cc
never_stale (what.GetFs []) is last now can = cc
never_stale (what.GetFs (id ∷ ids)) is last now can = cc
never_stale _ is last now can = cc

pub timely_refusal : (w : What) → fetches w ≡ true → (outcome : Outcome) (why : Refusal) → IsRefusedBy (Ok outcome) why → can_refuse w why ≡ true → is_stale (Ok outcome) ≡ false
timely_refusal w is (Plain (reply.Refused (refusal.Stale last now)) tag) why refused can =
    absurd (never_stale w is last now (subst (λ (r : Refusal). can_refuse w r ≡ true) (sym refused) can))
timely_refusal w is (Refused (refusal.Stale last now)) why refused can = absurd (never_stale w is last now (subst (λ (r : Refusal). can_refuse w r ≡ true) (sym refused) can))
timely_refusal w is (Plain (reply.Refused _) tag) why refused can = refl
timely_refusal w is (Refused _) why refused can = refl
timely_refusal w is _ why refused can = absurd refused

names_nothing : (w : What) → fetches w ≡ true → named_by w ≡ []
names_nothing (what.Get key) is = refl
names_nothing (what.GetFs []) is = cc
names_nothing (what.GetFs (id ∷ ids)) is = refl
names_nothing _ is = cc

-- a refusal gives nothing, and neither does a fault
refusal_gives : (w : What) (outcome : Outcome) (why : Refusal) → IsRefusedBy (Ok outcome) why → got_by w (Ok outcome) ≡ []
refusal_gives (what.Get key) (Plain (reply.Refused r) tag) why is = refl
refusal_gives (what.Get key) (Refused r) why is = refl
refusal_gives (what.Get key) _ why is = absurd is
refusal_gives (what.GetFs ids) (Plain (reply.Refused r) tag) why is = refl
refusal_gives (what.GetFs ids) (Refused r) why is = refl
refusal_gives (what.GetFs ids) _ why is = absurd is
refusal_gives _ outcome why is = refl

fault_gives : (w : What) (f : RemoteFault) → got_by w (Err f) ≡ []
fault_gives (what.Get key) f = refl
fault_gives (what.GetFs ids) f = refl
fault_gives _ f = refl

no_names : (asker : Asker) (w : What) (ending : Ending) → fetches w ≡ true → got_by w ending ≡ [] → IsHadFor (names_in (order_of asker w, ending)) []
no_names asker w ending is none = subst (λ names. IsHadFor names []) (sym (λ i. filter_map if_named (names_nothing w is i ++ none i))) tt

none_named : (asker : Asker) (w : What) (ending : Ending) → got_by w ending ≡ [] → GetsNamed (order_of asker w, ending)
none_named asker w ending none = subst (All IsNamedSo) (sym none) (All-nil IsNamedSo)

ends_so : (w : What) → fetches w ≡ true → (why : Refusal) → can_refuse w why ≡ true → ends_sync w why ≡ true
ends_so (what.Get key) is (refusal.Stale last now) can = cc
ends_so (what.Get key) is _ can = refl
ends_so (what.GetFs []) is why can = cc
ends_so (what.GetFs (id ∷ ids)) is (refusal.Stale last now) can = cc
ends_so (what.GetFs (id ∷ ids)) is _ can = refl
ends_so _ is why can = cc

-- want of memory is told where one is asked for
abbrev pub IsOne : What → SyncFault → Type 0
IsOne w (fault.Refused refusal.NoMemory) = AsksOne w
IsOne w _ = ⊤

alone_so : (asker : Asker) (more : List Sent) (w : What) (ending : Ending) (why : Refusal) → IsOne w (fault.Refused why) → IsAlone (more ++ (order_of asker w, ending) ∷ []) (fault.Refused why)
alone_so asker more w ending refusal.NoMemory one = (order_of asker w, ending, (more, refl), one)
alone_so asker more w ending _ one = tt

-- a fault of the last order
pub failed_stops : (asker : Asker) (from : List Key) (before old new : List Sent) (F : Objects) (w : What) → fetches w ≡ true → AsksFew w → (f : Fetching asker from before old F)
    → All (IsReached from f.more) (asked_by w) → (why : SyncFault) → FailsSo old new (order_of asker w) why → IsOne w why → Stopped asker from before new why
failed_stops asker from before old new F w is few f reached (fault.Remote g) grown one =
    stops asker from before old new F (order_of asker w, Err g) [] f grown (is_fetch asker w (Err g) is few refl) reached (no_names asker w (Err g) is (fault_gives w g)) (fault.Remote g)
    (order_of asker w, (f.more, refl)) refl tt
failed_stops asker from before old new F w is few f reached (fault.Refused why) (outcome, grown, refused, can) one =
    stops asker from before old new F (order_of asker w, Ok outcome) [] f grown (is_fetch asker w (Ok outcome) is few (timely_refusal w is outcome why refused can)) reached
    (no_names asker w (Ok outcome) is (refusal_gives w outcome why refused)) (fault.Refused why) (inl (order_of asker w, Ok outcome, (f.more, refl), refused, ends_so w is why can)) refl
    (alone_so asker f.more w (Ok outcome) why one)
failed_stops asker from before old new F w is few f reached fault.NoMemory same one = subst (λ now. Stopped asker from before now fault.NoMemory) (sym same) (stops_here asker from before old F f)
failed_stops asker from before old new F w is few f reached _ never one = absurd never

pub failed_halts : (asker : Asker) (from : List Key) (before old new : List Sent) (F : Objects) (w : What) → fetches w ≡ true → AsksFew w → (f : Fetching asker from before old F)
    → All (IsReached from f.more) (asked_by w) → (why : SyncFault) → FailsSo old new (order_of asker w) why → IsOne w why → Halts asker from before new why
failed_halts asker from before old new F w is few f reached (fault.BadTree why) never one = absurd never
failed_halts asker from before old new F w is few f reached why fails one = failed_stops asker from before old new F w is few f reached why fails one

not_less : (m n : ℕ) → m < n → n ≤ m → ⊥
not_less m n less most = omega (arith, less, most)

-- a list of some is one of a fetch
pub fetches_some : (ids : List (List ℕ)) → 0 < length ids → fetches (what.GetFs ids) ≡ true
fetches_some [] some = absurd (not_less 0 0 some (omega arith))
fetches_some (id ∷ ids) some = refl

fetches_many : (ids : List (List ℕ)) → 1 < length ids → fetches (what.GetFs ids) ≡ true
fetches_many [] more = absurd (not_less 1 0 more (omega arith))
fetches_many (id ∷ ids) more = refl

pub not_empty : (n : ℕ) (b : Bool) → b ≡ (n == 0) → b ≡ false → 0 < n
not_empty zero b is other = absurd (true≢false (sym is ∙ other))
not_empty (suc n) b is other = omega arith

-- a list of more than one may be refused for want of memory
went_halved : (ids : List (List ℕ)) → 1 < length ids → (outcome : Outcome) → IsRefusedBy (Ok outcome) refusal.NoMemory → goes_on (what.GetFs ids) (Ok outcome) ≡ true
went_halved [] more outcome is = absurd (not_less 1 0 more (omega arith))
went_halved (id ∷ []) more outcome is = absurd (not_less 1 1 more (omega arith))
went_halved (id ∷ next ∷ ids) more (Plain (reply.Refused r) tag) is =
    subst (λ why. (not (ends_sync (what.GetFs (id ∷ next ∷ ids)) why) || is_too_long (what.GetFs (id ∷ next ∷ ids)) why) ≡ true) (sym is) refl
went_halved (id ∷ next ∷ ids) more (Refused r) is =
    subst (λ why. (not (ends_sync (what.GetFs (id ∷ next ∷ ids)) why) || is_too_long (what.GetFs (id ∷ next ∷ ids)) why) ≡ true) (sym is) refl
went_halved (id ∷ next ∷ ids) more _ is = absurd is

-- and then the fetch goes on
pub halved : (asker : Asker) (from : List Key) (before old new : List Sent) (F : Objects) (ids : List (List ℕ)) → length ids ≤ 10000 → 1 < length ids → Fetching asker from before old F
    → AreReached from F ids → IsRefused old new (order_of asker (what.GetFs ids)) refusal.NoMemory → Fetching asker from before new F
halved asker from before old new F ids few more f reached (outcome, grown, refused, can) =
    let w : What = what.GetFs ids in
    one_more asker from before old new F F (order_of asker w, Ok outcome) [] f grown (is_fetch asker w (Ok outcome) (fetches_many ids more) few (timely_refusal w (fetches_many ids more) outcome refusal.NoMemory refused can)) (reached_all asker from before old F f ids reached)
    (went_halved ids more outcome refused, none_named asker w (Ok outcome) (refusal_gives w outcome refusal.NoMemory refused))
    (no_names asker w (Ok outcome) (fetches_many ids more) (refusal_gives w outcome refusal.NoMemory refused)) (λ objects has keeps. keeps) (λ key bytes here. inl here)

-- a list of one
pub one_of : (ids : List (List ℕ)) (why : SyncFault) → IsOfOne ids why → IsOne (what.GetFs ids) why
one_of ids (fault.Refused refusal.NoMemory) is = is
one_of ids (fault.Refused _) is = tt
one_of ids _ is = tt

pub one_object : (key : Key) (why : SyncFault) → IsOne (what.Get key) why
one_object key (fault.Refused refusal.NoMemory) = tt
one_object key (fault.Refused _) = tt
one_object key _ = tt

-- ---- a list that is refused

can_of : (w : What) (outcome : Outcome) (why : Refusal) → CanHave w outcome → IsRefusedBy (Ok outcome) why → can_refuse w why ≡ true
can_of w (Plain (reply.Refused r) tag) why can is = subst (λ x. can_refuse w x ≡ true) is can
can_of w (Refused r) why can is = subst (λ x. can_refuse w x ≡ true) is can
can_of w _ why can is = absurd is

of_one : (ids : List (List ℕ)) (why : Refusal) → length ids ≡ 1 → IsOfOne ids (fault.Refused why)
of_one ids refusal.NoMemory one = one
of_one ids _ one = tt

refused_so : (asker : Asker) (old new : List Sent) (ids : List (List ℕ)) (many : Bool) (why : Refusal) → (many ≡ true → 1 < length ids) → (many ≡ false → length ids ≡ 1)
    → IsRefused old new (order_of asker (what.GetFs ids)) why → GetsRows asker old new ids (refused_of many why)
refused_so asker old new ids false why more one is = (is, of_one ids why (one refl))
refused_so asker old new ids true refusal.NoMemory more one is = (more refl, is)
refused_so asker old new ids true _ more one is = (is, tt)

pub list_refused : (asker : Asker) (old new : List Sent) (ids : List (List ℕ)) (many : Bool) (outcome : Outcome) (why : Refusal) → (many ≡ true → 1 < length ids)
    → (many ≡ false → length ids ≡ 1) → new ≡ old ++ (order_of asker (what.GetFs ids), Ok outcome) ∷ [] → CanHave (what.GetFs ids) outcome → IsRefusedBy (Ok outcome) why
    → GetsRows asker old new ids (refused_of many why)
list_refused asker old new ids many outcome why more one grown can is =
    refused_so asker old new ids many why more one (outcome, grown, is, can_of (what.GetFs ids) outcome why can is)

pub one_left : (n : ℕ) → 0 < n → nat_lt 1 n ≡ false → n ≡ 1
one_left n some few =
    let most : 1 < n → ⊥ = λ more. true≢false (sym ((Decides-ltb 1 n).1 more) ∙ few) in
    omega (arith, most, some)
