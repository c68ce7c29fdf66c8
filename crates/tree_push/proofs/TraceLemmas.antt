-- Sends of an upload, one after another. The key lemmas are went_by, went_wide, asks_wide, went_more, went_free, ran_none, asking_start, asking_more,
-- asking_stop, asking_end and went_as.
use Rattle.std.proofs.Common.{◌≡◌, inl, inr, ℕ, Bool, true, List, [], ◌∷◌, ◌++◌, Result, Ok, Err, refl, sym, ap, ◌∙◌, subst, append_assoc}
use Rattle.std.specs.Prelude.{⊤}
use Rattle.std.proofs.lemmas.List.{append-nil}
use Rattle.std.specs.List.{AllByRecursion}
use Rattle.ids.specs.declared.key.Key.{Key}
use Rattle.ids.specs.declared.key.Kind.{Kind}
use Rattle.http_front.specs.declared.order.What.{What}
use Rattle.http_front.specs.declared.order.What.TheVariants as what
use Rattle.remote_calls.specs.Sends.{Sent}
use Rattle.sync_rules.specs.Named.{put_by}
use Rattle.sync_rules.specs.declared.fault.SyncFault.{SyncFault}
use Rattle.tree_push.specs.Asking.{ArePuts, AsksIds, IsEnd, IsFree, IsSend, Ran, Stopped, Stops, Went, is_own, is_put, AsksAmong, PutsAmong}
use Rattle.tree_push.specs.Lacking.{AsksNoting, Keys}
use Rattle.tree_push.specs.Wanted.{IsIn}
use Rattle.tree_push.specs.declared.asking.Library.{Library}
use Rattle.tree_push.proofs.NotedLemmas.{notes_join, notes_none}

pub all_append : {X : Type 0} (P : X → Type 0) (xs ys : List X) → AllByRecursion P xs → AllByRecursion P ys → AllByRecursion P (xs ++ ys)
all_append P [] ys all more = more
all_append P (x ∷ xs) ys all more = (all.0, all_append P xs ys all.1 more)

pub all_as : {X : Type 0} (P Q : X → Type 0) → ((x : X) → P x → Q x) → (xs : List X) → AllByRecursion P xs → AllByRecursion Q xs
all_as P Q so [] all = tt
all_as P Q so (x ∷ xs) all = (so x all.0, all_as P Q so xs all.1)

-- where more may be asked or put, the same sends are good
module _ (library : Library) (may wide : What → Type 0) (wider : (asked : What) → may asked → wide asked) where
  send_wide : (sent : Sent) → IsSend library may sent → IsSend library wide sent
  send_wide sent is = record { order = is.order; uploads = is.uploads; among = wider sent.0.what is.among; told = is.told; replied = is.replied; well = is.well }

  end_wide : (f : SyncFault) (sent : Sent) → IsEnd library may f sent → IsEnd library wide f sent
  end_wide f sent is = record { order = is.order; uploads = is.uploads; among = wider sent.0.what is.among; ends = is.ends }

  pub stops_wide : (f : SyncFault) (more : List Sent) → Stops library may f more → Stops library wide f more
  stops_wide f [] own = own
  stops_wide f (sent ∷ more) (inl on) = inl (send_wide sent on.0, stops_wide f more on.1)
  stops_wide f (sent ∷ more) (inr ends) = inr (end_wide f sent ends.0, ends.1)

  pub sends_wide : (more : List Sent) → AllByRecursion (IsSend library may) more → AllByRecursion (IsSend library wide) more
  sends_wide more went = all_as (IsSend library may) (IsSend library wide) send_wide more went

  pub went_by : {T : Type 0} (P : List Sent → Type 0) (old new : List Sent) (result : Result T SyncFault) → Went library may P old new result → Went library wide P old new result
  went_by P old new (Ok x) ran = record { more = ran.more; grown = ran.grown; went = sends_wide ran.more ran.went; are = ran.are }
  went_by P old new (Err f) stopped = record { more = stopped.more; grown = stopped.grown; stops = stops_wide f stopped.more stopped.stops }

-- where more keys may be put
pub puts_wide : (may wide : Key → Bool) → ((key : Key) → may key ≡ true → wide key ≡ true) → (asked : What) → PutsAmong may asked → PutsAmong wide asked
puts_wide may wide wider asked puts = (puts.0, all_as (λ (key : Key). may key ≡ true) (λ (key : Key). wide key ≡ true) wider (put_by asked) puts.1)

module _ (library : Library) (may wide : Key → Bool) (wider : (key : Key) → may key ≡ true → wide key ≡ true) where
  pub went_wide : {T : Type 0} (P : List Sent → Type 0) (old new : List Sent) (result : Result T SyncFault) → Went library (PutsAmong may) P old new result
      → Went library (PutsAmong wide) P old new result
  went_wide P old new result went = went_by library (PutsAmong may) (PutsAmong wide) (puts_wide may wide wider) P old new result went

-- an id in a part of a list
in_before : (xs ys : List (List ℕ)) (id : List ℕ) → IsIn id xs → IsIn id (xs ++ ys)
in_before [] ys id there = absurd there
in_before (x ∷ xs) ys id (inl is) = inl is
in_before (x ∷ xs) ys id (inr there) = inr (in_before xs ys id there)

in_behind : (xs ys : List (List ℕ)) (id : List ℕ) → IsIn id ys → IsIn id (xs ++ ys)
in_behind [] ys id there = there
in_behind (x ∷ xs) ys id there = inr (in_behind xs ys id there)

-- where more ids may be asked about
pub asks_wide : (kind : Kind) (ids others : List (List ℕ)) → ((id : List ℕ) → IsIn id ids → IsIn id others) → (asked : What) → AsksAmong kind ids asked → AsksAmong kind others asked
asks_wide kind ids others wider (what.Missing k list) is = (is.0, all_as (λ (id : List ℕ). IsIn id ids) (λ (id : List ℕ). IsIn id others) wider list is.1)
asks_wide kind ids others wider _ is = absurd is

module _ (library : Library) (may : What → Type 0) where
  pub stops_more : (f : SyncFault) (first later : List Sent) → AllByRecursion (IsSend library may) first → Stops library may f later → Stops library may f (first ++ later)
  stops_more f [] later went stops = stops
  stops_more f (sent ∷ first) later went stops = inl (went.0, stops_more f first later went.1 stops)

  stops_own : (f : SyncFault) (more : List Sent) → AllByRecursion (IsSend library may) more → is_own f ≡ true → Stops library may f more
  stops_own f [] went own = own
  stops_own f (sent ∷ more) went own = inl (went.0, stops_own f more went.1 own)

  -- nothing was sent
  pub ran_none : (P : List Sent → Type 0) (old new : List Sent) → new ≡ old → P [] → Ran library may P old new
  ran_none P old new same is = record { more = []; grown = same ∙ sym (append-nil old); went = tt; are = is }

  -- a fault after sends that went well
  pub stopped_later : (P : List Sent → Type 0) (old mid new : List Sent) (f : SyncFault) → Ran library may P old mid → Stopped library may f mid new → Stopped library may f old new
  stopped_later P old mid new f ran then = record {
    more = ran.more ++ then.more;
    grown = then.grown ∙ ap (λ (sends : List Sent). sends ++ then.more) ran.grown ∙ append_assoc old ran.more then.more;
    stops = stops_more f ran.more then.more ran.went then.stops;
  }

  module _ (P Q R : List Sent → Type 0) (join : (first later : List Sent) → P first → Q later → R (first ++ later)) (old mid new : List Sent) where
    -- what comes after sends that went well
    pub went_more : {T : Type 0} (result : Result T SyncFault) → Ran library may P old mid → Went library may Q mid new result → Went library may R old new result
    went_more (Ok x) ran then = record {
      more = ran.more ++ then.more;
      grown = then.grown ∙ ap (λ (sends : List Sent). sends ++ then.more) ran.grown ∙ append_assoc old ran.more then.more;
      went = all_append (IsSend library may) ran.more then.more ran.went then.went;
      are = join ran.more then.more ran.are then.are;
    }
    went_more (Err f) ran then = stopped_later P old mid new f ran then

  -- the same sends, of which something else holds too
  pub went_as : {T : Type 0} (P Q : List Sent → Type 0) → ((more : List Sent) → P more → Q more) → (old new : List Sent) (result : Result T SyncFault)
      → Went library may P old new result → Went library may Q old new result
  went_as P Q so old new (Ok x) ran = record { more = ran.more; grown = ran.grown; went = ran.went; are = so ran.more ran.are }
  went_as P Q so old new (Err f) stopped = stopped

  -- a fault of one's own after sends that went well
  pub stopped_own : (P : List Sent → Type 0) (old new : List Sent) (f : SyncFault) → Ran library may P old new → is_own f ≡ true → Stopped library may f old new
  stopped_own P old new f ran own = record { more = ran.more; grown = ran.grown; stops = stops_own f ran.more ran.went own }

  -- a step that sends nothing and has no fault but want of memory
  pub went_free : {T : Type 0} (P : List Sent → Type 0) (old new : List Sent) (result : Result T SyncFault) → Ran library may P old new → IsFree result → Went library may P old new result
  went_free P old new (Ok x) ran free = ran
  went_free P old new (Err f) ran free = stopped_own P old new f ran (subst (λ (g : SyncFault). is_own g ≡ true) (sym free) refl)

module _ (library : Library) where
  -- ---- lists of ids

  pub asks_join : (kind : Kind) (some others : List (List ℕ)) (first later : List Sent) → AsksIds library kind some first → AsksIds library kind others later
      → AsksIds library kind (some ++ others) (first ++ later)
  asks_join kind some others [] later none asks = subst (λ (ids : List (List ℕ)). AsksIds library kind (ids ++ others) later) (sym none) asks
  asks_join kind some others (sent ∷ first) later asks more =
      (asks.0, asks.1 ++ others, ap (λ (ids : List (List ℕ)). ids ++ others) asks.2 ∙ append_assoc asks.0 asks.1 others, asks.3, asks_join kind asks.1 others first later asks.4 more)

  -- these lists were asked for, what is lacking of them is noted, and these ids are left
  pub record IsAsking (kind : Kind) (ids left : List (List ℕ)) (was is : Keys) (old now : List Sent) : Type 0 where
    pub done : List (List ℕ)
    pub split : ids ≡ done ++ left
    pub ran : Ran library (AsksAmong kind ids) (AsksNoting library kind done was is) old now

  pub asking_start : (kind : Kind) (ids : List (List ℕ)) (was : Keys) (old : List Sent) → IsAsking kind ids ids was was old old
  asking_start kind ids was old = record { done = []; split = refl; ran = ran_none library (AsksAmong kind ids) (AsksNoting library kind [] was was) old old refl (refl, notes_none was) }

  module _ (kind : Kind) (some others : List (List ℕ)) (was is then : Keys) where
    noting_join : (first later : List Sent) → AsksNoting library kind some was is first → AsksNoting library kind others is then later
        → AsksNoting library kind (some ++ others) was then (first ++ later)
    noting_join first later one two = (asks_join kind some others first later one.0 two.0, notes_join was is then first later one.1 two.1)

  -- ids of one list more are among all
  in_list : (ids done left first rest : List (List ℕ)) → ids ≡ done ++ left → left ≡ first ++ rest → (id : List ℕ) → IsIn id first → IsIn id ids
  in_list ids done left first rest split cut id there =
      subst (IsIn id) (sym (split ∙ ap (λ (l : List (List ℕ)). done ++ l) cut)) (in_behind done (first ++ rest) id (in_before first rest id there))

  pub asking_more : (kind : Kind) (ids left first rest : List (List ℕ)) (was is then : Keys) (old now new : List Sent) → IsAsking kind ids left was is old now → left ≡ first ++ rest
      → Ran library (AsksAmong kind first) (AsksNoting library kind first is then) now new → IsAsking kind ids rest was then old new
  asking_more kind ids left first rest was is then old now new asking cut ran = record {
    done = asking.done ++ first;
    split = asking.split ∙ ap (λ (l : List (List ℕ)). asking.done ++ l) cut ∙ sym (append_assoc asking.done first rest);
    ran = went_more library (AsksAmong kind ids) (AsksNoting library kind asking.done was is) (AsksNoting library kind first is then) (AsksNoting library kind (asking.done ++ first) was then)
        (noting_join kind asking.done first was is then) old now new {T = ⊤} (Ok tt) asking.ran
        (went_by library (AsksAmong kind first) (AsksAmong kind ids) (asks_wide kind first ids (in_list ids asking.done left first rest asking.split cut)) {T = ⊤}
        (AsksNoting library kind first is then) now new (Ok tt) ran);
  }

  pub asking_stop : (kind : Kind) (ids left first rest : List (List ℕ)) (was is : Keys) (old now new : List Sent) (f : SyncFault) → IsAsking kind ids left was is old now → left ≡ first ++ rest
      → Stopped library (AsksAmong kind first) f now new → Stopped library (AsksAmong kind ids) f old new
  asking_stop kind ids left first rest was is old now new f asking cut stopped =
      stopped_later library (AsksAmong kind ids) (AsksNoting library kind asking.done was is) old now new f asking.ran
      (went_by library (AsksAmong kind first) (AsksAmong kind ids) (asks_wide kind first ids (in_list ids asking.done left first rest asking.split cut)) {T = ⊤}
      (AsksNoting library kind first was is) now new (Err f) stopped)

  pub asking_end : (kind : Kind) (ids left : List (List ℕ)) (was is : Keys) (old now : List Sent) → IsAsking kind ids left was is old now → left ≡ []
      → Ran library (AsksAmong kind ids) (AsksNoting library kind ids was is) old now
  asking_end kind ids left was is old now asking none =
      subst (λ (l : List (List ℕ)). Ran library (AsksAmong kind ids) (AsksNoting library kind l was is) old now)
      (sym (asking.split ∙ ap (λ (l : List (List ℕ)). asking.done ++ l) none ∙ append-nil asking.done)) asking.ran

  -- ---- puts

  pub puts_join : (first later : List Sent) → ArePuts first → ArePuts later → ArePuts (first ++ later)
  puts_join first later are more = all_append (λ sent. is_put sent.0.what ≡ true) first later are more
