-- What became of the fresh keys of a collection that may run. The key lemmas are runs_as, shields_as, runs_then, runs_alike,
-- runs_by, fresh_by, ends_stored and ends_other.
use Rattle.std.proofs.Common.{◌≡◌, ◌||◌, ◌&&◌, not, Bool, true, false, List, refl, sym, ap, ◌∙◌, subst, true≢false, Option, None, Some}
use Rattle.std.specs.FinSet as set
use Rattle.ids.specs.Key.{Objects}
use Rattle.ids.specs.declared.key.Key.{Key}
use Rattle.library_rules.specs.LibraryState.{Running, is_stored}
use Rattle.library_rules.proofs.BesideStepLemmas.{told_after}
use Rattle.library_state.specs.declared.call.Act.{Act}
use Rattle.library_state.specs.declared.reply.Reply.{Reply}
use Rattle.library_state.specs.declared.reply.Reply.TheVariants as reply
use Rattle.object_graph.specs.Traversal.{is_in}
use Rattle.object_store.specs.Shelf.{Contents}
use Rattle.object_store.specs.StoreView.{Index, objects_of}
use Rattle.depot.specs.DepotView.{CollectionView, DepotView, running_of}
use Rattle.depot.specs.Fresh.{AreNew, EndsPut, HasFresh, MayHaveFresh, MayKeep, MayShield, is_stored_reply}
use Rattle.depot.specs.FreshKeys.{RunsOn, came}
use Rattle.depot.proofs.BesideLemmas.{FreshTold}

-- the same collection, of which each key is fresh by whether it was
pub record RunsWith (by : Bool → Key → Bool) (before after : Running) : Type 0 where
  pub stored : after.stored ≡ before.stored
  pub turned : after.turned ≡ before.turned
  pub each : (key : Key) → set.contains after.fresh key ≡ by (set.contains before.fresh key) key

abbrev pub RunsAs : (Bool → Key → Bool) → Option Running → Option Running → Type 0
RunsAs by None after = after ≡ None
RunsAs by (Some before) after = (running : Running) × (after ≡ Some running) × RunsWith by before running

-- nothing is fresh that wasn't
abbrev pub as_before : Bool → Key → Bool
as_before fresh key = fresh

some_running : (n : Option CollectionView) (c : CollectionView) → n ≡ Some c → running_of n ≡ Some c.running
some_running n c is = ap running_of is

pub runs_as : (by : Bool → Key → Bool) (old new : Option CollectionView) → MayHaveFresh (λ fresh key. by (set.contains fresh key) key) old new → RunsAs by (running_of old) (running_of new)
runs_as by None new is = ap running_of is
runs_as by (Some old) new (collection, is, has) = (collection.running, some_running new collection is, record { stored = has.stored; turned = has.turned; each = has.each })

pub shields_as : (keys : List Key) (old new : Option CollectionView) → MayShield keys old new → RunsAs as_before (running_of old) (running_of new)
shields_as keys None new is = ap running_of is
shields_as keys (Some old) new (collection, is, shields) = (
  collection.running,
  some_running new collection is,
  record {
    stored = ap (λ (r : Running). r.stored) shields.runs;
    turned = ap (λ (r : Running). r.turned) shields.runs;
    each = λ key. ap (λ (r : Running). set.contains r.fresh key) shields.runs;
  },
)

pub keeps_as : (keys : List Key) (old new : Option CollectionView) → MayKeep keys old new → RunsAs (λ fresh key. fresh || is_in keys key) (running_of old) (running_of new)
keeps_as keys None new is = ap running_of is
keeps_as keys (Some old) new (collection, is, keeps) = (
  collection.running,
  some_running new collection is,
  record {
    stored = ap (λ (r : Running). r.stored) keeps.shields.runs ∙ keeps.fresh.stored;
    turned = ap (λ (r : Running). r.turned) keeps.shields.runs ∙ keeps.fresh.turned;
    each = λ key. ap (λ (r : Running). set.contains r.fresh key) keeps.shields.runs ∙ keeps.fresh.each key;
  },
)

pub runs_still_as : (running : Option Running) → RunsAs as_before running running
runs_still_as None = refl
runs_still_as (Some r) = (r, refl, record { stored = refl; turned = refl; each = λ key. refl })

pub runs_then : (f g : Bool → Key → Bool) (a b c : Option Running) → RunsAs f a b → RunsAs g b c → RunsAs (λ fresh key. g (f fresh key) key) a c
runs_then f g None b c first second = subst (λ o. RunsAs g o c) first second
runs_then f g (Some before) b c (mid, is, first) second =
    let then : RunsAs g (Some mid) c = subst (λ o. RunsAs g o c) is second in (
      then.0,
      then.1,
      record {
        stored = then.2.stored ∙ first.stored;
        turned = then.2.turned ∙ first.turned;
        each = λ key. then.2.each key ∙ ap (λ b. g b key) (first.each key);
      },
    )

pub runs_alike : (f g : Bool → Key → Bool) (a b : Option Running) → RunsAs f a b
    → ((before : Running) → a ≡ Some before → (key : Key) → f (set.contains before.fresh key) key ≡ g (set.contains before.fresh key) key) → RunsAs g a b
runs_alike f g None b runs each = runs
runs_alike f g (Some before) b (after, is, runs) each = (after, is, record { stored = runs.stored; turned = runs.turned; each = λ key. runs.each key ∙ each before refl key })

-- the collection goes on, where that is what a call does to its fresh keys
pub runs_by : (f : Bool → Key → Bool) (old new : Index) (told : List Key) (a b : Option Running) → RunsAs f a b
    → ((before : Running) → a ≡ Some before → (key : Key) → f (set.contains before.fresh key) key ≡ (set.contains before.fresh key || (came old new key || is_in told key))) → RunsOn old new told a b
runs_by f old new told None b runs each = runs
runs_by f old new told (Some before) b (after, is, runs) each = (
  after,
  is,
  record { stored = runs.stored; turned = runs.turned; fresh = λ key. runs.each key ∙ each before refl key },
)

pub some_same : {a b : Running} → Some a ≡ Some b → a ≡ b
some_same e = cc

-- the same where the shelf tells what it holds
pub fresh_by : {S : Type 0} (contents : S → Option Contents) (old new : DepotView S) (a : Act) (r : Reply) (f : Bool → Key → Bool) → RunsAs f old.running new.running
    → ((before : Running) (was now : Objects) → old.running ≡ Some before → objects_of contents old.store ≡ Some was → objects_of contents new.store ≡ Some now
    → (key : Key) → f (set.contains before.fresh key) key ≡ (set.contains before.fresh key || ((is_stored now key && not (is_stored was key)) || is_in (told_after now a r) key)))
    → FreshTold contents old new a r
fresh_by contents old new a r f runs holds = record {
  each = λ before after was now is_before is_after told_was told_now key.
      let goes : RunsAs f (Some before) (Some after) = subst (λ o. RunsAs f o (Some after)) is_before (subst (λ o. RunsAs f old.running o) is_after runs) in
      ap (λ (q : Running). set.contains q.fresh key) (some_same goes.1) ∙ goes.2.each key ∙ holds before was now is_before told_was told_now key;
}

-- ---- how a put ends, and keys by what they are equal to

pub ends_stored : (keys : List Key) (r : Reply) (old new : Option CollectionView) → is_stored_reply r ≡ true → MayShield keys old new → EndsPut keys r old new
ends_stored keys (reply.Stored newly) old new is shields = shields
ends_stored keys (reply.Refused why) old new is shields = absurd (true≢false (sym is))
ends_stored keys reply.Checked old new is shields = absurd (true≢false (sym is))
ends_stored keys (reply.HeadIs id) old new is shields = absurd (true≢false (sym is))
ends_stored keys (reply.Got bytes) old new is shields = absurd (true≢false (sym is))
ends_stored keys (reply.Absent ids) old new is shields = absurd (true≢false (sym is))
ends_stored keys (reply.Updated id) old new is shields = absurd (true≢false (sym is))
ends_stored keys reply.Limited old new is shields = absurd (true≢false (sym is))
ends_stored keys (reply.Listed ids) old new is shields = absurd (true≢false (sym is))

pub ends_other : (keys : List Key) (r : Reply) (old new : Option CollectionView) → is_stored_reply r ≡ false
    → MayHaveFresh (λ fresh key. set.contains fresh key && not (is_in keys key)) old new → EndsPut keys r old new
ends_other keys (reply.Stored newly) old new is back = absurd (true≢false is)
ends_other keys (reply.Refused why) old new is back = back
ends_other keys reply.Checked old new is back = back
ends_other keys (reply.HeadIs id) old new is back = back
ends_other keys (reply.Got bytes) old new is back = back
ends_other keys (reply.Absent ids) old new is back = back
ends_other keys (reply.Updated id) old new is back = back
ends_other keys reply.Limited old new is back = back
ends_other keys (reply.Listed ids) old new is back = back

pub fresh_itself : (c : CollectionView) → HasFresh (λ key. set.contains c.running.fresh key) c c
fresh_itself c = record { marks = refl; stored = refl; turned = refl; each = λ key. refl }

pub fresh_of : (keys other : List Key) (old new : CollectionView) → keys ≡ other → HasFresh (λ key. set.contains old.running.fresh key || is_in keys key) old new
    → HasFresh (λ key. set.contains old.running.fresh key || is_in other key) old new
fresh_of keys other old new same has = subst (λ (ks : List Key). HasFresh (λ key. set.contains old.running.fresh key || is_in ks key) old new) same has

pub new_of : (keys other : List Key) (old : CollectionView) (made : List Key) → keys ≡ other → AreNew keys old.running.fresh made → AreNew other old.running.fresh made
new_of keys other old made same are = subst (λ (ks : List Key). AreNew ks old.running.fresh made) same are
