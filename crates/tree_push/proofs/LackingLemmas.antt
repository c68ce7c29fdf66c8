-- What is noted of a reply. The key lemmas are asked_noting, asked_failed and lacked_of.
use Rattle.std.proofs.Common.{◌≡◌, ◌||◌, inl, inr, ℕ, ◌≤◌, List, [], ◌∷◌, map, Result, Ok, Err, length, refl, sym, ap, ◌∙◌, subst, true, ◌++◌, append_assoc}
use Rattle.std.proofs.lemmas.List.{append-nil}
use Rattle.std.specs.Prelude.{⊤}
use Rattle.std.specs.List.{AllByRecursion}
use Rattle.ids.specs.declared.key.Key.{Key}
use Rattle.ids.specs.declared.key.Kind.{Kind}
use Rattle.library_state.specs.declared.reply.Reply.{Reply}
use Rattle.library_state.specs.declared.reply.Reply.TheVariants as reply
use Rattle.object_graph.specs.Traversal.{is_in}
use Rattle.http_front.specs.declared.order.What.TheVariants as what
use Rattle.http_front.specs.declared.outcome.Outcome.TheVariants as outcome
use Rattle.remote_calls.specs.Sends.{Ending, Sent}
use Rattle.sync_rules.specs.Named.{lacked_by}
use Rattle.sync_rules.specs.Orders.{most_asked}
use Rattle.sync_rules.specs.declared.fault.SyncFault.{SyncFault}
use Rattle.tree_push.specs.Asking.{EndsBy, Stopped, AsksSo, Replies, Went, is_listed, is_own, key_of, order_for, AsksAmong}
use Rattle.tree_push.specs.Lacking.{AsksNoting, Keys, NotesSo, has_key}
use Rattle.tree_push.specs.Wanted.{IsIn}
use Rattle.tree_push.specs.declared.asking.Library.{Library}
use Rattle.tree_push.proofs.EndingLemmas.{upload_ends}

pub lacked_of : (kind : Kind) (ids absent : List (List ℕ)) (ending : Ending) → Replies ending (reply.Absent absent) → lacked_by (what.Missing kind ids) ending ≡ map (key_of kind) absent
lacked_of kind ids absent (Ok (outcome.Plain told tag)) is = ap (λ (r : Reply). lacked_by (what.Missing kind ids) (Ok (outcome.Plain r tag))) (sym is)
lacked_of kind ids absent (Ok (outcome.Refused why)) is = absurd (cc)
lacked_of kind ids absent other is = absurd is

-- each of these ids is one of these
all_of : (front ids : List (List ℕ)) → AllByRecursion (λ (id : List ℕ). IsIn id (front ++ ids)) ids
all_of front [] = tt
all_of front (id ∷ ids) = (
  in_first front id ids,
  subst (λ (l : List (List ℕ)). AllByRecursion (λ (other : List ℕ). IsIn other l) ids) (append_assoc front (id ∷ []) ids) (all_of (front ++ id ∷ []) ids),
)
  where
    in_first : (front : List (List ℕ)) (id : List ℕ) (ids : List (List ℕ)) → IsIn id (front ++ id ∷ ids)
    in_first [] id ids = inl refl
    in_first (x ∷ front) id ids = inr (in_first front id ids)

all_ids : (ids : List (List ℕ)) → AllByRecursion (λ (id : List ℕ). IsIn id ids) ids
all_ids ids = all_of [] ids

module _ (library : Library) (kind : Kind) (ids : List (List ℕ)) (old new : List Sent) (was now : Keys) (can : is_listed kind ≡ true) (few : length ids ≤ most_asked) where
  -- it was asked about these ids, and what the reply tells is noted
  pub asked_noting : (r : Reply) (result : Result ⊤ SyncFault) → AsksSo library (what.Missing kind ids) old new (Ok r) → NotesSo kind r was now result
      → Went library (AsksAmong kind ids) (AsksNoting library kind ids was now) old new result
  asked_noting (reply.Absent absent) (Ok x) asks notes = record {
    more = (order_for library (what.Missing kind ids), asks.0) ∷ [];
    grown = asks.1;
    went = (record { order = refl; uploads = (can, few); among = (refl, all_ids ids); told = reply.Absent absent; replied = asks.2; well = refl }, tt);
    are = (
      (ids, [], sym (append-nil ids), record { asked = refl; absent = absent; told = asks.2; among = asks.3 }, refl),
      λ key. notes key ∙ ap (λ (keys : List Key). has_key was key || is_in keys key) (sym (append-nil (lacked_by (what.Missing kind ids) asks.0) ∙ lacked_of kind ids absent asks.0 asks.2)),
    );
  }
  asked_noting (reply.Absent absent) (Err f) asks notes = record {
    more = (order_for library (what.Missing kind ids), asks.0) ∷ [];
    grown = asks.1;
    stops = inl (record { order = refl; uploads = (can, few); among = (refl, all_ids ids); told = reply.Absent absent; replied = asks.2; well = refl }, subst (λ (g : SyncFault). is_own g ≡ true) (sym notes) refl);
  }
  asked_noting (reply.Refused why) result asks notes =
      subst (λ (r : Result ⊤ SyncFault). Went library (AsksAmong kind ids) (AsksNoting library kind ids was now) old new r) (sym notes) (record {
        more = (order_for library (what.Missing kind ids), asks.0) ∷ [];
        grown = asks.1;
        stops = inr (record { order = refl; uploads = (can, few); among = (refl, all_ids ids); ends = (asks.2, upload_ends (what.Missing kind ids) refl refl why asks.3) }, refl);
      })
  asked_noting other result asks notes = absurd notes

  -- or the order came to nothing
  pub asked_failed : (f : SyncFault) → AsksSo library (what.Missing kind ids) old new (Err f) → Stopped library (AsksAmong kind ids) f old new
  asked_failed f (inl none) = record { more = []; grown = none.1 ∙ sym (append-nil old); stops = subst (λ (g : SyncFault). is_own g ≡ true) (sym none.0) refl }
  asked_failed f (inr one) = record {
    more = (order_for library (what.Missing kind ids), Err one.0) ∷ [];
    grown = one.1;
    stops = inr (
      record {
        order = refl;
        uploads = (can, few);
        among = (refl, all_ids ids);
        ends = subst (λ (g : SyncFault). EndsBy (what.Missing kind ids) (Err one.0) g) (sym one.2) refl;
      },
      refl,
    );
  }
