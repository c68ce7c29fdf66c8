-- What the bytes that were got for a commit leave. The key lemmas are commit_got, commit_fails and commit_failed.
use Rattle.std.proofs.Common.{All, ◌≡◌, ℕ, Bool, true, false, if◌then◌else◌, is_ok, List, [], ◌∷◌, ◌++◌, refl, sym, ap, subst, ◌∙◌, None, Some, Result, Ok, Err, inl, inr}
use Rattle.std.specs.Cmp.Lexicographic.{bytes_decides}
use Rattle.std.specs.FinMap as map
use Rattle.std.specs.List.{Contains, cons_option, filter_map}
use Rattle.std.specs.Prelude.{IfErr}
use Rattle.std.proofs.lemmas.List.Elements.{All-cons, All-nil, Contains-push}
use Rattle.ids.specs.Key.{Objects}
use Rattle.ids.specs.declared.key.Key.{Key}
use Rattle.commit_objects.specs.Commit.{commit_of}
use Rattle.commit_objects.specs.declared.commit.Commit.{Commit}
use Rattle.library_state.specs.declared.reply.Reply.TheVariants as reply
use Rattle.library_state.specs.declared.tag.Tag.{Tag}
use Rattle.object_graph.specs.Objects.{commit_in, commit_key, of_name, same_id}
use Rattle.object_graph.specs.Reached.{pends}
use Rattle.object_graph.specs.declared.fault.TreeFault.{TreeFault}
use Rattle.object_graph.specs.declared.fault.TreeFault.TheVariants as tree
use Rattle.object_graph.proofs.ReachingLemmas.{in_first}
use Rattle.http_front.specs.declared.order.What.TheVariants as what
use Rattle.http_front.specs.declared.outcome.Outcome.TheVariants.{Plain}
use Rattle.tree_walk.specs.declared.fault.WalkFault.{WalkFault}
use Rattle.remote_calls.specs.Sends.{Sent}
use Rattle.sync_rules.specs.Named.{HasAll, IsHadFor, IsNamedSo, has_name, if_named}
use Rattle.sync_rules.specs.Causes.{IsBadCommit, is_of_order}
use Rattle.sync_rules.specs.declared.fault.SyncFault.{SyncFault}
use Rattle.sync_rules.specs.declared.fault.SyncFault.TheVariants as fault
use Rattle.tree_fetch.specs.Asking.{FailsSo, ReadsCommit, order_of}
use Rattle.tree_fetch.specs.Fetching.{CommitFails, FetchesCommit, Fetching, IsReached, Stopped}
use Rattle.tree_fetch.specs.declared.asker.Asker.{Asker}
use Rattle.tree_fetch.proofs.RowLemmas.{get_put, insert_comes, keeps_insert}
use Rattle.tree_fetch.proofs.SendLemmas.{all_of_one, begins, failed_stops, is_fetch, kept_got, one_more, one_object, stops}

-- what is had for an object that was got
had_one : Key → List ℕ → List (Key × List ℕ)
had_one key bytes = if has_name key bytes then (key, bytes) ∷ [] else []

one_had : (key : Key) (bytes : List ℕ) → IsHadFor (filter_map if_named ((key, Some bytes) ∷ [])) (had_one key bytes)
unfolding had_one
one_had key bytes = by (has_name key bytes)
  where
    by : (b : Bool) → IsHadFor (cons_option (if b then Some (key, Some bytes) else None) []) (if b then (key, bytes) ∷ [] else [])
    by true = (refl, tt)
    by false = tt

has_one : (objects : Objects) (key : Key) (bytes : List ℕ) → has_name key bytes ≡ true → HasAll objects (had_one key bytes) → map.get objects key ≡ Some bytes
unfolding had_one
has_one objects key bytes named has =
    let all : HasAll objects ((key, bytes) ∷ []) = subst (λ (b : Bool). HasAll objects (if b then (key, bytes) ∷ [] else [])) named has in
    all.0

-- bytes that are read as no commit of a name spell none
none_spelled : (id bytes : List ℕ) (fault : TreeFault) → commit_in id (Some bytes) ≡ Err fault → (commit : Commit) → commit_of bytes ≡ Ok commit → commit.id ≡ id → ⊥
none_spelled id bytes fault is commit spells named =
    let read : of_name id (Ok commit) ≡ Err fault = ap (of_name id) (sym spells) ∙ is in
    let same : same_id commit.id id ≡ true = (bytes_decides commit.id id).1 named in
    let whole : (if true then Ok commit else Err (tree.Unreadable (commit_key id))) ≡ Err fault =
    ap (λ (b : Bool). if b then Ok commit else Err (tree.Unreadable (commit_key id))) (sym same) ∙ read in
    cc

module _ (asker : Asker) (old new : List Sent) (id : List ℕ) where
  reached : (before : List Sent) → All (IsReached (commit_key id ∷ []) before) (commit_key id ∷ [])
  reached before = all_of_one (IsReached (commit_key id ∷ []) before) (commit_key id) (λ objects has. pends (commit_key id) (in_first (commit_key id) []))

  pub commit_failed : (why : SyncFault) → FailsSo old new (order_of asker (what.Get (commit_key id))) why → Stopped asker (commit_key id ∷ []) old new why
  commit_failed why fails =
      let f = begins asker (commit_key id ∷ []) old in
      failed_stops asker (commit_key id ∷ []) old old new map.empty (what.Get (commit_key id)) refl tt f (reached f.more) why fails (one_object (commit_key id) why)

  pub commit_fails : (bytes : List ℕ) (tag : Tag) → new ≡ old ++ (order_of asker (what.Get (commit_key id)), Ok (Plain (reply.Got bytes) tag)) ∷ []
      → (result : Result Commit SyncFault) → ReadsCommit id bytes result → IfErr result (CommitFails asker old new id)
  commit_fails bytes tag is (Ok commit) spells = tt
  commit_fails bytes tag is (Err f) bad = inr (bytes, tag, is, bad)

  pub commit_got : (bytes : List ℕ) (tag : Tag) → new ≡ old ++ (order_of asker (what.Get (commit_key id)), Ok (Plain (reply.Got bytes) tag)) ∷ []
      → (result : Result Commit SyncFault) → ReadsCommit id bytes result → FetchesCommit asker old new id result
  commit_got bytes tag is (Ok commit) spells =
      let key = commit_key id in
      let sent : Sent = (order_of asker (what.Get key), Ok (Plain (reply.Got bytes) tag)) in
      let named : has_name key bytes ≡ true = ap is_ok spells in
      let f = begins asker (key ∷ []) old in
      let got : Fetching asker (key ∷ []) old new (map.insert map.empty key bytes) =
      one_more asker (key ∷ []) old old new map.empty (map.insert map.empty key bytes) sent (had_one key bytes) f is
      (is_fetch asker (what.Get key) (Ok (Plain (reply.Got bytes) tag)) refl tt refl) (reached f.more)
      (refl, All-cons IsNamedSo (key, Some bytes) [] named (All-nil IsNamedSo)) (one_had key bytes)
      (λ objects has keeps. keeps_insert map.empty objects key bytes keeps (has_one objects key bytes named has))
      (λ at given here.
      elim (insert_comes map.empty key bytes at given here) [
        | inl before ↦ inl before
        | inr same ↦ inr (subst (Contains ((key, Some bytes) ∷ [])) same (Contains-push [] (key, Some bytes)))
      ]) in
      record {
        more = got.more;
        had = got.had;
        sends = got.sends;
        asked = got.asked;
        reached = got.reached;
        went = got.went;
        stored = λ objects has.
            ap (commit_in id) ((got.kept objects (kept_got asker (key ∷ []) old new (map.insert map.empty key bytes) got objects has)).kept key bytes (get_put map.empty key bytes)) ∙ spells;
      }
  commit_got bytes tag is (Err (fault.BadTree why)) bad =
      let key = commit_key id in
      let sent : Sent = (order_of asker (what.Get key), Ok (Plain (reply.Got bytes) tag)) in
      let f = begins asker (key ∷ []) old in
      stops asker (key ∷ []) old old new map.empty sent (had_one key bytes) f is (is_fetch asker (what.Get key) (Ok (Plain (reply.Got bytes) tag)) refl tt refl) (reached f.more) (one_had key bytes)
      (fault.BadTree why)
      (inl (subst (IsBadCommit (f.more ++ sent ∷ [])) (sym bad.0) (order_of asker (what.Get key), bytes, tag, (f.more, refl), refl, refl, none_spelled id bytes (tree.Unreadable key) bad.1)))
      (ap (λ (w : WalkFault). is_of_order (fault.BadTree w)) bad.0) tt
  commit_got bytes tag is (Err fault.NoMemory) bad =
      let key = commit_key id in
      let f = begins asker (key ∷ []) old in
      stops asker (key ∷ []) old old new map.empty (order_of asker (what.Get key), Ok (Plain (reply.Got bytes) tag)) (had_one key bytes) f is
      (is_fetch asker (what.Get key) (Ok (Plain (reply.Got bytes) tag)) refl tt refl) (reached f.more) (one_had key bytes) fault.NoMemory tt refl tt
  commit_got bytes tag is (Err _) bad = absurd bad
