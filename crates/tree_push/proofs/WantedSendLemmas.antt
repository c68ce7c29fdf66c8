-- What is asked about and put by an upload is wanted. The key lemmas are of_asked_objects, of_asked_blocks, of_put_objects, of_put_blocks,
-- sends_wanted and stops_wanted.
use Rattle.std.proofs.Common.{◌≡◌, ◌⊎◌, inl, inr, ℕ, true, List, [], ◌∷◌, Option, None, Some, IsSome, is_some, refl, sym, ap, ◌∙◌, subst, true≢false, map, Bool, ◌++◌}
use Rattle.std.specs.FinMap as fin
use Rattle.std.proofs.lemmas.Bool.{or_cases}
use Rattle.std.specs.List.{AllByRecursion}
use Rattle.ids.specs.declared.key.Key.{Key}
use Rattle.ids.specs.declared.key.Kind.{Kind}
use Rattle.ids.specs.declared.key.Kind.TheVariants as kind
use Rattle.object_graph.specs.Objects.{block_key, fs_key}
use Rattle.object_graph.proofs.KeyLemmas.{in_append, same_key, same_key-true}
use Rattle.http_front.specs.declared.order.What.{What}
use Rattle.http_front.specs.declared.order.What.TheVariants as what
use Rattle.http_front.specs.declared.row.Row.{Row}
use Rattle.remote_calls.specs.Sends.{Sent}
use Rattle.sync_rules.specs.Named.{put_by, Named, keys_named, named_by}
use Rattle.sync_rules.specs.declared.fault.SyncFault.{SyncFault}
use Rattle.tree_push.specs.Asking.{AsksAmong, PutsAmong, key_of, IsSend, Stops}
use Rattle.tree_push.specs.Lacking.{AsksNoting, Keys, has_key}
use Rattle.tree_push.specs.OfferedEntries.{SeenPaths}
use Rattle.tree_push.specs.Upload.{IsWantedKey, OfWanted}
use Rattle.tree_push.specs.Wanted.{AreOwnNamed, AreSeenBlocks, IsIn, ids_in}
use Rattle.tree_push.specs.declared.asking.Library.{Library}
use Rattle.tree_push.specs.declared.wanted.Wanted.{Wanted}
use Rattle.tree_push.proofs.KeyEntryLemmas.{listed_key}
use Rattle.tree_push.proofs.NamedKeyLemmas.{one_named}
use Rattle.tree_push.proofs.TraceLemmas.{all_as}
use Rattle.tree_push.proofs.UploadLemmas.{lacked_asked, noted_lacked}
use Rattle.object_graph.specs.Traversal.{is_in}

asks_of : (wanted : Wanted) (k : Kind) (ids : List (List ℕ)) → ((id : List ℕ) → IsIn id ids → IsWantedKey wanted (key_of k id)) → (asked : What) → AsksAmong k ids asked → OfWanted wanted asked
asks_of wanted k ids are (what.Missing other list) is = each list is.1
  where
    each : (some : List (List ℕ)) → AllByRecursion (λ (id : List ℕ). IsIn id ids) some → OfWanted wanted (what.Missing other some)
    each [] all = tt
    each (id ∷ some) all = (subst (λ (q : Kind). IsWantedKey wanted (key_of q id)) (sym is.0) (are id all.0), each some all.1)
asks_of wanted k ids are _ is = absurd is

puts_of : (wanted : Wanted) (may : Key → Bool) → ((key : Key) → may key ≡ true → IsWantedKey wanted key) → (asked : What) → PutsAmong may asked → OfWanted wanted asked
puts_of wanted may are (what.Put key bytes) puts = (are key puts.1.0, tt)
puts_of wanted may are (what.PutFs rows) puts = each rows puts.1
  where
    each : (some : List Row) → AllByRecursion (λ (key : Key). may key ≡ true) (put_by (what.PutFs some)) → OfWanted wanted (what.PutFs some)
    each [] all = tt
    each (row ∷ some) all = (are (fs_key row.id) all.0, each some all.1)
puts_of wanted may are _ puts = absurd (true≢false (sym puts.0))

-- the objects and the blocks that are wanted, by their ids
module _ (wanted : Wanted) (named : AreOwnNamed wanted.made) (seens : SeenPaths) (seen : AreSeenBlocks seens wanted) where
  made_listed : (id : List ℕ) → IsIn id (ids_in (fin.entries wanted.made)) → has_key wanted.made (fs_key id) ≡ true
  made_listed id there =
      let listed = listed_key wanted.made id there in
      by listed.key (fin.get wanted.made listed.key) refl listed.there listed.is
    where
      by : (k : Key) (o : Option (List ℕ)) → fin.get wanted.made k ≡ o → IsSome o → k.id ≡ id → has_key wanted.made (fs_key id) ≡ true
      by k None got some same = absurd (true≢false (sym some))
      by k (Some text) got some same =
          let own = named k text got in
          let moved : k ≡ fs_key id = own ∙ ap fs_key (sym (ap (λ (q : Key). q.id) own) ∙ same) in
          ap (has_key wanted.made) (sym moved) ∙ ap is_some got

  block_listed : (id : List ℕ) → IsIn id (ids_in (fin.entries wanted.blocks)) → has_key wanted.blocks (block_key id) ≡ true
  block_listed id there =
      let listed = listed_key wanted.blocks id there in
      let block = seen listed.key listed.there in
      let moved : listed.key ≡ block_key id = block.is ∙ ap block_key (sym (ap (λ (k : Key). k.id) block.is) ∙ listed.is) in
      ap (has_key wanted.blocks) (sym moved) ∙ listed.there

  pub of_asked_objects : (asked : What) → AsksAmong kind.Fs (ids_in (fin.entries wanted.made)) asked → OfWanted wanted asked
  of_asked_objects = asks_of wanted kind.Fs (ids_in (fin.entries wanted.made)) (λ id there. inl (made_listed id there))

  pub of_asked_blocks : (asked : What) → AsksAmong kind.Block (ids_in (fin.entries wanted.blocks)) asked → OfWanted wanted asked
  of_asked_blocks = asks_of wanted kind.Block (ids_in (fin.entries wanted.blocks)) (λ id there. inr (block_listed id there))

  -- what is noted as lacking of them
  pub of_put_objects : (library : Library) (noted : Keys) (more : List Sent) → AsksNoting library kind.Fs (ids_in (fin.entries wanted.made)) fin.empty noted more → (asked : What)
      → PutsAmong (has_key noted) asked → OfWanted wanted asked
  of_put_objects library noted more asks =
      puts_of wanted (has_key noted)
      (λ key there.
      let one = lacked_asked library kind.Fs (ids_in (fin.entries wanted.made)) more asks.0 key (sym (noted_lacked library kind.Fs (ids_in (fin.entries wanted.made)) noted more asks key) ∙ there) in
      inl (ap (has_key wanted.made) one.is ∙ made_listed one.id one.there))

  pub of_put_blocks : (library : Library) (noted : Keys) (more : List Sent) → AsksNoting library kind.Block (ids_in (fin.entries wanted.blocks)) fin.empty noted more → (asked : What)
      → PutsAmong (has_key noted) asked → OfWanted wanted asked
  of_put_blocks library noted more asks =
      puts_of wanted (has_key noted)
      (λ key there.
      let one = lacked_asked library kind.Block (ids_in (fin.entries wanted.blocks)) more asks.0 key (sym (noted_lacked library kind.Block (ids_in (fin.entries wanted.blocks)) noted more asks key) ∙ there) in
      inr (ap (has_key wanted.blocks) one.is ∙ block_listed one.id one.there))

-- ---- each key that is named is wanted

in_names : (wanted : Wanted) (names : List Named) → AllByRecursion (λ (n : Named). IsWantedKey wanted n.0) names → (key : Key) → is_in (map (λ (n : Named). n.0) names) key ≡ true
    → IsWantedKey wanted key
in_names wanted [] all key there = absurd (true≢false (sym there))
in_names wanted (n ∷ names) all key there = by (or_cases (same_key key n.0) (is_in (map (λ (m : Named). m.0) names) key) there) (in_names wanted names all.1 key)
  where
    by : (same_key key n.0 ≡ true) ⊎ (is_in (map (λ (m : Named). m.0) names) key ≡ true) → (is_in (map (λ (m : Named). m.0) names) key ≡ true → IsWantedKey wanted key) → IsWantedKey wanted key
    by (inl same) more = subst (IsWantedKey wanted) (sym (same_key-true key n.0 same)) all.0
    by (inr rest) more = more rest

keys_wanted : (wanted : Wanted) (more : List Sent) → AllByRecursion (λ (sent : Sent). OfWanted wanted sent.0.what) more → (key : Key) → is_in (keys_named more) key ≡ true → IsWantedKey wanted key
keys_wanted wanted [] all key there = absurd (true≢false (sym there))
keys_wanted wanted (sent ∷ more) all key there =
    by (or_cases (is_in (map (λ (n : Named). n.0) (named_by sent.0.what)) key) (is_in (keys_named more) key) (sym (in_append (map (λ (n : Named). n.0) (named_by sent.0.what)) (keys_named more) key) ∙ ap (λ (keys : List Key). is_in keys key) (sym (one_named sent more)) ∙ there))
    (keys_wanted wanted more all.1 key)
  where
    by : (is_in (map (λ (n : Named). n.0) (named_by sent.0.what)) key ≡ true) ⊎ (is_in (keys_named more) key ≡ true) → (is_in (keys_named more) key ≡ true → IsWantedKey wanted key) → IsWantedKey wanted key
    by (inl first) later = in_names wanted (named_by sent.0.what) all.0 key first
    by (inr rest) later = later rest

module _ (library : Library) (wanted : Wanted) where
  pub sends_wanted : (more : List Sent) → AllByRecursion (IsSend library (OfWanted wanted)) more → (key : Key) → is_in (keys_named more) key ≡ true → IsWantedKey wanted key
  sends_wanted more went = keys_wanted wanted more (all_as (IsSend library (OfWanted wanted)) (λ (sent : Sent). OfWanted wanted sent.0.what) (λ sent is. is.among) more went)

  all_stopped : (f : SyncFault) (more : List Sent) → Stops library (OfWanted wanted) f more → AllByRecursion (λ (sent : Sent). OfWanted wanted sent.0.what) more
  all_stopped f [] own = tt
  all_stopped f (sent ∷ more) (inl on) = (on.0.among, all_stopped f more on.1)
  all_stopped f (sent ∷ more) (inr ends) =
      (ends.0.among, subst (λ (rest : List Sent). AllByRecursion (λ (other : Sent). OfWanted wanted other.0.what) rest) (sym ends.1) tt)

  pub stops_wanted : (f : SyncFault) (more : List Sent) → Stops library (OfWanted wanted) f more → (key : Key) → is_in (keys_named more) key ≡ true → IsWantedKey wanted key
  stops_wanted f more stops = keys_wanted wanted more (all_stopped f more stops)
