-- What is lacking of what is wanted is put, and nothing else. The key lemmas are off_unlisted, holds_more, seen_file, passed_start, passed_more,
-- passed_stop and uploads_all.
use Rattle.std.proofs.Common.{◌≡◌, ◌||◌, inl, inr, ℕ, Bool, true, false, cond, List, [], ◌∷◌, ◌++◌, length, map, Option, None, Some, IsSome, is_some, Result, Ok, Err, refl, sym, ap, ap₂, ◌∙◌, subst, append_assoc, true≢false}
use Rattle.std.proofs.lemmas.Bool.{or_left, or_right}
use Rattle.std.specs.Prelude.{⊤, ◌⊎◌, ◌&&◌, not, IfErr, option_and_then}
use Rattle.std.specs.FinMap as fin
use Rattle.std.specs.List.{AllByRecursion, filter, list_any}
use Rattle.std.specs.Str.{bytes_eq}
use Rattle.ids.specs.Key.{key_cmp}
use Rattle.ids.specs.declared.key.Key.{Key}
use Rattle.ids.specs.declared.key.Kind.{Kind}
use Rattle.ids.specs.declared.key.Kind.TheVariants as kind
use Rattle.ids.proofs.BasicLemmas.{same_from_bytes_eq}
use Rattle.tree_model.specs.Path.{PathV, path_cmp}
use Rattle.tree_model.proofs.ListedLemmas.{same_path, same_path-true}
use Rattle.block_chunker.specs.declared.cuts.Cuts.{Cuts}
use Rattle.object_graph.specs.Objects.{block_key, fs_key}
use Rattle.object_graph.specs.Reached.{block_keys}
use Rattle.object_graph.specs.Traversal.{is_in}
use Rattle.object_graph.proofs.KeyLemmas.{in_append, same_key, same_key-itself, same_key-true}
use Rattle.folder_side.specs.ScanReport.{block_names, seen_of}
use Rattle.folder_side.specs.declared.holding.Holding.{Holding}
use Rattle.folder_side.specs.declared.holding.Holding.TheVariants.{Dir, File, Other}
use Rattle.folder_side.specs.declared.scan_report.Seen.{Seen}
use Rattle.folder_side.specs.declared.scan_report.Seen.TheVariants as seen
use Rattle.folder_side.proofs.SortedEntryLemmas.{skip_first}
use Rattle.http_client.specs.OrderOutcome.{are_among, is_among}
use Rattle.http_front.specs.declared.order.Order.{Order}
use Rattle.http_front.specs.declared.order.What.{What}
use Rattle.remote_calls.specs.Sends.{Sent}
use Rattle.sync_rules.specs.Named.{keys_lacked, keys_put, lacked_by}
use Rattle.sync_rules.specs.Orders.{PutsLacked}
use Rattle.sync_rules.specs.declared.fault.SyncFault.{SyncFault}
use Rattle.sync_rules.specs.declared.fault.SyncFault.TheVariants as fault
use Rattle.tree_push.specs.Asking.{AsksIds, IsOrderFault, IsSend, Ran, Stopped, key_of}
use Rattle.tree_push.specs.BlockUpload.{IsReadFault, PutsOff}
use Rattle.tree_push.specs.Lacking.{AsksNoting, Keys, has_key}
use Rattle.tree_push.specs.OfferedEntries.{SeenPaths}
use Rattle.tree_push.specs.Puts.{PutsMade}
use Rattle.tree_push.specs.Upload.{IsUploadFault, UploadsAll, UploadsSo, blocks_in, blocks_of, OfWanted}
use Rattle.tree_push.specs.Wanted.{AreOwnNamed, AreSeenBlocks, IsIn, IsSeenBlock, ids_in}
use Rattle.tree_push.specs.declared.asking.Library.{Library}
use Rattle.tree_push.specs.declared.wanted.Wanted.{Wanted}
use Rattle.tree_push.proofs.KeyEntryLemmas.{listed_key}
use Rattle.tree_push.proofs.LackingLemmas.{lacked_of}
use Rattle.tree_push.proofs.PutsLemmas.{in_filter, is_listed_key, key_is_listed, put_append}
use Rattle.tree_push.proofs.NotedLemmas.{lacked_append}
use Rattle.tree_push.proofs.RoundLemmas.{lacked_sends, lacked_stops, PutsTold}
use Rattle.tree_push.proofs.TraceLemmas.{all_append, puts_join, sends_wide, stops_more, stops_wide}

-- ---- files of which nothing is lacking

any_apart : (old : Keys) (ids : List (List ℕ)) → list_any (λ id. has_key old (block_key id)) ids ≡ false → (key : Key) → (has_key old key && is_in (block_keys ids) key) ≡ false
any_apart old [] none key = and_false (has_key old key)
  where
    and_false : (h : Bool) → (h && false) ≡ false
    and_false true = refl
    and_false false = refl
any_apart old (id ∷ ids) none key = by (same_key key (block_key id)) refl (has_key old (block_key id)) refl none (any_apart old ids)
  where
    by : (b : Bool) → same_key key (block_key id) ≡ b → (h : Bool) → has_key old (block_key id) ≡ h → (h || list_any (λ i. has_key old (block_key i)) ids) ≡ false
        → (list_any (λ i. has_key old (block_key i)) ids ≡ false → (k : Key) → (has_key old k && is_in (block_keys ids) k) ≡ false)
        → (has_key old key && (same_key key (block_key id) || is_in (block_keys ids) key)) ≡ false
    by b same true there none more = absurd (true≢false none)
    by true same false gone none more = ap (λ (h : Bool). h && (same_key key (block_key id) || is_in (block_keys ids) key)) (ap (has_key old) (same_key-true key (block_key id) same) ∙ gone)
    by false apart false gone none more = ap (λ (c : Bool). has_key old key && (c || is_in (block_keys ids) key)) apart ∙ more none key

pub off_unlisted : (old : Keys) (ids : List (List ℕ)) → list_any (λ id. has_key old (block_key id)) ids ≡ false → PutsOff ids old old []
off_unlisted old ids none = record {
  puts = tt;
  put = λ key. sym (any_apart old ids none key);
  left = λ key. by (has_key old key) (is_in (block_keys ids) key) (any_apart old ids none key);
}
  where
    by : (h x : Bool) → (h && x) ≡ false → h ≡ (h && not x)
    by true true is = is
    by true false is = refl
    by false x is = refl

-- ---- files that are read again, one after another

-- of each file that was seen this holds, or it is among those that are left
abbrev pub HoldsOrLeft : (Q : PathV → Seen → Type 0) → SeenPaths → List (PathV × Seen) → Type 0
HoldsOrLeft Q seens left = (path : PathV) (s : Seen) → fin.get seens path ≡ Some s → (fin.find path_cmp path left ≡ Some s) ⊎ Q path s

module _ (Q : PathV → Seen → Type 0) (seens : SeenPaths) where
  pub holds_start : HoldsOrLeft Q seens (fin.entries seens)
  holds_start = λ path s is. inl (sym (fin.get-entries seens path) ∙ is)

  pub holds_more : (e : PathV × Seen) (es : List (PathV × Seen)) → HoldsOrLeft Q seens (e ∷ es) → Q e.0 e.1 → HoldsOrLeft Q seens es
  holds_more e es before here = λ path s is. by path s (before path s is) (same_path path e.0) refl
    where
      by : (path : PathV) (s : Seen) → (fin.find path_cmp path (e ∷ es) ≡ Some s) ⊎ Q path s → (b : Bool) → same_path path e.0 ≡ b → (fin.find path_cmp path es ≡ Some s) ⊎ Q path s
      by path s (inr holds) b is = inr holds
      by path s (inl found) true same =
          let one : e.1 ≡ s = some_one (ap (λ b. cond b (Some e.1) (fin.find path_cmp path es)) (sym same) ∙ found) in
          inr (subst (λ (p : PathV). Q p s) (sym (same_path-true path e.0 same)) (subst (Q e.0) one here))
        where
          some_one : {x y : Seen} → Some x ≡ Some y → x ≡ y
          some_one e = cc
      by path s (inl found) false apart = inl (sym (skip_first path e es apart) ∙ found)

  pub holds_end : HoldsOrLeft Q seens [] → (path : PathV) (s : Seen) → fin.get seens path ≡ Some s → Q path s
  holds_end all path s is = by (all path s is)
    where
      by : (fin.find path_cmp path [] ≡ Some s) ⊎ Q path s → Q path s
      by (inl found) = absurd (cc)
      by (inr holds) = holds

-- what was seen of a file is what the folder has there
pub seen_file : (cuts : Cuts) (o : Option Holding) (blocks : List (List ℕ)) (size : ℕ) → Some (seen.File blocks size) ≡ option_and_then (seen_of cuts) o
    → (bytes : List ℕ) × (o ≡ Some (File bytes)) × (blocks ≡ block_names cuts bytes) × (size ≡ length bytes)
seen_file cuts None blocks size is = absurd (cc)
seen_file cuts (Some Dir) blocks size is = absurd (cc)
seen_file cuts (Some Other) blocks size is = absurd (cc)
seen_file cuts (Some (File bytes)) blocks size is =
    let names : blocks ≡ block_names cuts bytes = cc in
    let sized : size ≡ length bytes = cc in
    (bytes, refl, names, sized)

pub order_upload : (f : SyncFault) → IsOrderFault f → IsUploadFault f
order_upload (fault.Remote why) is = tt
order_upload (fault.Refused why) is = tt
order_upload fault.NoMemory is = tt
order_upload _ is = absurd is

read_upload : (path : PathV) (f : SyncFault) → IsReadFault path f → IsUploadFault f
read_upload path fault.Folder is = tt
read_upload path (fault.Changed other) is = tt
read_upload path (fault.Remote why) is = tt
read_upload path (fault.Refused why) is = tt
read_upload path fault.NoMemory is = tt
read_upload path _ is = absurd is

pub reads_upload : {T : Type 0} (path : PathV) (result : Result T SyncFault) → IfErr result (IsReadFault path) → IfErr result IsUploadFault
reads_upload path (Ok x) is = tt
reads_upload path (Err f) is = read_upload path f is

pub orders_upload : {T : Type 0} (result : Result T SyncFault) → IfErr result IsOrderFault → IfErr result IsUploadFault
orders_upload (Ok x) is = tt
orders_upload (Err f) is = order_upload f is

-- ---- what was told to lack was asked about

-- one of these ids has the key
pub record IsKeyIn (k : Kind) (ids : List (List ℕ)) (key : Key) : Type 0 where
  pub id : List ℕ
  pub is : key ≡ key_of k id
  pub there : IsIn id ids

pub key_in : (k : Kind) (ids : List (List ℕ)) (key : Key) → is_in (map (key_of k) ids) key ≡ true → IsKeyIn k ids key
key_in k [] key there = absurd (true≢false (sym there))
key_in k (id ∷ ids) key there = by (same_key key (key_of k id)) refl there (key_in k ids key)
  where
    by : (b : Bool) → same_key key (key_of k id) ≡ b → (same_key key (key_of k id) || is_in (map (key_of k) ids) key) ≡ true
        → (is_in (map (key_of k) ids) key ≡ true → IsKeyIn k ids key) → IsKeyIn k (id ∷ ids) key
    by true same there more = record { id = id; is = same_key-true key (key_of k id) same; there = inl refl }
    by false apart there more =
        let rest = more (ap (λ (b : Bool). b || is_in (map (key_of k) ids) key) (sym apart) ∙ there) in
        record { id = rest.id; is = rest.is; there = inr rest.there }

among_one : (asked : List (List ℕ)) (id : List ℕ) → is_among asked id ≡ true → IsIn id asked
among_one [] id there = absurd (true≢false (sym there))
among_one (other ∷ asked) id there = by (bytes_eq other id) refl there (among_one asked id)
  where
    by : (b : Bool) → bytes_eq other id ≡ b → (bytes_eq other id || is_among asked id) ≡ true → (is_among asked id ≡ true → IsIn id asked) → IsIn id (other ∷ asked)
    by true same there more = inl (sym (same_from_bytes_eq other id same))
    by false apart there more = inr (more (ap (λ (b : Bool). b || is_among asked id) (sym apart) ∙ there))

among_all : (asked ids : List (List ℕ)) (id : List ℕ) → are_among asked ids ≡ true → IsIn id ids → IsIn id asked
among_all asked [] id are there = absurd there
among_all asked (other ∷ ids) id are there = by (is_among asked other) refl are there (among_all asked ids id)
  where
    by : (b : Bool) → is_among asked other ≡ b → (is_among asked other && are_among asked ids) ≡ true → IsIn id (other ∷ ids) → (are_among asked ids ≡ true → IsIn id ids → IsIn id asked) → IsIn id asked
    by true here are (inl is) more = among_one asked id (ap (is_among asked) is ∙ here)
    by true here are (inr there) more = more (ap (λ (b : Bool). b && are_among asked ids) (sym here) ∙ are) there
    by false none are there more = absurd (true≢false (sym are ∙ ap (λ (b : Bool). b && are_among asked ids) none))

in_front : (id : List ℕ) (xs ys : List (List ℕ)) → IsIn id xs → IsIn id (xs ++ ys)
in_front id [] ys there = absurd there
in_front id (x ∷ xs) ys (inl is) = inl is
in_front id (x ∷ xs) ys (inr there) = inr (in_front id xs ys there)

in_back : (id : List ℕ) (xs ys : List (List ℕ)) → IsIn id ys → IsIn id (xs ++ ys)
in_back id [] ys there = there
in_back id (x ∷ xs) ys there = inr (in_back id xs ys there)

pub lacked_asked : (library : Library) (k : Kind) (ids : List (List ℕ)) (more : List Sent) → AsksIds library k ids more → (key : Key) → is_in (keys_lacked more) key ≡ true → IsKeyIn k ids key
lacked_asked library k ids [] none key there = absurd (true≢false (sym there))
lacked_asked library k ids (sent ∷ more) asks key there =
    by (is_in (lacked_by sent.0.what sent.1) key) refl (sym (in_append (lacked_by sent.0.what sent.1) (keys_lacked more) key) ∙ there) (lacked_asked library k asks.1 more asks.4 key)
  where
    told : lacked_by sent.0.what sent.1 ≡ map (key_of k) asks.3.absent
    told = ap (λ (o : Order). lacked_by o.what sent.1) asks.3.asked ∙ lacked_of k asks.0 asks.3.absent sent.1 asks.3.told

    by : (b : Bool) → is_in (lacked_by sent.0.what sent.1) key ≡ b → (is_in (lacked_by sent.0.what sent.1) key || is_in (keys_lacked more) key) ≡ true
        → (is_in (keys_lacked more) key ≡ true → IsKeyIn k asks.1 key) → IsKeyIn k ids key
    by true first all behind =
        let one = key_in k asks.3.absent key (ap (λ (keys : List Key). is_in keys key) (sym told) ∙ first) in
        record {
          id = one.id;
          is = one.is;
          there = subst (λ (l : List (List ℕ)). IsIn one.id l) (sym asks.2) (in_front one.id asks.0 asks.1 (among_all asks.0 asks.3.absent one.id asks.3.among one.there));
        }
    by false none all behind =
        let rest = behind (ap (λ (b : Bool). b || is_in (keys_lacked more) key) (sym none) ∙ all) in
        record { id = rest.id; is = rest.is; there = subst (λ (l : List (List ℕ)). IsIn rest.id l) (sym asks.2) (in_back rest.id asks.0 asks.1 rest.there) }

-- ---- the blocks of what was seen

pub in_block_keys : (ids : List (List ℕ)) (id : List ℕ) → IsIn id ids → is_in (block_keys ids) (block_key id) ≡ true
in_block_keys [] id there = absurd there
in_block_keys (other ∷ ids) id (inl is) =
    or_left (same_key (block_key id) (block_key other)) (is_in (block_keys ids) (block_key id)) (ap (λ (i : List ℕ). same_key (block_key id) (block_key i)) (sym is) ∙ same_key-itself (block_key id))
in_block_keys (other ∷ ids) id (inr there) = or_right (same_key (block_key id) (block_key other)) (is_in (block_keys ids) (block_key id)) (in_block_keys ids id there)

in_blocks : (es : List (PathV × Seen)) (path : PathV) (blocks : List (List ℕ)) (size : ℕ) (id : List ℕ) → fin.find path_cmp path es ≡ Some (seen.File blocks size) → IsIn id blocks → IsIn id (blocks_in es)
in_blocks [] path blocks size id is there = absurd (cc)
in_blocks (e ∷ es) path blocks size id is there = by (same_path path e.0) refl (in_blocks es path blocks size id)
  where
    by : (b : Bool) → same_path path e.0 ≡ b → (fin.find path_cmp path es ≡ Some (seen.File blocks size) → IsIn id blocks → IsIn id (blocks_in es)) → IsIn id (blocks_in (e ∷ es))
    by true same more =
        let one : e.1 ≡ seen.File blocks size = some_one (ap (λ b. cond b (Some e.1) (fin.find path_cmp path es)) (sym same) ∙ is) in
        in_front id (blocks_of e.1) (blocks_in es) (subst (λ (s : Seen). IsIn id (blocks_of s)) (sym one) there)
      where
        some_one : {x y : Seen} → Some x ≡ Some y → x ≡ y
        some_one e = cc
    by false apart more = in_back id (blocks_of e.1) (blocks_in es) (more (sym (skip_first path e es apart) ∙ is) there)

seen_listed : (seens : SeenPaths) (key : Key) → IsSeenBlock seens key → is_in (block_keys (blocks_in (fin.entries seens))) key ≡ true
seen_listed seens key block =
    ap (is_in (block_keys (blocks_in (fin.entries seens)))) block.is
    ∙ in_block_keys (blocks_in (fin.entries seens)) block.id (in_blocks (fin.entries seens) block.path block.blocks block.size block.id (sym (fin.get-entries seens block.path) ∙ block.seen) block.there)

-- ---- orders, one after another

-- sends that went well, and behind which what was told to lack may be put
pub record IsPassed (library : Library) (wanted : Wanted) (old now : List Sent) : Type 0 where
  pub more : List Sent
  pub grown : now ≡ old ++ more
  pub went : AllByRecursion (IsSend library (OfWanted wanted)) more
  pub puts : (later : List Sent) → PutsLacked more later → PutsLacked [] (more ++ later)

module _ (library : Library) (wanted : Wanted) (may : What → Type 0) (of : (asked : What) → may asked → OfWanted wanted asked) (P : List Sent → Type 0) where
  unfoldable pub passed_start : (old now : List Sent) → Ran library may P old now → ((asked : What) → may asked → PutsTold [] asked) → IsPassed library wanted old now
  passed_start old now ran told = record {
    more = ran.more;
    grown = ran.grown;
    went = sends_wide library may (OfWanted wanted) of ran.more ran.went;
    puts = λ later puts. lacked_sends library may [] ran.more later told ran.went puts;
  }

  module _ (old mid new : List Sent) (passed : IsPassed library wanted old mid) (told : (asked : What) → may asked → PutsTold passed.more asked) where
    unfoldable pub passed_more : Ran library may P mid new → IsPassed library wanted old new
    passed_more ran = record {
      more = passed.more ++ ran.more;
      grown = ran.grown ∙ ap (λ (sends : List Sent). sends ++ ran.more) passed.grown ∙ append_assoc old passed.more ran.more;
      went = all_append (IsSend library (OfWanted wanted)) passed.more ran.more passed.went (sends_wide library may (OfWanted wanted) of ran.more ran.went);
      puts = λ later puts.
          subst (λ (sends : List Sent). PutsLacked [] sends) (sym (append_assoc passed.more ran.more later))
          (passed.puts (ran.more ++ later) (lacked_sends library may passed.more ran.more later told ran.went puts));
    }

    pub passed_stop : (f : SyncFault) → Stopped library may f mid new → UploadsSo library wanted old new (Err f)
    passed_stop f stopped = record {
      more = passed.more ++ stopped.more;
      grown = stopped.grown ∙ ap (λ (sends : List Sent). sends ++ stopped.more) passed.grown ∙ append_assoc old passed.more stopped.more;
      puts = passed.puts stopped.more (lacked_stops library may f passed.more stopped.more told stopped.stops);
      ends = stops_more library (OfWanted wanted) f passed.more stopped.more passed.went (stops_wide library may (OfWanted wanted) of f stopped.more stopped.stops);
    }

  pub first_stop : (old new : List Sent) (f : SyncFault) → Stopped library may f old new → ((asked : What) → may asked → PutsTold [] asked) → UploadsSo library wanted old new (Err f)
  first_stop old new f stopped told = record {
    more = stopped.more;
    grown = stopped.grown;
    puts = lacked_stops library may f [] stopped.more told stopped.stops;
    ends = stops_wide library may (OfWanted wanted) of f stopped.more stopped.stops;
  }

-- what is noted in an empty table is what was told to lack
pub noted_lacked : (library : Library) (k : Kind) (ids : List (List ℕ)) (now : Keys) (more : List Sent) → AsksNoting library k ids fin.empty now more → (key : Key)
    → has_key now key ≡ is_in (keys_lacked more) key
noted_lacked library k ids now more notes key = notes.1 key ∙ ap (λ (o : Option ⊤). is_some o || is_in (keys_lacked more) key) (fin.get-empty key_cmp key)

-- ---- all of it

module _ (library : Library) (wanted : Wanted) (seens : SeenPaths) (named : AreOwnNamed wanted.made) (blocks_seen : AreSeenBlocks seens wanted) (objects blocks rest : Keys)
    (first second third last : List Sent) (objects_asked : AsksNoting library kind.Fs (ids_in (fin.entries wanted.made)) fin.empty objects first)
    (blocks_asked : AsksNoting library kind.Block (ids_in (fin.entries wanted.blocks)) fin.empty blocks second) (blocks_put : PutsOff (blocks_in (fin.entries seens)) blocks rest third)
    (objects_put : PutsMade wanted.made objects last) where
  wanted_block : (key : Key) → is_in (keys_lacked second) key ≡ true → is_in (block_keys (blocks_in (fin.entries seens))) key ≡ true
  wanted_block key there =
      let one = lacked_asked library kind.Block (ids_in (fin.entries wanted.blocks)) second blocks_asked.0 key there in
      let listed = listed_key wanted.blocks one.id one.there in
      let block = blocks_seen listed.key listed.there in
      let same : listed.key ≡ key = block.is ∙ ap block_key (sym (ap (λ (k : Key). k.id) block.is) ∙ listed.is) ∙ sym one.is in
      ap (is_in (block_keys (blocks_in (fin.entries seens)))) (sym same) ∙ seen_listed seens listed.key block

  wanted_object : (key : Key) → is_in (keys_lacked first) key ≡ true → has_key wanted.made key ≡ true
  wanted_object key there =
      let one = lacked_asked library kind.Fs (ids_in (fin.entries wanted.made)) first objects_asked.0 key there in
      let listed = listed_key wanted.made one.id one.there in
      by one.id one.is listed.key (fin.get wanted.made listed.key) refl listed.there listed.is
    where
      by : (id : List ℕ) → key ≡ key_of kind.Fs id → (k : Key) (o : Option (List ℕ)) → fin.get wanted.made k ≡ o → IsSome o → k.id ≡ id → has_key wanted.made key ≡ true
      by id is k None got some same = absurd (cc)
      by id is k (Some text) got some same =
          let own = named k text got in
          let moved : k ≡ key = own ∙ ap fs_key (sym (ap (λ (q : Key). q.id) own) ∙ same) ∙ sym is in
          ap (has_key wanted.made) (sym moved) ∙ ap is_some got

  both_put : (key : Key) → is_in (keys_put (third ++ last)) key ≡ is_in (keys_lacked (first ++ second)) key
  both_put key =
      ap (λ (keys : List Key). is_in keys key) (put_append third last) ∙ in_append (keys_put third) (keys_put last) key
      ∙ ap₂ (λ (a b : Bool). a || b) (blocks_are key) (objects_are key) ∙ or_turn (is_in (keys_lacked second) key) (is_in (keys_lacked first) key)
      ∙ sym (in_append (keys_lacked first) (keys_lacked second) key) ∙ ap (λ (keys : List Key). is_in keys key) (sym (lacked_append first second))
    where
      or_turn : (a b : Bool) → (a || b) ≡ (b || a)
      or_turn true true = refl
      or_turn true false = refl
      or_turn false true = refl
      or_turn false false = refl

      and_all : (h x : Bool) → (h ≡ true → x ≡ true) → (h && x) ≡ h
      and_all true x so = so refl
      and_all false x so = refl

      blocks_are : (key : Key) → is_in (keys_put third) key ≡ is_in (keys_lacked second) key
      blocks_are key =
          blocks_put.put key ∙ ap (λ (h : Bool). h && is_in (block_keys (blocks_in (fin.entries seens))) key) (noted_lacked library kind.Block (ids_in (fin.entries wanted.blocks)) blocks second blocks_asked key)
          ∙ and_all (is_in (keys_lacked second) key) (is_in (block_keys (blocks_in (fin.entries seens))) key) (wanted_block key)

      same_bool : (a b : Bool) → (a ≡ true → b ≡ true) → (b ≡ true → a ≡ true) → a ≡ b
      same_bool true b to back = sym (to refl)
      same_bool false true to back = back refl
      same_bool false false to back = refl

      noted : (key : Key) → has_key objects key ≡ is_in (keys_lacked first) key
      noted = noted_lacked library kind.Fs (ids_in (fin.entries wanted.made)) objects first objects_asked

      objects_are : (key : Key) → is_in (keys_put last) key ≡ is_in (keys_lacked first) key
      objects_are key =
          ap (λ (keys : List Key). is_in keys key) objects_put.1
          ∙ same_bool (is_in (filter (has_key wanted.made) (fin.keys objects)) key) (is_in (keys_lacked first) key)
          (λ there. sym (noted key) ∙ is_listed_key objects key (in_filter (has_key wanted.made) (fin.keys objects) key there))
          (λ there. into_filter (fin.keys objects) (wanted_object key there) (key_is_listed objects key (noted key ∙ there)))
        where
          into_filter : (keys : List Key) → has_key wanted.made key ≡ true → is_in keys key ≡ true → is_in (filter (has_key wanted.made) keys) key ≡ true
          into_filter [] made there = there
          into_filter (k ∷ keys) made there = at (same_key key k) refl there (into_filter keys made)
            where
              at : (b : Bool) → same_key key k ≡ b → (same_key key k || is_in keys key) ≡ true → (is_in keys key ≡ true → is_in (filter (has_key wanted.made) keys) key ≡ true)
                  → is_in (filter (has_key wanted.made) (k ∷ keys)) key ≡ true
              at true same there more =
                  ap (λ (b : Bool). is_in (cond b (k ∷ filter (has_key wanted.made) keys) (filter (has_key wanted.made) keys)) key)
                  (ap (has_key wanted.made) (sym (same_key-true key k same)) ∙ made)
                  ∙ or_left (same_key key k) (is_in (filter (has_key wanted.made) keys) key) same
              at false apart there more = behind (has_key wanted.made k) (more (ap (λ (b : Bool). b || is_in keys key) (sym apart) ∙ there))
                where
                  behind : (b : Bool) → is_in (filter (has_key wanted.made) keys) key ≡ true
                      → is_in (cond b (k ∷ filter (has_key wanted.made) keys) (filter (has_key wanted.made) keys)) key ≡ true
                  behind true rest = or_right (same_key key k) (is_in (filter (has_key wanted.made) keys) key) rest
                  behind false rest = rest

  pub uploads_all : UploadsAll library wanted (((first ++ second) ++ third) ++ last)
  uploads_all = record {
    first = first;
    second = second;
    third = third ++ last;
    is = append_assoc (first ++ second) third last;
    objects = objects_asked.0;
    blocks = blocks_asked.0;
    puts = puts_join library third last blocks_put.puts objects_put.0;
    lacked = both_put;
  }
