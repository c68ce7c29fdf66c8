-- The keys that orders of an upload name, and what a directory, a file and an index name. The key lemmas are asked_keys, put_keys,
-- found_key, known_listed and changed_own.
use Rattle.std.proofs.Common.{◌≡◌, ◌≢◌, ◌⊎◌, inl, inr, ℕ, ℤ, Bool, true, false, cond, if◌then◌else◌, All, List, [], ◌∷◌, ◌++◌, map, Option, None, Some, refl, sym, ap, ap₂, ◌∙◌, true≢false}
use Rattle.std.proofs.lemmas.Bool.{or_cases, or_left, or_right}
use Rattle.std.proofs.lemmas.List.{map-append}
use Rattle.std.proofs.lemmas.List.Elements.{All-cons, All-nil}
use Rattle.std.proofs.lemmas.Grind.{flat_map-append}
use Rattle.std.specs.Prelude.{◌-◌, ◌^◌, min, pos}
use Rattle.std.specs.Cmp.{tied_itself}
use Rattle.std.specs.FinMap as fin
use Rattle.std.specs.List.{cons_option, filter_map, flat_map}
use Rattle.std.specs.Ordering.{eq_by_cmp, is_eq}
use Rattle.ids.specs.declared.key.Key.{Key}
use Rattle.ids.specs.declared.key.Kind.{Kind}
use Rattle.ids.specs.declared.key.Kind.TheVariants as kind
use Rattle.tree_model.specs.Path.{PathV, path_cmp}
use Rattle.tree_model.proofs.ListedLemmas.{same_path}
use Rattle.block_chunker.specs.ChunkBoundaries.{begun_after, chunks_of, finished_chunks}
use Rattle.block_chunker.specs.declared.cuts.Cuts.{Cuts}
use Rattle.fs_objects.specs.declared.dirent.Dirent.{Dirent}
use Rattle.object_graph.specs.Objects.{block_key, entry_named, fs_key, is_nil, name_cmp}
use Rattle.object_graph.specs.Reached.{block_keys, entry_keys, own_keys}
use Rattle.object_graph.specs.Traversal.{is_in}
use Rattle.object_graph.specs.declared.entry.Entry.TheVariants as entry
use Rattle.object_graph.proofs.EntryLemmas.{Apart, names_total, same_name-true}
use Rattle.object_graph.proofs.KeyLemmas.{in_append, same_key, same_key-itself, same_key-true}
use Rattle.folder_side.specs.Folder.{at}
use Rattle.folder_side.specs.declared.holding.Holding.TheVariants.{File}
use Rattle.folder_side.proofs.SortedEntryLemmas.{skip_first}
use Rattle.local_index.specs.declared.index.Known.{Known}
use Rattle.local_index.specs.declared.index.Known.TheVariants as known
use Rattle.http_front.specs.declared.order.Order.{Order}
use Rattle.http_front.specs.declared.order.What.{What}
use Rattle.http_front.specs.declared.order.What.TheVariants as what
use Rattle.http_front.specs.declared.row.Row.{Row}
use Rattle.remote_calls.specs.Sends.{Sent}
use Rattle.sync_rules.specs.Named.{Named, keys_named, keys_put, named_by, put_by, row_named}
use Rattle.sync_rules.specs.Uploads.{file_key}
use Rattle.tree_push.specs.Asking.{ArePuts, AsksIds, is_put, key_of}
use Rattle.tree_push.specs.OfferedEntries.{file_entry, is_kept}
use Rattle.tree_push.specs.Wanted.{IsIn}
use Rattle.tree_push.specs.declared.asking.Library.{Library}
use Rattle.tree_push.proofs.UploadLemmas.{IsKeyIn}

-- ---- which keys are named

pub named_append : (first later : List Sent) → keys_named (first ++ later) ≡ keys_named first ++ keys_named later
named_append first later =
    ap (map (λ (n : Named). n.0)) (flat_map-append (λ (sent : Sent). named_by sent.0.what) first later)
    ∙ map-append (λ (n : Named). n.0) (flat_map (λ (sent : Sent). named_by sent.0.what) first) (flat_map (λ (sent : Sent). named_by sent.0.what) later)

pub alone_keys : (k : Kind) (ids : List (List ℕ)) → map (λ (n : Named). n.0) (named_by (what.Missing k ids)) ≡ map (key_of k) ids
alone_keys k [] = refl
alone_keys k (id ∷ ids) = ap (λ (keys : List Key). key_of k id ∷ keys) (alone_keys k ids)

pub row_keys_of : (rows : List Row) → map (λ (n : Named). n.0) (map row_named rows) ≡ put_by (what.PutFs rows)
row_keys_of [] = refl
row_keys_of (row ∷ rows) = ap (λ (keys : List Key). fs_key row.id ∷ keys) (row_keys_of rows)

pub one_named : (sent : Sent) (more : List Sent) → keys_named (sent ∷ more) ≡ map (λ (n : Named). n.0) (named_by sent.0.what) ++ keys_named more
one_named sent more = map-append (λ (n : Named). n.0) (named_by sent.0.what) (flat_map (λ (s : Sent). named_by s.0.what) more)

pub asked_keys : (library : Library) (k : Kind) (ids : List (List ℕ)) (more : List Sent) → AsksIds library k ids more → keys_named more ≡ map (key_of k) ids
asked_keys library k ids [] none = ap (map (key_of k)) (sym none)
asked_keys library k ids (sent ∷ more) asks =
    one_named sent more
    ∙ ap₂ (λ (a b : List Key). a ++ b) (ap (λ (o : Order). map (λ (n : Named). n.0) (named_by o.what)) asks.3.asked ∙ alone_keys k asks.0) (asked_keys library k asks.1 more asks.4)
    ∙ sym (map-append (key_of k) asks.0 asks.1) ∙ ap (map (key_of k)) (sym asks.2)

pub put_keys : (third : List Sent) → ArePuts third → keys_named third ≡ keys_put third
put_keys [] puts = refl
put_keys (sent ∷ third) puts = one_named sent third ∙ ap₂ (λ (a b : List Key). a ++ b) (of sent.0.what puts.0) (put_keys third puts.1)
  where
    of : (asked : What) → is_put asked ≡ true → map (λ (n : Named). n.0) (named_by asked) ≡ put_by asked
    of (what.Put key bytes) put = refl
    of (what.PutFs rows) put = row_keys_of rows
    of _ put = absurd (true≢false (sym put))

pub in_keys : (k : Kind) (ids : List (List ℕ)) (id : List ℕ) → IsIn id ids → is_in (map (key_of k) ids) (key_of k id) ≡ true
in_keys k [] id there = absurd there
in_keys k (other ∷ ids) id (inl is) =
    or_left (same_key (key_of k id) (key_of k other)) (is_in (map (key_of k) ids) (key_of k id)) (ap (λ (i : List ℕ). same_key (key_of k id) (key_of k i)) (sym is) ∙ same_key-itself (key_of k id))
in_keys k (other ∷ ids) id (inr there) = or_right (same_key (key_of k id) (key_of k other)) (is_in (map (key_of k) ids) (key_of k id)) (in_keys k ids id there)

pub in_one : (one key : Key) → is_in (one ∷ []) key ≡ true → key ≡ one
in_one one key there = by (or_cases (same_key key one) false there)
  where
    by : (same_key key one ≡ true) ⊎ (false ≡ true) → key ≡ one
    by (inl same) = same_key-true key one same
    by (inr wrong) = absurd (true≢false (sym wrong))

pub all_in_list : (P : Key → Type 0) (keys : List Key) → ((key : Key) → is_in keys key ≡ true → P key) → All P keys
all_in_list P [] so = All-nil P
all_in_list P (key ∷ keys) so =
    All-cons P key keys (so key (or_left (same_key key key) (is_in keys key) (same_key-itself key)))
    (all_in_list P keys (λ other there. so other (or_right (same_key other key) (is_in keys other) there)))

-- ---- what a directory names

-- an entry of a directory, as it is found by its name
pub record IsFound (es : List Dirent) (key : Key) : Type 0 where
  pub e : Dirent
  pub found : entry_named e.name es ≡ Some e
  pub is : key ≡ fs_key e.id
  pub some : is_nil e.id ≡ false

pub own_key_of : (id : List ℕ) (key : Key) → is_in (own_keys id) key ≡ true → (key ≡ fs_key id) × (is_nil id ≡ false)
own_key_of id key there = by (is_nil id) refl there
  where
    by : (b : Bool) → is_nil id ≡ b → is_in (if b then [] else fs_key id ∷ []) key ≡ true → (key ≡ fs_key id) × (is_nil id ≡ false)
    by true none in_none = absurd (true≢false (sym in_none))
    by false some one = (in_one (fs_key id) key one, some)

pub found_key : (es : List Dirent) → Apart es → (key : Key) → is_in (entry_keys es) key ≡ true → IsFound es key
unfolding Apart
found_key [] apart key there = absurd (true≢false (sym there))
found_key (x ∷ es) apart key there =
    by (or_cases (is_in (own_keys x.id) key) (is_in (entry_keys es) key) (sym (in_append (own_keys x.id) (entry_keys es) key) ∙ there)) (found_key es apart.1 key)
  where
    later : IsFound es key → IsFound (x ∷ es) key
    later one = record { e = one.e; found = at (eq_by_cmp name_cmp one.e.name x.name) refl; is = one.is; some = one.some }
      where
        at : (b : Bool) → eq_by_cmp name_cmp one.e.name x.name ≡ b → (if eq_by_cmp name_cmp one.e.name x.name then Some x else entry_named one.e.name es) ≡ Some one.e
        at true same =
            let none : None ≡ Some one.e = sym apart.0 ∙ ap (λ (n : List ℕ). entry_named n es) (sym (same_name-true one.e.name x.name same)) ∙ one.found in
            absurd (cc)
        at false other = ap (λ (b : Bool). if b then Some x else entry_named one.e.name es) other ∙ one.found

    by : (is_in (own_keys x.id) key ≡ true) ⊎ (is_in (entry_keys es) key ≡ true) → (is_in (entry_keys es) key ≡ true → IsFound es key) → IsFound (x ∷ es) key
    by (inl own) more =
        let mine = own_key_of x.id key own in
        record { e = x; found = ap (λ (b : Bool). if b then Some x else entry_named x.name es) (ap is_eq (tied_itself names_total x.name)); is = mine.0; some = mine.1 }
    by (inr rest) more = later (more rest)

pub in_block_list : (ids : List (List ℕ)) (key : Key) → is_in (block_keys ids) key ≡ true → IsKeyIn kind.Block ids key
in_block_list [] key there = absurd (true≢false (sym there))
in_block_list (id ∷ ids) key there = by (or_cases (same_key key (block_key id)) (is_in (block_keys ids) key) there) (in_block_list ids key)
  where
    by : (same_key key (block_key id) ≡ true) ⊎ (is_in (block_keys ids) key ≡ true) → (is_in (block_keys ids) key ≡ true → IsKeyIn kind.Block ids key) → IsKeyIn kind.Block (id ∷ ids) key
    by (inl same) more = record { id = id; is = same_key-true key (block_key id) same; there = inl refl }
    by (inr rest) more = let one = more rest in record { id = one.id; is = one.is; there = inr one.there }

-- the file that an index knows at a path is among those that it knows
pub known_listed : (es : List (PathV × Known)) (path : PathV) (id own : List ℕ) (size mode : ℕ) (mtime : ℤ) (modifier : List ℕ)
    → fin.find path_cmp path es ≡ Some (known.File id own size mode mtime modifier) → is_in (filter_map (λ (e : PathV × Known). file_key e.1) es) (fs_key id) ≡ true
known_listed [] path id own size mode mtime modifier is = absurd (cc)
known_listed (e ∷ es) path id own size mode mtime modifier is = by (same_path path e.0) refl (known_listed es path id own size mode mtime modifier)
  where
    behind : (o : Option Key) → is_in (filter_map (λ (k : PathV × Known). file_key k.1) es) (fs_key id) ≡ true
        → is_in (cons_option o (filter_map (λ (k : PathV × Known). file_key k.1) es)) (fs_key id) ≡ true
    behind None rest = rest
    behind (Some k) rest = or_right (same_key (fs_key id) k) (is_in (filter_map (λ (q : PathV × Known). file_key q.1) es) (fs_key id)) rest

    by : (b : Bool) → same_path path e.0 ≡ b
        → (fin.find path_cmp path es ≡ Some (known.File id own size mode mtime modifier) → is_in (filter_map (λ (k : PathV × Known). file_key k.1) es) (fs_key id) ≡ true)
        → is_in (cons_option (file_key e.1) (filter_map (λ (k : PathV × Known). file_key k.1) es)) (fs_key id) ≡ true
    by true same more =
        let first : Some e.1 ≡ Some (known.File id own size mode mtime modifier) = ap (λ b. cond b (Some e.1) (fin.find path_cmp path es)) (sym same) ∙ is in
        let one : e.1 ≡ known.File id own size mode mtime modifier = cc in
        ap (λ (k : Known). is_in (cons_option (file_key k) (filter_map (λ (q : PathV × Known). file_key q.1) es)) (fs_key id)) one
        ∙ or_left (same_key (fs_key id) (fs_key id)) (is_in (filter_map (λ (q : PathV × Known). file_key q.1) es) (fs_key id)) (same_key-itself (fs_key id))
    by false apart more = behind (file_key e.1) (more (sym (skip_first path e es apart) ∙ is))

-- ---- the entries of files

-- a file that isn't kept has its own id
pub changed_own : (moment : ℕ) (user : List ℕ) (was : Option Known) (own : List ℕ) (size : ℕ) → is_kept was own ≡ false
    → (mode : ℕ) × (mtime : ℤ) × (file_entry moment user was own size ≡ entry.File own mode mtime user size)
changed_own moment user None own size changed = (33188, pos (min moment (2 ^ 63 - 1)), refl)
changed_own moment user (Some known.Dir) own size changed = (33188, pos (min moment (2 ^ 63 - 1)), refl)
changed_own moment user (Some (known.File id its known_size mode mtime modifier)) own size changed = (mode, pos (min moment (2 ^ 63 - 1)), rw changed refl)

pub no_chunks : (cuts : Cuts) → chunks_of cuts [] ≡ []
unfolding chunks_of finished_chunks begun_after
no_chunks cuts = refl
