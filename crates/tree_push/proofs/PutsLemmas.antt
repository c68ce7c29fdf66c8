-- What was put, and what waits still. The key lemmas are put_asked, put_failed, put_waiting, put_added, putting_start, putting_more,
-- putting_stop, putting_end and batch_more.
use Rattle.std.proofs.Common.{◌≡◌, ◌==◌, ◌≤◌, ◌+◌, ◌||◌, inl, inr, ℕ, length, min, Bool, true, false, cond, List, [], ◌∷◌, ◌++◌, map, None, Some, is_some, Result, Ok, Err, refl, sym, ap, ap₂, ◌∙◌, subst, append_assoc, arith, true≢false}
use Rattle.std.proofs.lemmas.List.{append-nil, map-append, nil_from_length}
use Rattle.std.proofs.lemmas.Bool.{eqb-true, or_left, or_right}
use Rattle.std.proofs.lemmas.List.Elements.{All-nil, All-push, filter-append}
use Rattle.std.proofs.lemmas.Grind.{flat_map-append}
use Rattle.std.specs.Prelude.{⊤, OnOk}
use Rattle.std.specs.FinMap as fin
use Rattle.std.specs.FinMap.{contains_key-keys}
use Rattle.std.specs.List.{AllByRecursion, filter}
use Rattle.sha1.specs.Sha1.{sha1}
use Rattle.ids.specs.Key.{Objects, key_cmp}
use Rattle.ids.specs.declared.key.Key.{Key}
use Rattle.library_state.specs.declared.reply.Reply.{Reply}
use Rattle.library_state.specs.declared.reply.Reply.TheVariants as reply
use Rattle.object_graph.specs.Objects.{fs_key}
use Rattle.object_graph.specs.Traversal.{is_in}
use Rattle.object_graph.proofs.KeyLemmas.{in_append, same_key, same_key-itself}
use Rattle.http_client.specs.OrderOutcome.{is_update}
use Rattle.http_front.specs.Rows.{rows_text}
use Rattle.http_front.specs.declared.order.What.{What}
use Rattle.http_front.specs.declared.order.What.TheVariants as what
use Rattle.http_front.specs.declared.row.Row.{Row}
use Rattle.http_front.proofs.RowLemmas.{place_more}
use Rattle.remote_calls.specs.Sends.{Sent}
use Rattle.sync_rules.specs.Named.{is_upload, keys_put, put_by}
use Rattle.sync_rules.specs.declared.fault.SyncFault.{SyncFault}
use Rattle.sync_rules.specs.Orders.{IsRowNamed}
use Rattle.tree_push.specs.Asking.{ArePuts, AsksSo, EndsBy, IsFree, IsSmall, IsUploadWhat, Ran, Stopped, StoresSo, Went, is_own, is_put, order_for, PutsAmong}
use Rattle.tree_push.specs.Lacking.{Keys, has_key}
use Rattle.tree_push.specs.Puts.{HasRoom, IsBatch, PutsInto, PutsKeys, PutsSome, row_keys, row_of}
use Rattle.tree_push.specs.declared.asking.Library.{Library}
use Rattle.tree_push.proofs.EndingLemmas.{upload_ends}
use Rattle.tree_push.proofs.TraceLemmas.{puts_join, ran_none, stopped_later, went_as, went_free, went_more, went_wide}

pub put_append : (first later : List Sent) → keys_put (first ++ later) ≡ keys_put first ++ keys_put later
put_append first later = flat_map-append (λ (sent : Sent). put_by sent.0.what) first later

-- what was put, what waits, and what is left are all
abbrev pub IsLeft : Objects → List Key → List (Key × ⊤) → List Row → List Sent → Type 0
IsLeft made keys left rows more = ArePuts more × ((keys_put more ++ row_keys rows) ++ filter (has_key made) (map (λ (e : Key × ⊤). e.0) left) ≡ filter (has_key made) keys)

pub own_key : (key : Key) (text : List ℕ) → key ≡ fs_key (sha1 text) → fs_key key.id ≡ key
own_key key text is = ap (λ (k : Key). fs_key k.id) is ∙ sym is

all_in : (front keys : List Key) → AllByRecursion (λ (key : Key). is_in (front ++ keys) key ≡ true) keys
all_in front [] = tt
all_in front (key ∷ keys) = (
  in_append front (key ∷ keys) key ∙ or_right (is_in front key) (is_in (key ∷ keys) key) (ap (λ (b : Bool). b || is_in keys key) (same_key-itself key)),
  subst (λ (l : List Key). AllByRecursion (λ (k : Key). is_in l k ≡ true) keys) (append_assoc front (key ∷ []) keys) (all_in (front ++ key ∷ []) keys),
)

-- an order puts what it puts
pub puts_own : (asked : What) → is_put asked ≡ true → PutsAmong (is_in (put_by asked)) asked
puts_own asked puts = (puts, all_in [] (put_by asked))

put_uploads : (asked : What) → is_put asked ≡ true → is_upload asked ≡ true
put_uploads (what.Put key bytes) is = refl
put_uploads (what.PutFs rows) is = refl
put_uploads _ is = absurd (true≢false (sym is))

put_no_update : (asked : What) → is_put asked ≡ true → is_update asked ≡ false
put_no_update (what.Put key bytes) is = refl
put_no_update (what.PutFs rows) is = refl
put_no_update _ is = absurd (true≢false (sym is))

-- ---- keys of a table

pub in_filter : (p : Key → Bool) (keys : List Key) (key : Key) → is_in (filter p keys) key ≡ true → is_in keys key ≡ true
in_filter p [] key there = there
in_filter p (k ∷ keys) key there = by (p k) there (in_filter p keys key)
  where
    keep : (b : Bool) → (b || is_in (filter p keys) key) ≡ true → (is_in (filter p keys) key ≡ true → is_in keys key ≡ true) → (b || is_in keys key) ≡ true
    keep true e more = refl
    keep false e more = more e

    by : (b : Bool) → is_in (cond b (k ∷ filter p keys) (filter p keys)) key ≡ true → (is_in (filter p keys) key ≡ true → is_in keys key ≡ true) → (same_key key k || is_in keys key) ≡ true
    by true some more = keep (same_key key k) some more
    by false some more = or_right (same_key key k) (is_in keys key) (more some)

-- a table has each of its keys
pub is_listed_key : {V : Type 0} (table : fin.FinMap key_cmp V) (key : Key) → is_in (fin.keys table) key ≡ true → has_key table key ≡ true
is_listed_key table key there = contains_key-keys table key ∙ there

pub key_is_listed : {V : Type 0} (table : fin.FinMap key_cmp V) (key : Key) → has_key table key ≡ true → is_in (fin.keys table) key ≡ true
key_is_listed table key there = sym (contains_key-keys table key) ∙ there

module _ (library : Library) where
  -- one order that puts
  pub put_asked : (asked : What) (old new : List Sent) (r : Reply) (result : Result ⊤ SyncFault) → is_put asked ≡ true → IsUploadWhat asked → AsksSo library asked old new (Ok r) → StoresSo r result
      → Went library (PutsAmong (is_in (put_by asked))) (PutsKeys (put_by asked)) old new result
  put_asked asked old new (reply.Stored is_new) result puts uploads asks is =
      subst (λ (r : Result ⊤ SyncFault). Went library (PutsAmong (is_in (put_by asked))) (PutsKeys (put_by asked)) old new r) (sym is) (record {
        more = (order_for library asked, asks.0) ∷ [];
        grown = asks.1;
        went = (record { order = refl; uploads = uploads; among = puts_own asked puts; told = reply.Stored is_new; replied = asks.2; well = refl }, tt);
        are = ((puts, tt), append-nil (put_by asked));
      })
  put_asked asked old new (reply.Refused why) result puts uploads asks is =
      subst (λ (r : Result ⊤ SyncFault). Went library (PutsAmong (is_in (put_by asked))) (PutsKeys (put_by asked)) old new r) (sym is) (record {
        more = (order_for library asked, asks.0) ∷ [];
        grown = asks.1;
        stops = inr (record { order = refl; uploads = uploads; among = puts_own asked puts; ends = (asks.2, upload_ends asked (put_uploads asked puts) (put_no_update asked puts) why asks.3) }, refl);
      })
  put_asked asked old new other result puts uploads asks is = absurd is

  -- an order that came to nothing
  pub put_failed : (asked : What) (old new : List Sent) (f : SyncFault) → is_put asked ≡ true → IsUploadWhat asked → AsksSo library asked old new (Err f) → Stopped library (PutsAmong (is_in (put_by asked))) f old new
  put_failed asked old new f puts uploads (inl none) =
      record { more = []; grown = none.1 ∙ sym (append-nil old); stops = subst (λ (g : SyncFault). is_own g ≡ true) (sym none.0) refl }
  put_failed asked old new f puts uploads (inr one) = record {
    more = (order_for library asked, Err one.0) ∷ [];
    grown = one.1;
    stops = inr (record { order = refl; uploads = uploads; among = puts_own asked puts; ends = subst (λ (g : SyncFault). EndsBy asked (Err one.0) g) (sym one.2) refl }, refl);
  }

  -- nothing is put
  pub put_none : (rows : List Row) (old new : List Sent) → new ≡ old → Ran library (PutsAmong (is_in (row_keys rows))) (PutsSome rows rows) old new
  put_none rows old new same = ran_none library (PutsAmong (is_in (row_keys rows))) (PutsSome rows rows) old new same (tt, refl)

  -- all that waited is put
  pub put_waiting : {T : Type 0} (rows before after : List Row) (old new : List Sent) (result : Result T SyncFault) → rows ≡ before → after ≡ [] → Went library (PutsAmong (is_in (row_keys rows))) (PutsKeys (row_keys rows)) old new result
      → Went library (PutsAmong (is_in (row_keys before))) (PutsSome before after) old new result
  put_waiting rows before after old new result same none went =
      went_as library (PutsAmong (is_in (row_keys before))) (PutsKeys (row_keys rows)) (PutsSome before after)
      (λ more puts. (puts.0, ap (λ (l : List Row). keys_put more ++ row_keys l) none ∙ append-nil (keys_put more) ∙ puts.1 ∙ ap row_keys same)) old new result
      (subst (λ (l : List Row). Went library (PutsAmong (is_in (row_keys l))) (PutsKeys (row_keys rows)) old new result) same went)

  -- a key that wasn't made
  pub put_skipped : (made : Objects) (key : Key) (rows : List Row) (old new : List Sent) → new ≡ old → fin.get made key ≡ None → Ran library (PutsAmong (is_in (row_keys rows))) (PutsInto made (key ∷ []) rows rows) old new
  put_skipped made key rows old new same none =
      ran_none library (PutsAmong (is_in (row_keys rows))) (PutsInto made (key ∷ []) rows rows) old new same
      (tt, sym (append-nil (row_keys rows)) ∙ ap (λ (b : Bool). row_keys rows ++ cond b (key ∷ []) []) (sym (ap is_some none)))

  -- one that was waits behind the others
  pub put_added : (made : Objects) (key : Key) (bytes text : List ℕ) (rows mid all : List Row) (old new : List Sent) (result : Result ⊤ SyncFault) → Ran library (PutsAmong (is_in (row_keys rows))) (PutsSome rows mid) old new
      → IsFree result → OnOk result (all ≡ mid ++ row_of key.id bytes ∷ []) → fin.get made key ≡ Some text → fs_key key.id ≡ key
      → Went library (PutsAmong (is_in (row_keys rows))) (PutsInto made (key ∷ []) rows all) old new result
  put_added made key bytes text rows mid all old new (Ok x) ran free more there own = record {
    more = ran.more;
    grown = ran.grown;
    went = ran.went;
    are = (
      ran.are.0,
      ap (λ (l : List Row). keys_put ran.more ++ row_keys l) more ∙ ap (λ (l : List Key). keys_put ran.more ++ l) (map-append (λ (row : Row). fs_key row.id) mid (row_of key.id bytes ∷ []))
          ∙ sym (append_assoc (keys_put ran.more) (row_keys mid) (fs_key key.id ∷ []))
          ∙ ap₂ (λ (a b : List Key). a ++ b) ran.are.1 (ap (λ (k : Key). k ∷ []) own ∙ ap (λ (b : Bool). cond b (key ∷ []) []) (sym (ap is_some there))),
    );
  }
  put_added made key bytes text rows mid all old new (Err f) ran free more there own = went_free library (PutsAmong (is_in (row_keys rows))) {T = ⊤} (PutsSome rows mid) old new (Err f) ran free

  -- ---- one key after another

  pub putting_start : (made : Objects) (lacking : Keys) (left : List (Key × ⊤)) (rows : List Row) (sends : List Sent) → left ≡ fin.entries lacking → rows ≡ []
      → Ran library (PutsAmong (has_key lacking)) (IsLeft made (fin.keys lacking) left rows) sends sends
  putting_start made lacking left rows sends all none =
      ran_none library (PutsAmong (has_key lacking)) (IsLeft made (fin.keys lacking) left rows) sends sends refl
      (tt, ap₂ (λ (r : List Row) (l : List (Key × ⊤)). row_keys r ++ filter (has_key made) (map (λ (e : Key × ⊤). e.0) l)) none all)

  module _ (made : Objects) (lacking : Keys) where
    abbrev keys : List Key
    keys = fin.keys lacking

    -- the rows that wait are lacking
    waits_lacking : (left : List (Key × ⊤)) (rows : List Row) (more : List Sent) → IsLeft made keys left rows more → (key : Key) → is_in (row_keys rows) key ≡ true → has_key lacking key ≡ true
    waits_lacking left rows more is key there =
        let behind = filter (has_key made) (map (λ (e : Key × ⊤). e.0) left) in
        let waiting : is_in (keys_put more ++ row_keys rows) key ≡ true
        = in_append (keys_put more) (row_keys rows) key ∙ or_right (is_in (keys_put more) key) (is_in (row_keys rows) key) there in
        let all : is_in (filter (has_key made) keys) key ≡ true
        = ap (λ (l : List Key). is_in l key) (sym is.1) ∙ in_append (keys_put more ++ row_keys rows) behind key
        ∙ or_left (is_in (keys_put more ++ row_keys rows) key) (is_in behind key) waiting in
        is_listed_key lacking key (in_filter (has_key made) keys key all)

    pub putting_more : (key : Key) (left : List (Key × ⊤)) (rows all : List Row) (old mid new : List Sent) → Ran library (PutsAmong (has_key lacking)) (IsLeft made keys ((key, tt) ∷ left) rows) old mid
        → Ran library (PutsAmong (is_in (row_keys rows))) (PutsInto made (key ∷ []) rows all) mid new → Ran library (PutsAmong (has_key lacking)) (IsLeft made keys left all) old new
    putting_more key left rows all old mid new ran then =
        went_more library (PutsAmong (has_key lacking)) (IsLeft made keys ((key, tt) ∷ left) rows) (PutsInto made (key ∷ []) rows all) (IsLeft made keys left all) join old mid new {T = ⊤} (Ok tt) ran
        (went_wide library (is_in (row_keys rows)) (has_key lacking) (waits_lacking ((key, tt) ∷ left) rows ran.more ran.are) {T = ⊤} (PutsInto made (key ∷ []) rows all) mid new (Ok tt) then)
      where
        join : (first later : List Sent) → IsLeft made keys ((key, tt) ∷ left) rows first → PutsInto made (key ∷ []) rows all later → IsLeft made keys left all (first ++ later)
        join first later one two =
            let rest = filter (has_key made) (map (λ (e : Key × ⊤). e.0) left) in
            let here = filter (has_key made) (key ∷ []) in (
              puts_join library first later one.0 two.0,
              ap (λ (l : List Key). (l ++ row_keys all) ++ rest) (put_append first later)
                  ∙ ap (λ (l : List Key). l ++ rest) (append_assoc (keys_put first) (keys_put later) (row_keys all) ∙ ap (λ (l : List Key). keys_put first ++ l) two.1 ∙ sym (append_assoc (keys_put first) (row_keys rows) here))
                  ∙ append_assoc (keys_put first ++ row_keys rows) here rest
                  ∙ ap (λ (l : List Key). (keys_put first ++ row_keys rows) ++ l) (sym (filter-append (has_key made) (key ∷ []) (map (λ (e : Key × ⊤). e.0) left))) ∙ one.1,
            )

    -- a fault in the middle
    pub putting_stop : (left : List (Key × ⊤)) (rows : List Row) (old mid new : List Sent) (f : SyncFault) → Ran library (PutsAmong (has_key lacking)) (IsLeft made keys left rows) old mid
        → Stopped library (PutsAmong (is_in (row_keys rows))) f mid new → Stopped library (PutsAmong (has_key lacking)) f old new
    putting_stop left rows old mid new f ran then =
        stopped_later library (PutsAmong (has_key lacking)) (IsLeft made keys left rows) old mid new f ran
        (went_wide library (is_in (row_keys rows)) (has_key lacking) (waits_lacking left rows ran.more ran.are) {T = ⊤} (IsLeft made keys left rows) mid new (Err f) then)

    pub putting_end : (left : List (Key × ⊤)) (rows after : List Row) (old mid new : List Sent) (result : Result ⊤ SyncFault) → left ≡ [] → after ≡ []
        → Ran library (PutsAmong (has_key lacking)) (IsLeft made keys left rows) old mid → Went library (PutsAmong (is_in (row_keys rows))) (PutsSome rows after) mid new result
        → Went library (PutsAmong (has_key lacking)) (PutsKeys (filter (has_key made) keys)) old new result
    putting_end left rows after old mid new result all none ran then =
        went_more library (PutsAmong (has_key lacking)) (IsLeft made keys left rows) (PutsSome rows after) (PutsKeys (filter (has_key made) keys)) join old mid new result ran
        (went_wide library (is_in (row_keys rows)) (has_key lacking) (waits_lacking left rows ran.more ran.are) (PutsSome rows after) mid new result then)
      where
        join : (first later : List Sent) → IsLeft made keys left rows first → PutsSome rows after later → PutsKeys (filter (has_key made) keys) (first ++ later)
        join first later one two = (
          puts_join library first later one.0 two.0,
          put_append first later
              ∙ ap (λ (l : List Key). keys_put first ++ l) (sym (append-nil (keys_put later)) ∙ ap (λ (l : List Row). keys_put later ++ row_keys l) (sym none) ∙ two.1)
              ∙ sym (append-nil (keys_put first ++ row_keys rows))
              ∙ ap (λ (l : List (Key × ⊤)). (keys_put first ++ row_keys rows) ++ filter (has_key made) (map (λ (e : Key × ⊤). e.0) l)) (sym all) ∙ one.1,
        )

-- ---- what waits in a batch

pub no_batch : (rows : List Row) (size : ℕ) → rows ≡ [] → size ≡ 0 → IsBatch rows size
no_batch rows size none is =
    subst (λ (r : List Row). IsBatch r size) (sym none) (record { named = All-nil IsRowNamed; small = inl (omega arith); counted = λ few. omega (arith, is) })

pub small_left : (rows before : List Row) (size : ℕ) → rows ≡ before → IsBatch before size → IsUploadWhat (what.PutFs rows)
small_left rows before size same is = subst (λ (r : List Row). IsUploadWhat (what.PutFs r)) (sym same) (is.named, is.small)

pub room_left : (rows : List Row) (size more left : ℕ) → left ≡ min (size + more) 18446744073709551615 → left ≤ 1048576 → HasRoom rows size more
room_left rows size more left is few = inr (omega (arith, is, few))

pub room_after : (rows : List Row) (size more : ℕ) → rows ≡ [] → HasRoom rows size more
room_after rows size more none = inl none

pub batch_more : (rows all : List Row) (id bytes : List ℕ) (size more now : ℕ) → IsBatch rows size → sha1 bytes ≡ id → length id ≡ 20 → more ≡ min (44 + length bytes) 18446744073709551615
    → HasRoom rows size more → now ≡ min (size + more) 18446744073709551615 → all ≡ rows ++ row_of id bytes ∷ [] → IsBatch all now
batch_more rows all id bytes size more now is named digits sized room grown added =
    let longer : length (rows_text (rows ++ row_of id bytes ∷ [])) ≡ length (rows_text rows) + (44 + length bytes) = place_more rows id bytes digits in
    subst (λ (r : List Row). IsBatch r now) (sym added) (record {
      named = All-push IsRowNamed rows (row_of id bytes) is.named named;
      small = small room longer;
      counted = λ few. counted longer few;
    })
  where
    small : HasRoom rows size more → length (rows_text (rows ++ row_of id bytes ∷ [])) ≡ length (rows_text rows) + (44 + length bytes) → IsSmall (rows ++ row_of id bytes ∷ [])
    small (inl none) longer = inr (ap (λ (r : List Row). length (r ++ row_of id bytes ∷ [])) none)
    small (inr few) longer = let so = is.counted (omega (arith, few)) in inl (omega (arith, few, so, sized, longer))

    counted : length (rows_text (rows ++ row_of id bytes ∷ [])) ≡ length (rows_text rows) + (44 + length bytes) → now ≤ 1048576
        → length (rows_text (rows ++ row_of id bytes ∷ [])) ≤ now
    counted longer few = let so = is.counted (omega (arith, few, grown)) in omega (arith, few, so, sized, grown, longer)

pub empty_rows : (rows : List Row) → (length rows == 0) ≡ true → rows ≡ []
empty_rows rows is = nil_from_length rows (eqb-true (length rows) 0 is)
