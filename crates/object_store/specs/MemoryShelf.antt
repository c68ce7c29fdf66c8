-- A shelf in memory, as contracts see it: what it holds, and which calls are to fail. Read first: Shelf. Our own.
use Rattle.std.specs.Prelude.{ℕ, ◌≡◌, ◌↔◌, Bool, false, List, length, Option, None, Some, IsSome, option_map, unwrap_or, Result, Ok, Err, ⊤, if◌then◌else◌, IsTrue, refl}
use Rattle.std.proofs.Common.{ap, ◌∙◌}
use Rattle.std.specs.Coded.{Coded, code_by, coded×, coded_list, coded_ℕ}
use Rattle.std.specs.FinMap as map
use Rattle.std.specs.Ordering.{is_gt}
use Rattle.std.specs.declared.cmp.Ordering.TheVariants.{Less}
use Rattle.ids.specs.FaultCount.{counted, is_due}
use Rattle.ids.specs.Key.{Objects, key_cmp}
use Rattle.ids.specs.ObjectId.{nil}
use Rattle.ids.specs.declared.key.Key.{Key}
use Rattle.ids.specs.declared.key.Kind.{Kind}
use Rattle.object_store.specs.Shelf.{Contents, contents_code, lies_in}
use Rattle.object_store.specs.declared.shelf.Found.{Found}
use Rattle.object_store.specs.declared.shelf.ShelfFailed.{ShelfFailed}
use Rattle.object_store.specs.declared.shelf.ShelfFailed.TheVariants.{Shelf, NoMemory}
use Rattle.object_store.specs.declared.shelf.Slot.{Slot}

-- `calls` counts the calls so far, up to 2 ^ 64 - 1, and `texts` the puts of the status text, in proofs alone
pub record MemoryShelfState : Type 0 where
  pub contents : Contents
  pub fails : List ℕ
  pub calls : ℕ
  pub faults : ℕ
  pub texts : ℕ

-- it is stored as its fields
abbrev pub memory_shelf_code : Coded MemoryShelfState
memory_shelf_code = code_by (Contents × (List ℕ × (ℕ × (ℕ × ℕ)))) (coded× contents_code (coded× (coded_list coded_ℕ) (coded× coded_ℕ (coded× coded_ℕ coded_ℕ))))
    (λ shelf. (shelf.contents, (shelf.fails, (shelf.calls, (shelf.faults, shelf.texts)))))
    (λ t. record { contents = t.0; fails = t.1.0; calls = t.1.1.0; faults = t.1.1.1.0; texts = t.1.1.1.1 }) (λ _. refl)

-- the next call of the shelf is to fail
abbrev pub fails_next : MemoryShelfState → Bool
fails_next shelf = is_due shelf.fails shelf.calls

-- the shelf once the next call was counted
abbrev pub begun : MemoryShelfState → MemoryShelfState
begun shelf = record shelf {
  calls = counted shelf.calls;
  faults = if fails_next shelf then counted shelf.faults else shelf.faults;
}

-- the answer is that the shelf failed
abbrev pub IsFailure : {T : Type 0} → Result T ShelfFailed → Type 0
IsFailure (Ok done) = ⊥
IsFailure (Err Shelf) = ⊤
IsFailure (Err NoMemory) = ⊥

-- the contents where a call is answered so
abbrev pub contents_after : {T : Type 0} → Contents → Contents → Result T ShelfFailed → Contents
contents_after old changed (Ok done) = changed
contents_after old changed (Err failed) = old

-- a call that is to fail answers Shelf, and no other does; what it leaves is the counted shelf, with these contents
-- where it is answered as done, and with some count of texts
pub record ShelfAnswers {T : Type 0} (old new : MemoryShelfState) (changed : Contents) (result : Result T ShelfFailed) : Type 0 where
  pub fails : (IsFailure result) ↔ IsTrue (fails_next old)
  pub after : new ≡ record (begun old) { contents = contents_after old.contents changed result; texts = new.texts }

-- every id of the objects has 20 bytes
abbrev pub HasIds : Objects → Type 0
HasIds objects = (key : Key) → IsSome (map.get objects key) → length key.id ≡ 20

-- the key stands at the cursor or behind it: behind an id of the kind, or anywhere from the kind's first id on
abbrev pub IsPast : Kind → Option (List ℕ) → Key → Type 0
IsPast kind None key = is_gt (key_cmp (record { kind = kind; id = nil }) key) ≡ false
IsPast kind (Some id) key = key_cmp (record { kind = kind; id = id }) key ≡ Less

-- the key is the least of the stored ones that are past the cursor
pub record IsFirstPast (objects : Objects) (kind : Kind) (after : Option (List ℕ)) (key : Key) : Type 0 where
  pub there : IsSome (map.get objects key)
  pub past : IsPast kind after key
  pub least : (q : Key) → IsPast kind after q → IsSome (map.get objects q) → is_gt (key_cmp key q) ≡ false

-- the least stored key that is past the cursor, and none where there is none
abbrev pub FindsKey : Objects → Kind → Option (List ℕ) → Option Key → Type 0
FindsKey objects kind after None = (q : Key) → IsPast kind after q → map.get objects q ≡ None
FindsKey objects kind after (Some key) = IsFirstPast objects kind after key

pub record IsFirstFrom (objects : Objects) (first key : Key) : Type 0 where
  pub there : IsSome (map.get objects key)
  pub past : is_gt (key_cmp first key) ≡ false
  pub least : (q : Key) → is_gt (key_cmp first q) ≡ false → IsSome (map.get objects q) → is_gt (key_cmp key q) ≡ false

-- the least stored key from this one on
abbrev pub IsLeastFrom : Objects → Key → Option Key → Type 0
IsLeastFrom objects first None = (q : Key) → is_gt (key_cmp first q) ≡ false → map.get objects q ≡ None
IsLeastFrom objects first (Some key) = IsFirstFrom objects first key

-- what is found at a key, if it is of the kind
abbrev pub FindsAt : Objects → Kind → Key → Option Found → Type 0
FindsAt objects kind key None = (key.kind ≡ kind) → map.get objects key ≡ None
FindsAt objects kind key (Some found) =
    (key.kind ≡ kind) × (found.id ≡ key.id) × (option_map length (map.get objects key) ≡ Some found.size)

told_some : {held given : Contents} → Some held ≡ Some given → held ≡ given
told_some {held} e = ap (λ o. unwrap_or o held) e

-- a shelf that tells its contents gives them
pub what_is_told : (shelf : MemoryShelfState) (held : Contents) (slot : Slot) (given : Option (List ℕ))
    → Some shelf.contents ≡ Some held → given ≡ lies_in shelf.contents slot → given ≡ lies_in held slot
what_is_told shelf held slot given told is = is ∙ ap (λ c. lies_in c slot) (told_some told)
