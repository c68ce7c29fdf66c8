-- Made objects, looked up one by one. The key lemmas are drops_start, drops_more, drops_other and drops_end.
use Rattle.std.proofs.Common.{◌≡◌, ◌≤◌, ◌<◌, ◌-◌, ◌&&◌, not, inr, ℕ, zero, suc, arith, Err, Bool, true, false, cond, if◌then◌else◌, is_some, IsSome, List, refl, sym, ap, ◌∙◌, subst, Option, None, Some, true≢false}
use Rattle.std.specs.FinMap as map
use Rattle.std.specs.Cmp.Lexicographic.{bytes_decides}
use Rattle.std.specs.Str.{bytes_eq}
use Rattle.sha1.specs.Sha1.{sha1}
use Rattle.ids.specs.Key.{Objects, key_cmp}
use Rattle.ids.specs.declared.key.Key.{Key}
use Rattle.object_store.specs.Store.{has_other_name, is_named_by_bytes, same_bytes}
use Rattle.ids.proofs.KeyOrderLemmas.{key_cmp_total}
use Rattle.object_graph.specs.Unchanged.{Keeps}
use Rattle.object_graph.proofs.KeyLemmas.{same_key-true, same_key}
use Rattle.tree_merge.specs.Merging.{AreLeft, FindsSo, IsOtherAt, IsSameAt, IsStoredOther, LeavesSo}
use Rattle.tree_merge.specs.TreeBuilding.{AreNamed, IsCollision, IsOwnName}
use Rattle.tree_merge.specs.declared.merging.MergeFault.{MergeFault}
use Rattle.tree_merge.specs.declared.merging.MergeFault.TheVariants.{Taken, TooLong, TooMany, Walk}

-- some of what was made is still to be looked up
pub record DropsSo (objects whole rest left : Objects) : Type 0 where
  pub waits : (key : Key) → IsSome (map.get rest key) → (map.get rest key ≡ map.get whole key) × (map.get left key ≡ None)
  pub done : (key : Key) → map.get rest key ≡ None → map.get left key ≡ (if is_some (map.get objects key) then None else map.get whole key)
  pub same : (key : Key) (bytes : List ℕ) → map.get rest key ≡ None → map.get whole key ≡ Some bytes → IsSameAt objects key bytes

nothing : (b : Bool) (o : Option (List ℕ)) → o ≡ None → None ≡ (if b then None else o)
nothing true o is = refl
nothing false o is = sym is

pub drops_start : (objects whole left : Objects) → left ≡ map.empty → DropsSo objects whole whole left
drops_start objects whole left is =
    let none : (key : Key) → map.get left key ≡ None = λ key. ap (λ (m : Objects). map.get m key) is ∙ map.get-empty key_cmp key in
    record {
      waits = λ key some. (refl, none key);
      done = λ key gone. none key ∙ nothing (is_some (map.get objects key)) (map.get whole key) gone;
      same = λ key bytes gone there. cc;
    }

-- one more is looked up: it is stored, or it is left
module _ (objects whole rest after left left_after : Objects) (key : Key) (bytes : List ℕ) (so : DropsSo objects whole rest left)
    (there : map.get rest key ≡ Some bytes) (taken : after ≡ map.remove rest key)
    (put : (q : Key) → map.get left_after q ≡ cond (same_key q key) (if is_some (map.get objects key) then None else Some bytes) (map.get left q))
    (alike : IsSameAt objects key bytes) where
  rest_at : (q : Key) → map.get after q ≡ cond (same_key q key) None (map.get rest q)
  rest_at q = ap (λ (m : Objects). map.get m q) taken ∙ map.get-remove key_cmp_total rest key q

  whole_at : map.get whole key ≡ Some bytes
  whole_at = sym (so.waits key (ap is_some there)).0 ∙ there

  pub drops_more : DropsSo objects whole after left_after
  drops_more = record {
    waits = λ q some. waits q (same_key q key) refl some;
    done = λ q gone. done q (same_key q key) refl gone;
    same = λ q other gone is. same q other (same_key q key) refl gone is;
  }
    where
      waits : (q : Key) (b : Bool) → same_key q key ≡ b → IsSome (map.get after q) → (map.get after q ≡ map.get whole q) × (map.get left_after q ≡ None)
      waits q true tie some = absurd (true≢false (sym some ∙ ap is_some (rest_at q ∙ ap (λ (b : Bool). cond b None (map.get rest q)) tie)))
      waits q false tie some =
          let at : map.get after q ≡ map.get rest q = rest_at q ∙ ap (λ (b : Bool). cond b None (map.get rest q)) tie in
          let old = so.waits q (ap is_some (sym at) ∙ some) in
          (at ∙ old.0, put q ∙ ap (λ (b : Bool). cond b (if is_some (map.get objects key) then None else Some bytes) (map.get left q)) tie ∙ old.1)

      done : (q : Key) (b : Bool) → same_key q key ≡ b → map.get after q ≡ None → map.get left_after q ≡ (if is_some (map.get objects q) then None else map.get whole q)
      done q true tie gone =
          let is : q ≡ key = same_key-true q key tie in
          put q ∙ ap (λ (b : Bool). cond b (if is_some (map.get objects key) then None else Some bytes) (map.get left q)) tie
          ∙ ap (λ o. if is_some (map.get objects key) then None else o) (sym whole_at)
          ∙ ap (λ (k : Key). if is_some (map.get objects k) then None else map.get whole k) (sym is)
      done q false tie gone =
          put q ∙ ap (λ (b : Bool). cond b (if is_some (map.get objects key) then None else Some bytes) (map.get left q)) tie
          ∙ so.done q (sym (rest_at q ∙ ap (λ (b : Bool). cond b None (map.get rest q)) tie) ∙ gone)

      same : (q : Key) (other : List ℕ) (b : Bool) → same_key q key ≡ b → map.get after q ≡ None → map.get whole q ≡ Some other → IsSameAt objects q other
      same q other true tie gone is =
          let tied : q ≡ key = same_key-true q key tie in
          let one : Some bytes ≡ Some other = sym whole_at ∙ ap (map.get whole) (sym tied) ∙ is in
          let same_bytes : bytes ≡ other = cc in
          subst (λ (k : Key). IsSameAt objects k other) (sym tied) (subst (IsSameAt objects key) same_bytes alike)
      same q other false tie gone is = so.same q other (sym (rest_at q ∙ ap (λ (b : Bool). cond b None (map.get rest q)) tie) ∙ gone) is

-- it is stored: nothing is put
pub stored_put : (objects left : Objects) (key : Key) (bytes : List ℕ) → map.get left key ≡ None → true ≡ is_some (map.get objects key)
    → (q : Key) → map.get left q ≡ cond (same_key q key) (if is_some (map.get objects key) then None else Some bytes) (map.get left q)
stored_put objects left key bytes none stored q = by (same_key q key) refl ∙ ap (λ (b : Bool). cond (same_key q key) (if b then None else Some bytes) (map.get left q)) stored
  where
    by : (b : Bool) → same_key q key ≡ b → map.get left q ≡ cond b None (map.get left q)
    by true tie = ap (map.get left) (same_key-true q key tie) ∙ none
    by false tie = refl

-- it isn't: it is left
pub unstored_put : (objects left after : Objects) (key : Key) (bytes : List ℕ) → after ≡ map.insert left key bytes → false ≡ is_some (map.get objects key)
    → (q : Key) → map.get after q ≡ cond (same_key q key) (if is_some (map.get objects key) then None else Some bytes) (map.get left q)
unstored_put objects left after key bytes is stored q =
    ap (λ (m : Objects). map.get m q) is ∙ map.get-insert key_cmp_total left key bytes q
    ∙ ap (λ (b : Bool). cond (same_key q key) (if b then None else Some bytes) (map.get left q)) stored

pub drops_end : (objects whole rest left : Objects) → ((key : Key) → map.get rest key ≡ None) → DropsSo objects whole rest left → AreLeft objects whole left
drops_end objects whole rest left gone so = record { is = λ key. so.done key (gone key); same = λ key bytes there. so.same key bytes (gone key) there }

-- what is named stays named
pub named_rest : (rest after : Objects) (key : Key) → after ≡ map.remove rest key → AreNamed rest → AreNamed after
named_rest rest after key is named k bytes there = by (same_key k key) (sym (ap (λ (m : Objects). map.get m k) is ∙ map.get-remove key_cmp_total rest key k) ∙ there)
  where
    by : (b : Bool) → cond b None (map.get rest k) ≡ Some bytes → IsOwnName k bytes
    by true e = cc
    by false e = named k bytes e

-- the key that is looked up next is one of those that wait
module _ (objects whole rest left : Objects) (so : DropsSo objects whole rest left) (key : Key) (bytes : List ℕ) (there : map.get rest key ≡ Some bytes) where
  pub left_none : map.get left key ≡ None
  left_none = (so.waits key (ap is_some there)).1

  -- it is stored with other bytes
  pub drops_other : (id : List ℕ) → id ≡ key.id → IsOtherAt objects key bytes → IsStoredOther objects whole id
  drops_other id own other = record { key = key; bytes = bytes; there = sym (so.waits key (ap is_some there)).0 ∙ there; own = own; other = other }

-- ---- what is found under a key

module _ (objects : Objects) (key : Key) (bytes : List ℕ) where
  same_stored : (stored other : List ℕ) → Some stored ≡ map.get objects key → map.get objects key ≡ Some other → stored ≡ other
  same_stored stored other is also = let both : Some stored ≡ Some other = is ∙ also in cc

  pub finds_same : (stored : List ℕ) → Some stored ≡ map.get objects key → stored ≡ bytes → (true ≡ is_some (map.get objects key)) × IsSameAt objects key bytes
  finds_same stored is same = (ap is_some is, λ other there. sym (same_stored stored other is there) ∙ same)

  pub finds_none : None ≡ map.get objects key → (false ≡ is_some (map.get objects key)) × IsSameAt objects key bytes
  finds_none is = (ap is_some is, λ other there. no other (is ∙ there))
    where
      no : (other : List ℕ) → None ≡ Some other → other ≡ bytes
      no other e = cc

  pub finds_other : (stored : List ℕ) → Some stored ≡ map.get objects key → bytes_eq stored bytes ≡ false → IsOtherAt objects key bytes
  finds_other stored is apart = (stored, sym is, λ same. true≢false (sym ((bytes_decides stored bytes).1 same) ∙ apart))

-- over any shelf: what lies there under its own name has the name of these bytes too
pub other_collides : (key : Key) (bytes stored : List ℕ) → IsOwnName key bytes → has_other_name key stored ≡ false → bytes_eq stored bytes ≡ false → IsCollision key.id
other_collides key bytes stored own whole apart = record {
  bytes = bytes;
  own = own.is_sha1;
  clash = inr (
    stored,
    λ same. true≢false (sym ((bytes_decides stored bytes).1 same) ∙ apart),
    sym ((bytes_decides (sha1 stored) key.id).0 (named (is_named_by_bytes key.kind) (same_bytes (sha1 stored) key.id) (ap is_named_by_bytes own.is_fs) whole)),
  );
}
  where
    named : (a b : Bool) → a ≡ true → (a && not b) ≡ false → b ≡ true
    named true true is off = refl
    named true false is off = absurd (true≢false off)
    named false b is off = absurd (true≢false (sym is))

-- ---- the loop's other parts

pub named_none : (left : Objects) → left ≡ map.empty → AreNamed left
named_none left is key bytes there = let both : None ≡ Some bytes = sym (ap (λ (m : Objects). map.get m key) is ∙ map.get-empty key_cmp key) ∙ there in cc

pub removed_len : (rest after : Objects) (key : Key) (bytes : List ℕ) → after ≡ map.remove rest key → map.get rest key ≡ Some bytes → map.len after < map.len rest
removed_len rest after key bytes is there =
    let less : map.len after ≡ map.len rest - 1 = ap map.len is ∙ map.len-remove key_cmp_total rest key ∙ ap (λ (o : Option (List ℕ)). cond (is_some o) (map.len rest - 1) (map.len rest)) there in
    let some : 1 ≤ map.len rest = not_empty (map.len rest) refl in
    omega (arith, less, some)
  where
    not_empty : (n : ℕ) → map.len rest ≡ n → 1 ≤ map.len rest
    not_empty zero is_zero =
        absurd (true≢false (sym (ap is_some there) ∙ ap (λ (k : Objects). is_some (map.get k key)) (map.empty_of_len rest is_zero) ∙ ap is_some (map.get-empty key_cmp key)))
    not_empty (suc n) is_suc = omega (arith, is_suc)

-- a look-up that was refused
pub finds_refused : (objects whole rest left : Objects) → DropsSo objects whole rest left → (key : Key) (bytes : List ℕ) → map.get rest key ≡ Some bytes → (fault : MergeFault)
    → FindsSo objects key bytes (Err fault) → LeavesSo objects whole (Err fault)
finds_refused objects whole rest left so key bytes there (TooLong path size) is = absurd is
finds_refused objects whole rest left so key bytes there (TooMany paths) is = absurd is
finds_refused objects whole rest left so key bytes there (Taken id) is = drops_other objects whole rest left so key bytes there id is.0 is.1
finds_refused objects whole rest left so key bytes there (Walk fault) is = is

-- ---- at the end

-- among objects that have the stored ones, what was made is there where what is left of it is
pub kept_left : (objects made left : Objects) → AreLeft objects made left → (more : Objects) → Keeps objects more → Keeps left more → Keeps made more
kept_left objects made left are_left more keeps also = record { kept = λ key bytes there. by key bytes there (map.get objects key) refl (are_left.is key) }
  where
    by : (key : Key) (bytes : List ℕ) → map.get made key ≡ Some bytes → (o : Option (List ℕ)) → map.get objects key ≡ o
        → map.get left key ≡ (if is_some o then None else map.get made key) → map.get more key ≡ Some bytes
    by key bytes there None none left_is = also.kept key bytes (left_is ∙ there)
    by key bytes there (Some other) stored_is left_is = keeps.kept key other stored_is ∙ ap Some (are_left.same key bytes there other stored_is)
