-- Objects that are added to those that were made, one by one. The key lemmas are adds_start, adds_more, adds_end and adds_other.
use Rattle.std.proofs.Common.{◌≡◌, Bool, true, false, cond, IsSome, is_some, ℕ, List, refl, sym, ap, ◌∙◌, Some, None, true≢false, ◌⊎◌, inl, inr}
use Rattle.std.specs.FinMap as map
use Rattle.std.specs.Cmp.Lexicographic.{bytes_decides}
use Rattle.std.specs.Str.{bytes_eq}
use Rattle.ids.specs.Key.{Objects}
use Rattle.ids.specs.declared.key.Key.{Key}
use Rattle.ids.proofs.KeyOrderLemmas.{key_cmp_total}
use Rattle.object_graph.specs.Unchanged.{Keeps}
use Rattle.object_graph.proofs.KeyLemmas.{same_key, same_key-true}
use Rattle.tree_merge.specs.WorkSoFar.{AreFrom, IsFrom, IsOtherThere, IsRefusedOther}
use Rattle.tree_merge.proofs.MadeLemmas.{kept_itself, kept_then}

-- some are still to be added
pub record AddsSo (old more rest now : Objects) : Type 0 where
  pub waits : (key : Key) → IsSome (map.get rest key) → map.get rest key ≡ map.get more key
  pub done : (key : Key) (bytes : List ℕ) → map.get rest key ≡ None → map.get more key ≡ Some bytes → map.get now key ≡ Some bytes
  pub kept : Keeps old now
  pub from : AreFrom old more now

pub adds_start : (old more : Objects) → AddsSo old more more old
adds_start old more = record {
  waits = λ key some. refl;
  done = λ key bytes gone there. let both : None ≡ Some bytes = sym gone ∙ there in cc;
  kept = kept_itself old;
  from = λ key bytes there. inl there;
}

pub adds_end : (old more rest now : Objects) → ((key : Key) → map.get rest key ≡ None) → AddsSo old more rest now → Keeps more now
adds_end old more rest now gone so = record { kept = λ key bytes there. so.done key bytes (gone key) there }

module _ (old more rest now : Objects) (so : AddsSo old more rest now) (key : Key) (bytes : List ℕ) (there : map.get rest key ≡ Some bytes) where
  given : map.get more key ≡ Some bytes
  given = sym (so.waits key (ap is_some there)) ∙ there

  -- what is there was there before, or was to be added
  pub from_more : (next : Objects) → IsFrom now key bytes next → AreFrom old more next
  from_more next from k b is = elim (from k b is) [
    | inl before ↦ so.from k b before
    | inr own ↦ inr (ap (map.get more) own.0 ∙ given ∙ ap Some (sym own.1))
  ]

  pub adds_more : (after next : Objects) → after ≡ map.remove rest key → map.get next key ≡ Some bytes → Keeps now next → IsFrom now key bytes next → AddsSo old more after next
  adds_more after next taken put keeps from = record {
    waits = λ k some. waits k (same_key k key) (at k) some;
    done = λ k b gone is. done k b (same_key k key) refl (at k) gone is;
    kept = kept_then old now next so.kept keeps;
    from = from_more next from;
  }
    where
      at : (k : Key) → map.get after k ≡ cond (same_key k key) None (map.get rest k)
      at k = ap (λ (m : Objects). map.get m k) taken ∙ map.get-remove key_cmp_total rest key k

      waits : (k : Key) (b : Bool) → map.get after k ≡ cond b None (map.get rest k) → IsSome (map.get after k) → map.get after k ≡ map.get more k
      waits k true e some = absurd (true≢false (sym some ∙ ap is_some e))
      waits k false e some = e ∙ so.waits k (ap is_some (sym e) ∙ some)

      done : (k : Key) (b : List ℕ) (c : Bool) → same_key k key ≡ c → map.get after k ≡ cond c None (map.get rest k) → map.get after k ≡ None → map.get more k ≡ Some b → map.get next k ≡ Some b
      done k b true tie e gone is =
          let own : k ≡ key = same_key-true k key tie in
          ap (map.get next) own ∙ put ∙ sym given ∙ ap (map.get more) (sym own) ∙ is
      done k b false tie e gone is = keeps.kept k b (so.done k b (sym e ∙ gone) is)

  -- other bytes were made before: none of those that are added stands there but these
  pub adds_other : (id : List ℕ) → IsOtherThere now key bytes id → IsRefusedOther old more id
  adds_other id other = record { key = key; bytes = bytes; given = given; other = (other.0, (other.1.0, before (so.from key other.1.0 other.1.1), other.1.2)) }
    where
      before : (map.get old key ≡ Some other.1.0) ⊎ (map.get more key ≡ Some other.1.0) → map.get old key ≡ Some other.1.0
      before (inl there) = there
      before (inr also) = absurd (other.1.2 (same other.1.0 bytes (sym also ∙ given)))
        where
          same : (x y : List ℕ) → Some x ≡ Some y → x ≡ y
          same x y e = cc

-- ---- one object

pub from_itself : (old : Objects) (key : Key) (bytes : List ℕ) → IsFrom old key bytes old
from_itself old key bytes k b there = inl there

pub from_put : (old new : Objects) (key : Key) (bytes : List ℕ) → new ≡ map.insert old key bytes → IsFrom old key bytes new
from_put old new key bytes is k b there = by (same_key k key) refl (sym (ap (λ (m : Objects). map.get m k) is ∙ map.get-insert key_cmp_total old key bytes k) ∙ there)
  where
    by : (c : Bool) → same_key k key ≡ c → cond c (Some bytes) (map.get old k) ≡ Some b → (map.get old k ≡ Some b) ⊎ ((k ≡ key) × (b ≡ bytes))
    by true tie e = let same : bytes ≡ b = cc in inr (same_key-true k key tie, sym same)
    by false apart e = inl e

pub same_there : (old : Objects) (key : Key) (bytes other : List ℕ) → Some other ≡ map.get old key → bytes_eq other bytes ≡ true → map.get old key ≡ Some bytes
same_there old key bytes other there same = sym there ∙ ap Some ((bytes_decides other bytes).0 same)

pub other_there : (old : Objects) (key : Key) (bytes other id : List ℕ) → id ≡ key.id → Some other ≡ map.get old key → bytes_eq other bytes ≡ false → IsOtherThere old key bytes id
other_there old key bytes other id own there apart = (own, (other, sym there, λ same. true≢false (sym ((bytes_decides other bytes).1 same) ∙ apart)))
