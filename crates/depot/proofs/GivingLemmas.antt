-- What a shelf may give after several calls. The key lemmas are then_by,
-- read_by, wider_by, text_by, object_by, put_as, named_by and made_by.
use Rattle.std.proofs.Common.{◌≡◌, ◌⊎◌, inl, inr, ℕ, Bool, true, false, List, refl, sym, subst, ap, ◌∙◌, Option, None, Some}
use Rattle.ids.specs.declared.key.Key.{Key}
use Rattle.ids.specs.declared.key.Kind.{Kind}
use Rattle.library_state.specs.StateSpelling.{text_of}
use Rattle.library_state.specs.declared.state.LibState.{LibState}
use Rattle.object_store.specs.Shelf.{GivesAlso, GivesNoMore}
use Rattle.object_store.specs.Store.{has_other_name, name_refusal}
use Rattle.object_store.specs.declared.shelf.Slot.{Slot}
use Rattle.object_store.specs.declared.shelf.Slot.TheVariants.{Object, Status}
use Rattle.library_rules.specs.declared.entry.Stored.{Stored}
use Rattle.depot.specs.Giving.{GivesBy, IsLaidAs, IsNamedObject, IsObject, IsOfMaking, IsOwnText, IsPut, IsReadAs}

-- nothing more may be given than before
pub no_more : {before now : Slot → Option (List ℕ) → Type 0} (laid : Slot → Option (List ℕ) → Type 0) → GivesNoMore before now → GivesBy laid before now
no_more laid gives slot given is = inl (gives slot given is)

module _ {laid : Slot → Option (List ℕ) → Type 0} {before now : Slot → Option (List ℕ) → Type 0} where
  -- what was laid is one of more
  pub wider_by : {wider : Slot → Option (List ℕ) → Type 0} → ((slot : Slot) (given : Option (List ℕ)) → laid slot given → wider slot given)
      → GivesBy laid before now → GivesBy wider before now
  wider_by {wider} more gives slot given is = by (gives slot given is)
    where
      by : before slot given ⊎ laid slot given → before slot given ⊎ wider slot given
      by (inl was) = inl was
      by (inr new) = inr (more slot given new)

  -- one call after another
  pub then_by : {later : Slot → Option (List ℕ) → Type 0} → GivesBy laid before now → GivesBy laid now later → GivesBy laid before later
  then_by first second slot given is = by (second slot given is)
    where
      by : now slot given ⊎ laid slot given → before slot given ⊎ laid slot given
      by (inl was) = first slot given was
      by (inr new) = inr new

  -- a call that lays something, between two that read
  pub read_by : {earlier : Slot → Option (List ℕ) → Type 0} → GivesNoMore earlier before → GivesBy laid before now → GivesBy laid earlier now
  read_by {earlier} reads gives slot given is = by (gives slot given is)
    where
      by : before slot given ⊎ laid slot given → earlier slot given ⊎ laid slot given
      by (inl was) = inl (reads slot given was)
      by (inr new) = inr new

-- nothing that is laid is nothing more
pub no_more_by : {before now : Slot → Option (List ℕ) → Type 0} → GivesBy (λ slot given. ⊥) before now → GivesNoMore before now
no_more_by {before} gives slot given is = by (gives slot given is)
  where
    by : before slot given ⊎ ⊥ → before slot given
    by (inl was) = was
    by (inr none) = elim none [ ]

module _ {before now : Slot → Option (List ℕ) → Type 0} where
  -- a text of the library
  pub text_by : (state : LibState) (lib : List ℕ) (text : List ℕ) → text ≡ text_of state → state.lib ≡ lib → GivesAlso before now Status (Some text) → GivesBy (IsOwnText lib) before now
  text_by state lib text reads own gives slot given is = by (gives slot given is)
    where
      by : before slot given ⊎ ((slot ≡ Status) × (given ≡ Some text)) → before slot given ⊎ IsOwnText lib slot given
      by (inl was) = inl was
      by (inr laid) = inr (record { state = state; own = own; at = laid.0; text = laid.1 ∙ ap (λ t. Some t) reads })

  -- an object under its own name
  put_by : (key : Key) (bytes : List ℕ) → has_other_name key bytes ≡ false → GivesAlso before now (Object key) (Some bytes) → GivesBy (IsObject key bytes) before now
  put_by key bytes named gives slot given is = by (gives slot given is)
    where
      by : before slot given ⊎ ((slot ≡ Object key) × (given ≡ Some bytes)) → before slot given ⊎ IsObject key bytes slot given
      by (inl was) = inl was
      by (inr laid) = inr (record { at = laid.0; is = laid.1; named = named })

  -- an object that its name doesn't forbid
  pub named_by : (key : Key) (bytes : List ℕ) → (name_refusal key bytes ≡ None) × IsLaidAs key.kind key.id bytes → GivesAlso before now (Object key) (Some bytes) → GivesBy IsNamedObject before now
  named_by key bytes named gives slot given is = by (gives slot given is)
    where
      by : before slot given ⊎ ((slot ≡ Object key) × (given ≡ Some bytes)) → before slot given ⊎ IsNamedObject slot given
      by (inl was) = inl was
      by (inr laid) = inr (record { key = key; bytes = bytes; at = laid.0; is = laid.1; named = named.0; laid_as = named.1 })

  -- a put after which nothing more is given where the bytes have another name
  pub object_by : (key : Key) (bytes : List ℕ) → (has_other_name key bytes ≡ true → GivesNoMore before now) → GivesAlso before now (Object key) (Some bytes) → GivesBy (IsObject key bytes) before now
  object_by key bytes refused gives = by (has_other_name key bytes) refl
    where
      by : (other : Bool) → has_other_name key bytes ≡ other → GivesBy (IsObject key bytes) before now
      by true other = no_more (IsObject key bytes) (refused other)
      by false named = put_by key bytes named gives

  -- an object that is read as its kind asks
  pub put_as : (key : Key) (bytes : List ℕ) (kind : Kind) → key.kind ≡ kind → IsReadAs kind key.id bytes → GivesBy (IsObject key bytes) before now → GivesBy (IsPut key bytes) before now
  put_as key bytes kind is read = wider_by {wider = IsPut key bytes} (λ slot given object. (subst (λ k. IsReadAs k key.id bytes) (sym is) read, object))

  -- what is laid after a reading
  pub also_read : {earlier : Slot → Option (List ℕ) → Type 0} {at : Slot} {laid : Option (List ℕ)} → GivesNoMore earlier before → GivesAlso before now at laid → GivesAlso earlier now at laid
  also_read {earlier} {at} {laid} reads gives slot given is = by (gives slot given is)
    where
      by : before slot given ⊎ ((slot ≡ at) × (given ≡ laid)) → earlier slot given ⊎ ((slot ≡ at) × (given ≡ laid))
      by (inl was) = inl (reads slot given was)
      by (inr new) = inr new

  -- the opening commit, and then the text of the first state
  pub commit_by : {x : Stored} (state : LibState) → GivesAlso before now (Object x.key) (Some x.bytes) → GivesBy (IsOfMaking x state) before now
  commit_by {x} state gives slot given is = by (gives slot given is)
    where
      by : before slot given ⊎ ((slot ≡ Object x.key) × (given ≡ Some x.bytes)) → before slot given ⊎ IsOfMaking x state slot given
      by (inl was) = inl was
      by (inr laid) = inr (inl laid)

  pub made_by : {later : Slot → Option (List ℕ) → Type 0} {x : Stored} (state : LibState) → GivesAlso before now (Object x.key) (Some x.bytes) → GivesAlso now later Status (Some (text_of state))
      → GivesBy (IsOfMaking x state) before later
  made_by {later} {x} state first second slot given is = by (second slot given is)
    where
      by : now slot given ⊎ ((slot ≡ Status) × (given ≡ Some (text_of state))) → before slot given ⊎ IsOfMaking x state slot given
      by (inl was) = commit_by {x = x} state first slot given was
      by (inr laid) = inr (inr laid)
