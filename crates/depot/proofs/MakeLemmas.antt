-- A new library, and a commit that was stored. The key lemmas are commit_stored, commit_found, put_before, make_before, good_made,
-- proper_opening, left_unmade and unmade_from.
use Rattle.std.proofs.Common.{◌≡◌, ◌≢◌, ◌⊎◌, inl, inr, ℕ, ◌≤◌, false, true≢false, cond, if◌then◌else◌, List, [], length, sym, ap, ◌∙◌, subst, Option, None, Some, option_map, Result, Ok, Err}
use Rattle.std.specs.Prelude.{OnErr, ⊤}
use Rattle.std.specs.FinMap as map
use Rattle.ids.specs.Key.{Objects}
use Rattle.ids.specs.declared.key.Key.{Key}
use Rattle.ids.proofs.BasicLemmas.{same_from_some}
use Rattle.ids.proofs.KeyOrderLemmas.{key_cmp_total}
use Rattle.commit_objects.specs.Commit.{commit_of}
use Rattle.commit_objects.specs.Spelling.{text_of as commit_text}
use Rattle.commit_objects.specs.declared.commit.Commit.{Commit}
use Rattle.library_rules.specs.Changes.{put_new}
use Rattle.library_rules.specs.Creation.{opening_commit, opening_object}
use Rattle.library_rules.specs.LibraryState.{IsSound}
use Rattle.library_rules.proofs.CreatedLemmas.{sound_created}
use Rattle.library_rules.proofs.KeptHistoryLemmas.{cons_some}
use Rattle.library_rules.proofs.MemberLemmas.{same_id-itself}
use Rattle.library_state.specs.StateSpelling.{text_of}
use Rattle.library_state.specs.declared.state.LibState.{LibState}
use Rattle.object_graph.specs.Objects.{commit_at, commit_in, commit_key, of_name}
use Rattle.object_graph.specs.declared.fault.TreeFault.TheVariants.{Unreadable}
use Rattle.object_graph.proofs.KeyLemmas.{same_key-itself}
use Rattle.object_store.specs.Shelf.{Contents, GivesAlso, GivesNoMore}
use Rattle.object_store.specs.Store.{GivesOther, IsDamage, IsOther, IsPutFault, has_other_name, put_refusal, same_bytes}
use Rattle.object_store.specs.StoreView.{Keeps, StoreView, with_object, objects_of, status_of}
use Rattle.object_store.specs.declared.error.StoreFault.{StoreFault}
use Rattle.object_store.specs.declared.error.StoreFault.TheVariants.{Taken, Wrong, Damaged, Shelf, NoMemory}
use Rattle.object_store.specs.declared.shelf.Slot.{Slot}
use Rattle.object_store.specs.declared.shelf.Slot.TheVariants.{Object, Status}
use Rattle.library_rules.specs.declared.entry.Stored.{Stored}
use Rattle.depot.specs.DepotView.{depot_of, library, IsGood}
use Rattle.depot.specs.Make.{IsCreated, IsMakeFault, LeftUnmade, begun, first_state, stored, untouched}
use Rattle.depot.specs.declared.error.MakeFault.{MakeFault}
use Rattle.depot.specs.declared.error.MakeFault.TheVariants as make
use Rattle.depot.specs.Writing.{HasProperParents, ReadsBack, Writes, with_stored, written}
use Rattle.depot.proofs.GoodLemmas.{none_fresh, sound_told}
use Rattle.depot.proofs.ToldLemmas.{MappedAt, mapped_at}
use Rattle.depot.proofs.WritingLemmas.{stored_as_put, written_at}

-- a commit that was put stands under its name
pub commit_stored : (known new : Option Objects) (commit : Commit) (bytes : List ℕ) → bytes ≡ commit_text commit
    → new ≡ with_object known (commit_key commit.id) bytes → ((objects : Objects) → known ≡ Some objects → put_refusal objects (commit_key commit.id) bytes ≡ None)
    → new ≡ with_stored (opening_object commit) known
commit_stored known new commit bytes is put free =
    put ∙ stored_as_put known (commit_key commit.id) bytes free ∙ ap (λ text. with_stored (record { key = commit_key commit.id; bytes = text }) known) is

-- and is read from there
pub commit_found : (known new : Option Objects) (commit : Commit) (bytes : List ℕ) → commit_of bytes ≡ Ok commit
    → new ≡ with_object known (commit_key commit.id) bytes → (objects : Objects) → new ≡ Some objects → commit_at objects commit.id ≡ Ok commit
commit_found known new commit bytes reads put objects told =
    ap (λ (o : Objects). commit_in commit.id (map.get o key)) (sym before.gives)
    ∙ ap (commit_in commit.id) (map.get-insert key_cmp_total before.value key bytes key ∙ ap (λ b. cond b (Some bytes) (map.get before.value key)) (same_key-itself key))
    ∙ ap (of_name commit.id) reads
    ∙ ap (λ b. if b then Ok commit else Err (Unreadable key)) (same_id-itself commit.id)
  where
    key : Key
    key = commit_key commit.id

    before : MappedAt (λ (o : Objects). map.insert o key bytes) known objects
    before = mapped_at (λ (o : Objects). map.insert o key bytes) known objects (sym put ∙ told)

-- ---- what a shelf may give after a put, or a read, and before it

-- a put of a commit lays no bytes that it is refused for
module _ {before now : Slot → Option (List ℕ) → Type 0} (key : Key) (bytes : List ℕ) (also : GivesAlso before now (Object key) (Some bytes)) where
  other_before : GivesOther now key bytes → GivesOther before key bytes
  other_before is = record { given = is.given; gives = at (also (Object key) (Some is.given) is.gives); whole = is.whole; other = is.other }
    where
      at : before (Object key) (Some is.given) ⊎ ((Object key ≡ Object key) × (Some is.given ≡ Some bytes)) → before (Object key) (Some is.given)
      at (inl gives) = gives
      at (inr laid) =
          absurd (true≢false (sym (ap (λ b. same_bytes b bytes) (same_from_some is.given bytes laid.1) ∙ same_id-itself bytes) ∙ is.other))

  damaged_before : has_other_name key bytes ≡ false → (want : List ℕ) (got : Option (List ℕ)) → IsDamage now key want got → IsDamage before key want got
  damaged_before named want got is = record { given = is.given; gives = at (also (Object key) is.given is.gives); named = is.named; other = is.other }
    where
      at : before (Object key) is.given ⊎ ((Object key ≡ Object key) × (is.given ≡ Some bytes)) → before (Object key) is.given
      at (inl gives) = gives
      at (inr laid) = absurd (true≢false (sym (subst (λ o. IsOther key o got) laid.1 is.other).0 ∙ named))

  pub put_before : has_other_name key bytes ≡ false → (fault : StoreFault) → IsPutFault now key bytes fault → IsPutFault before key bytes fault
  put_before named (Taken id) (same, inl zeros) = (same, inl zeros)
  put_before named (Taken id) (same, inr other) = (same, inr (other_before other))
  put_before named (Wrong id) is = is
  put_before named (Damaged want got) is = damaged_before named want got is
  put_before named Shelf is = tt
  put_before named NoMemory is = tt

module _ {before now : Slot → Option (List ℕ) → Type 0} (gives : GivesNoMore before now) where
  pub put_read_before : (key : Key) (bytes : List ℕ) (fault : StoreFault) → IsPutFault now key bytes fault → IsPutFault before key bytes fault
  put_read_before key bytes (Taken id) (same, inl zeros) = (same, inl zeros)
  put_read_before key bytes (Taken id) (same, inr is) =
      (same, inr (record { given = is.given; gives = gives (Object key) (Some is.given) is.gives; whole = is.whole; other = is.other }))
  put_read_before key bytes (Wrong id) is = is
  put_read_before key bytes (Damaged want got) is = record { given = is.given; gives = gives (Object key) is.given is.gives; named = is.named; other = is.other }
  put_read_before key bytes Shelf is = tt
  put_read_before key bytes NoMemory is = tt

  pub make_before : (x : Stored) (fault : MakeFault) → IsMakeFault now x fault → IsMakeFault before x fault
  make_before x make.HasState is = (is.0, gives Status (Some is.0) is.1)
  make_before x (make.Store fault) is = put_read_before x.key x.bytes fault is

-- ---- what a write that was refused leaves

-- the opening commit has no parent
pub proper_opening : (lib user : List ℕ) (moment : ℕ) → HasProperParents (opening_commit lib user moment)
proper_opening lib user moment = record { parent = tt; second_parent = tt }

module _ {S : Type 0} (contents : S → Option Contents) (given mid store : StoreView S) (commit : Commit) (first : LibState) where
  -- after the commit was put
  pub left_unmade : (result : Result ⊤ StoreFault) → objects_of contents mid ≡ with_stored (opening_object commit) (objects_of contents given)
      → status_of contents mid ≡ status_of contents given
      → ((objects : Objects) → objects_of contents mid ≡ Some objects → HasProperParents commit → commit_at objects commit.id ≡ Ok commit)
      → objects_of contents store ≡ objects_of contents mid → Writes first (status_of contents mid) (status_of contents store) result
      → OnErr result (HasProperParents commit → LeftUnmade contents given commit first store)
  left_unmade (Ok done) put slot found stays writes = tt
  left_unmade (Err Shelf) put slot found stays (inl same) = λ proper. stored (stays ∙ put) (same ∙ slot)
  left_unmade (Err Shelf) put slot found stays (inr is) = λ proper.
      begun (stays ∙ put) (record { text = is.text ∙ ap (written first) slot; reads = is.reads }) (λ objects told. found objects (sym stays ∙ told) proper)
  left_unmade (Err NoMemory) put slot found stays same = λ proper. stored (stays ∙ put) (same ∙ slot)
  left_unmade (Err (Taken id)) put slot found stays none = absurd none
  left_unmade (Err (Wrong id)) put slot found stays none = absurd none
  left_unmade (Err (Damaged want got)) put slot found stays none = absurd none

  -- from a store that was read
  pub unmade_from : Keeps contents given mid → LeftUnmade contents mid commit first store → LeftUnmade contents given commit first store
  unmade_from keeps (untouched lie slot) = untouched (lie ∙ keeps.objects) (slot ∙ ap (option_map (λ (held : Contents). held.status)) keeps.shelf)
  unmade_from keeps (stored lie slot) = stored (lie ∙ ap (with_stored (opening_object commit)) keeps.objects) (slot ∙ ap (option_map (λ (held : Contents). held.status)) keeps.shelf)
  unmade_from keeps (begun lie is found) =
      begun (lie ∙ ap (with_stored (opening_object commit)) keeps.objects)
      (record { text = is.text ∙ ap (written first) (ap (option_map (λ (held : Contents). held.status)) keeps.shelf); reads = is.reads }) found

module _ {S : Type 0} (contents : S → Option Contents) (faults : S → ℕ) where
  pub good_made : (given store : StoreView S) (lib name user secret : List ℕ) (moment : ℕ) (state : LibState)
      → IsCreated contents faults given (opening_commit lib user moment) (first_state lib name user secret (opening_commit lib user moment).id moment) store state
      → length name ≤ 255 → 1 ≤ length user → length user ≤ 255 → IsGood contents faults (depot_of store state false None)
  good_made given store lib name user secret moment state created name_fits some_user user_fits = record {
    head = subst (λ (st : LibState). st.kept ≢ []) (sym created.is_first) (cons_some (record { head = commit.id; pushed = commit.id; at = moment }) []);
    reads = subst ReadsBack (sym created.is_first) created.stores.text.reads;
    fresh = none_fresh contents faults store;
    sound = sound_told contents faults (depot_of store state false None) (λ objects told.
        let before = mapped_at (λ (o : Objects). put_new o (opening_object commit)) (objects_of contents given) objects (sym created.stores.objects ∙ told) in
        subst (λ st. IsSound (library st (faults store.shelf) objects)) (sym created.is_first)
        (subst (λ o. IsSound (library first (faults store.shelf) o)) before.gives
        (sound_created lib name user secret moment before.value (faults store.shelf)
        (subst (λ o. commit_at o commit.id ≡ Ok commit) (sym before.gives) (created.found objects told)) name_fits some_user user_fits)));
    text = λ objects status told at.
        written_at first (status_of contents given) (status_of contents store) status created.stores.text.text at
        ∙ ap (λ st. Some (text_of st)) (sym created.is_first);
  }
    where
      commit : Commit
      commit = opening_commit lib user moment

      first : LibState
      first = first_state lib name user secret commit.id moment
