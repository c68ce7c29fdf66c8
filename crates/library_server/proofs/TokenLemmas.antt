-- A token that a library refuses, and how the library then stands. The key lemma is refuses_token, at the end.
use Rattle.std.proofs.Common.{◌≡◌, ℕ, Bool, true, false, cond, inl, inr, length, Option, None, Some, option_map, Err, refl, sym, ap, subst, ◌∙◌, leb-true}
use Rattle.std.specs.Prelude.{◌⊎◌, IfSome, IsTrue, nat_le, ⊤}
use Rattle.ids.specs.Outcome.{RefusesAs}
use Rattle.library_state.specs.StateSpelling.{text_of}
use Rattle.library_state.specs.Tokens.{is_taken}
use Rattle.library_state.specs.declared.state.LibState.{LibState}
use Rattle.depot.specs.DepotView.{DepotView, Holds, IsGood, running_library, state_of}
use Rattle.depot.specs.Tokens.{is_token_free, store_answer, token_refusal, with_new_token}
use Rattle.depot.specs.Writing.{LeftOpen, RewritesSo, Slot, again, nothing, open_next, open_present, settled, settles}
use Rattle.depot.specs.declared.error.TokenFault.{TokenFault}
use Rattle.depot.specs.declared.error.TokenFault.TheVariants as token
use Rattle.library_rules.specs.LibraryState.{State}
use Rattle.object_store.specs.Shelf.{Contents}
use Rattle.object_store.specs.Store.{is_free, is_of_shelf}
use Rattle.object_store.specs.StoreView.{HasNoStray, indexed, objects_of, status_of}
use Rattle.object_store.specs.declared.error.StoreFault.{StoreFault}
use Rattle.object_store.specs.declared.error.StoreFault.TheVariants as store
use Rattle.folder_storage.specs.Ground.{Kept, Standing}
use Rattle.library_server.proofs.DepotLemmas.{all_indexed, mapped_from, shelf_told, stands_again, state_is}
use Rattle.library_server.specs.Standing.{StandsAs}
use Rattle.library_server.specs.Adding.{IsTokenRefused, StandsWithText, RefusesToken, with_new}
use Rattle.library_server.specs.declared.adding.NewToken.{NewToken}
use Rattle.ids.proofs.BasicLemmas.{same_from_some}

-- the refusal that is due says which
taken_first : (taken full : Bool) → ◌≡◌ {A = Option TokenFault} (cond taken (Some token.SecretTaken) (cond full (Some token.Full) None)) (Some token.SecretTaken) → taken ≡ true
taken_first true full e = refl
taken_first false true e = cc
taken_first false false e = cc

full_next : (taken full : Bool) → ◌≡◌ {A = Option TokenFault} (cond taken (Some token.SecretTaken) (cond full (Some token.Full) None)) (Some token.Full)
    → (taken ≡ false) × (full ≡ true)
full_next true full e = absurd (cc)
full_next false true e = (refl, refl)
full_next false false e = absurd (cc)

free_last : (taken full : Bool) (why : StoreFault) → ◌≡◌ {A = Option TokenFault} (cond taken (Some token.SecretTaken) (cond full (Some token.Full) None)) (Some (token.Store why)) → ⊥
free_last true full why e = cc
free_last false true why e = cc
free_last false false why e = cc

-- what the slot holds after a write that failed: the present text, or where the shelf failed the next one's
slot_after : (present next : LibState) (still : Bool) (new : Slot) → LeftOpen false present next (Some (Some (text_of present))) still new
    → (new ≡ Some (Some (text_of present))) ⊎ (IsTrue (is_of_shelf store.Shelf) × (new ≡ Some (Some (text_of next))))
slot_after present next still new (nothing same is) = inl is
slot_after present next still new (again same was is) = inl is
slot_after present next still new (settles same is) = inl is
slot_after present next still new (open_present same is) = inl is
slot_after present next still new (open_next same is) = inr (refl, is.text)

rewritten_slot : (present next : LibState) (still : Bool) (new : Slot) (why : StoreFault) → IsTrue (is_free why)
    → RewritesSo false present next (Some (Some (text_of present))) still new (Err why)
    → (new ≡ Some (Some (text_of present))) ⊎ (IsTrue (is_of_shelf why) × (new ≡ Some (Some (text_of next))))
rewritten_slot present next still new store.Shelf free left = slot_after present next still new left
rewritten_slot present next still new store.NoMemory free (inl (same, is)) = inl is
rewritten_slot present next still new store.NoMemory free (inr (same, is)) = inl is
rewritten_slot present next still new (store.Taken id) free left = absurd left
rewritten_slot present next still new (store.Wrong id) free left = absurd left
rewritten_slot present next still new (store.Damaged want got) free left = absurd left

never : IsTrue false → ⊥
never e = cc

said : (is : TokenFault) (due : Option TokenFault) → (due ≡ Some is) ⊎ IsTrue (is_token_free is) → is_token_free is ≡ false → due ≡ Some is
said is due (inl e) free = e
said is due (inr f) free = absurd (never (subst IsTrue free f))

pub freed : (why : StoreFault) (taken full : Bool)
    → ◌⊎◌ (◌≡◌ {A = Option TokenFault} (cond taken (Some token.SecretTaken) (cond full (Some token.Full) None)) (Some (token.Store why))) (IsTrue (is_free why)) → IsTrue (is_free why)
freed why taken full (inl e) = absurd (free_last taken full why e)
freed why taken full (inr f) = f

-- the state that was opened refuses the token
pub token_refused : (state : LibState) (new : NewToken) (why : TokenFault) → RefusesAs {T = ⊤} is_token_free (Err why) (token_refusal state.tokens new.secret)
    → IsTokenRefused state new why
token_refused state new token.SecretTaken refused =
    taken_first (is_taken state.tokens new.secret) (nat_le 1000 (length state.tokens)) (said token.SecretTaken _ refused refl)
token_refused state new token.Full refused =
    let full = full_next (is_taken state.tokens new.secret) (nat_le 1000 (length state.tokens)) (said token.Full _ refused refl) in
    (full.0, leb-true 1000 (length state.tokens) full.1)
token_refused state new (token.Store why) refused = freed why (is_taken state.tokens new.secret) (nat_le 1000 (length state.tokens)) refused

module _ {S : Type 0} (contents : S → Option Contents) (faults : S → ℕ) where
  -- the state of a depot whose shelf holds this
  abbrev state_on : DepotView S → Contents → State
  state_on depot held = running_library depot.state depot.running (faults depot.store.shelf) (indexed depot.store.index held)

  -- nothing was written
  same_stands : (old now : DepotView S) (held : Contents) (after : Option Standing) → IsGood contents faults old → HasNoStray contents old.store → old.unsettled ≡ false
      → contents old.store.shelf ≡ Some held → now ≡ old → ((h : Contents) → contents now.store.shelf ≡ Some h → after ≡ Some (Kept h))
      → StandsAs after (state_on old held)
  same_stands old now held after good none settled there same back = record {
    held = held;
    there = back held (ap (λ (d : DepotView S). contents d.store.shelf) same ∙ there);
    stands = stands_again contents faults old held (state_on old held) good settled
        (ap (λ o. option_map (running_library old.state old.running (faults old.store.shelf)) (option_map (indexed old.store.index) o)) there) there;
    objects = all_indexed contents old.store held none there;
  }

  present_text : (old : DepotView S) (held : Contents) → IsGood contents faults old → old.unsettled ≡ false → contents old.store.shelf ≡ Some held
      → status_of contents old.store ≡ Some (Some (text_of old.state))
  present_text old held good settled there =
      let status : status_of contents old.store ≡ Some held.status = ap (option_map (λ (c : Contents). c.status)) there in
      let holds = good.text (indexed old.store.index held) held.status (ap (option_map (indexed old.store.index)) there) status in
      status ∙ ap Some (subst (λ b. Holds b old.state (indexed old.store.index held) held.status) settled holds)

  -- the objects stay, and the text is one of these
  text_stands : (old now : DepotView S) (held : Contents) (after : Option Standing) (t : State) → HasNoStray contents now.store → contents old.store.shelf ≡ Some held
      → objects_of contents now.store ≡ objects_of contents old.store → status_of contents now.store ≡ Some (Some (text_of t.state))
      → ((h : Contents) → contents now.store.shelf ≡ Some h → after ≡ Some (Kept h)) → StandsWithText after (state_on old held) t
  text_stands old now held after t none there kept text back =
      let objects : objects_of contents now.store ≡ Some (indexed old.store.index held) = kept ∙ ap (option_map (indexed old.store.index)) there in
      let left = mapped_from (indexed now.store.index) (contents now.store.shelf) (indexed old.store.index held) objects in
      let same : indexed now.store.index left.0 ≡ indexed old.store.index held =
      same_from_some (indexed now.store.index left.0) (indexed old.store.index held) (sym (ap (option_map (indexed now.store.index)) left.1) ∙ objects) in
      record {
        held = left.0;
        there = back left.0 left.1;
        objects = all_indexed contents now.store left.0 none left.1 ∙ same;
        text = same_from_some left.0.status (Some (text_of t.state)) (sym (ap (option_map (λ (c : Contents). c.status)) left.1) ∙ text);
      }

  -- the refusal of a token, of the library that was opened
  refuses_on : (old now : DepotView S) (held : Contents) (new : NewToken) (why : TokenFault) (after : Option Standing)
      → IsGood contents faults old → HasNoStray contents old.store → HasNoStray contents now.store → old.unsettled ≡ false → contents old.store.shelf ≡ Some held
      → RefusesAs {T = ⊤} is_token_free (Err why) (token_refusal old.state.tokens new.secret) → (store_answer (Err why) ≡ None → now ≡ old)
      → IfSome (store_answer (Err why)) (RewritesSo old.unsettled old.state (with_new_token new.user new.secret new.right old.state) (status_of contents old.store) now.unsettled (status_of contents now.store))
      → objects_of contents now.store ≡ objects_of contents old.store → ((h : Contents) → contents now.store.shelf ≡ Some h → after ≡ Some (Kept h))
      → RefusesToken new (state_on old held) why after
  refuses_on old now held new token.SecretTaken after good none none_now settled there refused untouched text kept back = (
    taken_first (is_taken old.state.tokens new.secret) (nat_le 1000 (length old.state.tokens)) (said token.SecretTaken _ refused refl),
    same_stands old now held after good none settled there (untouched refl) back,
  )
  refuses_on old now held new token.Full after good none none_now settled there refused untouched text kept back =
      let full = full_next (is_taken old.state.tokens new.secret) (nat_le 1000 (length old.state.tokens)) (said token.Full _ refused refl) in
      (full.0, leb-true 1000 (length old.state.tokens) full.1, same_stands old now held after good none settled there (untouched refl) back)
  refuses_on old now held new (token.Store why) after good none none_now settled there refused untouched text kept back =
      let free = freed why (is_taken old.state.tokens new.secret) (nat_le 1000 (length old.state.tokens)) refused in
      let next = with_new_token new.user new.secret new.right old.state in
      let left = subst (λ slot. RewritesSo false old.state next slot now.unsettled (status_of contents now.store) (Err why)) (present_text old held good settled there)
      (subst (λ b. RewritesSo b old.state next (status_of contents old.store) now.unsettled (status_of contents now.store) (Err why)) settled text) in (
        free,
        elim (rewritten_slot old.state next now.unsettled (status_of contents now.store) why free left) [
          | inl is ↦ inl (text_stands old now held after (state_on old held) none_now there kept is back)
          | inr risen ↦ inr (risen.0, text_stands old now held after (with_new new (state_on old held)) none_now there kept risen.1 back)
        ],
      )

  -- the same of the state that was told
  pub refuses_token : (old now : DepotView S) (s : State) (new : NewToken) (why : TokenFault) (after : Option Standing)
      → IsGood contents faults old → HasNoStray contents old.store → HasNoStray contents now.store → old.unsettled ≡ false → state_of contents faults old ≡ Some s
      → RefusesAs {T = ⊤} is_token_free (Err why) (token_refusal old.state.tokens new.secret) → (store_answer (Err why) ≡ None → now ≡ old)
      → IfSome (store_answer (Err why)) (RewritesSo old.unsettled old.state (with_new_token new.user new.secret new.right old.state) (status_of contents old.store) now.unsettled (status_of contents now.store))
      → objects_of contents now.store ≡ objects_of contents old.store → ((h : Contents) → contents now.store.shelf ≡ Some h → after ≡ Some (Kept h))
      → RefusesToken new s why after
  refuses_token old now s new why after good none none_now settled told refused untouched text kept back =
      let shelf = shelf_told contents faults old s told in
      subst (λ z. RefusesToken new z why after) (sym (state_is contents faults old shelf.0 s shelf.1 told))
      (refuses_on old now shelf.0 new why after good none none_now settled shelf.1 refused untouched text kept back)
