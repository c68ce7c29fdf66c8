-- What stands in the status slot after a write that was due, which may have failed. The key lemmas are left_text and kept_text.
use Rattle.std.proofs.Common.{◌≡◌, inl, inr, ℕ, Bool, true, false, List, refl, ◌∙◌, Option, Some}
use Rattle.library_state.specs.StateSpelling.{text_of}
use Rattle.library_state.specs.declared.state.LibState.{LibState}
use Rattle.object_store.specs.declared.error.StoreFault.{StoreFault}
use Rattle.object_store.specs.declared.error.StoreFault.TheVariants.{Taken, Wrong, Damaged, Shelf, NoMemory}
use Rattle.depot.specs.Writing.{IsWritten, LeftBy, LeftOpen, ReadsBack, nothing, again, settles, open_present, open_next, settled}

pub same_slot : {x y : Option (List ℕ)} → Some x ≡ Some y → x ≡ y
same_slot e = cc

-- what is written over a slot that is told
pub written_text : (next present : LibState) (b : Bool) (before now : Option (List ℕ)) → IsWritten next (settled b present (Some before)) (Some now) → now ≡ Some (text_of next)
written_text next present true before now is = same_slot is.text
written_text next present false before now is = same_slot is.text

-- the present text, where it was settled
pub settled_text : (present : LibState) (b : Bool) (before now : Option (List ℕ)) → (b ≡ false → before ≡ Some (text_of present)) → Some now ≡ settled b present (Some before)
    → now ≡ Some (text_of present)
settled_text present true before now own is = same_slot is
settled_text present false before now own is = same_slot is ∙ own refl

-- what the slot holds after a write that was refused: the present text; what it held, where that was open; or, after a failure of the shelf, the next text
pub data LeftText (fault : StoreFault) (unsettled : Bool) (present next : LibState) (before : Option (List ℕ)) (still : Bool) (now : Option (List ℕ)) : Type 0 where
  text_present : now ≡ Some (text_of present) → LeftText fault unsettled present next before still now
  text_same : unsettled ≡ true → still ≡ true → now ≡ before → LeftText fault unsettled present next before still now
  text_next : fault ≡ Shelf → still ≡ true → ReadsBack next → now ≡ Some (text_of next) → LeftText fault unsettled present next before still now

-- a slot that is as it was
pub kept_text : (fault : StoreFault) (unsettled : Bool) (present next : LibState) (before : Option (List ℕ)) (still : Bool) (now : Option (List ℕ))
    → (unsettled ≡ false → before ≡ Some (text_of present)) → still ≡ unsettled → Some now ≡ Some before → LeftText fault unsettled present next before still now
kept_text fault true present next before still now own as_was same = text_same refl as_was (same_slot same)
kept_text fault false present next before still now own as_was same = text_present (same_slot same ∙ own refl)

open_text : (unsettled : Bool) (present next : LibState) (before : Option (List ℕ)) (still : Bool) (now : Option (List ℕ))
    → (unsettled ≡ false → before ≡ Some (text_of present)) → LeftOpen unsettled present next (Some before) still (Some now) → LeftText Shelf unsettled present next before still now
open_text unsettled present next before still now own (nothing as_was same) = kept_text Shelf unsettled present next before still now own as_was same
open_text unsettled present next before still now own (again as_was was same) = text_present (same_slot same)
open_text unsettled present next before still now own (settles done same) = text_present (settled_text present unsettled before now own same)
open_text unsettled present next before still now own (open_present is same) = text_present (settled_text present unsettled before now own same)
open_text unsettled present next before still now own (open_next is text) = text_next refl is text.reads (written_text next present unsettled before now text)

pub left_text : (fault : StoreFault) (unsettled : Bool) (present next : LibState) (before : Option (List ℕ)) (still : Bool) (now : Option (List ℕ))
    → (unsettled ≡ false → before ≡ Some (text_of present)) → LeftBy fault unsettled present next (Some before) still (Some now) → LeftText fault unsettled present next before still now
left_text Shelf unsettled present next before still now own left = open_text unsettled present next before still now own left
left_text NoMemory unsettled present next before still now own (inl (as_was, same)) = kept_text NoMemory unsettled present next before still now own as_was same
left_text NoMemory unsettled present next before still now own (inr (done, same)) = text_present (settled_text present unsettled before now own same)
left_text (Taken id) unsettled present next before still now own left = absurd left
left_text (Wrong id) unsettled present next before still now own left = absurd left
left_text (Damaged want got) unsettled present next before still now own left = absurd left
