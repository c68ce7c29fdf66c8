-- How the libraries of a list stand, and what one changed entry changes. The key lemmas are
-- taken-found, taken-changes, taken-stays, added-changes and laid-takes_back, and of what libraries may give taken-handed,
-- added-handed, gives-out, gives-stays and laid-gives_back, at the end.
use Rattle.std.proofs.Common.{◌≡◌, ◌≢◌, ◌⊎◌, inl, inr, subst, ℕ, zero, suc, ◌<◌, Bool, true, false, true≢false, cond, List, [], ◌∷◌, ◌++◌, length, get_or, Option, None, Some, refl, sym, ◌∙◌, ap, arith}
use Rattle.std.specs.FinMap as map
use Rattle.ids.specs.Key.{key_cmp}
use Rattle.object_store.specs.declared.shelf.Slot.TheVariants.{Object, Status}
use Rattle.std.proofs.lemmas.Bool.{and_parts, and_from, false_from_ne_true}
use Rattle.std.proofs.lemmas.Slice.Eq.{bytes_eq-Decides}
use Rattle.std.specs.Prelude.{slice_set}
use Rattle.std.specs.Str.{bytes_eq}
use Rattle.object_store.specs.Shelf.{Contents, GivesNoMore, Tells}
use Rattle.object_store.specs.declared.shelf.Slot.{Slot}
use Rattle.folder_storage.specs.Ground.{AllGiveNoMore, GivesBack, GivesStanding, no_contents, ChangesStanding, Standing, Absent, Kept, HandedOut, StandAsBefore, TakesBack}
use Rattle.folder_storage.specs.MemoryGround.{IsPlaceOf, entry_out, gives_in, is_at, returned, standing_in, standing_of, standings}
use Rattle.folder_storage.specs.SteadyShelf.{SteadyShelfState}
use Rattle.folder_storage.specs.declared.memory_ground.KeptLibrary.{KeptLibrary}

-- an entry is of one library alone
is_at-same : (kept : KeptLibrary) (f l g m : List ℕ) → is_at kept f l ≡ true → is_at kept g m ≡ true → (g ≡ f) × (m ≡ l)
is_at-same kept f l g m here there =
    let at = and_parts (bytes_eq kept.folder f) (bytes_eq kept.lib l) here in
    let too = and_parts (bytes_eq kept.folder g) (bytes_eq kept.lib m) there in (
      sym ((bytes_eq-Decides kept.folder g).0 too.0) ∙ (bytes_eq-Decides kept.folder f).0 at.0,
      sym ((bytes_eq-Decides kept.lib m).0 too.1) ∙ (bytes_eq-Decides kept.lib l).0 at.1,
    )

pub is_at-other : (kept : KeptLibrary) (f l g m : List ℕ) → is_at kept f l ≡ true → ((g ≡ f) × (m ≡ l) → ⊥) → is_at kept g m ≡ false
is_at-other kept f l g m here other = false_from_ne_true (is_at kept g m) (λ there. other (is_at-same kept f l g m here there))

-- where no entry is of a library, it isn't there
pub standing-absent : (xs : List KeptLibrary) (f l : List ℕ) → ((k : ℕ) (d : KeptLibrary) → k < length xs → is_at (get_or xs k d) f l ≡ false) → standing_in xs f l ≡ Absent
standing-absent [] f l none = refl
standing-absent (x ∷ xs) f l none = rw (none 0 x (omega arith)) (standing-absent xs f l (λ k d below. none (suc k) d (omega (arith, below))))

-- the first entry of a library, in what comes after the front
place-later : (x : KeptLibrary) (xs : List KeptLibrary) (f l : List ℕ) (i : ℕ) → IsPlaceOf (x ∷ xs) f l (suc i) → IsPlaceOf xs f l i
place-later x xs f l i is = record {
  within = omega (arith, is.within);
  there = λ d. is.there d;
  first = λ k d below. is.first (suc k) d (omega (arith, below));
}

place-not_front : (x : KeptLibrary) (xs : List KeptLibrary) (f l : List ℕ) (i : ℕ) → IsPlaceOf (x ∷ xs) f l (suc i) → is_at x f l ≡ false
place-not_front x xs f l i is = is.first 0 x (omega arith)

pub standing-place : (xs : List KeptLibrary) (f l : List ℕ) (i : ℕ) (d : KeptLibrary) → IsPlaceOf xs f l i → standing_in xs f l ≡ standing_of (get_or xs i d).shelf
standing-place [] f l i d is = absurd (omega (arith, is.within))
standing-place (x ∷ xs) f l zero d is = rw (is.there x)
standing-place (x ∷ xs) f l (suc i) d is = rw (place-not_front x xs f l i is) (standing-place xs f l i d (place-later x xs f l i is))

-- another shelf at the first entry of a library
pub standing-set : (xs : List KeptLibrary) (f l : List ℕ) (i : ℕ) (d : KeptLibrary) (s : Option SteadyShelfState) → IsPlaceOf xs f l i
    → standing_in (slice_set xs i (record (get_or xs i d) { shelf = s })) f l ≡ standing_of s
standing-set [] f l i d s is = absurd (omega (arith, is.within))
standing-set (x ∷ xs) f l zero d s is = rw (is.there x)
standing-set (x ∷ xs) f l (suc i) d s is = rw (place-not_front x xs f l i is) (standing-set xs f l i d s (place-later x xs f l i is))

pub standing-set_other : (xs : List KeptLibrary) (f l g m : List ℕ) (i : ℕ) (d : KeptLibrary) (s : Option SteadyShelfState) → IsPlaceOf xs f l i
    → ((g ≡ f) × (m ≡ l) → ⊥) → standing_in (slice_set xs i (record (get_or xs i d) { shelf = s })) g m ≡ standing_in xs g m
standing-set_other [] f l g m i d s is other = absurd (omega (arith, is.within))
standing-set_other (x ∷ xs) f l g m zero d s is other = rw (is_at-other x f l g m (is.there x) other)
standing-set_other (x ∷ xs) f l g m (suc i) d s is other =
    ap (λ rest. cond (is_at x g m) (standing_of x.shelf) rest) (standing-set_other xs f l g m i d s (place-later x xs f l i is) other)

-- one more entry at the end
pub standing-push_other : (xs : List KeptLibrary) (y : KeptLibrary) (g m : List ℕ) → is_at y g m ≡ false → standing_in (xs ++ y ∷ []) g m ≡ standing_in xs g m
standing-push_other [] y g m other = rw other
standing-push_other (x ∷ xs) y g m other = ap (λ rest. cond (is_at x g m) (standing_of x.shelf) rest) (standing-push_other xs y g m other)

standing_of-there : (s : Option SteadyShelfState) → standing_of s ≢ Absent
standing_of-there None e = cc
standing_of-there (Some shelf) e = cc

push_at : (b : Bool) (s : Option SteadyShelfState) (before after last : Standing) → cond b (standing_of s) before ≡ Absent → (before ≡ Absent → after ≡ last)
    → cond b (standing_of s) after ≡ last
push_at true s before after last e go = absurd (standing_of-there s e)
push_at false s before after last e go = go e

pub standing-push : (xs : List KeptLibrary) (y : KeptLibrary) (f l : List ℕ) → standing_in xs f l ≡ Absent → is_at y f l ≡ true
    → standing_in (xs ++ y ∷ []) f l ≡ standing_of y.shelf
standing-push [] y f l absent here = rw here
standing-push (x ∷ xs) y f l absent here =
    push_at (is_at x f l) x.shelf (standing_in xs f l) (standing_in (xs ++ y ∷ []) f l) (standing_of y.shelf) absent (λ e. standing-push xs y f l e here)

-- an entry that stands for the lack of one
blank : KeptLibrary
blank = entry_out [] []

some_standing : (a b : Standing) → Some a ≡ Some b → a ≡ b
some_standing a b e = cc

-- the shelf that is taken is that of a library that is kept
pub taken-found : (xs : List KeptLibrary) (f l : List ℕ) (i : ℕ) (shelf : SteadyShelfState) → IsPlaceOf xs f l i → ((d : KeptLibrary) → Some shelf ≡ (get_or xs i d).shelf)
    → (standing : Standing) → standings xs f l ≡ Some standing → (held : Contents) × (standing ≡ Kept held) × (Some shelf.contents ≡ Some held)
taken-found xs f l i shelf is value standing same =
    (shelf.contents, sym (some_standing (standing_in xs f l) standing same) ∙ standing-place xs f l i blank is ∙ ap standing_of (sym (value blank)), refl)

-- a library whose shelf is taken is handed out, and the others stand as they did
pub taken-changes : (xs ys : List KeptLibrary) (f l : List ℕ) (i : ℕ) → IsPlaceOf xs f l i → ((d : KeptLibrary) → ys ≡ slice_set xs i (record (get_or xs i d) { shelf = None }))
    → ChangesStanding (standings xs) (standings ys) f l HandedOut
taken-changes xs ys f l i is sets = record {
  here = rw (sets blank) (ap Some (standing-set xs f l i blank None is));
  others = λ g m other. rw (sets blank) (ap Some (standing-set_other xs f l g m i blank None is other));
}

set-own : (xs : List KeptLibrary) (i : ℕ) (d : KeptLibrary) → slice_set xs i (get_or xs i d) ≡ xs
set-own [] i d = refl
set-own (x ∷ xs) zero d = refl
set-own (x ∷ xs) (suc i) d = ap (λ more. x ∷ more) (set-own xs i d)

set-taken : (xs : List KeptLibrary) (i : ℕ) (d : KeptLibrary) (o : Option SteadyShelfState) → o ≡ (get_or xs i d).shelf
    → slice_set xs i (record (get_or xs i d) { shelf = o }) ≡ xs
set-taken xs i d o same = rw same (set-own xs i d)

-- where no shelf was there to be taken, every library stands as it did
pub taken-stays : (xs ys : List KeptLibrary) (i : ℕ) → ((d : KeptLibrary) → None ≡ (get_or xs i d).shelf)
    → ((d : KeptLibrary) → ys ≡ slice_set xs i (record (get_or xs i d) { shelf = None })) → StandAsBefore (standings xs) (standings ys)
taken-stays xs ys i value sets g m = ap (λ zs. standings zs g m) (sets blank ∙ set-taken xs i blank None (value blank))

-- and the library was handed out
pub taken-out : (xs : List KeptLibrary) (f l : List ℕ) (i : ℕ) → IsPlaceOf xs f l i → ((d : KeptLibrary) → None ≡ (get_or xs i d).shelf) → standing_in xs f l ≡ HandedOut
taken-out xs f l i is value = standing-place xs f l i blank is ∙ ap standing_of (sym (value blank))

-- a library that wasn't there and is added is handed out, and the others stand as they did
entry_out-here : (f l : List ℕ) → is_at (entry_out f l) f l ≡ true
entry_out-here f l = and_from (bytes_eq f f) (bytes_eq l l) ((bytes_eq-Decides f f).1 refl) ((bytes_eq-Decides l l).1 refl)

pub added-changes : (xs ys : List KeptLibrary) (f l : List ℕ) → standing_in xs f l ≡ Absent → ys ≡ xs ++ entry_out f l ∷ [] → ChangesStanding (standings xs) (standings ys) f l HandedOut
added-changes xs ys f l absent adds = record {
  here = rw adds (ap Some (standing-push xs (entry_out f l) f l absent (entry_out-here f l)));
  others = λ g m other. rw adds (ap Some (standing-push_other xs (entry_out f l) g m (is_at-other (entry_out f l) f l g m (entry_out-here f l) other)));
}

returned-kept : (o : Option SteadyShelfState) (shelf : SteadyShelfState) (held : Contents) → standing_of o ≡ HandedOut → shelf.contents ≡ held
    → standing_of (returned o shelf) ≡ Kept held
returned-kept None shelf held out same = ap Kept same
returned-kept (Some before) shelf held out same = absurd (cc)

returned-stays : (o : Option SteadyShelfState) (shelf : SteadyShelfState) (standing : Standing) → standing ≢ HandedOut → standing_of o ≡ standing
    → standing_of (returned o shelf) ≡ standing
returned-stays None shelf standing other same = absurd (other (sym same))
returned-stays (Some before) shelf standing other same = same

some_contents : (a b : Contents) → Some a ≡ Some b → a ≡ b
some_contents a b e = cc

-- a shelf goes back to a library that was handed out
pub laid-takes_back : (xs ys : List KeptLibrary) (f l : List ℕ) (i : ℕ) (shelf : SteadyShelfState) → IsPlaceOf xs f l i
    → ((d : KeptLibrary) → ys ≡ slice_set xs i (record (get_or xs i d) { shelf = returned (get_or xs i d).shelf shelf }))
    → TakesBack (standings xs) (standings ys) f l (Some shelf.contents)
laid-takes_back xs ys f l i shelf is sets =
    let o = (get_or xs i blank).shelf in
    let now : standing_in ys f l ≡ standing_of (returned o shelf) = rw (sets blank) (standing-set xs f l i blank (returned o shelf) is) in
    let was : standing_in xs f l ≡ standing_of o = standing-place xs f l i blank is in
    record {
      here = λ held same out. ap Some (now ∙ returned-kept o shelf held (sym was ∙ some_standing (standing_in xs f l) HandedOut out) (some_contents shelf.contents held same));
      kept = λ standing other same. ap Some (now ∙ returned-stays o shelf standing other (sym was ∙ some_standing (standing_in xs f l) standing same));
      others = λ g m other. rw (sets blank) (ap Some (standing-set_other xs f l g m i blank (returned o shelf) is other));
    }

-- a library that is there isn't absent
pub placed-there : (xs : List KeptLibrary) (f l : List ℕ) (i : ℕ) → IsPlaceOf xs f l i → (standing : Standing) → standings xs f l ≡ Some standing → standing ≢ Absent
placed-there xs f l i is standing same absent =
    standing_of-there (get_or xs i blank).shelf (sym (standing-place xs f l i blank is) ∙ some_standing (standing_in xs f l) standing same ∙ absent)

-- a standing that is told is the one that the list has
pub told_out : (xs : List KeptLibrary) (f l : List ℕ) (standing : Standing) → standings xs f l ≡ Some standing → standing_in xs f l ≡ HandedOut → standing ≡ HandedOut
told_out xs f l standing told out = sym (some_standing (standing_in xs f l) standing told) ∙ out

-- ---- what libraries may give

gives_same : (before now : Standing) → now ≡ before → GivesNoMore (GivesStanding before) (GivesStanding now)
gives_same before now same slot given gives = subst (λ s. GivesStanding s slot given) same gives

-- the shelf that is taken gives what the library has
pub taken-handed : (xs : List KeptLibrary) (f l : List ℕ) (i : ℕ) (shelf : SteadyShelfState) → IsPlaceOf xs f l i → ((d : KeptLibrary) → Some shelf ≡ (get_or xs i d).shelf)
    → GivesNoMore (gives_in xs f l) (Tells shelf.contents)
taken-handed xs f l i shelf is value =
    gives_same (standing_in xs f l) (Kept shelf.contents) (ap standing_of (value blank) ∙ sym (standing-place xs f l i blank is))

-- and a new one gives nothing
empty_gives : (slot : Slot) (given : Option (List ℕ)) → Tells no_contents slot given → given ≡ None
empty_gives (Object key) given gives = gives ∙ map.get-empty key_cmp key
empty_gives Status given gives = gives

pub added-handed : (xs : List KeptLibrary) (f l : List ℕ) (held : Contents) → standing_in xs f l ≡ Absent → held ≡ no_contents
    → GivesNoMore (gives_in xs f l) (Tells held)
added-handed xs f l held absent empty slot given gives =
    subst (λ s. GivesStanding s slot given) (sym absent) (empty_gives slot given (subst (λ h. Tells h slot given) empty gives))

-- a library that is handed out gives nothing more to others, and the others give what they gave
pub gives-stays : (xs ys : List KeptLibrary) → StandAsBefore (standings xs) (standings ys) → AllGiveNoMore (gives_in xs) (gives_in ys)
gives-stays xs ys stays f l = gives_same (standing_in xs f l) (standing_in ys f l) (some_standing (standing_in ys f l) (standing_in xs f l) (stays f l))

pub gives-out : (xs ys : List KeptLibrary) (f l : List ℕ) → ChangesStanding (standings xs) (standings ys) f l HandedOut → AllGiveNoMore (gives_in xs) (gives_in ys)
gives-out xs ys f l changes g m slot given = by (is_at (entry_out f l) g m) refl
  where
    by : (b : Bool) → is_at (entry_out f l) g m ≡ b → gives_in ys g m slot given → gives_in xs g m slot given
    by true here gives =
        let same = is_at-same (entry_out f l) f l g m (entry_out-here f l) here in
        let out : standing_in ys g m ≡ HandedOut = ap (λ a. standing_in ys a m) same.0 ∙ ap (standing_in ys f) same.1 ∙ some_standing (standing_in ys f l) HandedOut changes.here in
        absurd (subst (λ s. GivesStanding s slot given) out gives)
    by false apart gives =
        let other : (g ≡ f) × (m ≡ l) → ⊥ = λ same. true≢false (sym (ap (λ a. is_at (entry_out f l) a m) same.0 ∙ ap (is_at (entry_out f l) f) same.1 ∙ entry_out-here f l) ∙ apart) in
        gives_same (standing_in xs g m) (standing_in ys g m) (some_standing (standing_in ys g m) (standing_in xs g m) (changes.others g m other)) slot given gives

returned-gives : (o : Option SteadyShelfState) (shelf : SteadyShelfState) (slot : Slot) (given : Option (List ℕ)) → GivesStanding (standing_of (returned o shelf)) slot given
    → Tells shelf.contents slot given ⊎ GivesStanding (standing_of o) slot given
returned-gives None shelf slot given gives = inl gives
returned-gives (Some before) shelf slot given gives = inr gives

-- a shelf goes back to its library, which then gives what the shelf does
pub laid-gives_back : (xs ys : List KeptLibrary) (f l : List ℕ) (i : ℕ) (shelf : SteadyShelfState) → IsPlaceOf xs f l i
    → ((d : KeptLibrary) → ys ≡ slice_set xs i (record (get_or xs i d) { shelf = returned (get_or xs i d).shelf shelf }))
    → GivesBack (gives_in xs) (gives_in ys) f l (Tells shelf.contents)
laid-gives_back xs ys f l i shelf is sets =
    let o = (get_or xs i blank).shelf in
    let now : standing_in ys f l ≡ standing_of (returned o shelf) = rw (sets blank) (standing-set xs f l i blank (returned o shelf) is) in
    let was : standing_of o ≡ standing_in xs f l = sym (standing-place xs f l i blank is) in
    record {
      here = λ slot given gives.
          elim (returned-gives o shelf slot given (subst (λ s. GivesStanding s slot given) now gives)) [
            | inl laid ↦ inl laid
            | inr before ↦ inr (subst (λ s. GivesStanding s slot given) was before)
          ];
      others = λ g m other. gives_same (standing_in xs g m) (standing_in ys g m) (rw (sets blank) (standing-set_other xs f l g m i blank (returned o shelf) is other));
    }

-- no library is there to take it
pub gives_back-none : (xs : List KeptLibrary) (f l : List ℕ) (gives : Slot → Option (List ℕ) → Type 0) → GivesBack (gives_in xs) (gives_in xs) f l gives
gives_back-none xs f l gives = record {
  here = λ slot given before. inr before;
  others = λ g m other slot given before. before;
}
