-- A link that may not be kept goes back before another is made. The key lemmas are readies_after, no_link_after,
-- keeps_new, count_fits, no_link_cause, never_kept, exchanged_over, went_back and left_all.
use Rattle.std.proofs.Common.{◌≡◌, ℕ, ◌+◌, ◌^◌, ◌<◌, not, nat_lt, Bool, true, false, List, [], ◌∷◌, ◌++◌, Option, None, Some, Err, map, option_map, refl, sym, ap, subst, ◌∙◌, append-nil, arith}
use Rattle.std.proofs.lemmas.Bool.{and_parts, false≢true}
use Rattle.std.proofs.lemmas.Bool.Decides.{nat_tests}
use Rattle.std.proofs.lemmas.List.{map-append}
use Rattle.http_front.specs.declared.order.What.{What}
use Rattle.remote_calls.specs.Exchange.{Exchanges, IsLinkCause, LinkView, OpenView, open_view}
use Rattle.remote_calls.specs.HttpRemote.{GoesOver, HasNoLink, IsNew, LeavesAll, LeavesLink, LinksView, ReadiesBy, keeps, keeps_open, left_over, links_in, links_of, sum_with}
use Rattle.remote_calls.specs.Sends.{Ending}
use Rattle.remote_calls.specs.declared.error.RemoteFault.{RemoteFault}
use Rattle.remote_calls.specs.declared.error.RemoteFault.TheVariants as fault
use Rattle.remote_calls.specs.declared.open_link.OpenLink.{OpenLink}
use Rattle.remote_calls.proofs.LinkCountLemmas.{ended_count}

-- as one link went back and none is kept
pub record WentBack (old mid : LinksView) : Type 0 where
  pub none : mid.kept ≡ None
  pub back : mid.back ≡ old.back ++ left_over old.kept

none_kept : (mid : LinksView) → mid.kept ≡ None → keeps_open mid.kept ≡ true → ⊥
none_kept mid none may = false≢true (sym (ap keeps_open none) ∙ may)

-- nothing more goes back then
leaves_after : (old mid : LinksView) (back : List LinkView) → keeps_open old.kept ≡ false → WentBack old mid → LeavesLink mid back → LeavesLink old back
leaves_after old mid back over went is = record {
  no_more = over;
  back_is = is.back_is ∙ ap (λ k. mid.back ++ left_over k) went.none ∙ append-nil mid.back ∙ went.back;
}

pub readies_after : (reaches : LinkView → Type 0) (old mid : LinksView) (o : OpenView) (back : List LinkView) → keeps_open old.kept ≡ false → WentBack old mid
    → ReadiesBy reaches mid o back → ReadiesBy reaches old o back
readies_after reaches old mid o back over went (ReadiesBy.kept is) = absurd (none_kept mid went.none is.may)
readies_after reaches old mid o back over went (ReadiesBy.made is new there) = ReadiesBy.made (leaves_after old mid back over went is) new there

pub no_link_after : (old mid new : LinksView) (ending : Ending) → keeps_open old.kept ≡ false → WentBack old mid → HasNoLink mid new ending → HasNoLink old new ending
no_link_after old mid new ending over went (HasNoLink.undialled is leaves none) = HasNoLink.undialled is (leaves_after old mid new.back over went leaves) none
no_link_after old mid new ending over went (HasNoLink.no_room is leaves none) = HasNoLink.no_room is (leaves_after old mid new.back over went leaves) none

-- a link that was just made may be kept
pub keeps_new : (o : OpenView) → IsNew o → keeps o.over o.count ≡ true
keeps_new o new = rw (new.over, new.count) refl

-- the count of a link that may be kept is far from the greatest number
pub count_fits : (over : Bool) (count : ℕ) → keeps over count ≡ true → count + 1 < 2 ^ 64
count_fits over count may =
    let few : count < 9000 = less count 9000 (and_parts (not over) (nat_lt count 9000) may).1 in
    omega (arith, few)
  where
    less : (n m : ℕ) → nat_lt n m ≡ true → n < m
    less n m is = grind (arith, nat_tests)

same_fault : (ending : Ending) (f g : RemoteFault) → ending ≡ Err f → ending ≡ Err g → f ≡ g
same_fault ending f g e same = cc

-- where no link was made, that was the link's fault, or memory was wanting
pub no_link_cause : (old new : LinksView) (f : RemoteFault) → HasNoLink old new (Err f) → IsLinkCause f
no_link_cause old new f (HasNoLink.undialled is leaves none) = subst IsLinkCause (sym (same_fault (Err f) f fault.Link refl is)) tt
no_link_cause old new f (HasNoLink.no_room is leaves none) = subst IsLinkCause (sym (same_fault (Err f) f fault.NoMemory refl is)) tt

-- ---- a try

-- what is nothing holds no link
pub never_kept : {A P : Type 0} (told : Option A) (a : A) → told ≡ None → told ≡ Some a → P
never_kept told a none some = absurd (cc)

-- an order over a link that was readied, and is kept then
pub exchanged_over : {D L : Type 0} (view : L → LinkView) (back : D → List L) (faults : D → ℕ) (reaches : LinkView → Type 0) (what : What) (old : LinksView) (mid dial : D)
    (chosen after : OpenLink L) (kept : Option (OpenLink L)) (text : List ℕ) (ending : Ending)
    → dial ≡ mid → kept ≡ Some after → ReadiesBy reaches old (open_view view chosen) (map view (back mid))
    → Exchanges what text (open_view view chosen) (open_view view after) ending → GoesOver reaches what text old (links_of view back faults dial kept) ending
exchanged_over {D} {L} view back faults reaches what old mid dial chosen after kept text ending same kept_is readies exchange =
    GoesOver.exchanged (open_view view chosen) (open_view view after)
    (subst (λ (d : D). ReadiesBy reaches old (open_view view chosen) (map view (back d))) (sym same) readies) exchange (ap (option_map (open_view view)) kept_is)

-- ---- at the end

-- every link went back
pub went_back : {L : Type 0} (view : L → LinkView) (back : List L) (kept : Option (OpenLink L))
    → map view (back ++ links_in kept) ≡ map view back ++ left_over (option_map (open_view view) kept)
went_back view back None = ap (map view) (append-nil back) ∙ sym (append-nil (map view back))
went_back view back (Some last) = map-append view back (last.link ∷ [])

-- and none is kept
pub left_all : {D L : Type 0} (view : L → LinkView) (back : D → List L) (faults : D → ℕ) (link_faults : L → ℕ) (old new : D) (kept now : Option (OpenLink L))
    → ((l : L) → (view l).faults ≡ link_faults l) → now ≡ None → back new ≡ back old ++ links_in kept → faults new ≡ sum_with link_faults (faults old) kept
    → LeavesAll (links_of view back faults old kept) (links_of view back faults new now)
left_all {D} {L} view back faults link_faults old new kept now same none back_is count_is =
    subst (λ (k : Option (OpenLink L)). LeavesAll (links_of view back faults old kept) (links_of view back faults new k)) (sym none) (record {
      none = refl;
      back_is = ap (map view) back_is ∙ went_back view (back old) kept;
      count = ended_count link_faults view (faults old) (faults new) kept same count_is;
    })
