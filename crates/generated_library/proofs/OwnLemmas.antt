-- What calls and turns lead a library to that nobody else asks. The key lemmas are moved_alone, asks_lead, below_done, leads_then and leads_seen.
use Rattle.std.proofs.Common.{◌≡◌, ◌⊎◌, inl, inr, ◌≤◌, ◌<◌, ◌+◌, ℕ, zero, suc, Bool, true, false, List, [], ◌∷◌, ◌++◌, length, length-append, add-one, refl, sym, ap, ◌∙◌, subst, arith, Option, None, Some, option_map, true≢false}
use Rattle.std.specs.Prelude.{nat_lt, slice_set}
use Rattle.std.specs.List.{slice_get}
use Rattle.std.proofs.lemmas.Bool.Decides.{nat_tests}
use mathlib.Core.List.{IsPrefix}
use Rattle.ids.specs.Key.{Objects}
use Rattle.ids.proofs.BasicLemmas.{same_from_some}
use Rattle.library_rules.specs.Changes.{is_refused}
use Rattle.library_rules.specs.History.{StepSo, lone}
use Rattle.library_rules.specs.LibraryState.{IsSound, State, head_of}
use Rattle.library_rules.specs.declared.entry.Entry.{Entry}
use Rattle.library_rules.specs.declared.entry.Step.TheVariants as step
use Rattle.library_rules.proofs.StepLemmas.{sound_apply}
use Rattle.library_state.specs.declared.call.Call.{Call}
use Rattle.library_state.specs.declared.refusal.Refusal.{Refusal}
use Rattle.library_state.specs.declared.reply.Reply.{Reply}
use Rattle.library_state.specs.declared.reply.Reply.TheVariants as reply
use Rattle.library_state.specs.declared.state.LibState.{LibState}
use Rattle.object_store.specs.Shelf.{Contents}
use Rattle.object_store.specs.StoreView.{objects_of}
use Rattle.object_store.specs.declared.shelf.Slot.{Slot}
use Rattle.depot.specs.DepotView.{DepotView, running_library, state_of}
use Rattle.depot.specs.Story.{MadeBy}
use Rattle.depot.specs.declared.story.Change.{Change}
use Rattle.depot.specs.declared.story.Made.{Made}
use Rattle.depot.specs.declared.story.Made.TheVariants as made
use Rattle.depot.proofs.StoryLemmas.{same_state}
use Rattle.turnstile.specs.Lists.{Has}
use Rattle.turnstile.proofs.ListsLemmas.{Has-append, prefix_length, prefix_refl, prefix_trans, prefix_whole}
use Rattle.sync_calls.specs.Asking.{AsksSo}
use Rattle.sync_calls.specs.Operations.{Called, Deed, Does, IsChanging, IsMadeBy, IsReading, Line, Looked, TookTurn}
use Rattle.sync_calls.specs.Shown.{Shown, library_after, library_at}
use Rattle.sync_calls.specs.declared.asking.Answer.{Answer}
use Rattle.sync_calls.proofs.ShownLemmas.{after_front}
use Rattle.generated_library.specs.Leading.{Any, GoesOn, IsAnswered, IsNow, IsOwn, Leads, WasHead}

-- ---- lists

-- a list with one item more
behind : {A : Type 0} (xs ys : List A) → IsPrefix xs ys → length ys ≡ length xs + 1 → (x : A) → slice_get ys (length xs) ≡ Some x → ys ≡ xs ++ x ∷ []
behind {A = A} xs ys (rest, is) size x at = by rest is
  where
    there : (front : List A) (back : List A) → slice_get (front ++ back) (length front) ≡ slice_get back 0
    there [] back = refl
    there (y ∷ front) back = there front back

    by : (rest : List A) → xs ++ rest ≡ ys → ys ≡ xs ++ x ∷ []
    by [] is = absurd (omega (arith, size, ap length is, length-append xs []))
    by (y ∷ []) is =
        let found : Some y ≡ Some x = sym (there xs (y ∷ [])) ∙ (ap (λ l. slice_get l (length xs)) is ∙ at) in
        sym is ∙ ap (λ z. xs ++ z ∷ []) (same_from_some y x found)
    by (y ∷ z ∷ more) is = absurd (omega (arith, size, ap length is, length-append xs (y ∷ z ∷ more)))

-- one that was set alone
pub alone_set : {A : Type 0} (xs : List A) (i : ℕ) (before after only : A) → slice_get xs i ≡ Some before → slice_set xs i after ≡ only ∷ [] → (xs ≡ before ∷ []) × (only ≡ after)
alone_set [] i before after only was is = cc
alone_set (x ∷ []) zero before after only was is =
    let there : x ≡ before = same_from_some x before was in
    let set : only ≡ after = cc in
    (ap (λ y. y ∷ []) there, set)
alone_set (x ∷ []) (suc i) before after only was is = cc
alone_set (x ∷ y ∷ xs) zero before after only was is = cc
alone_set (x ∷ y ∷ xs) (suc zero) before after only was is = cc
alone_set (x ∷ y ∷ xs) (suc (suc i)) before after only was is = cc

-- ---- history that goes on

pub goes_none : {S : Type 0} (u : Shown S) → GoesOn u u
goes_none u = (refl, prefix_refl u.seen)

pub goes_then : {S : Type 0} (u v w : Shown S) → GoesOn u v → GoesOn v w → GoesOn u w
goes_then u v w first second = (second.0 ∙ first.0, prefix_trans u.seen v.seen w.seen first.1 second.1)

-- of the one that is shown
pub one_goes : {S : Type 0} (us vs : List (Shown S)) (u v x y : Shown S) → us ≡ u ∷ [] → vs ≡ v ∷ [] → GoesOn u v → us ≡ x ∷ [] → vs ≡ y ∷ [] → GoesOn x y
one_goes {S = S} us vs u v x y was is goes was_x is_y =
    let front : u ∷ [] ≡ x ∷ [] = sym was ∙ was_x in
    let back : v ∷ [] ≡ y ∷ [] = sym is ∙ is_y in
    let same_u : u ≡ x = cc in
    let same_v : v ≡ y = cc in
    subst (λ (w : Shown S). GoesOn w y) same_u (subst (GoesOn u) same_v goes)

-- what stood after all changes stands at its place
stood_on : {S : Type 0} (u v : Shown S) (there : DepotView S) → GoesOn u v → library_at u (length u.seen) ≡ Some there → library_at v (length u.seen) ≡ Some there
stood_on {S = S} u v there (begins, (rest, is)) stood =
    ap (λ (start : Option (DepotView S)). library_after start v.seen (length u.seen)) begins
    ∙ (ap (λ (seen : List (Change (DepotView S))). library_after u.start seen (length u.seen)) (sym is) ∙ (after_front u.start u.seen rest ∙ stood))

-- the library behind one change more
after_last : {V : Type 0} (start : Option V) (cs : List (Change V)) (c : Change V) → library_after start (cs ++ c ∷ []) (suc (length cs)) ≡ Some c.after.value
after_last start [] c = refl
after_last start (d ∷ cs) c = after_last (Some d.after.value) cs c

module _ {S : Type 0} (contents : S → Option Contents) (may_give : S → Slot → Option (List ℕ) → Type 0) (texts faults : S → ℕ) where
  -- the book has places of what was seen alone
  abbrev pub BooksSeen : Shown S → Type 0
  BooksSeen u = (place : ℕ) → Has place u.book → place < length u.seen

  abbrev pub OwnsSeen : Shown S → Type 0
  OwnsSeen u = (place : ℕ) → place < length u.seen → Has place u.book

  -- what stands after all changes
  pub record StandsAt (u : Shown S) (s : State) : Type 0 where
    pub there : DepotView S
    pub stood : library_at u (length u.seen) ≡ Some there
    pub told : state_of contents faults there ≡ Some s

  -- what stands has the state and the collection of its library
  pub stands_has : (d : DepotView S) (s : State) → state_of contents faults d ≡ Some s → (s.running ≡ d.running) × (s.state ≡ d.state)
  stands_has d s told = by (objects_of contents d.store) told
    where
      by : (o : Option Objects) → option_map (running_library d.state d.running (faults d.store.shelf)) o ≡ Some s → (s.running ≡ d.running) × (s.state ≡ d.state)
      by None e = cc
      by (Some held) e = let same = sym (same_from_some (running_library d.state d.running (faults d.store.shelf) held) s e) in (ap (λ (u : State). u.running) same, ap (λ (u : State). u.state) same)

  -- a deed led from what stood before to what stands now
  pub record Moved (deed : Deed) (s : State) (v : Shown S) : Type 0 where
    pub before : DepotView S
    pub was : state_of contents faults before ≡ Some s
    pub after : DepotView S
    pub does : Does contents may_give texts faults before deed after
    pub stands : (t : State) → state_of contents faults after ≡ Some t → StandsAt v t

  -- ---- reading

  read_same : (u : Shown S) (place : ℕ) (deed : Deed) (v : Shown S) → IsReading contents may_give texts faults u place deed v → BooksSeen u → OwnsSeen v → v ≡ record u { turns = u.turns + 1 }
  read_same u place deed v reads books owns =
      let short : length v.seen ≤ length u.seen = by (nat_lt (length u.seen) (length v.seen)) refl in
      let whole : u.seen ≡ v.seen = prefix_whole u.seen v.seen reads.grows short in
      reads.same ∙ ap (λ (seen : List (Change (DepotView S))). record u { seen = seen; turns = u.turns + 1 }) (sym whole)
    where
      same_book : v.book ≡ u.book
      same_book = ap (λ (w : Shown S). w.book) reads.same

      by : (b : Bool) → nat_lt (length u.seen) (length v.seen) ≡ b → length v.seen ≤ length u.seen
      by true less =
          let within : length u.seen < length v.seen = grind (arith, nat_tests, less) in
          let there : length u.seen < length u.seen = books (length u.seen) (subst (Has (length u.seen)) same_book (owns (length u.seen) within)) in
          absurd (omega (arith, there))
      by false less = grind (arith, nat_tests, less)

  moved_reading : (u : Shown S) (place : ℕ) (deed : Deed) (v : Shown S) → IsReading contents may_give texts faults u place deed v → v ≡ record u { turns = u.turns + 1 } → (s : State) → StandsAt u s → Moved deed s v
  moved_reading u place deed v reads same s stands =
      let read = reads.reads in
      let stood : library_at v (length v.seen) ≡ Some read.there = ap (library_at v) (sym reads.whole) ∙ read.stood in
      let here : library_at v (length v.seen) ≡ Some stands.there = ap (λ (w : Shown S). library_at w (length w.seen)) same ∙ stands.stood in
      let one : stands.there ≡ read.there = same_from_some stands.there read.there (sym here ∙ stood) in
      let told : state_of contents faults read.there ≡ Some s = subst (λ (d : DepotView S). state_of contents faults d ≡ Some s) one stands.told in
      let before : state_of contents faults read.before ≡ Some s = same_state read.same told in
      record {
        before = read.before;
        was = before;
        after = read.after;
        does = read.does;
        stands = λ t after. record { there = read.there; stood = stood; told = told ∙ (sym (same_state read.stays before) ∙ after) };
      }

  -- ---- changing

  change_next : (u : Shown S) (place : ℕ) (deed : Deed) (v : Shown S) → IsChanging contents may_give texts faults u place deed v → BooksSeen u → OwnsSeen v → place ≡ length u.seen
  change_next u place deed v changes books owns = by (nat_lt (length u.seen) place) refl
    where
      by : (b : Bool) → nat_lt (length u.seen) place ≡ b → place ≡ length u.seen
      by false more =
          let least = changes.new.0 in
          grind (arith, nat_tests, more, least)
      by true less =
          let before : length u.seen < place = grind (arith, nat_tests, less) in
          let within : length u.seen < length v.seen = omega (arith, before, changes.whole) in
          let had : Has (length u.seen) (u.book ++ place ∷ []) = subst (Has (length u.seen)) (ap (λ (w : Shown S). w.book) changes.same) (owns (length u.seen) within) in
          absurd (elim (Has-append (length u.seen) u.book (place ∷ []) had) [
            | inl own ↦ omega (arith, books (length u.seen) own)
            | inr last ↦ elim last [ inl is ↦ omega (arith, is, before) | inr none ↦ none ]
          ])

  change_owns : (u : Shown S) (place : ℕ) (deed : Deed) (v : Shown S) → IsChanging contents may_give texts faults u place deed v → OwnsSeen v → OwnsSeen u
  change_owns u place deed v changes owns p below =
      let least = changes.new.0 in
      let had : Has p (u.book ++ place ∷ []) = subst (Has p) (ap (λ (w : Shown S). w.book) changes.same) (owns p (omega (arith, below, least, changes.whole))) in
      elim (Has-append p u.book (place ∷ []) had) as (λ _. Has p u.book) [
        | inl own ↦ own
        | inr last ↦ absurd (elim last [ inl is ↦ omega (arith, is, below, least) | inr none ↦ none ])
      ]

  made_does : (m : Made) (at : ℕ) (deed : Deed) (old new : DepotView S) → IsMadeBy m at deed → MadeBy contents may_give texts faults m old at new → Does contents may_give texts faults old deed new
  made_does (made.Asked call said) at (Called c moment r) old new (asked, answered, when) by =
      let P : Call → Reply → ℕ → Type 0 = λ c r n. Does contents may_give texts faults old (Called c n r) new in
      subst (λ c. P c r moment) asked (subst (λ r. P call.value r moment) answered (subst (λ n. P call.value said.value n) when by))
  made_does (made.Asked call said) at (TookTurn goal moment most taken) old new none by = absurd none
  made_does (made.Asked call said) at Looked old new none by = absurd none
  made_does (made.Turned g m t) at (Called c moment r) old new none by = absurd none
  made_does (made.Turned g m t) at (TookTurn goal moment most taken) old new (aimed, many, took, when) by =
      let P : Option ℕ → ℕ → ℕ → Type 0 = λ g n m. Does contents may_give texts faults old (TookTurn g n m taken) new in
      subst (λ x. P x moment most) aimed (subst (λ n. P g n most) when (subst (λ x. P g at x) many
      (subst (λ x. Does contents may_give texts faults old (TookTurn g at m x) new) took by)))
  made_does (made.Turned g m t) at Looked old new none by = absurd none

  moved_changing : (u : Shown S) (place : ℕ) (deed : Deed) (v : Shown S) → IsChanging contents may_give texts faults u place deed v → place ≡ length u.seen → (s : State) → StandsAt u s → Moved deed s v
  moved_changing u place deed v changes next s stands =
      let grown : v.seen ≡ u.seen ++ changes.change ∷ [] =
      behind u.seen v.seen changes.grows (changes.whole ∙ ap (λ n. n + 1) next) changes.change (ap (slice_get v.seen) (sym next) ∙ changes.at) in
      let began : v.start ≡ u.start = ap (λ (w : Shown S). w.start) changes.same in
      let front : library_at v place ≡ library_at u (length u.seen) =
      ap (library_at v) next ∙ (ap (λ (start : Option (DepotView S)). library_after start v.seen (length u.seen)) began
      ∙ (ap (λ (seen : List (Change (DepotView S))). library_after u.start seen (length u.seen)) grown ∙ after_front u.start u.seen (changes.change ∷ []))) in
      let one : stands.there ≡ changes.there = same_from_some stands.there changes.there (sym stands.stood ∙ (sym front ∙ changes.stood)) in
      let told : state_of contents faults changes.there ≡ Some s = subst (λ (d : DepotView S). state_of contents faults d ≡ Some s) one stands.told in
      let last : library_at v (length v.seen) ≡ Some changes.change.after.value =
      ap (λ (seen : List (Change (DepotView S))). library_after v.start seen (length seen)) grown
      ∙ (ap (library_after v.start (u.seen ++ changes.change ∷ [])) (length-append u.seen (changes.change ∷ []) ∙ add-one (length u.seen)) ∙ after_last v.start u.seen changes.change) in
      record {
        before = changes.change.before.value;
        was = same_state changes.follows told;
        after = changes.change.after.value;
        does = made_does changes.change.made changes.change.moment deed changes.change.before.value changes.change.after.value changes.made changes.links.by;
        stands = λ t after. record { there = changes.change.after.value; stood = last; told = after };
      }

  -- ---- either

  abbrev IsMade : Shown S → ℕ → Deed → Shown S → Type 0
  IsMade u place deed v = IsReading contents may_give texts faults u place deed v ⊎ IsChanging contents may_give texts faults u place deed v

  pub below_done : (u : Shown S) (place : ℕ) (deed : Deed) (v : Shown S) → IsMade u place deed v → BooksSeen u → BooksSeen v
  below_done u place deed v (inl reads) books p has =
      let own : Has p u.book = subst (Has p) (ap (λ (w : Shown S). w.book) reads.same) has in
      omega (arith, books p own, prefix_length u.seen v.seen reads.grows)
  below_done u place deed v (inr changes) books p has =
      let had : Has p (u.book ++ place ∷ []) = subst (Has p) (ap (λ (w : Shown S). w.book) changes.same) has in
      elim (Has-append p u.book (place ∷ []) had) as (λ _. p < length v.seen) [
        | inl own ↦ omega (arith, books p own, prefix_length u.seen v.seen changes.grows)
        | inr last ↦ elim last as (λ _. p < length v.seen) [ inl is ↦ omega (arith, is, changes.whole) | inr none ↦ absurd none ]
      ]

  pub done_goes : (u : Shown S) (place : ℕ) (deed : Deed) (v : Shown S) → IsMade u place deed v → GoesOn u v
  done_goes u place deed v (inl reads) = (ap (λ (w : Shown S). w.start) reads.same, reads.grows)
  done_goes u place deed v (inr changes) = (ap (λ (w : Shown S). w.start) changes.same, changes.grows)

  pub owns_before : (u : Shown S) (place : ℕ) (deed : Deed) (v : Shown S) → IsMade u place deed v → BooksSeen u → OwnsSeen v → OwnsSeen u
  owns_before u place deed v (inl reads) books owns = subst OwnsSeen (read_same u place deed v reads books owns) owns
  owns_before u place deed v (inr changes) books owns = change_owns u place deed v changes owns

  pub moved_alone : (u : Shown S) (place : ℕ) (deed : Deed) (v : Shown S) → IsMade u place deed v → BooksSeen u → OwnsSeen v → (s : State) → StandsAt u s → Moved deed s v
  moved_alone u place deed v (inl reads) books owns s stands = moved_reading u place deed v reads (read_same u place deed v reads books owns) s stands
  moved_alone u place deed v (inr changes) books owns s stands = moved_changing u place deed v changes (change_next u place deed v changes books owns) s stands

  -- ---- a call

  by_entry : (s : State) (call : Call) (moment : ℕ) (r : Reply) (t : State) (es : List Entry) → StepSo s (step.Asked call) moment r t es → IsAnswered call moment r s t
  by_entry s call moment r t [] (same, read) =
      record { entry = lone s (step.Asked call) moment r; permits = read.permits; is_step = refl; at = refl; answers = refl; is = same ∙ sym read.stays }
  by_entry s call moment r t (e ∷ []) enters =
      record { entry = e; permits = enters.permitted.permits; is_step = enters.is_step; at = enters.at; answers = enters.answers; is = sym enters.state }
  by_entry s call moment r t (e ∷ f ∷ es) none = absurd none

  sound_answered : (s t : State) (call : Call) (moment : ℕ) (r : Reply) → IsAnswered call moment r s t → IsSound s → IsSound t
  sound_answered s t call moment r answered sound = subst IsSound (sym answered.is) (sound_apply s answered.entry answered.permits sound)

  not_refused : (answer : Answer) (why : Refusal) (opening place : ℕ) → answer ≡ record { reply = reply.Refused why; opening = opening; place = place } → is_refused answer.reply ≡ false → ⊥
  not_refused answer why opening place is done = true≢false (sym (ap (λ (a : Answer). is_refused a.reply) is) ∙ done)

  pub led_now : (us vs : List (Shown S)) (u : Shown S) → us ≡ u ∷ [] → (s : State) → IsNow contents faults us s → StandsAt u s
  led_now us vs u is s now =
      let shown : now.only ∷ [] ≡ u ∷ [] = sym now.is ∙ is in
      let one : now.only ≡ u = cc in
      subst (λ (w : Shown S). StandsAt w s) one (record { there = now.there; stood = now.stood; told = now.told })

  pub asks_lead : (us vs : List (Shown S)) (lib : List ℕ) (call : Call) (moment : ℕ) (answer : Answer) (lines : List Line) (draws : List ℕ)
      → ((u : Shown S) → us ≡ u ∷ [] → BooksSeen u) → AsksSo contents may_give texts faults us lib call moment answer lines vs draws → is_refused answer.reply ≡ false
      → Leads contents faults us vs Any (IsAnswered call moment answer.reply)
  asks_lead us vs lib call moment answer lines draws books (AsksSo.nowhere away is empty same) done = absurd (not_refused answer _ 0 0 is done)
  asks_lead us vs lib call moment answer lines draws books (AsksSo.denied library u at may is empty same) done = absurd (not_refused answer _ 0 0 is done)
  asks_lead us vs lib call moment answer lines draws books (AsksSo.spent library u at may last is empty same) done = absurd (not_refused answer _ 0 0 is done)
  asks_lead us vs lib call moment answer lines draws books (AsksSo.took library u at may drawn drew fits turn) done = record {
    own = λ owns. let one = alone owns in record { only = u; is = one.0; each = owns_before u turn.place (Called call moment answer.reply) turn.after turn.done (books u one.0) one.2 };
    goes = λ owns x y was is. let one = alone owns in one_goes us vs u turn.after x y one.0 one.1 (done_goes u turn.place (Called call moment answer.reply) turn.after turn.done) was is;
    to = λ owns s now any. leads s now (alone owns);
  }
    where
      alone : IsOwn vs → (us ≡ u ∷ []) × (vs ≡ turn.after ∷ []) × OwnsSeen turn.after
      alone owns =
          let set = alone_set us library u turn.after owns.only at.at (sym turn.is ∙ owns.is) in
          (set.0, owns.is ∙ ap (λ (w : Shown S). w ∷ []) set.1, subst OwnsSeen set.1 owns.each)

      leads : (s : State) → IsNow contents faults us s → (us ≡ u ∷ []) × (vs ≡ turn.after ∷ []) × OwnsSeen turn.after → (t : State) × IsNow contents faults vs t × IsAnswered call moment answer.reply s t
      leads s now (is, one, after) =
          let moved = moved_alone u turn.place (Called call moment answer.reply) turn.after turn.done (books u is) after s (led_now us vs u is s now) in
          let told = moved.does.serves.told s moved.was in
          let so = told.1 in
          let answered = by_entry s call moment answer.reply so.state told.0 so.step in
          let stands = moved.stands so.state so.left in (
            so.state,
            record {
              only = turn.after;
              is = one;
              there = stands.there;
              stood = stands.stood;
              told = stands.told;
              sound = sound_answered s so.state call moment answer.reply answered now.sound;
            },
            answered,
          )

  -- ---- one after another

  leads_goes : (us ms vs : List (Shown S)) (P Q : State → Type 0) (A B : State → State → Type 0) → Leads contents faults us ms P A → Leads contents faults ms vs Q B
      → IsOwn vs → (u v : Shown S) → us ≡ u ∷ [] → vs ≡ v ∷ [] → GoesOn u v
  leads_goes us ms vs P Q A B first second owns u v was is =
      let mid = second.own owns in
      goes_then u mid.only v (first.goes mid u mid.only was mid.is) (second.goes owns mid.only v mid.is is)

  pub leads_then : (us ms vs : List (Shown S)) (P Q : State → Type 0) (A B R : State → State → Type 0) → Leads contents faults us ms P A → Leads contents faults ms vs Q B
      → ((s m : State) → IsSound s → P s → A s m → Q m) → ((s m t : State) → IsSound m → P s → A s m → B m t → R s t) → Leads contents faults us vs P R
  leads_then us ms vs P Q A B R first second ready both = record {
    own = λ owns. first.own (second.own owns);
    goes = leads_goes us ms vs P Q A B first second;
    to = λ owns s now kind.
        let one = first.to (second.own owns) s now kind in
        let two = second.to owns one.0 one.1 (ready s one.0 now.sound kind one.2) in
        (two.0, two.1, both s one.0 two.0 one.1.sound kind one.2 two.2);
  }

  -- and the head between them was one
  pub leads_seen : (us ms vs : List (Shown S)) (P Q : State → Type 0) (A B R : State → State → Type 0) → Leads contents faults us ms P A → Leads contents faults ms vs Q B
      → ((s m : State) → IsSound s → P s → A s m → Q m) → ((s m t : State) → P s → A s m → B m t → WasHead us vs (head_of m.state.kept) → R s t) → Leads contents faults us vs P R
  leads_seen us ms vs P Q A B R first second ready both = record {
    own = λ owns. first.own (second.own owns);
    goes = leads_goes us ms vs P Q A B first second;
    to = λ owns s now kind.
        let one = first.to (second.own owns) s now kind in
        let two = second.to owns one.0 one.1 (ready s one.0 now.sound kind one.2) in
        let front = first.goes (second.own owns) now.only one.1.only now.is one.1.is in
        let back = second.goes owns one.1.only two.1.only one.1.is two.1.is in (
          two.0,
          two.1,
          both s one.0 two.0 kind one.2 two.2 (record {
            before = now.only;
            was = now.is;
            after = two.1.only;
            is = two.1.is;
            place = length one.1.only.seen;
            since = prefix_length now.only.seen one.1.only.seen front.1;
            there = one.1.there;
            stood = stood_on one.1.only two.1.only one.1.there back one.1.stood;
            head = ap (λ (x : LibState). head_of x.kept) (sym (stands_has one.1.there one.0 one.1.told).1);
          }),
        );
  }

  pub leads_more : (us vs : List (Shown S)) (P Q : State → Type 0) (A B : State → State → Type 0) → Leads contents faults us vs P A → ((s : State) → Q s → P s)
      → ((s t : State) → IsSound s → Q s → A s t → B s t) → Leads contents faults us vs Q B
  leads_more us vs P Q A B leads ready more = record {
    own = leads.own;
    goes = leads.goes;
    to = λ owns s now kind. let one = leads.to owns s now (ready s kind) in (one.0, one.1, more s one.0 now.sound kind one.2);
  }

  pub leads_none : (us vs : List (Shown S)) (P : State → Type 0) (R : State → State → Type 0) → vs ≡ us → ((s : State) → P s → R s s) → Leads contents faults us vs P R
  leads_none us vs P R same each = record {
    own = λ owns. subst IsOwn same owns;
    goes = λ owns u v was is. one_goes us vs u u u v was (same ∙ was) (goes_none u) was is;
    to = λ owns s now kind. (s, subst (λ ws. IsNow contents faults ws s) (sym same) now, each s kind);
  }
