-- What the tags of a connection tell. The key lemmas are tags_ran and one_state.
use Rattle.std.proofs.Common.{◌≡◌, inl, inr, ℕ, suc, Bool, true, false, List, [], ◌∷◌, length, Option, Some, ap, arith, refl, subst, subst₂, sym, ◌∙◌}
use Rattle.std.specs.List.{AllByRecursion, slice_get}
use Rattle.std.specs.Prelude.{◌==◌, ◌&&◌, if◌then◌else◌, option_map}
use Rattle.std.proofs.lemmas.Bool.{and_parts, eqb-true}
use Rattle.library_state.specs.declared.call.Call.{Call}
use Rattle.library_state.specs.declared.reply.Reply.{Reply}
use Rattle.library_state.specs.declared.tag.Tag.{Tag}
use Rattle.object_store.specs.Shelf.{Contents}
use Rattle.object_store.specs.declared.shelf.Slot.{Slot}
use Rattle.depot.specs.DepotView.{DepotView}
use Rattle.depot.specs.Story.{IsAnswered, IsSame, MadeBy, same_itself}
use Rattle.depot.specs.declared.story.Made.{Made}
use Rattle.depot.specs.declared.story.Made.TheVariants as made
use Rattle.sync_calls.specs.Asking.{AsksSo}
use Rattle.sync_calls.specs.Looking.{GlancesSo, glance_at}
use Rattle.sync_calls.specs.Operations.{Called, IsDone, IsMadeBy, Line, Lines}
use Rattle.sync_calls.specs.Shown.{Shown, lib_of, library_at, opening_of}
use Rattle.sync_calls.specs.declared.asking.Answer.{Answer as HallAnswer}
use Rattle.sync_calls.specs.declared.looking.Glance.{Glance}
use Rattle.sync_calls.specs.declared.looking.Glance.TheVariants as glance
use Rattle.sync_calls.proofs.FewTurnsLemmas.{after_change}
use Rattle.sync_calls.proofs.ShownLemmas.{same_on}
use Rattle.worker_server.specs.Calls.{AnsweredSo, Ran, Told, call_asked, collection_asked, look_asked}
use Rattle.worker_server.specs.declared.host.Answer.{Answer}
use Rattle.hall_server.specs.Serving.{HallShown, hall_rules, host_answer, is_same}
use Rattle.hall_server.specs.Tags.{IsLeftAt, IsLookedAt, TagsSo}
use Rattle.hall_server.proofs.GoingLemmas.{done_start, from_some, set_at}
use Rattle.hall_server.proofs.LaterLemmas.{lines_on, on_later}
use Rattle.hall_server.proofs.RanLemmas.{ran_goes}
use Rattle.hall_server.proofs.SpentLemmas.{no_operation}

one_line : (a b : Line) → a ∷ [] ≡ b ∷ [] → a ≡ b
one_line a b e = cc

-- ---- looks

no_library_same : glance.NoLibrary ≡ glance.Same → ⊥
no_library_same e = cc

denied_same : glance.Denied ≡ glance.Same → ⊥
denied_same e = cc

other_same : glance.Other ≡ glance.Same → ⊥
other_same e = cc

is_it : (found : Glance) → is_same found ≡ true → found ≡ glance.Same
is_it glance.NoLibrary e = absurd (cc)
is_it glance.Denied e = absurd (cc)
is_it glance.Same e = refl
is_it glance.Other e = absurd (cc)

-- where a tag is found so, it tells this opening and this length
glance_parts : (opening place : ℕ) (tag : Tag) → glance_at opening place tag ≡ glance.Same → (tag.opening ≡ opening) × (tag.count ≡ place)
glance_parts opening place tag e =
    let parts = and_parts _ _ (by ((tag.opening == opening) && (tag.count == place)) e) in
    (eqb-true _ _ parts.0, eqb-true _ _ parts.1)
  where
    by : (b : Bool) → (if b then glance.Same else glance.Other) ≡ glance.Same → b ≡ true
    by true same = refl
    by false same = absurd (other_same same)

module _ {S : Type 0} (contents : S → Option Contents) (may_give : S → Slot → Option (List ℕ) → Type 0) (texts faults : S → ℕ) where
  -- ---- what a call left

  -- it stands at the end of what was seen then
  record LeavesAt (v : Shown S) (call : Call) (moment : ℕ) (r : Reply) : Type 0 where
    pub there : DepotView S
    pub stood : library_at v (length v.seen) ≡ Some there
    pub before : DepotView S
    pub after : DepotView S
    pub does : IsAnswered contents may_give texts faults before call moment r after
    pub same : IsSame contents faults there after

  did_leave : (u : Shown S) (place : ℕ) (call : Call) (moment : ℕ) (r : Reply) (v : Shown S) → IsDone contents may_give texts faults u place (Called call moment r) v → LeavesAt v call moment r
  did_leave u place call moment r v (inl reads) = record {
    there = reads.reads.there;
    stood = subst (λ (n : ℕ). library_at v n ≡ Some reads.reads.there) reads.whole reads.reads.stood;
    before = reads.reads.before;
    after = reads.reads.after;
    does = reads.reads.does;
    same = same_on contents may_give texts faults reads.reads.there reads.reads.before reads.reads.after reads.reads.same reads.reads.stays;
  }
  did_leave u place call moment r v (inr changes) =
      let count : length v.seen ≡ suc place = omega (arith, changes.whole) in
      record {
        there = changes.change.after.value;
        stood = subst (λ (n : ℕ). library_at v n ≡ Some changes.change.after.value) (sym count) (after_change v.start v.seen place changes.change changes.at);
        before = changes.change.before.value;
        after = changes.change.after.value;
        does = by changes.change.made changes.change.moment changes.made changes.links.by;
        same = same_itself contents faults changes.change.after.value;
      }
    where
      by : (m : Made) (at : ℕ) → IsMadeBy m at (Called call moment r) → MadeBy contents may_give texts faults m changes.change.before.value at changes.change.after.value
          → IsAnswered contents may_give texts faults changes.change.before.value call moment r changes.change.after.value
      by (made.Asked asked said) at is answered =
          subst (λ (n : ℕ). IsAnswered contents may_give texts faults changes.change.before.value call n r changes.change.after.value) is.2
          (subst (λ (x : Reply). IsAnswered contents may_give texts faults changes.change.before.value call at x changes.change.after.value) is.1
          (subst (λ (c : Call). IsAnswered contents may_give texts faults changes.change.before.value c at said.value changes.change.after.value) is.0 answered))
      by (made.Turned goal most taken) at is answered = absurd is

  asks_tag : (us : List (Shown S)) (lib : List ℕ) (call : Call) (moment : ℕ) (given : HallAnswer) (answer : Answer) (lines : List Line) (vs : List (Shown S)) (draws : List ℕ)
      → AsksSo contents may_give texts faults us lib call moment given lines vs draws → answer ≡ host_answer given → (last : List (Shown S)) (more : List Line)
      → Lines contents may_give texts faults vs more last → (line : Line) → lines ≡ line ∷ []
      → (left : IsLeftAt contents may_give texts faults last line.library call moment answer) × (lib_of left.shown ≡ Some lib)
  asks_tag us lib call moment given answer lines vs draws (AsksSo.nowhere away told_is empty same) is last more goes line one = absurd (no_operation line lines one empty)
  asks_tag us lib call moment given answer lines vs draws (AsksSo.denied library u at not_may told_is empty same) is last more goes line one = absurd (no_operation line lines one empty)
  asks_tag us lib call moment given answer lines vs draws (AsksSo.spent library u at may drew told_is empty same) is last more goes line one = absurd (no_operation line lines one empty)
  asks_tag us lib call moment given answer lines vs draws (AsksSo.took library u at may drawn drew fits taken) is last more goes line one =
      let left = did_leave u taken.place call moment given.reply taken.after taken.done in
      let set : slice_get vs library ≡ Some taken.after = subst (λ (ws : List (Shown S)). slice_get ws library ≡ Some taken.after) (sym taken.is) (set_at us library taken.after u at.at) in
      let later = lines_on contents may_give texts faults vs more last goes library taken.after set in
      let begun = later.2.begun ∙ done_start contents may_give texts faults u taken.place (Called call moment given.reply) taken.after taken.done in
      let own : Line = record { library = library; place = taken.place; deed = Called call moment given.reply } in
      let named : lib_of later.0 ≡ Some lib = ap (λ (o : Option (DepotView S)). option_map (λ (depot : DepotView S). depot.state.lib) o) begun ∙ at.named in
      subst (λ (n : ℕ). (left : IsLeftAt contents may_give texts faults last n call moment answer) × (lib_of left.shown ≡ Some lib)) (ap (λ (l : Line). l.library) (one_line own line (sym taken.one ∙ one)))
      (subst (λ (a : Answer). (left : IsLeftAt contents may_give texts faults last library call moment a) × (lib_of left.shown ≡ Some lib)) (sym is) (
        record {
          shown = later.0;
          at = later.1;
          opening = ap (λ (o : Option (DepotView S)). option_map (λ (depot : DepotView S). depot.state.opening) o) begun ∙ taken.opening;
          there = left.there;
          stood = on_later taken.after later.0 later.2 given.place left.there (subst (λ (n : ℕ). library_at taken.after n ≡ Some left.there) (sym taken.told) left.stood);
          before = left.before;
          after = left.after;
          does = left.does;
          same = left.same;
        },
        named,
      ))

  glances_tag : (us : List (Shown S)) (lib : List ℕ) (secret : Option (List ℕ)) (tag : Tag) (found : Glance) (lines : List Line) (vs : List (Shown S))
      → GlancesSo contents may_give texts faults us lib secret tag found lines vs → found ≡ glance.Same → (last : List (Shown S)) (more : List Line)
      → Lines contents may_give texts faults vs more last → (line : Line) × (lines ≡ line ∷ []) × (looked : IsLookedAt last line tag) × (lib_of looked.shown ≡ Some lib)
  glances_tag us lib secret tag found lines vs (GlancesSo.nowhere away is empty stays) same last more goes = absurd (no_library_same (sym is ∙ same))
  glances_tag us lib secret tag found lines vs (GlancesSo.denied library u at not_may is empty stays) same last more goes = absurd (denied_same (sym is ∙ same))
  glances_tag us lib secret tag found lines vs (GlancesSo.looked line u at may is deed_is moves opening opens found_is) same last more goes =
      let parts = glance_parts opening line.place tag (sym found_is ∙ same) in
      let set : slice_get vs line.library ≡ Some moves.after
      = subst (λ (ws : List (Shown S)). slice_get ws line.library ≡ Some moves.after) (sym moves.is) (set_at us line.library moves.after moves.before moves.was) in
      let later = lines_on contents may_give texts faults vs more last goes line.library moves.after set in
      let begun = later.2.begun ∙ done_start contents may_give texts faults moves.before line.place line.deed moves.after moves.done in
      let here = from_some u moves.before (sym at.at ∙ moves.was) in
      let own : opening_of moves.before ≡ Some opening = subst (λ (w : Shown S). opening_of w ≡ Some opening) here opens in
      let named : lib_of moves.before ≡ Some lib = subst (λ (w : Shown S). lib_of w ≡ Some lib) here at.named in (
        line,
        is,
        record {
          shown = later.0;
          at = later.1;
          opening = ap (λ (o : Option (DepotView S)). option_map (λ (depot : DepotView S). depot.state.opening) o) begun ∙ own ∙ ap Some (sym parts.0);
          place = sym parts.1;
        },
        ap (λ (o : Option (DepotView S)). option_map (λ (depot : DepotView S). depot.state.lib) o) begun ∙ named,
      )

  -- ---- all of a connection

  told_tag : (shows : ℕ → Type 0) (u : HallShown S) (t : Told Line) (v : HallShown S) → AnsweredSo (hall_rules contents may_give texts faults shows) u t v → (last : List (Shown S)) (more : List Line)
      → Lines contents may_give texts faults v.libraries more last → TagsSo contents may_give texts faults last t
  told_tag shows u (call_asked lib call answer lines) v (moment, shown, (given, asks, stays, is)) last more goes =
      λ line one.
      let tagged = asks_tag u.libraries lib call moment given answer lines v.libraries v.drawn asks is last more goes line one in
      (moment, tagged.0, tagged.1)
  told_tag shows u (collection_asked lib secret ends lines) v collected last more goes = tt
  told_tag shows u (look_asked lib secret tag same lines) v (found, glances, stays, is) last more goes =
      λ still. glances_tag u.libraries lib secret tag found lines v.libraries glances (is_it found (sym is ∙ still)) last more goes

  pub tags_ran : (shows : ℕ → Type 0) (u : HallShown S) (calls : List (Told Line)) (v : HallShown S) → Ran (hall_rules contents may_give texts faults shows) u calls v
      → AllByRecursion (TagsSo contents may_give texts faults v.libraries) calls
  tags_ran shows u [] v same = tt
  tags_ran shows u (t ∷ ts) v (mid, first, more) =
      let rest = ran_goes contents may_give texts faults shows mid ts v more in
      (told_tag shows u t mid first v.libraries rest.all rest.leads, tags_ran shows mid ts v more)

  -- two answers of one library with one tag tell of one state
  pub one_state : (vs : List (Shown S)) (library : ℕ) (c d : Call) (m n : ℕ) (p q : Answer) (a : IsLeftAt contents may_give texts faults vs library c m p)
      (b : IsLeftAt contents may_give texts faults vs library d n q) → p.place ≡ q.place → a.there ≡ b.there
  one_state vs library c d m n p q a b places =
      from_some a.there b.there
      (sym (subst₂ (λ (w : Shown S) (place : ℕ). library_at w place ≡ Some a.there) (from_some a.shown b.shown (sym a.at ∙ b.at)) places a.stood) ∙ b.stood)
