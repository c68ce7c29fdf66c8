-- A sync goes on by orders that ask for the objects of a tree, or is refused by them. The key lemmas are goes_gets, fails_gets and
-- found_behind.
use Rattle.std.proofs.Common.{◌≡◌, ◌≤◌, ◌+◌, ◌⊎◌, ℕ, true, false, All, List, [], ◌∷◌, ◌++◌, Option, None, Some, Ok, refl, sym, ap, subst, ◌∙◌, append_assoc, append-nil, inl, inr, true≢false, arith}
use Rattle.std.specs.Option.{option_or}
use Rattle.std.proofs.lemmas.Grind.{flat_map-append}
use Rattle.std.proofs.lemmas.List.Elements.{All-append, All-cons, All-head, All-nil, All-tail, All-weaker, Contains-append_left}
use Rattle.ids.specs.declared.key.Key.{Key}
use Rattle.block_chunker.specs.declared.cuts.Cuts.{Cuts}
use Rattle.folder_side.specs.Folder.{Contents}
use Rattle.folder_side.specs.ScanReport.{IsWithinLimits}
use Rattle.http_front.specs.declared.order.What.{What}
use Rattle.http_front.specs.declared.order.What.TheVariants as what
use Rattle.http_front.specs.declared.outcome.Outcome.TheVariants.{Plain}
use Rattle.library_state.specs.declared.reply.Reply.TheVariants as reply
use Rattle.local_index.specs.declared.index.Index.{Index}
use Rattle.remote_calls.specs.Sends.{Ending, Sent}
use Rattle.sync_rules.specs.Causes.{CausedBy, DeniesUpload, FindsSome, GoesWell, HasPath, WentWell, is_of_order, stale_count}
use Rattle.sync_rules.specs.Named.{Head, IsHad, asked_after, asked_by, asked_head, head_after, is_block, is_get, is_upload, keys_asked, last_head, last_round, round_after}
use Rattle.sync_rules.specs.Offer.{Agrees}
use Rattle.sync_rules.specs.OneSync.{ComesInOrder, EndsWhereSome, GoesInOrder, PushesFirst}
use Rattle.sync_rules.specs.Orders.{GetsNeeded, GoesInRounds, IsSyncOrder, MadeSo, PutsLacked, Stage, may_send, stage_after}
use Rattle.sync_rules.specs.Orders.Stage.{Begins}
use Rattle.sync_rules.specs.Uploads.{OffersEach, UploadsOnEmpty, UploadsSo}
use Rattle.sync_rules.specs.declared.fault.SyncFault.{SyncFault}
use Rattle.sync_rules.proofs.WentLemmas.{went_then}
use Rattle.sync_daemon.specs.RoundOrder.{AsksSo, HeadsOnce, IsSoInRound, is_head, stage_from}
use Rattle.sync_daemon.specs.Going.{CausedUntouched, Going, GoingOver, Refuses, Sync}
use Rattle.sync_daemon.specs.SentKeys.{SendsOffered}
use Rattle.sync_daemon.proofs.GoingLemmas.{gets_last, had_then, lacks_quiet, last_then, last_with, late_then, offers_quiet, puts_quiet, stands_quiet}
use Rattle.sync_daemon.proofs.JoinLemmas.{empty_then, head_then, last_what, offers_then, orders_then, pushes_then, some_then, stage_then}
use Rattle.sync_daemon.proofs.SentKeyLemmas.{sends_none, sends_then}

abbrev pub IsGetting : Sent → Type 0
IsGetting sent = is_get sent.0.what ≡ true

-- ---- what a get is not

no_upload : (asked : What) → is_get asked ≡ true → is_upload asked ≡ false
no_upload (what.Get key) get = refl
no_upload (what.GetFs ids) get = refl
no_upload _ get = absurd (true≢false (sym get))

stage_kept : (asked : What) (ending : Ending) (stage : Stage) → is_get asked ≡ true → stage_after asked ending stage ≡ stage
stage_kept (what.Get key) ending stage get = refl
stage_kept (what.GetFs ids) ending stage get = refl
stage_kept _ ending stage get = absurd (true≢false (sym get))

-- ---- where the second last order isn't the question for the head

abbrev init_of : {X : Type 0} → List X → List X
init_of [] = []
init_of (x ∷ []) = []
init_of (x ∷ y ∷ xs) = x ∷ init_of (y ∷ xs)

init_push : {X : Type 0} (xs : List X) (y : X) → init_of (xs ++ y ∷ []) ≡ xs
init_push [] y = refl
init_push (x ∷ []) y = refl
init_push (x ∷ z ∷ xs) y = ap (λ (rest : List _). x ∷ rest) (init_push (z ∷ xs) y)

-- what a sync found stands behind the question for the head
pub found_behind : (first : List Sent) (sent : Sent) → ((before : List Sent) (other : Sent) → first ≡ before ++ other ∷ [] → other.0.what ≡ what.Head None → ⊥) → FindsSome (first ++ sent ∷ []) → ⊥
found_behind first sent behind some =
    let asked : Sent = (some.asked, Ok (Plain (reply.HeadIs some.head) some.tag)) in
    let got : Sent = (some.got, Ok (Plain (reply.Got some.bytes) some.later)) in
    behind some.before asked
    (sym (init_push first sent) ∙ ap init_of (some.is ∙ sym (append_assoc some.before (asked ∷ []) (got ∷ []))) ∙ init_push (some.before ++ asked ∷ []) got) some.asks

-- behind a get no question for the head stands
pub behind_get : (first : List Sent) (last : Sent) → IsGetting last → (before : List Sent) (other : Sent) → first ++ last ∷ [] ≡ before ++ other ∷ [] → other.0.what ≡ what.Head None → ⊥
behind_get first last get before other same is =
    let ends : Some last ≡ Some other = sym (last_then None first (last ∷ [])) ∙ ap (last_with None) same ∙ last_then None before (other ∷ []) in
    true≢false (sym get ∙ ap gets_last ends ∙ ap is_get is)

-- ---- what a list of gets may follow

made_gets : (lib user : List ℕ) (shows : ℕ → Type 0) (base asked : Option (List ℕ)) (before : What) (more : List Sent) → All IsGetting more → MadeSo lib user shows base asked before more
made_gets lib user shows base asked before [] gets = tt
made_gets lib user shows base asked before (sent ∷ more) gets =
    let none : is_upload sent.0.what ≡ false = no_upload sent.0.what (All-head IsGetting sent more gets) in (
      stands_quiet lib user shows (option_or base asked) before sent.0.what none,
      puts_quiet lib user shows (option_or base asked) sent.0.what none,
      made_gets lib user shows base (asked_after sent.0.what sent.1 asked) sent.0.what more (All-tail IsGetting sent more gets),
    )

lacks_gets : (round more : List Sent) → All IsGetting more → PutsLacked round more
lacks_gets round [] gets = tt
lacks_gets round (sent ∷ more) gets = (
  lacks_quiet round sent.0.what (no_upload sent.0.what (All-head IsGetting sent more gets)),
  lacks_gets (round_after round sent) more (All-tail IsGetting sent more gets),
)

rounds_gets : (stage : Stage) (more : List Sent) → ((asked : What) → is_get asked ≡ true → may_send stage asked ≡ true) → All IsGetting more → GoesInRounds stage more
rounds_gets stage [] may gets = tt
rounds_gets stage (sent ∷ more) may gets =
    let get : IsGetting sent = All-head IsGetting sent more gets in (
      may sent.0.what get,
      subst (λ (at : Stage). GoesInRounds at more) (sym (stage_kept sent.0.what sent.1 stage get)) (rounds_gets stage more may (All-tail IsGetting sent more gets)),
    )

no_head : (asked : What) → is_get asked ≡ true → is_head asked ≡ false
no_head (what.Get key) get = refl
no_head (what.GetFs ids) get = refl
no_head _ get = absurd (true≢false (sym get))

heads_gets : (base asked : Option (List ℕ)) (more : List Sent) → All IsGetting more → HeadsOnce base asked more
heads_gets base asked [] gets = tt
heads_gets base asked (sent ∷ more) gets =
    let get : IsGetting sent = All-head IsGetting sent more gets in (
      record {
        once = λ is. absurd (true≢false (sym is ∙ no_head sent.0.what get));
        unneeded = λ up based. absurd (true≢false (sym up ∙ no_upload sent.0.what get));
      },
      heads_gets base (asked_after sent.0.what sent.1 asked) more (All-tail IsGetting sent more gets),
    )

pub stage_gets : (stage : Stage) (more : List Sent) → All IsGetting more → stage_from stage more ≡ stage
stage_gets stage [] gets = refl
stage_gets stage (sent ∷ more) gets =
    ap (λ (at : Stage). stage_from at more) (stage_kept sent.0.what sent.1 stage (All-head IsGetting sent more gets)) ∙ stage_gets stage more (All-tail IsGetting sent more gets)

some_gets_on : (before more : List Sent) → All IsGetting more → (FindsSome before → ⊥)
    → ((front : List Sent) (other : Sent) → before ≡ front ++ other ∷ [] → other.0.what ≡ what.Head None → ⊥) → EndsWhereSome before more
some_gets_on before [] gets none behind = tt
some_gets_on before (sent ∷ more) gets none behind = (
  none,
  some_gets_on (before ++ sent ∷ []) more (All-tail IsGetting sent more gets) (found_behind before sent behind) (behind_get before sent (All-head IsGetting sent more gets)),
)

-- nothing is found by them
found_gets : (before more : List Sent) → All IsGetting more → (FindsSome before → ⊥)
    → ((front : List Sent) (other : Sent) → before ≡ front ++ other ∷ [] → other.0.what ≡ what.Head None → ⊥) → FindsSome (before ++ more) → ⊥
found_gets before [] gets none behind some = none (subst FindsSome (append-nil before) some)
found_gets before (sent ∷ more) gets none behind some =
    found_gets (before ++ sent ∷ []) more (All-tail IsGetting sent more gets) (found_behind before sent behind) (behind_get before sent (All-head IsGetting sent more gets))
    (subst FindsSome (sym (append_assoc before (sent ∷ []) more)) some)

-- the head that was named stays
pub head_gets : (o : Option Head) (more : List Sent) → All IsGetting more → last_head more o ≡ o
head_gets o [] gets = refl
head_gets o (sent ∷ more) gets = ap (last_head more) (kept sent.0.what sent.1 (All-head IsGetting sent more gets)) ∙ head_gets o more (All-tail IsGetting sent more gets)
  where
    kept : (asked : What) (ending : Ending) → is_get asked ≡ true → head_after asked ending o ≡ o
    kept (what.Get key) ending get = refl
    kept (what.GetFs ids) ending get = refl
    kept _ ending get = absurd (true≢false (sym get))

-- and so does the head that was asked for
pub asked_gets : (o : Option (List ℕ)) (more : List Sent) → All IsGetting more → asked_head more o ≡ o
asked_gets o [] gets = refl
asked_gets o (sent ∷ more) gets = ap (asked_head more) (kept sent.0.what sent.1 (All-head IsGetting sent more gets)) ∙ asked_gets o more (All-tail IsGetting sent more gets)
  where
    kept : (asked : What) (ending : Ending) → is_get asked ≡ true → asked_after asked ending o ≡ o
    kept (what.Get key) ending get = refl
    kept (what.GetFs ids) ending get = refl
    kept _ ending get = absurd (true≢false (sym get))

-- that an upload is denied stays so
pub denies_then : (first more : List Sent) → DeniesUpload first → DeniesUpload (first ++ more)
denies_then first more (order, ending, there, asked, refused) = (order, ending, Contains-append_left first more (order, ending) there, asked, refused)

pub agrees_then : (cuts : Cuts) (c : Contents) (index : Index) (first more : List Sent) → Agrees cuts c index ⊎ DeniesUpload first → Agrees cuts c index ⊎ DeniesUpload (first ++ more)
agrees_then cuts c index first more (inl same) = inl same
agrees_then cuts c index first more (inr denies) = inr (denies_then first more denies)

-- over a folder that tells what it holds
pub record GetsOver (s : Sync) (first : List Sent) (c : Contents) : Type 0 where
  pub within : IsWithinLimits c
  pub agrees : (head : List ℕ) → last_head first None ≡ Some (head, None) → Agrees s.cuts c s.index ⊎ DeniesUpload first
  pub behind : s.index.base ≡ None → HasPath c → (front : List Sent) (other : Sent) → first ≡ front ++ other ∷ [] → other.0.what ≡ what.Head None → ⊥

module _ (s : Sync) (first more : List Sent) (stage : Stage) (late : ℕ) (going : Going s first stage late) (gets : All IsGetting more)
    (may : (asked : What) → is_get asked ≡ true → may_send stage asked ≡ true) (asks : All (IsSyncOrder s.lib s.secret) more) (needed : GetsNeeded first more) where
  pub orders_gets : AsksSo s.lib s.secret s.user s.shows s.index.base (first ++ more)
  orders_gets = orders_then s.lib s.secret s.user s.shows s.index.base first more going.orders (record {
    asks = asks;
    made = made_gets s.lib s.user s.shows s.index.base (asked_head first None) (last_what what.Version first) more gets;
    puts = lacks_gets (last_round first []) more gets;
    rounds = subst (λ (at : Stage). GoesInRounds at more) (sym going.reached) (rounds_gets stage more may gets);
    gets = needed;
    heads = heads_gets s.index.base (asked_head first None) more gets;
  })

  not_uploads : (sends : List Sent) → All IsGetting sends → All (λ (sent : Sent). is_upload sent.0.what ≡ false) sends
  not_uploads sends all = All-weaker IsGetting (λ (sent : Sent). is_upload sent.0.what ≡ false) (λ sent get. no_upload sent.0.what get) sends all

  empty_gets : (before sends : List Sent) → All IsGetting sends → UploadsOnEmpty before sends
  empty_gets before [] all = tt
  empty_gets before (sent ∷ sends) all = (
    (λ up. absurd (true≢false (sym up ∙ no_upload sent.0.what (All-head IsGetting sent sends all)))),
    empty_gets (before ++ sent ∷ []) sends (All-tail IsGetting sent sends all),
  )

  offers_gets : (c : Contents) (before sends : List Sent) → All IsGetting sends → OffersEach s.cuts c s.index s.user s.shows before sends
  offers_gets c before [] all = tt
  offers_gets c before (sent ∷ sends) all = (
    offers_quiet s c before sent.0.what (no_upload sent.0.what (All-head IsGetting sent sends all)),
    offers_gets c (before ++ sent ∷ []) sends (All-tail IsGetting sent sends all),
  )

  head_stays : (before sends : List Sent) → All IsGetting sends → last_head (before ++ sends) None ≡ last_head before None
  head_stays before sends all = head_then None before sends ∙ head_gets (last_head before None) sends all

  pushes_gets : (c : Contents) → ((head : List ℕ) → last_head first None ≡ Some (head, None) → Agrees s.cuts c s.index ⊎ DeniesUpload first) → (done sends : List Sent) → All IsGetting done → All IsGetting sends
      → PushesFirst s.cuts c s.index (first ++ done) sends
  pushes_gets c agrees done [] before_all all = tt
  pushes_gets c agrees done (sent ∷ sends) before_all all = (
    (λ tree head named. agrees_then s.cuts c s.index first done (agrees head (sym (head_stays first done before_all) ∙ named))),
    subst (λ (before : List Sent). PushesFirst s.cuts c s.index before sends) (sym (append_assoc first done (sent ∷ [])))
        (pushes_gets c agrees (done ++ sent ∷ []) sends
        (All-append IsGetting done (sent ∷ []) before_all (All-cons IsGetting sent [] (All-head IsGetting sent sends all) (All-nil IsGetting))) (All-tail IsGetting sent sends all)),
  )

  pub uploads_gets : (c : Contents) → UploadsSo s.cuts c s.index s.user first s.shows → UploadsSo s.cuts c s.index s.user (first ++ more) s.shows
  uploads_gets c was = record {
    changed = λ same. All-append (λ (sent : Sent). is_upload sent.0.what ≡ false) first more (was.changed same) (not_uploads more gets);
    joins = λ none has. empty_then [] first more (was.joins none has) (empty_gets first more gets);
    offers = offers_then s.cuts c s.index s.user s.shows [] first more was.offers (offers_gets c first more gets);
  }

  pub sends_gets : (c : Contents) → SendsOffered (record { lib = s.lib; secret = s.secret }) s.user s.shows s.cuts c s.index [] first → SendsOffered (record { lib = s.lib; secret = s.secret }) s.user s.shows s.cuts c s.index [] (first ++ more)
  sends_gets c was = sends_then (record { lib = s.lib; secret = s.secret }) s.user s.shows s.cuts c s.index [] first more was (sends_none (record { lib = s.lib; secret = s.secret }) s.user s.shows s.cuts c s.index first more (not_uploads more gets))

  pub order_gets : (c : Contents) → GoingOver s c first → GetsOver s first c → GoesInOrder s.cuts c s.index (first ++ more)
  order_gets c was over = record {
    scanned = inr over.within;
    found = λ none has. some_then [] first more (was.order.found none has) (some_gets_on first more gets (was.found none has) (over.behind none has));
    pushed = pushes_then s.cuts c s.index [] first more was.order.pushed
        (subst (λ (before : List Sent). PushesFirst s.cuts c s.index before more) (append-nil first) (pushes_gets c over.agrees [] more (All-nil IsGetting) gets));
  }

  pub found_over_gets : (c : Contents) → GoingOver s c first → GetsOver s first c → s.index.base ≡ None → HasPath c → FindsSome (first ++ more) → ⊥
  found_over_gets c was over none has = found_gets first more gets (was.found none has) (over.behind none has)

  -- they went well
  pub goes_gets : All WentWell more → (stale_count more ≡ 0) → All (λ (key : Key). is_block key.kind ≡ false) (keys_asked more) → (had : List (Key × List ℕ)) → IsHad more had
      → ((c : Contents) → s.told ≡ Some c → GetsOver s first c) → Going s (first ++ more) stage late
  goes_gets went timely small had is_had over = record {
    orders = orders_gets;
    went = All-append WentWell first more going.went went;
    reached = stage_then Begins first more ∙ ap (λ (at : Stage). stage_from at more) going.reached ∙ stage_gets stage more gets;
    lates =
        let sum : stale_count (first ++ more) ≡ stale_count first + stale_count more = late_then first more in
        let lates : stale_count first ≡ late = going.lates in
        omega (arith, sum, lates, timely);
    unbegun = subst (All (λ (key : Key). is_block key.kind ≡ false)) (sym (flat_map-append (λ (sent : Sent). asked_by sent.0.what) first more))
        (All-append (λ (key : Key). is_block key.kind ≡ false) (keys_asked first) (keys_asked more) going.unbegun small);
    over = λ c told.
        let was : GoingOver s c first = going.over c told in
        let here : GetsOver s first c = over c told in record {
          uploads = uploads_gets c was.uploads;
          sends = sends_gets c was.sends;
          order = order_gets c was here;
          found = found_over_gets c was here;
          had = was.had ++ had;
          is_had = had_then first more was.had had was.is_had is_had;
        };
  }

  -- one of them ended the sync, or something was found that did, before a step of a plan was begun
  pub fails_gets : (f : SyncFault) → late ≤ 2 → GoesWell more → (is_of_order f ≡ false → All WentWell more) → (stale_count more ≡ 0)
      → CausedBy (IsSoInRound s.cuts s.told s.index (first ++ more)) (first ++ more) f → ((c : Contents) → s.told ≡ Some c → GetsOver s first c)
      → ((c : Contents) → s.told ≡ Some c → ComesInOrder c s.index (first ++ more) f × CausedUntouched s c (first ++ more) f) → Refuses s (first ++ more) f
  fails_gets f few goes own timely cause over comes = record {
    orders = orders_gets;
    ends = (
      went_then first more going.went goes,
      cause,
      (λ other. All-append WentWell first more going.went (own other)),
      (λ early.
          let sum : stale_count (first ++ more) ≡ stale_count first + stale_count more = late_then first more in
          let lates : stale_count first ≡ late = going.lates in
          omega (arith, sum, lates, timely, few)),
    );
    over = λ c told.
        let was : GoingOver s c first = going.over c told in
        let here : GetsOver s first c = over c told in
        let why : ComesInOrder c s.index (first ++ more) f × CausedUntouched s c (first ++ more) f = comes c told in record {
          uploads = uploads_gets c was.uploads;
          sends = sends_gets c was.sends;
          order = order_gets c was here;
          comes = why.0;
          cause = why.1;
        };
  }
