-- What a push may follow, and what it leaves. The key lemmas are push_follows, push_goes and push_fails.
use Rattle.std.proofs.Common.{◌≡◌, ℕ, Bool, true, false, if◌then◌else◌, All, List, [], ◌∷◌, ◌++◌, Option, None, Some, is_some, refl, sym, ap, subst, ◌∙◌, append_assoc, append-nil, true≢false}
use Rattle.std.specs.Option.{option_or}
use Rattle.std.specs.List.{Contains, flat_map}
use Rattle.std.proofs.lemmas.Grind.{flat_map-append}
use Rattle.std.proofs.lemmas.List.Elements.{All-cons, All-head, All-nil, All-tail, All-weaker, Contains-append_left}
use Rattle.ids.specs.declared.key.Key.{Key}
use Rattle.ids.specs.declared.key.Kind.{Kind}
use Rattle.ids.specs.declared.key.Kind.TheVariants as kind
use Rattle.block_chunker.specs.declared.cuts.Cuts.{Cuts}
use Rattle.folder_side.specs.Folder.{Contents}
use Rattle.http_client.specs.OrderOutcome.{is_update}
use Rattle.http_front.specs.declared.order.What.{What}
use Rattle.http_front.specs.declared.order.What.TheVariants as what
use Rattle.local_index.specs.declared.index.Index.{Index}
use Rattle.object_graph.specs.Objects.{commit_key}
use Rattle.object_graph.specs.Traversal.{is_in}
use Rattle.remote_calls.specs.Sends.{Ending, Sent}
use Rattle.sync_rules.specs.Causes.{FindsSome, is_stale}
use Rattle.sync_rules.specs.Named.{Named, asked_after, asked_by, asked_head, begins_round, gets_tree, got_in, is_get, is_upload, keys_asked, keys_lacked, keys_put, lacked_by, last_round, put_by}
use Rattle.sync_rules.specs.OneSync.{EndsWhereSome, PushesFirst}
use Rattle.sync_rules.specs.Orders.{GetsNeeded, GoesInRounds, IsLacked, IsNeeded, IsSyncCommit, IsSyncOrder, LackedAs, MadeSo, PutsAs, PutsAt, PutsLacked, PutsSo, Stage, StandsAtPut, may_send, stage_after}
use Rattle.sync_rules.specs.Orders.Stage.{Begins, Stands, Uploads}
use Rattle.sync_rules.specs.Uploads.{IsEmptyHead, UploadsOnEmpty}
use Rattle.sync_daemon.specs.RoundOrder.{HeadsOnce, is_head, stage_from}
use Rattle.sync_daemon.proofs.GoingLemmas.{gets_last, last_then, last_with, some_gets}
use Rattle.sync_daemon.proofs.JoinLemmas.{Follows, asked_then, last_what}

abbrev pub IsUploading : Sent → Type 0
IsUploading sent = is_upload sent.0.what ≡ true

-- ---- what an upload is not

no_get : (asked : What) → is_upload asked ≡ true → is_get asked ≡ false
no_get (what.Get key) up = absurd (true≢false (sym up))
no_get (what.GetFs ids) up = absurd (true≢false (sym up))
no_get _ up = refl

no_tree : (asked : What) → is_upload asked ≡ true → gets_tree asked ≡ false
no_tree (what.Get key) up = absurd (true≢false (sym up))
no_tree (what.GetFs ids) up = absurd (true≢false (sym up))
no_tree _ up = refl

asks_none : (asked : What) → is_upload asked ≡ true → asked_by asked ≡ []
asks_none (what.Get key) up = absurd (true≢false (sym up))
asks_none (what.GetFs ids) up = absurd (true≢false (sym up))
asks_none _ up = refl

no_begin : (asked : What) → is_upload asked ≡ true → begins_round asked ≡ false
no_begin (what.Check op) up = absurd (true≢false (sym up))
no_begin _ up = refl

asked_stays : (asked : What) (ending : Ending) (before : Option (List ℕ)) → is_upload asked ≡ true → asked_after asked ending before ≡ before
asked_stays (what.Check op) ending before up = absurd (true≢false (sym up))
asked_stays (what.Head tag) ending before up = absurd (true≢false (sym up))
asked_stays _ ending before up = refl

pub asked_same : (before : Option (List ℕ)) (more : List Sent) → All IsUploading more → asked_head more before ≡ before
asked_same before [] ups = refl
asked_same before (sent ∷ more) ups =
    ap (asked_head more) (asked_stays sent.0.what sent.1 before (All-head IsUploading sent more ups)) ∙ asked_same before more (All-tail IsUploading sent more ups)

pub round_same : (round more : List Sent) → All IsUploading more → last_round more round ≡ round ++ more
round_same round [] ups = sym (append-nil round)
round_same round (sent ∷ more) ups =
    ap (λ (b : Bool). last_round more (if b then [] else round ++ sent ∷ [])) (no_begin sent.0.what (All-head IsUploading sent more ups))
    ∙ round_same (round ++ sent ∷ []) more (All-tail IsUploading sent more ups) ∙ append_assoc round (sent ∷ []) more

-- ---- commits

commit_as : (lib user : List ℕ) (shows : ℕ → Type 0) (moment : ℕ) (parent : Option (List ℕ)) (id bytes : List ℕ) → shows moment
    → IsSyncCommit lib user (λ other. other ≡ moment) parent id bytes → IsSyncCommit lib user shows parent id bytes
commit_as lib user shows moment parent id bytes shown is = record {
  root = is.root;
  moment = is.moment;
  shown = subst shows (sym is.shown) shown;
  based = is.based;
  commit = is.commit;
  is = is.is;
  named = is.named;
  spelled = is.spelled;
  reads = is.reads;
}

module _ (lib user : List ℕ) (shows : ℕ → Type 0) (moment : ℕ) (parent : Option (List ℕ)) (shown : shows moment) where
  stands_as : (before asked : What) → StandsAtPut lib user (λ other. other ≡ moment) parent before asked → StandsAtPut lib user shows parent before asked
  stands_as (what.Put key bytes) (what.Update id) is = (is.0, commit_as lib user shows moment parent id bytes shown is.1)
  stands_as (what.Put key bytes) _ is = tt
  stands_as _ (what.Update id) never = absurd never
  stands_as _ _ is = tt

  puts_as_kind : (of : Kind) (id bytes : List ℕ) → PutsAs lib user (λ other. other ≡ moment) parent of id bytes → PutsAs lib user shows parent of id bytes
  puts_as_kind kind.Commit id bytes is = commit_as lib user shows moment parent id bytes shown is
  puts_as_kind kind.Fs id bytes is = is
  puts_as_kind kind.Block id bytes is = is

  puts_as : (asked : What) → PutsSo lib user (λ other. other ≡ moment) parent asked → PutsSo lib user shows parent asked
  puts_as (what.Put key bytes) is = puts_as_kind key.kind key.id bytes is
  puts_as (what.PutFs rows) is = is
  puts_as _ is = tt

-- nothing stands before the first order of a push
stands_first : (lib user : List ℕ) (shows : ℕ → Type 0) (parent : Option (List ℕ)) (before asked : What) → StandsAtPut lib user shows parent what.Version asked
    → StandsAtPut lib user shows parent before asked
stands_first lib user shows parent (what.Put key bytes) (what.Update id) never = absurd never
stands_first lib user shows parent (what.Put key bytes) _ is = tt
stands_first lib user shows parent _ (what.Update id) never = absurd never
stands_first lib user shows parent _ _ is = tt

module _ (lib user : List ℕ) (shows : ℕ → Type 0) (moment : ℕ) (shown : shows moment) (base asked : Option (List ℕ)) (parent : List ℕ) (is : option_or base asked ≡ Some parent) where
  made_on : (more : List Sent) → All IsUploading more → (other : Option (List ℕ)) (before : What) → MadeSo lib user (λ m. m ≡ moment) (Some parent) other before more
      → MadeSo lib user shows base asked before more
  made_on [] ups other before made = tt
  made_on (sent ∷ more) ups other before made =
      let up : IsUploading sent = All-head IsUploading sent more ups in (
        subst (λ (p : Option (List ℕ)). StandsAtPut lib user shows p before sent.0.what) (sym is) (stands_as lib user shows moment (Some parent) shown before sent.0.what made.0),
        subst (λ (p : Option (List ℕ)). PutsSo lib user shows p sent.0.what) (sym is) (puts_as lib user shows moment (Some parent) shown sent.0.what made.1),
        subst (λ (a : Option (List ℕ)). MadeSo lib user shows base a sent.0.what more) (sym (asked_stays sent.0.what sent.1 asked up))
            (made_on more (All-tail IsUploading sent more ups) (asked_after sent.0.what sent.1 other) sent.0.what made.2),
      )

  made_behind : (more : List Sent) → (before : What) → MadeSo lib user shows base asked what.Version more → MadeSo lib user shows base asked before more
  made_behind [] before made = tt
  made_behind (sent ∷ more) before made = (stands_first lib user shows (option_or base asked) before sent.0.what made.0, made.1, made.2)

-- ---- what is lacking

lacked_as : (round other : List Sent) → keys_lacked other ≡ keys_lacked round → (key : Key) (of : Kind) → LackedAs round key of → LackedAs other key of
lacked_as round other same key kind.Commit is = tt
lacked_as round other same key kind.Fs is = ap (λ (keys : List Key). is_in keys key) same ∙ is
lacked_as round other same key kind.Block is = ap (λ (keys : List Key). is_in keys key) same ∙ is

all_lacked : (round other : List Sent) → keys_lacked other ≡ keys_lacked round → (keys : List Key) → All (IsLacked round) keys → All (IsLacked other) keys
all_lacked round other same keys all = All-weaker (IsLacked round) (IsLacked other) (λ key is. lacked_as round other same key key.kind is) keys all

puts_at : (round other : List Sent) → keys_lacked other ≡ keys_lacked round → keys_put other ≡ keys_put round → (asked : What) → PutsAt round asked → PutsAt other asked
puts_at round other lacked put (what.Update id) all =
    subst (All (λ (key : Key). is_in (keys_put other) key ≡ true)) (sym lacked)
    (subst (λ (keys : List Key). All (λ (key : Key). is_in keys key ≡ true) (keys_lacked round)) (sym put) all)
puts_at round other lacked put (what.Put key bytes) all = all_lacked round other lacked (key ∷ []) all
puts_at round other lacked put (what.PutFs rows) all = all_lacked round other lacked (put_by (what.PutFs rows)) all
puts_at round other lacked put _ all = All-nil (IsLacked other)

pub puts_on : (more : List Sent) → All IsUploading more → (round other : List Sent) → keys_lacked other ≡ keys_lacked round → keys_put other ≡ keys_put round → PutsLacked round more
    → PutsLacked other more
puts_on [] ups round other lacked put puts = tt
puts_on (sent ∷ more) ups round other lacked put puts =
    let stays : begins_round sent.0.what ≡ false = no_begin sent.0.what (All-head IsUploading sent more ups) in
    let puts_more : PutsLacked (round ++ sent ∷ []) more = subst (λ (b : Bool). PutsLacked (if b then [] else round ++ sent ∷ []) more) stays puts.1 in (
      puts_at round other lacked put sent.0.what puts.0,
      subst (λ (b : Bool). PutsLacked (if b then [] else other ++ sent ∷ []) more) (sym stays)
          (puts_on more (All-tail IsUploading sent more ups) (round ++ sent ∷ []) (other ++ sent ∷ [])
          (flat_map-append (λ (s : Sent). lacked_by s.0.what s.1) other (sent ∷ []) ∙ ap (λ (keys : List Key). keys ++ (lacked_by sent.0.what sent.1 ++ [])) lacked
          ∙ sym (flat_map-append (λ (s : Sent). lacked_by s.0.what s.1) round (sent ∷ [])))
          (flat_map-append (λ (s : Sent). put_by s.0.what) other (sent ∷ []) ∙ ap (λ (keys : List Key). keys ++ (put_by sent.0.what ++ [])) put
          ∙ sym (flat_map-append (λ (s : Sent). put_by s.0.what) round (sent ∷ []))) puts_more),
    )

-- ---- gets, and what is found

gets_on : (before more : List Sent) → All IsUploading more → GetsNeeded before more
gets_on before [] ups = tt
gets_on before (sent ∷ more) ups = (
  subst (All (IsNeeded before)) (sym (asks_none sent.0.what (All-head IsUploading sent more ups))) (All-nil (IsNeeded before)),
  gets_on (before ++ sent ∷ []) more (All-tail IsUploading sent more ups),
)

pub asks_nothing : (more : List Sent) → All IsUploading more → keys_asked more ≡ []
asks_nothing [] ups = refl
asks_nothing (sent ∷ more) ups =
    λ i. asks_none sent.0.what (All-head IsUploading sent more ups) i ++ asks_nothing more (All-tail IsUploading sent more ups) i

ends_with : (sent : Sent) (more : List Sent) → All IsUploading (sent ∷ more) → gets_last (last_with (Some sent) more) ≡ false
ends_with sent [] ups = no_get sent.0.what (All-head IsUploading sent [] ups)
ends_with sent (next ∷ more) ups = ends_with next more (All-tail IsUploading sent (next ∷ more) ups)

pub found_on : (first more : List Sent) → All IsUploading more → (FindsSome first → ⊥) → FindsSome (first ++ more) → ⊥
found_on first [] ups none some = none (subst FindsSome (append-nil first) some)
found_on first (sent ∷ more) ups none some =
    true≢false (sym (some_at (first ++ sent ∷ more) some) ∙ ap gets_last (last_then None first (sent ∷ more)) ∙ ends_with sent more ups)
  where
    some_at : (all : List Sent) → FindsSome all → gets_last (last_with None all) ≡ true
    some_at all found = some_gets all found

pub some_on : (before more : List Sent) → All IsUploading more → (FindsSome before → ⊥) → EndsWhereSome before more
some_on before [] ups none = tt
some_on before (sent ∷ more) ups none = (
  none,
  some_on (before ++ sent ∷ []) more (All-tail IsUploading sent more ups)
      (found_on before (sent ∷ []) (All-cons IsUploading sent [] (All-head IsUploading sent more ups) (All-nil IsUploading)) none),
)

pub pushes_on : (cuts : Cuts) (c : Contents) (i : Index) (before more : List Sent) → All IsUploading more → PushesFirst cuts c i before more
pushes_on cuts c i before [] ups = tt
pushes_on cuts c i before (sent ∷ more) ups = (
  (λ gets head named. absurd (true≢false (sym gets ∙ no_tree sent.0.what (All-head IsUploading sent more ups)))),
  pushes_on cuts c i (before ++ sent ∷ []) more (All-tail IsUploading sent more ups),
)

-- ---- onto a library that has nothing

pub empty_more : (before more : List Sent) → All IsUploading more → IsEmptyHead before → IsEmptyHead (before ++ more)
empty_more before more ups is = record {
  head = is.head;
  asked = asked_then None before more ∙ asked_same (asked_head before None) more ups ∙ is.asked;
  bytes = is.bytes;
  got = subst (λ (all : List Named). Contains all (commit_key is.head, Some is.bytes)) (sym (flat_map-append got_in before more))
      (Contains-append_left (flat_map got_in before) (flat_map got_in more) (commit_key is.head, Some is.bytes) is.got);
  commit = is.commit;
  spells = is.spells;
  named = is.named;
  none = is.none;
}

pub empty_on : (before more : List Sent) → All IsUploading more → IsEmptyHead before → UploadsOnEmpty before more
empty_on before [] ups is = tt
empty_on before (sent ∷ more) ups is = (
  (λ up. is),
  empty_on (before ++ sent ∷ []) more (All-tail IsUploading sent more ups)
      (empty_more before (sent ∷ []) (All-cons IsUploading sent [] (All-head IsUploading sent more ups) (All-nil IsUploading)) is),
)

-- ---- stages

stage_stays : (asked : What) (ending : Ending) → is_upload asked ≡ true → is_update asked ≡ false → stage_after asked ending Uploads ≡ Uploads
stage_stays (what.Check op) ending up other = absurd (true≢false (sym up))
stage_stays (what.Update id) ending up other = absurd (true≢false other)
stage_stays _ ending up other = refl

-- nothing is uploaded behind an update
late_upload : (b : Bool) (asked : What) → is_upload asked ≡ true → may_send (if b then Begins else Stands) asked ≡ true → ⊥
late_upload true (what.Check op) up may = true≢false (sym up)
late_upload true _ up may = true≢false (sym may)
late_upload false (what.Get key) up may = true≢false (sym up)
late_upload false (what.GetFs ids) up may = true≢false (sym up)
late_upload false _ up may = true≢false (sym may)

update_is : (asked : What) → is_update asked ≡ true → (ending : Ending) (stage : Stage) → stage_after asked ending stage ≡ (if is_stale ending then Begins else Stands)
update_is (what.Update id) is ending stage = refl
update_is _ is ending stage = absurd (true≢false (sym is))

-- until the last order of a push its stage stays
pub stage_until : (first : List Sent) (last : Sent) → All IsUploading (first ++ last ∷ []) → GoesInRounds Uploads (first ++ last ∷ []) → stage_from Uploads first ≡ Uploads
stage_until [] last ups rounds = refl
stage_until (sent ∷ first) last ups rounds = by (is_update sent.0.what) refl (stage_until first last) first (All-tail IsUploading sent (first ++ last ∷ []) ups) rounds.1
  where
    by : (b : Bool) → is_update sent.0.what ≡ b → (All IsUploading (first ++ last ∷ []) → GoesInRounds Uploads (first ++ last ∷ []) → stage_from Uploads first ≡ Uploads) → (rest : List Sent)
        → All IsUploading (first ++ last ∷ []) → GoesInRounds (stage_after sent.0.what sent.1 Uploads) (first ++ last ∷ [])
        → stage_from (stage_after sent.0.what sent.1 Uploads) first ≡ Uploads
    by false other next rest more goes =
        let stays : stage_after sent.0.what sent.1 Uploads ≡ Uploads = stage_stays sent.0.what sent.1 (All-head IsUploading sent (first ++ last ∷ []) ups) other in
        ap (λ (stage : Stage). stage_from stage first) stays ∙ next more (subst (λ (stage : Stage). GoesInRounds stage (first ++ last ∷ [])) stays goes)
    by true is next rest more goes =
        absurd (none_behind first more (subst (λ (stage : Stage). GoesInRounds stage (first ++ last ∷ [])) (update_is sent.0.what is sent.1 Uploads) goes))
      where
        none_behind : (xs : List Sent) → All IsUploading (xs ++ last ∷ []) → GoesInRounds (if is_stale sent.1 then Begins else Stands) (xs ++ last ∷ []) → ⊥
        none_behind [] up may = late_upload (is_stale sent.1) last.0.what (All-head IsUploading last [] up) may.0
        none_behind (x ∷ xs) up may = late_upload (is_stale sent.1) x.0.what (All-head IsUploading x (xs ++ last ∷ []) up) may.0

-- ---- the head

no_head : (asked : What) → is_upload asked ≡ true → is_head asked ≡ false
no_head (what.Head tag) up = absurd (true≢false (sym up))
no_head _ up = refl

heads_on : (base asked : Option (List ℕ)) → (is_some base ≡ true → asked ≡ None) → (more : List Sent) → All IsUploading more → HeadsOnce base asked more
heads_on base asked unasked [] ups = tt
heads_on base asked unasked (sent ∷ more) ups =
    let up : is_upload sent.0.what ≡ true = All-head IsUploading sent more ups in (
      record { once = λ is. absurd (true≢false (sym is ∙ no_head sent.0.what up)); unneeded = λ sends based. unasked based },
      subst (λ (o : Option (List ℕ)). HeadsOnce base o more) (sym (asked_stays sent.0.what sent.1 asked up))
          (heads_on base asked unasked more (All-tail IsUploading sent more ups)),
    )

-- ---- all that a push has to be so that it may follow

pub push_follows : (lib secret user : List ℕ) (shows : ℕ → Type 0) (moment : ℕ) → shows moment → (base : Option (List ℕ)) (parent : List ℕ) (first more : List Sent)
    → option_or base (asked_head first None) ≡ Some parent → (is_some base ≡ true → asked_head first None ≡ None) → stage_from Begins first ≡ Uploads → keys_lacked (last_round first []) ≡ [] → keys_put (last_round first []) ≡ []
    → All (IsSyncOrder lib secret) more → All IsUploading more → MadeSo lib user (λ m. m ≡ moment) (Some parent) None what.Version more → PutsLacked [] more → GoesInRounds Uploads more
    → Follows lib secret user shows base first more
push_follows lib secret user shows moment shown base parent first more is unasked at lacked put asks ups made puts rounds = record {
  asks = asks;
  made = made_behind lib user shows moment shown base (asked_head first None) parent is more (last_what what.Version first)
      (made_on lib user shows moment shown base (asked_head first None) parent is more ups None what.Version made);
  puts = puts_on more ups [] (last_round first []) lacked put puts;
  rounds = subst (λ (stage : Stage). GoesInRounds stage more) (sym at) rounds;
  gets = gets_on first more ups;
  heads = heads_on base (asked_head first None) unasked more ups;
}
