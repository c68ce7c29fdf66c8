-- What is so of some orders, and of others behind them, is so of both. The key lemmas are orders_then, uploads_then, in_order_then and
-- caused_then.
use Rattle.std.proofs.Common.{◌≡◌, ℕ, All, List, [], ◌∷◌, ◌++◌, Option, None, refl, sym, subst, append_assoc, append-nil}
use Rattle.std.proofs.lemmas.List.Elements.{All-append}
use Rattle.block_chunker.specs.declared.cuts.Cuts.{Cuts}
use Rattle.folder_side.specs.Folder.{Contents}
use Rattle.local_index.specs.declared.index.Index.{Index}
use Rattle.http_front.specs.declared.order.What.{What}
use Rattle.remote_calls.specs.Sends.{Sent}
use Rattle.sync_rules.specs.Named.{Head, asked_after, asked_head, head_after, last_head, last_round, round_after}
use Rattle.sync_rules.specs.OneSync.{EndsWhereSome, PushesFirst}
use Rattle.sync_rules.specs.Orders.{GetsNeeded, GoesInRounds, IsSyncOrder, MadeSo, PutsLacked, Stage, stage_after}
use Rattle.sync_rules.specs.Orders.Stage.{Begins}
use Rattle.sync_rules.specs.Uploads.{OffersEach, UploadsOnEmpty}
use Rattle.http_front.specs.declared.order.What.TheVariants as what
use Rattle.sync_daemon.specs.RoundOrder.{AsksSo, HeadsOnce, stage_from}

-- ---- states

abbrev pub last_what : What → List Sent → What
last_what before [] = before
last_what before (sent ∷ more) = last_what sent.0.what more

pub stage_then : (stage : Stage) (first later : List Sent) → stage_from stage (first ++ later) ≡ stage_from (stage_from stage first) later
stage_then stage [] later = refl
stage_then stage (sent ∷ first) later = stage_then (stage_after sent.0.what sent.1 stage) first later

pub head_then : (before : Option Head) (first later : List Sent) → last_head (first ++ later) before ≡ last_head later (last_head first before)
head_then before [] later = refl
head_then before (sent ∷ first) later = head_then (head_after sent.0.what sent.1 before) first later

pub asked_then : (before : Option (List ℕ)) (first later : List Sent) → asked_head (first ++ later) before ≡ asked_head later (asked_head first before)
asked_then before [] later = refl
asked_then before (sent ∷ first) later = asked_then (asked_after sent.0.what sent.1 before) first later

pub round_then : (before first later : List Sent) → last_round (first ++ later) before ≡ last_round later (last_round first before)
round_then before [] later = refl
round_then before (sent ∷ first) later = round_then (round_after before sent) first later

-- ---- orders

made_then : (lib user : List ℕ) (shows : ℕ → Type 0) (base asked : Option (List ℕ)) (before : What) (first later : List Sent) → MadeSo lib user shows base asked before first
    → MadeSo lib user shows base (asked_head first asked) (last_what before first) later → MadeSo lib user shows base asked before (first ++ later)
made_then lib user shows base asked before [] later is more = more
made_then lib user shows base asked before (sent ∷ first) later is more =
    (is.0, is.1, made_then lib user shows base (asked_after sent.0.what sent.1 asked) sent.0.what first later is.2 more)

puts_then : (round first later : List Sent) → PutsLacked round first → PutsLacked (last_round first round) later → PutsLacked round (first ++ later)
puts_then round [] later is more = more
puts_then round (sent ∷ first) later is more = (is.0, puts_then (round_after round sent) first later is.1 more)

rounds_then : (stage : Stage) (first later : List Sent) → GoesInRounds stage first → GoesInRounds (stage_from stage first) later → GoesInRounds stage (first ++ later)
rounds_then stage [] later is more = more
rounds_then stage (sent ∷ first) later is more = (is.0, rounds_then (stage_after sent.0.what sent.1 stage) first later is.1 more)

heads_then : (base asked : Option (List ℕ)) (first later : List Sent) → HeadsOnce base asked first → HeadsOnce base (asked_head first asked) later → HeadsOnce base asked (first ++ later)
heads_then base asked [] later is more = more
heads_then base asked (sent ∷ first) later is more = (is.0, heads_then base (asked_after sent.0.what sent.1 asked) first later is.1 more)

-- what is behind `before` and a send is behind that and the rest
pub behind : (P : List Sent → Type 0) (before : List Sent) (sent : Sent) (first : List Sent) → P (before ++ sent ∷ first) → P ((before ++ sent ∷ []) ++ first)
behind P before sent first is = subst P (sym (append_assoc before (sent ∷ []) first)) is

pub none_before : (P : List Sent → Type 0) (before : List Sent) → P (before ++ []) → P before
none_before P before is = subst P (append-nil before) is

gets_then : (before first later : List Sent) → GetsNeeded before first → GetsNeeded (before ++ first) later → GetsNeeded before (first ++ later)
gets_then before [] later is more = none_before (λ (b : List Sent). GetsNeeded b later) before more
gets_then before (sent ∷ first) later is more =
    (is.0, gets_then (before ++ sent ∷ []) first later is.1 (behind (λ (b : List Sent). GetsNeeded b later) before sent first more))

-- what a list of orders has to be so that it may follow others
pub record Follows (lib secret user : List ℕ) (shows : ℕ → Type 0) (base : Option (List ℕ)) (first later : List Sent) : Type 0 where
  pub asks : All (IsSyncOrder lib secret) later
  pub made : MadeSo lib user shows base (asked_head first None) (last_what what.Version first) later
  pub puts : PutsLacked (last_round first []) later
  pub rounds : GoesInRounds (stage_from Begins first) later
  pub gets : GetsNeeded first later
  pub heads : HeadsOnce base (asked_head first None) later

pub orders_then : (lib secret user : List ℕ) (shows : ℕ → Type 0) (base : Option (List ℕ)) (first later : List Sent) → AsksSo lib secret user shows base first
    → Follows lib secret user shows base first later → AsksSo lib secret user shows base (first ++ later)
orders_then lib secret user shows base first later is more = record {
  orders = record {
    asks = All-append (IsSyncOrder lib secret) first later is.orders.asks more.asks;
    made = made_then lib user shows base None what.Version first later is.orders.made more.made;
    puts = puts_then [] first later is.orders.puts more.puts;
    rounds = rounds_then Begins first later is.orders.rounds more.rounds;
    gets = gets_then [] first later is.orders.gets more.gets;
  };
  heads = heads_then base None first later is.heads more.heads;
}

-- ---- over a folder

pub empty_then : (before first later : List Sent) → UploadsOnEmpty before first → UploadsOnEmpty (before ++ first) later → UploadsOnEmpty before (first ++ later)
empty_then before [] later is more = none_before (λ (b : List Sent). UploadsOnEmpty b later) before more
empty_then before (sent ∷ first) later is more =
    (is.0, empty_then (before ++ sent ∷ []) first later is.1 (behind (λ (b : List Sent). UploadsOnEmpty b later) before sent first more))

pub offers_then : (cuts : Cuts) (c : Contents) (i : Index) (user : List ℕ) (shows : ℕ → Type 0) (before first later : List Sent) → OffersEach cuts c i user shows before first
    → OffersEach cuts c i user shows (before ++ first) later → OffersEach cuts c i user shows before (first ++ later)
offers_then cuts c i user shows before [] later is more = none_before (λ (b : List Sent). OffersEach cuts c i user shows b later) before more
offers_then cuts c i user shows before (sent ∷ first) later is more =
    (is.0, offers_then cuts c i user shows (before ++ sent ∷ []) first later is.1 (behind (λ (b : List Sent). OffersEach cuts c i user shows b later) before sent first more))

pub some_then : (before first later : List Sent) → EndsWhereSome before first → EndsWhereSome (before ++ first) later → EndsWhereSome before (first ++ later)
some_then before [] later is more = none_before (λ (b : List Sent). EndsWhereSome b later) before more
some_then before (sent ∷ first) later is more =
    (is.0, some_then (before ++ sent ∷ []) first later is.1 (behind (λ (b : List Sent). EndsWhereSome b later) before sent first more))

pub pushes_then : (cuts : Cuts) (c : Contents) (i : Index) (before first later : List Sent) → PushesFirst cuts c i before first → PushesFirst cuts c i (before ++ first) later
    → PushesFirst cuts c i before (first ++ later)
pushes_then cuts c i before [] later is more = none_before (λ (b : List Sent). PushesFirst cuts c i b later) before more
pushes_then cuts c i before (sent ∷ first) later is more =
    (is.0, pushes_then cuts c i (before ++ sent ∷ []) first later is.1 (behind (λ (b : List Sent). PushesFirst cuts c i b later) before sent first more))
