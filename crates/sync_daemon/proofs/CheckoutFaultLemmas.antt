-- The faults of a checkout, and their causes behind other orders. The key lemmas are stops_all, of_checkout and caused_behind.
use Rattle.std.proofs.Common.{◌≡◌, ℕ, true, All, List, [], ◌∷◌, ◌++◌, Option, None, Some, IsSome, Err, refl, sym, ap, subst, ◌∙◌, append_assoc, append-nil, inl, inr, true≢false}
use Rattle.std.specs.Prelude.{⊤}
use Rattle.std.specs.List.{Contains, flat_map}
use Rattle.std.proofs.lemmas.Grind.{flat_map-append}
use Rattle.std.proofs.lemmas.List.Elements.{All-append, Contains-append_right}
use Rattle.tree_model.specs.Path.{PathV}
use Rattle.block_chunker.specs.declared.cuts.Cuts.{Cuts}
use Rattle.folder_side.specs.Folder.{Contents}
use Rattle.folder_side.specs.declared.scan_report.Scan.{Scan}
use Rattle.http_front.specs.declared.order.Order.{Order}
use Rattle.remote_calls.specs.Sends.{Ending, Sent}
use Rattle.sync_rules.specs.Causes.{CausedBy, IsLast, WentWell}
use Rattle.sync_rules.specs.Named.{Named, got_in}
use Rattle.sync_rules.specs.Synced.{is_early}
use Rattle.sync_rules.specs.declared.fault.SyncFault.{SyncFault}
use Rattle.sync_rules.specs.declared.fault.SyncFault.TheVariants as fault
use Rattle.tree_walk.specs.declared.fault.WalkFault.TheVariants as walk
use Rattle.tree_checkout.specs.BlockGets.{IsToldBy, Stops, is_quiet}
use Rattle.tree_checkout.specs.CheckingOut.{ChecksOut, StopsOut}
use Rattle.tree_checkout.specs.Steps.{blocks_due}
use Rattle.tree_checkout.specs.declared.steps.Write.{Write}
use Rattle.tree_checkout.proofs.GotLemmas.{all_got_stops}
use Rattle.tree_fetch.specs.declared.asker.Asker.{Asker}
use Rattle.sync_daemon.specs.Bringing.{source_of}

-- a checkout that did all of it, after which memory was wanting
unfoldable pub stops_all : (asker : Asker) (doomed : List PathV) (writes : List Write) (scan : Scan) (cuts : Cuts) (old new : List Sent) (told now : Option Contents) (owns : List (List ℕ))
    → ChecksOut (source_of asker) doomed writes cuts old new told now owns → StopsOut (source_of asker) doomed writes scan cuts old new told now fault.NoMemory
stops_all asker doomed writes scan cuts old new told now owns out = record {
  more = out.more;
  grown = out.grown;
  stops = all_got_stops (source_of asker) fault.NoMemory (blocks_due writes) out.more out.got refl;
  wrong = tt;
  gone = doomed;
  kept = [];
  removed = sym (append-nil doomed);
  done = writes;
  rest = [];
  written = sym (append-nil writes);
  order = inl refl;
  left = out.left;
  sized = out.sized;
  tells = out.tells;
  others = out.others;
  changed = tt;
}

pub some_value : {X : Type 0} (o : Option X) → IsSome o → (x : X) × (o ≡ Some x)
some_value None is = absurd (true≢false (sym is))
some_value (Some x) is = (x, refl)

-- ---- the faults of a checkout

abbrev pub IsOfCheckout : SyncFault → Type 0
IsOfCheckout fault.Folder = ⊤
IsOfCheckout fault.NoMemory = ⊤
IsOfCheckout (fault.Changed path) = ⊤
IsOfCheckout (fault.BadTree (walk.WrongSize id)) = ⊤
IsOfCheckout (fault.Remote why) = ⊤
IsOfCheckout (fault.Refused why) = ⊤
IsOfCheckout (fault.Damaged want got) = ⊤
IsOfCheckout _ = ⊥

quiet_of_checkout : (f : SyncFault) → is_quiet f ≡ true → IsOfCheckout f
quiet_of_checkout fault.Folder is = tt
quiet_of_checkout fault.NoMemory is = tt
quiet_of_checkout (fault.Changed path) is = tt
quiet_of_checkout (fault.BadTree (walk.WrongSize id)) is = tt
quiet_of_checkout _ is = absurd (true≢false (sym is))

told_of_checkout : (asker : Asker) (id : List ℕ) (sent : Sent) (f : SyncFault) → IsToldBy (source_of asker) id sent f → IsOfCheckout f
told_of_checkout asker id sent (fault.Remote why) told = tt
told_of_checkout asker id sent (fault.Refused why) told = tt
told_of_checkout asker id sent (fault.Damaged want got) told = tt
told_of_checkout asker id sent _ told = absurd told

pub of_checkout : (asker : Asker) (f : SyncFault) (more : List Sent) (ids : List (List ℕ)) → Stops (source_of asker) more ids f → IsOfCheckout f
of_checkout asker f [] ids stops = quiet_of_checkout f stops
of_checkout asker f (sent ∷ more) [] stops = absurd stops
of_checkout asker f (sent ∷ more) (id ∷ ids) (inl on) = of_checkout asker f more ids on.1
of_checkout asker f (sent ∷ more) (id ∷ ids) (inr told) = told_of_checkout asker id sent f told.0

last_behind : (first more : List Sent) (order : Order) (ending : Ending) → IsLast more order ending → IsLast (first ++ more) order ending
last_behind first more order ending (before, is) = (first ++ before, ap (λ (sends : List Sent). first ++ sends) is ∙ sym (append_assoc first before ((order, ending) ∷ [])))

-- the cause stands behind what was sent before
pub caused_behind : (here : SyncFault → Type 0) (first more : List Sent) (f : SyncFault) → IsOfCheckout f → All WentWell first → CausedBy here more f → CausedBy here (first ++ more) f
caused_behind here first more fault.Folder of went cause = cause
caused_behind here first more fault.NoMemory of went cause = tt
caused_behind here first more (fault.Changed path) of went cause = cause
caused_behind here first more (fault.BadTree (walk.WrongSize id)) of went (inl bad) = absurd bad
caused_behind here first more (fault.BadTree (walk.WrongSize id)) of went (inr (all, so)) = inr (All-append WentWell first more went all, so)
caused_behind here first more (fault.Remote why) of went (order, last) = (order, last_behind first more order (Err why) last)
caused_behind here first more (fault.Refused r) of went (inl (order, ending, last, refused, ends)) = inl (order, ending, last_behind first more order ending last, refused, ends)
caused_behind here first more (fault.Refused r) of went (inr (is, (order, ending, there, asked, refused), all, so)) =
    inr (is, (order, ending, Contains-append_right first more (order, ending) there, asked, refused), All-append WentWell first more went all, so)
caused_behind here first more (fault.Damaged want got) of went (key, bytes, id, hash, other, kind_is, came) = (
  key,
  bytes,
  id,
  hash,
  other,
  kind_is,
  subst (λ (all : List Named). Contains all (key, Some bytes)) (sym (flat_map-append got_in first more)) (Contains-append_right (flat_map got_in first) (flat_map got_in more) (key, Some bytes) came),
)
caused_behind here first more _ of went cause = absurd of

pub never_late : (f : SyncFault) → IsOfCheckout f → is_early f ≡ true → ⊥
never_late fault.Folder of early = true≢false (sym early)
never_late fault.NoMemory of early = true≢false (sym early)
never_late (fault.Changed path) of early = true≢false (sym early)
never_late (fault.BadTree (walk.WrongSize id)) of early = true≢false (sym early)
never_late (fault.Remote why) of early = true≢false (sym early)
never_late (fault.Refused why) of early = true≢false (sym early)
never_late (fault.Damaged want got) of early = true≢false (sym early)
never_late _ of early = of
