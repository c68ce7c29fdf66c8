-- A sync that is refused before the folder is touched, one that comes too late three times, and one that has nothing to do. The key
-- lemmas are refused_finishes, stale_ends, idle_refuses, none_contained and spared_finishes.
use Rattle.std.proofs.Common.{◌≡◌, ◌≤◌, ◌⊎◌, ℕ, Bool, true, false, All, List, [], Option, None, Some, is_some, Ok, Err, refl, sym, ap, subst, ◌∙◌, inl, inr, true≢false}
use Rattle.std.specs.FinMap as fin
use Rattle.std.specs.List.{Contains}
use Rattle.std.proofs.lemmas.List.Elements.{All-contains, All-nil}
use Rattle.ids.specs.Key.{Objects}
use Rattle.ids.specs.declared.key.Key.{Key}
use Rattle.tree_model.specs.Tree.{Tree}
use Rattle.folder_side.specs.Folder.{Contents, at}
use Rattle.library_state.specs.declared.refusal.Refusal.TheVariants as refusal
use Rattle.object_graph.specs.Objects.{entry_below}
use Rattle.remote_calls.specs.Sends.{Sent}
use Rattle.sync_rules.specs.Causes.{CausedOver}
use Rattle.sync_rules.specs.OneSync.{GoesUnpushed, HasNotBegun, NeedsNoTree}
use Rattle.sync_rules.specs.Checkout.{IsPlan, Step, is_alone}
use Rattle.sync_rules.specs.Named.{IsHad, asked_head, keys_asked}
use Rattle.sync_rules.specs.Offer.{Agrees, IsOfferOf}
use Rattle.sync_rules.specs.Orders.Stage.{Begins}
use Rattle.sync_rules.specs.Premises.{IsBase, KnowsBase, KnowsRoot, Over}
use Rattle.sync_rules.specs.Synced.{IsConflict, IsOfWritten, IsStopped, IsSynced}
use Rattle.sync_rules.specs.declared.fault.SyncFault.{SyncFault}
use Rattle.sync_rules.specs.declared.fault.SyncFault.TheVariants as fault
use Rattle.sync_rules.proofs.AgreedLemmas.{agreed_held, agreed_left, agreed_plan}
use Rattle.sync_rules.proofs.WentLemmas.{goes_well}
use Rattle.sync_daemon.specs.Finishing.{Finishes, spared_of}
use Rattle.sync_daemon.specs.Going.{CausedUntouched, Going, GoingOver, Refuses, RefusesOver, Sync}
use Rattle.sync_daemon.specs.Rounds.{Differs, EndsLate, IsSettled}
use Rattle.sync_daemon.specs.declared.round.Settled.{Settled}
use Rattle.sync_daemon.proofs.GoingLemmas.{fails_here}
use Rattle.sync_daemon.proofs.ReadingLemmas.{headed}
use Rattle.sync_daemon.proofs.SkippedLemmas.{same_skipped}
use Rattle.sync_daemon.proofs.UnpushedLemmas.{same_unpushed}

-- ---- refused before the folder is touched

untouched : (s : Sync) (c : Contents) (more : List Sent) (f : SyncFault) → CausedUntouched s c more f
    → (((c ≡ c) × NeedsNoTree f × HasNotBegun more f) ⊎ (GoesUnpushed s.cuts c s.index more × (had : List (Key × List ℕ)) × IsHad more had
    × ((objects : Objects) (base : Tree) → Over objects s.cuts c s.index base had
    → CausedOver objects c more f × (((c ≡ c) × HasNotBegun more f) ⊎ IsStopped objects s.cuts c c s.index s.user more s.shows))))
untouched s c more f (inl (tree, begun)) = inl (refl, tree, begun)
untouched s c more f (inr (goes, had, is_had, over)) = inr (goes, had, is_had, λ objects base all. ((over objects base all).0, inl (refl, (over objects base all).1)))

pub refused_finishes : (s : Sync) (more : List Sent) (f : SyncFault) → Refuses s more f → Finishes s s.told s.index more (Err f)
refused_finishes s more f is = record {
  orders = is.orders;
  ends = is.ends;
  leaves = refl;
  skipped = same_skipped s.told;
  keeps = same_unpushed (record { lib = s.lib; secret = s.secret }) s.user s.shows s.cuts s.told s.index more;
  sends = λ c told. (is.over c told).sends;
  over = λ c told.
      let over : RefusesOver s c more f = is.over c told in (
        c,
        told,
        over.uploads,
        over.order,
        over.comes,
        (λ early. refl),
        untouched s c more f over.cause,
      );
}

-- ---- three updates came too late

pub stale_ends : (s : Sync) (more : List Sent) (count : ℕ) → Going s more Begins 3 → EndsLate more count → Refuses s more (fault.Stale count)
stale_ends s more count going (before, sent, last, is, refused) = record {
  orders = going.orders;
  ends = (
    goes_well more going.went,
    (sent.0, sent.1, last, (before, is), refused, going.lates),
    (λ other. going.went),
    (λ early. absurd (true≢false early)),
  );
  over = λ c told.
      let over : GoingOver s c more = going.over c told in
      record { uploads = over.uploads; order = over.order; comes = over.found; sends = over.sends; cause = inl (tt, going.unbegun) };
}

-- ---- the library did not go on, and one who may only read has changed the folder

pub idle_refuses : (s : Sync) (more : List Sent) (settled : Settled) → IsSettled s more settled → s.index.base ≡ Some settled.head → settled.differs ≡ true
    → Refuses s more (fault.Refused refusal.Denied)
idle_refuses s more settled is based apart =
    let differs : Differs s more settled = is.differs apart in
    fails_here s more is.stage is.late is.going (fault.Refused refusal.Denied) is.few
    (inr (
      refl,
      differs.denies,
      is.going.went,
      ((λ c told. (differs.other c told, inr (settled.head, is.named ∙ ap (headed settled.head) differs.unpushed, inl based))), differs.reads),
    ))
    (λ c told. ((λ went. ((is.seen c told).within, λ none has. absurd (true≢false (sym differs.based ∙ ap is_some none)))), inl (tt, is.going.unbegun)))

-- ---- nothing to do

pub none_contained : {X : Type 0} (x : X) → Contains [] x → ⊥
none_contained x there = All-contains (λ y. ⊥) [] x (All-nil (λ y. ⊥)) there

module _ (s : Sync) (more : List Sent) (settled : Settled) (is_settled : IsSettled s more settled) (unpushed : settled.pushed ≡ None) (based : s.index.base ≡ Some settled.head)
    (same : settled.differs ≡ false) where
  asks_none : keys_asked more ≡ []
  asks_none = is_settled.spares (ap is_some based)

  module _ (c : Contents) (told : s.told ≡ Some c) where
    agrees : Agrees s.cuts c s.index
    agrees = is_settled.agrees c told unpushed same

    synced : (objects : Objects) (base : Tree) → Over objects s.cuts c s.index base (is_settled.going.over c told).had
        → IsSynced objects s.cuts c c s.index s.index base settled.moment s.user more (spared_of settled)
    synced objects base over =
        let had = (is_settled.going.over c told).had in
        let of_base : IsBase objects (Some settled.head) base = subst (λ (o : Option (List ℕ)). IsBase objects o base) based over.base_is in
        let knows : KnowsRoot objects of_base.0.root s.index = subst (λ (o : Option (List ℕ)). KnowsBase objects o s.index) based over.knows of_base.0 of_base.1 in
        record {
          named = is_settled.named;
          pushed = subst (λ (o : Option (List ℕ)). IsOfferOf objects s.cuts c s.index settled.moment s.user (asked_head more None) o) (sym unpushed) tt;
          commit = of_base.0;
          stored = of_base.1;
          is_tree = of_base.2;
          left = agreed_left objects s.cuts c s.index base had over agrees;
          stands = over.stands;
          names = over.names;
          knows = knows;
          sizes = inl (λ path. refl);
          base = based;
          lib = refl;
          conflict = subst (λ (o : Option (List ℕ)). IsConflict o settled.head of_base.0 false) (sym unpushed) refl;
          steps = [];
          is_plan = subst (λ (b : Bool). IsPlan base c (λ path. is_alone s.cuts (at c path) (fin.get s.index.entries path) (entry_below objects path of_base.0.root) b) []) (sym (ap is_some unpushed))
              (agreed_plan objects s.cuts c s.index base had over agrees of_base.0.root knows);
          done = refl;
          spared = λ none head. asks_none;
          unfetched = λ same. absurd (true≢false (sym (ap is_some (sym unpushed ∙ same))));
          asked = subst (All (IsOfWritten objects of_base.0.root [])) (sym asks_none) (All-nil (IsOfWritten objects of_base.0.root []));
          whole = inl (unpushed, based);
          sized = λ path bytes there. absurd (none_contained (Step.Wrote path bytes) there);
          removed = refl;
          written = refl;
          skipped = (is_settled.seen c told).scanned.skipped;
          held = agreed_held objects s.cuts c s.index base had over agrees;
        }

  pub spared_finishes : Finishes s s.told s.index more (Ok (spared_of settled))
  spared_finishes = record {
    orders = is_settled.going.orders;
    ends = (
      is_settled.going.went,
      subst (λ (n : ℕ). n ≤ 2) (sym is_settled.going.lates) is_settled.few,
      is_settled.named,
    );
    leaves = (based, refl, inl (record { pushed = unpushed; head = based; none = asks_none; conflict = refl; same = λ path. refl }));
    skipped = same_skipped s.told;
    keeps = same_unpushed (record { lib = s.lib; secret = s.secret }) s.user s.shows s.cuts s.told s.index more;
    sends = λ c told. (is_settled.going.over c told).sends;
    over = λ c told.
        let over : GoingOver s c more = is_settled.going.over c told in (
          c,
          told,
          over.uploads,
          over.order,
          (λ head named. inl (agrees c told)),
          over.had,
          over.is_had,
          λ objects base all. (base, settled.moment, is_settled.shown, synced c told objects base all),
        );
  }
