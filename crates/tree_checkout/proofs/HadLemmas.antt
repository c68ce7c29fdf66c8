-- What was had for blocks that were got. The key lemmas are has_first_of, has_later_of, joined_got, got_had and stopped_had.
use Rattle.std.proofs.Common.{◌≡◌, ℕ, Bool, true, false, IsSome, inl, inr, if◌then◌else◌, List, [], ◌∷◌, ◌++◌, Option, None, Some, Ok, refl, sym, ap, ap₂, subst, ◌∙◌, unwrap_or}
use Rattle.std.specs.FinMap as fin
use Rattle.std.specs.Str.{bytes_eq}
use Rattle.std.proofs.lemmas.Bool.{false≢true}
use Rattle.std.specs.List.{cons_option, filter_map, flat_map}
use Rattle.std.proofs.lemmas.Grind.{flat_map-append}
use Rattle.std.proofs.lemmas.List.Elements.{filter_map-append}
use Rattle.std.proofs.lemmas.Slice.Eq.{bytes_eq-Decides}
use Rattle.sha1.specs.Sha1.{sha1}
use Rattle.ids.specs.Key.{Objects}
use Rattle.http_front.specs.declared.order.Order.{Order}
use Rattle.http_front.specs.declared.outcome.Outcome.TheVariants.{Plain}
use Rattle.library_state.specs.declared.reply.Reply.TheVariants as reply
use Rattle.object_graph.specs.Objects.{block_key, joined}
use Rattle.remote_calls.specs.Sends.{Ending, Sent}
use Rattle.sync_rules.specs.Named.{HasAll, IsHad, IsHadFor, Named, names_in}
use Rattle.sync_rules.specs.declared.fault.SyncFault.{SyncFault}
use Rattle.sync_rules.specs.declared.fault.SyncFault.TheVariants as fault
use Rattle.sync_rules.proofs.OverLemmas.{has_first, has_later}
use Rattle.tree_checkout.specs.BlockGets.{AreGot, ComesNamed, IsToldBy, Stops, block_order, bytes_in, had_of, joined_in, with_bytes}
use Rattle.tree_checkout.specs.declared.block_gets.Source.{Source}

pub had_append : (first later : List Sent) → had_of (first ++ later) ≡ had_of first ++ had_of later
had_append first later = ap (filter_map with_bytes) (flat_map-append names_in first later) ∙ filter_map-append with_bytes (flat_map names_in first) (flat_map names_in later)

pub has_first_of : (objects : Objects) (first later : List Sent) → HasAll objects (had_of (first ++ later)) → HasAll objects (had_of first)
has_first_of objects first later has = has_first objects (had_of first) (had_of later) (subst (HasAll objects) (had_append first later) has)

pub has_later_of : (objects : Objects) (first later : List Sent) → HasAll objects (had_of (first ++ later)) → HasAll objects (had_of later)
has_later_of objects first later has = has_later objects (had_of first) (had_of later) (subst (HasAll objects) (had_append first later) has)

has_at : (source : Source) (id : List ℕ) (ending : Ending) (objects : Objects) → ComesNamed id ending → HasAll objects (had_of ((block_order source id, ending) ∷ []))
    → fin.get objects (block_key id) ≡ Some (bytes_in ending)
has_at source id (Ok (Plain (reply.Got bytes) tag)) objects comes has =
    (subst (λ (b : Bool). HasAll objects (filter_map with_bytes (cons_option {X = Named} (if b then Some (block_key id, Some bytes) else None) [] ++ [])))
    ((bytes_eq-Decides (sha1 bytes) id).1 comes) has).0
has_at source id other objects comes has = absurd comes

has_block : (source : Source) (id : List ℕ) (order : Order) (ending : Ending) (objects : Objects) → order ≡ block_order source id → ComesNamed id ending
    → HasAll objects (had_of ((order, ending) ∷ [])) → fin.get objects (block_key id) ≡ Some (bytes_in ending)
has_block source id order ending objects asked comes has =
    has_at source id ending objects comes (subst (λ (o : Order). HasAll objects (had_of ((o, ending) ∷ []))) asked has)

-- objects that have what came have the bytes that were joined
pub joined_got : (source : Source) (ids : List (List ℕ)) (more : List Sent) (objects : Objects) → AreGot source ids more → HasAll objects (had_of more)
    → joined objects ids ≡ joined_in more
joined_got source [] [] objects are has = refl
joined_got source [] (sent ∷ more) objects are has = absurd are
joined_got source (id ∷ ids) [] objects are has = absurd are
joined_got source (id ∷ ids) (sent ∷ more) objects are has =
    let here = has_block source id sent.0 sent.1 objects are.0.asked are.0.comes (has_first_of objects (sent ∷ []) more has) in
    let behind = joined_got source ids more objects are.1 (has_later_of objects (sent ∷ []) more has) in
    ap₂ (λ (x y : List ℕ). x ++ y) (ap (λ (o : Option (List ℕ)). unwrap_or o []) here) behind

-- ---- what a sync had

-- each is named with its bytes
abbrev WithBytes : List Named → Type 0
WithBytes [] = Unit {0}
WithBytes (named ∷ more) = (IsSome named.1) × WithBytes more

with_append : (first later : List Named) → WithBytes first → WithBytes later → WithBytes (first ++ later)
with_append [] later mine others = others
with_append (named ∷ first) later mine others = (mine.0, with_append first later mine.1 others)

had_for : (named : List Named) → WithBytes named → IsHadFor named (filter_map with_bytes named)
had_for [] with = tt
had_for ((key, None) ∷ named) with = absurd (false≢true with.0)
had_for ((key, Some bytes) ∷ named) with = (refl, had_for named with.1)

names_of : (source : Source) (id : List ℕ) (ending : Ending) → WithBytes (names_in (block_order source id, ending))
names_of source id (Ok (Plain (reply.Got bytes) tag)) = by (bytes_eq (sha1 bytes) id)
  where
    by : (b : Bool) → WithBytes (cons_option {X = Named} (if b then Some (block_key id, Some bytes) else None) [])
    by true = (refl, tt)
    by false = tt
names_of source id other = tt

names_at : (source : Source) (id : List ℕ) (sent : Sent) → sent.0 ≡ block_order source id → WithBytes (names_in sent)
names_at source id sent asked = subst (λ (order : Order). WithBytes (names_in (order, sent.1))) (sym asked) (names_of source id sent.1)

got_named : (source : Source) (ids : List (List ℕ)) (more : List Sent) → AreGot source ids more → WithBytes (flat_map names_in more)
got_named source [] [] are = tt
got_named source [] (sent ∷ more) are = absurd are
got_named source (id ∷ ids) [] are = absurd are
got_named source (id ∷ ids) (sent ∷ more) are = with_append (names_in sent) (flat_map names_in more) (names_at source id sent are.0.asked) (got_named source ids more are.1)

pub told_at : (source : Source) (id : List ℕ) (sent : Sent) (f : SyncFault) → IsToldBy source id sent f → sent.0 ≡ block_order source id
told_at source id sent (fault.Remote why) told = ap (λ (s : Sent). s.0) told
told_at source id sent (fault.Refused why) told = told.0
told_at source id sent (fault.Damaged want got) told = ap (λ (s : Sent). s.0) told.4
told_at source id sent other told = absurd told

stopped_named : (source : Source) (f : SyncFault) (more : List Sent) (ids : List (List ℕ)) → Stops source more ids f → WithBytes (flat_map names_in more)
stopped_named source f [] ids stops = tt
stopped_named source f (sent ∷ more) [] stops = absurd stops
stopped_named source f (sent ∷ more) (id ∷ ids) (inl on) =
    with_append (names_in sent) (flat_map names_in more) (names_at source id sent on.0.asked) (stopped_named source f more ids on.1)
stopped_named source f (sent ∷ more) (id ∷ ids) (inr ends) =
    with_append (names_in sent) (flat_map names_in more) (names_at source id sent (told_at source id sent f ends.0))
    (subst (λ (rest : List Sent). WithBytes (flat_map names_in rest)) (sym ends.1) tt)

pub got_had : (source : Source) (ids : List (List ℕ)) (more : List Sent) → AreGot source ids more → IsHad more (had_of more)
got_had source ids more are = had_for (flat_map names_in more) (got_named source ids more are)

pub stopped_had : (source : Source) (more : List Sent) (ids : List (List ℕ)) (f : SyncFault) → Stops source more ids f → IsHad more (had_of more)
stopped_had source more ids f stops = had_for (flat_map names_in more) (stopped_named source f more ids stops)
