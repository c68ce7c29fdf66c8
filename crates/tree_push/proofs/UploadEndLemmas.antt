-- What comes of an upload at each of its ways out. The key lemmas are objects_stop, blocks_stop, files_stop, all_uploaded,
-- orders_no_change and orders_stay.
use Rattle.std.proofs.Common.{◌≡◌, ◌||◌, ◌≤◌, ◌++◌, Bool, true, false, ℕ, List, [], Result, Ok, Err, refl, sym, ap, ◌∙◌, subst, append_assoc}
use Rattle.std.proofs.lemmas.Bool.{or_right}
use Rattle.std.proofs.lemmas.List.{append-nil}
use Rattle.std.specs.Prelude.{⊤, IfErr}
use Rattle.std.specs.Bool.{MatchBool}
use Rattle.std.specs.FinMap as fin
use Rattle.ids.specs.FaultCount.{FailsBy, Rose}
use Rattle.ids.specs.declared.key.Key.{Key}
use Rattle.ids.specs.declared.key.Kind.TheVariants as kind
use Rattle.object_graph.specs.Traversal.{is_in}
use Rattle.object_graph.proofs.KeyLemmas.{in_append}
use Rattle.http_front.specs.declared.order.What.{What}
use Rattle.remote_calls.specs.Sends.{Sent}
use Rattle.sync_rules.specs.Named.{keys_lacked}
use Rattle.sync_rules.specs.Orders.{PutsLacked}
use Rattle.sync_rules.specs.Causes.{is_folder_fault}
use Rattle.sync_rules.specs.declared.fault.SyncFault.{SyncFault}
use Rattle.sync_rules.specs.declared.fault.SyncFault.TheVariants as fault
use Rattle.tree_push.specs.Asking.{IsOrderFault, Ran, Stopped, Went, AsksAmong, PutsAmong}
use Rattle.tree_push.specs.BlockUpload.{NotChanged, PutsOff}
use Rattle.tree_push.specs.Lacking.{AsksNoting, Keys, has_key}
use Rattle.tree_push.specs.OfferedEntries.{SeenPaths}
use Rattle.tree_push.specs.Puts.{PutsMade}
use Rattle.tree_push.specs.Upload.{UploadsSo, blocks_in, OfWanted}
use Rattle.tree_push.specs.Wanted.{AreOwnNamed, AreSeenBlocks, ids_in}
use Rattle.tree_push.specs.declared.asking.Library.{Library}
use Rattle.tree_push.specs.declared.wanted.Wanted.{Wanted}
use Rattle.tree_push.proofs.BlockUploadLemmas.{order_no_change}
use Rattle.tree_push.proofs.NotedLemmas.{lacked_append}
use Rattle.tree_push.proofs.RoundLemmas.{PutsTold, asks_told, puts_told}
use Rattle.tree_push.proofs.UploadLemmas.{IsPassed, first_stop, noted_lacked, passed_more, passed_start, passed_stop, uploads_all}
use Rattle.tree_push.proofs.WantedSendLemmas.{of_asked_blocks, of_asked_objects, of_put_blocks, of_put_objects}

pub orders_no_change : {T : Type 0} (result : Result T SyncFault) → IfErr result IsOrderFault → NotChanged result
orders_no_change (Ok x) is = tt
orders_no_change (Err f) is = order_no_change f is

order_no_folder : (f : SyncFault) → IsOrderFault f → is_folder_fault f ≡ false
order_no_folder (fault.Remote why) is = refl
order_no_folder (fault.Refused why) is = refl
order_no_folder fault.NoMemory is = refl
order_no_folder _ is = absurd is

-- the folder didn't fail, and its count stayed
pub orders_stay : {T : Type 0} (before now : ℕ) (result : Result T SyncFault) → now ≡ before → IfErr result IsOrderFault → FailsBy is_folder_fault before now result
orders_stay before now (Ok x) same is = same
orders_stay before now (Err f) same is = subst (λ (b : Bool). MatchBool b ((before ≤ now) × Rose before now) (now ≡ before)) (sym (order_no_folder f is)) same

module _ (library : Library) (wanted : Wanted) (named : AreOwnNamed wanted.made) (seens : SeenPaths) (seen : AreSeenBlocks seens wanted) where
  -- it was asked which objects, or which blocks, are lacking
  abbrev pub AsksObjects : Keys → Keys → List Sent → Type 0
  AsksObjects was is = AsksNoting library kind.Fs (ids_in (fin.entries wanted.made)) was is

  abbrev pub AsksBlocks : Keys → Keys → List Sent → Type 0
  AsksBlocks was is = AsksNoting library kind.Block (ids_in (fin.entries wanted.blocks)) was is

  -- nothing but these objects, or these blocks, was asked about
  abbrev pub AsksOfObjects : What → Type 0
  AsksOfObjects = AsksAmong kind.Fs (ids_in (fin.entries wanted.made))

  abbrev pub AsksOfBlocks : What → Type 0
  AsksOfBlocks = AsksAmong kind.Block (ids_in (fin.entries wanted.blocks))

  objects_of : (asked : What) → AsksOfObjects asked → OfWanted wanted asked
  objects_of = of_asked_objects wanted named seens seen

  blocks_of : (asked : What) → AsksOfBlocks asked → OfWanted wanted asked
  blocks_of = of_asked_blocks wanted named seens seen

  objects_told : (round : List Sent) (asked : What) → AsksOfObjects asked → PutsTold round asked
  objects_told round = asks_told kind.Fs (ids_in (fin.entries wanted.made)) round

  blocks_told : (round : List Sent) (asked : What) → AsksOfBlocks asked → PutsTold round asked
  blocks_told round = asks_told kind.Block (ids_in (fin.entries wanted.blocks)) round

  pub objects_stop : (old new : List Sent) (f : SyncFault) → Stopped library AsksOfObjects f old new → UploadsSo library wanted old new (Err f)
  objects_stop old new f stopped = first_stop library wanted AsksOfObjects objects_of (λ more. ⊤) old new f stopped (objects_told [])

  module _ (none objects : Keys) (is_none : none ≡ fin.empty) (old first : List Sent) where
    pub blocks_stop : (new : List Sent) → Ran library AsksOfObjects (AsksObjects none objects) old first → (f : SyncFault) → Stopped library AsksOfBlocks f first new → UploadsSo library wanted old new (Err f)
    blocks_stop new asked f stopped =
        let passed = passed_start library wanted AsksOfObjects objects_of (AsksObjects none objects) old first asked (objects_told []) in
        passed_stop library wanted AsksOfBlocks blocks_of (λ more. ⊤) old first new passed (blocks_told passed.more) f stopped

  module _ (none objects empty blocks : Keys) (is_none : none ≡ fin.empty) (is_empty : empty ≡ fin.empty) (old first second : List Sent) where
    module _ (asked : Ran library AsksOfObjects (AsksObjects none objects) old first) (also : Ran library AsksOfBlocks (AsksBlocks empty blocks) first second) where
      unfoldable both : IsPassed library wanted old second
      unfolding passed_more passed_start
      both =
          let passed = passed_start library wanted AsksOfObjects objects_of (AsksObjects none objects) old first asked (objects_told []) in
          passed_more library wanted AsksOfBlocks blocks_of (AsksBlocks empty blocks) old first second passed (blocks_told passed.more) also

      asks_objects : AsksObjects fin.empty objects asked.more
      asks_objects = subst (λ (m : Keys). AsksObjects m objects asked.more) is_none asked.are

      asks_blocks : AsksBlocks fin.empty blocks also.more
      asks_blocks = subst (λ (m : Keys). AsksBlocks m blocks also.more) is_empty also.are

      blocks_lacked : (key : Key) → has_key blocks key ≡ true → is_in (keys_lacked (asked.more ++ also.more)) key ≡ true
      blocks_lacked key there =
          ap (λ (keys : List Key). is_in keys key) (lacked_append asked.more also.more) ∙ in_append (keys_lacked asked.more) (keys_lacked also.more) key
          ∙ or_right (is_in (keys_lacked asked.more) key) (is_in (keys_lacked also.more) key)
          (sym (noted_lacked library kind.Block (ids_in (fin.entries wanted.blocks)) blocks also.more asks_blocks key) ∙ there)

      files_of : (w : What) → PutsAmong (has_key blocks) w → OfWanted wanted w
      files_of = of_put_blocks wanted named seens seen library blocks also.more asks_blocks

      files_told : (w : What) → PutsAmong (has_key blocks) w → PutsTold (asked.more ++ also.more) w
      files_told = puts_told (has_key blocks) (asked.more ++ also.more) blocks_lacked

    pub files_stop : (new : List Sent) (asked : Ran library AsksOfObjects (AsksObjects none objects) old first) (also : Ran library AsksOfBlocks (AsksBlocks empty blocks) first second) (f : SyncFault)
        → Stopped library (PutsAmong (has_key blocks)) f second new → UploadsSo library wanted old new (Err f)
    unfolding both passed_more passed_start
    files_stop new asked also f stopped =
        passed_stop library wanted (PutsAmong (has_key blocks)) (files_of asked also) (λ more. ⊤) old second new (both asked also) (files_told asked also) f stopped

  module _ (none objects empty blocks rest : Keys) (is_none : none ≡ fin.empty) (is_empty : empty ≡ fin.empty)
      (old first second third new : List Sent) (asked : Ran library AsksOfObjects (AsksObjects none objects) old first) (also : Ran library AsksOfBlocks (AsksBlocks empty blocks) first second)
      (put : Ran library (PutsAmong (has_key blocks)) (PutsOff (blocks_in (fin.entries seens)) blocks rest) second third) where
    unfoldable passed : IsPassed library wanted old third
    unfolding both passed_more passed_start
    passed =
        passed_more library wanted (PutsAmong (has_key blocks)) (files_of none objects empty blocks is_none is_empty old first second asked also)
        (PutsOff (blocks_in (fin.entries seens)) blocks rest) old second third (both none objects empty blocks is_none is_empty old first second asked also)
        (files_told none objects empty blocks is_none is_empty old first second asked also) put

    objects_lacked : (key : Key) → has_key objects key ≡ true → is_in (keys_lacked ((asked.more ++ also.more) ++ put.more)) key ≡ true
    objects_lacked key there =
        ap (λ (sends : List Sent). is_in (keys_lacked sends) key) (append_assoc asked.more also.more put.more)
        ∙ ap (λ (keys : List Key). is_in keys key) (lacked_append asked.more (also.more ++ put.more)) ∙ in_append (keys_lacked asked.more) (keys_lacked (also.more ++ put.more)) key
        ∙ ap (λ b. b || is_in (keys_lacked (also.more ++ put.more)) key)
        (sym (noted_lacked library kind.Fs (ids_in (fin.entries wanted.made)) objects asked.more (asks_objects none objects empty blocks is_none is_empty old first second asked also) key) ∙ there)

    last_of : (w : What) → PutsAmong (has_key objects) w → OfWanted wanted w
    last_of = of_put_objects wanted named seens seen library objects asked.more (asks_objects none objects empty blocks is_none is_empty old first second asked also)

    last_told : (w : What) → PutsAmong (has_key objects) w → PutsTold ((asked.more ++ also.more) ++ put.more) w
    last_told = puts_told (has_key objects) ((asked.more ++ also.more) ++ put.more) objects_lacked

    pub all_uploaded : (result : Result ⊤ SyncFault) → Went library (PutsAmong (has_key objects)) (PutsMade wanted.made objects) third new result → UploadsSo library wanted old new result
    unfolding passed both passed_more passed_start
    all_uploaded (Err f) stopped = passed_stop library wanted (PutsAmong (has_key objects)) last_of (λ more. ⊤) old third new passed last_told f stopped
    all_uploaded (Ok x) ran =
        let whole = passed_more library wanted (PutsAmong (has_key objects)) last_of (PutsMade wanted.made objects) old third new passed last_told ran in
        record {
          more = whole.more;
          grown = whole.grown;
          puts = subst (λ (sends : List Sent). PutsLacked [] sends) (append-nil whole.more) (whole.puts [] tt);
          ends = (
            whole.went,
            uploads_all library wanted seens named seen objects blocks rest asked.more also.more put.more ran.more
                (asks_objects none objects empty blocks is_none is_empty old first second asked also) (asks_blocks none objects empty blocks is_none is_empty old first second asked also)
                put.are ran.are,
          );
        }
