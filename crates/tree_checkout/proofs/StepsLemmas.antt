-- What is written, one after another. The key lemmas are writes_start, writes_more, writes_end and writes_stop.
use Rattle.std.proofs.Common.{◌≡◌, ◌⊎◌, ◌||◌, ℕ, ◌+◌, ◌<◌, ◌≤◌, Bool, true, false, cond, List, [], ◌∷◌, ◌++◌, length, map, take, drop, get_or, Option, None, Some, IsSome, is_some, option_map, refl, sym, ap, subst, ◌∙◌, inl, inr, append_assoc, append-nil}
use Rattle.std.specs.FinMap as fin
use Rattle.std.proofs.lemmas.Bool.{true≢false}
use Rattle.std.proofs.lemmas.Grind.{flat_map-append}
use Rattle.std.proofs.lemmas.List.{map-append, take-append-drop, take_all}
use Rattle.ids.proofs.BasicLemmas.{AllByRecursion-push, is_some-option_map}
use Rattle.ids.specs.Key.{Objects}
use Rattle.tree_model.specs.Path.{PathV}
use Rattle.tree_model.specs.PathOrder.{paths_total}
use Rattle.tree_model.proofs.ListedLemmas.{any_append, same_path}
use Rattle.block_chunker.specs.declared.cuts.Cuts.{Cuts}
use Rattle.folder_side.specs.Folder.{Contents, at, with_dir, with_file, with_holding}
use Rattle.folder_side.specs.declared.holding.Holding.{Holding}
use Rattle.folder_side.specs.declared.holding.Holding.TheVariants.{Dir, File}
use Rattle.folder_side.specs.declared.scan_report.Scan.{Scan}
use Rattle.folder_side.specs.declared.scan_report.Seen.{Seen}
use Rattle.object_graph.specs.Objects.{joined}
use Rattle.remote_calls.specs.Sends.{Sent}
use Rattle.sync_rules.specs.Checkout.{Step, do_step, is_one_of, run}
use Rattle.sync_rules.specs.Offer.{own_of}
use Rattle.sync_rules.specs.declared.fault.SyncFault.{SyncFault}
use Rattle.sync_rules.specs.declared.fault.SyncFault.TheVariants as fault
use Rattle.tree_walk.proofs.StepsLemmas.{next_entry}
use Rattle.tree_walk.specs.declared.fault.WalkFault.TheVariants as walk
use Rattle.tree_checkout.specs.BlockGets.{AreGot, Stops, joined_in}
use Rattle.tree_checkout.specs.SecondLook.{IsLookFault}
use Rattle.tree_checkout.specs.Steps.{IsSizedNode, IsWrongIn, Leaves, StopsOne, StopsWrites, WritesAll, WritesOne, blocks_due, node_blocks, node_owns, owns_of, paths_of, write_step}
use Rattle.tree_checkout.specs.Writing.{IsMoved, IsWrongSize, is_change}
use Rattle.tree_checkout.specs.declared.block_gets.Source.{Source}
use Rattle.tree_checkout.specs.declared.writing.TreeFile.{TreeFile}
use Rattle.tree_checkout.specs.declared.steps.Write.{Write}
use Rattle.tree_checkout.specs.declared.steps.WriteNode.{WriteNode}
use Rattle.tree_checkout.specs.declared.steps.WriteNode.TheVariants as write
use Rattle.tree_checkout.proofs.GotLemmas.{all_got_stops, got_append, got_front, stops_behind, stops_more}
use Rattle.tree_checkout.proofs.HadLemmas.{has_first_of, has_later_of, joined_got}
use Rattle.tree_checkout.proofs.WritingLemmas.{look_other, look_quiet}
use Rattle.tree_checkout.proofs.RemovalLemmas.{next_path, run_more, stop_unless, stop_write}

-- ---- what writes leave

pub same_contents : (c d : Contents) → Some c ≡ Some d → c ≡ d
same_contents c d e = cc

leaves_nothing : (before after : Option Contents) → after ≡ before → Leaves [] [] before after
leaves_nothing before after same = record {
  left = λ c is objects has. same ∙ is;
  sized = λ objects has. tt;
  tells = λ c is. ap is_some (same ∙ is);
  others = λ c d is now q apart. ap (λ (e : Contents). at e q) (same_contents d c (sym now ∙ same ∙ is));
}

-- more came, and nothing was written
leaves_wider : (writes : List Write) (more part : List Sent) (before after now : Option Contents) → now ≡ after → Leaves writes more before after → Leaves writes (more ++ part) before now
leaves_wider writes more part before after now same leaves = record {
  left = λ c is objects has. same ∙ leaves.left c is objects (has_first_of objects more part has);
  sized = λ objects has. leaves.sized objects (has_first_of objects more part has);
  tells = λ c is. ap is_some same ∙ leaves.tells c is;
  others = λ c d is told q apart. leaves.others c d is (sym same ∙ told) q apart;
}

write_run : (objects : Objects) (writes : List Write) (w : Write) (c : Contents)
    → run (map (write_step objects) (writes ++ w ∷ [])) c ≡ do_step (write_step objects w) (run (map (write_step objects) writes) c)
write_run objects writes w c =
    ap (λ (steps : List Step). run steps c) (map-append (write_step objects) writes (w ∷ [])) ∙ run_more (map (write_step objects) writes) (write_step objects w) c

-- a write leaves other paths as they were
apart_there : (path q : PathV) (holding : Holding) (c : Contents) → same_path q path ≡ false → at (with_holding path holding c) q ≡ at c q
apart_there path q holding c apart = fin.get-insert paths_total c.paths path holding q ∙ ap (λ (b : Bool). cond b (Some holding) (at c q)) apart

-- a path that is none of these and one more
apart_parts : (writes : List Write) (w : Write) (q : PathV) → is_one_of (paths_of (writes ++ w ∷ [])) q ≡ false → (is_one_of (paths_of writes) q ≡ false) × (same_path q w.path ≡ false)
apart_parts writes w q apart =
    let split : (is_one_of (paths_of writes) q || (same_path q w.path || false)) ≡ false =
    sym (ap (λ (ps : List PathV). is_one_of ps q) (map-append (λ (v : Write). v.path) writes (w ∷ [])) ∙ any_append (same_path q) (paths_of writes) (w.path ∷ [])) ∙ apart in
    neither (is_one_of (paths_of writes) q) (same_path q w.path) split
  where
    neither : (a b : Bool) → (a || (b || false)) ≡ false → (a ≡ false) × (b ≡ false)
    neither true b e = absurd (true≢false e)
    neither false true e = absurd (true≢false e)
    neither false false e = (refl, refl)

others_more : (writes : List Write) (w : Write) (more : List Sent) (before mid after : Option Contents) (holding : Holding) → Leaves writes more before mid
    → after ≡ option_map (with_holding w.path holding) mid
    → (c d : Contents) → before ≡ Some c → after ≡ Some d → (q : PathV) → is_one_of (paths_of (writes ++ w ∷ [])) q ≡ false → at d q ≡ at c q
others_more writes w more before mid after holding leaves done c d is told q apart = by mid refl
  where
    by : (m : Option Contents) → mid ≡ m → at d q ≡ at c q
    by None none = absurd (true≢false (sym (leaves.tells c is) ∙ ap is_some none))
    by (Some m) some =
        let parts = apart_parts writes w q apart in
        let there : d ≡ with_holding w.path holding m = same_contents d (with_holding w.path holding m) (sym told ∙ done ∙ ap (option_map (with_holding w.path holding)) some) in
        ap (λ (e : Contents). at e q) there ∙ apart_there w.path q holding m parts.1 ∙ leaves.others c m is some q parts.0

told_still : (f : Contents → Contents) (before after : Option Contents) → after ≡ option_map f before → IsSome before → IsSome after
told_still f before after is some = ap is_some is ∙ is_some-option_map f before ∙ some

leaves_dir : (writes : List Write) (path : PathV) (more : List Sent) (before mid after : Option Contents) → Leaves writes more before mid
    → after ≡ option_map (with_dir path) mid → Leaves (writes ++ record { path = path; node = write.Dir } ∷ []) more before after
leaves_dir writes path more before mid after leaves made =
    let w : Write = record { path = path; node = write.Dir } in
    record {
      left = λ c is objects has. made ∙ ap (option_map (with_dir path)) (leaves.left c is objects has) ∙ ap Some (sym (write_run objects writes w c));
      sized = λ objects has. AllByRecursion-push (λ (v : Write). IsSizedNode objects v.node) writes w (leaves.sized objects has) tt;
      tells = λ c is. told_still (with_dir path) mid after made (leaves.tells c is);
      others = others_more writes w more before mid after Dir leaves made;
    }

leaves_file : (source : Source) (writes : List Write) (path : PathV) (file : TreeFile) (more part : List Sent) (before mid after : Option Contents)
    → Leaves writes more before mid → AreGot source file.object.blocks part → file.object.size ≡ length (joined_in part)
    → after ≡ option_map (with_file path (joined_in part)) mid → Leaves (writes ++ record { path = path; node = write.File file } ∷ []) (more ++ part) before after
leaves_file source writes path file more part before mid after leaves got sized written =
    let w : Write = record { path = path; node = write.File file } in
    record {
      left = λ c is objects has.
          let bytes : joined objects file.object.blocks ≡ joined_in part = joined_got source file.object.blocks part objects got (has_later_of objects more part has) in
          written ∙ ap (option_map (with_file path (joined_in part))) (leaves.left c is objects (has_first_of objects more part has))
          ∙ ap (λ (bs : List ℕ). Some (with_file path bs (run (map (write_step objects) writes) c))) (sym bytes)
          ∙ ap Some (sym (write_run objects writes w c));
      sized = λ objects has.
          AllByRecursion-push (λ (v : Write). IsSizedNode objects v.node) writes w (leaves.sized objects (has_first_of objects more part has))
          (sized ∙ ap length (sym (joined_got source file.object.blocks part objects got (has_later_of objects more part has))));
      tells = λ c is. told_still (with_file path (joined_in part)) mid after written (leaves.tells c is);
      others = others_more writes w more before mid after (File (joined_in part)) leaves written;
    }

-- ---- writes, one after another

pub writes_start : (source : Source) (cuts : Cuts) (sends : List Sent) (before after : Option Contents) (owns : List (List ℕ)) → after ≡ before
    → WritesAll source [] cuts sends sends before after owns owns
writes_start source cuts sends before after owns same = record {
  more = [];
  grown = sym (append-nil sends);
  got = tt;
  leaves = leaves_nothing before after same;
  owned = λ objects has. sym (append-nil owns);
}

owns_more : (cuts : Cuts) (objects : Objects) (front : List Write) (w : Write) → owns_of cuts objects (front ++ w ∷ []) ≡ owns_of cuts objects front ++ node_owns cuts objects w.node
owns_more cuts objects front w =
    flat_map-append (λ (v : Write). node_owns cuts objects v.node) front (w ∷ [])
    ∙ ap (λ ids. owns_of cuts objects front ++ ids) (append-nil (node_owns cuts objects w.node))

due_more : (front : List Write) (w : Write) → blocks_due (front ++ w ∷ []) ≡ blocks_due front ++ node_blocks w.node
due_more front w = flat_map-append (λ (v : Write). node_blocks v.node) front (w ∷ []) ∙ ap (λ ids. blocks_due front ++ ids) (append-nil (node_blocks w.node))

module _ (source : Source) (front : List Write) (path : PathV) (cuts : Cuts) (old now new : List Sent) (before mid after : Option Contents) (had noted has : List (List ℕ))
    (all : WritesAll source front cuts old now before mid had noted) where
  one_more : (node : WriteNode) → WritesOne source path node cuts now new mid after noted has
      → WritesAll source (front ++ record { path = path; node = node } ∷ []) cuts old new before after had has
  one_more write.Dir one = record {
    more = all.more;
    grown = one.0 ∙ all.grown;
    got =
        subst (λ (ids : List (List ℕ)). AreGot source ids all.more)
        (sym (due_more front (record { path = path; node = write.Dir }) ∙ append-nil (blocks_due front))) all.got;
    leaves = leaves_dir front path all.more before mid after all.leaves one.1;
    owned = λ objects came.
        one.2 ∙ all.owned objects came
        ∙ ap (λ ids. had ++ ids) (sym (owns_more cuts objects front (record { path = path; node = write.Dir }) ∙ append-nil (owns_of cuts objects front)));
  }
  one_more (write.File file) one = record {
    more = all.more ++ one.more;
    grown = one.grown ∙ ap (λ sends. sends ++ one.more) all.grown ∙ append_assoc old all.more one.more;
    got =
        subst (λ (ids : List (List ℕ)). AreGot source ids (all.more ++ one.more)) (sym (due_more front (record { path = path; node = write.File file })))
        (got_append source (blocks_due front) file.object.blocks all.more one.more all.got one.got);
    leaves = leaves_file source front path file all.more one.more before mid after all.leaves one.got one.sized one.written;
    owned = λ objects came.
        let bytes : joined objects file.object.blocks ≡ joined_in one.more = joined_got source file.object.blocks one.more objects one.got (has_later_of objects all.more one.more came) in
        one.owned ∙ ap (λ ids. ids ++ own_of cuts (joined_in one.more) ∷ []) (all.owned objects (has_first_of objects all.more one.more came))
        ∙ append_assoc had (owns_of cuts objects front) (own_of cuts (joined_in one.more) ∷ [])
        ∙ ap (λ (bs : List ℕ). had ++ (owns_of cuts objects front ++ own_of cuts bs ∷ [])) (sym bytes)
        ∙ ap (λ ids. had ++ ids) (sym (owns_more cuts objects front (record { path = path; node = write.File file })));
  }

pub writes_more : (source : Source) (writes : List Write) (index : ℕ) (w : Write) (cuts : Cuts) (old now new : List Sent) (before mid after : Option Contents)
    (had noted has : List (List ℕ)) → index < length writes → w ≡ get_or writes index w → WritesAll source (take index writes) cuts old now before mid had noted
    → WritesOne source w.path w.node cuts now new mid after noted has → WritesAll source (take (index + 1) writes) cuts old new before after had has
writes_more source writes index w cuts old now new before mid after had noted has below is all one =
    subst (λ (front : List Write). WritesAll source front cuts old new before after had has) (sym (next_path writes index w below is))
    (one_more source (take index writes) w.path cuts old now new before mid after had noted has all w.node one)

pub writes_end : (source : Source) (writes : List Write) (index : ℕ) (cuts : Cuts) (old new : List Sent) (before after : Option Contents) (had has : List (List ℕ))
    → length writes ≤ index → WritesAll source (take index writes) cuts old new before after had has → WritesAll source writes cuts old new before after had has
writes_end source writes index cuts old new before after had has over all =
    subst (λ (front : List Write). WritesAll source front cuts old new before after had has) (take_all index writes over) all

-- ---- a write that stops

look_no_size_in : (source : Source) (cuts : Cuts) (told : Option Contents) (path : PathV) (first : Option Seen) (writes : List Write) (more : List Sent) (f : SyncFault)
    → IsLookFault cuts told path first f → IsWrongIn source writes more f
look_no_size_in source cuts told path first writes more (fault.BadTree why) is = absurd is
look_no_size_in source cuts told path first writes more other is = tt

module _ (source : Source) (front : List Write) (path : PathV) (rest : List Write) (scan : Scan) (cuts : Cuts) (old now new : List Sent)
    (before mid after : Option Contents) (had noted : List (List ℕ)) (f : SyncFault) (all : WritesAll source front cuts old now before mid had noted) where
  due_split : (w : Write) → blocks_due (front ++ w ∷ rest) ≡ (blocks_due front ++ node_blocks w.node) ++ blocks_due rest
  due_split w =
      flat_map-append (λ (v : Write). node_blocks v.node) front (w ∷ rest)
      ∙ sym (append_assoc (blocks_due front) (node_blocks w.node) (blocks_due rest))

  wrong_in : (file : TreeFile) (part : List Sent) (g : SyncFault) → IsWrongSize file part g → Stops source part file.object.blocks g
      → IsWrongIn source (front ++ record { path = path; node = write.File file } ∷ rest) (all.more ++ part) g
  wrong_in file part (fault.BadTree (walk.WrongSize id)) wrong stops = record {
    done = front;
    path = path;
    file = file;
    rest = rest;
    there = refl;
    named = wrong.0;
    earlier = all.more;
    later = part;
    ends = refl;
    before = all.got;
    came = got_front source (fault.BadTree (walk.WrongSize id)) refl part file.object.blocks stops;
    misfit = wrong.1;
  }
  wrong_in file part other wrong stops = tt

  dir_stops : StopsOne source path write.Dir scan cuts now new mid after f
      → StopsWrites source (front ++ record { path = path; node = write.Dir } ∷ rest) scan cuts old new before after f
  dir_stops one = by (is_change f) refl one.3
    where
      w : Write
      w = record { path = path; node = write.Dir }

      stop : Stops source all.more (blocks_due (front ++ w ∷ rest)) f
      stop =
          subst (λ (ids : List (List ℕ)). Stops source all.more ids f) (sym (flat_map-append (λ (v : Write). node_blocks v.node) front (w ∷ rest)))
          (stops_more source f (blocks_due front) (blocks_due (w ∷ rest)) all.more (all_got_stops source f (blocks_due front) all.more all.got (look_quiet cuts mid path None f one.1)))

      stayed : after ≡ mid → StopsWrites source (front ++ w ∷ rest) scan cuts old new before after f
      stayed same = record {
        more = all.more;
        grown = one.0 ∙ all.grown;
        stops = stop;
        wrong = look_no_size_in source cuts mid path None (front ++ w ∷ rest) all.more f one.1;
        done = front;
        rest = w ∷ rest;
        front = refl;
        leaves = record {
          left = λ c is objects has. same ∙ all.leaves.left c is objects has;
          sized = all.leaves.sized;
          tells = λ c is. ap is_some same ∙ all.leaves.tells c is;
          others = λ c d is told q apart. all.leaves.others c d is (sym same ∙ told) q apart;
        };
        changed = stop_write cuts scan w rest mid after f same (look_other cuts mid path None f one.1);
      }

      made_there : after ≡ option_map (with_dir path) mid → is_change f ≡ false → StopsWrites source (front ++ w ∷ rest) scan cuts old new before after f
      made_there made stays = record {
        more = all.more;
        grown = one.0 ∙ all.grown;
        stops = stop;
        wrong = look_no_size_in source cuts mid path None (front ++ w ∷ rest) all.more f one.1;
        done = front ++ w ∷ [];
        rest = rest;
        front = sym (append_assoc front (w ∷ []) rest);
        leaves = leaves_dir front path all.more before mid after all.leaves made;
        changed = stop_unless cuts scan [] rest after f stays;
      }

      by : (b : Bool) → is_change f ≡ b → (after ≡ mid) ⊎ (after ≡ option_map (with_dir path) mid) → StopsWrites source (front ++ w ∷ rest) scan cuts old new before after f
      by true told some = stayed (one.2 told)
      by false stays (inl same) = stayed same
      by false stays (inr made) = made_there made stays

  file_stops : (file : TreeFile) → StopsOne source path (write.File file) scan cuts now new mid after f
      → StopsWrites source (front ++ record { path = path; node = write.File file } ∷ rest) scan cuts old new before after f
  file_stops file one = by (is_change f) refl one.left
    where
      w : Write
      w = record { path = path; node = write.File file }

      stop : Stops source (all.more ++ one.more) (blocks_due (front ++ w ∷ rest)) f
      stop =
          subst (λ (ids : List (List ℕ)). Stops source (all.more ++ one.more) ids f) (sym (due_split w))
          (stops_more source f (blocks_due front ++ file.object.blocks) (blocks_due rest) (all.more ++ one.more)
          (stops_behind source f (blocks_due front) file.object.blocks all.more one.more all.got one.stops))

      grown : new ≡ old ++ (all.more ++ one.more)
      grown = one.grown ∙ ap (λ sends. sends ++ one.more) all.grown ∙ append_assoc old all.more one.more

      stayed : after ≡ mid → StopsWrites source (front ++ w ∷ rest) scan cuts old new before after f
      stayed same = record {
        more = all.more ++ one.more;
        grown = grown;
        stops = stop;
        wrong = wrong_in file one.more f one.wrong one.stops;
        done = front;
        rest = w ∷ rest;
        front = refl;
        leaves = leaves_wider front all.more one.more before mid after same all.leaves;
        changed = stop_write cuts scan w rest mid after f same one.other;
      }

      moved_there : IsMoved source file path one.more mid after → is_change f ≡ false → StopsWrites source (front ++ w ∷ rest) scan cuts old new before after f
      moved_there moved stays = record {
        more = all.more ++ one.more;
        grown = grown;
        stops = stop;
        wrong = wrong_in file one.more f one.wrong one.stops;
        done = front ++ w ∷ [];
        rest = rest;
        front = sym (append_assoc front (w ∷ []) rest);
        leaves = leaves_file source front path file all.more one.more before mid after all.leaves moved.got moved.sized moved.written;
        changed = stop_unless cuts scan [] rest after f stays;
      }

      by : (b : Bool) → is_change f ≡ b → (after ≡ mid) ⊎ IsMoved source file path one.more mid after → StopsWrites source (front ++ w ∷ rest) scan cuts old new before after f
      by true told some = stayed (one.untouched told)
      by false stays (inl same) = stayed same
      by false stays (inr moved) = moved_there moved stays

  one_stops : (node : WriteNode) → StopsOne source path node scan cuts now new mid after f
      → StopsWrites source (front ++ record { path = path; node = node } ∷ rest) scan cuts old new before after f
  one_stops write.Dir one = dir_stops one
  one_stops (write.File file) one = file_stops file one

pub writes_stop : (source : Source) (writes : List Write) (index : ℕ) (w : Write) (scan : Scan) (cuts : Cuts) (old now new : List Sent) (before mid after : Option Contents) (had noted : List (List ℕ))
    (f : SyncFault) → index < length writes → w ≡ get_or writes index w → WritesAll source (take index writes) cuts old now before mid had noted
    → StopsOne source w.path w.node scan cuts now new mid after f → StopsWrites source writes scan cuts old new before after f
writes_stop source writes index w scan cuts old now new before mid after had noted f below is all one =
    subst (λ (ws : List Write). StopsWrites source ws scan cuts old new before after f)
    (ap (λ (rest : List Write). take index writes ++ rest) (sym (next_entry writes index w below is)) ∙ take-append-drop index writes)
    (one_stops source (take index writes) w.path (drop (index + 1) writes) scan cuts old now new before mid after had noted f all w.node one)
