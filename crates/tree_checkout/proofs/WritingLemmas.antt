-- A file on its way into the spare and to its path. The key lemmas are filling_start, filling_more, filling_end, filling_stop,
-- filling_short, filling_wanting, adds_one, too_long, not_added, not_cut, got_no_block, written_at, written_or_not, stops_unfilled, stops_looked
-- and stops_moved.
use Rattle.std.proofs.Common.{◌≡◌, ◌≢◌, ◌⊎◌, ℕ, ◌+◌, ◌<◌, ◌≤◌, true, false, List, [], ◌∷◌, ◌++◌, length, map, take, drop, get_or, Option, None, Some, option_map, Result, Err, refl, sym, ap, ap₂, subst, ◌∙◌, inl, inr, append_assoc, append-nil, length-append, true≢false, arith}
use Rattle.std.proofs.lemmas.List.{map-append, take-append-drop, take_all, take_more}
use Rattle.sha1.specs.Sha1.{sha1}
use Rattle.tree_model.specs.Path.{PathV}
use Rattle.block_chunker.specs.declared.cuts.Cuts.{Cuts}
use Rattle.block_chunker.specs.ChunkBoundaries.{begun_after, chunks_of, finished_chunks, last_chunk}
use Rattle.block_chunker.specs.ChunkerProgress.{Progress, after_piece, finished_by, start_of}
use Rattle.block_chunker.proofs.ChunkListLemmas.{begun_after-append, finished_chunks-append}
use Rattle.folder_side.specs.Folder.{Contents, with_file, FolderFails}
use Rattle.folder_side.specs.declared.error.FolderFault.{FolderFault}
use Rattle.folder_side.specs.declared.error.FolderFault.TheVariants as folder
use Rattle.folder_side.specs.declared.scan_report.Seen.{Seen}
use Rattle.ids.specs.FaultCount.{FailsBy}
use Rattle.local_index.specs.OwnIds.{own_id}
use Rattle.remote_calls.specs.Sends.{Sent}
use Rattle.sync_rules.specs.Offer.{own_of}
use Rattle.sync_rules.specs.Causes.{is_folder_fault}
use Rattle.sync_rules.specs.declared.fault.SyncFault.{SyncFault}
use Rattle.sync_rules.specs.declared.fault.SyncFault.TheVariants as fault
use Rattle.tree_walk.specs.declared.fault.WalkFault.TheVariants as walk
use Rattle.tree_checkout.specs.BlockGets.{AreGot, GetsOne, GetsSo, IsToldBy, Stops, bytes_in, folder_fault, is_quiet, joined_in}
use Rattle.tree_checkout.specs.SecondLook.{IsLookFault}
use Rattle.tree_checkout.specs.Writing.{AddsOne, FailsToAdd, Fills, IsMoved, IsOther, IsTooLong, IsWrongSize, StopsFilling, StopsWriting, is_change}
use Rattle.tree_checkout.specs.declared.block_gets.Source.{Source}
use Rattle.tree_checkout.specs.declared.writing.TreeFile.{TreeFile}
use Rattle.tree_checkout.proofs.GotLemmas.{all_got_stops, got_append, got_length, joined_append, stops_behind, stops_more}

-- ---- faults of the folder

pub folder_counts : (T U : Type 0) (before now : ℕ) (e : FolderFault) (f : SyncFault) → f ≡ folder_fault e → FolderFails {T = T} before now (Err e)
    → FailsBy {T = U} is_folder_fault before now (Err f)
folder_counts T U before now folder.Folder f is fails = subst (λ (g : SyncFault). FailsBy {T = U} is_folder_fault before now (Err g)) (sym is) fails
folder_counts T U before now folder.NoMemory f is fails = subst (λ (g : SyncFault). FailsBy {T = U} is_folder_fault before now (Err g)) (sym is) fails

-- a fault that isn't the folder's leaves its count
pub other_counts : (U : Type 0) (before now : ℕ) (f : SyncFault) → is_folder_fault f ≡ false → now ≡ before → FailsBy {T = U} is_folder_fault before now (Err f)
other_counts U before now fault.Folder other same = cc
other_counts U before now f other same = same

-- the count as it was at an earlier time
pub counts_from : (T : Type 0) (first before now : ℕ) (r : Result T SyncFault) → before ≡ first → FailsBy is_folder_fault before now r → FailsBy is_folder_fault first now r
counts_from T first before now r same fails = subst (λ (n : ℕ). FailsBy is_folder_fault n now r) same fails

pub folder_quiet : (e : FolderFault) → is_quiet (folder_fault e) ≡ true
folder_quiet folder.Folder = refl
folder_quiet folder.NoMemory = refl

pub folder_no_change : (e : FolderFault) → is_change (folder_fault e) ≡ false
folder_no_change folder.Folder = refl
folder_no_change folder.NoMemory = refl

pub folder_untouched : (e : FolderFault) (f : SyncFault) (before after : Option Contents) → f ≡ folder_fault e → is_change f ≡ true → after ≡ before
folder_untouched e f before after is changed = absurd (true≢false (sym changed ∙ ap is_change is ∙ folder_no_change e))

-- ---- a block

single_bytes : (sent : Sent) (bytes : List ℕ) → bytes ≡ bytes_in sent.1 → joined_in (sent ∷ []) ≡ bytes
single_bytes sent bytes is = append-nil (bytes_in sent.1) ∙ sym is

module _ (source : Source) (file block : List ℕ) (left : ℕ) (old new : List Sent) where
  told_not_long : (sent : Sent) (f : SyncFault) → IsToldBy source block sent f → IsTooLong file left (sent ∷ []) f
  told_not_long sent (fault.BadTree why) told = absurd told
  told_not_long sent other told = tt

  told_no_change : (sent : Sent) (f : SyncFault) → IsToldBy source block sent f → is_change f ≡ false
  told_no_change sent (fault.Changed path) told = absurd told
  told_no_change sent other told = refl

  pub got_no_block : (f : SyncFault) → GetsSo source block old new (Err f) → FailsToAdd source file block left old new f
  got_no_block f (inl none) =
      subst (λ (g : SyncFault). FailsToAdd source file block left old new g) (sym none.0)
      (record { more = []; grown = none.1 ∙ sym (append-nil old); stops = refl; wrong = tt; no_change = refl })
  got_no_block f (inr one) = record {
    more = one.0 ∷ [];
    grown = one.1;
    stops = inr (one.2, refl);
    wrong = told_not_long one.0 f one.2;
    no_change = told_no_change one.0 f one.2;
  }

  pub too_long : (bytes : List ℕ) (size : ℕ) → GetsOne source block bytes old new → size ≡ length bytes → left < size → (f : SyncFault)
      → f ≡ fault.BadTree (walk.WrongSize file) → FailsToAdd source file block left old new f
  too_long bytes size one sized over f is =
      subst (λ (g : SyncFault). FailsToAdd source file block left old new g) (sym is)
      (record {
        more = one.sent ∷ [];
        grown = one.grown;
        stops = inl (one.got, refl);
        wrong = (refl, subst (λ (n : ℕ). left < n) (sized ∙ ap length (sym (single_bytes one.sent bytes one.gives))) over);
        no_change = refl;
      })

  not_long : (more : List Sent) (e : FolderFault) → IsTooLong file left more (folder_fault e)
  not_long more folder.Folder = tt
  not_long more folder.NoMemory = tt

  pub not_added : (bytes : List ℕ) → GetsOne source block bytes old new → (e : FolderFault) (f : SyncFault) → f ≡ folder_fault e
      → FailsToAdd source file block left old new f
  not_added bytes one e f is =
      subst (λ (g : SyncFault). FailsToAdd source file block left old new g) (sym is)
      (record {
        more = one.sent ∷ [];
        grown = one.grown;
        stops = inl (one.got, folder_quiet e);
        wrong = not_long (one.sent ∷ []) e;
        no_change = folder_no_change e;
      })

  -- it was added, and there was no memory to cut it
  pub not_cut : (bytes : List ℕ) → GetsOne source block bytes old new → FailsToAdd source file block left old new fault.NoMemory
  not_cut bytes one = record {
    more = one.sent ∷ [];
    grown = one.grown;
    stops = inl (one.got, refl);
    wrong = tt;
    no_change = refl;
  }

pub adds_one : (source : Source) (block : List ℕ) (left size rest : ℕ) (old new : List Sent) (held holds : Option (List ℕ)) (before after : Progress) (names all : List (List ℕ))
    (bytes added fed : List ℕ) → GetsOne source block bytes old new → size ≡ length bytes → rest + size ≡ left → added ≡ bytes → fed ≡ bytes
    → holds ≡ option_map (λ first. first ++ added) held → after ≡ after_piece before fed → all ≡ names ++ map sha1 (finished_by before fed)
    → AddsOne source block left old new held holds before after names all rest
adds_one source block left size rest old new held holds before after names all bytes added fed one sized split same taken is cut named = record {
  sent = one.sent;
  grown = one.grown;
  got = one.got;
  counted = sym split ∙ ap (λ n. rest + n) (sized ∙ ap length one.gives);
  added = is ∙ ap (λ (bs : List ℕ). option_map (λ first. first ++ bs) held) (same ∙ one.gives);
  fed = cut ∙ ap (after_piece before) (taken ∙ one.gives);
  named = named ∙ ap (λ (bs : List ℕ). names ++ map sha1 (finished_by before bs)) (taken ∙ one.gives);
}

-- ---- chunks of bytes that come in pieces

module _ (cuts : Cuts) (bytes piece : List ℕ) where
  begins_more : (before after : Progress) → before ≡ after_piece (start_of cuts) bytes → after ≡ after_piece before piece → after ≡ after_piece (start_of cuts) (bytes ++ piece)
  begins_more before after begun cut =
      let start : Progress = start_of cuts in
      cut ∙ ap (λ p. after_piece p piece) begun ∙ ap (λ b. record start { begun = b }) (sym (begun_after-append cuts [] bytes piece))

  names_more : (before : Progress) (names all : List (List ℕ)) → before ≡ after_piece (start_of cuts) bytes → names ≡ map sha1 (finished_by (start_of cuts) bytes)
      → all ≡ names ++ map sha1 (finished_by before piece) → all ≡ map sha1 (finished_by (start_of cuts) (bytes ++ piece))
  names_more before names all begun named more =
      more
      ∙ ap₂ (λ (ns : List (List ℕ)) (p : Progress). ns ++ map sha1 (finished_by p piece)) named begun
      ∙ sym (map-append sha1 (finished_by (start_of cuts) bytes) (finished_chunks cuts (begun_after cuts [] bytes) piece))
      ∙ ap (map sha1) (sym (finished_chunks-append cuts [] bytes piece))

-- all their names
names_whole : (cuts : Cuts) (bytes : List ℕ) (chunker : Progress) (names : List (List ℕ)) → chunker ≡ after_piece (start_of cuts) bytes
    → names ≡ map sha1 (finished_by (start_of cuts) bytes) → names ++ map sha1 (last_chunk chunker.begun) ≡ map sha1 (chunks_of cuts bytes)
unfolding chunks_of
names_whole cuts bytes chunker names begun named =
    ap₂ (λ (ns : List (List ℕ)) (p : Progress). ns ++ map sha1 (last_chunk p.begun)) named begun
    ∙ sym (map-append sha1 (finished_by (start_of cuts) bytes) (last_chunk (begun_after cuts [] bytes)))

-- ---- the blocks of a file, one after another

-- where the filling of the spare stands: the first blocks were got, and this many bytes are due; and how far the chunker is
pub record Filling (source : Source) (file : TreeFile) (cuts : Cuts) (front : List (List ℕ)) (left : ℕ) (old new : List Sent) (told : Option Contents) (holds : Option (List ℕ))
    (chunker : Progress) (names : List (List ℕ)) : Type 0 where
  pub more : List Sent
  pub grown : new ≡ old ++ more
  pub got : AreGot source front more
  pub counted : file.object.size ≡ left + length (joined_in more)
  pub filled : (c : Contents) → told ≡ Some c → holds ≡ Some (joined_in more)
  pub fed : chunker ≡ after_piece (start_of cuts) (joined_in more)
  pub named : names ≡ map sha1 (finished_by (start_of cuts) (joined_in more))

pub filling_start : (source : Source) (file : TreeFile) (cuts : Cuts) (sends : List Sent) (told : Option Contents) (holds : Option (List ℕ)) (chunker : Progress)
    (names : List (List ℕ)) → chunker ≡ start_of cuts → names ≡ [] → ((c : Contents) → told ≡ Some c → holds ≡ Some [])
    → Filling source file cuts [] file.object.size sends sends told holds chunker names
unfolding begun_after finished_chunks
filling_start source file cuts sends told holds chunker names begun none cleared = record {
  more = [];
  grown = sym (append-nil sends);
  got = tt;
  counted = omega arith;
  filled = cleared;
  fed = begun;
  named = none;
}

added_to : (held holds : Option (List ℕ)) (before bytes : List ℕ) → holds ≡ option_map (λ first. first ++ bytes) held → held ≡ Some before → holds ≡ Some (before ++ bytes)
added_to held holds before bytes is had = is ∙ ap (option_map (λ first. first ++ bytes)) had

pub filling_more : (source : Source) (file : TreeFile) (cuts : Cuts) (blocks : List (List ℕ)) (index : ℕ) (block : List ℕ) (left rest : ℕ) (old now new : List Sent)
    (told : Option Contents) (held holds : Option (List ℕ)) (before after : Progress) (names all : List (List ℕ)) → index < length blocks → block ≡ get_or blocks index block
    → Filling source file cuts (take index blocks) left old now told held before names → AddsOne source block left now new held holds before after names all rest
    → Filling source file cuts (take (index + 1) blocks) rest old new told holds after all
filling_more source file cuts blocks index block left rest old now new told held holds before after names all below at_index filling one =
    let joined = joined_append filling.more (one.sent ∷ []) ∙ ap (λ bytes. joined_in filling.more ++ bytes) (append-nil (bytes_in one.sent.1)) in
    record {
      more = filling.more ++ one.sent ∷ [];
      grown = one.grown ∙ ap (λ sends. sends ++ one.sent ∷ []) filling.grown ∙ append_assoc old filling.more (one.sent ∷ []);
      got =
          subst (λ (front : List (List ℕ)). AreGot source front (filling.more ++ one.sent ∷ []))
          (sym (take_more blocks index block below ∙ ap (λ b. take index blocks ++ b ∷ []) (sym at_index)))
          (got_append source (take index blocks) (block ∷ []) filling.more (one.sent ∷ []) filling.got (one.got, tt));
      counted =
          summed file.object.size left rest (length (joined_in filling.more)) (length (bytes_in one.sent.1)) filling.counted one.counted
          ∙ ap (λ n. rest + n) (sym (ap length joined ∙ length-append (joined_in filling.more) (bytes_in one.sent.1)));
      filled = λ c is. added_to held holds (joined_in filling.more) (bytes_in one.sent.1) one.added (filling.filled c is) ∙ ap Some (sym joined);
      fed =
          begins_more cuts (joined_in filling.more) (bytes_in one.sent.1) before after filling.fed one.fed
          ∙ ap (after_piece (start_of cuts)) (sym joined);
      named =
          names_more cuts (joined_in filling.more) (bytes_in one.sent.1) before names all filling.fed filling.named one.named
          ∙ ap (λ bytes. map sha1 (finished_by (start_of cuts) bytes)) (sym joined);
    }
  where
    summed : (size left rest n m : ℕ) → size ≡ left + n → left ≡ rest + m → size ≡ rest + (n + m)
    summed size left rest n m e f = omega arith

pub filling_end : (source : Source) (file : TreeFile) (cuts : Cuts) (index left : ℕ) (old new : List Sent) (told : Option Contents) (holds : Option (List ℕ)) (chunker : Progress)
    (names had has : List (List ℕ)) → length file.object.blocks ≤ index → left ≡ 0 → Filling source file cuts (take index file.object.blocks) left old new told holds chunker names
    → has ≡ had ++ own_id (names ++ map sha1 (last_chunk chunker.begun)) file.object.size ∷ [] → Fills source file cuts old new told holds had has
filling_end source file cuts index left old new told holds chunker names had has over none filling noted = record {
  more = filling.more;
  grown = filling.grown;
  got = subst (λ (front : List (List ℕ)). AreGot source front filling.more) (take_all index file.object.blocks over) filling.got;
  sized = none_left file.object.size left (length (joined_in filling.more)) filling.counted none;
  filled = filling.filled;
  owned =
      noted
      ∙ ap₂ (λ (blocks : List (List ℕ)) (size : ℕ). had ++ own_id blocks size ∷ [])
      (names_whole cuts (joined_in filling.more) chunker names filling.fed filling.named)
      (none_left file.object.size left (length (joined_in filling.more)) filling.counted none);
}
  where
    none_left : (size left n : ℕ) → size ≡ left + n → left ≡ 0 → size ≡ n
    none_left size left n e none = omega arith

-- bytes are due, and no block is left
pub filling_short : (source : Source) (file : TreeFile) (cuts : Cuts) (index left : ℕ) (old new : List Sent) (told : Option Contents) (holds : Option (List ℕ)) (chunker : Progress)
    (names : List (List ℕ)) → length file.object.blocks ≤ index → left ≢ 0 → Filling source file cuts (take index file.object.blocks) left old new told holds chunker names
    → (f : SyncFault) → f ≡ fault.BadTree (walk.WrongSize file.id) → StopsFilling source file old new f
filling_short source file cuts index left old new told holds chunker names over some filling f is =
    let got = subst (λ (front : List (List ℕ)). AreGot source front filling.more) (take_all index file.object.blocks over) filling.got in
    subst (λ (g : SyncFault). StopsFilling source file old new g) (sym is)
    (record {
      more = filling.more;
      grown = filling.grown;
      stops = all_got_stops source (fault.BadTree (walk.WrongSize file.id)) file.object.blocks filling.more got refl;
      wrong = (refl, inr (got_length source file.object.blocks filling.more got, fewer file.object.size left (length (joined_in filling.more)) filling.counted some));
      no_change = refl;
    })
  where
    fewer : (size left n : ℕ) → size ≡ left + n → left ≢ 0 → n < size
    fewer size left n e some = omega arith

-- all were got, and there was no memory for their own id
pub filling_wanting : (source : Source) (file : TreeFile) (cuts : Cuts) (index left : ℕ) (old new : List Sent) (told : Option Contents) (holds : Option (List ℕ)) (chunker : Progress)
    (names : List (List ℕ)) → length file.object.blocks ≤ index → Filling source file cuts (take index file.object.blocks) left old new told holds chunker names
    → StopsFilling source file old new fault.NoMemory
filling_wanting source file cuts index left old new told holds chunker names over filling = record {
  more = filling.more;
  grown = filling.grown;
  stops =
      all_got_stops source fault.NoMemory file.object.blocks filling.more
      (subst (λ (front : List (List ℕ)). AreGot source front filling.more) (take_all index file.object.blocks over) filling.got) refl;
  wrong = tt;
  no_change = refl;
}

-- a block was not added
module _ (source : Source) (file : TreeFile) (cuts : Cuts) (index : ℕ) (block : List ℕ) (left : ℕ) (old now new : List Sent) (told : Option Contents) (held : Option (List ℕ))
    (chunker : Progress) (names : List (List ℕ)) where
  wrong_size : (filling : Filling source file cuts (take index file.object.blocks) left old now told held chunker names) (f : SyncFault) (more : List Sent) → IsTooLong file.id left more f
      → IsWrongSize file (filling.more ++ more) f
  wrong_size filling (fault.BadTree (walk.WrongSize id)) more long =
      let joined = ap length (joined_append filling.more more) ∙ length-append (joined_in filling.more) (joined_in more) in
      (long.0, inl (over file.object.size left (length (joined_in filling.more)) (length (joined_in more)) (length (joined_in (filling.more ++ more))) filling.counted long.1 joined))
    where
      over : (size left n m all : ℕ) → size ≡ left + n → left < m → all ≡ n + m → size < all
      over size left n m all e less f = omega arith
  wrong_size filling other more long = tt

  pub filling_stop : index < length file.object.blocks → block ≡ get_or file.object.blocks index block
      → Filling source file cuts (take index file.object.blocks) left old now told held chunker names → (f : SyncFault) → FailsToAdd source file.id block left now new f
      → StopsFilling source file old new f
  filling_stop below at_index filling f fails =
      let blocks = file.object.blocks in
      let front : take (index + 1) blocks ≡ take index blocks ++ block ∷ [] = take_more blocks index block below ∙ ap (λ b. take index blocks ++ b ∷ []) (sym at_index) in
      record {
        more = filling.more ++ fails.more;
        grown = fails.grown ∙ ap (λ sends. sends ++ fails.more) filling.grown ∙ append_assoc old filling.more fails.more;
        stops =
            subst (λ (ids : List (List ℕ)). Stops source (filling.more ++ fails.more) ids f) (take-append-drop (index + 1) blocks)
            (stops_more source f (take (index + 1) blocks) (drop (index + 1) blocks) (filling.more ++ fails.more)
            (subst (λ (ids : List (List ℕ)). Stops source (filling.more ++ fails.more) ids f) (sym front)
            (stops_behind source f (take index blocks) (block ∷ []) filling.more fails.more filling.got fails.stops)));
        wrong = wrong_size filling f fails.more fails.wrong;
        no_change = fails.no_change;
      }

-- ---- at its path

-- after the move
pub written_at : (path : PathV) (joined : List ℕ) (before mid after : Option Contents) (held : Option (List ℕ)) → mid ≡ before
    → ((c : Contents) → before ≡ Some c → held ≡ Some joined)
    → ((bytes : List ℕ) → held ≡ Some bytes → after ≡ option_map (with_file path bytes) mid) → (held ≡ None → after ≡ mid)
    → after ≡ option_map (with_file path joined) before
written_at path joined (Some c) mid after held same filled moved kept = moved joined (filled c refl) ∙ ap (option_map (with_file path joined)) same
written_at path joined None mid after None same filled moved kept = kept refl ∙ same
written_at path joined None mid after (Some bytes) same filled moved kept = moved bytes refl ∙ ap (option_map (with_file path bytes)) same

-- after a move that failed
pub written_or_not : (path : PathV) (joined : List ℕ) (before mid after : Option Contents) (held : Option (List ℕ)) → mid ≡ before
    → ((c : Contents) → before ≡ Some c → held ≡ Some joined)
    → ((bytes : List ℕ) → held ≡ Some bytes → (after ≡ mid) ⊎ (after ≡ option_map (with_file path bytes) mid)) → (held ≡ None → after ≡ mid)
    → (after ≡ before) ⊎ (after ≡ option_map (with_file path joined) before)
written_or_not path joined (Some c) mid after held same filled moved kept = by (moved joined (filled c refl))
  where
    by : (after ≡ mid) ⊎ (after ≡ option_map (with_file path joined) mid) → (after ≡ Some c) ⊎ (after ≡ option_map (with_file path joined) (Some c))
    by (inl is) = inl (is ∙ same)
    by (inr is) = inr (is ∙ ap (option_map (with_file path joined)) same)
written_or_not path joined None mid after None same filled moved kept = inl (kept refl ∙ same)
written_or_not path joined None mid after (Some bytes) same filled moved kept = by (moved bytes refl)
  where
    by : (after ≡ mid) ⊎ (after ≡ option_map (with_file path bytes) mid) → (after ≡ None) ⊎ (after ≡ option_map (with_file path joined) None)
    by (inl is) = inl (is ∙ same)
    by (inr is) = inl (is ∙ ap (option_map (with_file path bytes)) same)

other_of : (cuts : Cuts) (told : Option Contents) (path : PathV) (first : Option Seen) (f : SyncFault) → is_change f ≡ false → IsOther cuts told path first f
other_of cuts told path first (fault.Changed changed) no_change = cc
other_of cuts told path first other no_change = tt

pub look_quiet : (cuts : Cuts) (told : Option Contents) (path : PathV) (first : Option Seen) (f : SyncFault) → IsLookFault cuts told path first f → is_quiet f ≡ true
look_quiet cuts told path first fault.Folder is = refl
look_quiet cuts told path first fault.NoMemory is = refl
look_quiet cuts told path first (fault.Changed changed) is = refl
look_quiet cuts told path first other is = absurd is

pub look_other : (cuts : Cuts) (told : Option Contents) (path : PathV) (first : Option Seen) (f : SyncFault) → IsLookFault cuts told path first f → IsOther cuts told path first f
look_other cuts told path first (fault.Changed changed) is = is
look_other cuts told path first other is = tt

look_no_size : (cuts : Cuts) (told : Option Contents) (path : PathV) (first : Option Seen) (file : TreeFile) (more : List Sent) (f : SyncFault)
    → IsLookFault cuts told path first f → IsWrongSize file more f
look_no_size cuts told path first file more (fault.BadTree why) is = absurd is
look_no_size cuts told path first file more other is = tt

folder_no_size : (file : TreeFile) (more : List Sent) (e : FolderFault) → IsWrongSize file more (folder_fault e)
folder_no_size file more folder.Folder = tt
folder_no_size file more folder.NoMemory = tt

module _ (source : Source) (file : TreeFile) (path : PathV) (cuts : Cuts) (first : Option Seen) (old new : List Sent) (before after : Option Contents) where
  pub stops_unfilled : (f : SyncFault) → after ≡ before → StopsFilling source file old new f
      → StopsWriting source file path cuts first old new before after f
  stops_unfilled f same stops = record {
    more = stops.more;
    grown = stops.grown;
    stops = stops.stops;
    wrong = stops.wrong;
    other = other_of cuts before path first f stops.no_change;
    untouched = λ told. same;
    left = inl same;
  }

  pub stops_looked : (f : SyncFault) (held : Option (List ℕ)) (told : Option Contents) (had has : List (List ℕ)) → after ≡ before → told ≡ before
      → Fills source file cuts old new before held had has
      → IsLookFault cuts told path first f → StopsWriting source file path cuts first old new before after f
  stops_looked f held told had has same same_told fills is =
      let looked = subst (λ (t : Option Contents). IsLookFault cuts t path first f) same_told is in
      record {
        more = fills.more;
        grown = fills.grown;
        stops = all_got_stops source f file.object.blocks fills.more fills.got (look_quiet cuts before path first f looked);
        wrong = look_no_size cuts before path first file fills.more f looked;
        other = look_other cuts before path first f looked;
        untouched = λ changed. same;
        left = inl same;
      }

  pub stops_moved : (e : FolderFault) (f : SyncFault) (held : Option (List ℕ)) (had has : List (List ℕ)) → f ≡ folder_fault e
      → (fills : Fills source file cuts old new before held had has)
      → (after ≡ before) ⊎ (after ≡ option_map (with_file path (joined_in fills.more)) before) → StopsWriting source file path cuts first old new before after f
  stops_moved e f held had has is fills left =
      subst (λ (g : SyncFault). StopsWriting source file path cuts first old new before after g) (sym is)
      (record {
        more = fills.more;
        grown = fills.grown;
        stops = all_got_stops source (folder_fault e) file.object.blocks fills.more fills.got (folder_quiet e);
        wrong = folder_no_size file fills.more e;
        other = other_of cuts before path first (folder_fault e) (folder_no_change e);
        untouched = λ changed. absurd (true≢false (sym changed ∙ folder_no_change e));
        left = by left;
      })
    where
      by : (after ≡ before) ⊎ (after ≡ option_map (with_file path (joined_in fills.more)) before) → (after ≡ before) ⊎ IsMoved source file path fills.more before after
      by (inl same) = inl same
      by (inr moved) = inr (record { got = fills.got; sized = fills.sized; written = moved })
