-- The one block of a file is its one chunk, where no chunk ended in it. The key lemma is one_chunk.
use Rattle.std.proofs.Common.{◌≡◌, ◌==◌, ◌≤◌, ◌+◌, ℕ, Bool, true, false, List, [], ◌∷◌, ◌++◌, length, map, take, Option, Ok, refl, sym, ap, ap₂, subst, ◌∙◌, append_assoc, append-nil, arith}
use Rattle.std.proofs.lemmas.Bool.{and_parts, eqb-true}
use Rattle.std.proofs.lemmas.List.{nil_from_length, take_all}
use Rattle.sha1.specs.Sha1.{sha1}
use Rattle.block_chunker.specs.declared.cuts.Cuts.{Cuts}
use Rattle.block_chunker.specs.ChunkBoundaries.{begun_after, ends_in_cut, finished_chunks, last_chunk}
use Rattle.block_chunker.specs.ChunkerProgress.{Progress, finished_by, start_of}
use Rattle.block_chunker.proofs.ChunkListLemmas.{begun_after-on, finished_chunks-end, finished_chunks-on}
use Rattle.folder_side.specs.Folder.{Contents}
use Rattle.local_index.specs.OwnIds.{own_id}
use Rattle.http_front.specs.declared.outcome.Outcome.TheVariants.{Plain}
use Rattle.library_state.specs.declared.reply.Reply.TheVariants as reply
use Rattle.remote_calls.specs.Sends.{Ending, Sent}
use Rattle.tree_checkout.specs.BlockGets.{AreGot, ComesNamed, bytes_in, joined_in}
use Rattle.tree_checkout.specs.Writing.{IsOneChunk}
use Rattle.tree_checkout.specs.declared.block_gets.Source.{Source}
use Rattle.tree_checkout.specs.declared.writing.TreeFile.{TreeFile}
use Rattle.tree_checkout.proofs.WritingLemmas.{Filling}

not_empty : {X : Type 0} {x : X} {xs : List X} → x ∷ xs ≡ [] → ⊥
not_empty e = cc

uncut : (cuts : Cuts) (begun bytes : List ℕ) → finished_chunks cuts begun bytes ≡ [] → begun_after cuts begun bytes ≡ begun ++ bytes
unfolding begun_after
uncut cuts begun [] none = sym (append-nil begun)
uncut cuts begun (b ∷ bytes) none = by (ends_in_cut cuts (begun ++ b ∷ [])) refl (uncut cuts (begun ++ b ∷ []) bytes)
  where
    by : (cut : Bool) → ends_in_cut cuts (begun ++ b ∷ []) ≡ cut
        → (finished_chunks cuts (begun ++ b ∷ []) bytes ≡ [] → begun_after cuts (begun ++ b ∷ []) bytes ≡ (begun ++ b ∷ []) ++ bytes)
        → begun_after cuts begun (b ∷ bytes) ≡ begun ++ b ∷ bytes
    by true cut more = absurd (not_empty (sym (finished_chunks-end cuts begun b bytes cut) ∙ none))
    by false on more =
        begun_after-on cuts begun b bytes on ∙ more (sym (finished_chunks-on cuts begun b bytes on) ∙ none) ∙ append_assoc begun (b ∷ []) bytes

no_names : (xs : List (List ℕ)) → map sha1 xs ≡ [] → xs ≡ []
no_names [] none = refl
no_names (x ∷ xs) none = absurd (not_empty none)

single : {X : Type 0} (xs : List X) → length xs ≡ 1 → (x : X) × (xs ≡ x ∷ [])
single [] is = let never : ⊥ = omega (arith, is) in absurd never
single (x ∷ []) is = (x, refl)
single (x ∷ y ∷ ys) is = let never : ⊥ = omega (arith, is) in absurd never

came : (id : List ℕ) (ending : Ending) → ComesNamed id ending → sha1 (bytes_in ending) ≡ id
came id (Ok (Plain (reply.Got bytes) tag)) is = is
came id _ is = absurd is

named_one : (source : Source) (id : List ℕ) (more : List Sent) → AreGot source (id ∷ []) more → sha1 (joined_in more) ≡ id
named_one source id [] got = absurd got
named_one source id (sent ∷ []) (got, done) = ap sha1 (append-nil (bytes_in sent.1)) ∙ came id sent.1 got.comes
named_one source id (sent ∷ next ∷ more) (got, never) = absurd never

one_own : (bytes id : List ℕ) (size : ℕ) → sha1 bytes ≡ id → size ≡ length bytes → own_id (id ∷ []) size ≡ own_id (map sha1 (last_chunk bytes)) size
one_own [] id size named sized = ap (own_id (id ∷ [])) sized ∙ sym (ap (own_id []) sized)
one_own (b ∷ bytes) id size named sized = ap (λ (x : List ℕ). own_id (x ∷ []) size) (sym named)

pub one_chunk : (source : Source) (file : TreeFile) (cuts : Cuts) (index left : ℕ) (old new : List Sent) (told : Option Contents) (holds : Option (List ℕ)) (chunker : Progress)
    (names handed : List (List ℕ)) → handed ≡ file.object.blocks → length file.object.blocks ≤ index → left ≡ 0
    → Filling source file cuts (take index file.object.blocks) left old new told holds chunker names → IsOneChunk names handed file.object.size chunker.begun
one_chunk source file cuts index left old new told holds chunker names handed same over none filling = λ both.
    let parts = and_parts (length names == 0) (length handed == 1) both in
    let one = single handed (eqb-true (length handed) 1 parts.1) in
    let got : AreGot source (one.0 ∷ []) filling.more
    = subst (λ (front : List (List ℕ)). AreGot source front filling.more) (take_all index file.object.blocks over ∙ sym same ∙ one.1) filling.got in
    let empty : names ≡ [] = nil_from_length names (eqb-true (length names) 0 parts.0) in
    let begun : chunker.begun ≡ joined_in filling.more
    = ap (λ (p : Progress). p.begun) filling.fed ∙ uncut cuts [] (joined_in filling.more) (no_names (finished_by (start_of cuts) (joined_in filling.more)) (sym filling.named ∙ empty)) in
    let counted : file.object.size ≡ left + length (joined_in filling.more) = filling.counted in
    let sized : file.object.size ≡ length (joined_in filling.more) = omega (arith, counted, none) in
    ap (λ (bs : List (List ℕ)). own_id bs file.object.size) one.1
    ∙ one_own (joined_in filling.more) one.0 file.object.size (named_one source one.0 filling.more got) sized
    ∙ sym (ap₂ (λ (ns : List (List ℕ)) (bytes : List ℕ). own_id (ns ++ map sha1 (last_chunk bytes)) file.object.size) empty begun)
