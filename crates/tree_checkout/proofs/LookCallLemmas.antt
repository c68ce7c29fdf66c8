-- What the calls of a look tell. The key lemmas are reads_if, compares_if, dir_if, file_if, none_if and looks_so.
use Rattle.std.proofs.Common.{◌≡◌, ℕ, true≢false, Bool, true, false, List, [], ◌∷◌, ◌++◌, Option, None, Some, Result, Ok, Err, refl, sym, subst, ◌∙◌, ap}
use Rattle.std.specs.Prelude.{◌↔◌, IsTrue}
use Rattle.std.specs.Option.{is_none}
use Rattle.block_chunker.specs.declared.cuts.Cuts.{Cuts}
use Rattle.tree_model.specs.Path.{PathV}
use Rattle.folder_side.specs.Calls.{Call, Compared, Glances, Looked, Opened, ReadsWhole, done_as, with_calls}
use Rattle.folder_side.specs.FileRead.{ReadsFile}
use Rattle.folder_side.specs.declared.error.FolderFault.{FolderFault}
use Rattle.folder_side.specs.declared.file_reader.FileRead.{FileRead}
use Rattle.folder_side.specs.declared.folder.ItemKind.{ItemKind}
use Rattle.folder_side.specs.declared.folder.ItemKind.TheVariants as kind
use Rattle.folder_side.specs.declared.scan_report.Seen.{Seen}
use Rattle.folder_side.specs.declared.scan_report.Seen.TheVariants as seen
use Rattle.folder_side.proofs.CallLemmas.{glances_none, glances_one, glances_then, grown_more, reads_glances, whole_glances}
use Rattle.tree_checkout.specs.SecondLook.{is_dir_kind, is_file_kind}
use Rattle.tree_checkout.specs.Touches.{ComparesIf, Finds, LooksIf, ReadsIf, ReadsThere}

-- ---- a file

pub reads_if : (cuts : Cuts) (path : PathV) (blocks : List (List ℕ)) (size : ℕ) (read : FileRead) (told : Bool) (old new : Option (List Call))
    → IsTrue told ↔ (read ≡ record { blocks = blocks; size = size }) → (bytes : List ℕ) × ReadsWhole path bytes old new × ReadsFile cuts bytes read
    → ReadsIf {E = FolderFault} cuts path blocks size old new (Ok told)
reads_if cuts path blocks size read true old new same reads = record {
  reads = reads.1.reads;
  bytes = reads.0;
  grown = reads.1.grown;
  whole = reads.1.whole;
  same = subst (λ (file : FileRead). ReadsFile cuts reads.0 file) (same.0 refl) reads.2;
}
reads_if cuts path blocks size read false old new same reads = whole_glances path reads.0 old new reads.1

there_glances : (cuts : Cuts) (path : PathV) (blocks : List (List ℕ)) (size : ℕ) (old new : Option (List Call)) → ReadsThere cuts path blocks size old new → Glances old new
there_glances cuts path blocks size old new there =
    record { more = Opened path true ∷ there.reads; grown = there.grown; glances = (refl, reads_glances path 0 there.reads there.bytes there.whole) }

pub compares_if : (cuts : Cuts) (path : PathV) (blocks : List (List ℕ)) (size : ℕ) (old mid new : Option (List Call)) (result : Result Bool FolderFault)
    → ReadsThere cuts path blocks size old mid → new ≡ with_calls mid (done_as (Compared path) result) → ComparesIf cuts path blocks size old new result
compares_if cuts path blocks size old mid new (Ok true) there noted = record {
  calls = Opened path true ∷ (there.reads ++ Compared path true ∷ []);
  grown = grown_more old mid new (Opened path true ∷ there.reads) (Compared path true ∷ []) there.grown noted;
  same = record { reads = there.reads; bytes = there.bytes; made = refl; whole = there.whole; same = there.same };
}
compares_if cuts path blocks size old mid new (Ok false) there noted =
    glances_then old mid new (there_glances cuts path blocks size old mid there) (glances_one (Compared path false) mid new refl noted)
compares_if cuts path blocks size old mid new (Err f) there noted =
    glances_then old mid new (there_glances cuts path blocks size old mid there) (glances_none mid new noted)

-- ---- beside what was seen

pub dir_if : (cuts : Cuts) (path : PathV) (k : Option ItemKind) (told : Bool) (old new : Option (List Call)) → told ≡ is_dir_kind k
    → new ≡ with_calls old (Looked path k ∷ []) → LooksIf {E = FolderFault} cuts (Some seen.Dir) path old new (Ok told)
dir_if cuts path None true old new is looked = absurd (true≢false is)
dir_if cuts path (Some kind.Dir) true old new is looked = record { look = Looked path (Some kind.Dir) ∷ []; grown = looked; found = refl }
dir_if cuts path (Some kind.File) true old new is looked = absurd (true≢false is)
dir_if cuts path (Some kind.Other) true old new is looked = absurd (true≢false is)
dir_if cuts path k false old new is looked = glances_one (Looked path k) old new refl looked

pub none_if : (cuts : Cuts) (path : PathV) (k : Option ItemKind) (told : Bool) (old new : Option (List Call)) → told ≡ is_none k
    → new ≡ with_calls old (Looked path k ∷ []) → LooksIf {E = FolderFault} cuts None path old new (Ok told)
none_if cuts path None true old new is looked = record { look = Looked path None ∷ []; grown = looked; found = refl }
none_if cuts path (Some k) true old new is looked = absurd (true≢false is)
none_if cuts path k false old new is looked = glances_one (Looked path k) old new refl looked

file_kind : (k : Option ItemKind) → is_file_kind k ≡ true → k ≡ Some kind.File
file_kind None is = absurd (true≢false (sym is))
file_kind (Some kind.Dir) is = absurd (true≢false (sym is))
file_kind (Some kind.File) is = refl
file_kind (Some kind.Other) is = absurd (true≢false (sym is))

pub file_if : (cuts : Cuts) (path : PathV) (k : Option ItemKind) (blocks : List (List ℕ)) (size : ℕ) (old mid new : Option (List Call)) (result : Result Bool FolderFault)
    → is_file_kind k ≡ true → mid ≡ with_calls old (Looked path k ∷ []) → ComparesIf cuts path blocks size mid new result
    → LooksIf cuts (Some (seen.File blocks size)) path old new result
file_if cuts path k blocks size old mid new (Ok true) is looked same = record {
  look = Looked path (Some kind.File) ∷ same.calls;
  grown =
      grown_more old mid new (Looked path (Some kind.File) ∷ []) same.calls (looked ∙ ap (λ (o : Option ItemKind). with_calls old (Looked path o ∷ [])) (file_kind k is))
      same.grown;
  found = (same.calls, refl, same.same);
}
file_if cuts path k blocks size old mid new (Ok false) is looked glances = glances_then old mid new (glances_one (Looked path k) old mid refl looked) glances
file_if cuts path k blocks size old mid new (Err f) is looked glances = glances_then old mid new (glances_one (Looked path k) old mid refl looked) glances

-- the same of what was seen
pub seen_dir_if : (cuts : Cuts) (path : PathV) (s : Seen) (k : Option ItemKind) (told : Bool) (old new : Option (List Call)) → s ≡ seen.Dir → told ≡ is_dir_kind k
    → new ≡ with_calls old (Looked path k ∷ []) → LooksIf {E = FolderFault} cuts (Some s) path old new (Ok told)
seen_dir_if cuts path s k told old new was is looked =
    subst (λ (t : Seen). LooksIf {E = FolderFault} cuts (Some t) path old new (Ok told)) (sym was) (dir_if cuts path k told old new is looked)

pub seen_other_if : (cuts : Cuts) (path : PathV) (s : Seen) (k : Option ItemKind) (old new : Option (List Call))
    → new ≡ with_calls old (Looked path k ∷ []) → LooksIf {E = FolderFault} cuts (Some s) path old new (Ok false)
seen_other_if cuts path s k old new looked = glances_one (Looked path k) old new refl looked

pub seen_file_if : (cuts : Cuts) (path : PathV) (s : Seen) (k : Option ItemKind) (blocks shown : List (List ℕ)) (size : ℕ) (old mid new : Option (List Call))
    (result : Result Bool FolderFault) → s ≡ seen.File blocks size → shown ≡ blocks → is_file_kind k ≡ true → mid ≡ with_calls old (Looked path k ∷ [])
    → ComparesIf cuts path shown size mid new result → LooksIf cuts (Some s) path old new result
seen_file_if cuts path s k blocks shown size old mid new result was same is looked compares =
    subst (λ (t : Seen). LooksIf cuts (Some t) path old new result) (sym was)
    (subst (λ (ids : List (List ℕ)). LooksIf cuts (Some (seen.File ids size)) path old new result) same (file_if cuts path k shown size old mid new result is looked compares))

pub there_so : (cuts : Cuts) (path : PathV) (blocks : List (List ℕ)) (size : ℕ) (told : Bool) (old new : Option (List Call)) → told ≡ true
    → ReadsIf {E = FolderFault} cuts path blocks size old new (Ok told) → ReadsThere cuts path blocks size old new
there_so cuts path blocks size told old new is reads = subst (λ (b : Bool). ReadsIf {E = FolderFault} cuts path blocks size old new (Ok b)) is reads

pub there_other : (cuts : Cuts) (path : PathV) (blocks : List (List ℕ)) (size : ℕ) (told : Bool) (old new : Option (List Call)) → told ≡ false
    → ReadsIf {E = FolderFault} cuts path blocks size old new (Ok told) → Glances old new
there_other cuts path blocks size told old new is reads = subst (λ (b : Bool). ReadsIf {E = FolderFault} cuts path blocks size old new (Ok b)) is reads

pub looks_so : (cuts : Cuts) (first : Option Seen) (path : PathV) (told : Bool) (old new : Option (List Call)) → told ≡ true
    → LooksIf {E = FolderFault} cuts first path old new (Ok told) → Finds cuts first path old new
looks_so cuts first path told old new is looks = subst (λ (b : Bool). LooksIf {E = FolderFault} cuts first path old new (Ok b)) is looks

pub looks_other : (cuts : Cuts) (first : Option Seen) (path : PathV) (told : Bool) (old new : Option (List Call)) → told ≡ false
    → LooksIf {E = FolderFault} cuts first path old new (Ok told) → Glances old new
looks_other cuts first path told old new is looks = subst (λ (b : Bool). LooksIf {E = FolderFault} cuts first path old new (Ok b)) is looks
